use Rattle.std.proofs.Common.{ap, ◌∙◌}
use Rattle.texts.specs.Codes.{byte_code}
use Rattle.texts.proofs.Coding.{answer_code, code_of_answer, code_of_byte}
use Rattle.texts.proofs.code.byte_at.Goals as goal
use Rattle.std.specs.Option.{option_flatten}

pub returns : goal.returns
returns g c =
    ap byte_code c.flatten.ensures
    ∙ (ap (λ o. byte_code (option_flatten o)) c.ok.ensures.value
    ∙ (code_of_byte c.cell.result
    ∙ (ap answer_code c.cell.ensures
    ∙ code_of_answer (g.T.Text.cells c.args.text.now) c.args.place)))
