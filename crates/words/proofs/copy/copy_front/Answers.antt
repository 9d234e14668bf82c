use Rattle.std.proofs.Common.{◌++◌, drop, ap, ◌∙◌}
use Rattle.words.proofs.Copying.{overlay}
use Rattle.words.proofs.copy.copy_front.Goals as goal

pub returns : goal.returns
returns c =
    let out = c.args.out.now in
    let n = c.min-n.result in
    ap (λ l. l ++ drop n out) c.copy_from_slice.ensures.after ∙ overlay out c.args.bytes.now n c.min-n.ensures
