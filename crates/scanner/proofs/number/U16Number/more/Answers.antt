use Rattle.std.proofs.Common.{◌≡◌, ◌+◌, ◌-◌, ◌*◌, ◌%◌, sym, ap, ◌∙◌, arith}
use Rattle.scanner.proofs.Digits.{wrapped_more}
use Rattle.scanner.proofs.number.U16Number.more.Goals as goal

pub returns : goal.returns
returns c v e =
    let d = c.from.result in
    let as_code : d ≡ (d + 48) - 48 = omega arith in
    wrapped_more 65536 v c.args.self d (d + 48) e as_code ∙ ap (λ k. (v * 10 + k) % 65536) (sym as_code ∙ c.from.ensures)
