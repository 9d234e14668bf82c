use Rattle.std.proofs.Common.{◌≡◌, Ok, length, sym, ap, ◌∙◌, arith}
use Rattle.reader.specs.Steps.{place_after}
use Rattle.reader.proofs.Stepping.{given_end}
use Rattle.listing.proofs.print_steps.Goals as goal

pub loop-query-smaller : goal.loop-query-smaller
loop-query-smaller g c =
    let r = c.loop-query.reader in
    let q = c.in-Ok-Some.query in
    let given = given_end r.codes r.k r.place q (sym c.in-Ok-Some.ensures.value ∙ ap Ok c.in-Ok-Some.field-0-is) in
    let after : c.step.new.self.place ≡ q.raw.end = c.in-Ok-Some.ensures.after ∙ ap (λ o. place_after (Ok o) r.place) c.in-Ok-Some.field-0-is in
    omega (arith, given.0, given.1, after, ap length c.step.ensures.same)
