use Rattle.std.proofs.Common.{sym, refl, subst, MatchResult}
use Rattle.reader.specs.Start.{start_refusal}
use Rattle.whole.specs.Whole.{Counts, Barred}
use Rattle.whole.proofs.Filling.{counted}
use Rattle.whole.proofs.whole.count_queries.Goals as goal

pub returns : goal.returns
returns g c =
    let cells = g.T.Text.cells c.args.text.now in
    subst (λ r. MatchResult r (Counts cells) (Barred cells)) (sym c.answer.ensures) (counted _ cells c.walk_text.result _ _ (start_refusal cells) refl c.walk_text.ensures)
