use Rattle.std.proofs.Common.{sym, rules}
use Rattle.words.specs.Fill.{FilledWords}
use Rattle.words.proofs.Slots.{lent, written}
use Rattle.words.proofs.Filling.{filled}
use Rattle.words.proofs.fill.fill_text.Goals as goal

pub returns : goal.returns
returns g c =
    let cells = g.T.Text.cells c.args.text.now in
    let b = c.walk_through.new.sink in
    let w = c.walk_through.ensures.walked in
    let all = written _ b w.given w.taken in
    let same_queries = sym all.same_queries in
    let same_separators = sym all.same_separators in
    lent (λ q s. FilledWords cells c.args.queries.now q c.args.separators.now s c.in_ok-reader.n) _ b.queries.now _ b.separators.now (search rules) (search rules)
    (filled cells c.in_ok-reader.n c.in_ok-reader.reader c.walk_through.result _ b c.in_ok-reader.ensures w)
