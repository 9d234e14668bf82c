use Rattle.std.proofs.Common.{◌≡◌, ◌+◌, cond, ◌∙◌, arith, rules}
use Rattle.reader.specs.Utf8.{is_start}
use Rattle.reader.proofs.Feeding.{fed_on}
use Rattle.reader.proofs.utf8.first_ill_formed.Goals as goal

pub loop-here-preserved : goal.loop-here-preserved
loop-here-preserved g c =
    let next : c.if-eq.begun ≡ cond (is_start c.feed.new.self) (c.loop-here.here + 1) c.loop-here.begun = search rules in
    c.loop-here.invariant
    ∙ fed_on (g.T.Text.cells c.args.text.now) c.loop-here.state c.feed.new.self c.loop-here.begun c.loop-here.here c.if-eq.begun c.byte_at.result c.feed.result (omega arith) c.byte_at.ensures c.feed.ensures c.if-is_none.ensures next
