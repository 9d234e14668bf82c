use Rattle.std.proofs.Common.{arith}
use Rattle.layers.specs.Marks.{marked}
use Rattle.layers.proofs.Covering.{marks_none, marks_more, comment_first, comment_next}
use Rattle.layers.proofs.cover.comments_of.Goals as goal

pub loop-place-init : goal.loop-place-init
loop-place-init g c =
    (marks_none (marked c.none-comments.result.words) (g.T.Text.cells c.args.text.now) c.none-comments.ensures, comment_first (g.T.Text.cells c.args.text.now))

pub loop-place-preserved : goal.loop-place-preserved
loop-place-preserved g c =
    (marks_more (marked c.loop-place.comments.words) (marked c.add_if.new.self.words) (g.T.Text.cells c.args.text.now) c.loop-place.place c.loop-place.inside c.loop-place.invariant.0 c.loop-place.invariant.1 (c.add_if.ensures.more (omega (arith, g.T.Text.short c.args.text.now))), comment_next (g.T.Text.cells c.args.text.now) c.loop-place.place c.len-place-end.result c.loop-place.inside c.comment_behind-inside.result c.len-place-end.ensures (omega arith) c.loop-place.invariant.1 c.comment_behind-inside.ensures)
