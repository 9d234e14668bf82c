use Rattle.std.proofs.Common.{sym, ◌∙◌}
use Rattle.layers.specs.Covers.{shown_by_length}
use Rattle.layers.specs.Marks.{marked}
use Rattle.layers.proofs.cover.CoverText.len.Goals as goal

pub returns : goal.returns
returns g c = c.len.ensures ∙ sym (shown_by_length (marked c.args.self.now.comments.words) 0 (g.T.Text.cells c.args.self.now.inner))
