use Rattle.std.proofs.Common.{refl}
use Rattle.layers.specs.Marks.{marked}
use Rattle.layers.proofs.Covering.{covering}
use Rattle.layers.proofs.cover.Cover.new.Goals as goal

pub returns : goal.returns
returns g c =
    record {
      below = refl;
      meaning = covering (marked c.comments_of-comments.result.words) (g.T.Text.cells c.args.inner) c.comments_of-comments.ensures;
    }
