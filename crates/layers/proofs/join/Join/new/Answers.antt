use Rattle.std.proofs.Common.{refl}
use Rattle.layers.proofs.Joining.{joining}
use Rattle.layers.proofs.join.Join.new.Goals as goal

pub returns : goal.returns
returns g c = record { first = refl; second = refl; meaning = joining (g.X.Text.cells c.args.first) (g.Y.Text.cells c.args.second) }
