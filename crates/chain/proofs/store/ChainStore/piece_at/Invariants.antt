use Rattle.std.proofs.Common.{◌-◌}
use Rattle.chain.proofs.Gathering.{Halved}
use Rattle.chain.proofs.store.ChainStore.piece_at.Given as goal

abbrev pub invariant-loop-low : goal.invariant-loop-low
invariant-loop-low l = Halved l.pieces l.place l.low l.high

abbrev pub decreases-loop-low : goal.decreases-loop-low
decreases-loop-low l = l.high - l.low
