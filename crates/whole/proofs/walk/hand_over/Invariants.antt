use Rattle.std.proofs.Common.{◌≡◌, ◌-◌, length}
use Rattle.whole.proofs.Walking.{Sofar}
use Rattle.whole.proofs.walk.hand_over.Given as goal

abbrev pub invariant-loop-query : goal.invariant-loop-query
invariant-loop-query g l = (l.reader.text ≡ l.fn.reader.text) × Sofar g.S.Sink.takes l.fn.reader.codes l.reader l.fn.sink l.sink

abbrev pub decreases-loop-query : goal.decreases-loop-query
decreases-loop-query g l = length l.fn.reader.codes - l.reader.place
