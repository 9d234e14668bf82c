use Rattle.std.proofs.Common.{◌-◌, length}
use Rattle.scanner.proofs.Digits.{Counted}
use Rattle.scanner.proofs.cursor.Cursor.digits.Given as goal

abbrev pub invariant-loop-digit : goal.invariant-loop-digit
invariant-loop-digit g l = Counted g.N.Number.of_value l.initial.self l.self l.n

abbrev pub decreases-loop-digit : goal.decreases-loop-digit
decreases-loop-digit g l = length l.self.text - l.self.place
