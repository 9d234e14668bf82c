use Rattle.std.proofs.Common.{◌-◌, length}
use Rattle.grammar.specs.Tokens.{inner}
use Rattle.scanner.proofs.Runs.{Running}
use Rattle.scanner.proofs.cursor.Cursor.skip_inner.Given as goal

abbrev pub invariant-loop-self : goal.invariant-loop-self
invariant-loop-self g l = Running inner l.initial.self l.self

abbrev pub decreases-loop-self : goal.decreases-loop-self
decreases-loop-self g l = length l.self.text - l.self.place
