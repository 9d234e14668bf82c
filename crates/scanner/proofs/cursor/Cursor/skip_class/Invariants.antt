use Rattle.std.proofs.Common.{◌-◌, length}
use Rattle.grammar.specs.Rule.{look}
use Rattle.scanner.specs.Within.{within}
use Rattle.scanner.proofs.Runs.{Running}
use Rattle.scanner.proofs.cursor.Cursor.skip_class.Given as goal

abbrev pub invariant-loop-class : goal.invariant-loop-class
invariant-loop-class g l = Running (look (within l.class)) l.initial.self l.self

abbrev pub decreases-loop-class : goal.decreases-loop-class
decreases-loop-class g l = length l.self.text - l.self.place
