use Rattle.std.proofs.Common.{◌-◌, length}
use Rattle.grammar.specs.Tokens.{plain}
use Rattle.scanner.proofs.Runs.{Running}
use Rattle.parser.proofs.unknown.skip_plain.Given as goal

abbrev pub invariant-loop-cursor : goal.invariant-loop-cursor
invariant-loop-cursor g l = Running plain l.initial.cursor l.cursor

abbrev pub decreases-loop-cursor : goal.decreases-loop-cursor
decreases-loop-cursor g l = length l.cursor.text - l.cursor.place
