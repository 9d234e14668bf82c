use Rattle.std.proofs.Common.{◌≡◌, drop}
use Rattle.grammar.specs.Rule.{ends}
use Rattle.grammar.specs.Tokens.{spelled}
use Rattle.scanner.proofs.cursor.Cursor.eat_each.Given as goal

-- what is left of the word fits from here as the word does from the start
abbrev pub invariant-loop-b : goal.invariant-loop-b
invariant-loop-b g l =
    (l.self.text ≡ l.initial.self.text)
    × (ends (spelled l.bytes) l.initial.self.text l.initial.self.place ≡ ends (spelled (drop l.b-index l.bytes)) l.self.text l.self.place)
