-- How the search for an operator goes on: over blanks at once, else by one byte.
use Rattle.grammar.specs.Classes.{present}
use Rattle.grammar.specs.Rule.{Rule, one, else}
use Rattle.grammar.specs.Tokens.{maybe, blanks}

abbrev pub stride : Rule
stride = else blanks (maybe (one present))
