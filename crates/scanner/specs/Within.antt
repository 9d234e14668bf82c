-- The classes of the code, as the grammar has them.
use Rattle.std.specs.Prelude.{ℕ, Bool}
use Rattle.grammar.specs.Classes.{letter, digit, blank, wordly, naming, featured, numeral, present}
use Rattle.scanner.specs.declared.class.Class.{Class}
use Rattle.scanner.specs.declared.class.Class.TheVariants.{Letter, Digit, Blank, Wordly, Naming, Featured, Numeral, Present}

abbrev pub within : Class → ℕ → Bool
within Letter = letter
within Digit = digit
within Blank = blank
within Wordly = wordly
within Naming = naming
within Featured = featured
within Numeral = numeral
within Present = present
