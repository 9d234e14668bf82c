-- Classes of codes. Letters and digits are ASCII; 256, which stands for no byte, is in none.
use Rattle.std.specs.Prelude.{ℕ, ◌+◌, Bool, cond, ◌&&◌, ◌||◌, ◌==◌, nat_le}

-- a capital letter as its small one, any other code as itself
abbrev pub lower : ℕ → ℕ
lower b = cond (nat_le 65 b && nat_le b 90) (b + 32) b

-- this byte
abbrev pub is : ℕ → ℕ → Bool
is c b = b == c

-- this byte, a letter in either case
abbrev pub folds : ℕ → ℕ → Bool
folds c b = lower b == c

abbrev pub letter : ℕ → Bool
letter b = nat_le 97 (lower b) && nat_le (lower b) 122

abbrev pub digit : ℕ → Bool
digit b = nat_le 48 b && nat_le b 57

-- a space or a tab
abbrev pub blank : ℕ → Bool
blank b = b == 32 || b == 9

-- what goes on a word: a letter, a digit or `_`
abbrev pub wordly : ℕ → Bool
wordly b = (letter b || digit b) || b == 95

-- in a name: a letter or `_`
abbrev pub naming : ℕ → Bool
naming b = letter b || b == 95

-- in a feature: a letter, a digit or `-`
abbrev pub featured : ℕ → Bool
featured b = (letter b || digit b) || b == 45

-- in a version: a digit or a point
abbrev pub numeral : ℕ → Bool
numeral b = digit b || b == 46

-- a byte of whatever kind
abbrev pub present : ℕ → Bool
present b = nat_le b 255
