-- The laws of the query and of the separator.
use Rattle.std.specs.Prelude.{◌≡◌, ℕ, ◌+◌, ◌-◌, ◌<◌, ◌≤◌, false, List, ◌∷◌, ◌++◌, length, Some, slice_index_or}
use Rattle.grammar.specs.Classes.{blank}
use Rattle.grammar.specs.Form.{Kind, query, flag, Value, Form, reads}
use Rattle.grammar.specs.Forms.{querying, separating}

-- what the form says lies within the text, and takes one code at least
abbrev pub Fits : (k : Kind) → Form k → Type 0
Fits k x = (t : List ℕ) (p : ℕ) (v : Value k) (e : ℕ) → p ≤ length t → reads x t p ≡ Some (v, e) → (p < e) × (e ≤ length t)

abbrev pub QueryFits : Type 0
QueryFits = Fits query querying

abbrev pub SeparatorFits : Type 0
SeparatorFits = Fits flag separating

-- a comma ends a query as the end of the text does
abbrev pub QueryBlind : Type 0
QueryBlind = (a b : List ℕ) (p : ℕ) → p ≤ length a → reads querying (a ++ 44 ∷ b) p ≡ reads querying a p

-- a comma behind a text that ends with no blank is no part of a separator before it
abbrev pub SeparatorApart : Type 0
SeparatorApart = (a b : List ℕ) (p : ℕ) → p < length a → blank (slice_index_or a (length a - 1) 256) ≡ false → reads separating (a ++ 44 ∷ b) p ≡ reads separating a p

-- at a comma that no blank follows the separator is that comma
abbrev pub SeparatorComma : Type 0
SeparatorComma = (a b : List ℕ) → blank (slice_index_or b 0 256) ≡ false → reads separating (a ++ 44 ∷ b) (length a) ≡ Some (false, length a + 1)
