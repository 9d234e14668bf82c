-- What a clause sees of a cursor: the codes of its text, and the place in it.
use Rattle.std.specs.Prelude.{◌≡◌, ℕ, Bool, List, is_some, Some, Option, refl, slice_index_or}
use Rattle.std.specs.Coded.{Coded, code_by, coded×, coded_list, coded_ℕ}
use Rattle.grammar.specs.Classes.{digit}
use Rattle.grammar.specs.Decimal.{value}
use Rattle.grammar.specs.Form.{Form, Kind, Value, reads, valued, between}
use Rattle.grammar.specs.Gives.{Gives, Passes, GivesValue}
use Rattle.grammar.specs.Rule.{Rule, ends}
use Rattle.grammar.specs.Tokens.{some}

pub record Position : Type 0 where
  pub text : List ℕ
  pub place : ℕ

-- a position is stored as the pair of its fields
abbrev pub position_code : Coded Position
position_code =
    code_by (List ℕ × ℕ) (coded× (coded_list coded_ℕ) coded_ℕ) (λ p. (p.text, p.place)) (λ p. record { text = p.0; place = p.1 }) (λ _. refl)

-- the code there; past the end of the text 256
abbrev pub here : Position → ℕ
here at = slice_index_or at.text at.place 256

-- true and the rule's end in the same text, or false and where it was
abbrev pub Takes : Rule → Bool → Position → Position → Type 0
Takes r found from to = (to.text ≡ from.text) × Gives (ends r from.text from.place) found from.place to.place

-- the same, but where one misses the place is left wherever it is
abbrev pub Tries : Rule → Bool → Position → Position → Type 0
Tries r found from to = (to.text ≡ from.text) × Passes (ends r from.text from.place) found to.place

-- the end, in the same text, of a rule that fits anywhere
abbrev pub Skips : Rule → Position → Position → Type 0
Skips r from to = (to.text ≡ from.text) × (ends r from.text from.place ≡ Some to.place)

-- the form's value and its end in the same text, or nothing and where it was
abbrev pub Reads : {k : Kind} → Form k → Option (Value k) → Position → Position → Type 0
Reads f found from to = (to.text ≡ from.text) × GivesValue (reads f from.text from.place) found from.place to.place

-- the same, but where nothing is found another place is left
abbrev pub ReadsOr : {k : Kind} → Form k → (List ℕ → ℕ → ℕ) → Option (Value k) → Position → Position → Type 0
ReadsOr f left found from to =
    (to.text ≡ from.text) × GivesValue (reads f from.text from.place) found (left from.text from.place) to.place

-- digits, one at least, as a function of their value, and their end; or nothing and where it was
abbrev pub ReadsDigits : {N : Type 0} → (ℕ → N) → Option N → Position → Position → Type 0
ReadsDigits h found from to =
    (to.text ≡ from.text)
    × GivesValue (valued (λ e. h (value (between from.text from.place e))) (ends (some digit) from.text from.place)) found from.place to.place

-- the value, and the end in the same text, of a form that fits anywhere
abbrev pub Yields : {k : Kind} → Form k → Value k → Position → Position → Type 0
Yields f v from to = (to.text ≡ from.text) × (reads f from.text from.place ≡ Some (v, to.place))

-- whether a rule fits from here on
abbrev pub stands : Rule → Position → Bool
stands r at = is_some (ends r at.text at.place)
