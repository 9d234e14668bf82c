-- The laws of all rules and of all forms.
use Rattle.std.specs.Prelude.{◌≡◌, ℕ, ◌<◌, ◌≤◌, true, ◌↔◌, List, ◌∷◌, ◌++◌, length, Some, None}
use Rattle.grammar.specs.Rule.{Rule, ends}
use Rattle.grammar.specs.Form.{Kind, Value, Form, reads}
use Rattle.grammar.specs.Stands.{Stands, Missing, Says, Silent}
use Rattle.grammar.specs.Tests.{tame, shy, solid, TameForm, ShyForm, SolidForm}

-- two answers of a rule, or of a form, at one place are the same
abbrev pub OneEnd : Type 0
OneEnd = (t : List ℕ) (r : Rule) (p e f : ℕ) → Stands t r p e → Stands t r p f → e ≡ f

abbrev pub OneAnswer : Type 0
OneAnswer = (t : List ℕ) (k : Kind) (x : Form k) (p : ℕ) (v w : Value k) (e f : ℕ) → Says t k x p v e → Says t k x p w f → (v ≡ w) × (e ≡ f)

-- the computation of a rule, or of a form, says what the relation says
abbrev pub StandsComputed : Type 0
StandsComputed = (t : List ℕ) (r : Rule) (p e : ℕ) → Stands t r p e ↔ (ends r t p ≡ Some e)

abbrev pub MissingComputed : Type 0
MissingComputed = (t : List ℕ) (r : Rule) (p : ℕ) → Missing t r p ↔ (ends r t p ≡ None)

abbrev pub SaysComputed : Type 0
SaysComputed = (t : List ℕ) (k : Kind) (x : Form k) (p : ℕ) (v : Value k) (e : ℕ) → Says t k x p v e ↔ (reads x t p ≡ Some (v, e))

abbrev pub SilentComputed : Type 0
SilentComputed = (t : List ℕ) (k : Kind) (x : Form k) (p : ℕ) → Silent t k x p ↔ (reads x t p ≡ None)

-- an answer that takes nothing past the end lies between its start and the end of the text
abbrev pub Within : Type 0
Within = (t : List ℕ) (r : Rule) (p e : ℕ) → tame r ≡ true → p ≤ length t → Stands t r p e → (p ≤ e) × (e ≤ length t)

abbrev pub FormWithin : Type 0
FormWithin = (t : List ℕ) (k : Kind) (x : Form k) (p : ℕ) (v : Value k) (e : ℕ) → TameForm x → p ≤ length t → Says t k x p v e → (p ≤ e) × (e ≤ length t)

-- what stands behind a comma does not matter, nor whether a comma or the end is there
abbrev pub CommaBlind : Type 0
CommaBlind = (r : Rule) → tame r ≡ true → shy r ≡ true → (a b : List ℕ) (p : ℕ) → p ≤ length a → ends r (a ++ 44 ∷ b) p ≡ ends r a p

abbrev pub FormBlind : Type 0
FormBlind = (k : Kind) (x : Form k) → ShyForm x → (a b : List ℕ) (p : ℕ) → p ≤ length a → reads x (a ++ 44 ∷ b) p ≡ reads x a p

-- an answer takes one code at least
abbrev pub Progress : Type 0
Progress = (t : List ℕ) (r : Rule) (p e : ℕ) → solid r ≡ true → Stands t r p e → p < e

abbrev pub FormProgress : Type 0
FormProgress = (t : List ℕ) (k : Kind) (x : Form k) (p : ℕ) (v : Value k) (e : ℕ) → SolidForm x → Says t k x p v e → p < e
