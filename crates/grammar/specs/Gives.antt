-- How a scanner tells what a rule or a form gives: by its answer and the place that it leaves.
use Rattle.std.specs.Prelude.{◌≡◌, ℕ, Bool, true, false, cond, Some, None, Option}
use Rattle.grammar.specs.Form.{Outcome}

-- where a scanner came to, if it found what it looked for
abbrev pub came : Bool → ℕ → Option ℕ
came true q = Some q
came false q = None

-- true and the rule's end, or false and the place where it was
abbrev pub Gives : Option ℕ → Bool → ℕ → ℕ → Type 0
Gives o r p q = (o ≡ came r q) × (cond r q p ≡ q)

-- true and the rule's end, or false and whatever place
abbrev pub Passes : Option ℕ → Bool → ℕ → Type 0
Passes o r q = o ≡ came r q

-- a value with the place behind it
abbrev pub told : {V : Type 0} → Option V → ℕ → Outcome V
told None q = None
told (Some v) q = Some (v, q)

-- the place that was left, where nothing was found
abbrev pub left : {V : Type 0} → Option V → ℕ → ℕ → ℕ
left None q p = p
left (Some v) q p = q

-- the form's value and its end, or nothing and the place that a failure leaves
abbrev pub GivesValue : {V : Type 0} → Outcome V → Option V → ℕ → ℕ → Type 0
GivesValue o r p q = (o ≡ told r q) × (left r q p ≡ q)
