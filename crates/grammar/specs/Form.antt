-- Forms: rules one after another, whose parts make a value.
use Rattle.std.specs.Prelude.{ℕ, ◌-◌, Bool, true, false, List, take, drop, ℤ, Some, None, Option}
use Rattle.grammar.specs.declared.query.Span.{Span}
use Rattle.grammar.specs.declared.query.Comparator.{Comparator}
use Rattle.grammar.specs.declared.query.VersionRange.{VersionRange}
use Rattle.grammar.specs.declared.query.Stats.{Stats}
use Rattle.grammar.specs.declared.query.BaselineKind.{BaselineKind}
use Rattle.grammar.specs.declared.query.QueryAtom.{QueryAtom}
use Rattle.grammar.specs.Rule.{Rule, ends}

-- what a form may give
pub data Kind : Type 0 where
  part : Kind
  flag : Kind
  number : Kind
  year : Kind
  option : Kind → Kind
  date : Kind
  comparator : Kind
  range : Kind
  stats : Kind
  baseline : Kind
  atom : Kind
  query : Kind

abbrev pub Value : Kind → Type 0
Value part = Span
Value flag = Bool
Value number = ℕ
Value year = ℤ
Value (option k) = Option (Value k)
Value date = ℤ × ℕ × ℕ
Value comparator = Comparator
Value range = VersionRange
Value stats = Stats
Value baseline = BaselineKind
Value atom = QueryAtom
-- whether it is negated, and what it says
Value query = Bool × QueryAtom

-- the bytes from a place up to another
abbrev pub between : List ℕ → ℕ → ℕ → List ℕ
between t p e = take (e - p) (drop p t)

pub data Form : Kind → Type 0 where
  -- this value
  give : {k : Kind} → Value k → Form k
  -- never
  fail : {k : Kind} → Form k
  -- the rule, told by its two places
  spot : Rule → Form part
  -- the rule, and what its bytes say
  read : {k : Kind} → Rule → (List ℕ → Value k) → Form k
  -- the first, and what its value makes of the rest
  bind : {j k : Kind} → Form j → (Value j → Form k) → Form k
  -- where the rule fits the first, from its end; else the second
  when : {k : Kind} → Rule → Form k → Form k → Form k
  -- the first that fits
  first : {k : Kind} → Form k → Form k → Form k

-- what a form gives: a value, and where it ends
abbrev pub Outcome : Type 0 → Type 0
Outcome V = Option (V × ℕ)

abbrev pub spotted : ℕ → Option ℕ → Outcome Span
spotted p None = None
spotted p (Some e) = Some (record { start = p; end = e }, e)

abbrev pub valued : {V : Type 0} → (ℕ → V) → Option ℕ → Outcome V
valued f None = None
valued f (Some e) = Some (f e, e)

abbrev pub onward : {A B : Type 0} → Outcome A → (A → ℕ → Outcome B) → Outcome B
onward None go = None
onward (Some x) go = go x.0 x.1

abbrev pub decided : {V : Type 0} → Option ℕ → (ℕ → Outcome V) → Outcome V → Outcome V
decided None go other = other
decided (Some e) go other = go e

abbrev pub first_of : {V : Type 0} → Outcome V → Outcome V → Outcome V
first_of None o = o
first_of (Some x) o = Some x

abbrev pub reads : {k : Kind} → Form k → List ℕ → ℕ → Outcome (Value k)
reads (give v) t p = Some (v, p)
reads fail t p = None
reads (spot r) t p = spotted p (ends r t p)
reads (read r f) t p = valued (λ e. f (between t p e)) (ends r t p)
reads (bind f g) t p = onward (reads f t p) (λ v e. reads (g v) t e)
reads (when r f g) t p = decided (ends r t p) (λ e. reads f t e) (reads g t p)
reads (first f g) t p = first_of (reads f t p) (reads g t p)

-- the rule, then the form
abbrev pub skip : {k : Kind} → Rule → Form k → Form k
skip r f = when r f fail

-- the form's value, if it fits
abbrev pub optional : {k : Kind} → Form k → Form (option k)
optional f = first (bind f (λ v. give (Some v))) (give None)

-- whether the rule fits
abbrev pub whether : Rule → Form flag
whether r = when r (give true) (give false)
