-- Rules: what may stand at a place of a text, a list of codes. Past the text's end the code is 256.
use Rattle.std.specs.Prelude.{ℕ, suc, ◌+◌, Bool, cond, List, [], ◌∷◌, drop, is_some, Some, None, Option, slice_index_or}

pub data Rule : Type 0 where
  -- nothing
  nothing : Rule
  -- one code of a class
  one : (ℕ → Bool) → Rule
  -- nothing, where the code there is of a class
  look : (ℕ → Bool) → Rule
  -- the longest run of codes at each of which the rule fits; it may be empty
  run : Rule → Rule
  -- the first, then the second
  then : Rule → Rule → Rule
  -- the first that fits
  else : Rule → Rule → Rule
  -- the second, where the first does not fit
  unless : Rule → Rule → Rule

-- how many codes of a text come before the first at which the test fails
abbrev pub span : (List ℕ → Bool) → List ℕ → ℕ
span f [] = 0
span f (b ∷ bs) = cond (f (b ∷ bs)) (suc (span f bs)) 0

-- from where the first ended, the second
abbrev pub next : Option ℕ → (ℕ → Option ℕ) → Option ℕ
next None go = None
next (Some e) go = go e

-- the first end there is
abbrev pub or_else : Option ℕ → Option ℕ → Option ℕ
or_else None o = o
or_else (Some e) o = Some e

-- the second, where there is no first
abbrev pub without : Option ℕ → Option ℕ → Option ℕ
without None o = o
without (Some e) o = None

-- where the rule ends that begins at a place
abbrev pub ends : Rule → List ℕ → ℕ → Option ℕ
ends nothing t p = Some p
ends (one f) t p = cond (f (slice_index_or t p 256)) (Some (p + 1)) None
ends (look f) t p = cond (f (slice_index_or t p 256)) (Some p) None
ends (run r) t p = Some (p + span (λ s. is_some (ends r s 0)) (drop p t))
ends (then r q) t p = next (ends r t p) (λ e. ends q t e)
ends (else r q) t p = or_else (ends r t p) (ends q t p)
ends (unless r q) t p = without (ends r t p) (ends q t p)
