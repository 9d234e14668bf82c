-- A run, code by code.
use Rattle.std.proofs.Common.{◌≡◌, ℕ, suc, ◌+◌, ◌<◌, ◌≤◌, Bool, true, false, cond, List, [], ◌∷◌, length, get_or, drop, is_some, Some, None, sym, refl, ap, ◌∙◌, ⊎_elim, add-zero, arith}
use Rattle.std.proofs.lemmas.Bool.{cases_lt, cond-true, cond-false}
use Rattle.std.proofs.lemmas.List.{get_or-drop, drop_more, drop_all}
use Rattle.grammar.specs.Gives.{Gives}
use Rattle.grammar.proofs.Shift.{fits_at}
use Rattle.grammar.specs.Rule.{Rule, ends, one, look, span}

-- the test of a run
abbrev pub fits : Rule → List ℕ → Bool
fits r s = is_some (ends r s 0)

pub span_more : (f : List ℕ → Bool) (t : List ℕ) (p : ℕ) → p < length t → f (drop p t) ≡ true → span f (drop p t) ≡ suc (span f (drop (p + 1) t))
span_more f t p l h =
    let e = drop_more t p 256 l in
    ap (span f) e ∙ cond-true _ _ _ (ap f (sym e) ∙ h)

pub span_stop : (f : List ℕ → Bool) (t : List ℕ) (p : ℕ) → f (drop p t) ≡ false → span f (drop p t) ≡ 0
span_stop f t p h =
    ⊎_elim
    (λ l. let e = drop_more t p 256 l in ap (span f) e ∙ cond-false _ _ _ (ap f (sym e) ∙ h))
    (λ l. ap (span f) (drop_all p t l))
    (cases_lt p (length t))

pub span_within : (f : List ℕ → Bool) (s : List ℕ) → span f s ≤ length s
span_within f [] = omega arith
span_within f (b ∷ bs) = let h = span_within f bs in elim (f (b ∷ bs)) as (λ v. cond v (suc (span f bs)) 0 ≤ suc (length bs)) [ true ↦ omega arith | false ↦ omega arith ]

pub some_cond : (b : Bool) (n : ℕ) → is_some (cond b (Some n) None) ≡ b
some_cond true n = refl
some_cond false n = refl

-- a class as the test of a run
pub looks : (f : ℕ → Bool) (t : List ℕ) (p : ℕ) → fits (look f) (drop p t) ≡ f (get_or t p 256)
looks f t p = some_cond (f (get_or (drop p t) 0 256)) 0 ∙ ap f (get_or-drop p t 0 256 ∙ ap (λ i. get_or t i 256) (add-zero p))

-- one code more of a run
pub run_more : (r : Rule) (t : List ℕ) (p : ℕ) → p < length t → is_some (ends r t p) ≡ true → span (fits r) (drop p t) ≡ suc (span (fits r) (drop (p + 1) t))
run_more r t p l h = span_more (fits r) t p l (fits_at r t p ∙ h)

pub run_stop : (r : Rule) (t : List ℕ) (p : ℕ) → is_some (ends r t p) ≡ false → span (fits r) (drop p t) ≡ 0
run_stop r t p h = span_stop (fits r) t p (fits_at r t p ∙ h)

-- one code of a class was taken
pub record Taken (f : ℕ → Bool) (t : List ℕ) (p q : ℕ) : Type 0 where
  pub here : f (get_or t p 256) ≡ true
  pub on : q ≡ p + 1

pub taken : (f : ℕ → Bool) (t : List ℕ) (p q : ℕ) → Gives (ends (one f) t p) true p q → Taken f t p q
taken f t p q h = go (f (get_or t p 256)) refl h.0
  where
    go : (v : Bool) → f (get_or t p 256) ≡ v → cond v (Some (p + 1)) None ≡ Some q → Taken f t p q
    go true e h = record { here = e; on = cc }
    go false e h = absurd (let z : ◌≡◌ {A = ℕ} 0 1 = cc in omega arith)

pub untaken : (f : ℕ → Bool) (t : List ℕ) (p q : ℕ) → Gives (ends (one f) t p) false p q → f (get_or t p 256) ≡ false
untaken f t p q h = go (f (get_or t p 256)) refl h.0
  where
    go : (v : Bool) → f (get_or t p 256) ≡ v → cond v (Some (p + 1)) None ≡ None → f (get_or t p 256) ≡ false
    go true e h = absurd (let z : ◌≡◌ {A = ℕ} 0 1 = cc in omega arith)
    go false e h = e
