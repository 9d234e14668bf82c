-- The unknown run: no operator stands within blanks that begin with none.
use Rattle.std.proofs.Common.{◌≡◌, ℕ, zero, suc, ◌+◌, ◌<◌, Bool, true, false, cond, eqb, List, length, get_or, drop, is_some, Some, None, Option, sym, refl, ap, ◌∙◌, ⊎_elim, arith}
use Rattle.std.proofs.lemmas.Bool.{or_cases, eqb-true}
use Rattle.grammar.specs.Classes.{is, blank, present}
use Rattle.grammar.specs.Rule.{ends, one, look, run, span, next, or_else, without}
use Rattle.grammar.specs.Tokens.{blanks, conjunction, operator, plain, unknown_run}
use Rattle.scanner.proofs.Inside.{inside}
use Rattle.scanner.proofs.Spans.{fits, looks, span_more, span_stop, run_more}
use Rattle.parser.specs.Stride.{stride}

blank_code : (b : ℕ) → blank b ≡ true → (is 44 b ≡ false) × (present b ≡ true)
blank_code b h =
    ⊎_elim
    (λ (e : eqb b 32 ≡ true). let q = eqb-true b 32 e in (ap (is 44) q, ap present q))
    (λ (e : eqb b 9 ≡ true). let q = eqb-true b 9 e in (ap (is 44) q, ap present q))
    (or_cases (eqb b 32) (eqb b 9) h)

-- where blanks end that begin at a place
blanks_end : (t : List ℕ) (p : ℕ) → blank (get_or t p 256) ≡ true → ends blanks t p ≡ Some ((p + 1) + span (fits (look blank)) (drop (p + 1) t))
blanks_end t p h = rw h

blank_inside : (t : List ℕ) (p : ℕ) → blank (get_or t p 256) ≡ true → p < length t
blank_inside t p h = inside blank t p refl h

-- at two blanks one behind the other the operators are the same
operator_next : (t : List ℕ) (p : ℕ) → blank (get_or t p 256) ≡ true → blank (get_or t (p + 1) 256) ≡ true → ends operator t p ≡ ends operator t (p + 1)
operator_next t p h k =
    let one_more : (p + 1) + span (fits (look blank)) (drop (p + 1) t) ≡ ((p + 1) + 1) + span (fits (look blank)) (drop ((p + 1) + 1) t) =
    omega (arith, span_more (fits (look blank)) t (p + 1) (blank_inside t (p + 1) k) (looks blank t (p + 1) ∙ k)) in
    let same : ends blanks t p ≡ ends blanks t (p + 1) = blanks_end t p h ∙ (ap Some one_more ∙ sym (blanks_end t (p + 1) k)) in
    (λ i. or_else (cond ((blank_code (get_or t p 256) h).0 i) (Some (p + 1)) None) (next (same i) (λ e. ends conjunction t e)))
    ∙ sym (λ i. or_else (cond ((blank_code (get_or t (p + 1) 256) k).0 i) (Some ((p + 1) + 1)) None) (next (ends blanks t (p + 1)) (λ e. ends conjunction t e)))

plain_of : (o : Option ℕ) (b : Bool) (p : ℕ) → b ≡ true → is_some (without o (cond b (Some p) None)) ≡ is_some (without o (Some 0))
plain_of None b p h = rw h
plain_of (Some e) b p h = refl

plain_next : (t : List ℕ) (p : ℕ) → blank (get_or t p 256) ≡ true → blank (get_or t (p + 1) 256) ≡ true → is_some (ends plain t p) ≡ true → is_some (ends plain t (p + 1)) ≡ true
plain_next t p h k g =
    plain_of (ends operator t (p + 1)) (present (get_or t (p + 1) 256)) (p + 1) (blank_code (get_or t (p + 1) 256) k).1
    ∙ (ap (λ o. is_some (without o (Some 0))) (sym (operator_next t p h k))
    ∙ (sym (plain_of (ends operator t p) (present (get_or t p 256)) p (blank_code (get_or t p 256) h).1) ∙ g))

-- a stride within the unknown run
pub record Strode (t : List ℕ) (p q : ℕ) : Type 0 where
  pub on : p < q
  pub inside : p < length t
  pub rest : p + span (fits plain) (drop p t) ≡ q + span (fits plain) (drop q t)

-- a blank that is one of a run is followed by the others
blank_here : (t : List ℕ) (p n : ℕ) → span (fits (look blank)) (drop p t) ≡ suc n → blank (get_or t p 256) ≡ true
blank_here t p n h = go (blank (get_or t p 256)) refl
  where
    go : (v : Bool) → blank (get_or t p 256) ≡ v → blank (get_or t p 256) ≡ true
    go true e = e
    go false e = absurd (omega (arith, h, span_stop (fits (look blank)) t p (looks blank t p ∙ e)))

blanks_strode : (n : ℕ) (t : List ℕ) (p : ℕ) → span (fits (look blank)) (drop p t) ≡ suc n → is_some (ends plain t p) ≡ true → p + span (fits plain) (drop p t) ≡ (p + suc n) + span (fits plain) (drop (p + suc n) t)
blanks_strode zero t p h g =
    let b = blank_here t p zero h in
    omega (arith, run_more plain t p (blank_inside t p b) g, ap (λ k. span (fits plain) (drop k t)) (add_one_is p))
  where
    add_one_is : (p : ℕ) → p + suc zero ≡ p + 1
    add_one_is p = refl
blanks_strode (suc n) t p h g =
    let b = blank_here t p (suc n) h in
    let l = blank_inside t p b in
    let k : span (fits (look blank)) (drop (p + 1) t) ≡ suc n = omega (arith, h, span_more (fits (look blank)) t p l (looks blank t p ∙ b)) in
    let i = blanks_strode n t (p + 1) k (plain_next t p b (blank_here t (p + 1) n k) g) in
    let e : (p + 1) + suc n ≡ p + suc (suc n) = omega arith in
    omega (arith, run_more plain t p l g, i, ap (λ k. span (fits plain) (drop k t)) e)

present_inside : (t : List ℕ) (p : ℕ) → is_some (ends plain t p) ≡ true → present (get_or t p 256) ≡ true
present_inside t p g = go (ends operator t p) (present (get_or t p 256)) g
  where
    go : (o : Option ℕ) (b : Bool) → is_some (without o (cond b (Some p) None)) ≡ true → b ≡ true
    go o true h = refl
    go None false h = absurd (let z : ◌≡◌ {A = ℕ} 0 1 = cc in omega arith)
    go (Some e) false h = absurd (let z : ◌≡◌ {A = ℕ} 0 1 = cc in omega arith)

pub plain_inside : (t : List ℕ) (p : ℕ) → is_some (ends plain t p) ≡ true → p < length t
plain_inside t p g = inside present t p refl (present_inside t p g)

pub strode : (t : List ℕ) (p q : ℕ) → is_some (ends plain t p) ≡ true → ends stride t p ≡ Some q → Strode t p q
strode t p q g e = go (blank (get_or t p 256)) refl
  where
    blanks_go : blank (get_or t p 256) ≡ true → Strode t p q
    blanks_go h =
        let n : ℕ = span (fits (look blank)) (drop (p + 1) t) in
        let s : Some ((p + 1) + n) ≡ Some q = sym (ap (λ o. or_else o (or_else (ends (one present) t p) (Some p))) (blanks_end t p h)) ∙ e in
        let r : (p + 1) + n ≡ q = cc in
        let k : span (fits (look blank)) (drop p t) ≡ suc n = span_more (fits (look blank)) t p (blank_inside t p h) (looks blank t p ∙ h) in
        let m : p + suc n ≡ q = omega arith in
        record {
          on = omega arith;
          inside = blank_inside t p h;
          rest = blanks_strode n t p k g ∙ ap (λ x. x + span (fits plain) (drop x t)) m;
        }

    byte_go : blank (get_or t p 256) ≡ false → Strode t p q
    byte_go h =
        let s : Some (p + 1) ≡ Some q = sym (rw (h, present_inside t p g)) ∙ e in
        let r : p + 1 ≡ q = cc in
        record {
          on = omega arith;
          inside = plain_inside t p g;
          rest = let m = run_more plain t p (plain_inside t p g) g in let a : p + span (fits plain) (drop p t) ≡ (p + 1) + span (fits plain) (drop (p + 1) t) = omega arith in a ∙ ap (λ x. x + span (fits plain) (drop x t)) r;
        }

    go : (v : Bool) → blank (get_or t p 256) ≡ v → Strode t p q
    go true h = blanks_go h
    go false h = byte_go h

first_plain : (o : Option ℕ) (b : Bool) (p : ℕ) → is_some (without o (cond b (Some p) None)) ≡ true → without o (cond b (Some (p + 1)) None) ≡ Some (p + 1)
first_plain None true p h = refl
first_plain None false p h = absurd (let z : ◌≡◌ {A = ℕ} 0 1 = cc in omega arith)
first_plain (Some e) b p h = absurd (let z : ◌≡◌ {A = ℕ} 0 1 = cc in omega arith)

first_none : (o : Option ℕ) (b : Bool) (p : ℕ) → is_some (without o (cond b (Some p) None)) ≡ false → without o (cond b (Some (p + 1)) None) ≡ None
first_none None true p h = absurd (let z : ◌≡◌ {A = ℕ} 0 1 = cc in omega arith)
first_none None false p h = refl
first_none (Some e) b p h = refl

-- the run that begins with a plain byte
pub unknown_some : (t : List ℕ) (p q : ℕ) → is_some (ends plain t p) ≡ true → ends (run plain) t p ≡ Some q → ends unknown_run t p ≡ Some q
unknown_some t p q g e =
    let m : (p + 1) + span (fits plain) (drop (p + 1) t) ≡ p + span (fits plain) (drop p t) = omega (arith, run_more plain t p (plain_inside t p g) g) in
    ap (λ o. next o (λ e. ends (run plain) t e)) (first_plain (ends operator t p) (present (get_or t p 256)) p g) ∙ (ap Some m ∙ e)

pub unknown_none : (t : List ℕ) (p : ℕ) → is_some (ends plain t p) ≡ false → ends unknown_run t p ≡ None
unknown_none t p g = ap (λ o. next o (λ e. ends (run plain) t e)) (first_none (ends operator t p) (present (get_or t p 256)) p g)
