-- A run of digits, digit by digit, with a number that is some function h of the value so far.
use Rattle.std.proofs.Common.{◌≡◌, ℕ, ◌+◌, ◌-◌, ◌*◌, ◌/◌, ◌%◌, ◌<◌, ◌≤◌, Bool, true, false, cond, leb, List, [], length, get_or, take, drop, is_some, Some, None, Option, sym, refl, ap, ◌∙◌, mul_assoc, zero-add, arith, length-drop}
use native.Mathlib.Nat.{sub_self, mod-add-mod, add-mul-mod_self_left, div-add-mod}
use Rattle.std.proofs.lemmas.List.{get_or-drop}
use Rattle.std.proofs.lemmas.List.Sums.{fold_more}
use Rattle.std.proofs.lemmas.Bool.{and_parts, leb-true}
use Rattle.grammar.specs.Classes.{digit}
use Rattle.grammar.specs.Decimal.{more, value}
use Rattle.grammar.specs.Form.{between, valued}
use Rattle.grammar.specs.Gives.{GivesValue}
use Rattle.grammar.specs.Rule.{ends, one, look, span, next}
use Rattle.grammar.specs.Tokens.{any, some}
use Rattle.scanner.specs.Position.{Position, Skips}
use Rattle.scanner.proofs.Inside.{inside}
use Rattle.scanner.proofs.Runs.{Running, begun, run_step, run_ended}
use Rattle.scanner.proofs.Spans.{fits, span_within}

pub between_none : (t : List ℕ) (s : ℕ) → between t s s ≡ []
between_none t s = ap (λ n. take n (drop s t)) (sub_self s)

-- the value of one digit more
pub value_more : (t : List ℕ) (s p : ℕ) → s ≤ p → p < length t → value (between t s (p + 1)) ≡ more (value (between t s p)) (get_or t p 256)
value_more t s p h l =
    let i : p - s < length (drop s t) = omega (arith, length-drop s t) in
    let e : (p + 1) - s ≡ (p - s) + 1 = omega arith in
    let q : s + (p - s) ≡ p = omega arith in
    ap (λ n. value (take n (drop s t))) e
    ∙ (fold_more more 0 (drop s t) (p - s) 256 i
    ∙ ap (more (value (between t s p))) (get_or-drop s t (p - s) 256 ∙ ap (λ k. get_or t k 256) q))

-- a run of digits up to where the cursor stands, and what a type makes of their value
pub record Counted {N : Type 0} (h : ℕ → N) (from at : Position) (n : N) : Type 0 where
  pub running : Running (look digit) from at
  pub forward : from.place ≤ at.place
  pub sofar : n ≡ h (value (between from.text from.place at.place))

pub counted_none : {N : Type 0} (h : ℕ → N) (p : Position) (n : N) → n ≡ h 0 → Counted h p p n
counted_none h p n z = record { running = begun (look digit) p; forward = omega arith; sofar = z ∙ sym (ap (λ l. h (value l)) (between_none p.text p.place)) }

pub digit_inside : (t : List ℕ) (p : ℕ) → digit (get_or t p 256) ≡ true → p < length t
digit_inside t p d = inside digit t p refl d

-- one digit, and what it says
pub one_value : (t : List ℕ) (p : ℕ) → digit (get_or t p 256) ≡ true → value (between t p (p + 1)) ≡ get_or t p 256 - 48
one_value t p d =
    value_more t p p (omega arith) (digit_inside t p d) ∙ (ap (λ l. more (value l) (get_or t p 256)) (between_none t p) ∙ zero-add (get_or t p 256 - 48))

-- one digit was read
pub record Digit (t : List ℕ) (p d q : ℕ) : Type 0 where
  pub here : digit (get_or t p 256) ≡ true
  pub on : q ≡ p + 1
  pub is : d ≡ get_or t p 256 - 48

pub digit_read : (t : List ℕ) (p d q : ℕ) → valued (λ e. value (between t p e)) (ends (one digit) t p) ≡ Some (d, q) → Digit t p d q
digit_read t p d q h = go (digit (get_or t p 256)) refl h
  where
    go : (v : Bool) → digit (get_or t p 256) ≡ v → valued (λ e. value (between t p e)) (cond v (Some (p + 1)) None) ≡ Some (d, q) → Digit t p d q
    go true e h =
        let k : ◌≡◌ {A = ℕ × ℕ} (value (between t p (p + 1)), p + 1) (d, q) = cc in
        record { here = e; on = sym (ap (λ x. x.1) k); is = sym (ap (λ x. x.0) k) ∙ one_value t p e }
    go false e h = absurd (let z : ◌≡◌ {A = ℕ} 0 1 = cc in omega arith)

pub digit_missed : (t : List ℕ) (p : ℕ) → valued (λ e. value (between t p e)) (ends (one digit) t p) ≡ None → digit (get_or t p 256) ≡ false
digit_missed t p h = go (digit (get_or t p 256)) refl h
  where
    go : (v : Bool) → digit (get_or t p 256) ≡ v → valued (λ e. value (between t p e)) (cond v (Some (p + 1)) None) ≡ None → digit (get_or t p 256) ≡ false
    go true e h = absurd (let z : ◌≡◌ {A = ℕ} 0 1 = cc in omega arith)
    go false e h = e

pub counted_more : {N : Type 0} (h : ℕ → N) (from at to : Position) (n m : N) (d : ℕ) → Counted h from at n → to.text ≡ at.text → Digit at.text at.place d to.place → ((v : ℕ) → n ≡ h v → m ≡ h (v * 10 + d)) → Counted h from to m
counted_more h from at to n m d c t k e =
    let l = digit_inside at.text at.place k.here in
    let v = value (between from.text from.place at.place) in
    let same = ap (λ s. value (between s from.place (at.place + 1))) (sym c.running.text) in
    let more_is : v * 10 + d ≡ value (between from.text from.place to.place) =
    ap (λ x. v * 10 + x) k.is
    ∙ (ap (λ s. value (between s from.place at.place) * 10 + (get_or at.text at.place 256 - 48)) (sym c.running.text)
    ∙ (sym (value_more at.text from.place at.place c.forward l)
    ∙ (sym same ∙ ap (λ q. value (between from.text from.place q)) (sym k.on)))) in
    record {
      running = run_step (look digit) from at to c.running l (look_is at.text at.place k.here) t k.on;
      forward = omega (arith, c.forward, k.on);
      sofar = e v c.sofar ∙ ap h more_is;
    }
  where
    look_is : (t : List ℕ) (p : ℕ) → digit (get_or t p 256) ≡ true → is_some (ends (look digit) t p) ≡ true
    look_is t p h = rw h refl

-- the run ends where no digit stands
pub counted_done : {N : Type 0} (h : ℕ → N) (from at to : Position) (n : N) → Counted h from at n → to.text ≡ at.text → to.place ≡ at.place → digit (get_or at.text at.place 256) ≡ false → Skips (any digit) from to × (n ≡ h (value (between from.text from.place to.place)))
counted_done h from at to n c t q d =
    let end = run_ended (look digit) from at c.running (rw d refl) in
    ((t ∙ end.0, end.1 ∙ ap Some (sym q)), c.sofar ∙ ap (λ p. h (value (between from.text from.place p))) (sym q))

-- taking the remainder before or after a digit is added is the same, at any modulus
mod_digit : (M v d : ℕ) → ((v % M) * 10 + d) % M ≡ (v * 10 + d) % M
mod_digit M v d =
    let q : M * (v / M) + v % M ≡ v = div-add-mod v M in
    let e : v * 10 + d ≡ ((v % M) * 10 + d) + M * ((v / M) * 10) =
    let f : M * ((v / M) * 10) ≡ (M * (v / M)) * 10 = sym (mul_assoc M (v / M) 10) in omega arith in
    sym (ap (λ n. n % M) e ∙ add-mul-mod_self_left ((v % M) * 10 + d) M ((v / M) * 10))

-- a digit more in wrapping arithmetic, at any modulus
pub wrapped_digit : (M v n d : ℕ) → n ≡ v % M → ((n * 10) % M + d) % M ≡ (v * 10 + d) % M
wrapped_digit M v n d e = mod-add-mod (n * 10) M d ∙ (ap (λ k. (k * 10 + d) % M) e ∙ mod_digit M v d)

-- the same of a digit's code
pub wrapped_more : (M v n d b : ℕ) → n ≡ v % M → d ≡ b - 48 → ((n * 10) % M + d) % M ≡ more v b % M
wrapped_more M v n d b e f = wrapped_digit M v n d e ∙ ap (λ k. (v * 10 + k) % M) f

-- what digits were read as
pub digits_are : {N : Type 0} (h : ℕ → N) (o : Option ℕ) (v : ℕ → ℕ) (n : N) (q : ℕ) → valued (λ e. h (v e)) o ≡ Some (n, q) → (o ≡ Some q) × (n ≡ h (v q))
digits_are h None v n q e = absurd (let z : ◌≡◌ {A = ℕ} 0 1 = cc in omega arith)
digits_are h (Some x) v n q e =
    let k : ◌≡◌ {A = _ × ℕ} (h (v x), x) (n, q) = cc in
    let m = ap (λ y. y.1) k in
    (ap Some m, sym (ap (λ y. y.0) k) ∙ ap (λ y. h (v y)) m)

-- digits read as something else
pub digits_as : {V : Type 0} (k : ℕ → V) (o : Option ℕ) (p q : ℕ) (v : V) → o ≡ Some q → v ≡ k q → GivesValue (valued k o) (Some v) p q
digits_as k o p q v e f = (ap (valued k) e ∙ ap (λ w. Some (w, q)) (sym f), refl)

pub digit_small : (b : ℕ) → digit b ≡ true → b - 48 < 10
digit_small b d = let e = and_parts (leb 48 b) (leb b 57) d in omega (arith, leb-true b 57 e.1)

-- digits end within the text
pub some_within : (t : List ℕ) (p q : ℕ) → ends (some digit) t p ≡ Some q → q ≤ length t
some_within t p q e = go (digit (get_or t p 256)) refl e
  where
    go : (v : Bool) → digit (get_or t p 256) ≡ v → next (cond v (Some (p + 1)) None) (λ e. ends (any digit) t e) ≡ Some q → q ≤ length t
    go true d h =
        let l = digit_inside t p d in
        let s : (p + 1) + span (fits (look digit)) (drop (p + 1) t) ≡ q = cc in
        omega (arith, span_within (fits (look digit)) (drop (p + 1) t), length-drop (p + 1) t)
    go false d h = absurd (let z : ◌≡◌ {A = ℕ} 0 1 = cc in omega arith)
