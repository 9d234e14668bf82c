-- What stands before a place does not matter to a form, but that it moves places along.
use Rattle.std.proofs.Common.{◌≡◌, ℕ, ◌+◌, ◌-◌, List, take, drop, Some, None, Option, sym, refl, ap, ◌∙◌, arith}
use Rattle.std.specs.Option.{option_map}
use Rattle.std.proofs.lemmas.List.{drop-drop}
use Rattle.grammar.specs.Rule.{ends}
use Rattle.grammar.specs.Form.{Kind, Form, between, Outcome, spotted, valued, onward, decided, first_of, reads}
use Rattle.grammar.specs.Readings.{carried}
use Rattle.grammar.specs.Along.{along, span_along, Moves, moves_give, moves_fail, moves_spot, moves_read, moves_bind, moves_when, moves_first}
use Rattle.grammar.proofs.Shift.{shift}

between_shift : (t : List ℕ) (n p e : ℕ) → between t (n + p) (n + e) ≡ between (drop n t) p e
between_shift t n p e =
    let k : (n + e) - (n + p) ≡ e - p = omega arith in
    λ i. take (k i) (sym (drop-drop p n t) i)

carried_spot : (n p : ℕ) (o : Option ℕ) → spotted (n + p) (option_map (λ e. n + e) o) ≡ carried (span_along n) n (spotted p o)
carried_spot n p None = refl
carried_spot n p (Some e) = refl

carried_value : {V : Type 0} (h : V → V) (n : ℕ) (f g : ℕ → V) → ((e : ℕ) → f (n + e) ≡ h (g e)) → (o : Option ℕ) → valued f (option_map (λ e. n + e) o) ≡ carried h n (valued g o)
carried_value h n f g k None = refl
carried_value h n f g k (Some e) = λ i. Some (k e i, n + e)

carried_onward : {A B : Type 0} (h : A → A) (k : B → B) (n : ℕ) (f g : A → ℕ → Outcome B) → ((v : A) (e : ℕ) → f (h v) (n + e) ≡ carried k n (g v e)) → (o : Outcome A) → onward (carried h n o) f ≡ carried k n (onward o g)
carried_onward h k n f g i None = refl
carried_onward h k n f g i (Some x) = i x.0 x.1

carried_decided : {V : Type 0} (h : V → V) (n : ℕ) (f g : ℕ → Outcome V) (u w : Outcome V) → ((e : ℕ) → f (n + e) ≡ carried h n (g e)) → u ≡ carried h n w → (o : Option ℕ) → decided (option_map (λ e. n + e) o) f u ≡ carried h n (decided o g w)
carried_decided h n f g u w i k None = k
carried_decided h n f g u w i k (Some e) = i e

carried_first : {V : Type 0} (h : V → V) (n : ℕ) (o u : Outcome V) → first_of (carried h n o) (carried h n u) ≡ carried h n (first_of o u)
carried_first h n None u = refl
carried_first h n (Some x) u = refl

pub form_shift : {n : ℕ} {k : Kind} {x y : Form k} → Moves n k x y → (t : List ℕ) (p : ℕ) → reads y t (n + p) ≡ carried (along k n) n (reads x (drop n t) p)
form_shift {n} (moves_give e) t p = λ i. Some (sym e i, n + p)
form_shift moves_fail t p = refl
form_shift {n} (moves_spot {r = r}) t p = ap (spotted (n + p)) (shift r t n p) ∙ carried_spot n p (ends r (drop n t) p)
form_shift {n} (moves_read {k = k} {r = r} {f = f} h) t p =
    ap (valued (λ e. f (between t (n + p) e))) (shift r t n p)
    ∙ carried_value (along k n) n (λ e. f (between t (n + p) e)) (λ e. f (between (drop n t) p e)) (λ e. ap f (between_shift t n p e) ∙ sym (h (between (drop n t) p e))) (ends r (drop n t) p)
form_shift {n} (moves_bind {j = j} {k = k} {f = f} {x = x} {g = g} {y = y} a b) t p =
    ap (λ o. onward o (λ v e. reads (y v) t e)) (form_shift a t p)
    ∙ carried_onward (along j n) (along k n) n (λ v e. reads (y v) t e) (λ v e. reads (g v) (drop n t) e) (λ v e. form_shift (b v) t e) (reads f (drop n t) p)
form_shift {n} (moves_when {k = k} {r = r} {f = f} {g = g} {x = x} {y = y} a b) t p =
    ap (λ o. decided o (λ e. reads x t e) (reads y t (n + p))) (shift r t n p)
    ∙ carried_decided (along k n) n (λ e. reads x t e) (λ e. reads f (drop n t) e) (reads y t (n + p)) (reads g (drop n t) p) (λ e. form_shift a t e) (form_shift b t p) (ends r (drop n t) p)
form_shift {n} (moves_first {k = k} {f = f} {g = g} a b) t p =
    (λ i. first_of (form_shift a t p i) (form_shift b t p i)) ∙ carried_first (along k n) n (reads f (drop n t) p) (reads g (drop n t) p)
