-- Where answers end: within the text, and past their start.
use Rattle.std.proofs.Common.{◌≡◌, ℕ, ◌<◌, ◌≤◌, Bool, true, false, not, List, length, get_or, sym, refl, ap, ◌∙◌, ⊎_elim, arith}
use Rattle.std.proofs.lemmas.Bool.{cases_lt, both_ways, and_parts, or_cases, not-true}
use Rattle.std.proofs.lemmas.List.{get_or_past}
use Rattle.grammar.specs.Rule.{Rule}
use Rattle.grammar.specs.Form.{Kind, Value, Form}
use Rattle.grammar.specs.Stands.{Stands, stands_nothing, stands_one, stands_look, stands_run, stands_then, stands_first, stands_second, stands_unless, Longest, longest_end, longest_stop, longest_on, Says, says_give, says_spot, says_read, says_bind, says_when, says_otherwise, says_first, says_second}
use Rattle.grammar.specs.Tests.{tame, solid, TameForm, SolidForm}

-- a code of a class that lacks 256 stands in the text
pub inside : (f : ℕ → Bool) (t : List ℕ) (p : ℕ) → not (f 256) ≡ true → f (get_or t p 256) ≡ true → p < length t
inside f t p s h = ⊎_elim (λ a. a) (λ a. absurd (both_ways (f 256) (not-true (f 256) s) (sym (ap f (get_or_past t p 256 a)) ∙ h))) (cases_lt p (length t))

longest_within : {t : List ℕ} {r : Rule} {p e : ℕ} → Longest t r p e → p ≤ length t → (p ≤ e) × (e ≤ length t)
longest_within (longest_end h) l = (omega arith, l)
longest_within (longest_stop h m) l = (omega arith, l)
longest_within (longest_on h a k) l = let x = longest_within k (omega arith) in (omega arith, x.1)

longest_forward : {t : List ℕ} {r : Rule} {p e : ℕ} → Longest t r p e → p ≤ e
longest_forward (longest_end h) = omega arith
longest_forward (longest_stop h m) = omega arith
longest_forward (longest_on h a k) = let x = longest_forward k in omega arith

pub stands_within : {t : List ℕ} {r : Rule} {p e : ℕ} → Stands t r p e → tame r ≡ true → p ≤ length t → (p ≤ e) × (e ≤ length t)
stands_within stands_nothing s l = (omega arith, l)
stands_within {t} (stands_one {f = f} {p = p} h) s l = let i = inside f t p s h in (omega arith, omega arith)
stands_within (stands_look h) s l = (omega arith, l)
stands_within (stands_run k) s l = longest_within k l
stands_within (stands_then {r = r} {q = q} a b) s l =
    let c = and_parts (tame r) (tame q) s in
    let x = stands_within a c.0 l in
    let y = stands_within b c.1 x.1 in
    (omega arith, y.1)
stands_within (stands_first {r = r} {q = q} a) s l = stands_within a (and_parts (tame r) (tame q) s).0 l
stands_within (stands_second {r = r} {q = q} m a) s l = stands_within a (and_parts (tame r) (tame q) s).1 l
stands_within (stands_unless {r = r} {q = q} m a) s l = stands_within a (and_parts (tame r) (tame q) s).1 l

pub stands_forward : {t : List ℕ} {r : Rule} {p e : ℕ} → Stands t r p e → p ≤ e
stands_forward stands_nothing = omega arith
stands_forward (stands_one h) = omega arith
stands_forward (stands_look h) = omega arith
stands_forward (stands_run k) = longest_forward k
stands_forward (stands_then a b) = let x = stands_forward a in let y = stands_forward b in omega arith
stands_forward (stands_first a) = stands_forward a
stands_forward (stands_second m a) = stands_forward a
stands_forward (stands_unless m a) = stands_forward a

pub stands_progress : {t : List ℕ} {r : Rule} {p e : ℕ} → Stands t r p e → solid r ≡ true → p < e
stands_progress stands_nothing s = absurd (both_ways false refl s)
stands_progress (stands_one h) s = omega arith
stands_progress (stands_look h) s = absurd (both_ways false refl s)
stands_progress (stands_run k) s = absurd (both_ways false refl s)
stands_progress (stands_then {r = r} {q = q} a b) s =
    let x = stands_forward a in
    let y = stands_forward b in
    ⊎_elim (λ c. omega (arith, stands_progress a c)) (λ c. omega (arith, stands_progress b c)) (or_cases (solid r) (solid q) s)
stands_progress (stands_first {r = r} {q = q} a) s = stands_progress a (and_parts (solid r) (solid q) s).0
stands_progress (stands_second {r = r} {q = q} m a) s = stands_progress a (and_parts (solid r) (solid q) s).1
stands_progress (stands_unless m a) s = stands_progress a s

pub says_within : {t : List ℕ} {k : Kind} {x : Form k} {p : ℕ} {v : Value k} {e : ℕ} → Says t k x p v e → TameForm x → p ≤ length t → (p ≤ e) × (e ≤ length t)
says_within says_give s l = (omega arith, l)
says_within (says_spot a) s l = stands_within a s l
says_within (says_read a) s l = stands_within a s l
says_within (says_bind {v = v} a b) s l =
    let x = says_within a s.0 l in
    let y = says_within b (s.1 v) x.1 in
    (omega arith, y.1)
says_within (says_when a b) s l =
    let x = stands_within a s.0 l in
    let y = says_within b s.1 x.1 in
    (omega arith, y.1)
says_within (says_otherwise m a) s l = says_within a s.2 l
says_within (says_first a) s l = says_within a s.0 l
says_within (says_second m a) s l = says_within a s.1 l

pub says_forward : {t : List ℕ} {k : Kind} {x : Form k} {p : ℕ} {v : Value k} {e : ℕ} → Says t k x p v e → p ≤ e
says_forward says_give = omega arith
says_forward (says_spot a) = stands_forward a
says_forward (says_read a) = stands_forward a
says_forward (says_bind a b) = let x = says_forward a in let y = says_forward b in omega arith
says_forward (says_when a b) = let x = stands_forward a in let y = says_forward b in omega arith
says_forward (says_otherwise m a) = says_forward a
says_forward (says_first a) = says_forward a
says_forward (says_second m a) = says_forward a

pub says_progress : {t : List ℕ} {k : Kind} {x : Form k} {p : ℕ} {v : Value k} {e : ℕ} → Says t k x p v e → SolidForm x → p < e
says_progress says_give s = absurd s
says_progress (says_spot a) s = stands_progress a s
says_progress (says_read a) s = stands_progress a s
says_progress (says_bind {v = v} a b) s =
    let x = says_forward a in
    let y = says_forward b in
    ⊎_elim (λ c. omega (arith, says_progress a c)) (λ c. omega (arith, says_progress b (c v))) s
says_progress (says_when a b) s =
    let x = stands_forward a in
    let y = says_forward b in
    ⊎_elim (λ c. omega (arith, stands_progress a c)) (λ c. omega (arith, says_progress b c)) s.0
says_progress (says_otherwise m a) s = says_progress a s.1
says_progress (says_first a) s = says_progress a s.0
says_progress (says_second m a) s = says_progress a s.1
