-- A query that is given ends behind its place and within the text.
use Rattle.std.proofs.Common.{◌≡◌, ℕ, zero, suc, ◌+◌, ◌<◌, ◌≤◌, Bool, true, false, cond, leb, List, length, Some, None, Ok, Err, Result, refl, ap, arith}
use Rattle.std.proofs.lemmas.Bool.{leb-false}
use lib.ListN.{length-map}
use Rattle.texts.specs.declared.cell.Cell.{Cell}
use Rattle.texts.specs.Codes.{code}
use Rattle.texts.specs.Trim.{between, between_short}
use Rattle.grammar.specs.Form.{Outcome, reads}
use Rattle.grammar.specs.Forms.{querying, missed, separating}
use Rattle.grammar.proofs.Queries.{query_fits, separator_fits}
use Rattle.grammar.specs.declared.query.QueryAtom.{QueryAtom}
use Rattle.grammar.specs.declared.query.SingleQuery.{SingleQuery}
use Rattle.reader.specs.Standing.{shown, Within}
use Rattle.reader.specs.Steps.{found, query_at, at_first, behind, query_k, answered, stepped}

-- from p to e within t, and e is behind p
abbrev pub Onward : List ℕ → ℕ → ℕ → Type 0
Onward t p e = (p < e) × (e ≤ length t)

-- a query from s up to e, as it is found
abbrev pub made : Bool → ℕ → ℕ → Bool × QueryAtom → SingleQuery
made and s e v = record { raw = record { start = s; end = e }; atom = v.1; negated = v.0; is_and = and }

pub found_ok : (and : Bool) (s m : ℕ) (o : Outcome (Bool × QueryAtom)) (q : SingleQuery) → found and s m o ≡ Ok q → (v : Bool × QueryAtom) × (e : ℕ) × (o ≡ Some (v, e)) × (made and s e v ≡ q)
found_ok and s m None q h = absurd cc
found_ok and s m (Some x) q h = (x.0, x.1, refl, cc)

pub first_ok : (r : Result SingleQuery ℕ) (q : SingleQuery) → at_first r ≡ Ok q → r ≡ Ok q
first_ok (Ok p) q h = h
first_ok (Err m) q h = absurd cc

pub behind_ok : (t : List ℕ) (p : ℕ) (o : Outcome Bool) (q : SingleQuery) → behind t p o ≡ Ok q → (and : Bool) × (m : ℕ) × (o ≡ Some (and, m)) × (query_at t and m ≡ Ok q)
behind_ok t p None q h = absurd cc
behind_ok t p (Some x) q h = (x.0, x.1, refl, h)

query_end : (t : List ℕ) (and : Bool) (s : ℕ) (q : SingleQuery) → s ≤ length t → query_at t and s ≡ Ok q → Onward t s q.raw.end
query_end t and s q l h =
    let f = found_ok and s (missed t s) (reads querying t s) q h in
    let e : f.1 ≡ q.raw.end = ap (λ x. x.raw.end) f.3 in
    let b = query_fits t s f.0 f.1 l f.2 in
    (omega (arith, b.0), omega (arith, b.1))

pub next_end : (t : List ℕ) (k p : ℕ) (q : SingleQuery) → p ≤ length t → query_k t k p ≡ Ok q → Onward t p q.raw.end
next_end t zero p q l h = query_end t false p q l (first_ok (query_at t false p) q h)
next_end t (suc k) p q l h =
    let w = behind_ok t p (reads separating t p) q h in
    let b = separator_fits t p w.0 w.1 l w.2 in
    let d = query_end t w.0 w.1 q b.1 w.3 in
    (omega (arith, b.0, d.0), d.1)

given_from : (b : Bool) (r : Result SingleQuery ℕ) (q : SingleQuery) → cond b (Ok None) (answered r) ≡ Ok (Some q) → (b ≡ false) × (r ≡ Ok q)
given_from true r q h = absurd cc
given_from false (Ok p) q h = (refl, cc)
given_from false (Err m) q h = absurd cc

-- a query that a step gives
pub given_end : (t : List ℕ) (k p : ℕ) (q : SingleQuery) → stepped t k p ≡ Ok (Some q) → Onward t p q.raw.end
given_end t k p q h =
    let g = given_from (leb (length t) p) (query_k t k p) q h in
    let l : p < length t = leb-false (length t) p g.0 in
    next_end t k p q (omega arith) g.1

-- behind the next query of a text that is shown
pub next_within : (start end : ℕ) (cells : List Cell) (k p : ℕ) (q : SingleQuery) → length cells ≤ 16384 → p ≤ length (between start end cells) → Within k p → query_k (shown start end cells) k p ≡ Ok q → Within (k + 1) q.raw.end
next_within start end cells k p q short l w h =
    let cs = between start end cells in
    let n : length (shown start end cells) ≡ length cs = length-map cs code in
    let b = next_end (shown start end cells) k p q (omega arith) h in
    (omega (arith, w.0, b.0), omega (arith, b.1, between_short start end cells short))
