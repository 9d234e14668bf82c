-- One query of a text, found by walking through it.
use Rattle.std.proofs.Common.{◌≡◌, ℕ, zero, suc, ◌+◌, ◌<◌, eqb, List, [], ◌∷◌, length, Some, None, Ok, Err, Option, Result, sym, refl, ap, ◌∙◌, arith, MatchResult}
use Rattle.std.specs.List.{slice_get}
use Rattle.std.proofs.lemmas.Bool.{cond-true, cond-false, eq-eqb, ne_eqb}
use Rattle.texts.specs.declared.cell.Cell.{Cell}
use Rattle.texts.specs.Codes.{codes}
use Rattle.texts.specs.Trim.{trimmed}
use Rattle.grammar.specs.declared.query.SingleQuery.{SingleQuery}
use Rattle.reader.specs.declared.refusal.Refusal.{Refusal}
use Rattle.reader.specs.Start.{start_refusal}
use Rattle.whole.specs.declared.nth.Finder.{Finder}
use Rattle.whole.specs.declared.walk.Walk.{Walk}
use Rattle.whole.specs.Finds.{Finds, found_by}
use Rattle.whole.specs.Walks.{stopped, ended_by, Taken, Walks, Unstarted}
use Rattle.whole.specs.Whole.{Nth, nth_of}

-- what is kept stays where the query looked for was passed
passed : (qs : List SingleQuery) (a b : Finder) (n e : ℕ) → a.k < n → Taken Finds a n e qs b → b.found ≡ a.found
passed [] a b n e h t = ap (λ f. f.found) (sym t)
passed (q ∷ qs) a b n e h t =
    let c = t.0 in
    passed qs c b (n + 1) q.raw.end (omega (arith, t.1.number)) t.2
    ∙ (t.1.found ∙ cond-false (eqb n a.k) (Some q) a.found (ne_eqb n a.k (λ z. omega (arith, z, h))))

-- the query looked for is the one of that number
picked : (qs : List SingleQuery) (a b : Finder) (n e j : ℕ) → a.k ≡ n + j → a.found ≡ None → Taken Finds a n e qs b → b.found ≡ slice_get qs j
picked [] a b n e j at none t = ap (λ f. f.found) (sym t) ∙ none
picked (q ∷ qs) a b n e zero at none t =
    let here : n ≡ a.k = omega arith in
    passed qs t.0 b (n + 1) q.raw.end (omega (arith, t.1.number)) t.2
    ∙ (t.1.found ∙ cond-true (eqb n a.k) (Some q) a.found (eq-eqb n a.k here))
picked (q ∷ qs) a b n e (suc j) at none t =
    picked qs t.0 b (n + 1) q.raw.end j (omega (arith, t.1.number, at)) (t.1.found ∙ (cond-false (eqb n a.k) (Some q) a.found (ne_eqb n a.k (λ z. omega (arith, z, at))) ∙ none)) t.2

-- the refusal by which steps ended is the one of a missed query
by_stop : (found : Option SingleQuery) (refusal : Option Refusal) (stop : Option ℕ) (m n : ℕ) → ended_by m refusal ≡ stopped stop n → found_by found refusal ≡ nth_of found stop
by_stop (Some q) refusal stop m n h = refl
by_stop None None None m n h = refl
by_stop None None (Some p) m n h = absurd (let z : ◌≡◌ {A = ℕ} 0 1 = cc in omega arith)
by_stop None (Some e) None m n h = absurd (let z : ◌≡◌ {A = ℕ} 0 1 = cc in omega arith)
by_stop None (Some e) (Some p) m n h = cc

-- what was found, or how the steps ended before it
pub looked : (cells : List Cell) (k : ℕ) (w : Walk) (a b : Finder) (r : Result (Option SingleQuery) Refusal) (o : Result (Unit {0}) Refusal) → start_refusal cells ≡ o → a.k ≡ k → a.found ≡ None → MatchResult o (λ _. Walks Finds (codes (trimmed cells)) w a b) (λ e. Unstarted e w a b) → r ≡ found_by b.found w.refusal → MatchResult o (λ _. Nth (codes (trimmed cells)) k r) (λ e. r ≡ Err e)
looked cells k w a b r (Ok x) h at none g is =
    let here : b.found ≡ slice_get g.given k = picked g.given a b 0 0 k (omega (arith, at)) none g.taken in
    record {
      given = g.given;
      stop = g.stop;
      walk = g.walk;
      answer = is ∙ (by_stop b.found w.refusal g.stop w.given (length g.given) g.answer ∙ ap (λ o. nth_of o g.stop) here);
    }
looked cells k w a b r (Err e) h at none g is =
    is ∙ ((λ i. found_by (ap (λ f. f.found) g.same i) (g.why i)) ∙ ap (λ o. found_by o (Some e)) none)
