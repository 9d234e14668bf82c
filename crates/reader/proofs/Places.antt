-- The place of a reader by its number of queries.
use Rattle.std.proofs.Common.{◌≡◌, ℕ, zero, suc, ◌+◌, ◌-◌, max, ◌≤◌, List, length, Ok, Err, Result, sym, refl, ap, ◌∙◌, add-one, arith}
use lib.ListN.{length-map}
use Rattle.texts.specs.declared.cell.Cell.{Cell}
use Rattle.texts.specs.Codes.{code}
use Rattle.texts.specs.Trim.{between, between_short}
use Rattle.grammar.specs.declared.query.SingleQuery.{SingleQuery}
use Rattle.reader.specs.Standing.{shown, Within}
use Rattle.reader.specs.Steps.{query_k, answered, place_after, place_of}
use Rattle.reader.proofs.Stepping.{next_end}

pub place_more : (t : List ℕ) (k p r : ℕ) (x : Result SingleQuery ℕ) → p ≡ place_of t k → x ≡ query_k t k p → r ≡ place_after (answered x) p → r ≡ place_of t (k + 1)
place_more t k p r x h e m = m ∙ (ap (λ y. place_after (answered y) p) e ∙ (ap (λ q. place_after (answered (query_k t k q)) q) h ∙ ap (place_of t) (sym (add-one k))))

answered_end : (n p : ℕ) (r : Result SingleQuery ℕ) → ((q : SingleQuery) → r ≡ Ok q → q.raw.end ≤ n) → p ≤ n → place_after (answered r) p ≤ n
answered_end n p (Ok q) h l = h q refl
answered_end n p (Err m) h l = l

-- the place lies within the text
pub place_fits : (t : List ℕ) (k : ℕ) → place_of t k ≤ length t
place_fits t zero = omega arith
place_fits t (suc k) = answered_end (length t) (place_of t k) (query_k t k (place_of t k)) (λ q h. (next_end t k (place_of t k) q (place_fits t k) h).1) (place_fits t k)

-- behind a query that is there the place is its end
pub place_next : (t : List ℕ) (k : ℕ) (q : SingleQuery) → query_k t k (place_of t k) ≡ Ok q → place_of t (suc k) ≡ q.raw.end
place_next t k q h = ap (λ r. place_after (answered r) (place_of t k)) h

-- behind one query less of a text that is shown
pub back_within : (start end : ℕ) (cells : List Cell) (k p r m : ℕ) → length cells ≤ 16384 → Within k p → r ≡ place_of (shown start end cells) (k - 1) → m ≡ max r (k - 1) → Within (k - 1) m
back_within start end cells k p r m short w h e =
    let cs = between start end cells in
    let n : length (shown start end cells) ≡ length cs = length-map cs code in
    (omega (arith, e), omega (arith, e, w.0, w.1, place_fits (shown start end cells) (k - 1), between_short start end cells short))
