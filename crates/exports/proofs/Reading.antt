-- What is written for a text, from what stepping through it gives.
use Rattle.std.proofs.Common.{◌≡◌, ℕ, suc, ◌+◌, ◌<◌, ◌≤◌, leb, List, [], ◌∷◌, ◌++◌, map, length, Some, None, Ok, Err, Option, Result, sym, refl, ap, ◌∙◌, subst, add-one, arith, MatchResult, MatchOption}
use Rattle.std.proofs.lemmas.Bool.{cond-true, cond-false, le-leb, lt-leb}
use Rattle.texts.specs.declared.cell.Cell.{Cell}
use Rattle.texts.specs.Codes.{codes}
use Rattle.texts.specs.Trim.{trimmed}
use Rattle.grammar.specs.declared.query.SingleQuery.{SingleQuery}
use Rattle.reader.specs.declared.refusal.Refusal.{Refusal}
use Rattle.reader.specs.declared.refusal.Refusal.TheVariants.{NoReading}
use Rattle.reader.specs.Start.{start_refusal}
use Rattle.reader.specs.Steps.{stepped, answered, query_k, place_of}
use Rattle.reader.proofs.Places.{place_next}
use Rattle.replay.specs.Law.{giving}
use Rattle.replay.specs.Runs.{gives, ends, lacks, Runs, none, more}
use Rattle.whole.specs.declared.walk.Walk.{Walk}
use Rattle.whole.specs.Walks.{closing, stopped, ended_by, Taken, Walks, Unstarted}
use Rattle.exports.specs.declared.read.Records.{Records}
use Rattle.exports.specs.Keeps.{Keeps}
use Rattle.exports.specs.Outcome.{outcome_of, put_outcome, put_records, concluded, Through, Read, Turned}
use Rattle.exports.specs.Put.{put_slot}
use Rattle.exports.proofs.Slots.{outcome_slot}

-- the answer of the step behind the last query
last_of : Option ℕ → Result (Option SingleQuery) Refusal
last_of None = Ok None
last_of (Some m) = Err (NoReading m)

stepped_end : (t : List ℕ) (k p : ℕ) → length t ≤ p → stepped t k p ≡ Ok None
stepped_end t k p l = cond-true (leb (length t) p) (Ok None) (answered (query_k t k p)) (le-leb (length t) p l)

stepped_on : (t : List ℕ) (k p : ℕ) (r : Result SingleQuery ℕ) → p ≡ place_of t k → place_of t k < length t → query_k t k (place_of t k) ≡ r → stepped t k p ≡ answered r
stepped_on t k p r at l h =
    cond-false (leb (length t) p) (Ok None) (answered (query_k t k p)) (lt-leb (length t) p (omega (arith, at, l)))
    ∙ ap answered (ap (query_k t k) at ∙ h)

-- what steps gave, as answers of a reader
through : (t : List ℕ) (k p m : ℕ) (qs : List SingleQuery) (stop : Option ℕ) → p ≡ place_of t k → Runs t k (map giving qs ++ closing stop ∷ []) m → Through t k p qs (last_of stop)
unfolding last_of
through t k p m [] None at (more (ends e) none) = (stepped_end t k p (omega (arith, at, e)), refl)
through t k p m [] (Some j) at (more (lacks l h) none) = (stepped_on t k p (Err j) at l h, refl)
through t k p m (q ∷ qs) stop at (more (gives l h) rest) =
    (stepped_on t k p (Ok q) at l h, subst (λ n. Through t n q.raw.end qs (last_of stop)) (sym (add-one k)) (through t (suc k) q.raw.end m qs stop (sym (place_next t k q h)) rest))

-- queries kept one after another
kept : (a b : Records) (n e : ℕ) (qs : List SingleQuery) → Taken Keeps a n e qs b → (b.words.ghost_name ≡ a.words.ghost_name) × (b.words.now ≡ put_records a.words.now n qs)
kept a b n e [] t = (ap (λ r. r.words.ghost_name) (sym t), ap (λ r. r.words.now) (sym t))
kept a b n e (q ∷ qs) t =
    let w = kept t.0 b (n + 1) q.raw.end qs t.2 in
    (w.0 ∙ t.1.same_reference, w.1 ∙ ap (λ l. put_records l (n + 1) qs) t.1.written)

-- the words of an outcome tell how the steps ended
told : (refusal : Option Refusal) (stop : Option ℕ) (m n : ℕ) (ws outcome ended : List ℕ) → ended_by m refusal ≡ stopped stop n → MatchOption refusal (ws ≡ 0 ∷ 0 ∷ 0 ∷ 0 ∷ []) (λ e. ws ≡ outcome_of e) → ended ≡ put_slot outcome 0 ws → length ws ≡ 4 → ended ≡ concluded (last_of stop) outcome
unfolding last_of
told None None m n ws outcome ended h w e four = e ∙ (outcome_slot outcome ws four ∙ ap (put_outcome outcome) w)
told None (Some p) m n ws outcome ended h w e four = absurd (let z : ◌≡◌ {A = ℕ} 0 1 = cc in omega arith)
told (Some r) None m n ws outcome ended h w e four = absurd (let z : ◌≡◌ {A = ℕ} 0 1 = cc in omega arith)
told (Some r) (Some p) m n ws outcome ended h w e four =
    let is : r ≡ NoReading p = cc in
    e ∙ (outcome_slot outcome ws four ∙ ap (put_outcome outcome) (w ∙ ap outcome_of is))

-- what is written for a text
pub read : (cells : List Cell) (w : Walk) (a b : Records) (ws outcome ended : List ℕ) (o : Result (Unit {0}) Refusal) → start_refusal cells ≡ o → MatchResult o (λ _. Walks Keeps (codes (trimmed cells)) w a b) (λ e. Unstarted e w a b) → MatchOption w.refusal (ws ≡ 0 ∷ 0 ∷ 0 ∷ 0 ∷ []) (λ e. ws ≡ outcome_of e) → ended ≡ put_slot outcome 0 ws → length ws ≡ 4 → (b.words.ghost_name ≡ a.words.ghost_name) × MatchResult o (λ _. Read (codes (trimmed cells)) 0 0 w.given a.words.now b.words.now outcome ended) (λ e. Turned e w.given a.words.now b.words.now outcome ended)
read cells w a b ws outcome ended (Ok x) h g is e four =
    let all = kept a b 0 0 g.given g.taken in (
      all.0,
      record {
        queries = g.given;
        last = last_of g.stop;
        steps = through (codes (trimmed cells)) 0 0 (length g.given) g.given g.stop refl g.walk;
        counted = g.many;
        written = all.1;
        told_last = told w.refusal g.stop w.given (length g.given) ws outcome ended g.answer is e four;
      },
    )
read cells w a b ws outcome ended (Err r) h g is e four = (
  ap (λ x. x.words.ghost_name) g.same,
  record {
    none = g.none;
    same = ap (λ x. x.words.now) g.same;
    why = e ∙ (outcome_slot outcome ws four ∙ ap (put_outcome outcome) (subst (λ y. MatchOption y (ws ≡ 0 ∷ 0 ∷ 0 ∷ 0 ∷ []) (λ e. ws ≡ outcome_of e)) g.why is));
  },
)

-- words that were lent are afterwards what the borrower left in them
pub lent : (P : List ℕ → Type 0) (after left : List ℕ) → after ≡ left → P left → P after
lent P after left e p = subst P (sym e) p
