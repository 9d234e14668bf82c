-- How a reading ended, as four numbers: what a refusal tells, and zeros behind it.
use Rattle.std.specs.Prelude.{◌≡◌, ℕ, ◌+◌, ◌*◌, ◌/◌, Bool, true, false, cond, List, [], ◌∷◌, ◌++◌, length, take, Some, None, Ok, Err, Option, Result, MatchResult, nat_lt}
use Rattle.std.proofs.Math.Seq.{paste}
use Rattle.reader.specs.declared.refusal.Refusal.{Refusal}
use Rattle.grammar.specs.declared.query.SingleQuery.{SingleQuery}
use Rattle.reader.specs.Refusals.{told}
use Rattle.reader.specs.Start.{start_refusal}
use Rattle.reader.specs.Steps.{stepped}
use Rattle.texts.specs.declared.cell.Cell.{Cell}
use Rattle.texts.specs.Codes.{codes}
use Rattle.texts.specs.Trim.{trimmed}
use Rattle.exports.specs.Layout.{words_of}

abbrev pub outcome_of : Refusal → List ℕ
outcome_of r = take 4 (told r ++ (0 ∷ 0 ∷ 0 ∷ 0 ∷ []))

-- whether a step gave a query, so that another may follow
abbrev pub goes_on : Result (Option SingleQuery) Refusal → Bool
goes_on (Ok (Some q)) = true
goes_on (Ok None) = false
goes_on (Err r) = false

-- record n of the words lent, where there is room for a whole one
abbrev pub put_record : List ℕ → ℕ → List ℕ → List ℕ
put_record words n ws = cond (nat_lt n (length words / 24)) (paste words (n * 24) ws 24) words

-- the four words of an outcome, where there is room for them
abbrev pub put_outcome : List ℕ → List ℕ → List ℕ
put_outcome words ws = cond (nat_lt 3 (length words)) (paste words 0 ws 4) words

-- the outcome behind a step: told where it gave no query
abbrev pub concluded : Result (Option SingleQuery) Refusal → List ℕ → List ℕ
concluded (Ok (Some q)) words = words
concluded (Ok None) words = put_outcome words (0 ∷ 0 ∷ 0 ∷ 0 ∷ [])
concluded (Err r) words = put_outcome words (outcome_of r)

-- records of queries one behind another, the first of them number n
abbrev pub put_records : List ℕ → ℕ → List SingleQuery → List ℕ
put_records words n [] = words
put_records words n (q ∷ qs) = put_records (put_record words n (words_of q)) (n + 1) qs

-- steps of a reader of t that has k queries before its place p give these queries, and the next answers last
abbrev pub Through : List ℕ → ℕ → ℕ → List SingleQuery → Result (Option SingleQuery) Refusal → Type 0
Through t k p [] last = (stepped t k p ≡ last) × (goes_on last ≡ false)
Through t k p (q ∷ qs) last = (stepped t k p ≡ Ok (Some q)) × Through t (k + 1) q.raw.end qs last

-- what is written where a reader of t is stepped through to its end or a refusal
pub record Read (t : List ℕ) (k p count : ℕ) (records after outcome ended : List ℕ) : Type 0 where
  pub queries : List SingleQuery
  pub last : Result (Option SingleQuery) Refusal
  pub steps : Through t k p queries last
  pub counted : count ≡ length queries
  pub written : after ≡ put_records records 0 queries
  pub told_last : ended ≡ concluded last outcome

-- what is written where start refuses
pub record Turned (e : Refusal) (count : ℕ) (records after outcome ended : List ℕ) : Type 0 where
  pub none : count ≡ 0
  pub same : after ≡ records
  pub why : ended ≡ put_outcome outcome (outcome_of e)

-- what is written for a text, started on or not
abbrev pub ReadText : List Cell → ℕ → List ℕ → List ℕ → List ℕ → List ℕ → Type 0
ReadText cells count records after outcome ended =
    MatchResult (start_refusal cells) (λ _. Read (codes (trimmed cells)) 0 0 count records after outcome ended) (λ e. Turned e count records after outcome ended)
