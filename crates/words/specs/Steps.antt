-- Stepping through a text, with what it gives as numbers.
use Rattle.std.specs.Prelude.{◌≡◌, ℕ, List, map, length, Err, Option, MatchResult}
use Rattle.texts.specs.declared.cell.Cell.{Cell}
use Rattle.texts.specs.Codes.{codes}
use Rattle.texts.specs.Trim.{trimmed}
use Rattle.grammar.specs.declared.query.SingleQuery.{SingleQuery}
use Rattle.reader.specs.declared.refusal.Refusal.{Refusal}
use Rattle.reader.specs.Start.{start_refusal}
use Rattle.whole.specs.Slots.{gaps}
use Rattle.whole.specs.Walks.{Walked, stopped}
use Rattle.exports.specs.Layout.{words_of}
use Rattle.exports.specs.Put.{put_slot}
use Rattle.records.specs.Layout.{places_of}
use Rattle.words.specs.declared.steps.Slices.{Slices}
use Rattle.words.specs.Outcome.{outcome_of, of_text}
use Rattle.words.specs.Put.{put_slots, put_before}

-- the record of query n and, if it is not the first, of the separator before it are written; the slices are the same
pub record Writes (a : Slices) (n e : ℕ) (q : SingleQuery) (b : Slices) : Type 0 where
  pub same_queries : b.queries.ghost_name ≡ a.queries.ghost_name
  pub same_separators : b.separators.ghost_name ≡ a.separators.ghost_name
  pub queries : b.queries.now ≡ put_slot a.queries.now n (words_of q)
  pub separators : b.separators.now ≡ put_before a.separators.now n e q.raw.start

-- a text on which a reading can start: the records that the steps through t gave were written as far as there is room
-- for whole ones, and then how it ended
pub record Stepped (t : List ℕ) (count : ℕ) (queries queries' separators separators' outcome outcome' : List ℕ) : Type 0 where
  pub given : List SingleQuery
  pub stop : Option ℕ
  pub walk : Walked t given stop
  pub many : count ≡ length given
  pub laid : queries' ≡ put_slots queries 0 (map words_of given)
  pub parted : separators' ≡ put_slots separators 0 (map places_of (gaps given))
  pub told : outcome' ≡ put_slot outcome 0 (outcome_of (of_text (stopped stop (length given))))

-- what is written where start refuses
pub record Turned (e : Refusal) (count : ℕ) (queries queries' separators separators' outcome outcome' : List ℕ) : Type 0 where
  pub none : count ≡ 0
  pub queries_stay : queries' ≡ queries
  pub separators_stay : separators' ≡ separators
  pub told : outcome' ≡ put_slot outcome 0 (outcome_of (of_text (Err e)))

-- what is written for a text, started on or not
abbrev pub ReadText : List Cell → ℕ → List ℕ → List ℕ → List ℕ → List ℕ → List ℕ → List ℕ → Type 0
ReadText cells count q q' s s' o o' =
    MatchResult (start_refusal cells) (λ _. Stepped (codes (trimmed cells)) count q q' s s' o o') (λ e. Turned e count q q' s s' o o')
