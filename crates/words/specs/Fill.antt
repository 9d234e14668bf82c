-- The whole reading of a text, as numbers in slices that were lent.
use Rattle.std.specs.Prelude.{◌≡◌, ℕ, ◌-◌, ◌*◌, ◌/◌, true, List, ◌++◌, length, drop}
use Rattle.std.specs.List.{flat_map}
use Rattle.texts.specs.declared.cell.Cell.{Cell}
use Rattle.whole.specs.declared.refusal.WholeRefusal.{WholeRefusal}
use Rattle.replay.specs.Queries.{queries_of}
use Rattle.whole.specs.Whole.{separators_of, Counts, enough, Why}
use Rattle.exports.specs.Layout.{words_of}
use Rattle.records.specs.Layout.{places_of}

-- the text has a reading of n queries: their words stand first, one record behind another, and no other word changed
pub record FilledWords (cells : List Cell) (queries queries' separators separators' : List ℕ) (n : ℕ) : Type 0 where
  pub counts : Counts cells n
  pub fits : enough (length queries / 24) (length separators / 2) n ≡ true
  pub laid : queries' ≡ flat_map words_of (queries_of 0 counts.turns) ++ drop (n * 24) queries
  pub parted : separators' ≡ flat_map places_of (separators_of counts.turns) ++ drop ((n - 1) * 2) separators

-- a refused text: every word is as it was
pub record RefusedWords (cells : List Cell) (queries queries' separators separators' : List ℕ) (e : WholeRefusal) : Type 0 where
  pub why : Why cells (length queries / 24) (length separators / 2) e
  pub queries_stay : queries' ≡ queries
  pub separators_stay : separators' ≡ separators
