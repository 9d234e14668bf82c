-- An answer told by numbers: the count, and five words.
use Rattle.std.specs.Prelude.{◌≡◌, ℕ, List, Result}
use Rattle.texts.specs.declared.cell.Cell.{Cell}
use Rattle.whole.specs.declared.refusal.WholeRefusal.{WholeRefusal}
use Rattle.whole.specs.declared.refusal.WholeRefusal.TheVariants.{OfText, TooFewSlots, OutsideBytes}
use Rattle.whole.specs.Whole.{Barred}
use Rattle.words.specs.Outcome.{outcome_of, count_of}
use Rattle.exports.specs.Put.{put_slot}

-- the answer has this meaning, the count is its own, and the outcome's words tell it, where there is room for them
pub record Reported (Means : Result ℕ WholeRefusal → Type 0) (count : ℕ) (outcome outcome' : List ℕ) : Type 0 where
  pub answer : Result ℕ WholeRefusal
  pub means : Means answer
  pub number : count ≡ count_of answer
  pub told : outcome' ≡ put_slot outcome 0 (outcome_of answer)

-- a text that is refused for what it is, where no slots are asked for
abbrev pub BarredText : List Cell → WholeRefusal → Type 0
BarredText cells (OfText e) = Barred cells e
BarredText cells (TooFewSlots n) = ⊥
BarredText cells OutsideBytes = ⊥
