-- A refusal as five numbers.
use Rattle.std.specs.Prelude.{ℕ, List, [], ◌∷◌, ◌++◌}
use Rattle.whole.specs.declared.refusal.WholeRefusal.{WholeRefusal}
use Rattle.whole.specs.declared.refusal.WholeRefusal.TheVariants.{OfText, TooFewSlots, OutsideBytes}
use Rattle.exports.specs.Outcome.{outcome_of}

-- its number, its place, a bad cell's fault and own place, and how many queries want slots; 0 where it has no such value
abbrev pub told_whole : WholeRefusal → List ℕ
told_whole (OfText refusal) = outcome_of refusal ++ 0 ∷ []
told_whole (TooFewSlots n) = 4 ∷ 0 ∷ 0 ∷ 0 ∷ n ∷ []
told_whole OutsideBytes = 6 ∷ 0 ∷ 0 ∷ 0 ∷ 0 ∷ []
