-- How a reading ended, as five numbers.
use Rattle.std.specs.Prelude.{ℕ, List, [], ◌∷◌, Ok, Err, Result}
use Rattle.reader.specs.declared.refusal.Refusal.{Refusal}
use Rattle.whole.specs.declared.refusal.WholeRefusal.{WholeRefusal}
use Rattle.whole.specs.declared.refusal.WholeRefusal.TheVariants.{OfText}
use Rattle.records.specs.Refusals.{told_whole}

-- no refusal and the number of queries, or what the refusal tells
abbrev pub outcome_of : Result ℕ WholeRefusal → List ℕ
outcome_of (Ok n) = 0 ∷ 0 ∷ 0 ∷ 0 ∷ n ∷ []
outcome_of (Err e) = told_whole e

-- the number of queries, or 0 at a refusal
abbrev pub count_of : Result ℕ WholeRefusal → ℕ
count_of (Ok n) = n
count_of (Err e) = 0

-- how the text itself was read: there are no slots to fill
abbrev pub of_text : Result ℕ Refusal → Result ℕ WholeRefusal
of_text (Ok n) = Ok n
of_text (Err e) = Err (OfText e)
