-- The refusals as numbers.
use Rattle.std.specs.Prelude.{ℕ, List, [], ◌∷◌}
use Rattle.reader.specs.declared.refusal.Refusal.{Refusal}
use Rattle.reader.specs.declared.refusal.Refusal.TheVariants.{BadCell, IllFormed, NoReading, AtStart}

-- a refusal's number, its place, and of a bad cell the fault's number and own place
abbrev pub told : Refusal → List ℕ
told (BadCell place fault) = 1 ∷ place ∷ fault.number ∷ fault.own ∷ []
told (IllFormed place) = 2 ∷ place ∷ []
told (NoReading place) = 3 ∷ place ∷ []
told AtStart = 5 ∷ []
