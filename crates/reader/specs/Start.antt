-- What is refused at start.
use Rattle.std.specs.Prelude.{ℕ, ◌+◌, List, [], ◌∷◌, Some, None, Ok, Err, Option, Result}
use Rattle.texts.specs.declared.cell.Cell.{Cell}
use Rattle.texts.specs.declared.cell.Cell.TheVariants.{Byte, Bad}
use Rattle.texts.specs.Codes.{codes}
use Rattle.reader.specs.declared.refusal.Refusal.{Refusal}
use Rattle.reader.specs.declared.refusal.Refusal.TheVariants.{BadCell, IllFormed}
use Rattle.reader.specs.Utf8.{ill_formed}

-- the lowest bad cell of cells of which the first stands at a place, refused
abbrev pub bad_from : List Cell → ℕ → Result (Unit {0}) Refusal
bad_from [] place = Ok tt
bad_from (Byte b ∷ cells) place = bad_from cells (place + 1)
bad_from (Bad fault ∷ cells) place = Err (BadCell place fault)

-- the lowest bad cell of a text, refused
abbrev pub bad_refusal : List Cell → Result (Unit {0}) Refusal
bad_refusal cells = bad_from cells 0

-- an ill-formed sequence, refused
abbrev pub ill_refusal : Option ℕ → Result (Unit {0}) Refusal
ill_refusal None = Ok tt
ill_refusal (Some place) = Err (IllFormed place)

-- the first refusal of two checks
abbrev pub and_then : Result (Unit {0}) Refusal → Result (Unit {0}) Refusal → Result (Unit {0}) Refusal
and_then (Ok _) next = next
and_then (Err refusal) next = Err refusal

-- a bad cell is refused first, then ill-formed UTF-8
abbrev pub start_refusal : List Cell → Result (Unit {0}) Refusal
start_refusal cells = and_then (bad_refusal cells) (ill_refusal (ill_formed (codes cells)))
