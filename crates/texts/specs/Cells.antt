-- A text's cells, what its questions answer, and the text of a byte store.
use Rattle.std.specs.Prelude.{ℕ, ◌≤◌, cond, List, [], ◌∷◌, map, length, Some, None, Ok, Err, Option, Result, nat_le}
use Rattle.std.proofs.Common.{arith, lit≤}
use Rattle.std.proofs.lemmas.List.{length-map}
use Rattle.std.specs.List.{slice_get}
use Rattle.std.proofs.lemmas.Bool.{cond_both, leb-true}
use Rattle.texts.specs.declared.cell.Fault.{Fault}
use Rattle.texts.specs.declared.cell.Cell.{Cell}
use Rattle.texts.specs.declared.cell.Cell.TheVariants.{Byte, Bad}

-- a cell as an answer: its byte, its fault, or that there is none
abbrev pub told : Option Cell → Result (Option ℕ) Fault
told None = Ok None
told (Some (Byte b)) = Ok (Some b)
told (Some (Bad f)) = Err f

-- the answer to the question for the cell at a place
abbrev pub answer : List Cell → ℕ → Result (Option ℕ) Fault
answer cells place = told (slice_get cells place)

-- the one bad cell of a text that does not fit: fault 5, own place 0
abbrev pub overfull : List Cell
overfull = Bad (record { number = 5; own = 0; numbered = lit≤ tt }) ∷ []

-- bytes as cells
abbrev pub bytes : List ℕ → List Cell
bytes = map Byte

-- a byte store's text: the bytes, or one bad cell where they are more than 16,384
abbrev pub stored : List ℕ → List Cell
stored bs = cond (nat_le (length bs) 16384) (bytes bs) overfull

pub stored_short : (bs : List ℕ) → length (stored bs) ≤ 16384
stored_short bs =
    cond_both (nat_le (length bs) 16384) (bytes bs) overfull (λ l. length l ≤ 16384) (λ e. omega (arith, length-map bs Byte, leb-true (length bs) 16384 e)) (λ e. lit≤ tt)
