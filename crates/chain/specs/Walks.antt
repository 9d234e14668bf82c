-- What is kept of a chain after it was walked along once.
use Rattle.std.specs.Prelude.{◌≡◌, ℕ, ◌+◌, ◌-◌, ◌*◌, ◌<◌, ◌≤◌, List, [], ◌∷◌, ◌++◌, length, take, drop, Some, None, Option, slice_get, slice_index}
use Rattle.std.specs.Coded.{×_prop, le_prop}
use Rattle.std.proofs.Math.Nat.{ℕ_set}
use Rattle.texts.specs.declared.cell.Fault.{Fault}
use Rattle.texts.specs.declared.cell.Cell.{Cell}
use Rattle.texts.specs.declared.cell.Cell.TheVariants.{Bad}
use Rattle.texts.specs.Cells.{bytes}
use Rattle.chain.specs.declared.pieces.Piece.{Piece}
use Rattle.chain.specs.declared.pieces.Pieces.{Pieces}
use Rattle.chain.specs.Chains.{records_of, chained}

-- the pieces that were taken
abbrev pub list_of : Pieces → List Piece
list_of pieces = take pieces.taken pieces.slots

-- the bytes of a piece of a memory
abbrev pub piece_text : List ℕ → Piece → List ℕ
piece_text memory piece = take (piece.end - piece.start) (drop piece.from memory)

-- the bytes of pieces, one after another
abbrev pub gathered : List ℕ → List Piece → List ℕ
gathered memory [] = []
gathered memory (piece ∷ pieces) = piece_text memory piece ++ gathered memory pieces

-- each piece lies in the memory, and takes the places behind the one before it: from a place on, up to a size
abbrev pub Placed : List ℕ → ℕ → ℕ → List Piece → Type 0
Placed memory own size [] = own ≡ size
Placed memory own size (piece ∷ pieces) =
    (piece.start ≡ own) × ((piece.start ≤ piece.end) × ((piece.from + (piece.end - piece.start) ≤ length memory) × Placed memory piece.end size pieces))

-- in one way only
pub Placed-prop : (memory : List ℕ) (own size : ℕ) (pieces : List Piece) → IsProp (Placed memory own size pieces)
Placed-prop memory own size [] = ℕ_set own size
Placed-prop memory own size (piece ∷ pieces) =
    ×_prop (ℕ_set piece.start own) (×_prop le_prop (×_prop le_prop (Placed-prop memory piece.end size pieces)))

-- a piece has a place of the text, and its byte
pub record Holds (memory text : List ℕ) (place : ℕ) (piece : Piece) : Type 0 where
  pub low : piece.start ≤ place
  pub within : piece.from + (place - piece.start) < length memory
  pub byte : slice_get text place ≡ Some (slice_index memory (piece.from + (place - piece.start)))

-- the bad cell at the end of a damaged chain
abbrev pub ending : Option Fault → List Cell
ending None = []
ending (Some f) = Bad f ∷ []

-- the pieces taken, and the cells that follow them, make up the chain
pub record Walked (memory : List ℕ) (first : ℕ) (pieces : List Piece) (size : ℕ) (rest : List Cell) : Type 0 where
  pub within : length pieces ≤ records_of memory
  pub low : size ≤ 60 * length pieces
  pub placed : Placed memory 0 size pieces
  pub whole : chained memory first ≡ bytes (gathered memory pieces) ++ rest
