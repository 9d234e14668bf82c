-- Texts that a reading can start on, and the join of two texts.
use Rattle.std.specs.Prelude.{◌≡◌, List, [], ◌∷◌, ◌++◌, None}
use Rattle.texts.specs.declared.cell.Cell.{Cell}
use Rattle.texts.specs.declared.cell.Cell.TheVariants.{Byte, Bad}
use Rattle.texts.specs.Codes.{codes}
use Rattle.reader.specs.Utf8.{ill_formed}

-- no cell is bad
abbrev pub AllBytes : List Cell → Type 0
AllBytes [] = Unit {0}
AllBytes (Byte b ∷ cells) = AllBytes cells
AllBytes (Bad fault ∷ cells) = ⊥

-- a text that a reading can start on
pub record Readable (cells : List Cell) : Type 0 where
  pub bytes : AllBytes cells
  -- no sequence is ill-formed
  pub formed : ill_formed (codes cells) ≡ None

-- two texts with a comma between
abbrev pub joint : List Cell → List Cell → List Cell
joint a b = a ++ Byte 44 ∷ b
