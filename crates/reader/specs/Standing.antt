-- What a reader shows.
use Rattle.std.specs.Prelude.{ℕ, ◌≤◌, List}
use Rattle.texts.specs.declared.cell.Cell.{Cell}
use Rattle.texts.specs.Codes as cell
use Rattle.texts.specs.Trim.{between}

-- the part of a text that is read: the text's cells, and the places from which and up to which it is read
pub record Part : Type 0 where
  pub cells : List Cell
  pub start : ℕ
  pub end : ℕ

-- where a reader stands in its text
pub record Standing : Type 0 where
  -- the text below, and the part of it that is read
  pub text : Part
  -- the codes of the text that is read
  pub codes : List ℕ
  -- how many queries stand before the place
  pub k : ℕ
  -- the end of the last raw given, or 0
  pub place : ℕ

-- the codes of the cells from one place up to another
abbrev pub shown : ℕ → ℕ → List Cell → List ℕ
shown start end cells = cell.codes (between start end cells)

-- k queries take k codes at least, and a text has no more than 16,384
abbrev pub Within : ℕ → ℕ → Type 0
Within k place = (k ≤ place) × (place ≤ 16384)
