-- A text without the white space at its ends.
use Rattle.std.specs.Prelude.{◌≡◌, ℕ, ◌-◌, ◌≤◌, List, length, take, drop}
use Rattle.std.proofs.Common.{arith, length-take, length-drop}
use Rattle.texts.specs.declared.cell.Cell.{Cell}
use Rattle.texts.specs.Codes.{codes}
use Rattle.texts.specs.Spaces.{in_front, behind}

-- the cells from one place up to another
abbrev pub between : ℕ → ℕ → List Cell → List Cell
between start end cells = take (end - start) (drop start cells)

pub between_short : (start end : ℕ) (cells : List Cell) → length cells ≤ 16384 → length (between start end cells) ≤ 16384
between_short start end cells h = simp (length-take, length-drop) (omega arith)

-- cells without the white space in front
abbrev pub trimmed_front : List Cell → List Cell
trimmed_front cells = drop (in_front (codes cells)) cells

-- cells without the white space behind
abbrev pub trimmed_behind : List Cell → List Cell
trimmed_behind cells = take (length cells - behind (codes cells)) cells

-- cells without the white space in front, then behind
abbrev pub trimmed : List Cell → List Cell
trimmed cells = trimmed_behind (trimmed_front cells)

-- no white space at either end, so that a trim changes nothing
pub record Clean (cells : List Cell) : Type 0 where
  pub front : in_front (codes cells) ≡ 0
  pub back : behind (codes cells) ≡ 0
  pub once : trimmed cells ≡ cells
