-- A text whose comments and ends of lines are shown as spaces.
use Rattle.std.specs.Prelude.{◌≡◌, ℕ, zero, suc, ◌≤◌, Bool, false, cond, not, ◌&&◌, ◌||◌, List, [], ◌∷◌, length, Some, None, Ok, Err, Option, Result, ◌==◌, refl}
use Rattle.std.proofs.Common.{ap, arith}
use Rattle.texts.specs.declared.cell.Fault.{Fault}
use Rattle.texts.specs.declared.cell.Cell.{Cell}
use Rattle.texts.specs.declared.cell.Cell.TheVariants.{Byte, Bad}

-- a `#`, a line feed and a carriage return are never shown
abbrev pub hidden : ℕ → Bool
hidden b = b == 35 || (b == 10 || b == 13)

-- a byte as it is shown, in a comment or not
abbrev pub shown : Bool → ℕ → ℕ
shown inside b = cond (inside || hidden b) 32 b

-- whether a comment goes on behind a byte: a line feed ends it, a `#` begins one
abbrev pub goes_on : Bool → ℕ → Bool
goes_on inside b = not (b == 10) && (inside || b == 35)

-- a cell as it is shown: a bad one stays as it is
abbrev pub shown_cell : Bool → Cell → Cell
shown_cell inside (Byte b) = Byte (shown inside b)
shown_cell inside (Bad f) = Bad f

-- whether a comment goes on behind a cell: a bad one neither begins nor ends it
abbrev pub goes_on_cell : Bool → Cell → Bool
goes_on_cell inside (Byte b) = goes_on inside b
goes_on_cell inside (Bad f) = inside

-- cells as they are shown, from within a comment or not
abbrev pub covered_from : Bool → List Cell → List Cell
covered_from inside [] = []
covered_from inside (c ∷ cs) = shown_cell inside c ∷ covered_from (goes_on_cell inside c) cs

-- cells without comments and ends of lines
abbrev pub covered : List Cell → List Cell
covered = covered_from false

-- whether a place lies in a comment, behind its `#`
abbrev pub comment_at : Bool → List Cell → ℕ → Bool
comment_at inside [] p = inside
comment_at inside (c ∷ cs) zero = inside
comment_at inside (c ∷ cs) (suc p) = comment_at (goes_on_cell inside c) cs p

-- cells as they are shown, where a test tells the places in comments, counted from a place
abbrev pub shown_by : (ℕ → Bool) → ℕ → List Cell → List Cell
shown_by inside p [] = []
shown_by inside p (c ∷ cs) = shown_cell (inside p) c ∷ shown_by inside (suc p) cs

-- an answer seen through the cover
abbrev pub shown_answer : Bool → Result (Option ℕ) Fault → Result (Option ℕ) Fault
shown_answer inside (Ok None) = Ok None
shown_answer inside (Ok (Some b)) = Ok (Some (shown inside b))
shown_answer inside (Err f) = Err f

-- no byte of the cells is one that is never shown
abbrev pub Plain : List Cell → Type 0
Plain [] = Unit {0}
Plain (Byte b ∷ cs) = (hidden b ≡ false) × Plain cs
Plain (Bad f ∷ cs) = Plain cs

-- what a cover of cells is
pub record Covering (cells seen : List Cell) : Type 0 where
  pub is : seen ≡ covered cells
  -- it is as long as the cells
  pub size : length seen ≡ length cells
  -- it has no `#` and no end of a line, and another cover changes nothing
  pub plain : Plain seen
  pub once : covered seen ≡ seen
  -- it is the same as the cells just where they have no `#` and no end of a line
  pub kept : Plain cells → seen ≡ cells
  pub same : seen ≡ cells → Plain cells

pub shown_by_length : (inside : ℕ → Bool) (p : ℕ) (cs : List Cell) → length (shown_by inside p cs) ≡ length cs
shown_by_length inside p [] = refl
shown_by_length inside p (c ∷ cs) = ap suc (shown_by_length inside (suc p) cs)

pub shown_by_short : (inside : ℕ → Bool) (p : ℕ) (cs : List Cell) → length cs ≤ 16384 → length (shown_by inside p cs) ≤ 16384
shown_by_short inside p cs h = omega (arith, shown_by_length inside p cs)
