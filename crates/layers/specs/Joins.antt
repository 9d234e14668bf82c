-- Two texts with a comma between them.
use Rattle.std.specs.Prelude.{◌≡◌, ◌+◌, ◌<◌, ◌≤◌, cond, List, [], ◌∷◌, ◌++◌, length, take, drop, nat_le}
use Rattle.std.proofs.Common.{lit≤}
use Rattle.std.proofs.lemmas.Bool.{cond_both, leb-true}
use Rattle.texts.specs.declared.cell.Cell.{Cell}
use Rattle.texts.specs.declared.cell.Cell.TheVariants.{Byte}
use Rattle.texts.specs.Cells.{overfull}

-- the first, a comma and the second
abbrev pub side_by_side : List Cell → List Cell → List Cell
side_by_side xs ys = xs ++ (Byte 44 ∷ ys)

-- cells that fit a text, or one bad cell
abbrev pub fitted : List Cell → List Cell
fitted cells = cond (nat_le (length cells) 16384) cells overfull

-- the other where one is empty, else both with a comma between them
abbrev pub joined : List Cell → List Cell → List Cell
joined [] ys = ys
joined (x ∷ xs) [] = x ∷ xs
joined (x ∷ xs) (y ∷ ys) = fitted (side_by_side (x ∷ xs) (y ∷ ys))

pub fitted_short : (cells : List Cell) → length (fitted cells) ≤ 16384
fitted_short cells =
    cond_both (nat_le (length cells) 16384) cells overfull (λ l. length l ≤ 16384) (leb-true (length cells) 16384) (λ e. lit≤ tt)

pub joined_short : (xs ys : List Cell) → length xs ≤ 16384 → length ys ≤ 16384 → length (joined xs ys) ≤ 16384
joined_short [] ys h k = k
joined_short (x ∷ xs) [] h k = h
joined_short (x ∷ xs) (y ∷ ys) h k = fitted_short (side_by_side (x ∷ xs) (y ∷ ys))

-- what a join of two texts holds
pub record Joining (xs ys both : List Cell) : Type 0 where
  -- an empty text leaves the other one
  pub first_alone : length ys ≡ 0 → both ≡ xs
  pub second_alone : length xs ≡ 0 → both ≡ ys
  -- the cells of both, as they were: no own place is counted anew
  pub front : 0 < length xs → 0 < length ys → length xs + 1 + length ys ≤ 16384 → take (length xs) both ≡ xs
  pub back : 0 < length xs → 0 < length ys → length xs + 1 + length ys ≤ 16384 → drop (length xs + 1) both ≡ ys
  -- one bad cell where they do not fit
  pub over : 0 < length xs → 0 < length ys → 16384 < length xs + 1 + length ys → both ≡ overfull
