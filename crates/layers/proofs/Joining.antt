-- What a join of two texts holds.
use Rattle.std.proofs.Common.{◌≡◌, ◌+◌, ◌<◌, ◌≤◌, List, [], ◌∷◌, ◌++◌, length, take, drop, sym, refl, ap, ◌∙◌, arith, length-append}
use Rattle.std.proofs.lemmas.List.{take_at, drop_at, append_assoc, length_push}
use Rattle.std.proofs.lemmas.Bool.{cond-true, cond-false, le-leb, lt-leb}
use Rattle.texts.specs.declared.cell.Cell.{Cell}
use Rattle.texts.specs.declared.cell.Cell.TheVariants.{Byte}
use Rattle.texts.specs.Cells.{overfull}
use Rattle.layers.specs.Joins.{side_by_side, joined, Joining}

size : (xs ys : List Cell) → length (side_by_side xs ys) ≡ length xs + 1 + length ys
size xs ys = length-append xs (Byte 44 ∷ ys) ∙ (omega arith)

fits : (xs ys : List Cell) → 0 < length xs → 0 < length ys → length xs + 1 + length ys ≤ 16384 → joined xs ys ≡ side_by_side xs ys
fits [] ys hx hy h = absurd (omega arith)
fits (x ∷ xs) [] hx hy h = absurd (omega arith)
fits (x ∷ xs) (y ∷ ys) hx hy h =
    cond-true _ _ _ (le-leb (length (side_by_side (x ∷ xs) (y ∷ ys))) 16384 (omega (arith, size (x ∷ xs) (y ∷ ys))))

overflows : (xs ys : List Cell) → 0 < length xs → 0 < length ys → 16384 < length xs + 1 + length ys → joined xs ys ≡ overfull
overflows [] ys hx hy h = absurd (omega arith)
overflows (x ∷ xs) [] hx hy h = absurd (omega arith)
overflows (x ∷ xs) (y ∷ ys) hx hy h =
    cond-false _ _ _ (lt-leb (length (side_by_side (x ∷ xs) (y ∷ ys))) 16384 (omega (arith, size (x ∷ xs) (y ∷ ys))))

first_alone_lem : (xs ys : List Cell) → length ys ≡ 0 → joined xs ys ≡ xs
first_alone_lem [] [] h = refl
first_alone_lem [] (y ∷ ys) h = absurd (omega arith)
first_alone_lem (x ∷ xs) [] h = refl
first_alone_lem (x ∷ xs) (y ∷ ys) h = absurd (omega arith)

second_alone_lem : (xs ys : List Cell) → length xs ≡ 0 → joined xs ys ≡ ys
second_alone_lem [] ys h = refl
second_alone_lem (x ∷ xs) ys h = absurd (omega arith)

pub joining : (xs ys : List Cell) → Joining xs ys (joined xs ys)
joining xs ys =
    record {
      first_alone = first_alone_lem xs ys;
      second_alone = second_alone_lem xs ys;
      front = λ hx hy h. ap (take (length xs)) (fits xs ys hx hy h) ∙ take_at xs (Byte 44 ∷ ys) (length xs) refl;
      back = λ hx hy h.
          ap (drop (length xs + 1)) (fits xs ys hx hy h ∙ sym (append_assoc xs (Byte 44 ∷ []) ys)) ∙ drop_at (xs ++ (Byte 44 ∷ [])) ys (length xs + 1) (length_push xs (Byte 44));
      over = overflows xs ys;
    }
