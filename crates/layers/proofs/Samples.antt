-- Samples of covers and joins.
use Rattle.std.proofs.Common.{◌≡◌, [], ◌∷◌, refl, lit≤}
use Rattle.texts.specs.declared.cell.Cell.{Cell}
use Rattle.texts.specs.declared.cell.Cell.TheVariants.{Byte, Bad}
use Rattle.texts.specs.Cells.{bytes}
use Rattle.layers.specs.Covers.{covered}
use Rattle.layers.specs.Joins.{joined}

abbrev bad : Cell
bad = Bad (record { number = 4; own = 7; numbered = lit≤ tt })

-- a # b, a carriage return, c, a line feed, d: the comment ends at the line feed
one_comment : covered (bytes (97 ∷ 35 ∷ 98 ∷ 13 ∷ 99 ∷ 10 ∷ 100 ∷ [])) ≡ bytes (97 ∷ 32 ∷ 32 ∷ 32 ∷ 32 ∷ 32 ∷ 100 ∷ [])
one_comment = refl

-- the two ends of a line, outside of a comment
line_end : covered (bytes (97 ∷ 13 ∷ 10 ∷ 98 ∷ [])) ≡ bytes (97 ∷ 32 ∷ 32 ∷ 98 ∷ [])
line_end = refl

-- a bad cell neither begins a comment nor ends one
bad_outside : covered (Byte 97 ∷ bad ∷ Byte 98 ∷ []) ≡ Byte 97 ∷ bad ∷ Byte 98 ∷ []
bad_outside = refl

bad_inside : covered (Byte 35 ∷ bad ∷ Byte 98 ∷ []) ≡ Byte 32 ∷ bad ∷ Byte 32 ∷ []
bad_inside = refl

-- a bad cell of the second text of a join keeps its own place
comma_between : joined (bytes (97 ∷ [])) (Byte 98 ∷ bad ∷ []) ≡ Byte 97 ∷ Byte 44 ∷ Byte 98 ∷ bad ∷ []
comma_between = refl

no_comma : joined [] (Byte 98 ∷ bad ∷ []) ≡ Byte 98 ∷ bad ∷ []
no_comma = refl
