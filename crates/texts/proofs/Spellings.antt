-- Samples of white space at the ends of codes.
use Rattle.std.proofs.Common.{◌≡◌, [], ◌∷◌, refl}
use Rattle.texts.specs.Spaces.{in_front, behind}

-- a blank, U+00A0 and U+3000 before a letter
three_in_front : in_front (0x20 ∷ 0xC2 ∷ 0xA0 ∷ 0xE3 ∷ 0x80 ∷ 0x80 ∷ 0x41 ∷ []) ≡ 6
three_in_front = refl

-- the same behind it
three_behind : behind (0x41 ∷ 0x20 ∷ 0xC2 ∷ 0xA0 ∷ 0xE3 ∷ 0x80 ∷ 0x80 ∷ []) ≡ 6
three_behind = refl

-- U+200A is white space, U+200B is not
hair_space : in_front (0xE2 ∷ 0x80 ∷ 0x8A ∷ 0xE2 ∷ 0x80 ∷ 0x8B ∷ []) ≡ 3
hair_space = refl

no_width : behind (0xE2 ∷ 0x80 ∷ 0x8A ∷ 0xE2 ∷ 0x80 ∷ 0x8B ∷ []) ≡ 0
no_width = refl

-- a spelling that breaks off, and a bad cell, are none
broken_off : in_front (0x09 ∷ 0xE2 ∷ 0x80 ∷ []) ≡ 1
broken_off = refl

tail_alone : behind (0x80 ∷ 0x85 ∷ []) ≡ 0
tail_alone = refl

bad_cell : in_front (0x20 ∷ 256 ∷ 0x20 ∷ []) ≡ 1
bad_cell = refl
