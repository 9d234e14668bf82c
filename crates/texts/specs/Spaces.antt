-- White space characters, as UTF-8 spells them, at the ends of a list of codes.
use Rattle.std.specs.Prelude.{ℕ, zero, suc, ◌≤◌, Bool, true, false, cond, ◌&&◌, ◌||◌, List, [], ◌∷◌, reverse, Some, None, Option, ◌==◌, nat_le, slice_index_or}
use Rattle.std.proofs.Common.{lit≤}

-- a white space character of one cell: U+0009 to U+000D, U+0020
abbrev pub single : ℕ → Bool
single a = (nat_le 0x09 a && nat_le a 0x0D) || a == 0x20

-- of two cells: U+0085, U+00A0
abbrev pub double : ℕ → ℕ → Bool
double a b = a == 0xC2 && (b == 0x85 || b == 0xA0)

-- of three cells that begin with E2 80: U+2000 to U+200A, U+2028, U+2029, U+202F
abbrev pub general : ℕ → Bool
general c = (nat_le 0x80 c && nat_le c 0x8A) || (c == 0xA8 || (c == 0xA9 || c == 0xAF))

-- of three cells: U+1680, those above, U+205F, U+3000
abbrev pub triple : ℕ → ℕ → ℕ → Bool
triple a b c =
    (a == 0xE1 && (b == 0x9A && c == 0x80))
    || ((a == 0xE2 && (b == 0x80 && general c))
    || ((a == 0xE2 && (b == 0x81 && c == 0x9F))
    || (a == 0xE3 && (b == 0x80 && c == 0x80))))

-- how many cells a white space character takes, by whether one, two or three of them spell it; 0 where none do
abbrev pub space_width : Bool → Bool → Bool → ℕ
space_width one two three = cond one 1 (cond two 2 (cond three 3 0))

pub width_narrow : (one two three : Bool) → space_width one two three ≤ 3
width_narrow true two three = lit≤ tt
width_narrow false true three = lit≤ tt
width_narrow false false true = lit≤ tt
width_narrow false false false = lit≤ tt

-- a width, or none where it is 0
abbrev pub wide : ℕ → Option ℕ
wide zero = None
wide (suc others) = Some (suc others)

-- how many cells the white space character takes that begins with three codes; 0 where there is none
abbrev pub space_from : ℕ → ℕ → ℕ → ℕ
space_from a b c = space_width (single a) (double a b) (triple a b c)

-- the same of the one that ends with three codes, the last code first
abbrev pub space_back : ℕ → ℕ → ℕ → ℕ
space_back c b a = space_width (single c) (double b c) (triple a b c)

pub front_narrow : (a b c : ℕ) → space_from a b c ≤ 3
front_narrow a b c = width_narrow (single a) (double a b) (triple a b c)

pub back_narrow : (c b a : ℕ) → space_back c b a ≤ 3
back_narrow c b a = width_narrow (single c) (double b c) (triple a b c)

-- none where the character takes 0 cells, else what its other cells lead to
abbrev pub on_space : ℕ → (ℕ → ℕ) → ℕ
on_space zero go = 0
on_space (suc others) go = go others

-- how many cells the white space in front of a list takes, where the character at hand has `others` still to come
-- (none at the end of the list: a character ends within it)
abbrev pub leading : (ℕ → ℕ → ℕ → ℕ) → List ℕ → ℕ → ℕ
leading space [] others = others
leading space (c ∷ cs) zero = on_space (space c (slice_index_or cs 0 256) (slice_index_or cs 1 256)) (λ others. suc (leading space cs others))
leading space (c ∷ cs) (suc others) = suc (leading space cs others)

-- how many cells the white space in front takes
abbrev pub in_front : List ℕ → ℕ
in_front cs = leading space_from cs 0

-- how many cells the white space behind takes
abbrev pub behind : List ℕ → ℕ
behind cs = leading space_back (reverse cs) 0
