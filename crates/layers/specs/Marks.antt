-- A set of places as the bits of words of 64 bits.
use Rattle.std.specs.Prelude.{ℕ, ◌/◌, ◌%◌, ◌^◌, Bool, List, ◌==◌, slice_index}

-- the bit of a number at a place
abbrev pub bit : ℕ → ℕ → ℕ
bit n k = n / 2 ^ k % 2

-- whether a place is in the set
abbrev pub marked : List ℕ → ℕ → Bool
marked words q = bit (slice_index words (q / 64)) (q % 64) == 1
