-- Records of numbers in a slice of numbers, one behind another.
use Rattle.std.specs.Prelude.{ℕ, ◌+◌, ◌-◌, cond, List, [], ◌∷◌, nat_lt}
use Rattle.exports.specs.Put.{put_slot}

-- records one behind another, the first of them number n
abbrev pub put_slots : List ℕ → ℕ → List (List ℕ) → List ℕ
put_slots words n [] = words
put_slots words n (r ∷ rs) = put_slots (put_slot words n r) (n + 1) rs

-- the separator before query n, from the end of one raw up to the start of the next; the first query has none
abbrev pub put_before : List ℕ → ℕ → ℕ → ℕ → List ℕ
put_before words n end start = cond (nat_lt 0 n) (put_slot words (n - 1) (end ∷ start ∷ [])) words
