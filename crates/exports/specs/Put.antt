-- Records of numbers in a slice of numbers.
use Rattle.std.specs.Prelude.{ℕ, ◌*◌, ◌/◌, cond, List, length, nat_lt}
use Rattle.std.proofs.Math.Seq.{paste}

-- record n, where there is room for a whole one; all records are equally long
unfoldable pub put_slot : List ℕ → ℕ → List ℕ → List ℕ
put_slot words n ws = cond (nat_lt n (length words / length ws)) (paste words (n * length ws) ws (length ws)) words
