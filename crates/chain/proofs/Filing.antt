-- The records of a memory, and sums modulo 256.
use Rattle.std.proofs.Math.Nat.{zero-mul, suc-mul}
use Rattle.std.proofs.Common.{◌≡◌, ℕ, zero, suc, ◌+◌, ◌*◌, ◌/◌, ◌%◌, ◌<◌, List, [], ◌∷◌, length, take, drop, sum, Some, sym, refl, ap, ◌∙◌, arith}
use native.Mathlib.Nat.{mod-add-mod}
use Rattle.std.specs.List.{fold, slice_get}
use Rattle.std.specs.Simd.{first_chunks}
use Rattle.std.proofs.lemmas.List.{drop-drop}
use Rattle.chain.specs.Chains.{record_at}

-- a sum from a number on
from_head : (xs : List ℕ) (a b : ℕ) → fold (λ a x. a + x) (a + b) xs ≡ a + fold (λ a x. a + x) b xs
from_head [] a b = refl
from_head (x ∷ xs) a b = ap (λ n. fold (λ a x. a + x) n xs) (omega arith) ∙ from_head xs a (b + x)

-- a sum modulo 256, a byte at a time
wrapped_from : (xs : List ℕ) (a b : ℕ) → a ≡ b % 256 → fold (λ a x. (a + x) % 256) a xs ≡ fold (λ a x. a + x) b xs % 256
wrapped_from [] a b e = e
wrapped_from (x ∷ xs) a b e = wrapped_from xs ((a + x) % 256) (b + x) (ap (λ n. (n + x) % 256) e ∙ mod-add-mod b 256 x)

pub wrapped : (xs : List ℕ) (a : ℕ) → a < 256 → fold (λ a x. (a + x) % 256) a xs ≡ (a + sum xs) % 256
wrapped xs a h =
    wrapped_from xs a (a + 0) (omega arith) ∙ ap (λ n. n % 256) (from_head xs a 0)

-- the records as the library cuts them
nth_chunk : (n count : ℕ) (xs : List ℕ) (k : ℕ) → k < count → slice_get (first_chunks n count xs) k ≡ Some (take n (drop (k * n) xs))
nth_chunk n zero xs k h = absurd (omega arith)
nth_chunk n (suc count) xs zero h = ap (λ k. Some (take n (drop k xs))) (sym (zero-mul n))
nth_chunk n (suc count) xs (suc k) h =
    let at : k * n + n ≡ suc k * n = sym (suc-mul k n) in
    nth_chunk n count (drop n xs) k (omega arith) ∙ ap (λ l. Some (take n l)) (drop-drop (k * n) n xs ∙ ap (λ m. drop m xs) (omega (arith, at)))

nth_take : {X : Type 0} (n : ℕ) (xs : List X) (p : ℕ) → p < n → slice_get (take n xs) p ≡ slice_get xs p
nth_take zero xs p h = absurd (omega arith)
nth_take (suc n) [] p h = refl
nth_take (suc n) (x ∷ xs) zero h = refl
nth_take (suc n) (x ∷ xs) (suc p) h = nth_take n xs p (omega arith)

pub nth_record : (memory : List ℕ) (count k : ℕ) → k < count → k < length memory / 64 → slice_get (take count (first_chunks 64 (length memory / 64) memory)) k ≡ Some (record_at memory k)
nth_record memory count k h there =
    nth_take count (first_chunks 64 (length memory / 64) memory) k h ∙ nth_chunk 64 (length memory / 64) memory k there
