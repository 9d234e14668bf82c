-- A set of places in words of bits: none, and one more.
use Rattle.std.proofs.Common.{◌≡◌, ℕ, zero, suc, ◌+◌, ◌-◌, ◌*◌, ◌/◌, ◌%◌, ◌^◌, ◌<◌, Bool, true, false, ◌&&◌, ◌||◌, eqb, ◌≢◌, List, length, get_or, set, replicate, sym, refl, ap, ◌∙◌, ⊎_elim, pow-suc, arith, lit<, pow_pos, pow-add}
use native.Mathlib.Nat.{div-eq_of_lt, div_self, mul-mod_left}
use lib.Bits.{bit_or, or_shr, or_mod, or_zero_r}
use lib.Pow.{pow-lt, shl-shr}
use Rattle.std.proofs.lemmas.Nat.{mod_below, one_shl}
use Rattle.std.proofs.lemmas.List.{get_or-set_same, get_or-set_other, get_or-replicate, get_or_past, length-replicate}
use Rattle.std.proofs.lemmas.Bool.{cases_eq, cases_lt, cases_order, eq-eqb, ne_eqb}
use Rattle.layers.specs.Marks.{bit, marked}

-- a power of two has one bit
own_bit : (k : ℕ) → bit (2 ^ k) k ≡ 1
own_bit k = ap (λ n. n % 2) (div_self (pow_pos k))

low_bit : (j d : ℕ) → bit (2 ^ (suc d + j)) j ≡ 0
low_bit j d =
    ap (λ n. n / 2 ^ j % 2) (pow-add 2 (suc d) j)
    ∙ (ap (λ n. n % 2) (shl-shr (2 ^ suc d) j) ∙ (ap (λ n. n % 2) (pow-suc 2 d) ∙ mul-mod_left (2 ^ d) 2))

other_bit : (k j : ℕ) → j ≢ k → bit (2 ^ k) j ≡ 0
other_bit k j h =
    ⊎_elim (λ same. absurd (h same)) (⊎_elim (λ low. let e : k ≡ suc (k - j - 1) + j = omega arith in ap (λ n. bit (2 ^ n) j) e ∙ low_bit j (k - j - 1)) (λ high. ap (λ n. n % 2) (div-eq_of_lt (pow-lt high)))) (cases_order j k)

bit_of_or : (m n j : ℕ) → bit (bit_or m n) j ≡ bit_or (bit m j) (bit n j)
bit_of_or m n j = ap (λ n. n % 2) (or_shr m n j) ∙ or_mod (m / 2 ^ j) (n / 2 ^ j) 1

or_one : (x : ℕ) → x < 2 → bit_or x 1 ≡ 1
or_one zero h = refl
or_one (suc zero) h = refl
or_one (suc (suc x)) h = absurd (omega arith)

bit_below : (n k : ℕ) → bit n k < 2
bit_below n k = mod_below (n / 2 ^ k) 2 (lit< tt)

same_place : (p q : ℕ) → q / 64 ≡ p / 64 → q % 64 ≡ p % 64 → q ≡ p
same_place p q d m = omega arith

-- one more bit in a word
with_bit : (w p q : ℕ) → q / 64 ≡ p / 64 → eqb (bit (bit_or w (2 ^ (p % 64))) (q % 64)) 1 ≡ (eqb q p || eqb (bit w (q % 64)) 1)
with_bit w p q d =
    ⊎_elim (λ m. ap (λ n. eqb n 1) (bit_of_or w (2 ^ (p % 64)) (q % 64) ∙ (ap (λ k. bit_or (bit w (q % 64)) (bit (2 ^ (p % 64)) k)) m ∙ (ap (bit_or (bit w (q % 64))) (own_bit (p % 64)) ∙ or_one (bit w (q % 64)) (bit_below w (q % 64))))) ∙ sym (ap (λ t. t || eqb (bit w (q % 64)) 1) (eq-eqb q p (same_place p q d m)))) (λ m. ap (λ n. eqb n 1) (bit_of_or w (2 ^ (p % 64)) (q % 64) ∙ (ap (bit_or (bit w (q % 64))) (other_bit (p % 64) (q % 64) m) ∙ or_zero_r (bit w (q % 64)))) ∙ sym (ap (λ t. t || eqb (bit w (q % 64)) 1) (ne_eqb q p (λ e. m (ap (λ n. n % 64) e))))) (cases_eq (q % 64) (p % 64))

and_yes : (t wanted : Bool) → wanted ≡ true → t ≡ (t && wanted)
and_yes true wanted w = sym w
and_yes false wanted w = refl

-- one more place in the set
marked_more : (words : List ℕ) (p q : ℕ) → length words ≡ 256 → p < 16384 → marked (set words (p / 64) (bit_or (get_or words (p / 64) 0) ((1 * 2 ^ (p % 64)) % 18446744073709551616))) q ≡ (eqb q p || marked words q)
marked_more words p q len h =
    let w = get_or words (p / 64) 0 in
    let v = bit_or w ((1 * 2 ^ (p % 64)) % 18446744073709551616) in
    let is : v ≡ bit_or w (2 ^ (p % 64)) = ap (bit_or w) (one_shl (p % 64) 64 (mod_below p 64 (lit< tt))) in
    let at : p / 64 < length words = omega arith in
    ⊎_elim (λ d. ap (λ k. eqb (bit (get_or (set words (p / 64) v) k 0) (q % 64)) 1) d ∙ (ap (λ x. eqb (bit x (q % 64)) 1) (get_or-set_same words (p / 64) v 0 at ∙ is) ∙ (with_bit w p q d ∙ ap (λ k. eqb q p || eqb (bit (get_or words k 0) (q % 64)) 1) (sym d)))) (λ d. ap (λ x. eqb (bit x (q % 64)) 1) (get_or-set_other words (p / 64) (q / 64) v 0 d) ∙ sym (ap (λ t. t || marked words q) (ne_eqb q p (λ e. d (ap (λ n. n / 64) e))))) (cases_eq (q / 64) (p / 64))

pub marked_wanted : (words : List ℕ) (p q : ℕ) (wanted : Bool) → length words ≡ 256 → p < 16384 → wanted ≡ true → marked (set words (p / 64) (bit_or (get_or words (p / 64) 0) ((1 * 2 ^ (p % 64)) % 18446744073709551616))) q ≡ ((eqb q p && wanted) || marked words q)
marked_wanted words p q wanted len h w =
    marked_more words p q len h ∙ ap (λ t. t || marked words q) (and_yes (eqb q p) wanted w)

-- the empty set
zeros : (n i : ℕ) → get_or {A = ℕ} (replicate n 0) i 0 ≡ 0
zeros n i =
    ⊎_elim (λ h. get_or-replicate n i 0 0 h) (λ h. get_or_past (replicate n 0) i 0 (omega (arith, length-replicate {A = ℕ} n 0))) (cases_lt i n)

no_bit : (k : ℕ) → bit 0 k ≡ 0
no_bit k = ap (λ n. n % 2) (div-eq_of_lt (pow_pos k))

pub marked_none : (words : List ℕ) (q : ℕ) → get_or words (q / 64) 0 ≡ 0 → marked words q ≡ false
marked_none words q e = ap (λ w. eqb (bit w (q % 64)) 1) e ∙ ap (λ n. eqb n 1) (no_bit (q % 64))

pub none_marked : (q : ℕ) → marked (replicate 256 0) q ≡ false
none_marked q = marked_none (replicate 256 0) q (zeros 256 (q / 64))
