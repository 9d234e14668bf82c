-- Years: how many digits one has, and years with a sign.
use Rattle.std.proofs.Common.{◌≡◌, ℕ, ◌-◌, ◌%◌, ◌^◌, ◌≤◌, List, length, drop, ℤ, pos, ◌-ℤ◌, neg_ℤ, sym, refl, ap, ◌∙◌, arith, length-drop, w32, SFits, to_z, of_z}
use Rattle.std.specs.Int.{int_wrap}
use Rattle.std.proofs.lemmas.List.{length-take-le}
use Rattle.std.proofs.lemmas.Int.{wrapping_neg_is, int_wrap-sub_right, ints}
use Rattle.grammar.specs.Form.{between}

pub length_between : (t : List ℕ) (s p : ℕ) → p ≤ length t → length (between t s p) ≡ p - s
length_between t s p l = length-take-le (p - s) (drop s t) (omega (arith, length-drop s t))

-- the bits of a wrapped value, read with a sign, are the value wrapped
pub signed_value : (v : ℕ) → to_z w32 (v % 4294967296) ≡ int_wrap w32 (pos v)
unfolding int_wrap
signed_value v = refl

neg_as_sub : (z : ℤ) → neg_ℤ z ≡ pos 0 -ℤ z
neg_as_sub z = omega (arith, ints)

pub signed_negated : (v : ℕ) (y r : ℤ) → SFits w32 y → y ≡ to_z w32 (v % 4294967296) → r ≡ to_z w32 ((2 ^ 32 - of_z w32 y) % 2 ^ 32) → r ≡ int_wrap w32 (neg_ℤ (pos v))
signed_negated v y r f e h =
    h ∙ (wrapping_neg_is w32 y f
    ∙ (ap (λ z. int_wrap w32 (neg_ℤ z)) (e ∙ signed_value v)
    ∙ (ap (int_wrap w32) (neg_as_sub (int_wrap w32 (pos v)))
    ∙ (int_wrap-sub_right w32 (pos 0) (pos v)
    ∙ ap (int_wrap w32) (sym (neg_as_sub (pos v)))))))
