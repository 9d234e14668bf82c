-- White space at an end of a list of codes is no longer than the list.
use Rattle.std.proofs.Common.{◌≡◌, ℕ, zero, suc, ◌≤◌, List, [], ◌∷◌, reverse, length, get_or, refl, arith}
use Rattle.std.proofs.lemmas.List.{length-reverse}
use Rattle.std.proofs.lemmas.Bool.Decides.{nat_tests}
use Rattle.texts.specs.Spaces.{space_back, back_narrow, on_space, leading, behind}

-- a character does not pass the end of its list
back_at_end : (c : ℕ) → space_back c 256 256 ≤ 1
back_at_end c = grind (arith, nat_tests)

back_near_end : (c d : ℕ) → space_back c d 256 ≤ 2
back_near_end c d = grind (arith, nat_tests)

back_fits : (c : ℕ) (cs : List ℕ) → space_back c (get_or cs 0 256) (get_or cs 1 256) ≤ suc (length cs)
back_fits c [] = back_at_end c
back_fits c (d ∷ []) = back_near_end c d
back_fits c (d ∷ e ∷ cs) = omega (arith, back_narrow c d e)

on_space_lem : (n m : ℕ) (go : ℕ → ℕ) → ((k : ℕ) → n ≡ suc k → go k ≤ m) → on_space n go ≤ m
on_space_lem zero m go f = omega arith
on_space_lem (suc k) m go f = f k refl

leading_within : (space : ℕ → ℕ → ℕ → ℕ) → ((c : ℕ) (cs : List ℕ) → space c (get_or cs 0 256) (get_or cs 1 256) ≤ suc (length cs)) → (cs : List ℕ) (k : ℕ) → k ≤ length cs → leading space cs k ≤ length cs
leading_within space fits [] k h = h
leading_within space fits (c ∷ cs) zero h =
    on_space_lem (space c (get_or cs 0 256) (get_or cs 1 256)) (suc (length cs)) (λ k. suc (leading space cs k)) (λ k e. let f = fits c cs in let rest = leading_within space fits cs k (omega arith) in omega arith)
leading_within space fits (c ∷ cs) (suc k) h = let rest = leading_within space fits cs k (omega arith) in omega arith

pub behind_within : (cs : List ℕ) → behind cs ≤ length cs
behind_within cs = omega (arith, leading_within space_back back_fits (reverse cs) 0 (omega arith), length-reverse cs)
