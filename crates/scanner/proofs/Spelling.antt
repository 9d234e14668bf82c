-- A spelled word, byte by byte.
use Rattle.std.proofs.Common.{◌≡◌, ℕ, ◌+◌, ◌<◌, ◌≤◌, true, false, List, length, get_or, drop, Some, None, ap, ◌∙◌}
use Rattle.std.proofs.lemmas.List.{drop_more, drop_all}
use Rattle.grammar.specs.Classes.{folds}
use Rattle.grammar.specs.Gives.{Gives}
use Rattle.grammar.specs.Rule.{ends, one, next}
use Rattle.grammar.specs.Tokens.{spelled}

spelled_more : (w t : List ℕ) (i p : ℕ) → i < length w → ends (spelled (drop i w)) t p ≡ next (ends (one (folds (get_or w i 0))) t p) (λ e. ends (spelled (drop (i + 1) w)) t e)
unfolding spelled
spelled_more w t i p l = ap (λ v. ends (spelled v) t p) (drop_more w i 0 l)

pub spelled_turn : (w t : List ℕ) (i p q : ℕ) → i < length w → Gives (ends (one (folds (get_or w i 0))) t p) true p q → ends (spelled (drop i w)) t p ≡ ends (spelled (drop (i + 1) w)) t q
spelled_turn w t i p q l h = spelled_more w t i p l ∙ ap (λ o. next o (λ e. ends (spelled (drop (i + 1) w)) t e)) h.0

pub spelled_miss : (w t : List ℕ) (i p q : ℕ) → i < length w → Gives (ends (one (folds (get_or w i 0))) t p) false p q → ends (spelled (drop i w)) t p ≡ None
spelled_miss w t i p q l h = spelled_more w t i p l ∙ ap (λ o. next o (λ e. ends (spelled (drop (i + 1) w)) t e)) h.0

pub spelled_done : (w t : List ℕ) (i p : ℕ) → length w ≤ i → ends (spelled (drop i w)) t p ≡ Some p
unfolding spelled
spelled_done w t i p l = ap (λ v. ends (spelled v) t p) (drop_all i w l)
