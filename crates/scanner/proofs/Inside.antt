-- What is read as a byte stands in the text, and so its place is small.
use Rattle.std.proofs.Common.{◌≡◌, ℕ, ◌+◌, ◌<◌, ◌≤◌, Bool, true, false, cond, List, length, get_or, is_some, Some, None, sym, refl, ap, ◌∙◌, ⊎_elim, arith, w64, Fits}
use lib.ListN.{length-map}
use Rattle.std.proofs.lemmas.Bool.{cases_lt, both_ways}
use Rattle.std.proofs.lemmas.List.{get_or_past}
use Rattle.grammar.specs.Classes.{is, digit, numeral}
use Rattle.grammar.specs.Rule.{ends, look, next, or_else}
use Rattle.grammar.specs.Tokens.{inner}
use Rattle.texts.specs.Codes.{code, codes}
use Rattle.texts.specs.declared.cell.Cell.{Cell}
use Rattle.scanner.specs.Within.{within}
use Rattle.scanner.specs.declared.class.Class.{Class}
use Rattle.scanner.specs.declared.class.Class.TheVariants.{Letter, Digit, Blank, Wordly, Naming, Featured, Numeral, Present}

pub none_within : (k : Class) → within k 256 ≡ false
none_within Letter = refl
none_within Digit = refl
none_within Blank = refl
none_within Wordly = refl
none_within Naming = refl
none_within Featured = refl
none_within Numeral = refl
none_within Present = refl

-- a code that passes a test which 256 does not pass stands in the text
pub inside : (f : ℕ → Bool) (t : List ℕ) (i : ℕ) → f 256 ≡ false → f (get_or t i 256) ≡ true → i < length t
inside f t i n e = ⊎_elim (λ h. h) (λ h. absurd (both_ways _ (ap f (get_or_past t i 256 h) ∙ n) e)) (cases_lt i (length t))

-- so does one that is known and below 256
pub inside_is : (g : ℕ → ℕ) (t : List ℕ) (i b : ℕ) → g 256 ≡ 256 → g (get_or t i 256) ≡ b → b < 256 → i < length t
inside_is g t i b n e l = ⊎_elim (λ h. h) (λ h. absurd (omega (arith, sym e ∙ ap g (get_or_past t i 256 h) ∙ n))) (cases_lt i (length t))

pub next_fits : (cs : List Cell) (i : ℕ) → length cs ≤ 16384 → i < length (codes cs) → Fits w64 (i + 1)
next_fits cs i h l = omega (arith, length-map cs code)

-- a version goes on only within the text
pub inner_inside : (t : List ℕ) (p : ℕ) → is_some (ends inner t p) ≡ true → p < length t
inner_inside t p h =
    inside (λ x. is_some (or_else (cond (digit x) (Some p) None) (next (cond (is 46 x) (Some (p + 1)) None) (λ e. ends (look numeral) t e)))) t p refl h
