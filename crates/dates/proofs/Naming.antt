-- An optional name that is none of some words.
use Rattle.std.proofs.Common.{◌≡◌, ℕ, false, List, is_some, Some, None, Option, refl, ap, ◌∙◌, arith}
use Rattle.grammar.specs.Form.{part, Outcome, reads, bind, spot, skip, give, onward, first_of, spotted, decided}
use Rattle.grammar.specs.Forms.{named}
use Rattle.grammar.specs.Gives.{GivesValue}
use Rattle.grammar.specs.Rule.{Rule, ends, without}
use Rattle.grammar.specs.Tokens.{name, blanks}
use Rattle.grammar.specs.declared.query.Span.{Span}

none_of : (o : Option ℕ) → is_some o ≡ false → o ≡ None
none_of None h = refl
none_of (Some e) h = absurd (let z : ◌≡◌ {A = ℕ} 0 1 = cc in omega arith)

-- the name with its blanks, as an option
optioned : (x : Outcome Span) (r : Option Span) (p q : ℕ) → GivesValue x r p q → first_of (onward x (λ v e. Some (Some v, e))) (Some (None, p)) ≡ Some (r, q)
optioned x None p q g = ap (λ x. first_of (onward x (λ v e. Some (Some v, e))) (Some (None, p))) g.0 ∙ ap (λ n. Some (None, n)) g.1
optioned x (Some v) p q g = ap (λ x. first_of (onward x (λ v e. Some (Some v, e))) (Some (None, p))) g.0

-- where none of the words stands, the name
pub named_free : (words : Rule) (t : List ℕ) (p q : ℕ) (r : Option Span) → is_some (ends words t p) ≡ false → GivesValue (reads (bind (spot name) (λ n. skip blanks (give {k = part} n))) t p) r p q → reads (named words) t p ≡ Some (r, q)
named_free words t p q r h g =
    ap (λ o. first_of (onward (onward (spotted p (without o (ends name t p))) (λ v e. decided (ends blanks t e) (λ e. Some (v, e)) None)) (λ v e. Some (Some v, e))) (Some (None, p))) (none_of (ends words t p) h)
    ∙ optioned (reads (bind (spot name) (λ n. skip blanks (give {k = part} n))) t p) r p q g
