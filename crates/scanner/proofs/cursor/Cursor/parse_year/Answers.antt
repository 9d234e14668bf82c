use Rattle.std.proofs.Common.{◌≡◌, ℕ, Bool, List, ℤ, ◌-◌, ◌%◌, sym, ap, ◌∙◌, w32, SFits, to_z, of_z, rules}
use Rattle.std.proofs.lemmas.Int.{to_z-of_z}
use Rattle.grammar.specs.Classes.{digit}
use Rattle.grammar.specs.Decimal.{value, signed_year}
use Rattle.grammar.specs.Form.{between}
use Rattle.grammar.specs.Rule.{ends}
use Rattle.grammar.specs.Tokens.{some}
use Rattle.scanner.proofs.Digits.{digits_are, digits_as}
use Rattle.scanner.proofs.Years.{signed_value, signed_negated}
use Rattle.scanner.proofs.cursor.Cursor.parse_year.Goals as goal

abbrev years : Bool → List ℕ → ℕ → ℕ → ℤ
years negative t p e = signed_year negative (between t p e)

pub returns-then-negative : goal.returns-then-negative
returns-then-negative g c =
    let t = c.args.self.now.text in
    let p = c.args.self.now.place in
    let q = c.parse_u32.new.self.place in
    let read = c.in_ok-parse_u32.ensures in
    let are = digits_are (λ v. v % 4294967296) (ends (some digit) t p) (λ e. value (between t p e)) c.in_ok-parse_u32.field-0 q read.1.0 in
    let y = c.cast_signed-year.result in
    let r = c.wrapping_neg.result in
    let f : SFits w32 r = search rules in
    let k : SFits w32 y = search rules in
    let h : r ≡ to_z w32 ((4294967296 - of_z w32 y) % 4294967296) = c.wrapping_neg.ensures ∙ ap (λ z. to_z w32 ((4294967296 - of_z w32 z) % 4294967296)) (to_z-of_z w32 y k) in
    let is : to_z w32 (of_z w32 r) ≡ years c.args.negative t p q =
    to_z-of_z w32 r f
    ∙ (signed_negated (value (between t p q)) y r k (c.cast_signed-year.ensures ∙ ap (to_z w32) are.1) h
    ∙ sym (ap (λ b. years b t p q) c.if-negative.true)) in
    (read.0, digits_as (years c.args.negative t p) (ends (some digit) t p) p q _ are.0 is)

pub returns-else-negative : goal.returns-else-negative
returns-else-negative g c =
    let t = c.args.self.now.text in
    let p = c.args.self.now.place in
    let q = c.parse_u32.new.self.place in
    let read = c.in_ok-parse_u32.ensures in
    let are = digits_are (λ v. v % 4294967296) (ends (some digit) t p) (λ e. value (between t p e)) c.in_ok-parse_u32.field-0 q read.1.0 in
    let y = c.cast_signed-year.result in
    let k : SFits w32 y = search rules in
    let is : to_z w32 (of_z w32 y) ≡ years c.args.negative t p q =
    to_z-of_z w32 y k
    ∙ (c.cast_signed-year.ensures ∙ (ap (to_z w32) are.1
    ∙ (signed_value (value (between t p q))
    ∙ sym (ap (λ b. years b t p q) c.if-negative.false)))) in
    (read.0, digits_as (years c.args.negative t p) (ends (some digit) t p) p q _ are.0 is)
