use Rattle.std.proofs.Common.{◌≡◌, ◌-◌, sym, ap, ◌∙◌}
use Rattle.grammar.specs.Classes.{digit}
use Rattle.grammar.specs.Decimal.{value, year_kind, baseline_year}
use Rattle.grammar.specs.Form.{between}
use Rattle.grammar.specs.Rule.{ends}
use Rattle.grammar.specs.Tokens.{some}
use Rattle.scanner.specs.Years.{year_held}
use Rattle.scanner.proofs.Digits.{digits_are, digits_as, some_within}
use Rattle.scanner.proofs.Years.{length_between}
use Rattle.scanner.proofs.cursor.Cursor.parse_baseline_year.Goals as goal

pub returns : goal.returns
returns g c =
    let t = c.args.self.now.text in
    let p = c.args.self.now.place in
    let q = c.parse_number.new.self.place in
    let read = c.in_ok-year.ensures in
    let are = digits_are year_held (ends (some digit) t p) (λ e. value (between t p e)) c.in_ok-year.year q read.1.0 in
    let v = value (between t p q) in
    let is : c.kind_of_year.result ≡ baseline_year (between t p q) =
    c.kind_of_year.ensures v are.1
    ∙ ap (year_kind v) ((λ i. c.place.ensures i - c.place-start.ensures i) ∙ sym (length_between t p q (some_within t p q are.0))) in
    (read.0, digits_as (λ e. baseline_year (between t p e)) (ends (some digit) t p) p q _ are.0 is)
