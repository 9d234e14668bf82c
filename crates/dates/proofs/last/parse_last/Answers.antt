use Rattle.std.proofs.Common.{◌≡◌, ℕ, Bool, true, rules, codes, Option, Some, None, sym, ap, ◌∙◌}
use Rattle.grammar.specs.Form.{Form, atom, bind, give, skip, whether}
use Rattle.grammar.specs.Forms.{named, counted, last}
use Rattle.grammar.specs.Rule.{then}
use Rattle.grammar.specs.Tokens.{word, blanks, plural, reserved}
use Rattle.grammar.specs.declared.query.QueryAtom.TheVariants.{Last}
use Rattle.grammar.specs.declared.query.Span.{Span}
use Rattle.scanner.specs.Position.{Position, Takes, Reads, Yields}
use Rattle.scanner.proofs.Onward.{gives, behind_rule, missed_rule, behind_form, behind_any, behind_whether}
use Rattle.dates.proofs.last.parse_last.Goals as goal

-- behind `major`, the name and the count
abbrev versions : ℕ → Option Span → Bool → Form atom
versions count n major = skip (plural (codes "version")) (give {k = atom} (Last count major n))

abbrev majors : ℕ → Option Span → Form atom
majors count n = bind (whether (then (word (codes "major")) blanks)) (versions count n)

abbrev names : ℕ → Form atom
names count = skip blanks (bind (named reserved) (majors count))

-- up to the count, and from there up to the plural
counted_to : (p from a b d : Position) (count : ℕ) → from ≡ p → Takes (word (codes "last")) true from a → Takes blanks true a b → Reads counted (Some count) b d → gives last p ≡ gives (names count) d
counted_to p from a b d count h i j k =
    ap (gives last) (sym h)
    ∙ (behind_rule (word (codes "last")) (skip blanks (bind counted names)) from a i
    ∙ (behind_rule blanks (bind counted names) a b j
    ∙ behind_form counted names count b d k))

versions_to : (a b d e : Position) (count : ℕ) (n : Option Span) (major : Bool) → Takes blanks true a b → Yields (named reserved) n b d → Takes (then (word (codes "major")) blanks) major d e → gives (names count) a ≡ gives (versions count n major) e
versions_to a b d e count n major i j k =
    behind_rule blanks (bind (named reserved) (majors count)) a b i
    ∙ (behind_any (named reserved) (majors count) n b d j
    ∙ behind_whether (then (word (codes "major")) blanks) (versions count n) major d e k)

pub returns : goal.returns
returns g c =
    let count = c.in_ok-count.count in
    let n = c.parse_last_name-name.result in
    let major = c.match_leading_keyword-major.result in
    let e = c.match_leading_keyword-major.new.self in
    let chain : gives last c.args.cursor.now ≡ Some (Last count major n, c.match_plural_keyword.new.self.place) =
    counted_to _ _ _ _ _ count c.begin-trial.ensures.here c.if-not-match_keyword.ensures c.if-not-skip_whitespace1.ensures c.in_ok-count.ensures
    ∙ (versions_to _ _ _ e count n major c.if-not-skip_whitespace1-2.ensures c.parse_last_name-name.ensures c.match_leading_keyword-major.ensures
    ∙ behind_rule (plural (codes "version")) (give {k = atom} (Last count major n)) e c.match_plural_keyword.new.self c.if-not-match_plural_keyword.ensures) in
    search rules

pub returns-then-not-match_plural_keyword : goal.returns-then-not-match_plural_keyword
returns-then-not-match_plural_keyword g c =
    let count = c.in_ok-count.count in
    let n = c.parse_last_name-name.result in
    let major = c.match_leading_keyword-major.result in
    let e = c.match_leading_keyword-major.new.self in
    let chain : gives last c.args.cursor.now ≡ None =
    counted_to _ _ _ _ _ count c.begin-trial.ensures.here c.if-not-match_keyword.ensures c.if-not-skip_whitespace1.ensures c.in_ok-count.ensures
    ∙ (versions_to _ _ _ e count n major c.if-not-skip_whitespace1-2.ensures c.parse_last_name-name.ensures c.match_leading_keyword-major.ensures
    ∙ missed_rule (plural (codes "version")) (give {k = atom} (Last count major n)) e c.match_plural_keyword.new.self c.if-not-match_plural_keyword.ensures) in
    search rules
