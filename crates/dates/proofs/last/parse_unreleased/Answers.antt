use Rattle.std.proofs.Common.{◌≡◌, true, rules, codes, Option, Some, None, sym, ap, ◌∙◌}
use Rattle.grammar.specs.Form.{Form, atom, bind, give, skip}
use Rattle.grammar.specs.Forms.{named, unreleased}
use Rattle.grammar.specs.Tokens.{word, blanks, plural, versions}
use Rattle.grammar.specs.declared.query.QueryAtom.TheVariants.{Unreleased}
use Rattle.grammar.specs.declared.query.Span.{Span}
use Rattle.scanner.specs.Position.{Position, Takes, Yields}
use Rattle.scanner.proofs.Onward.{gives, behind_rule, missed_rule, behind_any}
use Rattle.dates.proofs.last.parse_unreleased.Goals as goal

-- behind the name
abbrev rest : Option Span → Form atom
rest n = skip (plural (codes "version")) (give {k = atom} (Unreleased n))

-- up to the name
up_to : (p from a b d : Position) (n : Option Span) → from ≡ p → Takes (word (codes "unreleased")) true from a → Takes blanks true a b → Yields (named versions) n b d → gives unreleased p ≡ gives (rest n) d
up_to p from a b d n h i j k =
    ap (gives unreleased) (sym h)
    ∙ (behind_rule (word (codes "unreleased")) (skip blanks (bind (named versions) rest)) from a i
    ∙ (behind_rule blanks (bind (named versions) rest) a b j
    ∙ behind_any (named versions) rest n b d k))

pub returns : goal.returns
returns g c =
    let n = c.parse_unreleased_name-name.result in
    let d = c.parse_unreleased_name-name.new.cursor in
    let chain : gives unreleased c.args.cursor.now ≡ Some (Unreleased n, c.match_plural_keyword.new.self.place) =
    up_to _ _ _ _ d n c.begin-trial.ensures.here c.if-not-match_keyword.ensures c.if-not-skip_whitespace1.ensures c.parse_unreleased_name-name.ensures
    ∙ behind_rule (plural (codes "version")) (give {k = atom} (Unreleased n)) d c.match_plural_keyword.new.self c.if-not-match_plural_keyword.ensures in
    search rules

pub returns-then-not-match_plural_keyword : goal.returns-then-not-match_plural_keyword
returns-then-not-match_plural_keyword g c =
    let n = c.parse_unreleased_name-name.result in
    let d = c.parse_unreleased_name-name.new.cursor in
    let chain : gives unreleased c.args.cursor.now ≡ None =
    up_to _ _ _ _ d n c.begin-trial.ensures.here c.if-not-match_keyword.ensures c.if-not-skip_whitespace1.ensures c.parse_unreleased_name-name.ensures
    ∙ missed_rule (plural (codes "version")) (give {k = atom} (Unreleased n)) d c.match_plural_keyword.new.self c.if-not-match_plural_keyword.ensures in
    search rules
