-- The query forms, the query and the separator.
use Rattle.std.specs.Prelude.{ℕ, ◌+◌, ◌*◌, Bool, true, false, cond, List, [], ◌∷◌, ℤ, pos, Some, None, codes, Option, slice_index_or}
use Rattle.std.specs.Option.{unwrap_or}
use Rattle.grammar.specs.declared.query.Comparator.TheVariants.{Less, LessOrEqual, Greater, GreaterOrEqual}
use Rattle.grammar.specs.declared.query.VersionRange.TheVariants.{Bounded, Unbounded, Accurate, Preview}
use Rattle.grammar.specs.declared.query.Stats.TheVariants.{Global, Region}
use Rattle.grammar.specs.declared.query.SupportKind.{SupportKind}
use Rattle.grammar.specs.declared.query.SupportKind.TheVariants.{Fully, Partially}
use Rattle.grammar.specs.declared.query.BaselineKind.{BaselineKind}
use Rattle.grammar.specs.declared.query.BaselineKind.TheVariants.{NewlyAvailable, NewlyAvailableOnDate, WidelyAvailable, WidelyAvailableOnDate}
use Rattle.grammar.specs.declared.query.QueryAtom.TheVariants.{Last, Unreleased, Years, Since, Percentage, Cover, Supports, Electron, Node, Browser, Baseline, FirefoxESR, OperaMini, CurrentNode, MaintainedNode, Phantom, Defaults, Dead, Unknown}
use Rattle.grammar.specs.Classes.{folds, letter, digit, blank}
use Rattle.grammar.specs.Decimal.{value, count, calendar, signed_year, baseline_year}
use Rattle.grammar.specs.Rule.{Rule, one, look, then, else, unless, ends}
use Rattle.grammar.specs.Tokens.{byte, maybe, some, spelled, word, plural, blanks, any_blanks, numeric, version, name, feature, region, versions, reserved, unknown_run}
use Rattle.grammar.specs.Form.{Kind, part, flag, number, year, option, date, comparator, range, stats, baseline, atom, query, Form, give, fail, spot, read, bind, when, first, skip, optional, whether}

-- `<`, `<=`, `>` or `>=`, the longer first
abbrev pub comparing : Form comparator
comparing =
    when (byte 60) (when (byte 61) (give LessOrEqual) (give Less))
    (when (byte 62) (when (byte 61) (give GreaterOrEqual) (give Greater)) fail)

-- blanks, version, any blanks, `-`, any blanks, version
abbrev pub bounded : Form range
bounded = skip blanks (bind (spot version) (λ from. skip any_blanks (skip (byte 45) (skip any_blanks (bind (spot version) (λ to. give (Bounded from to)))))))

-- any blanks, comparator, any blanks, version
abbrev pub unbounded : Form range
unbounded = skip any_blanks (bind comparing (λ c. skip any_blanks (bind (spot version) (λ v. give (Unbounded c v)))))

-- blanks, version
abbrev pub accurate : Form range
accurate = skip blanks (bind (spot version) (λ v. give (Accurate v)))

abbrev pub ranging : Form range
ranging = first bounded (first unbounded accurate)

-- blanks, `in`, blanks, region; without `in` behind them, any blanks
abbrev pub tail : Form stats
tail = when (then blanks (word (codes "in"))) (skip blanks (bind (spot region) (λ r. give (Region r)))) (skip any_blanks (give Global))

-- comparator, any blanks, number, `%` and tail
abbrev pub percentage : Form atom
percentage = bind comparing (λ c. skip any_blanks (bind (spot numeric) (λ n. skip (byte 37) (bind tail (λ s. give (Percentage c n s))))))

-- `cover`, number, `%` and tail
abbrev pub cover : Form atom
cover = skip (word (codes "cover")) (skip blanks (bind (spot numeric) (λ n. skip (byte 37) (bind tail (λ s. give (Cover n s))))))

-- a name and blanks, if there; not one of the words given
abbrev pub named : Rule → Form (option part)
named words = optional (bind (spot (unless words name)) (λ n. skip blanks (give n)))

-- `last`, number, plural `year`
abbrev pub years : Form atom
years = skip (word (codes "last")) (skip blanks (bind (spot numeric) (λ n. skip blanks (skip (plural (codes "year")) (give (Years n))))))

-- digits, as a count
abbrev pub counted : Form number
counted = read (some digit) count

-- `last`, count, optional name, optional `major`, plural `version`
abbrev pub last : Form atom
last = skip (word (codes "last")) (skip blanks (bind counted (λ c. skip blanks (bind (named reserved) (λ n. bind (whether (then (word (codes "major")) blanks)) (λ m. skip (plural (codes "version")) (give (Last c m n))))))))

-- `unreleased`, optional name, plural `version`
abbrev pub unreleased : Form atom
unreleased = skip (word (codes "unreleased")) (skip blanks (bind (named versions) (λ n. skip (plural (codes "version")) (give (Unreleased n)))))

-- an optional sign and digits
abbrev pub since_year : Form year
since_year = when (byte 45) (read (some digit) (signed_year true)) (skip (maybe (byte 43)) (read (some digit) (signed_year false)))

-- digits, as a month or a day
abbrev pub calendared : Form number
calendared = read (some digit) calendar

-- an optional `-` with optional digits, 1 without digits
abbrev pub since_part : Form number
since_part = when (byte 45) (first calendared (give 1)) (give 1)

-- `since`, one blank, year, and directly month and day
abbrev pub since : Form atom
since = skip (word (codes "since")) (skip (one blank) (bind since_year (λ y. bind since_part (λ m. bind since_part (λ d. give (Since y m d))))))

-- `supports`, feature
abbrev pub supporting : Option SupportKind → Form atom
supporting kind = skip (word (codes "supports")) (skip blanks (bind (spot feature) (λ f. give (Supports f kind))))

abbrev pub fully : Form atom
fully = skip (word (codes "fully")) (skip blanks (supporting (Some Fully)))

abbrev pub partially : Form atom
partially = skip (word (codes "partially")) (skip blanks (supporting (Some Partially)))

-- `current`, `node`
abbrev pub current_node : Form atom
current_node = skip (word (codes "current")) (skip blanks (skip (word (codes "node")) (give CurrentNode)))

-- `maintained`, `node`, `versions`
abbrev pub maintained_node : Form atom
maintained_node = skip (word (codes "maintained")) (skip blanks (skip (word (codes "node")) (skip blanks (skip (word (codes "versions")) (give MaintainedNode)))))

-- `node`, directly a range
abbrev pub node : Form atom
node = skip (word (codes "node")) (bind ranging (λ r. give (Node r)))

-- `firefox`, `ff` or `fx`, then `esr`
abbrev pub firefox_esr : Form atom
firefox_esr = skip (else (word (codes "firefox")) (else (word (codes "ff")) (word (codes "fx")))) (skip blanks (skip (word (codes "esr")) (give FirefoxESR)))

-- `operamini` or `op_mini`, then `all`
abbrev pub operamini : Form atom
operamini = skip (else (word (codes "operamini")) (word (codes "op_mini"))) (skip blanks (skip (word (codes "all")) (give OperaMini)))

-- `phantomjs`, then bytes 2.1 or 1.9, whatever follows them
abbrev pub phantom : Form atom
phantom = skip (word (codes "phantomjs")) (skip blanks (when (spelled (codes "2.1")) (give (Phantom true)) (skip (spelled (codes "1.9")) (give (Phantom false)))))

-- one digit, two and four, as numbers
abbrev pub one_digit : Form number
one_digit = read (one digit) value

abbrev pub two_digits : Form number
two_digits = bind one_digit (λ a. bind one_digit (λ b. give (a * 10 + b)))

abbrev pub four_digits : Form number
four_digits = bind two_digits (λ a. bind two_digits (λ b. give (a * 100 + b)))

-- four, two and two digits joined by `-`: year, month and day together
abbrev pub dated : Form date
dated = bind four_digits (λ y. skip (byte 45) (bind two_digits (λ m. skip (byte 45) (bind two_digits (λ d. give (pos y, m, d))))))

-- `on` and a date, if `on` is there
abbrev pub on_date : Form (option date)
on_date = when (then blanks (word (codes "on"))) (skip blanks (bind dated (λ d. give (Some d)))) (give None)

-- newly or widely available, with a date or without one; the newly kind drops it
abbrev pub availability : Bool → Option (ℤ × ℕ × ℕ) → BaselineKind
availability true None = NewlyAvailable
availability true (Some d) = NewlyAvailableOnDate
availability false None = WidelyAvailable
availability false (Some d) = WidelyAvailableOnDate d.0 d.1 d.2

-- `newly` (true) or `widely` (false)
abbrev pub newness : Form flag
newness = when (word (codes "newly")) (give true) (skip (word (codes "widely")) (give false))

-- `newly` or `widely`, `available`, optionally `on` and a date
abbrev pub available : Form baseline
available = bind newness (λ newly. skip blanks (skip (word (codes "available")) (bind on_date (λ d. give (availability newly d)))))

-- a year's digits, or an availability
abbrev pub baseline_kind : Form baseline
baseline_kind = first (read (some digit) baseline_year) available

-- blanks, a word, blanks and another
abbrev pub two_words : List ℕ → List ℕ → Rule
two_words a b = then blanks (then (word a) (then blanks (word b)))

abbrev pub with_downstream : Rule
with_downstream = two_words (codes "with") (codes "downstream")

abbrev pub including_kaios : Rule
including_kaios = two_words (codes "including") (codes "kaios")

-- `baseline` and its kind, optionally `with downstream`, then optionally `including kaios`
abbrev pub baselined : Form atom
baselined = skip (word (codes "baseline")) (skip blanks (bind baseline_kind (λ k. bind (whether with_downstream) (λ d. bind (whether including_kaios) (λ o. give (Baseline k d o))))))

abbrev pub defaults : Form atom
defaults = skip (word (codes "defaults")) (give Defaults)

abbrev pub dead : Form atom
dead = skip (word (codes "dead")) (give Dead)

-- a range, or blanks and `tp`
abbrev pub browser_range : Form range
browser_range = first ranging (skip (then blanks (word (codes "tp"))) (give Preview))

-- a name and directly a range, or a name, blanks and `tp`
abbrev pub browser : Form atom
browser = bind (spot name) (λ n. bind browser_range (λ r. give (Browser n r)))

-- where the word `electron` stands only a range may follow it
abbrev pub electron_or_browser : Form atom
electron_or_browser = when (word (codes "electron")) (bind ranging (λ r. give (Electron r))) browser

-- at a first letter, in either case, this form
abbrev pub at : {k : Kind} → ℕ → Form k → Form k → Form k
at c f other = when (look (folds c)) f other

-- by the first letter one of these forms, else the other
abbrev pub among : List (ℕ × Form atom) → Form atom → Form atom
among [] other = other
among (x ∷ xs) other = at x.0 x.1 (among xs other)

-- the forms of each first letter, in the order in which they are tried
abbrev pub letters : List (ℕ × Form atom)
letters =
    (108, first years last)
    ∷ (117, unreleased)
    ∷ (115, first since (supporting None))
    ∷ (99, first cover current_node)
    ∷ (110, node)
    ∷ (102, first firefox_esr fully)
    ∷ (111, operamini)
    ∷ (109, maintained_node)
    ∷ (112, first phantom partially)
    ∷ (98, baselined)
    ∷ (100, first defaults dead)
    ∷ []

-- `<` and `>` have the percentage; every letter, behind its own forms, the browser
abbrev pub lettered : Form atom
lettered =
    at 60 percentage
    (at 62 percentage
    (at 101 electron_or_browser
    (when (look letter) (first (among letters fail) browser) fail)))

-- the place that is left where no form fits: behind the word `electron`, if it stands there
abbrev pub committed : List ℕ → ℕ → ℕ
committed t p = cond (folds 101 (slice_index_or t p 256)) (unwrap_or (ends (word (codes "electron")) t p) p) p

abbrev pub unknown : Form atom
unknown = bind (spot unknown_run) (λ u. give (Unknown u))

-- the first form that fits, else the unknown run; behind `electron` without a range only the run is tried
abbrev pub formed : Form atom
formed = when (word (codes "electron")) (first (bind ranging (λ r. give (Electron r))) unknown) (first lettered unknown)

-- the word `not` and blanks, if there, and what follows
abbrev pub querying : Form query
querying = bind (whether (then (word (codes "not")) blanks)) (λ negated. bind formed (λ a. give (negated, a)))

-- where a missing query is missed: behind `not` and blanks, and behind `electron`
abbrev pub missed : List ℕ → ℕ → ℕ
missed t p = let q = unwrap_or (ends (then (word (codes "not")) blanks) t p) p in committed t q

-- any blanks, then a comma and any blanks, or `and` or `or` and blanks; only `and` says so
abbrev pub separating : Form flag
separating =
    skip any_blanks
    (when (byte 44) (skip any_blanks (give false))
    (when (word (codes "and")) (skip blanks (give true))
    (skip (word (codes "or")) (skip blanks (give false)))))

-- where a missing separator is missed: behind blanks, and behind a word `and` or `or`
abbrev pub unseparated : List ℕ → ℕ → ℕ
unseparated t p = let q = unwrap_or (ends any_blanks t p) p in unwrap_or (ends (else (word (codes "and")) (word (codes "or"))) t q) q
