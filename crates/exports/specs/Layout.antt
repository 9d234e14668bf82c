-- A query as 24 numbers.
use Rattle.std.specs.Prelude.{ℕ, Bool, true, false, List, [], ◌∷◌, Some, None, Option}
use Rattle.std.specs.Int.{w32, w64}
use Rattle.std.proofs.Common.{of_z}
use Rattle.grammar.specs.declared.query.Span.{Span}
use Rattle.grammar.specs.declared.query.Comparator.{Comparator}
use Rattle.grammar.specs.declared.query.Comparator.TheVariants.{Less, LessOrEqual, Greater, GreaterOrEqual}
use Rattle.grammar.specs.declared.query.VersionRange.{VersionRange}
use Rattle.grammar.specs.declared.query.VersionRange.TheVariants.{Bounded, Unbounded, Accurate, Preview}
use Rattle.grammar.specs.declared.query.Stats.{Stats}
use Rattle.grammar.specs.declared.query.Stats.TheVariants.{Global, Region}
use Rattle.grammar.specs.declared.query.SupportKind.{SupportKind}
use Rattle.grammar.specs.declared.query.SupportKind.TheVariants.{Fully, Partially}
use Rattle.grammar.specs.declared.query.BaselineKind.{BaselineKind}
use Rattle.grammar.specs.declared.query.BaselineKind.TheVariants.{Year, LegacyYear, InvalidYear, NewlyAvailable, NewlyAvailableOnDate, WidelyAvailable, WidelyAvailableOnDate}
use Rattle.grammar.specs.declared.query.QueryAtom.{QueryAtom}
use Rattle.grammar.specs.declared.query.QueryAtom.TheVariants.{Last, Unreleased, Years, Since, Percentage, Cover, Supports, Electron, Node, Browser, Baseline, FirefoxESR, OperaMini, CurrentNode, MaintainedNode, Phantom, Defaults, Dead, Unknown}
use Rattle.grammar.specs.declared.query.SingleQuery.{SingleQuery}
use Rattle.exports.specs.declared.layout.Fields.{Fields}

-- no part of the text
abbrev pub nowhere : Span
nowhere = record { start = 0; end = 0 }

-- a flag as a number
abbrev pub bit : Bool → ℕ
bit false = 0
bit true = 1

-- a form by its number and nothing else
abbrev pub plain_fields : ℕ → Fields
plain_fields form = record { form = form; kind = 0; comparator = 0; number = 0; month = 0; day = 0; first_flag = 0; second_flag = 0; name = nowhere; amount = nowhere; version = nowhere; upper = nowhere; region = nowhere }

abbrev pub comparator_number : Comparator → ℕ
comparator_number Less = 1
comparator_number LessOrEqual = 2
comparator_number Greater = 3
comparator_number GreaterOrEqual = 4

-- a form with or without a name
abbrev pub name_fields : ℕ → Option Span → Fields
name_fields form None = plain_fields form
name_fields form (Some n) = record { form = form; kind = 1; comparator = 0; number = 0; month = 0; day = 0; first_flag = 0; second_flag = 0; name = n; amount = nowhere; version = nowhere; upper = nowhere; region = nowhere }

-- a form with an amount and whose statistics count
abbrev pub stats_fields : ℕ → Span → Stats → Fields
stats_fields form n Global = record { form = form; kind = 0; comparator = 0; number = 0; month = 0; day = 0; first_flag = 0; second_flag = 0; name = nowhere; amount = n; version = nowhere; upper = nowhere; region = nowhere }
stats_fields form n (Region r) = record { form = form; kind = 1; comparator = 0; number = 0; month = 0; day = 0; first_flag = 0; second_flag = 0; name = nowhere; amount = n; version = nowhere; upper = nowhere; region = r }

-- a form with a name and a range
abbrev pub range_fields : ℕ → Span → VersionRange → Fields
range_fields form n (Bounded a b) = record { form = form; kind = 1; comparator = 0; number = 0; month = 0; day = 0; first_flag = 0; second_flag = 0; name = n; amount = nowhere; version = a; upper = b; region = nowhere }
range_fields form n (Unbounded c a) = record { form = form; kind = 2; comparator = comparator_number c; number = 0; month = 0; day = 0; first_flag = 0; second_flag = 0; name = n; amount = nowhere; version = a; upper = nowhere; region = nowhere }
range_fields form n (Accurate a) = record { form = form; kind = 3; comparator = 0; number = 0; month = 0; day = 0; first_flag = 0; second_flag = 0; name = n; amount = nowhere; version = a; upper = nowhere; region = nowhere }
range_fields form n Preview = record { form = form; kind = 4; comparator = 0; number = 0; month = 0; day = 0; first_flag = 0; second_flag = 0; name = n; amount = nowhere; version = nowhere; upper = nowhere; region = nowhere }

-- a kind of baseline, with its year or date
abbrev pub date_fields : ℕ → ℕ → ℕ → ℕ → Fields
date_fields kind y m d = record { form = 11; kind = kind; comparator = 0; number = y; month = m; day = d; first_flag = 0; second_flag = 0; name = nowhere; amount = nowhere; version = nowhere; upper = nowhere; region = nowhere }

abbrev pub baseline_fields : BaselineKind → Fields
baseline_fields (Year y) = date_fields 1 y 0 0
baseline_fields (LegacyYear y) = date_fields 2 y 0 0
baseline_fields InvalidYear = date_fields 3 0 0 0
baseline_fields NewlyAvailable = date_fields 4 0 0 0
baseline_fields NewlyAvailableOnDate = date_fields 5 0 0 0
baseline_fields WidelyAvailable = date_fields 6 0 0 0
baseline_fields (WidelyAvailableOnDate y m d) = date_fields 7 (of_z w64 y) m d

abbrev pub support_number : Option SupportKind → ℕ
support_number None = 0
support_number (Some Fully) = 1
support_number (Some Partially) = 2

-- the same with other numbers and flags
abbrev pub flagged : Fields → ℕ → Bool → Bool → Fields
flagged f n a b = record { form = f.form; kind = f.kind; comparator = f.comparator; number = n; month = f.month; day = f.day; first_flag = bit a; second_flag = bit b; name = f.name; amount = f.amount; version = f.version; upper = f.upper; region = f.region }

-- the same with a comparator
abbrev pub compared : ℕ → Fields → Fields
compared c f = record { form = f.form; kind = f.kind; comparator = c; number = f.number; month = f.month; day = f.day; first_flag = f.first_flag; second_flag = f.second_flag; name = f.name; amount = f.amount; version = f.version; upper = f.upper; region = f.region }

-- a form with this kind and name
abbrev pub kind_fields : ℕ → ℕ → Span → Fields
kind_fields form kind n = record { form = form; kind = kind; comparator = 0; number = 0; month = 0; day = 0; first_flag = 0; second_flag = 0; name = n; amount = nowhere; version = nowhere; upper = nowhere; region = nowhere }

-- what an atom says, each part in a place of its own
abbrev pub fields_of : QueryAtom → Fields
fields_of (Last c m n) = flagged (name_fields 1 n) c m false
fields_of (Unreleased n) = name_fields 2 n
fields_of (Years n) = stats_fields 3 n Global
fields_of (Since y m d) = record { form = 4; kind = 0; comparator = 0; number = of_z w32 y; month = m; day = d; first_flag = 0; second_flag = 0; name = nowhere; amount = nowhere; version = nowhere; upper = nowhere; region = nowhere }
fields_of (Percentage c n s) = compared (comparator_number c) (stats_fields 5 n s)
fields_of (Cover n s) = stats_fields 6 n s
fields_of (Supports f k) = kind_fields 7 (support_number k) f
fields_of (Electron r) = range_fields 8 nowhere r
fields_of (Node r) = range_fields 9 nowhere r
fields_of (Browser n r) = range_fields 10 n r
fields_of (Baseline k d o) = flagged (baseline_fields k) (baseline_fields k).number d o
fields_of FirefoxESR = plain_fields 12
fields_of OperaMini = plain_fields 13
fields_of CurrentNode = plain_fields 14
fields_of MaintainedNode = plain_fields 15
fields_of (Phantom b) = kind_fields 16 (bit b) nowhere
fields_of Defaults = plain_fields 17
fields_of Dead = plain_fields 18
fields_of (Unknown u) = kind_fields 19 0 u

-- the 24 words of a query: its raw, its flags, and the fields in order
abbrev pub words_of : SingleQuery → List ℕ
words_of q =
    let f = fields_of q.atom in
    q.raw.start ∷ q.raw.end ∷ bit q.negated ∷ bit q.is_and
    ∷ f.form ∷ f.kind ∷ f.comparator ∷ f.number ∷ f.month ∷ f.day ∷ f.first_flag ∷ f.second_flag
    ∷ f.name.start ∷ f.name.end ∷ f.amount.start ∷ f.amount.end
    ∷ f.version.start ∷ f.version.end ∷ f.upper.start ∷ f.upper.end ∷ f.region.start ∷ f.region.end ∷ 0 ∷ 0 ∷ []
