-- Worked examples: what the rules say of some texts.
use Rattle.std.specs.Prelude.{◌≡◌, ℕ, Bool, true, false, List, pos, Some, None, codes}
use Rattle.grammar.specs.declared.query.Span.{Span}
use Rattle.grammar.specs.declared.query.Comparator.TheVariants.{Greater}
use Rattle.grammar.specs.declared.query.VersionRange.TheVariants.{Accurate}
use Rattle.grammar.specs.declared.query.Stats.TheVariants.{Global}
use Rattle.grammar.specs.declared.query.QueryAtom.{QueryAtom}
use Rattle.grammar.specs.declared.query.QueryAtom.TheVariants.{Last, Since, Percentage, Browser, Phantom, Dead, Unknown}
use Rattle.grammar.specs.Form.{reads}
use Rattle.grammar.specs.Forms.{querying, separating, missed, unseparated}

-- from a place up to another
abbrev pub from : ℕ → ℕ → Span
from p e = record { start = p; end = e }

-- at a place of the text stands this query, up to this end; or none, which is missed at this place
abbrev pub Query : List ℕ → ℕ → Bool → QueryAtom → ℕ → Type 0
Query t p negated a e = reads querying t p ≡ Some ((negated, a), e)

abbrev pub NoQuery : List ℕ → ℕ → ℕ → Type 0
NoQuery t p at = (reads querying t p ≡ None) × (missed t p ≡ at)

-- so of separators
abbrev pub Separator : List ℕ → ℕ → Bool → ℕ → Type 0
Separator t p and e = reads separating t p ≡ Some (and, e)

abbrev pub NoSeparator : List ℕ → ℕ → ℕ → Type 0
NoSeparator t p at = (reads separating t p ≡ None) × (unseparated t p ≡ at)

-- a count is taken modulo 65,536
abbrev pub CountWraps : Type 0
CountWraps = Query (codes "last 65537 versions") 0 false (Last 1 false None) 19

-- a month or a day without digits is 1
abbrev pub MonthLeftOut : Type 0
MonthLeftOut = Query (codes "since 2020--5") 0 false (Since (pos 2020) 1 5) 13

-- `electron` alone is no query
abbrev pub ElectronAlone : Type 0
ElectronAlone = NoQuery (codes "electron") 0 8

-- behind `electron` without a range only the unknown run is tried
abbrev pub ElectronUnknown : Type 0
ElectronUnknown = Query (codes "electron foo") 0 false (Unknown (from 8 12)) 12

-- `not` negates with a blank behind it, and is itself unknown without one
abbrev pub NotUnknown : Type 0
NotUnknown = Query (codes "not 5") 0 true (Unknown (from 4 5)) 5

abbrev pub NotAlone : Type 0
NotAlone = Query (codes "not") 0 false (Unknown (from 0 3)) 3

-- the tail of a percentage takes its blanks, so that the separator begins at the comma
abbrev pub BlanksBeforeComma : Type 0
BlanksBeforeComma =
    Query (codes "> 1% , dead") 0 false (Percentage Greater (from 2 3) Global) 5
    × Separator (codes "> 1% , dead") 5 false 7
    × Query (codes "> 1% , dead") 7 false Dead 11

-- an unknown run takes its blanks too
abbrev pub UnknownWithBlank : Type 0
UnknownWithBlank = Query (codes "a ,b") 0 false (Unknown (from 0 2)) 2

-- a query may end inside a number, where no separator stands
abbrev pub PhantomMore : Type 0
PhantomMore = Query (codes "phantomjs 2.15") 0 false (Phantom true) 13 × NoSeparator (codes "phantomjs 2.15") 13 13

-- behind a comma a query must stand
abbrev pub CommaLast : Type 0
CommaLast =
    Query (codes "chrome 5,") 0 false (Browser (from 0 6) (Accurate (from 7 8))) 8
    × Separator (codes "chrome 5,") 8 false 9
    × NoQuery (codes "chrome 5,") 9 9

abbrev pub CommaTwice : Type 0
CommaTwice =
    Query (codes "a,,b") 0 false (Unknown (from 0 1)) 1
    × Separator (codes "a,,b") 1 false 2
    × NoQuery (codes "a,,b") 2 2

-- a version gives one last point back
abbrev pub PointBack : Type 0
PointBack = Query (codes "chrome 5..") 0 false (Browser (from 0 6) (Accurate (from 7 9))) 9 × NoSeparator (codes "chrome 5..") 9 9

-- `last` with a number that is no count, and no years, is the name of a browser
abbrev pub LastABrowser : Type 0
LastABrowser =
    Query (codes "last 1.5 versions") 0 false (Browser (from 0 4) (Accurate (from 5 8))) 8 × NoSeparator (codes "last 1.5 versions") 8 9
