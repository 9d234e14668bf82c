-- What a form says behind so many more codes: the same, with the places of parts moved along.
use Rattle.std.specs.Prelude.{◌≡◌, ℕ, ◌+◌, Bool, false, List, drop, Some, None, Option}
use Rattle.grammar.specs.declared.query.Span.{Span}
use Rattle.grammar.specs.declared.query.VersionRange.{VersionRange}
use Rattle.grammar.specs.declared.query.VersionRange.TheVariants.{Bounded, Unbounded, Accurate, Preview}
use Rattle.grammar.specs.declared.query.Stats.{Stats}
use Rattle.grammar.specs.declared.query.Stats.TheVariants.{Global, Region}
use Rattle.grammar.specs.declared.query.QueryAtom.{QueryAtom}
use Rattle.grammar.specs.declared.query.QueryAtom.TheVariants.{Last, Unreleased, Years, Since, Percentage, Cover, Supports, Electron, Node, Browser, Baseline, FirefoxESR, OperaMini, CurrentNode, MaintainedNode, Phantom, Defaults, Dead, Unknown}
use Rattle.grammar.specs.Rule.{Rule}
use Rattle.grammar.specs.Form.{Kind, part, flag, number, year, option, date, comparator, range, stats, baseline, atom, query, Value, Form, give, fail, spot, read, bind, when, first, reads}
use Rattle.grammar.specs.Forms.{querying, separating}
use Rattle.grammar.specs.Readings.{Grammar, Sound, Single, Spells, Joins, carried}

-- a part, so many codes further on
abbrev pub span_along : ℕ → Span → Span
span_along n s = record { start = n + s.start; end = n + s.end }

-- a name, if there
abbrev pub name_along : ℕ → Option Span → Option Span
name_along n None = None
name_along n (Some s) = Some (span_along n s)

-- the versions of a range
abbrev pub range_along : ℕ → VersionRange → VersionRange
range_along n (Bounded v w) = Bounded (span_along n v) (span_along n w)
range_along n (Unbounded c v) = Unbounded c (span_along n v)
range_along n (Accurate v) = Accurate (span_along n v)
range_along n Preview = Preview

-- the region of a tail
abbrev pub stats_along : ℕ → Stats → Stats
stats_along n Global = Global
stats_along n (Region r) = Region (span_along n r)

-- the parts of a query
abbrev pub atom_along : ℕ → QueryAtom → QueryAtom
atom_along n (Last count major name) = Last count major (name_along n name)
atom_along n (Unreleased name) = Unreleased (name_along n name)
atom_along n (Years s) = Years (span_along n s)
atom_along n (Since y m d) = Since y m d
atom_along n (Percentage c s st) = Percentage c (span_along n s) (stats_along n st)
atom_along n (Cover s st) = Cover (span_along n s) (stats_along n st)
atom_along n (Supports s kind) = Supports (span_along n s) kind
atom_along n (Electron r) = Electron (range_along n r)
atom_along n (Node r) = Node (range_along n r)
atom_along n (Browser s r) = Browser (span_along n s) (range_along n r)
atom_along n (Baseline kind downstream kaios) = Baseline kind downstream kaios
atom_along n FirefoxESR = FirefoxESR
atom_along n OperaMini = OperaMini
atom_along n CurrentNode = CurrentNode
atom_along n MaintainedNode = MaintainedNode
atom_along n (Phantom newer) = Phantom newer
atom_along n Defaults = Defaults
atom_along n Dead = Dead
atom_along n (Unknown s) = Unknown (span_along n s)

-- a value of any kind, moved along
abbrev pub along : (k : Kind) → ℕ → Value k → Value k
along part n v = span_along n v
along flag n v = v
along number n v = v
along year n v = v
along (option k) n None = None
along (option k) n (Some v) = Some (along k n v)
along date n v = v
along comparator n v = v
along range n v = range_along n v
along stats n v = stats_along n v
along baseline n v = v
along atom n v = atom_along n v
along query n v = (v.0, atom_along n v.1)

-- the second form says, so many codes further on, what the first says
pub data Moves (n : ℕ) : (k : Kind) → Form k → Form k → Type 0 where
  moves_give : {k : Kind} {v w : Value k} → along k n v ≡ w → Moves n k (give v) (give w)
  moves_fail : {k : Kind} → Moves n k fail fail
  moves_spot : {r : Rule} → Moves n part (spot r) (spot r)
  moves_read : {k : Kind} {r : Rule} {f : List ℕ → Value k} → ((s : List ℕ) → along k n (f s) ≡ f s) → Moves n k (read r f) (read r f)
  moves_bind : {j k : Kind} {f x : Form j} {g y : Value j → Form k} → Moves n j f x → ((v : Value j) → Moves n k (g v) (y (along j n v))) → Moves n k (bind f g) (bind x y)
  moves_when : {k : Kind} {r : Rule} {f g x y : Form k} → Moves n k f x → Moves n k g y → Moves n k (when r f g) (when r x y)
  moves_first : {k : Kind} {f g x y : Form k} → Moves n k f x → Moves n k g y → Moves n k (first f g) (first x y)

-- what stands before a place does not matter to a form, but that it moves places along
abbrev pub FormShift : Type 0
FormShift = (n : ℕ) (k : Kind) (x y : Form k) → Moves n k x y → (t : List ℕ) (p : ℕ) → reads y t (n + p) ≡ carried (along k n) n (reads x (drop n t) p)

-- the query says the same so many codes further on
abbrev pub QueryMoves : Type 0
QueryMoves = (n : ℕ) → Moves n query querying querying

-- the grammar of queries
abbrev pub queries : Grammar (Value query) Bool
queries = record { query = reads querying; separator = reads separating; comma = false; along = along query }

-- the laws of readings hold of any sound grammar whose queries say such values
abbrev pub AnyGrammar : Type 0
AnyGrammar = (g : Grammar (Value query) Bool) → Sound g → Single g × Spells g × Joins g
