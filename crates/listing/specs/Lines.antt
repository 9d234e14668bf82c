-- The lines that programs print of queries and refusals.
use Rattle.std.specs.Prelude.{ℕ, Bool, true, false, List, ◌++◌, codes, slice_index}
use Rattle.std.specs.Fmt.{decimal}
use Rattle.grammar.specs.Names.{name_of}
use Rattle.grammar.specs.declared.query.SingleQuery.{SingleQuery}
use Rattle.reader.specs.Refusals.{told}
use Rattle.reader.specs.declared.refusal.Refusal.{Refusal}

-- two parts of a line, with a blank between them
abbrev pub spaced : List ℕ → List ℕ → List ℕ
spaced a b = a ++ codes " " ++ b

-- a flag as a digit
abbrev pub digit : Bool → ℕ
digit true = 1
digit false = 0

-- a query: its raw's start and end, whether it is negated, whether it stands behind an `and`, and its form's name
abbrev pub query_line : SingleQuery → List ℕ
query_line q = spaced (decimal q.raw.start) (spaced (decimal q.raw.end) (spaced (decimal (digit q.negated)) (spaced (decimal (digit q.is_and)) (name_of q.atom))))

-- a refusal: its number and its place
abbrev pub refusal_line : Refusal → List ℕ
refusal_line r = spaced (codes "refused") (spaced (decimal (slice_index (told r) 0)) (decimal (slice_index (told r) 1)))
