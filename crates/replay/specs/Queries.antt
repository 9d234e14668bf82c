-- The turns of a reading as the queries that a reader gives.
use Rattle.std.specs.Prelude.{ℕ, ◌+◌, Bool, false, List, [], ◌∷◌, length, Some, None, Option}
use Rattle.grammar.specs.declared.query.SingleQuery.{SingleQuery}
use Rattle.grammar.specs.Form.{Value, query}
use Rattle.grammar.specs.Along.{span_along, atom_along}
use Rattle.grammar.specs.Readings.{Turn}

-- a query of a reading with the separator before it
abbrev pub QueryTurn : Type 0
QueryTurn = Turn (Value query) Bool

-- whether a query is joined to the one before by `and`; the first is not
abbrev pub joined : Option Bool → Bool
joined None = false
joined (Some and) = and

-- a turn that begins at p, as the query that a reader gives
abbrev pub query_of : ℕ → QueryTurn → SingleQuery
query_of p u = record {
  raw = record { start = p + length u.sep; end = p + length u.sep + length u.raw };
  atom = u.value.1;
  negated = u.value.0;
  is_and = joined u.link;
}

-- turns of which the first begins at p, as queries
abbrev pub queries_of : ℕ → List QueryTurn → List SingleQuery
queries_of p [] = []
queries_of p (u ∷ us) = query_of p u ∷ queries_of (p + length u.sep + length u.raw) us

-- a query whose places are moved along by n
abbrev pub moved : ℕ → SingleQuery → SingleQuery
moved n q = record { raw = span_along n q.raw; atom = atom_along n q.atom; negated = q.negated; is_and = q.is_and }
