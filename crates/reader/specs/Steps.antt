-- The queries of a text by their number, and what a step of a reader answers.
use Rattle.std.specs.Prelude.{ℕ, zero, suc, ◌+◌, max, Bool, false, cond, List, length, Some, None, Ok, Err, Option, Result, nat_le}
use Rattle.grammar.specs.Form.{Outcome, reads}
use Rattle.grammar.specs.Forms.{querying, missed, separating, unseparated}
use Rattle.grammar.specs.declared.query.QueryAtom.{QueryAtom}
use Rattle.grammar.specs.declared.query.SingleQuery.{SingleQuery}
use Rattle.reader.specs.declared.refusal.Refusal.{Refusal}
use Rattle.reader.specs.declared.refusal.Refusal.TheVariants.{NoReading, AtStart}

-- a query that starts at s, with its raw, or the place where it is missed
abbrev pub found : Bool → ℕ → ℕ → Outcome (Bool × QueryAtom) → Result SingleQuery ℕ
found and s m None = Err m
found and s m (Some x) = Ok (record { raw = record { start = s; end = x.1 }; atom = x.0.1; negated = x.0.0; is_and = and })

-- the query at s, behind an `and` or not
abbrev pub query_at : List ℕ → Bool → ℕ → Result SingleQuery ℕ
query_at t and s = found and s (missed t s) (reads querying t s)

-- the first query: where it is missing it is missed at 0
abbrev pub at_first : Result SingleQuery ℕ → Result SingleQuery ℕ
at_first (Ok q) = Ok q
at_first (Err m) = Err 0

-- the query behind the separator at p
abbrev pub behind : List ℕ → ℕ → Outcome Bool → Result SingleQuery ℕ
behind t p None = Err (unseparated t p)
behind t p (Some x) = query_at t x.0 x.1

-- query k, where the raw before it ends at p: the query, or the place where it or its separator is missed
abbrev pub query_k : List ℕ → ℕ → ℕ → Result SingleQuery ℕ
query_k t zero p = at_first (query_at t false p)
query_k t (suc k) p = behind t p (reads separating t p)

-- a query as the answer of a step, or its absence as a refusal
abbrev pub answered : Result SingleQuery ℕ → Result (Option SingleQuery) Refusal
answered (Ok q) = Ok (Some q)
answered (Err m) = Err (NoReading m)

-- what a step answers behind k queries, the last of which ends at p: no query where no code is left
abbrev pub stepped : List ℕ → ℕ → ℕ → Result (Option SingleQuery) Refusal
stepped t k p = cond (nat_le (length t) p) (Ok None) (answered (query_k t k p))

-- the place behind the answer of a step that began at p
abbrev pub place_after : Result (Option SingleQuery) Refusal → ℕ → ℕ
place_after (Ok (Some q)) p = q.raw.end
place_after (Ok None) p = p
place_after (Err r) p = p

-- the number of queries behind the answer of a step that began at k
abbrev pub count_after : Result (Option SingleQuery) Refusal → ℕ → ℕ
count_after (Ok (Some q)) k = k + 1
count_after (Ok None) k = k
count_after (Err r) k = k

-- the end of raw k − 1, or 0; where a query is missing it stays at the one before
abbrev pub place_of : List ℕ → ℕ → ℕ
place_of t zero = 0
place_of t (suc k) = place_after (answered (query_k t k (place_of t k))) (place_of t k)

-- what a step back answers behind k queries
abbrev pub backed : ℕ → Result (Unit {0}) Refusal
backed zero = Err AtStart
backed (suc k) = Ok tt

-- the place behind a step back from p behind k queries: the end of raw k − 2, which is k − 1 at least, since no raw is empty
abbrev pub place_back : List ℕ → ℕ → ℕ → ℕ
place_back t zero p = p
place_back t (suc k) p = max (place_of t k) k
