-- What a reading in slots makes of a query.
use Rattle.std.specs.Prelude.{◌≡◌, ℕ, cond, nat_lt}
use Rattle.grammar.specs.declared.query.SingleQuery.{SingleQuery}
use Rattle.whole.specs.declared.reading.Reading.{Reading}
use Rattle.whole.specs.Slots.{pushed_slots, pushed_len}

-- the query goes behind the others and, if it is not the first, the separator before it too; the slots are the same
pub record Puts (a : Reading) (n e : ℕ) (q : SingleQuery) (b : Reading) : Type 0 where
  pub same_queries : b.queries.slots.ghost_name ≡ a.queries.slots.ghost_name
  pub same_separators : b.separators.slots.ghost_name ≡ a.separators.slots.ghost_name
  pub queries : b.queries.slots.now ≡ pushed_slots a.queries.slots.now a.queries.len q
  pub count : b.queries.len ≡ pushed_len a.queries.slots.now a.queries.len
  pub separators : b.separators.slots.now ≡ cond (nat_lt 0 n) (pushed_slots a.separators.slots.now a.separators.len (record { start = e; end = q.raw.start })) a.separators.slots.now
  pub less : b.separators.len ≡ cond (nat_lt 0 n) (pushed_len a.separators.slots.now a.separators.len) a.separators.len
