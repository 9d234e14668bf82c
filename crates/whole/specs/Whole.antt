-- The whole reading of a text, in slots.
use Rattle.std.specs.Prelude.{◌≡◌, ℕ, ◌+◌, ◌-◌, Bool, true, false, cond, List, [], ◌∷◌, ◌++◌, length, drop, Some, None, Ok, Err, Option, Result, nat_le}
use Rattle.std.specs.List.{slice_get}
use Rattle.texts.specs.declared.cell.Cell.{Cell}
use Rattle.texts.specs.Codes as cell
use Rattle.texts.specs.Trim.{trimmed}
use Rattle.grammar.specs.declared.query.SingleQuery.{SingleQuery}
use Rattle.reader.specs.declared.refusal.Refusal.{Refusal}
use Rattle.reader.specs.declared.refusal.Refusal.TheVariants.{NoReading}
use Rattle.reader.specs.Standing.{Standing}
use Rattle.reader.specs.Start.{start_refusal}
use Rattle.replay.specs.Law.{Holds}
use Rattle.replay.specs.Queries.{QueryTurn, queries_of}
use Rattle.whole.specs.declared.refusal.WholeRefusal.{WholeRefusal}
use Rattle.whole.specs.declared.refusal.WholeRefusal.TheVariants.{OfText, TooFewSlots}
use Rattle.whole.specs.declared.reading.Separator.{Separator}
use Rattle.whole.specs.declared.reading.Reading.{Reading}
use Rattle.whole.specs.Walks.{Walked}

-- the separators of turns of which the first begins at p
abbrev pub separators_from : ℕ → List QueryTurn → List Separator
separators_from p [] = []
separators_from p (u ∷ us) = record { start = p; end = p + length u.sep } ∷ separators_from (p + length u.sep + length u.raw) us

-- the separators of a reading: before its first query stands none
abbrev pub separators_of : List QueryTurn → List Separator
separators_of [] = []
separators_of (u ∷ us) = separators_from (0 + length u.sep + length u.raw) us

-- why stepping through a text does not come to its end
pub data Unread (cells : List Cell) : Refusal → Type 0 where
  -- a bad cell or ill-formed UTF-8
  unstarted : {e : Refusal} → start_refusal cells ≡ Err e → Unread cells e
  -- stepping gives some queries, and then misses one at m
  missed : (qs : List SingleQuery) {m : ℕ} → start_refusal cells ≡ Ok tt → Walked (cell.codes (trimmed cells)) qs (Some m) → Unread cells (NoReading m)

-- a text that is refused for what it is: it has no reading
pub record Barred (cells : List Cell) (e : Refusal) : Type 0 where
  pub why : Unread cells e
  pub none : (us : List QueryTurn) → Holds cells us → ⊥

-- a text that has a reading, with so many queries
pub record Counts (cells : List Cell) (n : ℕ) : Type 0 where
  pub turns : List QueryTurn
  pub holds : Holds cells turns
  pub own : n ≡ length turns

-- n queries and the separators between them fit into so many slots
abbrev pub enough : ℕ → ℕ → ℕ → Bool
enough slots between n = cond (nat_le n slots) (nat_le (n - 1) between) false

-- a reader is at the start of a text whose reading has n queries, which fit with their separators into so many slots
pub record Fits (cells : List Cell) (slots between : ℕ) (reader : Standing) (n : ℕ) : Type 0 where
  pub counts : Counts cells n
  pub room : enough slots between n ≡ true
  pub codes : reader.codes ≡ cell.codes (trimmed cells)
  pub none : reader.k ≡ 0
  pub start : reader.place ≡ 0

-- a reading in slots, and how it was before: the text has a reading of n queries, they and their n − 1 separators stand
-- in the first slots, and no other slot changed
pub record Filled (cells : List Cell) (before after : Reading) (n : ℕ) : Type 0 where
  pub counts : Counts cells n
  pub fits : enough (length before.queries.slots.now) (length before.separators.slots.now) n ≡ true
  pub queries : after.queries.slots.now ≡ queries_of 0 counts.turns ++ drop n before.queries.slots.now
  pub count : after.queries.len ≡ n
  pub separators : after.separators.slots.now ≡ separators_of counts.turns ++ drop (n - 1) before.separators.slots.now
  pub less : after.separators.len ≡ n - 1

-- why a text is refused, where there are so many query slots and separator slots
pub data Why (cells : List Cell) (slots between : ℕ) : WholeRefusal → Type 0 where
  -- it has no reading
  barred : {e : Refusal} → Barred cells e → Why cells slots between (OfText e)
  -- it has one, whose queries or their separators are more than the slots
  crowded : {n : ℕ} → Counts cells n → enough slots between n ≡ false → Why cells slots between (TooFewSlots n)

-- a refused text: every slot and both lists are as they were
pub record Refused (cells : List Cell) (before after : Reading) (e : WholeRefusal) : Type 0 where
  pub why : Why cells (length before.queries.slots.now) (length before.separators.slots.now) e
  pub queries : after.queries.slots.now ≡ before.queries.slots.now
  pub count : after.queries.len ≡ before.queries.len
  pub separators : after.separators.slots.now ≡ before.separators.slots.now
  pub less : after.separators.len ≡ before.separators.len

-- query k of those given, or how the steps ended before it
abbrev pub nth_of : Option SingleQuery → Option ℕ → Result (Option SingleQuery) Refusal
nth_of (Some q) stop = Ok (Some q)
nth_of None None = Ok None
nth_of None (Some m) = Err (NoReading m)

-- query k as stepping through t comes to it
pub record Nth (t : List ℕ) (k : ℕ) (r : Result (Option SingleQuery) Refusal) : Type 0 where
  pub given : List SingleQuery
  pub stop : Option ℕ
  pub walk : Walked t given stop
  pub answer : r ≡ nth_of (slice_get given k) stop
