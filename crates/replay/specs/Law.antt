-- The law of a reader, undivided.
use Rattle.std.specs.Prelude.{◌≡◌, ℕ, ◌+◌, ◌≤◌, false, List, [], ◌∷◌, ◌++◌, map, length, drop, Ok, Err}
use Rattle.texts.specs.declared.cell.Cell.{Cell}
use Rattle.texts.specs.Codes.{codes}
use Rattle.texts.specs.Trim.{trimmed, Clean}
use Rattle.layers.specs.Joins.{joined}
use Rattle.grammar.specs.declared.query.SingleQuery.{SingleQuery}
use Rattle.grammar.specs.Along.{queries}
use Rattle.grammar.specs.Readings.{Turns, Reading, spelling}
use Rattle.reader.specs.declared.refusal.Refusal.{Refusal}
use Rattle.reader.specs.Start.{start_refusal}
use Rattle.reader.specs.Steps.{place_of}
use Rattle.replay.specs.declared.calls.Call.TheVariants.{Step}
use Rattle.replay.specs.declared.calls.Answer.TheVariants.{Given, End}
use Rattle.replay.specs.declared.calls.Exchange.{Exchange}
use Rattle.replay.specs.Calls.{call_of}
use Rattle.replay.specs.Queries.{QueryTurn, queries_of, moved}
use Rattle.replay.specs.Runs.{Runs}
use Rattle.replay.specs.Texts.{Readable, joint}

-- a step that gives a query
abbrev pub giving : SingleQuery → Exchange
giving q = record { call = Step; answer = Given q }

-- a step that finds no query left
abbrev pub ending : Exchange
ending = record { call = Step; answer = End }

-- the k queries before the place
pub record Spelt (t : List ℕ) (k : ℕ) : Type 0 where
  pub turns : List QueryTurn
  pub count : length turns ≡ k
  -- each is the one that the grammar gives at its place, with the separator before it
  pub stand : Turns queries false t 0 turns (place_of t k)
  -- raws, separators and the unread rest spell the text
  pub spell : spelling turns ++ drop (place_of t k) t ≡ t
  -- k steps from the start give them
  pub given : Runs t 0 (map giving (queries_of 0 turns)) k

-- a text has this reading: a reading can start on it, and the turns make up its trim
pub record Holds (cells : List Cell) (us : List QueryTurn) : Type 0 where
  pub readable : Readable cells
  pub reading : Reading queries (codes (trimmed cells)) us

-- start accepts the text, and stepping gives these queries and then "end"
pub record Stepping (cells : List Cell) (qs : List SingleQuery) : Type 0 where
  pub accepted : start_refusal cells ≡ Ok tt
  pub steps : Runs (codes (trimmed cells)) 0 (map giving qs ++ ending ∷ []) (length qs)

-- stepping reaches "end" exactly when there is a reading, and gives its queries
abbrev pub Reads : List Cell → Type 0
Reads cells =
    ((us : List QueryTurn) → Holds cells us → Stepping cells (queries_of 0 us))
    × ((qs : List SingleQuery) → Stepping cells qs → (us : List QueryTurn) × Holds cells us × (queries_of 0 us ≡ qs))

-- any two readings are the same
abbrev pub Once : List Cell → Type 0
Once cells = (us vs : List QueryTurn) → Holds cells us → Holds cells vs → us ≡ vs

-- queries of a text that stands behind another, each place moved along by the cells that stand before the text
abbrev pub behind : List Cell → List SingleQuery → List SingleQuery
behind [] qs = qs
behind (c ∷ cells) qs = map (moved (length (c ∷ cells) + 1)) qs

-- the queries of ws are those of us and then those of vs, which stands behind a
abbrev pub Follow : List Cell → List QueryTurn → List QueryTurn → List QueryTurn → Type 0
Follow a us vs ws = queries_of 0 ws ≡ queries_of 0 us ++ behind a (queries_of 0 vs)

-- two texts fit into one: both with a comma between, or one of them where the other is empty
abbrev pub Fit : List Cell → List Cell → Type 0
Fit [] b = Unit {0}
Fit (c ∷ a) [] = Unit {0}
Fit (c ∷ a) (d ∷ b) = length (joint (c ∷ a) (d ∷ b)) ≤ 16384

-- a join of a and b has a reading exactly when both have, and its queries are theirs
pub record Joins (a b join : List Cell) : Type 0 where
  -- no white space at the ends of the join either, so that a reader reads all of it
  pub clean : Clean join
  pub both : (us vs : List QueryTurn) → Holds a us → Holds b vs → (ws : List QueryTurn) × Holds join ws × Follow a us vs ws
  pub apart : (ws : List QueryTurn) → Holds join ws → (us : List QueryTurn) × (vs : List QueryTurn) × Holds a us × Holds b vs × Follow a us vs ws

-- a reader of a text has made the exchanges xs and has k queries before its place
pub record Law (cells : List Cell) (xs : List Exchange) (k : ℕ) : Type 0 where
  pub runs : Runs (codes (trimmed cells)) 0 xs k
  pub spelt : Spelt (codes (trimmed cells)) k
  pub reads : Reads cells
  pub one : Once cells
  pub clean : Clean (trimmed cells)
  -- of any two texts that are trimmed, the join layer's join, if it fits
  pub joins : (a b : List Cell) → Clean a → Clean b → Fit a b → Joins a b (joined a b)

-- start accepted the text, and the calls were made on a reader of it
pub record Replayed (cells : List Cell) (before after : List Exchange) (k : ℕ) : Type 0 where
  pub readable : Readable cells
  pub law : Law cells after k
  pub calls : map call_of after ≡ map call_of before

-- start refused the text, on which no reading can start, and no call was made
pub record Unread (cells : List Cell) (before after : List Exchange) (e : Refusal) : Type 0 where
  pub refused : start_refusal cells ≡ Err e
  pub unreadable : Readable cells → ⊥
  pub same : after ≡ before
