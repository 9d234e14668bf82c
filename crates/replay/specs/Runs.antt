-- What each call answers, and what a list of calls answers.
use Rattle.std.specs.Prelude.{◌≡◌, ℕ, zero, suc, ◌<◌, List, [], ◌∷◌, length, Ok, Err}
use Rattle.grammar.specs.declared.query.SingleQuery.{SingleQuery}
use Rattle.reader.specs.declared.refusal.Refusal.TheVariants.{NoReading, AtStart}
use Rattle.reader.specs.Steps.{query_k, place_of}
use Rattle.replay.specs.declared.calls.Call.{Call}
use Rattle.replay.specs.declared.calls.Call.TheVariants.{Step, StepBack, StartOver, Place}
use Rattle.replay.specs.declared.calls.Answer.{Answer}
use Rattle.replay.specs.declared.calls.Answer.TheVariants.{Given, End, Refused, Moved, Anew, At}
use Rattle.replay.specs.declared.calls.Exchange.{Exchange}

-- a reader of t that has k queries before its place is asked one call, answers it, and then has so many
pub data Does (t : List ℕ) : ℕ → Call → Answer → ℕ → Type 0 where
  -- codes are left, and the next query is there
  gives : {k : ℕ} {q : SingleQuery} → place_of t k < length t → query_k t k (place_of t k) ≡ Ok q → Does t k Step (Given q) (suc k)
  -- no code is left
  ends : {k : ℕ} → place_of t k ≡ length t → Does t k Step End k
  -- codes are left, and the next query or its separator is missed at m
  lacks : {k m : ℕ} → place_of t k < length t → query_k t k (place_of t k) ≡ Err m → Does t k Step (Refused (NoReading m)) k
  backs : {k : ℕ} → Does t (suc k) StepBack Moved k
  -- there is no query to step back over
  stays : Does t zero StepBack (Refused AtStart) zero
  restarts : {k : ℕ} → Does t k StartOver Anew zero
  tells : {k p : ℕ} → place_of t k ≡ p → Does t k Place (At p) k

-- a reader of t that has k queries before its place makes these exchanges one after another, and then has so many
pub data Runs (t : List ℕ) : ℕ → List Exchange → ℕ → Type 0 where
  none : {k : ℕ} → Runs t k [] k
  more : {k m n : ℕ} {x : Exchange} {xs : List Exchange} → Does t k x.call x.answer m → Runs t m xs n → Runs t k (x ∷ xs) n

-- the text has the queries below k
abbrev pub Begun : List ℕ → ℕ → Type 0
Begun t zero = Unit {0}
Begun t (suc k) = Begun t k × (q : SingleQuery) × (query_k t k (place_of t k) ≡ Ok q)

-- a reader of t that start and calls made may have k queries before the place p
abbrev pub Stands : List ℕ → ℕ → ℕ → Type 0
Stands t k p = (p ≡ place_of t k) × Begun t k

-- a reader of t that stands behind k queries at p answers the call with r, and then stands behind m at q
pub record Asked (t : List ℕ) (k p : ℕ) (c : Call) (r : Answer) (m q : ℕ) : Type 0 where
  pub does : Stands t k p → Does t k c r m
  pub stands : Stands t k p → Stands t m q
