-- Stepping through a text, from its start up to its end or a refusal.
use Rattle.std.specs.Prelude.{◌≡◌, ℕ, ◌+◌, List, [], ◌∷◌, ◌++◌, map, length, Some, None, Ok, Err, Option, Result}
use Rattle.grammar.specs.declared.query.SingleQuery.{SingleQuery}
use Rattle.reader.specs.declared.refusal.Refusal.{Refusal}
use Rattle.reader.specs.declared.refusal.Refusal.TheVariants.{NoReading}
use Rattle.replay.specs.declared.calls.Call.TheVariants.{Step}
use Rattle.replay.specs.declared.calls.Answer.TheVariants.{Refused}
use Rattle.replay.specs.declared.calls.Exchange.{Exchange}
use Rattle.replay.specs.Law.{giving, ending}
use Rattle.replay.specs.Runs.{Runs}
use Rattle.whole.specs.declared.walk.Walk.{Walk}

-- a step that misses a query or its separator at a place
abbrev pub lacking : ℕ → Exchange
lacking m = record { call = Step; answer = Refused (NoReading m) }

-- the step behind the last query given: "end", or the place where something is missed
abbrev pub closing : Option ℕ → Exchange
closing None = ending
closing (Some m) = lacking m

-- stepping from the start gives these queries, and then stops so
abbrev pub Walked : List ℕ → List SingleQuery → Option ℕ → Type 0
Walked t qs stop = Runs t 0 (map giving qs ++ closing stop ∷ []) (length qs)

-- how many queries were given, or the refusal that stopped the steps
abbrev pub stopped : Option ℕ → ℕ → Result ℕ Refusal
stopped None n = Ok n
stopped (Some m) n = Err (NoReading m)

-- how a walk ended, where it gave n queries
abbrev pub ended_by : ℕ → Option Refusal → Result ℕ Refusal
ended_by n None = Ok n
ended_by n (Some e) = Err e

abbrev pub answer_of : Walk → Result ℕ Refusal
answer_of w = ended_by w.given w.refusal

-- what taking these queries one after another makes of a sink, where n were taken before and the last ended at e
abbrev pub Taken : {S : Type 0} → (S → ℕ → ℕ → SingleQuery → S → Type 0) → S → ℕ → ℕ → List SingleQuery → S → Type 0
Taken takes a n e [] b = a ≡ b
Taken {S} takes a n e (q ∷ qs) b = (c : S) × takes a n e q c × Taken takes c (n + 1) q.raw.end qs b

-- stepping through t gave queries until it stopped so, and the sink took them
pub record Walks {S : Type 0} (takes : S → ℕ → ℕ → SingleQuery → S → Type 0) (t : List ℕ) (w : Walk) (before after : S) : Type 0 where
  pub given : List SingleQuery
  pub stop : Option ℕ
  pub walk : Walked t given stop
  pub many : w.given ≡ length given
  pub answer : answer_of w ≡ stopped stop (length given)
  pub taken : Taken takes before 0 0 given after

-- where a reading can't start on a text: no query was given, and the sink is as it was
pub record Unstarted {S : Type 0} (e : Refusal) (w : Walk) (before after : S) : Type 0 where
  pub none : w.given ≡ 0
  pub why : w.refusal ≡ Some e
  pub same : after ≡ before

-- stepping through t stopped with this answer
pub record Counted (t : List ℕ) (r : Result ℕ Refusal) : Type 0 where
  pub given : List SingleQuery
  pub stop : Option ℕ
  pub walk : Walked t given stop
  pub answer : r ≡ stopped stop (length given)
