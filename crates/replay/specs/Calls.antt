-- Calls and answers.
use Rattle.std.specs.Prelude.{Some, None, Ok, Err, Option, Result}
use Rattle.grammar.specs.declared.query.SingleQuery.{SingleQuery}
use Rattle.reader.specs.declared.refusal.Refusal.{Refusal}
use Rattle.replay.specs.declared.calls.Call.{Call}
use Rattle.replay.specs.declared.calls.Answer.{Answer}
use Rattle.replay.specs.declared.calls.Answer.TheVariants.{Given, End, Refused, Moved}
use Rattle.replay.specs.declared.calls.Exchange.{Exchange}

abbrev pub call_of : Exchange → Call
call_of x = x.call

-- what a step gave, as an answer
abbrev pub step_told : Result (Option SingleQuery) Refusal → Answer
step_told (Ok (Some q)) = Given q
step_told (Ok None) = End
step_told (Err r) = Refused r

-- what a step back gave, as an answer
abbrev pub back_told : Result (Unit {0}) Refusal → Answer
back_told (Ok x) = Moved
back_told (Err r) = Refused r
