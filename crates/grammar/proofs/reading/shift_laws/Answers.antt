use Rattle.grammar.proofs.Along.{form_shift}
use Rattle.grammar.proofs.Moved.{query_moves}
use Rattle.grammar.proofs.reading.shift_laws.Goals as goal

pub returns : goal.returns
returns c = record { forms = λ n k x y m t p. form_shift m t p; query = query_moves }
