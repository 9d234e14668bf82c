use Rattle.std.proofs.Common.{◌≡◌, drop}
use Rattle.reader.specs.Start.{bad_refusal, bad_from}
use Rattle.reader.proofs.start.lowest_bad_cell.Given as goal

-- what is refused from here on is what is refused from the start
abbrev pub invariant-loop-place : goal.invariant-loop-place
invariant-loop-place g l = bad_refusal (g.T.Text.cells l.text) ≡ bad_from (drop l.place-counter (g.T.Text.cells l.text)) l.place-counter
