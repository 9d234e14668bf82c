use Rattle.std.proofs.Common.{◌≡◌}
use Rattle.texts.specs.Codes.{codes}
use Rattle.reader.specs.Steps.{place_of}
use Rattle.reader.proofs.step.place_of.Given as goal

abbrev pub invariant-loop-i : goal.invariant-loop-i
invariant-loop-i g l = l.place ≡ place_of (codes (g.T.Text.cells l.text)) l.i
