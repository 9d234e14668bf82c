use Rattle.std.proofs.Common.{◌≡◌, drop}
use Rattle.texts.specs.Codes.{codes}
use Rattle.reader.specs.Utf8.{ill_formed, ill_from}
use Rattle.reader.proofs.utf8.first_ill_formed.Given as goal

-- what is found from here on is what is found from the start
abbrev pub invariant-loop-here : goal.invariant-loop-here
invariant-loop-here g l =
    ill_formed (codes (g.T.Text.cells l.text))
    ≡ ill_from (drop l.here (codes (g.T.Text.cells l.text))) l.state l.begun l.here
