use Rattle.std.proofs.Common.{◌≡◌, ◌+◌, ◌-◌, ◌≤◌, length, drop}
use Rattle.texts.specs.Codes.{codes}
use Rattle.texts.specs.Spaces.{leading}
use Rattle.texts.proofs.space.space_at.Given as goal

-- what was passed and what is still in front make up the whole
abbrev pub invariant-loop-wide : goal.invariant-loop-wide
invariant-loop-wide g l =
    record {
      so_far : leading g.E.End.space (g.E.End.met (codes (g.T.Text.cells l.text))) 0 ≡ l.place + leading g.E.End.space (drop l.place (g.E.End.met (codes (g.T.Text.cells l.text)))) 0;
      near : l.place ≤ length (g.T.Text.cells l.text) + 2;
    }

abbrev pub decreases-loop-wide : goal.decreases-loop-wide
decreases-loop-wide g l = length (g.T.Text.cells l.text) - l.place
