use Rattle.std.proofs.Common.{◌≡◌, false}
use Rattle.layers.specs.Covers.{comment_at}
use Rattle.layers.specs.Marks.{marked}
use Rattle.layers.proofs.Covering.{MarkedBelow}
use Rattle.layers.proofs.cover.comments_of.Given as goal

-- the places that were passed are marked where they lie in a comment, and it is known whether the next one does
abbrev pub invariant-loop-place : goal.invariant-loop-place
invariant-loop-place g l =
    MarkedBelow (marked l.comments.words) (g.T.Text.cells l.text) l.place × (l.inside ≡ comment_at false (g.T.Text.cells l.text) l.place)
