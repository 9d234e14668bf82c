use Rattle.std.proofs.Common.{◌≡◌, ◌++◌, map, take, drop}
use Rattle.words.specs.Copy.{byte_shown}
use Rattle.words.proofs.copy.copy_text.Given as goal

abbrev pub invariant-loop-place : goal.invariant-loop-place
invariant-loop-place g l = l.byte-items ≡ take l.place (map byte_shown (g.T.Text.cells l.text)) ++ drop l.place l.initial.byte-items
