use Rattle.std.proofs.Common.{◌≡◌, map, take}
use Rattle.texts.specs.Codes.{codes}
use Rattle.texts.specs.Trim.{trimmed}
use Rattle.replay.specs.Calls.{call_of}
use Rattle.replay.specs.Runs.{Runs, Stands}
use Rattle.replay.proofs.replay.replay.Given as goal

abbrev pub invariant-loop-exchange : goal.invariant-loop-exchange
invariant-loop-exchange g l =
    let t = codes (trimmed (g.T.Text.cells l.text)) in
    let r = l.reader in
    (r.codes ≡ t)
    × Stands t r.k r.place
    × Runs t 0 (take l.exchange-index l.exchanges) r.k
    × (map call_of l.exchanges ≡ map call_of l.initial.exchanges)
