use Rattle.std.proofs.Common.{◌-◌, length}
use Rattle.chain.specs.Chains.{records_of, chain_from}
use Rattle.chain.specs.Walks.{list_of, Walked}
use Rattle.chain.proofs.walk.walk_along.Given as goal

-- the pieces taken and what the index leads to make up the chain
abbrev pub invariant-loop-index : goal.invariant-loop-index
invariant-loop-index l =
    let ps = list_of l.pieces in
    Walked l.memory l.first ps l.size (chain_from l.memory (records_of l.memory - length ps) l.size l.index)

abbrev pub decreases-loop-index : goal.decreases-loop-index
decreases-loop-index l = records_of l.memory - length (list_of l.pieces)
