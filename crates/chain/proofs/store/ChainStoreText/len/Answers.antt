use Rattle.std.proofs.Common.{arith}
use Rattle.std.proofs.lemmas.Grind.{common_steps}
use Rattle.chain.specs.Chains.{chained}
use Rattle.chain.specs.Walks.{list_of, gathered}
use Rattle.chain.proofs.Gathering.{length_is, placed_length}
use Rattle.chain.proofs.store.ChainStoreText.len.Goals as goal

pub returns : goal.returns
returns c =
    let s = c.args.self.now in
    let ps = list_of s.walk.pieces in
    let all = length_is (chained s.memory.now s.first) (gathered s.memory.now ps) s.walk.damage s.walk.size s.whole (placed_length s.memory.now s.walk.size ps s.placed) in
    grind (arith, common_steps)
