use Rattle.std.proofs.Common.{arith}
use Rattle.std.proofs.lemmas.Grind.{common_steps}
use Rattle.chain.specs.Chains.{chained}
use Rattle.chain.specs.Walks.{list_of, gathered}
use Rattle.chain.proofs.Gathering.{answer_end, answer_text, placed_length}
use Rattle.chain.proofs.store.ChainStoreText.cell.Goals as goal

pub returns-then-place-self : goal.returns-then-place-self
returns-then-place-self c =
    let s = c.args.self.now in
    let ps = list_of s.walk.pieces in
    let end = answer_end (chained s.memory.now s.first) (gathered s.memory.now ps) s.walk.damage s.walk.size s.whole (placed_length s.memory.now s.walk.size ps s.placed) in
    grind (arith, common_steps)

pub returns-else-place-self : goal.returns-else-place-self
returns-else-place-self c =
    let s = c.args.self.now in
    let ps = list_of s.walk.pieces in
    let text = answer_text (chained s.memory.now s.first) (gathered s.memory.now ps) s.walk.damage s.walk.size s.whole (placed_length s.memory.now s.walk.size ps s.placed) c.args.place c.if-place-self.false in
    grind (arith, common_steps)
