use Rattle.std.proofs.Common.{◌≡◌, None, arith}
use Rattle.std.specs.List.{slice_get}
use Rattle.std.proofs.lemmas.Grind.{common_steps}
use Rattle.std.proofs.lemmas.Option.{slice_get_past}
use Rattle.chain.specs.Walks.{list_of, gathered}
use Rattle.chain.proofs.Gathering.{placed_length}
use Rattle.chain.proofs.store.ChainStore.byte_at.Goals as goal

pub returns-in_err-piece : goal.returns-in_err-piece
returns-in_err-piece c =
    let s = c.args.self.now in
    let text = gathered s.memory.now (list_of s.walk.pieces) in
    let past : slice_get text c.args.place ≡ None = slice_get_past text c.args.place (omega (arith, placed_length s.memory.now s.walk.size (list_of s.walk.pieces) s.placed, c.in_err-piece.ensures)) in
    grind (arith, common_steps)
