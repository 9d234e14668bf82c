use Rattle.std.proofs.Common.{◌≡◌, ◌+◌, ◌/◌, ◌<◌, arith, rules}
use Rattle.std.specs.List.{slice_get}
use Rattle.std.proofs.lemmas.Option.{gets}
use Rattle.chain.specs.Walks.{Placed}
use Rattle.chain.proofs.Gathering.{rising, halved_all, halved_on, halved_back, searched}
use Rattle.chain.proofs.store.ChainStore.piece_at.Goals as goal

pub loop-low-init : goal.loop-low-init
loop-low-init c = halved_all c.as_slice-pieces.result.now c.args.place _ (search rules)

pub offset_bounds-pieces-middle : goal.offset_bounds-pieces-middle
offset_bounds-pieces-middle c = omega (arith, c.loop-low.invariant.inside, c.loop-low-test.true)

pub bounds-pieces-middle : goal.bounds-pieces-middle
bounds-pieces-middle c = omega (arith, c.loop-low.invariant.inside, c.loop-low-test.true)

pub loop-low-preserved-then-from-place : goal.loop-low-preserved-then-from-place
loop-low-preserved-then-from-place c =
    let s = c.args.self.now in
    let ps = c.as_slice-pieces.result.now in
    let placed : Placed s.memory.now 0 s.walk.size ps = rw c.as_slice-pieces.ensures s.placed in
    let m = (c.loop-low.low + c.loop-low.high) / 2 in
    let below : m < c.loop-low.high = omega (arith, c.loop-low-test.true) in
    halved_on ps c.args.place c.loop-low.low c.loop-low.high m (record { start = 0; end = 0; from = 0 }) (rising s.memory.now 0 s.walk.size ps placed) c.loop-low.invariant below (omega (arith, c.from.ensures, c.if-from-place.true))

pub loop-low-preserved : goal.loop-low-preserved
loop-low-preserved c =
    let s = c.args.self.now in
    let ps = c.as_slice-pieces.result.now in
    let placed : Placed s.memory.now 0 s.walk.size ps = rw c.as_slice-pieces.ensures s.placed in
    let m = (c.loop-low.low + c.loop-low.high) / 2 in
    let below : m < c.loop-low.high = omega (arith, c.loop-low-test.true) in
    halved_back ps c.args.place c.loop-low.low c.loop-low.high m (record { start = 0; end = 0; from = 0 }) (rising s.memory.now 0 s.walk.size ps placed) c.loop-low.invariant (omega arith) below (omega (arith, c.from.ensures, c.if-from-place.false))

pub returns : goal.returns
returns c =
    let s = c.args.self.now in
    let ps = c.as_slice-pieces.result.now in
    let placed : Placed s.memory.now 0 s.walk.size ps = rw c.as_slice-pieces.ensures s.placed in
    let piece = searched s.memory.now s.walk.size ps c.loop-low.low c.loop-low.high c.args.place placed c.loop-low.invariant (omega (arith, c.loop-low-test.false)) in
    let is : c.copied.result ≡ slice_get ps c.loop-low.low = search (rules, gets) in
    rw (is, ← c.as_slice-pieces.ensures) piece
