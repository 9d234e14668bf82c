use Rattle.std.proofs.Common.{◌<◌, map, length, take, ◌∙◌, arith, length-take}
use lib.ListN.{length-map}
use Rattle.words.specs.Copy.{byte_shown}
use Rattle.words.proofs.Copying.{copied, copy_more, shown_cell}
use Rattle.words.proofs.copy.copy_text.Goals as goal

pub loop-place-preserved : goal.loop-place-preserved
loop-place-preserved g c =
    let cells = g.T.Text.cells c.args.text.now in
    let part = take c.min-room.result c.args.out.now in
    let i = c.loop-place.place in
    let h : i < length cells = omega (arith, c.loop-place-test.true, length-take c.min-room.result c.args.out.now, c.min-room.ensures, c.len-n.ensures) in
    copy_more part (map byte_shown cells) c.loop-place.byte-items i c.shown_at.result (omega (arith, length-map cells byte_shown)) c.loop-place-test.true (c.shown_at.ensures ∙ shown_cell cells i h) c.loop-place.invariant

pub returns-clause-copied : goal.returns-clause-copied
returns-clause-copied g c =
    let cells = g.T.Text.cells c.args.text.now in
    copied c.args.out.now (map byte_shown cells) c.loop-place.byte-items c.loop-place.place c.min-room.result (omega (arith, c.min-room.ensures, c.len-n.ensures, length-map cells byte_shown)) (omega (arith, c.loop-place-test.false, c.loop-place.auto.place-end)) c.loop-place.invariant
