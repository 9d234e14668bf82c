use Rattle.std.proofs.Common.{sym}
use Rattle.grammar.specs.Tokens.{plain}
use Rattle.scanner.proofs.Runs.{run_on, run_ended, less_left}
use Rattle.parser.proofs.Unknowns.{strode}
use Rattle.parser.proofs.unknown.skip_plain.Goals as goal

pub loop-cursor-preserved : goal.loop-cursor-preserved
loop-cursor-preserved g c =
    let at = c.loop-cursor.cursor in
    let to = c.take_stride.new.cursor in
    let s = strode at.text at.place to.place (sym c.loop-cursor-test.ensures) c.take_stride.ensures.1 in
    run_on plain c.args.cursor.now at to c.loop-cursor.invariant c.take_stride.ensures.0 s.rest

pub loop-cursor-smaller : goal.loop-cursor-smaller
loop-cursor-smaller g c =
    let at = c.loop-cursor.cursor in
    let to = c.take_stride.new.cursor in
    let s = strode at.text at.place to.place (sym c.loop-cursor-test.ensures) c.take_stride.ensures.1 in
    less_left at to c.take_stride.ensures.0 s.inside s.on

pub returns : goal.returns
returns g c = run_ended plain c.args.cursor.now c.loop-cursor.cursor c.loop-cursor.invariant (sym c.loop-cursor-test.ensures)
