use Rattle.scanner.proofs.Digits.{counted_none, counted_more, counted_done, digit_read, digit_missed, digit_inside}
use Rattle.scanner.proofs.Runs.{less_left}
use Rattle.std.proofs.Common.{sym, arith}
use Rattle.scanner.proofs.cursor.Cursor.digits.Goals as goal

pub loop-digit-init : goal.loop-digit-init
loop-digit-init g c = counted_none g.N.Number.of_value c.args.self.now c.zero-n.result c.zero-n.ensures

pub loop-digit-preserved : goal.loop-digit-preserved
loop-digit-preserved g c =
    let at = c.loop-digit.self in
    let to = c.parse_digit.new.self in
    let read = c.in-Some.ensures.value in
    counted_more g.N.Number.of_value c.args.self.now at to c.loop-digit.n c.more-n.result c.in-Some.digit c.loop-digit.invariant read.0
    (digit_read at.text at.place c.in-Some.digit to.place read.1.0) c.more-n.ensures

pub loop-digit-smaller : goal.loop-digit-smaller
loop-digit-smaller g c =
    let at = c.loop-digit.self in
    let to = c.parse_digit.new.self in
    let read = c.in-Some.ensures.value in
    let k = digit_read at.text at.place c.in-Some.digit to.place read.1.0 in
    less_left at to read.0 (digit_inside at.text at.place k.here) (omega (arith, k.on))

pub returns : goal.returns
returns g c =
    let at = c.loop-digit.self in
    let missed = c.in_default.ensures.value in
    let done = counted_done g.N.Number.of_value c.args.self.now at c.parse_digit.new.self c.loop-digit.n c.loop-digit.invariant missed.0 (sym missed.1.1) (digit_missed at.text at.place missed.1.0) in
    record { took = done.0; value = done.1 }
