use Rattle.std.proofs.Common.{sym, ◌∙◌}
use Rattle.std.proofs.lemmas.Result.{err_from_is_err_and}
use Rattle.whole.specs.Whole.{crowded}
use Rattle.whole.proofs.Filling.{barred_start, barred_short, counted_reading, refused}
use Rattle.whole.proofs.whole.fitting.Goals as goal

pub returns-in_err-reader : goal.returns-in_err-reader
returns-in_err-reader g c =
    let p = err_from_is_err_and c.from_residual.result c.from_residual.ensures.1 in
    let e = c.in_err-reader.field-0.0 in
    refused _ (g.T.Text.cells c.args.text.now) c.args.slots c.args.between c.from_residual.result p.0 e p.1 p.2 (barred_start (g.T.Text.cells c.args.text.now) e c.in_err-reader.ensures)

pub returns-in_err-n : goal.returns-in_err-n
returns-in_err-n g c =
    let p = err_from_is_err_and c.from_residual-in_err-n.result c.from_residual-in_err-n.ensures.1 in
    let e = c.in_err-n.field-0.0 in
    let r = c.in_ok-reader.reader in
    let b = c.in_ok-reader.ensures in
    refused _ (g.T.Text.cells c.args.text.now) c.args.slots c.args.between c.from_residual-in_err-n.result p.0 e p.1 p.2 (barred_short (g.T.Text.cells c.args.text.now) r.codes c.count.result e b.0 b.1 c.count.ensures.counted c.in_err-n.was)

pub returns-then-has_room : goal.returns-then-has_room
returns-then-has_room g c =
    let r = c.in_ok-reader.reader in
    let b = c.in_ok-reader.ensures in
    record {
      counts = counted_reading (g.T.Text.cells c.args.text.now) r.codes c.count.result c.in_ok-n.n b.0 b.1 c.count.ensures.counted c.in_ok-n.was;
      room = sym c.if-has_room.ensures;
      codes = c.count.ensures.same ∙ b.1;
      none = c.count.ensures.none;
      start = c.count.ensures.start;
    }

pub returns-else-has_room : goal.returns-else-has_room
returns-else-has_room g c =
    let r = c.in_ok-reader.reader in
    let b = c.in_ok-reader.ensures in
    crowded (counted_reading (g.T.Text.cells c.args.text.now) r.codes c.count.result c.in_ok-n.n b.0 b.1 c.count.ensures.counted c.in_ok-n.was) (sym c.if-has_room.ensures)
