use Rattle.std.proofs.Common.{None, refl}
use Rattle.reader.specs.Start.{start_refusal}
use Rattle.whole.proofs.Finding.{looked}
use Rattle.whole.proofs.nth.nth_query.Goals as goal

pub returns : goal.returns
returns g c =
    let cells = g.T.Text.cells c.args.text.now in
    looked cells c.args.k c.walk_text-walk.result (record { k = c.args.k; found = None }) c.walk_text-walk.new.sink c.found_by.result (start_refusal cells) refl refl refl c.walk_text-walk.ensures c.found_by.ensures
