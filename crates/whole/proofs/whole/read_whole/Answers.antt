use Rattle.std.proofs.Common.{◌∙◌}
use Rattle.whole.specs.declared.reading.Reading.{Reading}
use Rattle.whole.proofs.Filling.{filled}
use Rattle.whole.proofs.Putting.{same_slots}
use Rattle.whole.proofs.whole.read_whole.Goals as goal

pub returns : goal.returns
returns g c =
    let cleared : Reading = record { queries = c.clear.new.self; separators = c.clear-2.new.self } in
    let w = c.walk_through.ensures.walked in
    let same = same_slots cleared c.walk_through.new.sink 0 0 w.given w.taken in
    record {
      queries = same.0 ∙ c.clear.ensures.same_reference;
      separators = same.1 ∙ c.clear-2.ensures.same_reference;
      whole = filled (g.T.Text.cells c.args.text.now) c.room.result c.room-2.result c.in_ok-reader.n c.in_ok-reader.reader c.walk_through.result c.args.reading.now cleared c.walk_through.new.sink c.room.ensures c.room-2.ensures c.in_ok-reader.ensures
          (record { queries = c.clear.ensures.slots; count = c.clear.ensures.len; separators = c.clear-2.ensures.slots; less = c.clear-2.ensures.len }) w;
    }
