use Rattle.std.proofs.Common.{refl, ap, ◌∙◌}
use Rattle.exports.specs.Put.{put_slot}
use Rattle.exports.proofs.Slots.{record_slot}
use Rattle.exports.proofs.read.RecordsSink.take.Goals as goal

pub returns : goal.returns
returns c =
    let words = c.args.self.now.words.now in
    record { same_reference = refl; written = c.put_slot.ensures ∙ (ap (put_slot words c.args.n) c.words_of.ensures ∙ record_slot words c.args.n c.args.query) }
