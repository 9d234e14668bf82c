use Rattle.std.proofs.Common.{sym, refl, rules}
use Rattle.reader.specs.Start.{start_refusal}
use Rattle.exports.specs.Outcome.{ReadText}
use Rattle.exports.proofs.Reading.{read, lent}
use Rattle.exports.proofs.read.read_text.Goals as goal

pub returns : goal.returns
returns g c =
    let cells = g.T.Text.cells c.args.text.now in
    let w = c.walk_text-walk.result in
    let b = c.walk_text-walk.new.sink in
    let r = read cells w _ b c.map_or.result c.args.outcome.now c.put_slot.new.words (start_refusal cells) refl c.walk_text-walk.ensures c.map_or.ensures c.put_slot.ensures (search rules) in
    let same = sym r.0 in
    lent (λ words. ReadText cells w.given c.args.records.now words c.args.outcome.now c.put_slot.new.words) _ b.words.now (search rules) r.1
