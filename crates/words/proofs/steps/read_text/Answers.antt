use Rattle.std.proofs.Common.{sym, refl, ap, ◌∙◌, rules}
use Rattle.reader.specs.Start.{start_refusal}
use Rattle.exports.specs.Put.{put_slot}
use Rattle.words.specs.Outcome.{outcome_of, of_text}
use Rattle.words.specs.Steps.{ReadText}
use Rattle.words.proofs.Slots.{lent}
use Rattle.words.proofs.Reading.{read, answered}
use Rattle.words.proofs.steps.read_text.Goals as goal

pub returns : goal.returns
returns g c =
    let cells = g.T.Text.cells c.args.text.now in
    let w = c.walk_text-walk.result in
    let b = c.walk_text-walk.new.sink in
    let told = c.report.ensures.told ∙ ap (λ a. put_slot c.args.outcome.now 0 (outcome_of a)) (answered c.answer.result c.map_err.result c.map_err.ensures.cases ∙ ap of_text c.answer.ensures) in
    let r = read cells w _ b c.args.outcome.now c.report.new.outcome (start_refusal cells) refl c.walk_text-walk.ensures told in
    let same_queries = sym r.0 in
    let same_separators = sym r.1 in
    lent (λ q s. ReadText cells w.given c.args.queries.now q c.args.separators.now s c.args.outcome.now c.report.new.outcome) _ b.queries.now _ b.separators.now (search rules) (search rules) r.2
