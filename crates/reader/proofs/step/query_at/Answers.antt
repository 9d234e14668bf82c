use Rattle.std.proofs.Common.{Err, sym, ap, ◌∙◌, rules}
use Rattle.texts.specs.Codes.{codes}
use Rattle.reader.proofs.Querying.{found_there, missed_there}
use Rattle.reader.proofs.step.query_at.Goals as goal

pub returns-in-Some : goal.returns-in-Some
returns-in-Some g c =
    let there = found_there (codes (g.T.Text.cells c.args.text.now)) c.args.start c.args.is_and c.in-Some.negated c.in-Some.atom c.at-cursor.result c.parse_single_query_atom.new.cursor c.at-cursor.ensures.text c.at-cursor.ensures.place c.in-Some.ensures in
    let place = c.at-cursor.ensures.place in
    let start = c.span_from.ensures.start in
    let end = c.span_from.ensures.end in
    search rules

pub returns-in-None : goal.returns-in-None
returns-in-None g c =
    ap Err c.place.ensures
    ∙ sym (missed_there (codes (g.T.Text.cells c.args.text.now)) c.args.start c.args.is_and c.at-cursor.result c.parse_single_query_atom.new.cursor c.at-cursor.ensures.text c.at-cursor.ensures.place c.in-None.ensures)
