use Rattle.std.proofs.Common.{rules, sym}
use Rattle.parser.proofs.Unknowns.{unknown_some}
use Rattle.parser.proofs.unknown.parse_unknown.Goals as goal

pub returns : goal.returns
returns g c =
    let from = c.args.cursor.now in
    let run = unknown_some from.text from.place c.skip_plain.new.cursor.place (sym c.if-not-is_plain.ensures) c.skip_plain.ensures.1 in
    search rules
