use Rattle.parser.proofs.Electron.{formed_first, formed_behind}
use Rattle.parser.proofs.atom.parse_query_or_unknown.Goals as goal

pub returns-in-Some : goal.returns-in-Some
returns-in-Some g c =
    let from = c.args.cursor.now in
    let read = c.in-Some.ensures in
    (read.0, formed_first from.text from.place c.parse_query_atom.new.cursor.place c.in-Some.atom read.1)

pub returns : goal.returns
returns g c = formed_behind c.args.cursor.now c.parse_query_atom.new.cursor c.parse_unknown.new.cursor c.parse_unknown.result c.in_default.ensures c.parse_unknown.ensures
