use Rattle.std.proofs.Common.{sym}
use Rattle.grammar.specs.Tokens.{reserved}
use Rattle.dates.proofs.Naming.{named_free}
use Rattle.dates.proofs.last.parse_last_name.Goals as goal

pub returns : goal.returns
returns g c =
    let from = c.args.cursor.now in
    let named = c.parse_name.ensures in
    (named.0, named_free reserved from.text from.place c.parse_name.new.cursor.place c.parse_name.result (sym c.if-is_reserved.ensures) named.1)
