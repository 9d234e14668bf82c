use Rattle.grammar.specs.Classes.{digit}
use Rattle.grammar.specs.Decimal.{baseline_year}
use Rattle.grammar.specs.Form.{read, baseline}
use Rattle.grammar.specs.Forms.{available}
use Rattle.grammar.specs.Tokens.{some}
use Rattle.scanner.proofs.Onward.{second_reads}
use Rattle.dates.proofs.baseline.parse_baseline_kind.Goals as goal

pub returns : goal.returns
returns g c =
    second_reads (read {k = baseline} (some digit) baseline_year) available c.parse_available.result c.args.cursor.now c.parse_baseline_year.new.self c.parse_available.new.cursor c.in_default.ensures c.parse_available.ensures
