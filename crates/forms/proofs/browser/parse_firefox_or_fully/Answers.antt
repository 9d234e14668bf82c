use Rattle.grammar.specs.Forms.{firefox_esr, fully}
use Rattle.scanner.proofs.Onward.{second_reads}
use Rattle.forms.proofs.browser.parse_firefox_or_fully.Goals as goal

pub returns : goal.returns
returns g c =
    second_reads firefox_esr fully c.parse_kind_supports.result c.args.cursor.now c.parse_firefox_esr.new.cursor c.parse_kind_supports.new.cursor c.in_default.ensures c.parse_kind_supports.ensures
