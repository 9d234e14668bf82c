use Rattle.grammar.specs.Forms.{phantom, partially}
use Rattle.scanner.proofs.Onward.{second_reads}
use Rattle.forms.proofs.browser.parse_phantom_or_partially.Goals as goal

pub returns : goal.returns
returns g c =
    second_reads phantom partially c.parse_kind_supports.result c.args.cursor.now c.parse_phantom.new.cursor c.parse_kind_supports.new.cursor c.in_default.ensures c.parse_kind_supports.ensures
