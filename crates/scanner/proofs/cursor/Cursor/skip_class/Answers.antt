use Rattle.scanner.specs.Within.{within}
use Rattle.scanner.proofs.Inside.{none_within}
use Rattle.scanner.proofs.Runs.{class_on}
use Rattle.scanner.proofs.cursor.Cursor.skip_class.Goals as goal

pub loop-class-preserved : goal.loop-class-preserved
loop-class-preserved g c =
    class_on (within c.args.class) c.args.self.now c.loop-class.self c.eat_class.new.self (none_within c.args.class) c.loop-class.invariant c.loop-class-test.ensures
