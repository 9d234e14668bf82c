use Rattle.std.proofs.Common.{arith}
use Rattle.layers.proofs.Marking.{marked_wanted}
use Rattle.layers.proofs.marks.Marks.add_if.Goals as goal

pub returns-then-place-lt-LONGEST : goal.returns-then-place-lt-LONGEST
returns-then-place-lt-LONGEST c =
    record {
      more = λ h q. marked_wanted c.args.self.now.words c.args.place q c.args.wanted (omega arith) h c.if-wanted.true;
      past = λ h. absurd (omega arith);
    }
