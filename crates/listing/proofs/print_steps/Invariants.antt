use Rattle.std.proofs.Common.{◌-◌, length}
use Rattle.listing.proofs.print_steps.Given as goal

abbrev pub decreases-loop-query : goal.decreases-loop-query
decreases-loop-query g l = length l.reader.codes - l.reader.place
