use Rattle.std.proofs.Common.{sym, ap}
use Rattle.grammar.specs.Names.{name_of}
use Rattle.grammar.proofs.query.QueryAtom.name.Goals as goal

pub returns-in-MaintainedNode : goal.returns-in-MaintainedNode
returns-in-MaintainedNode c = sym (ap name_of c.in-MaintainedNode.is)
