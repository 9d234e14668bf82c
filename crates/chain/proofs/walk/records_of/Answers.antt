use Rattle.std.proofs.Common.{take, ap, ◌∙◌, arith, length-take}
use Rattle.std.specs.List.{slice_get}
use Rattle.chain.proofs.Filing.{nth_record}
use Rattle.chain.proofs.walk.records_of.Goals as goal

pub returns-clause-each : goal.returns-clause-each
returns-clause-each c k h =
    ap (λ l. slice_get (take c.min.result l) k) c.as_chunks.ensures.front
    ∙ nth_record c.args.memory.now c.min.result k (omega (arith, length-take c.min.result c.as_chunks.result.0.now)) (omega (arith, c.as_chunks.ensures.front_len, length-take c.min.result c.as_chunks.result.0.now))
