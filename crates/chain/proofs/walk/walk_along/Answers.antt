use Rattle.std.proofs.Common.{◌≡◌, ◌-◌, length, None, refl, ap, ◌∙◌, arith}
use Rattle.chain.specs.Records.{used_of}
use Rattle.chain.specs.Chains.{records_of, record_at, damage_at}
use Rattle.chain.specs.Walks.{list_of}
use Rattle.chain.proofs.Chaining.{walked_broken, walked_more}
use Rattle.chain.proofs.walk.walk_along.Goals as goal

pub loop-index-preserved : goal.loop-index-preserved
loop-index-preserved c =
    let memory = c.args.memory.now in
    let number = c.from-number.result - 1 in
    let ps = list_of c.loop-index.pieces in
    let found : c.in-Ok.record.now ≡ record_at memory number = c.in-Ok.ensures.found in
    let left : length c.records_of-records.result.now - length c.as_slice.result.now ≡ records_of memory - length ps = omega (arith, ap length c.as_slice.ensures) in
    let fine : None ≡ damage_at memory (records_of memory - length ps) number = c.in-Ok.ensures.damage ∙ ap (λ n. damage_at memory n number) left in
    let used : c.from-size.result ≡ used_of (record_at memory number) = c.from-size.ensures ∙ ap used_of found in
    rw (c.push.ensures, c.next_of-index.ensures, found) (walked_more memory c.args.first c.loop-index.size ps c.loop-index.index number (omega arith) c.loop-index.invariant _ fine refl (omega arith) refl)

pub returns-in-Err : goal.returns-in-Err
returns-in-Err c =
    let memory = c.args.memory.now in
    let number = c.from-number.result - 1 in
    let ps = list_of c.loop-index.pieces in
    let left : length c.records_of-records.result.now - length c.as_slice.result.now ≡ records_of memory - length ps = omega (arith, ap length c.as_slice.ensures) in
    rw c.fault_of.ensures (walked_broken memory c.args.first c.loop-index.size ps c.loop-index.index number (omega arith) c.loop-index.invariant c.in-Err.damage (c.in-Err.ensures.damage ∙ ap (λ n. damage_at memory n number) left))
