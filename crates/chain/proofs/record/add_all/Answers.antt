use Rattle.std.proofs.Common.{◌≡◌, ◌+◌, ◌%◌, rules, ◌∙◌, arith}
use Rattle.std.specs.List.{fold}
use Rattle.std.proofs.lemmas.Iterator.Consumers.{fold_from_yields_List}
use Rattle.std.proofs.lemmas.Iterator.{YieldsList-from_slice}
use Rattle.chain.proofs.Filing.{wrapped}
use Rattle.chain.proofs.record.add_all.Goals as goal

pub returns : goal.returns
returns c =
    let e : c.fold.result ≡ fold (λ a x. (a + x) % 256) c.args.sum c.args.bytes.now = fold_from_yields_List _ (λ a x. (a + x) % 256) c.args.sum c.fold.result c.fold.ensures.ran (YieldsList-from_slice {s = c.iter.result} c.args.bytes.now cc) (λ a x b q k. search rules) in
    e ∙ wrapped c.args.bytes.now c.args.sum (omega arith)
