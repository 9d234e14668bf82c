use Rattle.std.proofs.Common.{◌+◌, sym, refl, subst}
use Rattle.texts.proofs.Cutting.{cut_is}
use Rattle.texts.proofs.Trimming.{trimmed_clean}
use Rattle.texts.specs.Trim.{Clean}
use Rattle.texts.proofs.trim.Trim.new.Goals as goal

pub returns-clause-clean : goal.returns-clause-clean
returns-clause-clean g c =
    let cut = cut_is (g.T.Text.cells c.args.inner) c.space_in_front-start.result c.len-end.result c.kept_before-kept.result (c.space_in_front-start.result + c.kept_before-kept.result) c.space_in_front-start.ensures c.len-end.ensures c.kept_before-kept.ensures refl in
    subst Clean (sym cut) (trimmed_clean (g.T.Text.cells c.args.inner))
