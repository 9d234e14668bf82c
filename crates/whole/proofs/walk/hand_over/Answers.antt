use Rattle.std.proofs.Common.{◌≡◌, length, Some, None, Ok, sym, ap, ◌∙◌, subst, arith}
use Rattle.std.proofs.lemmas.Result.{err_from_is_err_and}
use Rattle.std.specs.Result.{result_err}
use Rattle.reader.specs.Steps.{count_after, place_after}
use Rattle.reader.proofs.Stepping.{given_end}
use Rattle.whole.specs.Walks.{Walks}
use Rattle.whole.proofs.Walking.{sofar_none, sofar_more, sofar_end, sofar_lack}
use Rattle.whole.proofs.walk.hand_over.Goals as goal

pub loop-query-init : goal.loop-query-init
loop-query-init g c =
    (c.start_over.ensures.text, sofar_none g.S.Sink.takes c.args.reader.now.codes c.start_over.new.self c.args.sink.now c.start_over.ensures.same c.start_over.ensures.count c.start_over.ensures.after)

pub loop-query-smaller : goal.loop-query-smaller
loop-query-smaller g c =
    let r = c.loop-query.reader in
    let q = c.in-Some.query in
    let was : c.step.result ≡ Ok (Some q) = c.in_ok-query.was ∙ ap Ok c.in-Some.is in
    let b = given_end r.codes r.k r.place q (sym (sym was ∙ c.step.ensures.value)) in
    omega (arith, b.0, b.1, ap length c.loop-query.invariant.1.codes, c.step.ensures.after ∙ ap (λ a. place_after a r.place) was)

pub loop-query-preserved : goal.loop-query-preserved
loop-query-preserved g c =
    let r = c.loop-query.reader in
    let q = c.in-Some.query in
    let now = c.loop-query.sink in
    let now' = c.take.new.self in
    let was : c.step.result ≡ Ok (Some q) = c.in_ok-query.was ∙ ap Ok c.in-Some.is in
    let took = subst (λ n. g.S.Sink.takes now n r.place q now') c.count-n.ensures.value (subst (λ e. g.S.Sink.takes now c.count-n.result e q now') c.place-end.ensures.value c.take.ensures) in
    (c.step.ensures.text ∙ c.loop-query.invariant.0, sofar_more g.S.Sink.takes c.args.reader.now.codes r c.step.new.self c.args.sink.now now now' q c.loop-query.invariant.1 (sym was ∙ c.step.ensures.value) c.step.ensures.same (c.step.ensures.count ∙ ap (λ a. count_after a r.k) was) (c.step.ensures.after ∙ ap (λ a. place_after a r.place) was) took)

pub returns-in-None-clause-walked : goal.returns-in-None-clause-walked
returns-in-None-clause-walked g c =
    let r = c.loop-query.reader in
    let was : c.step.result ≡ Ok None = c.in_ok-query.was ∙ ap Ok c.in-None.is in
    sofar_end g.S.Sink.takes c.args.reader.now.codes r c.args.sink.now c.loop-query.sink c.step.new.self.k c.loop-query.invariant.1 (sym was ∙ c.step.ensures.value) (c.step.ensures.count ∙ ap (λ a. count_after a r.k) was)

pub returns-in_err-query-clause-walked : goal.returns-in_err-query-clause-walked
returns-in_err-query-clause-walked g c =
    let r = c.loop-query.reader in
    let e = c.in_err-query.field-0.0 in
    let p = err_from_is_err_and c.from_residual.result c.from_residual.ensures.1 in
    let told = sofar_lack g.S.Sink.takes c.args.reader.now.codes r c.args.sink.now c.loop-query.sink c.step.new.self.k e c.loop-query.invariant.1 (sym c.in_err-query.was ∙ c.step.ensures.value) (c.step.ensures.count ∙ ap (λ a. count_after a r.k) c.in_err-query.was) in
    subst (λ o. Walks g.S.Sink.takes c.args.reader.now.codes (record { given = c.step.new.self.k; refusal = o }) c.args.sink.now c.loop-query.sink) (sym (ap result_err p.1 ∙ ap Some p.2)) told
