use Rattle.std.proofs.Common.{◌≡◌, Ok, sym, ◌∙◌, arith, rules}
use Rattle.reader.proofs.Stepping.{next_within}
use Rattle.reader.proofs.reader.Reader.step.Goals as goal

pub invariant_of-self : goal.invariant_of-self
invariant_of-self g c =
    let s = c.self.inside in
    let got : c.next_query-found.result ≡ Ok c.in_ok-query.query = search rules in
    next_within s.text.start s.text.end (g.T.Text.cells s.text.inner.now) s.k s.place c.in_ok-query.query (g.T.Text.short s.text.inner.now) (omega (arith, c.len.ensures)) c.self.invariant (sym c.next_query-found.ensures ∙ got)

pub returns-clause-within : goal.returns-clause-within
returns-clause-within g c = invariant_of-self g c
