use Rattle.reader.proofs.Places.{back_within}
use Rattle.reader.proofs.reader.Reader.step_back.Goals as goal

pub invariant_of-self : goal.invariant_of-self
invariant_of-self g c =
    let s = c.self.inside in
    back_within s.text.start s.text.end (g.T.Text.cells s.text.inner.now) s.k s.place c.place_of.result c.max-place.result (g.T.Text.short s.text.inner.now) c.self.invariant c.place_of.ensures c.max-place.ensures

pub returns-clause-within : goal.returns-clause-within
returns-clause-within g c = invariant_of-self g c
