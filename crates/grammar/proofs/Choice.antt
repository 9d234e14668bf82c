-- The second of two forms, where the first did not fit and left the place as it was.
use Rattle.std.proofs.Common.{ℕ, None, Option, ap, ◌∙◌}
use Rattle.grammar.specs.Form.{Outcome, first_of}
use Rattle.grammar.specs.Gives.{GivesValue, left}

pub second : {V : Type 0} (o : Outcome V) (f : ℕ → Outcome V) (r : Option V) (p m q : ℕ) → GivesValue o None p m → GivesValue (f m) r m q → GivesValue (first_of o (f p)) r p q
second o f r p m q g h =
    (ap (λ x. first_of x (f p)) g.0 ∙ (ap f g.1 ∙ h.0), ap (left r q) g.1 ∙ h.1)
