-- A form read on from where a part of it ended.
use Rattle.std.proofs.Common.{◌≡◌, Bool, true, false, Some, None, Option, sym, ap, ◌∙◌}
use Rattle.grammar.specs.Form.{Kind, Form, Value, Outcome, reads, bind, first, skip, whether, onward, decided}
use Rattle.grammar.specs.Rule.{Rule}
use Rattle.grammar.proofs.Choice.{second}
use Rattle.scanner.specs.Position.{Position, Takes, Reads, Yields}

-- what a form gives from here on
abbrev pub gives : {k : Kind} → Form k → Position → Outcome (Value k)
gives f at = reads f at.text at.place

-- the same text
along : {k : Kind} (f : Form k) (from to : Position) → to.text ≡ from.text → reads f from.text to.place ≡ gives f to
along f from to t = ap (λ s. reads f s to.place) (sym t)

-- behind a rule
pub behind_rule : {k : Kind} (r : Rule) (f : Form k) (from to : Position) → Takes r true from to → gives (skip r f) from ≡ gives f to
behind_rule r f from to h = ap (λ o. decided o (λ e. reads f from.text e) None) h.1.0 ∙ along f from to h.0

-- where the rule is missed
pub missed_rule : {k : Kind} (r : Rule) (f : Form k) (from to : Position) → Takes r false from to → gives (skip r f) from ≡ None
missed_rule r f from to h = ap (λ o. decided o (λ e. reads f from.text e) None) h.1.0

-- behind a form
pub behind_form : {j k : Kind} (f : Form j) (h : Value j → Form k) (v : Value j) (from to : Position) → Reads f (Some v) from to → gives (bind f h) from ≡ gives (h v) to
behind_form f h v from to g = ap (λ o. onward o (λ v e. reads (h v) from.text e)) g.1.0 ∙ along (h v) from to g.0

-- behind a form that fits anywhere
pub behind_any : {j k : Kind} (f : Form j) (h : Value j → Form k) (v : Value j) (from to : Position) → Yields f v from to → gives (bind f h) from ≡ gives (h v) to
behind_any f h v from to g = ap (λ o. onward o (λ v e. reads (h v) from.text e)) g.1 ∙ along (h v) from to g.0

-- whether a rule fits, and behind it
pub behind_whether : {k : Kind} (r : Rule) (h : Bool → Form k) (b : Bool) (from to : Position) → Takes r b from to → gives (bind (whether r) h) from ≡ gives (h b) to
behind_whether r h true from to g = ap (λ o. onward (decided o (λ e. Some (true, e)) (Some (false, from.place))) (λ v e. reads (h v) from.text e)) g.1.0 ∙ along (h true) from to g.0
behind_whether r h false from to g =
    ap (λ o. onward (decided o (λ e. Some (true, e)) (Some (false, from.place))) (λ v e. reads (h v) from.text e)) g.1.0
    ∙ (ap (λ p. reads (h false) from.text p) g.1.1 ∙ along (h false) from to g.0)

-- the second of two forms, where the first did not fit and left the cursor where it was
pub second_reads : {k : Kind} (f h : Form k) (r : Option (Value k)) (from mid to : Position) → Reads f None from mid → Reads h r mid to → Reads (first f h) r from to
second_reads f h r from mid to a b =
    (b.0 ∙ a.0, second (reads f from.text from.place) (reads h from.text) r from.place mid.place to.place a.1 (ap (λ t. reads h t mid.place) (sym a.0) ∙ b.1.0, b.1.1))
