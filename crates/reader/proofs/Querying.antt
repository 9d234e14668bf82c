-- A query that a cursor read, as the query at the place where the cursor began.
use Rattle.std.proofs.Common.{◌≡◌, ℕ, Bool, List, Some, None, Ok, Err, sym, ap, ◌∙◌}
use Rattle.grammar.specs.Form.{reads, Outcome, query}
use Rattle.grammar.specs.Forms.{querying, missed}
use Rattle.grammar.specs.declared.query.QueryAtom.{QueryAtom}
use Rattle.scanner.specs.Position.{Position, ReadsOr}
use Rattle.reader.specs.Steps.{found, query_at}

moved : (t : List ℕ) (s : ℕ) (and : Bool) (from : Position) → from.text ≡ t → from.place ≡ s → query_at t and s ≡ query_at from.text and from.place
moved t s and from e f i = query_at (sym e i) and (sym f i)

pub found_there : (t : List ℕ) (s : ℕ) (and n : Bool) (a : QueryAtom) (from to : Position) → from.text ≡ t → from.place ≡ s → ReadsOr querying missed (Some (n, a)) from to → query_at t and s ≡ Ok (record { raw = record { start = from.place; end = to.place }; atom = a; negated = n; is_and = and })
found_there t s and n a from to e f h = moved t s and from e f ∙ ap (found and from.place (missed from.text from.place)) h.1.0

pub missed_there : (t : List ℕ) (s : ℕ) (and : Bool) (from to : Position) → from.text ≡ t → from.place ≡ s → ReadsOr querying missed None from to → query_at t and s ≡ Err to.place
missed_there t s and from to e f h = moved t s and from e f ∙ (ap (found and from.place (missed from.text from.place)) h.1.0 ∙ ap Err h.1.1)
