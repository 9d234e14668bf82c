-- Looking for one query.
use Rattle.std.specs.Prelude.{◌≡◌, ℕ, cond, Some, None, Ok, Err, Option, Result, ◌==◌}
use Rattle.grammar.specs.declared.query.SingleQuery.{SingleQuery}
use Rattle.reader.specs.declared.refusal.Refusal.{Refusal}
use Rattle.whole.specs.declared.nth.Finder.{Finder}

-- query n is kept where it is the one looked for
pub record Finds (a : Finder) (n e : ℕ) (q : SingleQuery) (b : Finder) : Type 0 where
  pub number : b.k ≡ a.k
  pub found : b.found ≡ cond (n == a.k) (Some q) a.found

-- what was found, or how the steps ended
abbrev pub found_by : Option SingleQuery → Option Refusal → Result (Option SingleQuery) Refusal
found_by (Some q) refusal = Ok (Some q)
found_by None None = Ok None
found_by None (Some e) = Err e
