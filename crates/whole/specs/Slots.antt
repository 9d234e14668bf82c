-- Records in slots.
use Rattle.std.specs.Prelude.{◌≡◌, ℕ, ◌+◌, ◌≤◌, cond, List, [], ◌∷◌, ◌++◌, length, drop, nat_lt, slice_set}
use Rattle.grammar.specs.declared.query.SingleQuery.{SingleQuery}
use Rattle.whole.specs.declared.reading.Separator.{Separator}

-- slots of which the first len are filled, and one record more, if a slot is left
abbrev pub pushed_slots : {R : Type 0} → List R → ℕ → R → List R
pushed_slots slots len r = cond (nat_lt len (length slots)) (slice_set slots len r) slots

abbrev pub pushed_len : {R : Type 0} → List R → ℕ → ℕ
pushed_len slots len = cond (nat_lt len (length slots)) (len + 1) len

-- slots that hold these records, if they fit, and behind them what was there before
pub record Laid {R : Type 0} (before slots : List R) (len : ℕ) (rs : List R) : Type 0 where
  pub size : length slots ≡ length before
  pub filled : length rs ≤ length before → slots ≡ rs ++ drop (length rs) before
  pub count : length rs ≤ length before → len ≡ length rs

-- where the last of the raws ends, if one ends at e before them
abbrev pub end_of : ℕ → List SingleQuery → ℕ
end_of e [] = e
end_of e (q ∷ qs) = end_of q.raw.end qs

-- what stands between raws, where one ends at e before them
abbrev pub gaps_from : ℕ → List SingleQuery → List Separator
gaps_from e [] = []
gaps_from e (q ∷ qs) = record { start = e; end = q.raw.start } ∷ gaps_from q.raw.end qs

-- what stands between the raws
abbrev pub gaps : List SingleQuery → List Separator
gaps [] = []
gaps (q ∷ qs) = gaps_from q.raw.end qs
