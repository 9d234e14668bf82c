-- The year of a baseline, as 32 bits hold it.
use Rattle.std.specs.Prelude.{ℕ, cond, Some, None, Option, nat_le}

-- a value, or none where 32 bits do not hold it
abbrev pub year_held : ℕ → Option ℕ
year_held v = cond (nat_le v 4294967295) (Some v) None
