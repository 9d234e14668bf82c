-- The numbers that digits say.
use Rattle.std.specs.Prelude.{ℕ, ◌+◌, ◌-◌, ◌*◌, ◌%◌, Bool, cond, List, length, ℤ, pos, neg_ℤ, fold, ◌==◌, nat_le}
use Rattle.std.specs.Int.{int_wrap, w32}
use Rattle.grammar.specs.declared.query.BaselineKind.{BaselineKind}
use Rattle.grammar.specs.declared.query.BaselineKind.TheVariants.{Year, LegacyYear, InvalidYear}

-- one more digit behind a number
abbrev pub more : ℕ → ℕ → ℕ
more a b = a * 10 + (b - 48)

-- the decimal value of a run of digits
abbrev pub value : List ℕ → ℕ
value bs = fold more 0 bs

-- a count: the value modulo 65,536
abbrev pub count : List ℕ → ℕ
count bs = value bs % 65536

-- a month or a day: the value modulo 4,294,967,296
abbrev pub calendar : List ℕ → ℕ
calendar bs = value bs % 4294967296

-- a year: the value, negated behind a `-`, wrapped into 32 bits with a sign
abbrev pub signed_year : Bool → List ℕ → ℤ
signed_year negative bs = int_wrap w32 (cond negative (neg_ℤ (pos (value bs))) (pos (value bs)))

-- the kind of a baseline year by its value and how many digits it has: four, another number, or too large
abbrev pub year_kind : ℕ → ℕ → BaselineKind
year_kind v n = cond (nat_le v 4294967295) (cond (n == 4) (Year v) (LegacyYear v)) InvalidYear

abbrev pub baseline_year : List ℕ → BaselineKind
baseline_year bs = year_kind (value bs) (length bs)
