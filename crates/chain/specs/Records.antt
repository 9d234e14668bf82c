-- One record of a chain, as a list of bytes.
use Rattle.std.specs.Prelude.{ℕ, ◌+◌, ◌*◌, ◌%◌, cond, List, take, drop, Some, None, sum, Option, ◌==◌, nat_lt, slice_index}
use Rattle.chain.specs.declared.damage.Damage.{Damage}
use Rattle.chain.specs.declared.damage.Damage.TheVariants.{TooLong, WrongCheck}

-- the index of the next record, high byte first
abbrev pub next_of : List ℕ → ℕ
next_of bytes = slice_index bytes 0 * 256 + slice_index bytes 1

-- how many bytes of text are used
abbrev pub used_of : List ℕ → ℕ
used_of bytes = slice_index bytes 2

-- the used bytes of text
abbrev pub text_of : List ℕ → List ℕ
text_of bytes = take (used_of bytes) (drop 4 bytes)

-- the sum of bytes 0, 1 and 2
abbrev pub head_of : List ℕ → ℕ
head_of bytes = slice_index bytes 0 + slice_index bytes 1 + slice_index bytes 2

-- the check that a record ought to have: the sum of bytes 0, 1 and 2 and of the used text, modulo 256
abbrev pub check_of : List ℕ → ℕ
check_of bytes = (head_of bytes + sum (text_of bytes)) % 256

-- what is wrong with a record, if anything
abbrev pub record_damage : List ℕ → Option Damage
record_damage bytes =
    cond (nat_lt 60 (used_of bytes)) (Some TooLong) (cond (slice_index bytes 3 == check_of bytes) None (Some WrongCheck))
