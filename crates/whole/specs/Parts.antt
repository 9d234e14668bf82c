-- A part of bytes.
use Rattle.std.specs.Prelude.{ℕ, ◌-◌, cond, List, length, take, drop, Some, None, Option, nat_le}

-- the bytes from start up to end, where start does not pass end and end does not pass the bytes
abbrev pub part_of : List ℕ → ℕ → ℕ → Option (List ℕ)
part_of bytes start end =
    cond (nat_le start end) (cond (nat_le end (length bytes)) (Some (take (end - start) (drop start bytes))) None) None
