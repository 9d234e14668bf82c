-- A chain has at most 60 cells for each record, and a bad one.
use Rattle.std.specs.Prelude.{◌≡◌, ℕ, zero, suc, ◌+◌, ◌*◌, ◌<◌, ◌≤◌, Bool, true, false, cond, List, ◌++◌, length, drop, Some, None, Option, ◌==◌, nat_lt, slice_index, refl}
use Rattle.std.proofs.Common.{arith, lit≤, length-append, length-take}
use Rattle.std.proofs.lemmas.List.{length-map}
use Rattle.std.proofs.lemmas.Bool.{ltb-true, ltb-false, eqb-false}
use Rattle.texts.specs.declared.cell.Cell.{Cell}
use Rattle.texts.specs.declared.cell.Cell.TheVariants.{Byte}
use Rattle.texts.specs.Cells.{bytes}
use Rattle.chain.specs.declared.damage.Damage.{Damage}
use Rattle.chain.specs.declared.damage.Damage.TheVariants.{NoRecord, TooMany, TooLong, WrongCheck}
use Rattle.chain.specs.Records.{next_of, used_of, text_of, check_of}
use Rattle.chain.specs.Chains.{records_of, record_at, damage_at, unless, chain_from, chained}

some_none : {X : Type 0} (x : X) → ◌≡◌ {A = Option X} (Some x) None → ⊥
some_none x h = let z : ◌≡◌ {A = ℕ} 0 1 = cc in omega arith

tests : (many there long same : Bool) → cond many (Some TooMany) (cond there (cond long (Some TooLong) (cond same None (Some WrongCheck))) (Some NoRecord)) ≡ None → (many ≡ false) × (there ≡ true) × (long ≡ false)
tests true there long same h = absurd (some_none TooMany h)
tests false false long same h = absurd (some_none NoRecord h)
tests false true true same h = absurd (some_none TooLong h)
tests false true false same h = (refl, refl, refl)

-- a record that is taken: some are left to take, it is there, and at most 60 bytes are used
pub taken_is : (memory : List ℕ) (left number : ℕ) → damage_at memory left number ≡ None → (0 < left) × (number < records_of memory) × (used_of (record_at memory number) ≤ 60)
taken_is memory left number h =
    let r = record_at memory number in
    let t = tests (left == 0) (nat_lt number (records_of memory)) (nat_lt 60 (used_of r)) (slice_index r 3 == check_of r) h in
    let some : left ≡ 0 → ⊥ = eqb-false left 0 t.0 in
    (omega arith, ltb-true number (records_of memory) t.1, ltb-false 60 (used_of r) t.2)

unless_short : (o : Option Damage) (own n : ℕ) (cells : List Cell) → 1 ≤ n → (o ≡ None → length cells ≤ n) → length (unless o own cells) ≤ n
unless_short None own n cells one h = h refl
unless_short (Some d) own n cells one h = one

from_short : (memory : List ℕ) (left own index : ℕ) → length (chain_from memory left own index) ≤ 60 * left + 1
from_short memory left own zero = omega arith
from_short memory zero own (suc number) = lit≤ tt
from_short memory (suc left) own (suc number) =
    let r = record_at memory number in
    let text = text_of r in
    let more = chain_from memory left (own + length text) (next_of r) in
    unless_short (damage_at memory (suc left) number) own (60 * suc left + 1) (bytes text ++ more) (omega arith) (λ e. omega (arith, (taken_is memory (suc left) number e).2, from_short memory left (own + length text) (next_of r), length-append (bytes text) more, length-map text Byte, length-take (used_of r) (drop 4 r)))

pub chained_within : (memory : List ℕ) (first : ℕ) → length (chained memory first) ≤ 15361
chained_within memory first = omega (arith, from_short memory (records_of memory) 0 first)

pub chained_short : (memory : List ℕ) (first : ℕ) → length (chained memory first) ≤ 16384
chained_short memory first = omega (arith, from_short memory (records_of memory) 0 first)
