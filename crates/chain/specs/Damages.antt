-- The faults that tell the damage of a chain.
use Rattle.std.specs.Prelude.{ℕ, ◌≤◌}
use Rattle.std.proofs.Common.{lit≤}
use Rattle.texts.specs.declared.cell.Fault.{Fault}
use Rattle.chain.specs.declared.damage.Damage.{Damage}
use Rattle.chain.specs.declared.damage.Damage.TheVariants.{NoRecord, TooMany, TooLong, WrongCheck}

-- the number of a damage
abbrev pub number_of : Damage → ℕ
number_of NoRecord = 1
number_of TooMany = 2
number_of TooLong = 3
number_of WrongCheck = 4

pub numbered : (damage : Damage) → 1 ≤ number_of damage
numbered NoRecord = lit≤ tt
numbered TooMany = lit≤ tt
numbered TooLong = lit≤ tt
numbered WrongCheck = lit≤ tt

-- the fault of a damage, where a number of cells stands before it
abbrev pub fault_of : Damage → ℕ → Fault
fault_of damage own = record { number = number_of damage; own = own; numbered = numbered damage }
