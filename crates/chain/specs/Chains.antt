-- A memory of numbered records, read along the chain of their next indices.
use Rattle.std.specs.Prelude.{◌≡◌, ℕ, zero, suc, ◌+◌, ◌*◌, ◌/◌, ◌≤◌, min, cond, List, [], ◌∷◌, ◌++◌, length, take, drop, Some, None, Err, Option, ◌==◌, nat_lt}
use Rattle.texts.specs.declared.cell.Fault.{Fault}
use Rattle.texts.specs.declared.cell.Cell.{Cell}
use Rattle.texts.specs.declared.cell.Cell.TheVariants.{Bad}
use Rattle.texts.specs.Cells.{answer, bytes}
use Rattle.chain.specs.declared.damage.Damage.{Damage}
use Rattle.chain.specs.declared.damage.Damage.TheVariants.{NoRecord, TooMany}
use Rattle.chain.specs.Damages.{fault_of}
use Rattle.chain.specs.Records.{next_of, text_of, record_damage}

-- how many records a memory has: only whole ones count, and at most 256
abbrev pub records_of : List ℕ → ℕ
records_of memory = min (length memory / 64) 256

-- a record's bytes; the record of index 1 has number 0
abbrev pub record_at : List ℕ → ℕ → List ℕ
record_at memory number = take 64 (drop (number * 64) memory)

-- what is wrong at a record that is to be taken, where some are left to take: too many, none there, a bad one
abbrev pub damage_at : List ℕ → ℕ → ℕ → Option Damage
damage_at memory left number =
    cond (left == 0) (Some TooMany) (cond (nat_lt number (records_of memory)) (record_damage (record_at memory number)) (Some NoRecord))

-- one bad cell, where `own` cells stand before it
abbrev pub broken : Damage → ℕ → List Cell
broken damage own = Bad (fault_of damage own) ∷ []

-- the cells that follow, unless there is damage
abbrev pub unless : Option Damage → ℕ → List Cell → List Cell
unless None own cells = cells
unless (Some damage) own cells = broken damage own

-- the cells from an index on, where `left` records are left to take and `own` cells stand before
abbrev pub chain_from : List ℕ → ℕ → ℕ → ℕ → List Cell
chain_from memory left own zero = []
chain_from memory zero own (suc number) = broken TooMany own
chain_from memory (suc left) own (suc number) =
    unless (damage_at memory (suc left) number) own (bytes (text_of (record_at memory number)) ++ chain_from memory left (own + length (text_of (record_at memory number))) (next_of (record_at memory number)))

-- the cells of the chain that begins at an index
abbrev pub chained : List ℕ → ℕ → List Cell
chained memory first = chain_from memory (records_of memory) 0 first

-- what holds of every chain's cells
pub record Chain (cells : List Cell) : Type 0 where
  -- at most 60 cells for each of 256 records, and a bad one
  pub short : length cells ≤ 15361
  -- a bad cell is the last one, and its own place is the number of cells before it
  pub last : (p : ℕ) (f : Fault) → answer cells p ≡ Err f → (f.own ≡ p) × (length cells ≡ p + 1)
