-- The lowest bad cell, a cell at a time.
use Rattle.std.proofs.Common.{◌≡◌, ℕ, zero, suc, ◌+◌, ◌<◌, List, [], ◌∷◌, length, drop, Ok, Err, Option, refl, add-one, arith}
use Rattle.texts.specs.declared.cell.Fault.{Fault}
use Rattle.texts.specs.declared.cell.Cell.{Cell}
use Rattle.texts.specs.declared.cell.Cell.TheVariants.{Byte, Bad}
use Rattle.texts.specs.Cells.{answer}
use Rattle.reader.specs.declared.refusal.Refusal.TheVariants.{BadCell}
use Rattle.reader.specs.Start.{bad_from}

pass : (cells : List Cell) (i q : ℕ) (found : Option ℕ) → i < length cells → Ok found ≡ answer cells i → bad_from (drop i cells) q ≡ bad_from (drop (suc i) cells) (q + 1)
pass [] i q found h e = absurd (omega arith)
pass (Byte b ∷ cells) zero q found h e = refl
pass (Bad f ∷ cells) zero q found h e = absurd cc
pass (c ∷ cells) (suc i) q found h e = pass cells i q found (omega arith) e

pub good_more : (cells : List Cell) (i : ℕ) (found : Option ℕ) → i < length cells → Ok found ≡ answer cells i → bad_from (drop i cells) i ≡ bad_from (drop (i + 1) cells) (i + 1)
good_more cells i found h e = rw (add-one i) (rw add-one at (pass cells i i found h e))

-- at a bad cell
pub bad_stop : (cells : List Cell) (i q : ℕ) (fault : Fault) → Err fault ≡ answer cells i → bad_from (drop i cells) q ≡ Err (BadCell q fault)
bad_stop [] i q fault e = absurd cc
bad_stop (Byte b ∷ cells) zero q fault e = absurd cc
bad_stop (Bad f ∷ cells) zero q fault e = cc
bad_stop (c ∷ cells) (suc i) q fault e = bad_stop cells i q fault e
