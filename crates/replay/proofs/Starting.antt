-- A text is accepted at start exactly when a reading can start on it.
use Rattle.std.proofs.Common.{◌≡◌, ℕ, ◌+◌, List, [], ◌∷◌, Some, None, Ok, Err, Option, Result, refl}
use Rattle.texts.specs.declared.cell.Cell.{Cell}
use Rattle.texts.specs.declared.cell.Cell.TheVariants.{Byte, Bad}
use Rattle.texts.specs.Codes.{codes}
use Rattle.reader.specs.declared.refusal.Refusal.{Refusal}
use Rattle.reader.specs.Utf8.{ill_formed}
use Rattle.reader.specs.Start.{bad_from, bad_refusal, ill_refusal, and_then, start_refusal}
use Rattle.replay.specs.Texts.{AllBytes, Readable}

bytes_pass : (cells : List Cell) (place : ℕ) → AllBytes cells → bad_from cells place ≡ Ok tt
bytes_pass [] place h = refl
bytes_pass (Byte b ∷ cells) place h = bytes_pass cells (place + 1) h
bytes_pass (Bad fault ∷ cells) place h = absurd h

passed_bytes : (cells : List Cell) (place : ℕ) → bad_from cells place ≡ Ok tt → AllBytes cells
passed_bytes [] place h = tt
passed_bytes (Byte b ∷ cells) place h = passed_bytes cells (place + 1) h
passed_bytes (Bad fault ∷ cells) place h = absurd cc

both_pass : (a b : Result (Unit {0}) Refusal) → and_then a b ≡ Ok tt → (a ≡ Ok tt) × (b ≡ Ok tt)
both_pass (Ok x) b h = (refl, h)
both_pass (Err r) b h = absurd cc

none_ill : (o : Option ℕ) → ill_refusal o ≡ Ok tt → o ≡ None
none_ill None h = refl
none_ill (Some place) h = absurd cc

pub accepted_readable : (cells : List Cell) → start_refusal cells ≡ Ok tt → Readable cells
accepted_readable cells h =
    let w = both_pass (bad_refusal cells) (ill_refusal (ill_formed (codes cells))) h in
    record { bytes = passed_bytes cells 0 w.0; formed = none_ill (ill_formed (codes cells)) w.1 }

pub readable_accepted : (cells : List Cell) → Readable cells → start_refusal cells ≡ Ok tt
readable_accepted cells h = λ i. and_then (bytes_pass cells 0 h.bytes i) (ill_refusal (h.formed i))

pub refused_unreadable : (cells : List Cell) (e : Refusal) → start_refusal cells ≡ Err e → Readable cells → ⊥
refused_unreadable cells e h r = clash (start_refusal cells) (readable_accepted cells r) h
  where
    clash : (x : Result (Unit {0}) Refusal) → x ≡ Ok tt → x ≡ Err e → ⊥
    clash x a b = cc
