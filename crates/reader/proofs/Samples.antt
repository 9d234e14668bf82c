-- Samples of ill-formed sequences and of the order of the checks.
use Rattle.std.proofs.Common.{◌≡◌, [], ◌∷◌, Some, None, Ok, Err, refl}
use Rattle.texts.specs.declared.cell.Fault.{Fault}
use Rattle.texts.specs.declared.cell.Cell.TheVariants.{Byte, Bad}
use Rattle.reader.specs.declared.refusal.Refusal.TheVariants.{BadCell, IllFormed}
use Rattle.reader.specs.Utf8.{ill_formed}
use Rattle.reader.specs.Start.{start_refusal}

-- a sequence that an ASCII byte breaks off is ill-formed at its first byte
broken_off : ill_formed (0xE2 ∷ 0x80 ∷ 0x41 ∷ []) ≡ Some 0
broken_off = refl

-- so is one that the text's end breaks off
at_the_end : ill_formed (0x41 ∷ 0xF0 ∷ 0x9F ∷ 0x98 ∷ []) ≡ Some 1
at_the_end = refl

surrogate : ill_formed (0x20 ∷ 0xED ∷ 0xA0 ∷ 0x80 ∷ []) ≡ Some 1
surrogate = refl

past_the_last : ill_formed (0xF4 ∷ 0x90 ∷ 0x80 ∷ 0x80 ∷ []) ≡ Some 0
past_the_last = refl

four_long : ill_formed (0xF0 ∷ 0x9F ∷ 0x98 ∷ 0x80 ∷ 0x41 ∷ []) ≡ None
four_long = refl

-- a bad cell comes first, also behind an ill-formed byte
bad_first : (fault : Fault) → start_refusal (Byte 0xFF ∷ Bad fault ∷ []) ≡ Err (BadCell 1 fault)
bad_first fault = refl

ill_next : start_refusal (Byte 0x20 ∷ Byte 0xFF ∷ []) ≡ Err (IllFormed 1)
ill_next = refl

accepted : start_refusal (Byte 0x41 ∷ []) ≡ Ok tt
accepted = refl
