-- Bytes copied out.
use Rattle.std.specs.Prelude.{◌≡◌, ℕ, List, ◌++◌, length, take, drop, Some, None, Ok, Err, Option, Result}
use Rattle.texts.specs.declared.cell.Fault.{Fault}
use Rattle.texts.specs.declared.cell.Cell.{Cell}
use Rattle.texts.specs.declared.cell.Cell.TheVariants.{Byte, Bad}
use Rattle.whole.specs.declared.refusal.WholeRefusal.{WholeRefusal}
use Rattle.whole.specs.declared.refusal.WholeRefusal.TheVariants.{OutsideBytes}
use Rattle.whole.specs.Parts.{part_of}

-- bytes over the first of others, as many as there is room for
abbrev pub overlaid : List ℕ → List ℕ → List ℕ
overlaid out bytes = take (length out) bytes ++ drop (length bytes) out

-- the part is there, and n bytes long
pub record Copied (bytes : List ℕ) (start end : ℕ) (out out' : List ℕ) (n : ℕ) : Type 0 where
  pub part : List ℕ
  pub is : part_of bytes start end ≡ Some part
  pub long : n ≡ length part
  pub laid : out' ≡ overlaid out part

-- the part is not within the bytes
pub record Uncopied (bytes : List ℕ) (start end : ℕ) (out out' : List ℕ) (e : WholeRefusal) : Type 0 where
  pub outside : part_of bytes start end ≡ None
  pub why : e ≡ OutsideBytes
  pub stays : out' ≡ out

-- a cell as a byte; ASCII's substitute for a bad one
abbrev pub byte_shown : Cell → ℕ
byte_shown (Byte b) = b
byte_shown (Bad f) = 26

-- the same of the answer to the question for a cell
abbrev pub found_shown : Option ℕ → ℕ
found_shown None = 26
found_shown (Some b) = b

abbrev pub answer_shown : Result (Option ℕ) Fault → ℕ
answer_shown (Ok found) = found_shown found
answer_shown (Err f) = 26
