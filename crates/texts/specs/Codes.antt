-- Cells as numbers: a byte is itself, and a bad cell is 256, which is in no class of bytes.
use Rattle.std.specs.Prelude.{ℕ, List, map, Some, None, Option}
use Rattle.texts.specs.declared.cell.Cell.{Cell}
use Rattle.texts.specs.declared.cell.Cell.TheVariants.{Byte, Bad}

abbrev pub code : Cell → ℕ
code (Byte b) = b
code (Bad f) = 256

abbrev pub codes : List Cell → List ℕ
codes = map code

-- what the cell question found, as a number
abbrev pub byte_code : Option ℕ → ℕ
byte_code (Some b) = b
byte_code None = 256
