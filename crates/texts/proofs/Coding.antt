-- The number that stands for the answer to a cell question.
use Rattle.std.proofs.Common.{◌≡◌, ℕ, zero, suc, List, [], ◌∷◌, get_or, Ok, Err, Option, Result, refl}
use Rattle.std.specs.Option.{option_flatten}
use Rattle.std.specs.Result.{result_ok}
use Rattle.texts.specs.declared.cell.Fault.{Fault}
use Rattle.texts.specs.declared.cell.Cell.{Cell}
use Rattle.texts.specs.declared.cell.Cell.TheVariants.{Byte, Bad}
use Rattle.texts.specs.Cells.{answer}
use Rattle.texts.specs.Codes.{codes, byte_code}

abbrev pub answer_code : Result (Option ℕ) Fault → ℕ
answer_code (Ok found) = byte_code found
answer_code (Err f) = 256

pub code_of_answer : (cells : List Cell) (p : ℕ) → answer_code (answer cells p) ≡ get_or (codes cells) p 256
code_of_answer [] zero = refl
code_of_answer [] (suc p) = refl
code_of_answer (Byte b ∷ cells) zero = refl
code_of_answer (Bad f ∷ cells) zero = refl
code_of_answer (c ∷ cells) (suc p) = code_of_answer cells p

pub code_of_byte : (r : Result (Option ℕ) Fault) → byte_code (option_flatten (result_ok r)) ≡ answer_code r
code_of_byte (Ok found) = refl
code_of_byte (Err f) = refl
