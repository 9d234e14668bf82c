-- One number of one query's record.
use Rattle.std.specs.Prelude.{◌≡◌, ℕ, List, Some, None, Ok, Err, Option, Result, MatchResult, slice_index_or}
use Rattle.texts.specs.declared.cell.Cell.{Cell}
use Rattle.texts.specs.Codes.{codes}
use Rattle.texts.specs.Trim.{trimmed}
use Rattle.grammar.specs.declared.query.SingleQuery.{SingleQuery}
use Rattle.reader.specs.declared.refusal.Refusal.{Refusal}
use Rattle.reader.specs.Start.{start_refusal}
use Rattle.whole.specs.Whole.{Nth}
use Rattle.exports.specs.Layout.{words_of}

-- what stands for a word that is not there
abbrev pub absent : ℕ
absent = 18446744073709551615

-- a word of a query, if both are there
abbrev pub found_in : Option SingleQuery → ℕ → ℕ
found_in None field = absent
found_in (Some q) field = slice_index_or (words_of q) field absent

-- the same of what stepping to the query found
abbrev pub field_in : Result (Option SingleQuery) Refusal → ℕ → ℕ
field_in (Ok found) field = found_in found field
field_in (Err e) field = absent

-- a word of query k of a text
pub record FieldOf (cells : List Cell) (k field value : ℕ) : Type 0 where
  pub found : Result (Option SingleQuery) Refusal
  pub nth : MatchResult (start_refusal cells) (λ _. Nth (codes (trimmed cells)) k found) (λ e. found ≡ Err e)
  pub word : value ≡ field_in found field
