-- Samples of chains.
use Rattle.std.proofs.Common.{◌≡◌, ℕ, ◌+◌, ◌-◌, ◌%◌, List, [], ◌∷◌, ◌++◌, length, replicate, sum, refl}
use Rattle.texts.specs.Cells.{bytes}
use Rattle.chain.specs.declared.damage.Damage.TheVariants.{NoRecord, TooMany, TooLong, WrongCheck}
use Rattle.chain.specs.Chains.{chained, broken}

-- a record of 64 bytes
abbrev filed : ℕ → ℕ → ℕ → List ℕ → List ℕ
filed next used check text = 0 ∷ next ∷ used ∷ check ∷ (text ++ replicate (60 - length text) 0)

-- a record with its check
abbrev kept : ℕ → List ℕ → List ℕ
kept next text = filed next (length text) ((next + length text + sum text) % 256) text

-- from the first record to the second
two : chained (kept 2 (97 ∷ 98 ∷ []) ++ kept 0 (99 ∷ [])) 1 ≡ bytes (97 ∷ 98 ∷ 99 ∷ [])
two = refl

-- from the second alone
second : chained (kept 2 (97 ∷ 98 ∷ []) ++ kept 0 (99 ∷ [])) 2 ≡ bytes (99 ∷ [])
second = refl

-- a record that follows itself is taken once
itself : chained (kept 1 (97 ∷ 98 ∷ [])) 1 ≡ bytes (97 ∷ 98 ∷ []) ++ broken TooMany 2
itself = refl

-- no record at all: the index is one too many before it is past the last
no_record : chained [] 1 ≡ broken TooMany 0
no_record = refl

no_index : chained [] 0 ≡ []
no_index = refl

-- an index past the last record
past_last : chained (kept 0 (97 ∷ [])) 2 ≡ broken NoRecord 0
past_last = refl

-- 61 bytes used, and a check that is one too high
too_long : chained (filed 0 61 61 []) 1 ≡ broken TooLong 0
too_long = refl

one_off : chained (filed 0 1 99 (97 ∷ [])) 1 ≡ broken WrongCheck 0
one_off = refl

right_check : chained (filed 0 1 98 (97 ∷ [])) 1 ≡ bytes (97 ∷ [])
right_check = refl
