-- Records of numbers in a slice of numbers.
use Rattle.std.proofs.Common.{◌≡◌, ℕ, ◌*◌, ◌/◌, Bool, true, false, cond, ltb, List, length, sym, refl, ap, ◌∙◌, arith}
use lib.Seq.{paste}
use Rattle.std.proofs.lemmas.Bool.{ltb-true, ltb-false, lt-ltb, le-ltb}
use Rattle.grammar.specs.declared.query.SingleQuery.{SingleQuery}
use Rattle.exports.specs.Layout.{words_of}
use Rattle.exports.specs.Outcome.{put_record, put_outcome}
use Rattle.exports.specs.Put.{put_slot}

-- a query's record is one of 24 words
pub record_slot : (words : List ℕ) (n : ℕ) (q : SingleQuery) → put_slot words n (words_of q) ≡ put_record words n (words_of q)
unfolding put_slot
record_slot words n q = refl

-- an outcome is the first record of four words
pub outcome_slot : (words ws : List ℕ) → length ws ≡ 4 → put_slot words 0 ws ≡ put_outcome words ws
unfolding put_slot
outcome_slot words ws four =
    ap (λ w. cond (ltb 0 (length words / w)) (paste words (0 * w) ws w) words) four
    ∙ ap (λ b. cond b (paste words 0 ws 4) words) (room (ltb 3 (length words)) refl)
  where
    room : (b : Bool) → ltb 3 (length words) ≡ b → ltb 0 (length words / 4) ≡ ltb 3 (length words)
    room true h = lt-ltb 0 (length words / 4) (omega (arith, ltb-true 3 (length words) h)) ∙ sym h
    room false h = le-ltb 0 (length words / 4) (omega (arith, ltb-false 3 (length words) h)) ∙ sym h
