use Rattle.std.proofs.Common.{◌≡◌, ℕ, ◌+◌, ◌-◌, ◌*◌, ◌/◌, true, false, cond, ltb, List, [], ◌∷◌, length, sym, refl, ap, ◌∙◌, arith, rules}
use lib.Seq.{paste, paste-zero}
use Rattle.std.proofs.lemmas.Slice.{put_mid-paste}
use Rattle.std.proofs.lemmas.Bool.{cond-true, cond-false, lt-ltb, le-ltb}
use Rattle.exports.specs.Put.{put_slot}
use Rattle.exports.proofs.put.put_slot.Goals as goal

pub returns-then-n-words : goal.returns-then-n-words
unfolding put_slot
returns-then-n-words g c =
    let xs = c.args.words.now in
    let ws = c.args.values.now in
    let n = c.args.n in
    let w = g.row.WIDE in
    let k : w ≡ (n * w + w) - n * w = omega arith in
    put_mid-paste (n * w) ((n * w + w) - n * w) xs c.copy_from_slice.new.self ws w c.copy_from_slice.ensures.after k (sym c.told-values)
    ∙ (sym (cond-true (ltb n (length xs / w)) (paste xs (n * w) ws w) xs (lt-ltb n (length xs / w) c.if-n-words.true))
    ∙ ap (λ v. cond (ltb n (length xs / v)) (paste xs (n * v) ws v) xs) (sym c.told-values))

pub returns-else-n-words : goal.returns-else-n-words
unfolding put_slot
returns-else-n-words g c =
    let xs = c.args.words.now in
    let ws = c.args.values.now in
    let n = c.args.n in
    let w = g.row.WIDE in
    sym (cond-false (ltb n (length xs / w)) (paste xs (n * w) ws w) xs (le-ltb n (length xs / w) c.if-n-words.false))
    ∙ ap (λ v. cond (ltb n (length xs / v)) (paste xs (n * v) ws v) xs) (sym c.told-values)

-- a record of no number is written nowhere
put_none : (xs : List ℕ) (n : ℕ) (ws : List ℕ) → length ws ≡ 0 → put_slot xs n ws ≡ xs
unfolding put_slot
put_none xs n [] h = elim (ltb n (length xs / 0)) as (λ b. cond b (paste xs (n * 0) [] 0) xs ≡ xs) [ true ↦ sym (paste-zero xs (n * 0) []) | false ↦ refl ]
put_none xs n (w ∷ ws) h = absurd cc

pub returns-then-this-eq0 : goal.returns-then-this-eq0
returns-then-this-eq0 g c = sym (put_none c.args.words.now c.args.n c.args.values.now (search rules))
