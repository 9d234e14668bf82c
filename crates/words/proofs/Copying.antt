-- Bytes over the first of others.
use Rattle.std.proofs.Common.{◌≡◌, ℕ, zero, suc, ◌+◌, ◌<◌, min, Bool, true, false, leb, List, [], ◌∷◌, ◌++◌, map, length, get_or, take, drop, set, sym, refl, ap, ◌∙◌, arith}
use Rattle.std.proofs.lemmas.List.{append_assoc, append-nil, take_all, drop_all, take_more, drop_more, set_at, length-take-le}
use Rattle.std.proofs.lemmas.Bool.{leb-true, leb-false}
use Rattle.texts.specs.declared.cell.Cell.{Cell}
use Rattle.texts.specs.declared.cell.Cell.TheVariants.{Byte, Bad}
use Rattle.texts.specs.Cells.{answer}
use Rattle.words.specs.Copy.{overlaid, byte_shown, answer_shown}

-- as many as there is room for
pub overlay : (out xs : List ℕ) (n : ℕ) → n ≡ min (length out) (length xs) → take n xs ++ drop n out ≡ overlaid out xs
overlay out xs n e = split (leb (length xs) (length out)) refl
  where
    split : (b : Bool) → leb (length xs) (length out) ≡ b → take n xs ++ drop n out ≡ overlaid out xs
    split true t =
        let h = leb-true (length xs) (length out) t in
        let all : n ≡ length xs = omega (arith, e, h) in
        λ i. (take_all n xs (omega (arith, all)) ∙ sym (take_all (length out) xs h)) i ++ drop (all i) out
    split false f =
        let h = leb-false (length xs) (length out) f in
        let full : n ≡ length out = omega (arith, e, h) in
        λ i. take (full i) xs ++ (drop_all n out (omega (arith, full)) ∙ sym (drop_all (length xs) out (omega arith))) i

-- all of them were copied, where there is room for no more
pub copied : (out xs now : List ℕ) (place room : ℕ) → room ≡ min (length out) (length xs) → place ≡ length (take room out) → now ≡ take place xs ++ drop place (take room out) → now ++ drop room out ≡ overlaid out xs
copied out xs now place room er ep was =
    let full : place ≡ room = ep ∙ length-take-le room out (omega (arith, er)) in
    let none : drop place (take room out) ≡ [] = drop_all place (take room out) (omega (arith, ep)) in
    ap (λ l. l ++ drop room out) (was ∙ ((λ i. take (full i) xs ++ none i) ∙ append-nil (take room xs))) ∙ overlay out xs room er

-- one byte more
pub copy_more : (out xs now : List ℕ) (i x : ℕ) → i < length xs → i < length out → x ≡ get_or xs i 0 → now ≡ take i xs ++ drop i out → set now i x ≡ take (i + 1) xs ++ drop (i + 1) out
copy_more out xs now i x hx ho ex was =
    ap (λ l. set l i x) (was ∙ ap (λ l. take i xs ++ l) (drop_more out i 0 ho))
    ∙ (set_at (take i xs) (get_or out i 0) (drop (i + 1) out) x i (length-take-le i xs (omega arith))
    ∙ (sym (append_assoc (take i xs) (x ∷ []) (drop (i + 1) out)) ∙ ap (λ l. l ++ drop (i + 1) out) (ap (λ y. take i xs ++ y ∷ []) ex ∙ sym (take_more xs i 0 hx))))

-- the answer for a cell is the cell
pub shown_cell : (cells : List Cell) (i : ℕ) → i < length cells → answer_shown (answer cells i) ≡ get_or (map byte_shown cells) i 0
shown_cell [] i h = absurd (omega arith)
shown_cell (Byte b ∷ cells) zero h = refl
shown_cell (Bad f ∷ cells) zero h = refl
shown_cell (c ∷ cells) (suc i) h = shown_cell cells i (omega arith)
