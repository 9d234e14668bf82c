-- The cells between a trim's two places are the trimmed ones.
use Rattle.std.proofs.Common.{◌≡◌, ℕ, ◌+◌, ◌-◌, List, length, take, drop, ap, ◌∙◌, arith}
use Rattle.std.proofs.lemmas.List.{take_rest}
use Rattle.texts.specs.declared.cell.Cell.{Cell}
use Rattle.texts.specs.Codes.{codes}
use Rattle.texts.specs.Spaces.{in_front, behind}
use Rattle.texts.specs.Trim.{between, trimmed_behind, trimmed}

-- the trim's two places
pub cut_is : (cells : List Cell) (start n kept end : ℕ) → start ≡ in_front (codes cells) → n ≡ length cells → kept ≡ length (between start n cells) - behind (codes (between start n cells)) → end ≡ start + kept → between start end cells ≡ trimmed cells
cut_is cells start n kept end at-start len keeps at_end =
    let whole : between start n cells ≡ drop start cells = ap (λ k. take (k - start) (drop start cells)) len ∙ take_rest cells start in
    let size : end - start ≡ kept = omega arith in
    ap (λ k. take k (drop start cells)) (size ∙ (keeps ∙ ap (λ l. length l - behind (codes l)) whole))
    ∙ ap (λ s. trimmed_behind (drop s cells)) at-start
