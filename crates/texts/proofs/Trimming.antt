-- A trim leaves no white space at either end, so a trim of a trim is the trim.
use Rattle.std.proofs.Common.{◌≡◌, ℕ, zero, suc, ◌-◌, ◌≤◌, List, [], ◌∷◌, ◌++◌, reverse, length, get_or, take, drop, sym, refl, ap, ◌∙◌, arith}
use lib.ListN.{length-map}
use Rattle.std.proofs.lemmas.List.{take_all, drop_at, reverse-append, length-reverse, length-drop, take-append-drop, take-map, drop-map}
use Rattle.std.proofs.lemmas.Bool.Decides.{nat_tests}
use Rattle.texts.specs.declared.cell.Cell.{Cell}
use Rattle.texts.specs.Codes.{code, codes}
use Rattle.texts.specs.Spaces.{space_from, space_back, on_space, leading, in_front, behind}
use Rattle.texts.proofs.Spacing.{behind_within}
use Rattle.texts.specs.Trim.{trimmed_front, trimmed_behind, trimmed, Clean}

-- behind the white space in front there is none in front
done_at : (space : ℕ → ℕ → ℕ → ℕ) (c : ℕ) (cs : List ℕ) (n : ℕ) → space c (get_or cs 0 256) (get_or cs 1 256) ≡ n → ((k : ℕ) → leading space (drop (leading space cs k) cs) 0 ≡ 0) → leading space (drop (leading space (c ∷ cs) 0) (c ∷ cs)) 0 ≡ 0
done_at space c cs zero e rest =
    let z : leading space (c ∷ cs) 0 ≡ 0 = ap (λ n. on_space n (λ k. suc (leading space cs k))) e in
    ap (λ k. leading space (drop k (c ∷ cs)) 0) z ∙ z
done_at space c cs (suc k) e rest =
    ap (λ l. leading space (drop l (c ∷ cs)) 0) (ap (λ n. on_space n (λ k. suc (leading space cs k))) e) ∙ rest k

leading_done : (space : ℕ → ℕ → ℕ → ℕ) (cs : List ℕ) (k : ℕ) → leading space (drop (leading space cs k) cs) 0 ≡ 0
leading_done space [] zero = refl
leading_done space [] (suc k) = refl
leading_done space (c ∷ cs) zero = done_at space c cs (space c (get_or cs 0 256) (get_or cs 1 256)) refl (leading_done space cs)
leading_done space (c ∷ cs) (suc k) = leading_done space cs k

-- a front without white space has none where the list is cut short
cut_1 : (c d e : ℕ) → space_from c d e ≡ 0 → space_from c 256 256 ≡ 0
cut_1 c d e h = grind (arith, nat_tests)

cut_2 : (c d e : ℕ) → space_from c d e ≡ 0 → space_from c d 256 ≡ 0
cut_2 c d e h = grind (arith, nat_tests)

cut_front : (c : ℕ) (cs : List ℕ) (k : ℕ) → space_from c (get_or cs 0 256) (get_or cs 1 256) ≡ 0 → space_from c (get_or (take k cs) 0 256) (get_or (take k cs) 1 256) ≡ 0
cut_front c cs zero h = cut_1 c (get_or cs 0 256) (get_or cs 1 256) h
cut_front c [] (suc k) h = h
cut_front c (d ∷ cs) (suc zero) h = cut_2 c d (get_or cs 0 256) h
cut_front c (d ∷ []) (suc (suc k)) h = h
cut_front c (d ∷ e ∷ cs) (suc (suc k)) h = h

no_space : (n : ℕ) (go : ℕ → ℕ) → on_space n (λ k. suc (go k)) ≡ 0 → n ≡ 0
no_space zero go e = refl
no_space (suc k) go e = absurd (omega arith)

front_cut : (cs : List ℕ) (k : ℕ) → in_front cs ≡ 0 → in_front (take k cs) ≡ 0
front_cut [] zero h = refl
front_cut [] (suc k) h = refl
front_cut (c ∷ cs) zero h = refl
front_cut (c ∷ cs) (suc k) h =
    let none : space_from c (get_or cs 0 256) (get_or cs 1 256) ≡ 0 = no_space (space_from c (get_or cs 0 256) (get_or cs 1 256)) (leading space_from cs) h in
    ap (λ n. on_space n (λ j. suc (leading space_from (take k cs) j))) (cut_front c cs k none)

-- a list cut short behind, from behind
reverse_take : (cs : List ℕ) (b : ℕ) → b ≤ length cs → reverse (take (length cs - b) cs) ≡ drop b (reverse cs)
reverse_take cs b h =
    let front = take (length cs - b) cs in
    let rest = drop (length cs - b) cs in
    let both : reverse cs ≡ reverse rest ++ reverse front = sym (ap reverse (take-append-drop (length cs - b) cs)) ∙ reverse-append front rest in
    let size : length (reverse rest) ≡ b = omega (arith, length-reverse rest, length-drop (length cs - b) cs) in
    sym (ap (drop b) both ∙ drop_at (reverse rest) (reverse front) b size)

behind_cut : (cs : List ℕ) → behind (take (length cs - behind cs) cs) ≡ 0
behind_cut cs = ap (λ l. leading space_back l 0) (reverse_take cs (behind cs) (behind_within cs)) ∙ leading_done space_back (reverse cs) 0

front_clean : (cells : List Cell) → in_front (codes (trimmed cells)) ≡ 0
front_clean cells =
    let r = trimmed_front cells in
    let k = length r - behind (codes r) in
    let whole : in_front (codes r) ≡ 0 = sym (ap in_front (drop-map code (in_front (codes cells)) cells)) ∙ leading_done space_from (codes cells) 0 in
    sym (ap in_front (take-map code k r)) ∙ front_cut (codes r) k whole

behind_clean : (cells : List Cell) → behind (codes (trimmed cells)) ≡ 0
behind_clean cells =
    let r = trimmed_front cells in
    let k = length r - behind (codes r) in
    let size : k ≡ length (codes r) - behind (codes r) = ap (λ n. n - behind (codes r)) (sym (length-map r code)) in
    sym (ap behind (take-map code k r)) ∙ (ap (λ n. behind (take n (codes r))) size ∙ behind_cut (codes r))

kept_whole : (cells : List Cell) → in_front (codes cells) ≡ 0 → behind (codes cells) ≡ 0 → trimmed cells ≡ cells
kept_whole cells f b =
    ap (λ n. trimmed_behind (drop n cells)) f ∙ (ap (λ n. take (length cells - n) cells) b ∙ take_all (length cells - 0) cells (omega arith))

pub trimmed_clean : (cells : List Cell) → Clean (trimmed cells)
trimmed_clean cells =
    record {
      front = front_clean cells;
      back = behind_clean cells;
      once = kept_whole (trimmed cells) (front_clean cells) (behind_clean cells);
    }
