-- Two texts with a comma between: a reading can start on them exactly when it can on both, and no white space comes to their ends.
use Rattle.std.proofs.Common.{◌≡◌, ℕ, zero, suc, ◌+◌, ◌-◌, ◌<◌, Bool, true, false, cond, List, [], ◌∷◌, ◌++◌, reverse, length, get_or, take, drop, Some, None, Option, sym, refl, ap, ◌∙◌, arith}
use lib.ListN.{length-reverse, length-map}
use Rattle.std.proofs.lemmas.List.{map-append, reverse-append, append_assoc, take_all}
use Rattle.std.proofs.lemmas.Bool.Decides.{nat_tests}
use Rattle.texts.specs.declared.cell.Cell.{Cell}
use Rattle.texts.specs.declared.cell.Cell.TheVariants.{Byte, Bad}
use Rattle.texts.specs.Codes.{code, codes}
use Rattle.texts.specs.Trim.{trimmed, trimmed_behind, Clean}
use Rattle.texts.specs.Spaces.{space_from, space_back, on_space, leading, in_front, behind}
use Rattle.reader.specs.declared.utf8.State.{State}
use Rattle.reader.specs.declared.utf8.State.TheVariants.{Start, Last, Two, Three, AfterE0, AfterED, AfterF0, AfterF4}
use Rattle.reader.specs.Utf8.{step_of, is_start, on_step, ill_from, ill_formed}
use Rattle.replay.specs.Texts.{AllBytes, Readable}

bytes_split : (a b : List Cell) → AllBytes (a ++ Byte 44 ∷ b) → AllBytes a × AllBytes b
bytes_split [] b h = (tt, h)
bytes_split (Byte x ∷ a) b h = bytes_split a b h
bytes_split (Bad f ∷ a) b h = absurd h

bytes_join : (a b : List Cell) → AllBytes a → AllBytes b → AllBytes (a ++ Byte 44 ∷ b)
bytes_join [] b h k = k
bytes_join (Byte x ∷ a) b h k = bytes_join a b h k
bytes_join (Bad f ∷ a) b h k = absurd h

-- nothing that is there is none
some_none : {X : Type 0} (x : X) → Some x ≡ None → ⊥
some_none x h = cc

end_any : (x : Bool) (b c : ℕ) → cond x None (Some b) ≡ None → cond x None (Some c) ≡ None
end_any true b c h = refl
end_any false b c h = absurd (some_none b h)

step_any : (o : Option State) (b c : ℕ) (f g : State → Option ℕ) → ((t : State) → f t ≡ None → g t ≡ None) → on_step o (Some b) f ≡ None → on_step o (Some c) g ≡ None
step_any None b c f g k h = absurd (some_none b h)
step_any (Some t) b c f g k h = k t h

-- where nothing is ill-formed, the places do not matter
ill_any : (cs : List ℕ) (s : State) (b h c k : ℕ) → ill_from cs s b h ≡ None → ill_from cs s c k ≡ None
ill_any [] s b h c k e = end_any (is_start s) b c e
ill_any (x ∷ cs) s b h c k e =
    step_any (step_of s x) b c (λ t. ill_from cs t (cond (is_start t) (h + 1) b) (h + 1)) (λ t. ill_from cs t (cond (is_start t) (k + 1) c) (k + 1)) (λ t. ill_any cs t (cond (is_start t) (h + 1) b) (h + 1) (cond (is_start t) (k + 1) c) (k + 1)) e

step_split : {X : Type 0} (o : Option State) (b : ℕ) (f g : State → Option ℕ) → ((t : State) → f t ≡ None → (g t ≡ None) × X) → on_step o (Some b) f ≡ None → (on_step o (Some b) g ≡ None) × X
step_split None b f g k h = absurd (some_none b h)
step_split (Some t) b f g k h = k t h

-- a comma stands between two sequences
ill_split : (cs ds : List ℕ) (s : State) (b h : ℕ) → ill_from (cs ++ 44 ∷ ds) s b h ≡ None → (ill_from cs s b h ≡ None) × (ill_formed ds ≡ None)
ill_split [] ds Start b h e = (refl, ill_any ds Start (h + 1) (h + 1) 0 0 e)
ill_split [] ds Last b h e = absurd (some_none b e)
ill_split [] ds Two b h e = absurd (some_none b e)
ill_split [] ds Three b h e = absurd (some_none b e)
ill_split [] ds AfterE0 b h e = absurd (some_none b e)
ill_split [] ds AfterED b h e = absurd (some_none b e)
ill_split [] ds AfterF0 b h e = absurd (some_none b e)
ill_split [] ds AfterF4 b h e = absurd (some_none b e)
ill_split (c ∷ cs) ds s b h e =
    step_split (step_of s c) b (λ t. ill_from (cs ++ 44 ∷ ds) t (cond (is_start t) (h + 1) b) (h + 1)) (λ t. ill_from cs t (cond (is_start t) (h + 1) b) (h + 1)) (λ t. ill_split cs ds t (cond (is_start t) (h + 1) b) (h + 1)) e

ill_join : (cs ds : List ℕ) (s : State) (b h : ℕ) → ill_formed ds ≡ None → ill_from cs s b h ≡ None → ill_from (cs ++ 44 ∷ ds) s b h ≡ None
ill_join [] ds Start b h k e = ill_any ds Start 0 0 (h + 1) (h + 1) k
ill_join [] ds Last b h k e = absurd (some_none b e)
ill_join [] ds Two b h k e = absurd (some_none b e)
ill_join [] ds Three b h k e = absurd (some_none b e)
ill_join [] ds AfterE0 b h k e = absurd (some_none b e)
ill_join [] ds AfterED b h k e = absurd (some_none b e)
ill_join [] ds AfterF0 b h k e = absurd (some_none b e)
ill_join [] ds AfterF4 b h k e = absurd (some_none b e)
ill_join (c ∷ cs) ds s b h k e =
    step_any (step_of s c) b b (λ t. ill_from cs t (cond (is_start t) (h + 1) b) (h + 1)) (λ t. ill_from (cs ++ 44 ∷ ds) t (cond (is_start t) (h + 1) b) (h + 1)) (λ t. ill_join cs ds t (cond (is_start t) (h + 1) b) (h + 1) k) e

pub joint_codes : (a b : List Cell) → codes (a ++ Byte 44 ∷ b) ≡ codes a ++ 44 ∷ codes b
joint_codes a b = map-append code a (Byte 44 ∷ b)

pub readable_split : (a b : List Cell) → Readable (a ++ Byte 44 ∷ b) → Readable a × Readable b
readable_split a b h =
    let w = bytes_split a b h.bytes in
    let v = ill_split (codes a) (codes b) Start 0 0 (ap ill_formed (sym (joint_codes a b)) ∙ h.formed) in
    (record { bytes = w.0; formed = v.0 }, record { bytes = w.1; formed = v.1 })

pub readable_join : (a b : List Cell) → Readable a → Readable b → Readable (a ++ Byte 44 ∷ b)
readable_join a b h k =
    record { bytes = bytes_join a b h.bytes k.bytes; formed = ap ill_formed (joint_codes a b) ∙ ill_join (codes a) (codes b) Start 0 0 k.formed h.formed }

space_none : (n : ℕ) (go : ℕ → ℕ) → on_space n (λ others. suc (go others)) ≡ 0 → n ≡ 0
space_none zero go h = refl
space_none (suc n) go h = absurd (omega arith)

-- a comma behind a list brings no white space to its front
leading_joint : (space : ℕ → ℕ → ℕ → ℕ) → ((c x : ℕ) → space c 256 256 ≡ 0 → space c 44 x ≡ 0) → ((c d : ℕ) → space c d 256 ≡ 0 → space c d 44 ≡ 0) → (a b : List ℕ) → 0 < length a → leading space a 0 ≡ 0 → leading space (a ++ 44 ∷ b) 0 ≡ 0
leading_joint space one two [] b l h = absurd (omega arith)
leading_joint space one two (c ∷ []) b l h = ap (λ n. on_space n (λ others. suc (leading space (44 ∷ b) others))) (one c (get_or b 0 256) (space_none (space c 256 256) (leading space []) h))
leading_joint space one two (c ∷ d ∷ []) b l h = ap (λ n. on_space n (λ others. suc (leading space (d ∷ 44 ∷ b) others))) (two c d (space_none (space c d 256) (leading space (d ∷ [])) h))
leading_joint space one two (c ∷ d ∷ e ∷ cs) b l h = ap (λ n. on_space n (λ others. suc (leading space (d ∷ e ∷ cs ++ 44 ∷ b) others))) (space_none (space c d e) (leading space (d ∷ e ∷ cs)) h)

from_one : (c x : ℕ) → space_from c 256 256 ≡ 0 → space_from c 44 x ≡ 0
from_one c x h = grind (arith, nat_tests)

from_two : (c d : ℕ) → space_from c d 256 ≡ 0 → space_from c d 44 ≡ 0
from_two c d h = grind (arith, nat_tests)

back_one : (c x : ℕ) → space_back c 256 256 ≡ 0 → space_back c 44 x ≡ 0
back_one c x h = grind (arith, nat_tests)

back_two : (c d : ℕ) → space_back c d 256 ≡ 0 → space_back c d 44 ≡ 0
back_two c d h = grind (arith, nat_tests)

front_joint : (a b : List ℕ) → 0 < length a → in_front a ≡ 0 → in_front (a ++ 44 ∷ b) ≡ 0
front_joint = leading_joint space_from from_one from_two

behind_joint : (a b : List ℕ) → 0 < length b → behind b ≡ 0 → behind (a ++ 44 ∷ b) ≡ 0
behind_joint a b l h =
    let both : reverse (a ++ 44 ∷ b) ≡ reverse b ++ 44 ∷ reverse a = reverse-append a (44 ∷ b) ∙ (ap (λ x. x ++ reverse a) (reverse-append (44 ∷ []) b) ∙ append_assoc (reverse b) (44 ∷ []) (reverse a)) in
    ap (λ x. leading space_back x 0) both ∙ leading_joint space_back back_one back_two (reverse b) (reverse a) (omega (arith, length-reverse b)) h

whole : (cells : List Cell) → in_front (codes cells) ≡ 0 → behind (codes cells) ≡ 0 → trimmed cells ≡ cells
whole cells f b =
    ap (λ n. trimmed_behind (drop n cells)) f ∙ (ap (λ n. take (length cells - n) cells) b ∙ take_all (length cells - 0) cells (omega arith))

-- no white space comes to the ends of a join
pub clean_joint : (a b : List Cell) → Clean a → Clean b → 0 < length a → 0 < length b → Clean (a ++ Byte 44 ∷ b)
clean_joint a b x y la lb =
    let e = joint_codes a b in
    let f : in_front (codes (a ++ Byte 44 ∷ b)) ≡ 0 = ap in_front e ∙ front_joint (codes a) (codes b) (omega (arith, la, length-map a code)) x.front in
    let g : behind (codes (a ++ Byte 44 ∷ b)) ≡ 0 = ap behind e ∙ behind_joint (codes a) (codes b) (omega (arith, lb, length-map b code)) y.back in
    record { front = f; back = g; once = whole (a ++ Byte 44 ∷ b) f g }
