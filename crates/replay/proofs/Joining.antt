-- Two texts with a comma between: their queries, and that what is trimmed may be joined.
use Rattle.std.proofs.Common.{◌≡◌, ℕ, suc, ◌+◌, ◌-◌, ◌<◌, Bool, true, false, cond, leb, List, [], ◌∷◌, ◌++◌, map, reverse, length, get_or, Some, sym, refl, ap, ◌∙◌, subst, arith}
use lib.ListN.{length-reverse, length-map}
use Rattle.std.proofs.lemmas.List.{get_or-reverse, append-nil}
use Rattle.std.proofs.lemmas.Bool.{cond-true, le-leb}
use Rattle.std.proofs.lemmas.Bool.Decides.{nat_tests}
use Rattle.texts.specs.declared.cell.Cell.{Cell}
use Rattle.texts.specs.declared.cell.Cell.TheVariants.{Byte}
use Rattle.texts.specs.Codes.{code, codes}
use Rattle.texts.specs.Trim.{trimmed, Clean}
use Rattle.texts.specs.Spaces.{single, space_from, space_back, on_space, leading, in_front, behind}
use Rattle.layers.specs.Joins.{joined}
use Rattle.texts.specs.Cells.{overfull}
use Rattle.grammar.specs.Classes.{blank}
use Rattle.grammar.specs.Form.{between}
use Rattle.grammar.specs.Along.{queries}
use Rattle.grammar.specs.Readings.{Reading, spelling, moved_turn, moved_turns, behind_comma, Joinable}
use Rattle.grammar.proofs.Moved.{query_single, query_spells, query_joins}
use Rattle.replay.specs.Queries.{QueryTurn, joined as linked, query_of, queries_of, moved}
use Rattle.replay.specs.Law.{Holds, Fit, Joins}
use Rattle.replay.specs.Texts.{joint}
use Rattle.replay.proofs.Joints.{joint_codes, readable_join, readable_split, clean_joint}
use Rattle.replay.proofs.Turning.{queries_append}

-- the queries of ws are those of us and then those of vs, moved along by n
abbrev Moved : ℕ → List QueryTurn → List QueryTurn → List QueryTurn → Type 0
Moved n us vs ws = queries_of 0 ws ≡ queries_of 0 us ++ map (moved n) (queries_of 0 vs)

-- a turn moved along, as a query; its separator may be another that says the same
query_moved : (n p q : ℕ) (u v : QueryTurn) → linked v.link ≡ linked u.link → v.value ≡ (u.value.0, (queries.along n u.value).1) → v.raw ≡ u.raw → q + length v.sep ≡ n + (p + length u.sep) → query_of q v ≡ moved n (query_of p u)
query_moved n p q u v a w r e =
    let f : q + length v.sep + length v.raw ≡ n + (p + length u.sep + length u.raw) = omega (arith, e, ap length r) in
    λ i. record { raw = record { start = e i; end = f i }; atom = (w i).1; negated = (w i).0; is_and = a i }

queries_moved : (n p q : ℕ) (vs : List QueryTurn) → q ≡ n + p → queries_of q (moved_turns queries n vs) ≡ map (moved n) (queries_of p vs)
queries_moved n p q [] e = refl
queries_moved n p q (v ∷ vs) e =
    let here = query_moved n p q v (moved_turn queries n v) refl refl refl (omega (arith, e)) in
    let rest = queries_moved n (p + length v.sep + length v.raw) (q + length v.sep + length v.raw) vs (omega (arith, e)) in
    λ i. here i ∷ rest i

-- behind the comma stand the queries of the second text, moved along
queries_behind : (b : List ℕ) (n : ℕ) (vs : List QueryTurn) → Reading queries b vs → queries_of n (behind_comma queries (n + 1) vs) ≡ map (moved (n + 1)) (queries_of 0 vs)
queries_behind b n [] h = refl
queries_behind b n (v ∷ vs) h =
    let u : QueryTurn = record { sep = 44 ∷ []; link = Some false; raw = v.raw; value = queries.along (n + 1) v.value } in
    let none : length v.sep ≡ 0 = ap length (h.3 ∙ ap (λ m. between b 0 m) h.2.1) in
    let here = query_moved (n + 1) 0 n v u (ap linked (sym h.2.0)) refl refl (omega (arith, none)) in
    let rest = queries_moved (n + 1) (0 + length v.sep + length v.raw) (n + 1 + length v.raw) vs (omega (arith, none)) in
    λ i. here i ∷ rest i

follow : (a b : List ℕ) (us vs : List QueryTurn) → Reading queries a us → Reading queries b vs → Moved (length a + 1) us vs (us ++ behind_comma queries (length a + 1) vs)
follow a b us vs h k =
    let e : length a ≡ 0 + length (spelling us) = omega (arith, ap length (query_spells a us h)) in
    queries_append us (behind_comma queries (length a + 1) vs) 0 (length a) e ∙ ap (λ l. queries_of 0 us ++ l) (queries_behind b (length a) vs k)

-- the readings of both are the reading of the join, and the other way round
joined_reading : (a b : List ℕ) → Joinable a b → (us vs : List QueryTurn) → Reading queries a us → Reading queries b vs → (ws : List QueryTurn) × Reading queries (a ++ 44 ∷ b) ws × Moved (length a + 1) us vs ws
joined_reading a b j us vs h k = (us ++ behind_comma queries (length a + 1) vs, (query_joins a b j).0 us vs h k, follow a b us vs h k)

parted_reading : (a b : List ℕ) → Joinable a b → (ws : List QueryTurn) → Reading queries (a ++ 44 ∷ b) ws → (us : List QueryTurn) × (vs : List QueryTurn) × Reading queries a us × Reading queries b vs × Moved (length a + 1) us vs ws
parted_reading a b j ws h =
    let r = (query_joins a b j).1 ws h in
    (r.0, r.1, r.2, r.3, ap (queries_of 0) r.4 ∙ follow a b r.0 r.1 r.2 r.3)

-- a blank is white space
blank_single : (c : ℕ) → single c ≡ false → blank c ≡ false
blank_single c h = grind (arith, nat_tests)

-- where no character is white space the first code is none
no_space : (s : Bool) (n : ℕ) (go : ℕ → ℕ) → on_space (cond s 1 n) (λ others. suc (go others)) ≡ 0 → s ≡ false
no_space true n go h = absurd (omega arith)
no_space false n go h = refl

bare_front : (t : List ℕ) → 0 < length t → in_front t ≡ 0 → blank (get_or t 0 256) ≡ false
bare_front [] l h = absurd (omega arith)
bare_front (c ∷ cs) l h = blank_single c (no_space (single c) _ (leading space_from cs) h)

bare_back : (t : List ℕ) → 0 < length t → leading space_back t 0 ≡ 0 → blank (get_or t 0 256) ≡ false
bare_back [] l h = absurd (omega arith)
bare_back (c ∷ cs) l h = blank_single c (no_space (single c) _ (leading space_back cs) h)

last_bare : (t : List ℕ) → 0 < length t → behind t ≡ 0 → blank (get_or t (length t - 1) 256) ≡ false
last_bare t l h =
    let n : length t - 1 - 0 ≡ length t - 1 = omega arith in
    let e : get_or (reverse t) 0 256 ≡ get_or t (length t - 1) 256 = get_or-reverse t 0 256 l ∙ ap (λ i. get_or t i 256) n in
    ap blank (sym e) ∙ bare_back (reverse t) (omega (arith, length-reverse t)) h

joinable : (a b : List Cell) → Clean a → Clean b → 0 < length a → 0 < length b → Joinable (codes a) (codes b)
joinable a b x y la lb =
    let na : 0 < length (codes a) = omega (arith, la, length-map a code) in
    let nb : 0 < length (codes b) = omega (arith, lb, length-map b code) in
    record { some_a = na; some_b = nb; bare_a = last_bare (codes a) na x.back; bare_b = bare_front (codes b) nb y.front }

-- a reading of equal codes
again : {s t : List ℕ} (us : List QueryTurn) → s ≡ t → Reading queries s us → Reading queries t us
again us e h = subst (λ l. Reading queries l us) e h

-- both with a comma between
commas : (c d : Cell) (a b : List Cell) → Clean (c ∷ a) → Clean (d ∷ b) → Joins (c ∷ a) (d ∷ b) (joint (c ∷ a) (d ∷ b))
commas c d cs ds x y =
    let a : List Cell = c ∷ cs in
    let b : List Cell = d ∷ ds in
    let la : 0 < length a = omega arith in
    let lb : 0 < length b = omega arith in
    let j = joinable a b x y la lb in
    let n : length (codes a) + 1 ≡ length a + 1 = ap (λ m. m + 1) (length-map a code) in
    let k = clean_joint a b x y la lb in
    let e : codes (trimmed (a ++ Byte 44 ∷ b)) ≡ codes a ++ 44 ∷ codes b = ap codes k.once ∙ joint_codes a b in
    record {
      clean = k;
      both = λ us vs h k. let r = joined_reading (codes a) (codes b) j us vs (again us (ap codes x.once) h.reading) (again vs (ap codes y.once) k.reading) in (
        r.0,
        record { readable = readable_join a b h.readable k.readable; reading = again r.0 (sym e) r.1 },
        subst (λ m. Moved m us vs r.0) n r.2,
      );
      apart = λ ws h. let r = parted_reading (codes a) (codes b) j ws (again ws e h.reading) in
          let w = readable_split a b h.readable in (
            r.0,
            r.1,
            record { readable = w.0; reading = again r.0 (ap codes (sym x.once)) r.2 },
            record { readable = w.1; reading = again r.1 (ap codes (sym y.once)) r.3 },
            subst (λ m. Moved m r.0 r.1 ws) n r.4,
          );
    }

-- the empty text has the empty reading and no other
empty_holds : Holds [] []
empty_holds = record { readable = record { bytes = tt; formed = refl }; reading = refl }

empty_none : (us : List QueryTurn) → Holds [] us → us ≡ []
empty_none us h = query_single [] us [] h.reading refl

pub joins : (a b : List Cell) → Clean a → Clean b → Fit a b → Joins a b (joined a b)
joins [] b x y f =
    record {
      clean = y;
      both = λ us vs h k. (vs, k, sym (ap (λ u. queries_of 0 u ++ queries_of 0 vs) (empty_none us h)));
      apart = λ ws h. ([], ws, empty_holds, h, refl);
    }
joins (c ∷ a) [] x y f =
    record {
      clean = x;
      both = λ us vs h k. (us, h, sym (ap (λ v. queries_of 0 us ++ map (moved (length (c ∷ a) + 1)) (queries_of 0 v)) (empty_none vs k) ∙ append-nil (queries_of 0 us)));
      apart = λ ws h. (ws, [], h, empty_holds, sym (append-nil (queries_of 0 ws)));
    }
joins (c ∷ a) (d ∷ b) x y f =
    subst (λ l. Joins (c ∷ a) (d ∷ b) l) (sym (cond-true (leb (length (joint (c ∷ a) (d ∷ b))) 16384) (joint (c ∷ a) (d ∷ b)) overfull (le-leb (length (joint (c ∷ a) (d ∷ b))) 16384 f))) (commas c d a b x y)
