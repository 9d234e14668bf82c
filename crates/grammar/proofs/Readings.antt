-- The laws of readings, over any sound grammar.
use Rattle.std.proofs.Common.{◌≡◌, ℕ, ◌+◌, ◌-◌, ◌<◌, ◌≤◌, Bool, true, false, List, [], ◌∷◌, ◌++◌, length, take, drop, Some, None, Option, sym, refl, ap, ◌∙◌, subst, ⊎_elim, arith, length-append, take-add}
use Rattle.std.proofs.lemmas.Bool.{cases_lt}
use Rattle.std.proofs.lemmas.List.{drop-drop, drop_at, take_all}
use Rattle.grammar.specs.Form.{Outcome, between}
use Rattle.grammar.specs.Readings.{Grammar, Turn, Between, Turns, Reading, spelling, carried, Sound, moved_turns, behind_comma, Single, Spells, Joinable, Joins}
use Rattle.grammar.proofs.Meaning.{same_answer}
use Rattle.grammar.proofs.Blind.{between_same}

between_join : (t : List ℕ) (p m q : ℕ) → p ≤ m → m ≤ q → between t p m ++ between t m q ≡ between t p q
between_join t p m q h k =
    let off : drop (m - p) (drop p t) ≡ drop m t = drop-drop (m - p) p t ∙ ap (λ n. drop n t) (omega arith) in
    ap (λ l. between t p m ++ take (q - m) l) (sym off) ∙ (sym (take-add (m - p) (q - m) (drop p t)) ∙ ap (λ n. take n (drop p t)) (omega arith))

between_none : (t : List ℕ) (p q : ℕ) → p ≡ q → between t p q ≡ []
between_none t p q e = let z : q - p ≡ 0 = omega arith in ap (λ n. take n (drop p t)) z

carried_some : {V : Type 0} (f : V → V) (n : ℕ) (o : Outcome V) (w : V) (e : ℕ) → carried f n o ≡ Some (w, e) → (v : V) × (d : ℕ) × (o ≡ Some (v, d)) × (w ≡ f v) × (e ≡ n + d)
carried_some f n None w e h = absurd (let z : ◌≡◌ {A = ℕ} 0 1 = cc in omega arith)
carried_some f n (Some x) w e h =
    let s = same_answer (Some (f x.0, n + x.1)) (f x.0) w (n + x.1) e refl h in
    (x.0, x.1, refl, sym s.0, sym s.1)

module _ {V S : Type 0} (g : Grammar V S) (ok : Sound g) where
  between_fits : (begun : Bool) (t : List ℕ) (p : ℕ) (link : Option S) (m : ℕ) → p ≤ length t → Between g begun t p link m → (p ≤ m) × (m ≤ length t)
  between_fits false t p link m l h = (omega (arith, h.1), omega (arith, h.1))
  between_fits true t p link m l h = let w = ok.separator_fits t p h.0 m l h.2 in (omega arith, w.1)

  between_one : (begun : Bool) (t : List ℕ) (p : ℕ) (link other : Option S) (m n : ℕ) → Between g begun t p link m → Between g begun t p other n → (link ≡ other) × (m ≡ n)
  between_one false t p link other m n h k = (h.0 ∙ sym k.0, h.1 ∙ sym k.1)
  between_one true t p link other m n h k =
      let w = same_answer (g.separator t p) h.0 k.0 m n h.2 k.2 in
      (h.1 ∙ (ap Some w.0 ∙ sym k.1), w.1)

  -- turns go on within the text
  turns_fit : (us : List (Turn V S)) (begun : Bool) (t : List ℕ) (p q : ℕ) → p ≤ length t → Turns g begun t p us q → (p ≤ q) × (q ≤ length t)
  turns_fit [] begun t p q l h = (omega arith, omega arith)
  turns_fit (u ∷ us) begun t p q l h =
      let w = between_fits begun t p u.link h.0 l h.2 in
      let x = ok.query_fits t h.0 u.value h.1 w.1 h.4 in
      let y = turns_fit us true t h.1 q x.1 h.6 in
      (omega arith, y.1)

  some_turn : (u : Turn V S) (us : List (Turn V S)) (begun : Bool) (t : List ℕ) (p q : ℕ) → p ≤ length t → Turns g begun t p (u ∷ us) q → p < q
  some_turn u us begun t p q l h =
      let w = between_fits begun t p u.link h.0 l h.2 in
      let x = ok.query_fits t h.0 u.value h.1 w.1 h.4 in
      let y = turns_fit us true t h.1 q x.1 h.6 in
      omega arith

  single_from : (us vs : List (Turn V S)) (begun : Bool) (t : List ℕ) (p q : ℕ) → p ≤ length t → Turns g begun t p us q → Turns g begun t p vs q → us ≡ vs
  single_from [] [] begun t p q l h k = refl
  single_from [] (v ∷ vs) begun t p q l h k = absurd (omega (arith, some_turn v vs begun t p q l k))
  single_from (u ∷ us) [] begun t p q l h k = absurd (omega (arith, some_turn u us begun t p q l h))
  single_from (u ∷ us) (v ∷ vs) begun t p q l h k =
      let w = between_one begun t p u.link v.link h.0 k.0 h.2 k.2 in
      let x = same_answer (g.query t k.0) u.value v.value h.1 k.1 (ap (g.query t) (sym w.1) ∙ h.4) k.4 in
      let y = between_fits begun t p v.link k.0 l k.2 in
      let z = ok.query_fits t k.0 v.value k.1 y.1 k.4 in
      let rest = single_from us vs true t k.1 q z.1 (subst (λ e. Turns g true t e us q) x.1 h.6) k.6 in
      let sep : u.sep ≡ v.sep = h.3 ∙ (ap (between t p) w.1 ∙ sym k.3) in
      let raw : u.raw ≡ v.raw = h.5 ∙ ((λ i. between t (w.1 i) (x.1 i)) ∙ sym k.5) in
      λ i. record { sep = sep i; link = w.0 i; raw = raw i; value = x.0 i } ∷ rest i

  pub single : Single g
  single t us vs h k = single_from us vs false t 0 (length t) (omega arith) h k

  spells_from : (us : List (Turn V S)) (begun : Bool) (t : List ℕ) (p q : ℕ) → p ≤ length t → Turns g begun t p us q → spelling us ≡ between t p q
  spells_from [] begun t p q l h = sym (between_none t p q h)
  spells_from (u ∷ us) begun t p q l h =
      let w = between_fits begun t p u.link h.0 l h.2 in
      let x = ok.query_fits t h.0 u.value h.1 w.1 h.4 in
      let y = turns_fit us true t h.1 q x.1 h.6 in
      let rest = spells_from us true t h.1 q x.1 h.6 in
      (λ i. h.3 i ++ (h.5 i ++ rest i))
      ∙ (ap (λ s. between t p h.0 ++ s) (between_join t h.0 h.1 q (omega arith) y.0) ∙ between_join t p h.0 q w.0 (omega arith))

  pub spells : Spells g
  spells t us h = spells_from us false t 0 (length t) (omega arith) h ∙ take_all (length t - 0) t (omega arith)

  module _ (a b : List ℕ) (j : Joinable a b) where
    rest_is : drop (length a + 1) (a ++ 44 ∷ b) ≡ b
    rest_is = sym (drop-drop 1 (length a) (a ++ 44 ∷ b)) ∙ ap (drop 1) (drop_at a (44 ∷ b) (length a) refl)

    comma_is : between (a ++ 44 ∷ b) (length a) (length a + 1) ≡ 44 ∷ []
    comma_is = (λ i. take (one i) (drop_at a (44 ∷ b) (length a) refl i))
      where
        one : (length a + 1) - length a ≡ 1
        one = omega arith

    long : length (a ++ 44 ∷ b) ≡ length a + 1 + length b
    long = omega (arith, length-append a (44 ∷ b))

    query_there : (p : ℕ) → g.query (a ++ 44 ∷ b) (length a + 1 + p) ≡ carried (g.along (length a + 1)) (length a + 1) (g.query b p)
    query_there p = ok.query_shift (a ++ 44 ∷ b) (length a + 1) p ∙ ap (λ l. carried (g.along (length a + 1)) (length a + 1) (g.query l p)) rest_is

    separator_there : (p : ℕ) → g.separator (a ++ 44 ∷ b) (length a + 1 + p) ≡ carried (λ s. s) (length a + 1) (g.separator b p)
    separator_there p = ok.separator_shift (a ++ 44 ∷ b) (length a + 1) p ∙ ap (λ l. carried (λ s. s) (length a + 1) (g.separator l p)) rest_is

    between_there : (p e : ℕ) → between (a ++ 44 ∷ b) (length a + 1 + p) (length a + 1 + e) ≡ between b p e
    between_there p e =
        let n : (length a + 1 + e) - (length a + 1 + p) ≡ e - p = omega arith in
        let d : drop (length a + 1 + p) (a ++ 44 ∷ b) ≡ drop p b = sym (drop-drop p (length a + 1) (a ++ 44 ∷ b)) ∙ ap (drop p) rest_is in
        λ i. take (n i) (d i)

    between_back : (l : List ℕ) (m e p q : ℕ) → l ≡ between (a ++ 44 ∷ b) m e → m ≡ length a + 1 + p → e ≡ length a + 1 + q → l ≡ between b p q
    between_back l m e p q i h k = i ∙ ((λ i. between (a ++ 44 ∷ b) (h i) (k i)) ∙ between_there p q)

    -- the turns of the second text stand behind the comma
    turns_there : (vs : List (Turn V S)) (p q : ℕ) → Turns g true b p vs q → Turns g true (a ++ 44 ∷ b) (length a + 1 + p) (moved_turns g (length a + 1) vs) (length a + 1 + q)
    turns_there [] p q h = ap (λ n. length a + 1 + n) h
    turns_there (v ∷ vs) p q h = (
      length a + 1 + h.0,
      length a + 1 + h.1,
      (h.2.0, h.2.1, separator_there p ∙ ap (carried (λ s. s) (length a + 1)) h.2.2),
      h.3 ∙ sym (between_there p h.0),
      query_there h.0 ∙ ap (carried (g.along (length a + 1)) (length a + 1)) h.4,
      h.5 ∙ sym (between_there h.0 h.1),
      turns_there vs h.1 q h.6,
    )

    -- and only they do
    turns_back : (ws : List (Turn V S)) (p q : ℕ) → Turns g true (a ++ 44 ∷ b) (length a + 1 + p) ws (length a + 1 + q) → (vs : List (Turn V S)) × Turns g true b p vs q × (ws ≡ moved_turns g (length a + 1) vs)
    turns_back [] p q h = ([], omega arith, refl)
    turns_back (w ∷ ws) p q h =
        let s = carried_some (λ s. s) (length a + 1) (g.separator b p) h.2.0 h.0 (sym (separator_there p) ∙ h.2.2) in
        let x = carried_some (g.along (length a + 1)) (length a + 1) (g.query b s.1) w.value h.1 (sym (query_there s.1) ∙ (ap (g.query (a ++ 44 ∷ b)) (sym s.4) ∙ h.4)) in
        let r = turns_back ws x.1 q (subst (λ e. Turns g true (a ++ 44 ∷ b) e ws (length a + 1 + q)) x.4 h.6) in
        let sep : w.sep ≡ between b p s.1 = between_back w.sep (length a + 1 + p) h.0 p s.1 h.3 refl s.4 in
        let raw : w.raw ≡ between b s.1 x.1 = between_back w.raw h.0 h.1 s.1 x.1 h.5 s.4 x.4 in (
          record { sep = w.sep; link = w.link; raw = w.raw; value = x.0 } ∷ r.0,
          (s.1, x.1, (s.0, h.2.1 ∙ ap Some s.3, s.2), sep, x.2, raw, r.1),
          λ i. record { sep = w.sep; link = w.link; raw = w.raw; value = x.3 i } ∷ r.2 i,
        )

    -- the second text's turns, at the comma
    seam : (vs : List (Turn V S)) → Reading g b vs → Turns g true (a ++ 44 ∷ b) (length a) (behind_comma g (length a + 1) vs) (length (a ++ 44 ∷ b))
    seam [] d = absurd (omega (arith, j.some_b))
    seam (v ∷ vs) d =
        let here : length a + 1 ≡ length a + 1 + d.0 = omega (arith, d.2.1) in (
          length a + 1,
          length a + 1 + d.1,
          (g.comma, refl, ok.separator_comma a b j.bare_b),
          sym comma_is,
          ap (g.query (a ++ 44 ∷ b)) here ∙ (query_there d.0 ∙ ap (carried (g.along (length a + 1)) (length a + 1)) d.4),
          d.5 ∙ (sym (between_there d.0 d.1) ∙ ap (λ x. between (a ++ 44 ∷ b) x (length a + 1 + d.1)) (sym here)),
          subst (Turns g true (a ++ 44 ∷ b) (length a + 1 + d.1) (moved_turns g (length a + 1) vs)) (sym long) (turns_there vs d.1 (length b) d.6),
        )

    seam_back : (w : Turn V S) (ws : List (Turn V S)) → Turns g true (a ++ 44 ∷ b) (length a) (w ∷ ws) (length (a ++ 44 ∷ b)) → (vs : List (Turn V S)) × Reading g b vs × (w ∷ ws ≡ behind_comma g (length a + 1) vs)
    seam_back w ws h =
        let s = same_answer (g.separator (a ++ 44 ∷ b) (length a)) h.2.0 g.comma h.0 (length a + 1) h.2.2 (ok.separator_comma a b j.bare_b) in
        let here : length a + 1 + 0 ≡ h.0 = omega (arith, s.1) in
        let x = carried_some (g.along (length a + 1)) (length a + 1) (g.query b 0) w.value h.1 (sym (query_there 0) ∙ (ap (g.query (a ++ 44 ∷ b)) here ∙ h.4)) in
        let k = subst (λ e. Turns g true (a ++ 44 ∷ b) e ws (length a + 1 + length b)) x.4 (subst (Turns g true (a ++ 44 ∷ b) h.1 ws) long h.6) in
        let r = turns_back ws x.1 (length b) k in
        let sep : w.sep ≡ 44 ∷ [] = h.3 ∙ (ap (between (a ++ 44 ∷ b) (length a)) s.1 ∙ comma_is) in
        let raw : w.raw ≡ between b 0 x.1 = between_back w.raw h.0 h.1 0 x.1 h.5 (sym here) x.4 in
        let link : w.link ≡ Some g.comma = h.2.1 ∙ ap Some s.0 in (
          record { sep = []; link = None; raw = w.raw; value = x.0 } ∷ r.0,
          (0, x.1, (refl, refl), refl, x.2, raw, r.1),
          λ i. record { sep = sep i; link = link i; raw = w.raw; value = x.3 i } ∷ r.2 i,
        )

    between_on : (begun : Bool) (p : ℕ) (link : Option S) (m : ℕ) → p < length a → Between g begun a p link m → Between g begun (a ++ 44 ∷ b) p link m
    between_on false p link m l h = h
    between_on true p link m l h = (h.0, h.1, ok.separator_apart a b p l j.bare_a ∙ h.2)

    between_off : (begun : Bool) (p : ℕ) (link : Option S) (m : ℕ) → p < length a → Between g begun (a ++ 44 ∷ b) p link m → Between g begun a p link m
    between_off false p link m l h = h
    between_off true p link m l h = (h.0, h.1, sym (ok.separator_apart a b p l j.bare_a) ∙ h.2)

    -- a turn of the first text is one of the joined text
    turn_on : (u : Turn V S) (us ws : List (Turn V S)) (begun : Bool) (p : ℕ) → p < length a → (h : Turns g begun a p (u ∷ us) (length a)) → Turns g true (a ++ 44 ∷ b) h.1 ws (length (a ++ 44 ∷ b)) → Turns g begun (a ++ 44 ∷ b) p (u ∷ ws) (length (a ++ 44 ∷ b))
    turn_on u us ws begun p l h k =
        let w = between_fits begun a p u.link h.0 (omega arith) h.2 in
        let x = ok.query_fits a h.0 u.value h.1 w.1 h.4 in (
          h.0,
          h.1,
          between_on begun p u.link h.0 l h.2,
          h.3 ∙ sym (between_same a b p h.0 w.0 w.1),
          ok.query_blind a b h.0 w.1 ∙ h.4,
          h.5 ∙ sym (between_same a b h.0 h.1 (omega arith) x.1),
          k,
        )

    -- and a turn of the joined text before the comma is one of the first
    turn_off : (u : Turn V S) (us ws : List (Turn V S)) (begun : Bool) (p : ℕ) → p < length a → (h : Turns g begun (a ++ 44 ∷ b) p (u ∷ ws) (length (a ++ 44 ∷ b))) → (h.1 ≤ length a) × (Turns g true a h.1 us (length a) → Turns g begun a p (u ∷ us) (length a))
    turn_off u us ws begun p l h =
        let c = between_off begun p u.link h.0 l h.2 in
        let w = between_fits begun a p u.link h.0 (omega arith) c in
        let e = sym (ok.query_blind a b h.0 w.1) ∙ h.4 in
        let x = ok.query_fits a h.0 u.value h.1 w.1 e in (
          x.1,
          λ k. (h.0, h.1, c, h.3 ∙ between_same a b p h.0 w.0 w.1, e, h.5 ∙ between_same a b h.0 h.1 (omega arith) x.1, k),
        )

    join : (us vs : List (Turn V S)) (p : ℕ) → p ≤ length a → Turns g true a p us (length a) → Reading g b vs → Turns g true (a ++ 44 ∷ b) p (us ++ behind_comma g (length a + 1) vs) (length (a ++ 44 ∷ b))
    join [] vs p l h d = subst (λ x. Turns g true (a ++ 44 ∷ b) x (behind_comma g (length a + 1) vs) (length (a ++ 44 ∷ b))) (sym h) (seam vs d)
    join (u ∷ us) vs p l h d =
        let w = between_fits true a p u.link h.0 l h.2 in
        let x = ok.query_fits a h.0 u.value h.1 w.1 h.4 in
        turn_on u us (us ++ behind_comma g (length a + 1) vs) true p (some_turn u us true a p (length a) l h) h (join us vs h.1 x.1 h.6 d)

    join_first : (us vs : List (Turn V S)) → Reading g a us → Reading g b vs → Reading g (a ++ 44 ∷ b) (us ++ behind_comma g (length a + 1) vs)
    join_first [] vs h d = absurd (omega (arith, j.some_a))
    join_first (u ∷ us) vs h d =
        let w = between_fits false a 0 u.link h.0 (omega arith) h.2 in
        let x = ok.query_fits a h.0 u.value h.1 w.1 h.4 in
        turn_on u us (us ++ behind_comma g (length a + 1) vs) false 0 j.some_a h (join us vs h.1 x.1 h.6 d)

    part : (ws : List (Turn V S)) (p : ℕ) → p ≤ length a → Turns g true (a ++ 44 ∷ b) p ws (length (a ++ 44 ∷ b)) → (us : List (Turn V S)) × (vs : List (Turn V S)) × Turns g true a p us (length a) × Reading g b vs × (ws ≡ us ++ behind_comma g (length a + 1) vs)
    part [] p l h = absurd (omega (arith, long))
    part (w ∷ ws) p l h =
        ⊎_elim
        (λ i. let r = part ws h.1 (turn_off w [] ws true p i h).0 h.6 in
        (w ∷ r.0, r.1, (turn_off w r.0 ws true p i h).1 r.2, r.3, ap (λ x. w ∷ x) r.4))
        (λ i. let e : p ≡ length a = omega arith in
        let r = seam_back w ws (subst (λ x. Turns g true (a ++ 44 ∷ b) x (w ∷ ws) (length (a ++ 44 ∷ b))) e h) in
        ([], r.0, e, r.1, r.2))
        (cases_lt p (length a))

    part_first : (ws : List (Turn V S)) → Reading g (a ++ 44 ∷ b) ws → (us : List (Turn V S)) × (vs : List (Turn V S)) × Reading g a us × Reading g b vs × (ws ≡ us ++ behind_comma g (length a + 1) vs)
    part_first [] h = absurd (omega (arith, long))
    part_first (w ∷ ws) h =
        let r = part ws h.1 (turn_off w [] ws false 0 j.some_a h).0 h.6 in
        (w ∷ r.0, r.1, (turn_off w r.0 ws false 0 j.some_a h).1 r.2, r.3, ap (λ x. w ∷ x) r.4)

  pub joins : Joins g
  joins a b j = (join_first a b j, part_first a b j)
