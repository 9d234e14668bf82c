-- What stands behind a comma does not matter to a rule or a form to which a comma is as good as the end.
use Rattle.std.proofs.Common.{◌≡◌, ℕ, ◌+◌, ◌-◌, ◌<◌, ◌≤◌, Bool, true, false, cond, ◌&&◌, List, [], ◌∷◌, ◌++◌, length, get_or, take, drop, is_some, Some, None, Option, sym, refl, ap, ◌∙◌, subst, ⊎_elim, add-zero, arith, length-append, length-drop}
use Rattle.std.proofs.lemmas.Bool.{cases_lt, both_ways, and_parts}
use Rattle.std.proofs.lemmas.List.{get_or_past, get_or_append_left, get_or-append-add, drop-append-le, take-append-le, drop_more}
use Rattle.grammar.specs.Rule.{Rule, nothing, one, look, run, then, else, unless, next, or_else, without, ends}
use Rattle.grammar.specs.Form.{Kind, Form, give, fail, spot, read, bind, when, first, between, Outcome, spotted, valued, onward, decided, first_of, reads}
use Rattle.grammar.specs.Tests.{tame, Edge, stays, goes, misses, depends, is_misses, run_edge, then_edge, else_edge, unless_edge, edge, agreed, settled, steady, shy, Each, TameForm, ShyForm}
use Rattle.grammar.proofs.Meaning.{run_end, run_past, run_stop, run_on, ends_stands, reads_says}
use Rattle.grammar.proofs.Within.{stands_within, says_within}

-- what an edge says of the answer at its place
abbrev Edged : ℕ → Option ℕ → Edge → Type 0
Edged p o stays = o ≡ Some p
Edged p o goes = is_some o ≡ true
Edged p o misses = o ≡ None
Edged p o depends = Unit {0}

edged_goes : (p e : ℕ) (v : Bool) → Edged p (cond v (Some e) None) (cond v goes misses)
edged_goes p e true = refl
edged_goes p e false = refl

edged_stays : (p : ℕ) (v : Bool) → Edged p (cond v (Some p) None) (cond v stays misses)
edged_stays p true = refl
edged_stays p false = refl

-- a run stops where its rule is missing, in the text or past it
pub run_none : (r : Rule) (t : List ℕ) (p : ℕ) → ends r t p ≡ None → run_end r t p ≡ p
run_none r t p e = ⊎_elim (λ h. run_stop r t p h e) (λ h. run_past r t p h) (cases_lt p (length t))

edged_run : (r : Rule) (t : List ℕ) (p : ℕ) (x : Edge) → Edged p (ends r t p) x → Edged p (Some (run_end r t p)) (run_edge x)
edged_run r t p stays h = tt
edged_run r t p goes h = tt
edged_run r t p misses h = ap Some (run_none r t p h)
edged_run r t p depends h = tt

edged_then : (p : ℕ) (o : Option ℕ) (go : ℕ → Option ℕ) (x y : Edge) → Edged p o x → Edged p (go p) y → Edged p (next o go) (then_edge x y)
edged_then p o go stays y h k = subst (λ u. Edged p (next u go) y) (sym h) k
edged_then p o go goes y h k = tt
edged_then p o go misses y h k = ap (λ u. next u go) h
edged_then p o go depends y h k = tt

edged_else : (p : ℕ) (o u : Option ℕ) (x y : Edge) → Edged p o x → Edged p u y → Edged p (or_else o u) (else_edge x y)
edged_else p o u stays y h k = ap (λ w. or_else w u) h
edged_else p None u goes y h k = absurd (both_ways false refl h)
edged_else p (Some e) u goes y h k = refl
edged_else p o u misses y h k = subst (λ w. Edged p (or_else w u) y) (sym h) k
edged_else p o u depends y h k = tt

edged_unless : (p : ℕ) (o u : Option ℕ) (x y : Edge) → Edged p o x → Edged p u y → Edged p (without o u) (unless_edge x y)
edged_unless p o u stays y h k = ap (λ w. without w u) h
edged_unless p None u goes y h k = absurd (both_ways false refl h)
edged_unless p (Some e) u goes y h k = refl
edged_unless p o u misses y h k = subst (λ w. Edged p (without w u) y) (sym h) k
edged_unless p o u depends y h k = tt

edged : (r : Rule) (t : List ℕ) (p : ℕ) → Edged p (ends r t p) (edge (get_or t p 256) r)
edged nothing t p = refl
edged (one f) t p = edged_goes p (p + 1) (f (get_or t p 256))
edged (look f) t p = edged_stays p (f (get_or t p 256))
edged (run r) t p = edged_run r t p (edge (get_or t p 256) r) (edged r t p)
edged (then r q) t p = edged_then p (ends r t p) (λ e. ends q t e) (edge (get_or t p 256) r) (edge (get_or t p 256) q) (edged r t p) (edged q t p)
edged (else r q) t p = edged_else p (ends r t p) (ends q t p) (edge (get_or t p 256) r) (edge (get_or t p 256) q) (edged r t p) (edged q t p)
edged (unless r q) t p = edged_unless p (ends r t p) (ends q t p) (edge (get_or t p 256) r) (edge (get_or t p 256) q) (edged r t p) (edged q t p)

edged_same : (p : ℕ) (o u : Option ℕ) (x y : Edge) → agreed x y ≡ true → Edged p o x → Edged p u y → o ≡ u
edged_same p o u stays stays s h k = h ∙ sym k
edged_same p o u stays goes s h k = absurd (both_ways false refl s)
edged_same p o u stays misses s h k = absurd (both_ways false refl s)
edged_same p o u stays depends s h k = absurd (both_ways false refl s)
edged_same p o u goes y s h k = absurd (both_ways false refl s)
edged_same p o u misses stays s h k = absurd (both_ways false refl s)
edged_same p o u misses goes s h k = absurd (both_ways false refl s)
edged_same p o u misses misses s h k = h ∙ sym k
edged_same p o u misses depends s h k = absurd (both_ways false refl s)
edged_same p o u depends y s h k = absurd (both_ways false refl s)

edged_none : (p : ℕ) (o : Option ℕ) (x : Edge) → is_misses x ≡ true → Edged p o x → o ≡ None
edged_none p o stays s h = absurd (both_ways false refl s)
edged_none p o goes s h = absurd (both_ways false refl s)
edged_none p o misses s h = h
edged_none p o depends s h = absurd (both_ways false refl s)

next_same : (o : Option ℕ) (f g : ℕ → Option ℕ) → ((m : ℕ) → o ≡ Some m → f m ≡ g m) → next o f ≡ next o g
next_same None f g h = refl
next_same (Some m) f g h = h m refl

module _ (a b : List ℕ) where
  -- the code at the seam is the comma
  pub at_comma : get_or (a ++ 44 ∷ b) (length a) 256 ≡ 44
  at_comma = ap (λ n. get_or (a ++ 44 ∷ b) n 256) (sym (add-zero (length a))) ∙ get_or-append-add a (44 ∷ b) 0 256

  at_end : get_or a (length a) 256 ≡ 256
  at_end = get_or_past a (length a) 256 (omega arith)

  seam : (r : Rule) → settled r ≡ true → ends r (a ++ 44 ∷ b) (length a) ≡ ends r a (length a)
  seam r s =
      let x = subst (λ c. Edged (length a) (ends r (a ++ 44 ∷ b) (length a)) (edge c r)) at_comma (edged r (a ++ 44 ∷ b) (length a)) in
      let y = subst (λ c. Edged (length a) (ends r a (length a)) (edge c r)) at_end (edged r a (length a)) in
      edged_same (length a) (ends r (a ++ 44 ∷ b) (length a)) (ends r a (length a)) (edge 44 r) (edge 256 r) s x y

  seam_none : (r : Rule) → is_misses (edge 44 r) ≡ true → ends r (a ++ 44 ∷ b) (length a) ≡ None
  seam_none r s =
      edged_none (length a) (ends r (a ++ 44 ∷ b) (length a)) (edge 44 r) s (subst (λ c. Edged (length a) (ends r (a ++ 44 ∷ b) (length a)) (edge c r)) at_comma (edged r (a ++ 44 ∷ b) (length a)))

  -- up to the seam, from before it and at it
  to_seam : (r : Rule) → settled r ≡ true → ((p : ℕ) → p < length a → ends r (a ++ 44 ∷ b) p ≡ ends r a p) → (p : ℕ) → p ≤ length a → ends r (a ++ 44 ∷ b) p ≡ ends r a p
  to_seam r s h p l =
      ⊎_elim (h p) (λ k. let e : length a ≡ p = omega arith in subst (λ n. ends r (a ++ 44 ∷ b) n ≡ ends r a n) e (seam r s)) (cases_lt p (length a))

  longer : length a < length (a ++ 44 ∷ b)
  longer = omega (arith, length-append a (44 ∷ b))

  run_same : (r : Rule) → is_misses (edge 44 r) ≡ true → ((p : ℕ) → p < length a → ends r (a ++ 44 ∷ b) p ≡ ends r a p) → (s : List ℕ) (p : ℕ) → p ≤ length a → drop p a ≡ s → run_end r (a ++ 44 ∷ b) p ≡ run_end r a p
  run_same r k h [] p l d =
      let e : length a ≡ p = omega (arith, length-drop p a, ap length d) in
      let none : ends r (a ++ 44 ∷ b) p ≡ None = subst (λ n. ends r (a ++ 44 ∷ b) n ≡ None) e (seam_none r k) in
      run_none r (a ++ 44 ∷ b) p none ∙ sym (run_past r a p (omega arith))
  run_same r k h (c ∷ s) p l d =
      let here : p < length a = omega (arith, length-drop p a, ap length d) in
      let rest : drop (p + 1) a ≡ s = let z = drop_more a p 256 here in cc in
      go here (ends r a p) refl (run_same r k h s (p + 1) (omega arith) rest)
    where
      go : p < length a → (o : Option ℕ) → ends r a p ≡ o → run_end r (a ++ 44 ∷ b) (p + 1) ≡ run_end r a (p + 1) → run_end r (a ++ 44 ∷ b) p ≡ run_end r a p
      go here None e i = run_none r (a ++ 44 ∷ b) p (h p here ∙ e) ∙ sym (run_none r a p e)
      go here (Some m) e i = run_on r (a ++ 44 ∷ b) p m (omega (arith, longer)) (h p here ∙ e) ∙ (i ∙ sym (run_on r a p m here e))

  before : (r : Rule) → tame r ≡ true → steady r ≡ true → (p : ℕ) → p < length a → ends r (a ++ 44 ∷ b) p ≡ ends r a p
  before nothing m s p l = refl
  before (one f) m s p l = ap (λ c. cond (f c) (Some (p + 1)) None) (get_or_append_left a (44 ∷ b) 256 p l)
  before (look f) m s p l = ap (λ c. cond (f c) (Some p) None) (get_or_append_left a (44 ∷ b) 256 p l)
  before (run r) m s p l =
      let w = and_parts (steady r) (is_misses (edge 44 r)) s in
      ap Some (run_same r w.1 (before r m w.0) (drop p a) p (omega arith) refl)
  before (then r q) m s p l =
      let n = and_parts (tame r) (tame q) m in
      let w = and_parts (steady r) (steady q && settled q) s in
      let z = and_parts (steady q) (settled q) w.1 in
      ap (λ o. next o (λ e. ends q (a ++ 44 ∷ b) e)) (before r n.0 w.0 p l)
      ∙ next_same (ends r a p) (λ e. ends q (a ++ 44 ∷ b) e) (λ e. ends q a e)
      (λ e h. to_seam q z.1 (before q n.1 z.0) e (stands_within (ends_stands a r p e h) n.0 (omega arith)).1)
  before (else r q) m s p l =
      let n = and_parts (tame r) (tame q) m in
      let w = and_parts (steady r) (steady q) s in
      λ i. or_else (before r n.0 w.0 p l i) (before q n.1 w.1 p l i)
  before (unless r q) m s p l =
      let n = and_parts (tame r) (tame q) m in
      let w = and_parts (steady r) (steady q) s in
      λ i. without (before r n.0 w.0 p l i) (before q n.1 w.1 p l i)

  pub rule_blind : (r : Rule) → tame r ≡ true → shy r ≡ true → (p : ℕ) → p ≤ length a → ends r (a ++ 44 ∷ b) p ≡ ends r a p
  rule_blind r m s p l = let w = and_parts (steady r) (settled r) s in to_seam r w.1 (before r m w.0) p l

  pub between_same : (p e : ℕ) → p ≤ e → e ≤ length a → between (a ++ 44 ∷ b) p e ≡ between a p e
  between_same p e h k =
      ap (take (e - p)) (drop-append-le p a (44 ∷ b) (omega arith)) ∙ take-append-le (e - p) (drop p a) (44 ∷ b) (omega (arith, length-drop p a))

valued_same : {V : Type 0} (f g : ℕ → V) (o : Option ℕ) → ((e : ℕ) → o ≡ Some e → f e ≡ g e) → valued f o ≡ valued g o
valued_same f g None h = refl
valued_same f g (Some e) h = λ i. Some (h e refl i, e)

onward_same : {A B : Type 0} (o : Outcome A) (f g : A → ℕ → Outcome B) → ((v : A) (e : ℕ) → o ≡ Some (v, e) → f v e ≡ g v e) → onward o f ≡ onward o g
onward_same None f g h = refl
onward_same (Some x) f g h = h x.0 x.1 refl

pub decided_same : {V : Type 0} (o : Option ℕ) (f g : ℕ → Outcome V) (u w : Outcome V) → ((e : ℕ) → o ≡ Some e → f e ≡ g e) → u ≡ w → decided o f u ≡ decided o g w
decided_same None f g u w h k = k
decided_same (Some e) f g u w h k = h e refl

-- a form whose rules pass a test passes a weaker one
pub each_weaker : (p q : Rule → Bool) → ((r : Rule) → p r ≡ true → q r ≡ true) → {k : Kind} (x : Form k) → Each p x → Each q x
each_weaker p q h (give v) s = tt
each_weaker p q h fail s = tt
each_weaker p q h (spot r) s = h r s
each_weaker p q h (read r f) s = h r s
each_weaker p q h (bind f g) s = (each_weaker p q h f s.0, λ v. each_weaker p q h (g v) (s.1 v))
each_weaker p q h (when r f g) s = (h r s.0, each_weaker p q h f s.1, each_weaker p q h g s.2)
each_weaker p q h (first f g) s = (each_weaker p q h f s.0, each_weaker p q h g s.1)

pub shy_tame : {k : Kind} (x : Form k) → ShyForm x → TameForm x
shy_tame x s = each_weaker (λ r. tame r && shy r) tame (λ r h. (and_parts (tame r) (shy r) h).0) x s

module _ (a b : List ℕ) where
  shy_rule : (r : Rule) → (tame r && shy r) ≡ true → (p : ℕ) → p ≤ length a → ends r (a ++ 44 ∷ b) p ≡ ends r a p
  shy_rule r s p l = let w = and_parts (tame r) (shy r) s in rule_blind a b r w.0 w.1 p l

  rule_within : (r : Rule) → (tame r && shy r) ≡ true → (p e : ℕ) → p ≤ length a → ends r a p ≡ Some e → (p ≤ e) × (e ≤ length a)
  rule_within r s p e l h = stands_within (ends_stands a r p e h) (and_parts (tame r) (shy r) s).0 l

  pub form_blind : {k : Kind} (x : Form k) → ShyForm x → (p : ℕ) → p ≤ length a → reads x (a ++ 44 ∷ b) p ≡ reads x a p
  form_blind (give v) s p l = refl
  form_blind fail s p l = refl
  form_blind (spot r) s p l = ap (spotted p) (shy_rule r s p l)
  form_blind (read r f) s p l =
      ap (valued (λ e. f (between (a ++ 44 ∷ b) p e))) (shy_rule r s p l)
      ∙ valued_same (λ e. f (between (a ++ 44 ∷ b) p e)) (λ e. f (between a p e)) (ends r a p) (λ e h. let w = rule_within r s p e l h in ap f (between_same a b p e w.0 w.1))
  form_blind (bind {j = j} f g) s p l =
      ap (λ o. onward o (λ v e. reads (g v) (a ++ 44 ∷ b) e)) (form_blind f s.0 p l)
      ∙ onward_same (reads f a p) (λ v e. reads (g v) (a ++ 44 ∷ b) e) (λ v e. reads (g v) a e)
      (λ v e h. form_blind (g v) (s.1 v) e (says_within (reads_says a j f p v e h) (shy_tame f s.0) l).1)
  form_blind (when r f g) s p l =
      ap (λ o. decided o (λ e. reads f (a ++ 44 ∷ b) e) (reads g (a ++ 44 ∷ b) p)) (shy_rule r s.0 p l)
      ∙ decided_same (ends r a p) (λ e. reads f (a ++ 44 ∷ b) e) (λ e. reads f a e) (reads g (a ++ 44 ∷ b) p) (reads g a p)
      (λ e h. form_blind f s.1 e (rule_within r s.0 p e l h).1) (form_blind g s.2 p l)
  form_blind (first f g) s p l = λ i. first_of (form_blind f s.0 p l i) (form_blind g s.1 p l i)
