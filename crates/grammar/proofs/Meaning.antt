-- The computations say what the relations say, both ways; so each rule and each form has one answer.
use Rattle.std.proofs.Common.{◌≡◌, ℕ, suc, ◌+◌, ◌<◌, ◌≤◌, Bool, true, false, cond, List, [], ◌∷◌, length, get_or, drop, is_some, Some, None, Option, sym, refl, ap, ◌∙◌, subst, add-zero, arith, length-drop}
use Rattle.std.proofs.lemmas.Bool.{cond-true, cond-false}
use Rattle.std.proofs.lemmas.List.{drop_all, drop_more}
use Rattle.grammar.specs.Rule.{Rule, nothing, one, look, run, then, else, unless, span, next, or_else, without, ends}
use Rattle.grammar.specs.Form.{Kind, part, Value, Form, give, fail, spot, read, bind, when, first, between, Outcome, spotted, valued, onward, decided, first_of, reads}
use Rattle.grammar.specs.Stands.{Stands, stands_nothing, stands_one, stands_look, stands_run, stands_then, stands_first, stands_second, stands_unless, Missing, missing_one, missing_look, missing_first, missing_second, missing_both, missing_under, missing_over, Longest, longest_end, longest_stop, longest_on, Says, says_give, says_spot, says_read, says_bind, says_when, says_otherwise, says_first, says_second, Silent, silent_fail, silent_spot, silent_read, silent_bind, silent_rest, silent_when, silent_otherwise, silent_both}
use Rattle.grammar.proofs.Shift.{fits_at}

-- where a run that begins at a place ends
abbrev pub run_end : Rule → List ℕ → ℕ → ℕ
run_end r t p = p + span (λ s. is_some (ends r s 0)) (drop p t)

pub run_past : (r : Rule) (t : List ℕ) (p : ℕ) → length t ≤ p → run_end r t p ≡ p
run_past r t p h = ap (λ l. p + span (λ s. is_some (ends r s 0)) l) (drop_all p t h) ∙ add-zero p

pub run_stop : (r : Rule) (t : List ℕ) (p : ℕ) → p < length t → ends r t p ≡ None → run_end r t p ≡ p
run_stop r t p h e =
    let f : List ℕ → Bool = λ s. is_some (ends r s 0) in
    let d = drop_more t p 256 h in
    let no : f (get_or t p 256 ∷ drop (p + 1) t) ≡ false = ap f (sym d) ∙ (fits_at r t p ∙ ap is_some e) in
    ap (λ l. p + span f l) d ∙ (ap (λ n. p + n) (cond-false (f (get_or t p 256 ∷ drop (p + 1) t)) (suc (span f (drop (p + 1) t))) 0 no) ∙ add-zero p)

pub run_on : (r : Rule) (t : List ℕ) (p m : ℕ) → p < length t → ends r t p ≡ Some m → run_end r t p ≡ run_end r t (p + 1)
run_on r t p m h e =
    let f : List ℕ → Bool = λ s. is_some (ends r s 0) in
    let d = drop_more t p 256 h in
    let on : f (get_or t p 256 ∷ drop (p + 1) t) ≡ true = ap f (sym d) ∙ (fits_at r t p ∙ ap is_some e) in
    ap (λ l. p + span f l) d ∙ (ap (λ n. p + n) (cond-true (f (get_or t p 256 ∷ drop (p + 1) t)) (suc (span f (drop (p + 1) t))) 0 on) ∙ omega arith)

mutual
  pub stands_ends : {t : List ℕ} {r : Rule} {p e : ℕ} → Stands t r p e → ends r t p ≡ Some e
  stands_ends stands_nothing = refl
  stands_ends (stands_one h) = rw h
  stands_ends (stands_look h) = rw h
  stands_ends (stands_run l) = ap Some (longest_run l)
  stands_ends (stands_then a b) = rw (stands_ends a, stands_ends b)
  stands_ends (stands_first a) = rw (stands_ends a)
  stands_ends (stands_second m a) = rw (missing_ends m, stands_ends a)
  stands_ends (stands_unless m a) = rw (missing_ends m, stands_ends a)

  pub missing_ends : {t : List ℕ} {r : Rule} {p : ℕ} → Missing t r p → ends r t p ≡ None
  missing_ends (missing_one h) = rw h
  missing_ends (missing_look h) = rw h
  missing_ends (missing_first a) = rw (missing_ends a)
  missing_ends (missing_second a b) = rw (stands_ends a, missing_ends b)
  missing_ends (missing_both a b) = rw (missing_ends a, missing_ends b)
  missing_ends (missing_under a) = rw (stands_ends a)
  missing_ends (missing_over a b) = rw (missing_ends a, missing_ends b)

  longest_run : {t : List ℕ} {r : Rule} {p e : ℕ} → Longest t r p e → run_end r t p ≡ e
  longest_run {t} (longest_end {r = r} {p = p} h) = run_past r t p h
  longest_run {t} (longest_stop {r = r} {p = p} h a) = run_stop r t p h (missing_ends a)
  longest_run {t} (longest_on {r = r} {p = p} {m = m} h a l) = run_on r t p m h (stands_ends a) ∙ longest_run l

-- what an outcome says in terms of the relations
abbrev Told : List ℕ → Rule → ℕ → Option ℕ → Type 0
Told t r p None = Missing t r p
Told t r p (Some e) = Stands t r p e

told_one : (t : List ℕ) (f : ℕ → Bool) (p : ℕ) (v : Bool) → f (get_or t p 256) ≡ v → Told t (one f) p (cond v (Some (p + 1)) None)
told_one t f p true e = stands_one e
told_one t f p false e = missing_one e

told_look : (t : List ℕ) (f : ℕ → Bool) (p : ℕ) (v : Bool) → f (get_or t p 256) ≡ v → Told t (look f) p (cond v (Some p) None)
told_look t f p true e = stands_look e
told_look t f p false e = missing_look e

told_then : (t : List ℕ) (r q : Rule) (p : ℕ) → ((m : ℕ) → Told t q m (ends q t m)) → (o : Option ℕ) → Told t r p o → Told t (then r q) p (next o (λ e. ends q t e))
told_then t r q p h None a = missing_first a
told_then t r q p h (Some m) a = go (ends q t m) (h m)
  where
    go : (o : Option ℕ) → Told t q m o → Told t (then r q) p o
    go None b = missing_second a b
    go (Some e) b = stands_then a b

told_else : (t : List ℕ) (r q : Rule) (p : ℕ) (o u : Option ℕ) → Told t r p o → Told t q p u → Told t (else r q) p (or_else o u)
told_else t r q p (Some e) u a b = stands_first a
told_else t r q p None None a b = missing_both a b
told_else t r q p None (Some e) a b = stands_second a b

told_unless : (t : List ℕ) (r q : Rule) (p : ℕ) (o u : Option ℕ) → Told t r p o → Told t q p u → Told t (unless r q) p (without o u)
told_unless t r q p (Some e) u a b = missing_under a
told_unless t r q p None None a b = missing_over a b
told_unless t r q p None (Some e) a b = stands_unless a b

-- the run, by what is left of the text
told_run : (t : List ℕ) (r : Rule) → ((p : ℕ) → Told t r p (ends r t p)) → (s : List ℕ) (p : ℕ) → drop p t ≡ s → Longest t r p (run_end r t p)
told_run t r h [] p e =
    let past : length t ≤ p = omega (arith, length-drop p t, ap length e) in
    subst (Longest t r p) (sym (run_past r t p past)) (longest_end past)
told_run t r h (b ∷ s) p e =
    let here : p < length t = omega (arith, length-drop p t, ap length e) in
    let rest : drop (p + 1) t ≡ s = let d = drop_more t p 256 here in cc in
    go here (ends r t p) refl (h p) (told_run t r h s (p + 1) rest)
  where
    go : p < length t → (o : Option ℕ) → ends r t p ≡ o → Told t r p o → Longest t r (p + 1) (run_end r t (p + 1)) → Longest t r p (run_end r t p)
    go here None i a l = subst (Longest t r p) (sym (run_stop r t p here i)) (longest_stop here a)
    go here (Some m) i a l = subst (Longest t r p) (sym (run_on r t p m here i)) (longest_on here a l)

pub told : (t : List ℕ) (r : Rule) (p : ℕ) → Told t r p (ends r t p)
told t nothing p = stands_nothing
told t (one f) p = told_one t f p (f (get_or t p 256)) refl
told t (look f) p = told_look t f p (f (get_or t p 256)) refl
told t (run r) p = stands_run (told_run t r (told t r) (drop p t) p refl)
told t (then r q) p = told_then t r q p (told t q) (ends r t p) (told t r p)
told t (else r q) p = told_else t r q p (ends r t p) (ends q t p) (told t r p) (told t q p)
told t (unless r q) p = told_unless t r q p (ends r t p) (ends q t p) (told t r p) (told t q p)

pub told_longest : (t : List ℕ) (r : Rule) (p : ℕ) → Longest t r p (run_end r t p)
told_longest t r p = told_run t r (told t r) (drop p t) p refl

pub ends_stands : (t : List ℕ) (r : Rule) (p e : ℕ) → ends r t p ≡ Some e → Stands t r p e
ends_stands t r p e h = subst (Told t r p) h (told t r p)

pub ends_missing : (t : List ℕ) (r : Rule) (p : ℕ) → ends r t p ≡ None → Missing t r p
ends_missing t r p h = subst (Told t r p) h (told t r p)

mutual
  pub says_reads : {t : List ℕ} {k : Kind} {f : Form k} {p : ℕ} {v : Value k} {e : ℕ} → Says t k f p v e → reads f t p ≡ Some (v, e)
  says_reads says_give = refl
  says_reads (says_spot a) = rw (stands_ends a)
  says_reads (says_read a) = rw (stands_ends a)
  says_reads (says_bind a b) = rw (says_reads a, says_reads b)
  says_reads (says_when a b) = rw (stands_ends a, says_reads b)
  says_reads (says_otherwise a b) = rw (missing_ends a, says_reads b)
  says_reads (says_first a) = rw (says_reads a)
  says_reads (says_second a b) = rw (silent_reads a, says_reads b)

  pub silent_reads : {t : List ℕ} {k : Kind} {f : Form k} {p : ℕ} → Silent t k f p → reads f t p ≡ None
  silent_reads silent_fail = refl
  silent_reads (silent_spot a) = rw (missing_ends a)
  silent_reads (silent_read a) = rw (missing_ends a)
  silent_reads (silent_bind a) = rw (silent_reads a)
  silent_reads (silent_rest a b) = rw (says_reads a, silent_reads b)
  silent_reads (silent_when a b) = rw (stands_ends a, silent_reads b)
  silent_reads (silent_otherwise a b) = rw (missing_ends a, silent_reads b)
  silent_reads (silent_both a b) = rw (silent_reads a, silent_reads b)

-- what an outcome says of a form
abbrev Spoken : List ℕ → (k : Kind) → Form k → ℕ → Outcome (Value k) → Type 0
Spoken t k f p None = Silent t k f p
Spoken t k f p (Some x) = Says t k f p x.0 x.1

spoken_spot : (t : List ℕ) (r : Rule) (p : ℕ) (o : Option ℕ) → Told t r p o → Spoken t part (spot r) p (spotted p o)
spoken_spot t r p None a = silent_spot a
spoken_spot t r p (Some e) a = says_spot a

spoken_read : (t : List ℕ) (k : Kind) (r : Rule) (f : List ℕ → Value k) (p : ℕ) (o : Option ℕ) → Told t r p o → Spoken t k (read r f) p (valued (λ e. f (between t p e)) o)
spoken_read t k r f p None a = silent_read a
spoken_read t k r f p (Some e) a = says_read a

spoken_bind : (t : List ℕ) (j k : Kind) (f : Form j) (g : Value j → Form k) (p : ℕ) → ((v : Value j) (m : ℕ) → Spoken t k (g v) m (reads (g v) t m)) → (o : Outcome (Value j)) → Spoken t j f p o → Spoken t k (bind f g) p (onward o (λ v e. reads (g v) t e))
spoken_bind t j k f g p h None a = silent_bind a
spoken_bind t j k f g p h (Some x) a = go (reads (g x.0) t x.1) (h x.0 x.1)
  where
    go : (o : Outcome (Value k)) → Spoken t k (g x.0) x.1 o → Spoken t k (bind f g) p o
    go None b = silent_rest a b
    go (Some y) b = says_bind a b

spoken_when : (t : List ℕ) (k : Kind) (r : Rule) (f g : Form k) (p : ℕ) → ((m : ℕ) → Spoken t k f m (reads f t m)) → (u : Outcome (Value k)) → Spoken t k g p u → (o : Option ℕ) → Told t r p o → Spoken t k (when r f g) p (decided o (λ e. reads f t e) u)
spoken_when t k r f g p h None b None a = silent_otherwise a b
spoken_when t k r f g p h (Some x) b None a = says_otherwise a b
spoken_when t k r f g p h u b (Some m) a = go (reads f t m) (h m)
  where
    go : (o : Outcome (Value k)) → Spoken t k f m o → Spoken t k (when r f g) p o
    go None c = silent_when a c
    go (Some y) c = says_when a c

spoken_first : (t : List ℕ) (k : Kind) (f g : Form k) (p : ℕ) (o u : Outcome (Value k)) → Spoken t k f p o → Spoken t k g p u → Spoken t k (first f g) p (first_of o u)
spoken_first t k f g p (Some x) u a b = says_first a
spoken_first t k f g p None None a b = silent_both a b
spoken_first t k f g p None (Some y) a b = says_second a b

pub spoken : (t : List ℕ) (k : Kind) (f : Form k) (p : ℕ) → Spoken t k f p (reads f t p)
spoken t k (give v) p = says_give
spoken t k fail p = silent_fail
spoken t k (spot r) p = spoken_spot t r p (ends r t p) (told t r p)
spoken t k (read r f) p = spoken_read t k r f p (ends r t p) (told t r p)
spoken t k (bind {j = j} f g) p = spoken_bind t j k f g p (λ v. spoken t k (g v)) (reads f t p) (spoken t j f p)
spoken t k (when r f g) p = spoken_when t k r f g p (spoken t k f) (reads g t p) (spoken t k g p) (ends r t p) (told t r p)
spoken t k (first f g) p = spoken_first t k f g p (reads f t p) (reads g t p) (spoken t k f p) (spoken t k g p)

pub reads_says : (t : List ℕ) (k : Kind) (f : Form k) (p : ℕ) (v : Value k) (e : ℕ) → reads f t p ≡ Some (v, e) → Says t k f p v e
reads_says t k f p v e h = subst (Spoken t k f p) h (spoken t k f p)

pub reads_silent : (t : List ℕ) (k : Kind) (f : Form k) (p : ℕ) → reads f t p ≡ None → Silent t k f p
reads_silent t k f p h = subst (Spoken t k f p) h (spoken t k f p)

pub one_end : (t : List ℕ) (r : Rule) (p e f : ℕ) → Stands t r p e → Stands t r p f → e ≡ f
one_end t r p e f a b = let x = stands_ends a in let y = stands_ends b in cc

pub same_answer : {A : Type 0} (o : Outcome A) (v w : A) (e f : ℕ) → o ≡ Some (v, e) → o ≡ Some (w, f) → (v ≡ w) × (e ≡ f)
same_answer {A} o v w e f p q = let h : ◌≡◌ {A = A × ℕ} (v, e) (w, f) = cc in (ap (λ x. x.0) h, ap (λ x. x.1) h)

pub one_answer : (t : List ℕ) (k : Kind) (x : Form k) (p : ℕ) (v w : Value k) (e f : ℕ) → Says t k x p v e → Says t k x p w f → (v ≡ w) × (e ≡ f)
one_answer t k x p v w e f a b = same_answer (reads x t p) v w e f (says_reads a) (says_reads b)
