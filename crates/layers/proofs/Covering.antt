-- A cover, cell by cell, and what holds of it as a whole.
use Rattle.std.proofs.Common.{◌≡◌, ℕ, zero, suc, ◌+◌, ◌<◌, Bool, true, false, cond, ◌&&◌, ◌||◌, eqb, ltb, List, [], ◌∷◌, length, get_or, Some, Ok, sym, refl, ap, ◌∙◌, subst, ⊎_elim, add-zero, zero-add, arith}
use Rattle.std.proofs.lemmas.Bool.{cases_order, eq-eqb, ne_eqb, lt-ltb, le-ltb}
use Rattle.std.proofs.lemmas.Bool.Decides.{nat_tests}
use Rattle.texts.specs.declared.cell.Cell.{Cell}
use Rattle.texts.specs.declared.cell.Cell.TheVariants.{Byte, Bad}
use Rattle.texts.specs.Cells.{answer}
use Rattle.texts.specs.Codes.{codes}
use Rattle.layers.specs.Covers.{hidden, shown, goes_on, shown_cell, goes_on_cell, covered_from, covered, comment_at, shown_by, shown_answer, Plain, Covering, shown_by_length}

answer_shown : (inside : ℕ → Bool) (k : ℕ) (cs : List Cell) (p : ℕ) → answer (shown_by inside k cs) p ≡ shown_answer (inside (k + p)) (answer cs p)
answer_shown inside k [] zero = refl
answer_shown inside k [] (suc p) = refl
answer_shown inside k (Byte b ∷ cs) zero = ap (λ n. Ok (Some (shown (inside n) b))) (sym (add-zero k))
answer_shown inside k (Bad f ∷ cs) zero = refl
answer_shown inside k (c ∷ cs) (suc p) =
    answer_shown inside (suc k) cs p ∙ ap (λ n. shown_answer (inside n) (answer cs p)) (omega arith)

-- the answer to a question through the cover
pub answer_through : (inside : ℕ → Bool) (cs : List Cell) (p : ℕ) → answer (shown_by inside 0 cs) p ≡ shown_answer (inside p) (answer cs p)
answer_through inside cs p = answer_shown inside 0 cs p ∙ ap (λ n. shown_answer (inside n) (answer cs p)) (zero-add p)

or_false : (t : Bool) → (t || false) ≡ t
or_false true = refl
or_false false = refl

-- whether a comment goes on, a place further
comment_more : (inside : Bool) (cs : List Cell) (p : ℕ) → p < length cs → goes_on (comment_at inside cs p) (get_or (codes cs) p 256) ≡ comment_at inside cs (suc p)
comment_more inside [] p h = absurd (omega arith)
comment_more inside (Byte b ∷ []) zero h = refl
comment_more inside (Byte b ∷ c ∷ cs) zero h = refl
comment_more inside (Bad f ∷ []) zero h = or_false inside
comment_more inside (Bad f ∷ c ∷ cs) zero h = or_false inside
comment_more inside (c ∷ cs) (suc p) h = comment_more (goes_on_cell inside c) cs p (omega arith)

-- marks on each place below one that lies in a comment
abbrev pub MarkedBelow : (ℕ → Bool) → List Cell → ℕ → Type 0
MarkedBelow marks cs p = (q : ℕ) → marks q ≡ (ltb q p && comment_at false cs q)

pub marks_none : (marks : ℕ → Bool) (cs : List Cell) → ((q : ℕ) → marks q ≡ false) → MarkedBelow marks cs 0
marks_none marks cs h q = h q ∙ sym (ap (λ t. t && comment_at false cs q) (le-ltb q 0 (omega arith)))

pub marks_more : (marks after : ℕ → Bool) (cs : List Cell) (p : ℕ) (inside : Bool) → MarkedBelow marks cs p → inside ≡ comment_at false cs p → ((q : ℕ) → after q ≡ ((eqb q p && inside) || marks q)) → MarkedBelow after cs (p + 1)
marks_more marks after cs p inside before is step q =
    let at = comment_at false cs q in
    step q
    ∙ (ap (λ t. (eqb q p && inside) || t) (before q)
    ∙ ⊎_elim (λ e. ap (λ t. (t && inside) || (ltb q p && at)) (eq-eqb q p e) ∙ (ap (λ t. inside || (t && at)) (le-ltb q p (omega arith)) ∙ (or_false inside ∙ (is ∙ (ap (comment_at false cs) (sym e) ∙ sym (ap (λ t. t && at) (lt-ltb q (p + 1) (omega arith)))))))) (λ o. ap (λ t. (t && inside) || (ltb q p && at)) (ne_eqb q p (⊎_elim (λ l e. omega arith) (λ l e. omega arith) o)) ∙ ap (λ t. t && at) (⊎_elim (λ l. lt-ltb q p l ∙ sym (lt-ltb q (p + 1) (omega arith))) (λ l. le-ltb q p (omega arith) ∙ sym (le-ltb q (p + 1) (omega arith))) o)) (cases_order q p))

pub comment_next : (cs : List Cell) (p n : ℕ) (inside after : Bool) → n ≡ length cs → p < n → inside ≡ comment_at false cs p → after ≡ goes_on inside (get_or (codes cs) p 256) → after ≡ comment_at false cs (p + 1)
comment_next cs p n inside after len h is e =
    e ∙ (ap (λ t. goes_on t (get_or (codes cs) p 256)) is ∙ (comment_more false cs p (omega arith) ∙ ap (comment_at false cs) (omega arith)))

-- marks on the places in comments show the cells as the cover does
shown_covered : (inside : Bool) (marks : ℕ → Bool) (k : ℕ) (cs : List Cell) → ((q : ℕ) → q < length cs → marks (k + q) ≡ comment_at inside cs q) → shown_by marks k cs ≡ covered_from inside cs
shown_covered inside marks k [] h = refl
shown_covered inside marks k (c ∷ cs) h =
    let here : marks k ≡ inside = ap marks (sym (add-zero k)) ∙ h 0 (omega arith) in
    ap (λ t. shown_cell t c ∷ shown_by marks (suc k) cs) here
    ∙ ap (λ l. shown_cell inside c ∷ l) (shown_covered (goes_on_cell inside c) marks (suc k) cs (λ q l. ap marks (omega arith) ∙ h (suc q) (omega arith)))

-- the cover shows none of the hidden bytes
shown_plain : (inside : Bool) (b : ℕ) → hidden (shown inside b) ≡ false
shown_plain inside b = grind (arith, nat_tests)

covered_plain : (inside : Bool) (cs : List Cell) → Plain (covered_from inside cs)
covered_plain inside [] = tt
covered_plain inside (Byte b ∷ cs) = (shown_plain inside b, covered_plain (goes_on inside b) cs)
covered_plain inside (Bad f ∷ cs) = covered_plain inside cs

plain_on : (b : ℕ) → hidden b ≡ false → goes_on false b ≡ false
plain_on b h = grind (arith, nat_tests)

plain_kept : (cs : List Cell) → Plain cs → covered_from false cs ≡ cs
plain_kept [] h = refl
plain_kept (Byte b ∷ cs) h =
    ap (λ t. Byte (cond t 32 b) ∷ covered_from (goes_on false b) cs) h.0
    ∙ ap (λ l. Byte b ∷ l) (ap (λ t. covered_from t cs) (plain_on b h.0) ∙ plain_kept cs h.1)
plain_kept (Bad f ∷ cs) h = ap (λ l. Bad f ∷ l) (plain_kept cs h)

same_byte : (inside : Bool) (b : ℕ) → shown inside b ≡ b → hidden b ≡ false
same_byte inside b h = ap hidden (sym h) ∙ shown_plain inside b

kept_plain : (inside : Bool) (cs : List Cell) → covered_from inside cs ≡ cs → Plain cs
kept_plain inside [] h = tt
kept_plain inside (Byte b ∷ cs) h =
    let same : shown inside b ≡ b = cc in
    let rest : covered_from (goes_on inside b) cs ≡ cs = cc in
    (same_byte inside b same, kept_plain (goes_on inside b) cs rest)
kept_plain inside (Bad f ∷ cs) h =
    let rest : covered_from inside cs ≡ cs = cc in kept_plain inside cs rest

pub covering : (marks : ℕ → Bool) (cs : List Cell) → ((q : ℕ) → q < length cs → marks q ≡ comment_at false cs q) → Covering cs (shown_by marks 0 cs)
covering marks cs h =
    let seen = shown_by marks 0 cs in
    let is : seen ≡ covered cs = shown_covered false marks 0 cs (λ q l. ap marks (zero-add q) ∙ h q l) in
    let plain : Plain seen = subst Plain (sym is) (covered_plain false cs) in
    record {
      is = is;
      size = shown_by_length marks 0 cs;
      plain = plain;
      once = plain_kept seen plain;
      kept = λ p. is ∙ plain_kept cs p;
      same = λ e. kept_plain false cs (sym is ∙ e);
    }

pub comment_first : (cs : List Cell) → false ≡ comment_at false cs 0
comment_first [] = refl
comment_first (c ∷ cs) = refl
