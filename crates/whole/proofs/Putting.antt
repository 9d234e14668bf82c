-- Queries put into a reading's slots, one after another.
use Rattle.std.proofs.Common.{◌≡◌, ℕ, ◌+◌, true, cond, ltb, List, [], ◌∷◌, ◌++◌, length, sym, refl, ap, ◌∙◌, subst, arith, length-append}
use Rattle.std.proofs.lemmas.List.{append_assoc, append-nil}
use Rattle.std.proofs.lemmas.Bool.{cond-true, lt-ltb}
use Rattle.grammar.specs.declared.query.SingleQuery.{SingleQuery}
use Rattle.whole.specs.declared.reading.Reading.{Reading}
use Rattle.whole.specs.declared.reading.Separator.{Separator}
use Rattle.whole.specs.Slots.{pushed_slots, pushed_len, Laid, end_of, gaps}
use Rattle.whole.specs.Takes.{Puts}
use Rattle.whole.specs.Walks.{Taken}
use Rattle.whole.proofs.Slotting.{laid_none, laid_more, end_more, gaps_more}

-- no record is left, and every slot is as it was
pub record Cleared (before after : Reading) : Type 0 where
  pub queries : after.queries.slots.now ≡ before.queries.slots.now
  pub count : after.queries.len ≡ 0
  pub separators : after.separators.slots.now ≡ before.separators.slots.now
  pub less : after.separators.len ≡ 0

-- the slots hold these queries and the separators between them, as far as they fit
pub record Holding (before after : Reading) (qs : List SingleQuery) : Type 0 where
  pub queries : Laid before.queries.slots.now after.queries.slots.now after.queries.len qs
  pub separators : Laid before.separators.slots.now after.separators.slots.now after.separators.len (gaps qs)

-- the separator before a query that is not the first
separator_more : (before slots slots' : List Separator) (len len' n e : ℕ) (qs : List SingleQuery) (q : SingleQuery) → length qs ≡ n → e ≡ end_of 0 qs → Laid before slots len (gaps qs) → slots' ≡ cond (ltb 0 n) (pushed_slots slots len (record { start = e; end = q.raw.start })) slots → len' ≡ cond (ltb 0 n) (pushed_len slots len) len → Laid before slots' len' (gaps (qs ++ q ∷ []))
separator_more before slots slots' len len' n e [] q many at l es el =
    let s : Separator = record { start = e; end = q.raw.start } in
    let slots_same : slots ≡ slots' = sym (es ∙ ap (λ v. cond (ltb 0 v) (pushed_slots slots len s) slots) (sym many)) in
    let len_same : len ≡ len' = sym (el ∙ ap (λ v. cond (ltb 0 v) (pushed_len slots len) len) (sym many)) in
    subst (λ x. Laid before x len' []) slots_same (subst (λ x. Laid before slots x []) len_same l)
separator_more before slots slots' len len' n e (x ∷ qs) q many at l es el =
    let s : Separator = record { start = e; end = q.raw.start } in
    let some : ltb 0 n ≡ true = lt-ltb 0 n (omega (arith, many)) in
    subst (Laid before slots' len') (sym (gaps_more (x ∷ qs) q s (omega arith) at refl))
    (laid_more before slots slots' (gaps (x ∷ qs)) len len' s l (es ∙ cond-true (ltb 0 n) (pushed_slots slots len s) slots some) (el ∙ cond-true (ltb 0 n) (pushed_len slots len) len some))

put_all : (before a b : Reading) (n e : ℕ) (given qs : List SingleQuery) → length given ≡ n → e ≡ end_of 0 given → Holding before a given → Taken Puts a n e qs b → Holding before b (given ++ qs)
put_all before a b n e given [] many at h t = subst (Holding before b) (sym (append-nil given)) (subst (λ x. Holding before x given) t h)
put_all before a b n e given (q ∷ qs) many at h t =
    let c = t.0 in
    let p = t.1 in
    let next : Holding before c (given ++ q ∷ []) = record {
      queries = laid_more before.queries.slots.now a.queries.slots.now c.queries.slots.now given a.queries.len c.queries.len q h.queries p.queries p.count;
      separators = separator_more before.separators.slots.now a.separators.slots.now c.separators.slots.now a.separators.len c.separators.len n e given q many at h.separators p.separators p.less;
    } in
    subst (Holding before b) (append_assoc given (q ∷ []) qs)
    (put_all before c b (n + 1) q.raw.end (given ++ q ∷ []) qs (length-append given (q ∷ []) ∙ ap (λ m. m + 1) many) (sym (end_more 0 given q)) next t.2)

-- the same where the lists were cleared first
pub put_given : (before cleared after : Reading) (qs : List SingleQuery) → Cleared before cleared → Taken Puts cleared 0 0 qs after → Holding before after qs
put_given before cleared after qs z t =
    put_all before cleared after 0 0 [] qs refl refl (record {
      queries = laid_none before.queries.slots.now cleared.queries.slots.now cleared.queries.len z.queries z.count;
      separators = laid_none before.separators.slots.now cleared.separators.slots.now cleared.separators.len z.separators z.less;
    }) t

-- the slots are those that were lent
pub same_slots : (a b : Reading) (n e : ℕ) (qs : List SingleQuery) → Taken Puts a n e qs b → (b.queries.slots.ghost_name ≡ a.queries.slots.ghost_name) × (b.separators.slots.ghost_name ≡ a.separators.slots.ghost_name)
same_slots a b n e [] t = (ap (λ r. r.queries.slots.ghost_name) (sym t), ap (λ r. r.separators.slots.ghost_name) (sym t))
same_slots a b n e (q ∷ qs) t =
    let w = same_slots t.0 b (n + 1) q.raw.end qs t.2 in
    (w.0 ∙ t.1.same_queries, w.1 ∙ t.1.same_separators)
