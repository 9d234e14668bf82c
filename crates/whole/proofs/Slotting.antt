-- Records in slots, one more at a time.
use Rattle.std.proofs.Common.{◌≡◌, ℕ, ◌+◌, ◌<◌, Bool, true, false, cond, ltb, List, [], ◌∷◌, ◌++◌, length, get_or, drop, set, sym, refl, ap, ◌∙◌, arith, length-append, length-set}
use Rattle.std.proofs.lemmas.List.{append_assoc, drop_more, set_at}
use Rattle.std.proofs.lemmas.Bool.{lt-ltb}
use Rattle.grammar.specs.declared.query.SingleQuery.{SingleQuery}
use Rattle.whole.specs.declared.reading.Separator.{Separator}
use Rattle.whole.specs.Slots.{pushed_slots, pushed_len, Laid, end_of, gaps_from, gaps}

pub laid_none : {R : Type 0} (before slots : List R) (len : ℕ) → slots ≡ before → len ≡ 0 → Laid before slots len []
laid_none before slots len e n = record { size = ap length e; filled = λ _. e; count = λ _. n }

-- a record more behind others that fill all slots before it
put_behind : {R : Type 0} (rs before : List R) (r : R) → length rs < length before → set (rs ++ drop (length rs) before) (length rs) r ≡ (rs ++ r ∷ []) ++ drop (length rs + 1) before
put_behind rs before r h =
    ap (λ l. set (rs ++ l) (length rs) r) (drop_more before (length rs) r h)
    ∙ (set_at rs (get_or before (length rs) r) (drop (length rs + 1) before) r (length rs) refl ∙ sym (append_assoc rs (r ∷ []) (drop (length rs + 1) before)))

pub laid_more : {R : Type 0} (before slots slots' rs : List R) (len len' : ℕ) (r : R) → Laid before slots len rs → slots' ≡ pushed_slots slots len r → len' ≡ pushed_len slots len → Laid before slots' len' (rs ++ r ∷ [])
laid_more before slots slots' rs len len' r l es el =
    let more : length (rs ++ r ∷ []) ≡ length rs + 1 = length-append rs (r ∷ []) in
    record {
      size = ap length es ∙ (same (ltb len (length slots)) ∙ l.size);
      filled = λ h.
          let fits : length rs < length before = omega (arith, more, h) in
          let old : slots ≡ rs ++ drop (length rs) before = l.filled (omega arith) in
          let at : len ≡ length rs = l.count (omega arith) in
          let room : ltb len (length slots) ≡ true = lt-ltb len (length slots) (omega (arith, at, l.size)) in
          es ∙ (ap (λ v. cond v (set slots len r) slots) room
          ∙ ((λ i. set (old i) (at i) r) ∙ (put_behind rs before r fits ∙ ap (λ n. (rs ++ r ∷ []) ++ drop n before) (sym more))));
      count = λ h.
          let at : len ≡ length rs = l.count (omega (arith, more, h)) in
          let room : ltb len (length slots) ≡ true = lt-ltb len (length slots) (omega (arith, at, l.size, more, h)) in
          el ∙ (ap (λ v. cond v (len + 1) len) room ∙ omega (arith, at, more));
    }
  where
    same : (v : Bool) → length (cond v (set slots len r) slots) ≡ length slots
    same true = length-set slots len r
    same false = refl

-- the end of raws and of one more
pub end_more : (e : ℕ) (qs : List SingleQuery) (q : SingleQuery) → end_of e (qs ++ q ∷ []) ≡ q.raw.end
end_more e [] q = refl
end_more e (x ∷ qs) q = end_more x.raw.end qs q

gaps_from_more : (e : ℕ) (qs : List SingleQuery) (q : SingleQuery) → gaps_from e (qs ++ q ∷ []) ≡ gaps_from e qs ++ record { start = end_of e qs; end = q.raw.start } ∷ []
gaps_from_more e [] q = refl
gaps_from_more e (x ∷ qs) q = ap (λ l. record { start = e; end = x.raw.start } ∷ l) (gaps_from_more x.raw.end qs q)

-- a query that is not the first has a separator before it, from the end of the raw before
pub gaps_more : (qs : List SingleQuery) (q : SingleQuery) (s : Separator) → 0 < length qs → s.start ≡ end_of 0 qs → s.end ≡ q.raw.start → gaps (qs ++ q ∷ []) ≡ gaps qs ++ s ∷ []
gaps_more [] q s h a b = absurd (omega arith)
gaps_more (x ∷ qs) q s h a b =
    gaps_from_more x.raw.end qs q ∙ ap (λ y. gaps_from x.raw.end qs ++ y ∷ []) (λ i. record { start = sym a i; end = sym b i })

pub gaps_long : (q : SingleQuery) (qs : List SingleQuery) → length (gaps (q ∷ qs)) ≡ length qs
gaps_long q qs = long q.raw.end qs
  where
    long : (e : ℕ) (qs : List SingleQuery) → length (gaps_from e qs) ≡ length qs
    long e [] = refl
    long e (x ∷ qs) = omega (arith, long x.raw.end qs)
