-- Records of numbers, one behind another.
use Rattle.std.proofs.Common.{◌≡◌, ℕ, ◌+◌, ◌-◌, ◌<◌, ltb, List, [], ◌∷◌, ◌++◌, map, length, sym, refl, ap, ◌∙◌, subst, add-zero, arith, length-append}
use lib.ListN.{length-map}
use Rattle.std.proofs.lemmas.List.{append_assoc, append-nil, map_push}
use Rattle.std.proofs.lemmas.Bool.{cond-true, lt-ltb}
use Rattle.grammar.specs.declared.query.SingleQuery.{SingleQuery}
use Rattle.whole.specs.declared.reading.Separator.{Separator}
use Rattle.whole.specs.Slots.{end_of, gaps}
use Rattle.whole.specs.Walks.{Taken}
use Rattle.whole.proofs.Slotting.{end_more, gaps_more, gaps_long}
use Rattle.exports.specs.Layout.{words_of}
use Rattle.exports.specs.Put.{put_slot}
use Rattle.records.specs.Layout.{places_of}
use Rattle.words.specs.declared.steps.Slices.{Slices}
use Rattle.words.specs.Put.{put_slots, put_before}
use Rattle.words.specs.Steps.{Writes}

put_more : (words : List ℕ) (m : ℕ) (rs : List (List ℕ)) (r : List ℕ) → put_slots words m (rs ++ r ∷ []) ≡ put_slot (put_slots words m rs) (m + length rs) r
put_more words m [] r = ap (λ n. put_slot words n r) (sym (add-zero m))
put_more words m (x ∷ rs) r =
    let e : (m + 1) + length rs ≡ m + length (x ∷ rs) = omega arith in
    put_more (put_slot words m x) (m + 1) rs r ∙ ap (λ n. put_slot (put_slots (put_slot words m x) (m + 1) rs) n r) e

-- one record more
slots_more : {X : Type 0} (f : X → List ℕ) (words now now' : List ℕ) (n : ℕ) (xs : List X) (x : X) → now ≡ put_slots words 0 (map f xs) → length xs ≡ n → now' ≡ put_slot now n (f x) → now' ≡ put_slots words 0 (map f (xs ++ x ∷ []))
slots_more f words now now' n xs x was many is =
    let e : n ≡ 0 + length (map f xs) = omega (arith, many, length-map xs f) in
    is ∙ ((λ i. put_slot (was i) (e i) (f x)) ∙ (sym (put_more words 0 (map f xs) (f x)) ∙ ap (put_slots words 0) (sym (map_push f xs x))))

-- the separator before a query that is not the first
separators_more : (words now now' : List ℕ) (n end : ℕ) (qs : List SingleQuery) (q : SingleQuery) → now ≡ put_slots words 0 (map places_of (gaps qs)) → length qs ≡ n → end ≡ end_of 0 qs → now' ≡ put_before now n end q.raw.start → now' ≡ put_slots words 0 (map places_of (gaps (qs ++ q ∷ [])))
separators_more words now now' n end [] q was many at is = is ∙ (ap (λ v. put_before now v end q.raw.start) (sym many) ∙ was)
separators_more words now now' n end (x ∷ qs) q was many at is =
    let s : Separator = record { start = end; end = q.raw.start } in
    let some : 0 < n = omega (arith, many) in
    slots_more places_of words now now' (n - 1) (gaps (x ∷ qs)) s was (omega (arith, gaps_long x qs, many)) (is ∙ cond-true (ltb 0 n) (put_slot now (n - 1) (places_of s)) now (lt-ltb 0 n some))
    ∙ ap (λ l. put_slots words 0 (map places_of l)) (sym (gaps_more (x ∷ qs) q s (omega arith) at refl))

-- the words hold these queries and the separators between them, as far as they fit, and are those that were lent
pub record Written (before after : Slices) (qs : List SingleQuery) : Type 0 where
  pub same_queries : after.queries.ghost_name ≡ before.queries.ghost_name
  pub same_separators : after.separators.ghost_name ≡ before.separators.ghost_name
  pub queries : after.queries.now ≡ put_slots before.queries.now 0 (map words_of qs)
  pub separators : after.separators.now ≡ put_slots before.separators.now 0 (map places_of (gaps qs))

-- queries written one after another
write_all : (before a b : Slices) (n e : ℕ) (given qs : List SingleQuery) → length given ≡ n → e ≡ end_of 0 given → Written before a given → Taken Writes a n e qs b → Written before b (given ++ qs)
write_all before a b n e given [] many at h t = subst (Written before b) (sym (append-nil given)) (subst (λ x. Written before x given) t h)
write_all before a b n e given (q ∷ qs) many at h t =
    let c = t.0 in
    let p = t.1 in
    let next : Written before c (given ++ q ∷ []) = record {
      same_queries = p.same_queries ∙ h.same_queries;
      same_separators = p.same_separators ∙ h.same_separators;
      queries = slots_more words_of before.queries.now a.queries.now c.queries.now n given q h.queries many p.queries;
      separators = separators_more before.separators.now a.separators.now c.separators.now n e given q h.separators many at p.separators;
    } in
    subst (Written before b) (append_assoc given (q ∷ []) qs)
    (write_all before c b (n + 1) q.raw.end (given ++ q ∷ []) qs (length-append given (q ∷ []) ∙ ap (λ m. m + 1) many) (sym (end_more 0 given q)) next t.2)

-- the same from the first query on
pub written : (a b : Slices) (qs : List SingleQuery) → Taken Writes a 0 0 qs b → Written a b qs
written a b qs t = write_all a a b 0 0 [] qs refl refl (record { same_queries = refl; same_separators = refl; queries = refl; separators = refl }) t

-- words that were lent are afterwards what the borrower left in them
pub lent : (P : List ℕ → List ℕ → Type 0) (a x b y : List ℕ) → a ≡ x → b ≡ y → P x y → P a b
lent P a x b y d e p = subst (λ l. P l b) (sym d) (subst (P x) (sym e) p)
