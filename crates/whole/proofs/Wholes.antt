-- From steps to the reading.
use Rattle.std.proofs.Common.{◌≡◌, ℕ, ◌+◌, ◌-◌, List, [], ◌∷◌, ◌++◌, map, length, Some, None, Ok, Err, Option, sym, refl, ap, subst, arith}
use Rattle.texts.specs.declared.cell.Cell.{Cell}
use Rattle.texts.specs.Codes.{codes}
use Rattle.texts.specs.Trim.{trimmed}
use Rattle.grammar.specs.declared.query.SingleQuery.{SingleQuery}
use Rattle.reader.specs.declared.refusal.Refusal.{Refusal}
use Rattle.reader.specs.declared.refusal.Refusal.TheVariants.{NoReading}
use Rattle.reader.specs.Start.{start_refusal}
use Rattle.replay.specs.Law.{Holds, giving}
use Rattle.replay.specs.Queries.{QueryTurn, queries_of}
use Rattle.replay.specs.Runs.{Does, gives, ends, lacks, Runs, none, more}
use Rattle.replay.proofs.Reading.{reads}
use Rattle.whole.specs.Slots.{gaps, gaps_from}
use Rattle.whole.specs.Walks.{closing, Walked, stopped}
use Rattle.whole.specs.Whole.{separators_from, separators_of}
use Rattle.whole.proofs.Slotting.{gaps_long}

-- steps that stopped with an answer
pub stopped_ok : (stop : Option ℕ) (m n : ℕ) → stopped stop m ≡ Ok n → (stop ≡ None) × (m ≡ n)
stopped_ok None m n h = (refl, cc)
stopped_ok (Some p) m n h = absurd (let z : ◌≡◌ {A = ℕ} 0 1 = cc in omega arith)

pub stopped_err : (stop : Option ℕ) (m : ℕ) (e : Refusal) → stopped stop m ≡ Err e → (p : ℕ) × (stop ≡ Some p) × (e ≡ NoReading p)
stopped_err None m e h = absurd (let z : ◌≡◌ {A = ℕ} 0 1 = cc in omega arith)
stopped_err (Some p) m e h = (p, refl, cc)

same_query : (t : List ℕ) (k j i : ℕ) (q q' : SingleQuery) → Does t k (giving q).call (giving q).answer j → Does t k (giving q').call (giving q').answer i → (q ≡ q') × (j ≡ i)
same_query t k j i q q' (gives l h) (gives l' h') = (cc, refl)

no_query : (t : List ℕ) (k j i : ℕ) (q : SingleQuery) (stop : Option ℕ) → Does t k (giving q).call (giving q).answer j → Does t k (closing stop).call (closing stop).answer i → ⊥
no_query t k j i q None (gives l h) (ends e) = omega arith
no_query t k j i q (Some m) (gives l h) (lacks l' h') = let z : ◌≡◌ {A = ℕ} 0 1 = cc in omega arith

same_stop : (t : List ℕ) (k j i : ℕ) (a b : Option ℕ) → Does t k (closing a).call (closing a).answer j → Does t k (closing b).call (closing b).answer i → a ≡ b
same_stop t k j i None None x y = refl
same_stop t k j i None (Some m) (ends e) (lacks l h) = absurd (omega arith)
same_stop t k j i (Some m) None (lacks l h) (ends e) = absurd (omega arith)
same_stop t k j i (Some m) (Some n) (lacks l h) (lacks l' h') = ap Some (cc)

-- stepping through a text has one outcome
runs_one : (t : List ℕ) (k m n : ℕ) (qs ps : List SingleQuery) (a b : Option ℕ) → Runs t k (map giving qs ++ closing a ∷ []) m → Runs t k (map giving ps ++ closing b ∷ []) n → (qs ≡ ps) × (a ≡ b)
runs_one t k m n [] [] a b (more x none) (more y none) = (refl, same_stop t k m n a b x y)
runs_one t k m n [] (p ∷ ps) a b (more x none) (more {m = j} y rest) = absurd (no_query t k j m p a y x)
runs_one t k m n (q ∷ qs) [] a b (more {m = j} x rest) (more y none) = absurd (no_query t k j n q b x y)
runs_one t k m n (q ∷ qs) (p ∷ ps) a b (more {m = j} x xs) (more {m = i} y ys) =
    let h = same_query t k j i q p x y in
    let w = runs_one t j m n qs ps a b xs (subst (λ v. Runs t v (map giving ps ++ closing b ∷ []) n) (sym h.1) ys) in
    (λ i. h.0 i ∷ w.0 i, w.1)

pub walked_one : (t : List ℕ) (qs ps : List SingleQuery) (a b : Option ℕ) → Walked t qs a → Walked t ps b → (qs ≡ ps) × (a ≡ b)
walked_one t qs ps a b x y = runs_one t 0 (length qs) (length ps) qs ps a b x y

-- the queries of a reading, as stepping gives them
pub reading_walk : (cells : List Cell) (us : List QueryTurn) → Holds cells us → Walked (codes (trimmed cells)) (queries_of 0 us) None
reading_walk cells us h = ((reads cells).0 us h).steps

pub walk_reading : (cells : List Cell) (qs : List SingleQuery) → start_refusal cells ≡ Ok tt → Walked (codes (trimmed cells)) qs None → (us : List QueryTurn) × Holds cells us × (queries_of 0 us ≡ qs)
walk_reading cells qs a w = (reads cells).1 qs (record { accepted = a; steps = w })

pub queries_long : (p : ℕ) (us : List QueryTurn) → length (queries_of p us) ≡ length us
queries_long p [] = refl
queries_long p (u ∷ us) = omega (arith, queries_long (p + length u.sep + length u.raw) us)

-- what stands between the raws of a reading are its separators
gaps_from_lem : (p : ℕ) (us : List QueryTurn) → gaps_from p (queries_of p us) ≡ separators_from p us
gaps_from_lem p [] = refl
gaps_from_lem p (u ∷ us) = ap (λ l. record { start = p; end = p + length u.sep } ∷ l) (gaps_from_lem (p + length u.sep + length u.raw) us)

pub gaps_are : (us : List QueryTurn) → gaps (queries_of 0 us) ≡ separators_of us
gaps_are [] = refl
gaps_are (u ∷ us) = gaps_from_lem (0 + length u.sep + length u.raw) us

pub gaps_count : (qs : List SingleQuery) → length (gaps qs) ≡ length qs - 1
gaps_count [] = refl
gaps_count (q ∷ qs) = omega (arith, gaps_long q qs)
