-- The queries before a place are turns, and a reading is what stepping gives.
use Rattle.std.proofs.Common.{◌≡◌, ℕ, zero, suc, ◌+◌, ◌-◌, ◌≤◌, Bool, true, false, List, [], ◌∷◌, ◌++◌, map, length, drop, Ok, sym, refl, ap, ◌∙◌, subst, append_assoc, arith, length-append, length-drop}
use Rattle.std.proofs.lemmas.List.{drop-drop, take-append-drop, map-append}
use Rattle.texts.specs.declared.cell.Cell.{Cell}
use Rattle.texts.specs.Codes.{codes}
use Rattle.texts.specs.Trim.{trimmed}
use Rattle.grammar.specs.declared.query.SingleQuery.{SingleQuery}
use Rattle.grammar.specs.Form.{between}
use Rattle.grammar.specs.Along.{queries}
use Rattle.grammar.specs.Readings.{Turns, spelling}
use Rattle.grammar.proofs.Moved.{query_single}
use Rattle.reader.specs.Steps.{query_k, place_of}
use Rattle.reader.proofs.Stepping.{next_end}
use Rattle.reader.proofs.Places.{place_fits, place_next}
use Rattle.replay.specs.Runs.{gives, ends, Runs, none, more, Begun}
use Rattle.replay.specs.Queries.{QueryTurn, query_of, queries_of}
use Rattle.replay.specs.Law.{Spelt, giving, ending, Reads, Once}
use Rattle.replay.proofs.Starting.{accepted_readable, readable_accepted}
use Rattle.replay.proofs.Made.{runs_more}
use Rattle.replay.proofs.Turning.{begun, turn_fits, turn_long, turn_query, query_turn, queries_append}

-- one turn more
turns_push : (us : List QueryTurn) (j k : ℕ) (t : List ℕ) (p q e : ℕ) (u : QueryTurn) → j ≡ k + length us → Turns queries (begun k) t p us q → Turns queries (begun j) t q (u ∷ []) e → Turns queries (begun k) t p (us ++ u ∷ []) e
turns_push [] j k t p q e u ej h c =
    let same : j ≡ k = omega arith in
    subst (λ x. Turns queries (begun k) t x (u ∷ []) e) (sym h) (subst (λ n. Turns queries (begun n) t q (u ∷ []) e) same c)
turns_push (v ∷ us) j k t p q e u ej h c =
    let next : j ≡ suc k + length us = omega arith in
    (h.0, h.1, h.2, h.3, h.4, h.5, turns_push us j (suc k) t h.1 q e u next h.6 c)

between_rest : (t : List ℕ) (p m : ℕ) → p ≤ m → between t p m ++ drop m t ≡ drop p t
between_rest t p m h =
    let off : drop (m - p) (drop p t) ≡ drop m t = drop-drop (m - p) p t ∙ ap (λ n. drop n t) (omega arith) in
    ap (λ l. between t p m ++ l) (sym off) ∙ take-append-drop (m - p) (drop p t)

-- turns and what stands behind them spell what stands from their place on
spells_from : (us : List QueryTurn) (b : Bool) (t : List ℕ) (p q : ℕ) → p ≤ length t → Turns queries b t p us q → spelling us ++ drop q t ≡ drop p t
spells_from [] b t p q l h = ap (λ n. drop n t) (sym h)
spells_from (u ∷ us) b t p q l h =
    let w = turn_fits u us b t p q l h in
    let rest = spells_from us true t h.1 q w.2 h.6 in
    let raw : u.raw ++ (spelling us ++ drop q t) ≡ drop h.0 t = (λ i. h.5 i ++ rest i) ∙ between_rest t h.0 h.1 (omega arith) in
    append_assoc u.sep (u.raw ++ spelling us) (drop q t)
    ∙ (ap (λ l. u.sep ++ l) (append_assoc u.raw (spelling us) (drop q t))
    ∙ ((λ i. h.3 i ++ raw i) ∙ between_rest t p h.0 w.0))

-- the place is behind what the turns before it spell
spelt_long : (us : List QueryTurn) (t : List ℕ) (q : ℕ) → q ≤ length t → spelling us ++ drop q t ≡ t → q ≡ 0 + length (spelling us)
spelt_long us t q l e = omega (arith, ap length e, length-append (spelling us) (drop q t), length-drop q t)

-- the queries of one turn more
steps_push : (us : List QueryTurn) (u : QueryTurn) (p : ℕ) (q : SingleQuery) → p ≡ 0 + length (spelling us) → query_of p u ≡ q → map giving (queries_of 0 (us ++ u ∷ [])) ≡ map giving (queries_of 0 us) ++ giving q ∷ []
steps_push us u p q e h =
    ap (map giving) (queries_append us (u ∷ []) 0 p e)
    ∙ (map-append giving (queries_of 0 us) (query_of p u ∷ []) ∙ ap (λ x. map giving (queries_of 0 us) ++ giving x ∷ []) h)

spelt_more : (t : List ℕ) (k : ℕ) (q : SingleQuery) → query_k t k (place_of t k) ≡ Ok q → Spelt t k → Spelt t (suc k)
spelt_more t k q h w =
    let p = place_of t k in
    let c = query_turn t k p q (place_fits t k) h in
    let us = w.turns ++ c.0 ∷ [] in
    let n : k ≡ 0 + length w.turns = omega (arith, w.count) in
    let b = next_end t k p q (place_fits t k) h in
    let stand = subst (Turns queries false t 0 us) (sym (place_next t k q h)) (turns_push w.turns k 0 t 0 p q.raw.end c.0 n w.stand c.1) in
    let steps = steps_push w.turns c.0 p q (spelt_long w.turns t p (place_fits t k) w.spell) c.2 in
    record {
      turns = us;
      count = omega (arith, w.count, length-append w.turns (c.0 ∷ []));
      stand = stand;
      spell = spells_from us false t 0 (place_of t (suc k)) (omega arith) stand;
      given = subst (λ l. Runs t 0 l (suc k)) (sym steps) (runs_more w.given (gives (omega (arith, b.0, b.1)) h));
    }

pub spelt : (t : List ℕ) (k : ℕ) → Begun t k → Spelt t k
spelt t zero b = record { turns = []; count = refl; stand = refl; spell = refl; given = none }
spelt t (suc k) b = spelt_more t k b.1 b.2 (spelt t k b.0)

reading_steps : (us : List QueryTurn) (t : List ℕ) (k p m : ℕ) → p ≡ place_of t k → m ≡ k + length (queries_of p us) → Turns queries (begun k) t p us (length t) → Runs t k (map giving (queries_of p us) ++ ending ∷ []) m
reading_steps [] t k p m ep em h =
    let same : k ≡ m = omega arith in
    subst (Runs t k (ending ∷ [])) same (more (ends (sym ep ∙ h)) none)
reading_steps (u ∷ us) t k p m ep em h =
    let l : p ≤ length t = omega (arith, ep, place_fits t k) in
    let w = turn_fits u us (begun k) t p (length t) l h in
    let e = p + length u.sep + length u.raw in
    let asked : query_k t k (place_of t k) ≡ Ok (query_of p u) = ap (query_k t k) (sym ep) ∙ turn_query t k p (length t) u us l h in
    more (gives (omega (arith, ep, w.0, w.1, w.2)) asked)
    (reading_steps us t (suc k) e m (sym (place_next t k (query_of p u) asked)) (omega (arith, em)) (subst (λ x. Turns queries true t x us (length t)) (turn_long u us (begun k) t p (length t) l h).1 h.6))

steps_reading : (qs : List SingleQuery) (t : List ℕ) (k p m : ℕ) → p ≡ place_of t k → Runs t k (map giving qs ++ ending ∷ []) m → (us : List QueryTurn) × Turns queries (begun k) t p us (length t) × (queries_of p us ≡ qs)
steps_reading [] t k p m ep (more (ends e) none) = ([], ep ∙ e, refl)
steps_reading (q ∷ qs) t k p m ep (more (gives lt h) rest) =
    let c = query_turn t k p q (omega (arith, ep, lt)) (ap (query_k t k) ep ∙ h) in
    let u = c.0 in
    let e = p + length u.sep + length u.raw in
    let at : e ≡ q.raw.end = ap (λ x. x.raw.end) c.2 in
    let w = steps_reading qs t (suc k) e m (at ∙ sym (place_next t k q h)) rest in
    let d = c.1 in
    let behind : Turns queries true t d.1 w.0 (length t) = subst (λ x. Turns queries true t x w.0 (length t)) (at ∙ sym d.6) w.1 in
    (u ∷ w.0, (d.0, d.1, d.2, d.3, d.4, d.5, behind), λ i. c.2 i ∷ w.2 i)

pub reads : (cells : List Cell) → Reads cells
reads cells =
    let t = codes (trimmed cells) in (
      λ us h. record {
        accepted = readable_accepted cells h.readable;
        steps = reading_steps us t 0 0 (length (queries_of 0 us)) refl (omega arith) h.reading;
      },
      λ qs s. let r = steps_reading qs t 0 0 (length qs) refl s.steps in
          (r.0, record { readable = accepted_readable cells s.accepted; reading = r.1 }, r.2),
    )

pub one : (cells : List Cell) → Once cells
one cells us vs h k = query_single (codes (trimmed cells)) us vs h.reading k.reading
