-- One turn of a reading is one query of the reader.
use Rattle.std.proofs.Common.{◌≡◌, ℕ, zero, suc, ◌+◌, ◌-◌, ◌<◌, ◌≤◌, Bool, true, false, List, [], ◌∷◌, ◌++◌, length, drop, Some, None, Ok, Option, sym, refl, ap, ◌∙◌, subst, arith, length-append, length-drop, length-take}
use Rattle.grammar.specs.declared.query.SingleQuery.{SingleQuery}
use Rattle.grammar.specs.Form.{query, between, reads}
use Rattle.grammar.specs.Forms.{querying, missed, separating}
use Rattle.grammar.specs.Along.{queries}
use Rattle.grammar.specs.Readings.{Between, Turns, spelling}
use Rattle.grammar.proofs.Queries.{query_fits, separator_fits}
use Rattle.reader.specs.Steps.{found, query_at, at_first, behind, query_k}
use Rattle.reader.proofs.Stepping.{made, found_ok, first_ok, behind_ok}
use Rattle.replay.specs.Queries.{QueryTurn, joined, query_of, queries_of}

-- whether behind k queries a separator comes first
abbrev pub begun : ℕ → Bool
begun zero = false
begun (suc k) = true

between_long : (t : List ℕ) (p m : ℕ) → p ≤ m → m ≤ length t → p + length (between t p m) ≡ m
between_long t p m h l = omega (arith, length-take (m - p) (drop p t), length-drop p t)

between_fits : (b : Bool) (t : List ℕ) (p : ℕ) (link : Option Bool) (m : ℕ) → p ≤ length t → Between queries b t p link m → (p ≤ m) × (m ≤ length t)
between_fits false t p link m l h = (omega (arith, h.1), omega (arith, h.1))
between_fits true t p link m l h = let w = separator_fits t p h.0 m l h.2 in (omega (arith, w.0), w.1)

-- a turn goes on within the text, and its query is not empty
pub turn_fits : (u : QueryTurn) (us : List QueryTurn) (b : Bool) (t : List ℕ) (p q : ℕ) → p ≤ length t → (h : Turns queries b t p (u ∷ us) q) → (p ≤ h.0) × (h.0 < h.1) × (h.1 ≤ length t)
turn_fits u us b t p q l h =
    let w = between_fits b t p u.link h.0 l h.2 in
    let x = query_fits t h.0 u.value h.1 w.1 h.4 in
    (w.0, x.0, x.1)

-- the lengths of a turn's parts tell its places
pub turn_long : (u : QueryTurn) (us : List QueryTurn) (b : Bool) (t : List ℕ) (p q : ℕ) → p ≤ length t → (h : Turns queries b t p (u ∷ us) q) → (h.0 ≡ p + length u.sep) × (h.1 ≡ p + length u.sep + length u.raw)
turn_long u us b t p q l h =
    let w = turn_fits u us b t p q l h in
    let s : p + length u.sep ≡ h.0 = ap (λ x. p + length x) h.3 ∙ between_long t p h.0 w.0 (omega arith) in
    let e : h.0 + length u.raw ≡ h.1 = ap (λ x. h.0 + length x) h.5 ∙ between_long t h.0 h.1 (omega arith) w.2 in
    (sym s, omega (arith, s, e))

made_turn : (and : Bool) (s e p : ℕ) (u : QueryTurn) → and ≡ joined u.link → s ≡ p + length u.sep → e ≡ p + length u.sep + length u.raw → made and s e u.value ≡ query_of p u
made_turn and s e p u a b c = λ i. record { raw = record { start = b i; end = c i }; atom = u.value.1; negated = u.value.0; is_and = a i }

-- a turn behind k queries is query k
pub turn_query : (t : List ℕ) (k p q : ℕ) (u : QueryTurn) (us : List QueryTurn) → p ≤ length t → Turns queries (begun k) t p (u ∷ us) q → query_k t k p ≡ Ok (query_of p u)
turn_query t zero p q u us l h =
    let w = turn_long u us false t p q l h in
    let here : reads {k = query} querying t p ≡ Some (u.value, h.1) = ap (reads querying t) (sym h.2.1) ∙ h.4 in
    let s : p ≡ p + length u.sep = sym h.2.1 ∙ w.0 in
    ap (λ o. at_first (found false p (missed t p) o)) here ∙ ap Ok (made_turn false p h.1 p u (ap joined (sym h.2.0)) s w.1)
turn_query t (suc k) p q u us l h =
    let w = turn_long u us true t p q l h in
    let and = h.2.0 in
    ap (behind t p) h.2.2
    ∙ (ap (found and h.0 (missed t h.0)) h.4 ∙ ap Ok (made_turn and h.0 h.1 p u (ap joined (sym h.2.1)) w.0 w.1))

-- a turn at p that is the query q
abbrev pub TurnOf : List ℕ → ℕ → ℕ → SingleQuery → Type 0
TurnOf t k p q = (u : QueryTurn) × Turns queries (begun k) t p (u ∷ []) q.raw.end × (query_of p u ≡ q)

-- the turn of a query that is found at m behind p
turn_of : (t : List ℕ) (k p m : ℕ) (link : Option Bool) (q : SingleQuery) → p ≤ length t → Between queries (begun k) t p link m → query_at t (joined link) m ≡ Ok q → TurnOf t k p q
turn_of t k p m link q l b h =
    let f = found_ok (joined link) m (missed t m) (reads querying t m) q h in
    let u : QueryTurn = record { sep = between t p m; link = link; raw = between t m f.1; value = f.0 } in
    let c : Turns queries (begun k) t p (u ∷ []) f.1 = (m, f.1, b, refl, f.2, refl, refl) in
    let w = turn_long u [] (begun k) t p f.1 l c in
    let e : f.1 ≡ q.raw.end = ap (λ x. x.raw.end) f.3 in
    (u, subst (Turns queries (begun k) t p (u ∷ [])) e c, sym (made_turn (joined link) m f.1 p u refl w.0 w.1) ∙ f.3)

-- query k is a turn behind k queries
pub query_turn : (t : List ℕ) (k p : ℕ) (q : SingleQuery) → p ≤ length t → query_k t k p ≡ Ok q → TurnOf t k p q
query_turn t zero p q l h = turn_of t zero p p None q l (refl, refl) (first_ok (query_at t false p) q h)
query_turn t (suc k) p q l h =
    let w = behind_ok t p (reads separating t p) q h in
    turn_of t (suc k) p w.1 (Some w.0) q l (w.0, refl, w.2) w.3

-- the queries of turns and of further turns behind them
pub queries_append : (us ws : List QueryTurn) (p q : ℕ) → q ≡ p + length (spelling us) → queries_of p (us ++ ws) ≡ queries_of p us ++ queries_of q ws
queries_append [] ws p q e = let same : p ≡ q = omega arith in ap (λ n. queries_of n ws) same
queries_append (u ∷ us) ws p q e =
    let next : q ≡ p + length u.sep + length u.raw + length (spelling us) = omega (arith, e, length-append u.sep (u.raw ++ spelling us), length-append u.raw (spelling us)) in
    ap (λ l. query_of p u ∷ l) (queries_append us ws (p + length u.sep + length u.raw) q next)
