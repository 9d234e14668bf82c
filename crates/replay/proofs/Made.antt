-- What each call makes of a reader that stands, and one call more.
use Rattle.std.proofs.Common.{◌≡◌, ℕ, zero, suc, ◌+◌, ◌-◌, ◌<◌, ◌≤◌, max, leb, List, [], ◌∷◌, ◌++◌, map, length, get_or, take, set, None, Ok, Err, Option, Result, sym, refl, ap, ◌∙◌, subst, add-one, arith}
use Rattle.std.proofs.lemmas.Bool.{cond_both, leb-true, leb-false}
use Rattle.std.proofs.lemmas.List.{take_more_set}
use Rattle.grammar.specs.declared.query.SingleQuery.{SingleQuery}
use Rattle.reader.specs.declared.refusal.Refusal.{Refusal}
use Rattle.reader.specs.declared.refusal.Refusal.TheVariants.{AtStart}
use Rattle.reader.specs.Steps.{query_k, answered, stepped, place_after, count_after, place_of, backed, place_back}
use Rattle.reader.proofs.Stepping.{next_end}
use Rattle.reader.proofs.Places.{place_fits, place_next}
use Rattle.replay.specs.declared.calls.Call.{Call}
use Rattle.replay.specs.declared.calls.Call.TheVariants.{Step, StepBack, StartOver, Place}
use Rattle.replay.specs.declared.calls.Answer.{Answer}
use Rattle.replay.specs.declared.calls.Answer.TheVariants.{Given, Refused, Moved, Anew, At}
use Rattle.replay.specs.declared.calls.Exchange.{Exchange}
use Rattle.replay.specs.Calls.{call_of, step_told, back_told}
use Rattle.replay.specs.Runs.{Does, gives, ends, lacks, backs, stays, restarts, tells, Runs, none, more, Begun, Stands, Asked}

-- no raw is empty
begun_le : (t : List ℕ) (k : ℕ) → Begun t k → k ≤ place_of t k
begun_le t zero b = omega arith
begun_le t (suc k) b =
    omega (arith, begun_le t k b.0, (next_end t k (place_of t k) b.1 (place_fits t k) b.2).0, place_next t k b.1 b.2)

-- a call is answered so, and then the reader stands so
abbrev Makes : List ℕ → ℕ → Call → Answer → ℕ → ℕ → Type 0
Makes t k c r m q = Does t k c r m × Stands t m q

-- a step that gives r
abbrev After : List ℕ → ℕ → Result (Option SingleQuery) Refusal → Type 0
After t k r = Makes t k Step (step_told r) (count_after r k) (place_after r (place_of t k))

answered_makes : (t : List ℕ) (k : ℕ) → Begun t k → place_of t k < length t → (x : Result SingleQuery ℕ) → query_k t k (place_of t k) ≡ x → After t k (answered x)
answered_makes t k b l (Ok q) h =
    subst (λ m. Makes t k Step (Given q) m q.raw.end) (sym (add-one k))
    (gives l h, (sym (place_next t k q h), (b, q, h)))
answered_makes t k b l (Err m) h = (lacks l h, (refl, b))

stepped_makes : (t : List ℕ) (k : ℕ) → Begun t k → After t k (stepped t k (place_of t k))
stepped_makes t k b =
    cond_both (leb (length t) (place_of t k)) (Ok None) (answered (query_k t k (place_of t k))) (After t k)
    (λ e. (ends (omega (arith, place_fits t k, leb-true (length t) (place_of t k) e)), (refl, b)))
    (λ e. answered_makes t k b (omega (arith, leb-false (length t) (place_of t k) e)) (query_k t k (place_of t k)) refl)

makes_step : (t : List ℕ) (k p : ℕ) (r : Result (Option SingleQuery) Refusal) (m q : ℕ) → Stands t k p → r ≡ stepped t k p → m ≡ count_after r k → q ≡ place_after r p → Makes t k Step (step_told r) m q
makes_step t k p r m q st er em eq =
    let same : stepped t k (place_of t k) ≡ r = ap (stepped t k) (sym st.0) ∙ sym er in
    let at : After t k r = subst (After t k) same (stepped_makes t k st.1) in
    let moved : q ≡ place_after r (place_of t k) = eq ∙ ap (place_after r) st.0 in
    subst (λ n. Makes t k Step (step_told r) n q) (sym em) (subst (λ n. Makes t k Step (step_told r) (count_after r k) n) (sym moved) at)

makes_back : (t : List ℕ) (k p : ℕ) (r : Result (Unit {0}) Refusal) (m q : ℕ) → Stands t k p → r ≡ backed k → m ≡ k - 1 → q ≡ place_back t k p → Makes t k StepBack (back_told r) m q
makes_back t zero p r m q st er em eq =
    subst (λ a. Makes t zero StepBack (back_told a) m q) (sym er) (subst (λ n. Makes t zero StepBack (Refused AtStart) n q) (sym em) (stays, (eq ∙ st.0, tt)))
makes_back t (suc k) p r m q st er em eq =
    let less : suc k - 1 ≡ k = omega arith in
    let big : max (place_of t k) k ≡ place_of t k = omega (arith, begun_le t k st.1.0) in
    subst (λ a. Makes t (suc k) StepBack (back_told a) m q) (sym er) (subst (λ n. Makes t (suc k) StepBack Moved n q) (sym (em ∙ less)) (backs, (eq ∙ big, st.1.0)))

makes_over : (t : List ℕ) (k m q : ℕ) → m ≡ 0 → q ≡ 0 → Makes t k StartOver Anew m q
makes_over t k m q em eq = subst (λ n. Makes t k StartOver Anew n q) (sym em) (restarts, (eq, tt))

makes_place : (t : List ℕ) (k p r : ℕ) → Stands t k p → r ≡ p → Makes t k Place (At r) k p
makes_place t k p r st er = (tells (sym (er ∙ st.0)), st)

asked : {t : List ℕ} {k p : ℕ} {c d : Call} {r : Answer} {m q : ℕ} → d ≡ c → (Stands t k p → Makes t k c r m q) → Asked t k p d r m q
asked {t} {k} {p} {c} {d} {r} {m} {q} e h = record { does = λ st. subst (λ x. Does t k x r m) (sym e) (h st).0; stands = λ st. (h st).1 }

pub asked_step : {t : List ℕ} {k p : ℕ} {c : Call} {r : Result (Option SingleQuery) Refusal} {a : Answer} {m q : ℕ} → c ≡ Step → a ≡ step_told r → r ≡ stepped t k p → m ≡ count_after r k → q ≡ place_after r p → Asked t k p c a m q
asked_step {t} {k} {p} {c} {r} {a} {m} {q} ec ea er em eq =
    asked ec (λ st. subst (λ x. Makes t k Step x m q) (sym ea) (makes_step t k p r m q st er em eq))

pub asked_back : {t : List ℕ} {k p : ℕ} {c : Call} {r : Result (Unit {0}) Refusal} {a : Answer} {m q : ℕ} → c ≡ StepBack → a ≡ back_told r → r ≡ backed k → m ≡ k - 1 → q ≡ place_back t k p → Asked t k p c a m q
asked_back {t} {k} {p} {c} {r} {a} {m} {q} ec ea er em eq =
    asked ec (λ st. subst (λ x. Makes t k StepBack x m q) (sym ea) (makes_back t k p r m q st er em eq))

pub asked_over : {t : List ℕ} {k p : ℕ} {c : Call} {m q : ℕ} → c ≡ StartOver → m ≡ 0 → q ≡ 0 → Asked t k p c Anew m q
asked_over {t} {k} {p} {c} {m} {q} ec em eq = asked ec (λ st. makes_over t k m q em eq)

pub asked_place : {t : List ℕ} {k p : ℕ} {c : Call} {r : ℕ} → c ≡ Place → r ≡ p → Asked t k p c (At r) k p
asked_place {t} {k} {p} {c} {r} ec er = asked ec (λ st. makes_place t k p r st er)

-- what each call makes of its reader
pub ruleset asked_call = (asked_step, asked_back, asked_over, asked_place)

-- one exchange more
pub runs_more : {t : List ℕ} {k m n : ℕ} {xs : List Exchange} {x : Exchange} → Runs t k xs m → Does t m x.call x.answer n → Runs t k (xs ++ x ∷ []) n
runs_more none d = more d none
runs_more (more e rest) d = more e (runs_more rest d)

pub runs_further : (t : List ℕ) (xs : List Exchange) (i m n : ℕ) (x : Exchange) → i < length xs → Runs t 0 (take i xs) m → Does t m x.call x.answer n → Runs t 0 (take (i + 1) (set xs i x)) n
runs_further t xs i m n x h run does = subst (λ l. Runs t 0 l n) (sym (take_more_set xs i x h)) (runs_more run does)

-- an answer beside its call leaves the calls as they were
pub calls_same : (xs : List Exchange) (i : ℕ) (d x : Exchange) → x.call ≡ (get_or xs i d).call → map call_of (set xs i x) ≡ map call_of xs
calls_same [] i d x e = refl
calls_same (y ∷ ys) zero d x e = ap (λ c. c ∷ map call_of ys) e
calls_same (y ∷ ys) (suc i) d x e = ap (λ l. y.call ∷ l) (calls_same ys i d x e)
