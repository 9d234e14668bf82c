-- Stepping through a text, a step at a time.
use Rattle.std.proofs.Common.{◌≡◌, ℕ, ◌+◌, List, [], ◌∷◌, ◌++◌, map, length, Some, None, Ok, Err, Option, Result, sym, refl, ap, ◌∙◌, subst, add-zero, arith, length-append}
use Rattle.std.proofs.lemmas.List.{map_push}
use Rattle.grammar.specs.declared.query.SingleQuery.{SingleQuery}
use Rattle.reader.specs.declared.refusal.Refusal.{Refusal}
use Rattle.reader.specs.declared.refusal.Refusal.TheVariants.{NoReading}
use Rattle.reader.specs.Standing.{Standing}
use Rattle.reader.specs.Steps.{stepped, count_after, place_after}
use Rattle.replay.specs.declared.calls.Call.TheVariants.{Step}
use Rattle.replay.specs.declared.calls.Answer.TheVariants.{Refused}
use Rattle.replay.specs.Calls.{step_told}
use Rattle.replay.specs.Law.{giving}
use Rattle.replay.specs.Runs.{Does, lacks, Runs, none, Stands, Asked}
use Rattle.replay.proofs.Made.{asked_step, runs_more}
use Rattle.whole.specs.Slots.{end_of}
use Rattle.whole.specs.Walks.{closing, Walked, Taken, Walks}
use Rattle.whole.proofs.Slotting.{end_more}

-- steps from the start gave these queries, the reader of t stands behind them, and the sink took them
pub record Sofar {S : Type 0} (takes : S → ℕ → ℕ → SingleQuery → S → Type 0) (t : List ℕ) (reader : Standing) (before now : S) : Type 0 where
  pub given : List SingleQuery
  pub codes : reader.codes ≡ t
  pub stands : Stands t reader.k reader.place
  pub runs : Runs t 0 (map giving given) reader.k
  pub many : length given ≡ reader.k
  pub place : reader.place ≡ end_of 0 given
  pub taken : Taken takes before 0 0 given now

-- a reader at its start
pub sofar_none : {S : Type 0} (takes : S → ℕ → ℕ → SingleQuery → S → Type 0) (t : List ℕ) (r : Standing) (s : S) → r.codes ≡ t → r.k ≡ 0 → r.place ≡ 0 → Sofar takes t r s s
sofar_none takes t r s et ek ep =
    record {
      given = [];
      codes = et;
      stands = subst (λ n. Stands t n r.place) (sym ek) (ep, tt);
      runs = subst (Runs t 0 []) (sym ek) none;
      many = sym ek;
      place = ep;
      taken = refl;
    }

-- one query more is taken
taken_more : {S : Type 0} (takes : S → ℕ → ℕ → SingleQuery → S → Type 0) (a b c : S) (n e : ℕ) (qs : List SingleQuery) (q : SingleQuery) → Taken takes a n e qs b → takes b (n + length qs) (end_of e qs) q c → Taken takes a n e (qs ++ q ∷ []) c
taken_more takes a b c n e [] q h t = (c, subst (λ x. takes x n e q c) (sym h) (subst (λ m. takes b m e q c) (add-zero n) t), refl)
taken_more takes a b c n e (x ∷ qs) q h t =
    let next : n + length (x ∷ qs) ≡ (n + 1) + length qs = omega arith in
    (h.0, h.1, taken_more takes h.0 b c (n + 1) x.raw.end qs q h.2 (subst (λ m. takes b m (end_of x.raw.end qs) q c) next t))

-- what a step of such a reader answers, as a call
does : {S : Type 0} (takes : S → ℕ → ℕ → SingleQuery → S → Type 0) (t : List ℕ) (r : Standing) (before now : S) (answer : Result (Option SingleQuery) Refusal) → Sofar takes t r before now → answer ≡ stepped r.codes r.k r.place → (k p : ℕ) → k ≡ count_after answer r.k → p ≡ place_after answer r.place → Does t r.k Step (step_told answer) k × Stands t k p
does takes t r before now answer s er k p ek ep =
    let a : Asked t r.k r.place Step (step_told answer) k p = asked_step {r = answer} refl refl (er ∙ ap (λ l. stepped l r.k r.place) s.codes) ek ep in
    (a.does s.stands, a.stands s.stands)

-- a step gave a query, and the sink took it
pub sofar_more : {S : Type 0} (takes : S → ℕ → ℕ → SingleQuery → S → Type 0) (t : List ℕ) (r r' : Standing) (before now now' : S) (q : SingleQuery) → Sofar takes t r before now → Ok (Some q) ≡ stepped r.codes r.k r.place → r'.codes ≡ r.codes → r'.k ≡ r.k + 1 → r'.place ≡ q.raw.end → takes now r.k r.place q now' → Sofar takes t r' before now'
sofar_more takes t r r' before now now' q s er et ek ep took =
    let d = does takes t r before now (Ok (Some q)) s er r'.k r'.place ek ep in
    let all : r.k ≡ 0 + length s.given = omega (arith, s.many) in
    record {
      given = s.given ++ q ∷ [];
      codes = et ∙ s.codes;
      stands = d.1;
      runs = subst (λ l. Runs t 0 l r'.k) (sym (map_push giving s.given q)) (runs_more s.runs d.0);
      many = omega (arith, length-append s.given (q ∷ []), s.many, ek);
      place = ep ∙ sym (end_more 0 s.given q);
      taken = taken_more takes before now now' 0 0 s.given q s.taken (subst (λ m. takes now m (end_of 0 s.given) q now') all (subst (λ x. takes now r.k x q now') s.place took));
    }

-- "end" or a refusal leaves the reader where it is
stops : {S : Type 0} (takes : S → ℕ → ℕ → SingleQuery → S → Type 0) (t : List ℕ) (r : Standing) (before now : S) (s : Sofar takes t r before now) (stop : Option ℕ) → Does t r.k Step (closing stop).answer r.k → Walked t s.given stop
stops takes t r before now s None d = subst (Runs t 0 (map giving s.given ++ closing None ∷ [])) (sym s.many) (runs_more s.runs d)
stops takes t r before now s (Some m) d = subst (Runs t 0 (map giving s.given ++ closing (Some m) ∷ [])) (sym s.many) (runs_more s.runs d)

pub sofar_end : {S : Type 0} (takes : S → ℕ → ℕ → SingleQuery → S → Type 0) (t : List ℕ) (r : Standing) (before now : S) (n : ℕ) → Sofar takes t r before now → Ok None ≡ stepped r.codes r.k r.place → n ≡ r.k → Walks takes t (record { given = n; refusal = None }) before now
sofar_end takes t r before now n s er en =
    record {
      given = s.given;
      stop = None;
      walk = stops takes t r before now s None (does takes t r before now (Ok None) s er r.k r.place refl refl).0;
      many = en ∙ sym s.many;
      answer = ap Ok (en ∙ sym s.many);
      taken = s.taken;
    }

-- a step of a reader that stands refuses only what is missed
missed_at : (t : List ℕ) (k m : ℕ) (e : Refusal) → Does t k Step (Refused e) m → (p : ℕ) × (e ≡ NoReading p)
missed_at t k m e (lacks {m = p} l h) = (p, refl)

pub sofar_lack : {S : Type 0} (takes : S → ℕ → ℕ → SingleQuery → S → Type 0) (t : List ℕ) (r : Standing) (before now : S) (n : ℕ) (e : Refusal) → Sofar takes t r before now → Err e ≡ stepped r.codes r.k r.place → n ≡ r.k → Walks takes t (record { given = n; refusal = Some e }) before now
sofar_lack takes t r before now n e s er en =
    let d = (does takes t r before now (Err e) s er r.k r.place refl refl).0 in
    let w = missed_at t r.k r.k e d in
    record {
      given = s.given;
      stop = Some w.0;
      walk = stops takes t r before now s (Some w.0) (subst (λ x. Does t r.k Step (Refused x) r.k) w.1 d);
      many = en ∙ sym s.many;
      answer = ap Err w.1;
      taken = s.taken;
    }
