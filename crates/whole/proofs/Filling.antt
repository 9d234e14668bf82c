-- Slots filled with a reading, or left alone.
use Rattle.std.proofs.Common.{◌≡◌, ℕ, ◌-◌, ◌≤◌, Bool, true, false, cond, leb, List, ◌++◌, length, drop, Some, None, Ok, Err, Option, Result, sym, refl, ap, ◌∙◌, subst, arith, MatchResult}
use Rattle.std.proofs.lemmas.Bool.{both_ways, leb-true}
use Rattle.texts.specs.declared.cell.Cell.{Cell}
use Rattle.texts.specs.Codes.{codes}
use Rattle.texts.specs.Trim.{trimmed}
use Rattle.grammar.specs.declared.query.SingleQuery.{SingleQuery}
use Rattle.reader.specs.declared.refusal.Refusal.{Refusal}
use Rattle.reader.specs.Standing.{Standing}
use Rattle.reader.specs.Start.{start_refusal}
use Rattle.whole.specs.declared.refusal.WholeRefusal.{WholeRefusal}
use Rattle.whole.specs.declared.refusal.WholeRefusal.TheVariants.{OfText}
use Rattle.replay.specs.Law.{Holds}
use Rattle.replay.specs.Queries.{QueryTurn, queries_of}
use Rattle.replay.proofs.Starting.{refused_unreadable}
use Rattle.whole.specs.declared.reading.Reading.{Reading}
use Rattle.whole.specs.declared.walk.Walk.{Walk}
use Rattle.whole.specs.Slots.{gaps}
use Rattle.whole.specs.Takes.{Puts}
use Rattle.whole.specs.Walks.{Walked, ended_by, answer_of, Walks, Unstarted, Counted}
use Rattle.whole.specs.Whole.{unstarted, missed, Barred, Counts, enough, Filled, Fits, Why, barred}
use Rattle.whole.proofs.Putting.{Cleared, put_given}
use Rattle.whole.proofs.Wholes.{stopped_ok, stopped_err, walked_one, reading_walk, walk_reading, queries_long, gaps_are, gaps_count}

pub barred_start : (cells : List Cell) (e : Refusal) → start_refusal cells ≡ Err e → Barred cells e
barred_start cells e h = record { why = unstarted h; none = λ us r. refused_unreadable cells e h r.readable }

-- steps that stopped short
pub barred_short : (cells : List Cell) (t : List ℕ) (r : Result ℕ Refusal) (e : Refusal) → start_refusal cells ≡ Ok tt → t ≡ codes (trimmed cells) → Counted t r → r ≡ Err e → Barred cells e
barred_short cells t r e a et c h =
    let s = stopped_err c.stop (length c.given) e (sym c.answer ∙ h) in
    let w : Walked (codes (trimmed cells)) c.given (Some s.0) = subst (λ x. Walked x c.given (Some s.0)) et (subst (Walked t c.given) s.1 c.walk) in
    subst (Barred cells) (sym s.2) (record { why = missed c.given a w; none = λ us r. clash us r s.0 w })
  where
    clash : (us : List QueryTurn) → Holds cells us → (m : ℕ) → Walked (codes (trimmed cells)) c.given (Some m) → ⊥
    clash us r m w =
        let z = (walked_one (codes (trimmed cells)) (queries_of 0 us) c.given None (Some m) (reading_walk cells us r) w).1 in
        let y : ◌≡◌ {A = ℕ} 0 1 = cc in
        omega arith

-- the reading that all steps gave
pub counted_reading : (cells : List Cell) (t : List ℕ) (r : Result ℕ Refusal) (n : ℕ) → start_refusal cells ≡ Ok tt → t ≡ codes (trimmed cells) → Counted t r → r ≡ Ok n → Counts cells n
counted_reading cells t r n a et c h =
    let s = stopped_ok c.stop (length c.given) n (sym c.answer ∙ h) in
    let w : Walked (codes (trimmed cells)) c.given None = subst (λ x. Walked x c.given None) et (subst (Walked t c.given) s.0 c.walk) in
    let u = walk_reading cells c.given a w in
    record { turns = u.0; holds = u.1; own = sym s.1 ∙ (ap length (sym u.2) ∙ queries_long 0 u.0) }

-- steps through a text that has a reading give its queries
pub walk_counts : (cells : List Cell) (t : List ℕ) (n : ℕ) (u : Counts cells n) (qs : List SingleQuery) (stop : Option ℕ) → t ≡ codes (trimmed cells) → Walked t qs stop → (qs ≡ queries_of 0 u.turns) × (stop ≡ None) × (length qs ≡ n)
walk_counts cells t n u qs stop et walk =
    let w = walked_one (codes (trimmed cells)) qs (queries_of 0 u.turns) stop None (subst (λ x. Walked x qs stop) et walk) (reading_walk cells u.turns u.holds) in
    (w.0, w.1, ap length w.0 ∙ (queries_long 0 u.turns ∙ sym u.own))

-- what fits
pub enough_room : (slots between n : ℕ) → enough slots between n ≡ true → (n ≤ slots) × (n - 1 ≤ between)
enough_room slots between n h = split (leb n slots) refl h
  where
    split : (b : Bool) → leb n slots ≡ b → cond b (leb (n - 1) between) false ≡ true → (n ≤ slots) × (n - 1 ≤ between)
    split true e h = (leb-true n slots e, leb-true (n - 1) between h)
    split false e h = absurd (both_ways false refl h)

-- the first slots hold the reading, where the lists were cleared first
pub filled : (cells : List Cell) (slots between n : ℕ) (reader : Standing) (w : Walk) (before cleared after : Reading) → slots ≡ length before.queries.slots.now → between ≡ length before.separators.slots.now → Fits cells slots between reader n → Cleared before cleared → Walks Puts reader.codes w cleared after → Filled cells before after n
filled cells slots between n reader w before cleared after es eb f z g =
    let room : enough (length before.queries.slots.now) (length before.separators.slots.now) n ≡ true = (λ i. enough (sym es i) (sym eb i) n) ∙ f.room in
    let l = enough_room (length before.queries.slots.now) (length before.separators.slots.now) n room in
    let x = walk_counts cells reader.codes n f.counts g.given g.stop f.codes g.walk in
    let d : length (gaps g.given) ≡ n - 1 = gaps_count g.given ∙ ap (λ m. m - 1) x.2 in
    let h = put_given before cleared after g.given z g.taken in
    record {
      counts = f.counts;
      fits = room;
      queries = h.queries.filled (omega (arith, l.0, x.2)) ∙ (λ i. x.0 i ++ drop (x.2 i) before.queries.slots.now);
      count = h.queries.count (omega (arith, l.0, x.2)) ∙ x.2;
      separators = h.separators.filled (omega (arith, l.1, d)) ∙ (λ i. (ap gaps x.0 ∙ gaps_are f.counts.turns) i ++ drop (d i) before.separators.slots.now);
      less = h.separators.count (omega (arith, l.1, d)) ∙ d;
    }

-- a text that is refused for what it is, at the exit of a `?`
pub refused : {V : Type 0} (P : V → Type 0) (cells : List Cell) (slots between : ℕ) (r : Result V WholeRefusal) (x : WholeRefusal) (e : Refusal) → r ≡ Err x → x ≡ OfText e → Barred cells e → MatchResult r P (Why cells slots between)
refused P cells slots between r x e was is b = subst (λ y. MatchResult y P (Why cells slots between)) (sym (was ∙ ap Err is)) (barred b)

-- what counting answers, from the start of a text on which a reading can start
counted_from : (cells : List Cell) (t : List ℕ) (r : Result ℕ Refusal) → start_refusal cells ≡ Ok tt → t ≡ codes (trimmed cells) → Counted t r → MatchResult r (Counts cells) (Barred cells)
counted_from cells t (Ok n) a et c = counted_reading cells t (Ok n) n a et c refl
counted_from cells t (Err e) a et c = barred_short cells t (Err e) e a et c refl

-- the same of any text
pub counted : {S : Type 0} (takes : S → ℕ → ℕ → SingleQuery → S → Type 0) (cells : List Cell) (w : Walk) (a b : S) (o : Result (Unit {0}) Refusal) → start_refusal cells ≡ o → MatchResult o (λ _. Walks takes (codes (trimmed cells)) w a b) (λ e. Unstarted e w a b) → MatchResult (answer_of w) (Counts cells) (Barred cells)
counted takes cells w a b (Ok x) h g = counted_from cells (codes (trimmed cells)) (answer_of w) h refl (record { given = g.given; stop = g.stop; walk = g.walk; answer = g.answer })
counted takes cells w a b (Err e) h g = subst (λ r. MatchResult (ended_by w.given r) (Counts cells) (Barred cells)) (sym g.why) (barred_start cells e h)
