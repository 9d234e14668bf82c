-- A run of a rule, from where it began to where the cursor stands in it.
use Rattle.std.proofs.Common.{◌≡◌, ℕ, ◌+◌, ◌-◌, ◌<◌, Bool, true, false, length, drop, is_some, Some, sym, refl, ap, ◌∙◌, arith}
use Rattle.grammar.specs.Rule.{Rule, ends, one, look, run, span}
use Rattle.scanner.specs.Position.{Position, Takes, Skips}
use Rattle.scanner.proofs.Inside.{inside}
use Rattle.scanner.proofs.Spans.{fits, taken, looks, span_more, run_more, run_stop}

-- the run from `at` on ends where the run from `from` does
pub record Running (r : Rule) (from at : Position) : Type 0 where
  pub text : at.text ≡ from.text
  pub onto : at.place + span (fits r) (drop at.place at.text) ≡ from.place + span (fits r) (drop from.place from.text)

pub begun : (r : Rule) (p : Position) → Running r p p
begun r p = record { text = refl; onto = refl }

-- on to where the run from here ends there too
pub run_on : (r : Rule) (from at to : Position) → Running r from at → to.text ≡ at.text → at.place + span (fits r) (drop at.place at.text) ≡ to.place + span (fits r) (drop to.place at.text) → Running r from to
run_on r from at to k t e =
    record {
      text = t ∙ k.text;
      onto = ap (λ s. to.place + span (fits r) (drop to.place s)) t ∙ (sym e ∙ k.onto);
    }

-- one place on, where the rule fits
pub run_step : (r : Rule) (from at to : Position) → Running r from at → at.place < length at.text → is_some (ends r at.text at.place) ≡ true → to.text ≡ at.text → to.place ≡ at.place + 1 → Running r from to
run_step r from at to k l h t e =
    run_on r from at to k t
    (let m : at.place + span (fits r) (drop at.place at.text) ≡ (at.place + 1) + span (fits r) (drop (at.place + 1) at.text) = omega (arith, run_more r at.text at.place l h) in
    m ∙ sym (ap (λ q. q + span (fits r) (drop q at.text)) e))

-- the end, where the rule does not fit
pub run_ended : (r : Rule) (from at : Position) → Running r from at → is_some (ends r at.text at.place) ≡ false → Skips (run r) from at
run_ended r from at k h =
    let e : from.place + span (fits r) (drop from.place from.text) ≡ at.place = omega (arith, run_stop r at.text at.place h, k.onto) in
    (k.text, ap Some e)

-- one byte of a class on, which 256 is not in
pub class_on : (f : ℕ → Bool) (from at to : Position) → f 256 ≡ false → Running (look f) from at → Takes (one f) true at to → Running (look f) from to
class_on f from at to n k h =
    let m = taken f at.text at.place to.place h.1 in
    run_on (look f) from at to k h.0
    (let l = inside f at.text at.place n m.here in
    let more = span_more (fits (look f)) at.text at.place l (looks f at.text at.place ∙ m.here) in
    let e : at.place + span (fits (look f)) (drop at.place at.text) ≡ (at.place + 1) + span (fits (look f)) (drop (at.place + 1) at.text) = omega (arith, more) in
    e ∙ sym (ap (λ q. q + span (fits (look f)) (drop q at.text)) m.on))

-- what is left of the text gets less
pub less_left : (at to : Position) → to.text ≡ at.text → at.place < length at.text → at.place < to.place → length to.text - to.place < length at.text - at.place
less_left at to t l e = omega (arith, ap length t)
