-- What is written for a text, from what stepping through it gives.
use Rattle.std.proofs.Common.{◌≡◌, ℕ, List, Ok, Err, Result, ap, ◌∙◌, MatchResult, IsErrAnd}
use Rattle.texts.specs.declared.cell.Cell.{Cell}
use Rattle.texts.specs.Codes.{codes}
use Rattle.texts.specs.Trim.{trimmed}
use Rattle.reader.specs.declared.refusal.Refusal.{Refusal}
use Rattle.reader.specs.Start.{start_refusal}
use Rattle.whole.specs.declared.refusal.WholeRefusal.{WholeRefusal}
use Rattle.whole.specs.declared.refusal.WholeRefusal.TheVariants.{OfText}
use Rattle.whole.specs.declared.walk.Walk.{Walk}
use Rattle.whole.specs.Walks.{ended_by, answer_of, Walks, Unstarted}
use Rattle.exports.specs.Put.{put_slot}
use Rattle.words.specs.declared.steps.Slices.{Slices}
use Rattle.words.specs.Outcome.{outcome_of, of_text}
use Rattle.words.specs.Steps.{Writes, Stepped, Turned}
use Rattle.words.proofs.Slots.{written}

-- a refusal of the text, as one of a whole reading
pub answered : (r : Result ℕ Refusal) (a : Result ℕ WholeRefusal) → MatchResult r (λ n. a ≡ Ok n) (λ e. IsErrAnd a (λ x. x ≡ OfText e)) → a ≡ of_text r
answered (Ok n) a h = h
answered (Err e) (Ok n) h = absurd h
answered (Err e) (Err x) h = ap Err h

pub read : (cells : List Cell) (w : Walk) (a b : Slices) (outcome outcome' : List ℕ) (o : Result (Unit {0}) Refusal) → start_refusal cells ≡ o → MatchResult o (λ _. Walks Writes (codes (trimmed cells)) w a b) (λ e. Unstarted e w a b) → outcome' ≡ put_slot outcome 0 (outcome_of (of_text (answer_of w))) → (b.queries.ghost_name ≡ a.queries.ghost_name) × (b.separators.ghost_name ≡ a.separators.ghost_name) × MatchResult o (λ _. Stepped (codes (trimmed cells)) w.given a.queries.now b.queries.now a.separators.now b.separators.now outcome outcome') (λ e. Turned e w.given a.queries.now b.queries.now a.separators.now b.separators.now outcome outcome')
read cells w a b outcome outcome' (Ok x) h g told =
    let all = written a b g.given g.taken in (
      all.same_queries,
      all.same_separators,
      record {
        given = g.given;
        stop = g.stop;
        walk = g.walk;
        many = g.many;
        laid = all.queries;
        parted = all.separators;
        told = told ∙ ap (λ r. put_slot outcome 0 (outcome_of (of_text r))) g.answer;
      },
    )
read cells w a b outcome outcome' (Err e) h g told = (
  ap (λ x. x.queries.ghost_name) g.same,
  ap (λ x. x.separators.ghost_name) g.same,
  record {
    none = g.none;
    queries_stay = ap (λ x. x.queries.now) g.same;
    separators_stay = ap (λ x. x.separators.now) g.same;
    told = told ∙ ap (λ r. put_slot outcome 0 (outcome_of (of_text (ended_by w.given r)))) g.why;
  },
)
