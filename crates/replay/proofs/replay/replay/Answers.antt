use Rattle.std.proofs.Common.{◌≡◌, [], get_or, take, sym, refl, ◌∙◌, subst, arith, rules}
use Rattle.std.proofs.lemmas.List.{take_all}
use Rattle.texts.specs.Codes.{codes}
use Rattle.texts.specs.Trim.{trimmed}
use Rattle.texts.proofs.Trimming.{trimmed_clean}
use Rattle.replay.specs.Runs.{Runs, none, Stands, Asked}
use Rattle.replay.proofs.Made.{runs_further, calls_same}
use Rattle.replay.proofs.Starting.{accepted_readable, refused_unreadable}
use Rattle.replay.proofs.Reading.{spelt, reads, one}
use Rattle.replay.proofs.Joining.{joins}
use Rattle.replay.proofs.replay.replay.Goals as goal

pub loop-exchange-init : goal.loop-exchange-init
loop-exchange-init g c =
    let t = codes (trimmed (g.T.Text.cells c.args.text.now)) in
    let h = c.in_ok-reader.ensures in
    (h.1, subst (λ k. Stands t k c.in_ok-reader.reader.place) (sym h.2) (h.3, tt), subst (Runs t 0 []) (sym h.2) none, refl)

pub loop-exchange-preserved : goal.loop-exchange-preserved
loop-exchange-preserved g c =
    let t = codes (trimmed (g.T.Text.cells c.args.text.now)) in
    let xs = c.loop-exchange.exchanges in
    let i = c.loop-exchange.exchange-index in
    let r = c.loop-exchange.reader in
    let q = c.ask-exchange.new.reader in
    let x = c.exchange-item.result in
    let same = c.loop-exchange.invariant.0 in
    let made : Asked t r.k r.place (get_or xs i x).call c.ask-exchange.result q.k q.place =
    subst (λ l. Asked l r.k r.place (get_or xs i x).call c.ask-exchange.result q.k q.place) same c.ask-exchange.ensures.asked in (
      c.ask-exchange.ensures.same ∙ same,
      made.stands c.loop-exchange.invariant.1,
      runs_further t xs i r.k q.k (record { call = (get_or xs i x).call; answer = c.ask-exchange.result }) (omega (arith, c.loop-exchange-test.true, c.loop-exchange.auto.exchanges)) c.loop-exchange.invariant.2 (made.does c.loop-exchange.invariant.1),
      calls_same xs i x (record { call = (get_or xs i x).call; answer = c.ask-exchange.result }) refl ∙ c.loop-exchange.invariant.3,
    )

pub returns : goal.returns
returns g c =
    let cells = g.T.Text.cells c.args.text.now in
    let t = codes (trimmed cells) in
    let xs = c.loop-exchange.exchanges in
    let r = c.loop-exchange.reader in
    let all : take c.loop-exchange.exchange-index xs ≡ xs = take_all c.loop-exchange.exchange-index xs (omega (arith, c.loop-exchange-test.false, c.loop-exchange.auto.exchanges)) in
    let k : r.k ≡ c.count.result = sym c.count.ensures.value in
    record {
      readable = accepted_readable cells c.in_ok-reader.ensures.0;
      law = record {
        runs = subst (Runs t 0 xs) k (subst (λ l. Runs t 0 l r.k) all c.loop-exchange.invariant.2);
        spelt = spelt t c.count.result (subst (λ n. Stands t n r.place) k c.loop-exchange.invariant.1).1;
        reads = reads cells;
        one = one cells;
        clean = trimmed_clean cells;
        joins = joins;
      };
      calls = c.loop-exchange.invariant.3;
    }

pub returns-in_err-reader : goal.returns-in_err-reader
returns-in_err-reader g c =
    let refused = refused_unreadable (g.T.Text.cells c.args.text.now) in
    search (rules, refused)
