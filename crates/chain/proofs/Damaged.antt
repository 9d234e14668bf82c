-- A bad cell ends a chain.
use Rattle.std.proofs.Common.{◌≡◌, ℕ, zero, suc, ◌+◌, ◌-◌, List, ◌++◌, length, get_or, Some, None, Ok, Err, Option, Result, sym, refl, ap, ◌∙◌, ⊎_elim, arith, length-append}
use lib.ListN.{length-map}
use Rattle.std.proofs.lemmas.Bool.{cases_lt}
use Rattle.texts.specs.declared.cell.Fault.{Fault}
use Rattle.texts.specs.declared.cell.Cell.{Cell}
use Rattle.texts.specs.declared.cell.Cell.TheVariants.{Byte}
use Rattle.texts.specs.Cells.{answer, told, bytes}
use Rattle.chain.specs.declared.damage.Damage.{Damage}
use Rattle.chain.specs.declared.damage.Damage.TheVariants.{TooMany}
use Rattle.chain.specs.Damages.{fault_of}
use Rattle.chain.specs.Records.{next_of, text_of}
use Rattle.chain.specs.Chains.{records_of, record_at, damage_at, broken, unless, chain_from, chained, Chain}
use Rattle.chain.specs.Short.{chained_within}
use Rattle.chain.proofs.Gathering.{nth_text, nth_end}

no_fault : (found : Option ℕ) (f : Fault) → ◌≡◌ {A = Result (Option ℕ) Fault} (Ok found) (Err f) → ⊥
no_fault found f e = let z : ◌≡◌ {A = ℕ} 0 1 = cc in omega arith

-- a bad cell is the last of the cells, and its own place counts those before it
abbrev Last : List Cell → ℕ → Type 0
Last cells own = (p : ℕ) (f : Fault) → answer cells p ≡ Err f → (f.own ≡ own + p) × (length cells ≡ p + 1)

last_broken : (damage : Damage) (own : ℕ) → Last (broken damage own) own
last_broken damage own zero f e =
    let same : fault_of damage own ≡ f = cc in
    let at : own ≡ f.own = ap (λ g. g.own) same in
    (omega arith, refl)
last_broken damage own (suc p) f e = absurd (no_fault None f e)

last_unless : (o : Option Damage) (own : ℕ) (cells : List Cell) → Last cells own → Last (unless o own cells) own
last_unless None own cells h = h
last_unless (Some damage) own cells h = last_broken damage own

last_behind : (text : List ℕ) (cells : List Cell) (own : ℕ) → Last cells (own + length text) → Last (bytes text ++ cells) own
last_behind text cells own h p f e =
    let whole : length (bytes text ++ cells) ≡ length text + length cells = length-append (bytes text) cells ∙ ap (λ n. n + length cells) (length-map text Byte) in
    ⊎_elim (λ l. absurd (no_fault (Some (get_or text p 0)) f (sym (ap told (nth_text text cells p l)) ∙ e))) (λ l. let r = h (p - length text) f (sym (ap told (nth_end text cells p l)) ∙ e) in (omega (arith, r.0), omega (arith, r.1))) (cases_lt p (length text))

last_from : (memory : List ℕ) (left own index : ℕ) → Last (chain_from memory left own index) own
last_from memory left own zero = λ p f e. absurd (no_fault None f e)
last_from memory zero own (suc number) = last_broken TooMany own
last_from memory (suc left) own (suc number) =
    let r = record_at memory number in
    let text = text_of r in
    let more = chain_from memory left (own + length text) (next_of r) in
    last_unless (damage_at memory (suc left) number) own (bytes text ++ more) (last_behind text more own (last_from memory left (own + length text) (next_of r)))

pub chain_is : (memory : List ℕ) (first : ℕ) → Chain (chained memory first)
chain_is memory first =
    record {
      short = chained_within memory first;
      last = λ p f e. let r = last_from memory (records_of memory) 0 first p f e in (omega (arith, r.0), r.1);
    }
