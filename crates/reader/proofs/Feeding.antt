-- A byte that may stand where it does leads on to the state behind it.
use Rattle.std.proofs.Common.{◌≡◌, ℕ, ◌+◌, ◌<◌, true, cond, length, get_or, List, drop, is_some, Some, None, Option, MatchOption, sym, ap, ◌∙◌, arith}
use lib.ListN.{length-map}
use Rattle.std.proofs.lemmas.Bool.{both_ways}
use Rattle.std.proofs.lemmas.List.{at_drop_more}
use Rattle.texts.specs.declared.cell.Cell.{Cell}
use Rattle.texts.specs.Codes.{code, codes, byte_code}
use Rattle.reader.specs.declared.utf8.State.{State}
use Rattle.reader.specs.Utf8.{step_of, is_start, on_step, ill_from}

-- what the checker says of the step, and its state after
abbrev Fed : Option State → State → Option (Unit {0}) → State → Type 0
Fed o s r t = MatchOption o ((r ≡ None) × (t ≡ s)) (λ u. (r ≡ Some tt) × (t ≡ u))

led : (o : Option State) (s t : State) (r : Option (Unit {0})) → Fed o s r t → is_some r ≡ true → o ≡ Some t
led None s t r m h = absurd (both_ways _ (ap is_some m.0) h)
led (Some u) s t r m h = ap Some (sym m.1)

-- the sequence at hand begins behind the byte where the state is a start
pub fed_on : (cells : List Cell) (s t : State) (begun i next : ℕ) (byte : Option ℕ) (r : Option (Unit {0})) → i < length cells → byte_code byte ≡ get_or (codes cells) i 256 → Fed (step_of s (byte_code byte)) s r t → is_some r ≡ true → next ≡ cond (is_start t) (i + 1) begun → ill_from (drop i (codes cells)) s begun i ≡ ill_from (drop (i + 1) (codes cells)) t next (i + 1)
fed_on cells s t begun i next byte r h e f on n =
    at_drop_more (λ l. ill_from l s begun i) (codes cells) i 256 (omega (arith, length-map cells code))
    ∙ (ap (λ o. on_step o (Some begun) (λ t. ill_from (drop (i + 1) (codes cells)) t (cond (is_start t) (i + 1) begun) (i + 1))) (sym (ap (step_of s) e) ∙ led (step_of s (byte_code byte)) s t r f on)
    ∙ sym (ap (λ k. ill_from (drop (i + 1) (codes cells)) t k (i + 1)) n))
