use Rattle.grammar.proofs.Within.{stands_within, stands_progress, says_within, says_progress}
use Rattle.grammar.proofs.Blind.{rule_blind, form_blind}
use Rattle.grammar.proofs.laws.place_laws.Goals as goal

pub returns : goal.returns
returns c = record {
  within = λ t r p e s l h. stands_within h s l;
  within_form = λ t k x p v e s l h. says_within h s l;
  blind = λ r m s a b p l. rule_blind a b r m s p l;
  blind_form = λ k x s a b p l. form_blind a b x s p l;
  progress = λ t r p e s h. stands_progress h s;
  progress_form = λ t k x p v e s h. says_progress h s;
}
