use Rattle.grammar.proofs.Meaning.{one_end, one_answer, stands_ends, ends_stands, missing_ends, ends_missing, says_reads, reads_says, silent_reads, reads_silent}
use Rattle.grammar.proofs.laws.meaning_laws.Goals as goal

pub returns : goal.returns
returns c = record {
  ends = one_end;
  answers = one_answer;
  stands = λ t r p e. (stands_ends, ends_stands t r p e);
  missing = λ t r p. (missing_ends, ends_missing t r p);
  says = λ t k x p v e. (says_reads, reads_says t k x p v e);
  silent = λ t k x p. (silent_reads, reads_silent t k x p);
}
