use Rattle.grammar.proofs.Queries.{separator_fits, separator_apart, separator_comma}
use Rattle.grammar.proofs.laws.separator_laws.Goals as goal

pub returns : goal.returns
returns c = record { fits = separator_fits; apart = separator_apart; comma = separator_comma }
