use Rattle.grammar.proofs.Queries.{tame_query, shy_query, solid_query, query_fits, query_blind}
use Rattle.grammar.proofs.laws.query_laws.Goals as goal

pub returns : goal.returns
returns c = record { tame = tame_query; shy = shy_query; solid = solid_query; fits = query_fits; blind = query_blind }
