use Rattle.grammar.proofs.Readings.{single, spells, joins}
use Rattle.grammar.proofs.Moved.{sound, query_single, query_spells, query_joins}
use Rattle.grammar.proofs.reading.reading_laws.Goals as goal

pub returns : goal.returns
returns c = record { any = λ g ok. (single g ok, spells g ok, joins g ok); sound = sound; single = query_single; spells = query_spells; joins = query_joins }
