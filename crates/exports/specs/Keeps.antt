-- What words make of a query.
use Rattle.std.specs.Prelude.{◌≡◌, ℕ}
use Rattle.grammar.specs.declared.query.SingleQuery.{SingleQuery}
use Rattle.exports.specs.declared.read.Records.{Records}
use Rattle.exports.specs.Layout.{words_of}
use Rattle.exports.specs.Outcome.{put_record}

-- query n is record n, where there is room for it; the words are the same
pub record Keeps (a : Records) (n e : ℕ) (q : SingleQuery) (b : Records) : Type 0 where
  pub same_reference : b.words.ghost_name ≡ a.words.ghost_name
  pub written : b.words.now ≡ put_record a.words.now n (words_of q)
