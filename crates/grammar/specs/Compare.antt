-- What each comparator asks of how two values compare.
use Rattle.std.specs.Prelude.{Bool}
use Rattle.std.specs.declared.cmp.Ordering.{Ordering}
use Rattle.std.specs.Ordering.{is_lt, is_le, is_gt, is_ge}
use Rattle.grammar.specs.declared.query.Comparator.{Comparator}
use Rattle.grammar.specs.declared.query.Comparator.TheVariants.{Less, LessOrEqual, Greater, GreaterOrEqual}

abbrev pub test_of : Comparator → Ordering → Bool
test_of Less = is_lt
test_of LessOrEqual = is_le
test_of Greater = is_gt
test_of GreaterOrEqual = is_ge
