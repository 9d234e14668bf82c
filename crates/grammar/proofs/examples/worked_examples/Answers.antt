use Rattle.std.proofs.Common.{refl}
use Rattle.std.specs.Int.{int_wrap}
use Rattle.grammar.specs.Tokens.{spelled}
use Rattle.grammar.proofs.examples.worked_examples.Goals as goal

pub returns : goal.returns
unfolding spelled int_wrap
returns c = record {
  count_wraps = refl;
  month_left_out = refl;
  electron_alone = (refl, refl);
  electron_unknown = refl;
  not_unknown = refl;
  not_alone = refl;
  blanks_before_comma = (refl, refl, refl);
  unknown_with_blank = refl;
  phantom_more = (refl, (refl, refl));
  comma_last = (refl, refl, (refl, refl));
  comma_twice = (refl, refl, (refl, refl));
  point_back = (refl, (refl, refl));
  last_a_browser = (refl, (refl, refl));
}
