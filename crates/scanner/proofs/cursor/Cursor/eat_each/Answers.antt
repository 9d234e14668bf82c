use Rattle.std.proofs.Common.{◌+◌, drop, sym, ap, ◌∙◌}
use Rattle.grammar.specs.Rule.{ends}
use Rattle.grammar.specs.Tokens.{spelled}
use Rattle.scanner.proofs.Spelling.{spelled_turn, spelled_miss, spelled_done}
use Rattle.scanner.proofs.cursor.Cursor.eat_each.Goals as goal

pub loop-b-preserved : goal.loop-b-preserved
loop-b-preserved g c =
    let at = c.loop-b.self in
    let to = c.eat_folded.new.self in
    let took = c.if-not-eat_folded.ensures in
    let w = c.args.bytes.now in (
      took.0 ∙ c.loop-b.invariant.0,
      c.loop-b.invariant.1
          ∙ (spelled_turn w at.text c.loop-b.b-index at.place to.place c.loop-b-test.true took.1
          ∙ ap (λ t. ends (spelled (drop (c.loop-b.b-index + 1) w)) t to.place) (sym took.0)),
    )

pub returns-then-not-eat_folded : goal.returns-then-not-eat_folded
returns-then-not-eat_folded g c =
    let at = c.loop-b.self in (
      c.if-not-eat_folded.ensures.0 ∙ c.loop-b.invariant.0,
      c.loop-b.invariant.1 ∙ spelled_miss c.args.bytes.now at.text c.loop-b.b-index at.place c.eat_folded.new.self.place c.loop-b-test.true c.if-not-eat_folded.ensures.1,
    )

pub returns : goal.returns
returns g c =
    (c.loop-b.invariant.0, c.loop-b.invariant.1 ∙ spelled_done c.args.bytes.now c.loop-b.self.text c.loop-b.b-index c.loop-b.self.place c.loop-b-test.false)
