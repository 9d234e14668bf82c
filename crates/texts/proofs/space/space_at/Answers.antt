use Rattle.std.proofs.Common.{arith}
use Rattle.texts.proofs.space.space_at.Goals as goal

pub overflow_add-place : goal.overflow_add-place
overflow_add-place g c = omega (arith, g.T.Text.short c.args.text.now)

pub overflow_add-place-in-loop-wide : goal.overflow_add-place-in-loop-wide
overflow_add-place-in-loop-wide g c = omega (arith, g.T.Text.short c.args.text.now)
