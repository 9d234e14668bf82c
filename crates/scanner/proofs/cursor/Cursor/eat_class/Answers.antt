use Rattle.std.proofs.Common.{sym, ap, ◌∙◌}
use Rattle.texts.specs.Codes.{codes}
use Rattle.scanner.specs.Position.{here}
use Rattle.scanner.specs.Within.{within}
use Rattle.scanner.proofs.Inside.{none_within, inside, next_fits}
use Rattle.scanner.proofs.cursor.Cursor.eat_class.Goals as goal

pub overflow_add-self : goal.overflow_add-self
overflow_add-self g c =
    let cs = g.T.Text.cells c.self.inside.text in
    next_fits cs c.self.inside.place (g.T.Text.short c.self.inside.text)
    (inside (within c.args.class) (codes cs) c.self.inside.place (none_within c.args.class)
    (ap (λ p. within c.args.class (here p)) c.self.view_is ∙ (sym c.peek-found.ensures ∙ c.if-found.true)))
