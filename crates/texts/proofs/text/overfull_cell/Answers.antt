use Rattle.std.proofs.Common.{◌≡◌, ℕ, ◌≤◌, Err, sym, ap, ◌∙◌, lit≤}
use native.Mathlib.Bridge.{le_prop}
use Rattle.texts.specs.Cells.{answer, overfull}
use Rattle.texts.proofs.text.overfull_cell.Goals as goal

overfull_first : {e : 1 ≤ 5} (p : ℕ) → p ≡ 0 → Err (record { number = 5; own = 0; numbered = e }) ≡ answer overfull p
overfull_first {e} p z =
    (λ j. Err (record { number = 5; own = 0; numbered = le_prop e (lit≤ tt) j })) ∙ ap (answer overfull) (sym z)

pub returns-then-place-eq0 : goal.returns-then-place-eq0
returns-then-place-eq0 c = overfull_first c.args.place c.if-place-eq0.true
