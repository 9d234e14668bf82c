-- The text of a pile.
use Rattle.std.specs.Prelude.{ℕ, List}
use Rattle.texts.specs.declared.cell.Cell.{Cell}
use Rattle.texts.specs.Cells.{stored}
use Rattle.texts.specs.Trim.{trimmed}
use Rattle.chain.specs.Chains.{chained}
use Rattle.layers.specs.Covers.{covered}
use Rattle.layers.specs.Joins.{joined}

-- chain memory from a first record on, under a cover, joined with a site's bytes, trimmed
abbrev pub piled : List ℕ → ℕ → List ℕ → List Cell
piled memory first site = trimmed (joined (covered (chained memory first)) (stored site))
