-- The name of each form.
use Rattle.std.specs.Prelude.{ℕ, List, codes}
use Rattle.grammar.specs.declared.query.QueryAtom.{QueryAtom}
use Rattle.grammar.specs.declared.query.QueryAtom.TheVariants.{Last, Unreleased, Years, Since, Percentage, Cover, Supports, Electron, Node, Browser, Baseline, FirefoxESR, OperaMini, CurrentNode, MaintainedNode, Phantom, Defaults, Dead, Unknown}

abbrev pub name_of : QueryAtom → List ℕ
name_of (Last a b c) = codes "Last"
name_of (Unreleased a) = codes "Unreleased"
name_of (Years a) = codes "Years"
name_of (Since a b c) = codes "Since"
name_of (Percentage a b c) = codes "Percentage"
name_of (Cover a b) = codes "Cover"
name_of (Supports a b) = codes "Supports"
name_of (Electron a) = codes "Electron"
name_of (Node a) = codes "Node"
name_of (Browser a b) = codes "Browser"
name_of (Baseline a b c) = codes "Baseline"
name_of FirefoxESR = codes "FirefoxESR"
name_of OperaMini = codes "OperaMini"
name_of CurrentNode = codes "CurrentNode"
name_of MaintainedNode = codes "MaintainedNode"
name_of (Phantom a) = codes "Phantom"
name_of Defaults = codes "Defaults"
name_of Dead = codes "Dead"
name_of (Unknown a) = codes "Unknown"
