-- Tests of rules, which are computed, and of the forms that are built of them: what the laws ask.
use Rattle.std.specs.Prelude.{◌≡◌, ℕ, Bool, true, false, cond, not, ◌&&◌, ◌||◌, ◌⊎◌}
use Rattle.grammar.specs.Rule.{Rule, nothing, one, look, run, then, else, unless}
use Rattle.grammar.specs.Form.{Kind, Value, Form, give, fail, spot, read, bind, when, first}

-- takes nothing past the end
abbrev pub tame : Rule → Bool
tame nothing = true
tame (one f) = not (f 256)
tame (look f) = true
tame (run r) = tame r
tame (then r q) = tame r && tame q
tame (else r q) = tame r && tame q
tame (unless r q) = tame r && tame q

-- takes one code at least
abbrev pub solid : Rule → Bool
solid nothing = false
solid (one f) = true
solid (look f) = false
solid (run r) = false
solid (then r q) = solid r || solid q
solid (else r q) = solid r && solid q
solid (unless r q) = solid q

-- what a rule does where the code is known and nothing else
pub data Edge : Type 0 where
  -- it stands, and takes nothing
  stays : Edge
  -- it stands, and may take something
  goes : Edge
  -- it is missing
  misses : Edge
  -- that depends on what follows
  depends : Edge

-- whether it stands and takes nothing
abbrev pub is_stays : Edge → Bool
is_stays stays = true
is_stays goes = false
is_stays misses = false
is_stays depends = false

-- whether it is missing
abbrev pub is_misses : Edge → Bool
is_misses stays = false
is_misses goes = false
is_misses misses = true
is_misses depends = false

-- a run is empty where its rule is missing
abbrev pub run_edge : Edge → Edge
run_edge stays = depends
run_edge goes = depends
run_edge misses = stays
run_edge depends = depends

-- the second goes on where the first takes nothing
abbrev pub then_edge : Edge → Edge → Edge
then_edge stays y = y
then_edge goes y = depends
then_edge misses y = misses
then_edge depends y = depends

-- the second comes where the first is missing
abbrev pub else_edge : Edge → Edge → Edge
else_edge stays y = stays
else_edge goes y = goes
else_edge misses y = y
else_edge depends y = depends

-- the first, where it stands, bars the second
abbrev pub unless_edge : Edge → Edge → Edge
unless_edge stays y = misses
unless_edge goes y = misses
unless_edge misses y = y
unless_edge depends y = depends

-- what a rule does at a code
abbrev pub edge : ℕ → Rule → Edge
edge c nothing = stays
edge c (one f) = cond (f c) goes misses
edge c (look f) = cond (f c) stays misses
edge c (run r) = run_edge (edge c r)
edge c (then r q) = then_edge (edge c r) (edge c q)
edge c (else r q) = else_edge (edge c r) (edge c q)
edge c (unless r q) = unless_edge (edge c r) (edge c q)

-- both stand and take nothing, or both are missing
abbrev pub agreed : Edge → Edge → Bool
agreed stays y = is_stays y
agreed goes y = false
agreed misses y = is_misses y
agreed depends y = false

-- at a comma it does what it does at the end
abbrev pub settled : Rule → Bool
settled r = agreed (edge 44 r) (edge 256 r)

-- before a comma it does what it does before the end
abbrev pub steady : Rule → Bool
steady nothing = true
steady (one f) = true
steady (look f) = true
steady (run r) = steady r && is_misses (edge 44 r)
steady (then r q) = steady r && (steady q && settled q)
steady (else r q) = steady r && steady q
steady (unless r q) = steady r && steady q

-- a comma is as good as the end
abbrev pub shy : Rule → Bool
shy r = steady r && settled r

-- each rule of the form passes the test
abbrev pub Each : (Rule → Bool) → {k : Kind} → Form k → Type 0
Each ok (give v) = Unit {0}
Each ok fail = Unit {0}
Each ok (spot r) = ok r ≡ true
Each ok (read r f) = ok r ≡ true
Each ok (bind {j = j} f g) = Each ok f × ((v : Value j) → Each ok (g v))
Each ok (when r f g) = (ok r ≡ true) × Each ok f × Each ok g
Each ok (first f g) = Each ok f × Each ok g

-- the form takes nothing past the end
abbrev pub TameForm : {k : Kind} → Form k → Type 0
TameForm f = Each tame f

-- to the form a comma is as good as the end
abbrev pub ShyForm : {k : Kind} → Form k → Type 0
ShyForm f = Each (λ r. tame r && shy r) f

-- the form takes one code at least
abbrev pub SolidForm : {k : Kind} → Form k → Type 0
SolidForm (give v) = ⊥
SolidForm fail = Unit {0}
SolidForm (spot r) = solid r ≡ true
SolidForm (read r f) = solid r ≡ true
SolidForm (bind {j = j} f g) = SolidForm f ⊎ ((v : Value j) → SolidForm (g v))
SolidForm (when r f g) = ((solid r ≡ true) ⊎ SolidForm f) × SolidForm g
SolidForm (first f g) = SolidForm f × SolidForm g
