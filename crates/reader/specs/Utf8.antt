-- Well-formed UTF-8, judged byte by byte after Unicode's Table 3-7.
use Rattle.std.specs.Prelude.{ℕ, ◌+◌, Bool, true, false, cond, ◌&&◌, List, [], ◌∷◌, Some, None, Option, nat_le}
use Rattle.reader.specs.declared.utf8.State.{State}
use Rattle.reader.specs.declared.utf8.State.TheVariants.{Start, Last, Two, Three, AfterE0, AfterED, AfterF0, AfterF4}

-- to the state s where the code lies from lo to hi, else to what is next
abbrev pub to : ℕ → ℕ → State → ℕ → Option State → Option State
to lo hi s c other = cond (nat_le lo c && nat_le c hi) (Some s) other

-- where a code leads, or None where no well-formed sequence has it there
abbrev pub step_of : State → ℕ → Option State
step_of Start c =
    to 0 0x7F Start c
    (to 0xC2 0xDF Last c
    (to 0xE0 0xE0 AfterE0 c
    (to 0xE1 0xEC Two c
    (to 0xED 0xED AfterED c
    (to 0xEE 0xEF Two c
    (to 0xF0 0xF0 AfterF0 c
    (to 0xF1 0xF3 Three c
    (to 0xF4 0xF4 AfterF4 c None))))))))
step_of Last c = to 0x80 0xBF Start c None
step_of Two c = to 0x80 0xBF Last c None
step_of Three c = to 0x80 0xBF Two c None
step_of AfterE0 c = to 0xA0 0xBF Last c None
step_of AfterED c = to 0x80 0x9F Last c None
step_of AfterF0 c = to 0x90 0xBF Two c None
step_of AfterF4 c = to 0x80 0x8F Two c None

-- between two sequences
abbrev pub is_start : State → Bool
is_start Start = true
is_start Last = false
is_start Two = false
is_start Three = false
is_start AfterE0 = false
is_start AfterED = false
is_start AfterF0 = false
is_start AfterF4 = false

-- stop where a step leads nowhere, else go on from its state
abbrev pub on_step : Option State → Option ℕ → (State → Option ℕ) → Option ℕ
on_step None stop go = stop
on_step (Some s) stop go = go s

-- the place of the first code of the first ill-formed sequence: in the state s, with the sequence at hand
-- begun at `begun` and the next code at `here`
abbrev pub ill_from : List ℕ → State → ℕ → ℕ → Option ℕ
ill_from [] s begun here = cond (is_start s) None (Some begun)
ill_from (c ∷ cs) s begun here =
    on_step (step_of s c) (Some begun) (λ t. ill_from cs t (cond (is_start t) (here + 1) begun) (here + 1))

-- the same from the start of a text
abbrev pub ill_formed : List ℕ → Option ℕ
ill_formed cs = ill_from cs Start 0 0
