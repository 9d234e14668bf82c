-- What rules and forms mean, as relations that compute nothing.
use Rattle.std.specs.Prelude.{◌≡◌, ℕ, ◌+◌, ◌<◌, ◌≤◌, Bool, true, false, List, length, slice_index_or}
use Rattle.grammar.specs.Rule.{Rule, nothing, one, look, run, then, else, unless}
use Rattle.grammar.specs.Form.{Kind, part, Value, Form, give, fail, spot, read, bind, when, first, between}

-- the code at a place is of a class
abbrev pub Has : List ℕ → (ℕ → Bool) → ℕ → Type 0
Has t f p = f (slice_index_or t p 256) ≡ true

-- the code at a place is not of a class
abbrev pub Lacks : List ℕ → (ℕ → Bool) → ℕ → Type 0
Lacks t f p = f (slice_index_or t p 256) ≡ false

mutual
  -- from a place to another stands the rule
  pub data Stands (t : List ℕ) : Rule → ℕ → ℕ → Type 0 where
    stands_nothing : {p : ℕ} → Stands t nothing p p
    stands_one : {f : ℕ → Bool} {p : ℕ} → Has t f p → Stands t (one f) p (p + 1)
    stands_look : {f : ℕ → Bool} {p : ℕ} → Has t f p → Stands t (look f) p p
    stands_run : {r : Rule} {p e : ℕ} → Longest t r p e → Stands t (run r) p e
    stands_then : {r q : Rule} {p m e : ℕ} → Stands t r p m → Stands t q m e → Stands t (then r q) p e
    stands_first : {r q : Rule} {p e : ℕ} → Stands t r p e → Stands t (else r q) p e
    stands_second : {r q : Rule} {p e : ℕ} → Missing t r p → Stands t q p e → Stands t (else r q) p e
    stands_unless : {r q : Rule} {p e : ℕ} → Missing t r p → Stands t q p e → Stands t (unless r q) p e

  -- at a place the rule does not stand
  pub data Missing (t : List ℕ) : Rule → ℕ → Type 0 where
    missing_one : {f : ℕ → Bool} {p : ℕ} → Lacks t f p → Missing t (one f) p
    missing_look : {f : ℕ → Bool} {p : ℕ} → Lacks t f p → Missing t (look f) p
    missing_first : {r q : Rule} {p : ℕ} → Missing t r p → Missing t (then r q) p
    missing_second : {r q : Rule} {p m : ℕ} → Stands t r p m → Missing t q m → Missing t (then r q) p
    missing_both : {r q : Rule} {p : ℕ} → Missing t r p → Missing t q p → Missing t (else r q) p
    missing_under : {r q : Rule} {p m : ℕ} → Stands t r p m → Missing t (unless r q) p
    missing_over : {r q : Rule} {p : ℕ} → Missing t r p → Missing t q p → Missing t (unless r q) p

  -- at each place from the first up to the second the rule stands, and the text ends at the second or the rule is missing there
  pub data Longest (t : List ℕ) : Rule → ℕ → ℕ → Type 0 where
    longest_end : {r : Rule} {p : ℕ} → length t ≤ p → Longest t r p p
    longest_stop : {r : Rule} {p : ℕ} → p < length t → Missing t r p → Longest t r p p
    longest_on : {r : Rule} {p m e : ℕ} → p < length t → Stands t r p m → Longest t r (p + 1) e → Longest t r p e

mutual
  -- at a place the form says a value, and ends at another place
  pub data Says (t : List ℕ) : (k : Kind) → Form k → ℕ → Value k → ℕ → Type 0 where
    says_give : {k : Kind} {v : Value k} {p : ℕ} → Says t k (give v) p v p
    says_spot : {r : Rule} {p e : ℕ} → Stands t r p e → Says t part (spot r) p (record { start = p; end = e }) e
    says_read : {k : Kind} {r : Rule} {f : List ℕ → Value k} {p e : ℕ} → Stands t r p e → Says t k (read r f) p (f (between t p e)) e
    says_bind : {j k : Kind} {f : Form j} {g : Value j → Form k} {p m e : ℕ} {v : Value j} {w : Value k} → Says t j f p v m → Says t k (g v) m w e → Says t k (bind f g) p w e
    says_when : {k : Kind} {r : Rule} {f g : Form k} {p m e : ℕ} {v : Value k} → Stands t r p m → Says t k f m v e → Says t k (when r f g) p v e
    says_otherwise : {k : Kind} {r : Rule} {f g : Form k} {p e : ℕ} {v : Value k} → Missing t r p → Says t k g p v e → Says t k (when r f g) p v e
    says_first : {k : Kind} {f g : Form k} {p e : ℕ} {v : Value k} → Says t k f p v e → Says t k (first f g) p v e
    says_second : {k : Kind} {f g : Form k} {p e : ℕ} {v : Value k} → Silent t k f p → Says t k g p v e → Says t k (first f g) p v e

  -- at a place the form says nothing
  pub data Silent (t : List ℕ) : (k : Kind) → Form k → ℕ → Type 0 where
    silent_fail : {k : Kind} {p : ℕ} → Silent t k fail p
    silent_spot : {r : Rule} {p : ℕ} → Missing t r p → Silent t part (spot r) p
    silent_read : {k : Kind} {r : Rule} {f : List ℕ → Value k} {p : ℕ} → Missing t r p → Silent t k (read r f) p
    silent_bind : {j k : Kind} {f : Form j} {g : Value j → Form k} {p : ℕ} → Silent t j f p → Silent t k (bind f g) p
    silent_rest : {j k : Kind} {f : Form j} {g : Value j → Form k} {p m : ℕ} {v : Value j} → Says t j f p v m → Silent t k (g v) m → Silent t k (bind f g) p
    silent_when : {k : Kind} {r : Rule} {f g : Form k} {p m : ℕ} → Stands t r p m → Silent t k f m → Silent t k (when r f g) p
    silent_otherwise : {k : Kind} {r : Rule} {f g : Form k} {p : ℕ} → Missing t r p → Silent t k g p → Silent t k (when r f g) p
    silent_both : {k : Kind} {f g : Form k} {p : ℕ} → Silent t k f p → Silent t k g p → Silent t k (first f g) p
