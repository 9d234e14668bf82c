-- Readings of a text: queries with separators between them, over any grammar.
use Rattle.std.specs.Prelude.{◌≡◌, ℕ, ◌+◌, ◌-◌, ◌<◌, ◌≤◌, Bool, true, false, List, [], ◌∷◌, ◌++◌, length, drop, Some, None, Option, slice_index_or}
use Rattle.grammar.specs.Classes.{blank}
use Rattle.grammar.specs.Form.{Outcome, between}

-- what a query and a separator are: each says something at a place, and ends at another
pub record Grammar (V S : Type 0) : Type 0 where
  pub query : List ℕ → ℕ → Outcome V
  pub separator : List ℕ → ℕ → Outcome S
  -- what a comma alone says as a separator
  pub comma : S
  -- what a query says, with its places moved along by so many codes
  pub along : ℕ → V → V

-- one query of a reading: the separator before it and what that says, if it is not the first; its own codes and what they say
pub record Turn (V S : Type 0) : Type 0 where
  pub sep : List ℕ
  pub link : Option S
  pub raw : List ℕ
  pub value : V

-- before the first query stands nothing, and before any other a separator
abbrev pub Between : {V S : Type 0} → Grammar V S → Bool → List ℕ → ℕ → Option S → ℕ → Type 0
Between g false t p link m = (link ≡ None) × (m ≡ p)
Between {S = S} g true t p link m = (s : S) × (link ≡ Some s) × (g.separator t p ≡ Some (s, m))

-- from a place up to another stand these turns
abbrev pub Turns : {V S : Type 0} → Grammar V S → Bool → List ℕ → ℕ → List (Turn V S) → ℕ → Type 0
Turns g begun t p [] q = p ≡ q
Turns g begun t p (u ∷ us) q =
    (m : ℕ) × (e : ℕ) × Between g begun t p u.link m × (u.sep ≡ between t p m)
    × (g.query t m ≡ Some (u.value, e)) × (u.raw ≡ between t m e) × Turns g true t e us q

-- the whole text is these turns
abbrev pub Reading : {V S : Type 0} → Grammar V S → List ℕ → List (Turn V S) → Type 0
Reading g t us = Turns g false t 0 us (length t)

-- the codes of turns, one after another
abbrev pub spelling : {V S : Type 0} → List (Turn V S) → List ℕ
spelling [] = []
spelling (u ∷ us) = u.sep ++ (u.raw ++ spelling us)

-- an outcome whose value and end are moved along
abbrev pub carried : {V : Type 0} → (V → V) → ℕ → Outcome V → Outcome V
carried f n None = None
carried f n (Some x) = Some (f x.0, n + x.1)

-- what the laws of readings ask of a grammar
pub record Sound {V S : Type 0} (g : Grammar V S) : Type 0 where
  pub query_fits : (t : List ℕ) (p : ℕ) (v : V) (e : ℕ) → p ≤ length t → g.query t p ≡ Some (v, e) → (p < e) × (e ≤ length t)
  pub separator_fits : (t : List ℕ) (p : ℕ) (s : S) (e : ℕ) → p ≤ length t → g.separator t p ≡ Some (s, e) → (p < e) × (e ≤ length t)
  -- a comma ends a query as the end of the text does
  pub query_blind : (a b : List ℕ) (p : ℕ) → p ≤ length a → g.query (a ++ 44 ∷ b) p ≡ g.query a p
  -- a comma behind a text that ends with no blank is no part of a separator before it
  pub separator_apart : (a b : List ℕ) (p : ℕ) → p < length a → blank (slice_index_or a (length a - 1) 256) ≡ false → g.separator (a ++ 44 ∷ b) p ≡ g.separator a p
  -- at a comma that no blank follows the separator is that comma
  pub separator_comma : (a b : List ℕ) → blank (slice_index_or b 0 256) ≡ false → g.separator (a ++ 44 ∷ b) (length a) ≡ Some (g.comma, length a + 1)
  -- what stands before a place does not matter, but that it moves places along
  pub query_shift : (t : List ℕ) (n p : ℕ) → g.query t (n + p) ≡ carried (g.along n) n (g.query (drop n t) p)
  pub separator_shift : (t : List ℕ) (n p : ℕ) → g.separator t (n + p) ≡ carried (λ s. s) n (g.separator (drop n t) p)

-- a turn whose places are moved along
abbrev pub moved_turn : {V S : Type 0} → Grammar V S → ℕ → Turn V S → Turn V S
moved_turn g n v = record { sep = v.sep; link = v.link; raw = v.raw; value = g.along n v.value }

abbrev pub moved_turns : {V S : Type 0} → Grammar V S → ℕ → List (Turn V S) → List (Turn V S)
moved_turns g n [] = []
moved_turns g n (v ∷ vs) = moved_turn g n v ∷ moved_turns g n vs

-- turns behind so many codes, the last of which is a comma: the comma is the first turn's separator
abbrev pub behind_comma : {V S : Type 0} → Grammar V S → ℕ → List (Turn V S) → List (Turn V S)
behind_comma g n [] = []
behind_comma g n (v ∷ vs) = record { sep = 44 ∷ []; link = Some g.comma; raw = v.raw; value = g.along n v.value } ∷ moved_turns g n vs

-- a text has one reading
abbrev pub Single : {V S : Type 0} → Grammar V S → Type 0
Single {V = V} {S = S} g = (t : List ℕ) (us vs : List (Turn V S)) → Reading g t us → Reading g t vs → us ≡ vs

-- a reading spells its text
abbrev pub Spells : {V S : Type 0} → Grammar V S → Type 0
Spells {V = V} {S = S} g = (t : List ℕ) (us : List (Turn V S)) → Reading g t us → spelling us ≡ t

-- two texts that a comma may join: neither is empty, the first ends and the second begins with no blank
pub record Joinable (a b : List ℕ) : Type 0 where
  pub some_a : 0 < length a
  pub some_b : 0 < length b
  pub bare_a : blank (slice_index_or a (length a - 1) 256) ≡ false
  pub bare_b : blank (slice_index_or b 0 256) ≡ false

-- the readings of the joined text are the readings of both, joined
abbrev pub Joins : {V S : Type 0} → Grammar V S → Type 0
Joins {V = V} {S = S} g =
    (a b : List ℕ) → Joinable a b →
    ((us vs : List (Turn V S)) → Reading g a us → Reading g b vs → Reading g (a ++ 44 ∷ b) (us ++ behind_comma g (length a + 1) vs))
    × ((ws : List (Turn V S)) → Reading g (a ++ 44 ∷ b) ws → (us : List (Turn V S)) × (vs : List (Turn V S)) × Reading g a us × Reading g b vs × (ws ≡ us ++ behind_comma g (length a + 1) vs))
