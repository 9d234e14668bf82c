-- The text of the pieces, byte by byte.
use Rattle.std.proofs.Common.{◌≢◌, Ok, ◌≡◌, ℕ, zero, suc, ◌+◌, ◌-◌, ◌<◌, ◌≤◌, List, [], ◌∷◌, ◌++◌, length, get_or, drop, Some, None, Option, sym, refl, ap, ◌∙◌, ⊎_elim, arith, length-append, length-drop, length-take}
use base.Stored.{Coded-set, coded_list}
use lib.ListN.{length-map}
use mathlib.Core.Logic.{∥∥₁_elim}
use Rattle.std.specs.List.{slice_get}
use Rattle.std.specs.List.Sorted.{IsNonDecreasingBy}
use Rattle.std.specs.Option.{MatchOption}
use Rattle.std.proofs.lemmas.List.{get_or-take, get_or-drop, get_or_default, append_assoc, append-nil}
use Rattle.std.proofs.lemmas.Option.{slice_get_past, slice_get-get_or}
use Rattle.std.proofs.lemmas.Bool.{cases_lt}
use Rattle.texts.specs.declared.cell.Fault.{Fault}
use Rattle.texts.specs.declared.cell.Cell.{Cell}
use Rattle.texts.specs.declared.cell.Cell.TheVariants.{Byte}
use Rattle.texts.specs.contracts.cell.Cell.{the_row}
use Rattle.texts.specs.Cells.{answer, told, bytes}
use Rattle.chain.specs.declared.pieces.Piece.{Piece}
use Rattle.chain.specs.Walks.{piece_text, gathered, Placed, Holds, ending}

piece_size : (memory : List ℕ) (q : Piece) → q.from + (q.end - q.start) ≤ length memory → q.start ≤ q.end → q.start + length (piece_text memory q) ≡ q.end
piece_size memory q fits order = omega (arith, length-take (q.end - q.start) (drop q.from memory), length-drop q.from memory)

placed_size : (memory : List ℕ) (own size : ℕ) (ps : List Piece) → Placed memory own size ps → own + length (gathered memory ps) ≡ size
placed_size memory own size [] h = omega (arith, h)
placed_size memory own size (q ∷ ps) h =
    omega (arith, h.0, h.1.0, h.1.1.0, piece_size memory q h.1.1.0 h.1.0, placed_size memory q.end size ps h.1.1.1, length-append (piece_text memory q) (gathered memory ps))

pub placed_length : (memory : List ℕ) (size : ℕ) (ps : List Piece) → Placed memory 0 size ps → length (gathered memory ps) ≡ size
placed_length memory size ps h = omega (arith, placed_size memory 0 size ps h)

pub placed_more : (memory : List ℕ) (own size : ℕ) (ps : List Piece) (q : Piece) → Placed memory own size ps → q.start ≡ size → q.start ≤ q.end → q.from + (q.end - q.start) ≤ length memory → Placed memory own q.end (ps ++ q ∷ [])
placed_more memory own size [] q h at order fits = (at ∙ sym h, (order, (fits, refl)))
placed_more memory own size (p ∷ ps) q h at order fits = (h.0, (h.1.0, (h.1.1.0, placed_more memory p.end size ps q h.1.1.1 at order fits)))

pub gathered_more : (memory : List ℕ) (ps : List Piece) (q : Piece) → gathered memory (ps ++ q ∷ []) ≡ gathered memory ps ++ piece_text memory q
gathered_more memory [] q = append-nil (piece_text memory q)
gathered_more memory (p ∷ ps) q =
    ap (λ l. piece_text memory p ++ l) (gathered_more memory ps q) ∙ sym (append_assoc (piece_text memory p) (gathered memory ps) (piece_text memory q))

-- the ends of the pieces rise
behind_own : (memory : List ℕ) (own size : ℕ) (ps : List Piece) (j : ℕ) (d : Piece) → Placed memory own size ps → j < length ps → own ≤ (get_or ps j d).end
behind_own memory own size [] j d h l = absurd (omega arith)
behind_own memory own size (q ∷ ps) zero d h l = omega (arith, h.0, h.1.0)
behind_own memory own size (q ∷ ps) (suc j) d h l = omega (arith, h.0, h.1.0, behind_own memory q.end size ps j d h.1.1.1 (omega arith))

pub rising : (memory : List ℕ) (own size : ℕ) (ps : List Piece) → Placed memory own size ps → IsNonDecreasingBy (λ q. q.end) ps
rising memory own size [] h i j d le l = absurd (omega arith)
rising memory own size (q ∷ ps) h zero zero d le l = omega arith
rising memory own size (q ∷ ps) h zero (suc j) d le l = behind_own memory q.end size ps j d h.1.1.1 (omega arith)
rising memory own size (q ∷ ps) h (suc i) zero d le l = absurd (omega arith)
rising memory own size (q ∷ ps) h (suc i) (suc j) d le l = rising memory q.end size ps h.1.1.1 i j d (omega arith) (omega arith)

-- what a piece says of a place
pub record Within (memory text : List ℕ) (own place : ℕ) (q : Piece) : Type 0 where
  pub low : q.start ≤ place
  pub within : q.from + (place - q.start) < length memory
  pub byte : slice_get text (place - own) ≡ Some (get_or memory (q.from + (place - q.start)) 0)

front : (xs ys : List ℕ) (p b : ℕ) → p < length xs → get_or xs p 0 ≡ b → slice_get (xs ++ ys) p ≡ Some b
front [] ys p b h e = absurd (omega arith)
front (x ∷ xs) ys zero b h e = ap Some e
front (x ∷ xs) ys (suc p) b h e = front xs ys p b (omega arith) e

back : (xs ys : List ℕ) (p q : ℕ) → p ≡ length xs + q → slice_get (xs ++ ys) p ≡ slice_get ys q
back [] ys p q e = ap (slice_get ys) (e ∙ (omega arith))
back (x ∷ xs) ys zero q e = absurd (omega arith)
back (x ∷ xs) ys (suc p) q e = back xs ys p q (omega arith)

further : (memory : List ℕ) (ps : List Piece) (own place : ℕ) (q x : Piece) → q.start ≡ own → q.start ≤ q.end → q.from + (q.end - q.start) ≤ length memory → q.end ≤ place → Within memory (gathered memory ps) q.end place x → Within memory (gathered memory (q ∷ ps)) own place x
further memory ps own place q x at order fits passed w =
    record {
      low = w.low;
      within = w.within;
      byte = back (piece_text memory q) (gathered memory ps) (place - own) (place - q.end) (omega (arith, piece_size memory q fits order)) ∙ w.byte;
    }

MatchOption_then : {X : Type 0} (o : Option X) (N : Type 0) {P Q : X → Type 0} → MatchOption o N P → ((x : X) → P x → Q x) → MatchOption o N Q
MatchOption_then None N h f = h
MatchOption_then (Some x) N h f = f x h

-- the piece with the first end past a place holds it, and where there is none the place is past the text
pub found : (memory : List ℕ) (own size : ℕ) (ps : List Piece) (k place : ℕ) → Placed memory own size ps → ((j : ℕ) (d : Piece) → j < k → (get_or ps j d).end ≤ place) → ((j : ℕ) (d : Piece) → k ≤ j → j < length ps → place < (get_or ps j d).end) → own ≤ place → MatchOption (slice_get ps k) (size ≤ place) (λ q. Within memory (gathered memory ps) own place q)
found memory own size [] k place h before behind from = omega (arith, h)
found memory own size (q ∷ ps) zero place h before behind from =
    let last = behind 0 q (omega arith) (omega arith) in
    let size_is = piece_size memory q h.1.1.0 h.1.0 in
    let offset : place - own ≡ place - q.start = omega (arith, h.0) in
    record {
      low = omega (arith, h.0);
      within = omega (arith, h.0, h.1.1.0);
      byte = front (piece_text memory q) (gathered memory ps) (place - own) (get_or memory (q.from + (place - q.start)) 0) (omega (arith, h.0)) (ap (λ n. get_or (piece_text memory q) n 0) offset ∙ (get_or-take (q.end - q.start) (drop q.from memory) (place - q.start) 0 (omega (arith, h.0)) ∙ get_or-drop q.from memory (place - q.start) 0));
    }
found memory own size (q ∷ ps) (suc k) place h before behind from =
    let passed = before 0 q (omega arith) in
    MatchOption_then (slice_get ps k) (size ≤ place) (found memory q.end size ps k place h.1.1.1 (λ j d l. before (suc j) d (omega arith)) (λ j d l m. behind (suc j) d (omega arith) (omega arith)) passed) (λ x w. further memory ps own place q x h.0 h.1.0 h.1.1.0 passed w)

pub nth_text : (bs : List ℕ) (end : List Cell) (p : ℕ) → p < length bs → slice_get (bytes bs ++ end) p ≡ Some (Byte (get_or bs p 0))
nth_text [] end p h = absurd (omega arith)
nth_text (b ∷ bs) end zero h = refl
nth_text (b ∷ bs) end (suc p) h = nth_text bs end p (omega arith)

pub nth_end : (bs : List ℕ) (end : List Cell) (p : ℕ) → length bs ≤ p → slice_get (bytes bs ++ end) p ≡ slice_get end (p - length bs)
nth_end [] end p h = let e : p ≡ p - 0 = omega arith in ap (slice_get end) e
nth_end (b ∷ bs) end zero h = absurd (omega arith)
nth_end (b ∷ bs) end (suc p) h =
    let e : p - length bs ≡ suc p - suc (length bs) = omega arith in nth_end bs end p (omega arith) ∙ ap (slice_get end) e

past : (damage : Option Fault) (k : ℕ) → 0 < k → slice_get (ending damage) k ≡ None
past None k h = refl
past (Some f) zero h = absurd (omega arith)
past (Some f) (suc k) h = refl

-- two lists of cells are equal in one way only
outright : (xs ys : List Cell) → ∥ xs ≡ ys ∥₁ → xs ≡ ys
outright xs ys e = ∥∥₁_elim e (Coded-set (coded_list the_row.coded) xs ys) (λ p. p)

-- the answers of a chain, where its text and its end are known
module _ (cells : List Cell) (bs : List ℕ) (damage : Option Fault) (n : ℕ) (known : ∥ cells ≡ bytes bs ++ ending damage ∥₁) (size : length bs ≡ n) where
  whole : cells ≡ bytes bs ++ ending damage
  whole = outright cells (bytes bs ++ ending damage) known

  pub length_is : length cells ≡ n + length (ending damage)
  length_is = ap length whole ∙ (length-append (bytes bs) (ending damage) ∙ ap (λ k. k + length (ending damage)) (length-map bs Byte ∙ size))

  pub answer_end : answer cells n ≡ told (slice_get (ending damage) 0)
  answer_end =
      let none_over : n - length bs ≡ 0 = omega arith in
      ap (λ l. answer l n) whole ∙ ap told (nth_end bs (ending damage) n (omega arith) ∙ ap (slice_get (ending damage)) none_over)

  pub answer_text : (p : ℕ) → p ≢ n → answer cells p ≡ Ok (slice_get bs p)
  answer_text p ne =
      ap (λ l. answer l p) whole
      ∙ ⊎_elim (λ h. ap told (nth_text bs (ending damage) p h) ∙ ap Ok (sym (slice_get-get_or bs p 0 h))) (λ h. ap told (nth_end bs (ending damage) p h ∙ past damage (p - length bs) (omega arith)) ∙ ap Ok (sym (slice_get_past bs p h))) (cases_lt p (length bs))

-- the piece that a search by ends gives
-- halving: the pieces before `low` end before a place or at it, those from `high` on behind it
pub record Halved (ps : List Piece) (place low high : ℕ) : Type 0 where
  pub order : low ≤ high
  pub inside : high ≤ length ps
  pub before : (j : ℕ) (d : Piece) → j < low → (get_or ps j d).end ≤ place
  pub behind : (j : ℕ) (d : Piece) → high ≤ j → j < length ps → place < (get_or ps j d).end

pub halved_all : (ps : List Piece) (place n : ℕ) → n ≡ length ps → Halved ps place 0 n
halved_all ps place n e =
    record { order = omega arith; inside = omega (arith, e); before = λ j d l. absurd (omega arith); behind = λ j d l m. absurd (omega (arith, e)) }

pub halved_on : (ps : List Piece) (place low high m : ℕ) (d : Piece) → IsNonDecreasingBy (λ q. q.end) ps → Halved ps place low high → m < high → (get_or ps m d).end ≤ place → Halved ps place (m + 1) high
halved_on ps place low high m d r h l e =
    record {
      order = omega arith;
      inside = h.inside;
      before = λ j x k. omega (arith, r j m x (omega arith) (omega (arith, h.inside)), ap (λ q. q.end) (get_or_default ps m x d (omega (arith, h.inside))), e);
      behind = h.behind;
    }

pub halved_back : (ps : List Piece) (place low high m : ℕ) (d : Piece) → IsNonDecreasingBy (λ q. q.end) ps → Halved ps place low high → low ≤ m → m < high → place < (get_or ps m d).end → Halved ps place low m
halved_back ps place low high m d r h o l e =
    record {
      order = o;
      inside = omega (arith, h.inside);
      before = h.before;
      behind = λ j x k n. omega (arith, r m j x k n, ap (λ q. q.end) (get_or_default ps m x d (omega (arith, h.inside))), e);
    }

pub searched : (memory : List ℕ) (size : ℕ) (ps : List Piece) (low high place : ℕ) → Placed memory 0 size ps → Halved ps place low high → high ≤ low → MatchOption (slice_get ps low) (size ≤ place) (λ q. Holds memory (gathered memory ps) place q)
searched memory size ps low high place h halved done =
    MatchOption_then (slice_get ps low) (size ≤ place) (found memory 0 size ps low place h halved.before (λ j d l m. halved.behind j d (omega (arith, done, l)) m) (omega arith)) (λ q w. record {
      low = w.low;
      within = w.within;
      byte = ap (slice_get (gathered memory ps)) (omega arith) ∙ w.byte;
    })
