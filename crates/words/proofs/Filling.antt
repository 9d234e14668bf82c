-- Words filled with a reading, or left alone.
use Rattle.std.proofs.Common.{◌≡◌, ℕ, suc, ◌+◌, ◌-◌, ◌*◌, ◌/◌, ◌<◌, ◌≤◌, cond, ltb, List, [], ◌∷◌, ◌++◌, map, length, drop, sym, refl, ap, ◌∙◌, suc-mul, le-div_iff_mul-le, zero-mul, arith, length-append, length-drop}
use lib.Seq.{paste}
use Rattle.std.specs.List.{flat_map}
use Rattle.std.proofs.lemmas.List.{append_assoc, append-nil, drop-drop, drop_at, take_at, take_all}
use Rattle.std.proofs.lemmas.Bool.{cond-true, lt-ltb}
use Rattle.texts.specs.declared.cell.Cell.{Cell}
use Rattle.reader.specs.Standing.{Standing}
use Rattle.whole.specs.Slots.{gaps}
use Rattle.whole.specs.Walks.{Walks}
use Rattle.whole.specs.Whole.{Fits}
use Rattle.whole.proofs.Filling.{walk_counts, enough_room}
use Rattle.whole.proofs.Wholes.{gaps_are, gaps_count}
use Rattle.exports.specs.Layout.{words_of}
use Rattle.exports.specs.Put.{put_slot}
use Rattle.records.specs.Layout.{places_of}
use Rattle.whole.specs.declared.walk.Walk.{Walk}
use Rattle.words.specs.declared.steps.Slices.{Slices}
use Rattle.words.specs.Fill.{FilledWords}
use Rattle.words.specs.Put.{put_slots}
use Rattle.words.specs.Steps.{Writes}
use Rattle.words.proofs.Slots.{written}

-- a record behind others that fill all words before it
put_behind : (front rest r : List ℕ) (n w : ℕ) → length r ≡ w → length front ≡ n * w → n < length (front ++ rest) / w → put_slot (front ++ rest) n r ≡ (front ++ r) ++ drop w rest
unfolding put_slot
put_behind front rest r n w ew ef h =
    let wide : ℕ → List ℕ = λ v. cond (ltb n (length (front ++ rest) / v)) (paste (front ++ rest) (n * v) r v) (front ++ rest) in
    let behind : drop (n * w + w) (front ++ rest) ≡ drop w rest = sym (drop-drop w (n * w) (front ++ rest)) ∙ ap (drop w) (drop_at front rest (n * w) ef) in
    ap wide ew
    ∙ (cond-true (ltb n (length (front ++ rest) / w)) (paste (front ++ rest) (n * w) r w) (front ++ rest) (lt-ltb n (length (front ++ rest) / w) h)
    ∙ (λ i. (take_at front rest (n * w) ef i ++ take_all w r (omega (arith, ew)) i) ++ behind i))

-- equally long records one behind another, with room for all of them
put_all : {X : Type 0} (f : X → List ℕ) (w : ℕ) → 0 < w → ((x : X) → length (f x) ≡ w) → (xs : List X) (front rest : List ℕ) (n : ℕ) → length front ≡ n * w → length xs * w ≤ length rest → put_slots (front ++ rest) n (map f xs) ≡ (front ++ flat_map f xs) ++ drop (length xs * w) rest
put_all f w some wide [] front rest n ef h = λ i. sym (append-nil front) i ++ drop (sym (zero-mul w) i) rest
put_all f w some wide (x ∷ xs) front rest n ef h =
    let more : length (x ∷ xs) * w ≡ length xs * w + w = suc-mul (length xs) w in
    let one : n + 1 ≡ suc n = omega arith in
    let next : (n + 1) * w ≡ n * w + w = ap (λ m. m * w) one ∙ suc-mul n w in
    let room : n < length (front ++ rest) / w = (le-div_iff_mul-le {k = w} {x = suc n} {y = length (front ++ rest)} some).1 (omega (arith, suc-mul n w, more, h, ef, length-append front rest)) in
    let front' : length (front ++ f x) ≡ (n + 1) * w = length-append front (f x) ∙ omega (arith, ef, wide x, next) in
    let past : w + length xs * w ≡ length (x ∷ xs) * w = omega (arith, more) in
    let rest' : length xs * w ≤ length (drop w rest) = omega (arith, more, h, length-drop w rest) in
    ap (λ l. put_slots l (n + 1) (map f xs)) (put_behind front rest (f x) n w (wide x) ef room)
    ∙ (put_all f w some wide xs (front ++ f x) (drop w rest) (n + 1) front' rest'
    ∙ (λ i. append_assoc front (f x) (flat_map f xs) i ++ (drop-drop (length xs * w) w rest ∙ ap (λ m. drop m rest) past) i))

-- the same from the first word on
put_first : {X : Type 0} (f : X → List ℕ) (w : ℕ) → 0 < w → ((x : X) → length (f x) ≡ w) → (xs : List X) (words : List ℕ) (m : ℕ) → length xs ≡ m → m ≤ length words / w → put_slots words 0 (map f xs) ≡ flat_map f xs ++ drop (m * w) words
put_first f w some wide xs words m e h =
    put_all f w some wide xs [] words 0 (sym (zero-mul w)) ((le-div_iff_mul-le {k = w} {x = length xs} {y = length words} some).0 (omega (arith, e, h)))
    ∙ ap (λ k. flat_map f xs ++ drop (k * w) words) e

-- what steps through a text with a reading wrote into words where it fits
pub filled : (cells : List Cell) (n : ℕ) (reader : Standing) (w : Walk) (a b : Slices) → Fits cells (length a.queries.now / 24) (length a.separators.now / 2) reader n → Walks Writes reader.codes w a b → FilledWords cells a.queries.now b.queries.now a.separators.now b.separators.now n
filled cells n reader w a b f g =
    let l = enough_room (length a.queries.now / 24) (length a.separators.now / 2) n f.room in
    let x = walk_counts cells reader.codes n f.counts g.given g.stop f.codes g.walk in
    let d : length (gaps g.given) ≡ n - 1 = gaps_count g.given ∙ ap (λ m. m - 1) x.2 in
    let all = written a b g.given g.taken in
    record {
      counts = f.counts;
      fits = f.room;
      laid = all.queries ∙ (put_first words_of 24 (omega arith) (λ y. refl) g.given a.queries.now n x.2 l.0 ∙ ap (λ l. flat_map words_of l ++ drop (n * 24) a.queries.now) x.0);
      parted = all.separators ∙ (put_first places_of 2 (omega arith) (λ y. refl) (gaps g.given) a.separators.now (n - 1) d l.1 ∙ ap (λ l. flat_map places_of l ++ drop ((n - 1) * 2) a.separators.now) (ap gaps x.0 ∙ gaps_are f.counts.turns));
    }
