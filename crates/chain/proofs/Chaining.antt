-- The walk along a chain: one more piece, and the end.
use Rattle.std.proofs.Common.{◌≡◌, ℕ, zero, suc, ◌+◌, ◌-◌, ◌*◌, ◌<◌, ◌≤◌, List, [], ◌∷◌, ◌++◌, length, take, drop, Some, None, sym, ap, ◌∙◌, arith, length-append, length-drop, length-take}
use Rattle.std.proofs.lemmas.List.{drop-take, take-take, drop-drop, append_assoc, map-append}
use Rattle.texts.specs.declared.cell.Cell.TheVariants.{Byte, Bad}
use Rattle.texts.specs.Cells.{bytes}
use Rattle.chain.specs.declared.damage.Damage.{Damage}
use Rattle.chain.specs.declared.damage.Damage.TheVariants.{TooMany}
use Rattle.chain.specs.declared.pieces.Piece.{Piece}
use Rattle.chain.specs.Damages.{fault_of}
use Rattle.chain.specs.Records.{next_of, used_of, text_of}
use Rattle.chain.specs.Chains.{records_of, record_at, damage_at, broken, unless, chain_from}
use Rattle.chain.specs.Short.{taken_is}
use Rattle.chain.specs.Walks.{gathered, piece_text, Walked}
use Rattle.chain.proofs.Gathering.{placed_more, gathered_more}

pub record_size : (memory : List ℕ) (number : ℕ) → number < records_of memory → length (record_at memory number) ≡ 64
record_size memory number h = simp (length-take, length-drop) (omega arith)

-- the cells from an index on: damage, or the record's text and what follows
pub chain_broken : (memory : List ℕ) (left own number : ℕ) (damage : Damage) → Some damage ≡ damage_at memory left number → chain_from memory left own (suc number) ≡ broken damage own
chain_broken memory zero own number damage e =
    let same : damage ≡ TooMany = cc in ap (λ d. broken d own) (sym same)
chain_broken memory (suc left) own number damage e =
    let r = record_at memory number in
    ap (λ o. unless o own (bytes (text_of r) ++ chain_from memory left (own + length (text_of r)) (next_of r))) (sym e)

chain_more : (memory : List ℕ) (left own number : ℕ) → None ≡ damage_at memory left number → chain_from memory left own (suc number) ≡ bytes (text_of (record_at memory number)) ++ chain_from memory (left - 1) (own + length (text_of (record_at memory number))) (next_of (record_at memory number))
chain_more memory zero own number e = absurd (omega (arith, (taken_is memory zero number (sym e)).0))
chain_more memory (suc left) own number e =
    let r = record_at memory number in
    let one_less : left ≡ suc left - 1 = omega arith in
    ap (λ o. unless o own (bytes (text_of r) ++ chain_from memory left (own + length (text_of r)) (next_of r))) (sym e)
    ∙ ap (λ n. bytes (text_of r) ++ chain_from memory n (own + length (text_of r)) (next_of r)) one_less

-- the used text of a record, as a piece of the memory
text_piece : (memory : List ℕ) (number : ℕ) → used_of (record_at memory number) ≤ 60 → text_of (record_at memory number) ≡ take (used_of (record_at memory number)) (drop (number * 64 + 4) memory)
text_piece memory number h =
    let used = used_of (record_at memory number) in
    ap (take used) (drop-take 4 60 (drop (number * 64) memory))
    ∙ (take-take used 60 (drop 4 (drop (number * 64) memory)) h ∙ ap (take used) (drop-drop 4 (number * 64) memory))

text_size : (memory : List ℕ) (number : ℕ) → number < records_of memory → used_of (record_at memory number) ≤ 60 → length (text_of (record_at memory number)) ≡ used_of (record_at memory number)
text_size memory number there h =
    let r = record_at memory number in
    omega (arith, length-take (used_of r) (drop 4 r), length-drop 4 r, record_size memory number there)

-- the chain, with one more piece
module _ (memory : List ℕ) (first size : ℕ) (ps : List Piece) (index number : ℕ) (is : index ≡ suc number) (walked_to : Walked memory first ps size (chain_from memory (records_of memory - length ps) size index)) where
  walked : Walked memory first ps size (chain_from memory (records_of memory - length ps) size (suc number))
  walked = rw (← is) walked_to

  pub walked_broken : (damage : Damage) → Some damage ≡ damage_at memory (records_of memory - length ps) number → Walked memory first ps size (Bad (fault_of damage size) ∷ [])
  walked_broken damage e =
      record {
        within = walked.within;
        low = walked.low;
        placed = walked.placed;
        whole = walked.whole ∙ ap (λ l. bytes (gathered memory ps) ++ l) (chain_broken memory (records_of memory - length ps) size number damage e);
      }

  pub walked_more : (q : Piece) → None ≡ damage_at memory (records_of memory - length ps) number → q.start ≡ size → q.end ≡ size + used_of (record_at memory number) → q.from ≡ number * 64 + 4 → Walked memory first (ps ++ q ∷ []) q.end (chain_from memory (records_of memory - length (ps ++ q ∷ [])) q.end (next_of (record_at memory number)))
  walked_more q fine is_start is_end is_from =
      let r = record_at memory number in
      let ok = taken_is memory (records_of memory - length ps) number (sym fine) in
      let more : length (ps ++ q ∷ []) ≡ length ps + 1 = length-append ps (q ∷ []) in
      let used : q.end - q.start ≡ used_of r = omega arith in
      let text : text_of r ≡ piece_text memory q = text_piece memory number ok.2 ∙ (ap (λ n. take n (drop (number * 64 + 4) memory)) (sym used) ∙ ap (λ n. take (q.end - q.start) (drop n memory)) (sym is_from)) in
      let size_of : size + length (text_of r) ≡ q.end = omega (arith, text_size memory number ok.1 ok.2) in
      let left : records_of memory - length ps - 1 ≡ records_of memory - length (ps ++ q ∷ []) = omega arith in
      record {
        within = omega (arith, ok.0);
        low = omega (arith, walked.low, ok.2);
        placed = placed_more memory 0 size ps q walked.placed is_start (omega arith) (omega (arith, ok.1, ok.2));
        whole = walked.whole
            ∙ (ap (λ l. bytes (gathered memory ps) ++ l) (chain_more memory (records_of memory - length ps) size number fine ∙ (ap (λ n. bytes (text_of r) ++ chain_from memory n (size + length (text_of r)) (next_of r)) left ∙ ap (λ n. bytes (text_of r) ++ chain_from memory (records_of memory - length (ps ++ q ∷ [])) n (next_of r)) size_of))
            ∙ (sym (append_assoc (bytes (gathered memory ps)) (bytes (text_of r)) (chain_from memory (records_of memory - length (ps ++ q ∷ [])) q.end (next_of r)))
            ∙ ap (λ l. l ++ chain_from memory (records_of memory - length (ps ++ q ∷ [])) q.end (next_of r)) (sym (ap bytes (gathered_more memory ps q ∙ ap (λ l. gathered memory ps ++ l) (sym text)) ∙ map-append Byte (gathered memory ps) (text_of r)))));
      }
