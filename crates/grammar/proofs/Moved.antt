-- The query and the separator say the same behind more codes, so that they make a sound grammar, and the laws of readings hold of it.
use Rattle.std.proofs.Common.{◌≡◌, ℕ, Bool, Some, None, refl}
use Rattle.grammar.specs.Form.{Value, option, date, atom, flag, query, fail}
use Rattle.grammar.specs.Forms.{availability, browser, among, letters, lettered, querying, separating}
use Rattle.grammar.specs.Along.{along, Moves, moves_give, moves_fail, moves_spot, moves_read, moves_bind, moves_when, moves_first, queries}
use Rattle.grammar.specs.Readings.{Sound, Single, Spells, Joins}
use Rattle.grammar.proofs.Along.{form_shift}
use Rattle.grammar.proofs.Queries.{query_fits, separator_fits, query_blind, separator_apart, separator_comma}
use Rattle.grammar.proofs.Readings.{single, spells, joins}

-- a date has no places
same_date : (n : ℕ) (newly : Bool) (d : Value (option date)) → availability newly d ≡ availability newly (along (option date) n d)
same_date n newly None = refl
same_date n newly (Some d) = refl

ruleset moving = (moves_give, moves_fail, moves_spot, moves_read, moves_bind, moves_when, moves_first, same_date, refl)

browser_moves : (n : ℕ) → Moves n atom browser browser
browser_moves n = search moving depth 30

letters_moves : (n : ℕ) → Moves n atom (among letters fail) (among letters fail)
letters_moves n = (moves_when (search moving depth 30) (moves_when (search moving depth 30) (moves_when (search moving depth 30) (moves_when (search moving depth 30) (moves_when (search moving depth 30) (moves_when (search moving depth 30) (moves_when (search moving depth 30) (moves_when (search moving depth 30) (moves_when (search moving depth 30) (moves_when (search moving depth 30) (moves_when (search moving depth 30) moves_fail)))))))))))

lettered_moves : (n : ℕ) → Moves n atom lettered lettered
lettered_moves n =
    moves_when (search moving depth 30)
    (moves_when (search moving depth 30)
    (moves_when (search moving depth 30)
    (moves_when (moves_first (letters_moves n) (browser_moves n)) moves_fail)))

pub query_moves : (n : ℕ) → Moves n query querying querying
query_moves n = search (moving, lettered_moves) depth 30

pub separator_moves : (n : ℕ) → Moves n flag separating separating
separator_moves n = search moving depth 30

pub sound : Sound queries
sound = record {
  query_fits = query_fits;
  separator_fits = separator_fits;
  query_blind = query_blind;
  separator_apart = separator_apart;
  separator_comma = separator_comma;
  query_shift = λ t n p. form_shift (query_moves n) t p;
  separator_shift = λ t n p. form_shift (separator_moves n) t p;
}

pub query_single : Single queries
query_single = single queries sound

pub query_spells : Spells queries
query_spells = spells queries sound

pub query_joins : Joins queries
query_joins = joins queries sound
