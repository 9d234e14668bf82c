-- The forms that a first letter picks, the letter being known in lower case.
use Rattle.std.specs.Prelude.{ℕ, cond, ◌&&◌, List, [], ◌∷◌, codes, ◌==◌, nat_le}
use Rattle.std.specs.Option.{unwrap_or}
use Rattle.grammar.specs.Form.{Form, atom, fail, first}
use Rattle.grammar.specs.Forms.{percentage, browser, electron_or_browser, letters}
use Rattle.grammar.specs.Rule.{ends}
use Rattle.grammar.specs.Tokens.{word}

-- the form of this letter, else the other
abbrev pub picked : List (ℕ × Form atom) → Form atom → ℕ → Form atom
picked [] other l = other
picked (x ∷ xs) other l = cond (l == x.0) x.1 (picked xs other l)

-- a letter's own forms
abbrev pub keyworded : ℕ → Form atom
keyworded l = picked letters fail l

-- all forms of a letter
abbrev pub by_letter : ℕ → Form atom
by_letter l =
    cond (l == 60) percentage
    (cond (l == 62) percentage
    (cond (l == 101) electron_or_browser
    (cond (nat_le 97 l && nat_le l 122) (first (keyworded l) browser) fail)))

-- the place that they leave where none fits
abbrev pub left_by : ℕ → List ℕ → ℕ → ℕ
left_by l t p = cond (l == 101) (unwrap_or (ends (word (codes "electron")) t p) p) p
