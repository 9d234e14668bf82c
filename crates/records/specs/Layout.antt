-- A separator as two numbers.
use Rattle.std.specs.Prelude.{List, [], ◌∷◌, ℕ}
use Rattle.whole.specs.declared.reading.Separator.{Separator}

-- the two words of a separator
abbrev pub places_of : Separator → List ℕ
places_of s = s.start ∷ s.end ∷ []
