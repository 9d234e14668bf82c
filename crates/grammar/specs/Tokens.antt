-- The rules of tokens: words, blanks, numbers, versions, names, regions, and what stands between queries.
use Rattle.std.specs.Prelude.{ℕ, Bool, not, List, [], ◌∷◌, codes}
use Rattle.grammar.specs.Classes.{is, folds, letter, digit, blank, wordly, naming, featured, numeral, present}
use Rattle.grammar.specs.Rule.{Rule, nothing, one, look, run, then, else, unless}

-- this byte
abbrev pub byte : ℕ → Rule
byte c = one (is c)

-- it, or nothing
abbrev pub maybe : Rule → Rule
maybe r = else r nothing

-- the longest run of a class, which may be empty
abbrev pub any : (ℕ → Bool) → Rule
any f = run (look f)

-- the longest run of a class, of one code at least
abbrev pub some : (ℕ → Bool) → Rule
some f = then (one f) (any f)

-- these bytes, letters in either case
unfoldable pub spelled : List ℕ → Rule
spelled [] = nothing
spelled (c ∷ w) = then (one (folds c)) (spelled w)

-- no letter, digit or `_` is next
abbrev pub boundary : Rule
boundary = look (λ b. not (wordly b))

-- a word
abbrev pub word : List ℕ → Rule
word w = then (spelled w) boundary

-- a word that may have one more `s`
abbrev pub plural : List ℕ → Rule
plural w = then (spelled w) (then (maybe (one (folds 115))) boundary)

abbrev pub blanks : Rule
blanks = some blank

abbrev pub any_blanks : Rule
any_blanks = any blank

-- `-` or `+`
abbrev pub sign : Rule
sign = else (byte 45) (byte 43)

-- a point and any digits
abbrev pub fraction : Rule
fraction = then (byte 46) (any digit)

-- an optional sign, any digits, and optionally a point with any digits; one digit at least
abbrev pub numeric : Rule
numeric = then (maybe sign) (else (then (some digit) (maybe fraction)) (then (byte 46) (some digit)))

-- a digit, or a point that a digit or a point follows
abbrev pub inner : Rule
inner = else (look digit) (then (byte 46) (look numeral))

-- a digit, then all digits and points but for one last point
abbrev pub version : Rule
version = then (one digit) (run inner)

abbrev pub name : Rule
name = some naming

abbrev pub feature : Rule
feature = some featured

-- `alt-`, if present, and two letters
abbrev pub region : Rule
region = then (maybe (spelled (codes "alt-"))) (then (one letter) (one letter))

-- a name that is just this word
abbrev pub exactly : List ℕ → Rule
exactly w = then (spelled w) (look (λ b. not (naming b)))

-- `version` or `versions`: no name of a browser behind `unreleased`
abbrev pub versions : Rule
versions = else (exactly (codes "version")) (exactly (codes "versions"))

-- nor one of these behind `last`
abbrev pub reserved : Rule
reserved = else versions (else (exactly (codes "major")) (else (exactly (codes "year")) (exactly (codes "years"))))

-- `and` or `or`, then a blank
abbrev pub conjunction : Rule
conjunction = then (else (spelled (codes "and")) (spelled (codes "or"))) (one blank)

-- where an operator stands: at a comma, or at a blank whose blanks a conjunction follows
abbrev pub operator : Rule
operator = else (byte 44) (then blanks conjunction)

-- a byte at which no operator stands
abbrev pub plain : Rule
plain = unless operator (look present)

-- the shortest run, not empty, up to an operator or the end
abbrev pub unknown_run : Rule
unknown_run = then (unless operator (one present)) (run plain)
