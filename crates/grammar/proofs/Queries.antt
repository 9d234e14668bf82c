-- The query and the separator pass the tests, so that the laws hold of them.
use Rattle.std.proofs.Common.{◌≡◌, ℕ, ◌+◌, ◌-◌, ◌<◌, true, false, cond, List, ◌∷◌, ◌++◌, length, get_or, Some, None, codes, refl, ap, ◌∙◌, subst, inl, inr, ⊎_elim, arith}
use Rattle.std.proofs.lemmas.Bool.{cases_lt}
use Rattle.std.proofs.lemmas.List.{get_or_append_left, get_or-append-add}
use Rattle.grammar.specs.Classes.{is, blank}
use Rattle.grammar.specs.Rule.{Rule, look, ends}
use Rattle.grammar.specs.Tokens.{byte, spelled, word, blanks, any_blanks}
use Rattle.grammar.specs.Form.{Kind, flag, query, Form, give, fail, when, skip, decided, reads}
use Rattle.grammar.specs.Forms.{ranging, percentage, browser, electron_or_browser, among, letters, lettered, unknown, formed, querying, separating}
use Rattle.grammar.specs.Stands.{Longest, longest_end, longest_stop, longest_on}
use Rattle.grammar.specs.Tests.{TameForm, ShyForm, SolidForm}
use Rattle.grammar.specs.Queries.{Fits, QueryFits, SeparatorFits, QueryBlind, SeparatorApart, SeparatorComma}
use Rattle.grammar.proofs.Meaning.{run_end, stands_ends, ends_stands, told_longest, reads_says}
use Rattle.grammar.proofs.Within.{stands_within, says_within, says_progress}
use Rattle.grammar.proofs.Blind.{run_none, at_comma, rule_blind, form_blind, decided_same, shy_tame}

shy_percentage : ShyForm percentage
unfolding spelled
shy_percentage = search tt depth 20

shy_browser : ShyForm browser
unfolding spelled
shy_browser = search tt depth 20

shy_ranging : ShyForm ranging
unfolding spelled
shy_ranging = search tt depth 20

shy_electron_or_browser : ShyForm electron_or_browser
unfolding spelled
shy_electron_or_browser = search tt depth 20

shy_letters : ShyForm (among letters fail)
unfolding spelled
shy_letters = (refl, search tt depth 20, (refl, search tt depth 20, (refl, search tt depth 20, (refl, search tt depth 20, (refl, search tt depth 20, (refl, search tt depth 20, (refl, search tt depth 20, (refl, search tt depth 20, (refl, search tt depth 20, (refl, search tt depth 20, (refl, search tt depth 20, tt)))))))))))

shy_lettered : ShyForm lettered
unfolding spelled
shy_lettered = (refl, shy_percentage, (refl, shy_percentage, (refl, shy_electron_or_browser, (refl, (shy_letters, shy_browser), tt))))

shy_unknown : ShyForm unknown
unfolding spelled
shy_unknown = search tt depth 20

shy_formed : ShyForm formed
unfolding spelled
shy_formed = (refl, ((shy_ranging, λ r. tt), shy_unknown), (shy_lettered, shy_unknown))

pub shy_query : ShyForm querying
unfolding spelled
shy_query = ((refl, tt, tt), λ negated. (shy_formed, λ a. tt))

pub tame_query : TameForm querying
unfolding spelled
tame_query = shy_tame querying shy_query

pub tame_separator : TameForm separating
unfolding spelled
tame_separator = search tt depth 20

solid_letters : SolidForm (among letters fail)
unfolding spelled
solid_letters = (inr ((inl refl, tt), (inl refl, tt)), (inr (inl refl, tt), (inr ((inl refl, tt), (inl refl, tt)), (inr ((inl refl, tt), (inl refl, tt)), (inr (inl refl, tt), (inr ((inl refl, tt), (inl refl, tt)), (inr (inl refl, tt), (inr (inl refl, tt), (inr ((inl refl, tt), (inl refl, tt)), (inr (inl refl, tt), (inr ((inl refl, tt), (inl refl, tt)), tt)))))))))))

solid_percentage : SolidForm percentage
unfolding spelled
solid_percentage = inl (inl refl, (inl refl, tt))

solid_lettered : SolidForm lettered
unfolding spelled
solid_lettered = (inr solid_percentage, (inr solid_percentage, (inr (inl refl, inl refl), (inr (solid_letters, inl refl), tt))))

pub solid_query : SolidForm querying
unfolding spelled
solid_query = inr (λ negated. inl (inl refl, (solid_lettered, inl refl)))

pub solid_separator : SolidForm separating
unfolding spelled
solid_separator = search (inl, inr, tt) depth 20

fits : (k : Kind) (x : Form k) → TameForm x → SolidForm x → Fits k x
fits k x m s t p v e l h = let a = reads_says t k x p v e h in (says_progress a s, (says_within a m l).1)

pub query_fits : QueryFits
query_fits = fits query querying tame_query solid_query

pub separator_fits : SeparatorFits
separator_fits = fits flag separating tame_separator solid_separator

pub query_blind : QueryBlind
query_blind a b p l = form_blind a b querying shy_query p l

-- a run ends before the last code, if its rule is missing there
longest_before : {t : List ℕ} {r : Rule} {p e : ℕ} → Longest t r p e → p < length t → ends r t (length t - 1) ≡ None → e < length t
longest_before (longest_end h) l n = absurd (omega arith)
longest_before (longest_stop h m) l n = l
longest_before {t} (longest_on {r = r} {p = p} {m = m} h a k) l n =
    ⊎_elim (λ i. longest_before k i n)
    (λ i. let e : length t - 1 ≡ p = omega arith in
    let x = stands_ends a in
    let y : ends r t p ≡ None = subst (λ q. ends r t q ≡ None) e n in
    let z : ◌≡◌ {A = ℕ} 0 1 = cc in absurd (omega arith))
    (cases_lt (p + 1) (length t))

-- what follows the blanks of a separator
abbrev behind_comma : Form flag
behind_comma = skip any_blanks (give false)

abbrev conjoined : Form flag
conjoined = when (word (codes "and")) (skip blanks (give true)) (skip (word (codes "or")) (skip blanks (give false)))

abbrev separated : Form flag
separated = when (byte 44) behind_comma conjoined

no_blank : (t : List ℕ) (p : ℕ) → blank (get_or t p 256) ≡ false → ends (look blank) t p ≡ None
no_blank t p h = ap (λ c. cond c (Some p) None) h

pub separator_apart : SeparatorApart
unfolding spelled
separator_apart a b p l h =
    let t = a ++ 44 ∷ b in
    let m = run_end (look blank) a p in
    let here : m < length a = longest_before (told_longest a (look blank) p) l (no_blank a (length a - 1) h) in
    let runs : ends any_blanks t p ≡ Some m = rule_blind a b any_blanks refl refl p (omega arith) in
    let comma : ends (byte 44) t m ≡ ends (byte 44) a m = ap (λ c. cond (is 44 c) (Some (m + 1)) None) (get_or_append_left a (44 ∷ b) 256 m here) in
    ap (λ o. decided o (λ e. reads separated t e) None) runs
    ∙ (ap (λ o. decided o (λ e. reads behind_comma t e) (reads conjoined t m)) comma
    ∙ decided_same (ends (byte 44) a m) (λ e. reads behind_comma t e) (λ e. reads behind_comma a e) (reads conjoined t m) (reads conjoined a m)
    (λ e k. form_blind a b behind_comma (refl, tt, tt) e (stands_within (ends_stands a (byte 44) m e k) refl (omega arith)).1) (form_blind a b conjoined (refl, (refl, tt, tt), (refl, (refl, tt, tt), tt)) m (omega arith)))

pub separator_comma : SeparatorComma
separator_comma a b h =
    let t = a ++ 44 ∷ b in
    let n = length a in
    let runs : run_end (look blank) t n ≡ n = run_none (look blank) t n (no_blank t n (ap blank (at_comma a b))) in
    let after : run_end (look blank) t (n + 1) ≡ n + 1 = run_none (look blank) t (n + 1) (no_blank t (n + 1) (ap blank (get_or-append-add a (44 ∷ b) 1 256) ∙ h)) in
    ap (reads separated t) runs
    ∙ (ap (λ c. decided (cond (is 44 c) (Some (n + 1)) None) (λ e. reads behind_comma t e) (reads conjoined t n)) (at_comma a b)
    ∙ ap (λ m. Some (false, m)) after)
