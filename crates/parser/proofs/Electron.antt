-- Where the word `electron` stands, only a range and the unknown run are tried, behind it.
use Rattle.std.proofs.Common.{◌≡◌, ℕ, ◌+◌, Bool, true, false, cond, eqb, List, get_or, Some, None, codes, Option, unwrap_or, sym, refl, ap, ◌∙◌, arith}
use Rattle.std.proofs.lemmas.Bool.{eqb-true}
use Rattle.grammar.specs.Classes.{folds, lower, letter}
use Rattle.grammar.specs.Form.{atom, reads, give, bind, when, first, fail, decided, first_of}
use Rattle.grammar.specs.Forms.{percentage, browser, electron_or_browser, letters, lettered, among, committed, formed, unknown, ranging}
use Rattle.grammar.specs.Gives.{GivesValue, left}
use Rattle.grammar.specs.Rule.{ends, look, next}
use Rattle.scanner.specs.Position.{Position, Reads, ReadsOr}
use Rattle.grammar.specs.Tokens.{word, spelled, boundary}
use Rattle.grammar.specs.declared.query.QueryAtom.{QueryAtom}
use Rattle.grammar.specs.declared.query.QueryAtom.TheVariants.{Electron}

cond_same : (b : Bool) (p : ℕ) → cond b p p ≡ p
cond_same true p = refl
cond_same false p = refl

-- the word begins with its letter
begins : (t : List ℕ) (p e : ℕ) → ends (word (codes "electron")) t p ≡ Some e → lower (get_or t p 256) ≡ 101
unfolding spelled
begins t p e h = go (folds 101 (get_or t p 256)) refl h
  where
    rest : ℕ → Option ℕ
    rest e = ends (spelled (codes "lectron")) t e

    go : (v : Bool) → folds 101 (get_or t p 256) ≡ v → next (next (cond v (Some (p + 1)) None) rest) (λ e. ends boundary t e) ≡ Some e → lower (get_or t p 256) ≡ 101
    go true k h = eqb-true (lower (get_or t p 256)) 101 k
    go false k h = absurd (let z : ◌≡◌ {A = ℕ} 0 1 = cc in omega arith)

-- at the letter e the forms are electron's
lettered_e : (t : List ℕ) (p : ℕ) → lower (get_or t p 256) ≡ 101 → reads lettered t p ≡ reads electron_or_browser t p
lettered_e t p h =
    ap (λ l. decided (cond (eqb l 60) (Some p) None) (λ e. reads percentage t e)
    (decided (cond (eqb l 62) (Some p) None) (λ e. reads percentage t e)
    (decided (cond (eqb l 101) (Some p) None) (λ e. reads electron_or_browser t e)
    (reads (when (look letter) (first (among letters fail) browser) fail) t p)))) h

pub formed_is : (t : List ℕ) (p : ℕ) → reads formed t p ≡ first_of (reads lettered t p) (reads unknown t (committed t p))
formed_is t p = go (ends (word (codes "electron")) t p) refl
  where
    go : (o : Option ℕ) → ends (word (codes "electron")) t p ≡ o → reads {k = atom} formed t p ≡ first_of (reads {k = atom} lettered t p) (reads {k = atom} unknown t (committed t p))
    go None h =
        let stays : committed t p ≡ p = ap (λ o. cond (folds 101 (get_or t p 256)) (unwrap_or o p) p) h ∙ cond_same (folds 101 (get_or t p 256)) p in
        ap (λ o. decided o (λ e. reads {k = atom} (first (bind ranging (λ r. give (Electron r))) unknown) t e) (reads {k = atom} (first lettered unknown) t p)) h
        ∙ sym (ap (λ n. first_of (reads lettered t p) (reads unknown t n)) stays)
    go (Some e) h =
        let l = begins t p e h in
        let there : committed t p ≡ e = ap (λ n. cond (eqb n 101) (unwrap_or (ends (word (codes "electron")) t p) p) p) l ∙ ap (λ o. unwrap_or o p) h in
        let form : reads lettered t p ≡ reads {k = atom} (bind ranging (λ r. give (Electron r))) t e =
        lettered_e t p l ∙ ap (λ o. decided o (λ e. reads {k = atom} (bind ranging (λ r. give (Electron r))) t e) (reads browser t p)) h in
        ap (λ o. decided o (λ e. reads {k = atom} (first (bind ranging (λ r. give (Electron r))) unknown) t e) (reads {k = atom} (first lettered unknown) t p)) h
        ∙ sym (λ i. first_of (form i) (reads unknown t (there i)))

-- a form that fits
pub formed_first : (t : List ℕ) (p q : ℕ) (a : QueryAtom) → GivesValue (reads lettered t p) (Some a) (committed t p) q → GivesValue (reads formed t p) (Some a) (committed t p) q
formed_first t p q a g = (formed_is t p ∙ ap (λ o. first_of o (reads unknown t (committed t p))) g.0, refl)

-- else the unknown run, from the place that is left
pub formed_second : (t : List ℕ) (p m q : ℕ) (r : Option QueryAtom) → GivesValue (reads lettered t p) None (committed t p) m → GivesValue (reads unknown t m) r m q → GivesValue (reads formed t p) r (committed t p) q
formed_second t p m q r g h =
    (formed_is t p ∙ (ap (λ o. first_of o (reads unknown t (committed t p))) g.0 ∙ (ap (reads unknown t) g.1 ∙ h.0)), ap (left r q) g.1 ∙ h.1)

-- the same of cursors
pub formed_behind : (from mid to : Position) (r : Option QueryAtom) → ReadsOr lettered committed None from mid → Reads unknown r mid to → ReadsOr formed committed r from to
formed_behind from mid to r g h =
    let k = g.0 in
    (h.0 ∙ k, formed_second from.text from.place mid.place to.place r g.1 (ap (λ t. reads unknown t mid.place) (sym k) ∙ h.1.0, h.1.1))
