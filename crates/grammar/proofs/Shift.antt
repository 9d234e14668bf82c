-- What stands before a place does not matter to a rule that begins there.
use Rattle.std.proofs.Common.{◌≡◌, ℕ, ◌+◌, Bool, true, false, cond, List, get_or, drop, is_some, Some, None, Option, sym, refl, ap, ◌∙◌, add-zero, add_assoc, arith, drop-drop}
use Rattle.std.specs.Option.{option_map}
use Rattle.std.proofs.lemmas.List.{get_or-drop}
use Rattle.grammar.specs.Rule.{Rule, nothing, one, look, run, then, else, unless, ends, span, next, or_else, without}

mapped_cond : (f : ℕ → ℕ) (b : Bool) (n : ℕ) → option_map f (cond b (Some n) None) ≡ cond b (Some (f n)) None
mapped_cond f true n = refl
mapped_cond f false n = refl

mapped_or : (f : ℕ → ℕ) (o u : Option ℕ) → option_map f (or_else o u) ≡ or_else (option_map f o) (option_map f u)
mapped_or f None u = refl
mapped_or f (Some e) u = refl

mapped_without : (f : ℕ → ℕ) (o u : Option ℕ) → option_map f (without o u) ≡ without (option_map f o) (option_map f u)
mapped_without f None u = refl
mapped_without f (Some e) u = refl

mapped_next : (f : ℕ → ℕ) (o : Option ℕ) (go to : ℕ → Option ℕ) → ((e : ℕ) → to (f e) ≡ option_map f (go e)) → next (option_map f o) to ≡ option_map f (next o go)
mapped_next f None go to h = refl
mapped_next f (Some e) go to h = h e

pub shift : (r : Rule) (t : List ℕ) (p q : ℕ) → ends r t (p + q) ≡ option_map (λ e. p + e) (ends r (drop p t) q)
shift nothing t p q = refl
shift (one f) t p q =
    ap (λ b. cond (f b) (Some ((p + q) + 1)) None) (sym (get_or-drop p t q 256))
    ∙ (ap (λ n. cond (f (get_or (drop p t) q 256)) (Some n) None) (add_assoc p q 1)
    ∙ sym (mapped_cond (λ e. p + e) (f (get_or (drop p t) q 256)) (q + 1)))
shift (look f) t p q =
    ap (λ b. cond (f b) (Some (p + q)) None) (sym (get_or-drop p t q 256))
    ∙ sym (mapped_cond (λ e. p + e) (f (get_or (drop p t) q 256)) q)
shift (run r) t p q =
    let n : ℕ = span (λ s. is_some (ends r s 0)) (drop q (drop p t)) in
    let e : drop (p + q) t ≡ drop q (drop p t) = ap (λ k. drop k t) (omega arith) ∙ sym (drop-drop q p t) in
    ap (λ l. Some ((p + q) + span (λ s. is_some (ends r s 0)) l)) e ∙ ap Some (add_assoc p q n)
shift (then r s) t p q =
    ap (λ o. next o (λ e. ends s t e)) (shift r t p q)
    ∙ mapped_next (λ e. p + e) (ends r (drop p t) q) (λ e. ends s (drop p t) e) (λ e. ends s t e) (λ e. shift s t p e)
shift (else r s) t p q =
    (λ i. or_else (shift r t p q i) (shift s t p q i)) ∙ sym (mapped_or (λ e. p + e) (ends r (drop p t) q) (ends s (drop p t) q))
shift (unless r s) t p q =
    (λ i. without (shift r t p q i) (shift s t p q i)) ∙ sym (mapped_without (λ e. p + e) (ends r (drop p t) q) (ends s (drop p t) q))

some_mapped : (f : ℕ → ℕ) (o : Option ℕ) → is_some (option_map f o) ≡ is_some o
some_mapped f None = refl
some_mapped f (Some e) = refl

-- the test of a run, by place
pub fits_at : (r : Rule) (t : List ℕ) (p : ℕ) → is_some (ends r (drop p t) 0) ≡ is_some (ends r t p)
fits_at r t p = sym (ap (λ n. is_some (ends r t n)) (sym (add-zero p)) ∙ (ap is_some (shift r t p 0) ∙ some_mapped (λ e. p + e) (ends r (drop p t) 0)))
