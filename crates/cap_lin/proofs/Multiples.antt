-- The loop that multiplies a list of parts: each lemma is one way through it.
use Rattle.std.proofs.Common.{◌≡◌, ℕ, zero, suc, ℤ, ◌*ℤ◌, List, [], ◌∷◌, ◌++◌, ◌+◌, ◌<◌, ◌≤◌, length, get_or, drop, arith, append_assoc, add-one, refl, drop-cons, sym, ◌∙◌, Option, None, FitsSigned}
use Rattle.std.proofs.lemmas.List.{drop_all}
use Rattle.std.proofs.lemmas.Grind.{common_steps}
use mir.Syntax.{w128}
use Rattle.cap_lin.specs.Linear.{put_part, multiples}
use Rattle.cap_lin.specs.Steps.{Step, product_of, first_wide, multiples_steps}
use Rattle.cap_lin.specs.Exact.{Explains}
use Rattle.cap_lin.specs.declared.error.LinError.{LinError}
use Rattle.cap_lin.proofs.Results.{first_wide-nil, first-narrow, narrow-right, product-narrow, product-fits, explains_same, explains_first, put-append}
use Rattle.cap_lin.proofs.Merge.{no_part}

pub steps-cons : (k : ℤ) (p : ℕ × ℤ) (ps : List (ℕ × ℤ)) → multiples_steps k (p ∷ ps) ≡ (product_of k p.1 ∷ []) ++ multiples_steps k ps
unfolding multiples_steps
steps-cons k p ps = refl

pub steps-nil : (k : ℤ) → multiples_steps k [] ≡ []
unfolding multiples_steps
steps-nil k = refl

pub multiples-nil : (k : ℤ) → multiples k [] ≡ []
unfolding multiples
multiples-nil k = refl

pub multiples-cons : (k : ℤ) (p : ℕ × ℤ) (ps : List (ℕ × ℤ)) → multiples k (p ∷ ps) ≡ put_part p.0 (k *ℤ p.1) [] ++ multiples k ps
unfolding multiples
multiples-cons k p ps = put-append p.0 (k *ℤ p.1) (multiples k ps)

pub stops : (ps : List (ℕ × ℤ)) (i : ℕ) (e : LinError) (all : List Step) (k a b : ℤ) → i < length ps → a ≡ k → b ≡ (get_or ps i no_part).1 → Explains e (product_of a b ∷ []) → first_wide (multiples_steps k (drop i ps)) ≡ first_wide all → Explains e all
stops ps i e all k a b h d f x w =
    let n = drop-cons ps i no_part h in
    let y : Explains e (product_of k (get_or ps i no_part).1 ∷ []) = rw (← d, ← f) x in
    let z : Explains e (multiples_steps k (drop i ps)) = rw (n, steps-cons) (explains_first e _ _ y) in
    explains_same e all _ (sym w) z

pub goes_on : (ps : List (ℕ × ℤ)) (i : ℕ) (whole : Option (ℤ × ℤ)) (k a b : ℤ) → i < length ps → a ≡ k → b ≡ (get_or ps i no_part).1 → first_wide (product_of a b ∷ []) ≡ None → first_wide (multiples_steps k (drop i ps)) ≡ whole → first_wide (multiples_steps k (drop (i + 1) ps)) ≡ whole
goes_on ps i whole k a b h d f x w =
    let n = drop-cons ps i no_part h in
    let y : first_wide (product_of k (get_or ps i no_part).1 ∷ []) ≡ None = rw (← d, ← f) x in
    rw add-one (sym (first-narrow _ _ y) ∙ (rw (n, steps-cons) at w))

pub adds : (ps : List (ℕ × ℤ)) (i : ℕ) (out out' whole : List (ℕ × ℤ)) (k a b r : ℤ) → i < length ps → a ≡ k → b ≡ (get_or ps i no_part).1 → r ≡ a *ℤ b → out' ≡ out ++ put_part (get_or ps i no_part).0 r [] → out ++ multiples k (drop i ps) ≡ whole → out' ++ multiples k (drop (i + 1) ps) ≡ whole
adds ps i out out' whole k a b r h d f e o w =
    let n = drop-cons ps i no_part h in
    let q : out' ≡ out ++ put_part (get_or ps i no_part).0 (k *ℤ (get_or ps i no_part).1) [] = rw (← d, ← f, ← e) o in
    rw (q, append_assoc, add-one) (rw (n, multiples-cons) at w)

pub narrow : (ps : List (ℕ × ℤ)) (i : ℕ) (k : ℤ) (whole : Option (ℤ × ℤ)) → length ps ≤ i → first_wide (multiples_steps k (drop i ps)) ≡ whole → whole ≡ None
narrow ps i k whole h w = let x = drop_all i ps h in sym w ∙ rw (x, steps-nil, first_wide-nil) refl

pub done : (ps : List (ℕ × ℤ)) (i : ℕ) (k : ℤ) (out whole : List (ℕ × ℤ)) → length ps ≤ i → out ++ multiples k (drop i ps) ≡ whole → out ≡ whole
done ps i k out whole h w = let x = drop_all i ps h in let v : out ++ [] ≡ whole = rw (x, multiples-nil) at w in grind (arith, common_steps)

-- each product of narrow results fits
pub each-fits : (k : ℤ) (ps : List (ℕ × ℤ)) (i : ℕ) → first_wide (multiples_steps k ps) ≡ None → i < length ps → FitsSigned w128 (k *ℤ (get_or ps i no_part).1)
each-fits k [] i n h = absurd (omega arith)
each-fits k (p ∷ ps) zero n h = product-narrow k p.1 (multiples_steps k ps) (rw (steps-cons k p ps) at n)
each-fits k (p ∷ ps) (suc i) n h = each-fits k ps i (narrow-right (product_of k p.1 ∷ []) _ (rw (steps-cons k p ps) at n)) (omega arith)

-- a product that does not fit, or fits, on the way
pub wide_at : (k : ℤ) (ps : List (ℕ × ℤ)) (i : ℕ) (whole : Option (ℤ × ℤ)) → i < length ps → (FitsSigned w128 (k *ℤ (get_or ps i no_part).1) → ⊥) → first_wide (multiples_steps k (drop i ps)) ≡ whole → whole ≡ None → ⊥
wide_at k ps i whole h f w n =
    let x = drop-cons ps i no_part h in
    let m = rw (x, steps-cons) at (w ∙ n) in
    f (product-narrow _ _ (multiples_steps k (drop (suc i) ps)) m)

pub fits_at : (k : ℤ) (ps : List (ℕ × ℤ)) (i : ℕ) (whole : Option (ℤ × ℤ)) → i < length ps → FitsSigned w128 (k *ℤ (get_or ps i no_part).1) → first_wide (multiples_steps k (drop i ps)) ≡ whole → first_wide (multiples_steps k (drop (i + 1) ps)) ≡ whole
fits_at k ps i whole h f w = goes_on ps i whole k _ _ h refl refl (product-fits _ _ [] f ∙ first_wide-nil) w
