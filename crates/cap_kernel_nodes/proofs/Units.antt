-- What is gathered of units, one after the other.
use Rattle.std.proofs.Common.{◌≡◌, ℕ, zero, suc, ◌+◌, ◌<◌, ℤ, List, [], ◌∷◌, ◌++◌, length, map, flat_map, Option, Some, None, refl, sym, ap, ◌∙◌, subst, append_assoc, arith}
use Rattle.std.specs.Prelude.{slice_get}
use Rattle.std.specs.List.{AllByRecursion, range_with_len}
use Rattle.std.proofs.lemmas.List.{append-nil}
use Rattle.std.proofs.lemmas.List.FromFn.{map-range_with_len_more}
use Rattle.std.proofs.lemmas.Grind.{flat_map-append}
use Rattle.cap_lin.specs.Steps.{Step, first_wide}
use Rattle.cap_lin.proofs.Results.{first-wide, first-narrow}
use Rattle.cap_prog.specs.Program.{PlainRegionType, PlainProgram}
use Rattle.cap_goal_spec.specs.Roots.{PlainUnit, region_unit, function_unit, roots_steps, region_steps, units, all_roots_steps}

-- ---- by their numbers

pub one-more :
    {X : Type 0} (of : PlainUnit → List X) (f : ℕ → PlainUnit) (old now next : List X) (n : ℕ) → now ≡ old ++ flat_map of (map f (range_with_len 0 n)) → next ≡ now ++ of (f n) → next ≡ old ++ flat_map of (map f (range_with_len 0 (n + 1)))
one-more of f old now next n h e =
    e
    ∙ (ap (λ x. x ++ of (f n)) h
    ∙ (append_assoc old (flat_map of (map f (range_with_len 0 n))) (of (f n))
    ∙ ap (λ x. old ++ x) (sym (more (f n) (map f (range_with_len 0 n)) (map f (range_with_len 0 (n + 1))) (map-range_with_len_more f 0 n n (omega arith))))))
  where
    more : (u : PlainUnit) (us vs : List PlainUnit) → vs ≡ us ++ u ∷ [] → flat_map of vs ≡ flat_map of us ++ of u
    more u us vs e = ap (flat_map of) e ∙ (flat_map-append of us (u ∷ []) ∙ ap (λ x. flat_map of us ++ x) (append-nil (of u)))

-- ---- results on the way to their roots

front-narrow : (xs ys : List Step) → first_wide (xs ++ ys) ≡ None → first_wide xs ≡ None
front-narrow xs ys e = by (first_wide xs) refl
  where
    by : (o : Option (ℤ × ℤ)) → first_wide xs ≡ o → first_wide xs ≡ None
    by None q = q
    by (Some w) q = absurd (let k = sym e ∙ first-wide xs ys w q in cc)

each-narrow : (p : PlainProgram) (us : List PlainUnit) → first_wide (flat_map (roots_steps p) us) ≡ None → AllByRecursion (λ u. first_wide (roots_steps p u) ≡ None) us
each-narrow p [] e = tt
each-narrow p (u ∷ us) e =
    let front = front-narrow (roots_steps p u) (flat_map (roots_steps p) us) e in
    (front, each-narrow p us (sym (first-narrow (roots_steps p u) (flat_map (roots_steps p) us) front) ∙ e))

each-first : {X : Type 0} (P : X → Type 0) (xs ys : List X) → AllByRecursion P (xs ++ ys) → AllByRecursion P xs
each-first P [] ys h = tt
each-first P (x ∷ xs) ys h = (h.0, each-first P xs ys h.1)

numbered : (P : PlainUnit → Type 0) (f : ℕ → PlainUnit) (a n k : ℕ) → k < n → AllByRecursion P (map f (range_with_len a n)) → P (f (a + k))
numbered P f a zero k l h = absurd (omega (arith, l))
numbered P f a (suc n) zero l h = let q : a ≡ a + 0 = omega arith in subst (λ m. P (f m)) q h.0
numbered P f a (suc n) (suc k) l h = let q : a + 1 + k ≡ a + suc k = omega arith in subst (λ m. P (f m)) q (numbered P f (a + 1) n k (omega (arith, l)) h.1)

abbrev narrow_unit : PlainProgram → PlainUnit → Type 0
narrow_unit p u = first_wide (roots_steps p u) ≡ None

pub no-steps : first_wide [] ≡ None
unfolding first_wide
no-steps = refl

inside : {X : Type 0} (xs : List X) (n : ℕ) (x : X) → slice_get xs n ≡ Some x → n < length xs
inside [] n x e = absurd cc
inside (y ∷ xs) zero x e = omega arith
inside (y ∷ xs) (suc n) x e = omega (arith, inside xs n x e)

pub region-narrow : (p : PlainProgram) (n : ℕ) → first_wide (all_roots_steps p) ≡ None → first_wide (region_steps (slice_get p.regions n)) ≡ None
region-narrow p n e = by (slice_get p.regions n) refl
  where
    z : 0 + n ≡ n
    z = omega arith

    by : (o : Option PlainRegionType) → slice_get p.regions n ≡ o → first_wide (region_steps (slice_get p.regions n)) ≡ None
    by None q = ap (λ o. first_wide (region_steps o)) q ∙ no-steps
    by (Some k) q =
        subst (λ m. narrow_unit p (region_unit m)) z
        (numbered (narrow_unit p) region_unit 0 (length p.regions) n (inside p.regions n k q)
        (each-first (narrow_unit p) (map region_unit (range_with_len 0 (length p.regions))) (map function_unit (range_with_len 0 (length p.functions))) (each-narrow p (units p) e)))
