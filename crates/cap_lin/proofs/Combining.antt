-- The results on the way to a combination of two terms, and the loop over the parts: each lemma is one way through it.
use Rattle.std.proofs.Common.{◌≡◌, ℕ, ℤ, pos, ◌+ℤ◌, ◌*ℤ◌, List, [], ◌∷◌, ◌++◌, ◌<◌, length, arith, append_assoc, refl, sym, ◌∙◌, Option, None, inl, inr, FitsSigned}
use Rattle.std.specs.Prelude.{Result, Ok, Err}
use Rattle.std.proofs.lemmas.Int.{ints}
use mir.Syntax.{w128}
use Rattle.cap_lin.specs.Linear.{Linear, merged, put_part, multiples, combined_parts, combination}
use Rattle.cap_lin.specs.Steps.{Step, sum_of, product_of, first_wide, part_steps, multiples_steps, combined_parts_steps, combination_steps}
use Rattle.cap_lin.specs.Exact.{Explains, IsExact, IsExactBy, IsCombined}
use Rattle.cap_lin.specs.declared.error.LinError.{LinError}
use Rattle.cap_lin.specs.declared.term.Pair.{Pair}
use Rattle.cap_lin.proofs.Results.{first_wide-nil, first-narrow, product-fits, sum-fits, fits_or_not, fits-zero, product-not-fits, explains_same, explains_first, explains_later, exact_after, put-append}
use Rattle.cap_lin.proofs.Merge.{merged-nil, merged-left, merged-right}
use Rattle.cap_lin.proofs.Multiples as m

-- ---- two products and their sum

pub left-wide : (a l b r a' l' : ℤ) (e : LinError) → a' ≡ a → l' ≡ l → Explains e (product_of a' l' ∷ []) → Explains e (part_steps a l b r [])
left-wide a l b r a' l' e p q h = let x : Explains e (product_of a l ∷ []) = rw (← p, ← q) h in explains_first e (product_of a l ∷ []) _ x

pub right-wide : (a l b r a' l' b' r' : ℤ) (e : LinError) → a' ≡ a → l' ≡ l → b' ≡ b → r' ≡ r → first_wide (product_of a' l' ∷ []) ≡ None → Explains e (product_of b' r' ∷ []) → Explains e (part_steps a l b r [])
right-wide a l b r a' l' b' r' e p q s t n h =
    let m : first_wide (product_of a l ∷ []) ≡ None = rw (← p, ← q) n in
    let x : Explains e (product_of b r ∷ []) = rw (← s, ← t) h in
    explains_later e (product_of a l ∷ []) _ m (explains_first e (product_of b r ∷ []) _ x)

pub both-narrow : (z : Result ℤ LinError) (a l b r a' l' b' r' x y x' y' : ℤ) → a' ≡ a → l' ≡ l → b' ≡ b → r' ≡ r → first_wide (product_of a' l' ∷ []) ≡ None → first_wide (product_of b' r' ∷ []) ≡ None → x ≡ a' *ℤ l' → y ≡ b' *ℤ r' → x' ≡ x → y' ≡ y → IsExact z (sum_of x' y' ∷ []) (x' +ℤ y') → IsExact z (part_steps a l b r []) (a *ℤ l +ℤ b *ℤ r)
both-narrow z a l b r a' l' b' r' x y x' y' p q s t n m u v f g h =
    let n' : first_wide (product_of a l ∷ []) ≡ None = rw (← p, ← q) n in
    let m' : first_wide (product_of b r ∷ []) ≡ None = rw (← s, ← t) m in
    let i : x' ≡ a *ℤ l = rw (f, u, p, q) refl in
    let j : y' ≡ b *ℤ r = rw (g, v, s, t) refl in
    let k : IsExact z (sum_of (a *ℤ l) (b *ℤ r) ∷ []) (a *ℤ l +ℤ b *ℤ r) = rw (← i, ← j) h in
    exact_after z (product_of a l ∷ []) _ _ n' (exact_after z (product_of b r ∷ []) _ _ m' k)

-- ---- the loop

steps-cons : (a b : ℤ) (j : Pair) (js : List Pair) → combined_parts_steps a b (j ∷ js) ≡ part_steps a j.left b j.right [] ++ combined_parts_steps a b js
unfolding combined_parts_steps
steps-cons a b j js = refl

steps-nil : (a b : ℤ) → combined_parts_steps a b [] ≡ []
unfolding combined_parts_steps
steps-nil a b = refl

parts-nil : (a b : ℤ) → combined_parts a b [] ≡ []
unfolding combined_parts
parts-nil a b = refl

parts-cons : (a b : ℤ) (j : Pair) (js : List Pair) → combined_parts a b (j ∷ js) ≡ put_part j.variable (a *ℤ j.left +ℤ b *ℤ j.right) [] ++ combined_parts a b js
unfolding combined_parts
parts-cons a b j js = put-append j.variable (a *ℤ j.left +ℤ b *ℤ j.right) (combined_parts a b js)

pub stops : (a b : ℤ) (js rest : List Pair) (j : Pair) (e : LinError) (all : List Step) (a' b' : ℤ) → js ≡ j ∷ rest → a' ≡ a → b' ≡ b → Explains e (part_steps a' j.left b' j.right []) → first_wide (combined_parts_steps a b js) ≡ first_wide all → Explains e all
stops a b js rest j e all a' b' n p q x w =
    let y : Explains e (part_steps a j.left b j.right []) = rw (← p, ← q) x in
    let z : Explains e (combined_parts_steps a b js) = rw (n, steps-cons) (explains_first e _ _ y) in
    explains_same e all _ (sym w) z

pub goes_on : (a b : ℤ) (js rest : List Pair) (j : Pair) (k : ℤ) (whole : Option (ℤ × ℤ)) → js ≡ j ∷ rest → IsCombined a j.left b j.right k → first_wide (combined_parts_steps a b js) ≡ whole → first_wide (combined_parts_steps a b rest) ≡ whole
goes_on a b js rest j k whole s c w = sym (first-narrow _ _ c.0) ∙ (rw (s, steps-cons) at w)

pub adds : (a b : ℤ) (js rest : List Pair) (j : Pair) (x : ℕ) (k : ℤ) (out out' whole : List (ℕ × ℤ)) → js ≡ j ∷ rest → IsCombined a j.left b j.right k → x ≡ j.variable → out' ≡ out ++ put_part x k [] → out ++ combined_parts a b js ≡ whole → out' ++ combined_parts a b rest ≡ whole
adds a b js rest j x k out out' whole s c v o w =
    let m : out' ≡ out ++ put_part j.variable (a *ℤ j.left +ℤ b *ℤ j.right) [] = rw (← v, ← c.1) o in
    rw (m, append_assoc) (rw (s, parts-cons) at w)

-- ---- parts that only one of the terms has: their multiples

left-zero : (b : ℤ) → b *ℤ pos 0 ≡ pos 0
left-zero b = omega (arith, ints)

-- a product that fits, and a product by 0 beside it
beside-zero : (a l b r : ℤ) → (FitsSigned w128 (a *ℤ l)) → b *ℤ r ≡ pos 0 → first_wide (part_steps a l b r []) ≡ None
beside-zero a l b r f z =
    let g : FitsSigned w128 (b *ℤ r) = rw z fits-zero in
    let e : a *ℤ l +ℤ b *ℤ r ≡ a *ℤ l = rw z (omega (arith, ints)) in
    let h : FitsSigned w128 (a *ℤ l +ℤ b *ℤ r) = rw e f in
    product-fits a l _ f ∙ product-fits b r _ g ∙ sum-fits _ _ [] h ∙ first_wide-nil

behind-zero : (a l b r : ℤ) → (FitsSigned w128 (b *ℤ r)) → a *ℤ l ≡ pos 0 → first_wide (part_steps a l b r []) ≡ None
behind-zero a l b r f z =
    let g : FitsSigned w128 (a *ℤ l) = rw z fits-zero in
    let e : a *ℤ l +ℤ b *ℤ r ≡ b *ℤ r = rw z (omega (arith, ints)) in
    let h : FitsSigned w128 (a *ℤ l +ℤ b *ℤ r) = rw e f in
    product-fits a l _ g ∙ product-fits b r _ f ∙ sum-fits _ _ [] h ∙ first_wide-nil

part-left : (a b : ℤ) (p : ℕ × ℤ) (xs ys : List Step) → first_wide xs ≡ first_wide ys → first_wide (part_steps a p.1 b (pos 0) [] ++ xs) ≡ first_wide (product_of a p.1 ∷ ys)
part-left a b p xs ys e =
    elim (fits_or_not (a *ℤ p.1)) [
      | inl f ↦ first-narrow _ xs (beside-zero a p.1 b (pos 0) f (left-zero b)) ∙ e ∙ sym (product-fits a p.1 ys f)
      | inr g ↦ product-not-fits a p.1 _ g ∙ sym (product-not-fits a p.1 ys g)
    ]

part-right : (a b : ℤ) (q : ℕ × ℤ) (xs ys : List Step) → first_wide xs ≡ first_wide ys → first_wide (part_steps a (pos 0) b q.1 [] ++ xs) ≡ first_wide (product_of b q.1 ∷ ys)
part-right a b q xs ys e =
    let z : FitsSigned w128 (a *ℤ pos 0) = rw (left-zero a) fits-zero in
    elim (fits_or_not (b *ℤ q.1)) [
      | inl f ↦ first-narrow _ xs (behind-zero a (pos 0) b q.1 f (left-zero a)) ∙ e ∙ sym (product-fits b q.1 ys f)
      | inr g ↦ product-fits a (pos 0) _ z ∙ product-not-fits b q.1 _ g ∙ sym (product-not-fits b q.1 ys g)
    ]

left-steps : (a b : ℤ) (ps : List (ℕ × ℤ)) → first_wide (combined_parts_steps a b (merged ps [])) ≡ first_wide (multiples_steps a ps)
left-steps a b [] = rw (merged-nil, steps-nil, m.steps-nil) refl
left-steps a b (p ∷ ps) = rw (merged-left, steps-cons, m.steps-cons) (part-left a b p _ _ (left-steps a b ps))

right-steps : (a b : ℤ) (qs : List (ℕ × ℤ)) → first_wide (combined_parts_steps a b (merged [] qs)) ≡ first_wide (multiples_steps b qs)
right-steps a b [] = rw (merged-nil, steps-nil, m.steps-nil) refl
right-steps a b (q ∷ qs) = rw (merged-right, steps-cons, m.steps-cons) (part-right a b q _ _ (right-steps a b qs))

left-parts : (a b : ℤ) (ps : List (ℕ × ℤ)) → combined_parts a b (merged ps []) ≡ multiples a ps
left-parts a b [] = rw (merged-nil, parts-nil, m.multiples-nil) refl
left-parts a b (p ∷ ps) =
    let e : a *ℤ p.1 +ℤ b *ℤ pos 0 ≡ a *ℤ p.1 = rw (left-zero b) (omega (arith, ints)) in
    rw (merged-left, parts-cons, m.multiples-cons, left-parts a b ps, e) refl

right-parts : (a b : ℤ) (qs : List (ℕ × ℤ)) → combined_parts a b (merged [] qs) ≡ multiples b qs
right-parts a b [] = rw (merged-nil, parts-nil, m.multiples-nil) refl
right-parts a b (q ∷ qs) =
    let e : a *ℤ pos 0 +ℤ b *ℤ q.1 ≡ b *ℤ q.1 = rw (left-zero a) (omega (arith, ints)) in
    rw (merged-right, parts-cons, m.multiples-cons, right-parts a b qs, e) refl

no-parts : (ps : List (ℕ × ℤ)) → length ps < 1 → ps ≡ []
no-parts [] h = refl
no-parts (p ∷ ps) h = absurd (omega arith)

left-stops : (a b : ℤ) (ps qs : List (ℕ × ℤ)) (e : LinError) (all : List Step) (k : ℤ) → length qs < 1 → k ≡ a → Explains e (multiples_steps k ps) → first_wide (combined_parts_steps a b (merged ps qs)) ≡ first_wide all → Explains e all
left-stops a b ps qs e all k h p x w =
    let y : Explains e (multiples_steps a ps) = rw (← p) x in
    explains_same e all _ (sym (rw (no-parts qs h) at w) ∙ left-steps a b ps) y

right-stops : (a b : ℤ) (ps qs : List (ℕ × ℤ)) (e : LinError) (all : List Step) (k : ℤ) → length ps < 1 → k ≡ b → Explains e (multiples_steps k qs) → first_wide (combined_parts_steps a b (merged ps qs)) ≡ first_wide all → Explains e all
right-stops a b ps qs e all k h p x w =
    let y : Explains e (multiples_steps b qs) = rw (← p) x in
    explains_same e all _ (sym (rw (no-parts ps h) at w) ∙ right-steps a b qs) y

left-ends : (a b : ℤ) (ps qs : List (ℕ × ℤ)) (out out' whole : List (ℕ × ℤ)) (wide : Option (ℤ × ℤ)) (k : ℤ) → length qs < 1 → k ≡ a → first_wide (multiples_steps k ps) ≡ None → out' ≡ out ++ multiples k ps → first_wide (combined_parts_steps a b (merged ps qs)) ≡ wide → out ++ combined_parts a b (merged ps qs) ≡ whole → (wide ≡ None) × (out' ≡ whole)
left-ends a b ps qs out out' whole wide k h p n o w v =
    let e = no-parts qs h in
    let n' : first_wide (multiples_steps a ps) ≡ None = rw (← p) n in
    let o' : out' ≡ out ++ multiples a ps = rw (← p) o in
    (sym (rw e at w) ∙ left-steps a b ps ∙ n', o' ∙ (rw (e, left-parts) at v))

right-ends : (a b : ℤ) (ps qs : List (ℕ × ℤ)) (out out' whole : List (ℕ × ℤ)) (wide : Option (ℤ × ℤ)) (k : ℤ) → length ps < 1 → k ≡ b → first_wide (multiples_steps k qs) ≡ None → out' ≡ out ++ multiples k qs → first_wide (combined_parts_steps a b (merged ps qs)) ≡ wide → out ++ combined_parts a b (merged ps qs) ≡ whole → (wide ≡ None) × (out' ≡ whole)
right-ends a b ps qs out out' whole wide k h p n o w v =
    let e = no-parts ps h in
    let n' : first_wide (multiples_steps b qs) ≡ None = rw (← p) n in
    let o' : out' ≡ out ++ multiples b qs = rw (← p) o in
    (sym (rw e at w) ∙ right-steps a b qs ∙ n', o' ∙ (rw (e, right-parts) at v))

-- the answer of the call that appends the rest of one list, the other being empty
pub left-rest : {T : Type 0} (r : Result T LinError) (a b : ℤ) (ps qs : List (ℕ × ℤ)) (out out' whole : List (ℕ × ℤ)) (all : List Step) (k : ℤ) → length qs < 1 → k ≡ a → IsExactBy r (λ _. out') (multiples_steps k ps) (out ++ multiples k ps) → first_wide (combined_parts_steps a b (merged ps qs)) ≡ first_wide all → out ++ combined_parts a b (merged ps qs) ≡ whole → IsExactBy r (λ _. out') all whole
left-rest (Ok u) a b ps qs out out' whole all k h p x w v = left-ends a b ps qs out out' whole (first_wide all) k h p x.0 x.1 w v
left-rest (Err e) a b ps qs out out' whole all k h p x w v = left-stops a b ps qs e all k h p x w

pub right-rest : {T : Type 0} (r : Result T LinError) (a b : ℤ) (ps qs : List (ℕ × ℤ)) (out out' whole : List (ℕ × ℤ)) (all : List Step) (k : ℤ) → length ps < 1 → k ≡ b → IsExactBy r (λ _. out') (multiples_steps k qs) (out ++ multiples k qs) → first_wide (combined_parts_steps a b (merged ps qs)) ≡ first_wide all → out ++ combined_parts a b (merged ps qs) ≡ whole → IsExactBy r (λ _. out') all whole
right-rest (Ok u) a b ps qs out out' whole all k h p x w v = right-ends a b ps qs out out' whole (first_wide all) k h p x.0 x.1 w v
right-rest (Err e) a b ps qs out out' whole all k h p x w v = right-stops a b ps qs e all k h p x w

-- ---- the whole

steps-are : (a : ℤ) (s : Linear) (b : ℤ) (t : Linear) → combination_steps a s b t ≡ part_steps a s.constant b t.constant [] ++ combined_parts_steps a b (merged s.parts t.parts)
unfolding combination_steps
steps-are a s b t = refl

pub constant-wide : (a : ℤ) (s : Linear) (b : ℤ) (t : Linear) (e : LinError) (a' l b' r : ℤ) → a' ≡ a → l ≡ s.constant → b' ≡ b → r ≡ t.constant → Explains e (part_steps a' l b' r []) → Explains e (combination_steps a s b t)
constant-wide a s b t e a' l b' r p q u v x = let y : Explains e (part_steps a s.constant b t.constant []) = rw (← p, ← q, ← u, ← v) x in rw steps-are (explains_first e _ _ y)

pub parts-wide : (a : ℤ) (s : Linear) (b : ℤ) (t : Linear) (e : LinError) (a' l b' r : ℤ) (ps qs : List (ℕ × ℤ)) → a' ≡ a → l ≡ s.constant → b' ≡ b → r ≡ t.constant → ps ≡ s.parts → qs ≡ t.parts → first_wide (part_steps a' l b' r []) ≡ None → Explains e (combined_parts_steps a' b' (merged ps qs)) → Explains e (combination_steps a s b t)
parts-wide a s b t e a' l b' r ps qs p q u v g h n x =
    let m : first_wide (part_steps a s.constant b t.constant []) ≡ None = rw (← p, ← q, ← u, ← v) n in
    let y : Explains e (combined_parts_steps a b (merged s.parts t.parts)) = rw (← p, ← u, ← g, ← h) x in
    rw steps-are (explains_later e _ _ m y)

pub all-narrow : (a : ℤ) (s : Linear) (b : ℤ) (t : Linear) (a' l b' r : ℤ) (ps qs : List (ℕ × ℤ)) → a' ≡ a → l ≡ s.constant → b' ≡ b → r ≡ t.constant → ps ≡ s.parts → qs ≡ t.parts → first_wide (part_steps a' l b' r []) ≡ None → first_wide (combined_parts_steps a' b' (merged ps qs)) ≡ None → first_wide (combination_steps a s b t) ≡ None
all-narrow a s b t a' l b' r ps qs p q u v g h n x =
    let m : first_wide (part_steps a s.constant b t.constant []) ≡ None = rw (← p, ← q, ← u, ← v) n in
    let y : first_wide (combined_parts_steps a b (merged s.parts t.parts)) ≡ None = rw (← p, ← u, ← g, ← h) x in
    rw steps-are (first-narrow _ _ m ∙ y)

pub made : (a : ℤ) (s : Linear) (b : ℤ) (t : Linear) (a' l b' r k : ℤ) (ps qs rs : List (ℕ × ℤ)) → a' ≡ a → l ≡ s.constant → b' ≡ b → r ≡ t.constant → ps ≡ s.parts → qs ≡ t.parts → k ≡ a' *ℤ l +ℤ b' *ℤ r → rs ≡ combined_parts a' b' (merged ps qs) → ◌≡◌ {A = Linear} (record { constant = k; parts = rs }) (combination a s b t)
unfolding combination
made a s b t a' l b' r k ps qs rs p q u v g h i j = rw (i, j, p, q, u, v, g, h) refl
