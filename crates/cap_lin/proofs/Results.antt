-- The first result that leaves 128 bits, of lists of results in a row.
use Rattle.std.proofs.Common.{◌≡◌, zero, suc, ℕ, ℤ, pos, negsuc, ◌+ℤ◌, ◌*ℤ◌, List, [], ◌∷◌, ◌++◌, ◌<◌, ◌⊎◌, inl, inr, true, false, Bool, nat_lt, arith, refl, sym, ◌∙◌, Option, Some, None, FitsSigned}
use Rattle.std.specs.Prelude.{if◌then◌else◌, Result}
use Rattle.std.proofs.lemmas.Result.{MatchResult-weaker}
use Rattle.std.proofs.lemmas.Bool.Decides.{nat_tests}
use mir.Syntax.{w128}
use Rattle.cap_lin.specs.Linear.{is_zero, put_part}
use Rattle.cap_lin.specs.Steps.{Step, sum_of, product_of, fits, first_wide}
use Rattle.cap_lin.specs.Exact.{Explains, IsExact}
use Rattle.cap_lin.specs.declared.error.LinError.{LinError}
use Rattle.cap_lin.specs.declared.error.LinError.TheVariants.{Wide, OutOfMemory}

pub is_zero-yes : (z : ℤ) → z ≡ pos 0 → is_zero z ≡ true
is_zero-yes z e = rw e refl

pub is_zero-no : (z : ℤ) → (z ≡ pos 0 → ⊥) → is_zero z ≡ false
is_zero-no (pos zero) n = absurd (n refl)
is_zero-no (pos (suc k)) n = refl
is_zero-no (negsuc k) n = refl

pub fits-yes : (z : ℤ) → FitsSigned w128 z → fits z ≡ true
fits-yes (pos n) h = grind (arith, h.sfits)
fits-yes (negsuc n) h = grind (arith, h.sfits)

not_below : (n h : ℕ) → (n < h → ⊥) → nat_lt n h ≡ false
not_below n h k = grind arith

pub fits-no : (z : ℤ) → (FitsSigned w128 z → ⊥) → fits z ≡ false
fits-no (pos n) h = not_below n _ (λ k. h (record { sfits = k }))
fits-no (negsuc n) h = not_below n _ (λ k. h (record { sfits = k }))

pub fits-zero : FitsSigned w128 (pos 0)
fits-zero = record { sfits = omega arith }

pub first_wide-nil : first_wide [] ≡ None
unfolding first_wide
first_wide-nil = refl

pub sum-wide : (a b : ℤ) (steps : List Step) → (FitsSigned w128 (a +ℤ b) → ⊥) → first_wide (sum_of a b ∷ steps) ≡ Some (a, b)
unfolding first_wide
sum-wide a b steps h = rw (fits-no _ h) refl

pub sum-fits : (a b : ℤ) (steps : List Step) → FitsSigned w128 (a +ℤ b) → first_wide (sum_of a b ∷ steps) ≡ first_wide steps
unfolding first_wide
sum-fits a b steps h = rw (fits-yes _ h) refl

pub product-wide : (a b : ℤ) (steps : List Step) → (FitsSigned w128 (a *ℤ b) → ⊥) → first_wide (product_of a b ∷ steps) ≡ Some (a, b)
unfolding first_wide
product-wide a b steps h = rw (fits-no _ h) refl

pub product-not-fits : (a b : ℤ) (steps : List Step) → fits (a *ℤ b) ≡ false → first_wide (product_of a b ∷ steps) ≡ Some (a, b)
unfolding first_wide
product-not-fits a b steps h = rw h refl

pub product-fits : (a b : ℤ) (steps : List Step) → FitsSigned w128 (a *ℤ b) → first_wide (product_of a b ∷ steps) ≡ first_wide steps
unfolding first_wide
product-fits a b steps h = rw (fits-yes _ h) refl

-- ---- results in a row

on_some : (b : Bool) (p q : ℤ × ℤ) (x y : Option (ℤ × ℤ)) → (x ≡ Some q → y ≡ Some q) → (if b then x else Some p) ≡ Some q → (if b then y else Some p) ≡ Some q
on_some true p q x y f e = f e
on_some false p q x y f e = e

on_none : (b : Bool) (p : ℤ × ℤ) (x y z : Option (ℤ × ℤ)) → (x ≡ None → y ≡ z) → (if b then x else Some p) ≡ None → (if b then y else Some p) ≡ z
on_none true p x y z f e = f e
on_none false p x y z f e = cc

pub first-wide : (xs ys : List Step) (q : ℤ × ℤ) → first_wide xs ≡ Some q → first_wide (xs ++ ys) ≡ Some q
unfolding first_wide
first-wide [] ys q e = cc
first-wide (sum_of a b ∷ xs) ys q e = on_some (fits (a +ℤ b)) (a, b) q _ _ (first-wide xs ys q) e
first-wide (product_of a b ∷ xs) ys q e = on_some (fits (a *ℤ b)) (a, b) q _ _ (first-wide xs ys q) e

pub first-narrow : (xs ys : List Step) → first_wide xs ≡ None → first_wide (xs ++ ys) ≡ first_wide ys
unfolding first_wide
first-narrow [] ys e = refl
first-narrow (sum_of a b ∷ xs) ys e = on_none (fits (a +ℤ b)) (a, b) _ _ _ (first-narrow xs ys) e
first-narrow (product_of a b ∷ xs) ys e = on_none (fits (a *ℤ b)) (a, b) _ _ _ (first-narrow xs ys) e

-- an error that explains the last results, or the first ones, explains all
pub explains_same : (e : LinError) (all last : List Step) → first_wide all ≡ first_wide last → Explains e last → Explains e all
explains_same (Wide a b) all last h x = h ∙ x
explains_same OutOfMemory all last h x = tt

pub explains_first : (e : LinError) (xs ys : List Step) → Explains e xs → Explains e (xs ++ ys)
explains_first (Wide a b) xs ys h = first-wide xs ys (a, b) h
explains_first OutOfMemory xs ys h = tt

pub explains_later : (e : LinError) (xs ys : List Step) → first_wide xs ≡ None → Explains e ys → Explains e (xs ++ ys)
explains_later e xs ys n h = explains_same e (xs ++ ys) ys (first-narrow xs ys n) h

-- ---- one result

pub sum_is-wide : (a b x y : ℤ) → a ≡ x → b ≡ y → (FitsSigned w128 (a +ℤ b) → ⊥) → first_wide (sum_of x y ∷ []) ≡ Some (a, b)
sum_is-wide a b x y e d n = rw (← e, ← d) (sum-wide a b [] n)

pub sum_is-narrow : (a b x y : ℤ) → a ≡ x → b ≡ y → FitsSigned w128 (a +ℤ b) → first_wide (sum_of x y ∷ []) ≡ None
sum_is-narrow a b x y e d n = rw (← e, ← d) (sum-fits a b [] n ∙ first_wide-nil)

pub product_is-wide : (a b x y : ℤ) → a ≡ x → b ≡ y → (FitsSigned w128 (a *ℤ b) → ⊥) → first_wide (product_of x y ∷ []) ≡ Some (a, b)
product_is-wide a b x y e d n = rw (← e, ← d) (product-wide a b [] n)

pub product_is-narrow : (a b x y : ℤ) → a ≡ x → b ≡ y → FitsSigned w128 (a *ℤ b) → first_wide (product_of x y ∷ []) ≡ None
product_is-narrow a b x y e d n = rw (← e, ← d) (product-fits a b [] n ∙ first_wide-nil)

pub put-append : (x : ℕ) (k : ℤ) (ps : List (ℕ × ℤ)) → put_part x k ps ≡ put_part x k [] ++ ps
put-append x (pos zero) ps = refl
put-append x (pos (suc n)) ps = refl
put-append x (negsuc n) ps = refl

-- an answer after results that are all within 128 bits
pub exact_after : {T : Type 0} (r : Result T LinError) (xs ys : List Step) (x : T) → first_wide xs ≡ None → IsExact r ys x → IsExact r (xs ++ ys) x
exact_after r xs ys x n h = MatchResult-weaker r h (λ y k. (first-narrow xs ys n ∙ k.0, k.1)) (λ e k. explains_later e xs ys n k)

-- ---- narrow results fit

pub fits-back : (z : ℤ) → fits z ≡ true → FitsSigned w128 z
fits-back (pos n) h = record { sfits = below_from n _ h }
  where
    below_from : (n h : ℕ) → nat_lt n h ≡ true → n < h
    below_from n h e = grind (arith, nat_tests)
fits-back (negsuc n) h = record { sfits = below_from n _ h }
  where
    below_from : (n h : ℕ) → nat_lt n h ≡ true → n < h
    below_from n h e = grind (arith, nat_tests)

pub fits_or_not : (z : ℤ) → (FitsSigned w128 z) ⊎ (fits z ≡ false)
fits_or_not z = by_test (fits z) refl
  where
    by_test : (b : Bool) → fits z ≡ b → (FitsSigned w128 z) ⊎ (fits z ≡ false)
    by_test true e = inl (fits-back z e)
    by_test false e = inr e

some-none : (p : ℤ × ℤ) → ◌≡◌ {A = Option (ℤ × ℤ)} (Some p) None → ⊥
some-none p e = cc

pub sum-narrow : (a b : ℤ) (steps : List Step) → first_wide (sum_of a b ∷ steps) ≡ None → FitsSigned w128 (a +ℤ b)
unfolding first_wide
sum-narrow a b steps n = elim (fits_or_not (a +ℤ b)) [ inl h ↦ h | inr e ↦ absurd (some-none (a, b) (rw e at n)) ]

pub product-narrow : (a b : ℤ) (steps : List Step) → first_wide (product_of a b ∷ steps) ≡ None → FitsSigned w128 (a *ℤ b)
unfolding first_wide
product-narrow a b steps n = elim (fits_or_not (a *ℤ b)) [ inl h ↦ h | inr e ↦ absurd (some-none (a, b) (rw e at n)) ]

pub narrow-left : (xs ys : List Step) → first_wide (xs ++ ys) ≡ None → first_wide xs ≡ None
narrow-left [] ys n = first_wide-nil
narrow-left (sum_of a b ∷ xs) ys n =
    let f = sum-narrow a b (xs ++ ys) n in
    sum-fits a b xs f ∙ narrow-left xs ys (sym (sum-fits a b (xs ++ ys) f) ∙ n)
narrow-left (product_of a b ∷ xs) ys n =
    let f = product-narrow a b (xs ++ ys) n in
    product-fits a b xs f ∙ narrow-left xs ys (sym (product-fits a b (xs ++ ys) f) ∙ n)

pub narrow-right : (xs ys : List Step) → first_wide (xs ++ ys) ≡ None → first_wide ys ≡ None
narrow-right xs ys n = sym (first-narrow xs ys (narrow-left xs ys n)) ∙ n
