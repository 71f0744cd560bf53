-- Sums in a commutative monoid, in any order. A partial composition becomes total where None
-- absorbs.
use Rattle.std.proofs.Common.{◌≡◌, ℕ, ℤ, true, false, List, [], ◌∷◌, ◌++◌, Option, Some, None, refl, sym, ap, ◌∙◌, subst, inl, inr, arith}
use Rattle.std.specs.Prelude.{nat_eq, slice_index_or, if◌then◌else◌}
use Rattle.std.proofs.lemmas.Bool.{cases_eq}
use Rattle.std.proofs.lemmas.Bool.Decides.{nat_tests}

-- a partial composition as a total one
abbrev pub lift : {E : Type 0} → (E → E → Option E) → Option E → Option E → Option E
lift f None b = None
lift f (Some a) None = None
lift f (Some a) (Some b) = f a b

-- ---- sums of atoms

pub data Sum : Type 0 where
  none : Sum
  atom : ℕ → Sum
  both : Sum → Sum → Sum

abbrev pub flat : Sum → List ℕ
flat none = []
flat (atom i) = i ∷ []
flat (both s t) = flat s ++ flat t

abbrev pub on_tail : ℕ → Option (List ℕ) → Option (List ℕ)
on_tail y None = None
on_tail y (Some zs) = Some (y ∷ zs)

abbrev pub remove_one : ℕ → List ℕ → Option (List ℕ)
remove_one x [] = None
remove_one x (y ∷ ys) = if nat_eq x y then Some ys else on_tail y (remove_one x ys)

abbrev pub within_of : (List ℕ → Option (List ℕ)) → Option (List ℕ) → Option (List ℕ)
within_of f None = None
within_of f (Some ys) = f ys

-- what is left of the second list without the first
abbrev pub within : List ℕ → List ℕ → Option (List ℕ)
within [] ys = Some ys
within (x ∷ xs) ys = within_of (within xs) (remove_one x ys)

-- a commutative monoid
pub record IsCommutative (M : Type 0) (plus : M → M → M) (zero_of : M) : Type 0 where
  pub comm : (a b : M) → plus a b ≡ plus b a
  pub zero_left : (a : M) → plus zero_of a ≡ a
  pub assoc : (a b c : M) → plus (plus a b) c ≡ plus a (plus b c)

module _ (M : Type 0) (plus : M → M → M) (zero_of : M) (laws : IsCommutative M plus zero_of) where
  abbrev plus_comm : (a b : M) → plus a b ≡ plus b a
  plus_comm a b = laws.comm a b

  abbrev plus_zero : (a : M) → plus zero_of a ≡ a
  plus_zero a = laws.zero_left a

  abbrev plus_assoc : (a b c : M) → plus (plus a b) c ≡ plus a (plus b c)
  plus_assoc a b c = laws.assoc a b c

  abbrev pub Below : M → M → Type 0
  Below a b = (c : M) × (plus a c ≡ b)

  pub below_trans : (a b c : M) → Below a b → Below b c → Below a c
  below_trans a b c h k =
      (plus h.0 k.0, sym (plus_assoc a h.0 k.0) ∙ ap (λ x. plus x k.0) h.1 ∙ k.1)

  pub below_plus : (a b c : M) → Below a b → Below (plus a c) (plus b c)
  below_plus a b c h = (
    h.0,
    plus_assoc a c h.0 ∙ ap (plus a) (plus_comm c h.0) ∙ sym (plus_assoc a h.0 c) ∙ ap
        (λ x. plus x c) h.1,
  )

  -- sums of atoms
  abbrev pub at_of : List M → ℕ → M
  at_of atoms i = slice_index_or atoms i zero_of

  abbrev pub meaning : List M → Sum → M
  meaning atoms none = zero_of
  meaning atoms (atom i) = at_of atoms i
  meaning atoms (both s t) = plus (meaning atoms s) (meaning atoms t)

  abbrev sum_of : List M → List ℕ → M
  sum_of atoms [] = zero_of
  sum_of atoms (i ∷ is) = plus (at_of atoms i) (sum_of atoms is)

  sum_append :
      (atoms : List M) (xs ys : List ℕ) →
      sum_of atoms (xs ++ ys) ≡ plus (sum_of atoms xs) (sum_of atoms ys)
  sum_append atoms [] ys = sym (plus_zero (sum_of atoms ys))
  sum_append atoms (x ∷ xs) ys =
      ap (plus (at_of atoms x)) (sum_append atoms xs ys) ∙ sym
      (plus_assoc (at_of atoms x) (sum_of atoms xs) (sum_of atoms ys))

  sum_flat : (atoms : List M) (s : Sum) → meaning atoms s ≡ sum_of atoms (flat s)
  sum_flat atoms none = refl
  sum_flat atoms (atom i) = sym (plus_zero (at_of atoms i)) ∙ plus_comm zero_of (at_of atoms i)
  sum_flat atoms (both s t) =
      let a = sum_flat atoms s in
      let b = sum_flat atoms t in rw (a, b) (sym (sum_append atoms (flat s) (flat t)))

  sum_remove :
      (atoms : List M) (x : ℕ) (ys zs : List ℕ) → remove_one x ys ≡ Some zs →
      plus (at_of atoms x) (sum_of atoms zs) ≡ sum_of atoms ys
  sum_remove atoms x [] zs e = absurd (cc)
  sum_remove atoms x (y ∷ ys) zs e = elim (cases_eq x y) [
    | inl p ↦
        let t : nat_eq x y ≡ true = grind (arith, nat_tests) in
        let q : Some ys ≡ Some zs = rw t at e in
        let r : ys ≡ zs = cc in
        ap (λ w. plus (at_of atoms w) (sum_of atoms zs)) p ∙ ap
        (λ w. plus (at_of atoms y) (sum_of atoms w)) (sym r)
    | inr ne ↦
        let t : nat_eq x y ≡ false = grind (arith, nat_tests) in
        later (λ ws f. sum_remove atoms x ys ws f) (remove_one x ys) refl (rw t at e)
  ]
    where
      later :
          ((ws : List ℕ) → remove_one x ys ≡ Some ws → plus (at_of atoms x)
          (sum_of atoms ws) ≡ sum_of atoms ys) →
          (o : Option (List ℕ)) → remove_one x ys ≡ o → on_tail y o ≡ Some zs →
          plus (at_of atoms x) (sum_of atoms zs) ≡ plus (at_of atoms y) (sum_of atoms ys)
      later rec None f g = absurd (cc)
      later rec (Some ws) f g =
          let r : y ∷ ws ≡ zs = cc in
          let k = rec ws f in
          subst (λ l. plus (at_of atoms x) (sum_of atoms l) ≡ plus (at_of atoms y)
          (sum_of atoms ys)) r
          (sym (plus_assoc (at_of atoms x) (at_of atoms y) (sum_of atoms ws)) ∙ ap
          (λ w. plus w (sum_of atoms ws)) (plus_comm (at_of atoms x) (at_of atoms y))
          ∙ plus_assoc (at_of atoms y) (at_of atoms x) (sum_of atoms ws) ∙ ap
          (plus (at_of atoms y)) k)

  sum_within :
      (atoms : List M) (xs ys zs : List ℕ) → within xs ys ≡ Some zs →
      plus (sum_of atoms xs) (sum_of atoms zs) ≡ sum_of atoms ys
  sum_within atoms [] ys zs e =
      let p : ys ≡ zs = cc in plus_zero (sum_of atoms zs) ∙ ap (sum_of atoms) (sym p)
  sum_within atoms (x ∷ xs) ys zs e =
      go (λ ws h. sum_within atoms xs ws zs h) (remove_one x ys) refl e
    where
      go :
          ((ws : List ℕ) → within xs ws ≡ Some zs → plus (sum_of atoms xs)
          (sum_of atoms zs) ≡ sum_of atoms ws) →
          (o : Option (List ℕ)) → remove_one x ys ≡ o → within_of (within xs) o ≡ Some zs →
          plus (plus (at_of atoms x) (sum_of atoms xs)) (sum_of atoms zs) ≡ sum_of atoms ys
      go rec None f g = absurd (cc)
      go rec (Some ws) f g =
          plus_assoc (at_of atoms x) (sum_of atoms xs) (sum_of atoms zs) ∙ ap (plus (at_of atoms x))
          (rec ws g) ∙ sum_remove atoms x ys ws f

  -- the same atoms in another order: the last argument is refl
  pub reorder :
      (atoms : List M) (s t : Sum) → within (flat s) (flat t) ≡ Some [] →
      meaning atoms s ≡ meaning atoms t
  reorder atoms s t e =
      let a = sum_within atoms (flat s) (flat t) [] e in
      sum_flat atoms s ∙ sym
      (plus_comm (sum_of atoms (flat s)) zero_of ∙ plus_zero (sum_of atoms (flat s))) ∙ a ∙ sym
      (sum_flat atoms t)

  -- some of the atoms in another order
  pub fewer :
      (atoms : List M) (s t : Sum) (zs : List ℕ) → within (flat s) (flat t) ≡ Some zs →
      Below (meaning atoms s) (meaning atoms t)
  fewer atoms s t zs e = (
    sum_of atoms zs,
    ap (λ x. plus x (sum_of atoms zs)) (sum_flat atoms s) ∙ sum_within atoms
        (flat s) (flat t) zs e ∙ sym (sum_flat atoms t),
  )

-- families and pairs
pub each_of :
    (M : Type 0) (plus : M → M → M) (zero_of : M) → IsCommutative M plus zero_of →
    IsCommutative (ℤ → M) (λ f g k. plus (f k) (g k)) (λ k. zero_of)
each_of M plus zero_of l = record {
  comm = λ f g i k. l.comm (f k) (g k) i;
  zero_left = λ f i k. l.zero_left (f k) i;
  assoc = λ f g h i k. l.assoc (f k) (g k) (h k) i;
}
