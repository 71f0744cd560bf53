-- Guards that are joined, by their elements.
use Rattle.std.proofs.Common.{◌≡◌, ◌≢◌, ℕ, refl, ap, sym, Bool, true, false, Option, Some, None, ◌==◌, arith}
use Rattle.std.specs.Prelude.{if◌then◌else◌}
use Rattle.std.proofs.lemmas.Bool.Decides.{nat_tests}
use Rattle.cap_galg.specs.Elements.{Element, nothing, one, share, tok, src, indices, both, whole, left, right, is_unit, compose}
use Rattle.cap_galg.specs.Algebras.{unique, atom_element}
use Rattle.cap_machine_accounts.specs.Parts.{Guard, or_none, guard_of}
use Rattle.cap_owners_spec.specs.Traced.{traced, past_width, untold, ◌>>=◌, found}
use Rattle.cap_owners_spec.specs.Filling.{counts_fit, fitting, joined}
use Rattle.cap_owners_parts.specs.Composed.{composed_element, fitted}

abbrev pub guard : ℕ → Element → Guard
guard k x = record { kind = k; element = x }

eq-same : (k : ℕ) → (k == k) ≡ true
eq-same k = grind (arith, nat_tests)

eq-other : (k j : ℕ) → k ≢ j → (k == j) ≡ false
eq-other k j h = grind (arith, nat_tests)

pub unit_fits : (x : Element) → is_unit x ≡ true → counts_fit x ≡ true
unit_fits nothing e = refl
unit_fits one e = absurd (cc)
unit_fits (share f) e = absurd (cc)
unit_fits (tok k) e = absurd (cc)
unit_fits (src n) e = absurd (cc)
unit_fits (indices xs) e = absurd (cc)
unit_fits (both x y) e = absurd (cc)
unit_fits whole e = absurd (cc)
unit_fits (left x) e = absurd (cc)
unit_fits (right y) e = absurd (cc)

fitting-of : (k : ℕ) (z : Element) (u b : Bool) → is_unit z ≡ u → counts_fit z ≡ b → fitting (if u then None else Some (guard k z)) ≡ ((if b then traced z else past_width) >>= λ w. traced (guard_of k w))
fitting-of k z true true e f = ap traced (ap (λ u. if u then None else Some (guard k z)) (sym e))
fitting-of k z true false e f = let g = unit_fits z e in absurd (cc)
fitting-of k z false true e f = rw f (ap traced (ap (λ u. if u then None else Some (guard k z)) (sym e)))
fitting-of k z false false e f = rw f refl

by-composite : (k : ℕ) (o : Option Element) → (found (or_none k o) >>= fitting) ≡ (fitted o >>= λ z. traced (guard_of k z))
by-composite k None = refl
by-composite k (Some z) = fitting-of k z (is_unit z) (counts_fit z) refl refl

pub joined_same : (k : ℕ) (x y : Element) → joined (Some (guard k x)) (Some (guard k y)) ≡ (composed_element x y >>= λ z. traced (guard_of k z))
joined_same k x y = rw (eq-same k) (by-composite k (compose x y))

pub joined_apart : (k j : ℕ) (x y : Element) → k ≢ j → joined (Some (guard k x)) (Some (guard j y)) ≡ untold
joined_apart k j x y h = rw (eq-other k j h) refl

-- with nothing held
made-fits : (k : ℕ) (x : Element) (u : Bool) → is_unit x ≡ u → counts_fit x ≡ true → fitting (if u then None else Some (guard k x)) ≡ traced (if u then None else Some (guard k x))
made-fits k x true e f = refl
made-fits k x false e f = rw f refl

pub joined_first : (k : ℕ) (x : Element) → counts_fit x ≡ true → joined None (guard_of k x) ≡ traced (guard_of k x)
joined_first k x f = made-fits k x (is_unit x) refl f

-- with the unit
pub joined_unit : (g : Guard) (k : ℕ) (x : Element) → is_unit x ≡ true → counts_fit g.element ≡ true → joined (Some g) (guard_of k x) ≡ traced (Some g)
joined_unit g k x e f = rw (e, f) refl

pub some_guard : (k : ℕ) (x : Element) → is_unit x ≡ false → guard_of k x ≡ Some (guard k x)
some_guard k x e = rw e refl

-- the guards of a type that there is not
pub unique_element : (i : ℕ) (x : Element) → atom_element unique i x ≡ x
unique_element i nothing = refl
unique_element i one = refl
unique_element i (share f) = refl
unique_element i (tok k) = refl
unique_element i (src n) = refl
unique_element i (indices xs) = refl
unique_element i (both x y) = refl
unique_element i whole = refl
unique_element i (left x) = refl
unique_element i (right y) = refl
