-- Elements of one atom compose as the atom's elements do, and those of atoms that stand apart never
-- compose.
use Rattle.std.proofs.Common.{◌≡◌, ℕ, ◌-◌, refl, sym, ap, ◌∙◌, inl, inr, Bool, true, false, Option}
use Rattle.std.proofs.Common.{Some, None}
use Rattle.std.specs.Prelude.{nat_lt, ◌&&◌, if◌then◌else◌}
use Rattle.cap_galg_spec.specs.Elements.{Element, nothing, both, whole, left, right, is_unit}
use Rattle.cap_galg_spec.specs.Elements.{is_full}
use Rattle.cap_galg_spec.specs.Elements.{on_left, on_right, bind, compose}
use Rattle.cap_galg_spec.specs.Algebras.{PlainAlgebra, unique, divisible, counting, indexed}
use Rattle.cap_galg_spec.specs.Algebras.{product}
use Rattle.cap_galg_spec.specs.Algebras.{sum, atoms, at_atom, atom_element, are_apart}
use Rattle.cap_galg_spec.specs.Laws.Composition.{true_or_false, IsSound, unit-is, compose-comm}
use Rattle.cap_galg_spec.specs.Laws.Composition.{compose-nothing, composed-not-unit, full_alone}

-- an element that isn't the unit
pub record IsSome (x : Element) : Type 0 where
  pub sound : IsSound x
  pub some : is_unit x ≡ false

pub product-some : (t : Bool) (x y : Element) → IsSome x → IsSome y
    → IsSome (if t then both x nothing else both nothing y)
product-some true x y p q = record { sound = (p.sound, tt, ap (λ b. b && true) p.some); some = refl }
product-some false x y p q = record { sound = (tt, q.sound, q.some); some = refl }

pub left-some : (b : Bool) (x : Element) → is_full x ≡ b → IsSome x
    → IsSome (if b then whole else left x)
left-some true x e p = record { sound = tt; some = refl }
left-some false x e p = record { sound = (p.sound, p.some, e); some = refl }

pub right-some : (b : Bool) (y : Element) → is_full y ≡ b → IsSome y
    → IsSome (if b then whole else right y)
right-some true y e p = record { sound = tt; some = refl }
right-some false y e p = record { sound = (p.sound, p.some, e); some = refl }

sum-some : (t : Bool) (x y : Element) → IsSome x → IsSome y
    → IsSome (if t then on_left x else on_right y)
sum-some true x y p q = left-some (is_full x) x refl p
sum-some false x y p q = right-some (is_full y) y refl q

pub at_atom-some : (a : PlainAlgebra) (i : ℕ) (x : Element) → IsSome x → IsSome (at_atom a i x)
at_atom-some unique i x p = p
at_atom-some divisible i x p = p
at_atom-some counting i x p = p
at_atom-some indexed i x p = p
at_atom-some (product a b) i x p = product-some (nat_lt i (atoms a)) (at_atom a i x) (at_atom b (i - atoms a) x) (at_atom-some a i x p) (at_atom-some b (i - atoms a) x p)
at_atom-some (sum a b) i x p = sum-some (nat_lt i (atoms a)) (at_atom a i x) (at_atom b (i - atoms a) x) (at_atom-some a i x p) (at_atom-some b (i - atoms a) x p)

-- an atom's element is sound, and the unit only for the unit
pub atom-sound : (a : PlainAlgebra) (i : ℕ) (x : Element) → IsSound x → IsSound (atom_element a i x)
atom-sound a i x s = by (is_unit x) refl
  where
    by : (b : Bool) → is_unit x ≡ b → IsSound (if b then nothing else at_atom a i x)
    by true e = tt
    by false e = (at_atom-some a i x (record { sound = s; some = e })).sound

pub atom-some : (a : PlainAlgebra) (i : ℕ) (x : Element) → IsSome x
    → (atom_element a i x ≡ at_atom a i x) × IsSome (at_atom a i x)
atom-some a i x p = (ap (λ b. if b then nothing else at_atom a i x) p.some, at_atom-some a i x p)

-- ---- options

bind-some : (o : Option Element) → bind o (λ z. Some z) ≡ o
bind-some None = refl
bind-some (Some z) = refl

pub bind-map : (o : Option Element) (f g : Element → Element)
    → bind (bind o (λ z. Some (f z))) (λ u. Some (g u)) ≡ bind o (λ z. Some (g (f z)))
bind-map None f g = refl
bind-map (Some z) f g = refl

bind-same : (o : Option Element) (f g : Element → Element)
    → ((z : Element) → o ≡ Some z → f z ≡ g z) → bind o (λ z. Some (f z)) ≡ bind o (λ z. Some (g z))
bind-same None f g h = refl
bind-same (Some z) f g h = ap (λ u. Some u) (h z refl)

-- ---- one atom

product-follows : (t : Bool) (f g : Element → Element) (x y : Element)
    → compose (f x) (f y) ≡ bind (compose x y) (λ z. Some (f z))
    → compose (g x) (g y) ≡ bind (compose x y) (λ z. Some (g z))
    → compose (if t then both (f x) nothing else both nothing (g x)) (if t then both (f y) nothing else both nothing (g y)) ≡ bind (compose x y) (λ z. Some (if t then both (f z) nothing else both nothing (g z)))
product-follows true f g x y p q = ap (λ o. bind o (λ u. Some (both u nothing))) p ∙ bind-map (compose x y) f (λ u. both u nothing)
product-follows false f g x y p q = ap (λ o. bind o (λ u. Some (both nothing u))) q ∙ bind-map (compose x y) g (λ u. both nothing u)

pub left-both : (s t : Bool) (x y : Element) → is_full x ≡ s → is_full y ≡ t → IsSome x → IsSome y
    → compose (if s then whole else left x) (if t then whole else left y)
    ≡ bind (compose x y) (λ z. Some (on_left z))
left-both true true x y e f p q = sym (ap (λ o. bind o (λ z. Some (on_left z))) (full_alone x y p.sound q.sound e q.some))
left-both true false x y e f p q = sym (ap (λ o. bind o (λ z. Some (on_left z))) (full_alone x y p.sound q.sound e q.some))
left-both false true x y e f p q = sym (ap (λ o. bind o (λ z. Some (on_left z))) (compose-comm x y p.sound q.sound ∙ full_alone y x q.sound p.sound f p.some))
left-both false false x y e f p q = refl

pub right-both : (s t : Bool) (x y : Element) → is_full x ≡ s → is_full y ≡ t → IsSome x → IsSome y
    → compose (if s then whole else right x) (if t then whole else right y)
    ≡ bind (compose x y) (λ z. Some (on_right z))
right-both true true x y e f p q = sym (ap (λ o. bind o (λ z. Some (on_right z))) (full_alone x y p.sound q.sound e q.some))
right-both true false x y e f p q = sym (ap (λ o. bind o (λ z. Some (on_right z))) (full_alone x y p.sound q.sound e q.some))
right-both false true x y e f p q = sym (ap (λ o. bind o (λ z. Some (on_right z))) (compose-comm x y p.sound q.sound ∙ full_alone y x q.sound p.sound f p.some))
right-both false false x y e f p q = refl

sum-follows : (t : Bool) (f g : Element → Element) (x y : Element) → IsSome (f x) → IsSome (f y)
    → IsSome (g x) → IsSome (g y)
    → compose (f x) (f y) ≡ bind (compose x y) (λ z. Some (f z))
    → compose (g x) (g y) ≡ bind (compose x y) (λ z. Some (g z))
    → compose (if t then on_left (f x) else on_right (g x)) (if t then on_left (f y) else on_right (g y)) ≡ bind (compose x y) (λ z. Some (if t then on_left (f z) else on_right (g z)))
sum-follows true f g x y u v s t p q = left-both (is_full (f x)) (is_full (f y)) (f x) (f y) refl refl u v ∙ ap (λ o. bind o (λ z. Some (on_left z))) p ∙ bind-map (compose x y) f (λ z. on_left z)
sum-follows false f g x y u v s t p q = right-both (is_full (g x)) (is_full (g y)) (g x) (g y) refl refl s t ∙ ap (λ o. bind o (λ z. Some (on_right z))) q ∙ bind-map (compose x y) g (λ z. on_right z)

pub at_atom-composed : (a : PlainAlgebra) (i : ℕ) (x y : Element) → IsSome x → IsSome y
    → compose (at_atom a i x) (at_atom a i y) ≡ bind (compose x y) (λ z. Some (at_atom a i z))
at_atom-composed unique i x y p q = sym (bind-some (compose x y))
at_atom-composed divisible i x y p q = sym (bind-some (compose x y))
at_atom-composed counting i x y p q = sym (bind-some (compose x y))
at_atom-composed indexed i x y p q = sym (bind-some (compose x y))
at_atom-composed (product a b) i x y p q =
    product-follows (nat_lt i (atoms a)) (λ z. at_atom a i z) (λ z. at_atom b (i - atoms a) z) x y (at_atom-composed a i x y p q) (at_atom-composed b (i - atoms a) x y p q)
at_atom-composed (sum a b) i x y p q =
    sum-follows (nat_lt i (atoms a)) (λ z. at_atom a i z) (λ z. at_atom b (i - atoms a) z) x y
    (at_atom-some a i x p) (at_atom-some a i y q) (at_atom-some b (i - atoms a) x p) (at_atom-some b (i - atoms a) y q)
    (at_atom-composed a i x y p q) (at_atom-composed b (i - atoms a) x y p q)

-- the elements of one atom compose exactly where the atom's do, to the element of what those
-- compose to
pub atom-composed : (a : PlainAlgebra) (i : ℕ) (x y : Element) → IsSound x → IsSound y
    → compose (atom_element a i x) (atom_element a i y)
    ≡ bind (compose x y) (λ z. Some (atom_element a i z))
atom-composed a i x y p q = elim (true_or_false (is_unit x)) [
  | inl u ↦ rw (unit-is x u) refl
  | inr u ↦ elim (true_or_false (is_unit y)) [
    | inl v ↦ rw (unit-is y v, compose-nothing x) (compose-nothing (atom_element a i x))
    | inr v ↦
        rw (u, v) (at_atom-composed a i x y (record { sound = p; some = u }) (record { sound = q; some = v })
        ∙ bind-same (compose x y) (λ z. at_atom a i z) (λ z. atom_element a i z) (λ z e. sym (ap (λ b. if b then nothing else at_atom a i z) (composed-not-unit x y z u e))))
  ]
]

-- ---- atoms that stand apart

product-apart : (s t l r c d : Bool) (x y u v : Element) → (l ≡ true → compose x y ≡ None)
    → (r ≡ true → compose u v ≡ None)
    → (if s then (if t then l else false && c) else (if t then false && d else r)) ≡ true
    → compose (if s then both x nothing else both nothing u) (if t then both y nothing else both nothing v) ≡ None
product-apart true true l r c d x y u v p q e = ap (λ o. bind o (λ z. Some (both z nothing))) (p e)
product-apart true false l r c d x y u v p q e = cc
product-apart false true l r c d x y u v p q e = cc
product-apart false false l r c d x y u v p q e = ap (λ o. bind o (λ z. Some (both nothing z))) (q e)

left-none : (s t : Bool) (x y : Element) → compose x y ≡ None
    → compose (if s then whole else left x) (if t then whole else left y) ≡ None
left-none true true x y e = refl
left-none true false x y e = refl
left-none false true x y e = refl
left-none false false x y e = ap (λ o. bind o (λ z. Some (on_left z))) e

right-none : (s t : Bool) (x y : Element) → compose x y ≡ None
    → compose (if s then whole else right x) (if t then whole else right y) ≡ None
right-none true true x y e = refl
right-none true false x y e = refl
right-none false true x y e = refl
right-none false false x y e = ap (λ o. bind o (λ z. Some (on_right z))) e

sides-none : (s t : Bool) (x y : Element)
    → compose (if s then whole else left x) (if t then whole else right y) ≡ None
sides-none true true x y = refl
sides-none true false x y = refl
sides-none false true x y = refl
sides-none false false x y = refl

sides-none_turned : (s t : Bool) (x y : Element)
    → compose (if s then whole else right x) (if t then whole else left y) ≡ None
sides-none_turned true true x y = refl
sides-none_turned true false x y = refl
sides-none_turned false true x y = refl
sides-none_turned false false x y = refl

sum-apart : (s t l r c d : Bool) (x y u v : Element) → (l ≡ true → compose x y ≡ None)
    → (r ≡ true → compose u v ≡ None)
    → (if s then (if t then l else true && c) else (if t then true && d else r)) ≡ true
    → compose (if s then on_left x else on_right u) (if t then on_left y else on_right v) ≡ None
sum-apart true true l r c d x y u v p q e = left-none (is_full x) (is_full y) x y (p e)
sum-apart true false l r c d x y u v p q e = sides-none (is_full x) (is_full v) x v
sum-apart false true l r c d x y u v p q e = sides-none_turned (is_full u) (is_full y) u y
sum-apart false false l r c d x y u v p q e = right-none (is_full u) (is_full v) u v (q e)

pub apart-never : (a : PlainAlgebra) (i j : ℕ) (x y : Element) → are_apart a i j ≡ true
    → compose (at_atom a i x) (at_atom a j y) ≡ None
apart-never unique i j x y e = cc
apart-never divisible i j x y e = cc
apart-never counting i j x y e = cc
apart-never indexed i j x y e = cc
apart-never (product a b) i j x y e =
    product-apart (nat_lt i (atoms a)) (nat_lt j (atoms a)) (are_apart a i j) (are_apart b (i - atoms a) (j - atoms a)) (nat_lt (j - atoms a) (atoms b)) (nat_lt (i - atoms a) (atoms b))
    (at_atom a i x) (at_atom a j y) (at_atom b (i - atoms a) x) (at_atom b (j - atoms a) y)
    (λ h. apart-never a i j x y h) (λ h. apart-never b (i - atoms a) (j - atoms a) x y h) e
apart-never (sum a b) i j x y e =
    sum-apart (nat_lt i (atoms a)) (nat_lt j (atoms a)) (are_apart a i j) (are_apart b (i - atoms a) (j - atoms a)) (nat_lt (j - atoms a) (atoms b)) (nat_lt (i - atoms a) (atoms b))
    (at_atom a i x) (at_atom a j y) (at_atom b (i - atoms a) x) (at_atom b (j - atoms a) y)
    (λ h. apart-never a i j x y h) (λ h. apart-never b (i - atoms a) (j - atoms a) x y h) e
