-- Elements of one atom are elements of the algebra.
use Rattle.std.proofs.Common.{◌≡◌, ℕ, ◌+◌, ◌-◌, ◌<◌, ◌≤◌, arith, refl, sym, ap, ◌∙◌, subst, inl}
use Rattle.std.proofs.Common.{inr, Bool, true, false}
use Rattle.std.specs.Prelude.{nat_lt, ◌==◌, ◌&&◌, if◌then◌else◌}
use Rattle.std.proofs.lemmas.Bool.Decides.{nat_tests}
use Rattle.cap_galg_indices.specs.Laws.Members.{one-ascends, from-ascends}
use Rattle.cap_galg_spec.specs.Elements.{Element, nothing, both, is_unit, is_full, on_left}
use Rattle.cap_galg_spec.specs.Elements.{on_right}
use Rattle.cap_galg_spec.specs.Algebras.{PlainAlgebra, unique, divisible, counting, indexed}
use Rattle.cap_galg_spec.specs.Algebras.{product}
use Rattle.cap_galg_spec.specs.Algebras.{sum, IsElement, atoms, atom_algebra, at_atom, atom_element}
use Rattle.cap_galg_spec.specs.Algebras.{apart_at_node, are_apart}
use Rattle.cap_galg.specs.Views.{amount_element, IsAmountOf}
use Rattle.cap_galg.specs.declared.amount.Amount.{Amount}
use Rattle.cap_galg.specs.declared.amount.Amount.TheVariants as part
use Rattle.cap_galg_spec.specs.Laws.Composition.{true_or_false, side-not-unit, side-not-unit_right}
use Rattle.cap_galg_spec.specs.Laws.Algebras.{left-element, right-element}
use Rattle.cap_galg_atoms.specs.Laws.Kin.{tokens-is}
use Rattle.cap_galg.specs.Laws.Kin.{amount-is}

pub true-lt : (a b : ℕ) → nat_lt a b ≡ true → a < b
true-lt a b e = grind (arith, nat_tests, e)

pub false-lt : (a b : ℕ) → nat_lt a b ≡ false → b ≤ a
false-lt a b e = grind (arith, nat_tests, e)

pub lt-true : (a b : ℕ) → a < b → nat_lt a b ≡ true
lt-true a b h = grind (arith, nat_tests)

pub lt-false : (a b : ℕ) → b ≤ a → nat_lt a b ≡ false
lt-false a b h = grind (arith, nat_tests)

-- an element that isn't the unit
record IsPart (a : PlainAlgebra) (x : Element) : Type 0 where
  element : IsElement a x
  some : is_unit x ≡ false

product-part : (a b : PlainAlgebra) (x y : Element) (t : Bool) → (t ≡ true → IsPart a x)
    → (t ≡ false → IsPart b y) → IsPart (product a b) (if t then both x nothing else both nothing y)
product-part a b x y true p q = let r = p refl in record { element = (r.element, tt, ap (λ w. w && true) r.some); some = refl }
product-part a b x y false p q = let r = q refl in record { element = (tt, r.element, r.some); some = refl }

sum-part : (a b : PlainAlgebra) (x y : Element) (t : Bool) → (t ≡ true → IsPart a x)
    → (t ≡ false → IsPart b y) → IsPart (sum a b) (if t then on_left x else on_right y)
sum-part a b x y true p q = let r = p refl in record { element = left-element a b (is_full x) x refl r.element r.some; some = side-not-unit (is_full x) x }
sum-part a b x y false p q = let r = q refl in record { element = right-element a b (is_full y) y refl r.element r.some; some = side-not-unit_right (is_full y) y }

first-of : (a b : PlainAlgebra) (i : ℕ) (t : Bool) (x : Element) → t ≡ true
    → IsElement (if t then atom_algebra a i else atom_algebra b (i - atoms a)) x
    → IsElement (atom_algebra a i) x
first-of a b i true x e h = h
first-of a b i false x e h = cc

second-of : (a b : PlainAlgebra) (i : ℕ) (t : Bool) (x : Element) → t ≡ false
    → IsElement (if t then atom_algebra a i else atom_algebra b (i - atoms a)) x
    → IsElement (atom_algebra b (i - atoms a)) x
second-of a b i true x e h = cc
second-of a b i false x e h = h

at_atom-part : (a : PlainAlgebra) (i : ℕ) (x : Element) → i < atoms a
    → IsElement (atom_algebra a i) x → is_unit x ≡ false → IsPart a (at_atom a i x)
at_atom-part unique i x l h u = record { element = h; some = u }
at_atom-part divisible i x l h u = record { element = h; some = u }
at_atom-part counting i x l h u = record { element = h; some = u }
at_atom-part indexed i x l h u = record { element = h; some = u }
at_atom-part (product a b) i x l h u =
    product-part a b (at_atom a i x) (at_atom b (i - atoms a) x) (nat_lt i (atoms a))
    (λ e. at_atom-part a i x (true-lt _ _ e) (first-of a b i (nat_lt i (atoms a)) x e h) u)
    (λ e. at_atom-part b (i - atoms a) x (let g = false-lt i (atoms a) e in omega arith) (second-of a b i (nat_lt i (atoms a)) x e h) u)
at_atom-part (sum a b) i x l h u =
    sum-part a b (at_atom a i x) (at_atom b (i - atoms a) x) (nat_lt i (atoms a))
    (λ e. at_atom-part a i x (true-lt _ _ e) (first-of a b i (nat_lt i (atoms a)) x e h) u)
    (λ e. at_atom-part b (i - atoms a) x (let g = false-lt i (atoms a) e in omega arith) (second-of a b i (nat_lt i (atoms a)) x e h) u)

pub atom-is : (a : PlainAlgebra) (i : ℕ) (x : Element) → i < atoms a
    → IsElement (atom_algebra a i) x → IsElement a (atom_element a i x)
atom-is a i x l h = elim (true_or_false (is_unit x)) [
  | inl u ↦ subst (λ t. IsElement a (if t then nothing else at_atom a i x)) (sym u) tt
  | inr u ↦ subst (λ t. IsElement a (if t then nothing else at_atom a i x)) (sym u) (at_atom-part a i x l h u).element
]

-- amounts of an atomic algebra are elements of it
pub amount-element : (a : PlainAlgebra) (m : Amount) → IsAmountOf a m
    → IsElement a (amount_element m)
amount-element unique part.One h = tt
amount-element divisible (part.Share f) h = amount-is (f.num == 0) f refl h
amount-element counting (part.Src n) h = tt
amount-element counting (part.Tok k) h = tokens-is k
amount-element indexed (part.At i) h = (one-ascends i, refl)
amount-element indexed (part.From i) h = (from-ascends i, refl)
amount-element a m h = absurd h

pub placed-is : (a b : PlainAlgebra) (i : ℕ) (m : Amount) (x y : Element) (u : Bool) → i < atoms a
    → IsAmountOf (atom_algebra a i) m → x ≡ amount_element m → u ≡ is_unit x → u ≡ false
    → y ≡ at_atom a i x → b ≡ a → IsElement b y
placed-is a b i m x y u l h e f g p q =
    let k : IsElement (atom_algebra a i) x = subst (IsElement (atom_algebra a i)) (sym e) (amount-element (atom_algebra a i) m h) in
    let r = (at_atom-part a i x l k (sym f ∙ g)).element in
    subst (λ c. IsElement c y) (sym q) (subst (IsElement a) (sym p) r)

-- ---- atoms that stand apart

and-no : (a : Bool) → (a && false) ≡ false
and-no true = refl
and-no false = refl

apart_at_node-second : (is_sum : Bool) (l r : ℕ → ℕ → Bool) (n m i j : ℕ) → n + m ≤ j
    → r (i - n) (j - n) ≡ false → apart_at_node is_sum l r n m i j ≡ false
apart_at_node-second is_sum l r n m i j h e =
    let a : n ≤ j = omega arith in
    let b : m ≤ j - n = omega arith in
    elim (true_or_false (nat_lt i n)) [
      | inl t ↦ rw (t, lt-false j n a, lt-false (j - n) m b) (and-no is_sum)
      | inr f ↦ rw (f, lt-false j n a) e
    ]

apart_at_node-first : (is_sum : Bool) (l r : ℕ → ℕ → Bool) (n m i j : ℕ) → n + m ≤ i
    → r (i - n) (j - n) ≡ false → apart_at_node is_sum l r n m i j ≡ false
apart_at_node-first is_sum l r n m i j h e =
    let a : n ≤ i = omega arith in
    let b : m ≤ i - n = omega arith in
    elim (true_or_false (nat_lt j n)) [
      | inl t ↦ rw (lt-false i n a, t, lt-false (i - n) m b) (and-no is_sum)
      | inr f ↦ rw (lt-false i n a, f) e
    ]

pub apart-second : (a : PlainAlgebra) (i j : ℕ) → atoms a ≤ j → are_apart a i j ≡ false
apart-second unique i j h = refl
apart-second divisible i j h = refl
apart-second counting i j h = refl
apart-second indexed i j h = refl
apart-second (product a b) i j h = apart_at_node-second false (are_apart a) (are_apart b) (atoms a) (atoms b) i j h (apart-second b (i - atoms a) (j - atoms a) (omega arith))
apart-second (sum a b) i j h = apart_at_node-second true (are_apart a) (are_apart b) (atoms a) (atoms b) i j h (apart-second b (i - atoms a) (j - atoms a) (omega arith))

pub apart-first : (a : PlainAlgebra) (i j : ℕ) → atoms a ≤ i → are_apart a i j ≡ false
apart-first unique i j h = refl
apart-first divisible i j h = refl
apart-first counting i j h = refl
apart-first indexed i j h = refl
apart-first (product a b) i j h = apart_at_node-first false (are_apart a) (are_apart b) (atoms a) (atoms b) i j h (apart-first b (i - atoms a) (j - atoms a) (omega arith))
apart-first (sum a b) i j h = apart_at_node-first true (are_apart a) (are_apart b) (atoms a) (atoms b) i j h (apart-first b (i - atoms a) (j - atoms a) (omega arith))
