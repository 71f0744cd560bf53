-- Guards with the type of their region are a commutative monoid, where what doesn't compose is
-- none.
use Rattle.std.proofs.Common.{◌≡◌, ℕ, ◌+◌, List, [], ◌∷◌, Bool, true, false, Option, Some, None, refl, sym, ap, ◌∙◌, subst, arith}
use Rattle.std.specs.Prelude.{not, nat_eq, nat_lt, nat_le, ◌&&◌, ◌==◌}
use Rattle.std.proofs.lemmas.Bool.Decides.{nat_tests}
use Rattle.cap_galg_indices.specs.Sets.{AscendFrom, is_empty}
use Rattle.cap_galg.specs.cap_galg_spec.declared.fraction.Fraction.{Fraction}
use Rattle.cap_galg.specs.Fractions.{IsShare, gcd}
use Rattle.cap_galg.specs.Elements.{Element, nothing, one, share, tok, src, indices, both, whole, left, right, is_unit, is_full, bind, compose}
use Rattle.cap_galg.specs.Algebras.{PlainAlgebra, unique, divisible, counting, indexed, product, sum, full, IsElement}
use Rattle.cap_galg.specs.Laws.Fractions.{gcd-is, amount-from, from-lowest}
use Rattle.cap_galg.specs.Laws.Composition.{le-true, true-le, true-eq, eq-true, compose-comm, composed-not-unit, compose_assoc}
use Rattle.cap_galg.specs.Laws.Algebras.{sound-of, closed, full-element, full-present}
use Rattle.cap_galg.specs.Laws.Atoms.{true-lt, lt-true}
use Rattle.cap_prog.specs.Program.{PlainProgram}
use Rattle.cap_machine_accounts.specs.Parts.{Guard, join, algebra_of}
use Rattle.cap_account_resources.proofs.Heaps.{both-true}
use Rattle.cap_account_resources.proofs.Monoid.{lift, IsCommutative}

-- ---- which elements an algebra has, as a test

abbrev pub is_share : Fraction → Bool
is_share f = nat_lt 0 f.num && (nat_le f.num f.den && (gcd f.num f.den == 1))

pub share-tested : (f : Fraction) → is_share f ≡ true → IsShare f
share-tested f e =
    let h = both-true (nat_lt 0 f.num) (nat_le f.num f.den && (gcd f.num f.den == 1)) e in
    let k = both-true (nat_le f.num f.den) (gcd f.num f.den == 1) h.1 in
    let p = true-lt 0 f.num h.0 in
    let m = true-le f.num f.den k.0 in
    record {
      amount =
          amount-from f (gcd f.num f.den) (omega (arith, p, m)) m (gcd-is f.num f.den)
          (true-eq (gcd f.num f.den) 1 k.1);
      positive = p;
    }

pub tested-share : (f : Fraction) → IsShare f → is_share f ≡ true
tested-share f h =
    let a = lt-true 0 f.num h.positive in
    let b = le-true f.num f.den h.amount.most in
    let c = eq-true (gcd f.num f.den) 1
    (from-lowest f (gcd f.num f.den) (gcd-is f.num f.den) h.amount.lowest) in
    rw (a, b, c) refl

-- the bounds of a set of indices
abbrev pub ascend_from : ℕ → List ℕ → Bool
ascend_from low [] = true
ascend_from low (x ∷ xs) = nat_le low x && ascend_from (x + 1) xs

ascend-tested : (low : ℕ) (xs : List ℕ) → ascend_from low xs ≡ true → AscendFrom low xs
ascend-tested low [] e = tt
ascend-tested low (x ∷ xs) e =
    let h = both-true (nat_le low x) (ascend_from (x + 1) xs) e in
    (true-le low x h.0, ascend-tested (x + 1) xs h.1)

tested-ascend : (low : ℕ) (xs : List ℕ) → AscendFrom low xs → ascend_from low xs ≡ true
tested-ascend low [] h = refl
tested-ascend low (x ∷ xs) h =
    rw (le-true low x h.0, tested-ascend (x + 1) xs h.1) refl

abbrev pub is_element : PlainAlgebra → Element → Bool
is_element a nothing = true
is_element unique one = true
is_element divisible (share f) = is_share f
is_element counting (tok k) = nat_lt 0 k
is_element counting (src n) = true
is_element indexed (indices xs) = ascend_from 0 xs && not (is_empty xs)
is_element (product a b) (both x y) =
    is_element a x && (is_element b y && not (is_unit x && is_unit y))
is_element (sum a b) whole = true
is_element (sum a b) (left x) = is_element a x && (not (is_unit x) && not (is_full x))
is_element (sum a b) (right y) = is_element b y && (not (is_unit y) && not (is_full y))
is_element a x = false

not-true : (b : Bool) → not b ≡ true → b ≡ false
not-true true e = absurd (cc)
not-true false e = refl

pub element-tested : (a : PlainAlgebra) (x : Element) → is_element a x ≡ true → IsElement a x
element-tested a nothing e = tt
element-tested unique one e = tt
element-tested divisible (share f) e = share-tested f e
element-tested counting (tok k) e = true-lt 0 k e
element-tested counting (src n) e = tt
element-tested indexed (indices xs) e =
    let h = both-true (ascend_from 0 xs) (not (is_empty xs)) e in
    (ascend-tested 0 xs h.0, not-true (is_empty xs) h.1)
element-tested (product a b) (both x y) e =
    let h = both-true (is_element a x) (is_element b y && not (is_unit x && is_unit y)) e in
    let k = both-true (is_element b y) (not (is_unit x && is_unit y)) h.1 in
    (element-tested a x h.0, element-tested b y k.0, not-true (is_unit x && is_unit y) k.1)
element-tested (sum a b) whole e = tt
element-tested (sum a b) (left x) e =
    let h = both-true (is_element a x) (not (is_unit x) && not (is_full x)) e in
    let k = both-true (not (is_unit x)) (not (is_full x)) h.1 in
    (element-tested a x h.0, not-true (is_unit x) k.0, not-true (is_full x) k.1)
element-tested (sum a b) (right y) e =
    let h = both-true (is_element b y) (not (is_unit y) && not (is_full y)) e in
    let k = both-true (not (is_unit y)) (not (is_full y)) h.1 in
    (element-tested b y h.0, not-true (is_unit y) k.0, not-true (is_full y) k.1)
element-tested a x e = absurd (cc)

pub tested-element : (a : PlainAlgebra) (x : Element) → IsElement a x → is_element a x ≡ true
tested-element a nothing h = refl
tested-element unique one h = refl
tested-element divisible (share f) h = tested-share f h
tested-element counting (tok k) h = lt-true 0 k h
tested-element counting (src n) h = refl
tested-element indexed (indices xs) h = rw (tested-ascend 0 xs h.0, h.1) refl
tested-element (product a b) (both x y) h =
    rw (tested-element a x h.0, tested-element b y h.1, h.2) refl
tested-element (sum a b) whole h = refl
tested-element (sum a b) (left x) h = rw (tested-element a x h.0, h.1, h.2) refl
tested-element (sum a b) (right y) h = rw (tested-element b y h.0, h.1, h.2) refl
tested-element a x h = absurd h

-- ---- marks: guards of a region type, which are elements and not the unit

-- an element of type k's guards that is not the unit
abbrev pub is : PlainProgram → ℕ → Element → Bool
is p k x = is_element (algebra_of p k) x && not (is_unit x)

pub is-element :
    (p : PlainProgram) (k : ℕ) (x : Element) → is p k x ≡ true → IsElement (algebra_of p k) x
is-element p k x e =
    element-tested (algebra_of p k) x
    (both-true (is_element (algebra_of p k) x) (not (is_unit x)) e).0

pub is-present : (p : PlainProgram) (k : ℕ) (x : Element) → is p k x ≡ true → is_unit x ≡ false
is-present p k x e =
    not-true (is_unit x) (both-true (is_element (algebra_of p k) x) (not (is_unit x)) e).1

pub is-by :
    (p : PlainProgram) (k : ℕ) (x : Element) → IsElement (algebra_of p k) x → is_unit x ≡ false →
    is p k x ≡ true
is-by p k x h u = rw (tested-element (algebra_of p k) x h, u) refl

pub is-closed :
    (p : PlainProgram) (k : ℕ) (x y z : Element) → is p k x ≡ true → is p k y ≡ true →
    compose x y ≡ Some z → is p k z ≡ true
is-closed p k x y z h g e =
    is-by p k z (closed (algebra_of p k) x y z (is-element p k x h) (is-element p k y g) e)
    (composed-not-unit x y z (is-present p k x h) e)

pub is-full : (p : PlainProgram) (k : ℕ) → is p k (full (algebra_of p k)) ≡ true
is-full p k =
    is-by p k (full (algebra_of p k)) (full-element (algebra_of p k))
    (full-present (algebra_of p k))

pub is-associative :
    (p : PlainProgram) (k : ℕ) (x y z : Element) → is p k x ≡ true → is p k y ≡ true →
    is p k z ≡ true → bind (compose x y) (λ u. compose u z) ≡ bind (compose y z) (λ u. compose x u)
is-associative p k x y z h g i =
    compose_assoc x y z (sound-of (algebra_of p k) x (is-element p k x h))
    (sound-of (algebra_of p k) y (is-element p k y g))
    (sound-of (algebra_of p k) z (is-element p k z i))

-- a mark is no guard, the one unit of all types, or a guard
abbrev pub Mark : Type 0
Mark = Option Guard

abbrev pub free : Mark
free = None

abbrev pub of : ℕ → Element → Mark
of k x = Some (record { kind = k; element = x })

abbrev pub wrap : ℕ → Option Element → Option Mark
wrap k None = None
wrap k (Some z) = Some (of k z)

abbrev pub meet_if : Bool → ℕ → Element → Element → Option Mark
meet_if true k x y = wrap k (compose x y)
meet_if false k x y = None

-- of one type, and guards of it
abbrev pub fit : PlainProgram → ℕ → Element → ℕ → Element → Bool
fit p k x j y = nat_eq k j && (is p k x && is p j y)

-- what is no guard of its type composes with the unit alone, so that composition is lawful without
-- a premise
abbrev pub meet : PlainProgram → Mark → Mark → Option Mark
meet p None b = Some b
meet p (Some g) None = Some (Some g)
meet p (Some g) (Some h) =
    meet_if (fit p g.kind g.element h.kind h.element) g.kind g.element h.element

pub record Fitting (p : PlainProgram) (k : ℕ) (x : Element) (j : ℕ) (y : Element) : Type 0 where
  pub same : k ≡ j
  pub first : is p k x ≡ true
  pub second : is p j y ≡ true

pub fitting :
    (p : PlainProgram) (k : ℕ) (x : Element) (j : ℕ) (y : Element) → fit p k x j y ≡ true →
    Fitting p k x j y
fitting p k x j y e =
    let h = both-true (nat_eq k j) (is p k x && is p j y) e in
    let g = both-true (is p k x) (is p j y) h.1 in
    let t = h.0 in
    record { same = grind (arith, nat_tests, t); first = g.0; second = g.1 }

module _ (p : PlainProgram) where
  turned : (k j : ℕ) (x y : Element) → fit p k x j y ≡ true → fit p j y k x ≡ true
  turned k j x y e =
      let f = fitting p k x j y e in
      let t : nat_eq j k ≡ true = (let q = f.same in grind (arith, nat_tests, q)) in
      let a = f.first in
      let b = f.second in
      rw (t, a, b) refl

  meet-comm : (a b : Mark) → meet p a b ≡ meet p b a
  meet-comm None None = refl
  meet-comm None (Some h) = refl
  meet-comm (Some g) None = refl
  meet-comm (Some g) (Some h) =
      by g.kind g.element h.kind h.element (fit p g.kind g.element h.kind h.element) refl
      (fit p h.kind h.element g.kind g.element) refl
    where
      by :
          (k : ℕ) (x : Element) (j : ℕ) (y : Element) (s : Bool) → fit p k x j y ≡ s → (t : Bool) →
          fit p j y k x ≡ t → meet_if s k x y ≡ meet_if t j y x
      by k x j y true e true g =
          let f = fitting p k x j y e in
          ap (wrap k)
          (compose-comm x y (sound-of (algebra_of p k) x (is-element p k x f.first))
          (sound-of (algebra_of p j) y (is-element p j y f.second)))
          ∙ ap (λ n. wrap n (compose y x)) f.same
      by k x j y true e false g = absurd (let q = turned k j x y e in cc)
      by k x j y false e true g = absurd (let q = turned j k y x g in cc)
      by k x j y false e false g = refl

  lift-none : (a : Option Mark) → lift (meet p) a None ≡ None
  lift-none None = refl
  lift-none (Some a) = refl

  moved-is : (k j : ℕ) (x : Element) → k ≡ j → is p j x ≡ true → is p k x ≡ true
  moved-is k j x e h = subst (λ n. is p n x ≡ true) (sym e) h

  middle :
      (k : ℕ) (x : Element) (j : ℕ) (y : Element) (l : ℕ) (z : Element) →
      lift (meet p) (meet p (of k x) (of j y)) (Some (of l z)) ≡ lift (meet p) (Some (of k x))
      (meet p (of j y) (of l z))
  middle k x j y l z = by (fit p k x j y) refl (fit p j y l z) refl
    where
      left-none :
          (o : Option Element) → compose y z ≡ o → fit p k x j y ≡ false → fit p j y l z ≡ true →
          None ≡ lift (meet p) (Some (of k x)) (wrap j o)
      left-none None e f g = refl
      left-none (Some w) e f g =
          let h = fitting p j y l z g in
          let c : is p j w ≡ is p j y = is-closed p j y z w h.first
          (moved-is j l z h.same h.second) e ∙ sym h.first in
          let t : fit p k x j w ≡ false = ap (λ b. nat_eq k j && (is p k x && b)) c ∙ f in
          rw t refl

      right-none :
          (o : Option Element) → compose x y ≡ o → fit p k x j y ≡ true → fit p j y l z ≡ false →
          lift (meet p) (wrap k o) (Some (of l z)) ≡ None
      right-none None e f g = refl
      right-none (Some w) e f g =
          let h = fitting p k x j y f in
          let c : is p k w ≡ is p j y = is-closed p k x y w h.first
          (moved-is k j y h.same h.second) e ∙ sym h.second in
          let t : fit p k w l z ≡ false = ap (λ b. nat_eq k l && (b && is p l z)) c ∙ ap
          (λ n. nat_eq n l && (is p j y && is p l z)) h.same ∙ g in
          rw t refl

      left-some :
          (o : Option Element) → compose x y ≡ o → fit p k x j y ≡ true → fit p j y l z ≡ true →
          lift (meet p) (wrap k o) (Some (of l z)) ≡ wrap k (bind o (λ u. compose u z))
      left-some None e f g = refl
      left-some (Some w) e f g =
          let h = fitting p k x j y f in
          let i = fitting p j y l z g in
          let a = is-closed p k x y w h.first (moved-is k j y h.same h.second) e in
          let b = i.second in
          let t : nat_eq k l ≡ true =
          (let q = h.same in let r = i.same in grind (arith, nat_tests, q, r)) in
          let c : fit p k w l z ≡ true = rw (t, a, b) refl in
          rw c refl

      right-some :
          (o : Option Element) → compose y z ≡ o → fit p k x j y ≡ true → fit p j y l z ≡ true →
          lift (meet p) (Some (of k x)) (wrap j o) ≡ wrap k (bind o (λ u. compose x u))
      right-some None e f g = refl
      right-some (Some w) e f g =
          let h = fitting p k x j y f in
          let i = fitting p j y l z g in
          let a = is-closed p j y z w h.second (moved-is j l z i.same i.second) e in
          let b = h.first in
          let t : nat_eq k j ≡ true = (let q = h.same in grind (arith, nat_tests, q)) in
          let c : fit p k x j w ≡ true = rw (t, b, a) refl in
          rw c refl

      by :
          (s : Bool) → fit p k x j y ≡ s → (t : Bool) → fit p j y l z ≡ t →
          lift (meet p) (meet_if s k x y) (Some (of l z)) ≡ lift (meet p) (Some (of k x))
          (meet_if t j y z)
      by false f false g = refl
      by false f true g = left-none (compose y z) refl f g
      by true f false g = right-none (compose x y) refl f g
      by true f true g =
          let h = fitting p k x j y f in
          let i = fitting p j y l z g in
          left-some (compose x y) refl f g
          ∙ ap (wrap k)
          (is-associative p k x y z h.first (moved-is k j y h.same h.second)
          (moved-is k l z (h.same ∙ i.same) i.second))
          ∙ sym (right-some (compose y z) refl f g)

  pub joins-law : IsCommutative (Option Mark) (lift (meet p)) (Some free)
  joins-law = record { comm = comm; zero_left = zero_left; assoc = assoc }
    where
      comm : (a b : Option Mark) → lift (meet p) a b ≡ lift (meet p) b a
      comm None None = refl
      comm None (Some b) = refl
      comm (Some a) None = refl
      comm (Some a) (Some b) = meet-comm a b

      zero_left : (a : Option Mark) → lift (meet p) (Some free) a ≡ a
      zero_left None = refl
      zero_left (Some a) = refl

      unit-right : (a : Mark) → meet p a free ≡ Some a
      unit-right None = refl
      unit-right (Some g) = refl

      unit-lift : (o : Option Mark) → lift (meet p) o (Some free) ≡ o
      unit-lift None = refl
      unit-lift (Some m) = unit-right m

      assoc :
          (a b c : Option Mark) →
          lift (meet p) (lift (meet p) a b) c ≡ lift (meet p) a (lift (meet p) b c)
      assoc None b c = refl
      assoc (Some a) None c = refl
      assoc (Some a) (Some b) None = lift-none (meet p a b)
      assoc (Some None) (Some b) (Some c) = sym (zero_left (meet p b c))
      assoc (Some (Some g)) (Some None) (Some c) = refl
      assoc (Some (Some g)) (Some (Some h)) (Some None) = unit-lift (meet p (Some g) (Some h))
      assoc (Some (Some g)) (Some (Some h)) (Some (Some i)) =
          middle g.kind g.element h.kind h.element i.kind i.element

  -- marks compose as guards do, where both are guards of their types
  pub meets-join :
      (g h : Guard) → is p g.kind g.element ≡ true → is p h.kind h.element ≡ true →
      meet p (Some g) (Some h) ≡ join (Some g) (Some h)
  meets-join g h a b = by (nat_eq g.kind h.kind) refl (compose g.element h.element) refl
    where
      by :
          (t : Bool) → nat_eq g.kind h.kind ≡ t → (o : Option Element) →
          compose g.element h.element ≡ o → meet p (Some g) (Some h) ≡ join (Some g) (Some h)
      by true e None q = rw (e, a, b, q) refl
      by true e (Some z) q =
          let u = composed-not-unit g.element h.element z (is-present p g.kind g.element a) q in
          rw (e, a, b, q, u) refl
      by false e o q = rw e refl
