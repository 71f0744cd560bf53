-- Composition of guard elements, whatever their algebra is: it is commutative and associative,
-- `nothing` is its unit, and what is full composes with nothing else.
use Rattle.std.proofs.Common.{◌≡◌, ◌≢◌, ℕ, ◌+◌, ◌-◌, ◌*◌, ◌≤◌, ◌<◌, arith, refl, sym, ap, ◌∙◌}
use Rattle.std.proofs.Common.{subst, ◌⊎◌, inl, inr, Bool, true, false, Option, Some, None, List, []}
use Rattle.std.proofs.Common.{option_and_then}
use Rattle.std.specs.Prelude.{nat_le, ◌==◌, ◌&&◌, if◌then◌else◌}
use Rattle.std.proofs.lemmas.Bool.{cases_lt}
use Rattle.std.proofs.lemmas.Bool.Decides.{nat_tests}
use Rattle.cap_galg_indices.specs.Sets.{AreBounds, all_indices, is_empty, composed}
use Rattle.cap_galg_indices.specs.Laws.Members.{empty-is, full-is}
use Rattle.cap_galg_indices.specs.Laws.Composition.{composed-ascends, composed-commutes}
use Rattle.cap_galg_indices.specs.Laws.Composition.{composed-associates, composed-empty, full-alone}
use Rattle.cap_galg_spec.specs.declared.fraction.Fraction.{Fraction}
use Rattle.cap_galg_spec.specs.Fractions.{IsShare, crossed, plus}
use Rattle.cap_galg_spec.specs.Elements.{Element, nothing, one, share, tok, src, indices, both}
use Rattle.cap_galg_spec.specs.Elements.{whole}
use Rattle.cap_galg_spec.specs.Elements.{left, right, is_unit, is_full, on_left, on_right, bind}
use Rattle.cap_galg_spec.specs.Elements.{compose}
use Rattle.cap_galg_spec.specs.Laws.Fractions.{plus_comm, plus_assoc, plus-share, three-le}
use Rattle.cap_galg_spec.specs.Laws.Fractions.{le-three}
use Rattle.cap_galg_spec.specs.Laws.Fractions.{le-two, crossed3, dens3, product-positive}

-- ---- tests

pub true_or_false : (b : Bool) → (b ≡ true) ⊎ (b ≡ false)
true_or_false true = inl refl
true_or_false false = inr refl

pub le-true : (a b : ℕ) → a ≤ b → nat_le a b ≡ true
le-true a b h = grind (arith, nat_tests)

pub le-false : (a b : ℕ) → b < a → nat_le a b ≡ false
le-false a b h = grind (arith, nat_tests)

pub true-le : (a b : ℕ) → nat_le a b ≡ true → a ≤ b
true-le a b e = grind (arith, nat_tests, e)

pub true-eq : (a b : ℕ) → (a == b) ≡ true → a ≡ b
true-eq a b e = grind (arith, nat_tests, e)

pub eq-true : (a b : ℕ) → a ≡ b → (a == b) ≡ true
eq-true a b e = grind (arith, nat_tests, e)

pub false-eq : (a b : ℕ) → (a == b) ≡ false → a ≢ b
false-eq a b e = grind (arith, nat_tests, e)

pub and-true : (a b : Bool) → (a && b) ≡ true → (a ≡ true) × (b ≡ true)
and-true true true e = (refl, refl)
and-true true false e = cc
and-true false b e = cc

pub and-false : (a b : Bool) → (a && b) ≡ false → (a ≡ false) ⊎ (b ≡ false)
and-false true true e = cc
and-false true false e = inr refl
and-false false b e = inl refl

pub bind-is : {A B : Type 0} (o : Option A) (f : A → Option B) (z : B) → bind o f ≡ Some z
    → (x : A) × (o ≡ Some x) × (f x ≡ Some z)
bind-is None f z e = cc
bind-is (Some x) f z e = (x, refl, e)

pub if-some : (b : Bool) (u z : Element) → (if b then Some u else None) ≡ Some z
    → (b ≡ true) × (u ≡ z)
if-some true u z e = (refl, cc)
if-some false u z e = cc

pub some-same : {A : Type 0} (x y : A) → Some x ≡ Some y → x ≡ y
some-same x y e = cc

-- ---- what each part of an element keeps

-- what is said of each fraction and count in an element, and of parts of pairs and sums
abbrev pub IsSound : Element → Type 0
IsSound (share f) = IsShare f
IsSound (tok k) = 0 < k
IsSound (indices xs) = AreBounds xs × (is_empty xs ≡ false)
IsSound (both x y) = IsSound x × IsSound y × ((is_unit x && is_unit y) ≡ false)
IsSound (left x) = IsSound x × (is_unit x ≡ false) × (is_full x ≡ false)
IsSound (right y) = IsSound y × (is_unit y ≡ false) × (is_full y ≡ false)
IsSound _ = Unit {0}

-- ---- commutative, and with a unit

pub compose-comm : (x y : Element) → IsSound x → IsSound y → compose x y ≡ compose y x
compose-comm nothing nothing p q = refl
compose-comm one one p q = refl
compose-comm (src n) (src m) p q = refl
compose-comm whole whole p q = refl
compose-comm (share f) (share g) p q =
    let e : f.num * g.den + g.num * f.den ≡ g.num * f.den + f.num * g.den = omega arith in
    let d : f.den * g.den ≡ g.den * f.den = omega arith in
    rw (e, d) refl
compose-comm (tok j) (tok k) p q = let e : j + k ≡ k + j = omega arith in rw e refl
compose-comm (indices xs) (indices ys) p q =
    ap (λ o. bind o (λ zs. Some (indices zs))) (composed-commutes xs ys p.0 q.0)
compose-comm (both a b) (both c d) p q =
    rw (compose-comm a c p.0 q.0, compose-comm b d p.1 q.1) refl
compose-comm (left x) (left y) p q = rw (compose-comm x y p.0 q.0) refl
compose-comm (right x) (right y) p q = rw (compose-comm x y p.0 q.0) refl
compose-comm x y p q = refl

pub compose-nothing : (x : Element) → compose x nothing ≡ Some x
compose-nothing nothing = refl
compose-nothing one = refl
compose-nothing (share f) = refl
compose-nothing (tok k) = refl
compose-nothing (src n) = refl
compose-nothing (indices xs) = refl
compose-nothing (both x y) = refl
compose-nothing whole = refl
compose-nothing (left x) = refl
compose-nothing (right y) = refl

pub unit-is : (x : Element) → is_unit x ≡ true → x ≡ nothing
unit-is nothing e = refl
unit-is x e = cc

pub not-unit : (x : Element) → is_unit x ≡ false → x ≢ nothing
not-unit x u e = let v : true ≡ false = ap is_unit (sym e) ∙ u in cc

-- nothing is made only of nothing
pub side-not-unit : (b : Bool) (x : Element) → is_unit (if b then whole else left x) ≡ false
side-not-unit true x = refl
side-not-unit false x = refl

pub side-not-unit_right : (b : Bool) (x : Element) → is_unit (if b then whole else right x) ≡ false
side-not-unit_right true x = refl
side-not-unit_right false x = refl

pub made_of_nothing : (x y z : Element) → compose x y ≡ Some z → is_unit z ≡ true
    → (x ≡ nothing) × (y ≡ nothing)
made_of_nothing nothing y z e u = (refl, some-same _ _ e ∙ unit-is z u)
made_of_nothing x nothing z e u = (some-same _ _ (sym (compose-nothing x) ∙ e) ∙ unit-is z u, refl)
made_of_nothing (share f) (share g) z e u =
    let r = if-some _ _ _ e in let v : false ≡ true = ap is_unit r.1 ∙ u in cc
made_of_nothing (tok j) (tok k) z e u = let v : false ≡ true = ap is_unit (some-same _ _ e) ∙ u in cc
made_of_nothing (src n) (tok k) z e u = let r = if-some _ _ _ e in let v : false ≡ true = ap is_unit r.1 ∙ u in cc
made_of_nothing (tok k) (src n) z e u = let r = if-some _ _ _ e in let v : false ≡ true = ap is_unit r.1 ∙ u in cc
made_of_nothing (indices xs) (indices ys) z e u =
    let r = bind-is (composed xs ys) (λ zs. Some (indices zs)) z e in
    let v : false ≡ true = ap is_unit (some-same _ _ r.2) ∙ u in cc
made_of_nothing (both a b) (both c d) z e u =
    let r = bind-is (compose a c) (λ x. bind (compose b d) (λ y. Some (both x y))) z e in
    let s = bind-is (compose b d) (λ y. Some (both r.0 y)) z r.2 in
    let v : false ≡ true = ap is_unit (some-same _ _ s.2) ∙ u in cc
made_of_nothing (left x) (left y) z e u =
    let r = bind-is (compose x y) (λ v. Some (on_left v)) z e in
    let v : false ≡ true = sym (side-not-unit (is_full r.0) r.0) ∙ ap is_unit (some-same _ _ r.2) ∙ u in cc
made_of_nothing (right x) (right y) z e u =
    let r = bind-is (compose x y) (λ v. Some (on_right v)) z e in
    let v : false ≡ true = sym (side-not-unit_right (is_full r.0) r.0) ∙ ap is_unit (some-same _ _ r.2) ∙ u in cc
made_of_nothing x y z e u = cc

pub composed-not-unit : (x y z : Element) → is_unit x ≡ false → compose x y ≡ Some z
    → is_unit z ≡ false
composed-not-unit x y z h e = elim (true_or_false (is_unit z)) [
  | inl u ↦ absurd (not-unit x h (made_of_nothing x y z e u).0)
  | inr v ↦ v
]

-- ---- what is full composes with nothing else

-- a set that isn't empty has bounds
pub not-empty : (xs : List ℕ) → is_empty xs ≡ false → xs ≢ []
not-empty xs n e = let v : true ≡ false = ap is_empty (sym e) ∙ n in cc

pub bind-none : {A B : Type 0} (o : Option A) → ◌≡◌ {A = Option B} (bind o (λ x. None)) None
bind-none None = refl
bind-none (Some x) = refl

-- all indices compose with no set that isn't empty
full-none : (xs ys : List ℕ) → AreBounds ys → is_empty ys ≡ false → xs ≡ all_indices
    → bind (composed xs ys) (λ zs. Some (indices zs)) ≡ None
full-none xs ys q n a = none-of (composed xs ys)
    (λ zs e. not-empty ys n (full-alone ys zs q (ap (λ l. composed l ys) (sym a) ∙ e)))
  where
    none-of : (o : Option (List ℕ)) → ((zs : List ℕ) → o ≡ Some zs → ⊥)
        → bind o (λ zs. Some (indices zs)) ≡ None
    none-of None h = refl
    none-of (Some zs) h = absurd (h zs refl)

pub full_alone : (x y : Element) → IsSound x → IsSound y → is_full x ≡ true → is_unit y ≡ false
    → compose x y ≡ None
full_alone nothing y p q e u = cc
full_alone x nothing p q e u = cc
full_alone (share f) (share g) p q e u =
    let d : f.num ≡ f.den = true-eq _ _ e in
    let m = product-positive g.num f.den q.positive p.amount.lowest.positive in
    let c : f.num * g.den ≡ f.den * g.den = ap (λ w. w * g.den) d in
    rw (le-false (crossed f g) (f.den * g.den) (omega arith)) refl
full_alone (tok j) (tok k) p q e u = cc
full_alone (src n) (tok k) p q e u = let z : n ≡ 0 = true-eq _ _ e in rw (le-false k n (omega arith)) refl
full_alone (tok k) (src n) p q e u = cc
full_alone (indices xs) (indices ys) p q e u = full-none xs ys q.0 q.1 (full-is xs e)
full_alone (both a b) (both c d) p q e u =
    let t = and-true (is_full a) (is_full b) e in
    elim (and-false (is_unit c) (is_unit d) q.2) [
      | inl v ↦ ap (λ o. bind o (λ x. bind (compose b d) (λ y. Some (both x y)))) (full_alone a c p.0 q.0 t.0 v)
      | inr v ↦ ap (λ o. bind (compose a c) (λ x. bind o (λ y. Some (both x y)))) (full_alone b d p.1 q.1 t.1 v) ∙ bind-none (compose a c)
    ]
full_alone (left x) (left y) p q e u = cc
full_alone (right x) (right y) p q e u = cc
full_alone x y p q e u = refl

-- ---- soundness is kept

pub sound-pair : (a b c d x y : Element) → compose a c ≡ Some x → compose b d ≡ Some y
    → (is_unit a && is_unit b) ≡ false → (is_unit x && is_unit y) ≡ false
sound-pair a b c d x y e f h = elim (true_or_false (is_unit x && is_unit y)) [
  | inl t ↦
      let s = and-true (is_unit x) (is_unit y) t in
      let p = (made_of_nothing a c x e s.0).0 in
      let q = (made_of_nothing b d y f s.1).0 in
      let r' : (is_unit nothing && is_unit b) ≡ false = ap (λ w. is_unit w && is_unit b) (sym p) ∙ h in
      absurd (let k : true ≡ false = ap is_unit (sym q) ∙ r' in cc)
  | inr f ↦ f
]

sound-left : (b : Bool) (z : Element) → is_full z ≡ b → IsSound z → is_unit z ≡ false
    → IsSound (if b then whole else left z)
sound-left true z e h u = tt
sound-left false z e h u = (h, u, e)

sound-right : (b : Bool) (z : Element) → is_full z ≡ b → IsSound z → is_unit z ≡ false
    → IsSound (if b then whole else right z)
sound-right true z e h u = tt
sound-right false z e h u = (h, u, e)

-- a set of which a part isn't empty isn't empty
pub composed-some : (xs ys zs : List ℕ) → AreBounds xs → is_empty xs ≡ false
    → composed xs ys ≡ Some zs → is_empty zs ≡ false
composed-some xs ys zs p n e = elim (true_or_false (is_empty zs)) [
  | inl t ↦ absurd (not-empty xs n (composed-empty xs ys p (e ∙ ap Some (empty-is zs t))))
  | inr f ↦ f
]

pub sound-composed : (x y z : Element) → IsSound x → IsSound y → compose x y ≡ Some z → IsSound z
sound-composed nothing y z p q e = subst IsSound (some-same _ _ e) q
sound-composed x nothing z p q e = subst IsSound (some-same _ _ (sym (compose-nothing x) ∙ e)) p
sound-composed (share f) (share g) z p q e =
    let r = if-some _ _ _ e in
    subst IsSound r.1 (plus-share f g p q (true-le _ _ r.0))
sound-composed (tok j) (tok k) z p q e = subst IsSound (some-same _ _ e) (let P : 0 < j + k = omega arith in P)
sound-composed (src n) (tok k) z p q e = subst IsSound (if-some _ _ _ e).1 tt
sound-composed (tok k) (src n) z p q e = subst IsSound (if-some _ _ _ e).1 tt
sound-composed (indices xs) (indices ys) z p q e =
    let r = bind-is (composed xs ys) (λ zs. Some (indices zs)) z e in
    subst IsSound (some-same _ _ r.2)
    (composed-ascends xs ys r.0 p.0 q.0 r.1, composed-some xs ys r.0 p.0 p.1 r.1)
sound-composed (both a b) (both c d) z p q e =
    let r = bind-is (compose a c) (λ x. bind (compose b d) (λ y. Some (both x y))) z e in
    let s = bind-is (compose b d) (λ y. Some (both r.0 y)) z r.2 in
    subst IsSound (some-same _ _ s.2) (sound-composed a c r.0 p.0 q.0 r.1, sound-composed b d s.0 p.1 q.1 s.1, sound-pair a b c d r.0 s.0 r.1 s.1 p.2)
sound-composed (left x) (left y) z p q e =
    let r = bind-is (compose x y) (λ v. Some (on_left v)) z e in
    subst IsSound (some-same _ _ r.2) (sound-left (is_full r.0) r.0 refl (sound-composed x y r.0 p.0 q.0 r.1) (composed-not-unit x y r.0 p.1 r.1))
sound-composed (right x) (right y) z p q e =
    let r = bind-is (compose x y) (λ v. Some (on_right v)) z e in
    subst IsSound (some-same _ _ r.2) (sound-right (is_full r.0) r.0 refl (sound-composed x y r.0 p.0 q.0 r.1) (composed-not-unit x y r.0 p.1 r.1))
sound-composed x y z p q e = cc

-- ---- associative

abbrev pub and_next : Option Element → Element → Option Element
and_next o z = bind o (λ u. compose u z)

abbrev pub before : Element → Option Element → Option Element
before x o = bind o (λ u. compose x u)

abbrev pub Assoc : Element → Element → Element → Type 0
Assoc x y z = and_next (compose x y) z ≡ before x (compose y z)

before-next : (x y z : Element) → IsSound x → IsSound y → IsSound z
    → before x (compose y z) ≡ and_next (compose y z) x
before-next x y z p q r = go (compose y z) (λ u e. sound-composed y z u q r e)
  where
    go : (o : Option Element) → ((u : Element) → o ≡ Some u → IsSound u) → before x o ≡ and_next o x
    go None h = refl
    go (Some u) h = compose-comm x u p (h u refl)

bind_last : (o : Option Element) → bind o (λ u. Some u) ≡ o
bind_last None = refl
bind_last (Some x) = refl

next-nothing : (o : Option Element) → and_next o nothing ≡ o
next-nothing None = refl
next-nothing (Some u) = compose-nothing u

-- shares: three compose exactly where their sum is at most 1
abbrev pub shares3 : Fraction → Fraction → Fraction → Option Element
shares3 f g h = if nat_le (crossed3 f g h) (dens3 f g h) then Some (share (plus (plus f g) h)) else None

shares-some : (f g h : Fraction) → IsShare f → IsShare g → IsShare h → crossed3 f g h ≤ dens3 f g h
    → and_next (compose (share f) (share g)) (share h) ≡ Some (share (plus (plus f g) h))
shares-some f g h p q r l =
    let a = le-true (crossed f g) (f.den * g.den) (le-two f g h r.amount.lowest.positive l) in
    let b = le-true (crossed (plus f g) h) ((plus f g).den * h.den) (le-three f g h p.amount.lowest q.amount.lowest l) in
    rw (a, b) refl

shares-none : (f g h : Fraction) → IsShare f → IsShare g → dens3 f g h < crossed3 f g h
    → and_next (compose (share f) (share g)) (share h) ≡ None
shares-none f g h p q l = elim (cases_lt (f.den * g.den) (crossed f g)) [
  | inl a ↦ rw (le-false (crossed f g) (f.den * g.den) a) refl
  | inr a ↦ elim (cases_lt ((plus f g).den * h.den) (crossed (plus f g) h)) [
    | inl b ↦ rw (le-true (crossed f g) (f.den * g.den) a, le-false (crossed (plus f g) h) ((plus f g).den * h.den) b) refl
    | inr b ↦ absurd (let m = three-le f g h p.amount.lowest q.amount.lowest b in omega arith)
  ]
]

shares-next : (f g h : Fraction) → IsShare f → IsShare g → IsShare h
    → and_next (compose (share f) (share g)) (share h) ≡ shares3 f g h
shares-next f g h p q r = elim (cases_lt (dens3 f g h) (crossed3 f g h)) [
  | inl l ↦ shares-none f g h p q l ∙ sym (ap (λ b. if b then Some (share (plus (plus f g) h)) else None) (le-false (crossed3 f g h) (dens3 f g h) l))
  | inr l ↦ shares-some f g h p q r l ∙ sym (ap (λ b. if b then Some (share (plus (plus f g) h)) else None) (le-true (crossed3 f g h) (dens3 f g h) l))
]

shares-turned : (f g h : Fraction) → IsShare f → IsShare g → IsShare h
    → shares3 g h f ≡ shares3 f g h
shares-turned f g h p q r =
    let a : crossed3 g h f ≡ crossed3 f g h = omega arith in
    let b : dens3 g h f ≡ dens3 f g h = omega arith in
    let c : plus (plus g h) f ≡ plus (plus f g) h = plus_comm (plus g h) f ∙ sym (plus_assoc f g h p.amount.lowest q.amount.lowest r.amount.lowest) in
    rw (a, b, c) refl

shares-assoc : (f g h : Fraction) → IsShare f → IsShare g → IsShare h
    → Assoc (share f) (share g) (share h)
shares-assoc f g h p q r = shares-next f g h p q r ∙ sym (shares-turned f g h p q r) ∙ sym (shares-next g h f q r p) ∙ sym (before-next (share f) (share g) (share h) p q r)

-- counts: a source with tokens that come one after the other
src-src : (n k j : ℕ)
    → and_next (compose (src n) (tok k)) (tok j)
    ≡ (if nat_le (k + j) n then Some (src (n - (k + j))) else None)
src-src n k j = elim (cases_lt n k) [
  | inl l ↦ let a : n < k + j = omega arith in rw (le-false k n l, le-false (k + j) n a) refl
  | inr l ↦ elim (cases_lt (n - k) j) [
    | inl m ↦ let a : n < k + j = omega arith in rw (le-true k n l, le-false j (n - k) m, le-false (k + j) n a) refl
    | inr m ↦ let a : k + j ≤ n = omega arith in let b : n - k - j ≡ n - (k + j) = omega arith in rw (le-true k n l, le-true j (n - k) m, le-true (k + j) n a, b) refl
  ]
]

src-alone : (n k m : ℕ) → and_next (compose (src n) (tok k)) (src m) ≡ None
src-alone n k m = elim (nat_le k n) as (λ b. and_next (if b then Some (src (n - k)) else None) (src m) ≡ None) [ true ↦ refl | false ↦ refl ]

swapped : (n k j : ℕ)
    → (if nat_le (k + j) n then Some (src (n - (k + j))) else None)
    ≡ (if nat_le (j + k) n then Some (src (n - (j + k))) else None)
swapped n k j = let e : k + j ≡ j + k = omega arith in rw e refl

counts-assoc : (n j k : ℕ)
    → and_next (compose (src n) (tok j)) (tok k) ≡ before (src n) (compose (tok j) (tok k))
counts-assoc n j k = src-src n j k

-- sets of indices
indices-assoc : (xs ys zs : List ℕ) → AreBounds xs → AreBounds ys → AreBounds zs
    → Assoc (indices xs) (indices ys) (indices zs)
indices-assoc xs ys zs p q r =
    first (composed xs ys) ∙ ap (λ o. bind o (λ ws. Some (indices ws))) (composed-associates xs ys zs p q r)
    ∙ sym (second (composed ys zs))
  where
    first : (o : Option (List ℕ)) → and_next (bind o (λ us. Some (indices us))) (indices zs)
        ≡ bind (option_and_then (λ u. composed u zs) o) (λ ws. Some (indices ws))
    first None = refl
    first (Some us) = refl

    second : (o : Option (List ℕ)) → before (indices xs) (bind o (λ us. Some (indices us)))
        ≡ bind (option_and_then (λ u. composed xs u) o) (λ ws. Some (indices ws))
    second None = refl
    second (Some us) = refl

-- sides of a sum: what a side's elements make and another element, where `mk` makes an element of
-- the sum
module _ (w : Element) (e : Element → Element) where
  abbrev mk : Element → Element
  mk z = if is_full z then w else e z

  -- no element of the side composes with this one, so nothing that they make does
  alone : (r : Option Element) (b : Element) → ((x : Element) → compose (e x) b ≡ None) → compose w b ≡ None → and_next (bind r (λ z. Some (mk z))) b ≡ None
  alone None b f g = refl
  alone (Some z) b f g = elim (is_full z) as (λ t. compose (if t then w else e z) b ≡ None) [ true ↦ g | false ↦ f z ]

  one_side : ((x y : Element) → compose (e x) (e y) ≡ bind (compose x y) (λ z. Some (mk z))) → ((y : Element) → compose w (e y) ≡ None) → ((x : Element) → compose (e x) w ≡ None)
      → (x y z : Element) → Assoc x y z → ((v : Element) → compose x y ≡ Some v → is_full v ≡ true → compose v z ≡ None) → ((u : Element) → compose y z ≡ Some u → is_full u ≡ true → compose x u ≡ None)
      → Assoc (e x) (e y) (e z)
  one_side ee we ew x y z a fv fu = rw (ee x y, ee y z) (go (compose x y) (compose y z) refl refl)
    where
      first : (v : Element) → compose x y ≡ Some v → compose (mk v) (e z) ≡ bind (compose v z) (λ t. Some (mk t))
      first v h = elim (true_or_false (is_full v)) [
        | inl f ↦ ap (λ t. compose (if t then w else e v) (e z)) f ∙ we z ∙ sym (ap (λ o. bind o (λ t. Some (mk t))) (fv v h f))
        | inr f ↦ ap (λ t. compose (if t then w else e v) (e z)) f ∙ ee v z
      ]

      second : (u : Element) → compose y z ≡ Some u → compose (e x) (mk u) ≡ bind (compose x u) (λ t. Some (mk t))
      second u h = elim (true_or_false (is_full u)) [
        | inl f ↦ ap (λ t. compose (e x) (if t then w else e u)) f ∙ ew x ∙ sym (ap (λ o. bind o (λ t. Some (mk t))) (fu u h f))
        | inr f ↦ ap (λ t. compose (e x) (if t then w else e u)) f ∙ ee x u
      ]

      go : (r s : Option Element) → compose x y ≡ r → compose y z ≡ s → and_next (bind r (λ v. Some (mk v))) (e z) ≡ before (e x) (bind s (λ u. Some (mk u)))
      go None None er es = refl
      go None (Some u) er es =
          let h : None ≡ compose x u = sym (ap (λ r. and_next r z) er) ∙ a ∙ ap (λ s. before x s) es in
          sym (second u es ∙ ap (λ o. bind o (λ t. Some (mk t))) (sym h))
      go (Some v) None er es =
          let h : compose v z ≡ None = sym (ap (λ r. and_next r z) er) ∙ a ∙ ap (λ s. before x s) es in
          first v er ∙ ap (λ o. bind o (λ t. Some (mk t))) h
      go (Some v) (Some u) er es =
          let h : compose v z ≡ compose x u = sym (ap (λ r. and_next r z) er) ∙ a ∙ ap (λ s. before x s) es in
          first v er ∙ ap (λ o. bind o (λ t. Some (mk t))) h ∙ sym (second u es)

-- pairs
pairs : (p q : Option Element) → Option Element
pairs p q = bind p (λ x. bind q (λ y. Some (both x y)))

pairs-next : (p q : Option Element) (c d : Element)
    → and_next (bind p (λ x. bind q (λ y. Some (both x y)))) (both c d)
    ≡ bind (and_next p c) (λ x. bind (and_next q d) (λ y. Some (both x y)))
pairs-next None q c d = refl
pairs-next (Some x) None c d = sym (bind-none (compose x c))
pairs-next (Some x) (Some y) c d = refl

before-pairs : (a b : Element) (p q : Option Element)
    → before (both a b) (bind p (λ x. bind q (λ y. Some (both x y))))
    ≡ bind (before a p) (λ x. bind (before b q) (λ y. Some (both x y)))
before-pairs a b None q = refl
before-pairs a b (Some x) None = sym (bind-none (compose a x))
before-pairs a b (Some x) (Some y) = refl

-- what full elements made of two compose with
full-next : (x y z v : Element) → IsSound x → IsSound y → IsSound z → is_unit z ≡ false
    → compose x y ≡ Some v → is_full v ≡ true → compose v z ≡ None
full-next x y z v p q r u e f = full_alone v z (sound-composed x y v p q e) r f u

next-full : (x y z u : Element) → IsSound x → IsSound y → IsSound z → is_unit x ≡ false
    → compose y z ≡ Some u → is_full u ≡ true → compose x u ≡ None
next-full x y z u p q r n e f =
    let s = sound-composed y z u q r e in
    compose-comm x u p s ∙ full_alone u x s p f n

-- elements of two forms never compose, and what elements compose to has their form
data Form : Type 0 where
  unit_form : Form
  one_form : Form
  share_form : Form
  count_form : Form
  index_form : Form
  pair_form : Form
  side_form : Form

abbrev form : Element → Form
form nothing = unit_form
form one = one_form
form (share f) = share_form
form (tok k) = count_form
form (src n) = count_form
form (indices xs) = index_form
form (both x y) = pair_form
form whole = side_form
form (left x) = side_form
form (right y) = side_form

abbrev same_form : Form → Form → Bool
same_form unit_form unit_form = true
same_form one_form one_form = true
same_form share_form share_form = true
same_form count_form count_form = true
same_form index_form index_form = true
same_form pair_form pair_form = true
same_form side_form side_form = true
same_form _ _ = false

apart : (x y : Element) → is_unit x ≡ false → is_unit y ≡ false
    → same_form (form x) (form y) ≡ false → compose x y ≡ None
apart nothing y u v d = cc
apart x nothing u v d = cc
apart (share f) (share g) u v d = cc
apart (tok j) (tok k) u v d = cc
apart (src n) (tok k) u v d = cc
apart (tok k) (src n) u v d = cc
apart (indices xs) (indices ys) u v d = cc
apart (both a b) (both c e) u v d = cc
apart (left x) (left y) u v d = cc
apart (right x) (right y) u v d = cc
apart x y u v d = refl

left-form : (b : Bool) (z : Element) → form (if b then whole else left z) ≡ side_form
left-form true z = refl
left-form false z = refl

right-form : (b : Bool) (z : Element) → form (if b then whole else right z) ≡ side_form
right-form true z = refl
right-form false z = refl

kept : (x y z : Element) → is_unit x ≡ false → compose x y ≡ Some z → form z ≡ form x
kept nothing y z u e = cc
kept x nothing z u e = ap form (sym (some-same _ _ (sym (compose-nothing x) ∙ e)))
kept (share f) (share g) z u e = ap form (sym (if-some _ _ _ e).1)
kept (tok j) (tok k) z u e = ap form (sym (some-same _ _ e))
kept (src n) (tok k) z u e = ap form (sym (if-some _ _ _ e).1)
kept (tok k) (src n) z u e = ap form (sym (if-some _ _ _ e).1)
kept (indices xs) (indices ys) z u e =
    ap form (sym (some-same _ _ (bind-is (composed xs ys) (λ zs. Some (indices zs)) z e).2))
kept (both a b) (both c d) z u e =
    let r = bind-is (compose a c) (λ x. bind (compose b d) (λ y. Some (both x y))) z e in
    let s = bind-is (compose b d) (λ y. Some (both r.0 y)) z r.2 in
    ap form (sym (some-same _ _ s.2))
kept (left x) (left y) z u e =
    let r = bind-is (compose x y) (λ v. Some (on_left v)) z e in
    ap form (sym (some-same _ _ r.2)) ∙ left-form (is_full r.0) r.0
kept (right x) (right y) z u e =
    let r = bind-is (compose x y) (λ v. Some (on_right v)) z e in
    ap form (sym (some-same _ _ r.2)) ∙ right-form (is_full r.0) r.0
kept x y z u e = cc

none-before : (x : Element) (o : Option Element) → ((u : Element) → o ≡ Some u → compose x u ≡ None)
    → before x o ≡ None
none-before x None h = refl
none-before x (Some u) h = h u refl

none-next : (o : Option Element) (z : Element) → ((v : Element) → o ≡ Some v → compose v z ≡ None)
    → and_next o z ≡ None
none-next None z h = refl
none-next (Some v) z h = h v refl

mixed : (x y z : Element) → IsSound x → IsSound y → is_unit x ≡ false → is_unit y ≡ false → is_unit z ≡ false
    → (same_form (form x) (form y) && same_form (form y) (form z)) ≡ false → Assoc x y z
mixed x y z p q u v w d = elim (and-false (same_form (form x) (form y)) (same_form (form y) (form z)) d) [
  | inl a ↦
      ap (λ o. and_next o z) (apart x y u v a)
      ∙ sym (none-before x (compose y z) (λ t e. apart x t u (composed-not-unit y z t v e) (ap (same_form (form x)) (kept y z t v e) ∙ a)))
  | inr b ↦
      none-next (compose x y) z (λ t e. apart t z (composed-not-unit x y t u e) w (ap (λ g. same_form g (form z)) (kept y x t v (compose-comm y x q p ∙ e)) ∙ b))
      ∙ sym (ap (λ o. before x o) (apart y z v w b))
]

-- what two elements of one side make, and one that is elsewhere in the sum
left-next : (x y b : Element) → ((v : Element) → compose (left v) b ≡ None) → compose whole b ≡ None
    → and_next (compose (left x) (left y)) b ≡ None
left-next x y b f g = alone whole left (compose x y) b f g

right-next : (x y b : Element) → ((v : Element) → compose (right v) b ≡ None)
    → compose whole b ≡ None → and_next (compose (right x) (right y)) b ≡ None
right-next x y b f g = alone whole right (compose x y) b f g

before-left : (b y z : Element) → IsSound b → IsSound (left y) → IsSound (left z) → ((v : Element) → compose (left v) b ≡ None)
    → compose whole b ≡ None → before b (compose (left y) (left z)) ≡ None
before-left b y z p q r f g = before-next b (left y) (left z) p q r ∙ left-next y z b f g

before-right : (b y z : Element) → IsSound b → IsSound (right y) → IsSound (right z) → ((v : Element) → compose (right v) b ≡ None)
    → compose whole b ≡ None → before b (compose (right y) (right z)) ≡ None
before-right b y z p q r f g = before-next b (right y) (right z) p q r ∙ right-next y z b f g

pub compose_assoc : (x y z : Element) → IsSound x → IsSound y → IsSound z → Assoc x y z
compose_assoc nothing y z p q r = sym (bind_last (compose y z))
compose_assoc x nothing z p q r = ap (λ o. and_next o z) (compose-nothing x)
compose_assoc x y nothing p q r = next-nothing (compose x y) ∙ sym (ap (λ o. before x o) (compose-nothing y))
compose_assoc (share f) (share g) (share h) p q r = shares-assoc f g h p q r
compose_assoc (tok i) (tok j) (tok k) p q r = let e : i + j + k ≡ i + (j + k) = omega arith in rw e refl
compose_assoc (src n) (tok j) (tok k) p q r = counts-assoc n j k
compose_assoc (tok j) (src n) (tok k) p q r =
    src-src n j k ∙ swapped n j k ∙ sym (src-src n k j) ∙ sym (before-next (tok j) (src n) (tok k) p q r)
compose_assoc (tok j) (tok k) (src n) p q r =
    swapped n j k ∙ sym (src-src n k j) ∙ sym (before-next (tok j) (tok k) (src n) p q r)
compose_assoc (src n) (tok k) (src m) p q r =
    src-alone n k m ∙ sym (src-alone m k n) ∙ sym (before-next (src n) (tok k) (src m) p q r)
compose_assoc (tok k) (src n) (src m) p q r = src-alone n k m
compose_assoc (src n) (src m) (tok k) p q r = sym (before-next (src n) (src m) (tok k) p q r ∙ src-alone m k n)
compose_assoc (indices xs) (indices ys) (indices zs) p q r = indices-assoc xs ys zs p.0 q.0 r.0
compose_assoc (both a b) (both c d) (both i j) p q r =
    pairs-next (compose a c) (compose b d) i j
    ∙ ap (λ o. bind o (λ x. bind (and_next (compose b d) j) (λ y. Some (both x y)))) (compose_assoc a c i p.0 q.0 r.0)
    ∙ ap (λ o. bind (before a (compose c i)) (λ x. bind o (λ y. Some (both x y)))) (compose_assoc b d j p.1 q.1 r.1)
    ∙ sym (before-pairs a b (compose c i) (compose d j))
compose_assoc (left x) (left y) (left z) p q r =
    one_side whole left (λ x y. refl) (λ y. refl) (λ x. refl) x y z (compose_assoc x y z p.0 q.0 r.0) (λ v e f. full-next x y z v p.0 q.0 r.0 r.1 e f) (λ u e f. next-full x y z u p.0 q.0 r.0 p.1 e f)
compose_assoc (right x) (right y) (right z) p q r =
    one_side whole right (λ x y. refl) (λ y. refl) (λ x. refl) x y z (compose_assoc x y z p.0 q.0 r.0) (λ v e f. full-next x y z v p.0 q.0 r.0 r.1 e f) (λ u e f. next-full x y z u p.0 q.0 r.0 p.1 e f)
compose_assoc (left x) (left y) (right z) p q r = left-next x y (right z) (λ v. refl) refl
compose_assoc (left x) (left y) whole p q r = left-next x y whole (λ v. refl) refl
compose_assoc (right x) (right y) (left z) p q r = right-next x y (left z) (λ v. refl) refl
compose_assoc (right x) (right y) whole p q r = right-next x y whole (λ v. refl) refl
compose_assoc (left x) (right y) (right z) p q r = sym (before-right (left x) y z p q r (λ v. refl) refl)
compose_assoc whole (right y) (right z) p q r = sym (before-right whole y z p q r (λ v. refl) refl)
compose_assoc (right x) (left y) (left z) p q r = sym (before-left (right x) y z p q r (λ v. refl) refl)
compose_assoc whole (left y) (left z) p q r = sym (before-left whole y z p q r (λ v. refl) refl)
compose_assoc (left x) (right y) (left z) p q r = refl
compose_assoc (left x) (right y) whole p q r = refl
compose_assoc (left x) whole (left z) p q r = refl
compose_assoc (left x) whole (right z) p q r = refl
compose_assoc (left x) whole whole p q r = refl
compose_assoc (right x) (left y) (right z) p q r = refl
compose_assoc (right x) (left y) whole p q r = refl
compose_assoc (right x) whole (left z) p q r = refl
compose_assoc (right x) whole (right z) p q r = refl
compose_assoc (right x) whole whole p q r = refl
compose_assoc whole (left y) (right z) p q r = refl
compose_assoc whole (left y) whole p q r = refl
compose_assoc whole (right y) (left z) p q r = refl
compose_assoc whole (right y) whole p q r = refl
compose_assoc whole whole (left z) p q r = refl
compose_assoc whole whole (right z) p q r = refl
compose_assoc whole whole whole p q r = refl
compose_assoc one one one p q r = refl
compose_assoc (src n) (src m) (src k) p q r = refl
compose_assoc x y z p q r = mixed x y z p q refl refl refl refl
