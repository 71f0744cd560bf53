-- Each guard algebra is lawful.
use Rattle.std.proofs.Common.{◌≡◌, ℕ, ◌+◌, ◌-◌, ◌*◌, ◌≤◌, ◌<◌, arith, refl, sym, ap, ◌∙◌, subst}
use Rattle.std.proofs.Common.{inl, inr, Bool, true, false, Some, None, rules, List}
use Rattle.std.specs.Prelude.{◌&&◌, if◌then◌else◌}
use Rattle.std.proofs.lemmas.Bool.{cases_lt}
use Rattle.cap_galg_indices.specs.Sets.{AreBounds, all_indices, is_empty, is_within, composed}
use Rattle.cap_galg_indices.specs.Laws.Members.{full-is, all-has, all-ascends, empty-is}
use Rattle.cap_galg_indices.specs.Laws.Tests.{within-from}
use Rattle.cap_galg_indices.specs.Laws.Composition.{composed-ascends, within-completes}
use Rattle.cap_galg_indices.specs.Laws.Composition.{completed-within, composed-unit}
use Rattle.cap_galg_spec.specs.declared.fraction.Fraction.{Fraction}
use Rattle.cap_galg_spec.specs.Fractions.{IsShare, crossed}
use Rattle.cap_galg_spec.specs.Elements.{Element, nothing, one, share, tok, src, indices, both}
use Rattle.cap_galg_spec.specs.Elements.{whole}
use Rattle.cap_galg_spec.specs.Elements.{left, right, is_unit, is_full, on_left, on_right, bind}
use Rattle.cap_galg_spec.specs.Elements.{compose, at_most}
use Rattle.cap_galg_spec.specs.Algebras.{PlainAlgebra, unique, divisible, counting, indexed}
use Rattle.cap_galg_spec.specs.Algebras.{product}
use Rattle.cap_galg_spec.specs.Algebras.{sum, full, IsElement, AtMost, Lawful}
use Rattle.cap_galg_spec.specs.Laws.Fractions.{plus-share, le-plus, between, between-share}
use Rattle.cap_galg_spec.specs.Laws.Fractions.{between-fits}
use Rattle.cap_galg_spec.specs.Laws.Fractions.{plus-between, one_whole, whole-share, equal}
use Rattle.cap_galg_spec.specs.Laws.Composition.{true_or_false, le-true, true-le, true-eq, and-true}
use Rattle.cap_galg_spec.specs.Laws.Composition.{bind-is, if-some, some-same, IsSound, compose-comm}
use Rattle.cap_galg_spec.specs.Laws.Composition.{compose-nothing, unit-is, not-unit}
use Rattle.cap_galg_spec.specs.Laws.Composition.{composed-not-unit}
use Rattle.cap_galg_spec.specs.Laws.Composition.{full_alone, sound-pair, compose_assoc}
use Rattle.cap_galg_spec.specs.Laws.Composition.{composed-some}

-- ---- elements of an algebra

pub sound-of : (a : PlainAlgebra) (x : Element) → IsElement a x → IsSound x
sound-of a nothing h = tt
sound-of unique one h = tt
sound-of divisible (share f) h = h
sound-of counting (tok k) h = h
sound-of counting (src n) h = tt
sound-of indexed (indices xs) h = h
sound-of (product a b) (both x y) h = (sound-of a x h.0, sound-of b y h.1, h.2)
sound-of (sum a b) whole h = tt
sound-of (sum a b) (left x) h = (sound-of a x h.0, h.1, h.2)
sound-of (sum a b) (right y) h = (sound-of b y h.0, h.1, h.2)
sound-of a x h = absurd h

pub left-element : (a b : PlainAlgebra) (t : Bool) (z : Element) → is_full z ≡ t → IsElement a z
    → is_unit z ≡ false → IsElement (sum a b) (if t then whole else left z)
left-element a b true z e h u = tt
left-element a b false z e h u = (h, u, e)

pub right-element : (a b : PlainAlgebra) (t : Bool) (z : Element) → is_full z ≡ t → IsElement b z
    → is_unit z ≡ false → IsElement (sum a b) (if t then whole else right z)
right-element a b true z e h u = tt
right-element a b false z e h u = (h, u, e)

pub closed : (a : PlainAlgebra) (x y z : Element) → IsElement a x → IsElement a y
    → compose x y ≡ Some z → IsElement a z
closed a nothing y z h k e = subst (IsElement a) (some-same y z e) k
closed a x nothing z h k e = subst (IsElement a) (some-same x z (sym (compose-nothing x) ∙ e)) h
closed divisible (share f) (share g) z h k e =
    let r = if-some _ _ _ e in
    subst (IsElement divisible) r.1 (plus-share f g h k (true-le _ _ r.0))
closed counting (tok i) (tok j) z h k e = subst (IsElement counting) (some-same _ _ e) (let P : 0 < i + j = omega arith in P)
closed counting (src n) (tok j) z h k e = subst (IsElement counting) (if-some _ _ _ e).1 tt
closed counting (tok j) (src n) z h k e = subst (IsElement counting) (if-some _ _ _ e).1 tt
closed indexed (indices xs) (indices ys) z h k e =
    let r = bind-is (composed xs ys) (λ zs. Some (indices zs)) z e in
    subst (IsElement indexed) (some-same _ _ r.2)
    (composed-ascends xs ys r.0 h.0 k.0 r.1, composed-some xs ys r.0 h.0 h.1 r.1)
closed (product a b) (both u v) (both c d) z h k e =
    let r = bind-is (compose u c) (λ x. bind (compose v d) (λ y. Some (both x y))) z e in
    let s = bind-is (compose v d) (λ y. Some (both r.0 y)) z r.2 in
    subst (IsElement (product a b)) (some-same _ _ s.2) (closed a u c r.0 h.0 k.0 r.1, closed b v d s.0 h.1 k.1 s.1, sound-pair u v c d r.0 s.0 r.1 s.1 h.2)
closed (sum a b) (left x) (left y) z h k e =
    let r = bind-is (compose x y) (λ v. Some (on_left v)) z e in
    subst (IsElement (sum a b)) (some-same _ _ r.2) (left-element a b (is_full r.0) r.0 refl (closed a x y r.0 h.0 k.0 r.1) (composed-not-unit x y r.0 h.1 r.1))
closed (sum a b) (right x) (right y) z h k e =
    let r = bind-is (compose x y) (λ v. Some (on_right v)) z e in
    subst (IsElement (sum a b)) (some-same _ _ r.2) (right-element a b (is_full r.0) r.0 refl (closed b x y r.0 h.0 k.0 r.1) (composed-not-unit x y r.0 h.1 r.1))
closed a x y z h k e = first_of (cc, search rules)

-- ---- the full element

pub full-present : (a : PlainAlgebra) → is_unit (full a) ≡ false
full-present unique = refl
full-present divisible = refl
full-present counting = refl
full-present indexed = refl
full-present (product a b) = refl
full-present (sum a b) = refl

pub full-full : (a : PlainAlgebra) → is_full (full a) ≡ true
full-full unique = refl
full-full divisible = refl
full-full counting = refl
full-full indexed = refl
full-full (product a b) = rw (full-full a, full-full b) refl
full-full (sum a b) = refl

pub full-element : (a : PlainAlgebra) → IsElement a (full a)
full-element unique = tt
full-element divisible = whole-share
full-element counting = tt
full-element indexed = (all-ascends, refl)
full-element (product a b) = (full-element a, full-element b, ap (λ t. t && is_unit (full b)) (full-present a))
full-element (sum a b) = tt

pub full-only : (a : PlainAlgebra) (x : Element) → IsElement a x → is_full x ≡ true → x ≡ full a
full-only a nothing h e = cc
full-only unique one h e = refl
full-only divisible (share f) h e = ap share (one_whole f h.amount.lowest (true-eq _ _ e))
full-only counting (tok k) h e = cc
full-only counting (src n) h e = ap src (true-eq _ _ e)
full-only indexed (indices xs) h e = ap indices (full-is xs e)
full-only (product a b) (both x y) h e =
    let t = and-true (is_full x) (is_full y) e in
    rw (full-only a x h.0 t.0, full-only b y h.1 t.1) refl
full-only (sum a b) whole h e = refl
full-only (sum a b) (left x) h e = cc
full-only (sum a b) (right y) h e = cc
full-only a x h e = absurd h

-- ---- at most

pub at_most-self : (x : Element) → at_most x x ≡ true
at_most-self nothing = refl
at_most-self one = refl
at_most-self (share f) = le-true _ _ (omega arith)
at_most-self (tok k) = le-true k k (omega arith)
at_most-self (src n) = le-true n n (omega arith)
at_most-self (indices xs) = within-from xs xs (λ n i. i)
at_most-self (both x y) = rw (at_most-self x, at_most-self y) refl
at_most-self whole = refl
at_most-self (left x) = at_most-self x
at_most-self (right y) = at_most-self y

pub at_most-full : (a : PlainAlgebra) (x : Element) → IsElement a x → at_most x (full a) ≡ true
at_most-full a nothing h = refl
at_most-full unique one h = refl
at_most-full divisible (share f) h = let m = h.amount.most in le-true _ _ (omega arith)
at_most-full counting (tok k) h = refl
at_most-full counting (src n) h = le-true 0 n (omega arith)
at_most-full indexed (indices xs) h = within-from xs all_indices (λ n i. all-has n)
at_most-full (product a b) (both x y) h = rw (at_most-full a x h.0, at_most-full b y h.1) refl
at_most-full (sum a b) whole h = refl
at_most-full (sum a b) (left x) h = refl
at_most-full (sum a b) (right y) h = refl
at_most-full a x h = absurd h

at_most-left : (b : Bool) (x z : Element) → at_most x z ≡ true
    → at_most (left x) (if b then whole else left z) ≡ true
at_most-left true x z e = refl
at_most-left false x z e = e

at_most-right : (b : Bool) (x z : Element) → at_most x z ≡ true
    → at_most (right x) (if b then whole else right z) ≡ true
at_most-right true x z e = refl
at_most-right false x z e = e

pub at_most-composed : (x z y : Element) → IsSound x → IsSound z → compose x z ≡ Some y
    → at_most x y ≡ true
at_most-composed nothing z y p q e = refl
at_most-composed x nothing y p q e = subst (λ w. at_most x w ≡ true) (some-same _ _ (sym (compose-nothing x) ∙ e)) (at_most-self x)
at_most-composed (share f) (share g) y p q e = subst (λ w. at_most (share f) w ≡ true) (if-some _ _ _ e).1 (le-true _ _ (le-plus f g p q))
at_most-composed (tok j) (tok k) y p q e = subst (λ w. at_most (tok j) w ≡ true) (some-same _ _ e) (le-true j (j + k) (omega arith))
at_most-composed (src n) (tok k) y p q e = subst (λ w. at_most (src n) w ≡ true) (if-some _ _ _ e).1 (le-true (n - k) n (omega arith))
at_most-composed (tok k) (src n) y p q e = subst (λ w. at_most (tok k) w ≡ true) (if-some _ _ _ e).1 refl
at_most-composed (indices xs) (indices zs) y p q e =
    let r = bind-is (composed xs zs) (λ ws. Some (indices ws)) y e in
    subst (λ w. at_most (indices xs) w ≡ true) (some-same _ _ r.2)
    (completed-within xs r.0 (zs, q.0, r.1))
at_most-composed (both a b) (both c d) y p q e =
    let r = bind-is (compose a c) (λ x. bind (compose b d) (λ y. Some (both x y))) y e in
    let s = bind-is (compose b d) (λ y. Some (both r.0 y)) y r.2 in
    subst (λ w. at_most (both a b) w ≡ true) (some-same _ _ s.2) (rw (at_most-composed a c r.0 p.0 q.0 r.1, at_most-composed b d s.0 p.1 q.1 s.1) refl)
at_most-composed (left x) (left z) y p q e =
    let r = bind-is (compose x z) (λ v. Some (on_left v)) y e in
    subst (λ w. at_most (left x) w ≡ true) (some-same _ _ r.2) (at_most-left (is_full r.0) x r.0 (at_most-composed x z r.0 p.0 q.0 r.1))
at_most-composed (right x) (right z) y p q e =
    let r = bind-is (compose x z) (λ v. Some (on_right v)) y e in
    subst (λ w. at_most (right x) w ≡ true) (some-same _ _ r.2) (at_most-right (is_full r.0) x r.0 (at_most-composed x z r.0 p.0 q.0 r.1))
at_most-composed x z y p q e = cc

-- ---- what completes an element

completes-self : (a : PlainAlgebra) (x y : Element) → x ≡ y → AtMost a x y
completes-self a x y e = (nothing, tt, compose-nothing x ∙ ap (λ w. Some w) e)

completes-share : (f g : Fraction) → IsShare f → IsShare g → f.num * g.den ≤ g.num * f.den
    → AtMost divisible (share f) (share g)
completes-share f g p q l = elim (cases_lt (f.num * g.den) (g.num * f.den)) [
  | inl m ↦
      let e : crossed f (between f g) ≤ f.den * (between f g).den = between-fits f g p q m in
      (share (between f g), between-share f g p q m, rw (le-true (crossed f (between f g)) (f.den * (between f g).den) e, plus-between f g p q m) refl)
  | inr m ↦ completes-self divisible (share f) (share g) (ap share (equal f g p.amount.lowest q.amount.lowest (omega arith)))
]

completes-tok : (j k : ℕ) → j ≤ k → AtMost counting (tok j) (tok k)
completes-tok j k l = elim (cases_lt j k) [
  | inl m ↦ (tok (k - j), omega arith, (let e : j + (k - j) ≡ k = omega arith in rw e refl))
  | inr m ↦ completes-self counting (tok j) (tok k) (ap tok (omega arith))
]

completes-src : (n m : ℕ) → m ≤ n → AtMost counting (src n) (src m)
completes-src n m l = elim (cases_lt m n) [
  | inl k ↦ (tok (n - m), omega arith, (let e : n - (n - m) ≡ m = omega arith in let t : n - m ≤ n = omega arith in rw (le-true (n - m) n t, e) refl))
  | inr k ↦ completes-self counting (src n) (src m) (ap src (omega arith))
]

completes-out : (k n : ℕ) → AtMost counting (tok k) (src n)
completes-out k n = (src (n + k), tt, (let t : k ≤ n + k = omega arith in let e : n + k - k ≡ n = omega arith in rw (le-true k (n + k) t, e) refl))

completes-indices : (xs ys : List ℕ) → AreBounds xs → AreBounds ys → is_within xs ys ≡ true
    → AtMost indexed (indices xs) (indices ys)
completes-indices xs ys p q e =
    let c = within-completes xs ys p q e in
    elim (true_or_false (is_empty c.0)) [
      | inl t ↦
          let s : xs ≡ ys = some-same _ _ (sym (composed-unit xs p) ∙ ap (composed xs) (sym (empty-is c.0 t)) ∙ c.2) in
          completes-self indexed (indices xs) (indices ys) (ap indices s)
      | inr f ↦ (indices c.0, (c.1, f), ap (λ o. bind o (λ zs. Some (indices zs))) c.2)
    ]

completes-pair : (a b : PlainAlgebra) (u v c d : Element) → AtMost a u c → AtMost b v d
    → AtMost (product a b) (both u v) (both c d)
completes-pair a b u v c d p q = elim (true_or_false (is_unit p.0 && is_unit q.0)) [
  | inl t ↦
      let s = and-true (is_unit p.0) (is_unit q.0) t in
      let x : u ≡ c = some-same _ _ (sym (compose-nothing u) ∙ ap (compose u) (sym (unit-is p.0 s.0)) ∙ p.2) in
      let y : v ≡ d = some-same _ _ (sym (compose-nothing v) ∙ ap (compose v) (sym (unit-is q.0 s.1)) ∙ q.2) in
      completes-self (product a b) (both u v) (both c d) (rw (x, y) refl)
  | inr f ↦ (both p.0 q.0, (p.1, q.1, f), rw (p.2, q.2) refl)
]

-- what completes an element that isn't the unit isn't full
rest-not-full : (a : PlainAlgebra) (x y z : Element) → IsElement a x → IsElement a z
    → is_unit x ≡ false → compose x z ≡ Some y → is_full z ≡ false
rest-not-full a x y z h k u e = elim (true_or_false (is_full z)) [
  | inl t ↦ absurd (let n : None ≡ Some y = sym (compose-comm x z (sound-of a x h) (sound-of a z k) ∙ full_alone z x (sound-of a z k) (sound-of a x h) t u) ∙ e in cc)
  | inr f ↦ f
]

completes-left : (a b : PlainAlgebra) (x y : Element) → IsElement a x → is_unit x ≡ false
    → is_full y ≡ false → AtMost a x y → AtMost (sum a b) (left x) (left y)
completes-left a b x y h u f p = elim (true_or_false (is_unit p.0)) [
  | inl t ↦ completes-self (sum a b) (left x) (left y) (ap left (some-same _ _ (sym (compose-nothing x) ∙ ap (compose x) (sym (unit-is p.0 t)) ∙ p.2)))
  | inr v ↦ (left p.0, (p.1, v, rest-not-full a x y p.0 h p.1 u p.2), rw (p.2, f) refl)
]

completes-right : (a b : PlainAlgebra) (x y : Element) → IsElement b x → is_unit x ≡ false
    → is_full y ≡ false → AtMost b x y → AtMost (sum a b) (right x) (right y)
completes-right a b x y h u f p = elim (true_or_false (is_unit p.0)) [
  | inl t ↦ completes-self (sum a b) (right x) (right y) (ap right (some-same _ _ (sym (compose-nothing x) ∙ ap (compose x) (sym (unit-is p.0 t)) ∙ p.2)))
  | inr v ↦ (right p.0, (p.1, v, rest-not-full b x y p.0 h p.1 u p.2), rw (p.2, f) refl)
]

-- what completes an element that isn't full isn't the unit
rest-not-unit : (a : PlainAlgebra) (x z : Element) → is_full x ≡ false → compose x z ≡ Some (full a)
    → is_unit z ≡ false
rest-not-unit a x z f e = elim (true_or_false (is_unit z)) [
  | inl t ↦
      let s : x ≡ full a = some-same _ _ (sym (compose-nothing x) ∙ ap (compose x) (sym (unit-is z t)) ∙ e) in
      absurd (let c : true ≡ false = sym (full-full a) ∙ ap is_full (sym s) ∙ f in cc)
  | inr v ↦ v
]

completes-left_whole : (a b : PlainAlgebra) (x : Element) → IsElement a x → is_unit x ≡ false
    → is_full x ≡ false → AtMost a x (full a) → AtMost (sum a b) (left x) whole
completes-left_whole a b x h u f p =
    (left p.0, (p.1, rest-not-unit a x p.0 f p.2, rest-not-full a x (full a) p.0 h p.1 u p.2), rw (p.2, full-full a) refl)

completes-right_whole : (a b : PlainAlgebra) (x : Element) → IsElement b x → is_unit x ≡ false
    → is_full x ≡ false → AtMost b x (full b) → AtMost (sum a b) (right x) whole
completes-right_whole a b x h u f p =
    (right p.0, (p.1, rest-not-unit b x p.0 f p.2, rest-not-full b x (full b) p.0 h p.1 u p.2), rw (p.2, full-full b) refl)

pub completes : (a : PlainAlgebra) (x y : Element) → IsElement a x → IsElement a y
    → at_most x y ≡ true → AtMost a x y
completes a nothing y h k e = (y, k, refl)
completes unique one one h k e = completes-self unique one one refl
completes divisible (share f) (share g) h k e = completes-share f g h k (true-le _ _ e)
completes counting (tok i) (tok j) h k e = completes-tok i j (true-le _ _ e)
completes counting (tok i) (src n) h k e = completes-out i n
completes counting (src n) (src m) h k e = completes-src n m (true-le _ _ e)
completes indexed (indices xs) (indices ys) h k e = completes-indices xs ys h.0 k.0 e
completes (product a b) (both u v) (both c d) h k e =
    let t = and-true (at_most u c) (at_most v d) e in
    completes-pair a b u v c d (completes a u c h.0 k.0 t.0) (completes b v d h.1 k.1 t.1)
completes (sum a b) whole whole h k e = completes-self (sum a b) whole whole refl
completes (sum a b) (left x) whole h k e = completes-left_whole a b x h.0 h.1 h.2 (completes a x (full a) h.0 (full-element a) (at_most-full a x h.0))
completes (sum a b) (right x) whole h k e = completes-right_whole a b x h.0 h.1 h.2 (completes b x (full b) h.0 (full-element b) (at_most-full b x h.0))
completes (sum a b) (left x) (left y) h k e = completes-left a b x y h.0 h.1 k.2 (completes a x y h.0 k.0 e)
completes (sum a b) (right x) (right y) h k e = completes-right a b x y h.0 h.1 k.2 (completes b x y h.0 k.0 e)
completes a x y h k e = first_of (cc, search rules)

-- ---- the laws

pub lawful : (a : PlainAlgebra) → Lawful a
lawful a = record {
  closed = closed a;
  commutes = λ x y h k. compose-comm x y (sound-of a x h) (sound-of a y k);
  associates = λ x y z h k l. compose_assoc x y z (sound-of a x h) (sound-of a y k) (sound-of a z l);
  has_unit = tt;
  unit_neutral = λ x h. compose-nothing x;
  unit_only = λ x h. (unit-is x, λ e. ap is_unit e);
  has_full = full-element a;
  full_only = λ x h. (full-only a x h, λ e. ap is_full e ∙ full-full a);
  full_not_unit = not-unit (full a) (full-present a);
  full_alone = λ x z h e. elim (true_or_false (is_unit x)) [
    | inl u ↦ unit-is x u
    | inr f ↦ absurd (let n : None ≡ Some z = sym (full_alone (full a) x (sound-of a (full a) (full-element a)) (sound-of a x h) (full-full a) f) ∙ e in cc)
  ];
  below_full = λ x h. completes a x (full a) h (full-element a) (at_most-full a x h);
  completed = λ x y h k. (completes a x y h k, λ p. at_most-composed x p.0 y (sound-of a x h) (sound-of a p.0 p.1) p.2);
}
