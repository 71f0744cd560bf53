-- Elements that compose: parts of what composes compose too, and in another order.
use Rattle.std.proofs.Common.{◌≡◌, refl, sym, ap, ◌∙◌, subst, List, [], ◌∷◌, ◌++◌, Option, Some}
use Rattle.std.specs.List.{AllByRecursion}
use Rattle.cap_galg_spec.specs.Elements.{Element, nothing, bind, compose}
use Rattle.cap_galg_spec.specs.Algebras.{PlainAlgebra, AtMost}
use Rattle.cap_galg.specs.Lists.{compose_all}
use Rattle.cap_galg_spec.specs.Laws.Composition.{bind-is, some-same, IsSound, compose-comm}
use Rattle.cap_galg_spec.specs.Laws.Composition.{compose_assoc, sound-composed}
use Rattle.cap_galg_spec.specs.Laws.Algebras.{sound-of, closed}

-- what the last two of three compose to, where the first two compose and then the third
pub record Regrouped (x y z w : Element) : Type 0 where
  pub middle : Element
  pub inner : compose y z ≡ Some middle
  pub outer : compose x middle ≡ Some w

pub regrouped : (x y z u w : Element) → IsSound x → IsSound y → IsSound z → compose x y ≡ Some u
    → compose u z ≡ Some w → Regrouped x y z w
regrouped x y z u w p q r e f =
    let s = bind-is (compose y z) (λ t. compose x t) w (sym (compose_assoc x y z p q r) ∙ ap (λ o. bind o (λ t. compose t z)) e ∙ f) in
    record { middle = s.0; inner = s.1; outer = s.2 }

pub swapped : (x y : Element) (o : Option Element) → IsSound x → IsSound y → compose x y ≡ o
    → compose y x ≡ o
swapped x y o p q e = compose-comm y x q p ∙ e

-- what the first two of three compose to, where the last two compose and then the first
pub record Grouped (x y z w : Element) : Type 0 where
  pub middle : Element
  pub inner : compose x y ≡ Some middle
  pub outer : compose middle z ≡ Some w

pub grouped : (x y z t w : Element) → IsSound x → IsSound y → IsSound z → compose y z ≡ Some t
    → compose x t ≡ Some w → Grouped x y z w
grouped x y z t w p q r e f =
    let m = sound-composed y z t q r e in
    let s = regrouped z y x t w r q p (swapped y z (Some t) q r e) (swapped x t (Some w) p m f) in
    record {
      middle = s.middle;
      inner = swapped y x (Some s.middle) q p s.inner;
      outer = swapped z s.middle (Some w) r (sound-composed y x s.middle q p s.inner) s.outer;
    }

-- the first and the last of three, then the second
pub exchanged : (x y z u w : Element) → IsSound x → IsSound y → IsSound z → compose x y ≡ Some u
    → compose u z ≡ Some w → Grouped x z y w
exchanged x y z u w p q r e f =
    let s = regrouped y x z u w q p r (swapped x y (Some u) p q e) f in
    record {
      middle = s.middle;
      inner = s.inner;
      outer = swapped y s.middle (Some w) q (sound-composed x z s.middle p r s.inner) s.outer;
    }

-- a part of what another element composes with composes with it too
pub record HasPart (x u : Element) : Type 0 where
  pub rest : Element
  pub sound : IsSound rest
  pub whole : compose x rest ≡ Some u

pub part-meets : (x u y w : Element) → IsSound x → IsSound y → HasPart x u → compose u y ≡ Some w
    → (s : Element) × (compose x y ≡ Some s)
part-meets x u y w p q h e = let s = exchanged x h.rest y u w p h.sound q h.whole e in (s.middle, s.inner)

-- a part of the second of two is a part of what they compose to
pub part-later : (x t y u : Element) → IsSound x → IsSound y → HasPart x t → compose y t ≡ Some u
    → HasPart x u
part-later x t y u p q h e =
    let s = regrouped x h.rest y t u p h.sound q h.whole
    (swapped y t (Some u) q (sound-composed x h.rest t p h.sound h.whole) e) in
    record { rest = s.middle; sound = sound-composed h.rest y s.middle h.sound q s.inner; whole = s.outer }

-- ---- lists

pub all-sound : (xs : List Element) (w : Element) → AllByRecursion IsSound xs
    → compose_all xs ≡ Some w → IsSound w
all-sound [] w h e = subst IsSound (some-same nothing w e) tt
all-sound (x ∷ xs) w h e =
    let r = bind-is (compose_all xs) (λ y. compose x y) w e in
    sound-composed x r.0 w h.0 (all-sound xs r.0 h.1 r.1) r.2

-- what two lists in a row compose to is what they compose to, composed
pub record Halves (xs ys : List Element) (w : Element) : Type 0 where
  pub first : Element
  pub second : Element
  pub firsts : compose_all xs ≡ Some first
  pub seconds : compose_all ys ≡ Some second
  pub both : compose first second ≡ Some w

pub halved : (xs ys : List Element) (w : Element) → AllByRecursion IsSound xs
    → AllByRecursion IsSound ys → compose_all (xs ++ ys) ≡ Some w → Halves xs ys w
halved [] ys w h k e = record { first = nothing; second = w; firsts = refl; seconds = e; both = refl }
halved (x ∷ xs) ys w h k e =
    let r = bind-is (compose_all (xs ++ ys)) (λ y. compose x y) w e in
    let s = halved xs ys r.0 h.1 k r.1 in
    let g = grouped x s.first s.second r.0 w h.0 (all-sound xs s.first h.1 s.firsts) (all-sound ys s.second k s.seconds) s.both r.2 in
    record { first = g.middle; second = s.second; firsts = ap (λ o. bind o (λ y. compose x y)) s.firsts ∙ g.inner; seconds = s.seconds; both = g.outer }

-- and two lists in a row compose to what these compose to
pub appended : (xs ys : List Element) (u v w : Element) → AllByRecursion IsSound xs
    → AllByRecursion IsSound ys → compose_all xs ≡ Some u → compose_all ys ≡ Some v
    → compose u v ≡ Some w → compose_all (xs ++ ys) ≡ Some w
appended [] ys u v w h k e f g = f ∙ ap (λ x. compose x v) (some-same nothing u e) ∙ g
appended (x ∷ xs) ys u v w h k e f g =
    let r = bind-is (compose_all xs) (λ y. compose x y) u e in
    let s = regrouped x r.0 v u w h.0 (all-sound xs r.0 h.1 r.1) (all-sound ys v k f) r.2 g in
    ap (λ o. bind o (λ y. compose x y)) (appended xs ys r.0 v s.middle h.1 k r.1 f s.inner) ∙ s.outer

-- elements at most two that compose do so too, to one at most what those compose to
pub below-both : (a : PlainAlgebra) (x y p q s : Element) → IsSound x → IsSound y → AtMost a x p
    → AtMost a y q → compose p q ≡ Some s → (w : Element) × (compose x y ≡ Some w) × AtMost a w s
below-both a x y p q s sx sy h j e =
    let sz = sound-of a h.0 h.1 in
    let sw = sound-of a j.0 j.1 in
    let m = regrouped x h.0 q p s sx sz (sound-composed y j.0 q sy sw j.2) h.2 e in
    let n = regrouped y j.0 h.0 q m.middle sy sw sz j.2 (swapped h.0 q (Some m.middle) sz (sound-composed y j.0 q sy sw j.2) m.inner) in
    let c = closed a j.0 h.0 n.middle j.1 h.1 n.inner in
    let g = grouped x y n.middle m.middle s sx sy (sound-of a n.middle c) n.outer m.outer in
    (g.middle, g.inner, (n.middle, c, g.outer))
