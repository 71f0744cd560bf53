-- Elements of lists, composed.
use Rattle.std.proofs.Common.{◌≡◌, List, [], ◌∷◌, ◌++◌, map, refl, sym, ap, ◌∙◌, subst, Option, Some, None}
use Rattle.std.specs.List.{AllByRecursion as Each}
use Rattle.cap_galg_spec.specs.Elements.{Element, nothing, bind, compose}
use Rattle.cap_galg_spec.specs.Algebras.{PlainAlgebra, IsElement}
use Rattle.cap_galg.specs.Lists.{compose_all}
use Rattle.cap_galg_spec.specs.Laws.Composition.{bind-is, bind-none, some-same, compose_assoc}
use Rattle.cap_galg_spec.specs.Laws.Algebras.{sound-of, closed}
use Rattle.cap_galg.proofs.Kept.{Keeps}

pub all-closed : (a : PlainAlgebra) (xs : List Element) (y : Element) → Each (IsElement a) xs → compose_all xs ≡ Some y → IsElement a y
all-closed a [] y h e = subst (IsElement a) (some-same nothing y e) tt
all-closed a (x ∷ xs) y h e =
    let r = bind-is (compose_all xs) (λ u. compose x u) y e in
    closed a x r.0 y h.0 (all-closed a xs r.0 h.1 r.1) r.2

-- ---- a function that keeps composition

pub all-kept : (a : PlainAlgebra) (f : Element → Element) → Keeps a f → f nothing ≡ nothing → (xs : List Element) → Each (IsElement a) xs → compose_all (map f xs) ≡ bind (compose_all xs) (λ z. Some (f z))
all-kept a f k n [] h = ap (λ w. Some w) (sym n)
all-kept a f k n (x ∷ xs) h = ap (λ o. bind o (λ y. compose (f x) y)) (all-kept a f k n xs h.1) ∙ go (compose_all xs) (λ y e. all-closed a xs y h.1 e)
  where
    go : (o : Option Element) → ((y : Element) → o ≡ Some y → IsElement a y) → bind (bind o (λ z. Some (f z))) (λ y. compose (f x) y) ≡ bind (bind o (λ y. compose x y)) (λ z. Some (f z))
    go None c = refl
    go (Some y) c = k x y h.0 (c y refl)

-- ---- one list behind another

bind-unit : (o : Option Element) → o ≡ bind o (λ y. compose nothing y)
bind-unit None = refl
bind-unit (Some y) = refl

pub all-append : (a : PlainAlgebra) (xs ys : List Element) → Each (IsElement a) xs → Each (IsElement a) ys → compose_all (xs ++ ys) ≡ bind (compose_all xs) (λ x. bind (compose_all ys) (λ y. compose x y))
all-append a [] ys h k = bind-unit (compose_all ys)
all-append a (x ∷ xs) ys h k =
    ap (λ o. bind o (λ u. compose x u)) (all-append a xs ys h.1 k)
    ∙ go (compose_all xs) (compose_all ys) (λ v e. all-closed a xs v h.1 e) (λ y e. all-closed a ys y k e)
  where
    go : (o p : Option Element) → ((v : Element) → o ≡ Some v → IsElement a v) → ((y : Element) → p ≡ Some y → IsElement a y)
        → bind (bind o (λ v. bind p (λ y. compose v y))) (λ u. compose x u) ≡ bind (bind o (λ v. compose x v)) (λ u. bind p (λ y. compose u y))
    go None p c d = refl
    go (Some v) None c d = sym (bind-none (compose x v))
    go (Some v) (Some y) c d = sym (compose_assoc x v y (sound-of a x h.0) (sound-of a v (c v refl)) (sound-of a y (d y refl)))
