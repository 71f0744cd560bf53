-- Elements of a declared algebra.
use Rattle.std.proofs.Common.{◌≡◌, sym, subst, Some}
use Rattle.cap_galg_spec.specs.Elements.{Element, nothing, one, share, tok, src, indices, both, whole, left, right, compose}
use Rattle.cap_galg_spec.specs.Algebras.{PlainAlgebra, full, IsElement}
use Rattle.cap_galg_spec.specs.Laws.Composition.{IsSound}
use Rattle.cap_galg_spec.specs.Laws.Algebras.{sound-of, closed, full-element}
use Rattle.cap_galg.specs.Views.{HasShares}

pub full-proper : (a b : PlainAlgebra) (x : Element) → x ≡ full a → b ≡ a → IsElement b x
full-proper a b x e f = subst (λ c. IsElement c x) (sym f) (subst (IsElement a) (sym e) (full-element a))

pub closed-proper : (a b c : PlainAlgebra) (x y z : Element) → IsElement a x → IsElement b y → a ≡ b → c ≡ a → compose x y ≡ Some z → IsElement c z
closed-proper a b c x y z h k e f p = subst (λ d. IsElement d z) (sym f) (closed a x y z h (subst (λ d. IsElement d y) (sym e) k) p)

pub has_shares : (a : PlainAlgebra) (x : Element) → IsElement a x → HasShares x
has_shares a x h = go x (sound-of a x h)
  where
    go : (x : Element) → IsSound x → HasShares x
    go nothing p = tt
    go one p = tt
    go (share f) p = p
    go (tok k) p = tt
    go (src n) p = tt
    go (indices xs) p = tt
    go (both x y) p = (go x p.0, go y p.1)
    go whole p = tt
    go (left x) p = go x p.0
    go (right y) p = go y p.0
