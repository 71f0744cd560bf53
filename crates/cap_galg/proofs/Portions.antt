-- What is wanted of pieces that are held, and the full elements of the two sides of a sum.
use Rattle.std.proofs.Common.{◌≡◌, List, [], ◌∷◌, refl, ap, ◌∙◌, Some}
use Rattle.std.specs.List.{All, AllByRecursion as Each}
use Rattle.std.proofs.lemmas.List.Elements.{recursion_from_All}
use Rattle.cap_galg_spec.specs.Elements.{Element, nothing, on_left, on_right, bind, compose}
use Rattle.cap_galg_spec.specs.Algebras.{PlainAlgebra, sum, full, IsElement, AtMost, atom_element}
use Rattle.cap_galg.specs.Lists.{compose_all}
use Rattle.cap_galg.specs.Portions.{Portion, IsPortion, held_elements, wanted_elements}
use Rattle.cap_galg_spec.specs.Laws.Composition.{bind-is}
use Rattle.cap_galg_spec.specs.Laws.Algebras.{full-full, sound-of}
use Rattle.cap_galg.specs.Laws.Lists.{below-both}
use Rattle.cap_galg.specs.Laws.Atoms.{atom-is}
use Rattle.cap_galg.proofs.Kept.{atom-at_most}
use Rattle.cap_galg.proofs.Lists.{all-closed}

wanted-are : (a : PlainAlgebra) (ps : List Portion) → Each (IsPortion a) ps → Each (IsElement a) (wanted_elements a ps)
wanted-are a [] h = tt
wanted-are a (p ∷ ps) h = (atom-is a p.atom p.wanted h.0.within h.0.element, wanted-are a ps h.1)

go : (a : PlainAlgebra) (ps : List Portion) (y : Element) → Each (IsPortion a) ps → compose_all (held_elements a ps) ≡ Some y → (z : Element) × (compose_all (wanted_elements a ps) ≡ Some z) × AtMost a z y
go a [] y h e = (nothing, refl, (nothing, tt, e))
go a (p ∷ ps) y h e =
    let r = bind-is (compose_all (held_elements a ps)) (λ v. compose (atom_element a p.atom p.held) v) y e in
    let t = go a ps r.0 h.1 r.1 in
    let m = atom-at_most a p.atom p.wanted p.held h.0.within h.0.element h.0.completed in
    let hw = wanted-are a (p ∷ ps) h in
    let hz = all-closed a (wanted_elements a ps) t.0 hw.1 t.1 in
    let k = below-both a (atom_element a p.atom p.wanted) t.0 (atom_element a p.atom p.held) r.0 y (sound-of a _ hw.0) (sound-of a t.0 hz) m t.2 r.2 in
    (k.0, ap (λ o. bind o (λ v. compose (atom_element a p.atom p.wanted) v)) t.1 ∙ k.1, k.2)

pub portions : (a : PlainAlgebra) (ps : List Portion) (y : Element) → All (IsPortion a) ps → compose_all (held_elements a ps) ≡ Some y → (z : Element) × (compose_all (wanted_elements a ps) ≡ Some z) × AtMost a z y
portions a ps y h e = go a ps y (recursion_from_All (IsPortion a) ps h) e

pub fulls : (a b : PlainAlgebra) → (on_left (full a) ≡ full (sum a b)) × (on_right (full b) ≡ full (sum a b))
fulls a b = rw (full-full a, full-full b) (refl, refl)
