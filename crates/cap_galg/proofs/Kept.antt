-- Functions that keep the composition of an algebra's elements: parts of pairs, sides of sums, and atoms.
use Rattle.std.proofs.Common.{◌≡◌, ℕ, ◌-◌, ◌<◌, ap, ◌∙◌, Some}
use Rattle.cap_galg_spec.specs.Elements.{Element, bind, compose}
use Rattle.cap_galg_spec.specs.Algebras.{PlainAlgebra, IsElement, AtMost, atoms, atom_algebra, atom_element}
use Rattle.cap_galg_spec.specs.Laws.Algebras.{sound-of}
use Rattle.cap_galg.specs.Laws.Atoms.{atom-is}
use Rattle.cap_galg.specs.Laws.Placing.{atom-composed}

abbrev pub Keeps : PlainAlgebra → (Element → Element) → Type 0
Keeps a f = (x y : Element) → IsElement a x → IsElement a y → compose (f x) (f y) ≡ bind (compose x y) (λ z. Some (f z))

-- what completes an atom's element completes the algebra's
pub atom-at_most : (a : PlainAlgebra) (i : ℕ) (w x : Element) → i < atoms a → IsElement (atom_algebra a i) w → AtMost (atom_algebra a i) w x → AtMost a (atom_element a i w) (atom_element a i x)
atom-at_most a i w x l h m =
    (atom_element a i m.0, atom-is a i m.0 l m.1, atom-composed a i w m.0 (sound-of _ w h) (sound-of _ m.0 m.1) ∙ ap (λ o. bind o (λ z. Some (atom_element a i z))) m.2)
