-- What is held of atoms, and what is wanted of each piece that is held.
use Rattle.std.specs.Prelude.{ℕ, ◌<◌, List, map}
use Rattle.cap_galg_spec.specs.Elements.{Element}
use Rattle.cap_galg_spec.specs.Algebras.{PlainAlgebra, IsElement, AtMost, atoms, atom_algebra}
use Rattle.cap_galg_spec.specs.Algebras.{atom_element}

-- of one atom, an element that is held and the element that is wanted of it
pub record Portion : Type 0 where
  pub atom : ℕ
  pub held : Element
  pub wanted : Element

-- the wanted one is an element of the atom's algebra that some element completes to the held one
pub record IsPortion (a : PlainAlgebra) (p : Portion) : Type 0 where
  pub within : p.atom < atoms a
  pub element : IsElement (atom_algebra a p.atom) p.wanted
  pub completed : AtMost (atom_algebra a p.atom) p.wanted p.held

abbrev pub held_elements : PlainAlgebra → List Portion → List Element
held_elements a ps = map (λ p. atom_element a p.atom p.held) ps

abbrev pub wanted_elements : PlainAlgebra → List Portion → List Element
wanted_elements a ps = map (λ p. atom_element a p.atom p.wanted) ps
