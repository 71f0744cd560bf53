-- What a walk for an atom, or for two, has come to.
use Rattle.std.specs.Prelude.{◌≡◌, ℕ, ◌+◌, ◌<◌}
use Rattle.cap_galg_spec.specs.Elements.{Element}
use Rattle.cap_galg_spec.specs.Algebras.{PlainAlgebra, atoms, at_atom, are_apart}
use Rattle.cap_galg.specs.Views.{node_view}
use Rattle.cap_galg.specs.declared.algebra.Passed.{Passed}
use Rattle.cap_galg.specs.declared.algebra.Passed.TheVariants.{Both, First, Second, Neither}
use Rattle.cap_galg.specs.declared.elem.Placed.{Placed}
use Rattle.cap_galg.specs.declared.elem.Placed.TheVariants.{Here, Past}

-- the element with the atom, or that the atom comes so many atoms after the algebra's
abbrev pub IsPlaced : PlainAlgebra → ℕ → Element → Placed → Type 0
IsPlaced a i x (Here n) = (i < atoms a) × (node_view n ≡ at_atom a i x)
IsPlaced a i x (Past rest n) = (atoms a + rest ≡ i) × (node_view n ≡ x)

-- whether both atoms are the algebra's and apart, or how many atoms one or both come after the
-- algebra's
abbrev pub HasPassed : PlainAlgebra → ℕ → ℕ → Passed → Type 0
HasPassed a i j (Both apart) = (i < atoms a) × (j < atoms a) × (apart ≡ are_apart a i j)
HasPassed a i j (First rest) = (i < atoms a) × (atoms a + rest ≡ j)
HasPassed a i j (Second rest) = (j < atoms a) × (atoms a + rest ≡ i)
HasPassed a i j (Neither r s) = (atoms a + r ≡ i) × (atoms a + s ≡ j)
