-- Composition of a track's elements, whose counts stay within 128 bits.
use Rattle.std.specs.Prelude.{◌≡◌, ℕ, ◌+◌, ◌<◌, ℤ, pos, negsuc, Option, Some, None, if◌then◌else◌}
use Rattle.cap_galg.specs.Elements.{Element, both, compose}
use Rattle.cap_galg.specs.Algebras.{PlainAlgebra, atoms, at_atom}
use Rattle.cap_machine_accounts.specs.Assertions.{NameValue, a_number, a_fraction}
use Rattle.cap_owners_spec.specs.Traced.{Traced, traced, past_width, untold}
use Rattle.cap_owners_spec.specs.Filling.{counts_fit}
use Rattle.cap_owners_parts.specs.declared.atoms.Placed.{Placed}
use Rattle.cap_owners_parts.specs.declared.atoms.Placed.TheVariants.{Here, Past}
use Rattle.cap_owners_parts.specs.Views.{element_view}

abbrev pub fitted : Option Element → Traced Element
fitted None = untold
fitted (Some z) = if counts_fit z then traced z else past_width

abbrev pub composed_element : Element → Element → Traced Element
composed_element x y = fitted (compose x y)

-- a pair is untold where one of its parts is, and else past its width where one of them is
abbrev pub paired : Traced Element → Traced Element → Traced Element
paired (traced x) (traced y) = traced (both x y)
paired (traced x) past_width = past_width
paired past_width (traced y) = past_width
paired past_width past_width = past_width
paired t u = untold

-- a whole number that isn't negative
abbrev pub natural : ℤ → Traced ℕ
natural (pos n) = traced n
natural (negsuc n) = untold

abbrev pub natural_of : NameValue → Traced ℕ
natural_of (a_number z) = natural z
natural_of (a_fraction n d) = untold

-- the element with the atom, or that the atom comes so many atoms after the algebra's
abbrev pub IsPlaced : PlainAlgebra → ℕ → Element → Placed → Type 0
IsPlaced a i x (Here y) = (i < atoms a) × (element_view y ≡ at_atom a i x)
IsPlaced a i x (Past rest y) = (atoms a + rest ≡ i) × (element_view y ≡ x)
