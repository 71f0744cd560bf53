-- An element in code, of the algebra that it is declared with.
use Rattle.std.specs.Prelude.{◌≡◌}
use Rattle.cap_galg_spec.specs.Elements.{Element}
use Rattle.cap_galg.specs.Views.{algebra_view, node_view}
use Rattle.cap_galg.specs.declared.algebra.Algebra.{Algebra}
use Rattle.cap_galg.specs.declared.elem.Elem.{Elem}

-- what is made is this element of the definition, and is declared with the algebra
abbrev pub IsElementOf : Algebra → Element → Elem → Type 0
IsElementOf a x e = (node_view e.node ≡ x) × (algebra_view e.algebra ≡ algebra_view a)
