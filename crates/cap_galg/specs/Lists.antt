-- What the elements of a list compose to, together.
use Rattle.std.specs.Prelude.{List, [], ◌∷◌, Option, Some}
use Rattle.cap_galg_spec.specs.Elements.{Element, nothing, bind, compose}

abbrev pub compose_all : List Element → Option Element
compose_all [] = Some nothing
compose_all (x ∷ xs) = bind (compose_all xs) (λ y. compose x y)
