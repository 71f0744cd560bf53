-- What contracts see of counted parts, and of the sides of a sum.
use Rattle.cap_galg_spec.specs.Elements.{Element, src, in_left, in_right, tokens}
use Rattle.cap_galg_atoms.specs.declared.counting.Counting.{Counting}
use Rattle.cap_galg_atoms.specs.declared.counting.Counting.TheVariants.{Tok, Src}
use Rattle.cap_galg_atoms.specs.declared.either.Either.{Either}
use Rattle.cap_galg_atoms.specs.declared.either.Either.TheVariants.{Left, Right}

abbrev pub counting_element : Counting → Element
counting_element (Tok k) = tokens k
counting_element (Src n) = src n

-- an element of a sum that one of its sides has, and which of them are of one algebra
abbrev pub side_element : {A B : Type 0} → (A → Element) → (B → Element) → Either A B → Element
side_element f g (Left x) = in_left (f x)
side_element f g (Right y) = in_right (g y)

abbrev pub SideKin : {A B : Type 0} → (A → A → Type 0) → (B → B → Type 0) → Either A B → Either A B
    → Type 0
SideKin K L (Left x) (Left y) = K x y
SideKin K L (Right x) (Right y) = L x y
SideKin K L _ _ = Unit {0}
