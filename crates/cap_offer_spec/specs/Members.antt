-- Members of lists, told by recursion.
use Rattle.std.specs.Prelude.{◌≡◌, ◌⊎◌, List, [], ◌∷◌}

abbrev pub IsOneOf : {A : Type 0} → List A → A → Type 0
IsOneOf [] x = ⊥
IsOneOf (y ∷ ys) x = (y ≡ x) ⊎ IsOneOf ys x

-- the first that has a property
abbrev pub IsFirstOf : {A : Type 0} → (A → Type 0) → List A → A → Type 0
IsFirstOf P [] x = ⊥
IsFirstOf P (y ∷ ys) x = ((y ≡ x) × P y) ⊎ ((¬ P y) × IsFirstOf P ys x)
