-- A text in the pieces between separators, of which there is at least one.
use Rattle.std.specs.Prelude.{ℕ, Bool, true, false, nat_eq, List, [], ◌∷◌, Option, Some, None}

abbrev pub grow : ℕ → List (List ℕ) → List (List ℕ)
grow b [] = (b ∷ []) ∷ []
grow b (p ∷ ps) = (b ∷ p) ∷ ps

abbrev pub put : Bool → ℕ → List (List ℕ) → List (List ℕ)
put true b ps = [] ∷ ps
put false b ps = grow b ps

abbrev pub pieces : ℕ → List ℕ → List (List ℕ)
pieces separator [] = [] ∷ []
pieces separator (b ∷ bs) = put (nat_eq b separator) b (pieces separator bs)

-- the pieces behind a separator, where there was one
abbrev pub pieces_behind : ℕ → Option (List ℕ) → List (List ℕ)
pieces_behind separator None = []
pieces_behind separator (Some bs) = pieces separator bs
