-- What a refusal says: it is the first finding.
use Rattle.std.specs.Prelude.{◌≡◌, false, List, [], ◌∷◌, ◌⊎◌, None}
use Rattle.cap_parse_tree.specs.Tree.{ProgramTree}
use Rattle.cap_resolve_spec.specs.Finding.{Finding, no_main, is_before}
use Rattle.cap_resolve_spec.specs.Stands.{findings, main_of}

abbrev pub IsOneOf : Finding → List Finding → Type 0
IsOneOf f [] = ⊥
IsOneOf f (g ∷ gs) = (f ≡ g) ⊎ IsOneOf f gs

abbrev pub NoneBefore : Finding → List Finding → Type 0
NoneBefore f [] = Unit {0}
NoneBefore f (g ∷ gs) = (is_before g f ≡ false) × NoneBefore f gs

-- one of the findings, and none of them has a lesser place, or at its place a lesser number
pub record IsFirst (f : Finding) (fs : List Finding) : Type 0 where
  pub there : IsOneOf f fs
  pub none : NoneBefore f fs

-- nothing else is wrong, and there is no `main`
pub record IsMainMissing (t : ProgramTree) (f : Finding) : Type 0 where
  pub nothing : findings t ≡ []
  pub missing : main_of t ≡ None
  pub is : f ≡ record { place = record { line = 1; column = 1 }; cause = no_main }

abbrev pub IsRefusal : ProgramTree → Finding → Type 0
IsRefusal t f = IsFirst f (findings t) ⊎ IsMainMissing t f

-- nothing is wrong
pub record IsRight (t : ProgramTree) : Type 0 where
  pub nothing : findings t ≡ []
  pub main : main_of t ≡ None → ⊥
