-- What the definitions mean: terms have the values that they are written with, and a name stands
-- for the first that has it.
use Rattle.std.specs.Prelude.{◌≡◌, ℕ, ℤ, ◌<◌, List, [], ◌∷◌, slice_get, Option, Some, IsSomeAnd}
use Rattle.std.specs.List.{AllByRecursion}
use Rattle.cap_lin.specs.Values.{value}
use Rattle.cap_parse_tree.specs.Tree.{TermTree, FunctionTree}
use Rattle.cap_resolve_spec.specs.Parts.{products, term_brackets}
use Rattle.cap_resolve_spec.specs.Names.{KnownName, NameScope, variable_of}
use Rattle.cap_resolve_spec.specs.Linear.{term_form, term_value}
use Rattle.cap_resolve_spec.specs.Terms.{names_multiplied}
use Rattle.cap_resolve_spec.specs.Items.{NumberedRegion}

-- no product in the term or in its brackets is one of two names
abbrev pub HasNoProducts : TermTree → Type 0
HasNoProducts t =
    AllByRecursion (λ u. AllByRecursion (λ m. names_multiplied m ≡ []) (products u))
    (t ∷ term_brackets t)

-- at every valuation of the variables the linear form has the value of the term as it is written
abbrev pub HasValue : NameScope → TermTree → Type 0
HasValue scope t =
    (n : ℕ → ℤ) → value n (term_form scope t) ≡ term_value (λ x. n (variable_of scope x)) t

-- the member at the place has the name, and none before it has
pub record IsFirstNamed {A : Type 0} (HasName : A → Type 0) (members : List A) (place : ℕ)
    : Type 0 where
  pub member : A
  pub there : slice_get members place ≡ Some member
  pub named : HasName member
  pub first : (i : ℕ) (a : A) → i < place → slice_get members i ≡ Some a → HasName a → ⊥

abbrev pub IsKnownAs : List ℕ → Option KnownName → Type 0
IsKnownAs x k = IsSomeAnd k (λ n. x ≡ n.name)

abbrev pub IsRegionNamed : List ℕ → NumberedRegion → Type 0
IsRegionNamed x k = x ≡ k.region.name.text

abbrev pub IsFunctionNamed : List ℕ → FunctionTree → Type 0
IsFunctionNamed x f = x ≡ f.name.text
