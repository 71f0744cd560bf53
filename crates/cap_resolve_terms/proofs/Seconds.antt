-- The second factor that is no multiplier, once it is known whether there was a first and whether it holds a name.
use Rattle.std.proofs.Common.{Bool, not, ◌&&◌, List, [], ◌∷◌, Option, Some, None}
use Rattle.cap_parse_tree.specs.Tree.{FactorTree}
use Rattle.cap_resolve_spec.specs.Finding.{Finding, found_if, wrong_sort}
use Rattle.cap_resolve_spec.specs.Parts.{holds_name, factor_place}
use Rattle.cap_resolve_spec.specs.Terms.{wrong_second}

abbrev pub second_after : Option Bool → List FactorTree → List Finding
second_after None fs = wrong_second fs
second_after (Some named) [] = []
second_after (Some named) (g ∷ more) = found_if (not (named && holds_name g)) (factor_place g) wrong_sort
