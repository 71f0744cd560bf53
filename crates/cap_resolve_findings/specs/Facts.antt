-- What is wrong in a fact of a region, by its parts.
use Rattle.std.specs.Prelude.{ℕ, List, ◌++◌, map, flat_map, Option, Some}
use Rattle.cap_lin.specs.declared.row.Sort.TheVariants.{Int}
use Rattle.cap_syntax.specs.declared.place.Place.{Place}
use Rattle.cap_parse_tree.specs.declared.word.Word.{Word}
use Rattle.cap_parse_tree.specs.declared.term.Slot.{Slot}
use Rattle.cap_parse_tree.specs.Views.{behind_view, slot_view}
use Rattle.cap_parse_tree.specs.Tree.{RegionTree}
use Rattle.cap_resolve_spec.specs.Finding.{Finding, found_if, wrong_sort, self_fact}
use Rattle.cap_resolve_spec.specs.Names.{NameScope}
use Rattle.cap_resolve_spec.specs.Terms.{WantedTerm, slot_wanted}
use Rattle.cap_resolve_spec.specs.Items.{TypedName, region_named, arity_findings, is_own, region_findings, is_other_type, type_of}

abbrev pub fact_findings :
    List RegionTree → Option Word → List TypedName → NameScope → Word → Word → ℕ → List Finding
fact_findings rs own types scope k r args =
    arity_findings (region_named rs k.text) k args
    ++ (found_if (is_own own r.text) k.place self_fact
    ++ (region_findings scope r
    ++ found_if (is_other_type (region_named rs k.text) (type_of types r.text)) r.place wrong_sort))

-- the terms in the arguments of a fact
abbrev pub argument_wanted : List (Place × Slot) → List WantedTerm
argument_wanted slots =
    flat_map (λ a. slot_wanted (Some Int) a.1) (map (behind_view slot_view) slots)
