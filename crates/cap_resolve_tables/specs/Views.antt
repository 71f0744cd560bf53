-- What is seen of occurrences and tables.
use Rattle.std.specs.Prelude.{List, Bool, map, flat_map, if◌then◌else◌}
use Rattle.cap_lin.specs.declared.row.Sort.TheVariants.{Int}
use Rattle.cap_syntax.specs.declared.place.Place.{Place}
use Rattle.cap_parse_tree.specs.declared.term.Slot.{Slot}
use Rattle.cap_parse_tree.specs.Views.{behind_view, slot_view}
use Rattle.cap_resolve_spec.specs.Items as plain
use Rattle.cap_resolve_spec.specs.Names.{NameScope, knows, with_first}
use Rattle.cap_resolve_tables.specs.declared.occurrences.Occurrence.{Occurrence}

abbrev pub occurrence_view : Occurrence → plain.Occurrence
occurrence_view o = record { word = o.word.now; bound = o.bound; sort = o.sort }

abbrev pub occurrences_view : List Occurrence → List plain.Occurrence
occurrences_view os = map occurrence_view os

-- the names with this one more, if it is new
abbrev pub with_new : NameScope → List plain.Occurrence → plain.Occurrence → List plain.Occurrence
with_new scope os o = if knows scope (plain.name_of o) then os else with_first plain.name_of os o

-- the names in the arguments of a fact
abbrev pub argument_occurrences : Bool → List (Place × Slot) → List plain.Occurrence
argument_occurrences inside slots =
    flat_map (λ a. plain.slot_occurrences inside Int a.1) (map (behind_view slot_view) slots)
