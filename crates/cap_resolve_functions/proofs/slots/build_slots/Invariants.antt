use Rattle.std.proofs.Common.{◌≡◌, ◌++◌, drop, map}
use Rattle.cap_parse_tree.specs.Views.{behind_view, slot_view}
use Rattle.cap_resolve_spec.specs.Program.{slot_program}
use Rattle.cap_resolve_functions.proofs.slots.build_slots.Given as goal

abbrev pub invariant-loop-part : goal.invariant-loop-part
invariant-loop-part l =
    l.made.items ++ map (λ a. slot_program l.scope a.1) (map (behind_view slot_view) (drop l.part-index l.list))
    ≡ map (λ a. slot_program l.scope a.1) (map (behind_view slot_view) l.list)
