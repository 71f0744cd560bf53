use Rattle.std.proofs.Common.{◌≡◌, ◌++◌, map}
use Rattle.cap_prog.specs.Views.{program_view}
use Rattle.cap_owners_spec.specs.Texts.{guard_text}
use Rattle.cap_owners_parts.specs.Views.{entry_view}
use Rattle.cap_owners_parts.proofs.text.add_guards.Given as goal

-- what is written and what is left are the whole
abbrev pub invariant-loop-region : goal.invariant-loop-region
invariant-loop-region l =
    map (λ t. t.items) l.texts.items ++ map (guard_text (program_view l.program)) (map entry_view l.region-iterator)
    ≡ map (λ t. t.items) l.fn.texts.items ++ map (guard_text (program_view l.program)) (map entry_view l.guards.entries)
