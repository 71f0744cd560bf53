use Rattle.std.proofs.Common.{◌≡◌, ◌++◌, drop, flat_map}
use Rattle.std.specs.Prelude.{codes}
use Rattle.cap_replay_schedules.specs.Writing.{entry_text}
use Rattle.cap_gen_schedules.proofs.writing.push_entries.Given as goal

-- what is written, in front of what is left
abbrev pub invariant-loop-entry : goal.invariant-loop-entry
invariant-loop-entry l =
    l.text.items ++ flat_map (λ e. entry_text e ++ codes "\n") (drop l.entry-index l.entries)
    ≡ l.fn.text.items ++ flat_map (λ e. entry_text e ++ codes "\n") l.entries
