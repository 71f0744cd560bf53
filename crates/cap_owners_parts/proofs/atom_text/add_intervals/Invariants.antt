use Rattle.std.proofs.Common.{◌≡◌, ◌++◌, ◌-◌, drop, map, length}
use Rattle.cap_owners_spec.specs.Texts.{interval_texts}
use Rattle.cap_owners_parts.proofs.atom_text.add_intervals.Given as goal

-- what is written and what is left are the whole
abbrev pub invariant-loop-at : goal.invariant-loop-at
invariant-loop-at l =
    map (λ t. t.items) l.texts.items ++ interval_texts l.name (drop l.at l.bounds)
    ≡ map (λ t. t.items) l.fn.texts.items ++ interval_texts l.name l.bounds

abbrev pub decreases-loop-at : goal.decreases-loop-at
decreases-loop-at l = length l.bounds - l.at
