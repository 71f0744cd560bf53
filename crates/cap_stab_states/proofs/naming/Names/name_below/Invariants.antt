use Rattle.std.proofs.Common.{◌≡◌, ◌-◌, vec_len}
use Rattle.cap_rules.specs.Resting.{names_below}
use Rattle.cap_stab_states.specs.Wanting.{names_view}
use Rattle.cap_stab_states.proofs.naming.Names.name_below.Given as goal

abbrev pub invariant-loop-alloc : goal.invariant-loop-alloc
invariant-loop-alloc l = names_below (names_view l.self) l.count ≡ names_below (names_view l.fn.self) l.count

abbrev pub decreases-loop-alloc : goal.decreases-loop-alloc
decreases-loop-alloc l = l.count - vec_len l.self.terms
