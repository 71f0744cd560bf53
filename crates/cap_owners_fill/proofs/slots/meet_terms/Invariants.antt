use Rattle.std.proofs.Common.{◌≡◌, map}
use Rattle.cap_goal_spec.specs.Environments.{reading}
use Rattle.cap_owners_spec.specs.Filling.{all_met}
use Rattle.cap_owners_fill.proofs.Meeting.{met_from}
use Rattle.cap_owners_fill.proofs.slots.meet_terms.Given as goal

abbrev pub invariant-loop-place : goal.invariant-loop-place
invariant-loop-place l = met_from l.values (reading l.env) l.slots l.terms l.place l.fill ≡ all_met l.values (map (reading l.env) l.slots) l.terms l.fn.fill
