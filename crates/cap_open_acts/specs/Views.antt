-- What contracts see of pairs of regions, and of the states after a statement.
use Rattle.std.specs.Prelude.{List, ◌∷◌, map, option_to_list}
use Rattle.cap_rules_steps.specs.cap_goal_spec.States.{PlainState}
use Rattle.cap_rules_steps.specs.cap_rules.Closing as closing
use Rattle.cap_open_acts.specs.declared.marking.Rival.{Rival}
use Rattle.cap_open_acts.specs.declared.acting.Outcomes.{Outcomes}

abbrev pub rival_view : Rival → closing.Rival
rival_view x = record { opened = x.opened.now; number = x.number; fact = x.fact.now }

abbrev pub rivals_view : List Rival → List closing.Rival
rivals_view xs = map rival_view xs

abbrev pub outcomes_view : Outcomes → List PlainState
outcomes_view o = o.done ∷ option_to_list o.failed
