-- What contracts see of lent choices.
use Rattle.std.specs.Prelude.{List, map}
use Rattle.std.specs.Borrow.{Bor}
use Rattle.cap_goal_spec.specs.Choices.{PlainChoice}
use Rattle.cap_goal.specs.declared.choice.Choice.{Choice}
use Rattle.cap_goal.specs.Views.{choice_view}

abbrev pub choices_seen : List (Bor Choice) → List PlainChoice
choices_seen cs = map (λ (c : Bor Choice). choice_view c.now) cs
