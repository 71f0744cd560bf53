-- Tasks that come first.
use Rattle.std.proofs.Common.{◌≡◌, List, [], ◌∷◌, ◌++◌, map, reverse, ap, ◌∙◌}
use Rattle.std.proofs.lemmas.List.{map-append, reverse-append}
use Rattle.cap_goal_spec.specs.States.{PlainTask}
use Rattle.cap_goal.specs.declared.task.Task.{Task}
use Rattle.cap_goal.specs.Views.{task_view, tasks_view}

-- a task more
pub pushed : (ts : List Task) (t : Task) → tasks_view (ts ++ t ∷ []) ≡ task_view t ∷ tasks_view ts
pushed ts t = ap reverse (map-append task_view ts (t ∷ [])) ∙ reverse-append (map task_view ts) (task_view t ∷ [])

pub two-pushed : (ts us vs : List Task) (t u : Task) (all : List PlainTask) → us ≡ ts ++ t ∷ [] → vs ≡ us ++ u ∷ [] → tasks_view ts ≡ all → tasks_view vs ≡ task_view u ∷ task_view t ∷ all
two-pushed ts us vs t u all e q h =
    ap tasks_view q ∙ (pushed us u ∙ ap (λ l. task_view u ∷ l) (ap tasks_view e ∙ (pushed ts t ∙ ap (λ l. task_view t ∷ l) h)))
