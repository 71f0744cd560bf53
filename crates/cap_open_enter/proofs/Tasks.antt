-- A task more.
use Rattle.std.proofs.Common.{◌≡◌, List, [], ◌∷◌, ◌++◌, map, reverse, ap, ◌∙◌}
use Rattle.std.proofs.lemmas.List.{map-append, reverse-append}
use Rattle.cap_goal.specs.declared.task.Task.{Task}
use Rattle.cap_goal.specs.Views.{task_view, tasks_view}

pub pushed : (ts : List Task) (t : Task) → tasks_view (ts ++ t ∷ []) ≡ task_view t ∷ tasks_view ts
pushed ts t = ap reverse (map-append task_view ts (t ∷ [])) ∙ reverse-append (map task_view ts) (task_view t ∷ [])
