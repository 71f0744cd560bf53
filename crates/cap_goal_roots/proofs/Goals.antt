-- The goal of tasks without those that have nothing to do.
use Rattle.std.proofs.Common.{◌≡◌, ℕ, ◌<◌, ◌≤◌, List, [], ◌∷◌, Bool, true, false, length, map, take, Option, Some, None, refl, sym, ap, ◌∙◌, arith}
use Rattle.std.specs.Prelude.{◌==◌, if◌then◌else◌}
use Rattle.std.proofs.lemmas.List.{length-map, length-reverse, length-take-le}
use Rattle.cap_prog.specs.Program.{none, item}
use Rattle.cap_goal_spec.specs.States.{PlainState, PlainTask, to_run, to_turn, to_give, to_take, to_make, to_close, to_shift, to_rest, PlainGoal, goal, goal_of}
use Rattle.cap_goal.specs.declared.task.Task.{Task}
use Rattle.cap_goal.specs.Views.{task_view, tasks_view}
use Rattle.cap_goal_roots.specs.Views.{without_done}

abbrev goal_at : PlainState → List PlainTask → Option PlainGoal
goal_at s [] = None
goal_at s (t ∷ ts) = Some (goal s (t ∷ ts))

goal_left : (s : PlainState) (ts : List PlainTask) → goal_of s ts ≡ goal_at s (without_done (length s.facts) ts)
goal_left s [] = refl
goal_left s (to_run home b ∷ ts) = refl
goal_left s (to_turn home b ∷ ts) = refl
goal_left s (to_give none e n ∷ ts) = goal_left s ts
goal_left s (to_give (item i is) e n ∷ ts) = refl
goal_left s (to_take none e left n ∷ ts) = goal_left s ts
goal_left s (to_take (item i is) e left n ∷ ts) = refl
goal_left s (to_make k c e t n ∷ ts) = refl
goal_left s (to_close any n ∷ ts) = refl
goal_left s (to_shift o c m e n ∷ ts) = refl
goal_left s (to_rest j n ∷ ts) = by_test (j == length s.facts) (goal_left s ts)
  where
    by_test : (b : Bool) → goal_of s ts ≡ goal_at s (without_done (length s.facts) ts) → (if b then goal_of s ts else Some (goal s (to_rest j n ∷ ts))) ≡ goal_at s (if b then without_done (length s.facts) ts else to_rest j n ∷ ts)
    by_test true e = e
    by_test false e = refl

-- so many of the tasks are left
left-length : (ts : List Task) (left : ℕ) → left ≤ length ts → length (tasks_view (take left ts)) ≡ left
left-length ts left h = length-reverse (map task_view (take left ts)) ∙ (length-map (take left ts) task_view ∙ length-take-le left ts h)

some_at : (s : PlainState) (ts : List PlainTask) → 0 < length ts → Some (goal s ts) ≡ goal_at s ts
some_at s [] h = absurd (omega arith)
some_at s (t ∷ ts) h = refl

none_at : (s : PlainState) (ts : List PlainTask) → length ts ≡ 0 → None ≡ goal_at s ts
none_at s [] h = refl
none_at s (t ∷ ts) h = absurd (omega arith)

pub goal_none : (s : PlainState) (ts : List Task) (facts left : ℕ) → facts ≡ length s.facts → tasks_view (take left ts) ≡ without_done facts (tasks_view ts) → left ≤ length ts → left ≡ 0 → None ≡ goal_of s (tasks_view ts)
goal_none s ts facts left f e h z =
    none_at s (tasks_view (take left ts)) (left-length ts left h ∙ z) ∙ (ap (goal_at s) (e ∙ ap (λ n. without_done n (tasks_view ts)) f) ∙ sym (goal_left s (tasks_view ts)))

pub goal_some : (s : PlainState) (ts : List Task) (facts left : ℕ) → facts ≡ length s.facts → tasks_view (take left ts) ≡ without_done facts (tasks_view ts) → left ≤ length ts → (left ≡ 0 → ⊥) → Some (goal s (tasks_view (take left ts))) ≡ goal_of s (tasks_view ts)
goal_some s ts facts left f e h n =
    some_at s (tasks_view (take left ts)) (let l = left-length ts left h in above n l) ∙ (ap (goal_at s) (e ∙ ap (λ n. without_done n (tasks_view ts)) f) ∙ sym (goal_left s (tasks_view ts)))
  where
    above : {n left : ℕ} → (left ≡ 0 → ⊥) → n ≡ left → 0 < n
    above h e = omega arith
