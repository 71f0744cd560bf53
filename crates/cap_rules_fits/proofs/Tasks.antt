-- Goals of tasks that fit.
use Rattle.std.proofs.Common.{List, [], ◌∷◌, Bool, true, false, length, Some}
use Rattle.std.specs.Prelude.{◌==◌, if◌then◌else◌}
use Rattle.std.specs.List.{AllByRecursion}
use Rattle.cap_fm_spec.proofs.Lists.{each-map}
use Rattle.cap_prog.specs.Program.{PlainProgram, none, item}
use Rattle.cap_goal_spec.specs.States.{PlainState, PlainTask, to_run, to_turn, to_give, to_take, to_make, to_close, to_shift, to_rest, goal, goal_of}
use Rattle.cap_goal_spec.specs.Fits.{StateFits, TaskFits, WaitingFits, GoalFits}
use Rattle.cap_rules_fits.specs.Roots.{RootFits}

-- as the first task, and as a later one
pub record Stands (p : PlainProgram) (s : PlainState) (t : PlainTask) : Type 0 where
  pub first : TaskFits p s t
  pub later : WaitingFits p s t

all-wait : (p : PlainProgram) (s : PlainState) (ts : List PlainTask) → AllByRecursion (Stands p s) ts → AllByRecursion (WaitingFits p s) ts
all-wait p s ts h = each-map _ _ ts h (λ t k. k.later)

kept : (p : PlainProgram) (s : PlainState) (t : PlainTask) (ts : List PlainTask) → StateFits p s → Stands p s t → AllByRecursion (Stands p s) ts → GoalFits p (goal s (t ∷ ts))
kept p s t ts f h k = record { state = f; tasks = (h.first, all-wait p s ts k) }

pub tasks-fit : (p : PlainProgram) (s : PlainState) (ts : List PlainTask) → StateFits p s → AllByRecursion (Stands p s) ts → RootFits p (goal_of s ts)
tasks-fit p s [] f h = tt
tasks-fit p s (to_run home b ∷ ts) f h = kept p s _ ts f h.0 h.1
tasks-fit p s (to_turn home b ∷ ts) f h = kept p s _ ts f h.0 h.1
tasks-fit p s (to_give none e n ∷ ts) f h = tasks-fit p s ts f h.1
tasks-fit p s (to_give (item i is) e n ∷ ts) f h = kept p s _ ts f h.0 h.1
tasks-fit p s (to_take none e left n ∷ ts) f h = tasks-fit p s ts f h.1
tasks-fit p s (to_take (item i is) e left n ∷ ts) f h = kept p s _ ts f h.0 h.1
tasks-fit p s (to_make k c e t n ∷ ts) f h = kept p s _ ts f h.0 h.1
tasks-fit p s (to_close any n ∷ ts) f h = kept p s _ ts f h.0 h.1
tasks-fit p s (to_shift o c m e n ∷ ts) f h = kept p s _ ts f h.0 h.1
tasks-fit p s (to_rest j n ∷ ts) f h = by_test (j == length s.facts) (tasks-fit p s ts f h.1)
  where
    by_test : (b : Bool) → RootFits p (goal_of s ts) → RootFits p (if b then goal_of s ts else Some (goal s (to_rest j n ∷ ts)))
    by_test true r = r
    by_test false r = kept p s (to_rest j n) ts f h.0 h.1
