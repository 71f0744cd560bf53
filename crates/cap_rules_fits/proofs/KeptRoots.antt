-- Roots are kept.
use Rattle.std.proofs.Common.{ℕ, List, [], ◌∷◌, length, map, flat_map, Option, Some, None, Bool, true, false}
use Rattle.std.specs.Prelude.{◌==◌, slice_get, if◌then◌else◌}
use Rattle.std.specs.List.{AllByRecursion}
use Rattle.cap_fm_spec.proofs.Lists.{each-two}
use Rattle.cap_prog.specs.Program.{none, item, PlainCase, PlainRegionType, PlainFunction, PlainProgram}
use Rattle.cap_goal_spec.specs.States.{PlainState, PlainTask, to_run, to_turn, to_give, to_take, to_make, to_close, to_shift, to_rest, PlainGoal, goal, goal_of}
use Rattle.cap_goal_spec.specs.Roots.{PlainUnit, region_unit, function_unit, case_state, case_root, at_entry, at_exit, at_loop, root_env, root_state, home_of, LoopPoint, loop_roots, function_roots, region_roots, optional_roots, roots}
use Rattle.cap_rules_fits.specs.Roots.{RootFits}
use Rattle.cap_rules_fits.specs.Kept.{ChecksNoMove, RootIsKept, RootsAreKept}
use Rattle.cap_rules_fits.proofs.Roots.{unit-fits}
use Rattle.cap_rules_fits.proofs.Waiting.{no-moves-first}

-- none of its tasks checks a move
abbrev IsCalm : Option PlainGoal → Type 0
IsCalm None = Unit {0}
IsCalm (Some g) = AllByRecursion ChecksNoMove g.tasks

goal-calm : (s : PlainState) (ts : List PlainTask) → AllByRecursion ChecksNoMove ts → IsCalm (goal_of s ts)
goal-calm s [] h = tt
goal-calm s (to_give none e n ∷ ts) h = goal-calm s ts h.1
goal-calm s (to_give (item i is) e n ∷ ts) h = h
goal-calm s (to_take none e l n ∷ ts) h = goal-calm s ts h.1
goal-calm s (to_take (item i is) e l n ∷ ts) h = h
goal-calm s (to_rest j n ∷ ts) h = by_test (j == length s.facts) (goal-calm s ts h.1)
  where
    by_test : (b : Bool) → IsCalm (goal_of s ts) → IsCalm (if b then goal_of s ts else Some (goal s (to_rest j n ∷ ts)))
    by_test true r = r
    by_test false r = h
goal-calm s (to_run home b ∷ ts) h = h
goal-calm s (to_turn home b ∷ ts) h = h
goal-calm s (to_make k c e t n ∷ ts) h = h
goal-calm s (to_close any n ∷ ts) h = h
goal-calm s (to_shift o c m e n ∷ ts) h = h

cases-calm : (k : PlainRegionType) (n : ℕ) (cs : List PlainCase) → AllByRecursion IsCalm (map (case_root k n) cs)
cases-calm k n [] = tt
cases-calm k n (c ∷ cs) = (goal-calm (case_state k n c) (to_give c.items 0 0 ∷ to_rest 0 0 ∷ to_close false 0 ∷ []) (tt, (tt, (tt, tt))), cases-calm k n cs)

loops-calm : (f : PlainFunction) (n : ℕ) (ws : List LoopPoint) → AllByRecursion IsCalm (flat_map (loop_roots f n) ws)
loops-calm f n [] = tt
loops-calm f n (w ∷ ws) =
    let new : ℕ = length w.invariant.names in
    let env = root_env at_loop f n new in (
      goal-calm (root_state at_loop f n (env ∷ env ∷ [])) (to_give w.invariant.items 0 0 ∷ to_rest 0 0 ∷ to_take w.invariant.items 1 0 0 ∷ []) (tt, (tt, (tt, tt))),
      (goal-calm (root_state at_loop f n (env ∷ [])) (to_give w.invariant.items 0 0 ∷ to_turn (home_of at_loop f n) w.block ∷ []) (tt, (tt, tt)), loops-calm f n ws),
    )

function-calm : (f : PlainFunction) (n : ℕ) → AllByRecursion IsCalm (function_roots f n)
function-calm f n =
    let entry = root_env at_entry f n 0 in
    let exit = root_env at_exit f n (length f.ensures.names) in (
      goal-calm (root_state at_entry f n (entry ∷ entry ∷ [])) (to_give f.requires 0 0 ∷ to_rest 0 0 ∷ to_take f.requires 1 0 0 ∷ []) (tt, (tt, (tt, tt))),
      (
        goal-calm (root_state at_exit f n (exit ∷ exit ∷ [])) (to_give f.ensures.items 0 0 ∷ to_rest 0 0 ∷ to_take f.ensures.items 1 0 0 ∷ []) (tt, (tt, (tt, tt))),
        (goal-calm (root_state at_entry f n (entry ∷ [])) (to_give f.requires 0 0 ∷ to_run (home_of at_entry f n) f.body ∷ []) (tt, (tt, tt)), loops-calm f n _),
      ),
    )

region-calm : (o : Option PlainRegionType) (n : ℕ) → AllByRecursion IsCalm (region_roots o n)
region-calm None n = tt
region-calm (Some k) n = cases-calm k n k.cases

optional-calm : (o : Option PlainFunction) (n : ℕ) → AllByRecursion IsCalm (optional_roots o n)
optional-calm None n = tt
optional-calm (Some f) n = function-calm f n

unit-calm : (p : PlainProgram) (u : PlainUnit) → AllByRecursion IsCalm (roots p u)
unit-calm p (region_unit n) = region-calm (slice_get p.regions n) n
unit-calm p (function_unit n) = optional-calm (slice_get p.functions n) n

kept-by : (p : PlainProgram) (o : Option PlainGoal) → RootFits p o → IsCalm o → RootIsKept p o
kept-by p None h c = tt
kept-by p (Some g) h c = record { fits = h; checks = no-moves-first g.tasks c }

pub roots-kept : RootsAreKept
roots-kept p f u = each-two (RootFits p) IsCalm (RootIsKept p) (roots p u) (unit-fits p f u) (unit-calm p u) (kept-by p)
