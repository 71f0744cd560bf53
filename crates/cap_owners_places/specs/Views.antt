-- What contracts see of trees whose nodes have their goals.
use Rattle.std.specs.Prelude.{◌≡◌, List, length, map, option_map, Option, Some, None}
use Rattle.std.specs.List.{AllByRecursion}
use Rattle.cap_prog.specs.Program.{PlainProgram}
use Rattle.cap_goal_spec.specs.Choices.{PlainTree}
use Rattle.cap_goal_spec.specs.Roots.{units, all_roots}
use Rattle.cap_goal.specs.Views.{choice_view, goal_view}
use Rattle.cap_owners_spec.specs.Track.{Place}
use Rattle.cap_owners_spec.specs.Steps.{Proved}
use Rattle.cap_owners_places.specs.Places.{PlainPlaced, placed, places_of, place_in, IsAtGoals, root_places, begins_from}
use Rattle.cap_owners_places.specs.declared.placed.Placed.{Placed, fold-Placed}
use Rattle.cap_owners_places.specs.declared.placed.Placed.TheOpen.{Placed-F}
use Rattle.cap_owners_places.specs.declared.roots.Roots.{Roots}

abbrev pub proved_of : PlainProgram → List (Option PlainTree) → Proved
proved_of p ts = record { program = p; trees = ts }

abbrev pub placed_step : Placed-F PlainPlaced → PlainPlaced
placed_step q = placed (goal_view q.goal) (choice_view q.choice.now) (places_of q.children.items)

abbrev pub placed_view : Placed → PlainPlaced
placed_view = fold-Placed PlainPlaced placed_step

abbrev pub place_view : Placed → Place
place_view q = place_in (placed_view q)

-- the children of each of its nodes are at the goals that the node's choice leaves
abbrev pub IsPlaced : PlainProgram → Placed → Type 0
IsPlaced p q = IsAtGoals p (placed_view q)

abbrev pub RootIsPlaced : PlainProgram → Option Placed → Type 0
RootIsPlaced p None = Unit {0}
RootIsPlaced p (Some q) = IsPlaced p q

-- the roots of a program with these trees
pub record AreRoots (p : PlainProgram) (ts : List (Option PlainTree)) (r : Roots) : Type 0 where
  pub trees : map (option_map place_view) r.trees.items ≡ root_places (all_roots p) ts
  pub placed : AllByRecursion (RootIsPlaced p) r.trees.items
  pub begins : r.begins.items ≡ begins_from p 0 (units p)
  pub regions : r.regions ≡ length p.regions
