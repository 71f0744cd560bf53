-- What is gathered of units.
use Rattle.std.specs.Prelude.{◌≡◌, List, ◌++◌, length, flat_map}
use Rattle.cap_prog.specs.Program.{PlainProgram}
use Rattle.cap_goal_spec.specs.Roots.{PlainUnit, roots}
use Rattle.cap_goal_roots.specs.Views.{roots_view}
use Rattle.cap_owners_places.specs.Places.{begins_from}
use Rattle.cap_owners_places.specs.declared.units.UnitRoots.{UnitRoots}

-- the roots of these units come behind those that were there, and where they begin
pub record AreGathered (p : PlainProgram) (us : List PlainUnit) (old new : UnitRoots) : Type 0 where
  pub goals : roots_view new.goals.items ≡ roots_view old.goals.items ++ flat_map (roots p) us
  pub begins : new.begins.items ≡ old.begins.items ++ begins_from p (length old.goals.items) us
