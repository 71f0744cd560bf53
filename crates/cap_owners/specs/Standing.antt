-- Where a frame begins and stands, and what it has there.
use Rattle.std.specs.Prelude.{ℕ, ℤ, false, List, [], ◌++◌, map}
use Rattle.cap_prog.specs.Program.{PlainFunction, PlainProgram}
use Rattle.cap_machine_accounts.specs.Assertions.{a_number}
use Rattle.cap_machine_accounts.specs.Parts.{Part}
use Rattle.cap_owners_spec.specs.Traced.{Traced, untold, ◌>>=◌}
use Rattle.cap_owners_spec.specs.Filling.{part_held}
use Rattle.cap_owners_spec.specs.Track.{Fill, TrackedRegion, TrackedFrame}
use Rattle.cap_owners_spec.specs.Steps.{Proved, begins_at, body_root, fixed_values, frame_walk, requires_root}
use Rattle.cap_owners_spec.specs.Walks.{Halt, stands, leaves}

-- at the body of a function, which has this number, by what its `requires` is met
abbrev pub entered : Proved → ℕ → PlainFunction → List ℤ → Fill → Traced TrackedFrame
entered d n f args x =
    begins_at d n requires_root body_root (map a_number args ++ fixed_values f x)
    (fixed_values f x) x []

abbrev pub held_at : PlainProgram → Halt → Traced Part
held_at p (leaves w) = untold
held_at p (stands q w) = part_held p q.goal.state w.values

abbrev pub part_there : Proved → List TrackedRegion → TrackedFrame → Traced Part
part_there d rs f = frame_walk d false rs f f.since >>= held_at d.program
