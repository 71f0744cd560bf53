-- Where the run of a function begins.
use Rattle.std.specs.Prelude.{ℕ, ℤ, List, Option, Some, None}
use Rattle.cap_prog.specs.Program.{PlainFunction}
use Rattle.cap_machine.specs.Machine.{Heap}
use Rattle.cap_owners_spec.specs.Traced.{Traced, traced, ◌>>=◌}
use Rattle.cap_owners_spec.specs.Track.{Fill, Track}
use Rattle.cap_owners_spec.specs.Steps.{Proved}
use Rattle.cap_owners_spec.specs.Start.{main_track}
use Rattle.cap_owners_start.specs.Views.{requires_met}
use Rattle.cap_owners.specs.Standing.{entered}

-- by what its `requires` is met, if it is
abbrev pub begun_if :
    Proved → ℕ → PlainFunction → List ℤ → Heap → Option Fill → Traced (Option Track)
begun_if d n f args heap None = traced None
begun_if d n f args heap (Some x) = do
  begun ← entered d n f args x
  traced (Some (main_track heap begun))

abbrev pub begun_in : Proved → ℕ → PlainFunction → List ℤ → Heap → Traced (Option Track)
begun_in d n f args heap = requires_met f args heap >>= begun_if d n f args heap
