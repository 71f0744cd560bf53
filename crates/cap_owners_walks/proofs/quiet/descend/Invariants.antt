use Rattle.std.proofs.Common.{◌≡◌, false}
use Rattle.cap_prog.specs.Views.{program_view}
use Rattle.cap_owners_spec.specs.Steps.{none_entered}
use Rattle.cap_owners_places.specs.Views.{placed_view, IsPlaced}
use Rattle.cap_owners_walks.proofs.Walking.{walk_at, walk_on, nodes_ahead, IsPlacedAhead}
use Rattle.cap_owners_walks.proofs.quiet.descend.Given as goal

-- where it has still to go, from there, is where it goes from the start
abbrev pub invariant-loop-next : goal.invariant-loop-next
invariant-loop-next l =
    IsPlaced (program_view l.program) l.fn.place →
    IsPlacedAhead (program_view l.program) l.next
    × (walk_on none_entered (program_view l.program) false l.next l.walk
    ≡ walk_at none_entered (program_view l.program) false (placed_view l.fn.place) l.fn.walk)

abbrev pub decreases-loop-next : goal.decreases-loop-next
decreases-loop-next l = nodes_ahead l.next
