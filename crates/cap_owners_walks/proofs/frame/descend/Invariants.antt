use Rattle.std.proofs.Common.{◌≡◌, List, Option}
use Rattle.cap_prog.specs.Views.{program_view}
use Rattle.cap_goal_spec.specs.Choices.{PlainTree}
use Rattle.cap_owners_spec.specs.Steps.{interpreted}
use Rattle.cap_owners_places.specs.Views.{placed_view, proved_of, AreRoots}
use Rattle.cap_owners_walks.proofs.Walking.{walk_at, walk_on, nodes_ahead, IsPlacedAhead}
use Rattle.cap_owners_walks.proofs.frame.descend.Given as goal

-- where it has still to go, from there, is where it goes from the start
abbrev pub invariant-loop-next : goal.invariant-loop-next
invariant-loop-next l = record {
  placed : IsPlacedAhead (program_view l.program) l.next;
  walked :
      (ts : List (Option PlainTree)) → AreRoots (program_view l.program) ts l.roots →
      walk_on (interpreted (proved_of (program_view l.program) ts)) (program_view l.program) l.seating l.next l.walk
      ≡ walk_at (interpreted (proved_of (program_view l.program) ts)) (program_view l.program) l.seating (placed_view l.fn.place) l.fn.walk;
}

abbrev pub decreases-loop-next : goal.decreases-loop-next
decreases-loop-next l = nodes_ahead l.next
