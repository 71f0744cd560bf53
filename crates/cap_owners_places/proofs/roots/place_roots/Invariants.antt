use Rattle.std.proofs.Common.{◌≡◌, ◌++◌, map, option_map}
use Rattle.std.specs.Iterator.Adapters.{zip_first, zip_second}
use Rattle.std.specs.Slice.Iter.{iter_rest}
use Rattle.std.specs.Vec.Iter.{into_iter_items}
use Rattle.cap_prog.specs.Views.{program_view}
use Rattle.cap_goal_roots.specs.Views.{roots_view}
use Rattle.cap_kernel_nodes.specs.Views.{trees_lent}
use Rattle.cap_owners_places.specs.Places.{all_roots_placed}
use Rattle.cap_owners_places.specs.Proven.{RootsAreProven}
use Rattle.cap_owners_places.specs.Views.{placed_view}
use Rattle.cap_owners_places.proofs.roots.place_roots.Given as goal

-- the roots so far, and those that remain
abbrev pub invariant-loop-root : goal.invariant-loop-root
invariant-loop-root l = record {
  proven : RootsAreProven (program_view l.program) (trees_lent (iter_rest (zip_second l.root-iterator))) (roots_view (into_iter_items (zip_first l.root-iterator)));
  placed :
      map (option_map placed_view) l.places.items
      ++ all_roots_placed (program_view l.program) (roots_view (into_iter_items (zip_first l.root-iterator))) (trees_lent (iter_rest (zip_second l.root-iterator)))
      ≡ all_roots_placed (program_view l.program) (roots_view l.fn.roots.items) (trees_lent l.fn.trees);
}
