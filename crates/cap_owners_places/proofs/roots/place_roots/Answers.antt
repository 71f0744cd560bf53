use Rattle.std.proofs.Common.{inl, inr, map, option_map}
use Rattle.std.specs.Iterator.Adapters.{zip_first, zip_second}
use Rattle.std.specs.Slice.Iter.{iter_rest}
use Rattle.cap_prog.specs.Views.{program_view}
use Rattle.cap_goal_roots.specs.Views.{roots_view}
use Rattle.cap_kernel_nodes.specs.Views.{trees_lent}
use Rattle.cap_owners_places.specs.Places.{all_roots_placed}
use Rattle.cap_owners_places.specs.Views.{placed_view}
use Rattle.cap_owners_places.proofs.Placing.{no-roots, no-trees, roots-whole}
use Rattle.cap_owners_places.proofs.roots.place_roots.Goals as goal

pub returns : goal.returns
returns c =
    let p = program_view c.args.program.now in
    let i = c.loop-root.root-iterator in
    let rest = (zip_first i).rest in
    let ts = iter_rest (zip_second i) in
    roots-whole (map (option_map placed_view) c.loop-root.places.items) (all_roots_placed p (roots_view rest.items) (trees_lent ts)) (all_roots_placed p (roots_view c.args.roots.items) (trees_lent c.args.trees.now))
    (elim c.in-None.ensures.steps [ inl a ↦ no-roots p rest.items (trees_lent ts) rest.len rest.ok.0 a.1.0 | inr a ↦ no-trees p (roots_view rest.items) ts a.1.0 ])
    c.loop-root.invariant.placed
