use Rattle.std.proofs.Common.{inl, inr}
use Rattle.std.specs.Iterator.Adapters.{zip_first, zip_second}
use Rattle.std.specs.Slice.Iter.{iter_rest}
use Rattle.cap_goal_roots.specs.Views.{roots_view}
use Rattle.cap_rules_nodes.specs.Nodes.{all_root_nodes}
use Rattle.cap_kernel_nodes.specs.Views.{trees_lent}
use Rattle.cap_kernel_nodes.proofs.Stacks.{all-stacked, no-roots, no-trees}
use Rattle.cap_kernel_nodes.proofs.ahead.trees_at_roots.Goals as goal

pub returns : goal.returns
returns c = λ p.
    let i = c.loop-root.root-iterator in
    let rest = (zip_first i).rest in
    let ts = iter_rest (zip_second i) in
    all-stacked p c.loop-root.rooted.items c.reverse.new.self.items (all_root_nodes p (trees_lent ts) (roots_view rest.items)) (all_root_nodes p (trees_lent c.args.trees.now) (roots_view c.args.roots.items)) c.reverse.ensures.items
    (elim c.in-None.ensures.steps [ inl a ↦ no-roots p (trees_lent ts) rest.items rest.len rest.ok.0 a.1.0 | inr a ↦ no-trees p ts (roots_view rest.items) a.1.0 ])
    (c.loop-root.invariant p)
