use Rattle.std.proofs.Common.{drop, map, refl, arith}
use Rattle.std.specs.Vec.Iter.{into_iter_items}
use Rattle.cap_prog.specs.Views.{program_view}
use Rattle.cap_goal.specs.Views.{goal_view}
use Rattle.cap_goal.specs.Trees.{nodes_view}
use Rattle.cap_rules_steps.specs.Goals.{goals_view}
use Rattle.cap_owners_places.specs.Places.{all_placed_at}
use Rattle.cap_owners_places.proofs.Placing.{node-placed, proven-more, placed-more, all-placed, goals-end}
use Rattle.cap_owners_places.proofs.tree.+place.Goals as goal
use Rattle.cap_owners_places.proofs.tree.+place.Goals.{place_all-else-loop-node-test, place_all-then-loop-node-test+in_default}

pub place_tree-returns : goal.place_tree-returns
place_tree-returns t c =
    node-placed (program_view c.args.program.now) c.args.node.now _ refl
    (rw (c.deref.ensures.value, c.in_ok-goals.ensures) at c.in_ok-children.ensures)

pub place_all-loop-node-preserved : goal.place_all-loop-node-preserved
place_all-loop-node-preserved t c =
    let p = program_view c.args.program.now in
    let ns = c.args.nodes.now in
    let k = c.loop-node.node-index in
    let old = into_iter_items c.loop-node.goals in
    let gs = into_iter_items c.next.new.self in
    record {
      within = omega (arith, c.loop-node-test.true);
      proven = proven-more p ns k c.in-Some.goal old gs c.in-Some.ensures.cases.0 c.loop-node.invariant.proven;
      placed =
          placed-more p ns k c.node-item.result c.in-Some.goal old gs c.loop-node.places.items c.push.new.self.items c.in_ok-place_tree.field-0 (all_placed_at p (nodes_view ns) (goals_view c.args.goals))
          c.loop-node-test.true c.node-item.is c.in-Some.ensures.cases.0 c.in_ok-place_tree.ensures c.in_ok-push.ensures.items c.loop-node.invariant.placed;
    }

pub place_all-returns : goal.place_all-returns
place_all-returns t c =
    let p = program_view c.args.program.now in
    let ns = c.args.nodes.now in
    let rest = c.loop-node.goals.rest in
    let all = all_placed_at p (nodes_view ns) (goals_view c.args.goals) in
    elim c.loop-node-test.branch [
      | place_all-else-loop-node-test w ↦ all-placed p ns c.loop-node.node-index (map goal_view rest.items) c.loop-node.places.items all w.loop-node-test.false c.loop-node.invariant.placed
      | place_all-then-loop-node-test+in_default w ↦ goals-end p (nodes_view (drop c.loop-node.node-index ns)) rest.items rest.len c.loop-node.places.items all rest.ok.0 w.in_default.ensures.cases.0 c.loop-node.invariant.placed
    ]
