-- What contracts see of obligations, leaves, the record of a search and verdicts.
use Rattle.std.specs.Prelude.{List, map, option_map, Option}
use Rattle.std.specs.Global.{Vec}
use Rattle.cap_goal_spec.specs.Choices.{PlainTree}
use Rattle.cap_goal.specs.declared.choice.Node.{Node}
use Rattle.cap_goal.specs.Trees.{node_view}
use Rattle.cap_search_spec.specs.Leaves.{Need, lacks_fact, lacks_cell, lacks_region, lacks_guard, lacks_move, lacks_state, Leaf, PlainObligation}
use Rattle.cap_search_spec.specs.Walks.{PlainWalk}
use Rattle.cap_search_spec.specs.Verdicts.{PlainVerdict, is_proved, is_spent, is_deep, is_wide, is_rows, is_stuck}
use Rattle.cap_search_trees.specs.declared.obligation.Need as code
use Rattle.cap_search_trees.specs.declared.obligation.Need.TheVariants as need
use Rattle.cap_search_trees.specs.declared.obligation.Obligation.{Obligation}
use Rattle.cap_search_trees.specs.declared.leaf.Leaf as noted
use Rattle.cap_search_trees.specs.declared.walk.Walk.{Walk}
use Rattle.cap_search_trees.specs.declared.verdict.Verdict.{Verdict}
use Rattle.cap_search_trees.specs.declared.verdict.Verdict.TheVariants as verdict

abbrev pub need_view : code.Need → Need
need_view need.Fact = lacks_fact
need_view need.Cell = lacks_cell
need_view need.Region = lacks_region
need_view need.Guard = lacks_guard
need_view need.Move = lacks_move
need_view need.State = lacks_state

abbrev pub leaf_view : noted.Leaf → Leaf
leaf_view l = record { statement = l.statement; need = need_view l.need; item = l.item }

abbrev pub obligation_view : Obligation → PlainObligation
obligation_view o =
    record { statement = o.statement; need = need_view o.need; item = o.item }

abbrev pub walk_view : Walk → PlainWalk
walk_view w = record {
  left = w.left;
  deep = w.deep;
  notes = w.notes;
  root = w.root;
  leaf = option_map leaf_view w.leaf;
}

-- the trees of nodes, and of roots
abbrev pub nodes_seen : Vec Node → List PlainTree
nodes_seen ns = map node_view ns.items

abbrev pub tree_seen : Option Node → Option PlainTree
tree_seen t = option_map node_view t

abbrev pub trees_seen : Vec (Option Node) → List (Option PlainTree)
trees_seen ts = map tree_seen ts.items

abbrev pub verdict_view : Verdict → PlainVerdict
verdict_view (verdict.Proved ts) = is_proved (trees_seen ts)
verdict_view (verdict.Spent n) = is_spent n
verdict_view verdict.Deep = is_deep
verdict_view (verdict.Wide a b) = is_wide a b
verdict_view verdict.Rows = is_rows
verdict_view (verdict.Stuck o) = is_stuck (obligation_view o)
