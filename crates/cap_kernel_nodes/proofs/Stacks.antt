-- Trees that are to come, as a list whose last one comes first.
use Rattle.std.proofs.Common.{◌≡◌, ℕ, List, [], ◌∷◌, ◌++◌, length, map, reverse, Option, refl, sym, ap, subst, ◌∙◌, rules, arith}
use Rattle.std.specs.List.{AllByRecursion}
use Rattle.std.proofs.lemmas.List.{append-nil, reverse-append, reverse-reverse}
use Rattle.cap_prog.specs.Program.{PlainProgram}
use Rattle.cap_goal_spec.specs.States.{PlainGoal}
use Rattle.cap_goal_spec.specs.Choices.{PlainTree, node, PlainTrees, no_trees, tree}
use Rattle.cap_goal.specs.declared.choice.Node.{Node, out-Node}
use Rattle.cap_goal.specs.declared.choice.Node.TheFolds.{the_lemmas}
use Rattle.cap_goal.specs.declared.goal.Goal.{Goal}
use Rattle.cap_goal.specs.Trees.{node_view, nodes_view}
use Rattle.cap_goal.specs.Views.{choice_view, goal_view}
use Rattle.cap_goal_roots.specs.Views.{roots_view}
use Rattle.cap_kernel_nodes.specs.declared.ahead.GoalTree.{GoalTree}
use Rattle.cap_rules_nodes.specs.Nodes.{GoalNode, goals_left, nodes_at, all_nodes_at, all_root_nodes}
use Rattle.cap_kernel_nodes.specs.Laws.{NodeIsProven}
use Rattle.cap_kernel_nodes.specs.Views.{all_tree_nodes, trees_lent}

-- trees are gathered, and then reversed, where none remain
pub all-stacked : (p : PlainProgram) (gathered stack : List GoalTree) (more all : List GoalNode) → stack ≡ reverse gathered → more ≡ [] → all_tree_nodes p gathered ++ more ≡ all → all_tree_nodes p (reverse stack) ≡ all
all-stacked p gathered stack more all e n h =
    ap (all_tree_nodes p) (ap reverse e ∙ reverse-reverse gathered)
    ∙ (sym (append-nil (all_tree_nodes p gathered)) ∙ (ap (λ z. all_tree_nodes p gathered ++ z) (sym n) ∙ h))

-- ---- where goals or trees are at an end

pub no-goals : (p : PlainProgram) (ts : PlainTrees) (gs : List Goal) (n : ℕ) → n ≡ length gs → n ≡ 0 → all_nodes_at p ts (map goal_view gs) ≡ []
no-goals p no_trees gs n e z = refl
no-goals p (tree t ts) [] n e z = refl
no-goals p (tree t ts) (g ∷ gs) n e z = absurd (omega (arith, e, z))

pub no-nodes : (p : PlainProgram) (ns : List Node) (gs : List PlainGoal) → length ns ≡ 0 → all_nodes_at p (nodes_view ns) gs ≡ []
no-nodes p [] gs z = refl
no-nodes p (n ∷ ns) gs z = absurd (omega (arith, z))

pub no-roots : (p : PlainProgram) (ts : List (Option PlainTree)) (rs : List (Option Goal)) (n : ℕ) → n ≡ length rs → n ≡ 0 → all_root_nodes p ts (roots_view rs) ≡ []
no-roots p [] rs n e z = refl
no-roots p (t ∷ ts) [] n e z = refl
no-roots p (t ∷ ts) (r ∷ rs) n e z = absurd (omega (arith, e, z))

pub no-trees : (p : PlainProgram) (ts : List (Option Node)) (rs : List (Option PlainGoal)) → length ts ≡ 0 → all_root_nodes p (trees_lent ts) rs ≡ []
no-trees p [] rs z = refl
no-trees p (t ∷ ts) rs z = absurd (omega (arith, z))

-- ---- the tree that comes next

node-seen : (n : Node) → node_view n ≡ node (choice_view (out-Node n).choice) (nodes_view (out-Node n).children.items)
node-seen n = search (rules, the_lemmas)

abbrev first_node : GoalTree → GoalNode
first_node t = record { goal = goal_view t.goal; choice = choice_view (out-Node t.node.now).choice }

abbrev nodes_below : PlainProgram → GoalTree → List PlainGoal → List GoalNode
nodes_below p t gs = all_nodes_at p (nodes_view (out-Node t.node.now).children.items) gs

abbrev left_at : PlainProgram → GoalTree → List PlainGoal
left_at p t = goals_left p (first_node t).goal (first_node t).choice

next-first : (p : PlainProgram) (t : GoalTree) (old popped : List GoalTree) → old ≡ popped ++ t ∷ [] → all_tree_nodes p (reverse old) ≡ first_node t ∷ (nodes_below p t (left_at p t) ++ all_tree_nodes p (reverse popped))
next-first p t old popped e =
    ap (λ z. all_tree_nodes p (reverse z)) e
    ∙ (ap (all_tree_nodes p) (reverse-append popped (t ∷ []))
    ∙ ap (λ z. nodes_at p z (goal_view t.goal) ++ all_tree_nodes p (reverse popped)) (node-seen t.node.now))

-- its first node is proven, where all are
pub next-proven : (p : PlainProgram) (t : GoalTree) (old popped : List GoalTree) → old ≡ popped ++ t ∷ [] → AllByRecursion (NodeIsProven p) (all_tree_nodes p (reverse old)) → NodeIsProven p (first_node t)
next-proven p t old popped e h =
    let k : AllByRecursion (NodeIsProven p) (first_node t ∷ (nodes_below p t (left_at p t) ++ all_tree_nodes p (reverse popped))) = subst (AllByRecursion (NodeIsProven p)) (next-first p t old popped e) h in k.0

-- its first node comes, and then those below, before all others
pub next-opened : (p : PlainProgram) (t : GoalTree) (gs : List PlainGoal) (old popped new : List GoalTree) → old ≡ popped ++ t ∷ [] → gs ≡ left_at p t → all_tree_nodes p (reverse new) ≡ nodes_below p t gs ++ all_tree_nodes p (reverse popped) → all_tree_nodes p (reverse old) ≡ first_node t ∷ all_tree_nodes p (reverse new)
next-opened p t gs old popped new e l h =
    next-first p t old popped e
    ∙ (ap (λ z. first_node t ∷ (nodes_below p t z ++ all_tree_nodes p (reverse popped))) (sym l)
    ∙ ap (λ z. first_node t ∷ z) (sym h))
