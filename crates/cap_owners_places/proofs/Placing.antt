-- Trees of valid derivations at their goals.
use Rattle.std.proofs.Common.{◌≡◌, ℕ, zero, suc, ◌+◌, ◌<◌, ◌≤◌, drop, List, [], ◌∷◌, ◌++◌, length, map, option_map, Option, Some, None, refl, sym, ap, subst, ◌∙◌, rules, arith}
use Rattle.std.specs.Prelude.{get_or}
use Rattle.std.specs.List.{AllByRecursion, AllZip}
use Rattle.std.proofs.lemmas.List.{append-nil, map-append}
use Rattle.cap_prog.specs.Program.{PlainProgram}
use Rattle.cap_prog.specs.WellFormed.{IsWellFormed}
use Rattle.cap_goal_spec.specs.Roots.{all_roots}
use Rattle.cap_goal_spec.specs.States.{PlainGoal}
use Rattle.cap_goal_spec.specs.Choices.{PlainTree, node, PlainTrees, no_trees, tree}
use Rattle.cap_goal.specs.declared.choice.Node.{Node, out-Node}
use Rattle.cap_goal.specs.declared.choice.Node.TheFolds as node
use Rattle.cap_goal.specs.declared.goal.Goal.{Goal}
use Rattle.cap_goal.specs.Trees.{node_view, nodes_view}
use Rattle.cap_goal.specs.Views.{choice_view, goal_view}
use Rattle.cap_goal_roots.specs.Views.{roots_view}
use Rattle.cap_rules.specs.Answers.{Subgoals}
use Rattle.cap_rules.specs.Valid.{Derives, AllDerive, RootDerives, Valid}
use Rattle.cap_rules_nodes.specs.Nodes.{goals_left, nodes_at, all_nodes_at, root_nodes, all_root_nodes, program_nodes}
use Rattle.cap_kernel_nodes.specs.Laws.{NodeIsProven, ProgramNodesAreProven}
use Rattle.cap_kernel_nodes.specs.Views.{trees_lent}
use Rattle.cap_kernel_nodes.proofs.Leaving.{subgoals-left}
use Rattle.cap_owners_spec.specs.Steps.{place_of}
use Rattle.cap_owners_places.specs.declared.placed.Placed.{Placed, roll-Placed}
use Rattle.cap_owners_places.specs.declared.placed.Placed.TheFolds.{the_lemmas}
use Rattle.cap_owners_places.specs.declared.placed.Placed.TheOpen.{Placed-F}
use Rattle.cap_owners_places.specs.Places.{PlainPlaced, placed, PlainPlaces, no_places, places, places_of, goal_in, goals_in, tree_in, trees_in, place_in, IsAtGoals, AllAreAtGoals, placed_at, all_placed_at, root_placed, all_roots_placed, root_places}
use Rattle.cap_owners_places.specs.Proven.{IsProven, AllAreProven, RootIsProven, RootsAreProven}
use Rattle.cap_owners_places.specs.Views.{placed_view, place_view, RootIsPlaced}

-- places, and then others
abbrev pub behind : List PlainPlaced → PlainPlaces → PlainPlaces
behind [] qs = qs
behind (q ∷ front) qs = places q (behind front qs)

pub behind-all : (front : List PlainPlaced) → behind front no_places ≡ places_of front
behind-all [] = refl
behind-all (q ∷ front) = ap (places q) (behind-all front)

pub behind-more : (front more : List PlainPlaced) (qs : PlainPlaces) → behind (front ++ more) qs ≡ behind front (behind more qs)
behind-more [] more qs = refl
behind-more (q ∷ front) more qs = ap (places q) (behind-more front more qs)

-- ---- what is proven at all nodes

each-first : {X : Type 0} (P : X → Type 0) (xs ys : List X) → AllByRecursion P (xs ++ ys) → AllByRecursion P xs
each-first P [] ys h = tt
each-first P (x ∷ xs) ys h = (h.0, each-first P xs ys h.1)

each-last : {X : Type 0} (P : X → Type 0) (xs ys : List X) → AllByRecursion P (xs ++ ys) → AllByRecursion P ys
each-last P [] ys h = h
each-last P (x ∷ xs) ys h = each-last P xs ys h.1

module _ (p : PlainProgram) where
  mutual
    tree-proven : (t : PlainTree) (g : PlainGoal) → AllByRecursion (NodeIsProven p) (nodes_at p t g) → IsProven p t g
    tree-proven (node c ts) g h = (h.0, trees-proven ts (goals_left p g c) h.1)

    trees-proven : (ts : PlainTrees) (gs : List PlainGoal) → AllByRecursion (NodeIsProven p) (all_nodes_at p ts gs) → AllAreProven p ts gs
    trees-proven no_trees gs h = tt
    trees-proven (tree t ts) [] h = tt
    trees-proven (tree t ts) (g ∷ gs) h = (
      tree-proven t g (each-first (NodeIsProven p) (nodes_at p t g) (all_nodes_at p ts gs) h),
      trees-proven ts gs (each-last (NodeIsProven p) (nodes_at p t g) (all_nodes_at p ts gs) h),
    )

  root-proven : (t : Option PlainTree) (g : Option PlainGoal) → AllByRecursion (NodeIsProven p) (root_nodes p t g) → RootIsProven p t g
  root-proven None g h = tt
  root-proven (Some t) None h = tt
  root-proven (Some t) (Some g) h = tree-proven t g h

  pub roots-proven : (ts : List (Option PlainTree)) (gs : List (Option PlainGoal)) → AllByRecursion (NodeIsProven p) (all_root_nodes p ts gs) → RootsAreProven p ts gs
  roots-proven [] gs h = tt
  roots-proven (t ∷ ts) [] h = tt
  roots-proven (t ∷ ts) (g ∷ gs) h = (
    root-proven t g (each-first (NodeIsProven p) (root_nodes p t g) (all_root_nodes p ts gs) h),
    roots-proven ts gs (each-last (NodeIsProven p) (root_nodes p t g) (all_root_nodes p ts gs) h),
  )

  -- ---- as many children as goals

  left-derive : (ts : PlainTrees) (d : ℕ) (g : PlainGoal) (c : _) (gs : List PlainGoal) → Subgoals p g c gs → AllDerive (Subgoals p) d ts gs → AllDerive (Subgoals p) d ts (goals_left p g c)
  left-derive ts d g c gs s a = subst (λ z. AllDerive (Subgoals p) d ts z) (sym (subgoals-left p g c gs s)) a

  goal-back : (t : PlainTree) (g : PlainGoal) → goal_in (placed_at p t g) ≡ g
  goal-back (node c ts) g = refl

  goals-back : (ts : PlainTrees) (d : ℕ) (gs : List PlainGoal) → AllDerive (Subgoals p) d ts gs → goals_in (all_placed_at p ts gs) ≡ gs
  goals-back no_trees d [] a = refl
  goals-back no_trees d (g ∷ gs) a = absurd a
  goals-back (tree t ts) d [] a = absurd a
  goals-back (tree t ts) d (g ∷ gs) a = λ i. goal-back t g i ∷ goals-back ts d gs a.1 i

  mutual
    tree-back : (t : PlainTree) (d : ℕ) (g : PlainGoal) → Derives p d t g → tree_in (placed_at p t g) ≡ t
    tree-back (node c ts) d g (l, gs, s, a) = ap (node c) (trees-back ts (suc d) (goals_left p g c) (left-derive ts (suc d) g c gs s a))

    trees-back : (ts : PlainTrees) (d : ℕ) (gs : List PlainGoal) → AllDerive (Subgoals p) d ts gs → trees_in (all_placed_at p ts gs) ≡ ts
    trees-back no_trees d gs a = refl
    trees-back (tree t ts) d [] a = absurd a
    trees-back (tree t ts) d (g ∷ gs) a = λ i. tree (tree-back t d g a.0 i) (trees-back ts d gs a.1 i)

  mutual
    is-at : (t : PlainTree) (d : ℕ) (g : PlainGoal) → Derives p d t g → IsAtGoals p (placed_at p t g)
    is-at (node c ts) d g (l, gs, s, a) =
        let b = left-derive ts (suc d) g c gs s a in
        (goals-back ts (suc d) (goals_left p g c) b, all-at ts (suc d) (goals_left p g c) b)

    all-at : (ts : PlainTrees) (d : ℕ) (gs : List PlainGoal) → AllDerive (Subgoals p) d ts gs → AllAreAtGoals p (all_placed_at p ts gs)
    all-at no_trees d gs a = tt
    all-at (tree t ts) d [] a = absurd a
    all-at (tree t ts) d (g ∷ gs) a = (is-at t d g a.0, all-at ts d gs a.1)

  -- ---- roots

  place-back : (g : Option PlainGoal) (t : Option PlainTree) → RootDerives p t g → option_map place_in (root_placed p g t) ≡ place_of g t
  place-back None None a = refl
  place-back None (Some t) a = absurd a
  place-back (Some g) None a = absurd a
  place-back (Some g) (Some t) a = λ i. Some (record { goal = goal-back t g i; tree = tree-back t 1 g a i })

  pub places-back : (gs : List (Option PlainGoal)) (ts : List (Option PlainTree)) → AllZip (RootDerives p) ts gs → map (option_map place_in) (all_roots_placed p gs ts) ≡ root_places gs ts
  places-back [] ts a = refl
  places-back (g ∷ gs) [] a = refl
  places-back (g ∷ gs) (t ∷ ts) a = λ i. place-back g t a.0 i ∷ places-back gs ts a.1 i

  abbrev PlainIsAt : Option PlainPlaced → Type 0
  PlainIsAt None = Unit {0}
  PlainIsAt (Some q) = IsAtGoals p q

  root-at : (g : Option PlainGoal) (t : Option PlainTree) → RootDerives p t g → PlainIsAt (root_placed p g t)
  root-at None None a = tt
  root-at None (Some t) a = absurd a
  root-at (Some g) None a = absurd a
  root-at (Some g) (Some t) a = is-at t 1 g a

  roots-at : (gs : List (Option PlainGoal)) (ts : List (Option PlainTree)) → AllZip (RootDerives p) ts gs → AllByRecursion PlainIsAt (all_roots_placed p gs ts)
  roots-at [] ts a = tt
  roots-at (g ∷ gs) [] a = tt
  roots-at (g ∷ gs) (t ∷ ts) a = (root-at g t a.0, roots-at gs ts a.1)

  -- ---- code trees

  pub views-twice : (qs : List (Option Placed)) → map (option_map place_view) qs ≡ map (option_map place_in) (map (option_map placed_view) qs)
  views-twice [] = refl
  views-twice (None ∷ qs) = ap (λ z. None ∷ z) (views-twice qs)
  views-twice (Some q ∷ qs) = ap (λ z. Some (place_view q) ∷ z) (views-twice qs)

  seen-at : (qs : List (Option Placed)) → AllByRecursion PlainIsAt (map (option_map placed_view) qs) → AllByRecursion (RootIsPlaced p) qs
  seen-at [] h = tt
  seen-at (None ∷ qs) h = (tt, seen-at qs h.1)
  seen-at (Some q ∷ qs) h = (h.0, seen-at qs h.1)

  pub roots-placed : (qs : List (Option Placed)) (gs : List (Option PlainGoal)) (ts : List (Option PlainTree)) → map (option_map placed_view) qs ≡ all_roots_placed p gs ts → AllZip (RootDerives p) ts gs → AllByRecursion (RootIsPlaced p) qs
  roots-placed qs gs ts e a = seen-at qs (subst (AllByRecursion PlainIsAt) (sym e) (roots-at gs ts a))

  pub roots-viewed : (qs : List (Option Placed)) (gs : List (Option PlainGoal)) (ts : List (Option PlainTree)) → map (option_map placed_view) qs ≡ all_roots_placed p gs ts → AllZip (RootDerives p) ts gs → map (option_map place_view) qs ≡ root_places gs ts
  roots-viewed qs gs ts e a = views-twice qs ∙ (ap (map (option_map place_in)) e ∙ places-back gs ts a)

-- ---- code

pub node-seen : (n : Node) → node_view n ≡ node (choice_view (out-Node n).choice) (nodes_view (out-Node n).children.items)
node-seen n = search (rules, node.the_lemmas)

pub placed-made : (r : Placed-F Placed) → placed_view (roll-Placed r) ≡ placed (goal_view r.goal) (choice_view r.choice.now) (places_of (map placed_view r.children.items))
placed-made r = search (rules, the_lemmas)

-- a node with its children is placed
pub node-placed : (p : PlainProgram) (n : Node) (r : Placed-F Placed) → choice_view r.choice.now ≡ choice_view (out-Node n).choice → places_of (map placed_view r.children.items) ≡ all_placed_at p (nodes_view (out-Node n).children.items) (goals_left p (goal_view r.goal) (choice_view (out-Node n).choice)) → placed_view (roll-Placed r) ≡ placed_at p (node_view n) (goal_view r.goal)
node-placed p n r c e =
    placed-made r
    ∙ (ap (λ z. placed (goal_view r.goal) z (places_of (map placed_view r.children.items))) c
    ∙ (ap (λ z. placed (goal_view r.goal) (choice_view (out-Node n).choice) z) e ∙ ap (λ t. placed_at p t (goal_view r.goal)) (sym (node-seen n))))

-- one more of the trees beside the goals
placed-next : (p : PlainProgram) (ns : List Node) (k : ℕ) (n : Node) (g : Goal) (gs : List Goal) → k < length ns → n ≡ get_or ns k n → all_placed_at p (nodes_view (drop k ns)) (map goal_view (g ∷ gs)) ≡ places (placed_at p (node_view n) (goal_view g)) (all_placed_at p (nodes_view (drop (suc k) ns)) (map goal_view gs))
placed-next p [] k n g gs l e = absurd (omega (arith, l))
placed-next p (m ∷ ns) zero n g gs l e = ap (λ z. places (placed_at p (node_view z) (goal_view g)) (all_placed_at p (nodes_view ns) (map goal_view gs))) (sym e)
placed-next p (m ∷ ns) (suc k) n g gs l e = placed-next p ns k n g gs (omega (arith, l)) e

proven-next : (p : PlainProgram) (ns : List Node) (k : ℕ) (g : Goal) (gs : List Goal) → AllAreProven p (nodes_view (drop k ns)) (map goal_view (g ∷ gs)) → AllAreProven p (nodes_view (drop (suc k) ns)) (map goal_view gs)
proven-next p [] zero g gs h = tt
proven-next p [] (suc k) g gs h = tt
proven-next p (m ∷ ns) zero g gs h = h.1
proven-next p (m ∷ ns) (suc k) g gs h = proven-next p ns k g gs h

pub proven-more : (p : PlainProgram) (ns : List Node) (k : ℕ) (g : Goal) (old gs : List Goal) → old ≡ g ∷ gs → AllAreProven p (nodes_view (drop k ns)) (map goal_view old) → AllAreProven p (nodes_view (drop (k + 1) ns)) (map goal_view gs)
proven-more p ns k g old gs e h =
    let q : suc k ≡ k + 1 = omega arith in
    subst (λ m. AllAreProven p (nodes_view (drop m ns)) (map goal_view gs)) q
    (proven-next p ns k g gs (subst (λ z. AllAreProven p (nodes_view (drop k ns)) (map goal_view z)) e h))

pub placed-more : (p : PlainProgram) (ns : List Node) (k : ℕ) (n : Node) (g : Goal) (old gs : List Goal) (qs new : List Placed) (q : Placed) (all : PlainPlaces) → k < length ns → n ≡ get_or ns k n → old ≡ g ∷ gs → placed_view q ≡ placed_at p (node_view n) (goal_view g) → new ≡ qs ++ q ∷ [] → behind (map placed_view qs) (all_placed_at p (nodes_view (drop k ns)) (map goal_view old)) ≡ all → behind (map placed_view new) (all_placed_at p (nodes_view (drop (k + 1) ns)) (map goal_view gs)) ≡ all
placed-more p ns k n g old gs qs new q all l e f v pushed h =
    let m : suc k ≡ k + 1 = omega arith in
    let rest = all_placed_at p (nodes_view (drop (k + 1) ns)) (map goal_view gs) in
    ap (λ z. behind z rest) (ap (map placed_view) pushed ∙ map-append placed_view qs (q ∷ []))
    ∙ (behind-more (map placed_view qs) (placed_view q ∷ []) rest
    ∙ (ap (behind (map placed_view qs))
    (ap (λ z. places z rest) v
    ∙ (ap (λ z. places (placed_at p (node_view n) (goal_view g)) (all_placed_at p (nodes_view (drop z ns)) (map goal_view gs))) (sym m)
    ∙ (sym (placed-next p ns k n g gs l e) ∙ ap (λ z. all_placed_at p (nodes_view (drop k ns)) (map goal_view z)) (sym f))))
    ∙ h))

-- none remain
no-placed : (p : PlainProgram) (ns : List Node) (k : ℕ) (gs : List PlainGoal) → length ns ≤ k → all_placed_at p (nodes_view (drop k ns)) gs ≡ no_places
no-placed p [] zero gs l = refl
no-placed p [] (suc k) gs l = refl
no-placed p (n ∷ ns) zero gs l = absurd (omega (arith, l))
no-placed p (n ∷ ns) (suc k) gs l = no-placed p ns k gs (omega (arith, l))

no-goals : (p : PlainProgram) (ts : PlainTrees) (gs : List Goal) → length gs ≡ 0 → all_placed_at p ts (map goal_view gs) ≡ no_places
no-goals p no_trees gs e = refl
no-goals p (tree t ts) [] e = refl
no-goals p (tree t ts) (g ∷ gs) e = absurd (omega (arith, e))

placed-whole : (qs : List Placed) (rest all : PlainPlaces) → rest ≡ no_places → behind (map placed_view qs) rest ≡ all → places_of (map placed_view qs) ≡ all
placed-whole qs rest all e h = sym (behind-all (map placed_view qs)) ∙ (ap (behind (map placed_view qs)) (sym e) ∙ h)

pub all-placed : (p : PlainProgram) (ns : List Node) (k : ℕ) (gs : List PlainGoal) (qs : List Placed) (all : PlainPlaces) → length ns ≤ k → behind (map placed_view qs) (all_placed_at p (nodes_view (drop k ns)) gs) ≡ all → places_of (map placed_view qs) ≡ all
all-placed p ns k gs qs all l h = placed-whole qs (all_placed_at p (nodes_view (drop k ns)) gs) all (no-placed p ns k gs l) h

pub goals-end : (p : PlainProgram) (ts : PlainTrees) (gs : List Goal) (n : ℕ) (qs : List Placed) (all : PlainPlaces) → n ≡ length gs → n ≡ 0 → behind (map placed_view qs) (all_placed_at p ts (map goal_view gs)) ≡ all → places_of (map placed_view qs) ≡ all
goals-end p ts gs n qs all c z h = placed-whole qs (all_placed_at p ts (map goal_view gs)) all (no-goals p ts gs (sym c ∙ z)) h

-- ---- roots of code

pub no-roots : (p : PlainProgram) (rs : List (Option Goal)) (ts : List (Option PlainTree)) (n : ℕ) → n ≡ length rs → n ≡ 0 → all_roots_placed p (roots_view rs) ts ≡ []
no-roots p [] ts n e z = refl
no-roots p (r ∷ rs) ts n e z = absurd (omega (arith, e, z))

pub no-trees : (p : PlainProgram) (rs : List (Option PlainGoal)) (ts : List (Option Node)) → length ts ≡ 0 → all_roots_placed p rs (trees_lent ts) ≡ []
no-trees p [] ts z = refl
no-trees p (r ∷ rs) [] z = refl
no-trees p (r ∷ rs) (t ∷ ts) z = absurd (omega (arith, z))

pub roots-whole : (front rest all : List (Option PlainPlaced)) → rest ≡ [] → front ++ rest ≡ all → front ≡ all
roots-whole front rest all e h = sym (append-nil front) ∙ (ap (λ z. front ++ z) (sym e) ∙ h)

-- ---- a program

pub program-proven : ProgramNodesAreProven → (p : PlainProgram) (ts : List (Option PlainTree)) → IsWellFormed p → Valid p ts → RootsAreProven p ts (all_roots p)
unfolding program_nodes
program-proven law p ts w v = roots-proven p ts (all_roots p) (law p ts w v)
