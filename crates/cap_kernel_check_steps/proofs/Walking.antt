-- Steps of a walk over code trees.
use Rattle.std.proofs.Common.{◌≡◌, ◌≢◌, ◌<◌, ◌≤◌, ℕ, zero, suc, ◌-◌, List, [], ◌∷◌, length, map, drop, Option, Some, refl, sym, subst, rules, arith}
use Rattle.std.specs.Prelude.{Result, Ok, Err, get_or}
use Rattle.std.specs.List.{AllByRecursion}
use Rattle.cap_prog.specs.Program.{PlainProgram}
use Rattle.cap_goal_spec.specs.States.{PlainGoal}
use Rattle.cap_goal_spec.specs.Choices.{PlainChoice, PlainTree, node, PlainTrees, no_trees}
use Rattle.cap_goal.specs.declared.choice.Node.{Node, out-Node}
use Rattle.cap_goal.specs.declared.choice.Node.TheFolds.{the_lemmas}
use Rattle.cap_goal.specs.declared.goal.Goal.{Goal}
use Rattle.cap_goal.specs.Trees.{node_view, nodes_view}
use Rattle.cap_goal.specs.Views.{choice_view, goal_view}
use Rattle.cap_kernel_check_steps.specs.declared.error.CheckError.{CheckError}
use Rattle.cap_kernel_check_steps.specs.declared.error.CheckError.TheVariants.{Node as NodeFails, Shape, OutOfMemory}
use Rattle.cap_kernel_check_steps.specs.declared.walk.Walk.{Walk}
use Rattle.cap_kernel_check_steps.specs.Views.{Walked, walk_view}
use Rattle.cap_kernel_check_steps.specs.Walks.{PlainWalk, Outcome, goes_on, at_node, at_shape, lacking, entered, Leaves, After, AfterLeft, Visits, VisitsAll}

pub walked-map : (new : Walk) (r : Result (Unit {0}) CheckError) (P Q : Outcome → Type 0) → ((o : Outcome) → P o → Q o) → Walked new r P → Walked new r Q
walked-map new (Ok x) P Q f h = f (goes_on (walk_view new)) h
walked-map new (Err (NodeFails k)) P Q f h = f (at_node k) h
walked-map new (Err (Shape k)) P Q f h = f (at_shape k) h
walked-map new (Err OutOfMemory) P Q f h = h

pub node-seen : (n : Node) → node_view n ≡ node (choice_view (out-Node n).choice) (nodes_view (out-Node n).children.items)
node-seen n = search (rules, the_lemmas)

visits-left : (p : PlainProgram) (w : PlainWalk) (room k : ℕ) (t : PlainTree) (c : PlainChoice) (ts : PlainTrees) (g : PlainGoal) (left : Option (List PlainGoal)) (o : Outcome) → room ≡ suc k → t ≡ node c ts → Leaves p g c left → AfterLeft w left (λ v gs end. VisitsAll p v k ts gs end) o → Visits p w room t g o
visits-left p w room k t c ts g left o e f l h = subst (λ r. Visits p w r t g o) (sym e) (subst (λ x. Visits p w (suc k) x g o) (sym f) (left, l, h))

some-room : (room : ℕ) → room ≢ 0 → room ≡ suc (room - 1)
some-room room n = omega (arith, n)

pub visits-some : (p : PlainProgram) (w : PlainWalk) (new : Walk) (r : Result (Unit {0}) CheckError) (room : ℕ) (n : Node) (g : PlainGoal) (gs : List PlainGoal) → room ≢ 0 → Leaves p g (choice_view (out-Node n).choice) (Some gs) → Walked new r (After (entered w) (λ v. VisitsAll p v (room - 1) (nodes_view (out-Node n).children.items) gs)) → Walked new r (Visits p w room (node_view n) g)
visits-some p w new r room n g gs some l h =
    walked-map new r (After (entered w) (λ v. VisitsAll p v (room - 1) (nodes_view (out-Node n).children.items) gs)) (Visits p w room (node_view n) g)
    (λ o x. visits-left p w room (room - 1) (node_view n) (choice_view (out-Node n).choice) (nodes_view (out-Node n).children.items) g (Some gs) o (some-room room some) (node-seen n) l x) h

-- ---- the goals that remain

pub each-at : {X Y : Type 0} (P : Y → Type 0) (f : X → Y) (xs : List X) (i : ℕ) (x : X) → AllByRecursion P (map f xs) → i < length xs → x ≡ get_or xs i x → P (f x)
each-at P f [] i x all low e = absurd (omega (arith, low))
each-at P f (y ∷ ys) zero x all low e = subst (λ z. P (f z)) (sym e) all.0
each-at P f (y ∷ ys) (suc i) x all low e = each-at P f ys i x all.1 (omega (arith, low)) e

no-more : {X : Type 0} (xs : List X) (n : ℕ) → length xs ≤ n → drop n xs ≡ []
no-more [] zero h = refl
no-more [] (suc n) h = refl
no-more (x ∷ xs) zero h = absurd (omega (arith, h))
no-more (x ∷ xs) (suc n) h = no-more xs n (omega (arith, h))

abbrev IsMissing : PlainProgram → PlainWalk → ℕ → List PlainGoal → Type 0
IsMissing p w room gs = VisitsAll p w room no_trees gs (goes_on (lacking w))

some-missing : (p : PlainProgram) (w : PlainWalk) (room n : ℕ) (gs : List Goal) → n < length gs → IsMissing p w room (map goal_view (drop n gs))
some-missing p w room n [] h = absurd (omega (arith, h))
some-missing p w room zero (g ∷ gs) h = refl
some-missing p w room (suc n) (g ∷ gs) h = some-missing p w room n gs (omega (arith, h))

pub missing-rest : (p : PlainProgram) (w v : PlainWalk) (room n : ℕ) (ns : List Node) (gs : List Goal) → length ns ≤ n → n < length gs → v ≡ lacking w → VisitsAll p w room (nodes_view (drop n ns)) (map goal_view (drop n gs)) (goes_on v)
missing-rest p w v room n ns gs all more e =
    subst (λ x. VisitsAll p w room (nodes_view (drop n ns)) (map goal_view (drop n gs)) (goes_on x)) (sym e)
    (subst (λ ms. VisitsAll p w room (nodes_view ms) (map goal_view (drop n gs)) (goes_on (lacking w))) (sym (no-more ns n all)) (some-missing p w room n gs more))
