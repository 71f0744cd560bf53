-- Trees that have grown so far, of the goals or the roots before one.
use Rattle.std.proofs.Common.{◌≡◌, ℕ, zero, suc, ◌+◌, ◌<◌, List, [], ◌∷◌, ◌++◌, length, map, take, drop, get_or, Option, Some, None, refl, sym, ap, subst, ◌∙◌, append_assoc, arith, rules}
use Rattle.std.specs.List.{AllZip}
use Rattle.std.proofs.lemmas.List.{append-nil, map-append, take_more}
use Rattle.cap_prog.specs.Program.{PlainProgram}
use Rattle.cap_goal_spec.specs.States.{PlainGoal}
use Rattle.cap_goal_spec.specs.Choices.{PlainChoice, PlainTree, node, PlainTrees}
use Rattle.cap_rules.specs.Answers.{Subgoals}
use Rattle.cap_rules.specs.Valid.{Derives, AllDerive}
use Rattle.cap_goal.specs.declared.choice.Node.{Node, roll-Node}
use Rattle.cap_goal.specs.declared.choice.Node.TheFolds.{the_lemmas}
use Rattle.cap_goal.specs.declared.choice.Node.TheOpen.{Node-F}
use Rattle.cap_goal.specs.declared.goal.Goal.{Goal}
use Rattle.cap_goal.specs.Trees.{node_view, nodes_view}
use Rattle.cap_goal.specs.Views.{choice_view, goal_view}
use Rattle.cap_kernel_check_steps.specs.declared.error.CheckError.{CheckError}
use Rattle.cap_kernel_check_steps.specs.Starts.{PlainStart, no_tasks, at_goal, barred, StartDerives}
use Rattle.cap_kernel_check_steps.specs.Owed.{choices_of, all_choices_of, preorder, PlainDebt, owes, debts_of}
use Rattle.cap_kernel_check_steps.specs.Growths.{PlainPreorder, PassesOver, Halts}
use Rattle.cap_kernel_check_steps.specs.declared.start.Start.{Start}
use Rattle.cap_kernel_check_steps.specs.Views.{start_view, starts_view, tree_view}
use Rattle.cap_kernel_check_steps.proofs.Growing.{over-then, halts-behind, all-lead, roots-lead}

-- ---- a list about one of its places

pub map-split : {X Y : Type 0} (f : X → Y) (xs : List X) (i : ℕ) (x : X) → i < length xs → x ≡ get_or xs i x → map f xs ≡ map f (take i xs) ++ f x ∷ map f (drop (suc i) xs)
map-split f [] i x low e = absurd (omega (arith, low))
map-split f (y ∷ ys) zero x low e = ap (λ z. f z ∷ map f ys) (sym e)
map-split f (y ∷ ys) (suc i) x low e = ap (λ z. f y ∷ z) (map-split f ys i x (omega (arith, low)) e)

map-more : {X Y : Type 0} (f : X → Y) (xs : List X) (i : ℕ) (x : X) → i < length xs → x ≡ get_or xs i x → map f (take (i + 1) xs) ≡ map f (take i xs) ++ f x ∷ []
map-more f xs i x low e =
    ap (map f) (take_more xs i x low ∙ ap (λ z. take i xs ++ z ∷ []) (sym e)) ∙ map-append f (take i xs) (x ∷ [])

zip-more : {X Y : Type 0} (R : X → Y → Type 0) (xs : List X) (ys : List Y) (x : X) (y : Y) → AllZip R xs ys → R x y → AllZip R (xs ++ x ∷ []) (ys ++ y ∷ [])
zip-more R [] [] x y z r = (r, tt)
zip-more R [] (b ∷ ys) x y z r = absurd z
zip-more R (a ∷ xs) [] x y z r = absurd z
zip-more R (a ∷ xs) (b ∷ ys) x y z r = (z.0, zip-more R xs ys x y z.1 r)

-- ---- a node

pub node-made : (r : Node-F Node) → node_view (roll-Node r) ≡ node (choice_view r.choice) (nodes_view r.children.items)
node-made r = search (rules, the_lemmas)

-- ---- goals

goals-derived : (ns : List Node) (gs : List PlainGoal) (t : Node) (g : PlainGoal) (p : PlainProgram) (d : ℕ) → AllDerive (Subgoals p) d (nodes_view ns) gs → Derives p d (node_view t) g → AllDerive (Subgoals p) d (nodes_view (ns ++ t ∷ [])) (gs ++ g ∷ [])
goals-derived [] [] t g p d a x = (x, tt)
goals-derived [] (h ∷ gs) t g p d a x = absurd a
goals-derived (n ∷ ns) [] t g p d a x = absurd a
goals-derived (n ∷ ns) (h ∷ gs) t g p d a x = (a.0, goals-derived ns gs t g p d a.1 x)

pub goals-more : (p : PlainProgram) (n i : ℕ) (gs : List Goal) (x : Goal) (ns new : List Node) (t : Node) → new ≡ ns ++ t ∷ [] → i < length gs → x ≡ get_or gs i x → AllDerive (Subgoals p) (suc n) (nodes_view ns) (map goal_view (take i gs)) → Derives p (suc n) (node_view t) (goal_view x) → AllDerive (Subgoals p) (suc n) (nodes_view new) (map goal_view (take (i + 1) gs))
goals-more p n i gs x ns new t pushed low e a d =
    subst (λ ys. AllDerive (Subgoals p) (suc n) (nodes_view new) ys) (sym (map-more goal_view gs i x low e))
    (subst (λ ms. AllDerive (Subgoals p) (suc n) (nodes_view ms) (map goal_view (take i gs) ++ goal_view x ∷ [])) (sym pushed)
    (goals-derived ns (map goal_view (take i gs)) t (goal_view x) p (suc n) a d))

choices-more : (ns : List Node) (t : Node) → all_choices_of (nodes_view (ns ++ t ∷ [])) ≡ all_choices_of (nodes_view ns) ++ choices_of (node_view t)
choices-more [] t = append-nil (choices_of (node_view t))
choices-more (n ∷ ns) t =
    ap (λ z. choices_of (node_view n) ++ z) (choices-more ns t)
    ∙ sym (append_assoc (choices_of (node_view n)) (all_choices_of (nodes_view ns)) (choices_of (node_view t)))

pub goals-passed : (ns new : List Node) (t : Node) (u v w : PlainPreorder) → new ≡ ns ++ t ∷ [] → PassesOver u (all_choices_of (nodes_view ns)) v → PassesOver v (choices_of (node_view t)) w → PassesOver u (all_choices_of (nodes_view new)) w
goals-passed ns new t u v w pushed a b =
    let same : all_choices_of (nodes_view new) ≡ all_choices_of (nodes_view ns) ++ choices_of (node_view t) =
    ap (λ ms. all_choices_of (nodes_view ms)) pushed ∙ choices-more ns t in
    subst (λ z. PassesOver u z w) (sym same) (over-then u v w (all_choices_of (nodes_view ns)) (choices_of (node_view t)) a b)

pub goals-halt : (p : PlainProgram) (n : ℕ) (all before behind : List PlainGoal) (g : PlainGoal) (ts : PlainTrees) (u v : PlainPreorder) (e : CheckError) (ds : List PlainDebt) → all ≡ before ++ g ∷ behind → AllDerive (Subgoals p) (suc n) ts before → PassesOver u (all_choices_of ts) v → ((xs : List PlainDebt) → Halts p (owes n g ∷ xs) v e) → Halts p (map (owes n) all ++ ds) u e
goals-halt p n all before behind g ts u v e ds parts a over h =
    let rest = map (owes n) behind ++ ds in
    let owed : map (owes n) all ++ ds ≡ map (owes n) before ++ owes n g ∷ rest =
    ap (λ z. map (owes n) z ++ ds) parts
    ∙ (ap (λ z. z ++ ds) (map-append (owes n) before (g ∷ behind))
    ∙ append_assoc (map (owes n) before) (owes n g ∷ map (owes n) behind) ds) in
    subst (λ z. Halts p z u e) (sym owed)
    (halts-behind p (map (owes n) before ++ owes n g ∷ rest) (owes n g ∷ rest) u v (all_choices_of ts) e (all-lead p n before ts (owes n g ∷ rest) a) over (h rest))

-- ---- roots

debts-append : (a b : List PlainStart) → debts_of (a ++ b) ≡ debts_of a ++ debts_of b
debts-append [] b = refl
debts-append (no_tasks ∷ a) b = debts-append a b
debts-append (at_goal g ∷ a) b = ap (λ z. owes 0 g ∷ z) (debts-append a b)
debts-append (barred ∷ a) b = ap (λ z. record { above = 0; goal = None } ∷ z) (debts-append a b)

preorder-more : (ts : List (Option PlainTree)) (t : Option PlainTree) → preorder (ts ++ t ∷ []) ≡ preorder ts ++ preorder (t ∷ [])
preorder-more [] t = refl
preorder-more (None ∷ ts) t = preorder-more ts t
preorder-more (Some x ∷ ts) t =
    ap (λ z. choices_of x ++ z) (preorder-more ts t) ∙ sym (append_assoc (choices_of x) (preorder ts) (preorder (t ∷ [])))

roots-derived : (p : PlainProgram) (ns : List (Option Node)) (t : Option Node) (ss : List PlainStart) (s : PlainStart) → AllZip (StartDerives p) (map tree_view ns) ss → StartDerives p (tree_view t) s → AllZip (StartDerives p) (map tree_view (ns ++ t ∷ [])) (ss ++ s ∷ [])
roots-derived p ns t ss s z x =
    subst (λ y. AllZip (StartDerives p) y (ss ++ s ∷ [])) (sym (map-append tree_view ns (t ∷ [])))
    (zip-more (StartDerives p) (map tree_view ns) ss (tree_view t) s z x)

pub roots-more : (p : PlainProgram) (i : ℕ) (ss : List Start) (x : Start) (ns new : List (Option Node)) (t : Option Node) → new ≡ ns ++ t ∷ [] → i < length ss → x ≡ get_or ss i x → AllZip (StartDerives p) (map tree_view ns) (starts_view (take i ss)) → StartDerives p (tree_view t) (start_view x) → AllZip (StartDerives p) (map tree_view new) (starts_view (take (i + 1) ss))
roots-more p i ss x ns new t pushed low e z d =
    subst (λ ys. AllZip (StartDerives p) (map tree_view new) ys) (sym (map-more start_view ss i x low e))
    (subst (λ ms. AllZip (StartDerives p) (map tree_view ms) (starts_view (take i ss) ++ start_view x ∷ [])) (sym pushed)
    (roots-derived p ns t (starts_view (take i ss)) (start_view x) z d))

pub roots-passed : (ns new : List (Option Node)) (t : Option Node) (u v w : PlainPreorder) → new ≡ ns ++ t ∷ [] → PassesOver u (preorder (map tree_view ns)) v → PassesOver v (preorder (tree_view t ∷ [])) w → PassesOver u (preorder (map tree_view new)) w
roots-passed ns new t u v w pushed a b =
    let more : preorder (map tree_view new) ≡ preorder (map tree_view ns) ++ preorder (tree_view t ∷ []) =
    ap (λ ms. preorder (map tree_view ms)) pushed
    ∙ (ap preorder (map-append tree_view ns (t ∷ [])) ∙ preorder-more (map tree_view ns) (tree_view t)) in
    subst (λ z. PassesOver u z w) (sym more) (over-then u v w (preorder (map tree_view ns)) (preorder (tree_view t ∷ [])) a b)

pub roots-halt : (p : PlainProgram) (all before behind : List PlainStart) (s : PlainStart) (ts : List (Option PlainTree)) (u v : PlainPreorder) (e : CheckError) (ds : List PlainDebt) → all ≡ before ++ s ∷ behind → AllZip (StartDerives p) ts before → PassesOver u (preorder ts) v → ((xs : List PlainDebt) → Halts p (debts_of (s ∷ []) ++ xs) v e) → Halts p (debts_of all ++ ds) u e
roots-halt p all before behind s ts u v e ds parts z over h =
    let rest = debts_of (s ∷ []) ++ (debts_of behind ++ ds) in
    let owed : debts_of all ++ ds ≡ debts_of before ++ rest =
    ap (λ y. debts_of y ++ ds) parts
    ∙ (ap (λ y. y ++ ds) (debts-append before (s ∷ behind) ∙ ap (λ y. debts_of before ++ y) (debts-append (s ∷ []) behind))
    ∙ (append_assoc (debts_of before) (debts_of (s ∷ []) ++ debts_of behind) ds
    ∙ ap (λ y. debts_of before ++ y) (append_assoc (debts_of (s ∷ [])) (debts_of behind) ds))) in
    subst (λ y. Halts p y u e) (sym owed)
    (halts-behind p (debts_of before ++ rest) rest u v (preorder ts) e (roots-lead ts before p rest z) over (h (debts_of behind ++ ds)))
