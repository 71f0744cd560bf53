-- What a walk over a tree tells of its faults.
use Rattle.std.proofs.Common.{◌≡◌, inl, inr, ℕ, zero, suc, ◌+◌, ◌≤◌, ◌<◌, true, false, List, [], ◌∷◌, Option, Some, None, refl, sym, subst, arith}
use Rattle.cap_prog.specs.Program.{PlainProgram}
use Rattle.cap_goal_spec.specs.States.{PlainGoal}
use Rattle.cap_goal_spec.specs.Choices.{PlainChoice, certs_of, PlainTree, node, PlainTrees, no_trees, tree}
use Rattle.cap_rules.specs.Answers.{applies, marks_of, Subgoals}
use Rattle.cap_rules.specs.Rules.{rule}
use Rattle.cap_rules.specs.Valid.{deepest, Derives, AllDerive}
use Rattle.cap_rules.proofs.Answering.{answers-one}
use Rattle.cap_kernel_check_steps.specs.Faults.{nodes_of, all_nodes_of, Fault, failed, left_over, missing, HasFault, HaveFault}
use Rattle.cap_kernel_check_steps.specs.Walks.{PlainWalk, Outcome, goes_on, at_node, at_shape, passed, lacking, Leaves, surplus, AfterLeft, Visits, VisitsAll}
use Rattle.cap_kernel_check_steps.proofs.Telling.{Shows, Pending, With, Told, Within, true-false, both-ways, failed-missing, failed-left, with-above, within-after, told-same, told-after, unless-cases}

pub subgoals-one : (p : PlainProgram) (g : PlainGoal) (c : PlainChoice) (gs hs : List PlainGoal) → Subgoals p g c gs → Subgoals p g c hs → gs ≡ hs
subgoals-one p g c gs hs x y =
    let e : applies gs ≡ applies hs = answers-one (rule p g c (marks_of c)) (certs_of c) (applies gs) (applies hs) x y in
    cc

-- ---- faults have the numbers of nodes of the tree, or of the next one

mutual
  pub has-above : (t : PlainTree) (p : PlainProgram) (n d : ℕ) (g : PlainGoal) (f : Fault) (k : ℕ) → HasFault p n d t g f k → n < k
  has-above (node c ts) p n d g f k (inl (e, at, why)) = omega (arith, at)
  has-above (node c ts) p n d g f k (inr (gs, s, h)) =
      let x : suc n < k = have-above ts p (suc n) (suc d) gs f k h in
      omega (arith, x)

  pub have-above : (ts : PlainTrees) (p : PlainProgram) (n d : ℕ) (gs : List PlainGoal) (f : Fault) (k : ℕ) → HaveFault p n d ts gs f k → n < k
  have-above no_trees p n d [] f k h = absurd h
  have-above no_trees p n d (g ∷ gs) f k (e, at) = omega (arith, at)
  have-above (tree t ts) p n d [] f k (e, at) = omega (arith, at)
  have-above (tree t ts) p n d (g ∷ gs) f k (inl h) = has-above t p n d g f k h
  have-above (tree t ts) p n d (g ∷ gs) f k (inr h) =
      let x : n + nodes_of t < k = have-above ts p (n + nodes_of t) d gs f k h in
      omega (arith, x)

-- ---- where a walk ends

left-within : (left : Option (List PlainGoal)) (w : PlainWalk) (end : ℕ) (o : Outcome) (Next : PlainWalk → List PlainGoal → Outcome → Type 0) → suc w.before ≤ end → ((gs : List PlainGoal) → Next (passed (suc w.before)) gs o → Within end o) → AfterLeft w left Next o → Within end o
left-within None w end o Next le next h = subst (Within end) (sym h) le
left-within (Some gs) w end o Next le next h =
    unless-cases w.lacks (goes_on (passed (suc w.before))) o (suc w.before) (λ v. Next v gs) (Within end o) (λ l e. subst (Within end) (sym e) le) (λ l x. next gs x) h

surplus-within : (room : ℕ) (w : PlainWalk) (end : ℕ) (o : Outcome) → suc w.before ≤ end → o ≡ surplus room w → Within end o
surplus-within zero w end o le h = subst (Within end) (sym h) le
surplus-within (suc room) w end o le h = subst (Within end) (sym h) le

pub some-node : (t : PlainTree) → 1 ≤ nodes_of t
some-node (node c ts) = omega arith

mutual
  pub visits-within : (t : PlainTree) (p : PlainProgram) (w : PlainWalk) (room : ℕ) (g : PlainGoal) (o : Outcome) (end : ℕ) → w.before + nodes_of t ≡ end → Visits p w room t g o → Within end o
  visits-within (node c ts) p w zero g o end e h = subst (Within end) (sym h) (omega (arith, e))
  visits-within (node c ts) p w (suc room) g o end e (left, l, h) =
      left-within left w end o (λ v gs x. VisitsAll p v room ts gs x) (omega (arith, e)) (λ gs x. all-within ts p (passed (suc w.before)) room gs o end (omega (arith, e)) x) h

  pub all-within : (ts : PlainTrees) (p : PlainProgram) (w : PlainWalk) (room : ℕ) (gs : List PlainGoal) (o : Outcome) (end : ℕ) → w.before + all_nodes_of ts ≡ end → VisitsAll p w room ts gs o → Within end o
  all-within no_trees p w room [] o end e h = subst (Within end) (sym h) (omega (arith, e))
  all-within no_trees p w room (g ∷ gs) o end e h = subst (Within end) (sym h) (omega (arith, e))
  all-within (tree t ts) p w room [] o end e h = surplus-within room w end o (let x : 1 ≤ nodes_of t = some-node t in omega (arith, e, x)) h
  all-within (tree t ts) p w room (g ∷ gs) o end e (m, v, a) =
      within-after m o (w.before + nodes_of t) end (λ u x. VisitsAll p u room ts gs x) (omega (arith, e)) (visits-within t p w room g m (w.before + nodes_of t) refl v)
      (λ u same x. all-within ts p u room gs o end (omega (arith, e, same)) x) a

-- ---- what a walk tells

-- a node that fails, or is left over
tells-node : (w : PlainWalk) (A : Shows) (D : Type 0) (o : Outcome) → A failed (suc w.before) → ((f : Fault) (k : ℕ) → A f k → suc w.before ≤ k) → o ≡ at_node (suc w.before) → Told (With w A) D o
tells-node w A D o fails above e = subst (Told (With w A) D) (sym e) (inl (inl fails, with-above w A above))

pub tells-left : (w : PlainWalk) (A : Shows) (D : Type 0) (o : Outcome) → A left_over (suc w.before) → (¬ A failed (suc w.before)) → ((f : Fault) (k : ℕ) → A f k → suc w.before ≤ k) → o ≡ at_shape (suc w.before) → Told (With w A) D o
tells-left w A D o left none above e = subst (Told (With w A) D) (sym e) (inl (inl left, with-above w A above), λ x. fine x)
  where
    fine : ¬ With w A failed (suc w.before)
    fine (inl a) = none a
    fine (inr (l, m, k)) = failed-missing m

-- a node is missing before one that doesn't fail
pub tells-pending : (w : PlainWalk) (A : Shows) (D : Type 0) (o : Outcome) → w.lacks ≡ true → (¬ A failed (suc w.before)) → ((f : Fault) (k : ℕ) → A f k → suc w.before ≤ k) → o ≡ at_shape (suc w.before) → Told (With w A) D o
tells-pending w A D o lacks none above e = subst (Told (With w A) D) (sym e) (inr (inr (lacks, refl, refl), with-above w A above), λ x. fine x)
  where
    fine : ¬ With w A failed (suc w.before)
    fine (inl a) = none a
    fine (inr (l, m, k)) = failed-missing m

pub tells-missing : (w : PlainWalk) (A : Shows) (D : Type 0) (o : Outcome) → ((f : Fault) (k : ℕ) → A f k → (f ≡ missing) × (k ≡ suc w.before)) → A missing (suc w.before) → o ≡ goes_on (lacking w) → Told (With w A) D o
tells-missing w A D o all shown e = subst (Told (With w A) D) (sym e) (record {
  all = λ f k x. go f k x;
  shown = λ l. inl shown;
  derived = λ l. true-false l;
})
  where
    go : (f : Fault) (k : ℕ) → With w A f k → Pending (lacking w) f k
    go f k (inl a) = let x : (f ≡ missing) × (k ≡ suc w.before) = all f k a in (refl, x.0, x.1)
    go f k (inr (l, m, x)) = (refl, m, x)

pub tells-none : (w : PlainWalk) (A : Shows) (D : Type 0) (o : Outcome) → ((f : Fault) (k : ℕ) → ¬ A f k) → D → o ≡ goes_on w → Told (With w A) D o
tells-none w A D o none d e = subst (Told (With w A) D) (sym e) (record {
  all = λ f k x. go f k x;
  shown = λ l. inr (l, refl, refl);
  derived = λ l. d;
})
  where
    go : (f : Fault) (k : ℕ) → With w A f k → Pending w f k
    go f k (inl a) = absurd (none f k a)
    go f k (inr x) = x

-- a node whose choice applies doesn't fail
applies-fine : (p : PlainProgram) (n d : ℕ) (c : PlainChoice) (ts : PlainTrees) (g : PlainGoal) (gs : List PlainGoal) → d ≤ deepest → Subgoals p g c gs → ¬ HasFault p n d (node c ts) g failed (suc n)
applies-fine p n d c ts g gs le s (inl (e, at, inl deep)) = omega (arith, le, deep)
applies-fine p n d c ts g gs le s (inl (e, at, inr never)) = never gs s
applies-fine p n d c ts g gs le s (inr (hs, r, h)) =
    let x : suc n < suc n = have-above ts p (suc n) (suc d) hs failed (suc n) h in
    omega (arith, x)

below-node : (p : PlainProgram) (n d : ℕ) (c : PlainChoice) (ts : PlainTrees) (g : PlainGoal) (gs : List PlainGoal) (f : Fault) (k : ℕ) → d ≤ deepest → Subgoals p g c gs → HasFault p n d (node c ts) g f k → HaveFault p (suc n) (suc d) ts gs f k
below-node p n d c ts g gs f k le s (inl (e, at, inl deep)) = absurd (omega (arith, le, deep))
below-node p n d c ts g gs f k le s (inl (e, at, inr never)) = absurd (never gs s)
below-node p n d c ts g gs f k le s (inr (hs, r, h)) = subst (λ x. HaveFault p (suc n) (suc d) ts x f k) (subgoals-one p g c hs gs r s) h

-- the trees below a node tell what shows at the node
node-told : (p : PlainProgram) (w : PlainWalk) (d : ℕ) (c : PlainChoice) (ts : PlainTrees) (g : PlainGoal) (gs : List PlainGoal) (o : Outcome) → d ≤ deepest → Subgoals p g c gs → w.lacks ≡ false → Told (With (passed (suc w.before)) (HaveFault p (suc w.before) (suc d) ts gs)) (AllDerive (Subgoals p) (suc d) ts gs) o → Told (With w (HasFault p w.before d (node c ts) g)) (Derives p d (node c ts) g) o
node-told p w d c ts g gs o le s free t =
    told-same (With (passed (suc w.before)) (HaveFault p (suc w.before) (suc d) ts gs)) (With w (HasFault p w.before d (node c ts) g)) (AllDerive (Subgoals p) (suc d) ts gs) (Derives p d (node c ts) g) o (λ f k x. to f k x) (λ f k x. from f k x) (λ none x. (le, gs, s, x)) t
  where
    to : (f : Fault) (k : ℕ) → With (passed (suc w.before)) (HaveFault p (suc w.before) (suc d) ts gs) f k → With w (HasFault p w.before d (node c ts) g) f k
    to f k (inl h) = inl (inr (gs, s, h))
    to f k (inr (l, m, x)) = true-false (sym l)

    from : (f : Fault) (k : ℕ) → With w (HasFault p w.before d (node c ts) g) f k → With (passed (suc w.before)) (HaveFault p (suc w.before) (suc d) ts gs) f k
    from f k (inl h) = inl (below-node p w.before d c ts g gs f k le s h)
    from f k (inr (l, m, x)) = both-ways w.lacks l free

left-told : (p : PlainProgram) (w : PlainWalk) (d : ℕ) (c : PlainChoice) (ts : PlainTrees) (g : PlainGoal) (left : Option (List PlainGoal)) (o : Outcome) (Next : PlainWalk → List PlainGoal → Outcome → Type 0) → d ≤ deepest → Leaves p g c left → ((gs : List PlainGoal) → Next (passed (suc w.before)) gs o → Told (With (passed (suc w.before)) (HaveFault p (suc w.before) (suc d) ts gs)) (AllDerive (Subgoals p) (suc d) ts gs) o) → AfterLeft w left Next o → Told (With w (HasFault p w.before d (node c ts) g)) (Derives p d (node c ts) g) o
left-told p w d c ts g None o Next le never next h =
    tells-node w (HasFault p w.before d (node c ts) g) (Derives p d (node c ts) g) o (inl (refl, refl, inr never)) (λ f k x. has-above (node c ts) p w.before d g f k x) h
left-told p w d c ts g (Some gs) o Next le s next h =
    unless-cases w.lacks (goes_on (passed (suc w.before))) o (suc w.before) (λ v. Next v gs) (Told (With w (HasFault p w.before d (node c ts) g)) (Derives p d (node c ts) g) o)
    (λ l e. tells-pending w (HasFault p w.before d (node c ts) g) (Derives p d (node c ts) g) o l (applies-fine p w.before d c ts g gs le s) (λ f k x. has-above (node c ts) p w.before d g f k x) e)
    (λ l x. node-told p w d c ts g gs o le s l (next gs x)) h

surplus-told : (p : PlainProgram) (w : PlainWalk) (room d : ℕ) (t : PlainTree) (ts : PlainTrees) (o : Outcome) → room + d ≡ suc deepest → o ≡ surplus room w → Told (With w (HaveFault p w.before d (tree t ts) [])) (AllDerive (Subgoals p) d (tree t ts) []) o
surplus-told p w zero d t ts o e h =
    tells-node w (HaveFault p w.before d (tree t ts) []) (AllDerive (Subgoals p) d (tree t ts) []) o (inr (refl, omega (arith, e)), refl) (λ f k x. have-above (tree t ts) p w.before d [] f k x) h
surplus-told p w (suc room) d t ts o e h =
    tells-left w (HaveFault p w.before d (tree t ts) []) (AllDerive (Subgoals p) d (tree t ts) []) o (inl refl, refl) (λ x. fine x) (λ f k x. have-above (tree t ts) p w.before d [] f k x) h
  where
    fine : ¬ HaveFault p w.before d (tree t ts) [] failed (suc w.before)
    fine (inl m, at) = failed-left m
    fine (inr (m, deep), at) = omega (arith, e, deep)

mutual
  pub visits-told : (t : PlainTree) (p : PlainProgram) (w : PlainWalk) (room d : ℕ) (g : PlainGoal) (o : Outcome) → room + d ≡ suc deepest → Visits p w room t g o → Told (With w (HasFault p w.before d t g)) (Derives p d t g) o
  visits-told (node c ts) p w zero d g o e h =
      tells-node w (HasFault p w.before d (node c ts) g) (Derives p d (node c ts) g) o (inl (refl, refl, inl (omega (arith, e)))) (λ f k x. has-above (node c ts) p w.before d g f k x) h
  visits-told (node c ts) p w (suc room) d g o e (left, l, h) =
      left-told p w d c ts g left o (λ v gs x. VisitsAll p v room ts gs x) (omega (arith, e)) l (λ gs x. all-told ts p (passed (suc w.before)) room (suc d) gs o (omega (arith, e)) x) h

  pub all-told : (ts : PlainTrees) (p : PlainProgram) (w : PlainWalk) (room d : ℕ) (gs : List PlainGoal) (o : Outcome) → room + d ≡ suc deepest → VisitsAll p w room ts gs o → Told (With w (HaveFault p w.before d ts gs)) (AllDerive (Subgoals p) d ts gs) o
  all-told no_trees p w room d [] o e h = tells-none w (HaveFault p w.before d no_trees []) (AllDerive (Subgoals p) d no_trees []) o (λ f k x. x) tt h
  all-told no_trees p w room d (g ∷ gs) o e h = tells-missing w (HaveFault p w.before d no_trees (g ∷ gs)) (AllDerive (Subgoals p) d no_trees (g ∷ gs)) o (λ f k x. x) (refl, refl) h
  all-told (tree t ts) p w room d [] o e h = surplus-told p w room d t ts o e h
  all-told (tree t ts) p w room d (g ∷ gs) o e (m, v, a) =
      told-after w (HasFault p w.before d t g) (HaveFault p (w.before + nodes_of t) d ts gs) (Derives p d t g) (AllDerive (Subgoals p) d ts gs) (w.before + nodes_of t) m o (λ u x. VisitsAll p u room ts gs x)
      (λ f k x. have-above ts p (w.before + nodes_of t) d gs f k x)
      (visits-within t p w room g m (w.before + nodes_of t) refl v)
      (visits-told t p w room d g m e v)
      (λ u same x. subst (λ n. Told (With u (HaveFault p n d ts gs)) (AllDerive (Subgoals p) d ts gs) o) same (all-told ts p u room d gs o e x)) a

-- ---- derivations have no faults

mutual
  pub derives-fine : (t : PlainTree) (p : PlainProgram) (n d : ℕ) (g : PlainGoal) (f : Fault) (k : ℕ) → Derives p d t g → ¬ HasFault p n d t g f k
  derives-fine (node c ts) p n d g f k (le, gs, s, ds) h = all-fine ts p (suc n) (suc d) gs f k ds (below-node p n d c ts g gs f k le s h)

  pub all-fine : (ts : PlainTrees) (p : PlainProgram) (n d : ℕ) (gs : List PlainGoal) (f : Fault) (k : ℕ) → AllDerive (Subgoals p) d ts gs → ¬ HaveFault p n d ts gs f k
  all-fine no_trees p n d [] f k ds h = h
  all-fine no_trees p n d (g ∷ gs) f k ds h = ds
  all-fine (tree t ts) p n d [] f k ds h = ds
  all-fine (tree t ts) p n d (g ∷ gs) f k (x, xs) (inl h) = derives-fine t p n d g f k x h
  all-fine (tree t ts) p n d (g ∷ gs) f k (x, xs) (inr h) = all-fine ts p (n + nodes_of t) d gs f k xs h
