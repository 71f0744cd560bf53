-- A predicate of nodes that passes from each node to those below it; valid derivations are such.
use Rattle.cap_account_resources.proofs.Lists.{all-unmap}
use Rattle.std.proofs.Common.{◌≡◌, inl, inr, ℕ, zero, suc, ℤ, Bool, true, false, ◌==◌, if◌then◌else◌, List, [], ◌∷◌, ◌++◌, length, option_to_list, Option, Some, None, refl, sym, ap, subst}
use Rattle.std.specs.Prelude.{IsSomeAnd}
use Rattle.std.specs.List.{AllByRecursion}
use Rattle.cap_lin.specs.Rows.{negations}
use Rattle.cap_lin.specs.Steps.{first_wide}
use Rattle.cap_lin.specs.Solves.{HasNone}
use Rattle.cap_lin.specs.declared.row.Row.{Row}
use Rattle.cap_lin.proofs.Infeasible.{infeasible-none}
use Rattle.cap_lin.proofs.Proves.{negations-prove}
use Rattle.cap_farkas.specs.declared.cert.Cert.{Cert}
use Rattle.cap_farkas.specs.Refutes.{Refutes}
use Rattle.cap_farkas.proofs.Sound.{refuted-excludes, excluded-infeasible}
use Rattle.cap_prog.specs.Program.{none, item, PlainProgram}
use Rattle.cap_goal_spec.specs.States.{PlainState, PlainTask, to_run, to_turn, to_give, to_take, to_make, to_close, to_shift, to_rest, PlainGoal, goal, goal_of}
use Rattle.cap_goal_spec.specs.Choices.{PlainTree, node, PlainTrees, no_trees, tree}
use Rattle.cap_rules.specs.Attempts.{Claim, refuted, proved, IsTrueClaim, owed, Event, makes, claims, Attempt}
use Rattle.cap_rules.specs.Answers.{Answer, applies, inapplicable, too_wide, Ending, passed, refused, stopped, Refuting, Within, Ends, answer_at, Answers, Subgoals}
use Rattle.cap_rules.specs.Valid.{AllDerive}
use Rattle.cap_account_states.specs.Nodes.{NodePredicate, AreTrue, Comes, Children, IsNode, Deriving}

pub record Checked : Type 1 where
  pub program : PlainProgram
  pub N : NodePredicate
  pub step :
      {d : PlainTree} {s : PlainState} {ts : List PlainTask} → N d s ts → IsNode program N d s ts

-- ---- trees by their place among a node's children

-- the first so many trees, and those behind them
abbrev pub first_trees : ℕ → PlainTrees → PlainTrees
first_trees zero ks = no_trees
first_trees (suc n) no_trees = no_trees
first_trees (suc n) (tree t ts) = tree t (first_trees n ts)

abbrev pub later_trees : ℕ → PlainTrees → PlainTrees
later_trees zero ks = ks
later_trees (suc n) no_trees = no_trees
later_trees (suc n) (tree t ts) = later_trees n ts

pub children-first :
    (N : NodePredicate) (ks : PlainTrees) (gs hs : List PlainGoal) → Children N ks (gs ++ hs) →
    Children N (first_trees (length gs) ks) gs
children-first N ks [] hs h = tt
children-first N no_trees (g ∷ gs) hs h = absurd h
children-first N (tree t ts) (g ∷ gs) hs h = (h.0, children-first N ts gs hs h.1)

pub children-later :
    (N : NodePredicate) (ks : PlainTrees) (gs hs : List PlainGoal) → Children N ks (gs ++ hs) →
    Children N (later_trees (length gs) ks) hs
children-later N ks [] hs h = h
children-later N no_trees (g ∷ gs) hs h = absurd h
children-later N (tree t ts) (g ∷ gs) hs h = children-later N ts gs hs h.1

-- the trees of two lists of goals
pub record Split (N : NodePredicate) (gs hs : List PlainGoal) : Type 0 where
  pub left : PlainTrees
  pub right : PlainTrees
  pub first : Children N left gs
  pub second : Children N right hs

abbrev pub children-split :
    (N : NodePredicate) (ks : PlainTrees) (gs hs : List PlainGoal) → Children N ks (gs ++ hs) →
    Split N gs hs
children-split N ks gs hs h = record {
  left = first_trees (length gs) ks;
  right = later_trees (length gs) ks;
  first = children-first N ks gs hs h;
  second = children-later N ks gs hs h;
}

-- the tree of the only goal
pub lone-child :
    (N : NodePredicate) (ks : PlainTrees) (s : PlainState) (ts : List PlainTask) →
    Children N ks (goal s ts ∷ []) → (d : PlainTree) × N d s ts × (ks ≡ tree d no_trees)
lone-child N no_trees s ts h = absurd h
lone-child N (tree t no_trees) s ts h = (t, h.0, refl)
lone-child N (tree t (tree u us)) s ts h = absurd h.1

pub one-child :
    (N : NodePredicate) (ks : PlainTrees) (s : PlainState) (ts : List PlainTask) →
    Children N ks (goal s ts ∷ []) → (d : PlainTree) × N d s ts
one-child N ks s ts h = let d = lone-child N ks s ts h in (d.0, d.1)

-- ---- the two sides of a conditional

-- where each side has left a goal there are two trees; and where there is one it is the first side's,
-- where that one is sure to have left a goal, and else the other's
abbrev pub first_kids : Bool → PlainTrees → PlainTrees
first_kids b no_trees = no_trees
first_kids b (tree t (tree u us)) = tree t no_trees
first_kids true (tree t no_trees) = tree t no_trees
first_kids false (tree t no_trees) = no_trees

abbrev pub second_kids : Bool → PlainTrees → PlainTrees
second_kids b no_trees = no_trees
second_kids b (tree t (tree u us)) = tree u us
second_kids true (tree t no_trees) = no_trees
second_kids false (tree t no_trees) = tree t no_trees

-- the first side is sure to have a goal, or it has none unless the other has one
abbrev pub SideGoals : Bool → Option PlainGoal → Option PlainGoal → Type 0
SideGoals true None h = ⊥
SideGoals true (Some g) h = Unit {0}
SideGoals false None h = Unit {0}
SideGoals false (Some g) None = ⊥
SideGoals false (Some g) (Some h) = Unit {0}

-- tasks that leave a goal at a state leave one at another with as many facts
pub goals-alike :
    (s t : PlainState) (ts : List PlainTask) → length s.facts ≡ length t.facts →
    SideGoals false (goal_of s ts) (goal_of t ts)
goals-alike s t [] e = tt
goals-alike s t (to_give none e n ∷ ts) q = goals-alike s t ts q
goals-alike s t (to_give (item i more) e n ∷ ts) q = tt
goals-alike s t (to_take none e left n ∷ ts) q = goals-alike s t ts q
goals-alike s t (to_take (item i more) e left n ∷ ts) q = tt
goals-alike s t (to_rest j n ∷ ts) q =
    subst (λ m. SideGoals false (goal_of s (to_rest j n ∷ ts))
    (if j == m then goal_of t ts else Some (goal t (to_rest j n ∷ ts)))) q
    (by (goals-alike s t ts q) (j == length s.facts))
  where
    by :
        SideGoals false (goal_of s ts) (goal_of t ts) → (b : Bool) →
        SideGoals false (if b then goal_of s ts else Some (goal s (to_rest j n ∷ ts)))
        (if b then goal_of t ts else Some (goal t (to_rest j n ∷ ts)))
    by h true = h
    by h false = tt
goals-alike s t (to_run h b ∷ ts) e = tt
goals-alike s t (to_turn h b ∷ ts) e = tt
goals-alike s t (to_make k c i x n ∷ ts) e = tt
goals-alike s t (to_close b n ∷ ts) e = tt
goals-alike s t (to_shift o c m i n ∷ ts) e = tt

pub sides-are :
    (N : NodePredicate) (ks : PlainTrees) (b : Bool) (g h : Option PlainGoal) → SideGoals b g h →
    Children N ks (option_to_list g ++ option_to_list h) →
    (first_trees (length (option_to_list g)) ks ≡ first_kids b ks)
    × (later_trees (length (option_to_list g)) ks ≡ second_kids b ks)
sides-are N no_trees b None h k c = (refl, refl)
sides-are N no_trees b (Some g) h k c = absurd c
sides-are N (tree t no_trees) true None h k c = absurd k
sides-are N (tree t no_trees) true (Some g) h k c = (refl, refl)
sides-are N (tree t no_trees) false None h k c = (refl, refl)
sides-are N (tree t no_trees) false (Some g) None k c = absurd k
sides-are N (tree t no_trees) false (Some g) (Some h) k c = absurd c.1
sides-are N (tree t (tree u us)) b None None k c = absurd c
sides-are N (tree t (tree u us)) b None (Some h) k c = absurd c.1
sides-are N (tree t (tree u us)) b (Some g) None k c = absurd c.1
sides-are N (tree t (tree u us)) b (Some g) (Some h) k c = (refl, refl)

-- ---- what certificates prove

refuted-none : (rows : List Row) (c : Cert) → Refutes rows c → HasNone rows
refuted-none rows c r =
    infeasible-none rows (excluded-infeasible rows c (refuted-excludes rows c r))

claim-true : (c : Claim) → AllByRecursion HasNone (owed c) → IsTrueClaim c
claim-true (refuted rows) h = h.0
claim-true (proved rows r) h =
    negations-prove rows r (all-unmap (λ n. rows ++ n ∷ []) HasNone (negations r) h)

refuting-true :
    (ls : List (List Row)) (cs : List Cert) (P : List Cert → Type 0) (R : Type 0) → (R → ⊥) →
    Refuting ls cs P R → AllByRecursion HasNone ls × ((rest : List Cert) × P rest)
refuting-true [] cs P R never x = (tt, (cs, x))
refuting-true (l ∷ ls) [] P R never x = absurd (never x)
refuting-true (l ∷ ls) (c ∷ cs) P R never (inl u) =
    let m = refuting-true ls cs P R never u.1 in ((refuted-none l c u.0, m.0), m.1)
refuting-true (l ∷ ls) (c ∷ cs) P R never (inr u) = absurd (never u.1)

within-passed : (o : Option (ℤ × ℤ)) (P : Type 0) → Within o P (λ a b. passed [] ≡ stopped a b) → P
within-passed None P x = x
within-passed (Some w) P x = absurd (clash x)
  where
    clash : {a b : ℤ} → passed [] ≡ stopped a b → ⊥
    clash e = cc

ends-true : (es : List Event) (cs : List Cert) → Ends es cs (passed []) → AreTrue es
ends-true [] cs e = tt
ends-true (makes x ∷ es) cs e =
    ends-true es cs (within-passed (first_wide (x ∷ [])) (Ends es cs (passed [])) e)
ends-true (claims c ∷ es) cs e =
    let m = refuting-true (owed c) cs (λ rest. Ends es rest (passed []))
    (passed [] ≡ refused) never e in
    (claim-true c m.0, ends-true es m.1.0 m.1.1)
  where
    never : passed [] ≡ refused → ⊥
    never q = cc

applies-inapplicable : {A : Type 0} {x : A} → applies x ≡ inapplicable → ⊥
applies-inapplicable e = cc

applies-wide : {A : Type 0} {x : A} (a b : ℤ) → applies x ≡ too_wide a b → ⊥
applies-wide a b e = cc

abbrev applied : {A : Type 0} → Answer A → Option A
applied (applies x) = Some x
applied inapplicable = None
applied (too_wide a b) = None

answer-applies :
    {A : Type 0} (v : Option A) (end : Ending) (x : A) → applies x ≡ answer_at v end →
    (end ≡ passed []) × (v ≡ Some x)
answer-applies None (passed []) x e = absurd (applies-inapplicable e)
answer-applies (Some y) (passed []) x e = (refl, sym (ap applied e))
answer-applies v (passed (c ∷ cs)) x e = absurd (applies-inapplicable e)
answer-applies v refused x e = absurd (applies-inapplicable e)
answer-applies v (stopped a b) x e = absurd (applies-wide a b e)

pub answers-come :
    {A : Type 0} (o : Attempt A) (cs : List Cert) (x : A) (P : A → Type 0) →
    Answers o cs (applies x) → P x → Comes o P
answers-come o cs x P a h =
    let q = answer-applies o.value a.0 x a.2 in (
      ends-true o.events cs (subst (Ends o.events cs) q.0 a.1),
      subst (λ m. IsSomeAnd m P)
          (sym q.1) h,
    )

-- ---- valid derivations

children-derive :
    (p : PlainProgram) (depth : ℕ) (ks : PlainTrees) (gs : List PlainGoal) →
    AllDerive (Subgoals p) depth ks gs → Children (Deriving p) ks gs
children-derive p depth no_trees [] h = tt
children-derive p depth no_trees (g ∷ gs) h = absurd h
children-derive p depth (tree t ts) [] h = absurd h
children-derive p depth (tree t ts) (g ∷ gs) h = ((depth, h.0), children-derive p depth ts gs h.1)

pub deriving-step :
    (p : PlainProgram) (d : PlainTree) (s : PlainState) (ts : List PlainTask) → Deriving p d s ts →
    IsNode p (Deriving p) d s ts
deriving-step p (node c ks) s ts h =
    let gs = h.1.1 in
    answers-come _ _ gs (Children (Deriving p) ks) h.1.2 (children-derive p (suc h.0) ks gs h.1.3)

abbrev pub derivations : PlainProgram → Checked
derivations p = record {
  program = p;
  N = Deriving p;
  step = λ {d} {s} {ts} h. deriving-step p d s ts h;
}
