-- What is owed after choices, and valid trees.
use Rattle.std.proofs.Common.{◌≡◌, inl, inr, ℕ, suc, List, [], ◌∷◌, ◌++◌, length, map, Option, Some, None, refl, sym, ap, subst, ◌∙◌, append_assoc}
use Rattle.std.specs.List.{AllZip}
use Rattle.std.proofs.lemmas.Slice.Zip.{AllZip-long}
use Rattle.cap_prog.specs.Program.{PlainProgram}
use Rattle.cap_goal_spec.specs.States.{PlainGoal}
use Rattle.cap_goal_spec.specs.Choices.{PlainChoice, PlainTree, node, PlainTrees, no_trees, tree}
use Rattle.cap_goal_spec.specs.Roots.{units, all_roots}
use Rattle.cap_rules.specs.Answers.{Subgoals}
use Rattle.cap_rules.specs.Valid.{Derives, AllDerive, RootDerives}
use Rattle.cap_kernel_check_steps.specs.Starts.{PlainStart, no_tasks, at_goal, barred, start_of, starts, StartDerives}
use Rattle.cap_kernel_check_steps.specs.Owed.{choices_of, all_choices_of, preorder, PlainDebt, owes, debts_of, PaysAt, Replaces, OwedFrom, Owed, FailsNext, MisfitsNext, StopsAt, JudgedOk, JudgedShape}
use Rattle.cap_kernel_check_steps.specs.Laws.{HasTrees, JudgedAreValid}
use Rattle.cap_kernel_check_steps.proofs.Trees.{subgoals-one}
use Rattle.cap_kernel_check_steps.proofs.Roots.{derives-valid, narrow-starts, length-starts}

-- ---- trees from choices

abbrev GoalDerives : PlainProgram → ℕ → Option PlainGoal → PlainTree → Type 0
GoalDerives p n None t = ⊥
GoalDerives p n (Some g) t = Derives p (suc n) t g

-- a tree for each that is owed
abbrev Forest : PlainProgram → List PlainDebt → List PlainChoice → Type 0
Forest p [] cs = cs ≡ []
Forest p (d ∷ ds) cs =
    (t : PlainTree) × (rest : List PlainChoice) × GoalDerives p d.above d.goal t
    × (cs ≡ choices_of t ++ rest) × Forest p ds rest

record Split (p : PlainProgram) (n : ℕ) (gs : List PlainGoal) (ds : List PlainDebt) (cs : List PlainChoice) : Type 0 where
  pub trees : PlainTrees
  pub rest : List PlainChoice
  pub derived : AllDerive (Subgoals p) (suc n) trees gs
  pub parts : cs ≡ all_choices_of trees ++ rest
  pub forest : Forest p ds rest

forest-split : (p : PlainProgram) (n : ℕ) (gs : List PlainGoal) (ds : List PlainDebt) (cs : List PlainChoice) → Forest p (map (owes n) gs ++ ds) cs → Split p n gs ds cs
forest-split p n [] ds cs h = record { trees = no_trees; rest = cs; derived = tt; parts = refl; forest = h }
forest-split p n (g ∷ gs) ds cs (t, rest, d, e, f) =
    let s : Split p n gs ds rest = forest-split p n gs ds rest f in
    record {
      trees = tree t s.trees;
      rest = s.rest;
      derived = (d, s.derived);
      parts = e ∙ (ap (λ x. choices_of t ++ x) s.parts ∙ sym (append_assoc (choices_of t) (all_choices_of s.trees) s.rest));
      forest = s.forest;
    }

pays-derives : (p : PlainProgram) (n : ℕ) (o : Option PlainGoal) (c : PlainChoice) (gs : List PlainGoal) (ts : PlainTrees) → PaysAt p n o c gs → AllDerive (Subgoals p) (suc (suc n)) ts gs → GoalDerives p n o (node c ts)
pays-derives p n None c gs ts h ds = h
pays-derives p n (Some g) c gs ts (le, s) ds = (le, gs, s, ds)

owed-forest : (p : PlainProgram) (cs : List PlainChoice) (ds : List PlainDebt) → OwedFrom p ds cs [] → Forest p ds cs
owed-forest p [] ds h = subst (λ x. Forest p x []) (sym h) refl
owed-forest p (c ∷ cs) [] (next, r, h) = absurd r
owed-forest p (c ∷ cs) (d ∷ ds) (next, (gs, pays, e), h) =
    let f : Forest p (map (owes (suc d.above)) gs ++ ds) cs = subst (λ x. Forest p x cs) e (owed-forest p cs next h) in
    let s : Split p (suc d.above) gs ds cs = forest-split p (suc d.above) gs ds cs f in
    (node c s.trees, s.rest, pays-derives p d.above d.goal c gs s.trees pays s.derived, ap (λ x. c ∷ x) s.parts, s.forest)

record Grown (p : PlainProgram) (ss : List PlainStart) (cs : List PlainChoice) : Type 0 where
  pub trees : List (Option PlainTree)
  pub derived : AllZip (StartDerives p) trees ss
  pub choices : preorder trees ≡ cs

forest-grown : (p : PlainProgram) (ss : List PlainStart) (cs : List PlainChoice) → Forest p (debts_of ss) cs → Grown p ss cs
forest-grown p [] cs h = record { trees = []; derived = tt; choices = sym h }
forest-grown p (no_tasks ∷ ss) cs h =
    let g : Grown p ss cs = forest-grown p ss cs h in
    record { trees = None ∷ g.trees; derived = (tt, g.derived); choices = g.choices }
forest-grown p (at_goal x ∷ ss) cs (t, rest, d, e, f) =
    let g : Grown p ss rest = forest-grown p ss rest f in
    record { trees = Some t ∷ g.trees; derived = (d, g.derived); choices = ap (λ y. choices_of t ++ y) g.choices ∙ sym e }
forest-grown p (barred ∷ ss) cs (t, rest, d, e, f) = absurd d

judged-sound : (p : PlainProgram) (trees n : ℕ) (cs : List PlainChoice) → JudgedOk p trees cs n → HasTrees p trees cs
judged-sound p trees n cs (many, owed, e) =
    let g : Grown p (starts p) cs = forest-grown p (starts p) cs (owed-forest p cs (debts_of (starts p)) owed) in
    let long : length (starts p) ≡ length g.trees = AllZip-long (StartDerives p) g.trees (starts p) g.derived in
    (g.trees, derives-valid p g.trees g.derived, sym long ∙ (length-starts p (units p) ∙ sym many), g.choices)

-- ---- choices from trees

mutual
  pub derives-owed : (t : PlainTree) (p : PlainProgram) (n : ℕ) (g : PlainGoal) (ds end : List PlainDebt) (cs : List PlainChoice) → Derives p (suc n) t g → OwedFrom p ds cs end → OwedFrom p (owes n g ∷ ds) (choices_of t ++ cs) end
  derives-owed (node c ts) p n g ds end cs (le, gs, s, d) h =
      (map (owes (suc n)) gs ++ ds, (gs, (le, s), refl), all-owed ts p (suc n) gs ds end cs d h)

  pub all-owed : (ts : PlainTrees) (p : PlainProgram) (n : ℕ) (gs : List PlainGoal) (ds end : List PlainDebt) (cs : List PlainChoice) → AllDerive (Subgoals p) (suc n) ts gs → OwedFrom p ds cs end → OwedFrom p (map (owes n) gs ++ ds) (all_choices_of ts ++ cs) end
  all-owed no_trees p n [] ds end cs d h = h
  all-owed no_trees p n (g ∷ gs) ds end cs d h = absurd d
  all-owed (tree t ts) p n [] ds end cs d h = absurd d
  all-owed (tree t ts) p n (g ∷ gs) ds end cs (x, xs) h =
      subst (λ y. OwedFrom p (owes n g ∷ (map (owes n) gs ++ ds)) y end) (sym (append_assoc (choices_of t) (all_choices_of ts) cs))
      (derives-owed t p n g (map (owes n) gs ++ ds) end (all_choices_of ts ++ cs) x (all-owed ts p n gs ds end cs xs h))

roots-owed : (p : PlainProgram) (ts : List (Option PlainTree)) (rs : List (Option PlainGoal)) → AllZip (RootDerives p) ts rs → OwedFrom p (debts_of (map start_of rs)) (preorder ts) []
roots-owed p [] [] z = refl
roots-owed p [] (r ∷ rs) z = absurd z
roots-owed p (o ∷ ts) [] z = absurd z
roots-owed p (None ∷ ts) (None ∷ rs) z = roots-owed p ts rs z.1
roots-owed p (Some t ∷ ts) (None ∷ rs) z = absurd z.0
roots-owed p (None ∷ ts) (Some g ∷ rs) z = absurd z.0
roots-owed p (Some t ∷ ts) (Some g ∷ rs) z = derives-owed t p 0 g (debts_of (map start_of rs)) [] (preorder ts) z.0 (roots-owed p ts rs z.1)

judged-complete : (p : PlainProgram) (trees : ℕ) (cs : List PlainChoice) → HasTrees p trees cs → JudgedOk p trees cs (length cs)
judged-complete p trees cs (ts, v, many, e) =
    let long : length (all_roots p) ≡ length ts = AllZip-long (RootDerives p) ts (all_roots p) v.derivations in (
      sym many ∙ sym long,
      subst (λ y. Owed p y []) e (subst (λ ss. OwedFrom p (debts_of ss) (preorder ts) []) (sym (narrow-starts p (units p) v.narrow)) (roots-owed p ts (all_roots p) v.derivations)),
      refl,
    )

-- ---- choices have one end

pays-one : (p : PlainProgram) (n : ℕ) (o : Option PlainGoal) (c : PlainChoice) (gs hs : List PlainGoal) → PaysAt p n o c gs → PaysAt p n o c hs → gs ≡ hs
pays-one p n None c gs hs x y = absurd x
pays-one p n (Some g) c gs hs (l, x) (m, y) = subgoals-one p g c gs hs x y

pub replaces-one : (p : PlainProgram) (c : PlainChoice) (ds a b : List PlainDebt) → Replaces p c ds a → Replaces p c ds b → a ≡ b
replaces-one p c [] a b x y = absurd x
replaces-one p c (d ∷ ds) a b (gs, x, e) (hs, y, f) =
    e ∙ (ap (λ ks. map (owes (suc d.above)) ks ++ ds) (pays-one p d.above d.goal c gs hs x y) ∙ sym f)

owed-behind : (p : PlainProgram) (cs rest : List PlainChoice) (ds mid end : List PlainDebt) → OwedFrom p ds cs mid → OwedFrom p ds (cs ++ rest) end → OwedFrom p mid rest end
owed-behind p [] rest ds mid end x y = subst (λ z. OwedFrom p z rest end) x y
owed-behind p (c ∷ cs) rest ds mid end (a, r, x) (b, s, y) =
    owed-behind p cs rest a mid end x (subst (λ z. OwedFrom p z (cs ++ rest) end) (sym (replaces-one p c ds a b r s)) y)

abbrev Denied : PlainProgram → (List PlainDebt → List PlainChoice → Type 0) → Type 0
Denied p P = (ds : List PlainDebt) (cs : List PlainChoice) → P ds cs → ¬ OwedFrom p ds cs []

cons-none : {X A : Type 0} (x : X) (xs : List X) → x ∷ xs ≡ [] → A
cons-none x xs e = absurd (let k : x ∷ xs ≡ [] = e in cc)

fails-denied : (p : PlainProgram) → Denied p (FailsNext p)
fails-denied p [] cs f h = f
fails-denied p (d ∷ ds) [] f h = cons-none d ds h
fails-denied p (d ∷ ds) (c ∷ cs) f (next, (gs, pays, e), h) = f gs pays

misfits-denied : (p : PlainProgram) → Denied p MisfitsNext
misfits-denied p [] [] f h = f
misfits-denied p [] (c ∷ cs) f (next, r, h) = r
misfits-denied p (d ∷ ds) [] f h = cons-none d ds h
misfits-denied p (d ∷ ds) (c ∷ cs) f h = f

stops-invalid : (p : PlainProgram) (trees k : ℕ) (cs : List PlainChoice) (P : List PlainDebt → List PlainChoice → Type 0) → Denied p P → StopsAt p cs P k → ¬ HasTrees p trees cs
stops-invalid p trees k cs P denied s t =
    let o : Owed p cs [] = (judged-complete p trees cs t).1 in
    denied s.owed s.rest s.stops (owed-behind p s.passed s.rest (debts_of (starts p)) s.owed [] s.follows (subst (λ y. Owed p y []) s.parts o))

shape-denied : (p : PlainProgram) (trees k : ℕ) (cs : List PlainChoice) → JudgedShape p trees cs k → ¬ HasTrees p trees cs
shape-denied p trees k cs (inl h) t = h.1 (judged-complete p trees cs t).0
shape-denied p trees k cs (inr h) t = stops-invalid p trees k cs MisfitsNext (misfits-denied p) h.1 t

pub judged-are-valid : JudgedAreValid
judged-are-valid = record {
  sound = judged-sound;
  complete = judged-complete;
  node = λ p trees k cs h t. stops-invalid p trees k cs (FailsNext p) (fails-denied p) h.1 t;
  shape = shape-denied;
}
