-- Choices that trees pass over, and where the choices that are left stop.
use Rattle.std.proofs.Common.{◌≡◌, ◌≢◌, inl, inr, ℕ, suc, ◌+◌, ◌<◌, List, [], ◌∷◌, ◌++◌, length, map, Option, Some, None, refl, sym, ap, subst, ◌∙◌, append_assoc, arith, length-append}
use Rattle.std.specs.Prelude.{Err}
use Rattle.std.specs.List.{AllZip}
use Rattle.std.proofs.lemmas.List.{append-nil}
use Rattle.cap_prog.specs.Program.{PlainProgram}
use Rattle.cap_goal_spec.specs.States.{PlainGoal}
use Rattle.cap_goal_spec.specs.Choices.{PlainChoice, PlainTree, node, PlainTrees}
use Rattle.cap_goal_spec.specs.Roots.{all_roots}
use Rattle.cap_rules.specs.Answers.{Subgoals}
use Rattle.cap_rules.specs.Valid.{deepest, Derives, AllDerive}
use Rattle.cap_kernel_check_steps.specs.declared.error.CheckError.{CheckError}
use Rattle.cap_kernel_check_steps.specs.declared.error.CheckError.TheVariants.{Node, Shape, OutOfMemory}
use Rattle.cap_kernel_check_steps.specs.Starts.{PlainStart, no_tasks, at_goal, barred, starts, StartDerives}
use Rattle.cap_kernel_check_steps.specs.Owed.{choices_of, all_choices_of, preorder, PlainDebt, owes, debts_of, Pays, OwedFrom, FailsNext, MisfitsNext, StopsAt}
use Rattle.cap_kernel_check_steps.specs.Judges.{Judged}
use Rattle.cap_kernel_check_steps.specs.Growths.{PlainPreorder, PassesOver, StopsFrom, Halts}
use Rattle.cap_kernel_check_steps.specs.Walks.{Leaves}
use Rattle.cap_kernel_check_steps.proofs.Judging.{derives-owed, all-owed}

-- ---- choices that are passed over

pub over-then : (u v w : PlainPreorder) (xs ys : List PlainChoice) → PassesOver u xs v → PassesOver v ys w → PassesOver u (xs ++ ys) w
over-then u v w xs ys (r, n) (s, m) =
    let l : length (xs ++ ys) ≡ length xs + length ys = length-append xs ys in
    (r ∙ (ap (λ z. xs ++ z) s ∙ sym (append_assoc xs ys w.rest)), omega (arith, n, m, l))

-- these choices come from what is owed to what is owed behind them
abbrev pub Leads : PlainProgram → List PlainDebt → List PlainChoice → List PlainDebt → Type 0
Leads p ds cs xs = (ys : List PlainChoice) (end : List PlainDebt) → OwedFrom p xs ys end → OwedFrom p ds (cs ++ ys) end

stops-behind : (p : PlainProgram) (ds xs : List PlainDebt) (w v : PlainPreorder) (cs : List PlainChoice) (P : List PlainDebt → List PlainChoice → Type 0) (k : ℕ) → Leads p ds cs xs → PassesOver w cs v → StopsFrom p xs v P k → StopsFrom p ds w P k
stops-behind p ds xs w v cs P k leads (r, n) s =
    let l : length (cs ++ s.passed) ≡ length cs + length s.passed = length-append cs s.passed in
    let m : k ≡ suc (v.passed + length s.passed) = s.number in
    record {
      passed = cs ++ s.passed;
      rest = s.rest;
      owed = s.owed;
      parts = r ∙ (ap (λ z. cs ++ z) s.parts ∙ sym (append_assoc cs s.passed s.rest));
      number = omega (arith, l, m, n);
      follows = leads s.passed s.owed s.follows;
      stops = s.stops;
    }

pub halts-behind : (p : PlainProgram) (ds xs : List PlainDebt) (w v : PlainPreorder) (cs : List PlainChoice) (e : CheckError) → Leads p ds cs xs → PassesOver w cs v → Halts p xs v e → Halts p ds w e
halts-behind p ds xs w v cs (Node k) leads over h = stops-behind p ds xs w v cs (FailsNext p) k leads over h
halts-behind p ds xs w v cs (Shape k) leads over h = stops-behind p ds xs w v cs MisfitsNext k leads over h
halts-behind p ds xs w v cs OutOfMemory leads over h = tt

-- ---- a node

stops-here : (p : PlainProgram) (ds : List PlainDebt) (w : PlainPreorder) (P : List PlainDebt → List PlainChoice → Type 0) → P ds w.rest → StopsFrom p ds w P (suc w.passed)
stops-here p ds w P h =
    record { passed = []; rest = w.rest; owed = ds; parts = refl; number = omega arith; follows = refl; stops = h }

some-goal : (g : PlainGoal) → Some g ≢ None
some-goal g e = let k : Some g ≡ None = e in cc

pub node-fails : (p : PlainProgram) (n : ℕ) (g : PlainGoal) (ds : List PlainDebt) (w v : PlainPreorder) (c : PlainChoice) → PassesOver w (c ∷ []) v → ((gs : List PlainGoal) → ¬ Pays p (owes n g) c gs) → Halts p (owes n g ∷ ds) w (Node v.passed)
node-fails p n g ds w v c (r, m) never =
    let k : suc w.passed ≡ v.passed = omega (arith, m) in
    subst (λ z. StopsFrom p (owes n g ∷ ds) w (FailsNext p) z) k
    (stops-here p (owes n g ∷ ds) w (FailsNext p) (subst (λ z. FailsNext p (owes n g ∷ ds) z) (sym r) never))

pub too-deep : (p : PlainProgram) (n : ℕ) (g : PlainGoal) (c : PlainChoice) → n ≡ deepest → (gs : List PlainGoal) → ¬ Pays p (owes n g) c gs
too-deep p n g c e gs (low, s) = omega (arith, e, low)

pub never-pays : (p : PlainProgram) (n : ℕ) (g : PlainGoal) (c : PlainChoice) → Leaves p g c None → (gs : List PlainGoal) → ¬ Pays p (owes n g) c gs
never-pays p n g c never gs (low, s) = never gs s

node-derives : (p : PlainProgram) (n : ℕ) (g : PlainGoal) (c : PlainChoice) (gs : List PlainGoal) (ts : PlainTrees) → n < deepest → Leaves p g c (Some gs) → AllDerive (Subgoals p) (suc (suc n)) ts gs → Derives p (suc n) (node c ts) g
node-derives p n g c gs ts low s ds = (low, gs, s, ds)

plus-one : (n : ℕ) → n + 1 ≡ suc n
plus-one n = omega arith

node-leads : (p : PlainProgram) (n : ℕ) (g : PlainGoal) (c : PlainChoice) (gs : List PlainGoal) (ds : List PlainDebt) → n < deepest → Leaves p g c (Some gs) → Leads p (owes n g ∷ ds) (c ∷ []) (map (owes (suc n)) gs ++ ds)
node-leads p n g c gs ds low s ys end h = (map (owes (suc n)) gs ++ ds, (gs, (low, s), refl), h)

-- what stops below a node stops at it
pub node-halts : (p : PlainProgram) (n : ℕ) (g : PlainGoal) (c : PlainChoice) (gs : List PlainGoal) (u v : PlainPreorder) (e : CheckError) → n < deepest → Leaves p g c (Some gs) → PassesOver u (c ∷ []) v → ((ds : List PlainDebt) → Halts p (map (owes (n + 1)) gs ++ ds) v e) → (ds : List PlainDebt) → Halts p (owes n g ∷ ds) u e
node-halts p n g c gs u v e low s over h ds =
    halts-behind p (owes n g ∷ ds) (map (owes (suc n)) gs ++ ds) u v (c ∷ []) e (node-leads p n g c gs ds low s) over
    (subst (λ m. Halts p (map (owes m) gs ++ ds) v e) (plus-one n) (h ds))

pub node-grows : (p : PlainProgram) (n : ℕ) (g : PlainGoal) (c : PlainChoice) (gs : List PlainGoal) (t : PlainTree) (ts : PlainTrees) (u v w : PlainPreorder) → t ≡ node c ts → n < deepest → Leaves p g c (Some gs) → PassesOver u (c ∷ []) v → AllDerive (Subgoals p) (suc (n + 1)) ts gs × PassesOver v (all_choices_of ts) w → Derives p (suc n) t g × PassesOver u (choices_of t) w
node-grows p n g c gs t ts u v w same low s a (ds, b) =
    let more : AllDerive (Subgoals p) (suc (suc n)) ts gs = subst (λ m. AllDerive (Subgoals p) (suc m) ts gs) (plus-one n) ds in
    subst (λ x. Derives p (suc n) x g × PassesOver u (choices_of x) w) (sym same)
    (node-derives p n g c gs ts low s more, over-then u v w (c ∷ []) (all_choices_of ts) a b)

pub all-lead : (p : PlainProgram) (n : ℕ) (gs : List PlainGoal) (ts : PlainTrees) (ds : List PlainDebt) → AllDerive (Subgoals p) (suc n) ts gs → Leads p (map (owes n) gs ++ ds) (all_choices_of ts) ds
all-lead p n gs ts ds d ys end h = all-owed ts p n gs ds end ys d h

-- ---- roots

pub roots-lead : (ts : List (Option PlainTree)) (ss : List PlainStart) (p : PlainProgram) (ds : List PlainDebt) → AllZip (StartDerives p) ts ss → Leads p (debts_of ss ++ ds) (preorder ts) ds
roots-lead [] [] p ds z ys end h = h
roots-lead [] (s ∷ ss) p ds z ys end h = absurd z
roots-lead (o ∷ ts) [] p ds z ys end h = absurd z
roots-lead (o ∷ ts) (barred ∷ ss) p ds z ys end h = absurd z.0
roots-lead (None ∷ ts) (no_tasks ∷ ss) p ds z ys end h = roots-lead ts ss p ds z.1 ys end h
roots-lead (Some t ∷ ts) (no_tasks ∷ ss) p ds z ys end h = absurd z.0
roots-lead (None ∷ ts) (at_goal g ∷ ss) p ds z ys end h = absurd z.0
roots-lead (Some t ∷ ts) (at_goal g ∷ ss) p ds z ys end h =
    subst (λ y. OwedFrom p (owes 0 g ∷ (debts_of ss ++ ds)) y end) (sym (append_assoc (choices_of t) (preorder ts) ys))
    (derives-owed t p 0 g (debts_of ss ++ ds) end (preorder ts ++ ys) z.0 (roots-lead ts ss p ds z.1 ys end h))

-- ---- all roots

pub halts-at-roots : (p : PlainProgram) (ds : List PlainDebt) (w : PlainPreorder) (e : CheckError) → Halts p (ds ++ []) w e → Halts p ds w e
halts-at-roots p ds w e h = subst (λ z. Halts p z w e) (append-nil ds) h

left-misfits : (cs : List PlainChoice) → cs ≢ [] → MisfitsNext [] cs
left-misfits [] some = some refl
left-misfits (c ∷ cs) some = tt

pub left-over : (p : PlainProgram) (ts : List (Option PlainTree)) (ss : List PlainStart) (w v : PlainPreorder) → AllZip (StartDerives p) ts ss → PassesOver w (preorder ts) v → v.rest ≢ [] → Halts p (debts_of ss) w (Shape (suc v.passed))
left-over p ts ss w v z over some =
    halts-at-roots p (debts_of ss) w (Shape (suc v.passed))
    (halts-behind p (debts_of ss ++ []) [] w v (preorder ts) (Shape (suc v.passed)) (roots-lead ts ss p [] z) over
    (stops-here p [] v MisfitsNext (left-misfits v.rest some)))

stops-at : (p : PlainProgram) (cs : List PlainChoice) (P : List PlainDebt → List PlainChoice → Type 0) (k : ℕ) → StopsFrom p (debts_of (starts p)) (record { passed = 0; rest = cs }) P k → StopsAt p cs P k
stops-at p cs P k s =
    let n : k ≡ suc (0 + length s.passed) = s.number in
    record { passed = s.passed; rest = s.rest; owed = s.owed; parts = s.parts; number = omega (arith, n); follows = s.follows; stops = s.stops }

pub halts-judged : (p : PlainProgram) (trees : ℕ) (cs : List PlainChoice) (e : CheckError) → trees ≡ length (all_roots p) → Halts p (debts_of (starts p)) (record { passed = 0; rest = cs }) e → e ≢ OutOfMemory → Judged p trees cs (Err e)
halts-judged p trees cs (Node k) many h other = (many, stops-at p cs (FailsNext p) k h)
halts-judged p trees cs (Shape k) many h other = inr (many, stops-at p cs MisfitsNext k h)
halts-judged p trees cs OutOfMemory many h other = other refl

pub miscounted-judged : (p : PlainProgram) (trees : ℕ) (cs : List PlainChoice) → trees ≢ length (all_roots p) → Judged p trees cs (Err (Shape 1))
miscounted-judged p trees cs other = inl (refl, other)
