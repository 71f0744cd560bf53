-- Where no rule applies.
use Rattle.std.proofs.Common.{◌≡◌, ℕ, ◌<◌, List, [], ◌∷◌, length, Option, None, refl, sym, subst, arith}
use Rattle.std.specs.Prelude.{Err}
use Rattle.cap_lin.specs.Linear.{Linear}
use Rattle.cap_lin.specs.declared.row.Row.{Row}
use Rattle.cap_prog.specs.declared.assertion.Comp.{Comp}
use Rattle.cap_prog.specs.declared.assertion.Slot.{Slot}
use Rattle.cap_prog.specs.declared.assertion.Asked.{Asked}
use Rattle.cap_prog.specs.Program.{PlainItem, Items, none, PlainProgram}
use Rattle.cap_goal_spec.specs.States.{PlainState, PlainTask}
use Rattle.cap_goal.specs.declared.task.Task.{Task}
use Rattle.cap_goal.specs.declared.task.Task.TheVariants as task
use Rattle.cap_goal.specs.declared.task.Items as code
use Rattle.cap_goal.specs.Views.{task_view, tasks_view}
use Rattle.cap_rules.specs.Rules.{Remaining}
use Rattle.cap_rules_steps.specs.Walks.{Makes, Claims}
use Rattle.cap_rules_steps.specs.declared.error.RuleError.TheVariants.{NotApplicable}
use Rattle.cap_rules_steps.proofs.Walking.{inapplicable, weaker}
use Rattle.cap_take.specs.declared.heads.Taking.{Taking}
use Rattle.cap_take.specs.declared.heads.Taking.TheVariants as rule
use Rattle.cap_take.specs.Heads.{comparison_taken, conditional_taken, cell_taken, fact_taken, atom_taken, items_taken, items_given, region_stated, head_taken, tasks_taken, taken_by}

pub no-comparison : (s : PlainState) (t : Taking) (c : Comp) (r : Remaining) (ls : List (List Row)) → (t ≡ rule.Fact → ⊥) → Claims (Err NotApplicable) ls ls (comparison_taken s t c r)
no-comparison s rule.Fact c r ls h = absurd (h refl)
no-comparison s t c r ls h = weaker _ _ ls inapplicable

pub no-conditional : (s : PlainState) (t : Taking) (c : Comp) (a b : Items) (r : Remaining) → (t ≡ rule.Cases → ⊥) → Makes (Err NotApplicable) (conditional_taken s t c a b r)
no-conditional s rule.Cases c a b r h = absurd (h refl)
no-conditional s t c a b r h = inapplicable

pub no-cell : (s : PlainState) (t : Taking) (a : Linear) (x : Slot) (r : Remaining) (ls : List (List Row)) → ((j : ℕ) → t ≡ rule.Cell j → ⊥) → Claims (Err NotApplicable) ls ls (cell_taken s t a x r)
no-cell s (rule.Cell j) a x r ls h = absurd (h j refl)
no-cell s t a x r ls h = weaker _ _ ls inapplicable

pub no-fact : (p : PlainProgram) (s : PlainState) (t : Taking) (i : PlainItem) (n k : ℕ) (args : List Slot) (x : Slot) (r : Remaining) (ls : List (List Row)) → ((j : ℕ) → t ≡ rule.Region j → ⊥) → ((c : ℕ) → t ≡ rule.Create c → ⊥) → Claims (Err NotApplicable) ls ls (fact_taken p s t i n k args x r)
no-fact p s (rule.Region j) i n k args x r ls f g = absurd (f j refl)
no-fact p s (rule.Create c) i n k args x r ls f g = absurd (g c refl)
no-fact p s t i n k args x r ls f g = weaker _ _ ls inapplicable

pub no-atom : (p : PlainProgram) (s : PlainState) (t : Taking) (it : PlainItem) (n k i : ℕ) (asked : Asked) (r : Remaining) (ls : List (List Row)) → ((j way : ℕ) → t ≡ rule.Guard j way → ⊥) → ((m side : ℕ) → t ≡ rule.Convert m side → ⊥) → Claims (Err NotApplicable) ls ls (atom_taken p s t it n k i asked r)
no-atom p s (rule.Guard j way) it n k i asked r ls f g = absurd (f j way refl)
no-atom p s (rule.Convert m side) it n k i asked r ls f g = absurd (g m side refl)
no-atom p s t it n k i asked r ls f g = weaker _ _ ls inapplicable

pub not-stated : (p : PlainProgram) (s : PlainState) (t : Taking) (k c e : ℕ) (m : Linear) (ts : List PlainTask) (ls : List (List Row)) → (t ≡ rule.Made → ⊥) → Claims (Err NotApplicable) ls ls (region_stated p s t k c e m ts)
not-stated p s rule.Made k c e m ts ls h = absurd (h refl)
not-stated p s t k c e m ts ls h = weaker _ _ ls inapplicable

pub no-give : (p : PlainProgram) (s : PlainState) (t : Taking) (is : Items) (e n : ℕ) (ts : List PlainTask) → (t ≡ rule.Give → ⊥) → Makes (Err NotApplicable) (items_given p s t is e n ts)
no-give p s rule.Give is e n ts h = absurd (h refl)
no-give p s t is e n ts h = inapplicable

pub no-items : (p : PlainProgram) (s : PlainState) (t : Taking) (is : Items) (e left n : ℕ) (ts : List PlainTask) (ls : List (List Row)) → is ≡ none → Claims (Err NotApplicable) ls ls (items_taken p s t is e left n ts)
no-items p s t is e left n ts ls h =
    subst (λ all. Claims (Err NotApplicable) ls ls (items_taken p s t all e left n ts)) (sym h) (weaker _ _ ls inapplicable)

pub no-tasks : (p : PlainProgram) (s : PlainState) (t : Taking) (ts : List Task) (ls : List (List Row)) → length ts < 1 → Claims (Err NotApplicable) ls ls (tasks_taken p s t (tasks_view ts))
no-tasks p s t [] ls h = weaker _ _ ls inapplicable
no-tasks p s t (k ∷ ts) ls h = absurd (omega arith)

pub no-taking : (p : PlainProgram) (s : PlainState) (t : Option Taking) (ts : List PlainTask) (ls : List (List Row)) → t ≡ None → Claims (Err NotApplicable) ls ls (taken_by p s t ts)
no-taking p s t ts ls h =
    subst (λ x. Claims (Err NotApplicable) ls ls (taken_by p s x ts)) (sym h) (weaker _ _ ls inapplicable)

pub no-head : (p : PlainProgram) (s : PlainState) (t : Taking) (k : Task) (ts : List PlainTask) (ls : List (List Row)) → ((i : code.Items) (e left n : ℕ) → k ≡ task.Take i e left n → ⊥) → ((i : code.Items) (e n : ℕ) → k ≡ task.Give i e n → ⊥) → ((r c e : ℕ) (m : Linear) (n : ℕ) → k ≡ task.Made r c e m n → ⊥) → Claims (Err NotApplicable) ls ls (head_taken p s t (task_view k) ts)
no-head p s t (task.Run h x) ts ls f g m = weaker _ _ ls inapplicable
no-head p s t (task.Turn h x) ts ls f g m = weaker _ _ ls inapplicable
no-head p s t (task.Give i e n) ts ls f g m = absurd (g i e n refl)
no-head p s t (task.Take i e left n) ts ls f g m = absurd (f i e left n refl)
no-head p s t (task.Made r c e x n) ts ls f g m = absurd (m r c e x n refl)
no-head p s t (task.Close any n) ts ls f g m = weaker _ _ ls inapplicable
no-head p s t (task.Shift o c x e n) ts ls f g m = weaker _ _ ls inapplicable
no-head p s t (task.Rest j n) ts ls f g m = weaker _ _ ls inapplicable
