-- An assertion is given.
use Rattle.std.proofs.Common.{ℕ, ℤ, Bool, true, false, List, [], ◌∷◌, ◌++◌, Option, Some, None}
use Rattle.std.specs.Prelude.{if◌then◌else◌}
use Rattle.std.specs.List.{AllByRecursion}
use Rattle.cap_lin.specs.Linear.{Linear, variable}
use Rattle.cap_lin.specs.declared.row.Sort.{Sort}
use Rattle.cap_lin.specs.declared.row.Sort.TheVariants.{Int, Perm}
use Rattle.cap_lin.specs.declared.row.Op.TheVariants.{Ge as AtLeast}
use Rattle.cap_gsolve.specs.declared.piece.Form.TheVariants as form
use Rattle.cap_gsolve.specs.Pieces.{piece}
use Rattle.cap_prog.specs.declared.assertion.Comp.{Comp}
use Rattle.cap_prog.specs.declared.assertion.Slot.{Slot}
use Rattle.cap_prog.specs.declared.assertion.Slot.TheVariants.{Any, Is}
use Rattle.cap_prog.specs.declared.assertion.Asked.{Asked}
use Rattle.cap_prog.specs.declared.assertion.Asked.TheVariants.{One, Share, Src, Tok, At, From}
use Rattle.cap_prog.specs.Program.{PlainItem, compare, choose, fact, atom, cell, Items, none, item, append_items, PlainProgram}
use Rattle.cap_rules.specs.cap_goal_spec.States.{PlainState, PlainTask, to_give, to_take, to_rest, PlainGoal, goal_of, goals_of}
use Rattle.cap_rules.specs.cap_goal_spec.Environments.{one_value, term_of, with_name}
use Rattle.cap_rules.specs.Attempts.{unit, ◌>>=◌}
use Rattle.cap_rules.specs.Making.{sum, value_by, opposite, fresh, with_sort, with_comparison, with_cell, env_at, with_env_at, fact_of, with_fact, with_piece}
use Rattle.cap_rules_ascending.specs.Ascending.{TermAscends, FormAscends, FactAscends, StateAscends, TaskAscends, GoalAscends}
use Rattle.cap_rules_ascending.proofs.Lists.{IfSome, all-join, all-option}
use Rattle.cap_rules_ascending.proofs.Terms.{with-name-ascends}
use Rattle.cap_rules_ascending.proofs.Safe.{Safe, chain, of-some}
use Rattle.cap_rules_ascending.proofs.Makings.{sum-safe, by-safe, fresh-ascends, with-sort-safe, with-comparison-safe, with-cell-safe, env-at-ascends, env-set-ascends, with-fact-safe, with-piece-safe}
use Rattle.cap_rules.specs.Giving.{name_as, name_parts, Given, given, give_term, give_slot, give_slots, give_form, give_sides, give_item, give}

-- goals of tasks
pub record GoalFrom (s : PlainState) (ts : List PlainTask) : Type 0 where
  pub state : StateAscends s
  pub tasks : AllByRecursion TaskAscends ts

goal-by : (b : Bool) (s : PlainState) (g : PlainGoal) (o : Option PlainGoal) → GoalAscends g → IfSome GoalAscends o → IfSome GoalAscends (if b then o else Some g)
goal-by true s g o h k = k
goal-by false s g o h k = h

pub goal-of-ascends : (s : PlainState) (ts : List PlainTask) → StateAscends s → AllByRecursion TaskAscends ts → IfSome GoalAscends (goal_of s ts)
goal-of-ascends s [] h k = tt
goal-of-ascends s (to_give none e n ∷ ts) h k = goal-of-ascends s ts h k.1
goal-of-ascends s (to_give (item i is) e n ∷ ts) h k = record { state = h; tasks = k }
goal-of-ascends s (to_take none e l n ∷ ts) h k = goal-of-ascends s ts h k.1
goal-of-ascends s (to_take (item i is) e l n ∷ ts) h k = record { state = h; tasks = k }
goal-of-ascends s (to_rest j n ∷ ts) h k = goal-by _ s _ (goal_of s ts) (record { state = h; tasks = k }) (goal-of-ascends s ts h k.1)
goal-of-ascends s (t ∷ ts) h k = record { state = h; tasks = k }

pub goals-ascend : (s : PlainState) (ts : List PlainTask) → StateAscends s → AllByRecursion TaskAscends ts → AllByRecursion GoalAscends (goals_of s ts)
goals-ascend s ts h k = all-option GoalAscends (goal_of s ts) (goal-of-ascends s ts h k)

pub record GivenAscends {A : Type 0} (P : A → Type 0) (g : Given A) : Type 0 where
  pub state : StateAscends g.state
  pub value : P g.value

of-given : {A : Type 0} (P : A → Type 0) (s : PlainState) (x : A) → StateAscends s → P x → Safe (GivenAscends P) (unit (given s x))
of-given P s x h k = of-some (GivenAscends P) (given s x) (record { state = h; value = k })

name-safe : (s : PlainState) (e : ℕ) (o : Sort) (x : ℕ) (t : Option Linear) → StateAscends s → Safe StateAscends (name_as s e o x t)
name-safe s e o x (Some t) h = of-some StateAscends s h
name-safe s e o x None h = chain (with_sort s o) (λ u. unit (with_env_at u e (with_name (env_at s e) x (fresh s)))) (with-sort-safe s o h) (λ u i. of-some StateAscends (with_env_at u e (with_name (env_at s e) x (fresh s))) (env-set-ascends u e (with_name (env_at s e) x (fresh s)) i (with-name-ascends (env_at s e) x (fresh s) (env-at-ascends s e h) (fresh-ascends s))))

parts-safe : (s : PlainState) (e : ℕ) (o : Sort) (ps : List (ℕ × ℤ)) → StateAscends s → Safe StateAscends (name_parts s e o ps)
parts-safe s e o [] h = of-some StateAscends s h
parts-safe s e o (q ∷ ps) h = chain (name_as s e o q.0 (term_of (env_at s e) q.0)) (λ t. name_parts t e o ps) (name-safe s e o q.0 (term_of (env_at s e) q.0) h) (λ t i. parts-safe t e o ps i)

term-safe : (s : PlainState) (e : ℕ) (o : Sort) (t : Linear) → StateAscends s → Safe (GivenAscends TermAscends) (give_term s e o t)
term-safe s e o t h = chain (name_parts s e o t.parts) (λ v. value_by (env_at v e) t >>= λ u. unit (given v u)) (parts-safe s e o t.parts h) (λ v i. chain (value_by (env_at v e) t) (λ u. unit (given v u)) (by-safe (env_at v e) t (env-at-ascends v e i)) (λ u j. of-given TermAscends v u i j))

slot-safe : (s : PlainState) (e : ℕ) (o : Sort) (x : Slot) → StateAscends s → Safe (GivenAscends TermAscends) (give_slot s e o x)
slot-safe s e o Any h = chain (with_sort s o) (λ t. unit (given t (fresh s))) (with-sort-safe s o h) (λ t i. of-given TermAscends t (fresh s) i (fresh-ascends s))
slot-safe s e o (Is t) h = term-safe s e o t h

slots-safe : (s : PlainState) (e : ℕ) (xs : List Slot) → StateAscends s → Safe (GivenAscends (AllByRecursion TermAscends)) (give_slots s e xs)
slots-safe s e [] h = of-given (AllByRecursion TermAscends) s [] h tt
slots-safe s e (x ∷ xs) h = chain (give_slot s e Int x) (λ g. give_slots g.state e xs >>= λ more. unit (given more.state (g.value ∷ more.value))) (slot-safe s e Int x h) (λ g i. chain (give_slots g.state e xs) (λ more. unit (given more.state (g.value ∷ more.value))) (slots-safe g.state e xs i.state) (λ more j. of-given (AllByRecursion TermAscends) more.state (g.value ∷ more.value) j.state (i.value, j.value)))

form-safe : (s : PlainState) (e : ℕ) (x : Asked) → StateAscends s → Safe (GivenAscends FormAscends) (give_form s e x)
form-safe s e One h = of-given FormAscends s form.One h tt
form-safe s e (Share x) h = chain (give_slot s e Perm x) (λ g. unit (given g.state (form.Share g.value))) (slot-safe s e Perm x h) (λ g i. of-given FormAscends g.state (form.Share g.value) i.state i.value)
form-safe s e (Src x) h = chain (give_slot s e Int x) (λ g. unit (given g.state (form.Src g.value))) (slot-safe s e Int x h) (λ g i. of-given FormAscends g.state (form.Src g.value) i.state i.value)
form-safe s e (Tok x) h = chain (give_slot s e Int x) (λ g. unit (given g.state (form.Tok g.value))) (slot-safe s e Int x h) (λ g i. of-given FormAscends g.state (form.Tok g.value) i.state i.value)
form-safe s e (At x) h =
    chain (give_slot s e Int x) (λ g. sum g.value one_value >>= λ next. unit (given g.state (form.Span g.value (Some next)))) (slot-safe s e Int x h)
    (λ g i. chain (sum g.value one_value) (λ next. unit (given g.state (form.Span g.value (Some next)))) (sum-safe g.value one_value i.value tt) (λ next j. of-given FormAscends g.state (form.Span g.value (Some next)) i.state (i.value, j)))
form-safe s e (From x) h = chain (give_slot s e Int x) (λ g. unit (given g.state (form.Span g.value None))) (slot-safe s e Int x h) (λ g i. of-given FormAscends g.state (form.Span g.value None) i.state (i.value, tt))

record SidesAscend (x : Linear × Linear) : Type 0 where
  left : TermAscends x.0
  right : TermAscends x.1

sides-safe : (s : PlainState) (e : ℕ) (c : Comp) → StateAscends s → Safe (GivenAscends SidesAscend) (give_sides s e c)
sides-safe s e c h = chain (give_term s e c.sort c.left) (λ l. give_term l.state e c.sort c.right >>= λ r. unit (given r.state (l.value, r.value))) (term-safe s e c.sort c.left h) (λ l i. chain (give_term l.state e c.sort c.right) (λ r. unit (given r.state (l.value, r.value))) (term-safe l.state e c.sort c.right i.state) (λ r j. of-given SidesAscend r.state (l.value, r.value) j.state (record { left = i.value; right = j.value })))

fact-of-ascends : (r : Linear) (k : ℕ) (as' : List Linear) (t : Linear) → TermAscends r → AllByRecursion TermAscends as' → TermAscends t → FactAscends (fact_of r k as' t)
fact-of-ascends r k as' t h g i = record { region = h; args = g; state = i }

item-safe : (p : PlainProgram) (s : PlainState) (e : ℕ) (i : PlainItem) → StateAscends s → Safe StateAscends (give_item p s e i)
item-safe p s e (compare c) h = chain (give_sides s e c) (λ g. with_comparison g.state g.value.0 c.op g.value.1 c.sort) (sides-safe s e c h) (λ g i. with-comparison-safe g.state g.value.0 c.op g.value.1 c.sort i.state i.value.left i.value.right)
item-safe p s e (choose c a b) h = of-some StateAscends s h
item-safe p s e (fact place r k args x) h =
    chain (give_term s e Int (variable r)) (λ region. give_slots region.state e args >>= λ values. give_slot values.state e Int x >>= λ state. with_fact state.state (fact_of region.value k values.value state.value)) (term-safe s e Int (variable r) h)
    (λ region i. chain (give_slots region.state e args) (λ values. give_slot values.state e Int x >>= λ state. with_fact state.state (fact_of region.value k values.value state.value)) (slots-safe region.state e args i.state)
    (λ values j. chain (give_slot values.state e Int x) (λ state. with_fact state.state (fact_of region.value k values.value state.value)) (slot-safe values.state e Int x j.state)
    (λ state l. with-fact-safe state.state (fact_of region.value k values.value state.value) l.state (fact-of-ascends region.value k values.value state.value i.value j.value l.value))))
item-safe p s e (atom place r k n asked) h =
    chain (give_term s e Int (variable r)) (λ region. give_form region.state e asked >>= λ g. with_piece p g.state (piece region.value k n g.value)) (term-safe s e Int (variable r) h)
    (λ region i. chain (give_form region.state e asked) (λ g. with_piece p g.state (piece region.value k n g.value)) (form-safe region.state e asked i.state)
    (λ g j. with-piece-safe p g.state (piece region.value k n g.value) j.state (record { region = i.value; form = j.value })))
item-safe p s e (cell place a x) h =
    chain (give_term s e Int a) (λ address. give_slot address.state e Int x >>= λ content. with_cell content.state address.value content.value >>= λ t. with_comparison t address.value AtLeast one_value Int) (term-safe s e Int a h)
    (λ address i. chain (give_slot address.state e Int x) (λ content. with_cell content.state address.value content.value >>= λ t. with_comparison t address.value AtLeast one_value Int) (slot-safe address.state e Int x i.state)
    (λ content j. chain (with_cell content.state address.value content.value) (λ t. with_comparison t address.value AtLeast one_value Int) (with-cell-safe content.state address.value content.value j.state i.value j.value)
    (λ t l. with-comparison-safe t address.value AtLeast one_value Int l i.value tt)))

next-safe : (p : PlainProgram) (s : PlainState) (e n : ℕ) (ts : List PlainTask) (i : PlainItem) (more : Items) → StateAscends s → ((t : PlainState) → StateAscends t → Safe (AllByRecursion GoalAscends) (give p t e n ts more)) → Safe (AllByRecursion GoalAscends) (give_item p s e i >>= λ t. give p t e n ts more)
next-safe p s e n ts i more h f = chain (give_item p s e i) (λ t. give p t e n ts more) (item-safe p s e i h) f

pub give-safe : (p : PlainProgram) (s : PlainState) (e n : ℕ) (ts : List PlainTask) (is : Items) → StateAscends s → AllByRecursion TaskAscends ts → Safe (AllByRecursion GoalAscends) (give p s e n ts is)
give-safe p s e n ts none h k = of-some (AllByRecursion GoalAscends) (goals_of s ts) (goals-ascend s ts h k)
give-safe p s e n ts (item (choose c a b) more) h k =
    chain (give_sides s e c) (λ g. with_comparison g.state g.value.0 c.op g.value.1 c.sort >>= λ t. with_comparison g.state g.value.0 (opposite c.op) g.value.1 c.sort >>= λ u. unit (goals_of t (to_give (append_items a more) e n ∷ ts) ++ goals_of u (to_give (append_items b more) e n ∷ ts))) (sides-safe s e c h)
    (λ g i. chain (with_comparison g.state g.value.0 c.op g.value.1 c.sort) (λ t. with_comparison g.state g.value.0 (opposite c.op) g.value.1 c.sort >>= λ u. unit (goals_of t (to_give (append_items a more) e n ∷ ts) ++ goals_of u (to_give (append_items b more) e n ∷ ts))) (with-comparison-safe g.state g.value.0 c.op g.value.1 c.sort i.state i.value.left i.value.right)
    (λ t j. chain (with_comparison g.state g.value.0 (opposite c.op) g.value.1 c.sort) (λ u. unit (goals_of t (to_give (append_items a more) e n ∷ ts) ++ goals_of u (to_give (append_items b more) e n ∷ ts))) (with-comparison-safe g.state g.value.0 (opposite c.op) g.value.1 c.sort i.state i.value.left i.value.right)
    (λ u l. of-some (AllByRecursion GoalAscends) (goals_of t (to_give (append_items a more) e n ∷ ts) ++ goals_of u (to_give (append_items b more) e n ∷ ts)) (all-join GoalAscends (goals_of t (to_give (append_items a more) e n ∷ ts)) (goals_of u (to_give (append_items b more) e n ∷ ts)) (goals-ascend t (to_give (append_items a more) e n ∷ ts) j (tt, k)) (goals-ascend u (to_give (append_items b more) e n ∷ ts) l (tt, k))))))
give-safe p s e n ts (item (compare c) more) h k = next-safe p s e n ts (compare c) more h (λ t i. give-safe p t e n ts more i k)
give-safe p s e n ts (item (fact a b c d x) more) h k = next-safe p s e n ts (fact a b c d x) more h (λ t i. give-safe p t e n ts more i k)
give-safe p s e n ts (item (atom a b c d x) more) h k = next-safe p s e n ts (atom a b c d x) more h (λ t i. give-safe p t e n ts more i k)
give-safe p s e n ts (item (cell a b x) more) h k = next-safe p s e n ts (cell a b x) more h (λ t i. give-safe p t e n ts more i k)
