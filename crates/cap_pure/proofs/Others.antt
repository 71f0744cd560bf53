-- Statements of other kinds than a rule's.
use Rattle.std.proofs.Common.{◌≡◌, ℕ, true, false, List, [], Option, None, refl, sym, ap, subst, ◌∙◌, rules}
use Rattle.std.specs.Prelude.{Err}
use Rattle.std.specs.Global.{Vec}
use Rattle.cap_lin.specs.Linear.{Linear}
use Rattle.cap_farkas.specs.declared.cert.Cert.{Cert}
use Rattle.cap_prog.specs.declared.assertion.Comp.{Comp}
use Rattle.cap_prog.specs.declared.assertion.Assertion.{Assertion}
use Rattle.cap_prog.specs.declared.function.Statement.{Statement}
use Rattle.cap_prog.specs.declared.function.Act.{Act}
use Rattle.cap_prog.specs.declared.function.Act.TheVariants as act
use Rattle.cap_prog.specs.declared.function.Act.TheFolds.{the_lemmas}
use Rattle.cap_prog.specs.Program.{PlainProgram, Label, Block, PlainAct, set, read, write, cas, faa, dispose, alloc, call, fork, branch, loop, check, give_back}
use Rattle.cap_prog.specs.Views.{act_view, statement_view}
use Rattle.cap_goal_spec.specs.States.{PlainState, Home, PlainTask}
use Rattle.cap_goal_spec.specs.Choices.{by_set, by_alloc, by_assert, by_if, by_loop, by_turn, by_call, by_fork, by_return}
use Rattle.cap_goal.specs.Views.{is_heap_act, task_view}
use Rattle.cap_goal.specs.declared.task.Task.{Task}
use Rattle.cap_goal.specs.declared.task.Task.TheVariants as task
use Rattle.cap_goal.specs.declared.task.Home as home
use Rattle.cap_goal.specs.declared.task.Point.{Point}
use Rattle.cap_rules.specs.Attempts.{Attempt, not_applicable}
use Rattle.cap_rules.specs.Closing.{address_of}
use Rattle.cap_rules.specs.Rules.{at_statement, at_turn}
use Rattle.cap_rules_steps.specs.Walks.{Makes}
use Rattle.cap_rules_steps.specs.declared.error.RuleError.TheVariants.{NotApplicable}
use Rattle.cap_rules_steps.proofs.Walking.{inapplicable}
use Rattle.cap_pure.specs.declared.upcoming.Upcoming as next
use Rattle.cap_pure.specs.Heads.{Upcoming, upcoming_view, statement_rule, loop_rule, turning, turn_rule}

seen-act : (s : Statement) → (statement_view s).act ≡ act_view s.act
seen-act s = search (rules, the_lemmas)

pub made-none : {A : Type 0} (o : Attempt A) → o ≡ not_applicable → Makes (Err NotApplicable) o
made-none o e = subst (λ x. Makes (Err NotApplicable) x) (sym e) inapplicable

-- ---- each rule at statements of other kinds

set-other : (p : PlainProgram) (s : PlainState) (h : Home) (l : Label) (rest : Block) (ts : List PlainTask) (a : Act) → ((x : ℕ) (t : Linear) → a ≡ act.Set x t → ⊥) → at_statement p s [] by_set h l (act_view a) rest ts ≡ not_applicable
set-other p s h l rest ts a none = search (rules, the_lemmas)

pub no-set : (p : PlainProgram) (s : PlainState) (u : next.Upcoming) → ((x : ℕ) (t : Linear) → u.statement.now.act ≡ act.Set x t → ⊥) → Makes (Err NotApplicable) (statement_rule p s by_set (upcoming_view u))
no-set p s u none =
    let v = upcoming_view u in
    made-none _ (ap (λ a. at_statement p s [] by_set v.home v.label a v.rest v.tasks) (seen-act u.statement.now) ∙ set-other p s v.home v.label v.rest v.tasks u.statement.now.act none)

alloc-other : (p : PlainProgram) (s : PlainState) (h : Home) (l : Label) (rest : Block) (ts : List PlainTask) (a : Act) → ((x n : ℕ) → a ≡ act.Alloc x n → ⊥) → at_statement p s [] by_alloc h l (act_view a) rest ts ≡ not_applicable
alloc-other p s h l rest ts a none = search (rules, the_lemmas)

pub no-alloc : (p : PlainProgram) (s : PlainState) (u : next.Upcoming) → ((x n : ℕ) → u.statement.now.act ≡ act.Alloc x n → ⊥) → Makes (Err NotApplicable) (statement_rule p s by_alloc (upcoming_view u))
no-alloc p s u none =
    let v = upcoming_view u in
    made-none _ (ap (λ a. at_statement p s [] by_alloc v.home v.label a v.rest v.tasks) (seen-act u.statement.now) ∙ alloc-other p s v.home v.label v.rest v.tasks u.statement.now.act none)

assert-other : (p : PlainProgram) (s : PlainState) (certs : List Cert) (h : Home) (l : Label) (rest : Block) (ts : List PlainTask) (a : Act) → ((c : Comp) → a ≡ act.Assert c → ⊥) → at_statement p s [] (by_assert certs) h l (act_view a) rest ts ≡ not_applicable
assert-other p s certs h l rest ts a none = search (rules, the_lemmas)

pub no-assert : (p : PlainProgram) (s : PlainState) (certs : List Cert) (u : next.Upcoming) → ((c : Comp) → u.statement.now.act ≡ act.Assert c → ⊥) → Makes (Err NotApplicable) (statement_rule p s (by_assert certs) (upcoming_view u))
no-assert p s certs u none =
    let v = upcoming_view u in
    made-none _ (ap (λ a. at_statement p s [] (by_assert certs) v.home v.label a v.rest v.tasks) (seen-act u.statement.now) ∙ assert-other p s certs v.home v.label v.rest v.tasks u.statement.now.act none)

if-other : (p : PlainProgram) (s : PlainState) (h : Home) (l : Label) (rest : Block) (ts : List PlainTask) (a : Act) → ((c : Comp) (one two : Vec Statement) → a ≡ act.If c one two → ⊥) → at_statement p s [] by_if h l (act_view a) rest ts ≡ not_applicable
if-other p s h l rest ts a none = search (rules, the_lemmas)

pub no-if : (p : PlainProgram) (s : PlainState) (u : next.Upcoming) → ((c : Comp) (one two : Vec Statement) → u.statement.now.act ≡ act.If c one two → ⊥) → Makes (Err NotApplicable) (statement_rule p s by_if (upcoming_view u))
no-if p s u none =
    let v = upcoming_view u in
    made-none _ (ap (λ a. at_statement p s [] by_if v.home v.label a v.rest v.tasks) (seen-act u.statement.now) ∙ if-other p s v.home v.label v.rest v.tasks u.statement.now.act none)

loop-other : (p : PlainProgram) (s : PlainState) (h : Home) (l : Label) (rest : Block) (ts : List PlainTask) (a : Act) → ((c : Comp) (i : Assertion) (b : Vec Statement) → a ≡ act.While c i b → ⊥) → at_statement p s [] by_loop h l (act_view a) rest ts ≡ not_applicable
loop-other p s h l rest ts a none = search (rules, the_lemmas)

pub no-loop : (p : PlainProgram) (s : PlainState) (u : next.Upcoming) → ((c : Comp) (i : Assertion) (b : Vec Statement) → u.statement.now.act ≡ act.While c i b → ⊥) → Makes (Err NotApplicable) (statement_rule p s by_loop (upcoming_view u))
no-loop p s u none =
    let v = upcoming_view u in
    made-none _ (ap (λ a. at_statement p s [] by_loop v.home v.label a v.rest v.tasks) (seen-act u.statement.now) ∙ loop-other p s v.home v.label v.rest v.tasks u.statement.now.act none)

call-other : (p : PlainProgram) (s : PlainState) (h : Home) (l : Label) (rest : Block) (ts : List PlainTask) (a : Act) → ((x : Option ℕ) (f : ℕ) (args : Vec Linear) → a ≡ act.Call x f args → ⊥) → at_statement p s [] by_call h l (act_view a) rest ts ≡ not_applicable
call-other p s h l rest ts a none = search (rules, the_lemmas)

pub no-call : (p : PlainProgram) (s : PlainState) (u : next.Upcoming) → ((x : Option ℕ) (f : ℕ) (args : Vec Linear) → u.statement.now.act ≡ act.Call x f args → ⊥) → Makes (Err NotApplicable) (statement_rule p s by_call (upcoming_view u))
no-call p s u none =
    let v = upcoming_view u in
    made-none _ (ap (λ a. at_statement p s [] by_call v.home v.label a v.rest v.tasks) (seen-act u.statement.now) ∙ call-other p s v.home v.label v.rest v.tasks u.statement.now.act none)

fork-other : (p : PlainProgram) (s : PlainState) (h : Home) (l : Label) (rest : Block) (ts : List PlainTask) (a : Act) → ((f : ℕ) (args : Vec Linear) → a ≡ act.Fork f args → ⊥) → at_statement p s [] by_fork h l (act_view a) rest ts ≡ not_applicable
fork-other p s h l rest ts a none = search (rules, the_lemmas)

pub no-fork : (p : PlainProgram) (s : PlainState) (u : next.Upcoming) → ((f : ℕ) (args : Vec Linear) → u.statement.now.act ≡ act.Fork f args → ⊥) → Makes (Err NotApplicable) (statement_rule p s by_fork (upcoming_view u))
no-fork p s u none =
    let v = upcoming_view u in
    made-none _ (ap (λ a. at_statement p s [] by_fork v.home v.label a v.rest v.tasks) (seen-act u.statement.now) ∙ fork-other p s v.home v.label v.rest v.tasks u.statement.now.act none)

return-other : (p : PlainProgram) (s : PlainState) (h : Home) (l : Label) (rest : Block) (ts : List PlainTask) (a : Act) → ((t : Linear) → a ≡ act.Return t → ⊥) → at_statement p s [] by_return h l (act_view a) rest ts ≡ not_applicable
return-other p s h l rest ts a none = search (rules, the_lemmas)

pub no-return : (p : PlainProgram) (s : PlainState) (u : next.Upcoming) → ((t : Linear) → u.statement.now.act ≡ act.Return t → ⊥) → Makes (Err NotApplicable) (statement_rule p s by_return (upcoming_view u))
no-return p s u none =
    let v = upcoming_view u in
    made-none _ (ap (λ a. at_statement p s [] by_return v.home v.label a v.rest v.tasks) (seen-act u.statement.now) ∙ return-other p s v.home v.label v.rest v.tasks u.statement.now.act none)

turn-other : (s : PlainState) (h : Home) (l : Label) (rest : Block) (ts : List PlainTask) (a : Act) → ((c : Comp) (i : Assertion) (b : Vec Statement) → a ≡ act.While c i b → ⊥) → at_turn s by_turn h l (act_view a) rest ts ≡ not_applicable
turn-other s h l rest ts a none = search (rules, the_lemmas)

pub no-turn : (s : PlainState) (u : next.Upcoming) → ((c : Comp) (i : Assertion) (b : Vec Statement) → u.statement.now.act ≡ act.While c i b → ⊥) → Makes (Err NotApplicable) (loop_rule s (upcoming_view u))
no-turn s u none =
    let v = upcoming_view u in
    made-none _ (ap (λ a. at_turn s by_turn v.home v.label a v.rest v.tasks) (seen-act u.statement.now) ∙ turn-other s v.home v.label v.rest v.tasks u.statement.now.act none)

-- ---- cells that clash

pub no-address : (a : PlainAct) → false ≡ is_heap_act a → address_of a ≡ None
no-address (set x t) h = refl
no-address (read x a) h = absurd (clash h)
  where
    clash : false ≡ true → ⊥
    clash e = cc
no-address (write a t) h = absurd (clash h)
  where
    clash : false ≡ true → ⊥
    clash e = cc
no-address (cas x a old new) h = absurd (clash h)
  where
    clash : false ≡ true → ⊥
    clash e = cc
no-address (faa x a t) h = absurd (clash h)
  where
    clash : false ≡ true → ⊥
    clash e = cc
no-address (dispose a) h = absurd (clash h)
  where
    clash : false ≡ true → ⊥
    clash e = cc
no-address (alloc x n) h = refl
no-address (call x f args) h = refl
no-address (fork f args) h = refl
no-address (branch c a b) h = refl
no-address (loop c i a) h = refl
no-address (check c) h = refl
no-address (give_back t) h = refl

true-false : true ≡ false → ⊥
true-false e = cc

-- ---- other tasks than at a loop's head

other-task : (t : Task) (ts : List PlainTask) → ((h : home.Home) (p : Point) → t ≡ task.Turn h p → ⊥) → turning (task_view t) ts ≡ None
other-task (task.Run h p) ts none = refl
other-task (task.Turn h p) ts none = absurd (none h p refl)
other-task (task.Give i e n) ts none = refl
other-task (task.Take i e l n) ts none = refl
other-task (task.Made k c e t n) ts none = refl
other-task (task.Close a n) ts none = refl
other-task (task.Shift o c m e n) ts none = refl
other-task (task.Rest j n) ts none = refl

pub no-turning : (s : PlainState) (t : Task) (ts : List PlainTask) → ((h : home.Home) (p : Point) → t ≡ task.Turn h p → ⊥) → Makes (Err NotApplicable) (turn_rule s (turning (task_view t) ts))
no-turning s t ts none = made-none _ (ap (turn_rule s) (other-task t ts none))

-- ---- nothing is ahead

pub none-ahead : (s : PlainState) (o : Option Upcoming) → o ≡ None → Makes (Err NotApplicable) (turn_rule s o)
none-ahead s o e = made-none _ (ap (turn_rule s) e)
