-- A choice at a statement, at a loop's head or at contradictory rows, at the heads of goals.
use Rattle.std.proofs.Common.{◌≡◌, ℕ, ◌<◌, List, [], ◌∷◌, length, refl, arith}
use Rattle.std.specs.Prelude.{Err}
use Rattle.cap_lin.specs.declared.row.Row.{Row}
use Rattle.cap_farkas.specs.declared.cert.Cert.{Cert}
use Rattle.cap_prog.specs.Program.{none, item, done, first, PlainProgram}
use Rattle.cap_goal_spec.specs.States.{PlainState, PlainTask, to_run, to_turn, to_give, to_take, to_make, to_close, to_shift, to_rest, PlainGoal}
use Rattle.cap_goal_spec.specs.Choices.{PlainChoice, by_absurd, by_clash, by_set, by_alloc, by_assert, by_if, by_loop, by_turn, by_call, by_fork, by_return}
use Rattle.cap_goal.specs.declared.task.Task.{Task}
use Rattle.cap_goal.specs.Views.{tasks_view}
use Rattle.cap_rules.specs.Attempts.{not_applicable}
use Rattle.cap_rules.specs.Answers.{marks_of}
use Rattle.cap_rules.specs.Rules.{rule}
use Rattle.cap_rules_steps.specs.Walks.{Claims}
use Rattle.cap_rules_steps.specs.declared.error.RuleError.TheVariants.{NotApplicable}
use Rattle.cap_rules_steps.proofs.Walking.{inapplicable, weaker}
use Rattle.cap_pure.specs.Heads.{IsPure, running, run_rule, tasks_rule}

clashes : (p : PlainProgram) (s : PlainState) (i j : ℕ) (cs : List Cert) (t : PlainTask) (ts : List PlainTask) → run_rule p s (by_clash i j cs) (running t ts) ≡ tasks_rule p s (by_clash i j cs) (t ∷ ts)
clashes p s i j cs (to_run h done) ts = refl
clashes p s i j cs (to_run h (first l a rest)) ts = refl
clashes p s i j cs (to_turn h done) ts = refl
clashes p s i j cs (to_turn h (first l a rest)) ts = refl
clashes p s i j cs (to_give items e n) ts = refl
clashes p s i j cs (to_take none e left n) ts = refl
clashes p s i j cs (to_take (item i' more) e left n) ts = refl
clashes p s i j cs (to_make k c e t n) ts = refl
clashes p s i j cs (to_close any n) ts = refl
clashes p s i j cs (to_shift o c m e n) ts = refl
clashes p s i j cs (to_rest j' n) ts = refl

sets : (p : PlainProgram) (s : PlainState) (t : PlainTask) (ts : List PlainTask) → run_rule p s by_set (running t ts) ≡ tasks_rule p s by_set (t ∷ ts)
sets p s (to_run h done) ts = refl
sets p s (to_run h (first l a rest)) ts = refl
sets p s (to_turn h done) ts = refl
sets p s (to_turn h (first l a rest)) ts = refl
sets p s (to_give items e n) ts = refl
sets p s (to_take none e left n) ts = refl
sets p s (to_take (item i' more) e left n) ts = refl
sets p s (to_make k c e t n) ts = refl
sets p s (to_close any n) ts = refl
sets p s (to_shift o c m e n) ts = refl
sets p s (to_rest j' n) ts = refl

allocates : (p : PlainProgram) (s : PlainState) (t : PlainTask) (ts : List PlainTask) → run_rule p s by_alloc (running t ts) ≡ tasks_rule p s by_alloc (t ∷ ts)
allocates p s (to_run h done) ts = refl
allocates p s (to_run h (first l a rest)) ts = refl
allocates p s (to_turn h done) ts = refl
allocates p s (to_turn h (first l a rest)) ts = refl
allocates p s (to_give items e n) ts = refl
allocates p s (to_take none e left n) ts = refl
allocates p s (to_take (item i' more) e left n) ts = refl
allocates p s (to_make k c e t n) ts = refl
allocates p s (to_close any n) ts = refl
allocates p s (to_shift o c m e n) ts = refl
allocates p s (to_rest j' n) ts = refl

asserts : (p : PlainProgram) (s : PlainState) (cs : List Cert) (t : PlainTask) (ts : List PlainTask) → run_rule p s (by_assert cs) (running t ts) ≡ tasks_rule p s (by_assert cs) (t ∷ ts)
asserts p s cs (to_run h done) ts = refl
asserts p s cs (to_run h (first l a rest)) ts = refl
asserts p s cs (to_turn h done) ts = refl
asserts p s cs (to_turn h (first l a rest)) ts = refl
asserts p s cs (to_give items e n) ts = refl
asserts p s cs (to_take none e left n) ts = refl
asserts p s cs (to_take (item i' more) e left n) ts = refl
asserts p s cs (to_make k c e t n) ts = refl
asserts p s cs (to_close any n) ts = refl
asserts p s cs (to_shift o c m e n) ts = refl
asserts p s cs (to_rest j' n) ts = refl

calls : (p : PlainProgram) (s : PlainState) (t : PlainTask) (ts : List PlainTask) → run_rule p s by_call (running t ts) ≡ tasks_rule p s by_call (t ∷ ts)
calls p s (to_run h done) ts = refl
calls p s (to_run h (first l a rest)) ts = refl
calls p s (to_turn h done) ts = refl
calls p s (to_turn h (first l a rest)) ts = refl
calls p s (to_give items e n) ts = refl
calls p s (to_take none e left n) ts = refl
calls p s (to_take (item i' more) e left n) ts = refl
calls p s (to_make k c e t n) ts = refl
calls p s (to_close any n) ts = refl
calls p s (to_shift o c m e n) ts = refl
calls p s (to_rest j' n) ts = refl

forks : (p : PlainProgram) (s : PlainState) (t : PlainTask) (ts : List PlainTask) → run_rule p s by_fork (running t ts) ≡ tasks_rule p s by_fork (t ∷ ts)
forks p s (to_run h done) ts = refl
forks p s (to_run h (first l a rest)) ts = refl
forks p s (to_turn h done) ts = refl
forks p s (to_turn h (first l a rest)) ts = refl
forks p s (to_give items e n) ts = refl
forks p s (to_take none e left n) ts = refl
forks p s (to_take (item i' more) e left n) ts = refl
forks p s (to_make k c e t n) ts = refl
forks p s (to_close any n) ts = refl
forks p s (to_shift o c m e n) ts = refl
forks p s (to_rest j' n) ts = refl

returns : (p : PlainProgram) (s : PlainState) (t : PlainTask) (ts : List PlainTask) → run_rule p s by_return (running t ts) ≡ tasks_rule p s by_return (t ∷ ts)
returns p s (to_run h done) ts = refl
returns p s (to_run h (first l a rest)) ts = refl
returns p s (to_turn h done) ts = refl
returns p s (to_turn h (first l a rest)) ts = refl
returns p s (to_give items e n) ts = refl
returns p s (to_take none e left n) ts = refl
returns p s (to_take (item i' more) e left n) ts = refl
returns p s (to_make k c e t n) ts = refl
returns p s (to_close any n) ts = refl
returns p s (to_shift o c m e n) ts = refl
returns p s (to_rest j' n) ts = refl

-- no such choice has marks
pub by_rule : (p : PlainProgram) (g : PlainGoal) (c : PlainChoice) → IsPure c → tasks_rule p g.state c g.tasks ≡ rule p g c (marks_of c)
by_rule p g (by_absurd c) h = refl
by_rule p g (by_clash i j cs) h = refl
by_rule p g by_set h = refl
by_rule p g by_alloc h = refl
by_rule p g (by_assert cs) h = refl
by_rule p g by_if h = refl
by_rule p g by_loop h = refl
by_rule p g by_call h = refl
by_rule p g by_fork h = refl
by_rule p g by_return h = refl
by_rule p g by_turn h = refl
by_rule p g c h = absurd h

-- ---- without a head

pub unmet : (ls : List (List Row)) → Claims {A = List PlainGoal} (Err NotApplicable) ls ls not_applicable
unmet ls = weaker (Err NotApplicable) not_applicable ls inapplicable

pub no_tasks : (p : PlainProgram) (s : PlainState) (c : PlainChoice) (ts : List Task) (ls : List (List Row)) → length ts < 1 → Claims (Err NotApplicable) ls ls (tasks_rule p s c (tasks_view ts))
no_tasks p s c [] ls h = unmet ls
no_tasks p s c (t ∷ ts) ls h = absurd (omega arith)
