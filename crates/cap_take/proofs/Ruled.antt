-- Choices of rules on assertions, with their certificates and without.
use Rattle.std.proofs.Common.{◌≡◌, ℕ, Bool, List, [], ◌∷◌, refl}
use Rattle.cap_farkas.specs.declared.cert.Cert.{Cert}
use Rattle.cap_prog.specs.Program.{compare, choose, fact, atom, cell, none, item, done, first, PlainProgram}
use Rattle.cap_goal_spec.specs.States.{PlainState, PlainTask, to_run, to_turn, to_give, to_take, to_make, to_close, to_shift, to_rest, PlainGoal}
use Rattle.cap_goal_spec.specs.Choices.{PlainChoice, by_give, by_fact, by_cases, by_cell, by_region, by_guard, by_convert, by_create, by_made}
use Rattle.cap_rules.specs.Rules.{at_tasks, rule}
use Rattle.cap_take.specs.Heads.{IsTaking, taking_of, tasks_taken, taken_by}
use Rattle.cap_take.specs.declared.heads.Taking.TheVariants as rule

give-ruled : (p : PlainProgram) (s : PlainState) (marks : List Bool) (ts : List PlainTask) → tasks_taken p s rule.Give ts ≡ at_tasks p s marks by_give ts
give-ruled p s marks [] = refl
give-ruled p s marks (to_run h done ∷ ts) = refl
give-ruled p s marks (to_run h (first l a rest) ∷ ts) = refl
give-ruled p s marks (to_turn h done ∷ ts) = refl
give-ruled p s marks (to_turn h (first l a rest) ∷ ts) = refl
give-ruled p s marks (to_give items e n ∷ ts) = refl
give-ruled p s marks (to_take none e left n ∷ ts) = refl
give-ruled p s marks (to_take (item (compare c) more) e left m ∷ ts) = refl
give-ruled p s marks (to_take (item (choose c a b) more) e left m ∷ ts) = refl
give-ruled p s marks (to_take (item (fact place n k args x) more) e left m ∷ ts) = refl
give-ruled p s marks (to_take (item (atom place n k i asked) more) e left m ∷ ts) = refl
give-ruled p s marks (to_take (item (cell place a x) more) e left m ∷ ts) = refl
give-ruled p s marks (to_make k c e t n ∷ ts) = refl
give-ruled p s marks (to_close any n ∷ ts) = refl
give-ruled p s marks (to_shift o c m e n ∷ ts) = refl
give-ruled p s marks (to_rest j n ∷ ts) = refl

fact-ruled : (p : PlainProgram) (s : PlainState) (marks : List Bool) (cs : List Cert) (ts : List PlainTask) → tasks_taken p s rule.Fact ts ≡ at_tasks p s marks (by_fact cs) ts
fact-ruled p s marks cs [] = refl
fact-ruled p s marks cs (to_run h done ∷ ts) = refl
fact-ruled p s marks cs (to_run h (first l a rest) ∷ ts) = refl
fact-ruled p s marks cs (to_turn h done ∷ ts) = refl
fact-ruled p s marks cs (to_turn h (first l a rest) ∷ ts) = refl
fact-ruled p s marks cs (to_give items e n ∷ ts) = refl
fact-ruled p s marks cs (to_take none e left n ∷ ts) = refl
fact-ruled p s marks cs (to_take (item (compare c) more) e left m ∷ ts) = refl
fact-ruled p s marks cs (to_take (item (choose c a b) more) e left m ∷ ts) = refl
fact-ruled p s marks cs (to_take (item (fact place n k args x) more) e left m ∷ ts) = refl
fact-ruled p s marks cs (to_take (item (atom place n k i asked) more) e left m ∷ ts) = refl
fact-ruled p s marks cs (to_take (item (cell place a x) more) e left m ∷ ts) = refl
fact-ruled p s marks cs (to_make k c e t n ∷ ts) = refl
fact-ruled p s marks cs (to_close any n ∷ ts) = refl
fact-ruled p s marks cs (to_shift o c m e n ∷ ts) = refl
fact-ruled p s marks cs (to_rest j n ∷ ts) = refl

cases-ruled : (p : PlainProgram) (s : PlainState) (marks : List Bool) (ts : List PlainTask) → tasks_taken p s rule.Cases ts ≡ at_tasks p s marks by_cases ts
cases-ruled p s marks [] = refl
cases-ruled p s marks (to_run h done ∷ ts) = refl
cases-ruled p s marks (to_run h (first l a rest) ∷ ts) = refl
cases-ruled p s marks (to_turn h done ∷ ts) = refl
cases-ruled p s marks (to_turn h (first l a rest) ∷ ts) = refl
cases-ruled p s marks (to_give items e n ∷ ts) = refl
cases-ruled p s marks (to_take none e left n ∷ ts) = refl
cases-ruled p s marks (to_take (item (compare c) more) e left m ∷ ts) = refl
cases-ruled p s marks (to_take (item (choose c a b) more) e left m ∷ ts) = refl
cases-ruled p s marks (to_take (item (fact place n k args x) more) e left m ∷ ts) = refl
cases-ruled p s marks (to_take (item (atom place n k i asked) more) e left m ∷ ts) = refl
cases-ruled p s marks (to_take (item (cell place a x) more) e left m ∷ ts) = refl
cases-ruled p s marks (to_make k c e t n ∷ ts) = refl
cases-ruled p s marks (to_close any n ∷ ts) = refl
cases-ruled p s marks (to_shift o c m e n ∷ ts) = refl
cases-ruled p s marks (to_rest j n ∷ ts) = refl

cell-ruled : (p : PlainProgram) (s : PlainState) (marks : List Bool) (y : ℕ) (cs : List Cert) (ts : List PlainTask) → tasks_taken p s (rule.Cell y) ts ≡ at_tasks p s marks (by_cell y cs) ts
cell-ruled p s marks y cs [] = refl
cell-ruled p s marks y cs (to_run h done ∷ ts) = refl
cell-ruled p s marks y cs (to_run h (first l a rest) ∷ ts) = refl
cell-ruled p s marks y cs (to_turn h done ∷ ts) = refl
cell-ruled p s marks y cs (to_turn h (first l a rest) ∷ ts) = refl
cell-ruled p s marks y cs (to_give items e n ∷ ts) = refl
cell-ruled p s marks y cs (to_take none e left n ∷ ts) = refl
cell-ruled p s marks y cs (to_take (item (compare c) more) e left m ∷ ts) = refl
cell-ruled p s marks y cs (to_take (item (choose c a b) more) e left m ∷ ts) = refl
cell-ruled p s marks y cs (to_take (item (fact place n k args x) more) e left m ∷ ts) = refl
cell-ruled p s marks y cs (to_take (item (atom place n k i asked) more) e left m ∷ ts) = refl
cell-ruled p s marks y cs (to_take (item (cell place a x) more) e left m ∷ ts) = refl
cell-ruled p s marks y cs (to_make k c e t n ∷ ts) = refl
cell-ruled p s marks y cs (to_close any n ∷ ts) = refl
cell-ruled p s marks y cs (to_shift o c m e n ∷ ts) = refl
cell-ruled p s marks y cs (to_rest j n ∷ ts) = refl

region-ruled : (p : PlainProgram) (s : PlainState) (marks : List Bool) (y : ℕ) (cs : List Cert) (ts : List PlainTask) → tasks_taken p s (rule.Region y) ts ≡ at_tasks p s marks (by_region y cs) ts
region-ruled p s marks y cs [] = refl
region-ruled p s marks y cs (to_run h done ∷ ts) = refl
region-ruled p s marks y cs (to_run h (first l a rest) ∷ ts) = refl
region-ruled p s marks y cs (to_turn h done ∷ ts) = refl
region-ruled p s marks y cs (to_turn h (first l a rest) ∷ ts) = refl
region-ruled p s marks y cs (to_give items e n ∷ ts) = refl
region-ruled p s marks y cs (to_take none e left n ∷ ts) = refl
region-ruled p s marks y cs (to_take (item (compare c) more) e left m ∷ ts) = refl
region-ruled p s marks y cs (to_take (item (choose c a b) more) e left m ∷ ts) = refl
region-ruled p s marks y cs (to_take (item (fact place n k args x) more) e left m ∷ ts) = refl
region-ruled p s marks y cs (to_take (item (atom place n k i asked) more) e left m ∷ ts) = refl
region-ruled p s marks y cs (to_take (item (cell place a x) more) e left m ∷ ts) = refl
region-ruled p s marks y cs (to_make k c e t n ∷ ts) = refl
region-ruled p s marks y cs (to_close any n ∷ ts) = refl
region-ruled p s marks y cs (to_shift o c m e n ∷ ts) = refl
region-ruled p s marks y cs (to_rest j n ∷ ts) = refl

guard-ruled : (p : PlainProgram) (s : PlainState) (marks : List Bool) (y z : ℕ) (cs : List Cert) (ts : List PlainTask) → tasks_taken p s (rule.Guard y z) ts ≡ at_tasks p s marks (by_guard y z cs) ts
guard-ruled p s marks y z cs [] = refl
guard-ruled p s marks y z cs (to_run h done ∷ ts) = refl
guard-ruled p s marks y z cs (to_run h (first l a rest) ∷ ts) = refl
guard-ruled p s marks y z cs (to_turn h done ∷ ts) = refl
guard-ruled p s marks y z cs (to_turn h (first l a rest) ∷ ts) = refl
guard-ruled p s marks y z cs (to_give items e n ∷ ts) = refl
guard-ruled p s marks y z cs (to_take none e left n ∷ ts) = refl
guard-ruled p s marks y z cs (to_take (item (compare c) more) e left m ∷ ts) = refl
guard-ruled p s marks y z cs (to_take (item (choose c a b) more) e left m ∷ ts) = refl
guard-ruled p s marks y z cs (to_take (item (fact place n k args x) more) e left m ∷ ts) = refl
guard-ruled p s marks y z cs (to_take (item (atom place n k i asked) more) e left m ∷ ts) = refl
guard-ruled p s marks y z cs (to_take (item (cell place a x) more) e left m ∷ ts) = refl
guard-ruled p s marks y z cs (to_make k c e t n ∷ ts) = refl
guard-ruled p s marks y z cs (to_close any n ∷ ts) = refl
guard-ruled p s marks y z cs (to_shift o c m e n ∷ ts) = refl
guard-ruled p s marks y z cs (to_rest j n ∷ ts) = refl

convert-ruled : (p : PlainProgram) (s : PlainState) (marks : List Bool) (y z : ℕ) (cs : List Cert) (ts : List PlainTask) → tasks_taken p s (rule.Convert y z) ts ≡ at_tasks p s marks (by_convert y z cs) ts
convert-ruled p s marks y z cs [] = refl
convert-ruled p s marks y z cs (to_run h done ∷ ts) = refl
convert-ruled p s marks y z cs (to_run h (first l a rest) ∷ ts) = refl
convert-ruled p s marks y z cs (to_turn h done ∷ ts) = refl
convert-ruled p s marks y z cs (to_turn h (first l a rest) ∷ ts) = refl
convert-ruled p s marks y z cs (to_give items e n ∷ ts) = refl
convert-ruled p s marks y z cs (to_take none e left n ∷ ts) = refl
convert-ruled p s marks y z cs (to_take (item (compare c) more) e left m ∷ ts) = refl
convert-ruled p s marks y z cs (to_take (item (choose c a b) more) e left m ∷ ts) = refl
convert-ruled p s marks y z cs (to_take (item (fact place n k args x) more) e left m ∷ ts) = refl
convert-ruled p s marks y z cs (to_take (item (atom place n k i asked) more) e left m ∷ ts) = refl
convert-ruled p s marks y z cs (to_take (item (cell place a x) more) e left m ∷ ts) = refl
convert-ruled p s marks y z cs (to_make k c e t n ∷ ts) = refl
convert-ruled p s marks y z cs (to_close any n ∷ ts) = refl
convert-ruled p s marks y z cs (to_shift o c m e n ∷ ts) = refl
convert-ruled p s marks y z cs (to_rest j n ∷ ts) = refl

create-ruled : (p : PlainProgram) (s : PlainState) (marks : List Bool) (y : ℕ) (ts : List PlainTask) → tasks_taken p s (rule.Create y) ts ≡ at_tasks p s marks (by_create y) ts
create-ruled p s marks y [] = refl
create-ruled p s marks y (to_run h done ∷ ts) = refl
create-ruled p s marks y (to_run h (first l a rest) ∷ ts) = refl
create-ruled p s marks y (to_turn h done ∷ ts) = refl
create-ruled p s marks y (to_turn h (first l a rest) ∷ ts) = refl
create-ruled p s marks y (to_give items e n ∷ ts) = refl
create-ruled p s marks y (to_take none e left n ∷ ts) = refl
create-ruled p s marks y (to_take (item (compare c) more) e left m ∷ ts) = refl
create-ruled p s marks y (to_take (item (choose c a b) more) e left m ∷ ts) = refl
create-ruled p s marks y (to_take (item (fact place n k args x) more) e left m ∷ ts) = refl
create-ruled p s marks y (to_take (item (atom place n k i asked) more) e left m ∷ ts) = refl
create-ruled p s marks y (to_take (item (cell place a x) more) e left m ∷ ts) = refl
create-ruled p s marks y (to_make k c e t n ∷ ts) = refl
create-ruled p s marks y (to_close any n ∷ ts) = refl
create-ruled p s marks y (to_shift o c m e n ∷ ts) = refl
create-ruled p s marks y (to_rest j n ∷ ts) = refl

made-ruled : (p : PlainProgram) (s : PlainState) (marks : List Bool) (cs : List Cert) (ts : List PlainTask) → tasks_taken p s rule.Made ts ≡ at_tasks p s marks (by_made cs) ts
made-ruled p s marks cs [] = refl
made-ruled p s marks cs (to_run h done ∷ ts) = refl
made-ruled p s marks cs (to_run h (first l a rest) ∷ ts) = refl
made-ruled p s marks cs (to_turn h done ∷ ts) = refl
made-ruled p s marks cs (to_turn h (first l a rest) ∷ ts) = refl
made-ruled p s marks cs (to_give items e n ∷ ts) = refl
made-ruled p s marks cs (to_take none e left n ∷ ts) = refl
made-ruled p s marks cs (to_take (item (compare c) more) e left m ∷ ts) = refl
made-ruled p s marks cs (to_take (item (choose c a b) more) e left m ∷ ts) = refl
made-ruled p s marks cs (to_take (item (fact place n k args x) more) e left m ∷ ts) = refl
made-ruled p s marks cs (to_take (item (atom place n k i asked) more) e left m ∷ ts) = refl
made-ruled p s marks cs (to_take (item (cell place a x) more) e left m ∷ ts) = refl
made-ruled p s marks cs (to_make k c e t n ∷ ts) = refl
made-ruled p s marks cs (to_close any n ∷ ts) = refl
made-ruled p s marks cs (to_shift o c m e n ∷ ts) = refl
made-ruled p s marks cs (to_rest j n ∷ ts) = refl

pub by_rule : (p : PlainProgram) (g : PlainGoal) (c : PlainChoice) (marks : List Bool) → IsTaking c → taken_by p g.state (taking_of c) g.tasks ≡ rule p g c marks
by_rule p g by_give marks h = give-ruled p g.state marks g.tasks
by_rule p g (by_fact cs) marks h = fact-ruled p g.state marks cs g.tasks
by_rule p g by_cases marks h = cases-ruled p g.state marks g.tasks
by_rule p g (by_cell y cs) marks h = cell-ruled p g.state marks y cs g.tasks
by_rule p g (by_region y cs) marks h = region-ruled p g.state marks y cs g.tasks
by_rule p g (by_guard y z cs) marks h = guard-ruled p g.state marks y z cs g.tasks
by_rule p g (by_convert y z cs) marks h = convert-ruled p g.state marks y z cs g.tasks
by_rule p g (by_create y) marks h = create-ruled p g.state marks y g.tasks
by_rule p g (by_made cs) marks h = made-ruled p g.state marks cs g.tasks
by_rule p g c marks h = absurd h
