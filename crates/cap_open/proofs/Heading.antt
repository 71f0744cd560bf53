-- A choice that opens a region, acts on a cell or closes a region, at the heads of goals.
use Rattle.std.proofs.Common.{◌≡◌, ℕ, Bool, List, [], ◌∷◌, Option, Some, None, refl, subst, length, ◌<◌, arith}
use Rattle.cap_farkas.specs.declared.cert.Cert.{Cert}
use Rattle.cap_prog.specs.Program.{none, item, done, first, Block, PlainProgram}
use Rattle.cap_prog.specs.declared.function.Statement.{Statement}
use Rattle.cap_goal.specs.declared.task.Point.{Point}
use Rattle.cap_rules_steps.specs.Goals.{ahead, point_view}
use Rattle.cap_goal_spec.specs.States.{Home, PlainState, PlainTask, to_run, to_turn, to_give, to_take, to_make, to_close, to_shift, to_rest, PlainGoal}
use Rattle.cap_goal_spec.specs.Choices.{PlainChoice, by_enter, by_act, by_pick, by_shift}
use Rattle.cap_rules.specs.Rules.{at_tasks, rule}
use Rattle.std.specs.Prelude.{Ok, Err}
use Rattle.std.specs.Borrow.{Bor}
use Rattle.cap_lin.specs.declared.row.Row.{Row}
use Rattle.cap_goal.specs.declared.task.Task.{Task}
use Rattle.cap_goal.specs.Views.{tasks_view}
use Rattle.cap_rules.specs.Attempts.{not_applicable}
use Rattle.cap_rules_steps.specs.Walks.{Makes, Claims}
use Rattle.cap_rules_steps.specs.declared.error.RuleError.TheVariants.{NotApplicable}
use Rattle.cap_rules_steps.proofs.Walking.{inapplicable, weaker, done_as}
use Rattle.cap_open.specs.Heads.{IsOpening, Ahead, statement_ahead, ahead_in, ahead_at, ahead_of, run_at, enter_first, act_first, closing_of, pick_first, shifting_of, shift_first, Taken, rule_in, taken}

pub enters : (p : PlainProgram) (s : PlainState) (marks : List Bool) (i : ℕ) (cs : List Cert) (ts : List PlainTask) → enter_first p s i ts ≡ at_tasks p s marks (by_enter i cs) ts
enters p s marks i cs [] = refl
enters p s marks i cs (to_run h done ∷ ts) = refl
enters p s marks i cs (to_run h (first l a rest) ∷ ts) = refl
enters p s marks i cs (to_turn h done ∷ ts) = refl
enters p s marks i cs (to_turn h (first l a rest) ∷ ts) = refl
enters p s marks i cs (to_give items e n ∷ ts) = refl
enters p s marks i cs (to_take none e left n ∷ ts) = refl
enters p s marks i cs (to_take (item i' more) e left n ∷ ts) = refl
enters p s marks i cs (to_make k c e t n ∷ ts) = refl
enters p s marks i cs (to_close any n ∷ ts) = refl
enters p s marks i cs (to_shift o' c e m n ∷ ts) = refl
enters p s marks i cs (to_rest j' n ∷ ts) = refl

pub acts : (p : PlainProgram) (s : PlainState) (marks : List Bool) (j : ℕ) (cs : List Cert) (ms : List (Option Cert)) (ts : List PlainTask) → act_first s j marks ts ≡ at_tasks p s marks (by_act j cs ms) ts
acts p s marks j cs ms [] = refl
acts p s marks j cs ms (to_run h done ∷ ts) = refl
acts p s marks j cs ms (to_run h (first l a rest) ∷ ts) = refl
acts p s marks j cs ms (to_turn h done ∷ ts) = refl
acts p s marks j cs ms (to_turn h (first l a rest) ∷ ts) = refl
acts p s marks j cs ms (to_give items e n ∷ ts) = refl
acts p s marks j cs ms (to_take none e left n ∷ ts) = refl
acts p s marks j cs ms (to_take (item i' more) e left n ∷ ts) = refl
acts p s marks j cs ms (to_make k c e t n ∷ ts) = refl
acts p s marks j cs ms (to_close any n ∷ ts) = refl
acts p s marks j cs ms (to_shift o' c e m n ∷ ts) = refl
acts p s marks j cs ms (to_rest j' n ∷ ts) = refl

pub picks : (p : PlainProgram) (s : PlainState) (marks : List Bool) (o b m' : ℕ) (ts : List PlainTask) → pick_first p s o b m' ts ≡ at_tasks p s marks (by_pick o b m') ts
picks p s marks o b m' [] = refl
picks p s marks o b m' (to_run h done ∷ ts) = refl
picks p s marks o b m' (to_run h (first l a rest) ∷ ts) = refl
picks p s marks o b m' (to_turn h done ∷ ts) = refl
picks p s marks o b m' (to_turn h (first l a rest) ∷ ts) = refl
picks p s marks o b m' (to_give items e n ∷ ts) = refl
picks p s marks o b m' (to_take none e left n ∷ ts) = refl
picks p s marks o b m' (to_take (item i' more) e left n ∷ ts) = refl
picks p s marks o b m' (to_make k c e t n ∷ ts) = refl
picks p s marks o b m' (to_close any n ∷ ts) = refl
picks p s marks o b m' (to_shift o' c e m n ∷ ts) = refl
picks p s marks o b m' (to_rest j' n ∷ ts) = refl

pub shifts : (p : PlainProgram) (s : PlainState) (marks : List Bool) (cs : List Cert) (spans : List ℕ) (ts : List PlainTask) → shift_first p s spans ts ≡ at_tasks p s marks (by_shift cs spans) ts
shifts p s marks cs spans [] = refl
shifts p s marks cs spans (to_run h done ∷ ts) = refl
shifts p s marks cs spans (to_run h (first l a rest) ∷ ts) = refl
shifts p s marks cs spans (to_turn h done ∷ ts) = refl
shifts p s marks cs spans (to_turn h (first l a rest) ∷ ts) = refl
shifts p s marks cs spans (to_give items e n ∷ ts) = refl
shifts p s marks cs spans (to_take none e left n ∷ ts) = refl
shifts p s marks cs spans (to_take (item i' more) e left n ∷ ts) = refl
shifts p s marks cs spans (to_make k c e t n ∷ ts) = refl
shifts p s marks cs spans (to_close any n ∷ ts) = refl
shifts p s marks cs spans (to_shift o' c e m n ∷ ts) = refl
shifts p s marks cs spans (to_rest j' n ∷ ts) = refl

-- a choice of one of the four rules does what the rule says
pub by_rule : (p : PlainProgram) (g : PlainGoal) (c : PlainChoice) (marks : List Bool) → IsOpening c → taken p g.state marks g.tasks (rule_in c) ≡ rule p g c marks
by_rule p g (by_enter i cs) marks h = enters p g.state marks i cs g.tasks
by_rule p g (by_act j cs ms) marks h = acts p g.state marks j cs ms g.tasks
by_rule p g (by_pick o b m) marks h = picks p g.state marks o b m g.tasks
by_rule p g (by_shift cs spans) marks h = shifts p g.state marks cs spans g.tasks
by_rule p g c marks h = absurd h

-- ---- heads

pub first_ahead : (h : Home) (b : Block) (x : Bor Statement × Point) (a : Ahead) → b ≡ ahead (Some x) → a ≡ statement_ahead h x.0.now (point_view x.1) → Makes (Ok a) (ahead_in h b)
first_ahead h b x a e q = rw (e, q) (done_as _ _ refl)

pub no_run : (t : PlainTask) → None ≡ run_at t → Makes (Err NotApplicable) (ahead_at t)
no_run (to_run h b) e = absurd (clash e)
  where
    clash : {A : Type 0} {x : A} → None ≡ Some x → ⊥
    clash q = cc
no_run t e = inapplicable

pub no_tasks : (ts : List Task) → length ts < 1 → Makes (Err NotApplicable) (ahead_of (tasks_view ts))
no_tasks [] h = inapplicable
no_tasks (t ∷ ts) h = absurd (omega arith)

pub none_to_close : (ts : List Task) → length ts < 1 → Makes (Err NotApplicable) (closing_of (tasks_view ts))
none_to_close [] h = inapplicable
none_to_close (t ∷ ts) h = absurd (omega arith)

pub none_to_shift : (ts : List Task) → length ts < 1 → Makes (Err NotApplicable) (shifting_of (tasks_view ts))
none_to_shift [] h = inapplicable
none_to_shift (t ∷ ts) h = absurd (omega arith)

pub untaken : (p : PlainProgram) (s : PlainState) (marks : List Bool) (ts : List PlainTask) (x : Option Taken) (ls : List (List Row)) → None ≡ x → Claims (Err NotApplicable) ls ls (taken p s marks ts x)
untaken p s marks ts x ls e = subst (λ y. Claims (Err NotApplicable) ls ls (taken p s marks ts y)) e (weaker (Err NotApplicable) not_applicable ls inapplicable)
