-- Tasks that wait still fit once the state has grown, and make goals that are kept.
use Rattle.std.proofs.Common.{◌≡◌, ◌≤◌, ℕ, ◌+◌, List, [], ◌∷◌, length, Option, Some, None, Bool, true, false, sym, ◌∙◌, subst, arith}
use Rattle.std.specs.Prelude.{◌==◌, slice_get, IsSomeAnd, if◌then◌else◌, option_to_list}
use Rattle.std.specs.List.{AllByRecursion}
use Rattle.cap_fm_spec.proofs.Lists.{each-map}
use Rattle.cap_prog.specs.Program.{Items, none, item, PlainRegionType, Block, PlainFunction, PlainProgram}
use Rattle.cap_goal_spec.specs.States.{PlainFact, PlainEnv, PlainState, Home, PlainTask, to_run, to_turn, to_give, to_take, to_make, to_close, to_shift, to_rest, PlainGoal, goal, goal_of, goals_of}
use Rattle.cap_goal_spec.specs.Fits.{StateFits, RunFits, ItemsFitEnv, CaseEnvFits, ShiftFits, TaskFits, WaitingFits}
use Rattle.cap_rules.specs.Rules.{leaves}
use Rattle.cap_rules_fits.specs.Kept.{ChecksNoMove, ChecksFirst, IsKept, RootIsKept}
use Rattle.cap_rules_fits.proofs.Wider.{some-weaker}
use Rattle.cap_rules_fits.proofs.Values.{wider-below}
use Rattle.cap_rules_fits.proofs.Growing.{env-stays, Grows, Next}
use Rattle.cap_rules_fits.proofs.Reaching.{Reaches, at}

-- ---- in a state that has grown

items-stay : (p : PlainProgram) (items : Items) (x y : PlainEnv) → length y ≡ length x → ItemsFitEnv p x items → ItemsFitEnv p y items
items-stay p items x y e h = record { scope = h.scope; names = h.names ∙ sym e; each = h.each }

pub run-stays : (p : PlainProgram) (s t : PlainState) (home : Home) (b : Block) (f : PlainFunction) → Grows s t → RunFits p s home b f → RunFits p t home b f
run-stays p s t home b f g h = record { store = g.store ∙ h.store; fixed = let m = g.sorts in let l = h.fixed in omega arith; statements = h.statements; closing = h.closing }

case-stays : (s t : PlainState) (k : PlainRegionType) (c e : ℕ) → Grows s t → CaseEnvFits s k c e → CaseEnvFits t k c e
case-stays s t k c e g h =
    some-weaker (slice_get k.cases c) _ _
    (λ x i. env-stays (λ env. length env ≡ k.params + length x.names) (λ a b l j. l ∙ j) s.envs t.envs e g.envs i) h

-- a task that waits and checks no move
pub task-stays : (p : PlainProgram) (s t : PlainState) (x : PlainTask) → Grows s t → ChecksNoMove x → WaitingFits p s x → WaitingFits p t x
task-stays p s t (to_run home b) g n h = some-weaker (slice_get p.functions home.function) _ _ (λ f i. run-stays p s t home b f g i) h
task-stays p s t (to_turn home b) g n h = (some-weaker (slice_get p.functions home.function) _ _ (λ f i. run-stays p s t home b f g i) h.0, h.1)
task-stays p s t (to_give items e m) g n h = env-stays (λ env. ItemsFitEnv p env items) (λ a b l j. items-stay p items a b l j) s.envs t.envs e g.envs h
task-stays p s t (to_take items e left m) g n h = env-stays (λ env. ItemsFitEnv p env items) (λ a b l j. items-stay p items a b l j) s.envs t.envs e g.envs h
task-stays p s t (to_make k c e u m) g n h = (some-weaker (slice_get p.regions k) _ _ (λ y i. case-stays s t y c e g i) h.0, wider-below (length s.sorts) (length t.sorts) u g.sorts h.1)
task-stays p s t (to_close any m) g n h = tt
task-stays p s t (to_shift o c m e k) g n h = absurd n
task-stays p s t (to_rest j m) g n h = h

shift-stays : (p : PlainProgram) (s t : PlainState) (o c m e : ℕ) → Next p s t → TaskFits p s (to_shift o c m e 0) → TaskFits p t (to_shift o c m e 0)
shift-stays p s t o c m e n h =
    subst (λ (fs : List PlainFact). IsSomeAnd (slice_get fs o) (λ f. IsSomeAnd (slice_get p.regions f.kind) (ShiftFits t c m e))) (sym n.opened)
    (some-weaker (slice_get s.opened o) _ _ (λ f i. some-weaker (slice_get p.regions f.kind) _ _ (λ k j. record { move = j.move; env = case-stays s t k c e n.grows j.env }) i) h)

pub waiting-stays : (p : PlainProgram) (s t : PlainState) (x : PlainTask) → Next p s t → WaitingFits p s x → WaitingFits p t x
waiting-stays p s t (to_shift o c m e k) n h = shift-stays p s t o c m e n h
waiting-stays p s t (to_run home b) n h = task-stays p s t (to_run home b) n.grows tt h
waiting-stays p s t (to_turn home b) n h = task-stays p s t (to_turn home b) n.grows tt h
waiting-stays p s t (to_give items e m) n h = task-stays p s t (to_give items e m) n.grows tt h
waiting-stays p s t (to_take items e left m) n h = task-stays p s t (to_take items e left m) n.grows tt h
waiting-stays p s t (to_make k c e u m) n h = task-stays p s t (to_make k c e u m) n.grows tt h
waiting-stays p s t (to_close any m) n h = tt
waiting-stays p s t (to_rest j m) n h = h

pub all-stay : (p : PlainProgram) (s t : PlainState) (ts : List PlainTask) → Next p s t → AllByRecursion (WaitingFits p s) ts → AllByRecursion (WaitingFits p t) ts
all-stay p s t ts n h = each-map _ _ ts h (λ x i. waiting-stays p s t x n i)

pub no-moves-stay : (p : PlainProgram) (s t : PlainState) (ts : List PlainTask) → Grows s t → AllByRecursion ChecksNoMove ts → AllByRecursion (WaitingFits p s) ts → AllByRecursion (WaitingFits p t) ts
no-moves-stay p s t [] g n h = tt
no-moves-stay p s t (x ∷ ts) g n h = (task-stays p s t x g n.0 h.0, no-moves-stay p s t ts g n.1 h.1)

-- ---- the order of checks

pub no-moves-first : (ts : List PlainTask) → AllByRecursion ChecksNoMove ts → ChecksFirst ts
no-moves-first [] h = tt
no-moves-first (to_take items e left n ∷ ts) h = no-moves-first ts h.1
no-moves-first (to_make k c e t n ∷ ts) h = no-moves-first ts h.1
no-moves-first (to_run home b ∷ ts) h = h.1
no-moves-first (to_turn home b ∷ ts) h = h.1
no-moves-first (to_give items e n ∷ ts) h = h.1
no-moves-first (to_close any n ∷ ts) h = h.1
no-moves-first (to_shift o c m e n ∷ ts) h = h.1
no-moves-first (to_rest j n ∷ ts) h = h.1

-- ---- goals

pub waiting-first : (p : PlainProgram) (s : PlainState) (t : PlainTask) → WaitingFits p s t → TaskFits p s t
waiting-first p s (to_run home b) h = h
waiting-first p s (to_turn home b) h = h
waiting-first p s (to_give items e n) h = h
waiting-first p s (to_take items e left n) h = h
waiting-first p s (to_make k c e t n) h = h
waiting-first p s (to_close any n) h = h
waiting-first p s (to_shift o c m e n) h = h
waiting-first p s (to_rest j n) h = subst (λ i. i ≤ length s.facts) (sym h) (omega arith)

kept : (p : PlainProgram) (s : PlainState) (t : PlainTask) (ts : List PlainTask) → StateFits p s → TaskFits p s t → AllByRecursion (WaitingFits p s) ts → ChecksFirst (t ∷ ts) → IsKept p (goal s (t ∷ ts))
kept p s t ts h k g c = record { fits = record { state = h; tasks = (k, g) }; checks = c }

-- the goal of a first task and those behind it, where that of those behind it is kept
pub first-kept : (p : PlainProgram) (s : PlainState) (t : PlainTask) (ts : List PlainTask) → StateFits p s → TaskFits p s t → AllByRecursion (WaitingFits p s) ts → ChecksFirst (t ∷ ts) → RootIsKept p (goal_of s ts) → RootIsKept p (goal_of s (t ∷ ts))
first-kept p s (to_run home b) ts h k g c r = kept p s (to_run home b) ts h k g c
first-kept p s (to_turn home b) ts h k g c r = kept p s (to_turn home b) ts h k g c
first-kept p s (to_give none e n) ts h k g c r = r
first-kept p s (to_give (item i is) e n) ts h k g c r = kept p s (to_give (item i is) e n) ts h k g c
first-kept p s (to_take none e left n) ts h k g c r = r
first-kept p s (to_take (item i is) e left n) ts h k g c r = kept p s (to_take (item i is) e left n) ts h k g c
first-kept p s (to_make y c e t n) ts h k g d r = kept p s (to_make y c e t n) ts h k g d
first-kept p s (to_close any n) ts h k g c r = kept p s (to_close any n) ts h k g c
first-kept p s (to_shift o c m e n) ts h k g d r = kept p s (to_shift o c m e n) ts h k g d
first-kept p s (to_rest j n) ts h k g c r = by_test (j == length s.facts)
  where
    by_test : (b : Bool) → RootIsKept p (if b then goal_of s ts else Some (goal s (to_rest j n ∷ ts)))
    by_test true = r
    by_test false = kept p s (to_rest j n) ts h k g c

behind : (t : PlainTask) (ts : List PlainTask) → ChecksFirst (t ∷ ts) → ChecksFirst ts
behind (to_take items e left n) ts h = h
behind (to_make k c e t n) ts h = h
behind (to_run home b) ts h = no-moves-first ts h
behind (to_turn home b) ts h = no-moves-first ts h
behind (to_give items e n) ts h = no-moves-first ts h
behind (to_close any n) ts h = no-moves-first ts h
behind (to_shift o c m e n) ts h = no-moves-first ts h
behind (to_rest j n) ts h = no-moves-first ts h

pub goal-kept : (p : PlainProgram) (s : PlainState) (ts : List PlainTask) → StateFits p s → AllByRecursion (WaitingFits p s) ts → ChecksFirst ts → RootIsKept p (goal_of s ts)
goal-kept p s [] h k c = tt
goal-kept p s (t ∷ ts) h k c = first-kept p s t ts h (waiting-first p s t k.0) k.1 c (goal-kept p s ts h k.1 (behind t ts c))

abbrev pub AreKept : PlainProgram → List PlainGoal → Type 0
AreKept p gs = AllByRecursion (IsKept p) gs

as-list : (p : PlainProgram) (o : Option PlainGoal) → RootIsKept p o → AreKept p (option_to_list o)
as-list p None h = tt
as-list p (Some g) h = (h, tt)

pub goals-kept : (p : PlainProgram) (s : PlainState) (ts : List PlainTask) → StateFits p s → AllByRecursion (WaitingFits p s) ts → ChecksFirst ts → AreKept p (goals_of s ts)
goals-kept p s ts h k c = as-list p (goal_of s ts) (goal-kept p s ts h k c)

pub leaves-kept : (p : PlainProgram) (s : PlainState) (ts : List PlainTask) → StateFits p s → AllByRecursion (WaitingFits p s) ts → ChecksFirst ts → Reaches (AreKept p) (leaves s ts)
leaves-kept p s ts h k c = at (AreKept p) (goals_of s ts) (goals-kept p s ts h k c)

-- where the first task has begun already
pub leaves-first : (p : PlainProgram) (s : PlainState) (t : PlainTask) (ts : List PlainTask) → StateFits p s → TaskFits p s t → AllByRecursion (WaitingFits p s) ts → ChecksFirst (t ∷ ts) → Reaches (AreKept p) (leaves s (t ∷ ts))
leaves-first p s t ts h k g c = at (AreKept p) (goals_of s (t ∷ ts)) (as-list p (goal_of s (t ∷ ts)) (first-kept p s t ts h k g c (goal-kept p s ts h g (behind t ts c))))
