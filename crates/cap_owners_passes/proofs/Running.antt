-- The next statement, and the next event.
use Rattle.std.proofs.Common.{◌≡◌, ℕ, Bool, true, false, List, [], ◌∷◌, drop, Option, Some, None, refl, sym, ap, ◌∙◌}
use Rattle.std.specs.Prelude.{slice_get}
use Rattle.cap_prog.specs.Program.{Block, done, first, PlainAct, PlainProgram}
use Rattle.cap_goal_spec.specs.States.{PlainState, Home, PlainTask, to_run, to_turn}
use Rattle.cap_goal_spec.specs.Choices.{PlainChoice, by_enter}
use Rattle.cap_machine.specs.declared.event.Event.{Event}
use Rattle.cap_machine.specs.declared.event.Event.TheVariants as event
use Rattle.cap_owners_spec.specs.Traced.{Traced, traced, untold, ◌>>=◌}
use Rattle.cap_owners_spec.specs.Walks.{Walk, Interpreting, Descent, descends, on, pass_task, pass_event, pass_statement, pass_turn}
use Rattle.cap_owners_passes.specs.Views.{enters_for, first_act, branch_child}

true-false : true ≡ false → ⊥
true-false e = cc

some-none : {X : Type 0} (x : X) → Some x ≡ None → ⊥
some-none x e = cc

none-some : {X : Type 0} (x : X) → None ≡ Some x → ⊥
none-some x e = cc

same-some : {X : Type 0} (x y : X) → Some x ≡ Some y → x ≡ y
same-some x y e = cc

-- ---- the next event

pub none-first : (es : List Event) → slice_get es 0 ≡ None → es ≡ []
none-first [] e = refl
none-first (x ∷ es) e = absurd (some-none x e)

pub event-first : (es : List Event) (x : Event) → slice_get es 0 ≡ Some x → es ≡ x ∷ drop 1 es
event-first [] x e = absurd (none-some x e)
event-first (y ∷ es) x e = ap (λ z. z ∷ es) (same-some y x e)

-- ---- at a statement

pub no-statement : (enter : Interpreting) (p : PlainProgram) (s : PlainState) (c : PlainChoice) (h : Home) (b : Block) (ts : List PlainTask) (w : Walk) → enters_for c (to_run h b) ≡ false → first_act b ≡ None → pass_task enter p s c (to_run h b) ts w ≡ untold
no-statement enter p s (by_enter i cs) h b ts w n e = absurd (true-false n)
no-statement enter p s c h done ts w n e = refl
no-statement enter p s c h (first l a rest) ts w n e = absurd (some-none a e)

at-first : (enter : Interpreting) (p : PlainProgram) (s : PlainState) (c : PlainChoice) (h : Home) (b : Block) (ts : List PlainTask) (w : Walk) (a : PlainAct) → enters_for c (to_run h b) ≡ false → first_act b ≡ Some a → pass_task enter p s c (to_run h b) ts w ≡ pass_event s c a w.events w
at-first enter p s (by_enter i cs) h b ts w a n e = absurd (true-false n)
at-first enter p s c h done ts w a n e = absurd (none-some a e)
at-first enter p s c h (first l x rest) ts w a n e = ap (λ y. pass_event s c y w.events w) (same-some x a e)

pub no-step : (enter : Interpreting) (p : PlainProgram) (s : PlainState) (c : PlainChoice) (h : Home) (b : Block) (ts : List PlainTask) (w : Walk) (a : PlainAct) → enters_for c (to_run h b) ≡ false → first_act b ≡ Some a → slice_get w.events 0 ≡ None → pass_task enter p s c (to_run h b) ts w ≡ untold
no-step enter p s c h b ts w a n e f = at-first enter p s c h b ts w a n e ∙ ap (λ es. pass_event s c a es w) (none-first w.events f)

pub at-step : (enter : Interpreting) (p : PlainProgram) (s : PlainState) (c : PlainChoice) (h : Home) (b : Block) (ts : List PlainTask) (w : Walk) (a : PlainAct) (x : Event) → enters_for c (to_run h b) ≡ false → first_act b ≡ Some a → slice_get w.events 0 ≡ Some x → pass_task enter p s c (to_run h b) ts w ≡ pass_statement s c a x (record w { events = drop 1 w.events })
at-step enter p s c h b ts w a x n e f = at-first enter p s c h b ts w a n e ∙ ap (λ es. pass_event s c a es w) (event-first w.events x f)

-- ---- at a loop

side-taken : (x : Event) (es : List Event) (w : Walk) → pass_turn (x ∷ es) w ≡ branch_child x >>= (λ i. on i (record w { events = es }))
side-taken (event.Branch taken) es w = refl
side-taken x es w = refl

pub no-turn-step : (w : Walk) → slice_get w.events 0 ≡ None → pass_turn w.events w ≡ untold
no-turn-step w e = ap (λ es. pass_turn es w) (none-first w.events e)

pub at-turn-step : (w : Walk) (x : Event) → slice_get w.events 0 ≡ Some x → pass_turn w.events w ≡ branch_child x >>= (λ i. on i (record w { events = drop 1 w.events }))
at-turn-step w x e = ap (λ es. pass_turn es w) (event-first w.events x e) ∙ side-taken x (drop 1 w.events) w
