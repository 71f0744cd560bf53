-- What the code's parts of a step promise, by the statement that is ready.
use Rattle.std.proofs.Common.{◌≡◌, ◌∙◌, ap, sym, refl, subst, ℕ, zero, suc, ◌<◌, Bool, true, not, ◌&&◌, cond, List, [], ◌∷◌, length, replicate, arith}
use Rattle.std.specs.Prelude.{ℤ, slice_get, slice_set, Option, Some, None, is_none, Ok, Err}
use Rattle.std.specs.List.{AllByRecursion}
use Rattle.std.proofs.lemmas.List.Elements.{All-from_recursion}
use Rattle.cap_lin.specs.Linear.{Linear, IsBelow}
use Rattle.cap_lin.specs.declared.row.Sort.{Sort}
use Rattle.cap_lin.specs.declared.row.Sort.TheVariants.{Int}
use Rattle.cap_prog.specs.declared.assertion.Comp.{Comp}
use Rattle.cap_prog.specs.Program.{append, PlainStatement, PlainFunction, PlainProgram}
use Rattle.cap_prog.specs.Scopes.{body_scope, fixed_start, TermFits, CompFits}
use Rattle.cap_prog.specs.WellFormed.{IsValue}
use Rattle.cap_machine.specs.declared.event.Entry.{Entry}
use Rattle.cap_machine.specs.declared.event.Event.{Event}
use Rattle.cap_machine.specs.declared.event.StepError.{StepError}
use Rattle.cap_machine.specs.declared.event.StepError.TheVariants.{NotEnabled, Wide, OutOfMemory}
use Rattle.cap_machine.specs.declared.machine.Machine.{Machine}
use Rattle.cap_machine.specs.Machine.{Heap, Frame, Thread, Configuration, Outcome, next, fault, disabled, Spot, with_rest, with_value, does, statement_step, thread_step, step, top_frame}
use Rattle.cap_machine.specs.Results.{act_steps, block_steps, frame_steps, entry_steps, are_narrow}
use Rattle.cap_machine.specs.Laws.{is_step, BaseFits}
use Rattle.cap_machine.specs.Places.{inside, side_of, behind, behind_act}
use Rattle.cap_machine.specs.Changes.{tail_of, passed, entered, with_top}
use Rattle.cap_machine.specs.Errors.{Explains}
use Rattle.cap_machine.specs.View.{configuration, is_stopped, AllArePlaced, IsSame, LeavesMachine, Steps, is_enabled}
use Rattle.cap_machine.specs.Ready.{IsReady, HasTop, update, CanChange, HasChanged, IsUnchanged}
use Rattle.cap_machine.proofs.Lists.{all_map}
use Rattle.cap_machine.proofs.Keeping.{Runs}
use Rattle.cap_machine.proofs.Enabled.{statement-iff, none_is}
use Rattle.cap_machine.proofs.MachineLemmas.{has_top}

-- ---- terms of the statement

in_range : {X : Type 0} (n i : ℕ) (x : X) (y : X) → slice_get (replicate n x) i ≡ Some y → i < n
in_range zero i x y e = absurd (cc)
in_range (suc n) zero x y e = omega arith
in_range (suc n) (suc i) x y e = let k = in_range n i x y e in omega arith

term_below : (g : PlainFunction) (store : List ℤ) (s : Sort) (t : Linear) → length store ≡ fixed_start g → TermFits (body_scope g) s t → IsBelow (length store) t
term_below g store s t e h =
    let k : IsBelow (fixed_start g) t = All-from_recursion (λ p. p.0 < fixed_start g) t.parts (all_map _ (λ p. p.0 < fixed_start g) t.parts (λ p i. in_range (fixed_start g) p.0 (Some Int) (Some s) i) h) in
    subst (λ n. IsBelow n t) (sym e) k

pub value_below : (g : PlainFunction) (store : List ℤ) (t : Linear) → length store ≡ fixed_start g → IsValue g t → IsBelow (length store) t
value_below g store t e h = term_below g store Int t e h

pub left_below : (g : PlainFunction) (store : List ℤ) (c : Comp) → length store ≡ fixed_start g → CompFits (body_scope g) c → IsBelow (length store) c.left
left_below g store c e h = term_below g store c.sort c.left e h.0

pub right_below : (g : PlainFunction) (store : List ℤ) (c : Comp) → length store ≡ fixed_start g → CompFits (body_scope g) c → IsBelow (length store) c.right
right_below g store c e h = term_below g store c.sort c.right e h.1

pub all_below : (g : PlainFunction) (store : List ℤ) (ts : List Linear) → length store ≡ fixed_start g → AllByRecursion (IsValue g) ts → AllByRecursion (IsBelow (length store)) ts
all_below g store ts e h = all_map (IsValue g) (IsBelow (length store)) ts (λ t k. value_below g store t e k) h

-- ---- the step that is ready

abbrev pub spot : (p : PlainProgram) (m : Machine) (e : Entry) (s : PlainStatement) → IsReady p m e s → Spot
spot p m e s r = record { thread = e.thread; frame = r.frame; below = r.below; configuration = configuration p m }

abbrev pub now : (p : PlainProgram) (m : Machine) (e : Entry) (s : PlainStatement) → IsReady p m e s → Outcome
now p m e s r = does p (spot p m e s r) s.label s.act r.rest e.base

pub step_is : (p : PlainProgram) (m : Machine) (e : Entry) (s : PlainStatement) (r : IsReady p m e s) → step p (configuration p m) e ≡ now p m e s r
step_is p m e s r =
    ap (thread_step p (configuration p m) e) r.there
    ∙ (ap (statement_step p (spot p m e s r) e.base) r.next
    ∙ ap (λ b. cond b (now p m e s r) disabled) r.base)

pub results_are : (p : PlainProgram) (m : Machine) (e : Entry) (s : PlainStatement) (r : IsReady p m e s) → entry_steps (configuration p m) e ≡ act_steps (configuration p m).heap r.frame.store s.act e.base
results_are p m e s r =
    ap (λ o. frame_steps (configuration p m).heap e.base (top_frame o)) r.there
    ∙ ap (block_steps (configuration p m).heap r.frame.store e.base) r.next

pub ok_next : (p : PlainProgram) (m after : Machine) (e : Entry) (s : PlainStatement) (r : IsReady p m e s) (event : Event) (d : Configuration) → are_narrow (act_steps (configuration p m).heap r.frame.store s.act e.base) ≡ true → now p m e s r ≡ next d event → configuration p after ≡ d → is_stopped after ≡ is_stopped m → Steps p e m after (Ok event)
ok_next p m after e s r event d n o c t =
    (r.runs, ap are_narrow (results_are p m e s r) ∙ n, subst (LeavesMachine p m after event) (sym (step_is p m e s r ∙ o)) (refl, c, t ∙ r.runs))

pub ok_fault : (p : PlainProgram) (m after : Machine) (e : Entry) (s : PlainStatement) (r : IsReady p m e s) (event : Event) → are_narrow (act_steps (configuration p m).heap r.frame.store s.act e.base) ≡ true → now p m e s r ≡ fault event → configuration p after ≡ configuration p m → is_stopped after ≡ true → Steps p e m after (Ok event)
ok_fault p m after e s r event n o c t =
    (r.runs, ap are_narrow (results_are p m e s r) ∙ n, subst (LeavesMachine p m after event) (sym (step_is p m e s r ∙ o)) (refl, c, t))

pub enabled_now : (p : PlainProgram) (m : Machine) (e : Entry) (s : PlainStatement) (r : IsReady p m e s) → BaseFits (configuration p m).heap s.act e.base → is_enabled p m e ≡ true
enabled_now p m e s r b =
    let q : Runs p r.frame s.label s.act = record { function = r.function; is = r.is; act = r.act } in
    let i = (statement-iff p (spot p m e s r) e.base s.label s.act r.rest q).1 b in
    ap (λ x. not x && is_step (step p (configuration p m) e)) r.runs
    ∙ (ap is_step (ap (thread_step p (configuration p m) e) r.there ∙ ap (statement_step p (spot p m e s r) e.base) r.next) ∙ i)

same : (p : PlainProgram) (m : Machine) → IsSame p m m
same p m = record { same_configuration = refl; same_stop = refl }

-- an error of a term leaves the machine
pub err_steps : (p : PlainProgram) (m : Machine) (e : Entry) (s : PlainStatement) (r : IsReady p m e s) (x : StepError) → BaseFits (configuration p m).heap s.act e.base → Explains x (act_steps (configuration p m).heap r.frame.store s.act e.base) → Steps p e m m (Err x)
err_steps p m e s r NotEnabled b h = absurd h
err_steps p m e s r Wide b h = (enabled_now p m e s r b, ap are_narrow (results_are p m e s r) ∙ h, same p m)
err_steps p m e s r OutOfMemory b h = same p m

-- the base of a statement that takes none
pub no_base : (o : Option ℤ) → is_none o ≡ true → o ≡ None
no_base o h = none_is o h

-- ---- changes of the top frame

pub can_change : (p : PlainProgram) (m : Machine) (e : Entry) (s : PlainStatement) → IsReady p m e s → CanChange p m e.thread
can_change p m e s r = record { top = has_top p m e.thread r.frame r.below r.there; places = r.places }

pub update_is : (f : Thread → Thread) (ts : List Thread) (n : ℕ) (t : Thread) → slice_get ts n ≡ Some t → update f ts n ≡ slice_set ts n (f t)
update_is f [] n t e = refl
update_is f (u ∷ us) zero t e = let i : u ≡ t = cc in ap (λ x. f x ∷ us) i
update_is f (u ∷ us) (suc n) t e = ap (λ x. u ∷ x) (update_is f us n t e)

-- the machine with another heap
abbrev pub over : Machine → Heap → Machine
over m h = record m { heap = h }

pub can_change_over : (p : PlainProgram) (m : Machine) (h : Heap) (e : Entry) (s : PlainStatement) → IsReady p m e s → CanChange p (over m h) e.thread
unfolding HasTop AllArePlaced
can_change_over p m h e s r = let c = can_change p m e s r in record { top = c.top; places = c.places }

-- the top frame became g, over this heap
pub moved : (p : PlainProgram) (m after : Machine) (h : Heap) (e : Entry) (s : PlainStatement) (r : IsReady p m e s) (change : Frame → Frame) (g : Frame) → HasChanged p (with_top change) e.thread (over m h) after → change r.frame ≡ g → configuration p after ≡ record { heap = h; threads = slice_set (configuration p m).threads e.thread (g ∷ r.below) }
unfolding configuration
moved p m after h e s r change g c v =
    c.configured
    ∙ (ap (λ ts. record { heap = h; threads = ts }) (update_is (with_top change) (configuration p m).threads e.thread (r.frame ∷ r.below) r.there)
    ∙ ap (λ f. record { heap = h; threads = slice_set (configuration p m).threads e.thread (f ∷ r.below) }) v)

pub passed_to : (p : PlainProgram) (m : Machine) (e : Entry) (s : PlainStatement) (r : IsReady p m e s) → passed r.frame ≡ with_rest r.frame r.rest
passed_to p m e s r = ap (λ b. with_rest r.frame (tail_of b)) r.next

pub entered_to : (p : PlainProgram) (m : Machine) (e : Entry) (s : PlainStatement) (r : IsReady p m e s) (side : Bool) → entered side r.frame ≡ with_rest r.frame (append (side_of side s.act) (behind_act s.label s.act r.rest))
entered_to p m e s r side = ap (λ b. with_rest r.frame (append (inside side b) (behind b))) r.next

-- ---- steps that are taken

pub heap_is : (p : PlainProgram) (m : Machine) → (configuration p m).heap ≡ m.heap
unfolding configuration
heap_is p m = refl

-- the configuration with this heap, in which the thread's top frame is this one
abbrev pub with_frame : (p : PlainProgram) (m : Machine) (e : Entry) (s : PlainStatement) → IsReady p m e s → Heap → Frame → Configuration
with_frame p m e s r h f = record { heap = h; threads = slice_set (configuration p m).threads e.thread (f ∷ r.below) }

pub assigned_ok : (p : PlainProgram) (m after : Machine) (h : Heap) (e : Entry) (s : PlainStatement) (r : IsReady p m e s) (event : Event) (x : ℕ) (v : ℤ) (k : Heap) → are_narrow (act_steps (configuration p m).heap r.frame.store s.act e.base) ≡ true → now p m e s r ≡ next (with_frame p m e s r k (with_value (with_rest r.frame r.rest) x v)) event → k ≡ h → HasChanged p (with_top (λ f. with_value (passed f) x v)) e.thread (over m h) after → Steps p e m after (Ok event)
unfolding is_stopped
assigned_ok p m after h e s r event x v k n o i c =
    ok_next p m after e s r event _ n o (moved p m after h e s r (λ f. with_value (passed f) x v) (with_value (with_rest r.frame r.rest) x v) c (ap (λ f. with_value f x v) (passed_to p m e s r)) ∙ ap (λ g. with_frame p m e s r g (with_value (with_rest r.frame r.rest) x v)) (sym i)) c.stop

pub passed_ok : (p : PlainProgram) (m after : Machine) (h : Heap) (e : Entry) (s : PlainStatement) (r : IsReady p m e s) (event : Event) (k : Heap) → are_narrow (act_steps (configuration p m).heap r.frame.store s.act e.base) ≡ true → now p m e s r ≡ next (with_frame p m e s r k (with_rest r.frame r.rest)) event → k ≡ h → HasChanged p (with_top passed) e.thread (over m h) after → Steps p e m after (Ok event)
unfolding is_stopped
passed_ok p m after h e s r event k n o i c =
    ok_next p m after e s r event _ n o (moved p m after h e s r passed (with_rest r.frame r.rest) c (passed_to p m e s r) ∙ ap (λ g. with_frame p m e s r g (with_rest r.frame r.rest)) (sym i)) c.stop

pub entered_ok : (p : PlainProgram) (m after : Machine) (e : Entry) (s : PlainStatement) (r : IsReady p m e s) (event : Event) (side : Bool) → are_narrow (act_steps (configuration p m).heap r.frame.store s.act e.base) ≡ true → now p m e s r ≡ next (with_frame p m e s r (configuration p m).heap (with_rest r.frame (append (side_of side s.act) (behind_act s.label s.act r.rest)))) event → HasChanged p (with_top (entered side)) e.thread m after → Steps p e m after (Ok event)
entered_ok p m after e s r event side n o c =
    ok_next p m after e s r event _ n o (moved p m after m.heap e s r (entered side) (with_rest r.frame (append (side_of side s.act) (behind_act s.label s.act r.rest))) c (entered_to p m e s r side) ∙ ap (λ g. with_frame p m e s r g (with_rest r.frame (append (side_of side s.act) (behind_act s.label s.act r.rest)))) (sym (heap_is p m))) c.stop

pub kept_memory : (p : PlainProgram) (m after : Machine) (e : Entry) → IsUnchanged p m after → Steps p e m after (Err OutOfMemory)
kept_memory p m after e k = record { same_configuration = k.configured; same_stop = k.stop }

-- a fault stops the machine and leaves the rest
pub fault_ok : (p : PlainProgram) (m : Machine) (e : Entry) (s : PlainStatement) (r : IsReady p m e s) (event : Event) → are_narrow (act_steps (configuration p m).heap r.frame.store s.act e.base) ≡ true → now p m e s r ≡ fault event → Steps p e m (record m { stopped = true }) (Ok event)
unfolding configuration is_stopped
fault_ok p m e s r event n o = ok_fault p m (record m { stopped = true }) e s r event n o refl refl

pub fault_places : (p : PlainProgram) (m : Machine) → AllArePlaced p m → AllArePlaced p (record m { stopped = true })
unfolding AllArePlaced
fault_places p m h = h
