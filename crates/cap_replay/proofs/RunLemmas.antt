-- A run along entries, step by step.
use Rattle.std.proofs.Common.{◌≡◌, ◌∙◌, ap, sym, refl, subst, ℕ, suc, ◌+◌, ◌<◌, ◌≤◌, Bool, true, false, cond, not, ◌&&◌, List, [], ◌∷◌, ◌++◌, map, drop, get_or, length, append_assoc, drop-cons, add-one, arith}
use Rattle.std.specs.Prelude.{ℤ, Option, Some, None, slice_get, Result, Ok, Err, IfOk}
use Rattle.std.specs.FinMap.{get}
use Rattle.std.proofs.lemmas.List.{get_or_default}
use Rattle.cap_lin.specs.declared.row.Op.TheVariants.{Eq as Equal}
use Rattle.cap_prog.specs.Program.{Label, PlainAct, set, read, write, cas, faa, dispose, alloc, call, fork, branch, loop, check, give_back, Block, done, first, PlainFunction, PlainProgram}
use Rattle.cap_machine.specs.declared.event.Ahead.{Ahead}
use Rattle.cap_machine.specs.declared.event.Entry.{Entry}
use Rattle.cap_machine.specs.declared.event.Event.{Event}
use Rattle.cap_machine.specs.declared.event.Event.TheVariants.{Failed}
use Rattle.cap_machine.specs.declared.event.StepError.{StepError}
use Rattle.cap_machine.specs.declared.event.StepError.TheVariants.{NotEnabled as IsNotEnabled}
use Rattle.cap_machine.specs.declared.machine.Machine.{Machine}
use Rattle.cap_machine.specs.Machine.{Frame, Thread, Configuration, Outcome, next, fault, disabled, Spot, at_cell, swaps, adds, may_be_at, allocates, calls, forks, returns, does, takes_base, statement_step, thread_step, step, value_in, holds, compared}
use Rattle.cap_machine.specs.Laws.{is_step}
use Rattle.cap_machine.specs.Ready.{ahead}
use Rattle.cap_machine.specs.Results.{entry_steps, are_narrow}
use Rattle.cap_machine.specs.View.{configuration, is_stopped, RunsProgram, LeavesMachine, Steps, is_enabled}
use Rattle.cap_replay.specs.declared.playing.End.{End}
use Rattle.cap_replay.specs.declared.playing.End.TheVariants.{Stopped, NotEnabled}
use Rattle.cap_replay.specs.declared.playing.Played.{Played}
use Rattle.cap_replay_schedules.specs.declared.entries.Schedule.{Schedule}
use Rattle.cap_replay.specs.RunText.{step_line, last_line, RunText, ends, in_front, taken, run_from, run_text, played_view}
use Rattle.cap_replay.specs.Advancing.{is_fault, Advances}

-- ---- the events of steps, and those of faults

abbrev pub Tells : Outcome → Type 0
Tells (next c event) = is_fault event ≡ false
Tells (fault event) = is_fault event ≡ true
Tells disabled = Unit {0}

choice-tells : (b : Bool) (o u : Outcome) → Tells o → Tells u → Tells (cond b o u)
choice-tells true o u h i = h
choice-tells false o u h i = i

at_cell-tells : (a : ℤ) (o : Option ℤ) (f : ℤ → Outcome) → ((v : ℤ) → Tells (f v)) → Tells (at_cell a o f)
at_cell-tells a None f h = refl
at_cell-tells a (Some v) f h = h v

calls-tells : (s : Spot) (b : Block) (n : ℕ) (vs : List ℤ) (x : Option ℕ) (o : Option PlainFunction) → Tells (calls s b n vs x o)
calls-tells s b n vs x None = tt
calls-tells s b n vs x (Some g) = refl

forks-tells : (s : Spot) (b : Block) (n : ℕ) (vs : List ℤ) (o : Option PlainFunction) → Tells (forks s b n vs o)
forks-tells s b n vs None = tt
forks-tells s b n vs (Some g) = refl

returns-tells : (s : Spot) (v : ℤ) (fs : List Frame) → Tells (returns s v fs)
returns-tells s v [] = refl
returns-tells s v (f ∷ fs) = refl

allocates-tells : (s : Spot) (b : Block) (x n : ℕ) (base : Option ℤ) → Tells (allocates s b x n base)
allocates-tells s b x n None = tt
allocates-tells s b x n (Some base) = choice-tells (may_be_at s.configuration.heap base n) _ disabled refl tt

does-tells : (p : PlainProgram) (s : Spot) (l : Label) (a : PlainAct) (b : Block) (base : Option ℤ) → Tells (does p s l a b base)
does-tells p s l (set x t) b base = refl
does-tells p s l (read x t) b base = at_cell-tells _ (get s.configuration.heap (value_in s.frame.store t)) _ (λ v. refl)
does-tells p s l (write t u) b base = at_cell-tells _ (get s.configuration.heap (value_in s.frame.store t)) _ (λ v. refl)
does-tells p s l (cas x t old new) b base =
    at_cell-tells _ (get s.configuration.heap (value_in s.frame.store t)) (swaps s b x (value_in s.frame.store t) (value_in s.frame.store old) (value_in s.frame.store new)) (λ v. choice-tells (compared Equal v (value_in s.frame.store old)) _ _ refl refl)
does-tells p s l (faa x t u) b base =
    at_cell-tells _ (get s.configuration.heap (value_in s.frame.store t)) (adds s b x (value_in s.frame.store t) (value_in s.frame.store u)) (λ v. refl)
does-tells p s l (dispose t) b base = at_cell-tells _ (get s.configuration.heap (value_in s.frame.store t)) _ (λ v. refl)
does-tells p s l (alloc x n) b base = allocates-tells s b x n base
does-tells p s l (call x n args) b base = calls-tells s b n (map (value_in s.frame.store) args) x (slice_get p.functions n)
does-tells p s l (fork n args) b base = forks-tells s b n (map (value_in s.frame.store) args) (slice_get p.functions n)
does-tells p s l (branch c a d) b base = choice-tells (holds s.frame.store c) _ _ refl refl
does-tells p s l (loop c i a) b base = choice-tells (holds s.frame.store c) _ _ refl refl
does-tells p s l (check c) b base = choice-tells (holds s.frame.store c) _ (fault (Failed l.place)) refl refl
does-tells p s l (give_back t) b base = returns-tells s (value_in s.frame.store t) s.below

pub step-tells : (p : PlainProgram) (c : Configuration) (e : Entry) → Tells (step p c e)
step-tells p c e = go (slice_get c.threads e.thread)
  where
    block : (s : Spot) (b : Block) → Tells (statement_step p s e.base b)
    block s done = tt
    block s (first l a b) = choice-tells (takes_base a e.base) _ disabled (does-tells p s l a b e.base) tt

    go : (o : Option Thread) → Tells (thread_step p c e o)
    go None = tt
    go (Some []) = tt
    go (Some (f ∷ fs)) = block (record { thread = e.thread; frame = f; below = fs; configuration = c }) f.rest

-- ---- one step

more_front : (old line : List ℕ) (r : RunText) → in_front old (in_front line r) ≡ in_front (old ++ line) r
more_front old line r = ap (λ t. record { text = t; end = r.end }) (sym (append_assoc old line r.text))

-- the run at an entry, by the outcome of its step
run_at : (p : PlainProgram) (k : ℕ) (c : Configuration) (e : Entry) (es : List Entry) (b : Bool) (o : Outcome) → are_narrow (entry_steps c e) ≡ b → step p c e ≡ o → run_from p k c (e ∷ es) ≡ taken b (suc k) (step_line (suc k) e.thread (ahead c e.thread)) (λ d. run_from p (suc k) d es) o
run_at p k c e es b o n i =
    ap (λ x. taken x (suc k) (step_line (suc k) e.thread (ahead c e.thread)) (λ d. run_from p (suc k) d es) (step p c e)) n
    ∙ ap (taken b (suc k) (step_line (suc k) e.thread (ahead c e.thread)) (λ d. run_from p (suc k) d es)) i

fault_ends_at : (p : PlainProgram) (k : ℕ) (e : Entry) (m n : Machine) (old new : List ℕ) (a : Option Ahead) (event : Event) → Steps p e m n (Ok event) → a ≡ ahead (configuration p m) e.thread → new ≡ old ++ step_line (suc k) e.thread a event → is_fault event ≡ true → Advances p k e m n old new (Some (Stopped (suc k)))
fault_ends_at p k e m n old new a event s h w f es = go (step p (configuration p m) e) refl (step-tells p (configuration p m) e) s.2
  where
    go : (o : Outcome) → step p (configuration p m) e ≡ o → Tells o → LeavesMachine p m n event o → in_front old (run_from p k (configuration p m) (e ∷ es)) ≡ in_front new (ends (Stopped (suc k)))
    go (next d x) i t l = let y : is_fault event ≡ false = ap is_fault l.0 ∙ t in absurd (cc)
    go (fault x) i t l =
        ap (in_front old) (run_at p k (configuration p m) e es true (fault x) s.1 i)
        ∙ (more_front old (step_line (suc k) e.thread (ahead (configuration p m) e.thread) x) (ends (Stopped (suc k)))
        ∙ ap (λ t. in_front t (ends (Stopped (suc k)))) (sym (w ∙ (ap (λ q. old ++ step_line (suc k) e.thread q event) h ∙ ap (λ q. old ++ step_line (suc k) e.thread (ahead (configuration p m) e.thread) q) l.0))))
    go disabled i t l = absurd l

step_goes_at : (p : PlainProgram) (k : ℕ) (e : Entry) (m n : Machine) (old new : List ℕ) (a : Option Ahead) (event : Event) → Steps p e m n (Ok event) → a ≡ ahead (configuration p m) e.thread → new ≡ old ++ step_line (suc k) e.thread a event → is_fault event ≡ false → Advances p k e m n old new None
step_goes_at p k e m n old new a event s h w f = go (step p (configuration p m) e) refl (step-tells p (configuration p m) e) s.2
  where
    go : (o : Outcome) → step p (configuration p m) e ≡ o → Tells o → LeavesMachine p m n event o → Advances p k e m n old new None
    go (next d x) i t l = (
      λ es.
          ap (in_front old) (run_at p k (configuration p m) e es true (next d x) s.1 i)
          ∙ (more_front old (step_line (suc k) e.thread (ahead (configuration p m) e.thread) x) (run_from p (suc k) d es)
          ∙ (ap (λ q. in_front (old ++ step_line (suc k) e.thread (ahead (configuration p m) e.thread) x) (run_from p (suc k) q es)) (sym l.1)
          ∙ ap (λ t. in_front t (run_from p (suc k) (configuration p n) es)) (sym (w ∙ (ap (λ q. old ++ step_line (suc k) e.thread q event) h ∙ ap (λ q. old ++ step_line (suc k) e.thread (ahead (configuration p m) e.thread) q) l.0))))),
      l.2,
    )
    go (fault x) i t l = let y : is_fault event ≡ true = ap is_fault l.0 ∙ t in absurd (cc)
    go disabled i t l = absurd l

stops_at : (p : PlainProgram) (k : ℕ) (e : Entry) (m n : Machine) (text : List ℕ) → is_stopped m ≡ false → Steps p e m n (Err IsNotEnabled) → Advances p k e m n text text (Some (NotEnabled (suc k)))
stops_at p k e m n text r s es = go (step p (configuration p m) e) refl
  where
    go : (o : Outcome) → step p (configuration p m) e ≡ o → in_front text (run_from p k (configuration p m) (e ∷ es)) ≡ in_front text (ends (NotEnabled (suc k)))
    go disabled i = ap (in_front text) (run_at p k (configuration p m) e es _ disabled refl i)
    go (next d x) i = let y : is_enabled p m e ≡ true = ap (λ b. not b && is_step (step p (configuration p m) e)) r ∙ ap is_step i in let z = s.0 in absurd (cc)
    go (fault x) i = let y : is_enabled p m e ≡ true = ap (λ b. not b && is_step (step p (configuration p m) e)) r ∙ ap is_step i in let z = s.0 in absurd (cc)

-- the same, of the number that the code makes
pub fault_ends : (p : PlainProgram) (k number : ℕ) (e : Entry) (m n : Machine) (old new : List ℕ) (a : Option Ahead) (event : Event) → number ≡ suc k → Steps p e m n (Ok event) → a ≡ ahead (configuration p m) e.thread → new ≡ old ++ step_line number e.thread a event → is_fault event ≡ true → Advances p k e m n old new (Some (Stopped number))
fault_ends p k number e m n old new a event i s h w f =
    let P : ℕ → Type 0 = λ x. new ≡ old ++ step_line x e.thread a event → Advances p k e m n old new (Some (Stopped x)) in
    subst P (sym i) (λ v. fault_ends_at p k e m n old new a event s h v f) w

pub step_goes : (p : PlainProgram) (k number : ℕ) (e : Entry) (m n : Machine) (old new : List ℕ) (a : Option Ahead) (event : Event) → number ≡ suc k → Steps p e m n (Ok event) → a ≡ ahead (configuration p m) e.thread → new ≡ old ++ step_line number e.thread a event → is_fault event ≡ false → Advances p k e m n old new None
step_goes p k number e m n old new a event i s h w f =
    let P : ℕ → Type 0 = λ x. new ≡ old ++ step_line x e.thread a event in
    step_goes_at p k e m n old new a event s h (subst P i w) f

pub stops_disabled : (p : PlainProgram) (k number : ℕ) (e : Entry) (m n : Machine) (text : List ℕ) (x : StepError) → number ≡ suc k → x ≡ IsNotEnabled → is_stopped m ≡ false → Steps p e m n (Err x) → Advances p k e m n text text (Some (NotEnabled number))
stops_disabled p k number e m n text x i j r s =
    let P : ℕ → Type 0 = λ y. Advances p k e m n text text (Some (NotEnabled y)) in
    let Q : StepError → Type 0 = λ y. Steps p e m n (Err y) in
    subst P (sym i) (stops_at p k e m n text r (subst Q j s))

-- ---- the run

pub record Goes (p : PlainProgram) (s : Schedule) (m : Machine) (text : List ℕ) (count index : ℕ) : Type 0 where
  pub counted : count ≡ index
  pub fits : RunsProgram p m
  pub runs : is_stopped m ≡ false
  pub threads : length (configuration p m).threads ≤ suc index
  pub rest : in_front text (run_from p index (configuration p m) (drop index s.entries.items)) ≡ run_text p s

if_ok_map : {T E : Type 0} (r : Result T E) (P Q : T → Type 0) → ((x : T) → P x → Q x) → IfOk r P → IfOk r Q
if_ok_map (Ok x) P Q f h = f x h
if_ok_map (Err x) P Q f h = h

next_entry : (es : List Entry) (i : ℕ) (e : Entry) → i < length es → e ≡ get_or es i e → drop i es ≡ e ∷ drop (suc i) es
next_entry es i e l is = drop-cons es i e l ∙ ap (λ x. x ∷ drop (suc i) es) (sym is)

-- what is left at an entry
left_at : (p : PlainProgram) (s : Schedule) (m : Machine) (old : List ℕ) (count index : ℕ) (e : Entry) → Goes p s m old count index → index < length s.entries.items → e ≡ get_or s.entries.items index e → in_front old (run_from p count (configuration p m) (e ∷ drop (suc index) s.entries.items)) ≡ run_text p s
left_at p s m old count index e g l is =
    ap (λ k. in_front old (run_from p k (configuration p m) (e ∷ drop (suc index) s.entries.items))) g.counted
    ∙ (ap (λ es. in_front old (run_from p index (configuration p m) es)) (sym (next_entry s.entries.items index e l is)) ∙ g.rest)

pub run_ends : {E : Type 0} (p : PlainProgram) (s : Schedule) (m n : Machine) (old new : List ℕ) (count index : ℕ) (e : Entry) (end : End) (o : Option End) (r : Result Played E) → Goes p s m old count index → index < length s.entries.items → e ≡ get_or s.entries.items index e → o ≡ Some end → Advances p count e m n old new o → IfOk r (λ q. (q.text.items ≡ new ++ last_line end) × (q.end ≡ end)) → IfOk r (λ q. played_view q ≡ run_text p s)
run_ends p s m n old new count index e end o r g l is i a h =
    let P : Option End → Type 0 = λ u. Advances p count e m n old new u in
    let b = subst P i a in
    let w : in_front new (ends end) ≡ run_text p s = sym (b (drop (suc index) s.entries.items)) ∙ left_at p s m old count index e g l is in
    if_ok_map r (λ q. (q.text.items ≡ new ++ last_line end) × (q.end ≡ end)) (λ q. played_view q ≡ run_text p s) (λ q k. ap (λ t. record { text = t; end = q.end }) k.0 ∙ (ap (λ x. record { text = new ++ last_line end; end = x }) k.1 ∙ w)) h

pub run_goes : (p : PlainProgram) (s : Schedule) (m n : Machine) (old new : List ℕ) (count index : ℕ) (e : Entry) (o : Option End) → Goes p s m old count index → index < length s.entries.items → e ≡ get_or s.entries.items index e → o ≡ None → Advances p count e m n old new o → RunsProgram p n → length (configuration p n).threads ≤ suc (length (configuration p m).threads) → Goes p s n new (count + 1) (index + 1)
run_goes p s m n old new count index e o g l is i a f t =
    let P : Option End → Type 0 = λ u. Advances p count e m n old new u in
    let b = subst P i a in
    let Q : ℕ → Type 0 = λ k. in_front new (run_from p k (configuration p n) (drop k s.entries.items)) ≡ run_text p s in
    record {
      counted = ap (λ x. x + 1) g.counted;
      fits = f;
      runs = b.1;
      threads = let h = g.threads in omega arith;
      rest =
          subst Q (sym (add-one index))
          (ap (λ k. in_front new (run_from p k (configuration p n) (drop (suc index) s.entries.items))) (ap suc (sym g.counted))
          ∙ (sym (b.0 (drop (suc index) s.entries.items)) ∙ left_at p s m old count index e g l is));
    }

pub entry_at : (es fs : List Entry) (i : ℕ) (d : Entry) → es ≡ fs → i < length es → get_or es i d ≡ get_or fs i (get_or es i d)
entry_at es fs i d e l = get_or_default es i d (get_or es i d) l ∙ ap (λ xs. get_or xs i (get_or es i d)) e
