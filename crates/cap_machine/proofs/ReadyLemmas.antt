-- Which statement is ready, and when none is.
use Rattle.std.proofs.Common.{◌≡◌, ◌∙◌, ap, sym, refl, subst, rules, ℕ, zero, suc, ◌+◌, ◌-◌, ◌<◌, ◌≤◌, Bool, true, false, cond, not, ◌&&◌, List, [], ◌∷◌, ◌++◌, map, get_or, length, length-set, length-append, arith}
use Rattle.std.specs.Prelude.{ℤ, pos, ◌≤ℤ◌, int_le, ◌+ℤ◌, slice_get, slice_set, Option, Some, None, is_none, is_some, option_map, unwrap_or, MatchOption, IsTrue, IsSomeAnd, Result, Ok, Err, ◌↔◌}
use Rattle.std.specs.Global.{Vec}
use Rattle.std.specs.Option.{SomeIff}
use Rattle.std.specs.Result.{OkIff, result_unwrap_or}
use Rattle.std.specs.FinMap.{get}
use mir.Val.{SFits}
use mir.Syntax.{w128}
use Rattle.cap_lin.specs.Steps.{fits, first_wide}
use Rattle.cap_lin.specs.declared.row.Op.TheVariants.{Eq as Equal}
use Rattle.std.proofs.lemmas.Int.{ints}
use Rattle.std.proofs.lemmas.List.{length-map}
use Rattle.std.proofs.lemmas.Option.{slice_get_read}
use Rattle.cap_prog.specs.Program.{Label, PlainAct, set, read, write, cas, faa, dispose, alloc, call, fork, branch, loop, check, give_back, Block, done, first, PlainStatement, PlainFunction, PlainProgram}
use Rattle.cap_prog.specs.Views.{function_view, block_view, statement_view, act_view}
use Rattle.cap_prog.specs.declared.function.Act.TheFolds as acts
use Rattle.cap_prog.specs.declared.assertion.Comp.{Comp}
use Rattle.cap_prog.specs.declared.function.Function.{Function}
use Rattle.cap_prog.specs.declared.function.Statement.{Statement}
use Rattle.cap_prog.specs.WellFormed.{IsWellFormed}
use Rattle.cap_machine.specs.declared.event.Entry.{Entry}
use Rattle.cap_machine.specs.declared.event.Event.{Event}
use Rattle.cap_machine.specs.declared.event.Event.TheVariants.{Alloc, Failed}
use Rattle.cap_machine.specs.declared.event.StepError.{StepError}
use Rattle.cap_machine.specs.declared.event.StepError.TheVariants.{NotEnabled, Wide, OutOfMemory}
use Rattle.cap_machine.specs.declared.frame.Frame as code
use Rattle.cap_machine.specs.declared.machine.Machine.{Machine}
use Rattle.cap_machine.specs.Cells.{IsTop}
use Rattle.cap_machine.specs.Machine.{Heap, Frame, Thread, Configuration, Outcome, next, fault, disabled, Spot, with_rest, new_frame, at_cell, swaps, adds, may_be_at, allocates, sets, with_cells, calls, forks, returns, does, value_in, holds, compared, takes_base, statement_step, thread_step, step, top_frame, are_free}
use Rattle.cap_machine.specs.Fits.{FrameFits, ThreadFits, ConfigurationFits}
use Rattle.cap_machine.specs.Laws.{is_step, running, AreFree, BaseFits}
use Rattle.cap_machine.specs.Results.{allocation_steps, addition_steps, are_narrow}
use Rattle.cap_machine.specs.View.{body_of, thread_view, configuration, is_stopped, ArePlaced, AllArePlaced, RunsProgram, IsSame, LeavesMachine, Steps, is_enabled}
use Rattle.cap_machine.specs.Ready.{IsReady, IsReadyTo}
use Rattle.cap_machine.proofs.Lists.{all_at}
use Rattle.cap_machine.proofs.Keeping.{Runs, runs, step-kept, KeepsFit}
use Rattle.cap_machine.proofs.MachineLemmas.{thread_count}
use Rattle.cap_machine.proofs.ActLemmas.{enabled_now, heap_is}
use Rattle.cap_machine.proofs.StepLemmas.{where_true, at_free}
use Rattle.cap_machine.proofs.HeapLemmas.{narrow, sfits_of}
use Rattle.cap_machine.proofs.Enabled.{statement-iff, free_is, is_free}

-- ---- the body of a frame's function

get_map : {X Y : Type 0} (f : X → Y) (xs : List X) (i : ℕ) → slice_get (map f xs) i ≡ option_map f (slice_get xs i)
get_map f [] i = refl
get_map f (x ∷ xs) zero = refl
get_map f (x ∷ xs) (suc i) = get_map f xs i

pub body_at : (fs gs : List Function) (i : ℕ) (g : Function) (b : List Statement) → i < length (map function_view gs) → fs ≡ gs → g ≡ get_or fs i g → b ≡ (get_or fs i g).body.items → block_view b ≡ body_of (slice_get (map function_view gs) i)
body_at fs gs i g b l e r is =
    let h : i < length fs = rw e (rw (length-map gs function_view) at l) in
    let k : g ≡ get_or fs i g = r in
    ap block_view (is ∙ ap (λ (f : Function). f.body.items) (sym k))
    ∙ sym (ap body_of (get_map function_view gs i ∙ ap (option_map function_view) (ap (λ xs. slice_get xs i) (sym e) ∙ slice_get_read fs (length fs) i g refl h k)))

-- ---- the statement that is ready

not_true : (b : Bool) → (b ≡ true → ⊥) → b ≡ false
not_true true h = absurd (h refl)
not_true false h = refl

running_is : (o : Option Thread) (f : Frame) → top_frame o ≡ Some f → (fs : List Frame) × (o ≡ Some (f ∷ fs))
running_is None f e = absurd (cc)
running_is (Some []) f e = absurd (cc)
running_is (Some (g ∷ gs)) f e = let i : g ≡ f = cc in (gs, ap (λ x. Some (x ∷ gs)) i)

takes : (h : Heap) (a : PlainAct) (base : Option ℤ) → BaseFits h a base → takes_base a base ≡ true
takes h (alloc x n) None b = absurd b
takes h (alloc x n) (Some base) b = refl
takes h (set x t) base b = ap is_none b
takes h (read x a) base b = ap is_none b
takes h (write a t) base b = ap is_none b
takes h (cas x a old new) base b = ap is_none b
takes h (faa x a t) base b = ap is_none b
takes h (dispose a) base b = ap is_none b
takes h (call x f args) base b = ap is_none b
takes h (fork f args) base b = ap is_none b
takes h (branch c x y) base b = ap is_none b
takes h (loop c i x) base b = ap is_none b
takes h (check c) base b = ap is_none b
takes h (give_back t) base b = ap is_none b

at_some : {X : Type 0} (o : Option X) (x : X) (P : X → Type 0) → IsSomeAnd o P → o ≡ Some x → P x
at_some {X = X} o x P h e = let Q : Option X → Type 0 = λ u. IsSomeAnd u P in subst Q e h

pub is_ready : (p : PlainProgram) (m : Machine) (e : Entry) (s : PlainStatement) (f : Frame) (rest : Block) → IsWellFormed p → RunsProgram p m → is_stopped m ≡ false → running (configuration p m) e.thread ≡ Some f → f.rest ≡ first s.label s.act rest → BaseFits (configuration p m).heap s.act e.base → IsReady p m e s
is_ready p m e s f rest w h r t i b =
    let fs = running_is (slice_get (configuration p m).threads e.thread) f t in
    let k : ThreadFits p (f ∷ fs.0) = all_at (ThreadFits p) (configuration p m).threads e.thread (f ∷ fs.0) h.frames fs.1 in
    let P : Block → Type 0 = λ q. IsSomeAnd (slice_get p.functions f.function) (λ g. FrameFits g (with_rest f q)) in
    let q : Runs p f s.label s.act = runs p f s.label s.act rest w (subst P i k.0) in
    let g : FrameFits q.function f = at_some (slice_get p.functions f.function) q.function (λ x. FrameFits x f) k.0 q.is in
    record {
      program = w;
      function = q.function;
      frame = f;
      below = fs.0;
      rest = rest;
      runs = r;
      there = fs.1;
      next = i;
      base = takes (configuration p m).heap s.act e.base b;
      suits = b;
      is = q.is;
      act = q.act;
      store = g.store;
      places = h.places;
    }

-- ---- none is ready

and_false : (a b : Bool) → b ≡ false → a && b ≡ false
and_false true b e = e
and_false false b e = refl

pub stopped_disabled : (p : PlainProgram) (m : Machine) (e : Entry) → is_stopped m ≡ true → is_enabled p m e ≡ false
stopped_disabled p m e h = ap (λ b. not b && is_step (step p (configuration p m) e)) h

spot_of : (p : PlainProgram) (m : Machine) (e : Entry) (f : Frame) → List Frame → Spot
spot_of p m e f fs = record { thread = e.thread; frame = f; below = fs; configuration = configuration p m }

pub base_disabled : (p : PlainProgram) (m : Machine) (e : Entry) (s : PlainStatement) (f : Frame) (rest : Block) → IsWellFormed p → RunsProgram p m → running (configuration p m) e.thread ≡ Some f → f.rest ≡ first s.label s.act rest → (BaseFits (configuration p m).heap s.act e.base → ⊥) → is_enabled p m e ≡ false
base_disabled p m e s f rest w h t i b =
    let fs = running_is (slice_get (configuration p m).threads e.thread) f t in
    let k : ThreadFits p (f ∷ fs.0) = all_at (ThreadFits p) (configuration p m).threads e.thread (f ∷ fs.0) h.frames fs.1 in
    let P : Block → Type 0 = λ q. IsSomeAnd (slice_get p.functions f.function) (λ g. FrameFits g (with_rest f q)) in
    let q : Runs p f s.label s.act = runs p f s.label s.act rest w (subst P i k.0) in
    let spot : Spot = record { thread = e.thread; frame = f; below = fs.0; configuration = configuration p m } in
    let n : is_step (statement_step p spot e.base (first s.label s.act rest)) ≡ false = not_true _ (λ y. b ((statement-iff p spot e.base s.label s.act rest q).0 y)) in
    and_false (not (is_stopped m)) _ (ap is_step (ap (thread_step p (configuration p m) e) fs.1 ∙ ap (statement_step p spot e.base) i) ∙ n)

-- ---- the base of an allocation

-- ---- what is ahead

never_done : (o : Option PlainFunction) (f : Frame) → IsSomeAnd o (λ g. FrameFits g (with_rest f done)) → ⊥
never_done None f h = h
never_done (Some g) f h = h.closing

pub act_of : (s : Statement) → (statement_view s).act ≡ act_view s.act
act_of s = search (rules, acts.the_lemmas)

pub place_of : (s : Statement) → (statement_view s).label.place ≡ s.place
place_of s = search (rules, acts.the_lemmas)

pub check_ready : (p : PlainProgram) (m : Machine) (e : Entry) (s : Statement) (c : Comp) → IsReady p m e (statement_view s) → act_view s.act ≡ check c → (r : IsReadyTo p m e (check c)) × (r.0.place ≡ s.place)
check_ready p m e s c r i =
    let l : Label = (statement_view s).label in
    let P : PlainAct → Type 0 = λ a. IsReady p m e (record { label = l; act = a }) in
    ((l, subst P (act_of s ∙ i) r), place_of s)

-- ---- the machine of the code

pub stop_is : (m : Machine) (b : Bool) → m.stopped ≡ b → is_stopped m ≡ b
unfolding is_stopped
stop_is m b e = e

pub running_shows : (p : PlainProgram) (m : Machine) (n : ℕ) (o : Option (Vec code.Frame)) → o ≡ slice_get m.threads.items n → top_frame (option_map (λ (t : Vec code.Frame). thread_view p t.items) o) ≡ running (configuration p m) n
unfolding configuration
running_shows p m n o e = ap (λ u. top_frame (option_map (λ (t : Vec code.Frame). thread_view p t.items) u)) e ∙ sym (ap top_frame (get_map (λ (t : Vec code.Frame). thread_view p t.items) m.threads.items n))

pub frames_show : (p : PlainProgram) (m : Machine) (n : ℕ) (o : Option (Vec code.Frame)) → o ≡ slice_get m.threads.items n → unwrap_or (option_map (λ (t : Vec code.Frame). thread_view p t.items) o) [] ≡ unwrap_or (slice_get (configuration p m).threads n) []
unfolding configuration
frames_show p m n o e = ap (λ u. unwrap_or (option_map (λ (t : Vec code.Frame). thread_view p t.items) u) []) e ∙ sym (ap (λ u. unwrap_or u []) (get_map (λ (t : Vec code.Frame). thread_view p t.items) m.threads.items n))

pub placed_at : (p : PlainProgram) (m : Machine) (n : ℕ) (t : Vec code.Frame) → Some t ≡ slice_get m.threads.items n → AllArePlaced p m → ArePlaced p t.items
unfolding AllArePlaced
placed_at p m n t e h = all_at (λ (u : Vec code.Frame). ArePlaced p u.items) m.threads.items n t h (sym e)

pub counted : {E : Type 0} (p : PlainProgram) (m : Machine) (r : Result ℕ E) (n : ℕ) → OkIff r (n < 4294967296) n → n ≡ length m.threads.items → length (configuration p m).threads < 4294967296 → result_unwrap_or r 4294967295 ≡ length (configuration p m).threads
counted {E = E} p m r n h e l =
    let i : n ≡ length (configuration p m).threads = e ∙ sym (thread_count p m) in
    go r h (rw i l) ∙ i
  where
    go : (r : Result ℕ E) → OkIff r (n < 4294967296) n → n < 4294967296 → result_unwrap_or r 4294967295 ≡ n
    go (Ok x) k u = k.1
    go (Err x) k u = absurd (k u)

pub top_heap : (p : PlainProgram) (m : Machine) (o : Option ℤ) → IsTop m.heap o → IsTop (configuration p m).heap o
unfolding configuration
top_heap p m o h = h

pub enabled_as : {X : Type 0} (p : PlainProgram) (m : Machine) (e : Entry) (o : Option X) (view : X → PlainStatement) → MatchOption o (is_enabled p m e ≡ false) (λ x. IsReady p m e (view x)) → is_some o ≡ is_enabled p m e
enabled_as p m e None view h = sym h
enabled_as p m e (Some x) view h = sym (enabled_now p m e (view x) h h.suits)

-- ---- the machine after a step

pub fits_after : (p : PlainProgram) (m n : Machine) (e : Entry) (r : Result Event StepError) → IsWellFormed p → RunsProgram p m → Steps p e m n r → AllArePlaced p n → RunsProgram p n
fits_after p m n e r w h s k = record { frames = go r s; places = k }
  where
    same : IsSame p m n → ConfigurationFits p (configuration p n)
    same i = subst (ConfigurationFits p) (sym i.same_configuration) h.frames

    left : (o : Outcome) (event : Event) → KeepsFit p o → LeavesMachine p m n event o → ConfigurationFits p (configuration p n)
    left (next c x) event f l = subst (ConfigurationFits p) (sym l.1) f
    left (fault x) event f l = subst (ConfigurationFits p) (sym l.1) h.frames
    left disabled event f l = absurd l

    go : (r : Result Event StepError) → Steps p e m n r → ConfigurationFits p (configuration p n)
    go (Ok event) i = left (step p (configuration p m) e) event (step-kept p (configuration p m) e w h.frames) i.2
    go (Err NotEnabled) i = same i.1
    go (Err Wide) i = same i.2
    go (Err OutOfMemory) i = same i

-- at most one thread comes to so many
abbrev Grows : ℕ → Outcome → Type 0
Grows k (next c event) = length c.threads ≤ suc k
Grows k (fault event) = Unit {0}
Grows k disabled = Unit {0}

set-grows : (ts : List Thread) (n : ℕ) (fs : List Frame) → length (slice_set ts n fs) ≤ suc (length ts)
set-grows ts n fs = let e : length (slice_set ts n fs) ≡ length ts = length-set ts n fs in omega arith

choice-grows : (k : ℕ) (b : Bool) (o u : Outcome) → Grows k o → Grows k u → Grows k (cond b o u)
choice-grows k true o u h i = h
choice-grows k false o u h i = i

at_cell-grows : (k : ℕ) (a : ℤ) (o : Option ℤ) (f : ℤ → Outcome) → ((v : ℤ) → Grows k (f v)) → Grows k (at_cell a o f)
at_cell-grows k a None f h = tt
at_cell-grows k a (Some v) f h = h v

calls-grows : (s : Spot) (b : Block) (n : ℕ) (vs : List ℤ) (x : Option ℕ) (o : Option PlainFunction) → Grows (length s.configuration.threads) (calls s b n vs x o)
calls-grows s b n vs x None = tt
calls-grows s b n vs x (Some g) = set-grows s.configuration.threads s.thread _

forks-grows : (s : Spot) (b : Block) (n : ℕ) (vs : List ℤ) (o : Option PlainFunction) → Grows (length s.configuration.threads) (forks s b n vs o)
forks-grows s b n vs None = tt
forks-grows s b n vs (Some g) =
    let e : length (slice_set s.configuration.threads s.thread (with_rest s.frame b ∷ s.below)) ≡ length s.configuration.threads = length-set s.configuration.threads s.thread (with_rest s.frame b ∷ s.below) in
    let a : length (slice_set s.configuration.threads s.thread (with_rest s.frame b ∷ s.below) ++ (new_frame n g vs None ∷ []) ∷ []) ≡ length (slice_set s.configuration.threads s.thread (with_rest s.frame b ∷ s.below)) + 1 = length-append (slice_set s.configuration.threads s.thread (with_rest s.frame b ∷ s.below)) ((new_frame n g vs None ∷ []) ∷ []) in
    omega arith

returns-grows : (s : Spot) (v : ℤ) (fs : List Frame) → Grows (length s.configuration.threads) (returns s v fs)
returns-grows s v [] = set-grows s.configuration.threads s.thread _
returns-grows s v (f ∷ fs) = set-grows s.configuration.threads s.thread _

allocates-grows : (s : Spot) (b : Block) (x n : ℕ) (base : Option ℤ) → Grows (length s.configuration.threads) (allocates s b x n base)
allocates-grows s b x n None = tt
allocates-grows s b x n (Some base) = choice-grows _ (may_be_at s.configuration.heap base n) _ disabled (set-grows s.configuration.threads s.thread _) tt

does-grows : (p : PlainProgram) (s : Spot) (l : Label) (a : PlainAct) (b : Block) (base : Option ℤ) → Grows (length s.configuration.threads) (does p s l a b base)
does-grows p s l (set x t) b base = set-grows s.configuration.threads s.thread _
does-grows p s l (read x t) b base = at_cell-grows _ _ (get s.configuration.heap (value_in s.frame.store t)) _ (λ v. set-grows s.configuration.threads s.thread _)
does-grows p s l (write t u) b base = at_cell-grows _ _ (get s.configuration.heap (value_in s.frame.store t)) _ (λ v. set-grows s.configuration.threads s.thread _)
does-grows p s l (cas x t old new) b base =
    at_cell-grows _ _ (get s.configuration.heap (value_in s.frame.store t)) (swaps s b x (value_in s.frame.store t) (value_in s.frame.store old) (value_in s.frame.store new)) (λ v. choice-grows _ (compared Equal v (value_in s.frame.store old)) _ _ (set-grows s.configuration.threads s.thread _) (set-grows s.configuration.threads s.thread _))
does-grows p s l (faa x t u) b base =
    at_cell-grows _ _ (get s.configuration.heap (value_in s.frame.store t)) (adds s b x (value_in s.frame.store t) (value_in s.frame.store u)) (λ v. set-grows s.configuration.threads s.thread _)
does-grows p s l (dispose t) b base = at_cell-grows _ _ (get s.configuration.heap (value_in s.frame.store t)) _ (λ v. set-grows s.configuration.threads s.thread _)
does-grows p s l (alloc x n) b base = allocates-grows s b x n base
does-grows p s l (call x n args) b base = calls-grows s b n (map (value_in s.frame.store) args) x (slice_get p.functions n)
does-grows p s l (fork n args) b base = forks-grows s b n (map (value_in s.frame.store) args) (slice_get p.functions n)
does-grows p s l (branch c a d) b base = choice-grows _ (holds s.frame.store c) _ _ (set-grows s.configuration.threads s.thread _) (set-grows s.configuration.threads s.thread _)
does-grows p s l (loop c i a) b base = choice-grows _ (holds s.frame.store c) _ _ (set-grows s.configuration.threads s.thread _) (set-grows s.configuration.threads s.thread _)
does-grows p s l (check c) b base = choice-grows _ (holds s.frame.store c) _ (fault (Failed l.place)) (set-grows s.configuration.threads s.thread _) tt
does-grows p s l (give_back t) b base = returns-grows s (value_in s.frame.store t) s.below

step-grows : (p : PlainProgram) (c : Configuration) (e : Entry) → Grows (length c.threads) (step p c e)
step-grows p c e = go (slice_get c.threads e.thread)
  where
    block : (s : Spot) (b : Block) → Grows (length s.configuration.threads) (statement_step p s e.base b)
    block s done = tt
    block s (first l a b) = choice-grows _ (takes_base a e.base) _ disabled (does-grows p s l a b e.base) tt

    go : (o : Option Thread) → Grows (length c.threads) (thread_step p c e o)
    go None = tt
    go (Some []) = tt
    go (Some (f ∷ fs)) = block (record { thread = e.thread; frame = f; below = fs; configuration = c }) f.rest

pub grows_after : (p : PlainProgram) (m n : Machine) (e : Entry) (r : Result Event StepError) → Steps p e m n r → length (configuration p n).threads ≤ suc (length (configuration p m).threads)
grows_after p m n e r s = go r s
  where
    same : (c : Configuration) → c ≡ configuration p m → length c.threads ≤ suc (length (configuration p m).threads)
    same c i = let k : length c.threads ≡ length (configuration p m).threads = ap (λ (d : Configuration). length d.threads) i in omega arith

    left : (o : Outcome) (event : Event) → Grows (length (configuration p m).threads) o → LeavesMachine p m n event o → length (configuration p n).threads ≤ suc (length (configuration p m).threads)
    left (next c x) event g l = let k : length (configuration p n).threads ≡ length c.threads = ap (λ (d : Configuration). length d.threads) l.1 in omega arith
    left (fault x) event g l = same (configuration p n) l.1
    left disabled event g l = absurd l

    go : (r : Result Event StepError) → Steps p e m n r → length (configuration p n).threads ≤ suc (length (configuration p m).threads)
    go (Ok event) i = left (step p (configuration p m) e) event (step-grows p (configuration p m) e) i.2
    go (Err NotEnabled) i = let q = i.1 in same (configuration p n) q.same_configuration
    go (Err Wide) i = let q = i.2 in same (configuration p n) q.same_configuration
    go (Err OutOfMemory) i = same (configuration p n) i.same_configuration

-- ---- a base, by what the code found

pub base_given : (h : Heap) (x n : ℕ) (o : Option ℤ) (base : ℤ) (r : Bool) → o ≡ Some base → pos 1 ≤ℤ base → r ≡ are_free h base n → IsTrue r ↔ BaseFits h (alloc x n) o
base_given h x n o base r i l e =
    let P : Option ℤ → Type 0 = λ u. IsTrue r ↔ BaseFits h (alloc x n) u in
    subst P (sym i) (λ t. (l, free_is h base n (sym e ∙ t)), λ b. e ∙ is_free h base n b.1)

pub suits_as : (h : Heap) (a b : PlainAct) (o : Option ℤ) (r : Bool) → a ≡ b → IsTrue r ↔ BaseFits h b o → IsTrue r ↔ BaseFits h a o
suits_as h a b o r e i = let P : PlainAct → Type 0 = λ x. IsTrue r ↔ BaseFits h x o in subst P (sym e) i

pub int_above : (z : ℤ) → int_le (pos 1) z ≡ true → pos 1 ≤ℤ z
int_above z h = grind (arith, ints)

pub suits_act : (p : PlainProgram) (m : Machine) (s : Statement) (o : Option ℤ) → BaseFits m.heap (act_view s.act) o → BaseFits (configuration p m).heap (statement_view s).act o
suits_act p m s o h =
    let P : PlainAct → Type 0 = λ a. BaseFits (configuration p m).heap a o in
    let Q : Heap → Type 0 = λ k. BaseFits k (act_view s.act) o in
    subst P (sym (act_of s)) (subst Q (sym (heap_is p m)) h)

pub suits_not : (p : PlainProgram) (m : Machine) (s : Statement) (o : Option ℤ) → (BaseFits m.heap (act_view s.act) o → ⊥) → BaseFits (configuration p m).heap (statement_view s).act o → ⊥
suits_not p m s o n h =
    let P : PlainAct → Type 0 = λ a. BaseFits (configuration p m).heap a o in
    let Q : Heap → Type 0 = λ k. BaseFits k (act_view s.act) o in
    n (subst Q (heap_is p m) (subst P (act_of s) h))

-- ---- allocations

pub last_fits : (o : Option ℤ) (base r v : ℤ) (n : ℕ) (b : Bool) → SomeIff o (SFits w128 (base +ℤ r)) v → r ≡ pos (n - 1) → is_some o ≡ b → fits (base +ℤ pos (n - 1)) ≡ b
last_fits o base r v n b h e i = ap (λ z. fits (base +ℤ z)) (sym e) ∙ (go o h ∙ i)
  where
    go : (o : Option ℤ) → SomeIff o (SFits w128 (base +ℤ r)) v → fits (base +ℤ r) ≡ is_some o
    go None k = not_true _ (λ t. k (sfits_of (base +ℤ r) t))
    go (Some x) k = narrow (base +ℤ r) k.0

pub allocation_narrow : (n : ℕ) (o : Option ℤ) (base : ℤ) (b : Bool) → o ≡ Some base → fits (base +ℤ pos (n - 1)) ≡ b → are_narrow (allocation_steps n o) ≡ b
unfolding first_wide
allocation_narrow n o base b i f = ap (λ u. are_narrow (allocation_steps n u)) i ∙ go (fits (base +ℤ pos (n - 1))) f
  where
    go : (t : Bool) → t ≡ b → is_none {T = ℤ × ℤ} (cond t None (Some (base, pos (n - 1)))) ≡ b
    go true e = e
    go false e = e

base_at : (h : Heap) (x n : ℕ) (o : Option ℤ) (base : ℤ) → BaseFits h (alloc x n) o → o ≡ Some base → (pos 1 ≤ℤ base) × AreFree h base n
base_at h x n o base b i = let P : Option ℤ → Type 0 = λ u. BaseFits h (alloc x n) u in subst P i b

pub free_at : (p : PlainProgram) (m : Machine) (x n : ℕ) (o : Option ℤ) (base : ℤ) → BaseFits (configuration p m).heap (alloc x n) o → o ≡ Some base → are_free m.heap base n ≡ true
free_at p m x n o base b i =
    let f = base_at (configuration p m).heap x n o base b i in ap (λ h. are_free h base n) (sym (heap_is p m)) ∙ is_free (configuration p m).heap base n f.1

pub allocates_at : (s : Spot) (rest : Block) (x n : ℕ) (o : Option ℤ) (base : ℤ) → BaseFits s.configuration.heap (alloc x n) o → o ≡ Some base → allocates s rest x n o ≡ sets s (with_cells s.configuration.heap base n) rest x base (Alloc base)
allocates_at s rest x n o base b i =
    let f = base_at s.configuration.heap x n o base b i in
    ap (allocates s rest x n) i ∙ where_true _ _ _ (at_free s.configuration.heap s.configuration.heap base n f.0 (is_free s.configuration.heap base n f.1) refl)

-- ---- additions

pub sum_wide : (z : ℤ) → (SFits w128 z → ⊥) → fits z ≡ false
sum_wide z k = not_true _ (λ t. k (sfits_of z t))

pub sum_narrow : (z : ℤ) → SFits w128 z → fits z ≡ true
sum_narrow z k = narrow z k

pub addition_narrow : (o : Option ℤ) (v d : ℤ) (b : Bool) → o ≡ Some v → fits (v +ℤ d) ≡ b → are_narrow (addition_steps o d) ≡ b
unfolding first_wide
addition_narrow o v d b i f = ap (λ u. are_narrow (addition_steps u d)) i ∙ go (fits (v +ℤ d)) f
  where
    go : (t : Bool) → t ≡ b → is_none {T = ℤ × ℤ} (cond t None (Some (v, d))) ≡ b
    go true e = e
    go false e = e

-- at an absent address there is no sum
pub no_addition : (o : Option ℤ) (d : ℤ) → o ≡ None → are_narrow (addition_steps o d) ≡ true
unfolding first_wide
no_addition o d i = ap (λ u. are_narrow (addition_steps u d)) i
