-- A step keeps the configuration fitting.
use Rattle.std.proofs.Common.{◌≡◌, ◌∙◌, sym, refl, ap, subst, ℕ, ◌+◌, Bool, true, false, cond, List, [], ◌∷◌, length, map, length-set, length-append}
use Rattle.std.proofs.lemmas.List.{length-map, length-replicate}
use Rattle.std.specs.Prelude.{ℤ, pos, Option, Some, None, slice_get, slice_set, replicate, IsSomeAnd}
use Rattle.std.specs.List.{AllByRecursion}
use Rattle.std.specs.FinMap.{get, insert, remove}
use Rattle.cap_lin.specs.Linear.{Linear}
use Rattle.cap_prog.specs.Program.{Label, PlainAct, set, read, write, cas, faa, dispose, alloc, call, fork, branch, loop, check, give_back, Block, done, first, append, PlainStatement, PlainFunction, PlainProgram}
use Rattle.cap_prog.specs.Parts.{all_statements, block_statements}
use Rattle.cap_prog.specs.WellFormed.{IsLocal, GivesLocal, ActFits, IsClosingReturn, EndsInReturn, FunctionFits, IsWellFormed}
use Rattle.cap_machine.specs.declared.event.Entry.{Entry}
use Rattle.cap_machine.specs.declared.event.Event.{Event}
use Rattle.cap_machine.specs.declared.event.Event.TheVariants.{Read, Write, Cas, Dispose}
use Rattle.cap_lin.specs.declared.row.Op.TheVariants.{Eq as Equal}
use Rattle.cap_machine.specs.Machine.{Heap, Frame, Thread, Configuration, Outcome, next, fault, disabled, Spot, with_rest, with_value, passes, sets, at_cell, swaps, adds, may_be_at, allocates, new_frame, calls, forks, receives, returns, does, takes_base, statement_step, thread_step, step, start, value_in, holds, compared}
use Rattle.cap_machine.specs.Fits.{IsStatementOf, FrameFits, CallerTakes, ThreadFits, ConfigurationFits}
use Rattle.cap_machine.proofs.Lists.{all_at, all_set, all_append, all_front, all_back, some_map, all_one, each_of_itself, all_joined}

-- the configuration that follows, if there is one
abbrev pub KeepsFit : PlainProgram → Outcome → Type 0
KeepsFit p (next c event) = ConfigurationFits p c
KeepsFit p (fault event) = Unit {0}
KeepsFit p disabled = Unit {0}

-- ---- bodies that end with their closing return

pub ends_behind : (l : Label) (a : PlainAct) (b : Block) → EndsInReturn b → EndsInReturn (first l a b)
ends_behind l a done h = absurd h
ends_behind l a (first m s b) h = h

pub ends_append : (a b : Block) → EndsInReturn b → EndsInReturn (append a b)
ends_append done b h = h
ends_append (first l s a) b h = ends_behind l s (append a b) (ends_append a b h)

pub ends_after : (l : Label) (a : PlainAct) (b : Block) → (IsClosingReturn a → ⊥) → EndsInReturn (first l a b) → EndsInReturn b
ends_after l a done n h = absurd (n h)
ends_after l a (first m s b) n h = h

-- ---- frames

value-fits : (g : PlainFunction) (f : Frame) (x : ℕ) (v : ℤ) → FrameFits g f → FrameFits g (with_value f x v)
value-fits g f x v h = record { arguments = h.arguments; store = length-set f.store x v ∙ h.store; statements = h.statements; closing = h.closing }

rest-fits : (g : PlainFunction) (f : Frame) (b : Block) → FrameFits g f → AllByRecursion (IsStatementOf (all_statements g.body)) (all_statements b) → EndsInReturn b → FrameFits g (with_rest f b)
rest-fits g f b h m e = record { arguments = h.arguments; store = h.store; statements = m; closing = e }

-- the statements of the first statement's blocks, and those behind it
inner : (g : PlainFunction) (f : Frame) (l : Label) (a : PlainAct) (b : Block) → FrameFits g (with_rest f (first l a b)) → AllByRecursion (IsStatementOf (all_statements g.body)) (block_statements a)
inner g f l a b h = all_front (IsStatementOf (all_statements g.body)) (block_statements a) (all_statements b) h.statements.1

behind : (g : PlainFunction) (f : Frame) (l : Label) (a : PlainAct) (b : Block) → FrameFits g (with_rest f (first l a b)) → AllByRecursion (IsStatementOf (all_statements g.body)) (all_statements b)
behind g f l a b h = all_back (IsStatementOf (all_statements g.body)) (block_statements a) (all_statements b) h.statements.1

passed-fits : (g : PlainFunction) (f : Frame) (l : Label) (a : PlainAct) (b : Block) → (IsClosingReturn a → ⊥) → FrameFits g (with_rest f (first l a b)) → FrameFits g (with_rest f b)
passed-fits g f l a b n h = rest-fits g (with_rest f (first l a b)) b h (behind g f l a b h) (ends_after l a b n h.closing)

pub new_frame-fits : (n : ℕ) (g : PlainFunction) (vs : List ℤ) (x : Option ℕ) → length vs ≡ g.params → EndsInReturn g.body → FrameFits g (new_frame n g vs x)
new_frame-fits n g vs x e h = record {
  arguments = e;
  store = length-append vs (replicate g.locals (pos 0)) ∙ (ap (λ k. k + length (replicate g.locals (pos 0))) e ∙ ap (λ k. g.params + k) (length-replicate g.locals (pos 0)));
  statements = each_of_itself (all_statements g.body);
  closing = h;
}

-- ---- threads

pub passed-thread : (p : PlainProgram) (f : Frame) (fs : List Frame) (l : Label) (a : PlainAct) (b : Block) → (IsClosingReturn a → ⊥) → ThreadFits p (with_rest f (first l a b) ∷ fs) → ThreadFits p (with_rest f b ∷ fs)
passed-thread p f fs l a b n h = (some_map _ _ (slice_get p.functions f.function) (λ g k. passed-fits g f l a b n k) h.0, h.1, h.2)

value-thread : (p : PlainProgram) (f : Frame) (fs : List Frame) (x : ℕ) (v : ℤ) → ThreadFits p (f ∷ fs) → ThreadFits p (with_value f x v ∷ fs)
value-thread p f fs x v h = (some_map _ _ (slice_get p.functions f.function) (λ g k. value-fits g f x v k) h.0, h.1, h.2)

receives-thread : (p : PlainProgram) (x : Option ℕ) (v : ℤ) (f : Frame) (fs : List Frame) → ThreadFits p (f ∷ fs) → ThreadFits p (receives x v f ∷ fs)
receives-thread p None v f fs h = h
receives-thread p (Some x) v f fs h = value-thread p f fs x v h

-- ---- outcomes

placed : (p : PlainProgram) (s : Spot) (fs : List Frame) → ConfigurationFits p s.configuration → ThreadFits p fs → AllByRecursion (ThreadFits p) (slice_set s.configuration.threads s.thread fs)
placed p s fs h k = all_set (ThreadFits p) s.configuration.threads s.thread fs h k

choice-kept : (p : PlainProgram) (b : Bool) (o u : Outcome) → KeepsFit p o → KeepsFit p u → KeepsFit p (cond b o u)
choice-kept p true o u h k = h
choice-kept p false o u h k = k

at_cell-kept : (p : PlainProgram) (a : ℤ) (o : Option ℤ) (f : ℤ → Outcome) → ((v : ℤ) → KeepsFit p (f v)) → KeepsFit p (at_cell a o f)
at_cell-kept p a None f h = tt
at_cell-kept p a (Some v) f h = h v

returns-kept : (p : PlainProgram) (s : Spot) (v : ℤ) (fs : List Frame) → ConfigurationFits p s.configuration → ThreadFits p fs → KeepsFit p (returns s v fs)
returns-kept p s v [] h k = placed p s [] h tt
returns-kept p s v (f ∷ fs) h k = placed p s _ h (receives-thread p s.frame.destination v f fs k)

-- the statement fits the function of its frame
pub record Runs (p : PlainProgram) (f : Frame) (l : Label) (a : PlainAct) : Type 0 where
  pub function : PlainFunction
  pub is : slice_get p.functions f.function ≡ Some function
  pub act : ActFits p function a

pub runs : (p : PlainProgram) (f : Frame) (l : Label) (a : PlainAct) (b : Block) → IsWellFormed p → IsSomeAnd (slice_get p.functions f.function) (λ g. FrameFits g (with_rest f (first l a b))) → Runs p f l a
runs p f l a b w h = go (slice_get p.functions f.function) refl h
  where
    go : (o : Option PlainFunction) → slice_get p.functions f.function ≡ o → IsSomeAnd o (λ g. FrameFits g (with_rest f (first l a b))) → Runs p f l a
    go None e k = absurd k
    go (Some g) e k =
        let fits : FunctionFits p g = all_at (FunctionFits p) p.functions f.function g w.functions e in
        record { function = g; is = e; act = all_one (λ s. ActFits p g s.act) (all_statements g.body) (record { label = l; act = a }) fits.body.statements k.statements.0 }

-- the frame of a function that is called
callee : (p : PlainProgram) (n : ℕ) (vs : List ℤ) (x : Option ℕ) (o : Option PlainFunction) → IsWellFormed p → slice_get p.functions n ≡ o → IsSomeAnd o (λ g. length vs ≡ g.params) → IsSomeAnd o (λ g. FrameFits g (new_frame n g vs x))
callee p n vs x None w e h = absurd h
callee p n vs x (Some g) w e h = new_frame-fits n g vs x h (let fits : FunctionFits p g = all_at (FunctionFits p) p.functions n g w.functions e in fits.body.closing)

takes : (p : PlainProgram) (x : Option ℕ) (f : Frame) (fs : List Frame) (g : PlainFunction) → slice_get p.functions f.function ≡ Some g → GivesLocal g x → CallerTakes p x (f ∷ fs)
takes p None f fs g e h = tt
takes p (Some x) f fs g e h = let P : Option PlainFunction → Type 0 = λ o. IsSomeAnd o (λ k. IsLocal k x) in subst P (sym e) h

evaluated : (store : List ℤ) (args : List Linear) (n : ℕ) → length args ≡ n → length (map (value_in store) args) ≡ n
evaluated store args n e = length-map args (value_in store) ∙ e

calls-kept : (p : PlainProgram) (s : Spot) (l : Label) (a : PlainAct) (b : Block) (n : ℕ) (vs : List ℤ) (x : Option ℕ) (o : Option PlainFunction) → IsWellFormed p → ConfigurationFits p s.configuration → ThreadFits p (with_rest s.frame b ∷ s.below) → CallerTakes p x (with_rest s.frame b ∷ s.below) → slice_get p.functions n ≡ o → IsSomeAnd o (λ g. length vs ≡ g.params) → KeepsFit p (calls s b n vs x o)
calls-kept p s l a b n vs x None w h t k e r = tt
calls-kept p s l a b n vs x (Some g) w h t k e r =
    let P : Option PlainFunction → Type 0 = λ o. IsSomeAnd o (λ g. FrameFits g (new_frame n g vs x)) in
    let Q : Option PlainFunction → Type 0 = λ o. IsSomeAnd o (λ k. FrameFits k (new_frame n g vs x)) in
    placed p s _ h (subst Q (sym e) (callee p n vs x (Some g) w e r), k, t)

forks-kept : (p : PlainProgram) (s : Spot) (b : Block) (n : ℕ) (vs : List ℤ) (o : Option PlainFunction) → IsWellFormed p → ConfigurationFits p s.configuration → ThreadFits p (with_rest s.frame b ∷ s.below) → slice_get p.functions n ≡ o → IsSomeAnd o (λ g. length vs ≡ g.params) → KeepsFit p (forks s b n vs o)
forks-kept p s b n vs None w h t e r = tt
forks-kept p s b n vs (Some g) w h t e r =
    let Q : Option PlainFunction → Type 0 = λ o. IsSomeAnd o (λ k. FrameFits k (new_frame n g vs None)) in
    all_append (ThreadFits p) (slice_set s.configuration.threads s.thread (with_rest s.frame b ∷ s.below)) ((new_frame n g vs None ∷ []) ∷ [])
    (all_set (ThreadFits p) s.configuration.threads s.thread (with_rest s.frame b ∷ s.below) h t)
    ((subst Q (sym e) (callee p n vs None (Some g) w e r), tt, tt), tt)

-- a value for each argument
arity : (p : PlainProgram) (n : ℕ) (store : List ℤ) (args : List Linear) → IsSomeAnd (slice_get p.functions n) (λ g. length args ≡ g.params) → IsSomeAnd (slice_get p.functions n) (λ g. length (map (value_in store) args) ≡ g.params)
arity p n store args h = some_map _ _ (slice_get p.functions n) (λ g e. evaluated store args g.params e) h

allocates-kept : (p : PlainProgram) (s : Spot) (b : Block) (x n : ℕ) (base : Option ℤ) → ConfigurationFits p s.configuration → ThreadFits p (with_rest s.frame b ∷ s.below) → KeepsFit p (allocates s b x n base)
allocates-kept p s b x n None h t = tt
allocates-kept p s b x n (Some base) h t =
    choice-kept p (may_be_at s.configuration.heap base n) _ disabled (placed p s _ h (value-thread p (with_rest s.frame b) s.below x base t)) tt

does-kept : (p : PlainProgram) (s : Spot) (l : Label) (a : PlainAct) (b : Block) (base : Option ℤ) → IsWellFormed p → ConfigurationFits p s.configuration → ThreadFits p (with_rest s.frame (first l a b) ∷ s.below) → KeepsFit p (does p s l a b base)
does-kept p s l (set x t) b base w h k = placed p s _ h (value-thread p (with_rest s.frame b) s.below x _ (passed-thread p s.frame s.below l (set x t) b (λ z. z) k))
does-kept p s l (read x t) b base w h k =
    let a = value_in s.frame.store t in
    at_cell-kept p a (get s.configuration.heap a) (λ v. sets s s.configuration.heap b x v (Read a v))
    (λ v. placed p s (with_value (with_rest s.frame b) x v ∷ s.below) h (value-thread p (with_rest s.frame b) s.below x v (passed-thread p s.frame s.below l (read x t) b (λ z. z) k)))
does-kept p s l (write t u) b base w h k =
    let a = value_in s.frame.store t in let v = value_in s.frame.store u in
    at_cell-kept p a (get s.configuration.heap a) (λ _. passes s (insert s.configuration.heap a v) b (Write a v))
    (λ _. placed p s (with_rest s.frame b ∷ s.below) h (passed-thread p s.frame s.below l (write t u) b (λ z. z) k))
does-kept p s l (cas x t old new) b base w h k =
    let a = value_in s.frame.store t in let o = value_in s.frame.store old in let n = value_in s.frame.store new in
    at_cell-kept p a (get s.configuration.heap a) (swaps s b x a o n)
    (λ v.
    choice-kept p (compared Equal v o) (sets s (insert s.configuration.heap a n) b x (pos 1) (Cas a true)) (sets s s.configuration.heap b x (pos 0) (Cas a false))
    (placed p s (with_value (with_rest s.frame b) x (pos 1) ∷ s.below) h (value-thread p (with_rest s.frame b) s.below x (pos 1) (passed-thread p s.frame s.below l (cas x t old new) b (λ z. z) k)))
    (placed p s (with_value (with_rest s.frame b) x (pos 0) ∷ s.below) h (value-thread p (with_rest s.frame b) s.below x (pos 0) (passed-thread p s.frame s.below l (cas x t old new) b (λ z. z) k))))
does-kept p s l (faa x t u) b base w h k =
    let a = value_in s.frame.store t in let d = value_in s.frame.store u in
    at_cell-kept p a (get s.configuration.heap a) (adds s b x a d)
    (λ v. placed p s (with_value (with_rest s.frame b) x v ∷ s.below) h (value-thread p (with_rest s.frame b) s.below x v (passed-thread p s.frame s.below l (faa x t u) b (λ z. z) k)))
does-kept p s l (dispose t) b base w h k =
    let a = value_in s.frame.store t in
    at_cell-kept p a (get s.configuration.heap a) (λ _. passes s (remove s.configuration.heap a) b (Dispose a))
    (λ _. placed p s (with_rest s.frame b ∷ s.below) h (passed-thread p s.frame s.below l (dispose t) b (λ z. z) k))
does-kept p s l (alloc x n) b base w h k = allocates-kept p s b x n base h (passed-thread p s.frame s.below l (alloc x n) b (λ z. z) k)
does-kept p s l (call x n args) b base w h k =
    let r = runs p s.frame l (call x n args) b w k.0 in
    calls-kept p s l (call x n args) b n _ x (slice_get p.functions n) w h (passed-thread p s.frame s.below l (call x n args) b (λ z. z) k)
    (takes p x (with_rest s.frame b) s.below r.function r.is r.act.0) refl (arity p n s.frame.store args r.act.1.arity)
does-kept p s l (fork n args) b base w h k =
    let r = runs p s.frame l (fork n args) b w k.0 in
    forks-kept p s b n _ (slice_get p.functions n) w h (passed-thread p s.frame s.below l (fork n args) b (λ z. z) k) refl (arity p n s.frame.store args r.act.arity)
does-kept p s l (branch c a d) b base w h k =
    choice-kept p (holds s.frame.store c) _ _
    (placed p s _ h (some_map _ _ (slice_get p.functions s.frame.function) (λ g f. first_side g f) k.0, k.1, k.2))
    (placed p s _ h (some_map _ _ (slice_get p.functions s.frame.function) (λ g f. second_side g f) k.0, k.1, k.2))
  where
    of_body : PlainFunction → PlainStatement → Type 0
    of_body g = IsStatementOf (all_statements g.body)

    ends : (g : PlainFunction) → FrameFits g (with_rest s.frame (first l (branch c a d) b)) → EndsInReturn b
    ends g f = ends_after l (branch c a d) b (λ z. z) f.closing

    first_side : (g : PlainFunction) → FrameFits g (with_rest s.frame (first l (branch c a d) b)) → FrameFits g (with_rest s.frame (append a b))
    first_side g f =
        rest-fits g (with_rest s.frame (first l (branch c a d) b)) (append a b) f
        (all_joined (IsStatementOf (all_statements g.body)) a b (all_front (IsStatementOf (all_statements g.body)) (all_statements a) (all_statements d) (inner g s.frame l (branch c a d) b f)) (behind g s.frame l (branch c a d) b f))
        (ends_append a b (ends_after l (branch c a d) b (λ z. z) f.closing))

    second_side : (g : PlainFunction) → FrameFits g (with_rest s.frame (first l (branch c a d) b)) → FrameFits g (with_rest s.frame (append d b))
    second_side g f =
        rest-fits g (with_rest s.frame (first l (branch c a d) b)) (append d b) f
        (all_joined (IsStatementOf (all_statements g.body)) d b (all_back (IsStatementOf (all_statements g.body)) (all_statements a) (all_statements d) (inner g s.frame l (branch c a d) b f)) (behind g s.frame l (branch c a d) b f))
        (ends_append d b (ends_after l (branch c a d) b (λ z. z) f.closing))
does-kept p s l (loop c i a) b base w h k =
    choice-kept p (holds s.frame.store c) _ _
    (placed p s _ h (some_map _ _ (slice_get p.functions s.frame.function) (λ g f. again g f) k.0, k.1, k.2))
    (placed p s _ h (passed-thread p s.frame s.below l (loop c i a) b (λ z. z) k))
  where
    again : (g : PlainFunction) → FrameFits g (with_rest s.frame (first l (loop c i a) b)) → FrameFits g (with_rest s.frame (append a (first l (loop c i a) b)))
    again g f =
        rest-fits g (with_rest s.frame (first l (loop c i a) b)) (append a (first l (loop c i a) b)) f
        (all_joined (IsStatementOf (all_statements g.body)) a (first l (loop c i a) b) (inner g s.frame l (loop c i a) b f) f.statements)
        (ends_append a (first l (loop c i a) b) f.closing)
does-kept p s l (check c) b base w h k = choice-kept p (holds s.frame.store c) _ _ (placed p s _ h (passed-thread p s.frame s.below l (check c) b (λ z. z) k)) tt
does-kept p s l (give_back t) b base w h k = returns-kept p s _ s.below h k.2

statement-kept : (p : PlainProgram) (s : Spot) (base : Option ℤ) (b : Block) → IsWellFormed p → ConfigurationFits p s.configuration → ThreadFits p (with_rest s.frame b ∷ s.below) → KeepsFit p (statement_step p s base b)
statement-kept p s base done w h k = tt
statement-kept p s base (first l a b) w h k = choice-kept p (takes_base a base) _ disabled (does-kept p s l a b base w h k) tt

thread-kept : (p : PlainProgram) (c : Configuration) (e : Entry) (o : Option Thread) → IsWellFormed p → ConfigurationFits p c → slice_get c.threads e.thread ≡ o → KeepsFit p (thread_step p c e o)
thread-kept p c e None w h i = tt
thread-kept p c e (Some []) w h i = tt
thread-kept p c e (Some (f ∷ fs)) w h i = statement-kept p (record { thread = e.thread; frame = f; below = fs; configuration = c }) e.base f.rest w h (all_at (ThreadFits p) c.threads e.thread (f ∷ fs) h i)

pub step-kept : (p : PlainProgram) (c : Configuration) (e : Entry) → IsWellFormed p → ConfigurationFits p c → KeepsFit p (step p c e)
step-kept p c e w h = thread-kept p c e (slice_get c.threads e.thread) w h refl

pub steps_keep : (p : PlainProgram) (c d : Configuration) (e : Entry) (event : Event) → IsWellFormed p → ConfigurationFits p c → step p c e ≡ next d event → ConfigurationFits p d
steps_keep p c d e event w h i = let P : Outcome → Type 0 = KeepsFit p in subst P i (step-kept p c e w h)

pub starts_keep : (p : PlainProgram) (vs : List ℤ) (heap : Heap) → IsWellFormed p → IsSomeAnd (slice_get p.functions p.main) (λ f. length vs ≡ f.params) → ConfigurationFits p (start p vs heap)
starts_keep p vs heap w h = go (slice_get p.functions p.main) refl h
  where
    go : (o : Option PlainFunction) → slice_get p.functions p.main ≡ o → IsSomeAnd o (λ f. length vs ≡ f.params) → ConfigurationFits p (start p vs heap)
    go None e k = absurd k
    go (Some g) e k =
        let Q : Option PlainFunction → Type 0 = λ o. IsSomeAnd o (λ f. FrameFits f (new_frame p.main g vs None)) in
        rw e ((subst Q (sym e) (callee p p.main vs None (Some g) w e k), tt, tt), tt)
