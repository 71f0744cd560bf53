-- A step is a fault exactly where its statement accesses an absent address or asserts what does not hold.
use Rattle.std.proofs.Common.{◌≡◌, ◌∙◌, refl, ap, subst, ℕ, Bool, true, false, cond, List, [], ◌∷◌}
use Rattle.std.specs.Prelude.{◌↔◌, ℤ, Option, Some, None, slice_get, IsSomeAnd, is_none}
use Rattle.std.specs.FinMap.{get}
use Rattle.cap_lin.specs.declared.row.Op.TheVariants.{Eq as Equal}
use Rattle.cap_prog.specs.Program.{Label, PlainAct, set, read, write, cas, faa, dispose, alloc, call, fork, branch, loop, check, give_back, Block, done, first, PlainStatement, PlainFunction, PlainProgram}
use Rattle.cap_machine.specs.declared.event.Entry.{Entry}
use Rattle.cap_machine.specs.declared.event.Event.{Event}
use Rattle.cap_machine.specs.declared.event.Event.TheVariants.{Set, Read, Write, Cas, Faa, Dispose, Alloc, Call, Fork, Branch, Assert, Return, End, Bad, Failed}
use Rattle.cap_machine.specs.Machine.{Heap, Frame, Thread, Configuration, Outcome, next, fault, disabled, Spot, at_cell, swaps, adds, may_be_at, allocates, calls, forks, returns, does, takes_base, statement_step, thread_step, step, top_frame, value_in, holds, compared}
use Rattle.cap_machine.specs.Laws.{accessed, IsFailing, FaultsAs, FrameFaults, IsFault, first_statement}

-- no outcome that is a fault
abbrev Never : Outcome → Type 0
Never o = (event : Event) → o ≡ fault event → ⊥

choice-never : (b : Bool) (o u : Outcome) → Never o → Never u → Never (cond b o u)
choice-never true o u h k = h
choice-never false o u h k = k

next-never : (c : Configuration) (e event : Event) → next c e ≡ fault event → ⊥
next-never c e event h = cc

disabled-never : (event : Event) → disabled ≡ fault event → ⊥
disabled-never event h = cc

-- the outcome is this fault exactly where the statement faults so
abbrev Exact : Outcome → Heap → List ℤ → PlainStatement → Type 0
Exact o heap store s = (event : Event) → (o ≡ fault event) ↔ FaultsAs heap store s event

-- a statement that accesses nothing and does not fail has no fault
harmless : (heap : Heap) (store : List ℤ) (s : PlainStatement) (event : Event) → accessed store s.act ≡ None → (IsFailing store s.act → ⊥) → FaultsAs heap store s event → ⊥
harmless heap store s (Bad a) e n h = let f = h.0 in cc
harmless heap store s (Failed p) e n h = n h.0
harmless heap store s (Set a) e n h = h
harmless heap store s (Read a b) e n h = h
harmless heap store s (Write a b) e n h = h
harmless heap store s (Cas a b) e n h = h
harmless heap store s (Faa a b) e n h = h
harmless heap store s (Dispose a) e n h = h
harmless heap store s (Alloc a) e n h = h
harmless heap store s Call e n h = h
harmless heap store s (Fork a) e n h = h
harmless heap store s (Branch a) e n h = h
harmless heap store s Assert e n h = h
harmless heap store s (Return a) e n h = h
harmless heap store s (End a) e n h = h

never-exact : (o : Outcome) (heap : Heap) (store : List ℤ) (s : PlainStatement) → Never o → accessed store s.act ≡ None → (IsFailing store s.act → ⊥) → Exact o heap store s
never-exact o heap store s h e n event = (λ f. absurd (h event f), λ f. absurd (harmless heap store s event e n f))

-- an access faults exactly where the address is absent
access-exact : (heap : Heap) (store : List ℤ) (s : PlainStatement) (a : ℤ) (f : ℤ → Outcome) → accessed store s.act ≡ Some a → (IsFailing store s.act → ⊥) → ((v : ℤ) → Never (f v)) → Exact (at_cell a (get heap a) f) heap store s
access-exact heap store s a f e n h event = (to (get heap a) refl event, back event)
  where
    to : (o : Option ℤ) → get heap a ≡ o → (event : Event) → at_cell a o f ≡ fault event → FaultsAs heap store s event
    to None i event k = let j : Bad a ≡ event = cc in subst (FaultsAs heap store s) j (e, i)
    to (Some v) i event k = absurd (h v event k)

    back : (event : Event) → FaultsAs heap store s event → at_cell a (get heap a) f ≡ fault event
    back (Bad b) k =
        let i : a ≡ b = cc in
        let j : get heap a ≡ None = ap (get heap) i ∙ k.1 in
        ap (λ o. at_cell a o f) j ∙ ap (λ x. fault (Bad x)) i
    back (Failed p) k = absurd (n k.0)
    back (Set x) k = absurd k
    back (Read x y) k = absurd k
    back (Write x y) k = absurd k
    back (Cas x y) k = absurd k
    back (Faa x y) k = absurd k
    back (Dispose x) k = absurd k
    back (Alloc x) k = absurd k
    back Call k = absurd k
    back (Fork x) k = absurd k
    back (Branch x) k = absurd k
    back Assert k = absurd k
    back (Return x) k = absurd k
    back (End x) k = absurd k

-- an assertion fails exactly where it does not hold
check-exact : (heap : Heap) (store : List ℤ) (s : PlainStatement) (b : Bool) (o : Outcome) → Never o → accessed store s.act ≡ None → (IsFailing store s.act → b ≡ false) → (b ≡ false → IsFailing store s.act) → Exact (cond b o (fault (Failed s.label.place))) heap store s
check-exact heap store s b o h e to_false from_false event = (to b refl event, back event)
  where
    to : (x : Bool) → b ≡ x → (event : Event) → cond x o (fault (Failed s.label.place)) ≡ fault event → FaultsAs heap store s event
    to true i event k = absurd (h event k)
    to false i event k = let j : Failed s.label.place ≡ event = cc in subst (FaultsAs heap store s) j (from_false i, refl)

    back : (event : Event) → FaultsAs heap store s event → cond b o (fault (Failed s.label.place)) ≡ fault event
    back (Bad a) k = let f = k.0 in absurd (cc)
    back (Failed p) k = ap (λ x. cond x o (fault (Failed s.label.place))) (to_false k.0) ∙ ap (λ x. fault (Failed x)) k.1
    back (Set x) k = absurd k
    back (Read x y) k = absurd k
    back (Write x y) k = absurd k
    back (Cas x y) k = absurd k
    back (Faa x y) k = absurd k
    back (Dispose x) k = absurd k
    back (Alloc x) k = absurd k
    back Call k = absurd k
    back (Fork x) k = absurd k
    back (Branch x) k = absurd k
    back Assert k = absurd k
    back (Return x) k = absurd k
    back (End x) k = absurd k

allocates-never : (s : Spot) (b : Block) (x n : ℕ) (base : Option ℤ) → Never (allocates s b x n base)
allocates-never s b x n None = disabled-never
allocates-never s b x n (Some base) = choice-never (may_be_at s.configuration.heap base n) _ disabled (next-never _ _) disabled-never

calls-never : (s : Spot) (b : Block) (n : ℕ) (vs : List ℤ) (x : Option ℕ) (o : Option PlainFunction) → Never (calls s b n vs x o)
calls-never s b n vs x None = disabled-never
calls-never s b n vs x (Some g) = next-never _ _

forks-never : (s : Spot) (b : Block) (n : ℕ) (vs : List ℤ) (o : Option PlainFunction) → Never (forks s b n vs o)
forks-never s b n vs None = disabled-never
forks-never s b n vs (Some g) = next-never _ _

returns-never : (s : Spot) (v : ℤ) (fs : List Frame) → Never (returns s v fs)
returns-never s v [] = next-never _ _
returns-never s v (f ∷ fs) = next-never _ _

swaps-never : (s : Spot) (b : Block) (x : ℕ) (a old new v : ℤ) → Never (swaps s b x a old new v)
swaps-never s b x a old new v = choice-never (compared Equal v old) _ _ (next-never _ _) (next-never _ _)

abbrev statement : Label → PlainAct → PlainStatement
statement l a = record { label = l; act = a }

does-exact : (p : PlainProgram) (s : Spot) (l : Label) (a : PlainAct) (b : Block) (base : Option ℤ) → Exact (does p s l a b base) s.configuration.heap s.frame.store (statement l a)
does-exact p s l (set x t) b base = never-exact _ s.configuration.heap s.frame.store (statement l (set x t)) (next-never _ _) refl (λ z. z)
does-exact p s l (read x t) b base = access-exact s.configuration.heap s.frame.store (statement l (read x t)) (value_in s.frame.store t) _ refl (λ z. z) (λ v. next-never _ _)
does-exact p s l (write t u) b base = access-exact s.configuration.heap s.frame.store (statement l (write t u)) (value_in s.frame.store t) _ refl (λ z. z) (λ v. next-never _ _)
does-exact p s l (cas x t old new) b base = access-exact s.configuration.heap s.frame.store (statement l (cas x t old new)) (value_in s.frame.store t) _ refl (λ z. z) (swaps-never s b x _ _ _)
does-exact p s l (faa x t u) b base = access-exact s.configuration.heap s.frame.store (statement l (faa x t u)) (value_in s.frame.store t) (adds s b x (value_in s.frame.store t) (value_in s.frame.store u)) refl (λ z. z) (λ v. next-never _ _)
does-exact p s l (dispose t) b base = access-exact s.configuration.heap s.frame.store (statement l (dispose t)) (value_in s.frame.store t) _ refl (λ z. z) (λ v. next-never _ _)
does-exact p s l (alloc x n) b base = never-exact _ s.configuration.heap s.frame.store (statement l (alloc x n)) (allocates-never s b x n base) refl (λ z. z)
does-exact p s l (call x n args) b base = never-exact _ s.configuration.heap s.frame.store (statement l (call x n args)) (calls-never s b n _ x (slice_get p.functions n)) refl (λ z. z)
does-exact p s l (fork n args) b base = never-exact _ s.configuration.heap s.frame.store (statement l (fork n args)) (forks-never s b n _ (slice_get p.functions n)) refl (λ z. z)
does-exact p s l (branch c a d) b base = never-exact _ s.configuration.heap s.frame.store (statement l (branch c a d)) (choice-never (holds s.frame.store c) _ _ (next-never _ _) (next-never _ _)) refl (λ z. z)
does-exact p s l (loop c i a) b base = never-exact _ s.configuration.heap s.frame.store (statement l (loop c i a)) (choice-never (holds s.frame.store c) _ _ (next-never _ _) (next-never _ _)) refl (λ z. z)
does-exact p s l (check c) b base = check-exact s.configuration.heap s.frame.store (statement l (check c)) (holds s.frame.store c) _ (next-never _ _) refl (λ z. z) (λ z. z)
does-exact p s l (give_back t) b base = never-exact _ s.configuration.heap s.frame.store (statement l (give_back t)) (returns-never s _ s.below) refl (λ z. z)

no_base : (base : Option ℤ) → is_none base ≡ true → base ≡ None
no_base None h = refl
no_base (Some b) h = absurd (cc)

-- what faults takes no base
without_base : (heap : Heap) (store : List ℤ) (l : Label) (a : PlainAct) (base : Option ℤ) (event : Event) → FaultsAs heap store (statement l a) event → takes_base a base ≡ true → base ≡ None
without_base heap store l (alloc x n) base event h k = absurd (harmless heap store (statement l (alloc x n)) event refl (λ z. z) h)
without_base heap store l (set x t) base event h k = no_base base k
without_base heap store l (read x t) base event h k = no_base base k
without_base heap store l (write t u) base event h k = no_base base k
without_base heap store l (cas x t old new) base event h k = no_base base k
without_base heap store l (faa x t u) base event h k = no_base base k
without_base heap store l (dispose t) base event h k = no_base base k
without_base heap store l (call x n args) base event h k = no_base base k
without_base heap store l (fork n args) base event h k = no_base base k
without_base heap store l (branch c a d) base event h k = no_base base k
without_base heap store l (loop c i a) base event h k = no_base base k
without_base heap store l (check c) base event h k = no_base base k
without_base heap store l (give_back t) base event h k = no_base base k

takes_none : (heap : Heap) (store : List ℤ) (l : Label) (a : PlainAct) (event : Event) → FaultsAs heap store (statement l a) event → takes_base a None ≡ true
takes_none heap store l (alloc x n) event h = absurd (harmless heap store (statement l (alloc x n)) event refl (λ z. z) h)
takes_none heap store l (set x t) event h = refl
takes_none heap store l (read x t) event h = refl
takes_none heap store l (write t u) event h = refl
takes_none heap store l (cas x t old new) event h = refl
takes_none heap store l (faa x t u) event h = refl
takes_none heap store l (dispose t) event h = refl
takes_none heap store l (call x n args) event h = refl
takes_none heap store l (fork n args) event h = refl
takes_none heap store l (branch c a d) event h = refl
takes_none heap store l (loop c i a) event h = refl
takes_none heap store l (check c) event h = refl
takes_none heap store l (give_back t) event h = refl

-- the fault of a block's first statement, without a base
abbrev BlockFaults : Heap → List ℤ → Option ℤ → Block → Event → Type 0
BlockFaults heap store base b event = (base ≡ None) × IsSomeAnd (first_statement b) (λ st. FaultsAs heap store st event)

statement-exact : (p : PlainProgram) (s : Spot) (base : Option ℤ) (b : Block) (event : Event) → (statement_step p s base b ≡ fault event) ↔ BlockFaults s.configuration.heap s.frame.store base b event
statement-exact p s base done event = (λ h. absurd (disabled-never event h), λ h. absurd h.1)
statement-exact p s base (first l a b) event = (to (takes_base a base) refl, back)
  where
    to : (y : Bool) → takes_base a base ≡ y → cond y (does p s l a b base) disabled ≡ fault event → BlockFaults s.configuration.heap s.frame.store base (first l a b) event
    to true i h = let f = (does-exact p s l a b base event).0 h in (without_base s.configuration.heap s.frame.store l a base event f i, f)
    to false i h = absurd (disabled-never event h)

    back : BlockFaults s.configuration.heap s.frame.store base (first l a b) event → statement_step p s base (first l a b) ≡ fault event
    back h =
        let t : takes_base a base ≡ true = ap (takes_base a) h.0 ∙ takes_none s.configuration.heap s.frame.store l a event h.1 in
        ap (λ y. cond y (does p s l a b base) disabled) t ∙ (does-exact p s l a b base event).1 h.1

-- the fault of a thread's next statement
abbrev ThreadFaults : Heap → Option ℤ → Option Thread → Event → Type 0
ThreadFaults heap base o event = (base ≡ None) × IsSomeAnd (top_frame o) (λ f. FrameFaults heap f event)

thread-exact : (p : PlainProgram) (c : Configuration) (e : Entry) (o : Option Thread) (event : Event) → (thread_step p c e o ≡ fault event) ↔ ThreadFaults c.heap e.base o event
thread-exact p c e None event = (λ h. absurd (disabled-never event h), λ h. absurd h.1)
thread-exact p c e (Some []) event = (λ h. absurd (disabled-never event h), λ h. absurd h.1)
thread-exact p c e (Some (f ∷ fs)) event = statement-exact p (record { thread = e.thread; frame = f; below = fs; configuration = c }) e.base f.rest event

pub faults_exact : (p : PlainProgram) (c : Configuration) (e : Entry) (event : Event) → (step p c e ≡ fault event) ↔ IsFault c e event
faults_exact p c e event =
    (λ h. let f = (thread-exact p c e (slice_get c.threads e.thread) event).0 h in record { base = f.0; fault = f.1 }, λ h. (thread-exact p c e (slice_get c.threads e.thread) event).1 (h.base, h.fault))
