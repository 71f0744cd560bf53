-- An entry makes a step or a fault exactly where it is enabled.
use Rattle.std.proofs.Common.{◌≡◌, ◌∙◌, refl, ap, ℕ, zero, suc, ◌<◌, ◌⊎◌, inl, inr, Bool, true, false, cond, ◌&&◌, List, [], ◌∷◌, map, length, arith}
use Rattle.std.specs.Prelude.{◌↔◌, ℤ, pos, ◌+ℤ◌, ◌≤ℤ◌, int_le, Option, Some, None, slice_get, IsSomeAnd, IfSome, IsSome, IsTrue, is_none, is_some, option_and_then}
use Rattle.std.specs.FinMap.{get}
use Rattle.std.proofs.lemmas.Int.{ints}
use Rattle.cap_lin.specs.declared.row.Op.TheVariants.{Eq as Equal}
use Rattle.cap_prog.specs.Program.{Label, PlainAct, set, read, write, cas, faa, dispose, alloc, call, fork, branch, loop, check, give_back, Block, done, first, PlainFunction, PlainProgram}
use Rattle.cap_prog.specs.WellFormed.{IsWellFormed}
use Rattle.cap_machine.specs.declared.event.Entry.{Entry}
use Rattle.cap_machine.specs.Machine.{Heap, Frame, Thread, Configuration, Outcome, disabled, Spot, with_rest, at_cell, swaps, adds, may_be_at, are_free, allocates, calls, forks, returns, statement_step, thread_step, step, value_in, holds, compared, top_frame}
use Rattle.cap_machine.specs.Fits.{FrameFits, ThreadFits, ConfigurationFits}
use Rattle.cap_machine.specs.Laws.{is_step, AreFree, BaseFits, IsEnabled, first_statement}
use Rattle.cap_machine.proofs.Lists.{all_at}
use Rattle.cap_machine.proofs.Keeping.{Runs, runs}

abbrev Steps : Outcome → Type 0
Steps o = is_step o ≡ true

choice-steps : (b : Bool) (o u : Outcome) → Steps o → Steps u → Steps (cond b o u)
choice-steps true o u h k = h
choice-steps false o u h k = k

at_cell-steps : (a : ℤ) (o : Option ℤ) (f : ℤ → Outcome) → ((v : ℤ) → Steps (f v)) → Steps (at_cell a o f)
at_cell-steps a None f h = refl
at_cell-steps a (Some v) f h = h v

calls-steps : (s : Spot) (b : Block) (n : ℕ) (vs : List ℤ) (x : Option ℕ) (o : Option PlainFunction) (P : PlainFunction → Type 0) → IsSomeAnd o P → Steps (calls s b n vs x o)
calls-steps s b n vs x None P h = absurd h
calls-steps s b n vs x (Some g) P h = refl

forks-steps : (s : Spot) (b : Block) (n : ℕ) (vs : List ℤ) (o : Option PlainFunction) (P : PlainFunction → Type 0) → IsSomeAnd o P → Steps (forks s b n vs o)
forks-steps s b n vs None P h = absurd h
forks-steps s b n vs (Some g) P h = refl

returns-steps : (s : Spot) (v : ℤ) (fs : List Frame) → Steps (returns s v fs)
returns-steps s v [] = refl
returns-steps s v (f ∷ fs) = refl

-- ---- the base of an allocation

pub and_first : (a b : Bool) → a && b ≡ true → a ≡ true
and_first true b h = refl
and_first false b h = absurd (cc)

pub and_second : (a b : Bool) → a && b ≡ true → b ≡ true
and_second true b h = h
and_second false b h = absurd (cc)

pub and_both : (a b : Bool) → a ≡ true → b ≡ true → a && b ≡ true
and_both a b h k = ap (λ x. x && b) h ∙ k

pub none_is : (o : Option ℤ) → is_none o ≡ true → o ≡ None
none_is None h = refl
none_is (Some v) h = absurd (cc)

below_suc : (k n : ℕ) → k < suc n → (k < n) ⊎ (k ≡ n)
below_suc zero zero h = inr refl
below_suc zero (suc n) h = inl (omega arith)
below_suc (suc k) zero h = absurd (omega arith)
below_suc (suc k) (suc n) h = elim (below_suc k n (omega arith)) [ inl l ↦ inl (omega arith) | inr e ↦ inr (ap suc e) ]

pub free_is : (heap : Heap) (base : ℤ) (n : ℕ) → are_free heap base n ≡ true → AreFree heap base n
free_is heap base zero h k l = absurd (omega arith)
free_is heap base (suc n) h k l =
    elim (below_suc k n l) [ inl m ↦ free_is heap base n (and_first (are_free heap base n) _ h) k m | inr e ↦ ap (λ i. get heap (base +ℤ pos i)) e ∙ none_is _ (and_second (are_free heap base n) _ h) ]

pub is_free : (heap : Heap) (base : ℤ) (n : ℕ) → AreFree heap base n → are_free heap base n ≡ true
is_free heap base zero h = refl
is_free heap base (suc n) h = and_both (are_free heap base n) _ (is_free heap base n (λ k l. h k (omega arith))) (ap is_none (h n (omega arith)))

at_least : (a b : ℤ) → int_le a b ≡ true → a ≤ℤ b
at_least a b h = grind (arith, ints)

is_at_least : (a b : ℤ) → a ≤ℤ b → int_le a b ≡ true
is_at_least a b h = grind (arith, ints)

choice-step : (b : Bool) (o : Outcome) → Steps (cond b o disabled) → b ≡ true
choice-step true o h = refl
choice-step false o h = absurd (cc)

choice-taken : (b : Bool) (o u : Outcome) → b ≡ true → Steps o → Steps (cond b o u)
choice-taken true o u e h = h
choice-taken false o u e h = absurd (cc)

allocates-iff : (s : Spot) (b : Block) (x n : ℕ) (base : ℤ) → Steps (allocates s b x n (Some base)) ↔ ((pos 1 ≤ℤ base) × AreFree s.configuration.heap base n)
allocates-iff s b x n base = (to, back)
  where
    to : Steps (allocates s b x n (Some base)) → (pos 1 ≤ℤ base) × AreFree s.configuration.heap base n
    to h =
        let m : may_be_at s.configuration.heap base n ≡ true = choice-step (may_be_at s.configuration.heap base n) _ h in
        (at_least (pos 1) base (and_first (int_le (pos 1) base) _ m), free_is s.configuration.heap base n (and_second (int_le (pos 1) base) _ m))

    back : (pos 1 ≤ℤ base) × AreFree s.configuration.heap base n → Steps (allocates s b x n (Some base))
    back h = choice-taken (may_be_at s.configuration.heap base n) _ disabled (and_both (int_le (pos 1) base) _ (is_at_least (pos 1) base h.0) (is_free s.configuration.heap base n h.1)) refl

-- ---- statements

-- an outcome of a statement that takes no base
no_base-iff : (o : Outcome) (base : Option ℤ) → Steps o → Steps (cond (is_none base) o disabled) ↔ (base ≡ None)
no_base-iff o base h = (λ k. none_is base (choice-step (is_none base) o k), λ k. choice-taken (is_none base) o disabled (ap is_none k) h)

allocation-iff : (s : Spot) (b : Block) (x n : ℕ) (base : Option ℤ) → Steps (cond (is_some base) (allocates s b x n base) disabled) ↔ BaseFits s.configuration.heap (alloc x n) base
allocation-iff s b x n None = (λ h. absurd (cc), λ h. absurd h)
allocation-iff s b x n (Some base) = allocates-iff s b x n base

pub statement-iff : (p : PlainProgram) (s : Spot) (base : Option ℤ) (l : Label) (a : PlainAct) (b : Block) → Runs p s.frame l a → Steps (statement_step p s base (first l a b)) ↔ BaseFits s.configuration.heap a base
statement-iff p s base l (set x t) b r = no_base-iff _ base refl
statement-iff p s base l (read x t) b r = no_base-iff _ base (at_cell-steps (value_in s.frame.store t) (get s.configuration.heap (value_in s.frame.store t)) _ (λ v. refl))
statement-iff p s base l (write t u) b r = no_base-iff _ base (at_cell-steps (value_in s.frame.store t) (get s.configuration.heap (value_in s.frame.store t)) _ (λ v. refl))
statement-iff p s base l (cas x t old new) b r =
    no_base-iff _ base (at_cell-steps (value_in s.frame.store t) (get s.configuration.heap (value_in s.frame.store t)) (swaps s b x (value_in s.frame.store t) (value_in s.frame.store old) (value_in s.frame.store new)) (λ v. choice-steps (compared Equal v (value_in s.frame.store old)) _ _ refl refl))
statement-iff p s base l (faa x t u) b r =
    no_base-iff _ base (at_cell-steps (value_in s.frame.store t) (get s.configuration.heap (value_in s.frame.store t)) (adds s b x (value_in s.frame.store t) (value_in s.frame.store u)) (λ v. refl))
statement-iff p s base l (dispose t) b r = no_base-iff _ base (at_cell-steps (value_in s.frame.store t) (get s.configuration.heap (value_in s.frame.store t)) _ (λ v. refl))
statement-iff p s base l (alloc x n) b r = allocation-iff s b x n base
statement-iff p s base l (call x n args) b r = no_base-iff _ base (calls-steps s b n (map (value_in s.frame.store) args) x (slice_get p.functions n) (λ g. length args ≡ g.params) r.act.1.arity)
statement-iff p s base l (fork n args) b r = no_base-iff _ base (forks-steps s b n (map (value_in s.frame.store) args) (slice_get p.functions n) (λ g. length args ≡ g.params) r.act.arity)
statement-iff p s base l (branch c a d) b r = no_base-iff _ base (choice-steps (holds s.frame.store c) _ _ refl refl)
statement-iff p s base l (loop c i a) b r = no_base-iff _ base (choice-steps (holds s.frame.store c) _ _ refl refl)
statement-iff p s base l (check c) b r = no_base-iff _ base (choice-steps (holds s.frame.store c) _ _ refl refl)
statement-iff p s base l (give_back t) b r = no_base-iff _ base (returns-steps s (value_in s.frame.store t) s.below)

-- ---- threads

-- the thread runs, and the base is as its next statement wants it
abbrev Enables : Heap → Option ℤ → Option Thread → Type 0
Enables heap base o = IsSome (top_frame o) × IfSome (option_and_then (λ f. first_statement f.rest) (top_frame o)) (λ s. BaseFits heap s.act base)

never_done : (o : Option PlainFunction) (f : Frame) → IsSomeAnd o (λ g. FrameFits g (with_rest f done)) → ⊥
never_done None f h = h
never_done (Some g) f h = h.closing

block-iff : (p : PlainProgram) (s : Spot) (base : Option ℤ) (b : Block) → IsWellFormed p → IsSomeAnd (slice_get p.functions s.frame.function) (λ g. FrameFits g (with_rest s.frame b)) → Steps (statement_step p s base b) ↔ IfSome (first_statement b) (λ st. BaseFits s.configuration.heap st.act base)
block-iff p s base done w h = absurd (never_done (slice_get p.functions s.frame.function) s.frame h)
block-iff p s base (first l a b) w h = statement-iff p s base l a b (runs p s.frame l a b w h)

thread-iff : (p : PlainProgram) (c : Configuration) (e : Entry) (o : Option Thread) → IsWellFormed p → ConfigurationFits p c → slice_get c.threads e.thread ≡ o → Steps (thread_step p c e o) ↔ Enables c.heap e.base o
thread-iff p c e None w h i = (λ k. absurd (cc), λ k. let f = k.0 in absurd (cc))
thread-iff p c e (Some []) w h i = (λ k. absurd (cc), λ k. let f = k.0 in absurd (cc))
thread-iff p c e (Some (f ∷ fs)) w h i =
    let t = all_at (ThreadFits p) c.threads e.thread (f ∷ fs) h i in
    let s = block-iff p (record { thread = e.thread; frame = f; below = fs; configuration = c }) e.base f.rest w t.0 in
    (λ k. (refl, s.0 k), λ k. s.1 k.1)

pub enabled_steps : (p : PlainProgram) (c : Configuration) (e : Entry) → IsWellFormed p → ConfigurationFits p c → IsTrue (is_step (step p c e)) ↔ IsEnabled c e
enabled_steps p c e w h =
    (λ k. let f = (thread-iff p c e (slice_get c.threads e.thread) w h refl).0 k in record { runs = f.0; base = f.1 }, λ k. (thread-iff p c e (slice_get c.threads e.thread) w h refl).1 (k.runs, k.base))
