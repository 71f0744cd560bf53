-- One turn: the thread that a word chooses, its entry, and the step of that.
use Rattle.std.proofs.Common.{◌≡◌, ◌∙◌, ap, sym, refl, subst, ℕ, zero, suc, ◌-◌, ◌%◌, ◌^◌, ◌<◌}
use Rattle.std.proofs.Common.{Bool, true, false, cond, not, ◌&&◌, List, [], ◌∷◌, ◌++◌, length}
use Rattle.std.proofs.Common.{get_or, arith}
use Rattle.std.specs.Prelude.{ℤ, pos, negsuc, ◌+ℤ◌, ◌≤ℤ◌, is_none, Option, Some, None, option_map}
use Rattle.std.specs.Prelude.{option_and_then, Result, Ok, Err, IfOk, ◌==◌}
use Rattle.std.proofs.lemmas.Int.{ints}
use Rattle.std.proofs.lemmas.List.{get_or_default}
use Rattle.std.proofs.lemmas.Bool.Decides.{nat_tests}
use Rattle.rand_pcg.specs.Lcg.{Lcg}
use Rattle.cap_lin.specs.Steps.{sum_of, fits, first_wide}
use Rattle.cap_prog.specs.Program.{PlainAct, alloc, Block, done, first, PlainProgram}
use Rattle.cap_machine.specs.declared.event.Entry.{Entry}
use Rattle.cap_machine.specs.declared.event.Event.{Event}
use Rattle.cap_machine.specs.declared.event.StepError.{StepError}
use Rattle.cap_machine.specs.declared.event.StepError.TheVariants.{NotEnabled, Wide}
use Rattle.cap_machine.specs.declared.machine.Machine.{Machine}
use Rattle.cap_machine.specs.Machine.{Frame, Configuration, Outcome, next, fault, disabled, step}
use Rattle.cap_machine.specs.Laws.{first_statement, running, is_step}
use Rattle.cap_machine.specs.Ready.{cells_of, statement_ahead}
use Rattle.cap_machine.specs.Results.{act_steps, block_steps, frame_steps, entry_steps, are_narrow}
use Rattle.cap_machine.specs.View.{configuration, is_stopped, LeavesMachine, Steps, is_enabled}
use Rattle.cap_replay.specs.Advancing.{is_fault}
use Rattle.cap_replay.proofs.RunLemmas.{Tells, step-tells}
use Rattle.cap_gen_schedules.specs.declared.drawing.Turn.{Turn}
use Rattle.cap_gen_schedules.specs.Finding.{drawn_by}
use Rattle.cap_gen_schedules.specs.Drawn.{word_of, after_word, alive, chosen, free_address}
use Rattle.cap_gen_schedules.specs.Drawn.{next_cells, entry_of, Drawn, faulted, ended, taken, turn}

-- ---- a base past 128 bits

not-fitting : (z : ℤ) → pos (2 ^ 127) ≤ℤ z → fits z ≡ false
not-fitting (pos n) l = grind (arith, ints, nat_tests)
not-fitting (negsuc n) l = absurd (omega (arith, ints))

wide-sum :
    (base : ℤ) (m : ℕ) → pos (2 ^ 127) ≤ℤ base → are_narrow (sum_of base (pos m) ∷ []) ≡ false
unfolding first_wide
wide-sum base m l =
    let k : pos (2 ^ 127) ≤ℤ (base +ℤ pos m) = omega (arith, ints) in
    ap (λ b. is_none {T = ℤ × ℤ} (cond b None (Some (base, pos m)))) (not-fitting (base +ℤ pos m) k)

pub wide-entry :
    (c : Configuration) (thread n : ℕ) → next_cells c thread ≡ Some n →
    pos (2 ^ 127) ≤ℤ free_address c.heap → are_narrow (entry_steps c (entry_of c thread)) ≡ false
wide-entry c thread n h l =
    ap (λ o. are_narrow
    (frame_steps c.heap (option_map (λ n. free_address c.heap) o) (running c thread))) h
    ∙ at-frame (running c thread) h
  where
    at-act :
        (store : List ℤ) (a : PlainAct) → cells_of a ≡ Some n →
        are_narrow (act_steps c.heap store a (Some (free_address c.heap))) ≡ false
    at-act store (alloc x m) e = wide-sum (free_address c.heap) (m - 1) l
    at-act store _ e = absurd (cc)

    at-block :
        (f : Frame) (b : Block) →
        option_and_then (λ a. a.cells)
        (option_map (statement_ahead f.function) (first_statement b))
        ≡ Some n →
        are_narrow (block_steps c.heap f.store (Some (free_address c.heap)) b) ≡ false
    at-block f done e = absurd (cc)
    at-block f (first l a b) e = at-act f.store a e

    at-frame :
        (o : Option Frame) →
        option_and_then (λ a. a.cells)
        (option_and_then
        (λ f. option_map (statement_ahead f.function) (first_statement f.rest)) o)
        ≡ Some n →
        are_narrow (frame_steps c.heap (Some (free_address c.heap)) o) ≡ false
    at-frame None e = absurd (cc)
    at-frame (Some f) e = at-block f f.rest e

abbrev entry_at : ℕ → Option ℤ → Entry
entry_at thread base = record { thread = thread; base = base }

-- the entry, by the cells that are allocated next
pub entry-none :
    (c : Configuration) (thread : ℕ) → None ≡ next_cells c thread →
    record { thread = thread; base = None } ≡ entry_of c thread
entry-none c thread e =
    ap (entry_at thread) (ap (option_map (λ n. free_address c.heap)) e)

pub entry-some :
    (c : Configuration) (thread n : ℕ) (base : ℤ) → Some n ≡ next_cells c thread →
    base ≡ free_address c.heap → record { thread = thread; base = Some base } ≡ entry_of c thread
entry-some c thread n base e b =
    ap (λ z. entry_at thread (Some z)) b
    ∙ ap (entry_at thread) (ap (option_map (λ n. free_address c.heap)) e)

-- ---- a step

taken-at :
    (p : PlainProgram) (c : Configuration) (e : Entry) (es : List Entry) (g : Lcg)
    (more : Configuration → List Entry → Lcg → Drawn) (b : Bool) (o : Outcome) →
    are_narrow (entry_steps c e) ≡ b → step p c e ≡ o →
    taken (are_narrow (entry_steps c e)) e es g more (step p c e) ≡ taken b e es g more o
taken-at p c e es g more b o n i =
    ap (λ x. taken x e es g more (step p c e)) n ∙ ap (taken b e es g more) i

pub step-faults :
    (p : PlainProgram) (e : Entry) (m n : Machine) (event : Event) (es fs : List Entry) →
    Steps p e m n (Ok event) → is_fault event ≡ true → fs ≡ es ++ e ∷ [] →
    (g : Lcg) (more : Configuration → List Entry → Lcg → Drawn) →
    taken (are_narrow (entry_steps (configuration p m) e)) e es g more
    (step p (configuration p m) e)
    ≡ faulted fs
step-faults p e m n event es fs s f w g more =
    go (step p (configuration p m) e) refl (step-tells p (configuration p m) e) s.2
  where
    go :
        (o : Outcome) → step p (configuration p m) e ≡ o → Tells o → LeavesMachine p m n event o →
        taken (are_narrow (entry_steps (configuration p m) e)) e es g more
        (step p (configuration p m) e)
        ≡ faulted fs
    go (next d x) i t l = let y : is_fault event ≡ false = ap is_fault l.0 ∙ t in absurd (cc)
    go (fault x) i t l =
        taken-at p (configuration p m) e es g more true (fault x) s.1 i ∙ ap faulted (sym w)
    go disabled i t l = absurd l

pub step-goes :
    (p : PlainProgram) (e : Entry) (m n : Machine) (event : Event) (es fs : List Entry) →
    Steps p e m n (Ok event) → is_fault event ≡ false → fs ≡ es ++ e ∷ [] →
    (g : Lcg) (more : Configuration → List Entry → Lcg → Drawn) →
    taken (are_narrow (entry_steps (configuration p m) e)) e es g more
    (step p (configuration p m) e)
    ≡ more (configuration p n) fs g
step-goes p e m n event es fs s f w g more =
    go (step p (configuration p m) e) refl (step-tells p (configuration p m) e) s.2
  where
    go :
        (o : Outcome) → step p (configuration p m) e ≡ o → Tells o → LeavesMachine p m n event o →
        taken (are_narrow (entry_steps (configuration p m) e)) e es g more
        (step p (configuration p m) e)
        ≡ more (configuration p n) fs g
    go (next d x) i t l =
        taken-at p (configuration p m) e es g more true (next d x) s.1 i
        ∙ (ap (λ q. more q (es ++ e ∷ []) g) (sym l.1)
        ∙ ap (λ xs. more (configuration p n) xs g) (sym w))
    go (fault x) i t l = let y : is_fault event ≡ true = ap is_fault l.0 ∙ t in absurd (cc)
    go disabled i t l = absurd l

pub step-continues :
    (p : PlainProgram) (e : Entry) (m n : Machine) (event : Event) →
    Steps p e m n (Ok event) → is_fault event ≡ false → is_stopped n ≡ false
step-continues p e m n event s f =
    go (step p (configuration p m) e) (step-tells p (configuration p m) e) s.2
  where
    go : (o : Outcome) → Tells o → LeavesMachine p m n event o → is_stopped n ≡ false
    go (next d x) t l = l.2
    go (fault x) t l = let y : is_fault event ≡ true = ap is_fault l.0 ∙ t in absurd (cc)
    go disabled t l = absurd l

pub step-none :
    (p : PlainProgram) (e : Entry) (m n : Machine) (x : StepError) (es : List Entry) →
    x ≡ NotEnabled → is_stopped m ≡ false → Steps p e m n (Err x) →
    (g : Lcg) (more : Configuration → List Entry → Lcg → Drawn) →
    taken (are_narrow (entry_steps (configuration p m) e)) e es g more
    (step p (configuration p m) e)
    ≡ ended g
step-none p e m n x es k r s g more =
    go (step p (configuration p m) e) refl (subst (λ y. Steps p e m n (Err y)) k s).0
  where
    enabled :
        (o : Outcome) → step p (configuration p m) e ≡ o → is_step o ≡ true →
        is_enabled p m e ≡ true
    enabled o i t = ap (λ b. not b && is_step (step p (configuration p m) e)) r ∙ (ap is_step i ∙ t)

    go :
        (o : Outcome) → step p (configuration p m) e ≡ o → is_enabled p m e ≡ false →
        taken (are_narrow (entry_steps (configuration p m) e)) e es g more
        (step p (configuration p m) e)
        ≡ ended g
    go disabled i d = taken-at p (configuration p m) e es g more _ disabled refl i
    go (next b y) i d = let t = enabled (next b y) i refl in absurd (cc)
    go (fault y) i d = let t = enabled (fault y) i refl in absurd (cc)

wide-taken :
    (e : Entry) (es : List Entry) (g : Lcg) (more : Configuration → List Entry → Lcg → Drawn)
    (b : Bool) (o : Outcome) → b ≡ false → taken b e es g more o ≡ ended g
wide-taken e es g more b o n = ap (λ x. taken x e es g more o) n ∙ go o
  where
    go : (o : Outcome) → taken false e es g more o ≡ ended g
    go (next c y) = refl
    go (fault y) = refl
    go disabled = refl

pub step-wide :
    (p : PlainProgram) (e : Entry) (m n : Machine) (x : StepError) (es : List Entry) →
    x ≡ Wide → Steps p e m n (Err x) →
    (g : Lcg) (more : Configuration → List Entry → Lcg → Drawn) →
    taken (are_narrow (entry_steps (configuration p m) e)) e es g more
    (step p (configuration p m) e)
    ≡ ended g
step-wide p e m n x es k s g more =
    wide-taken e es g more _ (step p (configuration p m) e)
    (subst (λ y. Steps p e m n (Err y)) k s).1

-- ---- a turn

pub turn-ends :
    (p : PlainProgram) (g : Lcg) (c : Configuration) (es : List Entry) (ts : List ℕ) →
    ts ≡ alive c → ts ≡ [] → (more : Configuration → List Entry → Lcg → Drawn) →
    turn p g c es more (alive c) ≡ ended g
turn-ends p g c es ts a n more = ap (turn p g c es more) (sym a ∙ n)

turn-takes :
    (p : PlainProgram) (g : Lcg) (c : Configuration) (es : List Entry) (ts : List ℕ) (thread : ℕ) →
    ts ≡ alive c → 0 < length ts → thread ≡ chosen (word_of g) ts →
    (more : Configuration → List Entry → Lcg → Drawn) →
    turn p g c es more (alive c)
    ≡ taken (are_narrow (entry_steps c (entry_of c thread))) (entry_of c thread) es (after_word g)
    more (step p c (entry_of c thread))
turn-takes p g c es ts thread a l i more = ap (turn p g c es more) (sym a) ∙ go ts l i
  where
    go :
        (us : List ℕ) → 0 < length us → thread ≡ chosen (word_of g) us →
        turn p g c es more us
        ≡ taken (are_narrow (entry_steps c (entry_of c thread))) (entry_of c thread) es
        (after_word g) more (step p c (entry_of c thread))
    go [] l i = absurd (omega arith)
    go (u ∷ us) l i =
        ap (λ t. taken (are_narrow (entry_steps c (entry_of c t))) (entry_of c t) es (after_word g)
        more (step p c (entry_of c t))) (sym i)

pub turn-wide :
    (p : PlainProgram) (g h : Lcg) (c : Configuration) (es : List Entry) (ts : List ℕ)
    (thread : ℕ) →
    ts ≡ alive c → 0 < length ts → thread ≡ chosen (word_of g) ts → h ≡ after_word g →
    are_narrow (entry_steps c (entry_of c thread)) ≡ false →
    (more : Configuration → List Entry → Lcg → Drawn) →
    turn p g c es more (alive c) ≡ ended h
turn-wide p g h c es ts thread a l i w n more =
    turn-takes p g c es ts thread a l i more
    ∙ (wide-taken (entry_of c thread) es (after_word g) more _ (step p c (entry_of c thread)) n
    ∙ ap ended (sym w))

pub turn-made :
    (p : PlainProgram) (g h : Lcg) (c : Configuration) (es : List Entry) (ts : List ℕ) (thread : ℕ)
    (e : Entry) → ts ≡ alive c → 0 < length ts → thread ≡ chosen (word_of g) ts →
    h ≡ after_word g → e ≡ entry_of c thread →
    (more : Configuration → List Entry → Lcg → Drawn) →
    turn p g c es more (alive c)
    ≡ taken (are_narrow (entry_steps c e)) e es h more (step p c e)
turn-made p g h c es ts thread e a l i w k more =
    turn-takes p g c es ts thread a l i more
    ∙ (ap (λ x. taken (are_narrow (entry_steps c x)) x es (after_word g) more (step p c x)) (sym k)
    ∙ ap (λ x. taken (are_narrow (entry_steps c e)) e es x more (step p c e)) (sym w))

pub turn-steps :
    {E : Type 0} (p : PlainProgram) (m n : Machine) (g h : Lcg) (es fs : List Entry)
    (ts : List ℕ) (thread : ℕ) (e : Entry) (r : Result Turn E) → ts ≡ alive (configuration p m) →
    0 < length ts → thread ≡ chosen (word_of g) ts → h ≡ after_word g →
    e ≡ entry_of (configuration p m) thread →
    IfOk r (λ t. (k : Lcg) (more : Configuration → List Entry → Lcg → Drawn) →
    taken (are_narrow (entry_steps (configuration p m) e)) e es k more
    (step p (configuration p m) e)
    ≡ drawn_by t more (configuration p n) fs k) →
    IfOk r (λ t. (more : Configuration → List Entry → Lcg → Drawn) →
    turn p g (configuration p m) es more (alive (configuration p m))
    ≡ drawn_by t more (configuration p n) fs h)
turn-steps p m n g h es fs ts thread e (Ok t) a l i w k s =
    λ more. turn-made p g h (configuration p m) es ts thread e a l i w k more ∙ s h more
turn-steps p m n g h es fs ts thread e (Err x) a l i w k s = s

-- the thread that the code takes out of the list
pub chosen-at :
    (ts : List ℕ) (w v n thread : ℕ) → 0 < length ts → n ≡ length ts →
    thread ≡ get_or ts (w % n) thread → w ≡ v → thread ≡ chosen v ts
chosen-at ts w v n thread l e h i =
    h
    ∙ (ap (λ k. get_or ts (w % k) thread) e
    ∙ (get_or_default ts (w % length ts) thread 0 (omega arith) ∙ ap (λ x. chosen x ts) i))

pub some-there : (n m : ℕ) (b : Bool) → b ≡ (n == 0) → b ≡ false → n ≡ m → 0 < m
some-there zero m b e f i = absurd (cc)
some-there (suc n) m b e f i = omega arith
