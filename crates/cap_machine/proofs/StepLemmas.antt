-- What the definition does at each statement, by what the code found.
use Rattle.std.proofs.Common.{◌≡◌, ◌∙◌, ap, sym, refl, ℕ, zero, suc, Bool, true, false, cond, ◌&&◌, List, [], ◌∷◌, ◌++◌, length, arith}
use Rattle.std.specs.Prelude.{ℤ, pos, ◌≤ℤ◌, slice_get, slice_set, Option, Some, None, Result, Ok, Err, OnErr, int_le}
use Rattle.std.specs.FinMap.{get}
use Rattle.std.proofs.lemmas.Int.{ints, to_z-of_z}
use mir.Val.{SFits, to_z, of_z}
use mir.Syntax.{w128}
use Rattle.cap_lin.specs.declared.row.Op.TheVariants.{Eq as Equal}
use Rattle.cap_prog.specs.Program.{PlainStatement, PlainFunction, PlainProgram}
use Rattle.cap_machine.specs.declared.event.Entry.{Entry}
use Rattle.cap_machine.specs.declared.event.Event.{Event}
use Rattle.cap_machine.specs.declared.event.Event.TheVariants.{Bad, Call, Fork}
use Rattle.cap_machine.specs.declared.machine.Machine.{Machine}
use Rattle.cap_machine.specs.Machine.{Heap, Frame, Thread, Configuration, Outcome, next, fault, Spot, with_rest, new_frame, calls, forks, at_cell, compared, returns, may_be_at, are_free}
use Rattle.cap_machine.specs.Results.{act_steps, are_narrow}
use Rattle.cap_machine.specs.Changes.{passed, with_top, received, returned, return_event}
use Rattle.cap_machine.specs.View.{configuration, Steps}
use Rattle.cap_machine.specs.Ready.{IsReady, CanChange, HasChanged, HasThread, update, with_thread}
use Rattle.cap_machine.proofs.ActLemmas.{spot, now, ok_next, update_is, passed_to}
use Rattle.cap_machine.proofs.MachineLemmas.{has_top}

pub cell_absent : (a cell : ℤ) (h k : Heap) (f : ℤ → Outcome) → cell ≡ a → None ≡ get h cell → k ≡ h → at_cell a (get k a) f ≡ fault (Bad cell)
cell_absent a cell h k f e n i =
    ap (λ o. at_cell a o f) (ap (λ x. get x a) i ∙ (ap (get h) (sym e) ∙ sym n)) ∙ ap (λ x. fault (Bad x)) (sym e)

pub cell_found : (a cell v : ℤ) (h k : Heap) (f : ℤ → Outcome) → cell ≡ a → Some v ≡ get h cell → k ≡ h → at_cell a (get k a) f ≡ f v
cell_found a cell v h k f e n i = ap (λ o. at_cell a o f) (ap (λ x. get x a) i ∙ (ap (get h) (sym e) ∙ sym n))

-- what the definition finds at the address is what the code found
pub found_at : (a cell : ℤ) (h k : Heap) (o : Option ℤ) → cell ≡ a → o ≡ get h cell → k ≡ h → get k a ≡ o
found_at a cell h k o e n i = ap (λ x. get x a) i ∙ (ap (get h) (sym e) ∙ sym n)

pub same_compared : (a b : ℤ) → a ≡ b → compared Equal a b ≡ true
same_compared a b e = grind (arith, ints)

pub other_compared : (a b : ℤ) → (a ≡ b → ⊥) → compared Equal a b ≡ false
other_compared a b e = grind (arith, ints)

pub where_true : (b : Bool) (o u : Outcome) → b ≡ true → cond b o u ≡ o
where_true true o u e = refl
where_true false o u e = absurd (cc)

pub where_false : (b : Bool) (o u : Outcome) → b ≡ false → cond b o u ≡ u
where_false true o u e = absurd (cc)
where_false false o u e = refl

pub chosen : (b : Bool) (f : Bool → Outcome) → cond b (f true) (f false) ≡ f b
chosen true f = refl
chosen false f = refl

pub returns_is : (s : Spot) (v : ℤ) (fs : List Frame) → returns s v fs ≡ next (record { heap = s.configuration.heap; threads = slice_set s.configuration.threads s.thread (received s.frame v fs) }) (return_event v (s.frame ∷ fs))
returns_is s v [] = refl
returns_is s v (f ∷ fs) = refl

pub threads_after : (p : PlainProgram) (m after : Machine) (e : Entry) (s : PlainStatement) (r : IsReady p m e s) (change : Thread → Thread) → HasChanged p change e.thread m after → configuration p after ≡ record { heap = (configuration p m).heap; threads = slice_set (configuration p m).threads e.thread (change (r.frame ∷ r.below)) }
threads_after p m after e s r change c =
    c.configured ∙ ap (λ ts. record { heap = (configuration p m).heap; threads = ts }) (update_is change (configuration p m).threads e.thread (r.frame ∷ r.below) r.there)

pub returned_ok : (p : PlainProgram) (m after : Machine) (e : Entry) (s : PlainStatement) (r : IsReady p m e s) (event : Event) (v : ℤ) → are_narrow (act_steps (configuration p m).heap r.frame.store s.act e.base) ≡ true → now p m e s r ≡ next (record { heap = (configuration p m).heap; threads = slice_set (configuration p m).threads e.thread (received r.frame v r.below) }) (return_event v (r.frame ∷ r.below)) → HasChanged p (returned v) e.thread m after → event ≡ return_event v (r.frame ∷ r.below) → Steps p e m after (Ok event)
returned_ok p m after e s r event v n o c i =
    ok_next p m after e s r event (record { heap = (configuration p m).heap; threads = slice_set (configuration p m).threads e.thread (received r.frame v r.below) }) n
    (o ∙ ap (λ x. next (record { heap = (configuration p m).heap; threads = slice_set (configuration p m).threads e.thread (received r.frame v r.below) }) x) (sym i))
    (threads_after p m after e s r (returned v) c) c.stop

-- ---- calls and forks

pub called_ok : (p : PlainProgram) (m after : Machine) (e : Entry) (s : PlainStatement) (r : IsReady p m e s) (callee : Frame) (n : ℕ) (g : PlainFunction) (vs : List ℤ) (x : Option ℕ) → are_narrow (act_steps (configuration p m).heap r.frame.store s.act e.base) ≡ true → now p m e s r ≡ calls (spot p m e s r) r.rest n vs x (slice_get p.functions n) → slice_get p.functions n ≡ Some g → callee ≡ new_frame n g vs x → HasChanged p (λ fs. callee ∷ with_top passed fs) e.thread m after → Steps p e m after (Ok Call)
called_ok p m after e s r callee n g vs x w o i j c =
    ok_next p m after e s r Call _ w (o ∙ ap (calls (spot p m e s r) r.rest n vs x) i)
    (threads_after p m after e s r (λ fs. callee ∷ with_top passed fs) c
    ∙ (ap (λ f. record { heap = (configuration p m).heap; threads = slice_set (configuration p m).threads e.thread (f ∷ passed r.frame ∷ r.below) }) j
    ∙ ap (λ f. record { heap = (configuration p m).heap; threads = slice_set (configuration p m).threads e.thread (new_frame n g vs x ∷ f ∷ r.below) }) (passed_to p m e s r))) c.stop

update_front : (f : Thread → Thread) (ts us : List Thread) (n : ℕ) (t : Thread) → slice_get ts n ≡ Some t → update f (ts ++ us) n ≡ slice_set ts n (f t) ++ us
update_front f [] us n t e = absurd (cc)
update_front f (u ∷ ts) us zero t e = let i : u ≡ t = cc in ap (λ x. f x ∷ (ts ++ us)) i
update_front f (u ∷ ts) us (suc n) t e = ap (λ x. u ∷ x) (update_front f ts us n t e)

get_front : (ts us : List Thread) (n : ℕ) (t : Thread) → slice_get ts n ≡ Some t → slice_get (ts ++ us) n ≡ Some t
get_front [] us n t e = absurd (cc)
get_front (u ∷ ts) us zero t e = e
get_front (u ∷ ts) us (suc n) t e = get_front ts us n t e

pub can_change_more : (p : PlainProgram) (m more : Machine) (e : Entry) (s : PlainStatement) (r : IsReady p m e s) (first : Frame) → HasThread p first m more → CanChange p more e.thread
can_change_more p m more e s r first h =
    let at : slice_get (configuration p more).threads e.thread ≡ Some (r.frame ∷ r.below) = ap (λ (c : Configuration). slice_get c.threads e.thread) h.configured ∙ get_front (configuration p m).threads ((first ∷ []) ∷ []) e.thread (r.frame ∷ r.below) r.there in
    record { top = has_top p more e.thread r.frame r.below at; places = h.places }

pub forked_ok : (p : PlainProgram) (m more after : Machine) (e : Entry) (s : PlainStatement) (r : IsReady p m e s) (first : Frame) (n k : ℕ) (g : PlainFunction) (vs : List ℤ) → are_narrow (act_steps (configuration p m).heap r.frame.store s.act e.base) ≡ true → now p m e s r ≡ forks (spot p m e s r) r.rest n vs (slice_get p.functions n) → slice_get p.functions n ≡ Some g → first ≡ new_frame n g vs None → HasThread p first m more → HasChanged p (with_top passed) e.thread more after → k ≡ length (configuration p m).threads → Steps p e m after (Ok (Fork k))
forked_ok p m more after e s r first n k g vs w o i j h c l =
    ok_next p m after e s r (Fork k) _ w
    (o ∙ (ap (forks (spot p m e s r) r.rest n vs) i ∙ ap (λ x. next (record { heap = (configuration p m).heap; threads = slice_set (configuration p m).threads e.thread (with_rest r.frame r.rest ∷ r.below) ++ (new_frame n g vs None ∷ []) ∷ [] }) (Fork x)) (sym l)))
    (c.configured
    ∙ (ap (λ (d : Configuration). with_thread (with_top passed) d e.thread) h.configured
    ∙ (ap (λ ts. record { heap = (configuration p m).heap; threads = ts }) (update_front (with_top passed) (configuration p m).threads ((first ∷ []) ∷ []) e.thread (r.frame ∷ r.below) r.there)
    ∙ (ap (λ f. record { heap = (configuration p m).heap; threads = slice_set (configuration p m).threads e.thread (f ∷ r.below) ++ (first ∷ []) ∷ [] }) (passed_to p m e s r)
    ∙ ap (λ f. record { heap = (configuration p m).heap; threads = slice_set (configuration p m).threads e.thread (with_rest r.frame r.rest ∷ r.below) ++ (f ∷ []) ∷ [] }) j)))) (c.stop ∙ h.stop)

-- ---- entries that are not enabled

-- ---- numbers of 128 bits that are the same

pub same_number : (a b : ℤ) → SFits w128 a → SFits w128 b → of_z w128 a ≡ of_z w128 b → a ≡ b
same_number a b f g e = sym (to_z-of_z w128 a f) ∙ (ap (to_z w128) e ∙ to_z-of_z w128 b g)

-- ---- allocations

pub at_free : (h k : Heap) (b : ℤ) (n : ℕ) → pos 1 ≤ℤ b → are_free h b n ≡ true → k ≡ h → may_be_at k b n ≡ true
at_free h k b n l e i = let f : int_le (pos 1) b ≡ true = grind (arith, ints) in ap (λ x. may_be_at x b n) i ∙ (ap (λ x. x && are_free h b n) f ∙ e)

pub returns_as : (s : Spot) (v w : ℤ) → v ≡ w → returns s w s.below ≡ next (record { heap = s.configuration.heap; threads = slice_set s.configuration.threads s.thread (received s.frame v s.below) }) (return_event v (s.frame ∷ s.below))
returns_as s v w e =
    returns_is s w s.below
    ∙ ap (λ x. next (record { heap = s.configuration.heap; threads = slice_set s.configuration.threads s.thread (received s.frame x s.below) }) (return_event x (s.frame ∷ s.below))) (sym e)

pub on_err : {T E : Type 0} (r : Result T E) (P : Type 0) → P → OnErr r P
on_err (Ok x) P h = tt
on_err (Err x) P h = h
