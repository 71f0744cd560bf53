-- What is read has ascending addresses and few entries.
use Rattle.std.proofs.Common.{◌≡◌, sym, refl, subst, ℕ, suc, ◌+◌, ◌<◌, ◌≤◌, Bool, true, false, cond, nat_lt, List, [], ◌∷◌, ◌++◌, length, length-append, arith}
use Rattle.std.specs.Prelude.{ℤ, pos, ◌<ℤ◌, int_lt, Option, Some, None, Result, Ok, Err, IfOk, bytes_eq, codes}
use Rattle.std.proofs.lemmas.Int.{ints}
use Rattle.std.proofs.lemmas.Bool.Decides.{nat_tests}
use Rattle.cap_machine.specs.declared.event.Entry.{Entry}
use Rattle.cap_machine.specs.Cells.{AscendsFrom}
use Rattle.cap_replay_schedules.specs.declared.entries.Schedule.{Schedule}
use Rattle.cap_replay_schedules.specs.declared.reading.ScheduleError.{ScheduleError}
use Rattle.cap_replay_schedules.specs.declared.reading.ScheduleError.TheVariants.{BadLine, TooMany}
use Rattle.cap_replay_schedules.specs.declared.reading.Stage.{Stage}
use Rattle.cap_replay_schedules.specs.declared.reading.Stage.TheVariants.{Start, Cells, Steps, End}
use Rattle.cap_replay_schedules.specs.Pieces.{pieces}
use Rattle.cap_replay_schedules.specs.Reading.{numbers_of, cell_of, entry_of, Progress, begins, bad_unless, takes_args, takes_cell, takes_entry, takes_end, step_or_end, by_stage, of_words, take_line, lines_of, then_read, ended, read_from, read, IsReadAs}

-- the address of the last cell
abbrev last_address : ℤ → List (ℤ × ℤ) → ℤ
last_address below [] = below
last_address below (c ∷ cs) = last_address c.0 cs

ascends_more : (below : ℤ) (cells : List (ℤ × ℤ)) (c : ℤ × ℤ) → AscendsFrom below cells → last_address below cells <ℤ c.0 → AscendsFrom below (cells ++ c ∷ []) × (last_address below (cells ++ c ∷ []) ≡ c.0)
ascends_more below [] c a l = ((l, tt), refl)
ascends_more below (d ∷ ds) c a l = let r = ascends_more d.0 ds c a.1 l in ((a.0, r.0), r.1)

record Keeps (p : Progress) : Type 0 where
  cells : AscendsFrom (pos 0) p.heap
  last : last_address (pos 0) p.heap ≡ p.last
  entries : length p.entries ≤ 100000

abbrev Good : Result Progress ScheduleError → Type 0
Good (Ok p) = Keeps p
Good (Err e) = Unit {0}

choice-good : (b : Bool) (r s : Result Progress ScheduleError) → Good r → Good s → Good (cond b r s)
choice-good true r s h k = h
choice-good false r s h k = k

err-good : (e : ScheduleError) → Good (Err e)
err-good e = tt

args-good : (n : ℕ) (p : Progress) (o : Option (List ℤ)) → Keeps p → Good (bad_unless n (takes_args p o))
args-good n p None h = tt
args-good n p (Some vs) h = record { cells = h.cells; last = h.last; entries = h.entries }

below : (a b : ℤ) → int_lt a b ≡ true → a <ℤ b
below a b e = grind (arith, ints)

cell-good : (n : ℕ) (p : Progress) (o : Option (ℤ × ℤ)) → Keeps p → Good (bad_unless n (takes_cell p o))
cell-good n p None h = tt
cell-good n p (Some c) h = go (int_lt p.last c.0) refl
  where
    go : (b : Bool) → int_lt p.last c.0 ≡ b → Good (bad_unless n (cond b (Some (record p { last = c.0; heap = p.heap ++ c ∷ [] })) None))
    go true e = let P : ℤ → Type 0 = λ z. z <ℤ c.0 in let a = ascends_more (pos 0) p.heap c h.cells (subst P (sym h.last) (below p.last c.0 e)) in record { cells = a.0; last = a.1; entries = h.entries }
    go false e = tt

entry-good : (n : ℕ) (p : Progress) (o : Option Entry) → Keeps p → Good (takes_entry n p o)
entry-good n p None h = tt
entry-good n p (Some e) h = go (nat_lt (length p.entries) 100000) refl
  where
    go : (b : Bool) → nat_lt (length p.entries) 100000 ≡ b → Good (cond b (Ok (record p { stage = Steps; entries = p.entries ++ e ∷ [] })) (Err TooMany))
    go true i =
        let l : length p.entries < 100000 = grind (arith, nat_tests) in
        let a : length (p.entries ++ e ∷ []) ≡ length p.entries + 1 = length-append p.entries (e ∷ []) in
        record { cells = h.cells; last = h.last; entries = omega arith }
    go false i = tt

end-good : (n : ℕ) (p : Progress) (ws : List (List ℕ)) → Keeps p → Good (bad_unless n (takes_end p ws))
end-good n p [] h = record { cells = h.cells; last = h.last; entries = h.entries }
end-good n p (w ∷ ws) h = tt

step-good : (n : ℕ) (p : Progress) (w : List ℕ) (ws : List (List ℕ)) → Keeps p → Good (step_or_end n p w ws)
step-good n p w ws h =
    choice-good (bytes_eq w (codes "step")) _ _ (entry-good n p (entry_of ws) h) (choice-good (bytes_eq w (codes "end")) _ _ (end-good n p ws h) (err-good (BadLine n)))

stage-good : (s : Stage) (n : ℕ) (p : Progress) (w : List ℕ) (ws : List (List ℕ)) → Keeps p → Good (by_stage s n p w ws)
stage-good Start n p w ws h = choice-good (bytes_eq w (codes "start")) _ _ (args-good n p (numbers_of ws) h) (err-good (BadLine n))
stage-good Cells n p w ws h = choice-good (bytes_eq w (codes "cell")) _ _ (cell-good n p (cell_of ws) h) (step-good n p w ws h)
stage-good Steps n p w ws h = step-good n p w ws h
stage-good End n p w ws h = err-good (BadLine n)

line-good : (n : ℕ) (p : Progress) (ws : List (List ℕ)) → Keeps p → Good (of_words n p ws)
line-good n p [] h = err-good (BadLine n)
line-good n p (w ∷ ws) h = stage-good p.stage n p w ws h

ended-good : (n : ℕ) (s : Stage) (p : Progress) → Keeps p → Good (ended n s p)
ended-good n Start p h = tt
ended-good n Cells p h = tt
ended-good n Steps p h = tt
ended-good n End p h = h

then-good : (r : Result Progress ScheduleError) (f : Progress → Result Progress ScheduleError) → Good r → ((q : Progress) → Keeps q → Good (f q)) → Good (then_read r f)
then-good (Ok p) f h k = k p h
then-good (Err e) f h k = tt

reads-good : (n : ℕ) (p : Progress) (ls : List (List ℕ)) → Keeps p → Good (read_from n p ls)
reads-good n p [] h = ended-good n p.stage p h
reads-good n p (l ∷ ls) h = then-good (take_line n p l) (λ q. read_from (suc n) q ls) (line-good n p (pieces 32 l) h) (λ q k. reads-good (suc n) q ls k)

begins-good : Keeps begins
begins-good = record { cells = tt; last = refl; entries = omega arith }

pub read_ascends : (bytes : List ℕ) (p : Progress) → read bytes ≡ Ok p → AscendsFrom (pos 0) p.heap
read_ascends bytes p e = let k : Keeps p = subst Good e (reads-good 1 begins (lines_of (pieces 10 bytes)) begins-good) in k.cells

pub addresses_ascend : (bytes : List ℕ) (r : Result Schedule ScheduleError) → IsReadAs r (read bytes) → IfOk r (λ s. AscendsFrom (pos 0) s.heap.items)
addresses_ascend bytes r h = go r (read bytes) h (reads-good 1 begins (lines_of (pieces 10 bytes)) begins-good)
  where
    go : (r : Result Schedule ScheduleError) (q : Result Progress ScheduleError) → IsReadAs r q → Good q → IfOk r (λ s. AscendsFrom (pos 0) s.heap.items)
    go (Ok s) (Ok p) k g = subst (AscendsFrom (pos 0)) (sym k.1) g.cells
    go (Ok s) (Err e) k g = absurd k
    go (Err e) q k g = tt

pub entries_are_few : (bytes : List ℕ) (r : Result Schedule ScheduleError) → IsReadAs r (read bytes) → IfOk r (λ s. length s.entries.items ≤ 100000)
entries_are_few bytes r h = go r (read bytes) h (reads-good 1 begins (lines_of (pieces 10 bytes)) begins-good)
  where
    go : (r : Result Schedule ScheduleError) (q : Result Progress ScheduleError) → IsReadAs r q → Good q → IfOk r (λ s. length s.entries.items ≤ 100000)
    go (Ok s) (Ok p) k g = let P : List Entry → Type 0 = λ es. length es ≤ 100000 in subst P (sym k.2) g.entries
    go (Ok s) (Err e) k g = absurd k
    go (Err e) q k g = tt
