-- Schedules that are drawn from a number: at each turn a random word chooses the thread, and new
-- cells come behind all others.
use Rattle.std.specs.Prelude.{ℕ, zero, suc, ◌%◌, ℤ, pos, ◌+ℤ◌, int_lt, Bool, true, false}
use Rattle.std.specs.Prelude.{if◌then◌else◌, List, [], ◌∷◌, ◌++◌, length, get_or, Option, Some}
use Rattle.std.specs.Prelude.{None, option_map, option_and_then}
use Rattle.std.specs.FinMap.{keys, empty}
use Rattle.rand_core.specs.Pcg32Seed.{pcg32_seed}
use Rattle.rand_pcg.specs.Lcg.{Lcg}
use Rattle.rand_pcg.specs.Pcg.{pcg32, pcg32_of_seed}
use Rattle.cap_prog.specs.Program.{PlainProgram}
use Rattle.cap_machine.specs.declared.event.Entry.{Entry}
use Rattle.cap_machine.specs.Machine.{Heap, Thread, Configuration, Outcome, next, fault, disabled}
use Rattle.cap_machine.specs.Machine.{step, start}
use Rattle.cap_machine.specs.Ready.{ahead}
use Rattle.cap_machine.specs.Results.{entry_steps, are_narrow}

-- ---- words

-- the generator of a number's words
unfoldable pub seeded : ℕ → Lcg
seeded number = pcg32_of_seed (pcg32_seed 16 number)

-- its next word, and the generator behind it
unfoldable pub word_of : Lcg → ℕ
word_of g = (pcg32 g).0

unfoldable pub after_word : Lcg → Lcg
after_word g = (pcg32 g).1

-- ---- threads

-- the threads that have not ended, in ascending order, where the first has this number
abbrev pub alive_from : ℕ → List Thread → List ℕ
alive_from i [] = []
alive_from i ([] ∷ ts) = alive_from (suc i) ts
alive_from i ((f ∷ fs) ∷ ts) = i ∷ alive_from (suc i) ts

abbrev pub alive : Configuration → List ℕ
alive c = alive_from 0 c.threads

-- the one of these threads that a word chooses
abbrev pub chosen : ℕ → List ℕ → ℕ
chosen word threads = get_or threads (word % length threads) 0

-- ---- where new cells come

-- the greater of an address and another one, if there is one
abbrev pub greater : ℤ → Option ℤ → Option ℤ
greater a None = Some a
greater a (Some b) = if int_lt b a then Some a else Some b

abbrev pub greatest : List ℤ → Option ℤ
greatest [] = None
greatest (a ∷ more) = greater a (greatest more)

abbrev pub behind : Option ℤ → ℤ
behind None = pos 1
behind (Some a) = a +ℤ pos 1

-- the address behind the greatest one of the heap, which is 1 where it has no cell
unfoldable pub free_address : Heap → ℤ
free_address heap = behind (greatest (keys heap))

-- the number of the cells that the thread allocates next, if it does
abbrev pub next_cells : Configuration → ℕ → Option ℕ
next_cells c thread = option_and_then (λ a. a.cells) (ahead c thread)

-- the entry of the thread's next step: a base is given exactly to an allocation
abbrev pub entry_of : Configuration → ℕ → Entry
entry_of c thread = record {
  thread = thread;
  base = option_map (λ n. free_address c.heap) (next_cells c thread);
}

-- ---- turns

-- the entries up to one that faults, or the generator behind a schedule that ends without
pub data Drawn : Type 0 where
  faulted : List Entry → Drawn
  ended : Lcg → Drawn

-- what comes of an entry behind others, by the outcome of its step: the schedule ends behind one
-- that faults, and before one that makes a number past 128 bits
abbrev pub taken :
    Bool → Entry → List Entry → Lcg → (Configuration → List Entry → Lcg → Drawn) → Outcome → Drawn
taken narrow e es g more disabled = ended g
taken false e es g more (next c event) = ended g
taken true e es g more (next c event) = more c (es ++ e ∷ []) g
taken false e es g more (fault event) = ended g
taken true e es g more (fault event) = faulted (es ++ e ∷ [])

-- a turn among these threads, which takes a word, and no word where all have ended
abbrev pub turn :
    PlainProgram → Lcg → Configuration → List Entry → (Configuration → List Entry → Lcg → Drawn)
    → List ℕ → Drawn
turn p g c es more [] = ended g
turn p g c es more (t ∷ ts) =
    let e = entry_of c (chosen (word_of g) (t ∷ ts)) in
    taken (are_narrow (entry_steps c e)) e es (after_word g) more (step p c e)

-- at most so many entries more, behind these
unfoldable pub draw : PlainProgram → ℕ → Lcg → Configuration → List Entry → Drawn
draw p zero g c es = ended g
draw p (suc n) g c es = turn p g c es (λ d fs h. draw p n h d fs) (alive c)

unfoldable pub most_entries : ℕ
most_entries = 1000

-- a schedule begins at the empty heap
abbrev pub draw_one : PlainProgram → Lcg → Drawn
draw_one p g = draw p most_entries g (start p [] empty) []

-- ---- schedules, one behind the other

abbrev pub or_later : Drawn → (Lcg → Option (List Entry)) → Option (List Entry)
or_later (faulted es) later = Some es
or_later (ended g) later = later g

-- the first of so many that faults, up to its fault
unfoldable pub first_fault : PlainProgram → ℕ → Lcg → Option (List Entry)
first_fault p zero g = None
first_fault p (suc n) g = or_later (draw_one p g) (λ h. first_fault p n h)
