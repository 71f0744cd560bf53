-- Each condition of accounts that follow one another, by a step that is refused for it alone.
use Rattle.std.specs.Prelude.{ℕ, ℤ, pos, List, [], ◌∷◌, None}
use Rattle.std.specs.FinMap.{insert, empty}
use Rattle.cap_galg.specs.Fractions.{fraction}
use Rattle.cap_galg.specs.Elements.{share}
use Rattle.cap_galg.specs.Algebras.{divisible}
use Rattle.cap_prog.specs.declared.assertion.Asked.TheVariants.{One}
use Rattle.cap_machine.specs.declared.event.Event.{Event}
use Rattle.cap_machine.specs.declared.event.Event.TheVariants.{Set, Read, Faa, Dispose, Return, End}
use Rattle.cap_machine.specs.Machine.{Heap}
use Rattle.cap_machine_accounts.specs.Parts.{Part, no_part}
use Rattle.cap_machine_accounts.specs.Assertions.{NameValue, a_number}
use Rattle.cap_machine_accounts.specs.Accounts.{Held, Account}
use Rattle.cap_machine_accounts.specs.Following.{Joins, Exchanges, Follows}
use Rattle.cap_machine_examples.specs.Example.{flag_program, cell_at_5, flag_part, the_guard, with_the_guard, flag_in, has}
use Rattle.cap_machine_examples.specs.Expected.{two_cells, nothing_held}
use Rattle.cap_machine_examples.specs.Validity.{cell_at}
use Rattle.cap_machine_examples.specs.Latch.{latch_program, latch_in}

-- ---- parts that are joined

abbrev pub cells : Heap → Part
cells heap = record { cells = heap; guards = empty }

-- a caller with the cell 5 gets the cell 9
abbrev pub Gets : Part → Type 0
Gets joined = Joins (cell_at (pos 5) (pos 0)) (cell_at (pos 9) (pos 0)) joined

pub record JoinConditions : Type 0 where
  pub both : Gets (cells two_cells)
  pub one_more : ¬ Gets (cells (insert two_cells (pos 7) (pos 0)))
  pub without_the_callers : ¬ Gets (cell_at (pos 9) (pos 0))
  pub without_the_handed : ¬ Gets (cell_at (pos 5) (pos 0))
  pub guard_joined : Joins no_part with_the_guard with_the_guard
  pub guard_lost : ¬ Joins no_part with_the_guard no_part

-- ---- guards of a new region

-- a part with this share of region 1
abbrev pub with_share : ℕ → ℕ → Part
with_share n d = record {
  cells = empty;
  guards = insert empty (pos 1) (record { kind = 0; element = share (fraction n d) });
}

-- of a new region this share is there after a step
abbrev pub Shares : ℕ → ℕ → Type 0
Shares n d =
    Exchanges (latch_program divisible One []) empty [] (latch_in (pos 5) (pos 0) ∷ [])
    (no_part ∷ []) (with_share n d ∷ [])

pub record ShareConditions : Type 0 where
  pub all_of_it : Shares 1 1
  pub more_than_all : ¬ Shares 3 2

-- ---- steps without regions

abbrev pub owned_by : List (List Held) → Account
owned_by threads = record { regions = []; threads = threads }

-- a step of a thread leads from what the threads have to what they have then; the heap holds 0 at 5
abbrev pub Steps :
    ℕ → Event → List (List Held) → List (List Held) → Part → Type 0
Steps thread event before after handed =
    Follows flag_program (cell_at_5 (pos 0)) thread event (owned_by before) (owned_by after) handed

abbrev pub held : Part → List NameValue → Held
held q fixed = record { part = q; fixed = fixed }

-- the second thread has the cell at 5
abbrev pub second_has_it : List (List Held)
second_has_it = has no_part ∷ has (cell_at (pos 5) (pos 0)) ∷ []

-- a thread has two frames, the lower one of which has this part
abbrev pub waits_with : Part → List (List Held)
waits_with q = (held no_part [] ∷ held q [] ∷ []) ∷ []

-- a callee has the cell, and its caller this part
abbrev pub callee_has_it : List (List Held)
callee_has_it =
    (held (cell_at (pos 5) (pos 0)) [] ∷ held no_part [] ∷ []) ∷ []

pub record StepConditions : Type 0 where
  -- frames
  pub nothing_changes : Steps 0 (Set (pos 0)) second_has_it second_has_it no_part
  pub another_frame_loses_its_cell :
      ¬ Steps 0 (Set (pos 0)) second_has_it (has no_part ∷ has no_part ∷ []) no_part
  pub another_value_of_a_name :
      ¬ Steps 0 (Set (pos 0)) second_has_it
      ((held no_part (a_number (pos 0) ∷ []) ∷ []) ∷ has (cell_at (pos 5) (pos 0)) ∷ []) no_part
  pub caller_waits :
      Steps 0 (Set (pos 0)) (waits_with (cell_at (pos 5) (pos 0)))
      (waits_with (cell_at (pos 5) (pos 0))) no_part
  pub caller_loses_its_cell :
      ¬ Steps 0 (Set (pos 0)) (waits_with (cell_at (pos 5) (pos 0))) (waits_with no_part) no_part
  -- access
  pub reads_its_cell : Steps 1 (Read (pos 5) (pos 0)) second_has_it second_has_it no_part
  pub reads_a_cell_of_another :
      ¬ Steps 0 (Read (pos 5) (pos 0)) second_has_it second_has_it no_part
  pub adds_to_its_cell :
      Steps 1 (Faa (pos 5) (pos 0)) second_has_it
      (has no_part ∷ has (cell_at (pos 5) (pos 1)) ∷ []) no_part
  pub adds_to_a_cell_of_another :
      ¬ Steps 0 (Faa (pos 5) (pos 0)) second_has_it second_has_it no_part
  pub disposes_of_its_cell :
      Steps 1 (Dispose (pos 5)) second_has_it (has no_part ∷ has no_part ∷ []) no_part
  pub disposes_of_a_cell_of_another :
      ¬ Steps 0 (Dispose (pos 5)) second_has_it second_has_it no_part
  -- handed_within, handed_fits, exchanges
  pub returns_its_cell :
      Steps 0 (Return (pos 0)) callee_has_it (has (cell_at (pos 5) (pos 0)) ∷ [])
      (cell_at (pos 5) (pos 0))
  pub returns_another_value :
      ¬ Steps 0 (Return (pos 0)) callee_has_it (has (cell_at (pos 5) (pos 1)) ∷ [])
      (cell_at (pos 5) (pos 1))
  pub ends_with_its_cell :
      Steps 0 (End (pos 0)) (has (cell_at (pos 5) (pos 0)) ∷ []) ([] ∷ [])
      (cell_at (pos 5) (pos 0))
  pub ends_with_another_value :
      ¬ Steps 0 (End (pos 0)) (has (cell_at (pos 5) (pos 0)) ∷ []) ([] ∷ [])
      (cell_at (pos 5) (pos 1))
  pub ends_with_an_absent_cell :
      ¬ Steps 0 (End (pos 0)) (has (cell_at (pos 5) (pos 0)) ∷ []) ([] ∷ [])
      (cell_at (pos 9) (pos 0))
  pub ends_with_a_guard_of_no_region :
      ¬ Steps 0 (End (pos 0)) (has (cell_at (pos 5) (pos 0)) ∷ []) ([] ∷ []) with_the_guard
  pub ends_with_a_cell_of_another :
      ¬ Steps 0 (End (pos 0)) second_has_it
      ([] ∷ has (cell_at (pos 5) (pos 0)) ∷ []) (cell_at (pos 5) (pos 0))

-- ---- last returns at which a region is made

-- the only thread, which had the cell at 5, ends, and the flag is made with this part
abbrev pub Makes : Part → Part → Type 0
Makes q handed =
    Follows flag_program (cell_at_5 (pos 0)) 0 (End (pos 0))
    (owned_by (has (cell_at (pos 5) (pos 0)) ∷ []))
    (record {
      regions = record { region = flag_in (pos 0); part = q } ∷ [];
      threads = [] ∷ [];
    })
    handed

-- the flag's part with its guard
abbrev pub guarded_flag : Part
guarded_flag =
    record { cells = cell_at_5 (pos 0); guards = insert empty (pos 1) the_guard }

pub record MakingConditions : Type 0 where
  pub guard_handed_over : Makes (flag_part (pos 0)) with_the_guard
  pub guard_kept : Makes guarded_flag no_part
  -- left_apart
  pub cell_handed_over_and_kept : ¬ Makes (flag_part (pos 0)) (cell_at (pos 5) (pos 0))
  -- left_compose
  pub guard_handed_over_and_kept : ¬ Makes guarded_flag with_the_guard
