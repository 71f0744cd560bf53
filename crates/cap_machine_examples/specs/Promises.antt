-- Each condition of a contract that is met, of a start, and of the frame that begins or returns.
use Rattle.std.specs.Prelude.{ℕ, ℤ, pos, List, [], ◌∷◌, None}
use Rattle.std.specs.FinMap.{insert, empty}
use Rattle.cap_lin.specs.Linear.{variable}
use Rattle.cap_lin.specs.declared.row.Op.TheVariants.{Eq}
use Rattle.cap_lin.specs.declared.row.Sort.TheVariants.{Int}
use Rattle.cap_prog.specs.declared.assertion.Comp.{Comp}
use Rattle.cap_prog.specs.declared.assertion.Slot.TheVariants.{Is}
use Rattle.cap_prog.specs.Program.{compare, cell, Items, none, item, done, PlainFunction, PlainProgram}
use Rattle.cap_machine.specs.declared.event.Event.{Event}
use Rattle.cap_machine.specs.declared.event.Event.TheVariants.{Call, Fork, Return, End}
use Rattle.cap_machine.specs.Machine.{Heap, Frame, Thread, Configuration}
use Rattle.cap_machine_accounts.specs.Parts.{Part, no_part}
use Rattle.cap_machine_accounts.specs.Assertions.{NameValue, a_number, MeetsRequires, Met}
use Rattle.cap_machine_accounts.specs.Accounts.{Held, Account}
use Rattle.cap_machine_accounts.specs.Safety.{TopFrame, KeepsContracts, Start}
use Rattle.cap_machine_examples.specs.Example.{nowhere, main_function, cell_at_5}
use Rattle.cap_machine_examples.specs.Validity.{cell_at}

-- x |-> v
abbrev pub has_value : Items → Items
has_value more = item (cell nowhere (variable 0) (Is (variable 1))) more

-- ret = v
abbrev pub result_is_value : Comp
result_is_value =
    record { left = variable 2; op = Eq; right = variable 1; sort = Int; place = nowhere }

-- function keep(x) requires x |-> v; ensures x |-> v & ret = v; { }
abbrev pub keep_function : PlainFunction
keep_function = record {
  name = [];
  params = 1;
  locals = 0;
  fixed = Int ∷ [];
  variables = [] ∷ [];
  requires = has_value none;
  ensures = record {
    names = [];
    items = has_value (item (compare result_is_value) none);
  };
  body = done;
  place = nowhere;
}

abbrev pub keep_program : PlainProgram
keep_program = record { regions = []; functions = keep_function ∷ []; main = 0 }

-- with this argument and this value of v, the part meets what is required, and with this result
-- what is ensured
abbrev pub Requires : Part → ℤ → ℤ → Type 0
Requires q x v = MeetsRequires keep_program [] q keep_function (x ∷ []) (a_number v ∷ [])

abbrev pub Ensures : Part → ℤ → ℤ → ℤ → Type 0
Ensures q x v result =
    Met keep_program [] q keep_function (x ∷ []) (a_number v ∷ []) result

pub record ContractConditions : Type 0 where
  pub required : Requires (cell_at (pos 5) (pos 1)) (pos 5) (pos 1)
  pub another_argument : ¬ Requires (cell_at (pos 5) (pos 1)) (pos 9) (pos 1)
  pub another_value : ¬ Requires (cell_at (pos 5) (pos 1)) (pos 5) (pos 0)
  pub no_cell : ¬ Requires no_part (pos 5) (pos 1)
  pub ensured : Ensures (cell_at (pos 5) (pos 1)) (pos 5) (pos 1) (pos 1)
  pub another_argument_at_return : ¬ Ensures (cell_at (pos 5) (pos 1)) (pos 9) (pos 1) (pos 1)
  pub another_value_at_return : ¬ Ensures (cell_at (pos 5) (pos 0)) (pos 5) (pos 1) (pos 0)
  pub another_result : ¬ Ensures (cell_at (pos 5) (pos 1)) (pos 5) (pos 1) (pos 0)
  pub no_cell_at_return : ¬ Ensures no_part (pos 5) (pos 1) (pos 1)

-- ---- starts

abbrev pub Starts : PlainFunction → List ℤ → Heap → List NameValue → Type 0
Starts main args heap fixed = Start keep_program main args heap fixed

pub record StartConditions : Type 0 where
  pub starts : Starts keep_function (pos 5 ∷ []) (cell_at_5 (pos 0)) (a_number (pos 0) ∷ [])
  pub another_main : ¬ Starts main_function (pos 5 ∷ []) (cell_at_5 (pos 0)) []
  pub too_many_arguments :
      ¬ Starts keep_function (pos 5 ∷ pos 0 ∷ []) (cell_at_5 (pos 0)) (a_number (pos 0) ∷ [])
  pub too_many_values :
      ¬ Starts keep_function (pos 5 ∷ []) (cell_at_5 (pos 0))
      (a_number (pos 0) ∷ a_number (pos 0) ∷ [])
  pub cell_at_no_positive_address :
      ¬ Starts keep_function (pos 5 ∷ []) (insert (cell_at_5 (pos 0)) (pos 0) (pos 0))
      (a_number (pos 0) ∷ [])
  pub precondition_that_is_not_met :
      ¬ Starts keep_function (pos 5 ∷ []) empty (a_number (pos 0) ∷ [])

-- ---- frames that begin and return

-- a frame of this function, at 5
abbrev pub keep_frame : ℕ → Frame
keep_frame n = record {
  function = n;
  arguments = pos 5 ∷ [];
  store = pos 5 ∷ [];
  rest = done;
  destination = None;
}

-- two threads: an ended one, and one that has these frames
abbrev pub running : Thread → Configuration
running frames = record { heap = cell_at_5 (pos 1); threads = [] ∷ frames ∷ [] }

abbrev pub has_one : Part → List Held
has_one q = record { part = q; fixed = a_number (pos 1) ∷ [] } ∷ []

abbrev pub account_of : List Held → Account
account_of held = record { regions = []; threads = [] ∷ held ∷ [] }

-- the second thread has these frames, which have these parts
abbrev pub IsTop : Thread → List Held → Type 0
IsTop frames held = TopFrame keep_program (running frames) (account_of held) 1

-- a frame that begins with this part, on top of the second thread
abbrev pub BeginsBy : Event → Part → Type 0
BeginsBy event q =
    KeepsContracts keep_program 1 event (running []) (running (keep_frame 0 ∷ [])) (account_of [])
    (account_of (has_one q)) no_part

-- its frame hands this part over, with 1 as its result
abbrev pub ReturnsBy : Event → Part → Type 0
ReturnsBy event q =
    KeepsContracts keep_program 1 event (running (keep_frame 0 ∷ [])) (running [])
    (account_of (has_one q)) (account_of []) q

pub record FrameConditions : Type 0 where
  pub top : IsTop (keep_frame 0 ∷ []) (has_one no_part)
  pub no_frame : ¬ IsTop [] (has_one no_part)
  pub no_part_of_it : ¬ IsTop (keep_frame 0 ∷ []) []
  pub no_such_function : ¬ IsTop (keep_frame 1 ∷ []) (has_one no_part)
  pub called : BeginsBy Call (cell_at (pos 5) (pos 1))
  pub called_without : ¬ BeginsBy Call no_part
  pub forked : BeginsBy (Fork 1) (cell_at (pos 5) (pos 1))
  pub forked_without : ¬ BeginsBy (Fork 1) no_part
  pub returned : ReturnsBy (Return (pos 1)) (cell_at (pos 5) (pos 1))
  pub returned_with_another_value : ¬ ReturnsBy (Return (pos 1)) (cell_at (pos 5) (pos 0))
  pub ended : ReturnsBy (End (pos 1)) (cell_at (pos 5) (pos 1))
  pub ended_with_another_value : ¬ ReturnsBy (End (pos 1)) (cell_at (pos 5) (pos 0))
