-- A small program with one region type, an account of it, one that follows, and broken ones.
use Rattle.std.specs.Prelude.{ℕ, ℤ, pos, List, [], ◌∷◌, None}
use Rattle.std.specs.FinMap.{insert, empty}
use Rattle.cap_lin.specs.Linear.{number, variable}
use Rattle.cap_lin.specs.Values.{Valuation, number_at}
use Rattle.cap_galg.specs.Elements.{one}
use Rattle.cap_galg.specs.Algebras.{unique}
use Rattle.cap_syntax.specs.declared.place.Place.{Place}
use Rattle.cap_prog.specs.declared.assertion.Slot.TheVariants.{Is}
use Rattle.cap_prog.specs.declared.assertion.Asked.TheVariants.{One}
use Rattle.cap_prog.specs.Program.{cell, Items, none, item, PlainCase, PlainAction, PlainRegionType, done, PlainFunction, PlainProgram}
use Rattle.cap_machine.specs.Machine.{Heap, Frame, Configuration}
use Rattle.cap_machine_accounts.specs.Parts.{Guard, Part, no_part, Region}
use Rattle.cap_machine_accounts.specs.Accounts.{Held, Account}

abbrev pub nowhere : Place
nowhere = record { line = 1; column = 1 }

-- region R(r, x) { guards G; interpretation { 0 : x |-> 0; 1 : x |-> 1; } actions { G : 0 ~> 1; } }
abbrev pub holds_number : ℕ → ℤ → Items
holds_number x z = item (cell nowhere (variable x) (Is (number z))) none

abbrev pub flag_case : ℤ → PlainCase
flag_case z =
    record { names = []; state = number z; when = []; items = holds_number 1 z; place = nowhere }

abbrev pub raise : PlainAction
raise = record {
  names = [];
  guards = (0, One) ∷ [];
  source = number (pos 0);
  target = number (pos 1);
  when = [];
  place = nowhere;
}

abbrev pub flag_type : PlainRegionType
flag_type = record {
  name = [];
  params = 2;
  algebra = unique;
  atoms = [] ∷ [];
  cases = flag_case (pos 0) ∷ flag_case (pos 1) ∷ [];
  actions = raise ∷ [];
  place = nowhere;
}

-- function main(x) ensures x |-> 1; { }
abbrev pub main_function : PlainFunction
main_function = record {
  name = [];
  params = 1;
  locals = 0;
  fixed = [];
  variables = [] ∷ [];
  requires = none;
  ensures = record { names = []; items = holds_number 0 (pos 1) };
  body = done;
  place = nowhere;
}

abbrev pub flag_program : PlainProgram
flag_program = record { regions = flag_type ∷ []; functions = main_function ∷ []; main = 0 }

-- ---- configurations: a cell at 5, and two threads

abbrev pub main_frame : Frame
main_frame = record {
  function = 0;
  arguments = pos 5 ∷ [];
  store = pos 5 ∷ [];
  rest = done;
  destination = None;
}

abbrev pub cell_at_5 : ℤ → Heap
cell_at_5 z = insert empty (pos 5) z

abbrev pub configuration_with : ℤ → Configuration
configuration_with z =
    record { heap = cell_at_5 z; threads = (main_frame ∷ []) ∷ (main_frame ∷ []) ∷ [] }

-- ---- parts

abbrev pub flag_part : ℤ → Part
flag_part z = record { cells = cell_at_5 z; guards = empty }

abbrev pub the_guard : Guard
the_guard = record { kind = 0; element = one }

abbrev pub with_the_guard : Part
with_the_guard = record { cells = empty; guards = insert empty (pos 1) the_guard }

-- ---- accounts: region 1 is the flag, over the cell

abbrev pub flag_in : ℤ → Region
flag_in z = record { number = pos 1; kind = 0; args = pos 5 ∷ []; state = z }

abbrev pub has : Part → List Held
has q = record { part = q; fixed = [] } ∷ []

-- the flag in a state, with a part, and the parts of the two threads
abbrev pub account_with : ℤ → Part → Part → Part → Account
account_with state flag first second = record {
  regions = record { region = flag_in state; part = flag } ∷ [];
  threads = has first ∷ has second ∷ [];
}

-- the flag's cell holds its state, and the first thread has the guard
abbrev pub flag_down : Account
flag_down = account_with (pos 0) (flag_part (pos 0)) with_the_guard no_part

abbrev pub flag_up : Account
flag_up = account_with (pos 1) (flag_part (pos 1)) with_the_guard no_part

-- the values of the flag's parameters
abbrev pub flag_values : Valuation
flag_values = record {
  whole = number_at (pos 1 ∷ pos 5 ∷ []);
  fraction = record { numerator = λ x. pos 0; under = 0 };
}

-- broken: the cell is in two parts
abbrev pub cell_twice : Account
cell_twice = account_with (pos 0) (flag_part (pos 0)) (flag_part (pos 0)) no_part

-- broken: no case has the state 2
abbrev pub flag_lost : Account
flag_lost = account_with (pos 2) (flag_part (pos 2)) with_the_guard no_part

-- broken: both threads have the guard
abbrev pub guard_twice : Account
guard_twice = account_with (pos 0) (flag_part (pos 0)) with_the_guard with_the_guard
