-- Programs whose only thread ends with a promise that its run doesn't keep.
use Rattle.std.specs.Prelude.{ℤ, pos, [], ◌∷◌}
use Rattle.cap_lin.specs.Linear.{number}
use Rattle.cap_prog.specs.declared.assertion.Slot.TheVariants.{Is}
use Rattle.cap_prog.specs.Program.{cell, Items, none, item, give_back, Block, done, first, PlainFunction, PlainProgram}
use Rattle.cap_machine_accounts.specs.Safety.{Safe}
use Rattle.cap_machine_examples.specs.Example.{nowhere}

-- 5 |-> z
abbrev pub cell_holds : ℤ → Items
cell_holds z = item (cell nowhere (number (pos 5)) (Is (number z))) none

-- function main() requires R; ensures 5 |-> 1; { }
abbrev pub promising_main : Items → PlainFunction
promising_main r = record {
  name = [];
  params = 0;
  locals = 0;
  fixed = [];
  variables = [];
  requires = r;
  ensures = record { names = []; items = cell_holds (pos 1) };
  body = first (record { number = 1; place = nowhere }) (give_back (number (pos 0))) done;
  place = nowhere;
}

abbrev pub promising_program : Items → PlainProgram
promising_program r =
    record { regions = []; functions = promising_main r ∷ []; main = 0 }

-- main ends with 0 in its cell, and not with 1; or without a cell
pub record LastReturnsAreKept : Type 0 where
  pub another_value : ¬ Safe (promising_program (cell_holds (pos 0)))
  pub no_cell : ¬ Safe (promising_program none)
