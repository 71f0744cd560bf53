-- A region type with one argument, one action and a condition, of which examples change one thing
-- at a time.
use Rattle.std.specs.Prelude.{ℤ, pos, List, [], ◌∷◌}
use Rattle.cap_lin.specs.Linear.{number, variable}
use Rattle.cap_lin.specs.declared.row.Op.{Op}
use Rattle.cap_lin.specs.declared.row.Sort.TheVariants.{Int}
use Rattle.cap_galg.specs.Algebras.{PlainAlgebra}
use Rattle.cap_prog.specs.declared.assertion.Comp.{Comp}
use Rattle.cap_prog.specs.declared.assertion.Asked.{Asked}
use Rattle.cap_prog.specs.Program.{none, PlainCase, PlainAction, PlainRegionType, PlainProgram}
use Rattle.cap_machine_accounts.specs.Parts.{Region}
use Rattle.cap_machine_examples.specs.Example.{nowhere}

-- how the argument compares with 5
abbrev pub with_five : Op → Comp
with_five op =
    record { left = variable 1; op = op; right = number (pos 5); sort = Int; place = nowhere }

-- region L(r, x) {
--   guards G; interpretation { 0 : true when c; } actions { asked : 0 ~> x when c; }
-- }
abbrev pub latch_case : List Comp → PlainCase
latch_case when =
    record { names = []; state = number (pos 0); when = when; items = none; place = nowhere }

abbrev pub latch_action : Asked → List Comp → PlainAction
latch_action asked when = record {
  names = [];
  guards = (0, asked) ∷ [];
  source = number (pos 0);
  target = variable 1;
  when = when;
  place = nowhere;
}

abbrev pub latch_type : PlainAlgebra → Asked → List Comp → PlainRegionType
latch_type algebra asked when = record {
  name = [];
  params = 2;
  algebra = algebra;
  atoms = [] ∷ [];
  cases = latch_case when ∷ [];
  actions = latch_action asked when ∷ [];
  place = nowhere;
}

abbrev pub latch_program : PlainAlgebra → Asked → List Comp → PlainProgram
latch_program algebra asked when =
    record { regions = latch_type algebra asked when ∷ []; functions = []; main = 0 }

-- region 1, with this argument, in this state
abbrev pub latch_in : ℤ → ℤ → Region
latch_in arg state = record { number = pos 1; kind = 0; args = arg ∷ []; state = state }
