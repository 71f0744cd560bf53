-- Names and terms of an action. Only private functions cite this.
use Rattle.std.specs.Prelude.{ℕ, List, [], ◌∷◌, get_or, drop}
use Rattle.cap_lin.specs.Linear.{Linear}
use Rattle.cap_lin.specs.declared.row.Row.{Row}
use Rattle.cap_gsolve.specs.declared.piece.Form.{Form}
use Rattle.cap_prog.specs.declared.assertion.Comp.{Comp}
use Rattle.cap_prog.specs.declared.assertion.Asked.{Asked}
use Rattle.cap_rules.specs.Attempts.{Attempt, unit, ◌>>=◌, comparison_row}
use Rattle.cap_rules.specs.Resting.{Names, value_over, want_form}
use Rattle.cap_stab_states.specs.declared.naming.Names as code

-- the names that came up so far
abbrev pub names_view : code.Names → Names
names_view n = record { terms = n.terms.items; next = n.next }

-- the row of a comparison
abbrev pub row_among : List Linear → Comp → Attempt Row
row_among names c = do
  l ← value_over names c.left
  r ← value_over names c.right
  comparison_row l c.op r c.sort

-- a guard that is wanted, this variable standing for `_`
abbrev pub wanted_one : List Linear → ℕ → ℕ × Asked → Attempt (ℕ × Form)
wanted_one names x g = do
  f ← want_form names x g.1
  unit (g.0, f)

-- the guards that are wanted, with variables that stand for their `_`
abbrev pub wanted_from : List Linear → List ℕ → List (ℕ × Asked) → Attempt (List (ℕ × Form))
wanted_from names starts [] = unit []
wanted_from names starts (g ∷ gs) = do
  w ← wanted_one names (get_or starts 0 0) g
  more ← wanted_from names (drop 1 starts) gs
  unit (w ∷ more)
