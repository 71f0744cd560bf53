-- The variables of an action's wildcards, and the rows that hold where it is taken.
use Rattle.std.specs.Prelude.{ℕ, Option, option_map, List, [], ◌∷◌}
use Rattle.std.specs.Global.{Vec}
use Rattle.cap_lin.specs.declared.row.Row.{Row}
use Rattle.cap_prog.specs.declared.assertion.Asked.{Asked}
use Rattle.cap_rules.specs.Resting.{Names, ask}

-- for each guard the next free variable when it comes up
abbrev pub starts_of : Names → List (ℕ × Asked) → List ℕ
starts_of w [] = []
starts_of w (g ∷ gs) = w.next ∷ starts_of (ask w g.1) gs

-- rows, where there are any
abbrev pub rows_seen : Option (Vec Row) → Option (List Row)
rows_seen o = option_map (λ rows. rows.items) o
