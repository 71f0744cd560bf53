-- Which cell is sought at a goal, and the scan for it.
use Rattle.std.specs.Prelude.{ℕ, suc, List, [], ◌∷◌, Option, None}
use Rattle.cap_lin.specs.Linear.{Linear}
use Rattle.cap_lin.specs.declared.row.Row.{Row}
use Rattle.cap_farkas.specs.declared.cert.Cert.{Cert}
use Rattle.cap_prog.specs.Program.{PlainAct, PlainProgram}
use Rattle.cap_goal_spec.specs.States.{PlainState, PlainGoal}
use Rattle.cap_goal_spec.specs.Choices.{PlainChoice, by_act, by_cell}
use Rattle.cap_rules.specs.Attempts.{Attempt}
use Rattle.cap_rules.specs.Answers.{proofs}
use Rattle.cap_offer_spec.specs.Deciding.{Noted, done, ◌>>=◌, decided_all}
use Rattle.cap_offer_spec.specs.Claims.{has_address, has_item_address}
use Rattle.cap_offer_spec.specs.Scanning.{Scan, scanned_cell, parted, at_address, unless_over, finished_cell, finished_act}

-- the one on which a heap statement acts, or that of an item, by its environment and address
pub data PlainSought : Type 0 where
  of_act : PlainAct → PlainSought
  of_item : ℕ → Linear → PlainSought

-- the choice on the cell of this number, without certificates
abbrev pub sought_choice : PlainSought → ℕ → PlainChoice
sought_choice (of_act a) j = by_act j [] []
sought_choice (of_item e a) j = by_cell j []

-- the cell has the address
abbrev pub sought_address : PlainState → PlainSought → Linear × Linear → Attempt (Unit {0})
sought_address s (of_act a) c = has_address s a c
sought_address s (of_item e a) c = has_item_address s e a c

-- the choice on the cell, once it has the address
abbrev pub sought_finish :
    PlainState → PlainSought → ℕ → List Cert → List (List Row) → Noted (Option PlainChoice)
sought_finish s (of_act a) j cs others = finished_act s j cs others
sought_finish s (of_item e a) j cs others = finished_cell j cs others

abbrev pub sought_scan :
    PlainProgram → PlainGoal → PlainSought → ℕ → Linear × Linear → Noted Scan
sought_scan p g x j c =
    scanned_cell (sought_finish g.state x j) (sought_address g.state x c)
    (proofs p g (sought_choice x j))

-- by the cells from number j on
unfoldable pub first_sought :
    PlainProgram → PlainGoal → PlainSought → ℕ → List (Linear × Linear) →
    Noted (Option PlainChoice)
first_sought p g x j [] = done None
first_sought p g x j (c ∷ cs) = do
  scan ← sought_scan p g x j c
  unless_over scan (first_sought p g x (suc j) cs)

-- at a cell, by the lists that its choice owes
abbrev pub scan_lists :
    (List Cert → List (List Row) → Noted (Option PlainChoice)) → List (List Row) → Noted Scan
scan_lists finish ls = do
  cs ← decided_all (parted ls).address
  at_address finish (parted ls).others cs
