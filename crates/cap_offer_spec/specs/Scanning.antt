-- Choices are tried: each in its turn, or the first that succeeds, or the one on the first cell that
-- has the wanted address.
use Rattle.std.specs.Prelude.{ℕ, suc, ◌+◌, nat_le, Bool, true, false, is_none, List, [], ◌∷◌, ◌++◌, filter, length, drop, take, option_map, option_to_list, Option, Some, None}
use Rattle.cap_lin.specs.Linear.{Linear}
use Rattle.cap_lin.specs.declared.row.Row.{Row}
use Rattle.cap_farkas.specs.declared.cert.Cert.{Cert}
use Rattle.cap_fm_spec.specs.Events.{wide}
use Rattle.cap_rules.specs.cap_prog.Program.{PlainProgram}
use Rattle.cap_rules.specs.cap_goal_spec.States.{PlainState, longest_list, PlainGoal}
use Rattle.cap_rules.specs.cap_goal_spec.Choices.{PlainChoice, by_act, by_cell, with_certs}
use Rattle.cap_rules.specs.Attempts.{Attempt}
use Rattle.cap_rules.specs.Answers.{Answer, applies, inapplicable, too_wide, proofs}
use Rattle.cap_offer_spec.specs.Deciding.{Noted, done, note, ◌>>=◌, decided_all, decided_each, certified_by, succeeds}

-- ---- a choice with the certificates of its proofs

unfoldable pub tried : PlainProgram → PlainGoal → PlainChoice → Noted (Option PlainChoice)
tried p g c = do
  cs ← certified_by (proofs p g c)
  done (option_map (with_certs c) cs)

-- each of the choices that succeeds
unfoldable pub tried_all : PlainProgram → PlainGoal → List PlainChoice → Noted (List PlainChoice)
tried_all p g [] = done []
tried_all p g (c ∷ cs) = do
  x ← tried p g c
  xs ← tried_all p g cs
  done (option_to_list x ++ xs)

abbrev pub or_later : Option PlainChoice → Noted (Option PlainChoice) → Noted (Option PlainChoice)
or_later (Some c) rest = done (Some c)
or_later None rest = rest

-- the first of the choices that succeeds
unfoldable pub first_tried :
    PlainProgram → PlainGoal → List PlainChoice → Noted (Option PlainChoice)
first_tried p g [] = done None
first_tried p g (c ∷ cs) = do
  x ← tried p g c
  or_later x (first_tried p g cs)

-- that one alone, or else the others
abbrev pub or_else : Option PlainChoice → Noted (List PlainChoice) → Noted (List PlainChoice)
or_else (Some c) rest = done (c ∷ [])
or_else None rest = rest

-- ---- the first cell with the wanted address

-- at a cell the scan finds a choice, or it ends without one, or it goes on
pub data Scan : Type 0 where
  finds : PlainChoice → Scan
  ends : Scan
  goes_on : Scan

-- the address is proved by two certificates, of an equality; what else is to be proved comes after
-- them
pub record Parted : Type 0 where
  pub address : List (List Row)
  pub others : List (List Row)

abbrev pub parted : List (List Row) → Parted
parted ls = record { address = take 2 ls; others = drop 2 ls }

abbrev pub found_or_ends : Option PlainChoice → Scan
found_or_ends None = ends
found_or_ends (Some c) = finds c

abbrev pub ends_if : Bool → Scan
ends_if true = ends
ends_if false = goes_on

-- by what else is to be proved at this cell, once its address is
abbrev pub at_address :
    (List Cert → List (List Row) → Noted (Option PlainChoice)) → List (List Row) →
    Option (List Cert) → Noted Scan
at_address finish others None = done goes_on
at_address finish others (Some cs) = do
  c ← finish cs others
  done (found_or_ends c)

-- all terms of the choice come first; where one is too wide, it is still decided whether the cell has
-- the address
unfoldable pub scanned_cell :
    (List Cert → List (List Row) → Noted (Option PlainChoice)) → Attempt (Unit {0}) →
    Answer (List (List Row)) → Noted Scan
scanned_cell finish address (applies ls) = do
  cs ← decided_all (parted ls).address
  at_address finish (parted ls).others cs
scanned_cell finish address inapplicable = done goes_on
scanned_cell finish address (too_wide a b) = do
  _ ← note (wide a b)
  b ← succeeds address
  done (ends_if b)

abbrev pub unless_over : Scan → Noted (Option PlainChoice) → Noted (Option PlainChoice)
unless_over (finds c) rest = done (Some c)
unless_over ends rest = done None
unless_over goes_on rest = rest

-- ---- the choice on that cell

-- its certificates are those of the address and then these
abbrev pub finished_cell :
    ℕ → List Cert → List (List Row) → Noted (Option PlainChoice)
finished_cell j cs others = do
  more ← decided_all others
  done (option_map (λ ds. by_cell j (cs ++ ds)) more)

-- a mark without a certificate makes a variable, for which there must be room
abbrev pub has_room_for : PlainState → List (Option Cert) → Bool
has_room_for s ms = nat_le (length s.sorts + length (filter is_none ms)) longest_list

abbrev pub choice_if : Bool → PlainChoice → Option PlainChoice
choice_if true c = Some c
choice_if false c = None

abbrev pub finished_act :
    PlainState → ℕ → List Cert → List (List Row) → Noted (Option PlainChoice)
finished_act s j cs others = do
  ms ← decided_each others
  done (choice_if (has_room_for s ms) (by_act j cs ms))

-- by the cells from number j on
unfoldable pub first_cell :
    PlainProgram → PlainGoal → (Linear × Linear → Attempt (Unit {0})) → ℕ →
    List (Linear × Linear) → Noted (Option PlainChoice)
first_cell p g address j [] = done None
first_cell p g address j (c ∷ cs) = do
  x ← scanned_cell (finished_cell j) (address c) (proofs p g (by_cell j []))
  unless_over x (first_cell p g address (suc j) cs)

unfoldable pub first_act :
    PlainProgram → PlainGoal → (Linear × Linear → Attempt (Unit {0})) → ℕ →
    List (Linear × Linear) → Noted (Option PlainChoice)
first_act p g address j [] = done None
first_act p g address j (c ∷ cs) = do
  x ← scanned_cell (finished_act g.state j) (address c) (proofs p g (by_act j [] []))
  unless_over x (first_act p g address (suc j) cs)
