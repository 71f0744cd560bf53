-- When a choice has proved all that its rule owes, and what it leaves then.
use Rattle.std.specs.Prelude.{◌≡◌, ℕ, ◌+◌, ◌≤◌, List, [], ◌++◌, map, filter, length, Option, Some, None, is_none}
use Rattle.std.specs.List.{AllZip}
use Rattle.cap_lin.specs.declared.row.Row.{Row}
use Rattle.cap_farkas.specs.declared.cert.Cert.{Cert}
use Rattle.cap_farkas.specs.Refutes.{Refutes}
use Rattle.cap_prog.specs.Program.{PlainProgram}
use Rattle.cap_goal_spec.specs.States.{longest_list, PlainGoal}
use Rattle.cap_goal_spec.specs.Choices.{PlainChoice, by_act, certs_of}
use Rattle.cap_rules.specs.Answers.{applies, full_marks, proofs, Subgoals}

-- the marks of a choice; none is a mark 0
abbrev pub marks_in : PlainChoice → List (Option Cert)
marks_in (by_act j cs ms) = ms
marks_in c = []

-- its certificates, and after them its marks
abbrev pub given : PlainChoice → List (Option Cert)
given (by_act j cs ms) = map Some cs ++ ms
given c = map Some (certs_of c)

-- a certificate refutes the rows; a mark 0 says nothing of them
abbrev pub RefutesIfGiven : List Row → Option Cert → Type 0
RefutesIfGiven rows None = Unit {0}
RefutesIfGiven rows (Some c) = Refutes rows c

-- how many marks are 0
abbrev pub zeros : List (Option Cert) → ℕ
zeros ms = length (filter is_none ms)

-- the choice proves what its rule owes: it owes these lists, whatever certificates the choice
-- holds; there is one certificate or mark for each, a mark for each pair of an opened region and a
-- fact of its type; each certificate, and each mark that isn't 0, refutes its list; and there is
-- room for a variable for each mark 0
pub record ProvesOwed (p : PlainProgram) (g : PlainGoal) (c : PlainChoice) : Type 0 where
  pub lists : List (List Row)
  pub owed : proofs p g c ≡ applies lists
  pub marks : length (marks_in c) ≡ length (full_marks g.state c)
  pub refuted : AllZip RefutesIfGiven lists (given c)
  pub room : length g.state.sorts + zeros (marks_in c) ≤ longest_list

-- a choice that has subgoals proves what its rule owes
abbrev pub SubgoalsAreProven : Type 0
SubgoalsAreProven =
    (p : PlainProgram) (g : PlainGoal) (c : PlainChoice) (gs : List PlainGoal) →
    length g.state.sorts ≤ longest_list → Subgoals p g c gs → ProvesOwed p g c

-- and a choice that proves it has subgoals
abbrev pub ProvenHaveSubgoals : Type 0
ProvenHaveSubgoals =
    (p : PlainProgram) (g : PlainGoal) (c : PlainChoice) →
    ProvesOwed p g c → (gs : List PlainGoal) × Subgoals p g c gs
