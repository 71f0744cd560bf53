-- What a choice answers at a goal: its subgoals, or the first failure.
use Rattle.std.specs.Prelude.{◌≡◌, ◌⊎◌, ℤ, Bool, true, is_some, List, [], ◌∷◌, map, flat_map, Option, Some, None}
use Rattle.cap_goal_spec.specs.cap_lin.Steps.{Step, first_wide}
use Rattle.cap_goal_spec.specs.cap_lin.declared.row.Row.{Row}
use Rattle.cap_goal_spec.specs.cap_farkas.declared.cert.Cert.{Cert}
use Rattle.cap_goal_spec.specs.cap_farkas.Refutes.{Refutes}
use Rattle.cap_goal_spec.specs.cap_prog.Program.{PlainProgram}
use Rattle.cap_goal_spec.specs.States.{PlainState, PlainGoal}
use Rattle.cap_goal_spec.specs.Choices.{PlainChoice, by_act, certs_of}
use Rattle.cap_rules.specs.Attempts.{Claim, owed, Event, makes, claims, Attempt}
use Rattle.cap_rules.specs.Closing.{rivals}
use Rattle.cap_rules.specs.Rules.{rule}

-- it applies, or it doesn't, or a term is too wide: with the operands of the result that leaves 128
-- bits
pub data Answer (A : Type 0) : Type 0 where
  applies : A → Answer A
  inapplicable : Answer A
  too_wide : ℤ → ℤ → Answer A

abbrev pub answer_or : {A : Type 0} → Option A → Answer A
answer_or None = inapplicable
answer_or (Some x) = applies x

-- ---- what is to be proved

abbrev pub steps_of : List Event → List Step
steps_of [] = []
steps_of (makes x ∷ es) = x ∷ steps_of es
steps_of (claims c ∷ es) = steps_of es

abbrev pub claims_of : List Event → List Claim
claims_of [] = []
claims_of (makes x ∷ es) = claims_of es
claims_of (claims c ∷ es) = c ∷ claims_of es

-- the lists of rows that certificates have to refute, in order
abbrev pub owed_lists : List Event → List (List Row)
owed_lists es = flat_map owed (claims_of es)

abbrev pub answer_unless : {A : Type 0} → Option (ℤ × ℤ) → Option A → Answer A
answer_unless None o = answer_or o
answer_unless (Some w) o = too_wide w.0 w.1

abbrev pub lists_if : {A : Type 0} → List (List Row) → Option A → Option (List (List Row))
lists_if ls None = None
lists_if ls (Some x) = Some ls

-- the lists, or the first failure that isn't a certificate's
abbrev pub proofs_of : {A : Type 0} → Attempt A → Answer (List (List Row))
proofs_of o =
    answer_unless (first_wide (steps_of o.events)) (lists_if (owed_lists o.events) o.value)

-- which marks are certificates
abbrev pub marks_of : PlainChoice → List Bool
marks_of (by_act j cs ms) = map is_some ms
marks_of c = []

-- as many marks as the choice needs, all certificates
abbrev pub full_marks : PlainState → PlainChoice → List Bool
full_marks s (by_act j cs ms) = map (λ x. true) (rivals s)
full_marks s c = []

-- the lists of rows that the choice's certificates, and after them its marks, have to refute,
-- whatever it holds
abbrev pub proofs : PlainProgram → PlainGoal → PlainChoice → Answer (List (List Row))
proofs p g c = proofs_of (rule p g c (full_marks g.state c))

-- ---- what the choice answers

-- how the events end: with certificates left over, with a list that is not refuted, or with a
-- result that leaves 128 bits
pub data Ending : Type 0 where
  passed : List Cert → Ending
  refused : Ending
  stopped : ℤ → ℤ → Ending

-- the certificates refute the lists one after the other, and then this holds of those that are
-- left; or it is refused at the first that they don't
abbrev pub Refuting : List (List Row) → List Cert → (List Cert → Type 0) → Type 0 → Type 0
Refuting [] cs P R = P cs
Refuting (rows ∷ ls) [] P R = R
Refuting (rows ∷ ls) (c ∷ cs) P R = (Refutes rows c × Refuting ls cs P R) ⊎ ((¬ Refutes rows c) × R)

-- a result is within 128 bits, and then this holds; or it is stopped by its operands
abbrev pub Within : Option (ℤ × ℤ) → Type 0 → (ℤ → ℤ → Type 0) → Type 0
Within None P W = P
Within (Some w) P W = W w.0 w.1

abbrev pub Ends : List Event → List Cert → Ending → Type 0
Ends [] cs end = end ≡ passed cs
Ends (makes x ∷ es) cs end =
    Within (first_wide (x ∷ [])) (Ends es cs end) (λ a b. end ≡ stopped a b)
Ends (claims c ∷ es) cs end = Refuting (owed c) cs (λ rest. Ends es rest end) (end ≡ refused)

-- certificates left over make the choice not applicable
abbrev pub answer_at : {A : Type 0} → Option A → Ending → Answer A
answer_at o (passed []) = answer_or o
answer_at o (passed (c ∷ cs)) = inapplicable
answer_at o refused = inapplicable
answer_at o (stopped a b) = too_wide a b

-- what the attempt answers to these certificates
abbrev pub Answers : {A : Type 0} → Attempt A → List Cert → Answer A → Type 0
Answers o certs answer = (end : Ending) × Ends o.events certs end × (answer ≡ answer_at o.value end)

-- what the choice answers at the goal
abbrev pub IsAnswer : PlainProgram → PlainGoal → PlainChoice → Answer (List PlainGoal) → Type 0
IsAnswer p g c answer = Answers (rule p g c (marks_of c)) (certs_of c) answer

-- the choice applies, and these are its subgoals
abbrev pub Subgoals : PlainProgram → PlainGoal → PlainChoice → List PlainGoal → Type 0
Subgoals p g c gs = IsAnswer p g c (applies gs)
