-- An attempt to take a rule: what it meets on its way, in order, and what it comes to.
use Rattle.std.specs.Prelude.{Bool, true, false, nat_lt, List, [], ◌∷◌, ◌++◌, map, length, Option, Some, None}
use Rattle.cap_goal_spec.specs.cap_lin.Linear.{Linear}
use Rattle.cap_goal_spec.specs.cap_lin.Steps.{Step}
use Rattle.cap_goal_spec.specs.cap_lin.Rows.{row_of, row_of_steps, negations, negations_steps}
use Rattle.cap_goal_spec.specs.cap_lin.Solves.{HasNone, Proves}
use Rattle.cap_goal_spec.specs.cap_lin.declared.row.Row.{Row}
use Rattle.cap_goal_spec.specs.cap_lin.declared.row.Sort.{Sort}
use Rattle.cap_goal_spec.specs.cap_lin.declared.row.Op.{Op}
use Rattle.cap_goal_spec.specs.States.{longest_list}

-- what a rule asks to be proved: that no valuation solves the rows, or that they prove a row
pub data Claim : Type 0 where
  refuted : List Row → Claim
  proved : List Row → Row → Claim

-- what the claim says of all valuations
abbrev pub IsTrueClaim : Claim → Type 0
IsTrueClaim (refuted rows) = HasNone rows
IsTrueClaim (proved rows r) = Proves rows r

-- the lists of rows that certificates have to refute for it: to prove a row is to refute the rows
-- with each of its negations as the last
abbrev pub owed : Claim → List (List Row)
owed (refuted rows) = rows ∷ []
owed (proved rows r) = map (λ n. rows ++ n ∷ []) (negations r)

-- a result of exact arithmetic, or a claim
pub data Event : Type 0 where
  makes : Step → Event
  claims : Claim → Event

-- the value is none where the rule doesn't apply, once the events have passed
pub record Attempt (A : Type 0) : Type 0 where
  pub events : List Event
  pub value : Option A

abbrev pub unit : {A : Type 0} → A → Attempt A
unit x = record { events = []; value = Some x }

abbrev pub behind : {A : Type 0} → List Event → Attempt A → Attempt A
behind es o = record { events = es ++ o.events; value = o.value }

abbrev pub go_on : {A B : Type 0} → List Event → Option A → (A → Attempt B) → Attempt B
go_on es None f = record { events = es; value = None }
go_on es (Some x) f = behind es (f x)

-- one attempt after another
infixl 20 ◌>>=◌
abbrev pub ◌>>=◌ : {A B : Type 0} → Attempt A → (A → Attempt B) → Attempt B
◌>>=◌ o f = go_on o.events o.value f

-- ---- what an attempt is made of

-- a value, after the results on the way to it
abbrev pub computed : {A : Type 0} → A → List Step → Attempt A
computed x steps = record { events = map makes steps; value = Some x }

abbrev pub found : {A : Type 0} → Option A → Attempt A
found o = record { events = []; value = o }

abbrev pub not_applicable : {A : Type 0} → Attempt A
not_applicable = found None

abbrev pub need : Bool → Attempt (Unit {0})
need true = unit tt
need false = not_applicable

abbrev pub each : {A B : Type 0} → (A → Attempt B) → List A → Attempt (List B)
each f [] = unit []
each f (x ∷ xs) = do
  y ← f x
  ys ← each f xs
  unit (y ∷ ys)

-- a member more, where the list has room
abbrev pub appended : {A : Type 0} → List A → A → Attempt (List A)
appended xs x = do
  _ ← need (nat_lt (length xs) longest_list)
  unit (xs ++ x ∷ [])

-- the row of a comparison
abbrev pub comparison_row : Linear → Op → Linear → Sort → Attempt Row
comparison_row l op r o = computed (row_of l op r o) (row_of_steps l op r o)

-- the rows prove a row, whose negations are made first
abbrev pub prove : List Row → Row → Attempt (Unit {0})
prove rows r = record {
  events = map makes (negations_steps r) ++ claims (proved rows r) ∷ [];
  value = Some tt;
}

-- the rows prove a comparison
abbrev pub prove_that : List Row → Linear → Op → Linear → Sort → Attempt (Unit {0})
prove_that rows l op r o = do
  q ← comparison_row l op r o
  prove rows q
