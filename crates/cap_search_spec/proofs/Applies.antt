-- Where the terms of a goal ascend, offered choices apply, at it and at all goals that follow.
use Rattle.std.proofs.Common.{ℕ, zero, suc, List, [], ◌∷◌, Option, Some, None}
use Rattle.std.specs.List.{AllByRecursion}
use Rattle.cap_prog.specs.Program.{PlainProgram}
use Rattle.cap_goal_spec.specs.States.{PlainGoal}
use Rattle.cap_goal_spec.specs.Choices.{PlainChoice}
use Rattle.cap_rules.specs.Answers.{marks_of, Subgoals}
use Rattle.cap_rules.specs.Valid.{deepest}
use Rattle.cap_rules_ascending.specs.Ascending.{GoalAscends}
use Rattle.cap_rules_ascending.specs.Laws.{RootAscends}
use Rattle.cap_rules_ascending.proofs.Rules.{owed-ascend, subgoals-ascend}
use Rattle.cap_offer_spec.proofs.Applying.{offered-apply}
use Rattle.cap_search_spec.specs.Guided.{IsOffered}

-- for so many levels
abbrev pub OffersApply : PlainProgram → ℕ → PlainGoal → Type 0
OffersApply p zero g = Unit {0}
OffersApply p (suc room) g =
    (c : PlainChoice) → IsOffered p g c →
    (gs : List PlainGoal) × Subgoals p g c gs × AllByRecursion (OffersApply p room) gs

abbrev pub RootApplies : PlainProgram → Option PlainGoal → Type 0
RootApplies p None = Unit {0}
RootApplies p (Some g) = OffersApply p deepest g

all-weaker : {A : Type 0} (P Q : A → Type 0) → ((x : A) → P x → Q x) → (xs : List A) → AllByRecursion P xs → AllByRecursion Q xs
all-weaker P Q f [] h = tt
all-weaker P Q f (x ∷ xs) h = (f x h.0, all-weaker P Q f xs h.1)

offers-apply : (p : PlainProgram) (room : ℕ) (g : PlainGoal) → GoalAscends g → OffersApply p room g
offers-apply p zero g h = tt
offers-apply p (suc room) g h = λ c i. (let o = offered-apply p g c i (owed-ascend p g c (marks_of c) h) in (o.0, o.1, all-weaker GoalAscends (OffersApply p room) (λ x k. offers-apply p room x k) o.0 (subgoals-ascend p g c o.0 h o.1)))

pub root-applies : (p : PlainProgram) (r : Option PlainGoal) → RootAscends r → RootApplies p r
root-applies p None h = tt
root-applies p (Some g) h = offers-apply p deepest g h

pub roots-apply : (p : PlainProgram) (rs : List (Option PlainGoal)) → AllByRecursion RootAscends rs → AllByRecursion (RootApplies p) rs
roots-apply p rs h = all-weaker RootAscends (RootApplies p) (λ r k. root-applies p r k) rs h
