-- What an offered choice leaves of a searchable goal is searchable.
use Rattle.std.proofs.Common.{◌≡◌, ◌<◌, ℕ, zero, suc, inl, inr, List, [], ◌∷◌, length, get_or, map, refl, sym, subst, arith}
use Rattle.std.specs.Prelude.{Result, Ok, Err, IfOk}
use Rattle.std.specs.List.{AllByRecursion}
use Rattle.cap_fm_spec.proofs.Lists.{each-map, each-two}
use Rattle.cap_prog.specs.Program.{PlainProgram}
use Rattle.cap_prog.specs.WellFormed.{IsWellFormed}
use Rattle.cap_goal_spec.specs.States.{PlainGoal}
use Rattle.cap_goal_spec.specs.Choices.{PlainChoice, certs_of}
use Rattle.cap_rules.specs.Answers.{marks_of}
use Rattle.cap_rules.specs.Rules.{rule}
use Rattle.cap_rules_ascending.specs.Ascending.{GoalAscends}
use Rattle.cap_rules_ascending.specs.Laws.{SubgoalsAscend}
use Rattle.cap_rules_fits.specs.Kept.{IsKept, SubgoalsAreKept}
use Rattle.cap_offer_spec.specs.Members.{IsOneOf}
use Rattle.cap_offer_spec.specs.Offering.{offered}
use Rattle.cap_rules_steps.specs.declared.error.RuleError.{RuleError}
use Rattle.cap_rules_steps.specs.Judging.{Answered}
use Rattle.cap_rules_steps.specs.Walks.{seen}
use Rattle.cap_search_trees.specs.Searchable.{IsSearchable, AreSearchable, AreOffered}

-- ---- what a choice leaves

pub left-searchable : SubgoalsAreKept → SubgoalsAscend → {T : Type 0} (view : T → List PlainGoal) (p : PlainProgram) (g : PlainGoal) (c : PlainChoice) (r : Result T RuleError) → IsWellFormed p → IsSearchable p g → Answered (seen view r) (rule p g c (marks_of c)) (certs_of c) → IfOk r (λ v. AreSearchable p (view v))
left-searchable kept ascend view p g c (Ok x) w s a =
    each-two (IsKept p) GoalAscends (IsSearchable p) (view x) (kept p g c (view x) w s.kept a) (ascend p g c (view x) s.ascends a)
    (λ h k i. record { kept = k; ascends = i })
left-searchable kept ascend view p g c (Err e) w s a = tt

pub each-at : {X Y : Type 0} (P : Y → Type 0) (f : X → Y) (xs : List X) (i : ℕ) (x : X) → AllByRecursion P (map f xs) → i < length xs → x ≡ get_or xs i x → P (f x)
each-at P f [] i x all low e = absurd (omega (arith, low))
each-at P f (y ∷ ys) zero x all low e = subst (λ z. P (f z)) (sym e) all.0
each-at P f (y ∷ ys) (suc i) x all low e = each-at P f ys i x all.1 (omega (arith, low)) e

-- ---- choices

each-member : {A : Type 0} (xs : List A) → AllByRecursion (IsOneOf xs) xs
each-member [] = tt
each-member (x ∷ xs) = (inl refl, each-map (IsOneOf xs) (IsOneOf (x ∷ xs)) xs (each-member xs) (λ y i. inr i))

pub all-offered : (p : PlainProgram) (g : PlainGoal) (cs : List PlainChoice) → cs ≡ (offered p g).value → AreOffered p g cs
all-offered p g cs e = subst (AreOffered p g) (sym e) (each-member (offered p g).value)
