-- What a choice that applies leaves.
use Rattle.std.proofs.Common.{◌≡◌, List, [], ◌∷◌, Option, Some, None, refl, ap}
use Rattle.std.specs.Prelude.{Result, Ok, Err, IfOk}
use Rattle.cap_prog.specs.Program.{PlainProgram}
use Rattle.cap_goal_spec.specs.States.{PlainGoal}
use Rattle.cap_goal_spec.specs.Choices.{PlainChoice, certs_of, PlainTree, tree}
use Rattle.cap_rules.specs.Answers.{applies, inapplicable, too_wide, answer_or, answer_at, Ending, passed, refused, stopped, Answers, marks_of}
use Rattle.cap_rules.specs.Rules.{rule}
use Rattle.cap_rules_steps.specs.declared.error.RuleError.{RuleError}
use Rattle.cap_rules_steps.specs.Judging.{Answered}
use Rattle.cap_rules_steps.specs.Walks.{seen}
use Rattle.cap_goal.specs.Trees.{trees_of}
use Rattle.cap_search_spec.specs.Seeking.{left_by}
use Rattle.cap_search_spec.specs.Seeking.{trees_of as trees_found}

some-applies : {A : Type 0} (o : Option A) (x : A) → applies x ≡ answer_or o → o ≡ Some x
some-applies None x e = absurd (let k : applies x ≡ inapplicable = e in cc)
some-applies (Some y) x e = let k : applies x ≡ applies y = e in cc

applies-some : {A : Type 0} (o : Option A) (x : A) (end : Ending) → applies x ≡ answer_at o end → o ≡ Some x
applies-some o x (passed []) e = some-applies o x e
applies-some o x (passed (c ∷ cs)) e = absurd (let k : applies x ≡ inapplicable = e in cc)
applies-some o x refused e = absurd (let k : applies x ≡ inapplicable = e in cc)
applies-some o x (stopped a b) e = absurd (let k : applies x ≡ too_wide a b = e in cc)

pub answers-left : (p : PlainProgram) (g : PlainGoal) (c : PlainChoice) (gs : List PlainGoal) → Answers (rule p g c (marks_of c)) (certs_of c) (applies gs) → left_by p g c ≡ Some gs
unfolding left_by
answers-left p g c gs h = applies-some (rule p g c (marks_of c)).value gs h.0 h.2

pub if-left : {T : Type 0} (view : T → List PlainGoal) (p : PlainProgram) (g : PlainGoal) (c : PlainChoice) (r : Result T RuleError) → Answered (seen view r) (rule p g c (marks_of c)) (certs_of c) → IfOk r (λ v. left_by p g c ≡ Some (view v))
if-left view p g c (Ok x) h = answers-left p g c (view x) h
if-left view p g c (Err e) h = tt

-- trees, one after the other
pub trees-same : (ts : List PlainTree) → trees_of ts ≡ trees_found ts
trees-same [] = refl
trees-same (t ∷ ts) = ap (λ us. tree t us) (trees-same ts)
