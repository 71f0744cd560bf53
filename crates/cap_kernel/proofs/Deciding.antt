-- An answer decides whether a choice proves what its rule owes.
use Rattle.std.proofs.Common.{◌≡◌, ◌≤◌, ℤ, List, length, Result, Ok, Err}
use Rattle.cap_prog.specs.Program.{PlainProgram}
use Rattle.cap_goal_spec.specs.States.{longest_list, PlainGoal}
use Rattle.cap_goal_spec.specs.Choices.{PlainChoice, certs_of}
use Rattle.cap_rules.specs.Answers.{applies, inapplicable, too_wide, marks_of}
use Rattle.cap_rules.specs.Rules.{rule}
use Rattle.cap_rules.proofs.Answering.{answers-one}
use Rattle.cap_rules_marks.specs.Proven.{SubgoalsAreProven, ProvenHaveSubgoals}
use Rattle.cap_rules_steps.specs.declared.error.RuleError.{RuleError}
use Rattle.cap_rules_steps.specs.declared.error.RuleError.TheVariants.{NotApplicable, Wide, OutOfMemory}
use Rattle.cap_rules_steps.specs.Judging.{Answered}
use Rattle.cap_rules_steps.specs.Walks.{seen}
use Rattle.cap_kernel.specs.Proven.{DecidesProven}

not-applies : {A : Type 0} (x : A) → inapplicable ≡ applies x → ⊥
not-applies x e = cc

wide-applies : {A : Type 0} (x : A) (a b : ℤ) → too_wide a b ≡ applies x → ⊥
wide-applies x a b e = cc

pub decides : SubgoalsAreProven → ProvenHaveSubgoals → {T : Type 0} (view : T → List PlainGoal) (r : Result T RuleError) (p : PlainProgram) (g : PlainGoal) (c : PlainChoice) → length g.state.sorts ≤ longest_list → Answered (seen view r) (rule p g c (marks_of c)) (certs_of c) → DecidesProven r p g c
decides h k view (Ok x) p g c l a = h p g c (view x) l a
decides h k view (Err NotApplicable) p g c l a = λ m.
    let w = k p g c m in
    not-applies w.0 (answers-one (rule p g c (marks_of c)) (certs_of c) inapplicable (applies w.0) a w.1)
decides h k view (Err (Wide a b)) p g c l s = λ m.
    let w = k p g c m in
    wide-applies w.0 a b (answers-one (rule p g c (marks_of c)) (certs_of c) (too_wide a b) (applies w.0) s w.1)
decides h k view (Err OutOfMemory) p g c l a = tt
