-- Where a choice leaves nothing, it never applies.
use Rattle.std.proofs.Common.{◌≡◌, ◌≢◌, List, Option, None, option_map, IfOk, refl, sym, subst}
use Rattle.std.specs.Prelude.{Result, Ok, Err}
use Rattle.cap_prog.specs.Program.{PlainProgram}
use Rattle.cap_goal_spec.specs.States.{PlainGoal}
use Rattle.cap_goal_spec.specs.Choices.{PlainChoice, certs_of}
use Rattle.cap_rules.specs.Answers.{applies, inapplicable, too_wide, marks_of}
use Rattle.cap_rules.specs.Rules.{rule}
use Rattle.cap_rules.proofs.Answering.{answers-one}
use Rattle.cap_rules_steps.specs.Judging.{Answered}
use Rattle.cap_rules_steps.specs.declared.error.RuleError.{RuleError}
use Rattle.cap_rules_steps.specs.declared.error.RuleError.TheVariants.{NotApplicable, Wide, OutOfMemory}
use Rattle.cap_kernel_check_steps.specs.Faults.{NeverApplies}
use Rattle.cap_kernel_check_steps.specs.Walks.{Leaves}

never : (p : PlainProgram) (g : PlainGoal) (c : PlainChoice) (e : RuleError) → Answered {A = List PlainGoal} (Err e) (rule p g c (marks_of c)) (certs_of c) → e ≢ OutOfMemory → NeverApplies p g c
never p g c NotApplicable h n = λ gs s.
    let k : inapplicable ≡ applies gs = answers-one (rule p g c (marks_of c)) (certs_of c) inapplicable (applies gs) h s in
    cc
never p g c (Wide a b) h n = λ gs s.
    let k : too_wide a b ≡ applies gs = answers-one (rule p g c (marks_of c)) (certs_of c) (too_wide a b) (applies gs) h s in
    cc
never p g c OutOfMemory h n = absurd (n refl)

pub refused-leaves : {T E : Type 0} (p : PlainProgram) (g : PlainGoal) (c : PlainChoice) (e : RuleError) (view : T → List PlainGoal) (r : Result (Option T) E) → Answered {A = List PlainGoal} (Err e) (rule p g c (marks_of c)) (certs_of c) → IfOk r (λ o. (o ≡ None) × (e ≢ OutOfMemory)) → IfOk r (λ o. Leaves p g c (option_map view o))
refused-leaves p g c e view (Ok o) h k = subst (λ x. Leaves p g c (option_map view x)) (sym k.0) (never p g c e h k.1)
refused-leaves p g c e view (Err x) h k = k
