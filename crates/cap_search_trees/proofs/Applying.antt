-- An offered choice applies, so that the kernel fails for want of memory alone.
use Rattle.std.proofs.Common.{◌≡◌, ℤ, List, refl}
use Rattle.std.specs.Prelude.{Result, Ok, Err, IfErr}
use Rattle.cap_prog.specs.Program.{PlainProgram}
use Rattle.cap_goal_spec.specs.States.{PlainGoal}
use Rattle.cap_goal_spec.specs.Choices.{PlainChoice, certs_of}
use Rattle.cap_rules.specs.Answers.{Answer, applies, inapplicable, too_wide, Answers, marks_of}
use Rattle.cap_rules.specs.Rules.{rule}
use Rattle.cap_rules.proofs.Answering.{answers-one}
use Rattle.cap_rules_ascending.specs.Ascending.{GoalAscends}
use Rattle.cap_rules_ascending.specs.Laws.{OwedAscend}
use Rattle.cap_offer_spec.specs.Laws.{OfferedApply}
use Rattle.cap_offer_spec.specs.Members.{IsOneOf}
use Rattle.cap_offer_spec.specs.Offering.{offered}
use Rattle.cap_rules_steps.specs.declared.error.RuleError.{RuleError}
use Rattle.cap_rules_steps.specs.declared.error.RuleError.TheVariants.{NotApplicable, Wide, OutOfMemory}
use Rattle.cap_rules_steps.specs.Judging.{Answered}
use Rattle.cap_rules_steps.specs.Walks.{seen}

not-applies : {A : Type 0} (x : A) → inapplicable ≡ applies x → ⊥
not-applies x e = cc

wide-applies : {A : Type 0} (x : A) (a b : ℤ) → too_wide a b ≡ applies x → ⊥
wide-applies x a b e = cc

applied : OfferedApply → OwedAscend → (p : PlainProgram) (g : PlainGoal) (c : PlainChoice) (a : Answer (List PlainGoal)) → Answers (rule p g c (marks_of c)) (certs_of c) a → GoalAscends g → IsOneOf (offered p g).value c → (gs : List PlainGoal) × (a ≡ applies gs)
applied h k p g c a s i o =
    let w = h p g c o (k p g c (marks_of c) i) in
    (w.0, answers-one (rule p g c (marks_of c)) (certs_of c) a (applies w.0) s w.1)

pub only-memory : OfferedApply → OwedAscend → {T : Type 0} (view : T → List PlainGoal) (p : PlainProgram) (g : PlainGoal) (c : PlainChoice) (r : Result T RuleError) → Answered (seen view r) (rule p g c (marks_of c)) (certs_of c) → GoalAscends g → IsOneOf (offered p g).value c → IfErr r (λ e. e ≡ OutOfMemory)
only-memory h k view p g c (Ok x) s i o = tt
only-memory h k view p g c (Err OutOfMemory) s i o = refl
only-memory h k view p g c (Err NotApplicable) s i o =
    let w = applied h k p g c inapplicable s i o in
    absurd (not-applies w.0 w.1)
only-memory h k view p g c (Err (Wide a b)) s i o =
    let w = applied h k p g c (too_wide a b) s i o in
    absurd (wide-applies w.0 a b w.1)
