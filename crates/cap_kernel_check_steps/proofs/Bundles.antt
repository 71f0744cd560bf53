-- What the trees of all roots are, by what was found at the roots.
use Rattle.std.proofs.Common.{◌≡◌, ◌≢◌, ℕ, List, length, Option, refl, sym, ap, subst, ◌∙◌}
use Rattle.std.specs.Prelude.{Result, Ok, Err, IfOk, IfErr}
use Rattle.std.specs.List.{AllZip}
use Rattle.std.proofs.lemmas.Slice.Zip.{AllZip-long}
use Rattle.cap_prog.specs.Program.{PlainProgram}
use Rattle.cap_goal_spec.specs.Choices.{PlainChoice, PlainTree}
use Rattle.cap_goal_spec.specs.Roots.{units, all_roots}
use Rattle.cap_rules.specs.Valid.{Valid}
use Rattle.cap_goal.specs.declared.choice.Bundle.{Bundle}
use Rattle.cap_goal.specs.Trees.{bundle_view}
use Rattle.cap_kernel_check_steps.specs.declared.error.CheckError.TheVariants.{OutOfMemory}
use Rattle.cap_kernel_check_steps.specs.declared.error.CheckError.{CheckError}
use Rattle.cap_kernel_check_steps.specs.Starts.{PlainStart, starts, StartDerives}
use Rattle.cap_kernel_check_steps.specs.Owed.{debts_of, preorder}
use Rattle.cap_kernel_check_steps.specs.Judges.{Judged}
use Rattle.cap_kernel_check_steps.specs.Growths.{Halts}
use Rattle.cap_kernel_check_steps.specs.GrowthViews.{Shapes}
use Rattle.cap_kernel_check_steps.proofs.Roots.{derives-valid, length-starts}
use Rattle.cap_kernel_check_steps.proofs.Growing.{halts-judged}

pub shapes-valid : (p : PlainProgram) (ss : List PlainStart) (cs : List PlainChoice) (r : Result Bundle CheckError) → ss ≡ starts p → Shapes p ss cs r → IfOk r (λ b. Valid p (bundle_view b))
shapes-valid p ss cs (Ok b) e s = derives-valid p (bundle_view b) (subst (AllZip (StartDerives p) (bundle_view b)) e s.0)
shapes-valid p ss cs (Err x) e s = tt

pub shapes-many : (p : PlainProgram) (ss : List PlainStart) (cs : List PlainChoice) (r : Result Bundle CheckError) (trees : ℕ) → length ss ≡ trees → Shapes p ss cs r → IfOk r (λ b. length (bundle_view b) ≡ trees)
shapes-many p ss cs (Ok b) trees e s = sym (AllZip-long (StartDerives p) (bundle_view b) ss s.0) ∙ e
shapes-many p ss cs (Err x) trees e s = tt

pub shapes-refused : (p : PlainProgram) (ss : List PlainStart) (cs : List PlainChoice) (r : Result Bundle CheckError) (trees : ℕ) → ss ≡ starts p → length ss ≡ trees → Shapes p ss cs r → IfErr r (λ e. e ≢ OutOfMemory → Judged p trees cs (Err e))
shapes-refused p ss cs (Ok b) trees e n s = tt
shapes-refused p ss cs (Err x) trees e n s =
    let many : trees ≡ length (all_roots p) = sym n ∙ (ap length e ∙ length-starts p (units p)) in
    halts-judged p trees cs x many (subst (λ ys. Halts p (debts_of ys) (record { passed = 0; rest = cs }) x) e s)
