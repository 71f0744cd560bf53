-- Errors of terms as errors of steps, and what an error says of the results on the way.
use Rattle.std.specs.Prelude.{◌≡◌, true, false, List, Result, MatchResult}
use Rattle.cap_lin.specs.Steps.{Step}
use Rattle.cap_lin.specs.declared.error.LinError.{LinError}
use Rattle.cap_lin.specs.declared.error.LinError.TheVariants as lin
use Rattle.cap_machine.specs.declared.event.StepError.{StepError}
use Rattle.cap_machine.specs.declared.event.StepError.TheVariants.{NotEnabled, Wide, OutOfMemory}
use Rattle.cap_machine.specs.Results.{are_narrow}

abbrev pub step_error : LinError → StepError
step_error (lin.Wide a b) = Wide
step_error lin.OutOfMemory = OutOfMemory

-- why there is no value
abbrev pub Explains : StepError → List Step → Type 0
Explains NotEnabled steps = ⊥
Explains Wide steps = are_narrow steps ≡ false
Explains OutOfMemory steps = Unit {0}

-- what is seen of the answer is the value, where each result on the way is within 128 bits
abbrev pub Evaluates : {T V : Type 0} → Result T StepError → (T → V) → List Step → V → Type 0
Evaluates r view steps v = MatchResult r (λ x. (are_narrow steps ≡ true) × (view x ≡ v)) (λ e. Explains e steps)
