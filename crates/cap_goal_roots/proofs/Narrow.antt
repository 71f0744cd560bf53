-- The units of a well-formed program are narrow, and their roots fit.
use Rattle.std.proofs.Common.{sym, subst, List, Result, Ok, Err}
use Rattle.std.specs.Prelude.{IfOk}
use Rattle.std.specs.List.{AllByRecursion}
use Rattle.cap_lin.specs.Steps.{Step}
use Rattle.cap_lin.specs.Exact.{IsExactBy}
use Rattle.cap_lin.specs.declared.error.LinError.{LinError}
use Rattle.cap_fm_spec.proofs.Lists.{each-map}
use Rattle.cap_prog.specs.Program.{done, PlainFunction, PlainProgram}
use Rattle.cap_prog.specs.WellFormed.{FunctionFits}
use Rattle.cap_goal_spec.specs.Roots.{loops_in}
use Rattle.cap_rules_fits.proofs.Functions.{function_loops}
use Rattle.cap_goal_roots.specs.Units.{LoopIsNarrow}

pub narrow_loops : (p : PlainProgram) (f : PlainFunction) → FunctionFits p f → AllByRecursion (LoopIsNarrow f) (loops_in f.body done)
narrow_loops p f h = each-map _ _ (loops_in f.body done) (function_loops p f h) (λ w l. l.invariant.variables)

-- what holds of the value is seen of the result
pub seen_of_value : {T V : Type 0} (r : Result T LinError) (view : T → V) (steps : List Step) (value : V) (P : V → Type 0) → IsExactBy r view steps value → P value → IfOk r (λ x. P (view x))
seen_of_value (Ok x) view steps value P h p = subst P (sym h.1) p
seen_of_value (Err e) view steps value P h p = tt
