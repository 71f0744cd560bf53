use Rattle.std.proofs.Common.{ap, sym, subst, ◌∙◌, List, Option}
use Rattle.std.specs.List.{AllByRecursion}
use Rattle.cap_lin.specs.Steps.{first_wide}
use Rattle.cap_lin.proofs.Results.{first_wide-nil}
use Rattle.cap_prog.specs.Program.{PlainRegionType, PlainFunction}
use Rattle.cap_prog.specs.Views.{function_view, program_view}
use Rattle.cap_goal_spec.specs.States.{PlainGoal}
use Rattle.cap_goal_spec.specs.Roots.{region_unit, region_roots, optional_roots, roots, roots_steps}
use Rattle.cap_goal.specs.Views.{unit_view}
use Rattle.cap_rules_fits.specs.Roots.{RootFits}
use Rattle.cap_rules_fits.proofs.Roots.{unit-fits}
use Rattle.cap_goal_roots.specs.Views.{roots_view}
use Rattle.cap_goal_roots.proofs.Narrow.{narrow_loops, seen_of_value}
use Rattle.cap_goal_roots.proofs.unit.roots.Goals as goal

pub function_roots-requires-clause-loops : goal.function_roots-requires-clause-loops
function_roots-requires-clause-loops c =
    narrow_loops (program_view c.args.program.now) (function_view c.function_of.result.now) c.function_of.ensures.fits

pub returns-in-Region-clause-fit : goal.returns-in-Region-clause-fit
returns-in-Region-clause-fit c =
    let p = program_view c.args.program.now in
    let n = c.in-Region.number in
    let each : List (Option PlainGoal) → Type 0 = AllByRecursion (RootFits p) in
    seen_of_value c.region_roots.result (λ v. roots_view v.items) _ _ each c.region_roots.ensures (subst (λ (o : Option PlainRegionType). each (region_roots o n)) c.region_of.ensures.found (unit-fits p c.region_of.ensures.well_formed (region_unit n)))

pub returns-in_ok-function_roots-in-Function-clause-exact : goal.returns-in_ok-function_roots-in-Function-clause-exact
returns-in_ok-function_roots-in-Function-clause-exact c =
    let p = program_view c.args.program.now in
    let n = c.in-Function.number in
    (ap (λ u. first_wide (roots_steps p (unit_view u))) c.in-Function.is ∙ first_wide-nil, c.in_ok-function_roots-in-Function.ensures ∙ (sym (ap (λ (o : Option PlainFunction). optional_roots o n) c.function_of.ensures.found) ∙ sym (ap (λ u. roots p (unit_view u)) c.in-Function.is)))

pub returns-in_ok-function_roots-in-Function-clause-fit : goal.returns-in_ok-function_roots-in-Function-clause-fit
returns-in_ok-function_roots-in-Function-clause-fit c =
    let p = program_view c.args.program.now in
    let n = c.in-Function.number in
    let each : List (Option PlainGoal) → Type 0 = AllByRecursion (RootFits p) in
    let whole = c.in_ok-function_roots-in-Function.ensures ∙ (sym (ap (λ (o : Option PlainFunction). optional_roots o n) c.function_of.ensures.found) ∙ sym (ap (λ u. roots p (unit_view u)) c.in-Function.is)) in
    subst each (sym whole) (unit-fits p c.function_of.ensures.well_formed (unit_view c.args.unit))
