-- The roots of a unit fit.
use Rattle.std.proofs.Common.{◌≡◌, ℕ, List, [], ◌∷◌, map, refl, Option, Some, None}
use Rattle.std.specs.Prelude.{slice_get}
use Rattle.std.specs.List.{AllByRecursion}
use Rattle.cap_prog.specs.Program.{PlainCase, PlainRegionType, PlainFunction, PlainProgram}
use Rattle.cap_prog.specs.WellFormed.{CaseFits, RegionFits, FunctionFits, IsWellFormed}
use Rattle.cap_goal_spec.specs.Roots.{PlainUnit, region_unit, function_unit, case_root, region_roots, optional_roots, roots}
use Rattle.cap_rules_fits.specs.Roots.{RootFits}
use Rattle.cap_rules_fits.proofs.Cases.{each-get, case-fits}
use Rattle.cap_rules_fits.proofs.Functions.{function-fits}

cases-fit : (p : PlainProgram) (k : PlainRegionType) (n : ℕ) (cs : List PlainCase) → slice_get p.regions n ≡ Some k → RegionFits p k → AllByRecursion (CaseFits p k) cs → AllByRecursion (RootFits p) (map (case_root k n) cs)
cases-fit p k n [] e r h = tt
cases-fit p k n (c ∷ cs) e r h = (case-fits p k n c e r h.0, cases-fit p k n cs e r h.1)

region-fits : (p : PlainProgram) → IsWellFormed p → (n : ℕ) (o : Option PlainRegionType) → slice_get p.regions n ≡ o → AllByRecursion (RootFits p) (region_roots o n)
region-fits p f n None e = tt
region-fits p f n (Some k) e = let r : RegionFits p k = each-get (RegionFits p) p.regions n k f.regions e in cases-fit p k n k.cases e r r.cases

functions-fit : (p : PlainProgram) → IsWellFormed p → (n : ℕ) (o : Option PlainFunction) → slice_get p.functions n ≡ o → AllByRecursion (RootFits p) (optional_roots o n)
functions-fit p f n None e = tt
functions-fit p f n (Some g) e = function-fits p g n e (each-get (FunctionFits p) p.functions n g f.functions e)

pub unit-fits : (p : PlainProgram) → IsWellFormed p → (u : PlainUnit) → AllByRecursion (RootFits p) (roots p u)
unit-fits p f (region_unit n) = region-fits p f n (slice_get p.regions n) refl
unit-fits p f (function_unit n) = functions-fit p f n (slice_get p.functions n) refl
