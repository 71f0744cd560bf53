-- Roots are searchable: those of a unit are among those of all.
use Rattle.std.proofs.Common.{◌≡◌, ◌<◌, ℕ, zero, suc, ◌+◌, List, ◌++◌, length, map, flat_map, Option, Some, None, sym, subst, arith}
use Rattle.std.specs.Prelude.{Result, Ok, Err, IfOk}
use Rattle.std.specs.List.{AllByRecursion, range_with_len}
use Rattle.std.proofs.lemmas.Grind.{flat_map-append}
use Rattle.cap_fm_spec.proofs.Lists.{each-left, each-right, each-two}
use Rattle.cap_lin.specs.Exact.{IsExactBy}
use Rattle.cap_lin.specs.declared.error.LinError.{LinError}
use Rattle.cap_prog.specs.Program.{PlainProgram}
use Rattle.cap_prog.specs.WellFormed.{IsWellFormed}
use Rattle.cap_goal_spec.specs.States.{PlainGoal}
use Rattle.cap_goal_spec.specs.Roots.{PlainUnit, region_unit, function_unit, roots, roots_steps}
use Rattle.cap_rules_ascending.specs.Ascending.{ProgramAscends}
use Rattle.cap_rules_ascending.specs.Laws.{RootAscends, RootsAscend}
use Rattle.cap_rules_fits.specs.Kept.{RootIsKept, RootsAreKept}
use Rattle.cap_goal_roots.specs.Units.{HasUnit}
use Rattle.cap_search_trees.specs.Searchable.{RootIsSearchable, RootsAreSearchable}

numbered-each : {X U : Type 0} (P : X → Type 0) (f : U → List X) (unit : ℕ → U) (low count k n : ℕ) → AllByRecursion P (flat_map f (map unit (range_with_len low count))) → k < count → n ≡ low + k → AllByRecursion P (f (unit n))
numbered-each P f unit low zero k n h few e = absurd (omega (arith, few))
numbered-each P f unit low (suc count) zero n h few e =
    let q : low ≡ n = omega (arith, e) in
    subst (λ m. AllByRecursion P (f (unit m))) q (each-left P (f (unit low)) (flat_map f (map unit (range_with_len (low + 1) count))) h)
numbered-each P f unit low (suc count) (suc k) n h few e =
    numbered-each P f unit (low + 1) count k n (each-right P (f (unit low)) (flat_map f (map unit (range_with_len (low + 1) count))) h) (omega (arith, few)) (omega (arith, e))

pub unit-each : {X : Type 0} (P : X → Type 0) (f : PlainUnit → List X) (p : PlainProgram) (u : PlainUnit) → HasUnit p u → AllByRecursion P (flat_map f (map region_unit (range_with_len 0 (length p.regions)) ++ map function_unit (range_with_len 0 (length p.functions)))) → AllByRecursion P (f u)
unit-each P f p u has h = by u has
  where
    regions : List PlainUnit
    regions = map region_unit (range_with_len 0 (length p.regions))

    functions : List PlainUnit
    functions = map function_unit (range_with_len 0 (length p.functions))

    parts : AllByRecursion P (flat_map f regions ++ flat_map f functions)
    parts = subst (AllByRecursion P) (flat_map-append f regions functions) h

    by : (v : PlainUnit) → HasUnit p v → AllByRecursion P (f v)
    by (region_unit n) l =
        numbered-each P f region_unit 0 (length p.regions) n n (each-left P (flat_map f regions) (flat_map f functions) parts) l (omega arith)
    by (function_unit n) l =
        numbered-each P f function_unit 0 (length p.functions) n n (each-right P (flat_map f regions) (flat_map f functions) parts) l (omega arith)

root-searchable : (p : PlainProgram) (r : Option PlainGoal) → RootIsKept p r → RootAscends r → RootIsSearchable p r
root-searchable p None h k = tt
root-searchable p (Some g) h k = record { kept = h; ascends = k }

pub roots-searchable : RootsAreKept → RootsAscend → {T : Type 0} (view : T → List (Option PlainGoal)) (p : PlainProgram) (u : PlainUnit) (r : Result T LinError) → IsWellFormed p → ProgramAscends p → HasUnit p u → IsExactBy r view (roots_steps p u) (roots p u) → IfOk r (λ v. RootsAreSearchable p (view v))
roots-searchable kept ascend view p u (Ok x) w s has e =
    subst (RootsAreSearchable p) (sym e.1)
    (each-two (RootIsKept p) RootAscends (RootIsSearchable p) (roots p u) (kept p w u)
    (unit-each RootAscends (roots p) p u has (ascend p s)) (root-searchable p))
roots-searchable kept ascend view p u (Err x) w s has e = tt
