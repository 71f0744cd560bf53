use Rattle.std.proofs.Common.{◌≡◌, ◌++◌, map, drop}
use Rattle.std.specs.List.{flat_map}
use Rattle.cap_lin.specs.Steps.{first_wide}
use Rattle.cap_prog.specs.Views.{case_view, region_view}
use Rattle.cap_goal_spec.specs.Roots.{case_steps, case_root}
use Rattle.cap_goal_roots.specs.Views.{roots_view}
use Rattle.cap_goal_roots.proofs.region.region_roots.Given as goal

abbrev pub invariant-loop-case : goal.invariant-loop-case
invariant-loop-case l = record {
  roots : roots_view l.roots.items ++ map (λ c. case_root (region_view l.region) l.number (case_view c)) (drop l.case-index l.region.cases.items) ≡ map (λ c. case_root (region_view l.region) l.number (case_view c)) l.region.cases.items;
  steps : first_wide (flat_map (λ c. case_steps (case_view c)) (drop l.case-index l.region.cases.items)) ≡ first_wide (flat_map (λ c. case_steps (case_view c)) l.region.cases.items);
}
