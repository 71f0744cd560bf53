use Rattle.std.proofs.Common.{◌<◌, ◌≤◌, List, length, map, slice_index_or, Option, ap, sym, ◌∙◌, arith}
use Rattle.std.specs.List.{flat_map}
use Rattle.std.proofs.lemmas.Result.{err_from_is_err_and}
use Rattle.cap_lin.specs.Steps.{Step, first_wide}
use Rattle.cap_lin.proofs.Results.{explains_same}
use Rattle.cap_prog.specs.declared.region.Case.{Case}
use Rattle.cap_prog.specs.Views.{case_view, region_view}
use Rattle.cap_goal_spec.specs.States.{PlainGoal}
use Rattle.cap_goal_spec.specs.Roots.{case_steps, case_root}
use Rattle.cap_goal_roots.specs.Units.{CaseIsNarrow}
use Rattle.cap_goal_roots.specs.Views.{root_view}
use Rattle.cap_goal_roots.proofs.Walks.{walk_stops, walk_goes_on, walk_ends, mapped_done, viewed_more, map_map, flat_map_map, each_at}
use Rattle.cap_goal_roots.proofs.region.region_roots.Goals as goal

abbrev steps_of : Case → List Step
steps_of x = case_steps (case_view x)

pub case_root-requires-clause-narrow : goal.case_root-requires-clause-narrow
case_root-requires-clause-narrow c =
    let cs = c.args.region.now.cases.items in
    let i = c.loop-case.case-index in
    let h : i < length cs = omega (arith, ap length c.deref-case-items.ensures.value) in
    let at = c.case-item.is ∙ ap (λ xs. slice_index_or xs i c.case-item.result) c.deref-case-items.ensures.value in
    each_at (CaseIsNarrow (region_view c.args.region.now)) case_view cs i c.case-item.result h at c.requires.narrow

pub returns-in_err-case_root : goal.returns-in_err-case_root
returns-in_err-case_root c =
    let cs = c.args.region.now.cases.items in
    let i = c.loop-case.case-index in
    let h : i < length cs = omega (arith, ap length c.deref-case-items.ensures.value) in
    let at = c.case-item.is ∙ ap (λ xs. slice_index_or xs i c.case-item.result) c.deref-case-items.ensures.value in
    let p = err_from_is_err_and c.from_residual.result c.from_residual.ensures.1 in
    rw (p.1, p.2) (explains_same _ (flat_map case_steps (map case_view cs)) (flat_map steps_of cs) (ap first_wide (flat_map_map case_steps case_view cs)) (walk_stops steps_of cs i c.case-item.result _ h at c.in_err-case_root.ensures c.loop-case.invariant.steps))

pub loop-case-preserved : goal.loop-case-preserved
loop-case-preserved c =
    let cs = c.args.region.now.cases.items in
    let i = c.loop-case.case-index in
    let h : i < length cs = omega (arith, ap length c.deref-case-items.ensures.value) in
    let at = c.case-item.is ∙ ap (λ xs. slice_index_or xs i c.case-item.result) c.deref-case-items.ensures.value in
    let f : Case → Option PlainGoal = λ x. case_root (region_view c.args.region.now) c.args.number (case_view x) in
    record {
      roots = viewed_more root_view f c.loop-case.roots.items c.push.new.self.items c.in_ok-case_root.field-0 _ cs i c.case-item.result c.in_ok-push.ensures.items c.in_ok-case_root.ensures.1 h at c.loop-case.invariant.roots;
      steps = walk_goes_on steps_of cs i c.case-item.result h at c.in_ok-case_root.ensures.0 c.loop-case.invariant.steps;
    }

pub returns : goal.returns
returns c =
    let cs = c.args.region.now.cases.items in
    let i = c.loop-case.case-index in
    let h : length cs ≤ i = omega (arith, ap length c.deref-case-items.ensures.value) in
    let k = region_view c.args.region.now in
    let f : Case → Option PlainGoal = λ x. case_root k c.args.number (case_view x) in
    (ap first_wide (flat_map_map case_steps case_view cs) ∙ walk_ends steps_of cs i h c.loop-case.invariant.steps, mapped_done f _ _ cs i h c.loop-case.invariant.roots ∙ sym (map_map (case_root k c.args.number) case_view cs))
