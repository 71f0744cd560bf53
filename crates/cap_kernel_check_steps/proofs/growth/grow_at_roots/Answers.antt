use Rattle.std.proofs.Common.{◌≡◌, suc, map, take, drop, subst}
use Rattle.std.specs.Prelude.{Err}
use Rattle.std.proofs.lemmas.Result.{err_from_is_err_and}
use Rattle.cap_prog.specs.Views.{program_view}
use Rattle.cap_kernel_check_steps.specs.GrowthViews.{GrowsAtRoot, preorder_view}
use Rattle.cap_kernel_check_steps.specs.Views.{StartIsKept, start_view, starts_view, tree_view}
use Rattle.cap_kernel_check_steps.proofs.Walking.{each-at}
use Rattle.cap_kernel_check_steps.proofs.Grown.{map-split, roots-more, roots-passed, roots-halt}
use Rattle.cap_kernel_check_steps.proofs.growth.grow_at_roots.Goals as goal

pub grow_at_root-requires : goal.grow_at_root-requires
grow_at_root-requires c =
    each-at (StartIsKept (program_view c.args.program.now)) start_view c.args.starts.now c.loop-start.start-index c.start-item.result c.requires c.loop-start-test.true c.start-item.is

pub returns-in_err-grow_at_root : goal.returns-in_err-grow_at_root
returns-in_err-grow_at_root c =
    let p = program_view c.args.program.now in
    let i = c.loop-start.start-index in
    let ss = c.args.starts.now in
    let s = start_view c.start-item.result in
    let q = err_from_is_err_and c.from_residual-in_err-grow_at_root.result c.from_residual-in_err-grow_at_root.ensures.1 in
    let e : c.grow_at_root.result ≡ Err c.in_err-grow_at_root.field-0.0 = c.in_err-grow_at_root.was in
    rw (q.1, q.2) (λ ds. roots-halt p (starts_view ss) (starts_view (take i ss)) (starts_view (drop (suc i) ss)) s (map tree_view c.loop-start.trees.items) (preorder_view c.args.choices.now) (preorder_view c.loop-start.choices) c.in_err-grow_at_root.field-0.0 ds
    (map-split start_view ss i c.start-item.result c.loop-start-test.true c.start-item.is) c.loop-start.invariant.derived c.loop-start.invariant.passes
    (subst (λ r. GrowsAtRoot p s (preorder_view c.loop-start.choices) r (preorder_view c.grow_at_root.new.choices)) e c.grow_at_root.ensures))

pub loop-start-preserved : goal.loop-start-preserved
loop-start-preserved c = record {
  derived = roots-more (program_view c.args.program.now) c.loop-start.start-index c.args.starts.now c.start-item.result c.loop-start.trees.items c.push.new.self.items c.in_ok-grow_at_root.field-0 c.in_ok-push.ensures.items c.loop-start-test.true c.start-item.is c.loop-start.invariant.derived c.in_ok-grow_at_root.ensures.0;
  passes = roots-passed c.loop-start.trees.items c.push.new.self.items c.in_ok-grow_at_root.field-0 (preorder_view c.args.choices.now) (preorder_view c.loop-start.choices) (preorder_view c.grow_at_root.new.choices) c.in_ok-push.ensures.items c.loop-start.invariant.passes c.in_ok-grow_at_root.ensures.1;
}
