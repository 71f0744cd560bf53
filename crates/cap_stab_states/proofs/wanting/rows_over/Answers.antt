use Rattle.std.proofs.Common.{◌+◌, List, drop, sym, subst, arith}
use Rattle.std.proofs.lemmas.Result.{err_from_is_err_and}
use Rattle.cap_lin.specs.declared.row.Row.{Row}
use Rattle.cap_rules.specs.Resting.{rows_over}
use Rattle.cap_rules_steps.proofs.Walking.{Leads}
use Rattle.cap_stab_states.specs.Wanting.{row_among}
use Rattle.cap_stab_states.proofs.Collecting.{behind_these, collect_starts, collect_more, collect_fails, collect_ends}
use Rattle.cap_stab_states.proofs.Collected.{rows_collect}
use Rattle.cap_stab_states.proofs.wanting.rows_over.Goals as goal

pub loop-comparison-init : goal.loop-comparison-init
loop-comparison-init c =
    subst (λ (l : List Row). Leads (behind_these l (rows_over c.args.names.now c.args.comparisons.now)) (rows_over c.args.names.now c.args.comparisons.now)) (sym c.new-rows.ensures.items) (collect_starts _)

pub returns-in_err-row_over : goal.returns-in_err-row_over
returns-in_err-row_over c =
    let names = c.args.names.now in
    let p = err_from_is_err_and c.from_residual.result c.from_residual.ensures.1 in
    rw (p.1, p.2) (collect_fails (λ (s : Unit {0}) cs. rows_over names cs) (λ s x. row_among names x) (λ s x. s) (rows_collect names) tt c.loop-comparison.rows.items c.args.comparisons.now c.loop-comparison.comparison-index c.comparison-item.result _ _ (omega arith) c.comparison-item.is c.in_err-row_over.ensures c.loop-comparison.invariant)

pub loop-comparison-preserved : goal.loop-comparison-preserved
loop-comparison-preserved c =
    let names = c.args.names.now in
    let i = c.loop-comparison.comparison-index in
    subst (λ (l : List Row). Leads (behind_these l (rows_over names (drop (i + 1) c.args.comparisons.now))) (rows_over names c.args.comparisons.now)) (sym c.in_ok-push.ensures.items)
    (collect_more (λ (s : Unit {0}) cs. rows_over names cs) (λ s x. row_among names x) (λ s x. s) (rows_collect names) tt c.loop-comparison.rows.items c.args.comparisons.now i c.comparison-item.result c.in_ok-row_over.field-0 _ (omega arith) c.comparison-item.is c.in_ok-row_over.ensures c.loop-comparison.invariant)

pub returns : goal.returns
returns c =
    let names = c.args.names.now in
    collect_ends (λ (s : Unit {0}) cs. rows_over names cs) (λ s x. row_among names x) (λ s x. s) (rows_collect names) tt c.loop-comparison.rows.items c.args.comparisons.now c.loop-comparison.comparison-index _ (omega arith) c.loop-comparison.invariant
