use Rattle.std.proofs.Common.{◌+◌, ◌<◌, List, drop, length, get_or, sym, subst, arith}
use Rattle.std.proofs.lemmas.Result.{err_from_is_err_and}
use Rattle.cap_lin.specs.declared.row.Row.{Row}
use Rattle.cap_prog.specs.Views.{region_view}
use Rattle.cap_goal_spec.specs.Candidates.{candidates}
use Rattle.cap_rules.specs.Resting.{named_candidates}
use Rattle.cap_rules_steps.proofs.Walking.{Leads}
use Rattle.cap_stab.specs.Rows.{named_row}
use Rattle.cap_stab_states.proofs.Collecting.{behind_these, collect_starts, collect_more, collect_fails, collect_ends}
use Rattle.cap_stab.proofs.Named.{next_low, named_collect, seen_as, any_else}
use Rattle.cap_stab.proofs.settling.named_candidates.Goals as goal

pub loop-number-init : goal.loop-number-init
loop-number-init c =
    let ms = candidates (region_view c.args.region.now) c.args.state.now c.args.fact.now in
    subst (λ (l : List Row). Leads (behind_these l (named_candidates 1 ms c.args.list.now)) (named_candidates 1 ms c.args.list.now)) (sym c.new-rows.ensures.items) (collect_starts _)

pub returns-in_err-named_candidate : goal.returns-in_err-named_candidate
returns-in_err-named_candidate c =
    let a = c.args in
    let ms = candidates (region_view a.region.now) a.state.now a.fact.now in
    let i = c.loop-number.number-index in
    let h : i < length a.list.now = omega arith in
    let x = get_or a.list.now i 0 in
    let p = err_from_is_err_and c.from_residual-in_err-named_candidate.result c.from_residual-in_err-named_candidate.ensures.1 in
    let m = c.in_err-named_candidate.ensures ms (seen_as (region_view a.region.now) a.state.now a.fact.now c.in_ok-all.all.items c.deref.result.now c.deref.ensures.value c.in_ok-all.ensures) in
    rw (p.1, p.2) (collect_fails (λ low is. named_candidates low ms is) (λ low i. named_row ms low i) next_low (named_collect ms) c.loop-number.low c.loop-number.rows.items a.list.now i x _ _ h (any_else a.list.now i 0 x h) m c.loop-number.invariant)

pub loop-number-preserved : goal.loop-number-preserved
loop-number-preserved c =
    let a = c.args in
    let i = c.loop-number.number-index in
    let h : i < length a.list.now = omega arith in
    let x = get_or a.list.now i 0 in
    let ms = candidates (region_view a.region.now) a.state.now a.fact.now in
    let m = c.in_ok-named_candidate.ensures ms (seen_as (region_view a.region.now) a.state.now a.fact.now c.in_ok-all.all.items c.deref.result.now c.deref.ensures.value c.in_ok-all.ensures) in
    subst (λ (l : List Row). Leads (behind_these l (named_candidates (x + 1) ms (drop (i + 1) a.list.now))) (named_candidates 1 ms a.list.now)) (sym c.in_ok-push.ensures.items)
    (collect_more (λ low is. named_candidates low ms is) (λ low i. named_row ms low i) next_low (named_collect ms) c.loop-number.low c.loop-number.rows.items a.list.now i x c.in_ok-named_candidate.field-0 _ h (any_else a.list.now i 0 x h) m c.loop-number.invariant)

pub returns : goal.returns
returns c =
    let a = c.args in
    let ms = candidates (region_view a.region.now) a.state.now a.fact.now in
    collect_ends (λ low is. named_candidates low ms is) (λ low i. named_row ms low i) next_low (named_collect ms) c.loop-number.low c.loop-number.rows.items a.list.now c.loop-number.number-index _ (omega arith) c.loop-number.invariant
