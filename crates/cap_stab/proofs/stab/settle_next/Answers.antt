use Rattle.std.proofs.Common.{◌≡◌, ℕ, ◌≤◌, List, length, Some, ap, subst, ◌∙◌, arith}
use Rattle.std.specs.Prelude.{slice_get, Ok, Err}
use Rattle.std.proofs.lemmas.Result.{err_from_is_err_and}
use Rattle.cap_prog.specs.Views.{region_view, program_view}
use Rattle.cap_goal_spec.specs.States.{PlainFact, PlainState, goals_of}
use Rattle.cap_goal.specs.Views.{tasks_view}
use Rattle.cap_rules.specs.Attempts.{found}
use Rattle.cap_rules_steps.specs.Walks.{Makes, Claims}
use Rattle.cap_stab.specs.Heads.{numbers_seen, settled_by}
use Rattle.cap_stab.proofs.Headed.{at_place, no_fact, no_region, not_settled, next_settled}
use Rattle.cap_stab.proofs.stab.settle_next.Goals as goal

pub returns-then-number-facts : goal.returns-then-number-facts
returns-then-number-facts c =
    let a = c.args in
    no_fact (program_view a.program.now) a.state.now (numbers_seen a.list) a.number a.at (tasks_view a.behind.now) a.ledger.now (subst (λ (fs : List PlainFact). length fs ≤ a.number) c.facts-facts.ensures c.if-number-facts.true)

pub returns-in_err-region : goal.returns-in_err-region
returns-in_err-region c =
    let a = c.args in
    let f : PlainFact = c.index-facts-number.result in
    let q = subst (λ (fs : List PlainFact). slice_get fs a.number ≡ Some f) c.facts-facts.ensures (at_place c.facts-facts.result.now a.number f (omega arith) c.index-facts-number.is) in
    let k : c.fact.inside.kind ≡ f.kind = ap (λ (g : PlainFact). g.kind) c.fact.view_is in
    let p = err_from_is_err_and c.from_residual.result c.from_residual.ensures.1 in
    let m = subst (λ (i : ℕ). Makes (Err c.in_err-region.field-0.0) (found (slice_get (program_view a.program.now).regions i))) k c.in_err-region.ensures in
    rw (p.1, p.2) (no_region (program_view a.program.now) a.state.now (numbers_seen a.list) a.number a.at (tasks_view a.behind.now) f _ a.ledger.now q m)

pub returns-in_err-settle_by : goal.returns-in_err-settle_by
returns-in_err-settle_by c =
    let a = c.args in
    let f : PlainFact = c.index-facts-number.result in
    let r = region_view c.in_ok-region.region.now in
    let q = subst (λ (fs : List PlainFact). slice_get fs a.number ≡ Some f) c.facts-facts.ensures (at_place c.facts-facts.result.now a.number f (omega arith) c.index-facts-number.is) in
    let k : c.fact.inside.kind ≡ f.kind = ap (λ (g : PlainFact). g.kind) c.fact.view_is in
    let p = err_from_is_err_and c.from_residual-in_err-settle_by.result c.from_residual-in_err-settle_by.ensures.1 in
    let m = subst (λ (i : ℕ). Makes (Ok r) (found (slice_get (program_view a.program.now).regions i))) k c.in_ok-region.ensures in
    let d = subst (λ (s : PlainState). Claims (Err c.in_err-settle_by.field-0.0) a.ledger.now c.settle_by.new.ledger (settled_by r s a.number f (numbers_seen a.list))) c.in_ok-next.ensures c.in_err-settle_by.ensures in
    rw (p.1, p.2) (not_settled (program_view a.program.now) a.state.now (numbers_seen a.list) a.number a.at (tasks_view a.behind.now) f r _ a.ledger.now c.settle_by.new.ledger q m d)

pub returns : goal.returns
returns c =
    let a = c.args in
    let f : PlainFact = c.index-facts-number.result in
    let r = region_view c.in_ok-region.region.now in
    let q = subst (λ (fs : List PlainFact). slice_get fs a.number ≡ Some f) c.facts-facts.ensures (at_place c.facts-facts.result.now a.number f (omega arith) c.index-facts-number.is) in
    let k : c.fact.inside.kind ≡ f.kind = ap (λ (g : PlainFact). g.kind) c.fact.view_is in
    let m = subst (λ (i : ℕ). Makes (Ok r) (found (slice_get (program_view a.program.now).regions i))) k c.in_ok-region.ensures in
    let d = subst (λ (s : PlainState). Claims (Ok c.settle_by.new.state) a.ledger.now c.settle_by.new.ledger (settled_by r s a.number f (numbers_seen a.list))) c.in_ok-next.ensures c.in_ok-settle_by.ensures in
    next_settled (program_view a.program.now) a.state.now c.settle_by.new.state (numbers_seen a.list) a.number a.at (tasks_view a.behind.now) f r _ a.ledger.now c.settle_by.new.ledger q m d (c.in_ok-leaves.ensures ∙ ap (goals_of c.settle_by.new.state) c.in_ok-tasks.ensures)
