use Rattle.std.proofs.Common.{sym, ◌∙◌}
use Rattle.std.proofs.lemmas.Result.{err_from_is_err_and}
use Rattle.cap_prog.specs.Views.{case_view, region_view}
use Rattle.cap_rules.specs.Making.{determined_slot, env_at}
use Rattle.cap_take_create.proofs.Cases.{env-unbound, env-given, env-fails}
use Rattle.cap_take_create.proofs.created.new_env.Goals as goal

pub returns-in_err-value : goal.returns-in_err-value
returns-in_err-value c =
    let p = err_from_is_err_and c.from_residual-in_err-value.result c.from_residual-in_err-value.ensures.1 in
    rw (p.1, p.2) (env-fails (region_view c.args.region.now) (case_view c.args.case.now) c.args.fact.now (determined_slot (env_at c.args.state.now c.args.env) c.args.slot.now) _ (sym c.binds_all.ensures ∙ c.if-binds_all.false) c.in_err-value.ensures)

pub returns-then-binds_all : goal.returns-then-binds_all
returns-then-binds_all c = env-unbound (region_view c.args.region.now) (case_view c.args.case.now) c.args.fact.now (determined_slot (env_at c.args.state.now c.args.env) c.args.slot.now) _ (sym c.binds_all.ensures ∙ c.if-binds_all.true) c.in_ok-case_env.ensures

pub returns : goal.returns
returns c = env-given (region_view c.args.region.now) (case_view c.args.case.now) c.args.fact.now (determined_slot (env_at c.args.state.now c.args.env) c.args.slot.now) c.in_ok-value.value _ (sym c.binds_all.ensures ∙ c.if-binds_all.false) c.in_ok-value.ensures c.in_ok-case_env-2.ensures
