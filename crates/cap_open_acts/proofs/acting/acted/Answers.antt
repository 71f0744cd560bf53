use Rattle.std.proofs.Common.{ap, sym, ◌∙◌}
use Rattle.std.specs.Prelude.{option_map}
use Rattle.cap_prog.specs.Views.{act_view}
use Rattle.cap_rules_steps.proofs.Walking.{inapplicable}
use Rattle.cap_open_acts.specs.Acts.{heap_act_view, heap_acted_if}
use Rattle.cap_open_acts.proofs.Effects.{by-kind, turned}
use Rattle.cap_open_acts.proofs.acting.acted.Goals as goal

pub returns-in-None : goal.returns-in-None
returns-in-None c =
    let a = c.args in
    let e = ap (heap_acted_if a.state.now a.number a.cell.now) (sym (ap (option_map heap_act_view) c.in-None.is) ∙ c.heap_act.ensures) ∙ by-kind a.state.now a.number a.cell.now (act_view a.act.now) in
    turned _ _ _ e inapplicable

pub returns-in-Some : goal.returns-in-Some
returns-in-Some c =
    let a = c.args in
    let e = ap (heap_acted_if a.state.now a.number a.cell.now) (sym (ap (option_map heap_act_view) c.in-Some.is) ∙ c.heap_act.ensures) ∙ by-kind a.state.now a.number a.cell.now (act_view a.act.now) in
    turned _ _ _ e c.acted_by.ensures
