use Rattle.std.proofs.Common.{sym, subst}
use Rattle.cap_prog.specs.Views.{item_view, program_view}
use Rattle.cap_take_items.specs.Views.{remaining_view}
use Rattle.cap_rules.specs.Rules.{creates}
use Rattle.std.specs.Prelude.{Err}
use Rattle.cap_rules_steps.specs.Walks.{Makes}
use Rattle.cap_rules_steps.specs.declared.error.RuleError.TheVariants.{NotApplicable}
use Rattle.cap_rules_steps.proofs.Walking.{inapplicable}
use Rattle.cap_take_create.proofs.created.create.Goals as goal

pub returns-then-rest-eq0 : goal.returns-then-rest-eq0
returns-then-rest-eq0 c =
    let a = c.args in
    subst (λ left. Makes (Err NotApplicable) (creates (program_view a.program.now) a.state.now a.case a.region a.kind a.args.now a.slot.now (item_view a.item.now) (remaining_view a.rest.now) left)) (sym c.if-rest-eq0.true) inapplicable
