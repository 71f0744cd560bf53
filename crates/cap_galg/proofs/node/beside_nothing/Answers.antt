use Rattle.std.proofs.Common.{sym, ap, ◌∙◌, Some}
use Rattle.cap_galg.specs.Views.{node_view}
use Rattle.cap_galg_spec.specs.Laws.Composition.{compose-nothing}
use Rattle.cap_galg_spec.proofs.Sides.{wide-nothing}
use Rattle.cap_galg.proofs.node.beside_nothing.Goals as goal

pub returns-clause-with_unit : goal.returns-clause-with_unit
returns-clause-with_unit c =
    (compose-nothing (node_view c.args.node.now) ∙ ap (λ x. Some x) (sym c.in_ok-copy.ensures), wide-nothing (node_view c.args.node.now))
