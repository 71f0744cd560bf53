use Rattle.std.proofs.Common.{ap, sym, ◌∙◌, ◌++◌}
use Rattle.std.proofs.lemmas.Result.{IfOk-equal}
use Rattle.cap_parse_tree.specs.Views.{item_view}
use Rattle.cap_resolve_spec.specs.Items.{item_occurrences}
use Rattle.cap_resolve_tables.specs.Tables.{types_of}
use Rattle.cap_resolve_tables.specs.Views.{occurrences_view}
use Rattle.cap_resolve_tables.proofs.Trees.{view-Guards}
use Rattle.cap_resolve_tables.proofs.atoms.push_item.Goals as goal

pub returns-in-Guards : goal.returns-in-Guards
returns-in-Guards c =
    IfOk-equal c.push_held.result _ _ _ c.push_held.ensures
    (ap (λ i. occurrences_view c.args.list.now.items ++ item_occurrences (types_of c.args.types) (c.args.inside, i)) (sym (ap item_view c.in-Guards.is ∙ view-Guards c.in-Guards.word c.in-Guards.field-1 c.in-Guards.held)))
