use Rattle.std.proofs.Common.{ap, sym, ◌∙◌, fold, flat_map}
use Rattle.std.proofs.lemmas.Result.{IfOk-equal}
use Rattle.cap_parse_tree.specs.Views.{item_view, held_view}
use Rattle.cap_resolve_spec.specs.Finding.{note}
use Rattle.cap_resolve_spec.specs.Parts.{held_atoms}
use Rattle.cap_resolve_spec.specs.Terms.{terms_findings}
use Rattle.cap_resolve_spec.specs.Items.{item_wanted, atom_wanted, type_of}
use Rattle.cap_resolve_terms.specs.Views.{noted_view}
use Rattle.cap_resolve_tables.specs.Tables.{types_of}
use Rattle.cap_resolve_tables.proofs.Trees.{view-Guards}
use Rattle.cap_resolve_findings.proofs.terms.note_terms_of_item.Goals as goal

pub returns-in-Guards : goal.returns-in-Guards
returns-in-Guards c =
    IfOk-equal c.note_held_terms.result _ _ _ c.note_held_terms.ensures
    (ap (λ x. fold note (noted_view c.args.noted.now) (terms_findings c.args.scope.now (flat_map (atom_wanted (type_of (types_of c.args.types) x)) (held_atoms (held_view c.in-Guards.held))))) c.as_bytes.ensures
    ∙ ap (λ i. fold note (noted_view c.args.noted.now) (terms_findings c.args.scope.now (item_wanted (types_of c.args.types) c.args.scope.now i))) (sym (ap item_view c.in-Guards.is ∙ view-Guards c.in-Guards.word c.in-Guards.field-1 c.in-Guards.held)))
