use Rattle.std.proofs.Common.{◌≡◌, ap, sym, ◌∙◌, ◌++◌, fold, length, map, rules}
use Rattle.std.proofs.lemmas.List.{length-map}
use Rattle.std.proofs.lemmas.Result.{IfOk-equal}
use Rattle.cap_parse_tree.specs.Tree.{fact}
use Rattle.cap_parse_tree.specs.Views.{item_view, slot_view, behind_view}
use Rattle.cap_parse_tree.specs.declared.assertion.Item.TheVariants as code
use Rattle.cap_parse_tree.specs.declared.assertion.Item.TheFolds.{the_lemmas}
use Rattle.cap_resolve_spec.specs.Finding.{note}
use Rattle.cap_resolve_spec.specs.Items.{item_findings}
use Rattle.cap_resolve_terms.specs.Views.{noted_view}
use Rattle.cap_resolve_parts.specs.Views.{word_seen}
use Rattle.cap_resolve_tables.specs.Tables.{regions_of, types_of}
use Rattle.cap_resolve_tables.proofs.Trees.{view-Guards}
use Rattle.cap_resolve_findings.specs.Facts.{fact_findings}
use Rattle.cap_resolve_findings.proofs.items.note_item.Goals as goal

pub returns-in-Guards : goal.returns-in-Guards
returns-in-Guards c =
    IfOk-equal c.note_guards.result _ _ _ c.note_guards.ensures
    (ap (λ i. fold note (noted_view c.args.noted.now) (item_findings (regions_of c.args.reading.regions.now) (word_seen c.args.own) (types_of c.args.reading.types) c.args.reading.scope.now i)) (sym (ap item_view c.in-Guards.is ∙ view-Guards c.in-Guards.word c.in-Guards.field-1 c.in-Guards.held)))

pub returns-in-Fact : goal.returns-in-Fact
returns-in-Fact c =
    let v : item_view c.args.item.now ≡ fact c.in-Fact.kind c.in-Fact.field-1 c.in-Fact.region (map (behind_view slot_view) c.in-Fact.arguments.items) c.in-Fact.field-4 (slot_view c.in-Fact.field-5) c.in-Fact.field-6 = ap item_view c.in-Fact.is ∙ search (rules, the_lemmas) in
    c.note_fact.ensures
    ∙ (ap (λ n. fold note (noted_view c.args.noted.now) (fact_findings (regions_of c.args.reading.regions.now) (word_seen c.args.own) (types_of c.args.reading.types) c.args.reading.scope.now c.in-Fact.kind c.in-Fact.region n)) (ap length c.as_slice.ensures.value ∙ sym (length-map c.in-Fact.arguments.items (behind_view slot_view)))
    ∙ ap (λ i. fold note (noted_view c.args.noted.now) (item_findings (regions_of c.args.reading.regions.now) (word_seen c.args.own) (types_of c.args.reading.types) c.args.reading.scope.now i)) (sym v))
