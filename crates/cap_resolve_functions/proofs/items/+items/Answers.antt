use Rattle.std.proofs.Common.{◌≡◌, ◌∙◌, ◌+◌, drop, map, ap, sym, arith, rules}
use Rattle.std.proofs.lemmas.Grind.{common_steps, elements}
use Rattle.std.proofs.lemmas.Result.{on_ok_weaker}
use borrow.Author.Rules.{get_or_read}
use borrow.Author.Tests.{tests}
use Rattle.cap_prog.specs.Program as plain
use Rattle.cap_prog.specs.Program.{append_items}
use Rattle.cap_prog.specs.Views as seen
use Rattle.cap_parse_tree.specs.declared.assertion.And.{out-And}
use Rattle.cap_parse_tree.specs.declared.assertion.Assertion.{out-Assertion}
use Rattle.cap_parse_tree.specs.declared.assertion.Item.TheFolds.{the_lemmas}
use Rattle.cap_parse_tree.specs.Tree.{fact}
use Rattle.cap_parse_tree.specs.Views.{item_view, behind_view, slot_view}
use Rattle.cap_resolve_spec.specs.Names.{variable_of}
use Rattle.cap_resolve_spec.specs.Program.{type_number, slot_program, lone}
use Rattle.cap_resolve_tables.specs.Tables.{regions_of}
use Rattle.cap_resolve_functions.specs.Views.{items_seen, item_read, items_read, assertion_read}
use Rattle.cap_resolve_functions.proofs.Rests.{ands_view}
use Rattle.cap_resolve_functions.proofs.ItemLists.{append_none, more_stays, none_stays}
use Rattle.cap_resolve_functions.proofs.Members.{item_of}
use Rattle.cap_resolve_functions.proofs.Trees.{view-True, view-Assertion, ands-rest, ands-done}
use Rattle.cap_resolve_functions.proofs.items.+items.Goals as goal

pub push_item-returns-in-True : goal.push_item-returns-in-True
push_item-returns-in-True t c =
    sym (ap (λ i. append_items (items_seen c.args.items.now.items) (item_read c.args.reading.now (item_view i))) c.in-True.is
    ∙ (ap (λ v. append_items (items_seen c.args.items.now.items) (item_read c.args.reading.now v)) (view-True c.in-True.field-0)
    ∙ append_none (items_seen c.args.items.now.items)))

pub push_item-returns-in_ok-fact-in-Fact : goal.push_item-returns-in_ok-fact-in-Fact
push_item-returns-in_ok-fact-in-Fact t c =
    let e : item_view c.args.item.now ≡ fact c.in-Fact.key c.in-Fact.field-1 c.in-Fact.region (map (behind_view slot_view) c.in-Fact.arguments.items) c.in-Fact.field-4 (slot_view c.in-Fact.state) c.in-Fact.field-6 = rw c.in-Fact.is (search (rules, the_lemmas)) in
    let f : seen.item_view c.in_ok-fact-in-Fact.fact ≡ plain.fact c.in-Fact.key.place (variable_of c.args.reading.now.scope.now c.in-Fact.region.text) (type_number (regions_of c.args.reading.now.regions.now) c.in-Fact.key.text) (map (λ a. slot_program c.args.reading.now.scope.now a.1) (map (behind_view slot_view) c.in-Fact.arguments.items)) (slot_program c.args.reading.now.scope.now (slot_view c.in-Fact.state)) =
    c.in_ok-fact-in-Fact.ensures ∙ ap (λ xs. plain.fact c.in-Fact.key.place (variable_of c.args.reading.now.scope.now c.in-Fact.region.text) (type_number (regions_of c.args.reading.now.regions.now) c.in-Fact.key.text) (map (λ a. slot_program c.args.reading.now.scope.now a.1) (map (behind_view slot_view) xs)) (slot_program c.args.reading.now.scope.now (slot_view c.in-Fact.state))) c.as_slice.ensures.value in
    on_ok_weaker c.push-in-Fact.result (λ h. h ∙ (ap (λ i. append_items (items_seen c.args.items.now.items) (lone i)) f ∙ ap (λ v. append_items (items_seen c.args.items.now.items) (item_read c.args.reading.now v)) (sym e))) c.push-in-Fact.ensures

pub push_items-loop-and-init : goal.push_items-loop-and-init
push_items-loop-and-init t c =
    more_stays (items_seen c.args.items.now.items) _ (item_read c.args.reading.now (item_view (out-Assertion c.args.assertion.now).first)) (items_read c.args.reading.now (ands_view c.deref-and-items.result.now)) _ c.in_ok-push_item.ensures
    (ap (λ x. append_items (items_seen c.args.items.now.items) (append_items (item_read c.args.reading.now (item_view (out-Assertion c.args.assertion.now).first)) (items_read c.args.reading.now (ands_view x)))) c.deref-and-items.ensures.value
    ∙ ap (λ v. append_items (items_seen c.args.items.now.items) (assertion_read c.args.reading.now v)) (sym (view-Assertion c.args.assertion.now)))

pub push_items-loop-and-preserved : goal.push_items-loop-and-preserved
push_items-loop-and-preserved t c =
    more_stays (items_seen c.loop-and.items.items) _ (item_read c.args.reading.now (item_view (out-And c.and-item.result).item)) (items_read c.args.reading.now (ands_view (drop (c.loop-and.and-index + 1) c.deref-and-items.result.now))) _ c.in_ok-push_item-2.ensures
    (ap (λ v. append_items (items_seen c.loop-and.items.items) (items_read c.args.reading.now v)) (sym (ands-rest c.deref-and-items.result.now c.loop-and.and-index c.and-item.result c.loop-and-test.true c.and-item.is))
    ∙ c.loop-and.invariant)

pub push_items-returns : goal.push_items-returns
push_items-returns t c =
    none_stays (items_seen c.loop-and.items.items) (items_read c.args.reading.now (ands_view (drop c.loop-and.and-index c.deref-and-items.result.now))) _
    (ap (items_read c.args.reading.now) (ands-done c.deref-and-items.result.now c.loop-and.and-index c.loop-and-test.false))
    c.loop-and.invariant

-- the item is less deep than the assertion, and it is narrow
pub push_items-push_item-requires-in-loop-and : goal.push_items-push_item-requires-in-loop-and
push_items-push_item-requires-in-loop-and t c = (
  first_of (
    search (rules, the_lemmas, get_or_read),
    grind (the_lemmas, arith, common_steps) steps 2000000,
    grind (the_lemmas, arith, elements) steps 2000000,
    search (tests, rules, the_lemmas, get_or_read, common_steps),
  ),
  item_of c.args.reading.now.scope.now c.args.assertion.now c.deref-and-items.result.now c.loop-and.and-index c.and-item.result c.and-item.is c.loop-and-test.true c.deref-and-items.ensures.value c.requires,
)
