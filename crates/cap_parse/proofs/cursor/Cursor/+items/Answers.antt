use Rattle.std.proofs.Common.{rules, sym, ◌∙◌, arith}
use Rattle.std.proofs.lemmas.Result.{err_from_is_err_and}
use Rattle.cap_parse_tree.specs.declared.assertion.Item.TheFolds.{the_lemmas}
use Rattle.std.proofs.lemmas.Bool.Decides.{nat_tests}
use Rattle.cap_parse.proofs.Inside.{side-inside}
use Rattle.cap_parse_tree.specs.Views.{comparison_view, item_view, and_view}
use Rattle.cap_parse_laws.specs.Grammar.{read_item, side_at}
use Rattle.cap_parse_laws.specs.Readers.{read_more}
use Rattle.cap_parse_laws.specs.declared.class.Class.TheVariants.{And}
use Rattle.cap_parse_laws.specs.Laws.Taking.{item-takes}
use Rattle.cap_parse.specs.Parts.{sides_view}
use Rattle.cap_parse.proofs.Loops.{more-pushed, more-smaller}
use Rattle.cap_parse.proofs.Parts.{then-stops, choose_parts}
use Rattle.cap_parse.proofs.cursor.Cursor.+items.Goals as goal

pub side-returns-then-room-gt0 : goal.side-returns-then-room-gt0
side-returns-then-room-gt0 t c =
    rw (side-inside c.args.room c.args.self.now.rest (grind (arith, nat_tests, c.if-room-gt0.true)))
    c.in_braces.ensures

pub more_items-loop-self-preserved : goal.more_items-loop-self-preserved
more_items-loop-self-preserved t c =
    rw c.in_ok-push.ensures.items
    (more-pushed And (read_item (side_at c.args.room) c.args.room) and_view (item-takes c.args.room) (λ e. cc) c.loop-self.more.items _ c.in_ok-place.place (item_view c.in_ok-item.item)
    c.loop-self.self.rest c.next_place.new.self.rest c.item.new.self.rest (read_more And (read_item (side_at c.args.room) c.args.room) c.args.self.now.rest)
    (search (rules, the_lemmas)) (sym c.is_ahead.ensures ∙ c.loop-self-test.true) c.in_ok-place.ensures c.in_ok-item.ensures c.loop-self.invariant)

pub more_items-loop-self-smaller : goal.more_items-loop-self-smaller
more_items-loop-self-smaller t c =
    more-smaller And (read_item (side_at c.args.room) c.args.room) (item-takes c.args.room) c.loop-self.self.rest c.next_place.new.self.rest c.item.new.self.rest c.in_ok-place.place (item_view c.in_ok-item.item)
    (sym c.is_ahead.ensures ∙ c.loop-self-test.true) c.in_ok-place.ensures c.in_ok-item.ensures

pub choose-returns : goal.choose-returns
choose-returns t c =
    choose_parts (side_at c.args.room) (comparison_view c.args.comparison) c.args.self.now.rest
    ∙ rw c.in_ok-question.ensures (search (rules, the_lemmas))

pub choose-returns-in_err-question : goal.choose-returns-in_err-question
choose-returns-in_err-question t c =
    let p = err_from_is_err_and c.from_residual.result c.from_residual.ensures.1 in
    rw (p.1, p.2, choose_parts (side_at c.args.room) (comparison_view c.args.comparison) c.args.self.now.rest)
    (then-stops sides_view item_view _ _ _ _ c.in_err-question.ensures)
