use Rattle.std.proofs.Common.{refl, sym, ◌∙◌}
use Rattle.cap_parse_tree.specs.Views.{behind_view, slot_view}
use Rattle.cap_parse_laws.specs.Grammar.{read_slot}
use Rattle.cap_parse_laws.specs.Readers.{read_more}
use Rattle.cap_parse_laws.specs.declared.class.Class.TheVariants.{Comma}
use Rattle.cap_parse_laws.specs.Laws.Taking.{slot-takes}
use Rattle.cap_parse.proofs.Loops.{more-pushed, more-smaller}
use Rattle.cap_parse.proofs.cursor.Cursor.arguments.Goals as goal

pub loop-self-preserved : goal.loop-self-preserved
loop-self-preserved c =
    rw c.in_ok-push.ensures.items
    (more-pushed Comma (read_slot c.args.room) (behind_view slot_view) (slot-takes c.args.room) (λ e. cc) c.loop-self.arguments.items (c.in_ok-comma.comma, c.in_ok-slot.slot) c.in_ok-comma.comma (slot_view c.in_ok-slot.slot)
    c.loop-self.self.rest c.next_place.new.self.rest c.slot.new.self.rest (read_more Comma (read_slot c.args.room) c.args.self.now.rest)
    refl (sym c.is_ahead.ensures ∙ c.loop-self-test.true) c.in_ok-comma.ensures c.in_ok-slot.ensures c.loop-self.invariant)

pub loop-self-smaller : goal.loop-self-smaller
loop-self-smaller c =
    more-smaller Comma (read_slot c.args.room) (slot-takes c.args.room) c.loop-self.self.rest c.next_place.new.self.rest c.slot.new.self.rest c.in_ok-comma.comma (slot_view c.in_ok-slot.slot)
    (sym c.is_ahead.ensures ∙ c.loop-self-test.true) c.in_ok-comma.ensures c.in_ok-slot.ensures
