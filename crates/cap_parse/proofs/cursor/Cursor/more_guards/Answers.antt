use Rattle.std.proofs.Common.{refl, sym, ◌∙◌}
use Rattle.cap_parse_tree.specs.Views.{behind_view, guard_view}
use Rattle.cap_parse_laws.specs.Grammar.{read_guard}
use Rattle.cap_parse_laws.specs.Readers.{read_more}
use Rattle.cap_parse_laws.specs.declared.class.Class.TheVariants.{Star}
use Rattle.cap_parse_laws.specs.Laws.Taking.{guard-takes}
use Rattle.cap_parse.proofs.Loops.{more-pushed, more-smaller}
use Rattle.cap_parse.proofs.cursor.Cursor.more_guards.Goals as goal

pub loop-self-preserved : goal.loop-self-preserved
loop-self-preserved c =
    rw c.in_ok-push.ensures.items
    (more-pushed Star (read_guard c.args.room) (behind_view guard_view) (guard-takes c.args.room) (λ e. cc) c.loop-self.more.items (c.in_ok-star.star, c.in_ok-guard.guard) c.in_ok-star.star (guard_view c.in_ok-guard.guard)
    c.loop-self.self.rest c.next_place.new.self.rest c.guard.new.self.rest (read_more Star (read_guard c.args.room) c.args.self.now.rest)
    refl (sym c.is_ahead.ensures ∙ c.loop-self-test.true) c.in_ok-star.ensures c.in_ok-guard.ensures c.loop-self.invariant)

pub loop-self-smaller : goal.loop-self-smaller
loop-self-smaller c =
    more-smaller Star (read_guard c.args.room) (guard-takes c.args.room) c.loop-self.self.rest c.next_place.new.self.rest c.guard.new.self.rest c.in_ok-star.star (guard_view c.in_ok-guard.guard)
    (sym c.is_ahead.ensures ∙ c.loop-self-test.true) c.in_ok-star.ensures c.in_ok-guard.ensures
