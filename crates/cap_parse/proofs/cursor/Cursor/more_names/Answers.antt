use Rattle.std.proofs.Common.{refl, sym, ◌∙◌}
use Rattle.cap_parse_tree.specs.Views.{behind_view, word_view}
use Rattle.cap_parse_laws.specs.Readers.{read_more, read_name}
use Rattle.cap_parse_laws.specs.declared.class.Class.TheVariants.{Comma}
use Rattle.cap_parse_laws.specs.Laws.Taking.{name-takes}
use Rattle.cap_parse.proofs.Loops.{more-pushed, more-smaller}
use Rattle.cap_parse.proofs.cursor.Cursor.more_names.Goals as goal

pub loop-self-preserved : goal.loop-self-preserved
loop-self-preserved c =
    rw c.in_ok-push.ensures.items
    (more-pushed Comma read_name (behind_view word_view) name-takes (λ e. cc) c.loop-self.more.items (c.in_ok-comma.comma, c.in_ok-name.name) c.in_ok-comma.comma (word_view c.in_ok-name.name)
    c.loop-self.self.rest c.next_place.new.self.rest c.name.new.self.rest (read_more Comma read_name c.args.self.now.rest)
    refl (sym c.is_ahead.ensures ∙ c.loop-self-test.true) c.in_ok-comma.ensures c.in_ok-name.ensures c.loop-self.invariant)

pub loop-self-smaller : goal.loop-self-smaller
loop-self-smaller c =
    more-smaller Comma read_name name-takes c.loop-self.self.rest c.next_place.new.self.rest c.name.new.self.rest c.in_ok-comma.comma (word_view c.in_ok-name.name)
    (sym c.is_ahead.ensures ∙ c.loop-self-test.true) c.in_ok-comma.ensures c.in_ok-name.ensures
