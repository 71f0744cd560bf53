use Rattle.std.proofs.Common.{refl, sym, ◌∙◌}
use Rattle.cap_parse_tree.specs.Views.{behind_view, comparison_view}
use Rattle.cap_parse_laws.specs.Grammar.{read_comparison}
use Rattle.cap_parse_laws.specs.Readers.{read_more}
use Rattle.cap_parse_laws.specs.declared.class.Class.TheVariants.{Comma}
use Rattle.cap_parse_laws.specs.Laws.Taking.{comparison-takes}
use Rattle.cap_parse.proofs.Loops.{more-pushed, more-smaller}
use Rattle.cap_parse.proofs.cursor.Cursor.more_comparisons.Goals as goal

pub loop-self-preserved : goal.loop-self-preserved
loop-self-preserved c =
    rw c.in_ok-push.ensures.items
    (more-pushed Comma (read_comparison c.args.room) (behind_view comparison_view) (comparison-takes c.args.room) (λ e. cc) c.loop-self.more.items (c.in_ok-comma.comma, c.in_ok-comparison.comparison) c.in_ok-comma.comma (comparison_view c.in_ok-comparison.comparison)
    c.loop-self.self.rest c.next_place.new.self.rest c.comparison.new.self.rest (read_more Comma (read_comparison c.args.room) c.args.self.now.rest)
    refl (sym c.is_ahead.ensures ∙ c.loop-self-test.true) c.in_ok-comma.ensures c.in_ok-comparison.ensures c.loop-self.invariant)

pub loop-self-smaller : goal.loop-self-smaller
loop-self-smaller c =
    more-smaller Comma (read_comparison c.args.room) (comparison-takes c.args.room) c.loop-self.self.rest c.next_place.new.self.rest c.comparison.new.self.rest c.in_ok-comma.comma (comparison_view c.in_ok-comparison.comparison)
    (sym c.is_ahead.ensures ∙ c.loop-self-test.true) c.in_ok-comma.ensures c.in_ok-comparison.ensures
