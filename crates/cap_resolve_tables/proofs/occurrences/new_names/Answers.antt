use Rattle.std.proofs.Common.{ap, sym, ◌∙◌, ◌∷◌, ◌+◌, drop, arith, ◌≡◌, fold, filter, not}
use Rattle.std.proofs.lemmas.Grind.{common_steps}
use Rattle.cap_resolve_spec.specs.Names.{knows, with_first}
use Rattle.cap_resolve_spec.specs.Items.{name_of}
use Rattle.cap_resolve_tables.specs.Views.{occurrence_view, occurrences_view}
use Rattle.cap_resolve_tables.proofs.Firsts.{new_step}
use Rattle.cap_resolve_tables.proofs.occurrences.new_names.Goals as goal

pub loop-occurrence-preserved : goal.loop-occurrence-preserved
loop-occurrence-preserved c =
    let e : drop c.loop-occurrence.occurrence-index c.args.occurrences.now ≡ c.occurrence-item.result ∷ drop (c.loop-occurrence.occurrence-index + 1) c.args.occurrences.now = grind (arith, common_steps) in (
      new_step c.args.scope.now (occurrences_view c.add_new.new.names.items) (occurrences_view c.loop-occurrence.names.items) (occurrence_view c.occurrence-item.result) (occurrences_view (drop (c.loop-occurrence.occurrence-index + 1) c.args.occurrences.now)) c.in_ok-add_new.ensures.added
          ∙ (ap (λ os. fold (with_first name_of) (occurrences_view c.loop-occurrence.names.items) (filter (λ o. not (knows c.args.scope.now (name_of o))) (occurrences_view os))) (sym e)
          ∙ c.loop-occurrence.invariant.0),
      c.in_ok-add_new.ensures.seen,
    )
