use Rattle.std.proofs.Common.{ap, sym, ◌∙◌, ◌∷◌, ◌++◌, ◌+◌, drop, filter, not, arith, ◌≡◌}
use Rattle.std.proofs.lemmas.Grind.{common_steps}
use Rattle.cap_resolve_parts.specs.Views.{word_seen}
use Rattle.cap_resolve_tables.specs.Views.{occurrence_view, occurrences_view}
use Rattle.cap_resolve_scopes.specs.Lists.{is_known_with, is_whole_with, is_late_with}
use Rattle.cap_resolve_scopes.proofs.Kept.{kept_step}
use Rattle.cap_resolve_scopes.proofs.regions.bound_late.Goals as goal

pub loop-name-preserved : goal.loop-name-preserved
loop-name-preserved c =
    let e : drop c.loop-name.name-index c.args.names.now ≡ c.name-item.result ∷ drop (c.loop-name.name-index + 1) c.args.names.now = grind (arith, common_steps) in
    kept_step (is_late_with c.args.bound.now) (occurrences_view c.keep_if.new.kept.items) (occurrences_view c.loop-name.kept.items) c.is_late-wanted.result (occurrence_view c.name-item.result) (occurrences_view (drop (c.loop-name.name-index + 1) c.args.names.now)) c.is_late-wanted.ensures c.in_ok-keep_if.ensures
    ∙ (ap (λ os. occurrences_view c.loop-name.kept.items ++ filter (is_late_with c.args.bound.now) (occurrences_view os)) (sym e)
    ∙ c.loop-name.invariant)
