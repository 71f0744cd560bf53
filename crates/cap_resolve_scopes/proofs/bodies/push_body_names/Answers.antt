use Rattle.std.proofs.Common.{ap, sym, ◌∙◌, [], ◌∷◌, ◌++◌, ◌+◌, drop, map, arith, ◌≡◌, append_assoc}
use Rattle.std.proofs.lemmas.Grind.{common_steps}
use Rattle.cap_resolve_tables.specs.Views.{occurrence_view, occurrences_view}
use Rattle.cap_resolve_scopes.specs.Lists.{known_entry}
use Rattle.cap_resolve_scopes.proofs.bodies.push_body_names.Goals as goal

pub loop-name-preserved : goal.loop-name-preserved
loop-name-preserved c =
    let e : drop c.loop-name.name-index c.args.fixed.now ≡ c.name-item.result ∷ drop (c.loop-name.name-index + 1) c.args.fixed.now = grind (arith, common_steps) in
    ap (λ s. s ++ map (known_entry c.args.destinations.now) (occurrences_view (drop (c.loop-name.name-index + 1) c.args.fixed.now))) (c.in_ok-push.ensures.pushed ∙ ap (λ k. c.loop-name.scope ++ k ∷ []) c.known_in_body.ensures)
    ∙ (append_assoc c.loop-name.scope (known_entry c.args.destinations.now (occurrence_view c.name-item.result) ∷ []) (map (known_entry c.args.destinations.now) (occurrences_view (drop (c.loop-name.name-index + 1) c.args.fixed.now)))
    ∙ (ap (λ os. c.loop-name.scope ++ map (known_entry c.args.destinations.now) (occurrences_view os)) (sym e)
    ∙ c.loop-name.invariant))
