use Rattle.std.proofs.Common.{ap, sym, ◌∙◌, [], ◌∷◌}
use Rattle.std.proofs.lemmas.List.{map-append}
use Rattle.cap_resolve_spec.specs.Names.{knows}
use Rattle.cap_resolve_tables.specs.Views.{occurrence_view, occurrences_view}
use Rattle.cap_resolve_tables.proofs.Firsts.{first_added}
use Rattle.cap_resolve_tables.proofs.occurrences.add_first.Goals as goal

pub returns-clause-added : goal.returns-clause-added
returns-clause-added c =
    ap occurrences_view c.in_ok-push.ensures.items
    ∙ (map-append occurrence_view c.args.names.now.items (c.args.occurrence ∷ [])
    ∙ first_added (occurrences_view c.args.names.now.items) (occurrence_view c.args.occurrence)
    (ap (λ s. knows s c.args.occurrence.word.now.text) (sym c.requires)
    ∙ (ap (knows c.args.seen.now) (sym c.as_bytes-name.ensures) ∙ (sym c.knows.ensures ∙ c.if-knows.false))))
