use Rattle.std.proofs.Common.{ap, sym, ◌∙◌, [], ◌∷◌}
use Rattle.std.specs.Borrow.{Bor}
use Rattle.std.proofs.lemmas.List.{map-append}
use Rattle.cap_parse_tree.specs.declared.word.Word.{Word}
use Rattle.cap_resolve_spec.specs.Names.{knows}
use Rattle.cap_resolve_parts.specs.Views.{words_view}
use Rattle.cap_resolve_scopes.proofs.Locals.{word_kept, word_added}
use Rattle.cap_resolve_scopes.proofs.bodies.push_first.Goals as goal

pub returns-then-knows-clause-added : goal.returns-then-knows-clause-added
returns-then-knows-clause-added c =
    word_kept (words_view c.args.locals.now.items) c.args.word.now
    (ap (λ s. knows s c.args.word.now.text) (sym c.requires)
    ∙ (ap (knows c.args.seen.now) (sym c.as_bytes-name.ensures) ∙ (sym c.knows.ensures ∙ c.if-knows.true)))

pub returns-clause-added : goal.returns-clause-added
returns-clause-added c =
    ap words_view c.in_ok-push.ensures.items
    ∙ (map-append (λ (w : Bor Word). w.now) c.args.locals.now.items (c.args.word ∷ [])
    ∙ word_added (words_view c.args.locals.now.items) c.args.word.now
    (ap (λ s. knows s c.args.word.now.text) (sym c.requires)
    ∙ (ap (knows c.args.seen.now) (sym c.as_bytes-name.ensures) ∙ (sym c.knows.ensures ∙ c.if-knows.false))))
