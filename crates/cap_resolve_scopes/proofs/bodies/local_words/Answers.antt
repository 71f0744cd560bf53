use Rattle.std.proofs.Common.{ap, sym, ◌∙◌, [], ◌∷◌, ◌+◌, drop, arith, ◌≡◌, fold, filter}
use Rattle.std.proofs.lemmas.Grind.{common_steps}
use Rattle.cap_resolve_spec.specs.Names.{with_first, word_text}
use Rattle.cap_resolve_parts.specs.Views.{words_view}
use Rattle.cap_resolve_scopes.specs.Lists.{is_known_local, with_wanted}
use Rattle.cap_resolve_scopes.proofs.Locals.{local_step}
use Rattle.cap_resolve_scopes.proofs.bodies.local_words.Goals as goal

pub loop-word-preserved : goal.loop-word-preserved
loop-word-preserved c =
    let e : drop c.loop-word.word-index c.args.words.now ≡ c.word-item.result ∷ drop (c.loop-word.word-index + 1) c.args.words.now = grind (arith, common_steps) in (
      local_step c.args.destinations.now c.args.given.now (words_view c.push_wanted.new.locals.items) (words_view c.loop-word.locals.items) c.word-item.result.now (words_view (drop (c.loop-word.word-index + 1) c.args.words.now)) (c.in_ok-push_wanted.ensures.added ∙ ap (λ b. with_wanted b (words_view c.loop-word.locals.items) c.word-item.result.now) c.is_local-wanted.ensures)
          ∙ (ap (λ ws. fold (with_first word_text) (words_view c.loop-word.locals.items) (filter (is_known_local c.args.destinations.now c.args.given.now) (words_view ws))) (sym e)
          ∙ c.loop-word.invariant.0),
      c.in_ok-push_wanted.ensures.seen,
    )
