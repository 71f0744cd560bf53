use Rattle.std.proofs.Common.{◌≡◌, ◌∙◌, ◌+◌, ◌∷◌, fold, map, filter, drop, ap, sym, arith}
use Rattle.std.proofs.lemmas.Grind.{common_steps}
use Rattle.cap_resolve_spec.specs.Finding.{note, found_if, unknown, unknown_word}
use Rattle.cap_resolve_spec.specs.Regions.{is_lost}
use Rattle.cap_resolve_terms.specs.Views.{noted_view}
use Rattle.cap_resolve_parts.specs.Views.{words_view, word_seen}
use Rattle.cap_resolve_units.proofs.Lost.{lost_step}
use Rattle.cap_resolve_units.proofs.indices.note_lost.Goals as goal

pub loop-word-preserved : goal.loop-word-preserved
loop-word-preserved c =
    let e : drop c.loop-word.word-index c.args.words.now ≡ c.word-item.result ∷ drop (c.loop-word.word-index + 1) c.args.words.now = grind (arith, common_steps) in
    let lost = is_lost c.args.scope.now (word_seen c.args.source) (word_seen c.args.target) in
    let rest = words_view (drop (c.loop-word.word-index + 1) c.args.words.now) in
    ap (λ n. fold note n (map unknown_word (filter lost rest))) (c.note_if.ensures ∙ ap (λ x. fold note (noted_view c.loop-word.noted) (found_if c.is_lost-wrong.result c.word-item.result.now.place (unknown x))) c.as_bytes.ensures)
    ∙ (lost_step (noted_view c.loop-word.noted) c.is_lost-wrong.result lost c.word-item.result.now rest c.is_lost-wrong.ensures
    ∙ (ap (λ ws. fold note (noted_view c.loop-word.noted) (map unknown_word (filter lost (words_view ws)))) (sym e)
    ∙ c.loop-word.invariant))
