use Rattle.std.proofs.Common.{ap, sym, ◌∙◌, ◌∷◌, ◌+◌, drop, fold, arith, ◌≡◌, not}
use Rattle.std.proofs.lemmas.Grind.{common_steps}
use Rattle.cap_resolve_spec.specs.Finding.{note, found_if, unknown}
use Rattle.cap_resolve_spec.specs.Names.{knows}
use Rattle.cap_resolve_spec.specs.Functions.{unknown_in}
use Rattle.cap_resolve_terms.specs.Views.{noted_view}
use Rattle.cap_resolve_parts.specs.Views.{words_view}
use Rattle.cap_resolve_findings.proofs.Noting.{unknown_step}
use Rattle.cap_resolve_findings.proofs.names.note_unknown_in.Goals as goal

pub loop-word-preserved : goal.loop-word-preserved
loop-word-preserved c =
    let e : drop c.loop-word.word-index c.args.words.now ≡ c.word-item.result ∷ drop (c.loop-word.word-index + 1) c.args.words.now = grind (arith, common_steps) in
    let w = c.word-item.result.now in
    let rest = words_view (drop (c.loop-word.word-index + 1) c.args.words.now) in
    ap (λ n. fold note n (unknown_in c.args.scope.now rest)) (c.note_if.ensures ∙ ap (λ x. fold note (noted_view c.loop-word.noted) (found_if (not c.knows.result) c.word-item.result.now.place (unknown x))) c.as_bytes-name.ensures)
    ∙ (unknown_step (noted_view c.loop-word.noted) c.knows.result c.args.scope.now w rest (c.knows.ensures ∙ ap (knows c.args.scope.now) c.as_bytes-name.ensures)
    ∙ (ap (λ ws. fold note (noted_view c.loop-word.noted) (unknown_in c.args.scope.now (words_view ws))) (sym e)
    ∙ c.loop-word.invariant))
