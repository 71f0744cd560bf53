use Rattle.std.proofs.Common.{ap, sym, ◌∙◌, ◌∷◌, ◌+◌, drop, fold, map, arith, ◌≡◌, ◌++◌, [], Some}
use Rattle.std.proofs.lemmas.Grind.{common_steps}
use Rattle.cap_resolve_spec.specs.Finding.{note, found_if, twice, twice_word}
use Rattle.cap_lin.specs.declared.row.Sort.TheVariants.{Int}
use Rattle.cap_resolve_spec.specs.Names.{knows}
use Rattle.cap_resolve_terms.specs.Views.{noted_view}
use Rattle.cap_resolve_parts.specs.Views.{words_view}
use Rattle.cap_resolve_findings.proofs.Noting.{repeated_by, repeats_all, repeat_step}
use Rattle.cap_resolve_findings.proofs.names.note_repeated.Goals as goal

pub loop-word-init : goal.loop-word-init
loop-word-init c =
    ap (λ s. fold note (noted_view c.args.noted.now) (map twice_word (repeated_by s (words_view c.args.words.now)))) c.new-seen.ensures
    ∙ ap (λ ws. fold note (noted_view c.args.noted.now) (map twice_word ws)) (repeats_all (words_view c.args.words.now))

pub loop-word-preserved : goal.loop-word-preserved
loop-word-preserved c =
    let e : drop c.loop-word.word-index c.args.words.now ≡ c.word-item.result ∷ drop (c.loop-word.word-index + 1) c.args.words.now = grind (arith, common_steps) in
    let w = c.word-item.result.now in
    let rest = words_view (drop (c.loop-word.word-index + 1) c.args.words.now) in
    ap (λ n. fold note n (map twice_word (repeated_by c.push.new.self rest))) (c.note_if.ensures ∙ ap (λ x. fold note (noted_view c.loop-word.noted) (found_if c.knows.result c.word-item.result.now.place (twice x))) c.as_bytes-name.ensures)
    ∙ (repeat_step (noted_view c.loop-word.noted) c.knows.result c.loop-word.seen c.push.new.self w rest (c.knows.ensures ∙ ap (knows c.loop-word.seen) c.as_bytes-name.ensures) (c.in_ok-push.ensures.pushed ∙ ap (λ x. c.loop-word.seen ++ Some (record { name = x; sort = Int }) ∷ []) c.as_bytes-name.ensures)
    ∙ (ap (λ ws. fold note (noted_view c.loop-word.noted) (map twice_word (repeated_by c.loop-word.seen (words_view ws)))) (sym e)
    ∙ c.loop-word.invariant))
