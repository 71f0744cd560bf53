use Rattle.std.proofs.Common.{◌≡◌, ◌∷◌, ◌+◌, drop, fold, flat_map, sym, ap, ◌∙◌, arith}
use Rattle.std.proofs.lemmas.Grind.{common_steps}
use Rattle.std.proofs.lemmas.List.Sums.{fold-append}
use Rattle.cap_parse_tree.specs.Views.{function_view}
use Rattle.cap_resolve_spec.specs.Finding.{note}
use Rattle.cap_resolve_spec.specs.Functions.{function_findings}
use Rattle.cap_resolve_terms.specs.Views.{noted_view}
use Rattle.cap_resolve_parts.specs.Views.{functions_view}
use Rattle.cap_resolve_tables.specs.Tables.{regions_of, functions_of}
use Rattle.cap_resolve_text.proofs.texts.note_functions.Goals as goal

pub loop-function-preserved : goal.loop-function-preserved
loop-function-preserved c =
    let items = c.deref-function-items.result.now in
    let e : drop c.loop-function.function-index items ≡ c.function-item.result ∷ drop (c.loop-function.function-index + 1) items = grind (arith, common_steps) in
    let one = function_findings (regions_of c.args.regions.now) (functions_of c.args.functions.now) in
    let rest = flat_map one (functions_view (drop (c.loop-function.function-index + 1) items)) in
    ap (λ n. fold note n rest) c.in_ok-note_function.ensures
    ∙ (sym (fold-append note (noted_view c.loop-function.noted) (one (function_view c.function-item.result.now)) rest)
    ∙ (ap (λ fs. fold note (noted_view c.loop-function.noted) (flat_map one (functions_view fs))) (sym e)
    ∙ c.loop-function.invariant))
