use Rattle.std.proofs.Common.{◌≡◌, ◌∙◌, ap}
use Rattle.std.proofs.lemmas.Result.{IfOk-weaker}
use Rattle.cap_parse_tree.specs.Views.{function_view}
use Rattle.cap_resolve_spec.specs.Parts.{clause_parts, parameters}
use Rattle.cap_resolve_parts.specs.Views.{words_view, parts_view}
use Rattle.cap_resolve_tables.specs.Tables.{regions_of, functions_of}
use Rattle.cap_resolve_functions.proofs.FunctionNames.{function_is}
use Rattle.cap_resolve_functions.proofs.NarrowBodies.{is_narrow_by}
use Rattle.cap_resolve_functions.proofs.whole.build_function.Goals as goal

pub returns : goal.returns
returns c =
    let p : words_view c.as_slice-parameters.result.now ≡ parameters (function_view c.args.function.now) = ap words_view c.as_slice-parameters.ensures.value ∙ c.in_ok-words.ensures in
    let q : parts_view c.as_slice-parts.result.now ≡ clause_parts (function_view c.args.function.now).precondition = ap parts_view c.as_slice-parts.ensures.value ∙ (c.in_ok-listed.ensures ∙ ap clause_parts c.clause_of.ensures) in
    IfOk-weaker c.build_required.result _ _ (λ x h. h ∙ function_is (regions_of c.args.regions.now) (functions_of c.args.functions.now) (function_view c.args.function.now) (words_view c.as_slice-parameters.result.now) (parts_view c.as_slice-parts.result.now) p q) c.build_required.ensures

pub build_required-requires : goal.build_required-requires
build_required-requires c =
    let p : words_view c.as_slice-parameters.result.now ≡ parameters (function_view c.args.function.now) = ap words_view c.as_slice-parameters.ensures.value ∙ c.in_ok-words.ensures in
    let q : parts_view c.as_slice-parts.result.now ≡ clause_parts (function_view c.args.function.now).precondition = ap parts_view c.as_slice-parts.ensures.value ∙ (c.in_ok-listed.ensures ∙ ap clause_parts c.clause_of.ensures) in
    is_narrow_by (regions_of c.args.regions.now) (functions_of c.args.functions.now) (function_view c.args.function.now) c.requires.right c.requires.small (words_view c.as_slice-parameters.result.now) (parts_view c.as_slice-parts.result.now) p q
