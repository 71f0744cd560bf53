use Rattle.std.proofs.Common.{◌≡◌, ◌∙◌, ◌++◌, sym, ap, subst}
use Rattle.std.proofs.lemmas.Result.{IfOk-weaker}
use Rattle.cap_parse_tree.specs.Views.{function_view}
use Rattle.cap_resolve_spec.specs.Parts.{block_parts}
use Rattle.cap_resolve_spec.specs.Items.{types_told}
use Rattle.cap_resolve_parts.specs.Views.{words_view, parts_view, statements_view}
use Rattle.cap_resolve_tables.specs.Tables.{regions_of, functions_of, typed_names}
use Rattle.cap_resolve_tables.specs.Views.{occurrences_view}
use Rattle.cap_resolve_functions.specs.Functions.{fixed_in, named_by, function_built}
use Rattle.cap_resolve_functions.specs.Narrow.{IsNarrowBuilt}
use Rattle.cap_resolve_functions.proofs.whole.build_required.Goals as goal

pub returns : goal.returns
returns c =
    let t : typed_names c.in_ok-types.types ≡ types_told (regions_of c.args.regions.now) (parts_view c.args.parts.now) = c.in_ok-types.ensures in
    let x : occurrences_view c.as_slice-fixed.result.now ≡ fixed_in (words_view c.args.parameters.now) (types_told (regions_of c.args.regions.now) (parts_view c.args.parts.now)) (parts_view c.args.parts.now) =
    ap occurrences_view c.as_slice-fixed.ensures.value ∙ (c.in_ok-bound.ensures ∙ ap (λ ts. fixed_in (words_view c.args.parameters.now) ts (parts_view c.args.parts.now)) t) in
    let s : statements_view c.as_slice-statements.result.now ≡ block_parts (function_view c.args.function.now).body =
    ap statements_view c.as_slice-statements.ensures.value ∙ (c.in_ok-push_block.ensures ∙ ap (λ xs. statements_view xs ++ block_parts (function_view c.args.function.now).body) c.new-all.ensures.items) in
    IfOk-weaker c.build_stated.result _ _
    (λ f h. h
    ∙ (ap (λ ts. function_built (regions_of c.args.regions.now) (functions_of c.args.functions.now) ts (named_by (words_view c.args.parameters.now) (occurrences_view c.as_slice-fixed.result.now) (statements_view c.as_slice-statements.result.now)) (function_view c.args.function.now)) t
    ∙ (ap (λ os. function_built (regions_of c.args.regions.now) (functions_of c.args.functions.now) (types_told (regions_of c.args.regions.now) (parts_view c.args.parts.now)) (named_by (words_view c.args.parameters.now) os (statements_view c.as_slice-statements.result.now)) (function_view c.args.function.now)) x
    ∙ ap (λ ss. function_built (regions_of c.args.regions.now) (functions_of c.args.functions.now) (types_told (regions_of c.args.regions.now) (parts_view c.args.parts.now)) (named_by (words_view c.args.parameters.now) (fixed_in (words_view c.args.parameters.now) (types_told (regions_of c.args.regions.now) (parts_view c.args.parts.now)) (parts_view c.args.parts.now)) ss) (function_view c.args.function.now)) s)))
    c.build_stated.ensures

pub build_stated-requires : goal.build_stated-requires
build_stated-requires c =
    let t : typed_names c.in_ok-types.types ≡ types_told (regions_of c.args.regions.now) (parts_view c.args.parts.now) = c.in_ok-types.ensures in
    let x : occurrences_view c.as_slice-fixed.result.now ≡ fixed_in (words_view c.args.parameters.now) (types_told (regions_of c.args.regions.now) (parts_view c.args.parts.now)) (parts_view c.args.parts.now) =
    ap occurrences_view c.as_slice-fixed.ensures.value ∙ (c.in_ok-bound.ensures ∙ ap (λ ts. fixed_in (words_view c.args.parameters.now) ts (parts_view c.args.parts.now)) t) in
    let s : statements_view c.as_slice-statements.result.now ≡ block_parts (function_view c.args.function.now).body =
    ap statements_view c.as_slice-statements.ensures.value ∙ (c.in_ok-push_block.ensures ∙ ap (λ xs. statements_view xs ++ block_parts (function_view c.args.function.now).body) c.new-all.ensures.items) in
    subst (λ ts. IsNarrowBuilt (regions_of c.args.regions.now) (functions_of c.args.functions.now) ts (named_by (words_view c.args.parameters.now) (occurrences_view c.as_slice-fixed.result.now) (statements_view c.as_slice-statements.result.now)) (function_view c.args.function.now)) (sym t)
    (subst (λ os. IsNarrowBuilt (regions_of c.args.regions.now) (functions_of c.args.functions.now) (types_told (regions_of c.args.regions.now) (parts_view c.args.parts.now)) (named_by (words_view c.args.parameters.now) os (statements_view c.as_slice-statements.result.now)) (function_view c.args.function.now)) (sym x)
    (subst (λ ss. IsNarrowBuilt (regions_of c.args.regions.now) (functions_of c.args.functions.now) (types_told (regions_of c.args.regions.now) (parts_view c.args.parts.now)) (named_by (words_view c.args.parameters.now) (fixed_in (words_view c.args.parameters.now) (types_told (regions_of c.args.regions.now) (parts_view c.args.parts.now)) (parts_view c.args.parts.now)) ss) (function_view c.args.function.now)) (sym s)
    c.requires))
