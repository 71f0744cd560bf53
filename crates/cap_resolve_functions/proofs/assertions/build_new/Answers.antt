use Rattle.std.proofs.Common.{◌≡◌, ◌∙◌, List, ◌++◌, filter, Option, sym, ap, subst}
use Rattle.std.proofs.lemmas.Result.{IfOk-weaker}
use Rattle.cap_lin.specs.declared.row.Sort.{Sort}
use Rattle.cap_prog.specs.Program.{PlainAssertion}
use Rattle.cap_parse_tree.specs.Tree.{ClauseTree, RegionTree}
use Rattle.cap_resolve_spec.specs.Parts.{clause_parts}
use Rattle.cap_resolve_spec.specs.Names.{NameScope}
use Rattle.cap_resolve_spec.specs.Items.{TypedName, types_told, is_bound, occurrences, new_names, scope_of}
use Rattle.cap_resolve_spec.specs.Functions.{clause_types, clause_bound, clause_scope}
use Rattle.cap_resolve_spec.specs.Program.{clause_program, occurrence_sorts}
use Rattle.cap_resolve_parts.specs.Views.{clause_seen, parts_view}
use Rattle.cap_resolve_tables.specs.Tables.{regions_of, typed_names}
use Rattle.cap_resolve_tables.specs.Views.{occurrences_view}
use Rattle.cap_resolve_functions.specs.Bodies.{context_seen}
use Rattle.cap_resolve_functions.specs.Narrow.{IsNarrowClause}
use Rattle.cap_resolve_functions.proofs.assertions.build_new.Goals as goal

abbrev read_with : List RegionTree → Option ClauseTree → List Sort → List TypedName → NameScope → PlainAssertion
read_with rs clause names types scope = record { names = names; items = clause_program rs types scope clause }

pub build_assertion-requires : goal.build_assertion-requires
build_assertion-requires c =
    let p : parts_view c.as_slice.result.now ≡ clause_parts (clause_seen c.args.clause) = ap parts_view c.as_slice.ensures.value ∙ c.in_ok-parts.ensures in
    let q : parts_view c.as_slice-2.result.now ≡ clause_parts (clause_seen c.args.clause) = ap parts_view c.as_slice-2.ensures.value ∙ c.in_ok-parts.ensures in
    let t : typed_names c.in_ok-told.told ≡ types_told (regions_of c.args.body.now.regions.now) (clause_parts (clause_seen c.args.clause)) = c.in_ok-told.ensures ∙ ap (types_told (regions_of c.args.body.now.regions.now)) p in
    let o : occurrences_view c.in_ok-bound.bound.items ≡ clause_bound (context_seen c.args.body.now) c.args.known.now (clause_seen c.args.clause) =
    c.in_ok-bound.ensures
    ∙ (ap (λ xs. filter is_bound (occurrences_view xs)) c.as_slice-3.ensures.value
    ∙ (ap (filter is_bound) c.in_ok-new.ensures
    ∙ (ap (λ ts. filter is_bound (new_names c.args.known.now (occurrences (typed_names c.args.body.now.types.now ++ ts) (parts_view c.as_slice-2.result.now)))) t
    ∙ ap (λ ps. filter is_bound (new_names c.args.known.now (occurrences (clause_types (context_seen c.args.body.now) (clause_seen c.args.clause)) ps))) q))) in
    subst (λ s. IsNarrowClause s (clause_seen c.args.clause))
    (sym (c.in_ok-scope.ensures ∙ (ap (λ xs. c.args.known.now ++ scope_of (occurrences_view xs)) c.as_slice-4.ensures.value ∙ ap (λ os. c.args.known.now ++ scope_of os) o)))
    c.requires

pub returns : goal.returns
returns c =
    let p : parts_view c.as_slice.result.now ≡ clause_parts (clause_seen c.args.clause) = ap parts_view c.as_slice.ensures.value ∙ c.in_ok-parts.ensures in
    let q : parts_view c.as_slice-2.result.now ≡ clause_parts (clause_seen c.args.clause) = ap parts_view c.as_slice-2.ensures.value ∙ c.in_ok-parts.ensures in
    let t : typed_names c.in_ok-told.told ≡ types_told (regions_of c.args.body.now.regions.now) (clause_parts (clause_seen c.args.clause)) = c.in_ok-told.ensures ∙ ap (types_told (regions_of c.args.body.now.regions.now)) p in
    let o : occurrences_view c.in_ok-bound.bound.items ≡ clause_bound (context_seen c.args.body.now) c.args.known.now (clause_seen c.args.clause) =
    c.in_ok-bound.ensures
    ∙ (ap (λ xs. filter is_bound (occurrences_view xs)) c.as_slice-3.ensures.value
    ∙ (ap (filter is_bound) c.in_ok-new.ensures
    ∙ (ap (λ ts. filter is_bound (new_names c.args.known.now (occurrences (typed_names c.args.body.now.types.now ++ ts) (parts_view c.as_slice-2.result.now)))) t
    ∙ ap (λ ps. filter is_bound (new_names c.args.known.now (occurrences (clause_types (context_seen c.args.body.now) (clause_seen c.args.clause)) ps))) q))) in
    let s : c.in_ok-scope.scope ≡ clause_scope (context_seen c.args.body.now) c.args.known.now (clause_seen c.args.clause) = c.in_ok-scope.ensures ∙ (ap (λ xs. c.args.known.now ++ scope_of (occurrences_view xs)) c.as_slice-4.ensures.value ∙ ap (λ os. c.args.known.now ++ scope_of os) o) in
    let m : c.in_ok-names.names.items ≡ occurrence_sorts (clause_bound (context_seen c.args.body.now) c.args.known.now (clause_seen c.args.clause)) = c.in_ok-names.ensures ∙ (ap (λ xs. occurrence_sorts (occurrences_view xs)) c.as_slice-5.ensures.value ∙ ap occurrence_sorts o) in
    IfOk-weaker c.build_assertion.result _ _
    (λ a h. h
    ∙ (ap (λ ns. read_with (regions_of c.args.body.now.regions.now) (clause_seen c.args.clause) ns (typed_names c.args.body.now.types.now ++ typed_names c.in_ok-told.told) c.in_ok-scope.scope) m
    ∙ (ap (λ ts. read_with (regions_of c.args.body.now.regions.now) (clause_seen c.args.clause) (occurrence_sorts (clause_bound (context_seen c.args.body.now) c.args.known.now (clause_seen c.args.clause))) (typed_names c.args.body.now.types.now ++ ts) c.in_ok-scope.scope) t
    ∙ ap (λ sc. read_with (regions_of c.args.body.now.regions.now) (clause_seen c.args.clause) (occurrence_sorts (clause_bound (context_seen c.args.body.now) c.args.known.now (clause_seen c.args.clause))) (clause_types (context_seen c.args.body.now) (clause_seen c.args.clause)) sc) s)))
    c.build_assertion.ensures
