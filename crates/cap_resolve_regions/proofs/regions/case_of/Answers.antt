use Rattle.std.proofs.Common.{◌≡◌, ◌∙◌, ◌∷◌, ◌++◌, sym, ap, subst}
use Rattle.std.proofs.lemmas.Result.{IfOk-weaker}
use Rattle.cap_parse_tree.specs.Views.{case_view}
use Rattle.cap_resolve_spec.specs.Parts.{placed_items}
use Rattle.cap_resolve_spec.specs.Items.{scope_of, typed, types_told}
use Rattle.cap_resolve_spec.specs.Regions.{parameters_scope, own_name, case_types, case_known}
use Rattle.cap_resolve_parts.specs.Views.{parts_view}
use Rattle.cap_resolve_tables.specs.Tables.{regions_of, numbered_view, typed_names}
use Rattle.cap_resolve_tables.specs.Views.{occurrences_view}
use Rattle.cap_resolve_regions.specs.Cases.{IsNarrowCase, known_by_case, case_built}
use Rattle.cap_resolve_regions.proofs.KnownNames.{case_names}
use Rattle.cap_resolve_regions.proofs.NarrowParts.{case_narrow}
use Rattle.cap_resolve_regions.proofs.regions.case_of.Goals as goal

pub returns : goal.returns
returns c =
    let p : parts_view c.as_slice-parts.result.now ≡ placed_items (case_view c.args.case.now).assertion = ap parts_view c.as_slice-parts.ensures.value ∙ c.in_ok-placed.ensures in
    let t : typed_names c.in_ok-told.told ≡ case_types (regions_of c.args.regions.now) (numbered_view c.args.region) (case_view c.args.case.now) =
    c.in_ok-told.ensures
    ∙ (ap (λ x. typed x (numbered_view c.args.region) ∷ types_told (regions_of c.args.regions.now) (parts_view c.as_slice-parts.result.now)) c.as_bytes.ensures
    ∙ ap (λ ps. typed (own_name (numbered_view c.args.region)).text (numbered_view c.args.region) ∷ types_told (regions_of c.args.regions.now) ps) p) in
    let n : occurrences_view c.as_slice-known.result.now ≡ case_known (regions_of c.args.regions.now) (numbered_view c.args.region) (case_view c.args.case.now) =
    ap occurrences_view c.as_slice-known.ensures.value
    ∙ (c.in_ok-names.ensures
    ∙ (ap (λ s. known_by_case s (typed_names c.in_ok-told.told) (parts_view c.as_slice-parts.result.now) (case_view c.args.case.now)) c.requires.parameters
    ∙ (ap (λ ts. known_by_case (parameters_scope (numbered_view c.args.region)) ts (parts_view c.as_slice-parts.result.now) (case_view c.args.case.now)) t
    ∙ (ap (λ ps. known_by_case (parameters_scope (numbered_view c.args.region)) (case_types (regions_of c.args.regions.now) (numbered_view c.args.region) (case_view c.args.case.now)) ps (case_view c.args.case.now)) p
    ∙ case_names (regions_of c.args.regions.now) (numbered_view c.args.region) (case_view c.args.case.now))))) in
    IfOk-weaker c.build_case.result _ _
    (λ a h. h
    ∙ (ap (λ ts. case_built (regions_of c.args.regions.now) ts c.in_ok-scope.scope (occurrences_view c.as_slice-known.result.now) (case_view c.args.case.now)) t
    ∙ (ap (λ s. case_built (regions_of c.args.regions.now) (case_types (regions_of c.args.regions.now) (numbered_view c.args.region) (case_view c.args.case.now)) s (occurrences_view c.as_slice-known.result.now) (case_view c.args.case.now)) (c.in_ok-scope.ensures ∙ ap (λ s. s ++ scope_of (occurrences_view c.as_slice-known.result.now)) c.requires.parameters)
    ∙ ap (λ os. case_built (regions_of c.args.regions.now) (case_types (regions_of c.args.regions.now) (numbered_view c.args.region) (case_view c.args.case.now)) (parameters_scope (numbered_view c.args.region) ++ scope_of os) os (case_view c.args.case.now)) n)))
    c.build_case.ensures

pub build_case-requires : goal.build_case-requires
build_case-requires c =
    let p : parts_view c.as_slice-parts.result.now ≡ placed_items (case_view c.args.case.now).assertion = ap parts_view c.as_slice-parts.ensures.value ∙ c.in_ok-placed.ensures in
    let t : typed_names c.in_ok-told.told ≡ case_types (regions_of c.args.regions.now) (numbered_view c.args.region) (case_view c.args.case.now) =
    c.in_ok-told.ensures
    ∙ (ap (λ x. typed x (numbered_view c.args.region) ∷ types_told (regions_of c.args.regions.now) (parts_view c.as_slice-parts.result.now)) c.as_bytes.ensures
    ∙ ap (λ ps. typed (own_name (numbered_view c.args.region)).text (numbered_view c.args.region) ∷ types_told (regions_of c.args.regions.now) ps) p) in
    let n : occurrences_view c.as_slice-known.result.now ≡ case_known (regions_of c.args.regions.now) (numbered_view c.args.region) (case_view c.args.case.now) =
    ap occurrences_view c.as_slice-known.ensures.value
    ∙ (c.in_ok-names.ensures
    ∙ (ap (λ s. known_by_case s (typed_names c.in_ok-told.told) (parts_view c.as_slice-parts.result.now) (case_view c.args.case.now)) c.requires.parameters
    ∙ (ap (λ ts. known_by_case (parameters_scope (numbered_view c.args.region)) ts (parts_view c.as_slice-parts.result.now) (case_view c.args.case.now)) t
    ∙ (ap (λ ps. known_by_case (parameters_scope (numbered_view c.args.region)) (case_types (regions_of c.args.regions.now) (numbered_view c.args.region) (case_view c.args.case.now)) ps (case_view c.args.case.now)) p
    ∙ case_names (regions_of c.args.regions.now) (numbered_view c.args.region) (case_view c.args.case.now))))) in
    subst (λ s. IsNarrowCase s (case_view c.args.case.now))
    (sym (c.in_ok-scope.ensures
    ∙ (ap (λ s. s ++ scope_of (occurrences_view c.as_slice-known.result.now)) c.requires.parameters
    ∙ ap (λ os. parameters_scope (numbered_view c.args.region) ++ scope_of os) n)))
    (case_narrow (regions_of c.args.regions.now) (numbered_view c.args.region) (case_view c.args.case.now) c.requires.nothing)
