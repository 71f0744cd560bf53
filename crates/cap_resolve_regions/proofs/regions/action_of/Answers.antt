use Rattle.std.proofs.Common.{◌≡◌, ◌∙◌, ◌++◌, sym, ap, subst}
use Rattle.std.proofs.lemmas.Result.{IfOk-weaker}
use Rattle.cap_parse_tree.specs.Views.{action_view}
use Rattle.cap_resolve_spec.specs.Items.{scope_of}
use Rattle.cap_resolve_spec.specs.Regions.{parameters_scope, action_known}
use Rattle.cap_resolve_tables.specs.Tables.{numbered_view}
use Rattle.cap_resolve_tables.specs.Views.{occurrences_view}
use Rattle.cap_resolve_regions.specs.Cases.{IsNarrowAction, known_by_action, action_built}
use Rattle.cap_resolve_regions.proofs.KnownNames.{action_names}
use Rattle.cap_resolve_regions.proofs.NarrowParts.{action_narrow}
use Rattle.cap_resolve_regions.proofs.regions.action_of.Goals as goal

pub returns : goal.returns
returns c =
    let n : occurrences_view c.as_slice-known.result.now ≡ action_known (numbered_view c.args.region) (action_view c.args.action.now) =
    ap occurrences_view c.as_slice-known.ensures.value
    ∙ (c.in_ok-names.ensures
    ∙ (ap (λ s. known_by_action s (numbered_view c.args.region) (action_view c.args.action.now)) c.requires.parameters
    ∙ action_names (numbered_view c.args.region) (action_view c.args.action.now))) in
    IfOk-weaker c.build_action.result _ _
    (λ a h. h
    ∙ (ap (λ s. action_built (numbered_view c.args.region) s (occurrences_view c.as_slice-known.result.now) (action_view c.args.action.now)) (c.in_ok-scope.ensures ∙ ap (λ s. s ++ scope_of (occurrences_view c.as_slice-known.result.now)) c.requires.parameters)
    ∙ ap (λ os. action_built (numbered_view c.args.region) (parameters_scope (numbered_view c.args.region) ++ scope_of os) os (action_view c.args.action.now)) n))
    c.build_action.ensures

pub build_action-requires : goal.build_action-requires
build_action-requires c =
    let n : occurrences_view c.as_slice-known.result.now ≡ action_known (numbered_view c.args.region) (action_view c.args.action.now) =
    ap occurrences_view c.as_slice-known.ensures.value
    ∙ (c.in_ok-names.ensures
    ∙ (ap (λ s. known_by_action s (numbered_view c.args.region) (action_view c.args.action.now)) c.requires.parameters
    ∙ action_names (numbered_view c.args.region) (action_view c.args.action.now))) in
    subst (λ s. IsNarrowAction s (action_view c.args.action.now))
    (sym (c.in_ok-scope.ensures
    ∙ (ap (λ s. s ++ scope_of (occurrences_view c.as_slice-known.result.now)) c.requires.parameters
    ∙ ap (λ os. parameters_scope (numbered_view c.args.region) ++ scope_of os) n)))
    (action_narrow (numbered_view c.args.region) (action_view c.args.action.now) c.requires.nothing)
