use Rattle.std.proofs.Common.{◌≡◌, ℕ, [], ◌∷◌, List, map, fold, ap, ◌∙◌}
use Rattle.std.specs.List.{flat_map}
use Rattle.cap_lin.specs.Linear.{Linear}
use Rattle.cap_lin.specs.declared.row.Op.TheVariants.{Eq as Equal}
use Rattle.cap_gsolve.specs.declared.piece.Piece.{Piece}
use Rattle.cap_prog.specs.declared.region.Case.{Case}
use Rattle.cap_prog.specs.declared.region.Action.{Action}
use Rattle.cap_prog.specs.Views.{case_view, action_view, region_view}
use Rattle.cap_goal_spec.specs.States.{PlainFact}
use Rattle.cap_goal_spec.specs.Candidates.{made_row, bounds, piece_bounds, later_state, PlainCandidate, candidate_of}
use Rattle.cap_stab_states.specs.Adding.{added, bounds_among, action_bounds_among}
use Rattle.cap_stab_states.specs.Views.{candidates_view}
use Rattle.cap_stab_states.proofs.Found.{all-found}
use Rattle.cap_stab_states.proofs.finding.candidates_of.Goals as goal

pub returns : goal.returns
returns c =
    let k = region_view c.args.region.now in
    let s = c.args.state.now in
    let f = c.args.fact.now in
    let n : ℕ = k.params in
    let u : c.in_ok-later.later ≡ later_state s = c.in_ok-later.ensures in
    let t : c.fact.inside.state ≡ f.state = ap (λ (g : PlainFact). g.state) c.fact.view_is in
    let names = c.in_ok-names.ensures in
    let one : Linear → Linear → PlainCandidate = λ x y. candidate_of (made_row [] x Equal y) in
    let both : Linear → Linear → List PlainCandidate = λ x y. fold added (candidates_view c.add_equal.new.all.items) (map candidate_of (bounds x [] y)) in
    let cases : List Linear → Linear → List Case → List PlainCandidate = λ ns x cs. fold added (candidates_view c.add_bounds.new.all.items) (map candidate_of (flat_map (λ z. bounds_among n ns x z.state) (map case_view cs))) in
    let actions : List Linear → Linear → List Action → List PlainCandidate = λ ns x xs. fold added (candidates_view c.add_case_bounds.new.all.items) (map candidate_of (flat_map (action_bounds_among n ns x) (map action_view xs))) in
    let whole : List Linear = f.region ∷ f.args in
    let spans : Linear → List Piece → List PlainCandidate = λ x ps. fold added (candidates_view c.add_action_bounds.new.all.items) (map candidate_of (flat_map (piece_bounds f x) ps)) in
    all-found k s f (candidates_view c.add_equal.new.all.items) (candidates_view c.add_bounds.new.all.items) (candidates_view c.add_case_bounds.new.all.items) (candidates_view c.add_action_bounds.new.all.items) (candidates_view c.add_span_bounds.new.all.items)
    (c.in_ok-add_equal.ensures ∙ (ap (λ l. added (candidates_view l) (one c.in_ok-later.later c.fact.inside.state)) c.new-all.ensures.items ∙ (ap (λ x. added [] (one x c.fact.inside.state)) u ∙ ap (λ y. added [] (one (later_state s) y)) t)))
    (c.in_ok-add_bounds.ensures ∙ (ap (λ x. both x c.fact.inside.state) u ∙ ap (both (later_state s)) t))
    (c.in_ok-add_case_bounds.ensures ∙ (ap (λ ns. cases ns c.in_ok-later.later c.deref-2.result.now) (c.deref.ensures.value ∙ names) ∙ (ap (λ x. cases whole x c.deref-2.result.now) u ∙ ap (cases whole (later_state s)) c.deref-2.ensures.value)))
    (c.in_ok-add_action_bounds.ensures ∙ (ap (λ ns. actions ns c.in_ok-later.later c.deref-4.result.now) (c.deref-3.ensures.value ∙ names) ∙ (ap (λ x. actions whole x c.deref-4.result.now) u ∙ ap (actions whole (later_state s)) c.deref-4.ensures.value)))
    (c.in_ok-add_span_bounds.ensures ∙ (ap (λ x. spans x c.guards.result.now) u ∙ ap (spans (later_state s)) c.guards.ensures))
