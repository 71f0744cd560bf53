-- All candidates of a fact, in the order in which they are added.
use Rattle.std.proofs.Common.{◌≡◌, List, [], ◌∷◌, ◌++◌, map, fold, sym, ap, ◌∙◌}
use Rattle.std.specs.List.{flat_map}
use Rattle.cap_lin.specs.Linear.{Linear}
use Rattle.cap_lin.specs.declared.row.Op.TheVariants.{Eq as Equal}
use Rattle.cap_prog.specs.Program.{PlainRegionType}
use Rattle.cap_goal_spec.specs.States.{PlainFact, PlainState}
use Rattle.cap_goal_spec.specs.Candidates.{MadeRow, made_row, bounds, bounds_by, action_bounds, piece_bounds, all_candidates, later_state, PlainCandidate, candidate_of}
use Rattle.cap_stab_states.specs.Finding.{candidates_seen}
use Rattle.cap_stab_states.specs.Adding.{added, bounds_among, action_bounds_among}
use Rattle.cap_stab_states.proofs.Repeats.{found}
use Rattle.cap_stab_states.proofs.Bounds.{case-bounds, all-action-bounds, added-two}

pub all-found : (k : PlainRegionType) (s : PlainState) (f : PlainFact) (first both cases acts all : List PlainCandidate) → first ≡ added [] (candidate_of (made_row [] (later_state s) Equal f.state)) → both ≡ fold added first (map candidate_of (bounds (later_state s) [] f.state)) → cases ≡ fold added both (map candidate_of (flat_map (λ c. bounds_among k.params (f.region ∷ f.args) (later_state s) c.state) k.cases)) → acts ≡ fold added cases (map candidate_of (flat_map (action_bounds_among k.params (f.region ∷ f.args) (later_state s)) k.actions)) → all ≡ fold added acts (map candidate_of (flat_map (piece_bounds f (later_state s)) s.guards)) → all ≡ candidates_seen k s f
unfolding candidates_seen
all-found k s f first both cases acts all e1 e2 e3 e4 e5 =
    let u : Linear = later_state s in
    let base : List PlainCandidate = added [] (candidate_of (made_row [] u Equal f.state)) in
    let b : List MadeRow = bounds u [] f.state in
    let c : List MadeRow = flat_map (λ c. bounds_among k.params (f.region ∷ f.args) u c.state) k.cases in
    let a : List MadeRow = flat_map (action_bounds_among k.params (f.region ∷ f.args) u) k.actions in
    let q : List MadeRow = flat_map (piece_bounds f u) s.guards in
    let c' : List MadeRow = flat_map (λ c. bounds_by k f u c.state) k.cases in
    let a' : List MadeRow = flat_map (action_bounds k f u) k.actions in
    e5 ∙ (ap (λ l. fold added l (map candidate_of q)) (e4 ∙ (ap (λ l. fold added l (map candidate_of a)) (e3 ∙ ap (λ l. fold added l (map candidate_of c)) (e2 ∙ ap (λ l. fold added l (map candidate_of b)) e1))
    ∙ (added-two (fold added base (map candidate_of b)) c a
    ∙ (added-two base b (c ++ a)
    ∙ (ap (λ l. fold added base (map candidate_of (b ++ (l ++ a)))) (sym (case-bounds k f u k.cases))
    ∙ ap (λ l. fold added base (map candidate_of (b ++ (c' ++ l)))) (sym (all-action-bounds k f u k.actions)))))))
    ∙ (added-two base (b ++ (c' ++ a')) q ∙ found (all_candidates k f u ++ q)))
