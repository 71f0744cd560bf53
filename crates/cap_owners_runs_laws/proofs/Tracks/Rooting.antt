-- A root of a valid derivation is where a frame begins: its tree is one of the derivation, and its
-- nodes are among those of the program.
use Rattle.std.proofs.Common.{◌≡◌, ℕ, zero, suc, List, [], ◌∷◌, Option, Some, None, sym, ap, ◌∙◌, subst}
use Rattle.std.specs.Prelude.{slice_get, unwrap_or, option_to_list}
use Rattle.std.specs.List.{AllZip}
use Rattle.cap_prog.specs.Program.{Items, PlainFunction, PlainProgram}
use Rattle.cap_goal_spec.specs.States.{PlainState, PlainTask, to_give, PlainGoal, goal_of}
use Rattle.cap_goal_spec.specs.Choices.{PlainTree, no_trees, tree}
use Rattle.cap_goal_spec.specs.Roots.{PlainUnit, function_unit, roots, all_roots}
use Rattle.cap_rules.specs.Valid.{RootDerives, Valid}
use Rattle.cap_rules_nodes.specs.Nodes.{GoalNode, root_nodes, all_root_nodes, program_nodes}
use Rattle.cap_account_resources.proofs.Lists.{some-same, none-some, among-left, among-right}
use Rattle.cap_account_states.specs.Nodes.{Children}
use Rattle.cap_outline_laws.proofs.Listed.{AreAmong, Listed}
use Rattle.cap_owners_spec.specs.Track.{Place}
use Rattle.cap_owners_spec.specs.Steps.{Proved, place_of, root_at}
use Rattle.cap_owners_walks_laws.proofs.Walks.Rooted.{function-rooted}
use Rattle.cap_owners_runs_laws.proofs.Tracks.Tied.{nodes_of}
use Rattle.cap_owners_runs_laws.proofs.Tracks.Roots.{IsRoot}

module _ (p : PlainProgram) (all : List GoalNode) where
  place-listed :
      (g : Option PlainGoal) (t : Option PlainTree) (q : Place) → RootDerives p t g →
      AreAmong (root_nodes p t g) all → place_of g t ≡ Some q →
      Listed p all q.tree q.goal.state q.goal.tasks
  place-listed None t q h f e = absurd (none-some e)
  place-listed (Some g) None q h f e = absurd (none-some e)
  place-listed (Some g) (Some t) q h f e =
      subst (λ (x : Place). Listed p all x.tree x.goal.state x.goal.tasks)
      (some-same (record { goal = g; tree = t }) q e) ((1, h), f)

  places-listed :
      (ts : List (Option PlainTree)) (gs : List (Option PlainGoal)) (n : ℕ) (q : Place) →
      AllZip (RootDerives p) ts gs → AreAmong (all_root_nodes p ts gs) all →
      place_of (unwrap_or (slice_get gs n) None) (unwrap_or (slice_get ts n) None) ≡ Some q →
      Listed p all q.tree q.goal.state q.goal.tasks
  places-listed ts [] n q h f e = absurd (none-some e)
  places-listed [] (g ∷ gs) n q h f e = absurd h
  places-listed (t ∷ ts) (g ∷ gs) zero q h f e =
      place-listed g t q h.0
      (λ n m. f n (among-left n (root_nodes p t g) (all_root_nodes p ts gs) m)) e
  places-listed (t ∷ ts) (g ∷ gs) (suc n) q h f e =
      places-listed ts gs n q h.1
      (λ n m. f n (among-right n (root_nodes p t g) (all_root_nodes p ts gs) m)) e

module _ (program : PlainProgram) (trees : List (Option PlainTree)) (valid : Valid program trees)
  where
    abbrev d : Proved
    d = record { program = program; trees = trees }

    -- the tree of a root derives, and its nodes are those of the program
    pub root-node :
        (u : PlainUnit) (i : ℕ) (q : Place) →
        root_at (record { program = program; trees = trees }) u i ≡ Some q →
        (nodes_of program trees).N q.tree q.goal.state q.goal.tasks
    unfolding program_nodes
    root-node u i q e =
        places-listed program (program_nodes program trees) trees (all_roots program) _ q
        valid.derivations (λ n m. m) e

    -- a root that gives something, and then has these tasks
    pub is-root :
        (n : ℕ) (f : PlainFunction) → slice_get program.functions n ≡ Some f → (i : ℕ)
        (s : PlainState) (items : Items) (ts : List PlainTask) (g : PlainGoal) →
        goal_of s (to_give items 0 0 ∷ ts) ≡ Some g →
        slice_get (roots program (function_unit n)) i
        ≡ Some (goal_of s (to_give items 0 0 ∷ ts)) →
        (q : Place) →
        root_at (record { program = program; trees = trees }) (function_unit n) i ≡ Some q →
        IsRoot (nodes_of program trees) trees q s (to_give items 0 0 ∷ ts)
    is-root n f is i s items ts g has at q e =
        let r = function-rooted program trees valid n f is i g (at ∙ ap Some has) in
        let same : g ≡ q.goal = ap (λ (x : Place). x.goal)
        (some-same (record { goal = g; tree = r.tree }) q (sym r.is_root ∙ e)) in
        let goals : option_to_list (goal_of s (to_give items 0 0 ∷ ts)) ≡ q.goal ∷ [] =
        ap option_to_list has ∙ ap (λ x. x ∷ []) same in
        record {
          goes =
              subst (Children (nodes_of program trees).N (tree q.tree no_trees)) (sym goals)
              (root-node (function_unit n) i q e, tt);
          goal_is = goals;
        }
