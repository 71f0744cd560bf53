-- A walk from a node of a derivation comes to nodes of it alone.
use Rattle.std.proofs.Common.{zero, suc, Bool, true, false, List, [], ◌∷◌, Option, Some, None}
use Rattle.std.specs.Prelude.{unwrap_or, IsSomeAnd}
use Rattle.cap_rules.specs.cap_goal_spec.States.{PlainGoal}
use Rattle.cap_rules.specs.cap_goal_spec.Choices.{PlainChoice, PlainTree, node, PlainTrees, no_trees, tree}
use Rattle.cap_rules.specs.Answers.{marks_of}
use Rattle.cap_rules.specs.Rules.{rule}
use Rattle.cap_rules_nodes.specs.Nodes.{goals_left}
use Rattle.cap_account_states.specs.Nodes.{NodePredicate, Children}
use Rattle.cap_account_states.proofs.Checked.{Checked}
use Rattle.cap_machine.specs.declared.event.Event.{Event}
use Rattle.cap_owners_spec.specs.Traced.{Traced, traced, past_width, untold, ◌>>=◌}
use Rattle.cap_owners_spec.specs.Track.{Fill, Place, TrackedRegion, TrackedFrame}
use Rattle.cap_owners_spec.specs.Walks.{Walk, Descent, descends, Interpreting, pass_tasks, stops, Halt, stands, leaves, stop_or, walk, walk_below, walk_from}
use Rattle.cap_owners_spec.specs.Steps.{Proved, beginning, fill_now, interpreted, frame_walk}

abbrev pub IsNodeAt : NodePredicate → Place → Type 0
IsNodeAt N q = N q.tree q.goal.state q.goal.tasks

-- where it stops there is such a node
abbrev pub StopsIn : NodePredicate → Traced Halt → Type 0
StopsIn N (traced (stands q w)) = IsNodeAt N q
StopsIn N (traced (leaves w)) = Unit {0}
StopsIn N past_width = Unit {0}
StopsIn N untold = Unit {0}

module _ (p : Checked) where
  came :
      (ks : PlainTrees) (o : Option (List PlainGoal)) → IsSomeAnd o (Children p.N ks) →
      Children p.N ks (unwrap_or o [])
  came ks None h = absurd h
  came ks (Some gs) h = h

  -- below a node are nodes of what its choice leaves
  pub left-children :
      (c : PlainChoice) (ks : PlainTrees) (g : PlainGoal) → p.N (node c ks) g.state g.tasks →
      Children p.N ks (goals_left p.program g c)
  unfolding goals_left
  left-children c ks g h = came ks (rule p.program g c (marks_of c)).value (p.step h).1

  stops-or :
      (q : Place) (w : Walk) (below : Traced Halt) (stop : Bool) → IsNodeAt p.N q →
      StopsIn p.N below → StopsIn p.N (stop_or stop q w below)
  stops-or q w below true h k = h
  stops-or q w below false h k = k

  module _ (enter : Interpreting) (b : Bool) where
    mutual
      walk-stops :
          (t : PlainTree) (g : PlainGoal) (w : Walk) → p.N t g.state g.tasks →
          StopsIn p.N (walk enter p.program b t g w)
      walk-stops (node c ts) g w h =
          stops-or (record { goal = g; tree = node c ts }) w
          (walk_below enter p.program b ts (goals_left p.program g c)
          (pass_tasks enter p.program g.state c g.tasks w)) (stops b g.tasks w) h
          (below-stops ts (goals_left p.program g c)
          (pass_tasks enter p.program g.state c g.tasks w) (left-children c ts g h))

      below-stops :
          (ts : PlainTrees) (gs : List PlainGoal) (o : Traced Descent) → Children p.N ts gs →
          StopsIn p.N (walk_below enter p.program b ts gs o)
      below-stops (tree t ts) (g ∷ gs) (traced (descends (Some zero) w)) h = walk-stops t g w h.0
      below-stops (tree t ts) (g ∷ gs) (traced (descends (Some (suc i)) w)) h =
          below-stops ts gs (traced (descends (Some i) w)) h.1
      below-stops (tree t ts) (g ∷ gs) (traced (descends None w)) h = tt
      below-stops (tree t ts) [] (traced (descends i w)) h = tt
      below-stops no_trees gs (traced (descends i w)) h = tt
      below-stops ts gs past_width h = tt
      below-stops ts gs untold h = tt

    pub walk-from-stops :
        (q : Place) (w : Walk) → IsNodeAt p.N q → StopsIn p.N (walk_from enter p.program b q w)
    walk-from-stops q w h = walk-stops q.tree q.goal w h

-- so does a frame's, from its seat, with any steps
pub frame-stops :
    (p : Checked) (trees : List (Option PlainTree)) (b : Bool) (rs : List TrackedRegion)
    (f : TrackedFrame) (since : List Event) → IsNodeAt p.N f.seat →
    StopsIn p.N (frame_walk (record { program = p.program; trees = trees }) b rs f since)
frame-stops p trees b rs f since h = by (fill_now d rs f.given)
  where
    d : Proved
    d = record { program = p.program; trees = trees }

    by :
        (o : Traced (Option Fill)) →
        StopsIn p.N (o >>= λ fill.
        walk_from (interpreted d) d.program b f.seat (beginning rs f.values [] fill since))
    by (traced fill) =
        walk-from-stops p (interpreted d) b f.seat (beginning rs f.values [] fill since) h
    by past_width = tt
    by untold = tt
