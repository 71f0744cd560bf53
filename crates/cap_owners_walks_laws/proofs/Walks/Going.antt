-- A walk with further steps to come goes on where the walk without them stops.
use Rattle.std.proofs.Common.{◌≡◌, zero, suc, ◌&&◌, Bool, true, false, List, [], ◌∷◌, ◌++◌, Some, None, refl, ap, ◌∙◌}
use Rattle.cap_rules.specs.cap_goal_spec.cap_prog.Program.{PlainProgram}
use Rattle.cap_rules.specs.cap_goal_spec.States.{PlainTask, to_run, to_turn, to_give, to_take, to_make, to_close, to_shift, to_rest, PlainGoal}
use Rattle.cap_rules.specs.cap_goal_spec.Choices.{PlainChoice, PlainTree, node, PlainTrees, no_trees, tree}
use Rattle.cap_rules.specs.Making.{is_empty}
use Rattle.cap_rules_nodes.specs.Nodes.{goals_left}
use Rattle.cap_machine.specs.declared.event.Event.{Event}
use Rattle.cap_owners_spec.specs.Traced.{Traced, traced, past_width, untold, ◌>>=◌}
use Rattle.cap_owners_spec.specs.Track.{Place, TrackedRegion, TrackedFrame}
use Rattle.cap_owners_spec.specs.Walks.{Walk, Descent, descends, Interpreting, pass_tasks, stops_at, stops, Halt, stands, leaves, stop_or, walk, walk_below, walk_from}
use Rattle.cap_owners_spec.specs.Steps.{Proved, beginning, fill_now, interpreted, frame_walk}
use Rattle.cap_owners_walks_laws.proofs.Walks.Passing.{through, more, later, tasks-more}

-- it goes on with these steps
abbrev pub goes_on : Interpreting → PlainProgram → Bool → List Event → Halt → Traced Halt
goes_on enter p b es (stands q w) = walk_from enter p b q (more w es)
goes_on enter p b es (leaves w) = traced (leaves (more w es))

-- where a walk doesn't stop for want of steps, it doesn't with more
empty-more : (xs : List Event) (e : Event) (es : List Event) → is_empty (xs ++ e ∷ es) ≡ false
empty-more [] e es = refl
empty-more (x ∷ xs) e es = refl

both-false : (b c : Bool) → c ≡ false → b && c ≡ false
both-false true c h = h
both-false false c h = refl

stop-more :
    (b : Bool) (t : PlainTask) (w : Walk) (e : Event) (es : List Event) →
    stops_at false t w ≡ false → stops_at b t (more w (e ∷ es)) ≡ false
stop-more b (to_run h x) w e es o = empty-more w.events e es
stop-more b (to_turn h x) w e es o = empty-more w.events e es
stop-more b (to_give items k n) w e es o = o
stop-more b (to_rest j n) w e es o =
    both-false b (is_empty (w.events ++ e ∷ es)) (empty-more w.events e es)
stop-more b (to_take items k left n) w e es o = refl
stop-more b (to_make k c i x n) w e es o = refl
stop-more b (to_close any n) w e es o = refl
stop-more b (to_shift j c m i n) w e es o = refl

stops-more :
    (b : Bool) (ts : List PlainTask) (w : Walk) (e : Event) (es : List Event) →
    stops false ts w ≡ false → stops b ts (more w (e ∷ es)) ≡ false
stops-more b [] w e es o = refl
stops-more b (t ∷ ts) w e es o = stop-more b t w e es o

module _ (enter : Interpreting) (p : PlainProgram) (b : Bool) (e : Event) (es : List Event) where
  abbrev on : Halt → Traced Halt
  on = goes_on enter p b (e ∷ es)

  -- where it stops it goes on from there; else below, with more steps
  node-more :
      (c : PlainChoice) (ts : PlainTrees) (g : PlainGoal) (w : Walk) →
      walk_below enter p b ts (goals_left p g c)
      (pass_tasks enter p g.state c g.tasks w >>= later (e ∷ es))
      ≡ (walk_below enter p false ts (goals_left p g c) (pass_tasks enter p g.state c g.tasks w)
      >>= on) →
      walk enter p b (node c ts) g (more w (e ∷ es))
      ≡ (walk enter p false (node c ts) g w >>= on)
  node-more c ts g w below = by (stops false g.tasks w) refl
    where
      q : Place
      q = record { goal = g; tree = node c ts }

      by :
          (stop : Bool) → stops false g.tasks w ≡ stop →
          walk enter p b (node c ts) g (more w (e ∷ es))
          ≡ (stop_or stop q w
          (walk_below enter p false ts (goals_left p g c) (pass_tasks enter p g.state c g.tasks w))
          >>= on)
      by true o = refl
      by false o =
          ap (λ stop. stop_or stop (record { goal = g; tree = node c ts }) (more w (e ∷ es))
          (walk_below enter p b ts (goals_left p g c)
          (pass_tasks enter p g.state c g.tasks (more w (e ∷ es))))) (stops-more b g.tasks w e es o)
          ∙ ap (walk_below enter p b ts (goals_left p g c))
          (tasks-more (e ∷ es) enter p g.state c g.tasks w o)
          ∙ below

  mutual
    walk-more :
        (t : PlainTree) (g : PlainGoal) (w : Walk) →
        walk enter p b t g (more w (e ∷ es)) ≡ (walk enter p false t g w >>= on)
    walk-more (node c ts) g w =
        node-more c ts g w
        (below-more ts (goals_left p g c) (pass_tasks enter p g.state c g.tasks w))

    below-more :
        (ts : PlainTrees) (gs : List PlainGoal) (o : Traced Descent) →
        walk_below enter p b ts gs (o >>= later (e ∷ es))
        ≡ (walk_below enter p false ts gs o >>= on)
    below-more (tree t ts) (g ∷ gs) (traced (descends (Some zero) w)) = walk-more t g w
    below-more (tree t ts) (g ∷ gs) (traced (descends (Some (suc i)) w)) =
        below-more ts gs (traced (descends (Some i) w))
    below-more (tree t ts) (g ∷ gs) (traced (descends None w)) = refl
    below-more (tree t ts) [] (traced (descends i w)) = refl
    below-more no_trees gs (traced (descends i w)) = refl
    below-more ts gs past_width = refl
    below-more ts gs untold = refl

  pub walk-goes-on :
      (q : Place) (w : Walk) →
      walk_from enter p b q (more w (e ∷ es)) ≡ (walk_from enter p false q w >>= on)
  walk-goes-on q w = walk-more q.tree q.goal w

-- a frame goes on with its next steps from where it is
pub frame-goes-on :
    (d : Proved) (b : Bool) (rs : List TrackedRegion) (f : TrackedFrame) (since : List Event)
    (e : Event) (es : List Event) →
    frame_walk d b rs f (since ++ e ∷ es)
    ≡ (frame_walk d false rs f since >>= goes_on (interpreted d) d.program b (e ∷ es))
frame-goes-on d b rs f since e es =
    through (fill_now d rs f.given)
    (λ fill. walk_from (interpreted d) d.program false f.seat (beginning rs f.values [] fill since))
    (goes_on (interpreted d) d.program b (e ∷ es))
    (λ fill. walk_from (interpreted d) d.program b f.seat
    (beginning rs f.values [] fill (since ++ e ∷ es)))
    (λ fill. walk-goes-on (interpreted d) d.program b e es f.seat
    (beginning rs f.values [] fill since))
