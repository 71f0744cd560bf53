-- A return, from what a walk that owes comes to.
use Rattle.std.proofs.Common.{◌≡◌, ◌⊎◌, inl, inr, ℤ, false, List, [], ◌∷◌, ◌++◌, Option, None, refl, sym, ap, ◌∙◌, subst}
use Rattle.std.specs.Prelude.{slice_set}
use Rattle.cap_lin.specs.Linear.{Linear}
use Rattle.cap_prog.specs.Program.{Label, give_back, Block, first}
use Rattle.cap_prog.specs.Scopes.{ensures_scope}
use Rattle.cap_prog.specs.WellFormed.{IsWellFormed}
use Rattle.cap_goal_spec.specs.Choices.{PlainTree}
use Rattle.cap_machine.specs.Machine.{Frame, Configuration, top_frame, value_in, with_rest, receives, returns}
use Rattle.cap_machine.specs.declared.event.Event.{Event}
use Rattle.cap_machine.specs.declared.event.Event.TheVariants.{Return, End}
use Rattle.cap_account_states.proofs.Checked.{Checked}
use Rattle.cap_account_assertions.proofs.Laws.{TakenLaw}
use Rattle.cap_account_steps.proofs.Regained.{Stable}
use Rattle.cap_account_steps.proofs.Frames.{Returns}
use Rattle.cap_account_steps.proofs.Statements.{Statements}
use Rattle.cap_account.proofs.Stocked.{part_stock, account_table, callee_of, spot_of}
use Rattle.cap_account.proofs.Changes.{roomy}
use Rattle.cap_account.proofs.Successors.{scene as account_scene}
use Rattle.cap_owners_spec.specs.Traced.{Traced, traced, past_width, ◌>>=◌}
use Rattle.cap_owners_spec.specs.Track.{Fill, TrackedRegion, TrackedFrame, Track, account_of}
use Rattle.cap_owners_spec.specs.Walks.{Halt}
use Rattle.cap_owners_spec.specs.Steps.{Scene, frame_walk, moved, tracks_return, after_move, followed, follow}
use Rattle.cap_owners_laws.specs.Owned.{IsTold}
use Rattle.cap_owners_walks_laws.proofs.Fills.Drawn.{IsMetOr}
use Rattle.cap_owners_walks_laws.proofs.Fills.Giving.{NamesFit}
use Rattle.cap_owners_runs_laws.proofs.Tracks.Tied.{derivation, Tied, AllWaitTied}
use Rattle.cap_owners_runs_laws.proofs.Tracks.Saying.{track-tells}
use Rattle.cap_owners_runs_laws.proofs.Tracks.Steps.{TurnKept, GoesKept, EachTurn, DoesKept}
use Rattle.cap_owners_runs_laws.proofs.Tracks.Turns.{own, stack-tied}
use Rattle.cap_owners_runs_laws.proofs.Steps.Making.{MadeSo}
use Rattle.cap_owners_runs_laws.proofs.Steps.Returned.{EndsSo, AllDrawn, ended-kept, went-back}
use Rattle.cap_owners_runs_laws.proofs.Steps.Owing.{Debt, IsDue, frame-due, return_debt, return-due}

bind-wide :
    {A B : Type 0} (o : Traced A) (f : A → Traced B) → o ≡ past_width → (o >>= f) ≡ past_width
bind-wide o f e = ap (λ o. o >>= f) e

module _ (p : Checked) (trees : List (Option PlainTree)) (ls : Statements p)
    (stable : Stable p.program) (wf : IsWellFormed p.program) (law : TakenLaw p) where
  -- a frame that returns, with its statement
  pub record ReturnHere : Type 0 where
    pub x : TurnKept p trees
    pub l : Label
    pub t : Linear
    pub b : Block
    pub rest_is : x.turn.frame.rest ≡ first l (give_back t) b
    pub tied :
        Tied p trees (part_stock x.top.held.part) (account_table (account_of x.track))
        x.top.held.fixed (with_rest x.turn.frame (first l (give_back t) b)) x.top

  abbrev pub result_of : ReturnHere → ℤ
  result_of r = value_in r.x.turn.frame.store r.t

  abbrev pub walk_then : ReturnHere → Event → Traced Halt
  walk_then r event =
      frame_walk (derivation p trees) false r.x.track.regions r.x.top
      (r.x.top.since ++ event ∷ [])

  -- what a walk that owes comes to: what is given up is what the function ensures, met by a fill; the
  -- walk ends with it, and with the regions that were made; and all that is given up is drawn
  pub record Pays (r : ReturnHere) (event : Event) : Type 0 where
    pub gives :
        Returns p.program (part_stock r.x.top.held.part) (account_table (account_of r.x.track))
        r.tied.stood.fn r.x.top.held.fixed r.x.turn.frame (result_of r)
    pub fill : Fill
    pub met :
        IsMetOr p.program gives.over.U gives.meets.values r.tied.stood.fn.ensures.items gives.given
        gives.meets.met.0 gives.meets.met.1 fill
    pub fits :
        NamesFit (ensures_scope r.tied.stood.fn r.tied.stood.fn.ensures.names) fill.names
    pub made : List TrackedRegion
    pub so : MadeSo p trees gives.over.U gives.over.new r.x.track.regions made
    pub ends :
        IsTold
        (EndsSo p trees ls stable r.x r.tied.stood.fn r.tied.stood.ok.is_fn (result_of r) gives fill
        made so)
        (walk_then r event)
    pub drawn :
        AllDrawn p trees ls stable r.x r.tied.stood.fn r.tied.stood.ok.is_fn (result_of r) gives fill
        made so

  -- what the function ensures is to be taken
  abbrev pub owing_debt : ReturnHere → Event → Debt
  owing_debt r event =
      return_debt p trees wf law (part_stock r.x.top.held.part) (account_table (account_of r.x.track))
      (roomy p.program (account_scene p (own p trees r.x))) r.x.top.held.fixed r.x.turn.frame r.l r.t
      r.b r.x.track.regions event r.tied.stood.fn r.tied.stood.ok

  abbrev pub Owing : ReturnHere → Event → Type 0
  Owing r event =
      IsDue p trees (part_stock r.x.top.held.part) (account_table (account_of r.x.track))
      r.x.top.held.fixed r.x.turn.frame (owing_debt r event) r.x.track.regions event
      r.tied.stood.fn (walk_then r event)

  -- by what is owed
  abbrev pub PayLaw : Type 0
  PayLaw =
      (r : ReturnHere) (event : Event) →
      Owing r event →
      (walk_then r event ≡ past_width) ⊎ Pays r event

  module _ (pay : PayLaw) (r : ReturnHere) where
    abbrev x : TurnKept p trees
    x = r.x

    paid : (event : Event) → (walk_then r event ≡ past_width) ⊎ Pays r event
    paid event =
        elim (frame-due p trees (part_stock x.top.held.part) (account_table (account_of x.track))
        x.top.held.fixed x.turn.frame (owing_debt r event) x.track.regions event x.top r.tied
        (track-tells x.track)
        (return-due p trees wf law (part_stock x.top.held.part) (account_table (account_of x.track))
        (roomy p.program (account_scene p (own p trees x))) x.top.held.fixed x.turn.frame r.l r.t r.b
        x.track.regions event r.tied.stood.fn r.tied.stood.ok)) [
          | inl wide ↦ inl wide
          | inr owes ↦ pay r event owes
        ]

    abbrev after_of : List Frame → Configuration
    after_of fs = record {
      heap = r.x.turn.c.heap;
      threads = slice_set r.x.turn.c.threads r.x.turn.thread fs;
    }

    abbrev scene_of : List Frame → Scene
    scene_of fs = record {
      frame = r.x.turn.frame;
      after = after_of fs;
      thread = r.x.turn.thread;
      top = r.x.top;
      below = r.x.below;
      regions = r.x.track.regions;
    }

    -- where the walk is too wide, nothing follows
    wide-kept :
        (fs : List Frame) (event : Event) (Q : Track → Type 0) →
        moved (derivation p trees) (scene_of fs) event
        ≡ tracks_return (derivation p trees) (scene_of fs) event (result_of r) →
        walk_then r event ≡ past_width →
        IsTold Q (follow (derivation p trees) x.track x.turn.thread event x.turn.c (after_of fs))
    wide-kept fs event Q e wide =
        let d = derivation p trees in
        let none : tracks_return d (scene_of fs) event (result_of r) ≡ past_width =
        bind-wide (walk_then r event) _ wide in
        let follows : follow d x.track x.turn.thread event x.turn.c (after_of fs) ≡ past_width =
        (λ i. followed d x.track x.turn.thread event (after_of fs)
        (top_frame (x.turn.has_frames i)) (x.has_frames i))
        ∙ ap (λ o. o >>= λ m. traced (after_move x.track x.turn.thread m)) (e ∙ none) in
        subst (IsTold Q) (sym follows) tt

    pub return-kept : GoesKept p trees r.x (returns (spot_of r.x.turn) (result_of r) r.x.turn.below)
    return-kept = by x.turn.below x.below refl refl (stack-tied p trees x).1
      where
        by :
            (fs : List Frame) (ts : List TrackedFrame) → r.x.turn.below ≡ fs → r.x.below ≡ ts →
            AllWaitTied p trees (account_table (account_of r.x.track))
            (callee_of r.x.turn.frame r.x.top.held) fs ts →
            GoesKept p trees r.x (returns (spot_of r.x.turn) (result_of r) fs)
        by [] [] e k w = elim (paid (End (result_of r))) [
          | inl wide ↦ wide-kept [] (End (result_of r)) _ refl wide
          | inr pays ↦
              ended-kept p trees ls stable x r.tied.stood.fn r.tied.stood.ok.is_fn (result_of r)
              pays.gives pays.fill pays.made pays.so e k pays.ends
        ]
        by [] (t ∷ ts) e k w = absurd w
        by (f ∷ fs) [] e k w = absurd w
        by (f ∷ fs) (c ∷ cs) e k w = elim (paid (Return (result_of r))) [
          | inl wide ↦
              wide-kept (receives x.turn.frame.destination (result_of r) f ∷ fs)
              (Return (result_of r)) _ refl wide
          | inr pays ↦
              went-back p trees ls stable x r.tied.stood.fn r.tied.stood.ok.is_fn (result_of r)
              pays.gives pays.fill pays.made pays.so f fs c cs e k pays.met pays.fits pays.ends
              pays.drawn
        ]

  -- returns, by what is owed
  pub returns-kept :
      PayLaw → EachTurn p trees (λ x l b. (t : Linear) → DoesKept p trees x l (give_back t) b None)
  returns-kept pay x l b t e = return-kept pay (record {
    x = x;
    l = l;
    t = t;
    b = b;
    rest_is = e;
    tied =
        subst (λ f. Tied p trees (part_stock x.top.held.part) (account_table (account_of x.track))
        x.top.held.fixed f x.top) (λ i. record x.turn.frame { rest = e i }) (stack-tied p trees x).0;
  })
