-- A frame at its seat: whatever others do, its facts rest, and its walk stops where it stands or
-- waits then.
use Rattle.std.proofs.Common.{◌≡◌, ◌⊎◌, inl, inr, ℕ, false, List, [], ◌∷◌, Option, Some, None, refl, sym, ap, ◌∙◌, subst}
use Rattle.std.specs.List.{AllByRecursion, AllZip}
use Rattle.cap_lin.specs.Values.{Valuation}
use Rattle.cap_lin.specs.declared.row.Sort.TheVariants.{Int}
use Rattle.cap_prog.specs.Program.{Items, none, item, Block, PlainFunction, PlainProgram}
use Rattle.cap_prog.specs.WellFormed.{IsWellFormed}
use Rattle.cap_goal_spec.specs.States.{PlainState, Home, PlainTask, to_run, to_give, to_rest, goal, goals_of}
use Rattle.cap_goal_spec.specs.Choices.{PlainTree, node, PlainTrees, no_trees, tree}
use Rattle.cap_machine.specs.Machine.{Frame}
use Rattle.cap_machine_accounts.specs.Assertions.{NameValue}
use Rattle.cap_account_resources.specs.Parts.{Table}
use Rattle.cap_account_resources.proofs.Interference.{Relies}
use Rattle.cap_account_resources.proofs.Stocks.{Stock}
use Rattle.cap_account_resources.proofs.Tables.{TableFits, FitsRoom}
use Rattle.cap_account_states.specs.Nodes.{Open}
use Rattle.cap_account_states.proofs.Alike.{Alike, alike-same, agree-alike}
use Rattle.cap_account_states.proofs.Backed.{IsFirm, Backed, Grounded}
use Rattle.cap_account_states.proofs.Checked.{Checked, lone-child}
use Rattle.cap_account_states.proofs.Facts.{Facts}
use Rattle.cap_account_states.proofs.Meets.{Usable, usable-old, Old}
use Rattle.cap_account_states.proofs.Roots.{values-length}
use Rattle.cap_account_steps.proofs.Points.{FrameOk}
use Rattle.cap_account_steps.proofs.Stores.{Store, running, store-alike}
use Rattle.cap_account_steps.proofs.Frames.{Sits}
use Rattle.cap_account_steps.proofs.Worlds.{Exact, AllOver}
use Rattle.cap_account_steps.proofs.Turning.{AsBefore, Reaching, backed-before}
use Rattle.cap_account_steps.proofs.RestLaws.{exact-facts}
use Rattle.cap_owners_spec.specs.Traced.{traced, valuation}
use Rattle.cap_owners_spec.specs.Track.{Place, TrackedRegion, TrackedFrame}
use Rattle.cap_owners_spec.specs.Walks.{Walk, Interpreting, descends, Halt, stands, walk, walk_below}
use Rattle.cap_owners_spec.specs.Steps.{beginning, interpreted, frame_walk}
use Rattle.cap_owners_walks_laws.proofs.Values.More.{FitsSort}
use Rattle.cap_owners_walks_laws.proofs.Fills.Drawn.{Tells}
use Rattle.cap_owners_laws.specs.Owned.{IsTold, IsWaiting}
use Rattle.cap_owners_walks_laws.proofs.Parts.Held.{IsOf}
use Rattle.cap_owners_walks_laws.proofs.Parts.Added.{of-at, of-same}
use Rattle.cap_owners_walks_laws.proofs.Walks.Leading.{stops-running}
use Rattle.cap_owners_walks_laws.proofs.Passes.Rests.{RestsTo, rests-to}
use Rattle.cap_owners_runs_laws.proofs.Tracks.Tied.{StopsSo, IsTidy, derivation, IsAtNode, Tied, IsSeated, HasJust}

-- a state whose facts have rested has what it had
pub of-before :
    (p : PlainProgram) (v w : Valuation) (s t : PlainState) (q : Stock) → AsBefore v w s t →
    Grounded p [] v s → IsOf p v s q → IsOf p w t q
of-before p v w s t q c g h =
    of-same p s t w q c.cells c.guards
    (of-at p s [] (Old s) v w q (usable-old [] s.sorts) (agree-alike (Old s) v w c.agree) g h)

module _ (p : Checked) (trees : List (Option PlainTree)) where
  -- At these values a state holds of the frame and of what it has: its facts, which may be loose,
  -- say just what the table does. They are to rest before what the frame is to do.
  pub record Seat (part : Stock) (T : Table) (fn : PlainFunction) (fixed : List NameValue)
      (f : Frame) (due : Home → List PlainTask) (q : Place) (vs : List NameValue) : Type 0 where
    pub state : PlainState
    pub home : Home
    pub number : ℕ
    pub kids : PlainTrees
    pub goes : Open p.N kids state (to_rest 0 number ∷ due home)
    pub tree_is : kids ≡ tree q.tree no_trees
    pub goal_is : goals_of state (to_rest 0 number ∷ due home) ≡ q.goal ∷ []
    pub none_open : state.opened ≡ []
    pub grounded : Grounded p.program [] (valuation vs) state
    pub over : AllByRecursion (AllOver (Usable [] state.sorts Int)) state.facts
    pub exact : AllByRecursion (Exact (valuation vs) T) state.facts
    pub backed : Backed p.program (valuation vs) state part
    pub store : Store (valuation vs) state home fn fixed f
    pub sorted : AllZip FitsSort state.sorts vs

  -- the frame took this seat, at these values
  abbrev pub seated_at : TrackedFrame → Place → List NameValue → TrackedFrame
  seated_at t q vs = record t { seat = q; values = vs; given = None; since = [] }

  module _ (wf : IsWellFormed p.program) (part : Stock) (T : Table) (fn : PlainFunction)
      (fixed : List NameValue) (f : Frame) (ok : FrameOk p.program fn fixed f)
      (fits : TableFits p.program T) (room : FitsRoom p.program T part)
      (due : Home → List PlainTask) (q : Place) (vs : List NameValue)
      (seat : Seat part T fn fixed f due q vs) (U : Table)
      (r : Relies p.program part.guards T U) where
    abbrev s : PlainState
    s = seat.state

    abbrev reaching : Reaching p.program part T U
    reaching = record { regions = wf.regions; fits = fits; room = room; relies = r }

    -- where its facts have rested
    rested :
        RestsTo p part T U (record {
          regions = wf.regions;
          fits = fits;
          room = room;
          relies = r;
        }) seat.number (due seat.home) 0 seat.state seat.kids vs
    rested =
        rests-to p part T U reaching seat.number (due seat.home) s seat.kids vs seat.sorted
        seat.grounded seat.over seat.exact seat.backed seat.goes

    abbrev after : PlainState
    after = rested.rest.after

    facts-then : Facts [] rested.rest.w U rested.rest.after
    facts-then =
        exact-facts rested.rest.w U after rested.rest.firm rested.rest.exact rested.rest.over

    backed-then : Backed p.program rested.rest.w rested.rest.after part
    backed-then =
        backed-before p.program [] (valuation vs) rested.rest.w s after rested.rest.as_before
        seat.grounded part seat.backed

    store-then : Store rested.rest.w rested.rest.after seat.home fn fixed f
    store-then =
        let c = rested.rest.as_before in
        store-alike (valuation vs) rested.rest.w s after seat.home fn fixed f
        seat.grounded.meets.store_over (agree-alike (Old s) (valuation vs) rested.rest.w c.agree)
        c.goes_on.sorts c.goes_on.store (values-length fn.fixed fixed ok.values) seat.store

    none-open : rested.rest.after.opened ≡ []
    none-open = rested.rest.as_before.goes_on.opened ∙ seat.none_open

    abbrev entering : Interpreting
    entering = interpreted (derivation p trees)

    abbrev first : List TrackedRegion → Walk
    first rs = beginning rs vs [] None []

    abbrev last : List TrackedRegion → Walk
    last rs = record (first rs) { values = rested.values }

    -- A walk from the seat comes to this, where that is so behind the Rests, unless a number leaves
    -- its bounds.
    walks-to :
        (P : Halt → Type 0) (h : Halt) (rs : List TrackedRegion) → Tells rs U →
        walk_below entering p.program false rested.rest.children
        (goals_of rested.rest.after (due seat.home)) (traced (descends (Some 0) (last rs)))
        ≡ traced h → P h → IsTold P (walk entering p.program false q.tree q.goal (first rs))
    walks-to P h rs tells e k =
        let into_seat : walk_below entering p.program false seat.kids
        (goals_of s (to_rest 0 seat.number ∷ due seat.home))
        (traced (descends (Some 0) (first rs)))
        ≡ walk entering p.program false q.tree q.goal (first rs) =
        λ i. walk_below entering p.program false (seat.tree_is i) (seat.goal_is i)
        (traced (descends (Some 0) (first rs))) in
        elim (rested.walks entering (first rs) tells) [
          | inl wide ↦ subst (IsTold P) (sym (sym into_seat ∙ wide)) tt
          | inr on ↦ subst (IsTold P) (sym (sym into_seat ∙ on ∙ e)) k
        ]

    abbrev tidy : (rs : List TrackedRegion) → IsTidy rs rested.rest.after (last rs)
    tidy rs = record { sorted = rested.sorted; regions = refl; next = refl; events = refl }

  -- ---- a frame that runs

  module _ (wf : IsWellFormed p.program) (part : Stock) (T : Table) (fn : PlainFunction)
      (fixed : List NameValue) (f : Frame) (ok : FrameOk p.program fn fixed f)
      (fits : TableFits p.program T) (room : FitsRoom p.program T part) (q : Place)
      (vs : List NameValue) (seat : Seat part T fn fixed f (running f.rest) q vs) where
    module _ (U : Table) (r : Relies p.program part.guards T U) where
      abbrev at : RestsTo p part T U
          (record { regions = wf.regions; fits = fits; room = room; relies = r }) seat.number
          (running f.rest seat.home) 0 seat.state seat.kids vs
      at = rested wf part T fn fixed f ok fits room (running f.rest) q vs seat U r

      child :
          (d : PlainTree) × p.N d at.rest.after (running f.rest seat.home)
          × (at.rest.children ≡ tree d no_trees)
      child =
          lone-child p.N at.rest.children at.rest.after (running f.rest seat.home) at.rest.goes

      abbrev sits : Sits p part U fn fixed f
      sits = record {
        tree = child.0;
        at_node = record {
          state = at.rest.after;
          v = at.rest.w;
          home = seat.home;
          valid = child.1;
          none_open = none-open wf part T fn fixed f ok fits room (running f.rest) q vs seat U r;
          grounded = at.rest.grounded;
          facts = facts-then wf part T fn fixed f ok fits room (running f.rest) q vs seat U r;
          firm = at.rest.firm;
          backed = backed-then wf part T fn fixed f ok fits room (running f.rest) q vs seat U r;
          store = store-then wf part T fn fixed f ok fits room (running f.rest) q vs seat U r;
        };
      }

      abbrev stop : List TrackedRegion → Halt
      stop rs = stands
          (record {
            goal = goal at.rest.after (running f.rest seat.home);
            tree = child.0;
          })
          (record (beginning rs vs [] None []) { values = at.values })

      -- a walk stops there, unless a number leaves its bounds
      walks-so :
          (P : Place → Walk → Type 0) (rs : List TrackedRegion) → Tells rs U →
          StopsSo P (stop rs) →
          IsTold (StopsSo P)
          (walk (interpreted (derivation p trees)) p.program false q.tree q.goal
          (beginning rs vs [] None []))
      walks-so P rs tells there =
          walks-to wf part T fn fixed f ok fits room (running f.rest) q vs seat U r (StopsSo P)
          (stop rs) rs tells
          ((λ i. walk_below (interpreted (derivation p trees)) p.program false (child.2 i)
          (goals_of at.rest.after (running f.rest seat.home))
          (traced (descends (Some 0) (record (beginning rs vs [] None []) { values = at.values }))))
          ∙ stops-running p (interpreted (derivation p trees)) child.0 at.rest.after seat.home
          f.rest [] (record (beginning rs vs [] None []) { values = at.values })) there

      walks :
          (rs : List TrackedRegion) → Tells rs U →
          IsTold (StopsSo (IsAtNode p trees rs part U fn fixed f sits))
          (walk (interpreted (derivation p trees)) p.program false q.tree q.goal
          (beginning rs vs [] None []))
      walks rs tells = walks-so (IsAtNode p trees rs part U fn fixed f sits) rs tells (record {
        tree = refl;
        goal_is = refl;
        alike =
            subst (Alike (Old at.rest.after) at.rest.w) at.valued
            (alike-same (Old at.rest.after) at.rest.w);
        tidy = tidy wf part T fn fixed f ok fits room (running f.rest) q vs seat U r rs;
      })

      -- where the seat's state has just the part, so has the one there
      pub seat-has :
          IsOf p.program (valuation vs) seat.state part → (rs : List TrackedRegion) → Tells rs U →
          IsTold (StopsSo (HasJust p trees part))
          (walk (interpreted (derivation p trees)) p.program false q.tree q.goal
          (beginning rs vs [] None []))
      seat-has just rs tells =
          let s' = at.rest.after in
          walks-so (HasJust p trees part) rs tells (record {
            pieces_fit = at.rest.grounded.pieces_fit;
            backed =
                subst (λ v. Backed p.program v s' part) at.valued
                (backed-then wf part T fn fixed f ok fits room (running f.rest) q vs seat U r);
            just =
                subst (λ v. IsOf p.program v s' part) at.valued
                (of-before p.program (valuation vs) at.rest.w seat.state s' part at.rest.as_before
                seat.grounded just);
          })

    pub seat-tied :
        AllZip FitsSort fn.fixed fixed → (t : TrackedFrame) →
        Tied p trees part T fixed f (seated_at t q vs)
    seat-tied fixed_fit t = record {
      stood = record { fn = fn; ok = ok; all = λ U r. sits U r };
      fits = fixed_fit;
      walks = λ U r rs tells. walks U r rs tells;
    }

  -- ---- a frame that waits

  -- it is to be given these items, and then goes on
  abbrev pub given_first : Items → ℕ → ℕ → Block → Home → List PlainTask
  given_first items e m b h = to_give items e m ∷ running b h

  stops-giving :
      (enter : Interpreting) (t : PlainTree) (s : PlainState) (items : Items) (e m : ℕ)
      (ts : List PlainTask) (w : Walk) →
      walk enter p.program false t (goal s (to_give items e m ∷ ts)) (record w { fill = None })
      ≡ traced (stands (record { goal = goal s (to_give items e m ∷ ts); tree = t })
      (record w { fill = None }))
  stops-giving enter (node c ks) s items e m ts w = refl

  -- where it waits, and that a walk that has nothing to give stops there
  record WaitsAt (enter : Interpreting) (items : Items) (e m : ℕ) (ks : PlainTrees)
      (s : PlainState) (h : Home) (b : Block) (w : Walk) : Type 0 where
    place : Place
    state_is : place.goal.state ≡ s
    valid : p.N place.tree place.goal.state place.goal.tasks
    waiting :
        (place.goal.tasks ≡ to_run h b ∷ [])
        ⊎ ((items : Items) × (e : ℕ) × (n : ℕ)
        × (place.goal.tasks ≡ to_give items e n ∷ to_run h b ∷ []))
    walks :
        walk_below enter p.program false ks (goals_of s (given_first items e m b h))
        (traced (descends (Some 0) (record w { fill = None; events = [] })))
        ≡ traced (stands place (record w { fill = None; events = [] }))

  give-stops :
      (enter : Interpreting) (items : Items) (e m : ℕ) (ks : PlainTrees) (s : PlainState)
      (h : Home) (b : Block) (w : Walk) → Open p.N ks s (given_first items e m b h) →
      WaitsAt enter items e m ks s h b w
  give-stops enter none e m ks s h b w goes =
      let d = lone-child p.N ks s (running b h) goes in
      record {
        place = record { goal = goal s (running b h); tree = d.0 };
        state_is = refl;
        valid = d.1;
        waiting = inl refl;
        walks =
            (λ i. walk_below enter p.program false (d.2 i) (goal s (running b h) ∷ [])
            (traced (descends (Some 0) (record w { fill = None; events = [] }))))
            ∙ stops-running p enter d.0 s h b [] (record w { fill = None; events = [] });
      }
  give-stops enter (item x more) e m ks s h b w goes =
      let ts = given_first (item x more) e m b h in
      let d = lone-child p.N ks s ts goes in
      record {
        place = record { goal = goal s ts; tree = d.0 };
        state_is = refl;
        valid = d.1;
        waiting = inr (item x more, e, m, refl);
        walks =
            (λ i. walk_below enter p.program false (d.2 i) (goal s ts ∷ [])
            (traced (descends (Some 0) (record w { fill = None; events = [] }))))
            ∙ stops-giving enter d.0 s (item x more) e m (running b h)
            (record w { fill = None; events = [] });
      }

  module _ (wf : IsWellFormed p.program) (part : Stock) (T : Table) (fn : PlainFunction)
      (fixed : List NameValue) (f : Frame) (ok : FrameOk p.program fn fixed f)
      (fits : TableFits p.program T) (room : FitsRoom p.program T part) (items : Items) (e m : ℕ)
      (q : Place) (vs : List NameValue)
      (seat : Seat part T fn fixed f (given_first items e m f.rest) q vs)
      (just : IsOf p.program (valuation vs) seat.state part) (U : Table)
      (r : Relies p.program part.guards T U) where
    abbrev waits_at : RestsTo p part T U
        (record { regions = wf.regions; fits = fits; room = room; relies = r }) seat.number
        (given_first items e m f.rest seat.home) 0 seat.state seat.kids vs
    waits_at =
        rested wf part T fn fixed f ok fits room (given_first items e m f.rest) q vs seat U r

    -- the state holds at the values of the walk, and has just the part
    seated-there :
        (rs : List TrackedRegion) (x : Place) → x.goal.state ≡ waits_at.rest.after →
        p.N x.tree x.goal.state x.goal.tasks → IsWaiting f seat.home x.goal.tasks →
        IsSeated p trees rs part U fn fixed f x
        (record (beginning rs vs [] None []) { values = waits_at.values })
    seated-there rs x same valid waiting =
        let due = given_first items e m f.rest in
        let on = λ (A : PlainState → Valuation → Type 0)
        (a : A waits_at.rest.after waits_at.rest.w).
        subst (λ s. A s (valuation waits_at.values)) (sym same)
        (subst (A waits_at.rest.after) waits_at.valued a) in
        record {
          home = seat.home;
          valid = valid;
          due = waiting;
          none_open = ap (λ (s : PlainState). s.opened) same
              ∙ none-open wf part T fn fixed f ok fits room due q vs seat U r;
          grounded = on (λ s v. Grounded p.program [] v s) waits_at.rest.grounded;
          facts = on (λ s v. Facts [] v U s)
              (facts-then wf part T fn fixed f ok fits room due q vs seat U r);
          firm = on (λ s v. AllByRecursion IsFirm s.facts) waits_at.rest.firm;
          backed = on (λ s v. Backed p.program v s part)
              (backed-then wf part T fn fixed f ok fits room due q vs seat U r);
          just = on (λ s v. IsOf p.program v s part)
              (of-before p.program (valuation vs) waits_at.rest.w seat.state waits_at.rest.after
              part waits_at.rest.as_before seat.grounded just);
          store = on (λ s v. Store v s seat.home fn fixed f)
              (store-then wf part T fn fixed f ok fits room due q vs seat U r);
          tidy =
              subst (λ s. IsTidy rs s
              (record (beginning rs vs [] None []) { values = waits_at.values })) (sym same)
              (tidy wf part T fn fixed f ok fits room due q vs seat U r rs);
        }

    -- and so does a walk from the seat
    pub seat-waits :
        (t : TrackedFrame) (rs : List TrackedRegion) → Tells rs U →
        IsTold (StopsSo (IsSeated p trees rs part U fn fixed f))
        (frame_walk (derivation p trees) false rs (seated_at t q vs) [])
    seat-waits t rs tells =
        let enter = interpreted (derivation p trees) in
        let w = record (beginning rs vs [] None []) { values = waits_at.values } in
        let x = give-stops enter items e m waits_at.rest.children waits_at.rest.after seat.home
        f.rest w waits_at.rest.goes in
        walks-to wf part T fn fixed f ok fits room (given_first items e m f.rest) q vs seat U r
        (StopsSo (IsSeated p trees rs part U fn fixed f)) (stands x.place w) rs tells x.walks
        (seated-there rs x.place x.state_is x.valid x.waiting)
