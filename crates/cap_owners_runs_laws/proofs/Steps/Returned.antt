-- A return: the caller gets what the frame gives up, and is tied again; a thread without one ends.
use Rattle.std.proofs.Common.{◌≡◌, ◌≤◌, ℤ, false, List, [], ◌∷◌, ◌++◌, map, Option, Some, None, refl, sym, ap, ◌∙◌, subst, arith}
use Rattle.std.specs.Prelude.{slice_get, slice_set}
use Rattle.cap_prog.specs.Program.{PlainFunction}
use Rattle.cap_prog.specs.Scopes.{ensures_scope}
use Rattle.cap_goal_spec.specs.Choices.{PlainTree}
use Rattle.cap_machine.specs.Machine.{Frame, Configuration, top_frame, receives, returns}
use Rattle.cap_machine.specs.declared.event.Event.{Event}
use Rattle.cap_machine.specs.declared.event.Event.TheVariants.{Return, End}
use Rattle.cap_machine_accounts.specs.Parts.{Part}
use Rattle.cap_machine_accounts.specs.Accounts.{Held}
use Rattle.cap_account_resources.specs.Parts.{cells_of, Table}
use Rattle.cap_account_resources.proofs.Interference.{relies-same}
use Rattle.cap_account_resources.proofs.Lists.{join-nil, map-set}
use Rattle.cap_account_resources.proofs.Stocks.{Stock, both, Inside, stock-laws, inside-trans, inside-first, inside-both, inside-same, inside-cells}
use Rattle.cap_account_states.proofs.Checked.{Checked}
use Rattle.cap_account_steps.proofs.Regained.{Stable}
use Rattle.cap_account_steps.proofs.Frames.{Returns}
use Rattle.cap_account_steps.proofs.Statements.{Statements}
use Rattle.cap_account.proofs.Stocked.{part_stock, frames_stock, account_table, callee_of, AllWait, Turn, spot_of}
use Rattle.cap_account.proofs.Successors.{scene as account_scene, others, Stride, all, cut, cut-is, account, left-inside}
use Rattle.cap_account.proofs.Changes.{cells-after}
use Rattle.cap_account.proofs.Succeeding.{below-wait}
use Rattle.cap_account.proofs.Handing.{cut-roomy}
use Rattle.cap_account.proofs.Returning.{receiving, giving, ends, goes-back}
use Rattle.cap_owners_spec.specs.Traced.{Traced, traced, past_width, untold, ◌>>=◌, found}
use Rattle.cap_owners_spec.specs.Track.{Fill, TrackedRegion, TrackedFrame, Track, account_of}
use Rattle.cap_owners_spec.specs.Walks.{Taking, Walk, Halt, leaves}
use Rattle.cap_owners_spec.specs.Steps.{Proved, Moved, Scene, walk_of, standing, ended_walk, received, gives_result, tracks_return, moved, after_move, followed, follow}
use Rattle.cap_owners_laws.specs.Owned.{IsTold, GoesOver}
use Rattle.cap_owners_walks_laws.proofs.Fills.Amounts.{items_drawn}
use Rattle.cap_owners_walks_laws.proofs.Fills.Drawn.{IsMetOr, Tells}
use Rattle.cap_owners_walks_laws.proofs.Fills.Giving.{NamesFit}
use Rattle.cap_owners_walks_laws.proofs.Parts.Telling.{told-on}
use Rattle.cap_owners_runs_laws.proofs.Tracks.Tied.{derivation, Tied, AllWaitTied, StackTied, EachTied, Kept}
use Rattle.cap_owners_runs_laws.proofs.Tracks.Steps.{TurnKept, GoesKept}
use Rattle.cap_owners_runs_laws.proofs.Tracks.Turns.{own}
use Rattle.cap_owners_runs_laws.proofs.Tracks.Later.{below-tied, threads-tied}
use Rattle.cap_owners_runs_laws.proofs.Steps.Stepping.{same-stock}
use Rattle.cap_owners_runs_laws.proofs.Tracks.Saying.{track-tells}
use Rattle.cap_owners_runs_laws.proofs.Steps.Standing.{with_part, StandsWith, stands-just}
use Rattle.cap_owners_runs_laws.proofs.Steps.Making.{MadeSo, Goes_to, made-table, made-goes}

module _ (p : Checked) (trees : List (Option PlainTree)) (ls : Statements p)
    (stable : Stable p.program) (x : TurnKept p trees) (fn : PlainFunction)
    (is_fn : slice_get p.program.functions x.turn.frame.function ≡ Some fn) (v : ℤ)
    (gives : Returns p.program (part_stock x.top.held.part) (account_table (account_of x.track)) fn
    x.top.held.fixed x.turn.frame v) (fill : Fill) (made : List TrackedRegion)
    (so : MadeSo p trees gives.over.U gives.over.new x.track.regions made) where
  abbrev d : Proved
  d = derivation p trees

  abbrev turn : Turn p
  turn = own p trees x

  abbrev y : Stride p (own p trees x)
  y = giving p (own p trees x) gives.given gives.over

  abbrev U : Table
  U = gives.over.U

  abbrev regions : List TrackedRegion
  regions = x.track.regions ++ made

  abbrev pub after : List Frame → Configuration
  after fs = record {
    heap = x.turn.c.heap;
    threads = slice_set x.turn.c.threads x.turn.thread fs;
  }

  abbrev pub scene : List Frame → Scene
  scene fs = record {
    frame = x.turn.frame;
    after = after fs;
    thread = x.turn.thread;
    top = x.top;
    below = x.below;
    regions = x.track.regions;
  }

  abbrev later : List TrackedFrame → Track
  later ts = record {
    regions = x.track.regions ++ made;
    threads = slice_set x.track.threads x.turn.thread ts ++ [];
  }

  -- the walk goes to the end of its tree: this is what was taken met by, and these are the regions
  pub record EndsSo (h : Halt) : Type 0 where
    pub w : Walk
    pub leaving : h ≡ leaves w
    pub regions_are : w.regions ≡ x.track.regions ++ made
    pub taken : Taking
    pub is_taken : slice_get w.taken 0 ≡ Some taken
    pub fill_is : taken.fill ≡ fill

  -- from there on
  abbrev rest_of : List Frame → Fill × Walk → Traced Track
  rest_of fs z =
      gives_result (derivation p trees) (scene fs) v x.below z >>= λ ts.
      traced (after_move x.track x.turn.thread (record {
        frames = ts;
        forked = None;
        regions = z.1.regions;
      }))

  -- what follows is told of, where what the caller gets is
  returned-told :
      (fs : List Frame) (event : Event) (Q : Track → Type 0) →
      moved d (scene fs) event ≡ tracks_return d (scene fs) event v →
      IsTold EndsSo (walk_of (derivation p trees) false (scene fs) event) →
      ((w : Walk) → w.regions ≡ x.track.regions ++ made →
      IsTold (λ ts. Q (later ts))
      (gives_result (derivation p trees) (scene fs) v x.below (fill, w))) →
      IsTold Q (follow (derivation p trees) x.track x.turn.thread event x.turn.c (after fs))
  returned-told fs event Q e ended result =
      let walked = walk_of d false (scene fs) event in
      let R = λ (h : Halt). ended_walk h >>= rest_of fs in
      subst (IsTold Q) (sym (follows-so ∙ told-apart walked))
      (told-on EndsSo Q walked R ended (λ h k.
      subst (IsTold Q) (sym (ap R k.leaving
      ∙ ap (λ o. (found o >>= λ (t : Taking). traced (t.fill, k.w)) >>= rest_of fs) k.is_taken
      ∙ ap (λ f. rest_of fs (f, k.w)) k.fill_is))
      (told-on (λ ts. Q (later ts)) Q (gives_result d (scene fs) v x.below (fill, k.w))
      (λ ts. traced (after_move x.track x.turn.thread (record {
        frames = ts;
        forked = None;
        regions = k.w.regions;
      })))
      (result k.w k.regions_are)
      (λ ts q. subst (λ rs. Q (record {
        regions = rs;
        threads = slice_set x.track.threads x.turn.thread ts ++ [];
      })) (sym k.regions_are) q))))
    where
      follows-so :
          follow (derivation p trees) x.track x.turn.thread event x.turn.c (after fs)
          ≡ (tracks_return (derivation p trees) (scene fs) event v >>= λ m.
          traced (after_move x.track x.turn.thread m))
      follows-so =
          (λ i. followed (derivation p trees) x.track x.turn.thread event (after fs)
          (top_frame (x.turn.has_frames i)) (x.has_frames i))
          ∙ ap (λ o. o >>= λ m. traced (after_move x.track x.turn.thread m)) e

      told-last :
          (z : Fill × Walk) (o : Traced (List TrackedFrame)) →
          ((o >>= λ ts. traced (record { frames = ts; forked = None; regions = z.1.regions }))
          >>= λ (m : Moved). traced (after_move x.track x.turn.thread m))
          ≡ (o >>= λ ts. traced (after_move x.track x.turn.thread (record {
            frames = ts;
            forked = None;
            regions = z.1.regions;
          })))
      told-last z (traced ts) = refl
      told-last z past_width = refl
      told-last z untold = refl

      told-next :
          (o : Traced (Fill × Walk)) →
          ((o >>= λ z. gives_result (derivation p trees) (scene fs) v x.below z >>= λ ts.
          traced (record { frames = ts; forked = None; regions = z.1.regions }))
          >>= λ (m : Moved). traced (after_move x.track x.turn.thread m))
          ≡ (o >>= rest_of fs)
      told-next (traced z) =
          told-last z (gives_result (derivation p trees) (scene fs) v x.below z)
      told-next past_width = refl
      told-next untold = refl

      told-apart :
          (o : Traced Halt) →
          ((o >>= λ h. ended_walk h >>= λ z.
          gives_result (derivation p trees) (scene fs) v x.below z >>= λ ts.
          traced (record { frames = ts; forked = None; regions = z.1.regions }))
          >>= λ (m : Moved). traced (after_move x.track x.turn.thread m))
          ≡ (o >>= λ h. ended_walk h >>= rest_of fs)
      told-apart (traced h) = told-next (ended_walk h)
      told-apart past_width = refl
      told-apart untold = refl

  -- ---- the account

  threads-same :
      (ts : List TrackedFrame) →
      slice_set (account_of x.track).threads x.turn.thread (map (λ t. t.held) ts)
      ≡ map (map (λ f. f.held)) (slice_set x.track.threads x.turn.thread ts ++ [])
  threads-same ts =
      sym (map-set (map (λ (t : TrackedFrame). t.held)) x.track.threads x.turn.thread ts)
      ∙ ap (map (map (λ (t : TrackedFrame). t.held)))
      (sym (join-nil (slice_set x.track.threads x.turn.thread ts)))

  -- with these threads the track goes over, and is kept
  goes-kept :
      (fs : List Frame) (event : Event) (hs : List Held) (ts : List TrackedFrame) →
      hs ≡ map (λ t. t.held) ts →
      Goes_to p trees stable x y refl made so (after fs) event
      (account p stable turn y (slice_set (account_of x.track).threads x.turn.thread hs)) →
      StackTied p trees gives.over.U fs ts →
      GoesOver (derivation p trees) x.turn.thread event x.turn.c (after fs) x.track (later ts)
      × Kept p trees (after fs) (later ts)
  goes-kept fs event hs ts e goes stack =
      made-goes p trees stable x y refl made so (after fs) event
      (slice_set (account_of x.track).threads x.turn.thread hs)
      (slice_set x.track.threads x.turn.thread ts ++ [])
      (ap (slice_set (account_of x.track).threads x.turn.thread) e ∙ threads-same ts) goes
      (subst (EachTied p trees gives.over.U (after fs).threads)
      (sym (join-nil (slice_set x.track.threads x.turn.thread ts)))
      (threads-tied p trees stable x y fs ts stack))

  -- ---- nobody waits

  pub ended-kept :
      x.turn.below ≡ [] → x.below ≡ [] →
      IsTold EndsSo (walk_of (derivation p trees) false (scene []) (End v)) →
      GoesKept p trees x (returns (spot_of x.turn) v [])
  ended-kept e f ended =
      let Q = λ (k : Track).
      GoesOver d x.turn.thread (End v) x.turn.c (after []) x.track k × Kept p trees (after []) k in
      returned-told [] (End v) Q refl ended (λ w r.
      subst (λ ts. IsTold (λ ts. Q (later ts)) (gives_result d (scene []) v ts (fill, w))) (sym f)
      (let g = ends p ls stable turn fn is_fn v gives (ap (map (λ (t : TrackedFrame). t.held)) f) in
      goes-kept [] (End v) [] [] refl (g.1, g.2, g.3, g.4) tt))

  -- ---- the caller

  -- it has the result, and is given by what the frame's promise was met
  abbrev pub regaining : TrackedFrame → TrackedFrame
  regaining c = received (derivation p trees) (scene []) v c fill

  -- by this table's regions it stands with what it had and what it gets, and no more
  abbrev pub Regains : TrackedFrame → Type 0
  Regains c =
      (rs : List TrackedRegion) → rs ≡ x.track.regions ++ made →
      IsTold
      (StandsWith (regaining c) (both p.program (part_stock c.held.part) gives.given))
      (standing (derivation p trees) rs (regaining c))

  -- all that is given up is drawn
  abbrev pub AllDrawn : Type 0
  AllDrawn =
      items_drawn p.program gives.over.U gives.meets.values fn.ensures.items gives.given
      gives.meets.met.0 gives.meets.met.1
      ≡ gives.given

  -- the regions tell the table that there is then
  tells-then : (rs : List TrackedRegion) → rs ≡ x.track.regions ++ made → Tells rs gives.over.U
  tells-then rs e =
      subst (λ rs. Tells rs U) (sym e)
      (subst (Tells (x.track.regions ++ made)) (made-table p trees stable x y refl made so [])
      (track-tells (record { regions = x.track.regions ++ made; threads = [] })))

  module _ (f : Frame) (fs : List Frame) (c : TrackedFrame) (cs : List TrackedFrame)
      (is_below : x.turn.below ≡ f ∷ fs) (is_waiting : x.below ≡ c ∷ cs)
      (met : IsMetOr p.program gives.over.U gives.meets.values fn.ensures.items gives.given
      gives.meets.met.0 gives.meets.met.1 fill)
      (fits : NamesFit (ensures_scope fn fn.ensures.names) fill.names) where
    abbrev held : List TrackedFrame → List Held
    held ts = map (λ t. t.held) ts

    abbrev more : Stock
    more = both p.program (part_stock c.held.part) gives.given

    abbrev back : Frame
    back = receives x.turn.frame.destination v f

    waiting-is : held x.below ≡ c.held ∷ held cs
    waiting-is = ap held is_waiting

    waits : AllWaitTied p trees gives.over.U (callee_of x.turn.frame x.top.held) (f ∷ fs) (c ∷ cs)
    waits =
        let w = callee_of x.turn.frame x.top.held in
        subst (λ ts. AllWaitTied p trees U w (f ∷ fs) ts) is_waiting
        (subst (λ gs. AllWaitTied p trees U w gs x.below) is_below
        (below-tied p trees stable x y))

    wait : AllWait p gives.over.U (callee_of x.turn.frame x.top.held) (f ∷ fs) (c.held ∷ held cs)
    wait =
        let w = callee_of x.turn.frame x.top.held in
        subst (λ hs. AllWait p U w (f ∷ fs) hs) waiting-is
        (subst (λ gs. AllWait p U w gs (held x.below)) is_below (below-wait p stable turn y))

    more-all : Inside p.program more (all p stable turn y)
    more-all =
        let P = p.program in
        let mine = part_stock c.held.part in
        inside-trans P more (both P gives.given (others p turn)) (all p stable turn y)
        (subst (λ q. Inside P q (both P gives.given (others p turn)))
        ((stock-laws P).comm gives.given mine)
        (inside-both P gives.given gives.given mine (others p turn) (inside-same P gives.given)
        (inside-trans P mine (frames_stock P (held x.below)) (others p turn)
        (subst (λ q. Inside P mine (frames_stock P q)) (sym waiting-is)
        (inside-first P mine (frames_stock P (held cs))))
        (inside-first P (frames_stock P (held x.below)) _))))
        (left-inside p stable turn y)

    -- the heap has it
    cells-held : (a z : ℤ) → more.cells a z ≤ cells_of x.turn.c.heap a z
    cells-held a z =
        let i = inside-cells p.program more (all p stable turn y) more-all a z in
        let l = cells-after p.program (account_scene p turn) x.turn.c.heap gives.given
        (Stride.change y) a z in
        omega (arith, i, l)

    tied-back : Tied p trees more gives.over.U c.held.fixed back (regaining c)
    tied-back =
        waits.0.back U (relies-same p.program (part_stock c.held.part).guards U) gives.given v fn
        is_fn (cut-roomy p stable turn y more more-all) x.turn.c.heap
        (λ a z. (let l = cells-held a z in omega (arith, l))) gives.meets fill met fits

    stack-back :
        (q : Part) → part_stock q ≡ more →
        StackTied p trees gives.over.U (back ∷ fs) (with_part (regaining c) q ∷ cs)
    stack-back q e = (
      subst (λ s. Tied p trees s U c.held.fixed back (with_part (regaining c) q)) (sym e)
          (record { stood = tied-back.stood; fits = tied-back.fits; walks = tied-back.walks }),
      subst (λ w. AllWaitTied p trees U w fs cs)
          (sym (receiving x.turn.frame.destination v f c.held)) waits.1,
    )

    joined-is :
        (q : Part) → part_stock q ≡ more →
        record { part = cut p stable turn y more; fixed = c.held.fixed } ∷ held cs
        ≡ held (with_part (regaining c) q ∷ cs)
    joined-is q e =
        ap (λ r. record { part = r; fixed = c.held.fixed } ∷ held cs)
        (same-stock (cut p stable turn y more) q (cut-is p stable turn y more more-all ∙ sym e))

    regains : AllDrawn → Regains c
    regains drawn rs e =
        stands-just p trees more x.turn.c.heap cells-held (regaining c) rs
        (waits.0.regains U (relies-same p.program (part_stock c.held.part).guards U) gives.given v fn
        is_fn (cut-roomy p stable turn y more more-all) gives.meets fill met fits drawn rs
        (tells-then rs e))

    pub went-back :
        IsTold EndsSo
        (walk_of (derivation p trees) false
        (scene (receives x.turn.frame.destination v f ∷ fs)) (Return v)) →
        AllDrawn → GoesKept p trees x (returns (spot_of x.turn) v (f ∷ fs))
    went-back ended drawn =
        let Q = λ (k : Track).
        GoesOver d x.turn.thread (Return v) x.turn.c (after (back ∷ fs)) x.track k
        × Kept p trees (after (back ∷ fs)) k in
        let g = goes-back p ls stable turn fn is_fn v gives f fs c.held (held cs) waiting-is wait in
        returned-told (back ∷ fs) (Return v) Q refl ended (λ w r.
        subst (λ ts. IsTold (λ ts. Q (later ts)) (gives_result d (scene (back ∷ fs)) v ts (fill, w)))
        (sym is_waiting)
        (told-on (StandsWith (regaining c) more) (λ ts. Q (later ts))
        (standing d w.regions (regaining c)) (λ t. traced (t ∷ cs))
        (regains drawn w.regions r) (λ t k.
        subst (λ t. Q (later (t ∷ cs))) (sym k.1)
        (goes-kept (back ∷ fs) (Return v)
        (record { part = cut p stable turn y more; fixed = c.held.fixed } ∷ held cs)
        (with_part (regaining c) k.0 ∷ cs) (joined-is k.0 k.2) (g.1, g.2, g.3, g.4)
        (stack-back k.0 k.2)))))
