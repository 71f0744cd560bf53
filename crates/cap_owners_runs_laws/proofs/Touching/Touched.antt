-- A heap statement, from what its walk comes to: the track after it goes over, and is kept.
use Rattle.std.proofs.Common.{◌≡◌, ◌≢◌, ℤ, pos, ◌+ℤ◌, List, [], ◌∷◌, ◌++◌, map, length, Option, Some, None, refl, sym, ap, ◌∙◌, subst}
use Rattle.std.specs.Prelude.{slice_set, option_map}
use Rattle.std.specs.List.{AllByRecursion}
use Rattle.cap_lin.specs.Linear.{Linear}
use Rattle.cap_prog.specs.Program.{PlainAct, Block}
use Rattle.cap_goal_spec.specs.Choices.{PlainTree}
use Rattle.cap_machine.specs.Machine.{Frame, Configuration, next, top_frame, value_in}
use Rattle.cap_machine.specs.declared.event.Event.{Event}
use Rattle.cap_machine_accounts.specs.Parts.{Part, no_part}
use Rattle.cap_machine_accounts.specs.Accounts.{Held, OwnedRegion, Account, EachTwo}
use Rattle.cap_machine_accounts.specs.Following.{StaysOn, FramesFollow, accesses, Follows}
use Rattle.cap_machine_accounts.specs.Safety.{KeepsContracts}
use Rattle.cap_account_resources.specs.Parts.{known_as, Table}
use Rattle.cap_account_resources.proofs.Interference.{relies-same}
use Rattle.cap_account_resources.proofs.Lists.{Among, map-length, map-join, map-set, join-nil, all-both, all-more, all-unmap}
use Rattle.cap_account_resources.proofs.Monoid.{atom as at_one, both as plus}
use Rattle.cap_account_resources.proofs.Owners.{Owner, owned, Numbered}
use Rattle.cap_account_resources.proofs.Stocks.{Stock, Inside, some-inside, inside-trans}
use Rattle.cap_account_states.proofs.Checked.{Checked}
use Rattle.cap_account_steps.proofs.Exact.{all-two}
use Rattle.cap_account_steps.proofs.Regained.{Stable}
use Rattle.cap_account_steps.proofs.Statements.{Statements}
use Rattle.cap_account_steps.proofs.Worlds.{HasMoved, after_act}
use Rattle.cap_account.proofs.Changes.{rest_stock, roomy-after}
use Rattle.cap_account.proofs.Chosen.{owned-sum}
use Rattle.cap_account.proofs.Stocked.{part_stock, sum_by, owners, owner_at, account_table, Sound, Turn}
use Rattle.cap_account.proofs.Totals.{sum-each}
use Rattle.cap_account.proofs.Successors.{scene, Stride, cut, cut-is, kept, news, kept-are, news-are, account, all, table-is}
use Rattle.cap_account.proofs.Following.{stepping}
use Rattle.cap_account.proofs.Strides.{later_threads, left-all}
use Rattle.cap_account.proofs.Touching.{Heaped, Outcome, touching, touched}
use Rattle.cap_account.proofs.Renewed as once
use Rattle.cap_owners_spec.specs.Traced.{traced, ◌>>=◌}
use Rattle.cap_owners_spec.specs.Track.{TrackedRegion, TrackedFrame, Track, account_of, tracked_at}
use Rattle.cap_owners_spec.specs.Steps.{Proved, Scene, moved, after_move, followed}
use Rattle.cap_owners_laws.specs.Owned.{IsTold, AreNumbered, GoesOver}
use Rattle.cap_owners_walks_laws.proofs.Passes.Takes.{owner_of}
use Rattle.cap_owners_walks_laws.proofs.Regions.ClosesAll.{renewed}
use Rattle.cap_owners_walks_laws.proofs.Regions.Open.{numbers_in}
use Rattle.cap_owners_walks_laws.proofs.Regions.OwnedSo.{OwnedSo}
use Rattle.cap_owners_runs_laws.proofs.Tracks.Later.{below-tied, threads-tied, free-tied}
use Rattle.cap_owners_runs_laws.proofs.Tracks.Steps.{TurnKept, GoesKept}
use Rattle.cap_owners_runs_laws.proofs.Tracks.Saying.{track-tells}
use Rattle.cap_owners_runs_laws.proofs.Tracks.Tied.{derivation, Tied, AllWaitTied, StackTied, EachTied, RegionTied, Kept}
use Rattle.cap_owners_runs_laws.proofs.Tracks.Turns.{own}
use Rattle.cap_owners_runs_laws.proofs.Steps.Making.{all-with, regions-one, numbered-join}
use Rattle.cap_owners_runs_laws.proofs.Touching.Renewing.{IsKnownBy, renew-owners, renewed-all, tracked-itself, numbered-ascending, numbered-same, numbered-owners}
use Rattle.cap_owners_runs_laws.proofs.Steps.Stepping.{same-stock}

module _ (p : Checked) (trees : List (Option PlainTree)) (ls : Statements p)
    (stable : Stable p.program) (x : TurnKept p trees) where
  abbrev d : Proved
  d = derivation p trees

  abbrev pub turn : Turn p
  turn = own p trees x

  abbrev V : Table
  V = account_table (account_of x.track)

  abbrev pub rs : List TrackedRegion
  rs = x.track.regions

  -- what a statement's walk comes to: some regions are closed, and some are made, each with what it
  -- has; and the frame takes its seat, with what is left to it
  pub record TouchedSo (a : PlainAct) (b : Block) (t : Linear) : Type 0 where
    pub step : Heaped p ls stable turn a b t
    pub closed : List TrackedRegion
    pub made : List TrackedRegion
    pub closed_are : step.by.closed ≡ map owner_of closed
    pub made_are : step.by.made ≡ map owner_of made
    pub were_there :
        AllByRecursion (λ r. Among r.owned.region.number (numbers_in x.track.regions)) closed
    pub numbers : numbers_in (renewed closed x.track.regions) ≡ numbers_in x.track.regions
    pub last : ℤ
    pub numbered : Numbered (pos 1 +ℤ pos (length x.track.regions)) (map owner_of made) last
    pub owned : AllByRecursion (OwnedSo p.program step.by.U) closed
    pub owned_made : AllByRecursion (OwnedSo p.program step.by.U) made
    pub frame : TrackedFrame
    pub part_is : part_stock frame.held.part ≡ step.kept
    pub fixed_is : frame.held.fixed ≡ x.top.held.fixed
    pub tied :
        Tied p trees step.kept step.by.U x.top.held.fixed
        (after_act a x.turn.frame b step.content).1 frame

  module _ (a : PlainAct) (b : Block) (t : Linear) (s : TouchedSo a b t)
      (o : Outcome p ls stable turn a b t s.step) where
    abbrev y : Stride p (own p trees x)
    y = touching p ls stable turn a b t s.step o

    abbrev U : Table
    U = s.step.by.U

    abbrev pub regions_then : List TrackedRegion
    regions_then = renewed s.closed x.track.regions ++ s.made

    abbrev owned_in : List TrackedRegion → List OwnedRegion
    owned_in rs = map (λ r. r.owned) rs

    abbrev pub later : Track
    later = record {
      regions = renewed s.closed x.track.regions ++ s.made;
      threads = slice_set x.track.threads x.turn.thread (s.frame ∷ x.below) ++ [];
    }

    abbrev pub after : Configuration
    after = record {
      heap = o.heap;
      threads = slice_set x.turn.c.threads x.turn.thread (o.frame ∷ x.turn.below);
    }

    -- ---- the account

    part-cut : cut p stable turn y s.step.kept ≡ s.frame.held.part
    part-cut =
        same-stock (cut p stable turn y s.step.kept) s.frame.held.part
        (cut-is p stable turn y s.step.kept (left-all p stable turn y) ∙ sym s.part_is)

    owners-in : (qs : List TrackedRegion) → owners (map (λ r. r.owned) qs) ≡ map owner_of qs
    owners-in [] = refl
    owners-in (q ∷ qs) = ap (λ os. owner_of q ∷ os) (owners-in qs)

    known-all : AllByRecursion (IsKnownBy (account_table (account_of x.track))) x.track.regions
    known-all =
        let tell = λ (r : TrackedRegion). known_as r.owned.region.kind r.owned.region.args
        (Some r.owned.region.state) in
        all-more (λ r. tracked_at rs r.owned.region.number ≡ Some r) (IsKnownBy V)
        (λ r e. (
          r.owned.region.state,
          sym (track-tells x.track r.owned.region.number) ∙ ap (option_map tell) e,
        )) rs
        (tracked-itself rs (numbered-ascending (pos 1) rs x.kept.numbered))

    known-closed : AllByRecursion (IsKnownBy (account_table (account_of x.track))) s.closed
    known-closed =
        let M = HasMoved p.program V (part_stock x.top.held.part) in
        all-more (λ c. M (owner_of c)) (IsKnownBy V) (λ c h. (h.state, h.was)) s.closed
        (all-unmap owner_of M s.closed
        (subst (AllByRecursion M) s.closed_are s.step.by.settles.moved))

    kept-same : kept p stable turn y ≡ map (λ r. r.owned) (renewed s.closed x.track.regions)
    kept-same =
        regions-one (kept p stable turn y) (owned_in (renewed s.closed rs))
        (kept-are p stable turn y
        ∙ ap (λ os. map (once.renewed os) (owners (owned_in rs))) s.closed_are
        ∙ ap (map (once.renewed (map owner_of s.closed))) (owners-in rs)
        ∙ renew-owners V s.closed rs known-closed known-all
        (subst (EachTwo (λ q r. q.number ≢ r.number)) s.closed_are s.step.by.settles.closed_differ)
        (numbered-ascending (pos 1) rs x.kept.numbered) s.were_there
        ∙ sym (owners-in (renewed s.closed rs)))

    news-same : news p stable turn y ≡ map (λ r. r.owned) s.made
    news-same =
        regions-one (news p stable turn y) (owned_in s.made)
        (news-are p stable turn y ∙ s.made_are ∙ sym (owners-in s.made))

    regions-same :
        kept p stable turn y ++ news p stable turn y
        ≡ map (λ r. r.owned) (renewed s.closed x.track.regions ++ s.made)
    regions-same =
        (λ i. kept-same i ++ news-same i)
        ∙ sym (map-join (λ (r : TrackedRegion). r.owned) (renewed s.closed rs) s.made)

    threads-same : later_threads p stable turn y ≡ (account_of later).threads
    threads-same =
        (λ i. slice_set (account_of x.track).threads x.turn.thread
        (record { part = part-cut i; fixed = sym s.fixed_is i } ∷ map (λ t. t.held) x.below))
        ∙ sym (map-set (map (λ (t : TrackedFrame). t.held)) x.track.threads x.turn.thread
        (s.frame ∷ x.below))
        ∙ ap (map (map (λ (t : TrackedFrame). t.held)))
        (sym (join-nil (slice_set x.track.threads x.turn.thread (s.frame ∷ x.below))))

    account-same : account p stable turn y (later_threads p stable turn y) ≡ account_of later
    account-same i = record { regions = regions-same i; threads = threads-same i }

    table-same : account_table (account_of later) ≡ s.step.by.U
    table-same =
        ap (λ rs. account_table (record { regions = rs; threads = (account_of later).threads }))
        (sym regions-same)
        ∙ table-is p stable turn y

    -- ---- the regions

    -- what each has is of all that there is
    owners-inside :
        (os : List Owner) → Inside p.program (owned p.program os) (all p stable turn y) →
        AllByRecursion (λ o. Inside p.program o.stock (all p stable turn y)) os
    owners-inside os le =
        let P = p.program in
        all-more (λ o. Inside P o.stock (sum_by P (λ o. o.stock) os))
        (λ o. Inside P o.stock (all p stable turn y))
        (λ o i.
        inside-trans P o.stock (owned P os) (all p stable turn y)
        (subst (Inside P o.stock) (sym (owned-sum P os)) i) le) os
        (sum-each P (λ o. o.stock) os)

    abbrev others_have : Stock
    others_have = rest_stock p.program (scene p turn) y.heap y.left y.change

    closed-inside :
        AllByRecursion (λ o. Inside p.program o.stock (all p stable turn y)) s.step.by.closed
    closed-inside =
        owners-inside s.step.by.closed
        (some-inside p.program
        (y.left ∷ owned p.program s.step.by.closed ∷ owned p.program s.step.by.made ∷ others_have ∷ [])
        (at_one 1) (plus (plus (at_one 0) (plus (at_one 1) (at_one 2))) (at_one 3)) (0 ∷ 2 ∷ 3 ∷ [])
        refl)

    made-inside :
        AllByRecursion (λ o. Inside p.program o.stock (all p stable turn y)) s.step.by.made
    made-inside =
        owners-inside s.step.by.made
        (some-inside p.program
        (y.left ∷ owned p.program s.step.by.closed ∷ owned p.program s.step.by.made ∷ others_have ∷ [])
        (at_one 2) (plus (plus (at_one 0) (plus (at_one 1) (at_one 2))) (at_one 3)) (0 ∷ 1 ∷ 3 ∷ [])
        refl)

    -- a region that owns its part by this table does so from now on
    owned-tied :
        (c : TrackedRegion) → OwnedSo p.program s.step.by.U c →
        Inside p.program (part_stock c.owned.part) (all p stable turn y) →
        RegionTied p trees s.step.by.U c
    owned-tied c o le =
        let q = part_stock c.owned.part in
        let r = roomy-after p.program (scene p turn) y.heap y.left y.change stable q le in
        record {
          T = U;
          reached = record {
            fits = r.fits;
            full = r.full;
            room = r.room;
            relies = relies-same p.program q.guards U;
          };
          known = o.known;
          own = o.own;
          number = o.number;
          met = o.met;
          fits = o.fits;
          sorted = o.sorted;
        }

    regions-tied :
        AllByRecursion (RegionTied p trees s.step.by.U)
        (renewed s.closed x.track.regions ++ s.made)
    regions-tied =
        let R = RegionTied p trees in
        all-both (R U) (renewed s.closed rs) s.made
        (renewed-all (R U) s.closed rs (numbered-ascending (pos 1) rs x.kept.numbered) s.were_there
        (all-two (OwnedSo p.program U)
        (λ c. Inside p.program (part_stock c.owned.part) (all p stable turn y)) (R U)
        (λ c o le. owned-tied c o le) s.closed s.owned
        (all-unmap owner_of (λ o. Inside p.program o.stock (all p stable turn y)) s.closed
        (subst (AllByRecursion (λ o. Inside p.program o.stock (all p stable turn y))) s.closed_are
        closed-inside)))
        (all-with (R V)
        (λ r. owner_at (map owner_of s.closed) r.owned.region.number ≡ None → R U r) rs
        (λ r m h none.
        free-tied p trees stable x y r m
        (ap (λ os. owner_at os r.owned.region.number) s.closed_are ∙ none) h) x.kept.regions))
        (all-two (OwnedSo p.program U)
        (λ c. Inside p.program (part_stock c.owned.part) (all p stable turn y)) (R U)
        (λ c o le. owned-tied c o le) s.made s.owned_made
        (all-unmap owner_of (λ o. Inside p.program o.stock (all p stable turn y)) s.made
        (subst (AllByRecursion (λ o. Inside p.program o.stock (all p stable turn y))) s.made_are
        made-inside)))

    numbered-then :
        AreNumbered (pos 1) (map (λ r. r.region) (account_of later).regions)
    numbered-then =
        let in_all = λ (qs : List TrackedRegion). map (λ (r : OwnedRegion). r.region) (owned_in qs) in
        let first = renewed s.closed rs in
        let size : length (in_all first) ≡ length rs =
        map-length (λ (r : OwnedRegion). r.region) (owned_in first)
        ∙ map-length (λ (r : TrackedRegion). r.owned) first
        ∙ sym (map-length (λ (r : TrackedRegion). r.owned.region.number) first)
        ∙ ap (λ (ns : List ℤ). length ns) s.numbers
        ∙ map-length (λ (r : TrackedRegion). r.owned.region.number) rs in
        subst (AreNumbered (pos 1))
        (sym (ap (map (λ (r : OwnedRegion). r.region))
        (map-join (λ (r : TrackedRegion). r.owned) first s.made)
        ∙ map-join (λ (r : OwnedRegion). r.region) (owned_in first) (owned_in s.made)))
        (numbered-join (pos 1) (in_all first) (in_all s.made)
        (numbered-same (pos 1) first rs s.numbers x.kept.numbered)
        (subst (λ n. AreNumbered (pos 1 +ℤ pos n) (in_all s.made)) (sym size)
        (numbered-owners (pos 1 +ℤ pos (length rs)) s.last s.made s.numbered)))

    -- ---- the frames

    mine-tied : StackTied p trees s.step.by.U (o.frame ∷ x.turn.below) (s.frame ∷ x.below)
    mine-tied =
        let fixed = x.top.held.fixed in
        let g = ap (λ (r : Option ℤ × Frame). r.1) o.is in
        let first : Tied p trees s.step.kept U fixed o.frame s.frame =
        subst (λ f. Tied p trees s.step.kept U fixed f s.frame) g s.tied in
        let second = subst (λ q. Tied p trees q U fixed o.frame s.frame) (sym s.part_is) first in
        let third =
        subst (λ zs. Tied p trees (part_stock s.frame.held.part) U zs o.frame s.frame)
        (sym s.fixed_is) second in (
          third,
          subst (λ zs. AllWaitTied p trees U (record {
            destination = o.frame.destination;
            function = o.frame.function;
            arguments = o.frame.arguments;
            fixed = zs;
          }) x.turn.below x.below) (sym s.fixed_is)
              (subst (λ k. AllWaitTied p trees U k x.turn.below x.below) (sym o.callee)
              (below-tied p trees stable x y)),
        )

    stacks-tied : EachTied p trees s.step.by.U after.threads later.threads
    stacks-tied =
        subst (EachTied p trees U after.threads)
        (sym (join-nil (slice_set x.track.threads x.turn.thread (s.frame ∷ x.below))))
        (threads-tied p trees stable x y (o.frame ∷ x.turn.below) (s.frame ∷ x.below) mine-tied)

    module _ (event : Event)
        (at : accesses event ≡ Some (value_in x.turn.frame.store t))
        (frames : (new : List (List Held)) (left : List Part) → StaysOn (stepping turn) new left →
        FramesFollow event (stepping turn) new no_part left)
        (keeps : (c : Configuration) (e : Account) →
        KeepsContracts p.program x.turn.thread event x.turn.c c (account_of x.track) e no_part) where
      -- an account that follows so
      abbrev Goes_here : Account → Type 0
      Goes_here e =
          (handed : Part)
          × Follows p.program x.turn.c.heap x.turn.thread event (account_of x.track) e handed
          × KeepsContracts p.program x.turn.thread event x.turn.c after (account_of x.track) e handed
          × Sound p after e

      goes : Goes_here (account_of later)
      goes =
          let g = touched p ls stable turn a b t s.step o event at frames keeps in
          subst Goes_here account-same (g.1, g.2, g.3, g.4)

      pub later-kept :
          GoesOver (derivation p trees) x.turn.thread event x.turn.c after x.track later
          × Kept p trees after later
      later-kept = (
        (goes.0, goes.1, goes.2),
        record {
          sound = goes.3;
          stacks = subst (λ U. EachTied p trees U after.threads later.threads) (sym table-same)
              stacks-tied;
          regions = subst (λ U. AllByRecursion (RegionTied p trees U) later.regions) (sym table-same)
              regions-tied;
          numbered = numbered-then;
        },
      )

      abbrev pub touched_scene : Scene
      touched_scene = record {
        frame = x.turn.frame;
        after = after;
        thread = x.turn.thread;
        top = x.top;
        below = x.below;
        regions = x.track.regions;
      }

      -- where the track takes the seat so
      pub touched-kept :
          moved (derivation p trees) touched_scene event
          ≡ traced (record { frames = s.frame ∷ x.below; forked = None; regions = regions_then }) →
          GoesKept p trees x (next after event)
      touched-kept e =
          let Q = λ (k : Track).
          GoesOver d x.turn.thread event x.turn.c after x.track k × Kept p trees after k in
          subst (IsTold Q)
          (sym ((λ i. followed d x.track x.turn.thread event after (top_frame (x.turn.has_frames i))
          (x.has_frames i))
          ∙ ap (λ o. o >>= λ m. traced (after_move x.track x.turn.thread m)) e)) later-kept
