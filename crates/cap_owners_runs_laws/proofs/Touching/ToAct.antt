-- A frame that is tied at a heap statement: its walk enters regions, each with what the track says it
-- owns by now, and comes to the act.
use Rattle.std.proofs.Common.{◌≡◌, ◌⊎◌, inl, inr, ℕ, ◌+◌, ℤ, pos, ◌+ℤ◌, ◌<ℤ◌, Bool, true, false, List, [], ◌∷◌, ◌++◌, map, length, Option, Some, refl, sym, ap, ◌∙◌, subst, arith}
use Rattle.std.specs.Prelude.{option_map, if◌then◌else◌}
use Rattle.std.specs.List.{AllByRecursion}
use Rattle.std.proofs.lemmas.Int.{ints}
use Rattle.cap_lin.specs.Linear.{Linear, same_number}
use Rattle.cap_lin.specs.declared.row.Sort.TheVariants.{Int}
use Rattle.cap_prog.specs.Program.{Label, PlainAct, Block, first, PlainFunction}
use Rattle.cap_prog.specs.WellFormed.{IsWellFormed}
use Rattle.cap_goal_spec.specs.States.{Home, goal}
use Rattle.cap_goal_spec.specs.Choices.{PlainTree, node, by_act, no_trees, tree}
use Rattle.cap_rules.specs.Closing.{address_of}
use Rattle.cap_machine.specs.Machine.{Frame, with_rest}
use Rattle.cap_machine.specs.declared.event.Event.{Event}
use Rattle.cap_machine_accounts.specs.Assertions.{NameValue}
use Rattle.cap_account_resources.specs.Parts.{Known, known_as, Table}
use Rattle.cap_account_resources.proofs.Lists.{some-same}
use Rattle.cap_account_resources.proofs.Interference.{relies-same}
use Rattle.cap_account_resources.proofs.Stocks.{Stock, both, all_of, none-right}
use Rattle.cap_account_states.proofs.Backed.{Backed}
use Rattle.cap_account_states.proofs.Checked.{Checked}
use Rattle.cap_account_states.proofs.Facts.{found-all}
use Rattle.cap_account_states.proofs.Meets.{Usable}
use Rattle.cap_account_states.proofs.Roots.{values-length}
use Rattle.cap_account_assertions.proofs.Laws.{GivenAlongLaw}
use Rattle.cap_account_steps.proofs.Frames.{Node}
use Rattle.cap_account_steps.proofs.HeapLaws.{ClashLaw}
use Rattle.cap_account_steps.proofs.Stores.{Store, running}
use Rattle.cap_account_steps.proofs.Worlds.{World, Differ, Exact, AllOver, regions_of, Earlier, IfAny, Opening}
use Rattle.cap_account.proofs.Changes.{world}
use Rattle.cap_account.proofs.Renewed.{the_state}
use Rattle.cap_account.proofs.Stocked.{part_stock, owners, owner_at, stock_or_none, share_by, account_table}
use Rattle.cap_account.proofs.Successors.{scene}
use Rattle.cap_owners_spec.specs.Traced.{Traced, traced, past_width, untold, ◌>>=◌, valuation}
use Rattle.cap_owners_spec.specs.Track.{Fill, TrackedRegion, tracked_at, account_of}
use Rattle.cap_owners_spec.specs.Walks.{Walk, Interpreting, Halt, stands, leaves, walk}
use Rattle.cap_owners_spec.specs.Steps.{interpreted, frame_walk}
use Rattle.cap_owners_laws.specs.Owned.{IsTold}
use Rattle.cap_owners_walks_laws.proofs.Fills.Drawn.{Tells}
use Rattle.cap_owners_walks_laws.proofs.Walks.Going.{goes_on, frame-goes-on}
use Rattle.cap_owners_walks_laws.proofs.Passes.Rests.{walks_into}
use Rattle.cap_owners_walks_laws.proofs.Passes.Takes.{owner_of}
use Rattle.cap_owners_walks_laws.proofs.Regions.EntersAll.{ActsFrom, enters-all}
use Rattle.cap_owners_walks_laws.proofs.Regions.Open.{numbers_in}
use Rattle.cap_owners_walks_laws.proofs.Regions.Regiven.{AreSorted}
use Rattle.cap_owners_walks_laws.proofs.Regions.Reshut.{RegionMet}
use Rattle.cap_owners_walks_laws.proofs.Regions.Telling.{ToldSo, tracked-number}
use Rattle.cap_owners_runs_laws.proofs.Tracks.Saying.{track-tells}
use Rattle.cap_owners_runs_laws.proofs.Tracks.Steps.{TurnKept}
use Rattle.cap_owners_runs_laws.proofs.Tracks.Tied.{StopsSo, derivation, IsAtNode, Tied, RegionTied}
use Rattle.cap_owners_runs_laws.proofs.Tracks.Turns.{own}
use Rattle.cap_owners_runs_laws.proofs.Steps.Owing.{node_at}
use Rattle.cap_owners_runs_laws.proofs.Touching.Regions.{CasesRooted, region-told}
use Rattle.cap_owners_runs_laws.proofs.Touching.Renewing.{numbered-below}

-- what a region of the track has is its share
owner-tracked :
    (rs : List TrackedRegion) (n : ℤ) →
    owner_at (owners (map (λ r. r.owned) rs)) n ≡ option_map owner_of (tracked_at rs n)
owner-tracked [] n = refl
owner-tracked (r ∷ rs) n = by (same_number r.owned.region.number n) (owner-tracked rs n)
  where
    by :
        (b : Bool) →
        owner_at (owners (map (λ (r : TrackedRegion). r.owned) rs)) n
        ≡ option_map owner_of (tracked_at rs n) →
        (if b then Some (owner_of r)
        else owner_at (owners (map (λ (r : TrackedRegion). r.owned) rs)) n)
        ≡ option_map owner_of (if b then Some r else tracked_at rs n)
    by true h = refl
    by false h = h

module _ (p : Checked) (trees : List (Option PlainTree)) (wf : IsWellFormed p.program)
    (along : GivenAlongLaw p) (clash : ClashLaw p)
    (rooted : CasesRooted p trees) (x : TurnKept p trees) where
  abbrev V : Table
  V = account_table (account_of x.track)

  abbrev share : ℤ → Stock
  share = share_by (owners (account_of x.track).regions)

  abbrev part : Stock
  part = part_stock x.top.held.part

  abbrev fixed : List NameValue
  fixed = x.top.held.fixed

  abbrev f : Frame
  f = x.turn.frame

  abbrev rs : List TrackedRegion
  rs = x.track.regions

  abbrev enter : Interpreting
  enter = interpreted (derivation p trees)

  abbrev pub world_of : World p.program (account_table (account_of x.track))
      (share_by (owners (account_of x.track).regions)) (part_stock x.top.held.part) x.turn.c.heap
  world_of = world p.program (scene p (own p trees x))

  pub numbers-low :
      AllByRecursion (λ n. n <ℤ pos (1 + length x.track.regions)) (numbers_in x.track.regions)
  numbers-low =
      let n = length rs in
      let same : pos 1 +ℤ pos n ≡ pos (1 + n) = omega (arith, ints) in
      subst (λ m. AllByRecursion (λ k. k <ℤ m) (numbers_in rs)) same
      (numbered-below (pos 1) rs x.kept.numbered)

  told-here :
      (r : TrackedRegion) (m : ℤ) (j : ℕ) (zs : List ℤ) (z : ℤ) →
      V m ≡ Some (known_as j zs (Some z)) → tracked_at rs m ≡ Some r →
      ToldSo (RegionMet p V m j zs z (share m)) (enter rs r)
  told-here r m j zs z known e =
      let tell = λ (r : TrackedRegion). known_as r.owned.region.kind r.owned.region.args
      (Some r.owned.region.state) in
      let q = part_stock r.owned.part in
      let number = tracked-number rs m r e in
      let tied = (found-all (RegionTied p trees V) (λ r. same_number r.owned.region.number m) rs r
      x.kept.regions e).0 in
      let tells = track-tells x.track in
      let here : V m ≡ Some (tell r) = sym (tells m) ∙ ap (option_map tell) e in
      let there : V r.owned.region.number ≡ Some (tell r) = ap V number ∙ here in
      let has : share m ≡ q = ap stock_or_none (owner-tracked rs m ∙ ap (option_map owner_of) e) in
      let same : tell r ≡ known_as j zs (Some z) =
      some-same (tell r) (known_as j zs (Some z)) (sym here ∙ known) in
      let told = region-told p trees wf rooted V r x.turn.c.heap
      (λ a w.
      let one = world_of.cells (m ∷ []) (tt, tt) ((tell r, here), tt) a w in
      let is = ap (λ (q : Stock). q.cells a w) has in omega (arith, one, is)) tied there rs tells in
      let at : ToldSo (RegionMet p V m r.owned.region.kind r.owned.region.args r.owned.region.state q)
      (enter rs r) = subst (λ n. ToldSo (RegionMet p V n r.owned.region.kind r.owned.region.args
      r.owned.region.state q) (enter rs r)) number told in
      let kept : ToldSo (RegionMet p V m j zs z q) (enter rs r) =
      subst (λ (k : Known). ToldSo (RegionMet p V m k.kind k.args (the_state k.state z) q)
      (enter rs r)) same at in
      subst (λ q. ToldSo (RegionMet p V m j zs z q) (enter rs r)) (sym has) kept

  -- ---- the walk

  module _ (l : Label) (a : PlainAct) (b : Block) (t : Linear) (address : address_of a ≡ Some t)
      (fn : PlainFunction) (size : length x.top.held.fixed ≡ length fn.fixed) (ev : Event) where
    -- the act, where a walk came with its step still to come
    pub record AtAct (o : Traced Halt) : Type 0 where
      pub home : Home
      pub w : Walk
      pub regions : w.regions ≡ rs
      pub next : w.next ≡ pos (1 + length rs)
      pub tells : Tells w.regions V
      pub told :
          (r : TrackedRegion) (m : ℤ) (j : ℕ) (zs : List ℤ) (z : ℤ) →
          V m ≡ Some (known_as j zs (Some z)) → tracked_at w.regions m ≡ Some r →
          ToldSo (RegionMet p V m j zs z (share m)) (enter w.regions r)
      pub from : ActsFrom p wf along clash V share part x.turn.c.heap world_of fn fixed size f home l
          b true enter w ev [] tells told a
      pub fill : Option Fill
      pub walks :
          o
          ≡ walks_into true enter p.program
          (tree (node (by_act from.number from.certs from.marks) from.kids) no_trees)
          (goal from.state (running (first l a b) home) ∷ [])
          (record w { values = from.values; events = ev ∷ []; fill = fill })

    at-same : (o q : Traced Halt) → o ≡ q → (q ≡ past_width) ⊎ AtAct q → (o ≡ past_width) ⊎ AtAct o
    at-same o q e (inl wide) = inl (e ∙ wide)
    at-same o q e (inr k) = inr (record {
      home = k.home;
      w = k.w;
      regions = k.regions;
      next = k.next;
      tells = k.tells;
      told = k.told;
      from = k.from;
      fill = k.fill;
      walks = e ∙ k.walks;
    })

    -- from the node at which the frame sits
    act-from :
        (d : PlainTree)
        (n : Node p part V fn fixed (with_rest f (first l a b)) (running (first l a b)) d)
        (w : Walk) → n.v ≡ valuation w.values → AreSorted n.state.sorts w.values → w.regions ≡ rs →
        w.next ≡ pos (1 + length rs) →
        (walk enter p.program true d (goal n.state (running (first l a b) n.home))
        (record w { events = ev ∷ [] })
        ≡ past_width)
        ⊎ AtAct (walk enter p.program true d (goal n.state (running (first l a b) n.home))
        (record w { events = ev ∷ [] }))
    act-from d n w valued sorted regions next =
        let s = n.state in
        let tells : Tells w.regions V = subst (λ qs. Tells qs V) (sym regions) (track-tells x.track) in
        let told : (r : TrackedRegion) (m : ℤ) (j : ℕ) (zs : List ℤ) (z : ℤ) →
        V m ≡ Some (known_as j zs (Some z)) → tracked_at w.regions m ≡ Some r →
        ToldSo (RegionMet p V m j zs z (share m)) (enter w.regions r) =
        subst (λ (qs : List TrackedRegion).
        (r : TrackedRegion) (m : ℤ) (j : ℕ) (zs : List ℤ) (z : ℤ) →
        V m ≡ Some (known_as j zs (Some z)) → tracked_at qs m ≡ Some r →
        ToldSo (RegionMet p V m j zs z (share m)) (enter qs r)) (sym regions) told-here in
        let opening : Opening p.program V share part n.v s = record {
          grounded = n.grounded;
          facts = n.facts;
          firm = n.firm;
          opened = subst (λ os. AllByRecursion
              (λ g. AllOver (Usable [] s.sorts Int) g × Exact n.v V g) os) (sym n.none_open) tt;
          differ = subst (λ os. Differ (regions_of n.v os)) (sym n.none_open) tt;
          backed = subst (λ os. Backed p.program n.v s
              (both p.program part (all_of p.program (regions_of n.v os) share))) (sym n.none_open)
              (subst (Backed p.program n.v s) (sym (none-right p.program part)) n.backed);
          earlier = subst (λ os. IfAny os (Earlier p.program [] n.v s part)) (sym n.none_open) tt;
        } in
        elim (enters-all p wf along clash V share part x.turn.c.heap world_of fn fixed size f n.home l
        b true enter w ev [] tells told a t address w.values s d w.fill n.valid
        (subst (λ v. Opening p.program V share part v s) valued opening)
        (subst (λ v. Store v s n.home fn fixed (with_rest f (first l a b))) valued n.store) sorted
        n.none_open) [
          | inl wide ↦ inl wide
          | inr k ↦ inr (record {
            home = n.home;
            w = w;
            regions = regions;
            next = next;
            tells = tells;
            told = told;
            from = k.0;
            fill = k.1;
            walks = k.2;
          })
        ]

  -- from a frame that is tied
  pub to-act :
      (l : Label) (a : PlainAct) (b : Block) (t : Linear) (address : address_of a ≡ Some t)
      (tied : Tied p trees (part_stock x.top.held.part) (account_table (account_of x.track))
      x.top.held.fixed (with_rest x.turn.frame (first l a b)) x.top) (ev : Event) →
      (frame_walk (derivation p trees) true x.track.regions x.top (x.top.since ++ ev ∷ [])
      ≡ past_width)
      ⊎ AtAct l a b t address tied.stood.fn
      (values-length tied.stood.fn.fixed x.top.held.fixed tied.stood.ok.values) ev
      (frame_walk (derivation p trees) true x.track.regions x.top (x.top.since ++ ev ∷ []))
  to-act l a b t address tied ev =
      by (frame_walk (derivation p trees) false rs x.top x.top.since) refl
      (tied.walks V (relies-same p.program part.guards V) rs (track-tells x.track))
    where
      by :
          (o : Traced Halt) → frame_walk (derivation p trees) false rs x.top x.top.since ≡ o →
          IsTold (StopsSo (IsAtNode p trees rs part V tied.stood.fn fixed
          (with_rest f (first l a b))
          (tied.stood.all V (relies-same p.program part.guards V)))) o →
          (frame_walk (derivation p trees) true rs x.top (x.top.since ++ ev ∷ []) ≡ past_width)
          ⊎ AtAct l a b t address tied.stood.fn
          (values-length tied.stood.fn.fixed x.top.held.fixed tied.stood.ok.values) ev
          (frame_walk (derivation p trees) true rs x.top (x.top.since ++ ev ∷ []))
      by past_width e h =
          inl (frame-goes-on (derivation p trees) true rs x.top x.top.since ev []
          ∙ ap (λ o. o >>= goes_on (interpreted (derivation p trees)) p.program true (ev ∷ [])) e)
      by untold e h = absurd h
      by (traced (leaves w)) e h = absurd h
      by (traced (stands q w)) e k =
          let now = tied.stood.all V (relies-same p.program part.guards V) in
          let count = values-length tied.stood.fn.fixed fixed tied.stood.ok.values in
          let n = node_at p part V tied.stood.fn fixed (with_rest f (first l a b))
          (running (first l a b)) now.tree now.at_node (valuation w.values) k.alike count in
          at-same l a b t address tied.stood.fn count ev
          (frame_walk (derivation p trees) true rs x.top (x.top.since ++ ev ∷ []))
          (walk enter p.program true now.tree (goal n.state (running (first l a b) n.home))
          (record w { events = ev ∷ [] }))
          (frame-goes-on (derivation p trees) true rs x.top x.top.since ev []
          ∙ ap (λ o. o >>= goes_on (interpreted (derivation p trees)) p.program true (ev ∷ [])) e
          ∙ (λ i. walk (interpreted (derivation p trees)) p.program true (k.tree i) (k.goal_is i)
          (record w { events = k.tidy.events i ++ ev ∷ [] })))
          (act-from l a b t address tied.stood.fn count ev now.tree n w refl k.tidy.sorted
          k.tidy.regions k.tidy.next)
