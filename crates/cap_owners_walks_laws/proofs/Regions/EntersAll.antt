-- A walk from a node at a heap statement: it enters regions, each with what it owns by now, and comes
-- to the act.
use Rattle.std.proofs.Common.{◌≡◌, ◌⊎◌, inl, inr, ℕ, zero, suc, ◌+◌, ◌≤◌, ℤ, Bool, List, [], ◌∷◌, length, Option, Some, refl, ap, ◌∙◌, arith}
use Rattle.cap_lin.specs.Linear.{Linear}
use Rattle.cap_farkas.specs.declared.cert.Cert.{Cert}
use Rattle.cap_prog.specs.Program.{Label, PlainAct, set, read, write, cas, faa, dispose, alloc, call, fork, branch, loop, check, give_back, Block, first, PlainFunction}
use Rattle.cap_prog.specs.WellFormed.{IsWellFormed}
use Rattle.cap_goal_spec.specs.States.{PlainState, Home, goal}
use Rattle.cap_goal_spec.specs.Choices.{PlainTree, node, by_absurd, by_clash, by_enter, by_act, PlainTrees, no_trees, tree}
use Rattle.cap_rules.specs.Closing.{address_of}
use Rattle.cap_machine.specs.Machine.{Heap, Frame, with_rest}
use Rattle.cap_machine.specs.declared.event.Event.{Event}
use Rattle.cap_machine_accounts.specs.Assertions.{NameValue}
use Rattle.cap_account_resources.specs.Parts.{known_as, Table}
use Rattle.cap_account_resources.proofs.Lists.{none-some, push-length}
use Rattle.cap_account_resources.proofs.Stocks.{Stock}
use Rattle.cap_account_states.proofs.Checked.{Checked}
use Rattle.cap_account_states.proofs.Meets.{solves}
use Rattle.cap_account_assertions.proofs.Laws.{GivenAlongLaw}
use Rattle.cap_account_steps.proofs.Entering.{entered}
use Rattle.cap_account_steps.proofs.HeapLaws.{ClashLaw}
use Rattle.cap_account_steps.proofs.Stores.{Store, running}
use Rattle.cap_account_steps.proofs.Worlds.{World, Opening}
use Rattle.cap_owners_spec.specs.Traced.{Traced, past_width, valuation}
use Rattle.cap_owners_spec.specs.Track.{Fill, TrackedRegion, tracked_at}
use Rattle.cap_owners_spec.specs.Walks.{Walk, Interpreting, Halt}
use Rattle.cap_owners_walks_laws.proofs.Fills.Drawn.{Tells}
use Rattle.cap_owners_walks_laws.proofs.Passes.Rests.{walks_into}
use Rattle.cap_owners_walks_laws.proofs.Regions.Enters.{enter-node}
use Rattle.cap_owners_walks_laws.proofs.Regions.Regiven.{AreSorted}
use Rattle.cap_owners_walks_laws.proofs.Regions.Reshut.{RegionMet}
use Rattle.cap_owners_walks_laws.proofs.Regions.Telling.{ToldSo}

module _ (p : Checked) (wf : IsWellFormed p.program) (along : GivenAlongLaw p)
    (clash : ClashLaw p) (V : Table) (share : ℤ → Stock) (part : Stock) (heap : Heap)
    (world : World p.program V share part heap) (fn : PlainFunction) (fixed : List NameValue)
    (size : length fixed ≡ length fn.fixed) (f : Frame) (h : Home) (l : Label) (b : Block)
    (seating : Bool) (enter : Interpreting) (w : Walk) (ev : Event) (more : List Event)
    (tells : Tells w.regions V)
    (told : (r : TrackedRegion) (m : ℤ) (j : ℕ) (zs : List ℤ) (z : ℤ) →
    V m ≡ Some (known_as j zs (Some z)) → tracked_at w.regions m ≡ Some r →
    ToldSo (RegionMet p V m j zs z (share m)) (enter w.regions r)) where
  -- the act, where up to two regions are open, at these values
  pub record ActsFrom (a : PlainAct) : Type 0 where
    pub values : List NameValue
    pub state : PlainState
    pub number : ℕ
    pub certs : List Cert
    pub marks : List (Option Cert)
    pub kids : PlainTrees
    pub valid :
        p.N (node (by_act number certs marks) kids) state (running (first l a b) h)
    pub opening : Opening p.program V share part (valuation values) state
    pub store : Store (valuation values) state h fn fixed (with_rest f (first l a b))
    pub sorted : AreSorted state.sorts values
    pub few : length state.opened ≤ 2

  -- a walk comes there with its step still to come, unless a number leaves its bounds
  abbrev pub Comes_to : PlainAct → Traced Halt → Type 0
  Comes_to a o =
      (o ≡ past_width)
      ⊎ ((t : ActsFrom a) × (fill : Option Fill)
      × (o ≡ walks_into seating enter p.program
      (tree (node (by_act t.number t.certs t.marks) t.kids) no_trees)
      (goal t.state (running (first l a b) h) ∷ [])
      (record w { values = t.values; events = ev ∷ more; fill = fill })))

  comes-same : (a : PlainAct) (o q : Traced Halt) → o ≡ q → Comes_to a q → Comes_to a o
  comes-same a o q e (inl wide) = inl (e ∙ wide)
  comes-same a o q e (inr k) = inr (k.0, k.1, e ∙ k.2)

  -- the state is open so, where so many regions are open
  record Here (a : PlainAct) (vs : List NameValue) (s : PlainState) (d : PlainTree) (n : ℕ)
      : Type 0 where
    valid : p.N d s (running (first l a b) h)
    opening : Opening p.program V share part (valuation vs) s
    store : Store (valuation vs) s h fn fixed (with_rest f (first l a b))
    sorted : AreSorted s.sorts vs
    are : length s.opened ≡ n

  abbrev At : PlainAct → PlainState → PlainTree → List NameValue → Option Fill → Traced Halt
  At a s d vs fill =
      walks_into seating enter p.program (tree d no_trees) (goal s (running (first l a b) h) ∷ [])
      (record w { values = vs; events = ev ∷ more; fill = fill })

  enters-at :
      (fuel n : ℕ) → n + fuel ≡ 2 → (a : PlainAct) (x : Linear) → address_of a ≡ Some x →
      (vs : List NameValue) (s : PlainState) (d : PlainTree) (fill : Option Fill) →
      Here a vs s d n → Comes_to a (At a s d vs fill)
  enters-at fuel n e a x is vs s (node (by_absurd c) ks) fill o =
      absurd ((p.step o.valid).0.0 (valuation vs)
      (solves [] (valuation vs) s o.opening.grounded.meets))
  enters-at fuel n e a x is vs s (node (by_clash i j cs) ks) fill o =
      absurd (clash V share part heap l a b world (valuation vs) s h o.opening i j cs ks o.valid)
  enters-at fuel n e a x is vs s (node (by_act j cs ms) ks) fill o =
      inr (
        record {
          values = vs;
          state = s;
          number = j;
          certs = cs;
          marks = ms;
          kids = ks;
          valid = o.valid;
          opening = o.opening;
          store = o.store;
          sorted = o.sorted;
          few = (let few = o.are in omega (arith, few, e));
        },
        fill,
        refl,
      )
  enters-at zero n e a x is vs s (node (by_enter i cs) ks) fill o =
      let r = entered p wf along V share part heap world fn fixed size (with_rest f (first l a b)) h
      (valuation vs) s o.opening o.store i l a b ks (p.step o.valid) in
      let low = r.0 in
      let few = o.are in
      absurd (omega (arith, low, few, e))
  enters-at (suc fuel) n e a x is vs s (node (by_enter i cs) ks) fill o =
      elim (enter-node p wf along V share part heap world fn fixed size
      (with_rest f (first l a b)) h seating enter vs s o.opening o.store o.sorted i l a b cs ks
      o.valid (record w { fill = fill }) ev more tells told) [
        | inl wide ↦ inl wide
        | inr t ↦
            comes-same a (At a s (node (by_enter i cs) ks) vs fill)
            (At a t.0.after t.0.child t.0.values t.1) t.2
            (enters-at fuel (suc n) (omega (arith, e)) a x is t.0.values t.0.after t.0.child t.1
            (record {
              valid = t.0.valid;
              opening = t.0.opening;
              store = t.0.store;
              sorted = t.0.sorted;
              are = ap length t.0.opened
                  ∙ (let q = push-length s.opened t.0.f in
                  let few = o.are in omega (arith, q, few));
            }))
      ]
  enters-at fuel n e (read y t) x is vs s d fill o = absurd (p.step o.valid).1
  enters-at fuel n e (write t u) x is vs s d fill o = absurd (p.step o.valid).1
  enters-at fuel n e (cas y t u q) x is vs s d fill o = absurd (p.step o.valid).1
  enters-at fuel n e (faa y t u) x is vs s d fill o = absurd (p.step o.valid).1
  enters-at fuel n e (dispose t) x is vs s d fill o = absurd (p.step o.valid).1
  enters-at fuel n e (set y t) x is vs s d fill o = absurd (none-some is)
  enters-at fuel n e (alloc y m) x is vs s d fill o = absurd (none-some is)
  enters-at fuel n e (call y m us) x is vs s d fill o = absurd (none-some is)
  enters-at fuel n e (fork m us) x is vs s d fill o = absurd (none-some is)
  enters-at fuel n e (branch c y z) x is vs s d fill o = absurd (none-some is)
  enters-at fuel n e (loop c i y) x is vs s d fill o = absurd (none-some is)
  enters-at fuel n e (check c) x is vs s d fill o = absurd (none-some is)
  enters-at fuel n e (give_back t) x is vs s d fill o = absurd (none-some is)

  -- from a node at which no region is open
  pub enters-all :
      (a : PlainAct) (x : Linear) → address_of a ≡ Some x → (vs : List NameValue)
      (s : PlainState) (d : PlainTree) (fill : Option Fill) →
      p.N d s (running (first l a b) h) → Opening p.program V share part (valuation vs) s →
      Store (valuation vs) s h fn fixed (with_rest f (first l a b)) → AreSorted s.sorts vs →
      s.opened ≡ [] →
      Comes_to a
      (walks_into seating enter p.program (tree d no_trees)
      (goal s (running (first l a b) h) ∷ [])
      (record w { values = vs; events = ev ∷ more; fill = fill }))
  enters-all a x is vs s d fill valid opening store sorted none_open =
      enters-at 2 0 refl a x is vs s d fill (record {
        valid = valid;
        opening = opening;
        store = store;
        sorted = sorted;
        are = ap length none_open;
      })
