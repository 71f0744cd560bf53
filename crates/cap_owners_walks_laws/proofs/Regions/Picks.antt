-- A case is picked for an open region, and its items are taken along a walk: at the walk's values
-- soundness says what there is then.
use Rattle.std.proofs.Common.{◌≡◌, ◌⊎◌, inr, ℕ, ◌+◌, ℤ, pos, ◌*ℤ◌, ◌<ℤ◌, true, List, [], ◌∷◌, map, length, Some, None, refl, sym, ap, ◌∙◌, subst, arith}
use Rattle.std.specs.Prelude.{slice_get}
use Rattle.std.specs.List.{AllByRecursion}
use Rattle.std.proofs.lemmas.Int.{ints}
use Rattle.cap_lin.specs.Values.{Valuation, value, denominator}
use Rattle.cap_lin.specs.declared.row.Sort.TheVariants.{Int}
use Rattle.cap_prog.specs.Program.{Items, PlainRegionType}
use Rattle.cap_prog.specs.Scopes.{Scope, region_scope}
use Rattle.cap_prog.specs.WellFormed.{IsWellFormed, RegionFits}
use Rattle.cap_goal_spec.specs.States.{PlainFact, PlainEnv, PlainState, PlainTask, to_close, to_shift, PlainGoal, goal, goals_of}
use Rattle.cap_goal_spec.specs.Environments.{term_of, region_env}
use Rattle.cap_goal_spec.specs.Choices.{node, PlainTrees, by_pick}
use Rattle.cap_rules.specs.Making.{env_at}
use Rattle.cap_rules_nodes.specs.Nodes.{goals_left}
use Rattle.cap_machine.specs.Machine.{Heap}
use Rattle.cap_machine_accounts.specs.Assertions.{NameValue}
use Rattle.cap_account_resources.specs.Parts.{known_as, Table}
use Rattle.cap_account_resources.proofs.Lists.{map-length, all-at, all-unmap, get-or-push}
use Rattle.cap_account_resources.proofs.Order.{cancel}
use Rattle.cap_account_resources.proofs.Room.{room}
use Rattle.cap_account_resources.proofs.Stocks.{Stock, both}
use Rattle.cap_account_states.specs.Nodes.{Open}
use Rattle.cap_account_states.proofs.Alike.{Alike}
use Rattle.cap_account_states.proofs.Attempts.{env_added}
use Rattle.cap_account_states.proofs.Brought.{Brought}
use Rattle.cap_account_states.proofs.Backed.{Backed}
use Rattle.cap_account_states.proofs.Checked.{Checked}
use Rattle.cap_account_states.proofs.Environments.{bound-over, region-env-over}
use Rattle.cap_account_states.proofs.Meets.{Usable, Old}
use Rattle.cap_account_states.proofs.Naming.{Means}
use Rattle.cap_account_states.proofs.Terms.{vars-more, Agree}
use Rattle.cap_account_assertions.proofs.Asserted.{DrawsAll}
use Rattle.cap_account_assertions.proofs.Laws.{StateAt, KeepsCreated, Taken, TakenLaw}
use Rattle.cap_account_assertions.proofs.TakenLaws.{FreeFrom, job_of, taken-of}
use Rattle.cap_account_assertions.proofs.TakeSteps.{Job}
use Rattle.cap_account_assertions.proofs.TreeSizes.{trees_size}
use Rattle.cap_account_steps.proofs.CaseTaken.{CaseTaken, start, case-fits, case-taken}
use Rattle.cap_account_steps.proofs.Moves.{Movable}
use Rattle.cap_account_steps.proofs.Shifting.{take_and_shift, Picked, picked}
use Rattle.cap_account_steps.proofs.Worlds.{regions_of, IsStillOpen}
use Rattle.cap_owners_spec.specs.Traced.{valuation}
use Rattle.cap_owners_spec.specs.Track.{TrackedRegion}
use Rattle.cap_owners_spec.specs.Walks.{nothing_taken}
use Rattle.cap_owners_walks_laws.proofs.Walks.Nodes.{left-children}
use Rattle.cap_owners_walks_laws.proofs.Passes.Takes.{AreNameTerms, AreBelow, TakesFrom, IsTooWide, TakesTo}
use Rattle.cap_owners_walks_laws.proofs.Passes.Takings.{takes-law, from-room}
use Rattle.cap_owners_walks_laws.proofs.Regions.Closes.{Closes}
use Rattle.cap_owners_walks_laws.proofs.Regions.Landing.{Lands, lands, node-lands}
use Rattle.cap_owners_walks_laws.proofs.Regions.Open.{open-free}

-- ---- values over one denominator

-- alike values over one denominator agree
pub alike-one :
    (P : ℕ → Type 0) (v w : Valuation) → w.fraction.under ≡ v.fraction.under → Alike P v w →
    Agree P v w
alike-one P v w under a = record {
  under = under;
  whole = a.whole;
  share = λ x h.
      cancel (w.fraction.numerator x) (v.fraction.numerator x) (denominator v.fraction)
      (positive v.fraction.under)
      (a.share x h ∙ ap (λ u. v.fraction.numerator x *ℤ pos (u + 1)) under);
}
  where
    positive : (u : ℕ) → pos 0 <ℤ pos (u + 1)
    positive u = omega (arith, ints)

-- what was taken, at the same values
abbrev pub taken_at :
    (p : Checked) (ks : List ℕ) (T : Table) (sc : Scope) (e most : ℕ) (v : Valuation)
    (held : Stock) (s : PlainState) (items : Items) (ts : List PlainTask) (u : Valuation)
    (k : Taken p ks T sc e most v held s items ts) → k.w ≡ u →
    Taken p ks T sc e most v held s items ts
taken_at p ks T sc e most v held s items ts u k same = record {
  w = u;
  alike = subst (Alike (Old s) v) same k.alike;
  after = k.after;
  brings = k.brings;
  brought = subst (λ w. Brought s k.after w k.brings) same k.brought;
  children = k.children;
  goes = k.goes;
  U = k.U;
  new = k.new;
  made = k.made;
  none_made = k.none_made;
  created = k.created;
  are_created = k.are_created;
  keeps =
      subst (λ w. AllByRecursion (KeepsCreated p.program k.U (Old k.after) w) k.created) same
      k.keeps;
  ready = subst (λ w. StateAt p.program ks k.U sc e w k.after) same k.ready;
  loose = k.loose;
  goes_on = k.goes_on;
  stays = k.stays;
  outside = k.outside;
  size = k.size;
  others = k.others;
  given = k.given;
  left = k.left;
  backed = subst (λ w. Backed p.program w k.after k.left) same k.backed;
  budget = k.budget;
  draws =
      subst (λ w.
      (x : Valuation) → Alike (Old k.after) w x → (a : Valuation) →
      Means sc x (env_at k.after e) a → (r : Stock) →
      DrawsAll p.program k.U a items (both p.program k.given r) r) same k.draws;
}

-- ---- a case is picked

module _ (p : Checked) (wf : IsWellFormed p.program) (law : TakenLaw p) (heap : Heap) (V : Table)
    (part : Stock) (W : Table) (ks : List ℕ) (vs : List NameValue) (s : PlainState) (held : Stock)
    (rs : List TrackedRegion) (next : ℤ) (c : Closes p heap V part W ks vs s held rs next)
    (n : ℕ) (ts : List PlainTask) where
  abbrev v : Valuation
  v = valuation vs

  -- an open region has a type
  open-movable :
      (o : ℕ) (f : PlainFact) → slice_get s.opened o ≡ Some f →
      (k : PlainRegionType) × Movable p.program ks s f k
  open-movable o f e =
      let st = all-at (IsStillOpen ks v V W s) s.opened o f c.closing.opened e in
      let args = map (value v.whole) f.args in
      let k = c.fits (value v.whole f.region) (known_as f.kind args None) st.2 in
      let size = map-length (value v.whole) f.args in (
        k.0,
        record {
          over = st.0;
          is_type = k.1;
          fits = all-at (RegionFits p.program) p.program.regions f.kind k.0 wf.regions k.1;
          arity = (let m = k.2 in omega (arith, m, size));
        },
      )

  module _ (o cn mv : ℕ) (kids : PlainTrees)
      (hd : p.N (node (by_pick o cn mv) kids) s (to_close true n ∷ ts)) where
    abbrev G : List PlainGoal
    G = goals_left p.program (goal s (to_close true n ∷ ts)) (by_pick o cn mv)

    pub on-goals : Picked p.program (Lands p.N (goals_left p.program (goal s (to_close true n ∷ ts))
        (by_pick o cn mv))) ks s o cn mv n true ts kids
    on-goals =
        picked p.program (Lands p.N G) ks s o cn mv n true ts kids (open-movable o)
        (node-lands p (by_pick o cn mv) kids s (to_close true n ∷ ts) hd)

    module _ (q : Picked p.program (Lands p.N (goals_left p.program
        (goal s (to_close true n ∷ ts)) (by_pick o cn mv))) ks s o cn mv n true ts kids) where
      abbrev pub e : ℕ
      e = length s.envs

      abbrev pub env : PlainEnv
      env = region_env q.f q.names

      abbrev pub begun : PlainState
      begun = env_added s (region_env q.f q.names)

      abbrev pub sc : Scope
      sc = region_scope q.k q.x.names

      abbrev pub shifts : List PlainTask
      shifts = to_shift o cn mv (length s.envs) n ∷ ts

      pub landed :
          (goals_left p.program (goal s (to_close true n ∷ ts)) (by_pick o cn mv)
          ≡ goals_of (env_added s (region_env q.f q.names))
          (take_and_shift s q.x o cn mv n true ts))
          × Open p.N kids (env_added s (region_env q.f q.names))
          (take_and_shift s q.x o cn mv n true ts)
      landed =
          lands p.N G kids begun (take_and_shift s q.x o cn mv n true ts)
          (left-children p (by_pick o cn mv) kids (goal s (to_close true n ∷ ts)) hd) q.goes

      abbrev pub pick : Picked p.program p.N ks s o cn mv n true ts kids
      pick = record {
        f = q.f;
        is_opened = q.is_opened;
        k = q.k;
        movable = q.movable;
        x = q.x;
        is_case = q.is_case;
        may = q.may;
        names = q.names;
        size = q.size;
        over = q.over;
        placed = q.placed;
        goes = landed.1;
      }

      abbrev pub job : Job
      job = job_of (region_scope q.k q.x.names) (length s.envs) 1 n q.x.items shifts

      low : AreBelow next rs
      low =
          all-unmap (λ (r : TrackedRegion). r.owned.region.number) (λ m. m <ℤ next) rs c.below

      pub free : FreeFrom W next
      free = open-free (regions_of v s.opened) rs W next c.tells low

      starts :
          StateAt p.program ks W (region_scope q.k q.x.names) (length s.envs) (valuation vs)
          (env_added s (region_env q.f q.names))
      starts =
          start p wf law V W part held ks v s n ts c.bound c.fits c.listed c.closing o cn mv kids
          pick

      alone :
          AreNameTerms s.sorts (env_at (env_added s (region_env q.f q.names)) (length s.envs))
      alone x t g =
          let R = Usable ks s.sorts Int in
          inr (vars-more R (λ y. slice_get s.sorts y ≡ Some Int) (λ y i. i.0) t.parts
          (bound-over R env
          (region-env-over R q.f q.names q.movable.over.0 q.movable.over.1 q.over) x t
          (ap (λ es. term_of es x) (sym (get-or-push s.envs env [])) ∙ g)))

      pub from-there :
          TakesFrom p ks W next (room p.program W) job vs (valuation vs)
          (env_added s (region_env q.f q.names)) held nothing_taken.part
      from-there =
          from-room p ks W next job vs begun held starts c.closing.old
          (case-fits p wf law V W part held ks v s n ts c.bound c.fits c.listed c.closing o cn mv
          kids pick).items.items
          (record { cells = c.closing.backed.cells; guards = c.closing.backed.guards })
          c.closing.room free c.sorted alone heap c.cells

      -- its items are taken so, or each walk is too wide
      pub takes-case :
          IsTooWide p ks next job kids vs (env_added s (region_env q.f q.names)) nothing_taken
          ⊎ TakesTo p ks W next job kids vs (valuation vs)
          (env_added s (region_env q.f q.names)) held nothing_taken (trees_size kids)
      takes-case =
          takes-law p wf.regions ks (trees_size kids) W next (room p.program W) job kids vs v begun
          held nothing_taken (omega arith) landed.1 from-there

      module _ (t : TakesTo p ks W next job kids vs (valuation vs)
          (env_added s (region_env q.f q.names)) held nothing_taken (trees_size kids)) where
        abbrev pub took :
            Taken p ks W (region_scope q.k q.x.names) (length s.envs) 1 (valuation vs) held
            (env_added s (region_env q.f q.names)) q.x.items shifts
        took =
            taken_at p ks W (region_scope q.k q.x.names) (length s.envs) 1 (valuation vs) held begun
            q.x.items shifts (valuation t.values)
            (taken-of p ks W (region_scope q.k q.x.names) (length s.envs) 1 n q.x.items shifts
            (valuation vs) begun held next (trees_size kids) free t.took).taken t.valued

        -- what soundness says of it
        abbrev pub taken_here : CaseTaken p V W part ks (valuation vs) s held n ts
        taken_here =
            case-taken p wf law V W part held ks v s n ts c.bound c.fits c.listed c.closing o cn mv
            kids pick (record {
              taken = took;
              once = λ h. alike-one (Old begun) v (valuation t.values) refl took.alike;
            })
