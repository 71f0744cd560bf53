-- A region is closed along a walk: a case is picked, its items are taken, and the region is put in
-- its place. What is known before is known afterwards, at the walk's values.
use Rattle.std.proofs.Common.{◌≡◌, ◌⊎◌, ℕ, suc, ◌≤◌, ℤ, ◌<ℤ◌, Bool, true, List, [], ◌∷◌, ◌++◌, map, length}
use Rattle.std.specs.List.{AllByRecursion}
use Rattle.cap_goal_spec.specs.States.{PlainState, PlainTask, to_close, goals_of}
use Rattle.cap_goal_spec.specs.Choices.{PlainTrees}
use Rattle.cap_machine.specs.Machine.{Heap}
use Rattle.cap_machine_accounts.specs.Assertions.{NameValue}
use Rattle.cap_account_resources.specs.Parts.{cells_of, Table}
use Rattle.cap_account_resources.proofs.Lists.{Among}
use Rattle.cap_account_resources.proofs.Owners.{Numbered}
use Rattle.cap_account_resources.proofs.Stocks.{Stock}
use Rattle.cap_account_resources.proofs.Tables.{TableFits, AreListed}
use Rattle.cap_account_states.specs.Nodes.{Open}
use Rattle.cap_account_states.proofs.Checked.{Checked}
use Rattle.cap_account_steps.proofs.StillOpen.{LaterState}
use Rattle.cap_account_steps.proofs.Worlds.{regions_of, Closing, SettlesBy}
use Rattle.cap_owners_spec.specs.Traced.{past_width, valuation}
use Rattle.cap_owners_spec.specs.Track.{TrackedRegion}
use Rattle.cap_owners_spec.specs.Walks.{Walk, Interpreting, with_region}
use Rattle.cap_owners_walks_laws.proofs.Passes.Rests.{walks_into}
use Rattle.cap_owners_walks_laws.proofs.Passes.Takes.{owner_of}
use Rattle.cap_owners_walks_laws.proofs.Regions.Open.{TellsOpen, numbers_in, AreAscending}
use Rattle.cap_owners_walks_laws.proofs.Regions.OwnedSo.{OwnedSo}
use Rattle.cap_owners_walks_laws.proofs.Regions.Regiven.{AreSorted}
use Rattle.cap_owners_walks_laws.proofs.Regions.Says.{SaysOr}

module _ (p : Checked) (heap : Heap) (V : Table) (part : Stock) where
  -- What is known while regions are closed, at a walk's values: what soundness knows, and that facts
  -- and the walk's regions say what the table does, but of regions that are still open.
  pub record Closes (W : Table) (ks : List ℕ) (vs : List NameValue) (s : PlainState) (held : Stock)
      (rs : List TrackedRegion) (next : ℤ) : Type 0 where
    pub closing : Closing p.program V W part ks (valuation vs) s held
    pub sorted : AreSorted s.sorts vs
    pub says :
        AllByRecursion (SaysOr (valuation vs) W (regions_of (valuation vs) s.opened)) s.facts
    pub fits : TableFits p.program W
    pub bound : List ℤ
    pub listed : AreListed bound W
    pub tells : TellsOpen (regions_of (valuation vs) s.opened) rs W
    pub ascending : AreAscending (numbers_in rs)
    pub below : AllByRecursion (λ n. n <ℤ next) (numbers_in rs)
    pub cells : (a z : ℤ) → held.cells a z ≤ cells_of heap a z

  -- One region is closed, and others are made under way: it has what was taken for its case, as the
  -- track says. A walk goes there, unless a number leaves its bounds.
  pub record ClosesTo (W : Table) (ks : List ℕ) (vs : List NameValue) (s : PlainState)
      (held : Stock) (rs : List TrackedRegion) (next : ℤ) (n : ℕ) (ts : List PlainTask)
      (trees : PlainTrees) : Type 0 where
    pub region : TrackedRegion
    pub made : List TrackedRegion
    pub values : List NameValue
    pub after : PlainState
    pub children : PlainTrees
    pub goes : Open p.N children after ts
    pub left : Stock
    pub by : SettlesBy p.program V W part held (region.owned.region.number ∷ []) left
    pub js : List ℕ
    pub later : LaterState ks js (valuation vs) (valuation values) s after
    pub fewer : length s.opened ≡ suc (length after.opened)
    pub or :
        (m : ℤ) → Among m (regions_of (valuation vs) s.opened) →
        (region.owned.region.number ≡ m)
        ⊎ Among m (regions_of (valuation values) after.opened)
    pub is_open : Among region.owned.region.number (regions_of (valuation vs) s.opened)
    pub still :
        (m : ℤ) → Among m (regions_of (valuation values) after.opened) →
        Among m (regions_of (valuation vs) s.opened)
    pub next_is : ℤ
    pub numbered : Numbered next (map owner_of made) next_is
    pub closes :
        Closes by.U js values after left (with_region region rs ++ made) next_is
    pub closed_are : by.closed ≡ owner_of region ∷ []
    pub made_are : by.made ≡ map owner_of made
    pub owned : OwnedSo p.program by.U region
    pub owned_made : AllByRecursion (OwnedSo p.program by.U) made
    pub walks :
        (seating : Bool) (enter : Interpreting) (w : Walk) →
        (walks_into seating enter p.program trees (goals_of s (to_close true n ∷ ts))
        (record w { values = vs; next = next; regions = rs })
        ≡ past_width)
        ⊎ (walks_into seating enter p.program trees (goals_of s (to_close true n ∷ ts))
        (record w { values = vs; next = next; regions = rs })
        ≡ walks_into seating enter p.program children (goals_of after ts) (record w {
          values = values;
          next = next_is;
          regions = with_region region rs ++ made;
        }))

  -- or each walk is too wide
  abbrev pub ClosesWide :
      List NameValue → PlainState → List TrackedRegion → ℤ → ℕ → List PlainTask → PlainTrees →
      Type 0
  ClosesWide vs s rs next n ts trees =
      (seating : Bool) (enter : Interpreting) (w : Walk) →
      walks_into seating enter p.program trees (goals_of s (to_close true n ∷ ts))
      (record w { values = vs; next = next; regions = rs })
      ≡ past_width

-- what closing comes to
abbrev pub ClosesLaw : Checked → Type 0
ClosesLaw p =
    (heap : Heap) (V : Table) (part : Stock) (W : Table) (ks : List ℕ) (vs : List NameValue)
    (s : PlainState) (held : Stock) (rs : List TrackedRegion) (next : ℤ) (n : ℕ)
    (ts : List PlainTask) (trees : PlainTrees) → Open p.N trees s (to_close true n ∷ ts) →
    Closes p heap V part W ks vs s held rs next →
    ClosesWide p heap V part vs s rs next n ts trees
    ⊎ ClosesTo p heap V part W ks vs s held rs next n ts trees
