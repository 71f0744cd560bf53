-- A region owns its part as the track says: in its case, by what that is met. So it does as it is
-- made, and as it is closed with what was taken.
use Rattle.std.proofs.Common.{◌≡◌, ℕ, suc, ◌+◌, List, [], ◌∷◌, map, length, Some, refl, sym, ap, ◌∙◌, subst}
use Rattle.std.specs.Prelude.{slice_get}
use Rattle.std.specs.List.{AllByRecursion, AllZip}
use Rattle.cap_lin.specs.Values.{Valuation, value}
use Rattle.cap_lin.specs.declared.row.Sort.TheVariants.{Int}
use Rattle.cap_prog.specs.Program.{PlainCase, PlainRegionType, PlainProgram}
use Rattle.cap_prog.specs.Scopes.{region_scope, region_sorts}
use Rattle.cap_goal_spec.specs.States.{PlainEnv}
use Rattle.cap_machine_accounts.specs.Assertions.{NameValue, AreWhole, CompHolds}
use Rattle.cap_account_resources.specs.Parts.{known_as, Table}
use Rattle.cap_account_resources.proofs.Stocks.{no_stock, both, none-right, inside-is, inside-same}
use Rattle.cap_account_resources.proofs.Tables.{KeepsStates}
use Rattle.cap_account_resources.proofs.Owners.{Owner}
use Rattle.cap_account_states.proofs.Naming.{values_in}
use Rattle.cap_account_states.proofs.Scopes.{length-join, rep-length}
use Rattle.cap_account_assertions.proofs.Asserted.{DrawsAll, draws-all-kept, owns-all, OwnsRegion, case-kept}
use Rattle.cap_account_assertions.proofs.Laws.{IsOwner, Creation}
use Rattle.cap_account_assertions.proofs.NewRegions.{told-here}
use Rattle.cap_account_steps.proofs.ClosedTables.{closed_table, closed-states}
use Rattle.cap_account_steps.proofs.SettledTables.{told_of, open_of}
use Rattle.cap_account.proofs.Stocked.{part_stock}
use Rattle.cap_owners_spec.specs.Traced.{valuation}
use Rattle.cap_owners_spec.specs.Track.{TrackedRegion}
use Rattle.cap_owners_spec.specs.Walks.{Taking}
use Rattle.cap_owners_walks_laws.proofs.Fills.Drawn.{items_met, items_told, IsMetBy}
use Rattle.cap_owners_walks_laws.proofs.Fills.Giving.{NamesFit}
use Rattle.cap_owners_walks_laws.proofs.Passes.Meets.{items-met-kept, items-told-kept, items-met-out, items-told-out}
use Rattle.cap_owners_walks_laws.proofs.Passes.Takes.{owner_of, IsTracked}
use Rattle.cap_owners_walks_laws.proofs.Regions.Regiven.{AreSorted}
use Rattle.cap_owners_walks_laws.proofs.Regions.Reshut.{sorted-names, known-sort}

-- the table tells so of the region, and its part has its case, met by its fill
pub record OwnedSo (p : PlainProgram) (U : Table) (r : TrackedRegion) : Type 0 where
  pub known :
      U r.owned.region.number
      ≡ Some (known_as r.owned.region.kind r.owned.region.args (Some r.owned.region.state))
  pub own :
      OwnsRegion p U r.owned.region.number r.owned.region.kind r.owned.region.args
      r.owned.region.state (part_stock r.owned.part)
  pub number : own.number ≡ r.case
  pub met :
      IsMetBy p U own.values own.case.items (part_stock r.owned.part) own.met.0 own.met.1 r.fill
  pub fits : NamesFit (region_scope own.type own.case.names) r.fill.names
  pub sorted : AreSorted (region_sorts own.type own.case.names) r.fill.names

-- as many values as a case has names, which fit
pub names-sorted :
    (y : PlainRegionType) (z : PlainCase) (names : List NameValue) →
    NamesFit (region_scope y z.names) names → length names ≡ y.params + length z.names →
    AreSorted (region_sorts y z.names) names
names-sorted y z names fits size =
    let params = rep-length y.params Int in
    sorted-names (region_sorts y z.names) names
    (size ∙ ap (λ n. n + length z.names) (sym params) ∙ sym (length-join _ z.names))
    (λ x o i. fits o x (known-sort y z.names x o i))

-- by a table that keeps known states
pub owned-on :
    (p : PlainProgram) (U V : Table) → KeepsStates U V → (r : TrackedRegion) → OwnedSo p U r →
    OwnedSo p V r
owned-on p U V k r h =
    let o = h.own in
    let n = r.owned.region in
    record {
      known = k n.number n.kind n.args n.state h.known;
      own = (case-kept p U V k (owner_of r) o.number o.values (o, refl, refl)).0;
      number = h.number;
      met = record {
        names = h.met.names;
        wildcards =
            items-met-kept p U V k o.values o.case.items (part_stock r.owned.part) o.met.0 o.met.1
            ∙ h.met.wildcards;
        facts =
            items-told-kept p U V k o.values o.case.items (part_stock r.owned.part) o.met.0 o.met.1
            ∙ h.met.facts;
      };
      fits = h.fits;
      sorted = h.sorted;
    }

pub all-owned-on :
    (p : PlainProgram) (U V : Table) → KeepsStates U V → (rs : List TrackedRegion) →
    AllByRecursion (OwnedSo p U) rs → AllByRecursion (OwnedSo p V) rs
all-owned-on p U V k [] h = tt
all-owned-on p U V k (r ∷ rs) h = (owned-on p U V k r h.0, all-owned-on p U V k rs h.1)

-- ---- regions that were created

pub owned-tracked :
    (p : PlainProgram) (U : Table) (c : Creation) (r : TrackedRegion) → IsTracked p U c r →
    IsOwner p U c.owner → OwnedSo p U r
owned-tracked p U c r t o = record {
  known =
      subst (λ (w : Owner). U w.number ≡ Some (known_as w.kind w.args (Some w.state))) t.owner
      o.known;
  own = t.own.0;
  number = t.own.1;
  met = t.met;
  fits = t.fits;
  sorted = names-sorted t.own.0.type t.own.0.case r.fill.names t.fits t.size;
}

pub all-owned :
    (p : PlainProgram) (U : Table) (cs : List Creation) (rs : List TrackedRegion) →
    AllZip (IsTracked p U) cs rs → AllByRecursion (IsOwner p U) (map (λ c. c.owner) cs) →
    AllByRecursion (OwnedSo p U) rs
all-owned p U [] [] h o = tt
all-owned p U [] (r ∷ rs) h o = absurd h
all-owned p U (c ∷ cs) [] h o = absurd h
all-owned p U (c ∷ cs) (r ∷ rs) h o =
    (owned-tracked p U c r h.0 o.0, all-owned p U cs rs h.1 o.1)

pub owners-tracked :
    (p : PlainProgram) (U : Table) (cs : List Creation) (rs : List TrackedRegion) →
    AllZip (IsTracked p U) cs rs → map (λ c. c.owner) cs ≡ map owner_of rs
owners-tracked p U [] [] h = refl
owners-tracked p U [] (r ∷ rs) h = absurd h
owners-tracked p U (c ∷ cs) [] h = absurd h
owners-tracked p U (c ∷ cs) (r ∷ rs) h =
    ap (λ o. o ∷ map (λ c. c.owner) cs) h.0.owner
    ∙ ap (λ os. owner_of r ∷ os) (owners-tracked p U cs rs h.1)

-- ---- a region that is closed

-- it has what was drawn for its case, at what the environment says
module _ (p : PlainProgram) (T : Table) (o : Owner) (is_open : T o.number ≡ Some (open_of o))
    (w : Valuation) (env : PlainEnv) (y : PlainRegionType) (z : PlainCase) (c : ℕ)
    (is_type : slice_get p.regions o.kind ≡ Some y) (is_case : slice_get y.cases c ≡ Some z)
    (arity : y.params ≡ suc (length o.args)) (names : List NameValue)
    (same : values_in w env ≡ valuation names) (fits : NamesFit (region_scope y z.names) names)
    (size : length names ≡ y.params + length z.names) (top : Taking)
    (args_are : AreWhole (values_in w env) 0 (o.number ∷ o.args))
    (state_is : value (values_in w env).whole z.state ≡ o.state)
    (conditions : AllByRecursion (CompHolds (values_in w env)) z.when)
    (d : DrawsAll p T (values_in w env) z.items (both p o.stock no_stock) no_stock)
    (wildcards : items_met p T (values_in w env) z.items (both p o.stock no_stock) no_stock d
    ≡ top.fill.wildcards)
    (facts : items_told p T (values_in w env) z.items (both p o.stock no_stock) no_stock d
    ≡ top.fill.facts) where
  abbrev X : Valuation
  X = values_in w env

  abbrev U : Table
  U = closed_table T o

  keeps : KeepsStates T (closed_table T o)
  keeps = closed-states T o is_open

  abbrev kept : DrawsAll p U X z.items (both p o.stock no_stock) no_stock
  kept = draws-all-kept p T U keeps X z.items (both p o.stock no_stock) no_stock d

  abbrev owns : OwnsRegion p U o.number o.kind o.args o.state o.stock
  owns = record {
    type = y;
    is_type = is_type;
    arity = arity;
    number = c;
    case = z;
    is_case = is_case;
    values = X;
    args_are = args_are;
    state_is = state_is;
    conditions = conditions;
    met = owns-all p U X z.items o.stock kept;
  }

  -- by what its case is met
  abbrev MetSo : (q : Owner) → OwnsRegion p U q.number q.kind q.args q.state q.stock → Type 0
  MetSo q oc =
      IsMetBy p U oc.values oc.case.items q.stock oc.met.0 oc.met.1
      (record top.fill { names = names })
      × NamesFit (region_scope oc.type oc.case.names) names
      × (length names ≡ oc.type.params + length oc.case.names)
      × (oc.number ≡ c)

  met-here : MetSo o owns
  met-here = (
    record {
      names = same;
      wildcards =
          items-met-out p U X z.items (both p o.stock no_stock) o.stock no_stock no_stock
          (inside-is p (both p o.stock no_stock) o.stock (none-right p o.stock))
          (inside-same p no_stock) kept
          ∙ items-met-kept p T U keeps X z.items (both p o.stock no_stock) no_stock d
          ∙ wildcards;
      facts =
          items-told-out p U X z.items (both p o.stock no_stock) o.stock no_stock no_stock
          (inside-is p (both p o.stock no_stock) o.stock (none-right p o.stock))
          (inside-same p no_stock) kept
          ∙ items-told-kept p T U keeps X z.items (both p o.stock no_stock) no_stock d
          ∙ facts;
    },
    fits,
    size,
    refl,
  )

  -- as it is tracked
  pub owned-shut :
      (r : TrackedRegion) → o ≡ owner_of r → r.case ≡ c →
      r.fill ≡ record top.fill { names = names } → OwnedSo p (closed_table T o) r
  owned-shut r e case fill =
      let there = subst (λ (q : Owner).
      (oc : OwnsRegion p U q.number q.kind q.args q.state q.stock) × MetSo q oc
      × (U q.number ≡ Some (told_of q))) e
      (owns, met-here, told-here T o.number (told_of o)) in
      let k = there.1 in
      let back = sym fill in
      record {
        known = there.2;
        own = there.0;
        number = k.3 ∙ sym case;
        met = subst (λ f. IsMetBy p U there.0.values there.0.case.items (part_stock r.owned.part)
            there.0.met.0 there.0.met.1 f) back k.0;
        fits =
            subst (λ (ns : List NameValue).
            NamesFit (region_scope there.0.type there.0.case.names) ns)
            (ap (λ f. f.names) back) k.1;
        sorted =
            subst (λ (ns : List NameValue).
            AreSorted (region_sorts there.0.type there.0.case.names) ns) (ap (λ f. f.names) back)
            (names-sorted there.0.type there.0.case names k.1 k.2);
      }
