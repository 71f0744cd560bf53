-- A region is made along a walk: what it is, and by what it has its case.
use Rattle.std.proofs.Common.{◌≡◌, ℕ, suc, ◌+◌, ◌-◌, ℤ, List, ◌∷◌, length, map, take, drop, Some, refl, sym, ap, ◌∙◌, subst, arith}
use Rattle.std.specs.Prelude.{slice_get}
use Rattle.std.specs.List.{AllByRecursion}
use Rattle.cap_lin.specs.Linear.{Linear}
use Rattle.cap_lin.specs.Values.{Valuation, value}
use Rattle.cap_prog.specs.Program.{PlainCase, PlainRegionType, PlainProgram}
use Rattle.cap_prog.specs.Scopes.{region_scope}
use Rattle.cap_goal_spec.specs.States.{PlainState, PlainTask, PlainGoal}
use Rattle.cap_rules.specs.Making.{env_at}
use Rattle.cap_machine_accounts.specs.Assertions.{NameValue, AreWhole, CompHolds}
use Rattle.cap_account_resources.specs.Parts.{known_as, Table}
use Rattle.cap_account_resources.proofs.Lists.{some-same}
use Rattle.cap_account_resources.proofs.Owners.{Owner}
use Rattle.cap_account_resources.proofs.Room.{with_known}
use Rattle.cap_account_resources.proofs.Stocks.{Stock, no_stock, both, none-right, inside-is, inside-same}
use Rattle.cap_account_resources.proofs.Tables.{KeepsStates, extends-states}
use Rattle.cap_account_states.proofs.Alike.{alike-same}
use Rattle.cap_account_states.proofs.Meets.{Old}
use Rattle.cap_account_states.proofs.Naming.{values_in}
use Rattle.cap_account_assertions.proofs.Asserted.{DrawsAll, OwnsRegion, OwnsCase, owns-all, draws-all-kept}
use Rattle.cap_account_assertions.proofs.MadeRegions.{Pending, RegionMade, creation_of}
use Rattle.cap_account_assertions.proofs.NewRegions.{told-extends}
use Rattle.cap_owners_spec.specs.Traced.{number_of, valuation}
use Rattle.cap_owners_spec.specs.Track.{TrackedRegion}
use Rattle.cap_owners_spec.specs.Walks.{Taking}
use Rattle.cap_owners_walks_laws.proofs.Fills.Drawn.{items_met, items_told, IsMetBy}
use Rattle.cap_owners_walks_laws.proofs.Fills.Giving.{NamesFit}
use Rattle.cap_account.proofs.Stocked.{part_stock}
use Rattle.cap_owners_walks_laws.proofs.Passes.Meets.{items-met-kept, items-told-kept, items-met-out, items-told-out}
use Rattle.cap_owners_walks_laws.proofs.Passes.Takes.{owner_of, IsTracked}
use Rattle.cap_owners_walks_laws.proofs.Passes.Tracked.{whole-args}

-- as a walk makes it
abbrev pub made_as : ℤ → ℕ → ℕ → ℕ → List NameValue → ℤ → Taking → TrackedRegion
made_as n k params case names z t = record {
  owned = record {
    region = record {
      number = n;
      kind = k;
      args = map number_of (take (params - 1) (drop 1 names));
      state = z;
    };
    part = t.part;
  };
  case = case;
  fill = record t.fill { names = names };
}

module _ (p : PlainProgram) (ks : List ℕ) (U : Table) (n : ℤ) (w : Valuation) (s : PlainState)
    (left given : Stock) (y : PlainRegionType) (z : PlainCase) (k c e : ℕ) (t : Linear)
    (ts : List PlainTask) (P : List PlainGoal → Type 0) (is_type : slice_get p.regions k ≡ Some y)
    (is_case : slice_get y.cases c ≡ Some z) (h : Pending p ks U n w s left given y z e t)
    (m : RegionMade p ks U n w s left given k c e P ts) (names : List NameValue)
    (same : values_in w (env_at s e) ≡ valuation names) (size : length names ≡ length (env_at s e))
    (fits : NamesFit (region_scope y z.names) names)
    (sized : length names ≡ y.params + length z.names) (top : Taking)
    (gives : given ≡ part_stock top.part) (a : ℤ) (number : a ≡ n) (b : ℤ)
    (state : b ≡ value (valuation names).whole z.state) where
  abbrev X : Valuation
  X = values_in w (env_at s e)

  abbrev V : Table
  V = with_known U n (known_as k m.args (Some m.state))

  abbrev region : TrackedRegion
  region = made_as a k y.params c names b top

  abbrev owned :
      OwnsCase p (with_known U n (known_as k m.args (Some m.state)))
      (creation_of n k m.args m.state given c (env_at s e)).owner c (values_in w (env_at s e))
  owned = m.keeps w (alike-same (Old s) w)

  abbrev own :
      OwnsRegion p (with_known U n (known_as k m.args (Some m.state))) n k m.args m.state given
  own = owned.0

  type-same : own.type ≡ y
  type-same = some-same own.type y (sym own.is_type ∙ is_type)

  case-same : own.case ≡ z
  case-same =
      some-same own.case z
      (sym own.is_case
      ∙ (λ i. slice_get (type-same i).cases (owned.1 i))
      ∙ is_case)

  args-same : map number_of (take (y.params - 1) (drop 1 names)) ≡ m.args
  args-same =
      let arity : y.params ≡ suc (length m.args) =
      ap (λ (q : PlainRegionType). q.params) (sym type-same) ∙ own.arity in
      let less : y.params - 1 ≡ length m.args = omega (arith, arity) in
      let room = h.room in
      ap (λ i. map number_of (take i (drop 1 names))) less
      ∙ whole-args names n m.args (omega (arith, arity, room, size))
      (subst (λ v. AreWhole v 0 (n ∷ m.args)) (owned.2 ∙ same) own.args_are)

  state-same : m.state ≡ b
  state-same =
      sym own.state_is
      ∙ (λ i. value ((owned.2 ∙ same) i).whole (case-same i).state)
      ∙ sym state

  owner-same : (creation_of n k m.args m.state given c (env_at s e)).owner ≡ owner_of region
  owner-same = λ i. record {
    number = sym number i;
    kind = k;
    args = sym args-same i;
    state = state-same i;
    stock = gives i;
  }

  module _ (d : DrawsAll p U (values_in w (env_at s e)) z.items (both p given no_stock) no_stock)
      (wildcards : items_met p U (values_in w (env_at s e)) z.items (both p given no_stock)
      no_stock d ≡ top.fill.wildcards)
      (facts : items_told p U (values_in w (env_at s e)) z.items (both p given no_stock) no_stock d
      ≡ top.fill.facts) where
    keeps : KeepsStates U V
    keeps = extends-states U V (told-extends U n (known_as k m.args (Some m.state)) h.absent)

    abbrev kept : DrawsAll p V X z.items (both p given no_stock) no_stock
    kept = draws-all-kept p U V keeps X z.items (both p given no_stock) no_stock d

    abbrev owns-here : OwnsRegion p V n k m.args m.state given
    owns-here = record {
      type = y;
      is_type = is_type;
      arity = ap (λ (q : PlainRegionType). q.params) (sym type-same) ∙ own.arity;
      number = c;
      case = z;
      is_case = is_case;
      values = X;
      args_are = subst (λ v. AreWhole v 0 (n ∷ m.args)) owned.2 own.args_are;
      state_is = sym (λ i. value (owned.2 i).whole (case-same i).state) ∙ own.state_is;
      conditions =
          coe 0 1 (i. AllByRecursion (CompHolds (owned.2 i)) (case-same i).when) own.conditions;
      met = owns-all p V X z.items given kept;
    }

    -- by what its case is met
    abbrev MetSo :
        (o : Owner) → OwnsCase p V o c (valuation names) → Type 0
    MetSo o oc =
        IsMetBy p V oc.0.values oc.0.case.items o.stock oc.0.met.0 oc.0.met.1
        (record top.fill { names = names })

    met-here :
        MetSo (creation_of n k m.args m.state given c (env_at s e)).owner (owns-here, refl, same)
    met-here = record {
      names = same;
      wildcards =
          items-met-out p V X z.items (both p given no_stock) given no_stock no_stock
          (inside-is p (both p given no_stock) given (none-right p given))
          (inside-same p no_stock) kept
          ∙ items-met-kept p U V keeps X z.items (both p given no_stock) no_stock d
          ∙ wildcards;
      facts =
          items-told-out p V X z.items (both p given no_stock) given no_stock no_stock
          (inside-is p (both p given no_stock) given (none-right p given))
          (inside-same p no_stock) kept
          ∙ items-told-kept p U V keeps X z.items (both p given no_stock) no_stock d
          ∙ facts;
    }

    -- so the track tells of it
    pub is-tracked :
        IsTracked p (with_known U n (known_as k m.args (Some m.state)))
        (creation_of n k m.args m.state given c (env_at s e)) region
    is-tracked =
        let there = subst (λ (o : Owner). (oc : OwnsCase p V o c (valuation names)) × MetSo o oc
        × NamesFit (region_scope oc.0.type oc.0.case.names) names
        × (length names ≡ oc.0.type.params + length oc.0.case.names))
        owner-same ((owns-here, refl, same), met-here, fits, sized) in
        record {
          owner = owner-same;
          number = refl;
          own = there.0;
          met = there.1;
          fits = there.2;
          size = there.3;
        }
