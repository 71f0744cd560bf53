-- The state of the node at which a frame sits holds of it.
use Rattle.std.proofs.Common.{◌≡◌, ℕ, zero, suc, List, [], ◌∷◌, map, refl, sym, ap, ◌∙◌, subst, Option, Some, None}
use Rattle.std.specs.Prelude.{slice_get, flat_map}
use Rattle.std.specs.List.{AllByRecursion}
use Rattle.cap_lin.specs.Values.{Valuation, value}
use Rattle.cap_prog.specs.Program.{PlainFunction, PlainProgram}
use Rattle.cap_goal_spec.specs.States.{PlainFact, Home, PlainTask}
use Rattle.cap_goal_spec.specs.Choices.{PlainTree}
use Rattle.cap_machine.specs.Machine.{Frame}
use Rattle.cap_machine_accounts.specs.Parts.{Guard, IsGuard, Part, guard_at}
use Rattle.cap_machine_accounts.specs.Accounts.{Held, OwnedRegion, table_of, GuardsFit, parts, Account, table}
use Rattle.cap_account_resources.specs.Parts.{Known, known_as}
use Rattle.cap_account_resources.proofs.Lists.{some-same, none-some, all-first, all-second}
use Rattle.cap_account_states.proofs.Backed.{IsFirm}
use Rattle.cap_account_states.proofs.Checked.{Checked}
use Rattle.cap_account_states.proofs.Facts.{FactHolds, StateHolds}
use Rattle.cap_account_states.proofs.Meets.{solves}
use Rattle.cap_account_steps.proofs.Frames.{Node}
use Rattle.cap_account.proofs.Drawn.{region-there}
use Rattle.cap_account.proofs.Parts.{AreGuards}
use Rattle.cap_account.proofs.Stocked.{part_stock, owners, table_by, account_table}
use Rattle.cap_outline_laws.specs.Holding.{IsEntry, HoldsAt}
use Rattle.cap_outline_laws.proofs.Cells.{cells-there, cells-differ}
use Rattle.cap_outline_laws.proofs.Guards.{guards-within}

-- ---- facts

module _ (v : Valuation) (rs : List OwnedRegion) where
  fact-there :
      (f : PlainFact) → IsFirm f → FactHolds v (table_by (owners rs)) f →
      IsEntry (table_of rs) v f
  fact-there f firm h =
      let r = region-there rs (value v.whole f.region)
      (known_as f.kind (map (value v.whole) f.args) h.0) h.1 in
      let state : h.0 ≡ Some (value v.whole f.state) =
      subst (λ b. StateHolds b h.0 (value v.whole f.state)) firm h.2 in
      record {
        region = r.0;
        is_region = r.1;
        kind = sym (ap (λ (k : Known). k.kind) r.2);
        args = sym (ap (λ (k : Known). k.args) r.2);
        state = sym (some-same r.0.state (value v.whole f.state)
            (ap (λ (k : Known). k.state) r.2 ∙ state));
      }

  facts-there :
      (fs : List PlainFact) → AllByRecursion IsFirm fs →
      AllByRecursion (FactHolds v (table_by (owners rs))) fs →
      AllByRecursion (IsEntry (table_of rs) v) fs
  facts-there [] firm h = tt
  facts-there (f ∷ fs) firm h = (fact-there f firm.0 h.0, facts-there fs firm.1 h.1)

-- ---- guards of a frame's part

part-there :
    (P : Part → Type 0) (hss : List (List Held)) (i : ℕ) (h : Held) (hs : List Held) →
    AllByRecursion P (flat_map (map (λ k. k.part)) hss) → slice_get hss i ≡ Some (h ∷ hs) →
    P h.part
part-there P [] i h hs all e = absurd (none-some e)
part-there P (ks ∷ hss) zero h hs all e =
    (subst (λ l. AllByRecursion P (map (λ k. k.part) l)) (some-same ks (h ∷ hs) e)
    (all-first P (map (λ k. k.part) ks) (flat_map (map (λ k. k.part)) hss) all)).0
part-there P (ks ∷ hss) (suc i) h hs all e =
    part-there P hss i h hs
    (all-second P (map (λ k. k.part) ks) (flat_map (map (λ k. k.part)) hss) all) e

pub top-guards :
    (p : PlainProgram) (a : Account) (i : ℕ) (h : Held) (hs : List Held) →
    AllByRecursion (GuardsFit p (table a)) (parts a) → slice_get a.threads i ≡ Some (h ∷ hs) →
    AreGuards p h.part
top-guards p a i h hs all e n = by (guard_at h.part n) refl
  where
    fits : GuardsFit p (table a) h.part
    fits =
        part-there (GuardsFit p (table a)) a.threads i h hs
        (all-second (GuardsFit p (table a)) (map (λ r. r.part) a.regions)
        (flat_map (map (λ k. k.part)) a.threads) all) e

    by : (o : Option Guard) → guard_at h.part n ≡ o → IsGuard p o
    by None q = tt
    by (Some g) q = (fits n g q).1

-- ---- the state

pub holds-at :
    (p : Checked) (a : Account) (fn : PlainFunction) (f : Frame) (h : Held)
    (tasks : Home → List PlainTask) (t : PlainTree) → AreGuards p.program h.part →
    (n : Node p (part_stock h.part) (account_table a) fn h.fixed f tasks t) →
    HoldsAt p.program (table a) (record { home = n.home; state = n.state }) f h n.v
holds-at p a fn f h tasks t guards n = record {
  whole = n.grounded.meets.sorted;
  solves = solves [] n.v n.state n.grounded.meets;
  store = n.store.store;
  fixed = n.store.fixed_are;
  facts = facts-there n.v a.regions n.state.facts n.firm n.facts.holds;
  cells = cells-there n.v h.part n.state.cells n.backed.cells n.grounded.meets.positive;
  cells_apart = cells-differ n.v h.part n.state.cells n.backed.cells;
  guards = λ k. guards-within p.program n.v h.part n.state.guards k (guards k) (n.backed.guards k);
}
