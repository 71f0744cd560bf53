-- By what a tracked region owns its part by now: along the root of its case.
use Rattle.std.proofs.Common.{◌≡◌, ℕ, ◌≤◌, ℤ, false, List, [], ◌∷◌, Option, Some, refl, sym, ap, ◌∙◌, subst}
use Rattle.std.specs.Prelude.{slice_get, option_to_list}
use Rattle.cap_prog.specs.Program.{Items, none, item, PlainCase, PlainRegionType, PlainProgram}
use Rattle.cap_prog.specs.WellFormed.{IsWellFormed}
use Rattle.cap_goal_spec.specs.Choices.{PlainTree, no_trees, tree}
use Rattle.cap_goal_spec.specs.Roots.{region_unit, region_roots, case_state, case_root}
use Rattle.cap_goal_spec.specs.States.{to_give, to_rest, to_close, PlainGoal, goal, goal_of}
use Rattle.cap_machine.specs.Machine.{Heap}
use Rattle.cap_rules.specs.Valid.{Valid}
use Rattle.cap_account_resources.specs.Parts.{cells_of, known_as, Table}
use Rattle.cap_account_resources.proofs.Lists.{map-at}
use Rattle.cap_account_states.specs.Nodes.{Children}
use Rattle.cap_account_states.proofs.Checked.{Checked}
use Rattle.cap_account.proofs.Stocked.{part_stock}
use Rattle.cap_owners_spec.specs.Track.{Place, TrackedRegion}
use Rattle.cap_owners_spec.specs.Steps.{interpreted}
use Rattle.cap_owners_walks_laws.proofs.Fills.Drawn.{Tells}
use Rattle.cap_owners_walks_laws.proofs.Walks.Rooted.{region-rooted}
use Rattle.cap_owners_walks_laws.proofs.Regions.Reowned.{CaseRooted, owned-so}
use Rattle.cap_owners_walks_laws.proofs.Regions.Reshut.{RegionMet}
use Rattle.cap_owners_walks_laws.proofs.Regions.Telling.{ToldSo}
use Rattle.cap_owners_runs_laws.proofs.Tracks.Rooting.{root-node}
use Rattle.cap_owners_runs_laws.proofs.Tracks.Tied.{nodes_of, derivation, RegionTied}

-- ---- roots

-- each case has a root, since its region is to be closed there
case-goal :
    (y : PlainRegionType) (n : ℕ) (c : PlainCase) →
    (g : PlainGoal) × (case_root y n c ≡ Some g)
case-goal y n c = by c.items
  where
    by :
        (is : Items) →
        (g : PlainGoal)
        × (goal_of (case_state y n c) (to_give is 0 0 ∷ to_rest 0 0 ∷ to_close false 0 ∷ [])
        ≡ Some g)
    by none = (goal (case_state y n c) (to_close false 0 ∷ []), refl)
    by (item x more) = (
      goal (case_state y n c) (to_give (item x more) 0 0 ∷ to_rest 0 0 ∷ to_close false 0 ∷ []),
      refl,
    )

-- and its tree is there in a valid derivation
pub case-rooted :
    (program : PlainProgram) (trees : List (Option PlainTree)) → Valid program trees → (k : ℕ)
    (y : PlainRegionType) → slice_get program.regions k ≡ Some y → (i : ℕ) (c : PlainCase) →
    slice_get y.cases i ≡ Some c → CaseRooted (nodes_of program trees) trees k y i c
case-rooted program trees valid k y is i c at =
    let g = case-goal y k c in
    let here = ap (λ o. slice_get (region_roots o k) i) is ∙ map-at (case_root y k) y.cases i c at
    ∙ ap Some g.1 in
    let r = region-rooted program trees valid k y is i g.0 here in
    let goals = ap option_to_list g.1 in
    let q : Place = record { goal = g.0; tree = r.tree } in
    record {
      place = q;
      is_root = r.is_root;
      goes =
          subst (Children (nodes_of program trees).N (tree r.tree no_trees)) (sym goals)
          (root-node program trees valid (region_unit k) i q r.is_root, tt);
      is_goal = goals;
    }

-- ---- a region of a track

module _ (p : Checked) (trees : List (Option PlainTree)) where
  -- each case has its root
  abbrev pub CasesRooted : Type 0
  CasesRooted =
      (k : ℕ) (y : PlainRegionType) → slice_get p.program.regions k ≡ Some y → (i : ℕ)
      (c : PlainCase) → slice_get y.cases i ≡ Some c → CaseRooted p trees k y i c

  -- what a region owns, by the table of now
  pub region-told :
      IsWellFormed p.program → CasesRooted → (U : Table) (r : TrackedRegion)
      (heap : Heap) →
      ((a z : ℤ) → (part_stock r.owned.part).cells a z ≤ cells_of heap a z) →
      RegionTied p trees U r →
      U r.owned.region.number
      ≡ Some (known_as r.owned.region.kind r.owned.region.args (Some r.owned.region.state)) →
      (rs : List TrackedRegion) → Tells rs U →
      ToldSo (RegionMet p U r.owned.region.number r.owned.region.kind r.owned.region.args
      r.owned.region.state (part_stock r.owned.part)) (interpreted (derivation p trees) rs r)
  region-told wf rooted U r heap within h known rs tells =
      owned-so p wf trees h.T U r (part_stock r.owned.part) heap within h.reached h.known known
      h.own h.number h.met h.fits h.sorted
      (subst (λ i. CaseRooted p trees r.owned.region.kind h.own.type i h.own.case) h.number
      (rooted r.owned.region.kind h.own.type h.own.is_type h.own.number h.own.case h.own.is_case))
      rs tells
