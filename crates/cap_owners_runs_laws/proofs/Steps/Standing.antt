-- A frame whose walk stops where its state has just a stock stands with that as its part.
use Rattle.std.proofs.Common.{◌≡◌, ◌≤◌, ℤ, false, List, Option, refl}
use Rattle.cap_goal_spec.specs.Choices.{PlainTree}
use Rattle.cap_machine.specs.Machine.{Heap}
use Rattle.cap_machine_accounts.specs.Parts.{Part}
use Rattle.cap_account_resources.specs.Parts.{cells_of}
use Rattle.cap_account_resources.proofs.Stocks.{Stock}
use Rattle.cap_account_states.proofs.Checked.{Checked}
use Rattle.cap_account.proofs.Stocked.{part_stock}
use Rattle.cap_owners_spec.specs.Traced.{traced, valuation}
use Rattle.cap_owners_spec.specs.Track.{TrackedRegion, TrackedFrame}
use Rattle.cap_owners_spec.specs.Walks.{Halt, stands, leaves}
use Rattle.cap_owners_spec.specs.Filling.{part_held}
use Rattle.cap_owners_spec.specs.Steps.{owning, standing, frame_walk}
use Rattle.cap_owners_laws.specs.Owned.{IsTold}
use Rattle.cap_owners_walks_laws.proofs.Parts.Telling.{told-on}
use Rattle.cap_owners_walks_laws.proofs.Parts.Held.{IsOf, part-of}
use Rattle.cap_owners_walks_laws.proofs.Parts.Added.{one-of}
use Rattle.cap_owners_runs_laws.proofs.Tracks.Tied.{StopsSo, derivation, HasJust}

-- the frame has this part
abbrev pub with_part : TrackedFrame → Part → TrackedFrame
with_part t q = record t { held = record t.held { part = q } }

-- with just this
abbrev pub StandsWith : TrackedFrame → Stock → TrackedFrame → Type 0
StandsWith f part t = (q : Part) × (t ≡ with_part f q) × (part_stock q ≡ part)

module _ (p : Checked) (trees : List (Option PlainTree)) (part : Stock) (heap : Heap)
    (within : (a z : ℤ) → part.cells a z ≤ cells_of heap a z) (f : TrackedFrame) where
  owning-just :
      (h : Halt) → StopsSo (HasJust p trees part) h →
      IsTold (StandsWith f part) (owning (derivation p trees) f h)
  owning-just (leaves w) k = absurd k
  owning-just (stands q w) k =
      let s = q.goal.state in
      told-on (λ r. IsOf p.program (valuation w.values) s (part_stock r)) (StandsWith f part)
      (part_held p.program s w.values) (λ r. traced (with_part f r))
      (part-of p.program w.values s part heap k.pieces_fit k.backed within)
      (λ r o. (r, refl, one-of p.program (valuation w.values) s (part_stock r) part o k.just))

  -- by the table that these regions tell
  pub stands-just :
      (rs : List TrackedRegion) →
      IsTold (StopsSo (HasJust p trees part)) (frame_walk (derivation p trees) false rs f f.since) →
      IsTold (StandsWith f part) (standing (derivation p trees) rs f)
  stands-just rs told =
      told-on (StopsSo (HasJust p trees part)) (StandsWith f part)
      (frame_walk (derivation p trees) false rs f f.since) (owning (derivation p trees) f) told
      owning-just
