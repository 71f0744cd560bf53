-- What stays true whatever others do: contracts, invariants and interpretations.
use Rattle.std.proofs.Common.{List, Option}
use Rattle.cap_prog.specs.Program.{PlainProgram}
use Rattle.cap_prog.specs.WellFormed.{IsWellFormed}
use Rattle.cap_goal_spec.specs.Choices.{PlainTree}
use Rattle.cap_rules.specs.Valid.{Valid}
use Rattle.cap_account_states.proofs.Checked.{Checked, derivations}
use Rattle.cap_account_assertions.proofs.GiveLaw.{given-law}
use Rattle.cap_account_assertions.proofs.Laws.{GivenLaw, RestsLaw}
use Rattle.cap_account_assertions.proofs.TakenStill.{StillLaw, still-always}
use Rattle.cap_account_steps.proofs.Bundles.{StableRoots, valid-roots, stable-roots}
use Rattle.cap_account_steps.proofs.Regained.{Stable}
use Rattle.cap_account_steps.proofs.RestLaws.{rests}
use Rattle.cap_account_steps.proofs.StableContracts.{requires-stable, ensures-stable, invariant-stable}
use Rattle.cap_account_steps.proofs.StableRegions.{region-stable}

-- from the laws of giving, resting and taking
pub stable-by :
    (p : Checked) → IsWellFormed p.program → StableRoots p → GivenLaw p → RestsLaw p →
    StillLaw p → Stable p.program
stable-by p program roots gives rests still = record {
  requires = λ T U q n f is reached args fixed size fit h.
      requires-stable p program roots gives rests still T U q reached n f is fixed fit args size h;
  ensures = λ T U q n f is reached args fixed r size fit h.
      ensures-stable p program roots gives rests still T U q reached n f is fixed fit args r size h;
  invariant = λ T U q n f is w among reached store fixed size fit h.
      invariant-stable p program roots gives rests still T U q reached n f is fixed fit w among
      store size h;
  region = region-stable p program.regions roots gives rests still;
}

pub stability :
    (p : Checked) → IsWellFormed p.program → StableRoots p → Stable p.program
stability p program roots =
    stable-by p program roots (given-law p) (rests p program) (still-always p program.regions)

-- of a program whose derivations are valid
pub valid-stable :
    (p : PlainProgram) (trees : List (Option PlainTree)) → IsWellFormed p → Valid p trees → Stable p
valid-stable p trees program valid =
    stability (derivations p) program (stable-roots (derivations p) (valid-roots p trees valid))
