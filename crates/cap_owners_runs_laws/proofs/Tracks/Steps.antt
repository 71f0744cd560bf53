-- What each statement leads to, of a track that is kept. These are the parts of the proof.
use Rattle.std.proofs.Common.{◌≡◌, ℕ, ℤ, List, ◌∷◌, Option, Some, None}
use Rattle.std.specs.Prelude.{slice_get}
use Rattle.cap_lin.specs.Linear.{Linear}
use Rattle.cap_prog.specs.declared.assertion.Comp.{Comp}
use Rattle.cap_prog.specs.Program.{PlainAssertion, Label, PlainAct, set, alloc, call, fork, branch, loop, check, give_back, Block, first}
use Rattle.cap_goal_spec.specs.Choices.{PlainTree}
use Rattle.cap_rules.specs.Closing.{address_of}
use Rattle.cap_machine.specs.Machine.{Outcome, does}
use Rattle.cap_machine_accounts.specs.Safety.{IfStepped}
use Rattle.cap_account_states.proofs.Checked.{Checked}
use Rattle.cap_account.proofs.Stocked.{Turn, spot_of}
use Rattle.cap_owners_spec.specs.Track.{TrackedFrame, Track, account_of}
use Rattle.cap_owners_spec.specs.Steps.{follow}
use Rattle.cap_owners_laws.specs.Owned.{IsTold, GoesOver}
use Rattle.cap_owners_runs_laws.proofs.Tracks.Tied.{derivation, Kept}

module _ (p : Checked) (trees : List (Option PlainTree)) where
  -- a thread that is to make a step, with its frames in the track
  pub record TurnKept : Type 0 where
    pub turn : Turn p
    pub track : Track
    pub account_is : turn.a ≡ account_of track
    pub kept : Kept p trees turn.c track
    pub top : TrackedFrame
    pub below : List TrackedFrame
    pub has_frames : slice_get track.threads turn.thread ≡ Some (top ∷ below)

  -- the step is no fault, and is told of: the track after it follows and is kept
  abbrev pub GoesKept : TurnKept → Outcome → Type 0
  GoesKept x o =
      IfStepped (λ after event.
      IsTold (λ later.
      GoesOver (derivation p trees) x.turn.thread event x.turn.c after x.track later
      × Kept p trees after later)
      (follow (derivation p trees) x.track x.turn.thread event x.turn.c after)) o

  abbrev pub EachTurn : (TurnKept → Label → Block → Type 0) → Type 0
  EachTurn P = (x : TurnKept) (l : Label) (b : Block) → P x l b

  abbrev pub DoesKept : TurnKept → Label → PlainAct → Block → Option ℤ → Type 0
  DoesKept x l a b base =
      x.turn.frame.rest ≡ first l a b → GoesKept x (does p.program (spot_of x.turn) l a b base)

  pub record AllKept : Type 0 where
    pub sets : EachTurn (λ x l b. (y : ℕ) (t : Linear) → DoesKept x l (set y t) b None)
    pub allocs : EachTurn (λ x l b. (y n : ℕ) (base : ℤ) → DoesKept x l (alloc y n) b (Some base))
    pub checks : EachTurn (λ x l b. (c : Comp) → DoesKept x l (check c) b None)
    pub branches : EachTurn (λ x l b. (c : Comp) (a e : Block) → DoesKept x l (branch c a e) b None)
    pub loops :
        EachTurn (λ x l b. (c : Comp) (i : PlainAssertion) (a : Block) →
        DoesKept x l (loop c i a) b None)
    pub calls :
        EachTurn (λ x l b. (y : Option ℕ) (n : ℕ) (args : List Linear) →
        DoesKept x l (call y n args) b None)
    pub forks :
        EachTurn (λ x l b. (n : ℕ) (args : List Linear) → DoesKept x l (fork n args) b None)
    pub touches :
        EachTurn (λ x l b. (a : PlainAct) (t : Linear) → address_of a ≡ Some t →
        DoesKept x l a b None)
    pub returns : EachTurn (λ x l b. (t : Linear) → DoesKept x l (give_back t) b None)
