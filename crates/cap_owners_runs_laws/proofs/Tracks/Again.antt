-- What was handed over is met again where it is told by which fill; and a frame is tied whatever
-- part its account has.
use Rattle.std.proofs.Common.{◌≡◌, ◌⊎◌, inl, inr, List, Option, Some, refl, ap}
use Rattle.cap_lin.specs.Values.{Valuation}
use Rattle.cap_prog.specs.Program.{Items}
use Rattle.cap_prog.specs.Scopes.{Scope}
use Rattle.cap_goal_spec.specs.Choices.{PlainTree}
use Rattle.cap_machine.specs.Machine.{Frame, receives}
use Rattle.cap_machine_accounts.specs.Assertions.{NameValue}
use Rattle.cap_machine_accounts.specs.Accounts.{Held}
use Rattle.cap_account_resources.specs.Parts.{Table}
use Rattle.cap_account_resources.proofs.Stocks.{Stock, both}
use Rattle.cap_account_states.proofs.Checked.{Checked}
use Rattle.cap_account_assertions.proofs.Asserted.{Owns}
use Rattle.cap_account.proofs.Stocked.{Callee}
use Rattle.cap_owners_spec.specs.Traced.{Traced, traced, past_width, untold}
use Rattle.cap_owners_spec.specs.Track.{Fill, TrackedRegion, GivenAssertion, TrackedFrame}
use Rattle.cap_owners_spec.specs.Steps.{fill_now}
use Rattle.cap_owners_walks_laws.proofs.Fills.Drawn.{IsMetOr, Tells}
use Rattle.cap_owners_walks_laws.proofs.Fills.Giving.{NamesFit}
use Rattle.cap_owners_laws.specs.Owned.{IsTold}
use Rattle.cap_owners_runs_laws.proofs.Tracks.Tied.{derivation, Tied, received_by, WaitsTied}
use Rattle.cap_owners_runs_laws.proofs.Tracks.Roots.{MetAgain}

-- what is told of by a fill is the fill, or a number is too wide
told-comes :
    (o : Traced (Option Fill)) (x : Fill) → IsTold (λ y. y ≡ Some x) o →
    (o ≡ past_width) ⊎ (o ≡ traced (Some x))
told-comes (traced y) x h = inr (ap traced h)
told-comes past_width x h = inl refl
told-comes untold x h = absurd h

module _ (p : Checked) (trees : List (Option PlainTree)) where
  -- by this table it is owned, met by a fill, and a track finds that fill
  pub met-again :
      (U : Table) (part : Stock) (sc : Scope) (items : Items) (M : Type 0)
      (values : M → Valuation) (owns : (m : M) → Owns p.program U part (values m) items)
      (g : GivenAssertion) (own : M) (fill : Fill) →
      IsMetOr p.program U (values own) items part (owns own).0 (owns own).1 fill →
      NamesFit sc fill.names →
      ((rs : List TrackedRegion) → Tells rs U →
      IsTold (λ o. o ≡ Some fill) (fill_now (derivation p trees) rs (Some g))) →
      MetAgain p trees U part sc items M values owns g
  met-again U part sc items M values owns g own fill met have told = record {
    own = own;
    fills = inl (record {
      fill = fill;
      met = met;
      have = have;
      comes = λ rs tells.
          told-comes (fill_now (derivation p trees) rs (Some g)) fill (told rs tells);
    });
  }

  -- its walk doesn't look at what its account has
  pub tied-held :
      (part : Stock) (T : Table) (fixed : List NameValue) (f : Frame) (t : TrackedFrame)
      (h : Held) → Tied p trees part T fixed f t →
      Tied p trees part T fixed f (record t { held = h })
  tied-held part T fixed f t h tied =
      record { stood = tied.stood; fits = tied.fits; walks = tied.walks }

  -- nor does the walk of one that waits
  pub waits-held :
      (part : Stock) (T : Table) (fixed : List NameValue) (f : Frame) (y : Callee)
      (t : TrackedFrame) (h : Held) → WaitsTied p trees part T fixed f y t →
      WaitsTied p trees part T fixed f y (record t { held = h })
  waits-held part T fixed f y t h w = record {
    waited = w.waited;
    seated = w.seated;
    back = λ U relies handed v g is_fn room heap within owns x met fits.
        tied-held (both p.program part handed) U fixed (receives y.destination v f)
        (received_by p trees y v t x) h
        (w.back U relies handed v g is_fn room heap within owns x met fits);
    regains = w.regains;
  }
