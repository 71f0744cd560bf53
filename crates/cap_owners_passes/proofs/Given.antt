-- The side of a conditional that an assertion is given on with.
use Rattle.std.proofs.Common.{◌≡◌, ℕ, List, Option, Some, None, sym, ap}
use Rattle.std.specs.Prelude.{Result, option_map}
use Rattle.cap_prog.specs.Program.{Items}
use Rattle.cap_goal_spec.specs.States.{PlainState, PlainTask}
use Rattle.cap_rules.specs.Making.{env_at}
use Rattle.cap_owners_spec.specs.Traced.{found, ◌>>=◌}
use Rattle.cap_owners_spec.specs.Track.{Fill}
use Rattle.cap_owners_spec.specs.Filling.{Giving, Parting, parting}
use Rattle.cap_owners_spec.specs.Walks.{Walk, pass_give, pass_parting}
use Rattle.cap_owners_fill.specs.Views.{Sides, sides_of, given_all}
use Rattle.cap_owners_values.specs.declared.error.TraceError.{TraceError}
use Rattle.cap_owners_passes.specs.Views.{Passes}

some-none : {X : Type 0} (x : X) → Some x ≡ None → ⊥
some-none x e = cc

same-some : {X : Type 0} (x y : X) → Some x ≡ Some y → x ≡ y
same-some x y e = cc

by-sides : (s : PlainState) (e n : ℕ) (ts : List PlainTask) (f : Fill) (g : Giving) (w new : Walk) (r : Result (Option ℕ) TraceError) (o : Option Parting) (sides : Sides) → Some sides ≡ option_map sides_of o → ((x : Parting) → sides_of x ≡ sides → Passes r new (pass_parting s e n ts f g w (Some x))) → Passes r new (pass_parting s e n ts f g w o)
by-sides s e n ts f g w new r None sides q k = absurd (some-none sides q)
by-sides s e n ts f g w new r (Some x) sides q k = k x (sym (same-some sides (sides_of x) q))

pub give-side : (s : PlainState) (items : Items) (e n : ℕ) (ts : List PlainTask) (w new : Walk) (r : Result (Option ℕ) TraceError) (f : Fill) (sides : Sides) → w.fill ≡ Some f → Some sides ≡ option_map sides_of (parting items) → ((x : Parting) → sides_of x ≡ sides → Passes r new (pass_parting s e n ts f (given_all f (env_at s e) items) w (Some x))) → Passes r new (pass_give s items e n ts w)
give-side s items e n ts w new r f sides h q k =
    rw (ap (λ o. found o >>= (λ f. pass_parting s e n ts f (given_all f (env_at s e) items) w (parting items))) h) (by-sides s e n ts f (given_all f (env_at s e) items) w new r (parting items) sides q k)
