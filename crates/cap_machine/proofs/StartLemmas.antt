-- The machine in which main begins.
use Rattle.std.proofs.Common.{◌≡◌, sym, refl, subst, List, [], ◌∷◌, length}
use Rattle.std.specs.Prelude.{ℤ, false, slice_get, Option, Some, None, IsSomeAnd}
use Rattle.std.specs.Global.{Vec}
use Rattle.std.specs.List.{AllByRecursion}
use Rattle.cap_prog.specs.Program.{PlainFunction, PlainProgram}
use Rattle.cap_prog.specs.WellFormed.{IsWellFormed}
use Rattle.cap_machine.specs.declared.frame.Frame as code
use Rattle.cap_machine.specs.declared.machine.Machine.{Machine}
use Rattle.cap_machine.specs.Machine.{Heap, new_frame, start}
use Rattle.cap_machine.specs.Fits.{ConfigurationFits}
use Rattle.cap_machine.specs.View.{frame_view, configuration, is_stopped, IsPlaced, AllArePlaced, ArePlaced, RunsProgram}
use Rattle.cap_machine.proofs.Keeping.{starts_keep}

-- what the code made
pub record IsStart (p : PlainProgram) (args : List ℤ) (heap : Heap) (m : Machine) : Type 0 where
  pub frame : code.Frame
  pub frames : Vec code.Frame
  pub cells : m.heap ≡ heap
  pub threads : m.threads.items ≡ frames ∷ []
  pub one : frames.items ≡ frame ∷ []
  pub begins : (g : PlainFunction) → slice_get p.functions p.main ≡ Some g → frame_view p frame ≡ new_frame p.main g args None
  pub placed : IsPlaced p frame
  pub runs : m.stopped ≡ false

pub some_is : {X : Type 0} (o : Option X) (P : X → Type 0) → IsSomeAnd o P → (x : X) × (o ≡ Some x)
some_is None P h = absurd h
some_is (Some x) P h = (x, refl)

shows_at : (p : PlainProgram) (args : List ℤ) (heap : Heap) (m : Machine) (g : PlainFunction) → slice_get p.functions p.main ≡ Some g → IsStart p args heap m → configuration p m ≡ start p args heap
unfolding configuration
shows_at p args heap m g e s = rw (s.cells, s.threads, s.one, s.begins g e, e) refl

pub shows_start : (p : PlainProgram) (args : List ℤ) (heap : Heap) (m : Machine) (P : PlainFunction → Type 0) → IsSomeAnd (slice_get p.functions p.main) P → IsStart p args heap m → configuration p m ≡ start p args heap
shows_start p args heap m P h s = let g = some_is (slice_get p.functions p.main) P h in shows_at p args heap m g.0 g.1 s

pub runs_start : (p : PlainProgram) (args : List ℤ) (heap : Heap) (m : Machine) → IsStart p args heap m → is_stopped m ≡ false
unfolding is_stopped
runs_start p args heap m s = s.runs

placed_start : (p : PlainProgram) (args : List ℤ) (heap : Heap) (m : Machine) → IsStart p args heap m → AllArePlaced p m
unfolding AllArePlaced
placed_start p args heap m s =
    let one : ArePlaced p s.frames.items = subst (ArePlaced p) (sym s.one) (s.placed, tt) in
    subst (AllByRecursion (λ (t : Vec code.Frame). ArePlaced p t.items)) (sym s.threads) (one, tt)

pub fits_start : (p : PlainProgram) (args : List ℤ) (heap : Heap) (m : Machine) → IsWellFormed p → IsSomeAnd (slice_get p.functions p.main) (λ f. length args ≡ f.params) → IsStart p args heap m → RunsProgram p m
fits_start p args heap m w h s =
    record { frames = subst (ConfigurationFits p) (sym (shows_start p args heap m _ h s)) (starts_keep p args heap w h); places = placed_start p args heap m s }
