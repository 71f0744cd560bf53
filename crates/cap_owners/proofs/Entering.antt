-- How a frame enters the body of a function, which is found by its number, or a loop of it.
use Rattle.std.proofs.Common.{◌≡◌, ◌∙◌, ap, sym, refl, ℕ, suc, ◌<◌, ◌≤◌, List, [], ◌∷◌, ◌++◌, length, map, get_or, Option, Some, None}
use Rattle.std.specs.Prelude.{slice_get, option_map, ℤ}
use Rattle.cap_prog.specs.Program.{PlainFunction}
use Rattle.cap_prog.specs.Views.{function_view}
use Rattle.cap_prog.specs.declared.function.Function.{Function}
use Rattle.cap_machine.specs.declared.event.Event.{Event}
use Rattle.cap_machine.specs.Machine.{Frame, Heap}
use Rattle.cap_machine_accounts.specs.Assertions.{NameValue, a_number}
use Rattle.cap_outline_spec.specs.Standing.{first_number}
use Rattle.cap_owners_spec.specs.Traced.{Traced, traced, past_width, untold, ◌>>=◌, found}
use Rattle.cap_owners_spec.specs.Track.{Fill, Track, TrackedFrame}
use Rattle.cap_owners_spec.specs.Start.{Meeting, first_meeting, first_track, meets_all, track_by}
use Rattle.cap_owners_spec.specs.Steps.{Proved, begins_at, callee_of, invariant_root, looping}
use Rattle.cap_owners.specs.Loops.{loop_at}
use Rattle.cap_owners.specs.Standing.{entered}
use Rattle.cap_owners.specs.Starting.{begun_if, begun_in}
use Rattle.cap_owners.proofs.Stacking.{get-there, get-past}

-- ---- functions by their numbers

pub function-there : (seen all : List Function) (n : ℕ) (f : Function) → n < length seen → f ≡ get_or seen n f → seen ≡ all → slice_get (map function_view all) n ≡ Some (function_view f)
function-there seen all n f l e q = ap (λ fs. slice_get (map function_view fs) n) (sym q) ∙ get-there function_view seen n f l e

pub function-past : (seen all : List Function) (n : ℕ) → length seen ≤ n → seen ≡ all → slice_get (map function_view all) n ≡ None
function-past seen all n l q = ap (λ fs. slice_get (map function_view fs) n) (sym q) ∙ get-past function_view seen n l

-- ---- a callee

abbrev entered-by : Proved → Frame → Fill → Option PlainFunction → Traced TrackedFrame
entered-by d m x o = found o >>= λ f. entered d m.function f m.arguments x

pub callee-found : (d : Proved) (m : Frame) (x : Fill) (f : PlainFunction) → slice_get d.program.functions m.function ≡ Some f → callee_of d (Some m) x ≡ entered d m.function f m.arguments x
callee-found d m x f e = ap (entered-by d m x) e

pub callee-none : (d : Proved) (m : Frame) (x : Fill) → slice_get d.program.functions m.function ≡ None → callee_of d (Some m) x ≡ untold
callee-none d m x e = ap (entered-by d m x) e

-- ---- a loop

module _ (d : Proved) (m : Frame) (f : TrackedFrame) (event : Event) (x : Fill) where
  abbrev loop-begins : Option ℕ → Traced TrackedFrame
  loop-begins o = found o >>= λ i. begins_at d m.function (invariant_root i) (suc (invariant_root i)) (map a_number m.store ++ f.held.fixed) f.held.fixed x (event ∷ [])

  abbrev loop-by : Option PlainFunction → Traced TrackedFrame
  loop-by o = found o >>= λ g. loop-begins (loop_at g (first_number m.rest))

  pub loop-past : (g : PlainFunction) → slice_get d.program.functions m.function ≡ Some g → loop_at g (first_number m.rest) ≡ None → looping d m f event x ≡ untold
  loop-past g e h = ap loop-by e ∙ ap loop-begins h

  pub loop-same : (g : PlainFunction) (i function stability root : ℕ) (numbers values fixed : List NameValue) (since : List Event) → slice_get d.program.functions m.function ≡ Some g → loop_at g (first_number m.rest) ≡ Some i → function ≡ m.function → stability ≡ invariant_root i → root ≡ suc (invariant_root i) → numbers ≡ map a_number m.store → values ≡ numbers ++ fixed → f.held.fixed ≡ fixed → since ≡ event ∷ [] → looping d m f event x ≡ begins_at d function stability root values fixed x since
  loop-same g i function stability root numbers values fixed since e h n s r a v k t =
      ap loop-by e
      ∙ (ap loop-begins h
      ∙ (ap (λ fs. begins_at d m.function (invariant_root i) (suc (invariant_root i)) (map a_number m.store ++ fs) fs x (event ∷ [])) k
      ∙ (ap (λ vs. begins_at d m.function (invariant_root i) (suc (invariant_root i)) vs fixed x (event ∷ [])) (sym (v ∙ ap (λ l. l ++ fixed) a))
      ∙ (ap (λ l. begins_at d m.function (invariant_root i) (suc (invariant_root i)) values fixed x l) (sym t)
      ∙ (ap (λ l. begins_at d m.function (invariant_root i) l values fixed x since) (sym r)
      ∙ (ap (λ l. begins_at d m.function l root values fixed x since) (sym s)
      ∙ ap (λ l. begins_at d l stability root values fixed x since) (sym n)))))))

-- ---- main

met-same : (d : Proved) (f : PlainFunction) (args : List ℤ) (heap : Heap) (t : Traced (Option Meeting)) → (t >>= track_by d f args heap) ≡ ((t >>= λ m. traced (option_map (λ x. x.fill) m)) >>= begun_if d d.program.main f args heap)
met-same d f args heap (traced None) = refl
met-same d f args heap (traced (Some m)) = refl
met-same d f args heap past_width = refl
met-same d f args heap untold = refl

abbrev tracked-by : Proved → List ℤ → Heap → Option PlainFunction → Traced (Option Track)
tracked-by d args heap o = found o >>= λ f. meets_all f.requires (first_meeting f args heap) >>= track_by d f args heap

pub first-found : (d : Proved) (args : List ℤ) (heap : Heap) (f : PlainFunction) → slice_get d.program.functions d.program.main ≡ Some f → first_track d args heap ≡ begun_in d d.program.main f args heap
first-found d args heap f e = ap (tracked-by d args heap) e ∙ met-same d f args heap (meets_all f.requires (first_meeting f args heap))
