-- Frames of a thread, and threads of a track, as the code has them.
use Rattle.std.proofs.Common.{◌≡◌, ◌∙◌, ap, sym, refl, subst, ℕ, zero, suc, ◌<◌, ◌≤◌, List, [], ◌∷◌, ◌++◌, map, reverse, length, get_or, arith, Some, None}
use Rattle.std.specs.Prelude.{slice_get, slice_set}
use Rattle.std.specs.Global.{Vec}
use Rattle.std.specs.List.{AllByRecursion}
use Rattle.std.proofs.lemmas.List.{append-nil, map-append, map-set, reverse-append}
use Rattle.cap_fm_spec.proofs.Lists.{each-join, each-left, each-right}
use Rattle.cap_prog.specs.Program.{PlainProgram}
use Rattle.cap_owners_spec.specs.Track as plain
use Rattle.cap_owners_spec.specs.Steps.{new_thread, Handed, Moved}
use Rattle.cap_owners_spec.specs.Traced.{Traced, traced}
use Rattle.cap_owners.specs.declared.track.TrackedFrame.{TrackedFrame}
use Rattle.cap_owners.specs.Tracks.{frame_view, frames_view, threads_view, AreOthers, FrameIsPlaced, FramesArePlaced, HasNoTop, ThreadsArePlaced}

-- ---- the frames of a thread

pub top-first : (below : List TrackedFrame) (top : TrackedFrame) → frames_view (below ++ top ∷ []) ≡ frame_view top ∷ frames_view below
top-first below top = ap reverse (map-append frame_view below (top ∷ [])) ∙ reverse-append (map frame_view below) (frame_view top ∷ [])

pub pushed-seen : (below new : List TrackedFrame) (top : TrackedFrame) → new ≡ below ++ top ∷ [] → frames_view new ≡ frame_view top ∷ frames_view below
pushed-seen below new top e = ap frames_view e ∙ top-first below top

pub pushed-placed : (p : PlainProgram) (below new : List TrackedFrame) (top : TrackedFrame) → new ≡ below ++ top ∷ [] → FramesArePlaced p below → FrameIsPlaced p top → FramesArePlaced p new
pushed-placed p below new top e h k = subst (FramesArePlaced p) (sym e) (each-join (FrameIsPlaced p) below (top ∷ []) h (k, tt))

pub popped-placed : (p : PlainProgram) (frames below : List TrackedFrame) (top : TrackedFrame) → frames ≡ below ++ top ∷ [] → FramesArePlaced p frames → FramesArePlaced p below × FrameIsPlaced p top
popped-placed p frames below top e h =
    let g = subst (FramesArePlaced p) e h in
    (each-left (FrameIsPlaced p) below (top ∷ []) g, (each-right (FrameIsPlaced p) below (top ∷ []) g).0)

-- ---- threads

set-twice : {A : Type 0} (xs : List A) (n : ℕ) (x y : A) → slice_set (slice_set xs n x) n y ≡ slice_set xs n y
set-twice [] n x y = refl
set-twice (z ∷ zs) zero x y = refl
set-twice (z ∷ zs) (suc n) x y = ap (λ l. z ∷ l) (set-twice zs n x y)

pub get-there : {A B : Type 0} (f : A → B) (xs : List A) (n : ℕ) (x : A) → n < length xs → x ≡ get_or xs n x → slice_get (map f xs) n ≡ Some (f x)
get-there f [] n x l e = absurd (omega (arith, l))
get-there f (y ∷ ys) zero x l e = ap (λ z. Some (f z)) (sym e)
get-there f (y ∷ ys) (suc n) x l e = get-there f ys n x (omega (arith, l)) e

pub get-past : {A B : Type 0} (f : A → B) (xs : List A) (n : ℕ) → length xs ≤ n → slice_get (map f xs) n ≡ None
get-past f [] n l = refl
get-past f (y ∷ ys) zero l = absurd (omega (arith, l))
get-past f (y ∷ ys) (suc n) l = get-past f ys n (omega (arith, l))

pub others-set : (all new : List (Vec TrackedFrame)) (n : ℕ) (v : Vec TrackedFrame) → new ≡ slice_set all n v → AreOthers n (threads_view all) new
others-set all new n v e fs =
    ap (λ l. slice_set (threads_view l) n fs) e
    ∙ (ap (λ l. slice_set l n fs) (map-set (λ (t : Vec TrackedFrame). frames_view t.items) all n v)
    ∙ set-twice (threads_view all) n (frames_view v.items) fs)

pub top-there : (all : List (Vec TrackedFrame)) (n : ℕ) (t : Vec TrackedFrame) (below : List TrackedFrame) (top : TrackedFrame) → n < length all → t ≡ get_or all n t → t.items ≡ below ++ top ∷ [] → slice_get (threads_view all) n ≡ Some (frame_view top ∷ frames_view below)
top-there all n t below top l e f = get-there (λ (t : Vec TrackedFrame). frames_view t.items) all n t l e ∙ ap Some (pushed-seen below t.items top f)

pub none-there : (all : List (Vec TrackedFrame)) (n : ℕ) (t : Vec TrackedFrame) → n < length all → t ≡ get_or all n t → t.items ≡ [] → HasNoTop (slice_get (threads_view all) n)
none-there all n t l e f =
    subst HasNoTop (sym (get-there (λ (t : Vec TrackedFrame). frames_view t.items) all n t l e ∙ ap (λ fs. Some (frames_view fs)) f)) tt

pub none-past : (all : List (Vec TrackedFrame)) (n : ℕ) → length all ≤ n → HasNoTop (slice_get (threads_view all) n)
none-past all n l = subst HasNoTop (sym (get-past (λ (t : Vec TrackedFrame). frames_view t.items) all n l)) tt

all-set : {A : Type 0} (P : A → Type 0) (xs : List A) (n : ℕ) (x : A) → AllByRecursion P xs → P x → AllByRecursion P (slice_set xs n x)
all-set P [] n x h k = tt
all-set P (y ∷ ys) zero x h k = (k, h.1)
all-set P (y ∷ ys) (suc n) x h k = (h.0, all-set P ys n x h.1 k)

all-get : {A : Type 0} (P : A → Type 0) (xs : List A) (n : ℕ) (x : A) → n < length xs → x ≡ get_or xs n x → AllByRecursion P xs → P x
all-get P [] n x l e h = absurd (omega (arith, l))
all-get P (y ∷ ys) zero x l e h = subst P (sym e) h.0
all-get P (y ∷ ys) (suc n) x l e h = all-get P ys n x (omega (arith, l)) e h.1

pub thread-placed : (p : PlainProgram) (all : List (Vec TrackedFrame)) (n : ℕ) (t : Vec TrackedFrame) → n < length all → t ≡ get_or all n t → ThreadsArePlaced p all → FramesArePlaced p t.items
thread-placed p all n t l e h = all-get (λ (t : Vec TrackedFrame). FramesArePlaced p t.items) all n t l e h

pub set-placed : (p : PlainProgram) (all new : List (Vec TrackedFrame)) (n : ℕ) (v : Vec TrackedFrame) → new ≡ slice_set all n v → ThreadsArePlaced p all → FramesArePlaced p v.items → ThreadsArePlaced p new
set-placed p all new n v e h k = subst (ThreadsArePlaced p) (sym e) (all-set (λ (t : Vec TrackedFrame). FramesArePlaced p t.items) all n v h k)

pub more-placed : (p : PlainProgram) (all new : List (Vec TrackedFrame)) (v : Vec TrackedFrame) → new ≡ all ++ v ∷ [] → ThreadsArePlaced p all → FramesArePlaced p v.items → ThreadsArePlaced p new
more-placed p all new v e h k = subst (ThreadsArePlaced p) (sym e) (each-join (λ (t : Vec TrackedFrame). FramesArePlaced p t.items) all (v ∷ []) h (k, tt))

-- ---- a thread is put back

pub set-seen : (all : List (List plain.TrackedFrame)) (others new : List (Vec TrackedFrame)) (n : ℕ) (v : Vec TrackedFrame) → AreOthers n all others → new ≡ slice_set others n v → threads_view new ≡ slice_set all n (frames_view v.items)
set-seen all others new n v h e = ap threads_view e ∙ (map-set (λ (t : Vec TrackedFrame). frames_view t.items) others n v ∙ h (frames_view v.items))

pub put-alone : (all : List (List plain.TrackedFrame)) (others new : List (Vec TrackedFrame)) (n : ℕ) (v : Vec TrackedFrame) → AreOthers n all others → new ≡ slice_set others n v → threads_view new ≡ slice_set all n (frames_view v.items) ++ new_thread None
put-alone all others new n v h e = set-seen all others new n v h e ∙ sym (append-nil (slice_set all n (frames_view v.items)))

pub put-both : (all : List (List plain.TrackedFrame)) (others set new : List (Vec TrackedFrame)) (n : ℕ) (v begun : Vec TrackedFrame) (f : TrackedFrame) → AreOthers n all others → set ≡ slice_set others n v → begun.items ≡ f ∷ [] → new ≡ set ++ begun ∷ [] → threads_view new ≡ slice_set all n (frames_view v.items) ++ new_thread (Some (frame_view f))
put-both all others set new n v begun f h e b g =
    ap threads_view g
    ∙ (map-append (λ (t : Vec TrackedFrame). frames_view t.items) set (begun ∷ [])
    ∙ (ap (λ l. l ++ frames_view begun.items ∷ []) (set-seen all others set n v h e) ∙ ap (λ fs. slice_set all n (frames_view v.items) ++ frames_view fs ∷ []) b))

-- ---- what a step makes of frames

abbrev alone : List plain.TrackedRegion → List plain.TrackedFrame → Moved
alone rs fs = record { frames = fs; forked = None; regions = rs }

-- a frame on those below it
abbrev pub stacked : List plain.TrackedRegion → List plain.TrackedFrame → plain.TrackedFrame → Traced Moved
stacked rs below f = traced (alone rs (f ∷ below))

pub moved-alone : (rs : List plain.TrackedRegion) (below new : List TrackedFrame) (top : TrackedFrame) → new ≡ below ++ top ∷ [] → stacked rs (frames_view below) (frame_view top) ≡ traced (alone rs (frames_view new))
moved-alone rs below new top e = ap (λ fs. traced (alone rs fs)) (sym (pushed-seen below new top e))

-- a callee on its caller
abbrev pub both-stacked : List plain.TrackedFrame → Handed → Traced Moved
both-stacked below x = traced (alone x.regions (x.callee ∷ (x.caller ∷ below)))

pub moved-both : (rs : List plain.TrackedRegion) (below mid new : List TrackedFrame) (caller callee : TrackedFrame) → mid ≡ below ++ caller ∷ [] → new ≡ mid ++ callee ∷ [] → both-stacked (frames_view below) (record { caller = frame_view caller; callee = frame_view callee; regions = rs }) ≡ traced (alone rs (frames_view new))
moved-both rs below mid new caller callee e f =
    ap (λ fs. traced (alone rs fs)) (ap (λ fs. frame_view callee ∷ fs) (sym (pushed-seen below mid caller e)) ∙ sym (pushed-seen mid new callee f))

abbrev beside : List plain.TrackedRegion → List plain.TrackedFrame → plain.TrackedFrame → Moved
beside rs fs f = record { frames = fs; forked = Some f; regions = rs }

-- a caller alone, with a callee in a new thread
abbrev pub caller-stacked : List plain.TrackedFrame → Handed → Traced Moved
caller-stacked below x = traced (beside x.regions (x.caller ∷ below) x.callee)

pub moved-forked : (rs : List plain.TrackedRegion) (below new : List TrackedFrame) (caller callee : TrackedFrame) → new ≡ below ++ caller ∷ [] → caller-stacked (frames_view below) (record { caller = frame_view caller; callee = frame_view callee; regions = rs }) ≡ traced (beside rs (frames_view new) (frame_view callee))
moved-forked rs below new caller callee e = ap (λ fs. traced (beside rs fs (frame_view callee))) (sym (pushed-seen below new caller e))
