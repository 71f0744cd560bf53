-- The top frame of a thread, and the thread after it changed.
use Rattle.std.proofs.Common.{◌≡◌, ◌∙◌, ap, sym, refl, ℕ, zero, suc, ◌+◌, ◌-◌, ◌<◌, ◌≤◌, List, [], ◌∷◌, ◌++◌, length, get_or, take, arith}
use Rattle.std.specs.Prelude.{ℤ, Some, None}
use Rattle.std.proofs.lemmas.List.{take_more, take_all, set_at, map-append, reverse-append, length-take-le, get_or_default}
use Rattle.std.proofs.Math.ListN.{set}
use Rattle.cap_prog.specs.Program.{PlainProgram}
use Rattle.cap_machine.specs.declared.frame.Frame as code
use Rattle.cap_machine.specs.declared.event.Event.TheVariants.{Return}
use Rattle.cap_machine.specs.Machine.{Frame, with_value, receives}
use Rattle.cap_machine.specs.View.{frame_view, thread_view}
use Rattle.cap_machine.specs.Changes.{passed, with_top, returned, return_event}

-- the last of the code's frames is the first of the thread
pub thread-push : (p : PlainProgram) (below : List code.Frame) (f : code.Frame) → thread_view p (below ++ f ∷ []) ≡ frame_view p f ∷ thread_view p below
thread-push p below f = rw (map-append, reverse-append) refl

front_and_last : (xs : List code.Frame) (n : ℕ) (d : code.Frame) → n + 1 ≡ length xs → xs ≡ take n xs ++ get_or xs n d ∷ []
front_and_last xs n d e =
    let h : n < length xs = omega arith in
    let l : length xs ≤ n + 1 = omega arith in
    sym (take_all (n + 1) xs l) ∙ take_more xs n d h

pub thread_top : (p : PlainProgram) (xs : List code.Frame) (n : ℕ) (d : code.Frame) → n + 1 ≡ length xs → thread_view p xs ≡ frame_view p (get_or xs n d) ∷ thread_view p (take n xs)
thread_top p xs n d e = ap (thread_view p) (front_and_last xs n d e) ∙ thread-push p (take n xs) (get_or xs n d)

thread_with_top : (p : PlainProgram) (xs : List code.Frame) (n : ℕ) (d y : code.Frame) → n + 1 ≡ length xs → thread_view p (set xs n y) ≡ frame_view p y ∷ thread_view p (take n xs)
thread_with_top p xs n d y e =
    let l : n ≤ length xs = omega arith in
    let s : set xs n y ≡ take n xs ++ y ∷ [] = ap (λ ys. set ys n y) (front_and_last xs n d e) ∙ set_at (take n xs) (get_or xs n d) [] y n (length-take-le n xs l) in
    ap (thread_view p) s ∙ thread-push p (take n xs) y

-- the thread whose top frame f becomes y
pub top_changes : (p : PlainProgram) (xs : List code.Frame) (n : ℕ) (f y : code.Frame) (change : Frame → Frame) → n + 1 ≡ length xs → f ≡ get_or xs n f → frame_view p y ≡ change (frame_view p f) → thread_view p (set xs n y) ≡ with_top change (thread_view p xs)
top_changes p xs n f y change e top v =
    thread_with_top p xs n f y e
    ∙ (ap (λ g. g ∷ thread_view p (take n xs)) (v ∙ ap (λ g. change (frame_view p g)) top)
    ∙ sym (ap (with_top change) (thread_top p xs n f e)))

-- the same thread, where the top frame is seen as it was
pub top_same : (p : PlainProgram) (xs : List code.Frame) (n : ℕ) (f y : code.Frame) → n + 1 ≡ length xs → f ≡ get_or xs n f → frame_view p y ≡ frame_view p f → thread_view p (set xs n y) ≡ thread_view p xs
top_same p xs n f y e top v = thread_with_top p xs n f y e ∙ (ap (λ g. g ∷ thread_view p (take n xs)) (v ∙ ap (frame_view p) top) ∙ sym (thread_top p xs n f e))

set_front : (xs : List code.Frame) (n : ℕ) (z y : code.Frame) → n < length xs → set (xs ++ z ∷ []) n y ≡ set xs n y ++ z ∷ []
set_front [] n z y l = absurd (omega arith)
set_front (x ∷ xs) zero z y l = refl
set_front (x ∷ xs) (suc n) z y l = ap (λ ys. x ∷ ys) (set_front xs n z y (omega arith))

get_front : (xs : List code.Frame) (n : ℕ) (z d : code.Frame) → n < length xs → get_or (xs ++ z ∷ []) n d ≡ get_or xs n d
get_front [] n z d l = absurd (omega arith)
get_front (x ∷ xs) zero z d l = refl
get_front (x ∷ xs) (suc n) z d l = get_front xs n z d (omega arith)

-- a new frame on the frame f, which becomes y
pub callee_on_top : (p : PlainProgram) (xs ys : List code.Frame) (n : ℕ) (f y z : code.Frame) → n + 1 ≡ length xs → ys ≡ xs ++ z ∷ [] → f ≡ get_or ys n f → frame_view p y ≡ passed (frame_view p f) → thread_view p (set ys n y) ≡ frame_view p z ∷ with_top passed (thread_view p xs)
callee_on_top p xs ys n f y z e s top v =
    let l : n < length xs = omega arith in
    ap (λ ws. thread_view p (set ws n y)) s
    ∙ (ap (thread_view p) (set_front xs n z y l)
    ∙ (thread-push p (set xs n y) z
    ∙ ap (λ t. frame_view p z ∷ t) (top_changes p xs n f y passed e (top ∙ (ap (λ ws. get_or ws n f) s ∙ get_front xs n z f l)) v)))

-- z stands on the frames xs, of which f is the last
two_on_top : (p : PlainProgram) (xs : List code.Frame) (n : ℕ) (f z : code.Frame) → n + 1 ≡ length xs → f ≡ get_or xs n f → thread_view p (xs ++ z ∷ []) ≡ frame_view p z ∷ frame_view p f ∷ thread_view p (take n xs)
two_on_top p xs n f z e top =
    thread-push p xs z ∙ ap (λ t. frame_view p z ∷ t) (thread_top p xs n f e ∙ ap (λ g. frame_view p g ∷ thread_view p (take n xs)) (sym top))

-- the caller f, which becomes y, gets the value of the frame z
pub receives_in : (p : PlainProgram) (xs ys : List code.Frame) (n : ℕ) (f y z : code.Frame) (x : ℕ) (v : ℤ) → n + 1 ≡ length xs → ys ≡ xs ++ z ∷ [] → f ≡ get_or xs n f → frame_view p y ≡ with_value (frame_view p f) x v → z.destination ≡ Some x → thread_view p (set xs n y) ≡ returned v (thread_view p ys)
receives_in p xs ys n f y z x v e s top w dest =
    thread_with_top p xs n f y e
    ∙ (ap (λ g. g ∷ thread_view p (take n xs)) w
    ∙ (ap (λ o. receives o v (frame_view p f) ∷ thread_view p (take n xs)) (sym dest)
    ∙ ap (returned v) (sym (ap (thread_view p) s ∙ two_on_top p xs n f z e top))))

-- the frame z has no destination
pub drops_value : (p : PlainProgram) (xs ys : List code.Frame) (z : code.Frame) (v : ℤ) → 0 < length xs → ys ≡ xs ++ z ∷ [] → z.destination ≡ None → thread_view p xs ≡ returned v (thread_view p ys)
drops_value p xs ys z v h s dest =
    let n = length xs - 1 in
    let e : n + 1 ≡ length xs = omega arith in
    let f = get_or xs n z in
    let top : f ≡ get_or xs n f = get_or_default xs n z f (omega arith) in
    thread_top p xs n f e
    ∙ (ap (λ g. frame_view p g ∷ thread_view p (take n xs)) (sym top)
    ∙ (ap (λ o. receives o v (frame_view p f) ∷ thread_view p (take n xs)) (sym dest)
    ∙ ap (returned v) (sym (ap (thread_view p) s ∙ two_on_top p xs n f z e top))))

pub returns_value : (p : PlainProgram) (xs ys : List code.Frame) (z : code.Frame) (v : ℤ) → 0 < length xs → ys ≡ xs ++ z ∷ [] → Return v ≡ return_event v (thread_view p ys)
returns_value p xs ys z v h s =
    let n = length xs - 1 in
    let e : n + 1 ≡ length xs = omega arith in
    let f = get_or xs n z in
    let top : f ≡ get_or xs n f = get_or_default xs n z f (omega arith) in
    ap (return_event v) (sym (ap (thread_view p) s ∙ two_on_top p xs n f z e top))
