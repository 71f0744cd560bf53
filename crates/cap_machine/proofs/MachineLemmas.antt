-- The machine of the code, and the configuration that it shows.
use Rattle.std.proofs.Common.{◌≡◌, ◌∙◌, ap, sym, refl, subst, ℕ, zero, suc, ◌+◌, ◌<◌, List, [], ◌∷◌, ◌++◌, length, get_or, map, arith}
use Rattle.std.specs.Prelude.{slice_get, slice_set, Option, Some, IsSomeAnd}
use Rattle.std.specs.Global.{Vec}
use Rattle.std.specs.List.{AllByRecursion}
use Rattle.std.proofs.lemmas.Option.{slice_get_read}
use Rattle.std.proofs.Math.ListN.{set}
use Rattle.std.proofs.lemmas.List.{length-map}
use Rattle.cap_prog.specs.Program.{PlainProgram}
use Rattle.cap_machine.specs.declared.frame.Frame as code
use Rattle.cap_machine.specs.declared.machine.Machine.{Machine}
use Rattle.cap_machine.specs.Machine.{Frame, Thread}
use Rattle.cap_machine.specs.View.{frame_view, thread_view, configuration, is_stopped, IsPlaced, ArePlaced, AllArePlaced}
use Rattle.cap_machine.specs.Ready.{HasTop, update, CanChange, HasChanged, HasThread, IsUnchanged}
use Rattle.cap_machine.proofs.Lists.{all_at, all_set, all_append}
use Rattle.cap_machine.proofs.ThreadLemmas.{thread_top}

-- the thread that `threads[n]` lends
pub lent_thread : (threads : List (Vec code.Frame)) (n : ℕ) (t : Vec code.Frame) → n < length threads → t ≡ get_or threads n t → slice_get threads n ≡ Some t
lent_thread threads n t there is = slice_get_read threads (length threads) n t refl there is

pub below_length : {X : Type 0} (xs : List X) (n : ℕ) (P : X → Type 0) → IsSomeAnd (slice_get xs n) P → n < length xs
below_length [] n P h = absurd h
below_length (x ∷ xs) zero P h = omega arith
below_length (x ∷ xs) (suc n) P h = let k = below_length xs n P h in omega arith

pub is_there : (m : Machine) (n : ℕ) → HasTop m n → n < length m.threads.items
unfolding HasTop
is_there m n h = below_length m.threads.items n _ h

pub has_frames : (m : Machine) (n : ℕ) (t : Vec code.Frame) → HasTop m n → t ≡ get_or m.threads.items n t → 0 < length t.items
unfolding HasTop
has_frames m n t h is =
    let P : Option (Vec code.Frame) → Type 0 = λ o. IsSomeAnd o (λ (u : Vec code.Frame). 0 < length u.items) in
    subst P (lent_thread m.threads.items n t (below_length m.threads.items n _ h) is) h

pub are_placed : (p : PlainProgram) (m : Machine) (n : ℕ) (t : Vec code.Frame) → CanChange p m n → t ≡ get_or m.threads.items n t → ArePlaced p t.items
unfolding AllArePlaced
are_placed p m n t h is = all_at (λ (u : Vec code.Frame). ArePlaced p u.items) m.threads.items n t h.places (lent_thread m.threads.items n t (is_there m n h.top) is)

update-set : (p : PlainProgram) (change : Thread → Thread) (ts : List (Vec code.Frame)) (n : ℕ) (t u : Vec code.Frame) → slice_get ts n ≡ Some t → thread_view p u.items ≡ change (thread_view p t.items) → map (λ (v : Vec code.Frame). thread_view p v.items) (slice_set ts n u) ≡ update change (map (λ (v : Vec code.Frame). thread_view p v.items) ts) n
update-set p change [] n t u e v = refl
update-set p change (w ∷ ws) zero t u e v =
    let i : w ≡ t = cc in
    ap (λ x. x ∷ map (λ (y : Vec code.Frame). thread_view p y.items) ws) (v ∙ ap (λ (y : Vec code.Frame). change (thread_view p y.items)) (sym i))
update-set p change (w ∷ ws) (suc n) t u e v = ap (λ xs. thread_view p w.items ∷ xs) (update-set p change ws n t u e v)

same-set : (p : PlainProgram) (ts : List (Vec code.Frame)) (n : ℕ) (t u : Vec code.Frame) → slice_get ts n ≡ Some t → thread_view p u.items ≡ thread_view p t.items → map (λ (v : Vec code.Frame). thread_view p v.items) (slice_set ts n u) ≡ map (λ (v : Vec code.Frame). thread_view p v.items) ts
same-set p [] n t u e v = refl
same-set p (w ∷ ws) zero t u e v =
    let i : w ≡ t = cc in
    ap (λ x. x ∷ map (λ (y : Vec code.Frame). thread_view p y.items) ws) (v ∙ ap (λ (y : Vec code.Frame). thread_view p y.items) (sym i))
same-set p (w ∷ ws) (suc n) t u e v = ap (λ xs. thread_view p w.items ∷ xs) (same-set p ws n t u e v)

-- thread number n became u
pub changed : (p : PlainProgram) (m : Machine) (n : ℕ) (change : Thread → Thread) (t u : Vec code.Frame) (threads : Vec (Vec code.Frame)) → CanChange p m n → t ≡ get_or m.threads.items n t → threads.items ≡ set m.threads.items n u → thread_view p u.items ≡ change (thread_view p t.items) → ArePlaced p u.items → HasChanged p change n m (record m { threads = threads })
unfolding configuration is_stopped AllArePlaced
changed p m n change t u threads h is e v k =
    let at = lent_thread m.threads.items n t (is_there m n h.top) is in
    record {
      configured = ap (λ ts. record { heap = m.heap; threads = map (λ (w : Vec code.Frame). thread_view p w.items) ts }) e ∙ ap (λ ts. record { heap = m.heap; threads = ts }) (update-set p change m.threads.items n t u at v);
      stop = refl;
      places = subst (AllByRecursion (λ (w : Vec code.Frame). ArePlaced p w.items)) (sym e) (all_set (λ (w : Vec code.Frame). ArePlaced p w.items) m.threads.items n u h.places k);
    }

pub kept : (p : PlainProgram) (m : Machine) (n : ℕ) (t u : Vec code.Frame) (threads : Vec (Vec code.Frame)) → CanChange p m n → t ≡ get_or m.threads.items n t → threads.items ≡ set m.threads.items n u → thread_view p u.items ≡ thread_view p t.items → ArePlaced p u.items → IsUnchanged p m (record m { threads = threads })
unfolding configuration is_stopped AllArePlaced
kept p m n t u threads h is e v k =
    let at = lent_thread m.threads.items n t (is_there m n h.top) is in
    record {
      configured = ap (λ ts. record { heap = m.heap; threads = map (λ (w : Vec code.Frame). thread_view p w.items) ts }) e ∙ ap (λ ts. record { heap = m.heap; threads = ts }) (same-set p m.threads.items n t u at v);
      stop = refl;
      places = subst (AllByRecursion (λ (w : Vec code.Frame). ArePlaced p w.items)) (sym e) (all_set (λ (w : Vec code.Frame). ArePlaced p w.items) m.threads.items n u h.places k);
    }

shown_at : (p : PlainProgram) (ts : List (Vec code.Frame)) (n : ℕ) (t : Vec code.Frame) → slice_get ts n ≡ Some t → slice_get (map (λ (v : Vec code.Frame). thread_view p v.items) ts) n ≡ Some (thread_view p t.items)
shown_at p [] n t e = absurd (cc)
shown_at p (w ∷ ws) zero t e = let i : w ≡ t = cc in ap (λ (y : Vec code.Frame). Some (thread_view p y.items)) i
shown_at p (w ∷ ws) (suc n) t e = shown_at p ws n t e

-- the thread that is lent shows these frames
pub lent_shows : (p : PlainProgram) (m : Machine) (n : ℕ) (t : Vec code.Frame) (fs : Thread) → HasTop m n → t ≡ get_or m.threads.items n t → slice_get (configuration p m).threads n ≡ Some fs → thread_view p t.items ≡ fs
unfolding configuration
lent_shows p m n t fs h is e = let i = shown_at p m.threads.items n t (lent_thread m.threads.items n t (is_there m n h) is) in cc

pub top_shows : (p : PlainProgram) (m : Machine) (n k : ℕ) (t : Vec code.Frame) (g : code.Frame) (f : Frame) (fs : List Frame) → HasTop m n → t ≡ get_or m.threads.items n t → k + 1 ≡ length t.items → g ≡ get_or t.items k g → slice_get (configuration p m).threads n ≡ Some (f ∷ fs) → frame_view p g ≡ f
top_shows p m n k t g f fs h is e top s =
    let i = lent_shows p m n t (f ∷ fs) h is s in let j = thread_top p t.items k g e in let l = ap (frame_view p) top in cc

-- a thread with a frame has a top frame
pub has_top : (p : PlainProgram) (m : Machine) (n : ℕ) (f : Frame) (fs : List Frame) → slice_get (configuration p m).threads n ≡ Some (f ∷ fs) → HasTop m n
unfolding configuration HasTop
has_top p m n f fs e = go m.threads.items n e
  where
    go : (ts : List (Vec code.Frame)) (k : ℕ) → slice_get (map (λ (v : Vec code.Frame). thread_view p v.items) ts) k ≡ Some (f ∷ fs) → IsSomeAnd (slice_get ts k) (λ (t : Vec code.Frame). 0 < length t.items)
    go [] k i = absurd (cc)
    go (w ∷ ws) zero i = some w.items cc
      where
        some : (xs : List code.Frame) → thread_view p xs ≡ f ∷ fs → 0 < length xs
        some [] j = absurd (cc)
        some (x ∷ xs) j = omega arith
    go (w ∷ ws) (suc k) i = go ws k i

pub threads_same : (p : PlainProgram) (m : Machine) (threads : Vec (Vec code.Frame)) → threads.items ≡ m.threads.items → AllArePlaced p m → IsUnchanged p m (record m { threads = threads })
unfolding configuration is_stopped AllArePlaced
threads_same p m threads e h =
    record {
      configured = ap (λ ts. record { heap = m.heap; threads = map (λ (w : Vec code.Frame). thread_view p w.items) ts }) e;
      stop = refl;
      places = subst (AllByRecursion (λ (w : Vec code.Frame). ArePlaced p w.items)) (sym e) h;
    }

map_push : (p : PlainProgram) (ts : List (Vec code.Frame)) (u : Vec code.Frame) → map (λ (w : Vec code.Frame). thread_view p w.items) (ts ++ u ∷ []) ≡ map (λ (w : Vec code.Frame). thread_view p w.items) ts ++ thread_view p u.items ∷ []
map_push p [] u = refl
map_push p (t ∷ ts) u = ap (λ xs. thread_view p t.items ∷ xs) (map_push p ts u)

-- there is one more thread, of one frame
pub thread_added : (p : PlainProgram) (m : Machine) (threads : Vec (Vec code.Frame)) (frames : Vec code.Frame) (f : code.Frame) → threads.items ≡ m.threads.items ++ frames ∷ [] → frames.items ≡ f ∷ [] → AllArePlaced p m → IsPlaced p f → HasThread p (frame_view p f) m (record m { threads = threads })
unfolding configuration is_stopped AllArePlaced
thread_added p m threads frames f e one h k =
    let placed : ArePlaced p frames.items = subst (ArePlaced p) (sym one) (k, tt) in
    record {
      configured =
          ap (λ ts. record { heap = m.heap; threads = map (λ (w : Vec code.Frame). thread_view p w.items) ts }) e
          ∙ (ap (λ ts. record { heap = m.heap; threads = ts }) (map_push p m.threads.items frames)
          ∙ ap (λ xs. record { heap = m.heap; threads = map (λ (w : Vec code.Frame). thread_view p w.items) m.threads.items ++ thread_view p xs ∷ [] }) one);
      stop = refl;
      places = subst (AllByRecursion (λ (w : Vec code.Frame). ArePlaced p w.items)) (sym e) (all_append (λ (w : Vec code.Frame). ArePlaced p w.items) m.threads.items (frames ∷ []) h (placed, tt));
    }

pub thread_count : (p : PlainProgram) (m : Machine) → length (configuration p m).threads ≡ length m.threads.items
unfolding configuration
thread_count p m = length-map m.threads.items _
