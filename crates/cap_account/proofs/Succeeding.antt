-- What other frames have stays: after a step the account is sound where the stepping thread's stack
-- stands.
use Rattle.std.proofs.Common.{◌≡◌, ◌≢◌, ℕ, zero, suc, ◌+◌, List, [], ◌∷◌, ◌++◌, length, Some, refl, sym, ap, ◌∙◌, subst, arith}
use Rattle.std.specs.Prelude.{slice_get, slice_set, remove}
use Rattle.std.specs.List.{AllByRecursion}
use Rattle.cap_prog.specs.Program.{PlainProgram}
use Rattle.cap_machine.specs.Machine.{Frame, Thread}
use Rattle.cap_machine_accounts.specs.Accounts.{Held}
use Rattle.cap_account_resources.specs.Parts.{Table}
use Rattle.cap_account_resources.proofs.Lists.{some-same, none-some, set-length, push-length}
use Rattle.cap_account_resources.proofs.Monoid.{atom as at, both as plus}
use Rattle.cap_account_resources.proofs.Interference.{Relies}
use Rattle.cap_account_resources.proofs.Stocks.{Stock, both, Inside, reordered, inside-same, inside-trans, inside-first, inside-second, inside-both, inside-cells}
use Rattle.cap_account_resources.proofs.Tables.{FitsRoom, fits-less}
use Rattle.cap_account_resources.proofs.Owners.{owned}
use Rattle.cap_account_states.proofs.Checked.{Checked}
use Rattle.cap_account_steps.proofs.Regained.{Stable}
use Rattle.cap_account_steps.proofs.Frames.{stands-on, waits-on}
use Rattle.cap_account.proofs.Stocked.{part_stock, sum_by, frames_stock, threads_stock, owners, account_table, Callee, callee_of, AllWait, StackStands, EachStands, OwnsItsOwn, Sound, Turn}
use Rattle.cap_account.proofs.Totals.{sum-set, sum-last}
use Rattle.cap_account.proofs.Chosen.{Apart}
use Rattle.cap_account.proofs.Renewed.{apart-after, owned-after}
use Rattle.cap_account.proofs.Changes.{Scene, Change, shift, free_regions, rest_stock, room-after, cells-after, relies-for, own-regions}
use Rattle.cap_account.proofs.Successors.{others, scene, Stride, all, kept, news, account, owners-are, table-is}

-- ---- lists of stacks with one changed, or one more

module _ (p : Checked) (T : Table) where
  one-stands :
      (u t : Thread) (hs qs : List Held) → StackStands p T t qs → Some t ≡ Some u →
      Some qs ≡ Some hs → StackStands p T u hs
  one-stands u t hs qs s e k =
      subst (λ a. StackStands p T a hs) (some-same t u e)
      (subst (StackStands p T t) (some-same qs hs k) s)

  abbrev ButOne : List Thread → List (List Held) → ℕ → Type 0
  ButOne ts hss i =
      (j : ℕ) (t : Thread) (hs : List Held) → j ≢ i → slice_get ts j ≡ Some t →
      slice_get hss j ≡ Some hs → StackStands p T t hs

  pub each-set :
      (ts : List Thread) (hss : List (List Held)) (i : ℕ) (t : Thread) (hs : List Held) →
      StackStands p T t hs → ButOne ts hss i →
      EachStands p T (slice_set ts i t) (slice_set hss i hs)
  each-set [] hss i t hs s f j u qs e k = absurd (none-some e)
  each-set (y ∷ ts) [] i t hs s f j u qs e k = absurd (none-some k)
  each-set (y ∷ ts) (ys ∷ hss) zero t hs s f zero u qs e k = one-stands u t qs hs s e k
  each-set (y ∷ ts) (ys ∷ hss) zero t hs s f (suc j) u qs e k =
      f (suc j) u qs (λ q. omega (arith, q)) e k
  each-set (y ∷ ts) (ys ∷ hss) (suc i) t hs s f zero u qs e k =
      f 0 u qs (λ q. omega (arith, q)) e k
  each-set (y ∷ ts) (ys ∷ hss) (suc i) t hs s f (suc j) u qs e k =
      each-set ts hss i t hs s (λ n v rs ne. f (suc n) v rs (λ q. ne (omega (arith, q)))) j u qs e k

  pub each-last :
      (ts : List Thread) (hss : List (List Held)) (t : Thread) (hs : List Held) →
      length hss ≡ length ts → StackStands p T t hs → EachStands p T ts hss →
      EachStands p T (ts ++ t ∷ []) (hss ++ hs ∷ [])
  each-last [] [] t hs n s f zero u qs e k = one-stands u t qs hs s e k
  each-last [] [] t hs n s f (suc j) u qs e k = absurd (none-some e)
  each-last [] (ys ∷ hss) t hs n s f j u qs e k = absurd (omega (arith, n))
  each-last (y ∷ ts) [] t hs n s f j u qs e k = absurd (omega (arith, n))
  each-last (y ∷ ts) (ys ∷ hss) t hs n s f zero u qs e k = f 0 u qs e k
  each-last (y ∷ ts) (ys ∷ hss) t hs n s f (suc j) u qs e k =
      each-last ts hss t hs (omega (arith, n)) s (λ i. f (suc i)) j u qs e k

-- one of the others
pub other-inside :
    {A : Type 0} (p : PlainProgram) (f : A → Stock) (xs : List A) (i j : ℕ) (z : A) → j ≢ i →
    slice_get xs j ≡ Some z → Inside p (f z) (sum_by p f (remove xs i))
other-inside p f [] i j z ne e = absurd (none-some e)
other-inside p f (x ∷ xs) zero zero z ne e = absurd (ne refl)
other-inside p f (x ∷ xs) zero (suc j) z ne e = among p f xs j z e
  where
    among :
        {A : Type 0} (p : PlainProgram) (f : A → Stock) (xs : List A) (j : ℕ) (z : A) →
        slice_get xs j ≡ Some z → Inside p (f z) (sum_by p f xs)
    among p f [] j z e = absurd (none-some e)
    among p f (x ∷ xs) zero z e =
        subst (λ y. Inside p (f y) (both p (f x) (sum_by p f xs))) (some-same x z e)
        (inside-first p (f x) (sum_by p f xs))
    among p f (x ∷ xs) (suc j) z e =
        inside-trans p (f z) (sum_by p f xs) (both p (f x) (sum_by p f xs)) (among p f xs j z e)
        (inside-second p (f x) (sum_by p f xs))
other-inside p f (x ∷ xs) (suc i) zero z ne e =
    subst (λ y. Inside p (f y) (both p (f x) (sum_by p f (remove xs i)))) (some-same x z e)
    (inside-first p (f x) (sum_by p f (remove xs i)))
other-inside p f (x ∷ xs) (suc i) (suc j) z ne e =
    inside-trans p (f z) (sum_by p f (remove xs i)) (both p (f x) (sum_by p f (remove xs i)))
    (other-inside p f xs i j z (λ q. ne (ap suc q)) e)
    (inside-second p (f x) (sum_by p f (remove xs i)))

-- ---- frames at another table, which others led to

module _ (p : Checked) (V U : Table) (most : Stock)
    (led : (q : Stock) → Inside p.program q most → Relies p.program q.guards V U) where
  waits-later :
      (y : Callee) (fs : List Frame) (hs : List Held) →
      Inside p.program (frames_stock p.program hs) most → AllWait p V y fs hs → AllWait p U y fs hs
  waits-later y [] [] le w = w
  waits-later y [] (h ∷ hs) le w = w
  waits-later y (f ∷ fs) [] le w = w
  waits-later y (f ∷ fs) (h ∷ hs) le w =
      let q = part_stock h.part in
      let qs = frames_stock p.program hs in (
        waits-on p q V U h.fixed f y.destination y.function y.arguments y.fixed
            (led q
            (inside-trans p.program q (both p.program q qs) most (inside-first p.program q qs) le))
            w.0,
        waits-later (callee_of f h) fs hs
            (inside-trans p.program qs (both p.program q qs) most (inside-second p.program q qs) le)
            w.1,
      )

  stack-later :
      (fs : List Frame) (hs : List Held) → Inside p.program (frames_stock p.program hs) most →
      StackStands p V fs hs → StackStands p U fs hs
  stack-later [] [] le s = s
  stack-later [] (h ∷ hs) le s = s
  stack-later (f ∷ fs) [] le s = s
  stack-later (f ∷ fs) (h ∷ hs) le s =
      let q = part_stock h.part in
      let qs = frames_stock p.program hs in (
        stands-on p q V U h.fixed f
            (led q
            (inside-trans p.program q (both p.program q qs) most (inside-first p.program q qs) le))
            s.0,
        waits-later (callee_of f h) fs hs
            (inside-trans p.program qs (both p.program q qs) most (inside-second p.program q qs) le)
            s.1,
      )

-- ---- the account after a step

module _ (p : Checked) (stable : Stable p.program) (x : Turn p) (y : Stride p x) where
  abbrev P : PlainProgram
  P = p.program

  abbrev s : Scene p.program
  s = scene p x

  abbrev ch : Change p.program (scene p x) y.heap y.left
  ch = y.change

  abbrev V : Table
  V = account_table x.a

  abbrev U : Table
  U = y.change.by.U

  abbrev owned_later : Stock
  owned_later = owned p.program (owners (kept p stable x y ++ news p stable x y))

  -- all that is accounted for is what the step left
  accounted :
      (q : Stock) → Inside p.program q (both p.program y.left (others p x)) →
      Inside p.program (both p.program q owned_later) (all p stable x y)
  accounted q le =
      let C = owned P ch.by.closed in
      let M = owned P ch.by.made in
      let free = free_regions P s y.heap y.left ch in
      subst (λ o. Inside P (both P q o) (all p stable x y))
      (sym (ap (owned P) (owners-are p stable x y)
      ∙ owned-after P s.rs (shift P s y.heap y.left ch)))
      (subst (Inside P (both P q (both P (both P C free) M)))
      (reordered P (y.left ∷ others p x ∷ C ∷ free ∷ M ∷ [])
      (plus (plus (at 0) (at 1)) (plus (plus (at 2) (at 3)) (at 4)))
      (plus (plus (at 0) (plus (at 2) (at 4))) (plus (at 1) (at 3))) refl)
      (inside-both P q (both P y.left (others p x)) (both P (both P C free) M)
      (both P (both P C free) M) le (inside-same P (both P (both P C free) M))))

  pub sound-after :
      (ts : List Thread) (hss : List (List Held)) → length hss ≡ length ts →
      Inside p.program (threads_stock p.program hss) (both p.program y.left (others p x)) →
      EachStands p U ts hss →
      Sound p (record { heap = y.heap; threads = ts }) (account p stable x y hss)
  sound-after ts hss n le stand =
      let total = both P (threads_stock P hss) owned_later in
      let within = accounted (threads_stock P hss) le in
      let same = sym (table-is p stable x y) in
      record {
        count = n;
        heap = λ a z.
            let i = inside-cells P total (all p stable x y) within a z in
            let j = cells-after P s y.heap y.left ch a z in
            omega (arith, i, j);
        room =
            subst (λ T. FitsRoom P T total) same
            (fits-less P U total (all p stable x y) within (room-after P s y.heap y.left ch));
        differ =
            subst Apart (sym (owners-are p stable x y))
            (apart-after P s.rs (shift P s y.heap y.left ch));
        regions =
            subst (λ T. AllByRecursion (OwnsItsOwn P T)
            (owners (kept p stable x y ++ news p stable x y))) same
            (subst (AllByRecursion (OwnsItsOwn P U)) (sym (owners-are p stable x y))
            (own-regions P s y.heap y.left ch stable));
        stacks = subst (λ T. EachStands p T ts hss) same stand;
      }

  -- ---- threads

  abbrev elsewhere : Stock
  elsewhere = sum_by p.program (frames_stock p.program) (remove x.a.threads x.thread)

  pub rest-has :
      (q : Stock) → Inside p.program q (others p x) →
      Inside p.program q (rest_stock p.program (scene p x) y.heap y.left y.change)
  rest-has q le =
      inside-trans P q (others p x) (rest_stock P s y.heap y.left ch) le
      (inside-first P (others p x) (free_regions P s y.heap y.left ch))

  -- the frames below wait on
  pub below-wait : AllWait p y.change.by.U (callee_of x.frame x.held) x.below x.waiting
  below-wait =
      waits-later p V U (rest_stock P s y.heap y.left ch) (relies-for P s y.heap y.left ch)
      (callee_of x.frame x.held) x.below x.waiting
      (rest-has (frames_stock P x.waiting) (inside-first P (frames_stock P x.waiting) elsewhere))
      (x.sound.stacks x.thread (x.frame ∷ x.below) (x.held ∷ x.waiting) x.has_frames x.has_parts).1

  others-stand : ButOne p U x.c.threads x.a.threads x.thread
  others-stand j t hs ne e k =
      stack-later p V U (rest_stock P s y.heap y.left ch) (relies-for P s y.heap y.left ch) t hs
      (rest-has (frames_stock P hs)
      (inside-trans P (frames_stock P hs) elsewhere (others p x)
      (other-inside P (frames_stock P) x.a.threads x.thread j hs ne k)
      (inside-second P (frames_stock P x.waiting) elsewhere)))
      (x.sound.stacks j t hs e k)

  same-count :
      (fs : List Frame) (hs : List Held) →
      length (slice_set x.a.threads x.thread hs) ≡ length (slice_set x.c.threads x.thread fs)
  same-count fs hs =
      set-length x.a.threads x.thread hs
      ∙ x.sound.count
      ∙ sym (set-length x.c.threads x.thread fs)

  -- the thread has these frames now
  pub moved :
      (fs : List Frame) (hs : List Held) → StackStands p y.change.by.U fs hs →
      Inside p.program (frames_stock p.program hs)
      (both p.program y.left (frames_stock p.program x.waiting)) →
      Sound p (record { heap = y.heap; threads = slice_set x.c.threads x.thread fs })
      (account p stable x y (slice_set x.a.threads x.thread hs))
  moved fs hs st le =
      let w = frames_stock P x.waiting in
      sound-after (slice_set x.c.threads x.thread fs) (slice_set x.a.threads x.thread hs)
      (same-count fs hs)
      (subst (λ q. Inside P q (both P y.left (others p x)))
      (sym (sum-set P (frames_stock P) x.a.threads x.thread (x.held ∷ x.waiting) hs x.has_parts))
      (subst (Inside P (both P (frames_stock P hs) elsewhere))
      (reordered P (y.left ∷ w ∷ elsewhere ∷ []) (plus (plus (at 0) (at 1)) (at 2))
      (plus (at 0) (plus (at 1) (at 2))) refl)
      (inside-both P (frames_stock P hs) (both P y.left w) elsewhere elsewhere le
      (inside-same P elsewhere))))
      (each-set p U x.c.threads x.a.threads x.thread fs hs st others-stand)

  -- and there is one thread more
  pub forked :
      (fs gs : List Frame) (hs qs : List Held) → StackStands p y.change.by.U fs hs →
      StackStands p y.change.by.U gs qs →
      Inside p.program (both p.program (frames_stock p.program hs) (frames_stock p.program qs))
      (both p.program y.left (frames_stock p.program x.waiting)) →
      Sound p (record { heap = y.heap; threads = slice_set x.c.threads x.thread fs ++ gs ∷ [] })
      (account p stable x y (slice_set x.a.threads x.thread hs ++ qs ∷ []))
  forked fs gs hs qs st new le =
      let w = frames_stock P x.waiting in
      let mine = frames_stock P hs in
      let its = frames_stock P qs in
      let ts = slice_set x.c.threads x.thread fs in
      let hss = slice_set x.a.threads x.thread hs in
      let same = same-count fs hs in
      sound-after (ts ++ gs ∷ []) (hss ++ qs ∷ [])
      (push-length hss qs ∙ ap (λ n. n + 1) same ∙ sym (push-length ts gs))
      (subst (λ q. Inside P q (both P y.left (others p x)))
      (sym (sum-last P (frames_stock P) hss qs
      ∙ ap (λ q. both P q its)
      (sum-set P (frames_stock P) x.a.threads x.thread (x.held ∷ x.waiting) hs x.has_parts)
      ∙ reordered P (mine ∷ elsewhere ∷ its ∷ []) (plus (plus (at 0) (at 1)) (at 2))
      (plus (plus (at 0) (at 2)) (at 1)) refl))
      (subst (Inside P (both P (both P mine its) elsewhere))
      (reordered P (y.left ∷ w ∷ elsewhere ∷ []) (plus (plus (at 0) (at 1)) (at 2))
      (plus (at 0) (plus (at 1) (at 2))) refl)
      (inside-both P (both P mine its) (both P y.left w) elsewhere elsewhere le
      (inside-same P elsewhere))))
      (each-last p U ts hss gs qs same new
      (each-set p U x.c.threads x.a.threads x.thread fs hs st others-stand))
