-- Returns, loops, and all statements together: each step of a run leads to an account that follows.
use Rattle.std.proofs.Common.{◌≡◌, ◌⊎◌, inl, inr, ℕ, zero, suc, ◌+◌, ◌≤◌, ℤ, Bool, true, false, List, [], ◌∷◌, ◌++◌, Option, Some, None, refl, sym, ap, ◌∙◌, subst, arith}
use Rattle.std.specs.Prelude.{slice_get, slice_set, if◌then◌else◌}
use Rattle.std.specs.FinMap.{get}
use Rattle.cap_lin.specs.Linear.{Linear}
use Rattle.cap_prog.specs.declared.assertion.Comp.{Comp}
use Rattle.cap_prog.specs.Program.{PlainProgram, PlainFunction, PlainAssertion, Label, set, read, write, cas, faa, dispose, alloc, call, fork, branch, loop, check, give_back, Block, done, first, append}
use Rattle.cap_machine.specs.Machine.{Frame, value_in, holds, with_rest, passes, receives, returns, does, statement_step}
use Rattle.cap_machine.specs.declared.event.Event.TheVariants.{Branch, Return, End}
use Rattle.cap_machine_accounts.specs.Parts.{Part, guard_at}
use Rattle.cap_machine_accounts.specs.Assertions.{Met}
use Rattle.cap_machine_accounts.specs.Accounts.{Held, table_of}
use Rattle.cap_machine_accounts.specs.Following.{Joins, SomeHasCell}
use Rattle.cap_machine_accounts.specs.Safety.{top_of, TopFrame}
use Rattle.cap_account_resources.specs.Parts.{Table, cells_of}
use Rattle.cap_account_resources.proofs.Heaps.{counted-is, count-one}
use Rattle.cap_account_resources.proofs.Monoid.{atom as at, both as plus}
use Rattle.cap_account_resources.proofs.Interference.{relies-same}
use Rattle.cap_account_resources.proofs.Stocks.{Stock, no_stock, both, Inside, stock-laws, none-right, reordered, inside-trans, inside-first, inside-is, inside-both, inside-same}
use Rattle.cap_account_resources.proofs.Tables.{new_guards}
use Rattle.cap_account_resources.proofs.Owners.{owned}
use Rattle.cap_account_states.proofs.Checked.{Checked}
use Rattle.cap_account_steps.proofs.Regained.{Stable}
use Rattle.cap_account_steps.proofs.Frames.{Stands, HandsOver, Returns}
use Rattle.cap_account_steps.proofs.Statements.{Statements}
use Rattle.cap_account.proofs.Stocked.{part_stock, frames_stock, account_table, callee_of, AllWait, Turn, spot_of, Advances}
use Rattle.cap_account.proofs.Totals.{parts_stock, sum-guards}
use Rattle.cap_account.proofs.Changes.{roomy}
use Rattle.cap_account.proofs.Successors.{others, scene, Stride, all, cut, cut-is, kept, news, account, left-inside, handed-fits, handed-within}
use Rattle.cap_account.proofs.Following.{before, follows}
use Rattle.cap_account.proofs.Succeeding.{below-wait, moved}
use Rattle.cap_account.proofs.Strides.{makes, same-cells, Goes, no-access, left-all, goes-on}
use Rattle.cap_account.proofs.Ordinary.{StandsAt, before-act, act-set, branch-goes, act-check, alloc-goes}
use Rattle.cap_account.proofs.Touching.{act-read, act-write, act-cas, act-add, act-dispose}
use Rattle.cap_account.proofs.Handing.{cut-roomy, cut-ensures, act-call, act-fork}

-- ---- two parts that are joined

one-of : (m n : ℕ) → 1 ≤ m + n → (1 ≤ m) ⊎ (1 ≤ n)
one-of zero n h = inr (omega (arith, h))
one-of (suc m) n h = inl (omega arith)

pub joins-of :
    (p : PlainProgram) (q r j : Part) → part_stock j ≡ both p (part_stock q) (part_stock r) →
    Joins q r j
joins-of p q r j e =
    let count = λ (a z : ℤ). ap (λ (s : Stock). s.cells a z) e in
    record {
      cells = λ a z h.
          elim (one-of (cells_of q.cells a z) (cells_of r.cells a z)
          (let i = count-one j.cells a z h in let k = count a z in omega (arith, i, k))) [
            | inl m ↦ inl (counted-is (get q.cells a) z m)
            | inr m ↦ inr (counted-is (get r.cells a) z m)
          ];
      first = λ a z h.
          counted-is (get j.cells a) z
          (let i = count-one q.cells a z h in let k = count a z in omega (arith, i, k));
      second = λ a z h.
          counted-is (get j.cells a) z
          (let i = count-one r.cells a z h in let k = count a z in omega (arith, i, k));
      guards = λ n.
          sum-guards p (q ∷ r ∷ []) n (guard_at j n)
          (ap (λ (s : Stock). s.guards n)
          (ap (both p (part_stock q)) (none-right p (part_stock r)) ∙ sym e));
    }

-- where a result goes is all that it changes
pub receiving :
    (d : Option ℕ) (r : ℤ) (f : Frame) (h : Held) → callee_of (receives d r f) h ≡ callee_of f h
receiving None r f h = refl
receiving (Some x) r f h = refl

-- ---- all of the part is given up

abbrev pub giving :
    (p : Checked) (x : Turn p) (given : Stock) →
    HandsOver p.program (account_table x.a) (part_stock x.held.part) no_stock given → Stride p x
giving p x given o =
    makes p x x.c.heap (part_stock x.held.part) given o.U o.new o.made (same-cells p x)
    (subst (λ q. Inside p.program (both p.program q (owned p.program o.new))
    (both p.program (part_stock x.held.part) (new_guards p.program (account_table x.a) o.U)))
    ((stock-laws p.program).zero_left given) o.budget)

module _ (p : Checked) (ls : Statements p) (stable : Stable p.program) (x : Turn p) where
  abbrev P : PlainProgram
  P = p.program

  abbrev V : Table
  V = account_table x.a

  abbrev part : Stock
  part = part_stock x.held.part

  -- ---- a return

  module _ (fn : PlainFunction) (is_fn : slice_get p.program.functions x.frame.function ≡ Some fn)
      (v : ℤ)
      (gives : Returns p.program part (account_table x.a) fn x.held.fixed x.frame v) where
    abbrev y : Stride p x
    y = giving p x gives.given gives.over

    abbrev given : Stock
    given = gives.given

    abbrev handed : Part
    handed = cut p stable x y given

    pub given-all : Inside p.program given (all p stable x y)
    given-all = left-all p stable x y

    pub handed-is : part_stock handed ≡ given
    handed-is = cut-is p stable x y given given-all

    pub handed-sum : parts_stock p.program (handed ∷ []) ≡ given
    handed-sum = none-right P (part_stock handed) ∙ handed-is

    pub contract :
        (t : TopFrame p.program x.c x.a x.thread)
        × Met p.program (table_of (kept p stable x y ++ news p stable x y)) handed t.function
        t.frame.arguments t.held.fixed v
    contract = (
      record {
        frame = x.frame;
        is_frame = ap top_of x.has_frames;
        held = x.held;
        is_held = ap top_of x.has_parts;
        function = fn;
        is_function = is_fn;
      },
      cut-ensures p stable x y given given-all fn x.frame.arguments x.held.fixed v gives.meets,
    )

    abbrev pub ends : x.waiting ≡ [] → Goes p x (returns (spot_of x) v [])
    ends e = (
      account p stable x y (slice_set x.a.threads x.thread []),
      handed,
      follows p stable x y (handed ∷ []) handed-sum (End v) (slice_set x.a.threads x.thread [])
          handed (e, refl, refl) (handed-fits p stable x y given given-all)
          (handed-within p stable x y given given-all) (λ k. refl)
          (no-access (SomeHasCell (before p stable x y)) None refl),
      contract,
      moved p stable x y [] [] tt (
        both P given (frames_stock P x.waiting),
        (stock-laws P).zero_left (both P given (frames_stock P x.waiting)),
      ),
    )

    abbrev pub goes-back :
        (f : Frame) (fs : List Frame) (h : Held) (hs : List Held) → x.waiting ≡ h ∷ hs →
        AllWait p gives.over.U (callee_of x.frame x.held) (f ∷ fs) (h ∷ hs) →
        Goes p x (returns (spot_of x) v (f ∷ fs))
    goes-back f fs h hs e w =
        let own = part_stock h.part in
        let more = both P own given in
        let waiting = frames_stock P hs in
        let more-all : Inside P more (all p stable x y) =
        inside-trans P more (both P given (others p x)) (all p stable x y)
        (subst (λ q. Inside P q (both P given (others p x))) ((stock-laws P).comm given own)
        (inside-both P given given own (others p x) (inside-same P given)
        (inside-trans P own (frames_stock P x.waiting) (others p x)
        (subst (λ q. Inside P own (frames_stock P q)) (sym e) (inside-first P own waiting))
        (inside-first P (frames_stock P x.waiting) _))))
        (left-inside p stable x y) in
        let is = cut-is p stable x y more more-all in
        let joined : Held = record { part = cut p stable x y more; fixed = h.fixed } in
        let back = receives x.frame.destination v f in
        let later = slice_set x.a.threads x.thread (joined ∷ hs) in (
          account p stable x y later,
          handed,
          follows p stable x y (handed ∷ []) handed-sum (Return v) later handed (
            h,
            joined,
            hs,
            e,
            refl,
            refl,
            joins-of P h.part handed joined.part
                (is ∙ ap (both P own) (sym handed-is)),
            refl,
          )
              (handed-fits p stable x y given given-all)
              (handed-within p stable x y given given-all) (λ k. refl)
              (no-access (SomeHasCell (before p stable x y)) None refl),
          contract,
          moved p stable x y (back ∷ fs) (joined ∷ hs) (
            subst (λ q. Stands p q gives.over.U h.fixed back) (sym is)
                (w.0.all gives.over.U (relies-same P own.guards gives.over.U) given v fn is_fn
                (cut-roomy p stable x y more more-all) gives.meets),
            subst (λ c. AllWait p gives.over.U c fs hs)
                (sym (receiving x.frame.destination v f h)) w.1,
          )
              (inside-is P (both P (part_stock joined.part) waiting)
              (both P given (frames_stock P x.waiting))
              (ap (λ q. both P q waiting) is
              ∙ reordered P (own ∷ given ∷ waiting ∷ []) (plus (plus (at 0) (at 1)) (at 2))
              (plus (at 1) (plus (at 0) (at 2))) refl
              ∙ ap (λ q. both P given (frames_stock P q)) (sym e))),
        )

    -- whoever waits
    leaves :
        (fs : List Frame) (hs : List Held) → x.waiting ≡ hs →
        AllWait p gives.over.U (callee_of x.frame x.held) fs hs →
        Goes p x (returns (spot_of x) v fs)
    leaves [] [] e w = ends e
    leaves [] (h ∷ hs) e w = absurd w
    leaves (f ∷ fs) [] e w = absurd w
    leaves (f ∷ fs) (h ∷ hs) e w = goes-back f fs h hs e w

  act-return :
      (l : Label) (t : Linear) (b : Block) → StandsAt p x (first l (give_back t) b) →
      Goes p x (does p.program (spot_of x) l (give_back t) b None)
  act-return l t b s =
      let v = value_in x.frame.store t in
      let gives = ls.returns part V s.fn x.held.fixed x.frame l b t (roomy P (scene p x))
      (before-act p x l (give_back t) b s V (relies-same P part.guards V)) in
      leaves s.fn s.ok.is_fn v gives x.below x.waiting refl
      (below-wait p stable x (giving p x gives.given gives.over))

  -- ---- a loop's head

  act-loop :
      (l : Label) (c : Comp) (i : PlainAssertion) (a b : Block) →
      StandsAt p x (first l (loop c i a) b) →
      Goes p x (does p.program (spot_of x) l (loop c i a) b None)
  act-loop l c i a b s =
      let gives = ls.loop_heads part V s.fn x.held.fixed x.frame l b c i a (roomy P (scene p x))
      (before-act p x l (loop c i a) b s V (relies-same P part.guards V)) in
      let y = giving p x gives.given gives.over in
      let turn = ls.turns gives.given gives.over.U s.fn x.held.fixed x.frame l b c i a
      (cut-roomy p stable x y gives.given (left-all p stable x y)) s.ok gives.meets in
      by (holds x.frame.store c) gives.given gives.over turn
    where
      again : Block
      again = first l (loop c i a) b

      by :
          (t : Bool) (given : Stock) (o : HandsOver P V part no_stock given) →
          Stands p given o.U x.held.fixed (with_rest x.frame (if t then append a again else b)) →
          Goes p x (if t then passes (spot_of x) x.c.heap (append a again) (Branch true)
          else passes (spot_of x) x.c.heap b (Branch false))
      by true given o st =
          let y = giving p x given o in
          goes-on p stable x y (with_rest x.frame (append a again)) (Branch true) st
          (below-wait p stable x y) (λ h. h) tt (λ e. refl)
          (no-access (SomeHasCell (before p stable x y)) None refl)
      by false given o st =
          let y = giving p x given o in
          goes-on p stable x y (with_rest x.frame b) (Branch false) st
          (below-wait p stable x y) (λ h. h) tt (λ e. refl)
          (no-access (SomeHasCell (before p stable x y)) None refl)

  -- ---- whichever statement is next

  advance : (base : Option ℤ) (b : Block) → StandsAt p x b →
      Goes p x (statement_step p.program (spot_of x) base b)
  advance base done s = tt
  advance None (first l (alloc y n) b) s = tt
  advance (Some base) (first l (alloc y n) b) s = alloc-goes p ls stable x l y n b base s
  advance None (first l (set y t) b) s = act-set p ls stable x l y t b s
  advance None (first l (read y t) b) s = act-read p ls stable x l y t b s
  advance None (first l (write t u) b) s = act-write p ls stable x l t u b s
  advance None (first l (cas y t old new) b) s = act-cas p ls stable x l y t old new b s
  advance None (first l (faa y t u) b) s = act-add p ls stable x l y t u b s
  advance None (first l (dispose t) b) s = act-dispose p ls stable x l t b s
  advance None (first l (call d n args) b) s = act-call p ls stable x l d n args b s
  advance None (first l (fork n args) b) s = act-fork p ls stable x l n args b s
  advance None (first l (branch c a d) b) s = branch-goes p ls stable x l c a d b s
  advance None (first l (loop c i a) b) s = act-loop l c i a b s
  advance None (first l (check c) b) s = act-check p ls stable x l c b s
  advance None (first l (give_back t) b) s = act-return l t b s
  advance (Some z) (first l (set y t) b) s = tt
  advance (Some z) (first l (read y t) b) s = tt
  advance (Some z) (first l (write t u) b) s = tt
  advance (Some z) (first l (cas y t old new) b) s = tt
  advance (Some z) (first l (faa y t u) b) s = tt
  advance (Some z) (first l (dispose t) b) s = tt
  advance (Some z) (first l (call d n args) b) s = tt
  advance (Some z) (first l (fork n args) b) s = tt
  advance (Some z) (first l (branch c a d) b) s = tt
  advance (Some z) (first l (loop c i a) b) s = tt
  advance (Some z) (first l (check c) b) s = tt
  advance (Some z) (first l (give_back t) b) s = tt

pub all-advance : (p : Checked) → Statements p → Stable p.program → Advances p
all-advance p ls stable x base =
    advance p ls stable x base x.frame.rest
    (x.sound.stacks x.thread (x.frame ∷ x.below) (x.held ∷ x.waiting) x.has_frames x.has_parts).0
