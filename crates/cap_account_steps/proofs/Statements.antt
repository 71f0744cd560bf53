-- What each statement leads to: the laws that a run rests on.
use Rattle.std.specs.Prelude.{◌≡◌, ℕ, ℤ, pos, ◌≤ℤ◌, if◌then◌else◌, true, List, length, map, slice_get, Option, Some}
use Rattle.cap_lin.specs.Linear.{Linear}
use Rattle.cap_prog.specs.declared.assertion.Comp.{Comp}
use Rattle.cap_prog.specs.Program.{PlainAssertion, Label, PlainAct, set, alloc, call, fork, branch, loop, check, give_back, Block, first, append, PlainFunction}
use Rattle.cap_machine.specs.Machine.{Heap, Frame, new_frame, value_in, holds, with_rest, with_value}
use Rattle.cap_rules.specs.Closing.{address_of}
use Rattle.cap_machine_accounts.specs.Assertions.{NameValue, ValuesFit}
use Rattle.cap_account_resources.specs.Parts.{Table}
use Rattle.cap_account_resources.proofs.Heaps.{fresh_cells}
use Rattle.cap_account_resources.proofs.Stocks.{Stock, no_guards, both}
use Rattle.cap_account_states.proofs.Checked.{Checked}
use Rattle.cap_account_assertions.proofs.Asserted.{OwnsRequires, OwnsInvariant}
use Rattle.cap_account_steps.proofs.Points.{FrameOk}
use Rattle.cap_account_steps.proofs.Frames.{Sits, Stands, Roomy, Calls, Forks, Returns, ComesRound}
use Rattle.cap_account_steps.proofs.Worlds.{World, after_act, HeapStep}

-- a frame before a statement
pub record Before (p : Checked) (part : Stock) (T : Table) (fn : PlainFunction)
    (fixed : List NameValue) (f : Frame) (l : Label) (a : PlainAct) (b : Block) : Type 0 where
  pub ok : FrameOk p.program fn fixed (with_rest f (first l a b))
  pub sits : Sits p part T fn fixed (with_rest f (first l a b))

module _ (p : Checked) where
  -- of each frame, by each table, with whatever it has
  abbrev EachFrame :
      (Stock → Table → PlainFunction → List NameValue → Frame → Label → Block → Type 0) → Type 0
  EachFrame P =
      (part : Stock) (T : Table) (fn : PlainFunction) (fixed : List NameValue) (f : Frame)
      (l : Label) (b : Block) → P part T fn fixed f l b

  -- ---- statements that touch no region

  abbrev pub SetLaw : Type 0
  SetLaw = EachFrame (λ part T fn fixed f l b.
      (x : ℕ) (t : Linear) → Before p part T fn fixed f l (set x t) b →
      Sits p part T fn fixed (with_value (with_rest f b) x (value_in f.store t)))

  abbrev pub BranchLaw : Type 0
  BranchLaw = EachFrame (λ part T fn fixed f l b.
      (c : Comp) (x y : Block) → Before p part T fn fixed f l (branch c x y) b →
      Sits p part T fn fixed (with_rest f (if holds f.store c then append x b else append y b)))

  abbrev pub CheckLaw : Type 0
  CheckLaw = EachFrame (λ part T fn fixed f l b.
      (c : Comp) → Before p part T fn fixed f l (check c) b →
      (holds f.store c ≡ true) × Sits p part T fn fixed (with_rest f b))

  abbrev pub AllocLaw : Type 0
  AllocLaw = EachFrame (λ part T fn fixed f l b.
      (x n : ℕ) (base : ℤ) → pos 1 ≤ℤ base → Before p part T fn fixed f l (alloc x n) b →
      Sits p (both p.program part (record { cells = fresh_cells base n; guards = no_guards })) T fn
      fixed (with_value (with_rest f b) x base))

  -- ---- statements that give up an assertion

  abbrev pub CallLaw : Type 0
  CallLaw = EachFrame (λ part T fn fixed f l b.
      (x : Option ℕ) (n : ℕ) (args : List Linear) → Roomy p.program T part →
      Before p part T fn fixed f l (call x n args) b →
      (g : PlainFunction) × (slice_get p.program.functions n ≡ Some g)
      × Calls p part T fixed (with_rest f b) x n g (map (value_in f.store) args))

  abbrev pub ForkLaw : Type 0
  ForkLaw = EachFrame (λ part T fn fixed f l b.
      (n : ℕ) (args : List Linear) → Roomy p.program T part →
      Before p part T fn fixed f l (fork n args) b →
      (g : PlainFunction) × (slice_get p.program.functions n ≡ Some g)
      × Forks p part T fixed (with_rest f b) g (map (value_in f.store) args))

  abbrev pub ReturnLaw : Type 0
  ReturnLaw = EachFrame (λ part T fn fixed f l b.
      (t : Linear) → Roomy p.program T part → Before p part T fn fixed f l (give_back t) b →
      Returns p.program part T fn fixed f (value_in f.store t))

  abbrev pub LoopHeadLaw : Type 0
  LoopHeadLaw = EachFrame (λ part T fn fixed f l b.
      (c : Comp) (i : PlainAssertion) (x : Block) → Roomy p.program T part →
      Before p part T fn fixed f l (loop c i x) b → ComesRound p.program part T fn fixed f i)

  -- ---- bodies and loops, from what they are given

  abbrev pub BodyLaw : Type 0
  BodyLaw =
      (n : ℕ) (g : PlainFunction) → slice_get p.program.functions n ≡ Some g → (T : Table)
      (part : Stock) (args : List ℤ) (fixed : List NameValue) (destination : Option ℕ) →
      Roomy p.program T part → length args ≡ g.params → ValuesFit g.fixed fixed →
      OwnsRequires p.program T part g args fixed →
      Stands p part T fixed (new_frame n g args destination)

  abbrev pub TurnLaw : Type 0
  TurnLaw = EachFrame (λ part T fn fixed f l b.
      (c : Comp) (i : PlainAssertion) (x : Block) → Roomy p.program T part →
      FrameOk p.program fn fixed (with_rest f (first l (loop c i x) b)) →
      OwnsInvariant p.program T part fn f.store fixed i →
      Stands p part T fixed
      (with_rest f (if holds f.store c then append x (first l (loop c i x) b) else b)))

  -- ---- a heap statement, with up to two regions open

  abbrev pub HeapLaw : Type 0
  HeapLaw =
      (V : Table) (share : ℤ → Stock) (part : Stock) (heap : Heap) (fn : PlainFunction)
      (fixed : List NameValue) (f : Frame) (l : Label) (a : PlainAct) (b : Block) (x : Linear) →
      address_of a ≡ Some x → World p.program V share part heap →
      ((z : ℤ) → FrameOk p.program fn fixed (after_act a f b z).1) →
      Before p part V fn fixed f l a b → HeapStep p V share part heap fixed f a b x

  -- ---- all of them

  pub record Statements : Type 0 where
    pub sets : SetLaw
    pub branches : BranchLaw
    pub checks : CheckLaw
    pub allocs : AllocLaw
    pub calls : CallLaw
    pub forks : ForkLaw
    pub returns : ReturnLaw
    pub loop_heads : LoopHeadLaw
    pub bodies : BodyLaw
    pub turns : TurnLaw
    pub heaps : HeapLaw
