-- How one account follows another by a step. Regions that are opened are listed; nothing is
-- invented.
use Rattle.std.specs.Prelude.{◌≡◌, ◌⊎◌, ℕ, ◌≤◌, ℤ, Bool, IsTrue, List, [], ◌∷◌, ◌++◌, map, filter, length, slice_get, slice_set, Option, Some, None}
use Rattle.std.specs.List.{list_any}
use Rattle.std.specs.FinMap.{get}
use Rattle.cap_lin.specs.Linear.{same_number}
use Rattle.cap_prog.specs.Program.{PlainProgram}
use Rattle.cap_machine.specs.Machine.{Heap}
use Rattle.cap_machine.specs.declared.event.Event.{Event}
use Rattle.cap_machine.specs.declared.event.Event.TheVariants.{Set, Read, Write, Cas, Faa, Dispose, Alloc, Call, Fork, Branch, Assert, Return, End, Bad, Failed}
use Rattle.cap_machine_accounts.specs.Parts.{Guard, GuardAtMost, full_guard, Part, HasCell, guard_at, guards_at, Region, region_at}
use Rattle.cap_machine_accounts.specs.Assertions.{Acts}
use Rattle.cap_machine_accounts.specs.Accounts.{Held, OwnedRegion, Account, table_of, table, EachTwo, CellsApart, CellsWithin, GuardsFit}

-- ---- regions

abbrev pub is_opened : List ℤ → OwnedRegion → Bool
is_opened opened r = list_any (same_number r.region.number) opened

-- the state stays, or it takes an action whose guards the stepping frame's part held; only an
-- opened region may
abbrev pub Moves : PlainProgram → Part → List ℤ → OwnedRegion → ℤ → Type 0
Moves p frame opened old new =
    (new ≡ old.region.state)
    ⊎ (IsTrue (is_opened opened old) × Acts p old.region (guard_at frame old.region.number) new)

-- an old region keeps number, type and arguments, and unless it is opened also its part
pub record FollowsRegion (p : PlainProgram) (frame : Part) (opened : List ℤ)
    (old new : OwnedRegion) : Type 0 where
  pub number : new.region.number ≡ old.region.number
  pub kind : new.region.kind ≡ old.region.kind
  pub args : new.region.args ≡ old.region.args
  pub moves : Moves p frame opened old new.region.state
  pub keeps : (¬ IsTrue (is_opened opened old)) → new.part ≡ old.part

abbrev pub FollowRegions :
    PlainProgram → Part → List ℤ → List OwnedRegion → List OwnedRegion → Type 0
FollowRegions p frame opened [] [] = Unit {0}
FollowRegions p frame opened (r ∷ rs) (s ∷ ss) =
    FollowsRegion p frame opened r s × FollowRegions p frame opened rs ss
FollowRegions p frame opened rs ss = ⊥

abbrev pub opened_parts : List ℤ → List OwnedRegion → List Part
opened_parts opened rs = map (λ r. r.part) (filter (is_opened opened) rs)

-- ---- frames

-- the joined part has the cells of the one, the cells of the other and no more, and their guards
-- together
pub record Joins (q r joined : Part) : Type 0 where
  pub cells :
      (a z : ℤ) → get joined.cells a ≡ Some z → (get q.cells a ≡ Some z) ⊎ (get r.cells a ≡ Some z)
  pub first : (a z : ℤ) → get q.cells a ≡ Some z → get joined.cells a ≡ Some z
  pub second : (a z : ℤ) → get r.cells a ≡ Some z → get joined.cells a ≡ Some z
  pub guards : (n : ℤ) → guards_at (q ∷ r ∷ []) n ≡ Some (guard_at joined n)

-- the stepping thread, what its top frame and those below had, and what all threads had
pub record Stepping : Type 0 where
  pub thread : ℕ
  pub top : Held
  pub below : List Held
  pub threads : List (List Held)

-- the top frame stays and keeps its fixed names' values
abbrev pub StaysOn : Stepping → List (List Held) → List Part → Type 0
StaysOn s new left =
    (kept : Held)
    × (new ≡ slice_set s.threads s.thread (kept ∷ s.below))
    × (kept.fixed ≡ s.top.fixed)
    × (left ≡ kept.part ∷ [])

-- the callee's part is cut out of the caller's
abbrev pub Calls : Stepping → List (List Held) → List Part → Type 0
Calls s new left =
    (callee : Held) × (caller : Held)
    × (new ≡ slice_set s.threads s.thread (callee ∷ caller ∷ s.below))
    × (caller.fixed ≡ s.top.fixed)
    × (left ≡ callee.part ∷ caller.part ∷ [])

-- so is the part of a new thread, which is the last
abbrev pub Forks : Stepping → List (List Held) → List Part → Type 0
Forks s new left =
    (callee : Held) × (caller : Held)
    × (new ≡ slice_set s.threads s.thread (caller ∷ s.below) ++ (callee ∷ []) ∷ [])
    × (caller.fixed ≡ s.top.fixed)
    × (left ≡ callee.part ∷ caller.part ∷ [])

-- the part that is handed over is joined to the caller's
abbrev pub Returns : Stepping → List (List Held) → Part → List Part → Type 0
Returns s new handed left =
    (caller : Held) × (joined : Held) × (rest : List Held)
    × (s.below ≡ caller ∷ rest)
    × (new ≡ slice_set s.threads s.thread (joined ∷ rest))
    × (joined.fixed ≡ caller.fixed)
    × Joins caller.part handed joined.part
    × (left ≡ handed ∷ [])

-- or nobody gets it
abbrev pub EndsThread : Stepping → List (List Held) → Part → List Part → Type 0
EndsThread s new handed left =
    (s.below ≡ []) × (new ≡ slice_set s.threads s.thread []) × (left ≡ handed ∷ [])

-- what the threads have after the step; `left` are the parts into which the stepping frame's part
-- goes
abbrev pub FramesFollow : Event → Stepping → List (List Held) → Part → List Part → Type 0
FramesFollow (Set v) s new handed left = StaysOn s new left
FramesFollow (Read a v) s new handed left = StaysOn s new left
FramesFollow (Write a v) s new handed left = StaysOn s new left
FramesFollow (Cas a swapped) s new handed left = StaysOn s new left
FramesFollow (Faa a v) s new handed left = StaysOn s new left
FramesFollow (Dispose a) s new handed left = StaysOn s new left
FramesFollow (Alloc a) s new handed left = StaysOn s new left
FramesFollow Call s new handed left = Calls s new left
FramesFollow (Fork n) s new handed left = Forks s new left
FramesFollow (Branch taken) s new handed left = StaysOn s new left
FramesFollow Assert s new handed left = StaysOn s new left
FramesFollow (Return v) s new handed left = Returns s new handed left
FramesFollow (End v) s new handed left = EndsThread s new handed left
FramesFollow (Bad a) s new handed left = ⊥
FramesFollow (Failed place) s new handed left = ⊥

-- ---- the whole

-- the address that a step accesses
abbrev pub accesses : Event → Option ℤ
accesses (Read a v) = Some a
accesses (Write a v) = Some a
accesses (Cas a swapped) = Some a
accesses (Faa a v) = Some a
accesses (Dispose a) = Some a
accesses event = None

-- some part has a cell of this address
abbrev pub SomeHasCell : List Part → ℤ → Type 0
SomeHasCell [] a = ⊥
SomeHasCell (q ∷ qs) a = HasCell q a ⊎ SomeHasCell qs a

-- what the guards of a region may compose to: of an old region what they composed to, of a new one
-- all of them
abbrev pub IsBound :
    PlainProgram → List Region → List Region → List Part → ℤ → Option Guard → Type 0
IsBound p old made before n g =
    ((r : Region) × (region_at old n ≡ Some r) × (guards_at before n ≡ Some g))
    ⊎ ((r : Region) × (region_at made n ≡ Some r) × (g ≡ full_guard p r.kind))

-- nothing is invented: each cell was in a part before, or is allocated by the step, and guards
-- compose to no more than their bounds
pub record Exchanges (p : PlainProgram) (heap : Heap) (old made : List Region)
    (before after : List Part) : Type 0 where
  pub cells : (a : ℤ) → SomeHasCell after a → SomeHasCell before a ⊎ (get heap a ≡ None)
  pub guards :
      (n : ℤ) (g h : Option Guard) → guards_at after n ≡ Some g → IsBound p old made before n h →
      GuardAtMost p g h

-- the parts into which a step puts what the stepping frame and the opened regions had: those that
-- the frame leaves, of which one may be handed over, and those of the opened and of the new regions
abbrev pub parts_after : List Part → List ℤ → List OwnedRegion → List OwnedRegion → List Part
parts_after left opened kept made = left ++ (opened_parts opened kept ++ map (λ r. r.part) made)

-- account `b` follows account `a` by a step of a thread with this event, from this heap. Cells and
-- guards may pass between the stepping frame and the opened regions, of which there are at most
-- two, and none but at an access; what new regions own comes from these. New regions come last.
-- After a thread's last return no account has the part that is handed over, so it is said here that
-- its cells are in the heap, which a return leaves as it is, with their values, and that the parts
-- after the step don't overlap
pub record Follows (p : PlainProgram) (heap : Heap) (thread : ℕ) (event : Event) (a b : Account)
    (handed : Part) : Type 0 where
  pub top : Held
  pub below : List Held
  pub is_stepping : slice_get a.threads thread ≡ Some (top ∷ below)
  pub opened : List ℤ
  pub at_most_two : length opened ≤ 2
  pub only_at_access : accesses event ≡ None → opened ≡ []
  pub kept : List OwnedRegion
  pub made : List OwnedRegion
  pub regions : b.regions ≡ kept ++ made
  pub old_regions : FollowRegions p top.part opened a.regions kept
  pub left : List Part
  pub frames : FramesFollow event
      (record { thread = thread; top = top; below = below; threads = a.threads })
      b.threads handed left
  pub handed_fits : GuardsFit p (table b) handed
  pub handed_within : CellsWithin heap handed
  pub left_apart : EachTwo CellsApart (parts_after left opened kept made)
  pub left_compose :
      (n : ℤ) → (g : Option Guard) × (guards_at (parts_after left opened kept made) n ≡ Some g)
  pub access :
      (x : ℤ) → accesses event ≡ Some x → SomeHasCell (top.part ∷ opened_parts opened a.regions) x
  pub exchanges : Exchanges p heap (table a) (table_of made)
      (top.part ∷ opened_parts opened a.regions) (parts_after left opened kept made)
