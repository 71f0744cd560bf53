-- Accounts: who owns what at a configuration of a run.
use Rattle.std.specs.Prelude.{◌≡◌, ◌≢◌, ℤ, List, [], ◌∷◌, ◌++◌, map, flat_map, slice_get, Option, Some}
use Rattle.std.specs.List.{AllByRecursion}
use Rattle.std.specs.FinMap.{get}
use Rattle.cap_prog.specs.Program.{PlainFunction, PlainProgram}
use Rattle.cap_machine.specs.Machine.{Heap, Frame, Thread, Configuration}
use Rattle.cap_machine_accounts.specs.Parts.{Guard, IsGuard, Part, HasCell, guards_at, Region, HasRegion}
use Rattle.cap_machine_accounts.specs.Assertions.{NameValue, ValuesFit, IsInterpreted}

-- what a frame has: its part, and the values of its fixed names
pub record Held : Type 0 where
  pub part : Part
  pub fixed : List NameValue

-- a region with its part
pub record OwnedRegion : Type 0 where
  pub region : Region
  pub part : Part

-- of each thread what its frames have, the top one first
pub record Account : Type 0 where
  pub regions : List OwnedRegion
  pub threads : List (List Held)

abbrev pub table_of : List OwnedRegion → List Region
table_of rs = map (λ r. r.region) rs

abbrev pub table : Account → List Region
table a = table_of a.regions

-- the parts of all regions and of all frames
abbrev pub parts : Account → List Part
parts a = map (λ r. r.part) a.regions ++ flat_map (map (λ h. h.part)) a.threads

-- ---- when it is valid

-- a frame's fixed names have values of their sorts
abbrev pub FrameHolds : PlainProgram → Frame → Held → Type 0
FrameHolds p f h =
    (g : PlainFunction) × (slice_get p.functions f.function ≡ Some g) × ValuesFit g.fixed h.fixed

abbrev pub ThreadHolds : PlainProgram → Thread → List Held → Type 0
ThreadHolds p [] [] = Unit {0}
ThreadHolds p (f ∷ fs) (h ∷ hs) = FrameHolds p f h × ThreadHolds p fs hs
ThreadHolds p fs hs = ⊥

abbrev pub ThreadsHold : PlainProgram → List Thread → List (List Held) → Type 0
ThreadsHold p [] [] = Unit {0}
ThreadsHold p (t ∷ ts) (hs ∷ more) = ThreadHolds p t hs × ThreadsHold p ts more
ThreadsHold p ts more = ⊥

-- each two of the list
abbrev pub EachTwo : {A : Type 0} → (A → A → Type 0) → List A → Type 0
EachTwo R [] = Unit {0}
EachTwo R (x ∷ xs) = AllByRecursion (R x) xs × EachTwo R xs

abbrev pub CellsApart : Part → Part → Type 0
CellsApart q r = (a : ℤ) → HasCell q a → HasCell r a → ⊥

abbrev pub CellsWithin : Heap → Part → Type 0
CellsWithin heap q = (a z : ℤ) → get q.cells a ≡ Some z → get heap a ≡ Some z

-- each guard of the part is of a region in the table, of its type, and an element of the type's
-- algebra
abbrev pub GuardsFit : PlainProgram → List Region → Part → Type 0
GuardsFit p regions q =
    (n : ℤ) (g : Guard) → get q.guards n ≡ Some g → HasRegion regions n g.kind × IsGuard p (Some g)

pub record IsValidAccount (p : PlainProgram) (c : Configuration) (a : Account) : Type 0 where
  pub frames : ThreadsHold p c.threads a.threads
  pub numbers : EachTwo (λ r s. r.number ≢ s.number) (table a)
  pub guards_fit : AllByRecursion (GuardsFit p (table a)) (parts a)
  pub cells_apart : EachTwo CellsApart (parts a)
  pub cells_within : AllByRecursion (CellsWithin c.heap) (parts a)
  pub guards_compose : (n : ℤ) → (g : Option Guard) × (guards_at (parts a) n ≡ Some g)
  pub interpreted : AllByRecursion (λ r. IsInterpreted p (table a) r.region r.part) a.regions
