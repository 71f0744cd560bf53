-- Parts: what a frame or a region owns, cells by their addresses, and of each region one guard.
use Rattle.std.specs.Prelude.{◌≡◌, ℕ, ◌==◌, if◌then◌else◌, false, ℤ, List, [], ◌∷◌, map, find, slice_get, Option, Some, None}
use Rattle.std.specs.Ordering.{int_cmp}
use Rattle.std.specs.FinMap.{FinMap, get, insert, remove, empty}
use Rattle.cap_lin.specs.Linear.{same_number}
use Rattle.cap_galg.specs.Elements.{Element, is_unit, compose}
use Rattle.cap_galg.specs.Algebras.{PlainAlgebra, unique, IsElement, full, atom_element}
use Rattle.cap_prog.specs.Program.{PlainRegionType, PlainProgram}
use Rattle.cap_machine.specs.Machine.{Heap}

-- ---- guards

-- an element of the guards of a region type, which is not the unit
pub record Guard : Type 0 where
  pub kind : ℕ
  pub element : Element

-- no guard is the one unit of all region types
abbrev pub guard_of : ℕ → Element → Option Guard
guard_of k x = if is_unit x then None else Some (record { kind = k; element = x })

abbrev pub or_none : ℕ → Option Element → Option (Option Guard)
or_none k None = None
or_none k (Some x) = Some (guard_of k x)

-- guards compose as their elements do, and those of two types don't
abbrev pub join : Option Guard → Option Guard → Option (Option Guard)
join None h = Some h
join (Some g) None = Some (Some g)
join (Some g) (Some h) =
    if g.kind == h.kind then or_none g.kind (compose g.element h.element) else None

abbrev pub join_with : Option Guard → Option (Option Guard) → Option (Option Guard)
join_with g None = None
join_with g (Some h) = join g h

abbrev pub join_all : List (Option Guard) → Option (Option Guard)
join_all [] = Some None
join_all (g ∷ gs) = join_with g (join_all gs)

abbrev pub kind_algebra : Option PlainRegionType → PlainAlgebra
kind_algebra None = unique
kind_algebra (Some k) = k.algebra

abbrev pub algebra_of : PlainProgram → ℕ → PlainAlgebra
algebra_of p k = kind_algebra (slice_get p.regions k)

-- an element of its type's algebra that is not the unit, or no guard
abbrev pub IsGuard : PlainProgram → Option Guard → Type 0
IsGuard p None = Unit {0}
IsGuard p (Some g) = IsElement (algebra_of p g.kind) g.element × (is_unit g.element ≡ false)

-- some guard completes the first to the second
abbrev pub GuardAtMost : PlainProgram → Option Guard → Option Guard → Type 0
GuardAtMost p g h = (rest : Option Guard) × IsGuard p rest × (join g rest ≡ Some h)

-- of one atom of a region type's guards
abbrev pub atom_guard : PlainProgram → ℕ → ℕ → Element → Option Guard
atom_guard p k i x = guard_of k (atom_element (algebra_of p k) i x)

abbrev pub full_guard : PlainProgram → ℕ → Option Guard
full_guard p k = guard_of k (full (algebra_of p k))

-- ---- parts

pub record Part : Type 0 where
  pub cells : Heap
  pub guards : FinMap int_cmp Guard

abbrev pub no_part : Part
no_part = record { cells = empty; guards = empty }

-- the part's guard of a region
abbrev pub guard_at : Part → ℤ → Option Guard
guard_at q n = get q.guards n

abbrev pub guards_changed : FinMap int_cmp Guard → ℤ → Option Guard → FinMap int_cmp Guard
guards_changed gs n None = remove gs n
guards_changed gs n (Some g) = insert gs n g

abbrev pub with_guard : Part → ℤ → Option Guard → Part
with_guard q n g = record q { guards = guards_changed q.guards n g }

abbrev pub HasCell : Part → ℤ → Type 0
HasCell q a = (z : ℤ) × (get q.cells a ≡ Some z)

abbrev pub without_cell : Part → ℤ → Part
without_cell q a = record q { cells = remove q.cells a }

-- what the parts have of one region's guards, together
abbrev pub guards_at : List Part → ℤ → Option (Option Guard)
guards_at parts n = join_all (map (λ q. guard_at q n) parts)

-- ---- regions

pub record Region : Type 0 where
  pub number : ℤ
  pub kind : ℕ
  pub args : List ℤ
  pub state : ℤ

abbrev pub region_at : List Region → ℤ → Option Region
region_at table n = find (λ r. same_number r.number n) table

-- the table has a region of this number and type
abbrev pub HasRegion : List Region → ℤ → ℕ → Type 0
HasRegion table n k = (r : Region) × (region_at table n ≡ Some r) × (r.kind ≡ k)
