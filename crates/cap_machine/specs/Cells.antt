-- The cells of a heap.
use Rattle.std.specs.Prelude.{◌≡◌, ℤ, ◌<ℤ◌, ◌≤ℤ◌, false, List, [], ◌∷◌, Option, Some, None, IsSome}
use Rattle.std.specs.FinMap.{get}
use Rattle.cap_lin.specs.Steps.{fits}
use Rattle.cap_machine.specs.Machine.{Heap}

-- each address is above this one, and above those before it
abbrev pub AscendsFrom : ℤ → List (ℤ × ℤ) → Type 0
AscendsFrom below [] = Unit {0}
AscendsFrom below (cell ∷ cells) = (below <ℤ cell.0) × AscendsFrom cell.0 cells

-- the greatest address of the heap, or none where it has no cell
abbrev pub IsTop : Heap → Option ℤ → Type 0
IsTop heap None = (a : ℤ) → get heap a ≡ None
IsTop heap (Some top) = IsSome (get heap top) × ((a : ℤ) → IsSome (get heap a) → a ≤ℤ top)

-- each address is within 128 bits
abbrev pub IsNarrow : Heap → Type 0
IsNarrow heap = (a : ℤ) → fits a ≡ false → get heap a ≡ None
