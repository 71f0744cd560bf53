-- How variables are numbered, and which may stand where.
use Rattle.std.specs.Prelude.{◌≡◌, ℕ, ◌+◌, List, ◌∷◌, ◌++◌, length, map, replicate, slice_get, Option, Some, None}
use Rattle.std.specs.List.{AllByRecursion}
use Rattle.cap_lin.specs.Linear.{Linear}
use Rattle.cap_lin.specs.declared.row.Sort.{Sort}
use Rattle.cap_lin.specs.declared.row.Sort.TheVariants.{Int}
use Rattle.cap_prog.specs.declared.assertion.Comp.{Comp}
use Rattle.cap_prog.specs.declared.assertion.Slot.{Slot}
use Rattle.cap_prog.specs.declared.assertion.Slot.TheVariants.{Any, Is}
use Rattle.cap_prog.specs.Program.{PlainRegionType, PlainFunction}

-- of each variable its sort, or none where it may not stand
abbrev pub Scope : Type 0
Scope = List (Option Sort)

abbrev pub known : List Sort → Scope
known sorts = map Some sorts

abbrev pub whole_numbers : ℕ → Scope
whole_numbers n = replicate n (Some Int)

abbrev pub hidden : ℕ → Scope
hidden n = replicate n None

-- the first fixed name of a function
abbrev pub fixed_start : PlainFunction → ℕ
fixed_start f = f.params + f.locals

-- the variable that stands for its result
abbrev pub result_name : PlainFunction → ℕ
result_name f = fixed_start f + length f.fixed

-- the first name of the assertion at hand
abbrev pub names_start : PlainFunction → ℕ
names_start f = result_name f + 1

-- the sorts of a region type's variables, with those of a case's or an action's names
abbrev pub region_sorts : PlainRegionType → List Sort → List Sort
region_sorts k names = replicate k.params Int ++ names

-- statements know the parameters and the locals
abbrev pub body_scope : PlainFunction → Scope
body_scope f = whole_numbers (fixed_start f)

-- `requires` knows the parameters and the fixed names
abbrev pub requires_scope : PlainFunction → Scope
requires_scope f = whole_numbers f.params ++ (hidden f.locals ++ known f.fixed)

-- `ensures` also knows the result and its own names
abbrev pub ensures_scope : PlainFunction → List Sort → Scope
ensures_scope f names = whole_numbers f.params ++ (hidden f.locals ++ (known f.fixed ++ Some Int ∷ known names))

-- an invariant knows all but the result
abbrev pub invariant_scope : PlainFunction → List Sort → Scope
invariant_scope f names = whole_numbers (fixed_start f) ++ (known f.fixed ++ None ∷ known names)

abbrev pub region_scope : PlainRegionType → List Sort → Scope
region_scope k names = whole_numbers k.params ++ known names

-- the variable may stand, and is of the sort
abbrev pub HasSort : Scope → Sort → ℕ → Type 0
HasSort scope sort x = slice_get scope x ≡ Some (Some sort)

abbrev pub TermFits : Scope → Sort → Linear → Type 0
TermFits scope sort t = AllByRecursion (λ part. HasSort scope sort part.0) t.parts

abbrev pub SlotFits : Scope → Sort → Slot → Type 0
SlotFits scope sort Any = Unit {0}
SlotFits scope sort (Is t) = TermFits scope sort t

abbrev pub CompFits : Scope → Comp → Type 0
CompFits scope c = TermFits scope c.sort c.left × TermFits scope c.sort c.right
