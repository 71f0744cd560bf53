-- When a state of a derivation holds of a frame, by what the frame has in an account.
use Rattle.std.specs.Prelude.{◌≡◌, ◌≢◌, ◌⊎◌, ℕ, ℤ, pos, ◌<ℤ◌, List, [], ◌∷◌, map, slice_get, Option, Some, None}
use Rattle.std.specs.List.{AllByRecursion, AllZip}
use Rattle.std.specs.FinMap.{get}
use Rattle.cap_lin.specs.Linear.{Linear}
use Rattle.cap_lin.specs.Values.{Valuation, value}
use Rattle.cap_lin.specs.Solves.{IsWholeAt, Solves}
use Rattle.cap_lin.specs.declared.row.Sort.TheVariants.{Int}
use Rattle.cap_galg.specs.Elements.{Element}
use Rattle.cap_gsolve.specs.declared.piece.Piece.{Piece}
use Rattle.cap_gsolve.specs.Meaning.{IsFormElement}
use Rattle.cap_prog.specs.Program.{PlainProgram}
use Rattle.cap_goal_spec.specs.States.{PlainFact, PlainState}
use Rattle.cap_machine.specs.Machine.{Frame}
use Rattle.cap_machine_accounts.specs.Parts.{Guard, join_all, GuardAtMost, atom_guard, Part, guard_at, Region, region_at}
use Rattle.cap_machine_accounts.specs.Assertions.{AreNamed}
use Rattle.cap_machine_accounts.specs.Accounts.{Held, EachTwo}
use Rattle.cap_outline_spec.specs.Standing.{Standing}

-- the fact is an entry of the table
pub record IsEntry (table : List Region) (v : Valuation) (f : PlainFact) : Type 0 where
  pub region : Region
  pub is_region : region_at table (value v.whole f.region) ≡ Some region
  pub kind : f.kind ≡ region.kind
  pub args : map (value v.whole) f.args ≡ region.args
  pub state : value v.whole f.state ≡ region.state

-- the part has the cell, at a positive address
pub record IsCellOf (v : Valuation) (part : Part) (c : Linear × Linear) : Type 0 where
  pub positive : pos 0 <ℤ value v.whole c.0
  pub there : get part.cells (value v.whole c.0) ≡ Some (value v.whole c.1)

abbrev pub AtOtherAddresses : Valuation → Linear × Linear → Linear × Linear → Type 0
AtOtherAddresses v c d = value v.whole c.0 ≢ value v.whole d.0

-- the piece is this guard of region n: of its own region the guard that its form says, and of any
-- other none
abbrev pub IsGuardAt : PlainProgram → Valuation → ℤ → Piece → Option Guard → Type 0
IsGuardAt p v n q g =
    ((value v.whole q.region ≡ n)
    × ((x : Element) × IsFormElement v q.form x × (g ≡ atom_guard p q.kind q.atom x)))
    ⊎ ((value v.whole q.region ≢ n) × (g ≡ None))

-- of region n the part has all guards that the pieces are, together, and perhaps more
pub record GuardsWithin (p : PlainProgram) (v : Valuation) (part : Part) (qs : List Piece) (n : ℤ)
    : Type 0 where
  pub guards : List (Option Guard)
  pub are : AllZip (IsGuardAt p v n) qs guards
  pub all : Option Guard
  pub joined : join_all guards ≡ Some all
  pub within : GuardAtMost p all (guard_at part n)

-- By these values the state holds of a frame, of what it has, and of the table: its rows hold, the
-- store is the frame's, and variables stand for the values of the function's fixed names; each fact
-- is an entry of the table; and cells and guards, all together, are of the frame's part. Variables
-- of sort Int are whole numbers.
pub record HoldsAt (p : PlainProgram) (table : List Region) (s : Standing) (f : Frame) (held : Held)
    (v : Valuation) : Type 0 where
  pub whole : (x : ℕ) → slice_get s.state.sorts x ≡ Some Int → IsWholeAt v x
  pub solves : Solves v s.state.rows
  pub store : map (value v.whole) s.state.store ≡ f.store
  pub fixed : AreNamed v s.home.fixed held.fixed
  pub facts : AllByRecursion (IsEntry table v) s.state.facts
  pub cells : AllByRecursion (IsCellOf v held.part) s.state.cells
  pub cells_apart : EachTwo (AtOtherAddresses v) s.state.cells
  pub guards : (n : ℤ) → GuardsWithin p v held.part s.state.guards n

-- by some values it does
abbrev pub HoldsOf : PlainProgram → List Region → Frame → Held → Standing → Type 0
HoldsOf p table f held s = (v : Valuation) × HoldsAt p table s f held v
