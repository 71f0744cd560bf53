-- What it means that main's precondition is found empty.
use Rattle.std.specs.Prelude.{◌≡◌, ℤ, true, List}
use Rattle.cap_prog.specs.Program.{compare, cell, Items, none, item, PlainFunction, PlainProgram}
use Rattle.cap_prog.specs.WellFormed.{IsWellFormed}
use Rattle.cap_machine.specs.Machine.{Heap}
use Rattle.cap_machine_accounts.specs.Assertions.{NameValue}
use Rattle.cap_machine_accounts.specs.Safety.{Start}
use Rattle.cap_rules_ascending.specs.Ascending.{TermAscends, CompAscends}
use Rattle.cap_search_spec.specs.Starts.{empty_start}

-- the terms of the comparisons, and the addresses of the cells, are in order
abbrev pub ItemsAscend : Items → Type 0
ItemsAscend none = Unit {0}
ItemsAscend (item (compare c) more) = CompAscends c × ItemsAscend more
ItemsAscend (item (cell place a x) more) = TermAscends a × ItemsAscend more
ItemsAscend (item i more) = ItemsAscend more

-- a program of which main's precondition is found empty has no start
abbrev pub EmptyStartsAreNone : Type 0
EmptyStartsAreNone =
    (p : PlainProgram) (main : PlainFunction) (args : List ℤ) (heap : Heap) (fixed : List NameValue)
    → IsWellFormed p → ItemsAscend main.requires → empty_start p ≡ true
    → Start p main args heap fixed → ⊥
