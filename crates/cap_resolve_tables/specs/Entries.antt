-- What a table has of a declaration.
use Rattle.std.specs.Prelude.{ℕ, ◌<◌, ◌^◌, List, length, Option, None, option_map, find}
use Rattle.cap_lin.specs.declared.row.Sort.TheVariants.{Int}
use Rattle.cap_galg.specs.Algebras.{PlainAlgebra}
use Rattle.cap_galg.specs.declared.algebra.Atom.{Atom}
use Rattle.cap_galg.specs.declared.algebra.Atom.TheVariants as kinds
use Rattle.cap_parse_tree.specs.Tree.{DeclaredTree, unique, divisible, counting, indexed, grouped, RegionTree}
use Rattle.cap_resolve_spec.specs.Names.{KnownName, known_as}
use Rattle.cap_resolve_spec.specs.Items.{is_guard, guard_kind, region_guards}

-- an algebra in brackets has no name of its own
abbrev pub guard_entry : DeclaredTree → Option KnownName
guard_entry (unique w) = known_as Int w
guard_entry (divisible p w) = known_as Int w
guard_entry (counting p w q) = known_as Int w
guard_entry (indexed p w q) = known_as Int w
guard_entry (grouped p a q) = None

abbrev pub guard_atom : DeclaredTree → Atom
guard_atom (divisible p w) = kinds.Divisible
guard_atom (counting p w q) = kinds.Counting
guard_atom (indexed p w q) = kinds.Indexed
guard_atom _ = kinds.Unique

-- the kind of the guard of this name
abbrev pub kind_in : RegionTree → List ℕ → Option PlainAlgebra
kind_in r x = option_map guard_kind (find (is_guard x) (region_guards r))

-- the guards of a region type are numbered within 32 bits
abbrev pub HasFewGuards : RegionTree → Type 0
HasFewGuards r = length (region_guards r) < 2 ^ 32
