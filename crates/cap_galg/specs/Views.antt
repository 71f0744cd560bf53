-- What contracts see of the types in code.
use Rattle.std.specs.Prelude.{◌≡◌, ℕ, ◌<◌}
use Rattle.cap_galg_indices.specs.Sets.{one_index, indices_from}
use Rattle.cap_galg_spec.specs.Elements.{Element, nothing, one, share, tok, src, indices, both}
use Rattle.cap_galg_spec.specs.Elements.{whole}
use Rattle.cap_galg_spec.specs.Elements.{left, right, amount, tokens}
use Rattle.cap_galg_spec.specs.Fractions.{IsShare, IsAmount}
use Rattle.cap_galg_spec.specs.Algebras.{PlainAlgebra, unique, divisible, counting, indexed}
use Rattle.cap_galg_spec.specs.Algebras.{product}
use Rattle.cap_galg_spec.specs.Algebras.{sum, atoms, atom_algebra}
use Rattle.cap_galg.specs.declared.algebra.Algebra.{Algebra, fold-Algebra}
use Rattle.cap_galg.specs.declared.algebra.Atom.{Atom}
use Rattle.cap_galg.specs.declared.algebra.Atom.TheVariants as atom
use Rattle.cap_galg.specs.declared.algebra.Algebra.TheOpen.{Algebra-F}
use Rattle.cap_galg.specs.declared.unique.Unique.{Unique}
use Rattle.cap_galg.specs.declared.unique.Unique.TheVariants.{Unit as NoPart, One}
use Rattle.cap_galg.specs.declared.amount.Amount.{Amount}
use Rattle.cap_galg.specs.declared.amount.Amount.TheVariants as part
use Rattle.cap_galg.specs.declared.node.Node.{Node, fold-Node}
use Rattle.cap_galg.specs.declared.node.Node.TheOpen.{Node-F}

abbrev pub algebra_step : Algebra-F PlainAlgebra → PlainAlgebra
algebra_step Algebra-F.Unique = unique
algebra_step Algebra-F.Divisible = divisible
algebra_step Algebra-F.Counting = counting
algebra_step Algebra-F.Indexed = indexed
algebra_step (Algebra-F.Pair a b) = product a.value b.value
algebra_step (Algebra-F.Either a b) = sum a.value b.value

abbrev pub algebra_view : Algebra → PlainAlgebra
algebra_view = fold-Algebra PlainAlgebra algebra_step

abbrev pub atom_view : Atom → PlainAlgebra
atom_view atom.Unique = unique
atom_view atom.Divisible = divisible
atom_view atom.Counting = counting
atom_view atom.Indexed = indexed

abbrev pub node_step : Node-F Element → Element
node_step Node-F.Nothing = nothing
node_step Node-F.One = one
node_step (Node-F.Share f) = share f
node_step (Node-F.Tok k) = tok k
node_step (Node-F.Src n) = src n
node_step (Node-F.Indices xs) = indices xs
node_step (Node-F.Both x y) = both x.value y.value
node_step Node-F.Whole = whole
node_step (Node-F.Left x) = left x.value
node_step (Node-F.Right y) = right y.value

abbrev pub node_view : Node → Element
node_view = fold-Node Element node_step

-- each fraction in the element is above 0, at most 1 and in lowest terms
abbrev pub HasShares : Element → Type 0
HasShares (share f) = IsShare f
HasShares (both x y) = HasShares x × HasShares y
HasShares (left x) = HasShares x
HasShares (right y) = HasShares y
HasShares _ = Unit {0}

abbrev pub unique_element : Unique → Element
unique_element NoPart = nothing
unique_element One = one

abbrev pub amount_element : Amount → Element
amount_element part.One = one
amount_element (part.Share f) = amount f
amount_element (part.Src n) = src n
amount_element (part.Tok k) = tokens k
amount_element (part.At i) = indices (one_index i)
amount_element (part.From i) = indices (indices_from i)

-- the amount is one of an atomic algebra
abbrev pub IsAmountOf : PlainAlgebra → Amount → Type 0
IsAmountOf unique part.One = Unit {0}
IsAmountOf divisible (part.Share f) = IsAmount f
IsAmountOf counting (part.Src n) = Unit {0}
IsAmountOf counting (part.Tok k) = Unit {0}
IsAmountOf indexed (part.At i) = Unit {0}
IsAmountOf indexed (part.From i) = Unit {0}
IsAmountOf a m = ⊥

-- how many atoms a declared algebra has
abbrev pub atom_count : Algebra → ℕ
atom_count a = atoms (algebra_view a)

-- a declared algebra has an atom, which is of this kind
abbrev pub HasAtom : Algebra → ℕ → Atom → Type 0
HasAtom a i k = (i < atom_count a) × (atom_view k ≡ atom_algebra (algebra_view a) i)

-- a declared algebra has an atom, and the amount is one of it
abbrev pub Accepts : Algebra → ℕ → Amount → Type 0
Accepts a i m = (i < atom_count a) × IsAmountOf (atom_algebra (algebra_view a) i) m
