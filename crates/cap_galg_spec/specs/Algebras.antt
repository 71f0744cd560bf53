-- Guard algebras: their elements, their atoms, and the laws.
use Rattle.std.specs.Prelude.{◌≡◌, ◌≢◌, ◌↔◌, ℕ, ◌+◌, ◌-◌, ◌<◌, ◌&&◌, Bool, true, false, nat_lt}
use Rattle.std.specs.Prelude.{if◌then◌else◌, Some}
use Rattle.cap_galg_indices.specs.Sets.{AreBounds, all_indices, is_empty}
use Rattle.cap_galg_spec.specs.Fractions.{fraction, IsShare}
use Rattle.cap_galg_spec.specs.Elements.{Element, nothing, one, share, tok, src, indices, both}
use Rattle.cap_galg_spec.specs.Elements.{whole}
use Rattle.cap_galg_spec.specs.Elements.{left, right, is_unit, is_full, on_left, on_right, bind}
use Rattle.cap_galg_spec.specs.Elements.{compose}
use Rattle.cap_galg_spec.specs.Elements.{at_most}

pub data PlainAlgebra : Type 0 where
  unique : PlainAlgebra
  divisible : PlainAlgebra
  counting : PlainAlgebra
  indexed : PlainAlgebra
  product : PlainAlgebra → PlainAlgebra → PlainAlgebra
  sum : PlainAlgebra → PlainAlgebra → PlainAlgebra

abbrev pub full : PlainAlgebra → Element
full unique = one
full divisible = share (fraction 1 1)
full counting = src 0
full indexed = indices all_indices
full (product a b) = both (full a) (full b)
full (sum a b) = whole

abbrev pub IsElement : PlainAlgebra → Element → Type 0
IsElement a nothing = Unit {0}
IsElement unique one = Unit {0}
IsElement divisible (share f) = IsShare f
IsElement counting (tok k) = 0 < k
IsElement counting (src n) = Unit {0}
IsElement indexed (indices xs) = AreBounds xs × (is_empty xs ≡ false)
IsElement (product a b) (both x y) =
    IsElement a x × IsElement b y × ((is_unit x && is_unit y) ≡ false)
IsElement (sum a b) whole = Unit {0}
IsElement (sum a b) (left x) = IsElement a x × (is_unit x ≡ false) × (is_full x ≡ false)
IsElement (sum a b) (right y) = IsElement b y × (is_unit y ≡ false) × (is_full y ≡ false)
IsElement a x = ⊥

-- some element of the algebra completes the first to the second
abbrev pub AtMost : PlainAlgebra → Element → Element → Type 0
AtMost a x y = (z : Element) × IsElement a z × (compose x z ≡ Some y)

-- the elements of an algebra are a partial commutative monoid with a full element
pub record Lawful (a : PlainAlgebra) : Type 0 where
  pub closed : (x y z : Element) → IsElement a x → IsElement a y → compose x y ≡ Some z
      → IsElement a z
  pub commutes : (x y : Element) → IsElement a x → IsElement a y → compose x y ≡ compose y x
  pub associates : (x y z : Element) → IsElement a x → IsElement a y → IsElement a z
      → bind (compose x y) (λ u. compose u z) ≡ bind (compose y z) (λ u. compose x u)
  pub has_unit : IsElement a nothing
  pub unit_neutral : (x : Element) → IsElement a x → compose x nothing ≡ Some x
  pub unit_only : (x : Element) → IsElement a x → (is_unit x ≡ true) ↔ (x ≡ nothing)
  pub has_full : IsElement a (full a)
  pub full_only : (x : Element) → IsElement a x → (is_full x ≡ true) ↔ (x ≡ full a)
  pub full_not_unit : full a ≢ nothing
  pub full_alone : (x z : Element) → IsElement a x → compose (full a) x ≡ Some z → x ≡ nothing
  pub below_full : (x : Element) → IsElement a x → AtMost a x (full a)
  pub completed : (x y : Element) → IsElement a x → IsElement a y
      → (at_most x y ≡ true) ↔ AtMost a x y

-- two elements are of one algebra, and it is lawful
abbrev pub AreKin : Element → Element → Type 0
AreKin x y = (a : PlainAlgebra) × Lawful a × IsElement a x × IsElement a y

-- atoms are numbered from 0, left to right
abbrev pub atoms : PlainAlgebra → ℕ
atoms (product a b) = atoms a + atoms b
atoms (sum a b) = atoms a + atoms b
atoms _ = 1

-- which of the four atomic algebras an atom is
abbrev pub atom_algebra : PlainAlgebra → ℕ → PlainAlgebra
atom_algebra (product a b) i =
    if nat_lt i (atoms a) then atom_algebra a i else atom_algebra b (i - atoms a)
atom_algebra (sum a b) i =
    if nat_lt i (atoms a) then atom_algebra a i else atom_algebra b (i - atoms a)
atom_algebra a i = a

-- the element in which one atom has an element that isn't the unit, and no other has any
abbrev pub at_atom : PlainAlgebra → ℕ → Element → Element
at_atom (product a b) i x =
    if nat_lt i (atoms a) then both (at_atom a i x) nothing
    else both nothing (at_atom b (i - atoms a) x)
at_atom (sum a b) i x =
    if nat_lt i (atoms a) then on_left (at_atom a i x) else on_right (at_atom b (i - atoms a) x)
at_atom a i x = x

-- the element of one atom
abbrev pub atom_element : PlainAlgebra → ℕ → Element → Element
atom_element a i x = if is_unit x then nothing else at_atom a i x

-- two atoms stand on two sides of a sum: where this node parts them, whether it is a sum, and else
-- as on the one side that has both
abbrev pub apart_at_node : Bool → (ℕ → ℕ → Bool) → (ℕ → ℕ → Bool) → ℕ → ℕ → ℕ → ℕ → Bool
apart_at_node is_sum l r n m i j =
    if nat_lt i n
    then (if nat_lt j n then l i j else is_sum && nat_lt (j - n) m)
    else (if nat_lt j n then is_sum && nat_lt (i - n) m else r (i - n) (j - n))

abbrev pub are_apart : PlainAlgebra → ℕ → ℕ → Bool
are_apart (product a b) i j =
    apart_at_node false (are_apart a) (are_apart b) (atoms a) (atoms b) i j
are_apart (sum a b) i j = apart_at_node true (are_apart a) (are_apart b) (atoms a) (atoms b) i j
are_apart a i j = false
