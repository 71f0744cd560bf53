-- Parts of one algebra, for each type of parts.
use Rattle.std.proofs.Common.{◌≡◌, arith, refl, subst, sym, true, false, Bool, List}
use Rattle.std.specs.Prelude.{ℕ, ◌==◌, ◌&&◌, if◌then◌else◌}
use Rattle.std.specs.Coded.{Unit-prop, le_prop}
use Rattle.std.proofs.Props.{props}
use Rattle.cap_galg_indices.specs.Sets.{AreBounds, is_empty}
use Rattle.cap_galg_indices.specs.Laws.Members.{ascend-prop}
use Rattle.cap_galg_spec.specs.Elements.{Element, nothing, one, share, tok, src, indices, amount}
use Rattle.cap_galg_spec.specs.Elements.{index_set, both, whole, left, right, is_unit, pair_of}
use Rattle.cap_galg_spec.specs.Fractions.{IsAmount, IsShare}
use Rattle.cap_galg_spec.specs.declared.fraction.Fraction.{Fraction}
use Rattle.cap_galg_spec.specs.Algebras.{PlainAlgebra, unique, divisible, counting, indexed}
use Rattle.cap_galg_spec.specs.Algebras.{product, sum, IsElement, AreKin}
use Rattle.cap_galg.specs.Views.{unique_element}
use Rattle.cap_galg.specs.declared.unique.Unique.{Unique}
use Rattle.cap_galg.specs.declared.unique.Unique.TheVariants.{Unit as NoPart, One}
use Rattle.cap_galg_spec.specs.Laws.Composition.{false-eq}
use Rattle.cap_galg_spec.specs.Laws.Algebras.{lawful}
pub use Rattle.cap_galg_atoms.specs.Laws.Kin.{tokens-is}

unique-is : (x : Unique) → IsElement unique (unique_element x)
unique-is NoPart = tt
unique-is One = tt

pub unique-kin : (x y : Unique) → AreKin (unique_element x) (unique_element y)
unique-kin x y = (unique, lawful unique, unique-is x, unique-is y)

pub amount-is : (b : Bool) (f : Fraction) → (f.num == 0) ≡ b → IsAmount f
    → IsElement divisible (if b then nothing else share f)
amount-is true f e h = tt
amount-is false f e h = record { amount = h; positive = (let n = false-eq f.num 0 e in omega arith) }

pub divisible-kin : (f g : Fraction) → IsAmount f → IsAmount g → AreKin (amount f) (amount g)
divisible-kin f g h k = (divisible, lawful divisible, amount-is (f.num == 0) f refl h, amount-is (g.num == 0) g refl k)

set-by : (b : Bool) (xs : List ℕ) → is_empty xs ≡ b → AreBounds xs
    → IsElement indexed (if b then nothing else indices xs)
set-by true xs e h = tt
set-by false xs e h = (h, e)

pub indexed-kin : (xs ys : List ℕ) → AreBounds xs → AreBounds ys
    → AreKin (index_set xs) (index_set ys)
indexed-kin xs ys h k = (indexed, lawful indexed, set-by (is_empty xs) xs refl h, set-by (is_empty ys) ys refl k)

pair-by : (a b : PlainAlgebra) (x y : Element) (t : Bool) → (is_unit x && is_unit y) ≡ t
    → IsElement a x → IsElement b y → IsElement (product a b) (if t then nothing else both x y)
pair-by a b x y true e h k = tt
pair-by a b x y false e h k = (h, k, e)

pub pair-is : (a b : PlainAlgebra) (x y : Element) → IsElement a x → IsElement b y
    → IsElement (product a b) (pair_of x y)
pair-is a b x y h k = pair-by a b x y (is_unit x && is_unit y) refl h k

pub pair-kin : (x y u v : Element) → AreKin x y → AreKin u v → AreKin (pair_of x u) (pair_of y v)
pair-kin x y u v k l = (product k.0 l.0, lawful (product k.0 l.0), pair-is k.0 l.0 x u k.2 l.2, pair-is k.0 l.0 y v k.3 l.3)

pub elem-kin : (a b : PlainAlgebra) (x y : Element) → a ≡ b → IsElement a x → IsElement b y
    → AreKin x y
elem-kin a b x y e h k = (a, lawful a, h, subst (λ c. IsElement c y) (sym e) k)

-- that something is an element is a fact with one proof
fraction-prop : (f : Fraction) → IsProp (IsShare f)
fraction-prop f = hlevel props

test-prop : (a b : Bool) → IsProp (a ≡ b)
test-prop a b = hlevel props

pub element-prop : (a : PlainAlgebra) (x : Element) → IsProp (IsElement a x)
element-prop a nothing = Unit-prop
element-prop unique one = Unit-prop
element-prop divisible (share f) = fraction-prop f
element-prop counting (tok k) = le_prop
element-prop counting (src n) = Unit-prop
element-prop indexed (indices xs) = hlevel (props, ascend-prop 0 xs)
element-prop (product a b) (both x y) = hlevel (props, element-prop a x, element-prop b y)
element-prop (sum a b) whole = Unit-prop
element-prop (sum a b) (left x) = hlevel (props, element-prop a x)
element-prop (sum a b) (right y) = hlevel (props, element-prop b y)
element-prop a x = hlevel props
