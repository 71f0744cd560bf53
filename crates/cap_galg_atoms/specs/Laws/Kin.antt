-- Counted parts are of one algebra, and so are parts of the sides of a sum.
use Rattle.std.proofs.Common.{◌≡◌, ℕ, arith, refl, true, false, Bool}
use Rattle.std.specs.Prelude.{◌==◌, if◌then◌else◌}
use Rattle.cap_galg_spec.specs.Elements.{Element, nothing, tok, tokens, whole, left, right}
use Rattle.cap_galg_spec.specs.Elements.{is_unit, is_full, in_left, in_right}
use Rattle.cap_galg_spec.specs.Algebras.{PlainAlgebra, unique, counting, sum, IsElement, AreKin}
use Rattle.cap_galg_spec.specs.Laws.Composition.{false-eq}
use Rattle.cap_galg_spec.specs.Laws.Algebras.{lawful}
use Rattle.cap_galg_atoms.specs.Views.{counting_element, side_element, SideKin}
use Rattle.cap_galg_atoms.specs.declared.either.Either.{Either}
use Rattle.cap_galg_atoms.specs.declared.either.Either.TheVariants.{Left, Right}
use Rattle.cap_galg_atoms.specs.declared.counting.Counting.{Counting}
use Rattle.cap_galg_atoms.specs.declared.counting.Counting.TheVariants.{Tok, Src}

tokens-by : (b : Bool) (k : ℕ) → (k == 0) ≡ b → IsElement counting (if b then nothing else tok k)
tokens-by true k e = tt
tokens-by false k e = let n = false-eq k 0 e in omega arith

pub tokens-is : (k : ℕ) → IsElement counting (tokens k)
tokens-is k = tokens-by (k == 0) k refl

counting-is : (x : Counting) → IsElement counting (counting_element x)
counting-is (Tok k) = tokens-is k
counting-is (Src n) = tt

pub counting-kin : (x y : Counting) → AreKin (counting_element x) (counting_element y)
counting-kin x y = (counting, lawful counting, counting-is x, counting-is y)

left-by : (a b : PlainAlgebra) (x : Element) (s t : Bool) → is_unit x ≡ s → is_full x ≡ t
    → IsElement a x → IsElement (sum a b) (if s then nothing else (if t then whole else left x))
left-by a b x true t e f h = tt
left-by a b x false true e f h = tt
left-by a b x false false e f h = (h, e, f)

pub left-is : (a b : PlainAlgebra) (x : Element) → IsElement a x → IsElement (sum a b) (in_left x)
left-is a b x h = left-by a b x (is_unit x) (is_full x) refl refl h

right-by : (a b : PlainAlgebra) (y : Element) (s t : Bool) → is_unit y ≡ s → is_full y ≡ t
    → IsElement b y → IsElement (sum a b) (if s then nothing else (if t then whole else right y))
right-by a b y true t e f h = tt
right-by a b y false true e f h = tt
right-by a b y false false e f h = (h, e, f)

pub right-is : (a b : PlainAlgebra) (y : Element) → IsElement b y → IsElement (sum a b) (in_right y)
right-is a b y h = right-by a b y (is_unit y) (is_full y) refl refl h

pub side-reflexive : {A B : Type 0} (K : A → A → Type 0) (L : B → B → Type 0) → ((x : A) → K x x)
    → ((y : B) → L y y) → (s : Either A B) → SideKin K L s s
side-reflexive K L k l (Left x) = k x
side-reflexive K L k l (Right y) = l y

pub side-symmetric : {A B : Type 0} (K : A → A → Type 0) (L : B → B → Type 0)
    → ((x y : A) → K x y → K y x) → ((x y : B) → L x y → L y x) → (s t : Either A B)
    → SideKin K L s t → SideKin K L t s
side-symmetric K L k l (Left x) (Left y) h = k x y h
side-symmetric K L k l (Right x) (Right y) h = l x y h
side-symmetric K L k l (Left x) (Right y) h = tt
side-symmetric K L k l (Right x) (Left y) h = tt

sides-kin : (x y : Element) → AreKin x x → AreKin y y → AreKin (in_left x) (in_right y)
sides-kin x y k l = (sum k.0 l.0, lawful (sum k.0 l.0), left-is k.0 l.0 x k.2, right-is k.0 l.0 y l.2)

pub side-kin : {A B : Type 0} (f : A → Element) (g : B → Element) (K : A → A → Type 0)
    (L : B → B → Type 0) → ((x : A) → K x x) → ((y : B) → L y y)
    → ((x y : A) → K x y → AreKin (f x) (f y)) → ((x y : B) → L x y → AreKin (g x) (g y))
    → (s t : Either A B) → SideKin K L s t → AreKin (side_element f g s) (side_element f g t)
side-kin f g K L k l p q (Left x) (Left y) h = let r = p x y h in (sum r.0 unique, lawful (sum r.0 unique), left-is r.0 unique (f x) r.2, left-is r.0 unique (f y) r.3)
side-kin f g K L k l p q (Right x) (Right y) h = let r = q x y h in (sum unique r.0, lawful (sum unique r.0), right-is unique r.0 (g x) r.2, right-is unique r.0 (g y) r.3)
side-kin f g K L k l p q (Left x) (Right y) h = sides-kin (f x) (g y) (p x x (k x)) (q y y (l y))
side-kin f g K L k l p q (Right x) (Left y) h = let r = sides-kin (f y) (g x) (p y y (k y)) (q x x (l x)) in (r.0, r.1, r.3, r.2)
