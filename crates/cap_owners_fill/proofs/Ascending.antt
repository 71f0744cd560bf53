-- Regions by ascending numbers: the place of a number, and what stands there.
use Rattle.std.proofs.Common.{◌≡◌, ℕ, zero, suc, ◌+◌, ◌<◌, ◌≤◌, Bool, true, false, List, [], ◌∷◌, map, length, get_or, arith, refl, sym, ap, subst, ◌∙◌, Some, None, ◌⊎◌, inl, inr, ℤ, pos, negsuc, ◌<ℤ◌, ◌≤ℤ◌}
use Rattle.std.specs.Prelude.{if◌then◌else◌, int_lt, slice_set, insert}
use Rattle.std.specs.List.{AllByRecursion}
use Rattle.std.specs.Ordering.{int_eq}
use Rattle.std.proofs.lemmas.Bool.{cases_lt}
use Rattle.std.proofs.lemmas.Bool.Decides.{nat_tests}
use Rattle.std.proofs.lemmas.List.{length-map, get_or-map, map-set}
use Rattle.std.proofs.lemmas.Int.{ints, by_lt_z}
use Rattle.cap_lin.specs.Linear.{same_number}
use Rattle.cap_owners_spec.specs.Track.{TrackedRegion, tracked_at}
use Rattle.cap_owners_spec.specs.Walks.{with_region}
use Rattle.cap_owners_fill.specs.Views.{region_number, numbers, Ascend, IsPlaceOf, HasAt}

-- ---- tests of numbers

pub same_true : (a b : ℤ) → a ≡ b → same_number a b ≡ true
same_true (pos m) (pos n) e = let h : m ≡ n = cc in grind (arith, nat_tests)
same_true (negsuc m) (negsuc n) e = let h : m ≡ n = cc in grind (arith, nat_tests)
same_true (pos m) (negsuc n) e = absurd (cc)
same_true (negsuc m) (pos n) e = absurd (cc)

pub same_false : (a b : ℤ) → (a ≡ b → ⊥) → same_number a b ≡ false
same_false (pos m) (pos n) h = let k : m ≡ n → ⊥ = λ e. h (ap pos e) in grind (arith, nat_tests)
same_false (negsuc m) (negsuc n) h = let k : m ≡ n → ⊥ = λ e. h (ap negsuc e) in grind (arith, nat_tests)
same_false (pos m) (negsuc n) h = refl
same_false (negsuc m) (pos n) h = refl

pub same_is : (a b : ℤ) → same_number a b ≡ true → a ≡ b
same_is (pos m) (pos n) e = let h : m ≡ n = grind (arith, nat_tests) in ap pos h
same_is (negsuc m) (negsuc n) e = let h : m ≡ n = grind (arith, nat_tests) in ap negsuc h
same_is (pos m) (negsuc n) e = absurd (cc)
same_is (negsuc m) (pos n) e = absurd (cc)

same_not : (a b : ℤ) → same_number a b ≡ false → a ≡ b → ⊥
same_not a b h e = let k = same_true a b e in (cc)

less_true : (a b : ℤ) → a <ℤ b → int_lt a b ≡ true
less_true a b h = grind (arith, ints)

less_false : (a b : ℤ) → b ≤ℤ a → int_lt a b ≡ false
less_false a b h = grind (arith, ints)

less_is : (a b : ℤ) → int_lt a b ≡ true → a <ℤ b
less_is a b h = grind (arith, ints)

not_less : (a b : ℤ) → int_lt a b ≡ false → b ≤ℤ a
not_less a b h = grind (arith, ints)

less_or : (a b : ℤ) → (a <ℤ b) ⊎ (b ≤ℤ a)
less_or a b = by_lt_z a b inl inr

-- ---- the search for a place

each_at : (P : ℤ → Type 0) (ns : List ℤ) (i : ℕ) → AllByRecursion P ns → i < length ns → P (get_or ns i (pos 0))
each_at P [] i a l = absurd (omega arith)
each_at P (n ∷ ns) zero a l = a.0
each_at P (n ∷ ns) (suc i) a l = each_at P ns i a.1 (omega arith)

ordered : (ns : List ℤ) (i j : ℕ) → Ascend ns → i ≤ j → j < length ns → get_or ns i (pos 0) ≤ℤ get_or ns j (pos 0)
ordered [] i j a h l = absurd (omega arith)
ordered (n ∷ ns) zero zero a h l = omega (arith, ints)
ordered (n ∷ ns) zero (suc j) a h l = let b = each_at (λ m. n <ℤ m) ns j a.0 (omega arith) in omega (arith, ints)
ordered (n ∷ ns) (suc i) zero a h l = absurd (omega arith)
ordered (n ∷ ns) (suc i) (suc j) a h l = ordered ns i j a.1 (omega arith) (omega arith)

strictly : (ns : List ℤ) (i j : ℕ) → Ascend ns → i < j → j < length ns → get_or ns i (pos 0) <ℤ get_or ns j (pos 0)
strictly [] i j a h l = absurd (omega arith)
strictly (n ∷ ns) i zero a h l = absurd (omega arith)
strictly (n ∷ ns) zero (suc j) a h l = each_at (λ m. n <ℤ m) ns j a.0 (omega arith)
strictly (n ∷ ns) (suc i) (suc j) a h l = strictly ns i j a.1 (omega arith) (omega arith)

pub raised : (n : ℤ) (ns : List ℤ) (m : ℕ) → Ascend ns → m < length ns → get_or ns m (pos 0) <ℤ n → (k : ℕ) → k < m + 1 → get_or ns k (pos 0) <ℤ n
raised n ns m a l h k i = let b = ordered ns k m a (omega arith) l in omega (arith, ints)

pub lowered : (n : ℤ) (ns : List ℤ) (m : ℕ) → Ascend ns → n ≤ℤ get_or ns m (pos 0) → (k : ℕ) → m ≤ k → k < length ns → n ≤ℤ get_or ns k (pos 0)
lowered n ns m a h k i l = let b = ordered ns m k a i l in omega (arith, ints)

-- ---- what stands there

pub at_place : (n : ℤ) (rs : List TrackedRegion) (place : ℕ) (r : TrackedRegion) → place < length rs → r ≡ get_or rs place r → region_number r ≡ n → ((i : ℕ) → i < place → get_or (numbers rs) i (pos 0) <ℤ n) → tracked_at rs n ≡ Some r
at_place n [] place r l e q b = absurd (omega arith)
at_place n (s ∷ rs) zero r l e q b = let t : same_number (region_number s) n ≡ true = same_true (region_number s) n (ap region_number (sym e) ∙ q) in rw (t, e) refl
at_place n (s ∷ rs) (suc place) r l e q b =
    let f = b 0 (omega arith) in
    let t : same_number (region_number s) n ≡ false = same_false (region_number s) n (λ d. absurd (omega (arith, ints))) in
    rw t (at_place n rs place r (omega arith) e q (λ i h. b (suc i) (omega arith)))

absent : (n : ℤ) (rs : List TrackedRegion) → ((i : ℕ) → i < length rs → get_or (numbers rs) i (pos 0) ≡ n → ⊥) → tracked_at rs n ≡ None
absent n [] h = refl
absent n (s ∷ rs) h =
    let t : same_number (region_number s) n ≡ false = same_false (region_number s) n (h 0 (omega arith)) in
    rw t (absent n rs (λ i l. h (suc i) (omega arith)))

pub nothing_there : (n : ℤ) (rs : List TrackedRegion) (place : ℕ) → Ascend (numbers rs) → IsPlaceOf n (numbers rs) place → (HasAt n (numbers rs) place → ⊥) → tracked_at rs n ≡ None
nothing_there n rs place a p other = absent n rs differs
  where
    differs : (i : ℕ) → i < length rs → get_or (numbers rs) i (pos 0) ≡ n → ⊥
    differs i l e =
        let m : length (numbers rs) ≡ length rs = length-map rs region_number in
        elim (cases_lt i place) [
          | inl lt ↦ let b = p.below i lt in absurd (omega (arith, ints))
          | inr ge ↦ elim (cases_lt place i) [
            | inl gt ↦
                let b = strictly (numbers rs) place i a gt (omega arith) in
                let d = p.above place (omega arith) (omega arith) in
                absurd (omega (arith, ints))
            | inr le ↦
                let same : place ≡ i = omega arith in
                other (omega arith, ap (λ k. get_or (numbers rs) k (pos 0)) same ∙ e)
          ]
        ]

-- ---- a region is put there

pub replaced : (r : TrackedRegion) (rs : List TrackedRegion) (place : ℕ) → place < length rs → get_or (numbers rs) place (pos 0) ≡ region_number r → ((i : ℕ) → i < place → get_or (numbers rs) i (pos 0) <ℤ region_number r) → with_region r rs ≡ slice_set rs place r
replaced r [] place l e b = absurd (omega arith)
replaced r (s ∷ rs) zero l e b = let t : same_number (region_number s) (region_number r) ≡ true = same_true (region_number s) (region_number r) e in rw t refl
replaced r (s ∷ rs) (suc place) l e b =
    let f = b 0 (omega arith) in
    let t : same_number (region_number s) (region_number r) ≡ false = same_false (region_number s) (region_number r) (λ d. absurd (omega (arith, ints))) in
    let u : int_lt (region_number r) (region_number s) ≡ false = less_false (region_number r) (region_number s) (omega (arith, ints)) in
    rw (t, u) (ap (λ ss. s ∷ ss) (replaced r rs place (omega arith) e (λ i h. b (suc i) (omega arith))))

pub inserted : (r : TrackedRegion) (rs : List TrackedRegion) (place : ℕ) → place ≤ length rs → (place < length rs → region_number r <ℤ get_or (numbers rs) place (pos 0)) → ((i : ℕ) → i < place → get_or (numbers rs) i (pos 0) <ℤ region_number r) → with_region r rs ≡ insert rs place r
inserted r [] zero l e b = refl
inserted r [] (suc place) l e b = absurd (omega arith)
inserted r (s ∷ rs) zero l e b =
    let f = e (omega arith) in
    let t : same_number (region_number s) (region_number r) ≡ false = same_false (region_number s) (region_number r) (λ d. absurd (omega (arith, ints))) in
    let u : int_lt (region_number r) (region_number s) ≡ true = less_true (region_number r) (region_number s) f in
    rw (t, u) refl
inserted r (s ∷ rs) (suc place) l e b =
    let f = b 0 (omega arith) in
    let t : same_number (region_number s) (region_number r) ≡ false = same_false (region_number s) (region_number r) (λ d. absurd (omega (arith, ints))) in
    let u : int_lt (region_number r) (region_number s) ≡ false = less_false (region_number r) (region_number s) (omega (arith, ints)) in
    rw (t, u) (ap (λ ss. s ∷ ss) (inserted r rs place (omega arith) (λ h. e (omega arith)) (λ i h. b (suc i) (omega arith))))

-- at the place of its number
pub put_there : (r : TrackedRegion) (rs : List TrackedRegion) (place : ℕ) → IsPlaceOf (region_number r) (numbers rs) place → HasAt (region_number r) (numbers rs) place → with_region r rs ≡ slice_set rs place r
put_there r rs place p h =
    let m : length (numbers rs) ≡ length rs = length-map rs region_number in
    let l = h.0 in
    replaced r rs place (omega arith) h.1 p.below

above : (r : TrackedRegion) (rs : List TrackedRegion) (place : ℕ) → IsPlaceOf (region_number r) (numbers rs) place → (HasAt (region_number r) (numbers rs) place → ⊥) → place < length rs → region_number r <ℤ get_or (numbers rs) place (pos 0)
above r rs place p other l =
    let k : length (numbers rs) ≡ length rs = length-map rs region_number in
    let d = p.above place (omega arith) (omega arith) in
    let n : get_or (numbers rs) place (pos 0) ≡ region_number r → ⊥ = λ e. other (omega arith, e) in
    less_if d n
  where
    less_if : {a b : ℤ} → a ≤ℤ b → (b ≡ a → ⊥) → a <ℤ b
    less_if {a} {b} h n = elim (less_or a b) [ inl l ↦ l | inr g ↦ absurd (n (omega (arith, ints))) ]

pub put_new : (r : TrackedRegion) (rs : List TrackedRegion) (place : ℕ) → IsPlaceOf (region_number r) (numbers rs) place → (HasAt (region_number r) (numbers rs) place → ⊥) → with_region r rs ≡ insert rs place r
put_new r rs place p other =
    let m : length (numbers rs) ≡ length rs = length-map rs region_number in
    let b = p.bound in
    inserted r rs place (omega arith) (above r rs place p other) p.below

-- ---- numbers still ascend

if_cases : {X : Type 0} (P : X → Type 0) (b c : Bool) (x y z : X) → (b ≡ true → P x) → (b ≡ false → c ≡ true → P y) → (b ≡ false → c ≡ false → P z) → P (if b then x else (if c then y else z))
if_cases P true c x y z f g h = f refl
if_cases P false true x y z f g h = g refl refl
if_cases P false false x y z f g h = h refl refl

all_put : (P : ℤ → Type 0) (r : TrackedRegion) (rs : List TrackedRegion) → P (region_number r) → AllByRecursion P (numbers rs) → AllByRecursion P (numbers (with_region r rs))
all_put P r [] p a = (p, tt)
all_put P r (s ∷ rs) p a =
    if_cases (λ ss. AllByRecursion P (numbers ss)) (same_number (region_number s) (region_number r)) (int_lt (region_number r) (region_number s)) (r ∷ rs) (r ∷ (s ∷ rs)) (s ∷ with_region r rs)
    (λ e. (p, a.1)) (λ e f. (p, a)) (λ e f. (a.0, all_put P r rs p a.1))

above_all : (n m : ℤ) (ns : List ℤ) → n <ℤ m → AllByRecursion (λ k. m <ℤ k) ns → AllByRecursion (λ k. n <ℤ k) ns
above_all n m [] h a = tt
above_all n m (k ∷ ns) h a = let b = a.0 in (omega (arith, ints), above_all n m ns h a.1)

pub ascend_put : (r : TrackedRegion) (rs : List TrackedRegion) → Ascend (numbers rs) → Ascend (numbers (with_region r rs))
ascend_put r [] a = (tt, tt)
ascend_put r (s ∷ rs) a =
    if_cases (λ ss. Ascend (numbers ss)) (same_number (region_number s) (region_number r)) (int_lt (region_number r) (region_number s)) (r ∷ rs) (r ∷ (s ∷ rs)) (s ∷ with_region r rs)
    (λ e. subst (λ n. AllByRecursion (λ k. n <ℤ k) (numbers rs) × Ascend (numbers rs)) (same_is (region_number s) (region_number r) e) a)
    (λ e f. let h = less_is (region_number r) (region_number s) f in ((h, above_all (region_number r) (region_number s) (numbers rs) h a.0), a))
    (λ e f. let g = not_less (region_number r) (region_number s) f in let d = same_not (region_number s) (region_number r) e in (all_put (λ k. region_number s <ℤ k) r rs (omega (arith, ints)) a.0, ascend_put r rs a.1))

-- ---- the state of a region

pub same_eq : (a b : ℤ) → int_eq a b ≡ same_number a b
same_eq (pos m) (pos n) = grind (arith, nat_tests)
same_eq (negsuc m) (negsuc n) = grind (arith, nat_tests)
same_eq (pos m) (negsuc n) = refl
same_eq (negsuc m) (pos n) = refl

-- ---- regions as they are stored

pub number_seen : {A : Type 0} (view : A → TrackedRegion) (items : List A) (rs : List TrackedRegion) (place : ℕ) (x : A) (n : ℤ) → map view items ≡ rs → place < length rs → x ≡ get_or items place x → n ≡ region_number (view x) → n ≡ get_or (numbers rs) place (pos 0)
number_seen view items rs place x n v l e q =
    let m : length (map view items) ≡ length rs = ap length v in
    let k : length (map view items) ≡ length items = length-map items view in
    let g : get_or (numbers (map view items)) place (pos 0) ≡ region_number (get_or (map view items) place (view x)) = get_or-map region_number (map view items) place (view x) (pos 0) (omega arith) in
    let h : get_or (map view items) place (view x) ≡ view (get_or items place x) = get_or-map view items place x (view x) (omega arith) in
    q ∙ (ap (λ y. region_number (view y)) e ∙ (ap region_number (sym h) ∙ (sym g ∙ ap (λ us. get_or (numbers us) place (pos 0)) v)))

map_insert : {A B : Type 0} (f : A → B) (xs : List A) (i : ℕ) (x : A) → map f (insert xs i x) ≡ insert (map f xs) i (f x)
map_insert f [] zero x = refl
map_insert f [] (suc i) x = refl
map_insert f (y ∷ xs) zero x = refl
map_insert f (y ∷ xs) (suc i) x = ap (λ ys. f y ∷ ys) (map_insert f xs i x)

item_seen : {A : Type 0} (view : A → TrackedRegion) (items : List A) (rs : List TrackedRegion) (place : ℕ) (x : A) (r : TrackedRegion) → map view items ≡ rs → place < length rs → x ≡ get_or items place x → r ≡ view x → r ≡ get_or rs place r
item_seen view items rs place x r v l e q =
    let m : length (map view items) ≡ length rs = ap length v in
    let k : length (map view items) ≡ length items = length-map items view in
    let h : get_or (map view items) place r ≡ view (get_or items place x) = get_or-map view items place x r (omega arith) in
    q ∙ (ap view e ∙ (sym h ∙ ap (λ us. get_or us place r) v))

pub found_at : {A : Type 0} (view : A → TrackedRegion) (items : List A) (rs : List TrackedRegion) (place : ℕ) (x : A) (r : TrackedRegion) (n : ℤ) → map view items ≡ rs → x ≡ get_or items place x → r ≡ view x → IsPlaceOf n (numbers rs) place → HasAt n (numbers rs) place → Some r ≡ tracked_at rs n
found_at view items rs place x r n v e q p h =
    let m : length (numbers rs) ≡ length rs = length-map rs region_number in
    let b = h.0 in
    let l : place < length rs = omega arith in
    let k = number_seen view items rs place x (region_number r) v l e (ap region_number q) in
    sym (at_place n rs place r l (item_seen view items rs place x r v l e q) (k ∙ h.1) p.below)

pub stored_there : {A : Type 0} (view : A → TrackedRegion) (items : List A) (rs : List TrackedRegion) (place : ℕ) (x : A) (r : TrackedRegion) → map view items ≡ rs → view x ≡ r → IsPlaceOf (region_number r) (numbers rs) place → HasAt (region_number r) (numbers rs) place → map view (slice_set items place x) ≡ with_region r rs
stored_there view items rs place x r v q p h =
    map-set view items place x ∙ (ap (λ y. slice_set (map view items) place y) q ∙ (ap (λ us. slice_set us place r) v ∙ sym (put_there r rs place p h)))

pub stored_new : {A : Type 0} (view : A → TrackedRegion) (items : List A) (rs : List TrackedRegion) (place : ℕ) (x : A) (r : TrackedRegion) → map view items ≡ rs → view x ≡ r → IsPlaceOf (region_number r) (numbers rs) place → (HasAt (region_number r) (numbers rs) place → ⊥) → map view (insert items place x) ≡ with_region r rs
stored_new view items rs place x r v q p h =
    map_insert view items place x ∙ (ap (λ y. insert (map view items) place y) q ∙ (ap (λ us. insert us place r) v ∙ sym (put_new r rs place p h)))
