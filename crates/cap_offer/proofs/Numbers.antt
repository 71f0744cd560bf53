-- Lists made for the numbers below a number.
use Rattle.std.proofs.Common.{◌≡◌, ℕ, zero, suc, ◌+◌, ◌-◌, ◌<◌, ◌≤◌, Bool, true, false, nat_lt, if◌then◌else◌, List, [], ◌∷◌, ◌++◌, refl, sym, ap, ◌∙◌, arith, add_assoc, zero-add, add-zero}
use Rattle.std.specs.List.{range_with_len, flat_map}
use Rattle.std.proofs.lemmas.List.Concat.{flat_map-append}
use Rattle.std.proofs.lemmas.Bool.Decides.{nat_tests}
use Rattle.cap_galg.specs.Algebras.{PlainAlgebra, unique, divisible, counting, indexed, product, sum as either, atoms}
use Rattle.cap_goal_spec.specs.Choices.{PlainChoice}
use Rattle.cap_rules.specs.Taking.{sum_count, sum_in}
use Rattle.cap_offer_spec.specs.Listing.{numbers_below, conversion}
use Rattle.cap_offer.specs.Sums.{conversion_at, conversions_in}

range-append : (a m k : ℕ) → range_with_len a (m + k) ≡ range_with_len a m ++ range_with_len (a + m) k
range-append a zero k = ap (range_with_len a) (zero-add k) ∙ ap (λ b. range_with_len b k) (sym (add-zero a))
range-append a (suc m) k =
    let e : suc m + k ≡ suc (m + k) = omega arith in
    let d : a + 1 + m ≡ a + suc m = omega arith in
    ap (range_with_len a) e
    ∙ ap (λ ns. a ∷ ns) (range-append (a + 1) m k ∙ ap (λ b. range_with_len (a + 1) m ++ range_with_len b k) d)

-- one number more
pub range-more : (n : ℕ) → range_with_len 0 (n + 1) ≡ range_with_len 0 n ++ n ∷ []
range-more n = range-append 0 n 1 ∙ ap (λ b. range_with_len 0 n ++ b ∷ []) (omega arith)

range-shift : {A : Type 0} (f : ℕ → List A) (m a k : ℕ) → flat_map f (range_with_len (m + a) k) ≡ flat_map (λ j. f (m + j)) (range_with_len a k)
range-shift f m a zero = refl
range-shift f m a (suc k) =
    ap (λ xs. f (m + a) ++ xs) (ap (λ b. flat_map f (range_with_len b k)) (add_assoc m a 1) ∙ range-shift f m (a + 1) k)

range-same : {A : Type 0} (f g : ℕ → List A) (b a k : ℕ) → a + k ≤ b → ((j : ℕ) → j < b → f j ≡ g j) → flat_map f (range_with_len a k) ≡ flat_map g (range_with_len a k)
range-same f g b a zero h e = refl
range-same f g b a (suc k) h e =
    let first : f a ≡ g a = e a (omega arith) in
    ap (λ xs. xs ++ flat_map f (range_with_len (a + 1) k)) first ∙ ap (λ xs. g a ++ xs) (range-same f g b (a + 1) k (omega arith) e)

-- the first so many, and then the others
pub two-parts : {A : Type 0} (f g h : ℕ → List A) (m k : ℕ) → ((j : ℕ) → j < m → f j ≡ g j) → ((j : ℕ) → f (m + j) ≡ h j) → flat_map f (range_with_len 0 (m + k)) ≡ flat_map g (range_with_len 0 m) ++ flat_map h (range_with_len 0 k)
two-parts f g h m k first second =
    ap (flat_map f) (range-append 0 m k)
    ∙ (flat_map-append f (range_with_len 0 m) (range_with_len (0 + m) k)
    ∙ (ap (λ xs. xs ++ flat_map f (range_with_len (0 + m) k)) (range-same f g m 0 m (omega arith) first)
    ∙ ap (λ xs. flat_map g (range_with_len 0 m) ++ xs)
    (ap (λ b. flat_map f (range_with_len b k)) (omega arith) ∙ (range-shift f m 0 k ∙ range-same (λ j. f (m + j)) h k 0 k (omega arith) (λ j _. second j)))))

-- ---- the sums of an algebra

chosen : {A : Type 0} (b : Bool) (x y : A) → b ≡ true → (if b then x else y) ≡ x
chosen true x y e = refl
chosen false x y e = absurd (clash e)
  where
    clash : false ≡ true → ⊥
    clash e = cc

other : {A : Type 0} (b : Bool) (x y : A) → b ≡ false → (if b then x else y) ≡ y
other false x y e = refl
other true x y e = absurd (clash e)
  where
    clash : true ≡ false → ⊥
    clash e = cc

below : (j m : ℕ) → j < m → nat_lt j m ≡ true
below j m h = grind (arith, nat_tests)

beyond : (m j : ℕ) → nat_lt (m + j) m ≡ false
beyond m j = grind (arith, nat_tests)

behind : (m j : ℕ) → m + j - m ≡ j
behind m j = omega arith

-- what is found by each sum
abbrev by_sums : ℕ → PlainAlgebra → ℕ → ℕ → ℕ → List PlainChoice
by_sums i x a n j = conversion i (n + j) (sum_in x a j)

-- the sums within a sum come after it
later : (i : ℕ) (x y : PlainAlgebra) (a n j : ℕ) → by_sums i (either x y) a n (1 + j) ≡ conversion i (n + 1 + j) (if nat_lt j (sum_count x) then sum_in x a j else sum_in y (a + atoms x) (j - sum_count x))
later i x y a n j =
    let e : 1 + j ≡ suc j = omega arith in
    let d : n + (1 + j) ≡ n + 1 + j = omega arith in
    ap (λ m. conversion i m (sum_in (either x y) a (1 + j))) d ∙ ap (λ m. conversion i (n + 1 + j) (sum_in (either x y) a m)) e

pub conversions-walk : (i : ℕ) (x : PlainAlgebra) (a n : ℕ) → conversions_in i x a n ≡ flat_map (by_sums i x a n) (numbers_below (sum_count x))
conversions-walk i (product x y) a n =
    ap (λ xs. xs ++ conversions_in i y (a + atoms x) (n + sum_count x)) (conversions-walk i x a n)
    ∙ (ap (λ xs. flat_map (by_sums i x a n) (numbers_below (sum_count x)) ++ xs) (conversions-walk i y (a + atoms x) (n + sum_count x))
    ∙ sym (two-parts (by_sums i (product x y) a n) (by_sums i x a n) (by_sums i y (a + atoms x) (n + sum_count x)) (sum_count x) (sum_count y)
    (λ j h. ap (conversion i (n + j)) (chosen (nat_lt j (sum_count x)) (sum_in x a j) (sum_in y (a + atoms x) (j - sum_count x)) (below j (sum_count x) h)))
    (λ j. ap (conversion i (n + (sum_count x + j))) (other (nat_lt (sum_count x + j) (sum_count x)) (sum_in x a (sum_count x + j)) (sum_in y (a + atoms x) (sum_count x + j - sum_count x)) (beyond (sum_count x) j))
    ∙ (ap (λ m. conversion i (n + (sum_count x + j)) (sum_in y (a + atoms x) m)) (behind (sum_count x) j)
    ∙ ap (λ m. conversion i m (sum_in y (a + atoms x) j)) (sym (add_assoc n (sum_count x) j))))))
conversions-walk i (either x y) a n =
    ap (λ m. conversion_at i m a (a + atoms x) (a + atoms x + atoms y) ++ (conversions_in i x a (n + 1) ++ conversions_in i y (a + atoms x) (n + 1 + sum_count x))) (sym (add-zero n))
    ∙ ap (λ xs. conversion_at i (n + 0) a (a + atoms x) (a + atoms x + atoms y) ++ xs)
    (ap (λ xs. xs ++ conversions_in i y (a + atoms x) (n + 1 + sum_count x)) (conversions-walk i x a (n + 1))
    ∙ (ap (λ xs. flat_map (by_sums i x a (n + 1)) (numbers_below (sum_count x)) ++ xs) (conversions-walk i y (a + atoms x) (n + 1 + sum_count x))
    ∙ (sym (two-parts (λ j. by_sums i (either x y) a n (1 + j)) (by_sums i x a (n + 1)) (by_sums i y (a + atoms x) (n + 1 + sum_count x)) (sum_count x) (sum_count y)
    (λ j h. later i x y a n j
    ∙ ap (conversion i (n + 1 + j)) (chosen (nat_lt j (sum_count x)) (sum_in x a j) (sum_in y (a + atoms x) (j - sum_count x)) (below j (sum_count x) h)))
    (λ j. later i x y a n (sum_count x + j)
    ∙ (ap (conversion i (n + 1 + (sum_count x + j))) (other (nat_lt (sum_count x + j) (sum_count x)) (sum_in x a (sum_count x + j)) (sum_in y (a + atoms x) (sum_count x + j - sum_count x)) (beyond (sum_count x) j))
    ∙ (ap (λ m. conversion i (n + 1 + (sum_count x + j)) (sum_in y (a + atoms x) m)) (behind (sum_count x) j)
    ∙ ap (λ m. conversion i m (sum_in y (a + atoms x) j)) (sym (add_assoc (n + 1) (sum_count x) j))))))
    ∙ sym (range-shift (by_sums i (either x y) a n) 1 0 (sum_count x + sum_count y)))))
conversions-walk i unique a n = refl
conversions-walk i divisible a n = refl
conversions-walk i counting a n = refl
conversions-walk i indexed a n = refl

pub conversions-all : (i : ℕ) (x : PlainAlgebra) → conversions_in i x 0 0 ≡ flat_map (λ n. conversion i n (sum_in x 0 n)) (numbers_below (sum_count x))
conversions-all i x =
    conversions-walk i x 0 0
    ∙ range-same (by_sums i x 0 0) (λ n. conversion i n (sum_in x 0 n)) (sum_count x) 0 (sum_count x) (omega arith) (λ j h. ap (λ m. conversion i m (sum_in x 0 j)) (zero-add j))
