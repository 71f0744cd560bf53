-- What stands at a place of lists that are seen by other ones.
use Rattle.std.proofs.Common.{◌≡◌, ℕ, zero, suc, ◌<◌, ◌≤◌, List, [], ◌∷◌, ◌++◌, length, map, get_or, refl, sym, ap, ◌∙◌, arith}
use Rattle.std.specs.Prelude.{flat_map}
use Rattle.std.specs.List.{zip}
use Rattle.std.proofs.lemmas.List.{append-nil}

there : {A B C : Type 0} (f : A → B) (g : B → C) (xs : List A) (k : ℕ) (x : A) (d : C) → k < length xs → x ≡ get_or xs k x → g (f x) ≡ get_or (map g (map f xs)) k d
there f g [] k x d h e = absurd (omega (arith, h))
there f g (y ∷ xs) zero x d h e = ap (λ z. g (f z)) e
there f g (y ∷ xs) (suc k) x d h e = there f g xs k x d (omega (arith, h)) e

-- it is in the first list, which is the second
pub seen-there :
    {A B C : Type 0} (f : A → B) (g : B → C) (xs ys : List A) (k : ℕ) (x : A) (d : C) → k < length xs → x ≡ get_or xs k x → xs ≡ ys → g (f x) ≡ get_or (map g (map f ys)) k d
seen-there f g xs ys k x d h e q = there f g xs k x d h e ∙ ap (λ zs. get_or (map g (map f zs)) k d) q

pub same-there : {A : Type 0} (xs ys : List A) (k : ℕ) (x d : A) → k < length xs → x ≡ get_or xs k x → xs ≡ ys → x ≡ get_or ys k d
same-there [] ys k x d h e q = absurd (omega (arith, h))
same-there (y ∷ xs) ys zero x d h e q = e ∙ ap (λ zs. get_or zs 0 d) q
same-there (y ∷ xs) ys (suc k) x d h e q = same-there xs xs k x d (omega (arith, h)) e refl ∙ ap (λ zs. get_or zs (suc k) d) q

pub mapped-there : {A B : Type 0} (f : A → B) (xs : List A) (k : ℕ) (x : A) (d : B) → k < length xs → x ≡ get_or xs k x → f x ≡ get_or (map f xs) k d
mapped-there f [] k x d h e = absurd (omega (arith, h))
mapped-there f (y ∷ xs) zero x d h e = ap f e
mapped-there f (y ∷ xs) (suc k) x d h e = mapped-there f xs k x d (omega (arith, h)) e

pub mapped-within : {A B : Type 0} (f : A → B) (xs : List A) (k : ℕ) → k < length (map f xs) → k < length xs
mapped-within f [] k h = h
mapped-within f (x ∷ xs) zero h = omega arith
mapped-within f (x ∷ xs) (suc k) h = let i = mapped-within f xs k (omega (arith, h)) in omega (arith, i)

-- it is past the end
pub none-there : {A : Type 0} (xs ys : List A) (k : ℕ) (d : A) → length xs ≤ k → xs ≡ ys → d ≡ get_or ys k d
none-there {A = A} xs ys k d h q = past xs k h ∙ ap (λ zs. get_or zs k d) q
  where
    past : (zs : List A) (n : ℕ) → length zs ≤ n → d ≡ get_or zs n d
    past [] n l = refl
    past (z ∷ zs) zero l = absurd (omega (arith, l))
    past (z ∷ zs) (suc n) l = past zs n (omega (arith, l))

-- ---- pairs

pub first-ended : {A B : Type 0} (xs : List A) (ys : List B) → length xs ≡ 0 → zip xs ys ≡ []
first-ended [] ys e = refl
first-ended (x ∷ xs) ys e = absurd (omega (arith, e))

pub second-ended : {A B : Type 0} (xs : List A) (ys : List B) → length ys ≡ 0 → zip xs ys ≡ []
second-ended [] ys e = refl
second-ended (x ∷ xs) [] e = refl
second-ended (x ∷ xs) (y ∷ ys) e = absurd (omega (arith, e))

-- all is written where nothing is left
pub all-written : {A : Type 0} (f : A → List ℕ) (text whole : List ℕ) (left : List A) → text ++ flat_map f left ≡ whole → left ≡ [] → text ≡ whole
all-written f text whole left h e = sym (append-nil text) ∙ (ap (λ l. text ++ flat_map f l) (sym e) ∙ h)
