-- What stands at a place of lists that are seen by other ones.
use Rattle.std.proofs.Common.{◌≡◌, ℕ, zero, suc, ◌<◌, ◌≤◌, List, [], ◌∷◌, length, map, get_or, refl, ap, ◌∙◌, arith}

there : {A B C : Type 0} (f : A → B) (g : B → C) (xs : List A) (k : ℕ) (x : A) (d : C) → k < length xs → x ≡ get_or xs k x → g (f x) ≡ get_or (map g (map f xs)) k d
there f g [] k x d h e = absurd (omega (arith, h))
there f g (y ∷ xs) zero x d h e = ap (λ z. g (f z)) e
there f g (y ∷ xs) (suc k) x d h e = there f g xs k x d (omega (arith, h)) e

-- it is in the first list, which is the second
pub seen-there :
    {A B C : Type 0} (f : A → B) (g : B → C) (xs ys : List A) (k : ℕ) (x : A) (d : C) → k < length xs → x ≡ get_or xs k x → xs ≡ ys → g (f x) ≡ get_or (map g (map f ys)) k d
seen-there f g xs ys k x d h e q = there f g xs k x d h e ∙ ap (λ zs. get_or (map g (map f zs)) k d) q

pub same-there : {A : Type 0} (xs ys : List A) (k : ℕ) (x d : A) → k < length xs → x ≡ get_or xs k x → xs ≡ ys → x ≡ get_or ys k d
same-there [] ys k x d h e q = absurd (omega (arith, h))
same-there (y ∷ xs) ys zero x d h e q = e ∙ ap (λ zs. get_or zs 0 d) q
same-there (y ∷ xs) ys (suc k) x d h e q = same-there xs xs k x d (omega (arith, h)) e refl ∙ ap (λ zs. get_or zs (suc k) d) q

-- it is past the end
pub none-there : {A : Type 0} (xs ys : List A) (k : ℕ) (d : A) → length xs ≤ k → xs ≡ ys → d ≡ get_or ys k d
none-there {A = A} xs ys k d h q = past xs k h ∙ ap (λ zs. get_or zs k d) q
  where
    past : (zs : List A) (n : ℕ) → length zs ≤ n → d ≡ get_or zs n d
    past [] n l = refl
    past (z ∷ zs) zero l = absurd (omega (arith, l))
    past (z ∷ zs) (suc n) l = past zs n (omega (arith, l))
