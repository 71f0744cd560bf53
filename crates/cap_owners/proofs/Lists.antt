-- Lists beside each other, and the first place that passes.
use Rattle.std.proofs.Common.{◌≡◌, ◌∙◌, ap, sym, refl, ℕ, suc, ◌+◌, ◌-◌, min, Bool, true, false, cond, not, List, [], ◌∷◌, ◌++◌, map, reverse, drop, take, length, length-drop, arith, inl, inr}
use Rattle.std.specs.Prelude.{None, position, nat_lt}
use Rattle.std.specs.List.{zip, prefix_len}
use Rattle.std.proofs.lemmas.List.{append-nil, reverse-append, length-reverse, take-append-drop}
use Rattle.std.proofs.lemmas.Bool.{cases_lt}
use Rattle.std.proofs.lemmas.Bool.Decides.{nat_tests}

zip-append : {A B : Type 0} (xs us : List A) (ys vs : List B) → length xs ≡ length ys → zip (xs ++ us) (ys ++ vs) ≡ zip xs ys ++ zip us vs
zip-append [] us [] vs e = refl
zip-append [] us (y ∷ ys) vs e = absurd (omega (arith, e))
zip-append (x ∷ xs) us [] vs e = absurd (omega (arith, e))
zip-append (x ∷ xs) us (y ∷ ys) vs e = ap (λ l. (x, y) ∷ l) (zip-append xs us ys vs (let h : suc (length xs) ≡ suc (length ys) = e in omega arith))

pub zip-none : {A B : Type 0} (xs : List A) → zip {X = B} xs [] ≡ []
zip-none [] = refl
zip-none (x ∷ xs) = refl

reverse-cons : {A : Type 0} (x : A) (xs : List A) → reverse (x ∷ xs) ≡ reverse xs ++ x ∷ []
reverse-cons x xs = reverse-append (x ∷ []) xs

zip-reverse : {A B : Type 0} (xs : List A) (ys : List B) → length xs ≡ length ys → zip (reverse xs) (reverse ys) ≡ reverse (zip xs ys)
zip-reverse [] [] e = refl
zip-reverse [] (y ∷ ys) e = absurd (omega (arith, e))
zip-reverse (x ∷ xs) [] e = absurd (omega (arith, e))
zip-reverse (x ∷ xs) (y ∷ ys) e =
    let h : length xs ≡ length ys = (let g : suc (length xs) ≡ suc (length ys) = e in omega arith) in
    let k : length (reverse xs) ≡ length (reverse ys) = length-reverse xs ∙ (h ∙ sym (length-reverse ys)) in
    rw (reverse-cons x xs, reverse-cons y ys, zip-append (reverse xs) (x ∷ []) (reverse ys) (y ∷ []) k, zip-reverse xs ys h) (sym (reverse-cons (x, y) (zip xs ys)))

zip-longer : {A B : Type 0} (xs us : List A) (ys : List B) → length xs ≡ length ys → zip (xs ++ us) ys ≡ zip xs ys
zip-longer xs us ys e =
    ap (zip (xs ++ us)) (sym (append-nil ys))
    ∙ (zip-append xs us ys [] e ∙ (ap (λ l. zip xs ys ++ l) (zip-none us) ∙ append-nil (zip xs ys)))

zip-shorter : {A B : Type 0} (xs : List A) (ys vs : List B) → length xs ≡ length ys → zip xs (ys ++ vs) ≡ zip xs ys
zip-shorter xs ys vs e =
    ap (λ l. zip l (ys ++ vs)) (sym (append-nil xs)) ∙ (zip-append xs [] ys vs e ∙ append-nil (zip xs ys))

from-end : {A : Type 0} (k : ℕ) (xs : List A) → reverse xs ≡ reverse (drop k xs) ++ reverse (take k xs)
from-end k xs = ap reverse (sym (take-append-drop k xs)) ∙ reverse-append (take k xs) (drop k xs)

tops-left : {A B : Type 0} (xs : List A) (ys : List B) (k : ℕ) → k + length ys ≡ length xs → zip (reverse xs) (reverse ys) ≡ reverse (zip (drop k xs) ys)
tops-left xs ys k e =
    let h : length (drop k xs) ≡ length ys = rw length-drop (omega (arith, e)) in
    ap (λ l. zip l (reverse ys)) (from-end k xs)
    ∙ (zip-longer (reverse (drop k xs)) (reverse (take k xs)) (reverse ys) (length-reverse (drop k xs) ∙ (h ∙ sym (length-reverse ys)))
    ∙ zip-reverse (drop k xs) ys h)

tops-right : {A B : Type 0} (xs : List A) (ys : List B) (k : ℕ) → k + length xs ≡ length ys → zip (reverse xs) (reverse ys) ≡ reverse (zip xs (drop k ys))
tops-right xs ys k e =
    let h : length xs ≡ length (drop k ys) = rw length-drop (omega (arith, e)) in
    ap (zip (reverse xs)) (from-end k ys)
    ∙ (zip-shorter (reverse xs) (reverse (drop k ys)) (reverse (take k ys)) (length-reverse xs ∙ (h ∙ sym (length-reverse (drop k ys))))
    ∙ zip-reverse xs (drop k ys) h)

-- as many of both, from the end
pub zip-tops : {A B : Type 0} (xs : List A) (ys : List B) (n : ℕ) → n ≡ min (length xs) (length ys) → zip (reverse xs) (reverse ys) ≡ reverse (zip (drop (length xs - n) xs) (drop (length ys - n) ys))
zip-tops xs ys n e = elim (cases_lt (length xs) (length ys)) [
  | inl h ↦ (
      let a : length xs - n ≡ 0 = omega (arith, e) in
      let b : (length ys - n) + length xs ≡ length ys = omega (arith, e) in
      tops-right xs ys (length ys - n) b ∙ ap (λ k. reverse (zip (drop k xs) (drop (length ys - n) ys))) (sym a)
      )
  | inr h ↦ (
      let a : length ys - n ≡ 0 = omega (arith, e) in
      let b : (length xs - n) + length ys ≡ length xs = omega (arith, e) in
      tops-left xs ys (length xs - n) b ∙ ap (λ k. reverse (zip (drop (length xs - n) xs) (drop k ys))) (sym a)
      )
]

-- ---- the first place that passes

prefix-map : {A B : Type 0} (f : A → B) (p : B → Bool) (xs : List A) → prefix_len p (map f xs) ≡ prefix_len (λ x. p (f x)) xs
prefix-map f p [] = refl
prefix-map f p (x ∷ xs) = ap (λ n. cond (p (f x)) (1 + n) 0) (prefix-map f p xs)

length-seen : {A B : Type 0} (f : A → B) (xs : List A) → length (map f xs) ≡ length xs
length-seen f [] = refl
length-seen f (x ∷ xs) = ap suc (length-seen f xs)

pub position-map : {A B : Type 0} (f : A → B) (p : B → Bool) (xs : List A) → position p (map f xs) ≡ position (λ x. p (f x)) xs
position-map f p xs =
    let n = prefix-map f (λ y. not (p y)) xs in
    rw (n, length-seen f xs) refl

prefix-all : {A : Type 0} (p : A → Bool) (xs : List A) → ((x : A) → p x ≡ true) → prefix_len p xs ≡ length xs
prefix-all p [] h = refl
prefix-all p (x ∷ xs) h = rw (h x, prefix-all p xs h) (omega arith)

not-less : (n : ℕ) → nat_lt n n ≡ false
not-less n = grind (arith, nat_tests)

pub position-none : {A : Type 0} (p : A → Bool) (xs : List A) → ((x : A) → p x ≡ false) → position p xs ≡ None
position-none p xs h =
    let n : prefix_len (λ x. not (p x)) xs ≡ length xs = prefix-all (λ x. not (p x)) xs (λ x. ap not (h x)) in
    rw (n, not-less (length xs)) refl
