-- Whether two terms are the same is a test that decides equality, and so an equivalence.
use Rattle.std.proofs.Common.{◌≡◌, ℕ, ℤ, pos, negsuc, List, [], ◌∷◌, arith, refl, ap, Bool, true}
use Rattle.std.proofs.Common.{false, Decides}
use Rattle.std.specs.Prelude.{◌==◌, ◌&&◌}
use Rattle.std.specs.Bool.{one_answer}
use Rattle.std.specs.Cmp.{IsEquivalence, decided}
use Rattle.std.proofs.lemmas.Bool.Decides.{nat_tests}
use Rattle.cap_lin.specs.Linear.{Linear, same_number, same_parts, same_term}

true-eq : (a b : ℕ) → (a == b) ≡ true → a ≡ b
true-eq a b e = grind (arith, nat_tests, e)

eq-true : (a b : ℕ) → a ≡ b → (a == b) ≡ true
eq-true a b e = grind (arith, nat_tests, e)

both-true : (a b : Bool) → (a && b) ≡ true → (a ≡ true) × (b ≡ true)
both-true true true e = (refl, refl)
both-true true false e = cc
both-true false b e = cc

number-is : (a b : ℤ) → same_number a b ≡ true → a ≡ b
number-is (pos m) (pos n) e = ap pos (true-eq m n e)
number-is (negsuc m) (negsuc n) e = ap negsuc (true-eq m n e)
number-is (pos m) (negsuc n) e = cc
number-is (negsuc m) (pos n) e = cc

number-self : (a : ℤ) → same_number a a ≡ true
number-self (pos m) = eq-true m m refl
number-self (negsuc m) = eq-true m m refl

part-is : (x y : ℕ) (a b : ℤ) → x ≡ y → a ≡ b → ◌≡◌ {A = ℕ × ℤ} (x, a) (y, b)
part-is x y a b p q = rw (p, q) refl

parts-are : (ps qs : List (ℕ × ℤ)) → same_parts ps qs ≡ true → ps ≡ qs
parts-are [] [] e = refl
parts-are [] (q ∷ qs) e = cc
parts-are (p ∷ ps) [] e = cc
parts-are (p ∷ ps) (q ∷ qs) e =
    let s = both-true ((p.0 == q.0) && same_number p.1 q.1) (same_parts ps qs) e in
    let t = both-true (p.0 == q.0) (same_number p.1 q.1) s.0 in
    let h : p ≡ q = part-is p.0 q.0 p.1 q.1 (true-eq p.0 q.0 t.0) (number-is p.1 q.1 t.1) in
    rw (h, parts-are ps qs s.1) refl

parts-self : (ps : List (ℕ × ℤ)) → same_parts ps ps ≡ true
parts-self [] = refl
parts-self (p ∷ ps) = rw (eq-true p.0 p.0 refl, number-self p.1, parts-self ps) refl

term-is : (a b : ℤ) (ps qs : List (ℕ × ℤ)) → a ≡ b → ps ≡ qs
    → ◌≡◌ {A = Linear} (record { constant = a; parts = ps }) (record { constant = b; parts = qs })
term-is a b ps qs p q = rw (p, q) refl

same-is : (s t : Linear) → same_term s t ≡ true → s ≡ t
unfolding same_term
same-is s t e = let h = both-true (same_number s.constant t.constant) (same_parts s.parts t.parts) e in term-is _ _ _ _ (number-is _ _ h.0) (parts-are _ _ h.1)

same-self : (s t : Linear) → s ≡ t → same_term s t ≡ true
unfolding same_term
same-self s t e = rw e (rw (number-self t.constant, parts-self t.parts) refl)

pub same_term-decides : (s t : Linear) → Decides (same_term s t) (s ≡ t)
same_term-decides s t = (same-is s t, same-self s t)

pub same_term-equivalence : IsEquivalence same_term
same_term-equivalence = decided same_term same_term-decides

-- a test that decides whether two terms are equal is this one
pub same_term-only : (b : Bool) (s t : Linear) → Decides b (s ≡ t) → b ≡ same_term s t
same_term-only b s t h = one_answer b (same_term s t) h (same_term-decides s t)
