-- Two lists of parts side by side: which pair comes first, and what is left behind it.
use Rattle.std.proofs.Common.{◌≡◌, ℕ, ℤ, pos, List, [], ◌∷◌, ◌<◌, ◌≤◌, ◌+◌, length, get_or, drop, true, false, arith, refl, Some, None, inl, inr}
use Rattle.std.specs.Prelude.{slice_get, ◌==◌, nat_lt}
use Rattle.std.proofs.lemmas.Bool.{cases_lt}
use Rattle.std.proofs.lemmas.Bool.Decides.{nat_tests}
use Rattle.cap_lin.specs.Linear.{merged, only_left, only_right, parts_behind}
use Rattle.cap_lin.specs.declared.term.Pair.{Pair}

abbrev pub no_part : ℕ × ℤ
no_part = (0, pos 0)

pub merged-lt : (p q : ℕ × ℤ) (ps qs : List (ℕ × ℤ)) → p.0 < q.0 → merged (p ∷ ps) (q ∷ qs) ≡ only_left p ∷ merged ps (q ∷ qs)
unfolding merged
merged-lt p q ps qs h = let t : nat_lt p.0 q.0 ≡ true = grind (arith, nat_tests) in rw t refl

pub merged-gt : (p q : ℕ × ℤ) (ps qs : List (ℕ × ℤ)) → q.0 < p.0 → merged (p ∷ ps) (q ∷ qs) ≡ only_right q ∷ merged (p ∷ ps) qs
unfolding merged
merged-gt p q ps qs h =
    let s : nat_lt p.0 q.0 ≡ false = grind (arith, nat_tests) in
    let t : nat_lt q.0 p.0 ≡ true = grind (arith, nat_tests) in
    rw (s, t) refl

pub merged-eq : (p q : ℕ × ℤ) (ps qs : List (ℕ × ℤ)) → q.0 ≤ p.0 → p.0 ≤ q.0 → merged (p ∷ ps) (q ∷ qs) ≡ record { variable = p.0; left = p.1; right = q.1 } ∷ merged ps qs
unfolding merged
merged-eq p q ps qs h k =
    let s : nat_lt p.0 q.0 ≡ false = grind (arith, nat_tests) in
    let t : nat_lt q.0 p.0 ≡ false = grind (arith, nat_tests) in
    rw (s, t) refl

pub merged-left : (p : ℕ × ℤ) (ps : List (ℕ × ℤ)) → merged (p ∷ ps) [] ≡ only_left p ∷ merged ps []
unfolding merged
merged-left p ps = refl

pub merged-right : (q : ℕ × ℤ) (qs : List (ℕ × ℤ)) → merged [] (q ∷ qs) ≡ only_right q ∷ merged [] qs
unfolding merged
merged-right q qs = refl

pub merged-nil : merged [] [] ≡ []
unfolding merged
merged-nil = refl

-- ---- the first pair, of lists that are seen through their first parts

pub first-none : (ps qs : List (ℕ × ℤ)) → length ps < 1 → length qs < 1 → None ≡ slice_get (merged ps qs) 0
first-none [] [] h k = rw merged-nil refl
first-none [] (q ∷ qs) h k = absurd (omega arith)
first-none (p ∷ ps) qs h k = absurd (omega arith)

pub first-left : (ps qs : List (ℕ × ℤ)) (a : ℤ) → 1 ≤ length ps → length qs < 1 → a ≡ (get_or ps 0 no_part).1 → Some (record { variable = (get_or ps 0 no_part).0; left = a; right = pos 0 }) ≡ slice_get (merged ps qs) 0
first-left [] qs a h k e = absurd (omega arith)
first-left (p ∷ ps) (q ∷ qs) a h k e = absurd (omega arith)
first-left (p ∷ ps) [] a h k e = rw (merged-left, e) refl

pub first-right : (ps qs : List (ℕ × ℤ)) (b : ℤ) → length ps < 1 → 1 ≤ length qs → b ≡ (get_or qs 0 no_part).1 → Some (record { variable = (get_or qs 0 no_part).0; left = pos 0; right = b }) ≡ slice_get (merged ps qs) 0
first-right ps [] b h k e = absurd (omega arith)
first-right (p ∷ ps) (q ∷ qs) b h k e = absurd (omega arith)
first-right [] (q ∷ qs) b h k e = rw (merged-right, e) refl

pub first-lt : (ps qs : List (ℕ × ℤ)) (a : ℤ) → 1 ≤ length ps → 1 ≤ length qs → (get_or ps 0 no_part).0 < (get_or qs 0 no_part).0 → a ≡ (get_or ps 0 no_part).1 → Some (record { variable = (get_or ps 0 no_part).0; left = a; right = pos 0 }) ≡ slice_get (merged ps qs) 0
first-lt [] qs a h k l e = absurd (omega arith)
first-lt (p ∷ ps) [] a h k l e = absurd (omega arith)
first-lt (p ∷ ps) (q ∷ qs) a h k l e = rw (merged-lt p q ps qs l, e) refl

pub first-gt : (ps qs : List (ℕ × ℤ)) (b : ℤ) → 1 ≤ length ps → 1 ≤ length qs → (get_or qs 0 no_part).0 < (get_or ps 0 no_part).0 → b ≡ (get_or qs 0 no_part).1 → Some (record { variable = (get_or qs 0 no_part).0; left = pos 0; right = b }) ≡ slice_get (merged ps qs) 0
first-gt [] qs b h k l e = absurd (omega arith)
first-gt (p ∷ ps) [] b h k l e = absurd (omega arith)
first-gt (p ∷ ps) (q ∷ qs) b h k l e = rw (merged-gt p q ps qs l, e) refl

pub first-eq : (ps qs : List (ℕ × ℤ)) (a b : ℤ) → 1 ≤ length ps → 1 ≤ length qs → (get_or qs 0 no_part).0 ≤ (get_or ps 0 no_part).0 → (get_or ps 0 no_part).0 ≤ (get_or qs 0 no_part).0 → a ≡ (get_or ps 0 no_part).1 → b ≡ (get_or qs 0 no_part).1 → Some (record { variable = (get_or ps 0 no_part).0; left = a; right = b }) ≡ slice_get (merged ps qs) 0
first-eq [] qs a b h k l m e d = absurd (omega arith)
first-eq (p ∷ ps) [] a b h k l m e d = absurd (omega arith)
first-eq (p ∷ ps) (q ∷ qs) a b h k l m e d = rw (merged-eq p q ps qs l m, e, d) refl

-- ---- the first pair and those after it, where neither list is empty

abbrev pub pair : ℕ → ℤ → ℤ → Pair
pair x l r = record { variable = x; left = l; right = r }

pub starts-lt : (ps qs : List (ℕ × ℤ)) (x : ℕ) (l r : ℤ) → 1 ≤ length ps → 1 ≤ length qs → (get_or ps 0 no_part).0 < (get_or qs 0 no_part).0 → x ≡ (get_or ps 0 no_part).0 → l ≡ (get_or ps 0 no_part).1 → r ≡ pos 0 → merged ps qs ≡ pair x l r ∷ merged (drop 1 ps) qs
starts-lt [] qs x l r h k t u v w = absurd (omega arith)
starts-lt (p ∷ ps) [] x l r h k t u v w = absurd (omega arith)
starts-lt (p ∷ ps) (q ∷ qs) x l r h k t u v w = rw (merged-lt p q ps qs t, u, v, w) refl

pub starts-gt : (ps qs : List (ℕ × ℤ)) (x : ℕ) (l r : ℤ) → 1 ≤ length ps → 1 ≤ length qs → (get_or qs 0 no_part).0 < (get_or ps 0 no_part).0 → x ≡ (get_or qs 0 no_part).0 → l ≡ pos 0 → r ≡ (get_or qs 0 no_part).1 → merged ps qs ≡ pair x l r ∷ merged ps (drop 1 qs)
starts-gt [] qs x l r h k t u v w = absurd (omega arith)
starts-gt (p ∷ ps) [] x l r h k t u v w = absurd (omega arith)
starts-gt (p ∷ ps) (q ∷ qs) x l r h k t u v w = rw (merged-gt p q ps qs t, u, v, w) refl

pub starts-eq : (ps qs : List (ℕ × ℤ)) (x : ℕ) (l r : ℤ) → 1 ≤ length ps → 1 ≤ length qs → (get_or qs 0 no_part).0 ≤ (get_or ps 0 no_part).0 → (get_or ps 0 no_part).0 ≤ (get_or qs 0 no_part).0 → x ≡ (get_or ps 0 no_part).0 → l ≡ (get_or ps 0 no_part).1 → r ≡ (get_or qs 0 no_part).1 → merged ps qs ≡ pair x l r ∷ merged (drop 1 ps) (drop 1 qs)
starts-eq [] qs x l r h k t m u v w = absurd (omega arith)
starts-eq (p ∷ ps) [] x l r h k t m u v w = absurd (omega arith)
starts-eq (p ∷ ps) (q ∷ qs) x l r h k t m u v w = rw (merged-eq p q ps qs t m, u, v, w) refl

pub shorter : (ps : List (ℕ × ℤ)) → 1 ≤ length ps → length (drop 1 ps) < length ps
shorter [] h = absurd (omega arith)
shorter (p ∷ ps) h = omega arith

-- ---- what is left behind the first pair

behind-same : (x : ℕ) (p : ℕ × ℤ) (ps : List (ℕ × ℤ)) → p.0 ≡ x → parts_behind x (p ∷ ps) ≡ ps
behind-same x p ps e = let t : (p.0 == x) ≡ true = grind (arith, nat_tests) in rw t refl

behind-other : (x : ℕ) (p : ℕ × ℤ) (ps : List (ℕ × ℤ)) → (p.0 ≡ x → ⊥) → parts_behind x (p ∷ ps) ≡ p ∷ ps
behind-other x p ps n = let t : (p.0 == x) ≡ false = grind (arith, nat_tests) in rw t refl

pub record IsNext (ps qs : List (ℕ × ℤ)) (j : Pair) : Type 0 where
  pub rest : merged ps qs ≡ j ∷ merged (parts_behind j.variable ps) (parts_behind j.variable qs)
  pub shorter : length (parts_behind j.variable ps) + length (parts_behind j.variable qs) < length ps + length qs

made : (ps qs ps' qs' : List (ℕ × ℤ)) (h j : Pair) → merged ps qs ≡ h ∷ merged ps' qs' → parts_behind h.variable ps ≡ ps' → parts_behind h.variable qs ≡ qs' → length ps' + length qs' < length ps + length qs → slice_get (merged ps qs) 0 ≡ Some j → IsNext ps qs j
made ps qs ps' qs' h j e a b l s =
    let t : Some h ≡ Some j = rw e at s in
    let i : h ≡ j = cc in
    rw (← i) (record { rest = rw (a, b) e; shorter = rw (a, b) l })

pub next : (ps qs : List (ℕ × ℤ)) (j : Pair) → slice_get (merged ps qs) 0 ≡ Some j → IsNext ps qs j
next [] [] j s = let t : None ≡ Some j = rw merged-nil at s in absurd (cc)
next [] (q ∷ qs) j s = made [] (q ∷ qs) [] qs _ j (merged-right q qs) refl (behind-same q.0 q qs refl) (omega arith) s
next (p ∷ ps) [] j s = made (p ∷ ps) [] ps [] _ j (merged-left p ps) (behind-same p.0 p ps refl) refl (omega arith) s
next (p ∷ ps) (q ∷ qs) j s =
    elim (cases_lt p.0 q.0) [
      | inl lt ↦ made (p ∷ ps) (q ∷ qs) ps (q ∷ qs) _ j (merged-lt p q ps qs lt) (behind-same p.0 p ps refl) (behind-other p.0 q qs (λ e. absurd (omega arith))) (omega arith) s
      | inr ge ↦ elim (cases_lt q.0 p.0) [
        | inl gt ↦ made (p ∷ ps) (q ∷ qs) (p ∷ ps) qs _ j (merged-gt p q ps qs gt) (behind-other q.0 p ps (λ e. absurd (omega arith))) (behind-same q.0 q qs refl) (omega arith) s
        | inr le ↦ made (p ∷ ps) (q ∷ qs) ps qs _ j (merged-eq p q ps qs ge le) (behind-same p.0 p ps refl) (behind-same p.0 q qs (omega arith)) (omega arith) s
      ]
    ]

pub merged-end : (ps qs : List (ℕ × ℤ)) → slice_get (merged ps qs) 0 ≡ None → merged ps qs ≡ []
merged-end [] [] s = merged-nil
merged-end [] (q ∷ qs) s = let t : Some (only_right q) ≡ None = rw (merged-right q qs) at s in absurd (cc)
merged-end (p ∷ ps) [] s = let t : Some (only_left p) ≡ None = rw (merged-left p ps) at s in absurd (cc)
merged-end (p ∷ ps) (q ∷ qs) s =
    elim (cases_lt p.0 q.0) [
      | inl lt ↦ let t : Some (only_left p) ≡ None = rw (merged-lt p q ps qs lt) at s in absurd (cc)
      | inr ge ↦ elim (cases_lt q.0 p.0) [
        | inl gt ↦ let t : Some (only_right q) ≡ None = rw (merged-gt p q ps qs gt) at s in absurd (cc)
        | inr le ↦ let t = rw (merged-eq p q ps qs ge le) at s in absurd (cc)
      ]
    ]
