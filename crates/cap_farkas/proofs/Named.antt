-- The loops over a leaf's names: each lemma is one way through them. W is what the loop decides.
use Rattle.std.proofs.Common.{◌≡◌, ℕ, zero, suc, ℤ, List, [], ◌∷◌, ◌+◌, ◌<◌, ◌≤◌, length, get_or, drop, true, false, arith, add-one, refl, drop-cons, subst, sym, ◌∙◌, Some, None, IsTrue, ◌↔◌, ◌⊎◌, inl, inr}
use Rattle.std.specs.Prelude.{Option}
use Rattle.std.proofs.lemmas.List.{drop_all}
use Rattle.cap_lin.specs.declared.row.Row.{Row}
use Rattle.cap_lin.specs.declared.row.Kind.{Kind}
use Rattle.cap_lin.specs.declared.row.Kind.TheVariants.{Lt}
use Rattle.cap_lin.proofs.Merge.{no_part}
use Rattle.cap_farkas.specs.Farkas.{MayMultiply, row_at, Names, HasStrict, IsKindAt}

pub refused : (W : Type 0) → (W → ⊥) → IsTrue false ↔ W
refused W f = (λ e. cc, λ w. absurd (f w))

pub accepted : (W : Type 0) → W → IsTrue true ↔ W
accepted W w = (λ e. w, λ v. refl)

names-head : (rows : List Row) (leaf : List (ℕ × ℤ)) (low i : ℕ) → i < length leaf → Names low rows (drop i leaf) → (low ≤ (get_or leaf i no_part).0) × ((get_or leaf i no_part).0 < length rows) × MayMultiply (row_at rows (get_or leaf i no_part).0).kind (get_or leaf i no_part).1 × Names ((get_or leaf i no_part).0 + 1) rows (drop (i + 1) leaf)
unfolding Names
names-head rows leaf low i h a = let b : Names low rows (get_or leaf i no_part ∷ drop (suc i) leaf) = subst (Names low rows) (drop-cons leaf i no_part h) a in (b.0, b.1, b.2, rw (add-one i) b.3)

names-made : (rows : List Row) (leaf : List (ℕ × ℤ)) (low i : ℕ) → i < length leaf → low ≤ (get_or leaf i no_part).0 → (get_or leaf i no_part).0 < length rows → MayMultiply (row_at rows (get_or leaf i no_part).0).kind (get_or leaf i no_part).1 → Names ((get_or leaf i no_part).0 + 1) rows (drop (i + 1) leaf) → Names low rows (drop i leaf)
unfolding Names
names-made rows leaf low i h a b c d =
    let e : Names ((get_or leaf i no_part).0 + 1) rows (drop (suc i) leaf) = rw (← add-one i) d in
    let f : Names low rows (get_or leaf i no_part ∷ drop (suc i) leaf) = (a, b, c, e) in
    subst (Names low rows) (sym (drop-cons leaf i no_part h)) f

pub names_low : (rows : List Row) (leaf : List (ℕ × ℤ)) (low i : ℕ) (W : Type 0) → i < length leaf → (get_or leaf i no_part).0 < low → (W ↔ Names low rows (drop i leaf)) → IsTrue false ↔ W
names_low rows leaf low i W h l e = refused W (λ w. let a = names-head rows leaf low i h (e.0 w) in let b = a.0 in absurd (omega arith))

pub names_range : (rows : List Row) (leaf : List (ℕ × ℤ)) (low i : ℕ) (W : Type 0) → i < length leaf → length rows ≤ (get_or leaf i no_part).0 → (W ↔ Names low rows (drop i leaf)) → IsTrue false ↔ W
names_range rows leaf low i W h l e = refused W (λ w. let a = names-head rows leaf low i h (e.0 w) in let b = a.1 in absurd (omega arith))

pub names_kind : (rows : List Row) (leaf : List (ℕ × ℤ)) (low i : ℕ) (W : Type 0) (k : Kind) (m : ℤ) → i < length leaf → k ≡ (row_at rows (get_or leaf i no_part).0).kind → m ≡ (get_or leaf i no_part).1 → (IsTrue false ↔ MayMultiply k m) → (W ↔ Names low rows (drop i leaf)) → IsTrue false ↔ W
names_kind rows leaf low i W k m h d f n e = refused W (λ w. let a = names-head rows leaf low i h (e.0 w) in let b : MayMultiply k m = rw (d, f) a.2 in clash (n.1 b))
  where
    clash : false ≡ true → ⊥
    clash e = cc

pub names_more : (rows : List Row) (leaf : List (ℕ × ℤ)) (low i : ℕ) (W : Type 0) (k : Kind) (m : ℤ) → i < length leaf → low ≤ (get_or leaf i no_part).0 → (get_or leaf i no_part).0 < length rows → k ≡ (row_at rows (get_or leaf i no_part).0).kind → m ≡ (get_or leaf i no_part).1 → (IsTrue true ↔ MayMultiply k m) → (W ↔ Names low rows (drop i leaf)) → W ↔ Names ((get_or leaf i no_part).0 + 1) rows (drop (i + 1) leaf)
names_more rows leaf low i W k m h l r d f t e =
    let b : MayMultiply (row_at rows (get_or leaf i no_part).0).kind (get_or leaf i no_part).1 = rw (← d, ← f) (t.0 refl) in
    (λ w. (names-head rows leaf low i h (e.0 w)).3, λ n. e.1 (names-made rows leaf low i h l r b n))

pub names_done : (rows : List Row) (leaf : List (ℕ × ℤ)) (low i : ℕ) (W : Type 0) → length leaf ≤ i → (W ↔ Names low rows (drop i leaf)) → IsTrue true ↔ W
unfolding Names
names_done rows leaf low i W h e = accepted W (e.1 (subst (Names low rows) (sym (drop_all i leaf h)) tt))

-- ---- a strict row among those named

strict-head : (rows : List Row) (leaf : List (ℕ × ℤ)) (i : ℕ) → i < length leaf → HasStrict rows (drop i leaf) → ((row_at rows (get_or leaf i no_part).0).kind ≡ Lt) ⊎ HasStrict rows (drop (i + 1) leaf)
unfolding HasStrict
strict-head rows leaf i h a = let b : HasStrict rows (get_or leaf i no_part ∷ drop (suc i) leaf) = subst (HasStrict rows) (drop-cons leaf i no_part h) a in rw (add-one i) b

strict-made : (rows : List Row) (leaf : List (ℕ × ℤ)) (i : ℕ) → i < length leaf → ((row_at rows (get_or leaf i no_part).0).kind ≡ Lt) ⊎ HasStrict rows (drop (i + 1) leaf) → HasStrict rows (drop i leaf)
unfolding HasStrict
strict-made rows leaf i h a =
    let b : HasStrict rows (get_or leaf i no_part ∷ drop (suc i) leaf) = subst (λ n. ((row_at rows (get_or leaf i no_part).0).kind ≡ Lt) ⊎ HasStrict rows (drop n leaf)) (add-one i) a in
    subst (HasStrict rows) (sym (drop-cons leaf i no_part h)) b

-- past the rows stands a row that is not strict
past-kind : (rows : List Row) (i : ℕ) → length rows ≤ i → (row_at rows i).kind ≡ Lt → ⊥
past-kind [] i h e = cc
past-kind (r ∷ rs) zero h e = absurd (omega arith)
past-kind (r ∷ rs) (suc i) h e = past-kind rs i (omega arith) e

kind-strict : (rows : List Row) (i : ℕ) (o : Option Kind) → IsKindAt rows i o → o ≡ Some Lt → (row_at rows i).kind ≡ Lt
kind-strict rows i None h e = absurd (cc)
kind-strict rows i (Some k) h e = let d : k ≡ Lt = cc in sym h.1 ∙ d

strict-kind : (rows : List Row) (i : ℕ) (o : Option Kind) → IsKindAt rows i o → (row_at rows i).kind ≡ Lt → o ≡ Some Lt
strict-kind rows i None h e = absurd (past-kind rows i h e)
strict-kind rows i (Some k) h e = rw (h.1, e) refl

pub strict_found : (rows : List Row) (leaf : List (ℕ × ℤ)) (i : ℕ) (W : Type 0) (o : Option Kind) → i < length leaf → IsKindAt rows (get_or leaf i no_part).0 o → (IsTrue true ↔ (o ≡ Some Lt)) → (W ↔ HasStrict rows (drop i leaf)) → IsTrue true ↔ W
strict_found rows leaf i W o h k t e = accepted W (e.1 (strict-made rows leaf i h (inl (kind-strict rows _ o k (t.0 refl)))))

pub strict_past : (rows : List Row) (leaf : List (ℕ × ℤ)) (i : ℕ) (W : Type 0) (o : Option Kind) → i < length leaf → IsKindAt rows (get_or leaf i no_part).0 o → (IsTrue false ↔ (o ≡ Some Lt)) → (W ↔ HasStrict rows (drop i leaf)) → W ↔ HasStrict rows (drop (i + 1) leaf)
strict_past rows leaf i W o h k t e =
    (λ w. elim (strict-head rows leaf i h (e.0 w)) [ inl x ↦ absurd (clash (t.1 (strict-kind rows _ o k x))) | inr y ↦ y ], λ y. e.1 (strict-made rows leaf i h (inr y)))
  where
    clash : false ≡ true → ⊥
    clash e = cc

pub strict_none : (rows : List Row) (leaf : List (ℕ × ℤ)) (i : ℕ) (W : Type 0) → length leaf ≤ i → (W ↔ HasStrict rows (drop i leaf)) → IsTrue false ↔ W
unfolding HasStrict
strict_none rows leaf i W h e = refused W (λ w. let x : HasStrict rows [] = subst (HasStrict rows) (drop_all i leaf h) (e.0 w) in x)
