-- Where the check of a leaf stays within 128 bits, so does each column's sum.
use Rattle.std.proofs.Common.{◌≡◌, ℕ, ℤ, pos, ◌+ℤ◌, ◌*ℤ◌, List, [], ◌∷◌, ◌+◌, arith, refl, ap, sym, ◌∙◌, inl, inr, None, FitsSigned, zero, suc, negsuc}
use Rattle.std.specs.List.{AllByRecursion}
use Rattle.std.proofs.lemmas.Int.{ints}
use Rattle.std.proofs.Math.Dec.{lit<}
use mir.Syntax.{w128}
use Rattle.cap_lin.specs.Linear.{Linear, AscendFrom, coefficient, merged, put_part, combined_parts, combination}
use Rattle.cap_lin.specs.Steps.{Step, sum_of, product_of, first_wide, part_steps, combined_parts_steps, combination_steps}
use Rattle.cap_lin.specs.declared.row.Row.{Row}
use Rattle.cap_lin.proofs.Results.{product-fits, product-narrow, sum-fits, sum-narrow, narrow-left, narrow-right, first_wide-nil}
use Rattle.cap_lin.proofs.Ascend.{PairsAscend, merged-ascends, put-ascends}
use Rattle.cap_lin.proofs.Places.{coefficient-same, coefficient-other, coefficient-nil, tested}
use Rattle.cap_lin.proofs.Combinations.{combination-coefficient, combination-ascends}
use Rattle.cap_farkas.specs.Farkas.{row_at, constant_of, coefficient_of, column_steps}
use Rattle.cap_fm_spec.specs.Leaf.{check_steps}
use Rattle.cap_fm_spec.proofs.Pivots.{absent-below}
use Rattle.cap_fm_spec.proofs.Sums.{combination-constant}

abbrev Within128 : ℤ → Type 0
Within128 z = FitsSigned w128 z

zero-fits : Within128 (pos 0)
zero-fits = record { sfits = lit< tt }

by_value : (a b : ℤ) → a ≡ b → Within128 b → Within128 a
by_value a b e f = rw e f

-- ---- a part's three results

record PartFits (a l b r : ℤ) (more : List Step) : Type 0 where
  second : Within128 (b *ℤ r)
  sum : Within128 (a *ℤ l +ℤ b *ℤ r)
  rest : first_wide more ≡ None

part-fits : (a l b r : ℤ) (more : List Step) → first_wide (part_steps a l b r more) ≡ None → PartFits a l b r more
part-fits a l b r more n =
    let f = product-narrow a l (product_of b r ∷ (sum_of (a *ℤ l) (b *ℤ r) ∷ more)) n in
    let m = sym (product-fits a l (product_of b r ∷ (sum_of (a *ℤ l) (b *ℤ r) ∷ more)) f) ∙ n in
    let g = product-narrow b r (sum_of (a *ℤ l) (b *ℤ r) ∷ more) m in
    let o = sym (product-fits b r (sum_of (a *ℤ l) (b *ℤ r) ∷ more) g) ∙ m in
    let h = sum-narrow (a *ℤ l) (b *ℤ r) more o in
    record { second = g; sum = h; rest = sym (sum-fits (a *ℤ l) (b *ℤ r) more h) ∙ o }

-- ---- the coefficients of a variable in the parts of two terms side by side

record PairOf (x : ℕ) (parts : ℤ → ℤ → List (ℕ × ℤ)) (steps : ℤ → ℤ → List Step) : Type 0 where
  left : ℤ
  right : ℤ
  is : (a b : ℤ) → coefficient x (parts a b) ≡ a *ℤ left +ℤ b *ℤ right
  second : (a b : ℤ) → first_wide (steps a b) ≡ None → Within128 (b *ℤ right)
  sum : (a b : ℤ) → first_wide (steps a b) ≡ None → Within128 (a *ℤ left +ℤ b *ℤ right)

combined-ascend : (low : ℕ) (a b : ℤ) (js : _) → PairsAscend low js → AscendFrom low (combined_parts a b js)
unfolding combined_parts
combined-ascend low a b [] h = tt
combined-ascend low a b (j ∷ js) h = put-ascends j.variable (a *ℤ j.left +ℤ b *ℤ j.right) low (combined_parts a b js) h.0 (combined-ascend (j.variable + 1) a b js h.1)

put-same : (x y : ℕ) (k : ℤ) (ps : List (ℕ × ℤ)) → y ≡ x → coefficient x ps ≡ pos 0 → coefficient x (put_part y k ps) ≡ k
put-same x y (pos zero) ps e z = z
put-same x y (pos (suc n)) ps e z = coefficient-same x (y, pos (suc n)) ps e ∙ rw z (omega (arith, ints))
put-same x y (negsuc n) ps e z = coefficient-same x (y, negsuc n) ps e ∙ rw z (omega (arith, ints))

put-other : (x y : ℕ) (k : ℤ) (ps : List (ℕ × ℤ)) → (y ≡ x → ⊥) → coefficient x (put_part y k ps) ≡ coefficient x ps
put-other x y (pos zero) ps n = refl
put-other x y (pos (suc m)) ps n = coefficient-other x (y, pos (suc m)) ps n
put-other x y (negsuc m) ps n = coefficient-other x (y, negsuc m) ps n

pair-of : (x low : ℕ) (js : _) → PairsAscend low js → PairOf x (λ a b. combined_parts a b js) (λ a b. combined_parts_steps a b js)
unfolding combined_parts combined_parts_steps
pair-of x low [] h = record {
  left = pos 0;
  right = pos 0;
  is = λ a b. coefficient-nil x ∙ (omega (arith, ints));
  second = λ a b n. by_value _ (pos 0) (omega (arith, ints)) zero-fits;
  sum = λ a b n. by_value _ (pos 0) (omega (arith, ints)) zero-fits;
}
pair-of x low (j ∷ js) h = by_variable (pair-of x (j.variable + 1) js h.1)
  where
    by_variable : PairOf x (λ a b. combined_parts a b js) (λ a b. combined_parts_steps a b js) → PairOf x (λ a b. combined_parts a b (j ∷ js)) (λ a b. combined_parts_steps a b (j ∷ js))
    by_variable p = elim (tested j.variable x) [
      | inl e ↦ record {
        left = j.left;
        right = j.right;
        is = λ a b. put-same x j.variable (a *ℤ j.left +ℤ b *ℤ j.right) (combined_parts a b js) e (absent-below (j.variable + 1) x (combined_parts a b js) (combined-ascend (j.variable + 1) a b js h.1) (omega arith));
        second = λ a b n. (part-fits a j.left b j.right (combined_parts_steps a b js) n).second;
        sum = λ a b n. (part-fits a j.left b j.right (combined_parts_steps a b js) n).sum;
      }
      | inr d ↦ record {
        left = p.left;
        right = p.right;
        is = λ a b. put-other x j.variable (a *ℤ j.left +ℤ b *ℤ j.right) (combined_parts a b js) d ∙ p.is a b;
        second = λ a b n. p.second a b (part-fits a j.left b j.right (combined_parts_steps a b js) n).rest;
        sum = λ a b n. p.sum a b (part-fits a j.left b j.right (combined_parts_steps a b js) n).rest;
      }
    ]

-- ---- one step of a leaf's check

record StepFits (s m t r : ℤ) : Type 0 where
  is : r ≡ s +ℤ m *ℤ t
  product : Within128 (m *ℤ t)
  sum : Within128 (s +ℤ m *ℤ t)

once : (a b : ℤ) → pos 1 *ℤ a +ℤ b ≡ a +ℤ b
once (pos n) b = omega (arith, ints)
once (negsuc n) b = omega (arith, ints)

constant-step : (s : Linear) (m : ℤ) (t : Linear) → first_wide (combination_steps (pos 1) s m t) ≡ None → StepFits s.constant m t.constant (combination (pos 1) s m t).constant
unfolding combination_steps
constant-step s m t n =
    let f = part-fits (pos 1) s.constant m t.constant (combined_parts_steps (pos 1) m (merged s.parts t.parts)) n in
    record { is = combination-constant (pos 1) s m t ∙ once s.constant (m *ℤ t.constant); product = f.second; sum = by_value _ _ (sym (once s.constant (m *ℤ t.constant))) f.sum }

combination-is : (x : ℕ) (a b : ℤ) (s t : Linear) → coefficient x (combined_parts a b (merged s.parts t.parts)) ≡ a *ℤ coefficient x s.parts +ℤ b *ℤ coefficient x t.parts
unfolding combination
combination-is x a b s t = combination-coefficient x a s b t

first-of : (l r u v : ℤ) → pos 1 *ℤ l +ℤ pos 0 *ℤ r ≡ pos 1 *ℤ u +ℤ pos 0 *ℤ v → l ≡ u
first-of l r u v e = let f = once l (pos 0 *ℤ r) in let g = once u (pos 0 *ℤ v) in omega (arith, ints)

second-of : (l r u v : ℤ) → pos 0 *ℤ l +ℤ pos 1 *ℤ r ≡ pos 0 *ℤ u +ℤ pos 1 *ℤ v → r ≡ v
second-of l r u v e = let f = once r (pos 0) in let g = once v (pos 0) in omega (arith, ints)

coefficient-step : (x : ℕ) (s : Linear) (m : ℤ) (t : Linear) → AscendFrom 0 s.parts → AscendFrom 0 t.parts → first_wide (combination_steps (pos 1) s m t) ≡ None → StepFits (coefficient x s.parts) m (coefficient x t.parts) (coefficient x (combination (pos 1) s m t).parts)
unfolding combination_steps
coefficient-step x s m t a b n =
    let rest = (part-fits (pos 1) s.constant m t.constant (combined_parts_steps (pos 1) m (merged s.parts t.parts)) n).rest in
    let p = pair-of x 0 (merged s.parts t.parts) (merged-ascends 0 s.parts t.parts a b) in
    let l : p.left ≡ coefficient x s.parts = first-of p.left p.right (coefficient x s.parts) (coefficient x t.parts) (sym (p.is (pos 1) (pos 0)) ∙ combination-is x (pos 1) (pos 0) s t) in
    let r : p.right ≡ coefficient x t.parts = second-of p.left p.right (coefficient x s.parts) (coefficient x t.parts) (sym (p.is (pos 0) (pos 1)) ∙ combination-is x (pos 0) (pos 1) s t) in
    record {
      is = combination-coefficient x (pos 1) s m t ∙ once (coefficient x s.parts) (m *ℤ coefficient x t.parts);
      product = by_value _ _ (ap (λ z. m *ℤ z) (sym r)) (p.second (pos 1) m rest);
      sum = by_value _ _ (sym (once (coefficient x s.parts) (m *ℤ coefficient x t.parts)) ∙ sums (sym l) (sym r)) (p.sum (pos 1) m rest);
    }
  where
    sums : {u v w z : ℤ} → u ≡ v → w ≡ z → pos 1 *ℤ u +ℤ m *ℤ w ≡ pos 1 *ℤ v +ℤ m *ℤ z
    sums e d = rw (e, d) refl

-- ---- the whole check

steps-cons : (of : Linear → ℤ) (rows : List Row) (s r : ℤ) (p : ℕ × ℤ) (ps : List (ℕ × ℤ)) → StepFits s p.1 (of (row_at rows p.0).term) r → first_wide (column_steps of rows r ps) ≡ None → first_wide (column_steps of rows s (p ∷ ps)) ≡ None
unfolding column_steps
steps-cons of rows s r p ps f n =
    let z = of (row_at rows p.0).term in
    let m : first_wide (column_steps of rows (s +ℤ p.1 *ℤ z) ps) ≡ None = rw (← f.is) n in
    product-fits p.1 z (sum_of s (p.1 *ℤ z) ∷ column_steps of rows (s +ℤ p.1 *ℤ z) ps) f.product ∙ sum-fits s (p.1 *ℤ z) (column_steps of rows (s +ℤ p.1 *ℤ z) ps) f.sum ∙ m

steps-nil : (of : Linear → ℤ) (rows : List Row) (s : ℤ) → first_wide (column_steps of rows s []) ≡ None
unfolding column_steps
steps-nil of rows s = first_wide-nil

row-ascends : (rows : List Row) (i : ℕ) → AllByRecursion (λ r. AscendFrom 0 r.term.parts) rows → AscendFrom 0 (row_at rows i).term.parts
row-ascends [] i a = tt
row-ascends (r ∷ rows) zero a = a.0
row-ascends (r ∷ rows) (suc i) a = row-ascends rows i a.1

-- the first results, and those after them
record IsChecked (rows : List Row) (sum : Linear) (p : ℕ × ℤ) (ps : List (ℕ × ℤ)) : Type 0 where
  one : first_wide (combination_steps (pos 1) sum p.1 (row_at rows p.0).term) ≡ None
  others : first_wide (check_steps rows (combination (pos 1) sum p.1 (row_at rows p.0).term) ps) ≡ None

check-apart : (rows : List Row) (sum : Linear) (p : ℕ × ℤ) (ps : List (ℕ × ℤ)) → first_wide (check_steps rows sum (p ∷ ps)) ≡ None → IsChecked rows sum p ps
unfolding check_steps
check-apart rows sum p ps n = record { one = narrow-left _ (check_steps rows (combination (pos 1) sum p.1 (row_at rows p.0).term) ps) n; others = narrow-right (combination_steps (pos 1) sum p.1 (row_at rows p.0).term) _ n }

pub constants-fit : (rows : List Row) (sum : Linear) (leaf : List (ℕ × ℤ)) → first_wide (check_steps rows sum leaf) ≡ None → first_wide (column_steps constant_of rows sum.constant leaf) ≡ None
constants-fit rows sum [] n = steps-nil constant_of rows sum.constant
constants-fit rows sum (p ∷ ps) n =
    let s = check-apart rows sum p ps n in
    steps-cons constant_of rows sum.constant _ p ps (constant-step sum p.1 (row_at rows p.0).term s.one) (constants-fit rows (combination (pos 1) sum p.1 (row_at rows p.0).term) ps s.others)

pub coefficients-fit : (x : ℕ) (rows : List Row) (sum : Linear) (leaf : List (ℕ × ℤ)) → AllByRecursion (λ r. AscendFrom 0 r.term.parts) rows → AscendFrom 0 sum.parts → first_wide (check_steps rows sum leaf) ≡ None → first_wide (column_steps (coefficient_of x) rows (coefficient x sum.parts) leaf) ≡ None
coefficients-fit x rows sum [] a b n = steps-nil (coefficient_of x) rows (coefficient x sum.parts)
coefficients-fit x rows sum (p ∷ ps) a b n =
    let s = check-apart rows sum p ps n in
    let r = row-ascends rows p.0 a in
    steps-cons (coefficient_of x) rows (coefficient x sum.parts) _ p ps (coefficient-step x sum p.1 (row_at rows p.0).term b r s.one) (coefficients-fit x rows (combination (pos 1) sum p.1 (row_at rows p.0).term) ps a (combination-ascends (pos 1) sum p.1 (row_at rows p.0).term b r) s.others)
