-- The equation that is chosen among rows, and its variable.
use Rattle.std.proofs.Common.{◌≡◌, ℕ, ℤ, pos, ◌+◌, ◌≤◌, ◌<◌, List, [], ◌∷◌, arith, refl, sym, ◌∙◌, subst, Bool, true, false, Option, Some, None}
use Rattle.std.specs.Prelude.{if◌then◌else◌, option_map}
use Rattle.std.specs.List.{AllByRecursion}
use Rattle.std.proofs.lemmas.Int.{ints}
use Rattle.cap_lin.specs.Linear.{AscendFrom, is_zero, coefficient}
use Rattle.cap_lin.specs.declared.row.Kind.{Kind}
use Rattle.cap_lin.specs.declared.row.Kind.TheVariants.{Le, Lt, Eq, Ne}
use Rattle.cap_lin.proofs.Places.{coefficient-same, coefficient-other, coefficient-nil}
use Rattle.cap_fm_spec.specs.Runs.{Entry}
use Rattle.cap_fm_spec.specs.Elimination.{Pivot, pivot, passed, or_later, chosen, first_pivot, is_unit, unit_variable, occurring}
use Rattle.cap_fm_spec.proofs.Equations.{zero-true, zero-false}

-- ---- the first equation of which a choice gives a variable

pub record IsPivot (P : Entry → Type 0) (choice : List (ℕ × ℤ) → Option ℕ) (rows : List Entry) (p : Pivot) : Type 0 where
  pub kind : p.equation.kind ≡ Eq
  pub variable : choice p.equation.term.parts ≡ Some p.variable
  pub put : P p.equation → AllByRecursion P p.others → AllByRecursion P rows
  pub take : AllByRecursion P rows → P p.equation × AllByRecursion P p.others

chosen-some : (choice : List (ℕ × ℤ) → Option ℕ) (k : Kind) (ps : List (ℕ × ℤ)) (x : ℕ) → chosen choice k ps ≡ Some x → (k ≡ Eq) × (choice ps ≡ Some x)
chosen-some choice Le ps x e = absurd (cc)
chosen-some choice Lt ps x e = absurd (cc)
chosen-some choice Eq ps x e = (refl, e)
chosen-some choice Ne ps x e = absurd (cc)

pub pivot-is : (P : Entry → Type 0) (choice : List (ℕ × ℤ) → Option ℕ) (rows : List Entry) (p : Pivot) → first_pivot choice rows ≡ Some p → IsPivot P choice rows p
unfolding first_pivot
pivot-is P choice [] p e = absurd (clash e)
  where
    clash : ◌≡◌ {A = Option Pivot} None (Some p) → ⊥
    clash e = cc
pivot-is P choice (r ∷ rows) p e = by_choice (chosen choice r.kind r.term.parts) refl (pivot-is P choice rows) e
  where
    by_later : (l : Option Pivot) → first_pivot choice rows ≡ l → ((p : Pivot) → first_pivot choice rows ≡ Some p → IsPivot P choice rows p) → option_map (passed r) l ≡ Some p → IsPivot P choice (r ∷ rows) p
    by_later None d ih e = absurd (cc)
    by_later (Some l) d ih e =
        let i = ih l d in
        let same : passed r l ≡ p = cc in
        subst (IsPivot P choice (r ∷ rows)) same (record { kind = i.kind; variable = i.variable; put = λ a b. (b.0, i.put a b.1); take = λ a. let t = i.take a.1 in (t.0, (a.0, t.1)) })

    by_choice : (o : Option ℕ) → chosen choice r.kind r.term.parts ≡ o → ((p : Pivot) → first_pivot choice rows ≡ Some p → IsPivot P choice rows p) → or_later r rows o (first_pivot choice rows) ≡ Some p → IsPivot P choice (r ∷ rows) p
    by_choice (Some x) d ih e =
        let c = chosen-some choice r.kind r.term.parts x d in
        let same : pivot r rows x ≡ p = cc in
        subst (IsPivot P choice (r ∷ rows)) same (record { kind = c.0; variable = c.1; put = λ a b. (a, b); take = λ a. a })
    by_choice None d ih e = by_later (first_pivot choice rows) refl ih e

pub no-pivot : (choice : List (ℕ × ℤ) → Option ℕ) (rows : List Entry) → first_pivot choice rows ≡ None → AllByRecursion (λ r. r.kind ≡ Eq → choice r.term.parts ≡ None) rows
unfolding first_pivot
no-pivot choice [] e = tt
no-pivot choice (r ∷ rows) e = by_choice (chosen choice r.kind r.term.parts) refl (no-pivot choice rows) e
  where
    equation : (k : Kind) (ps : List (ℕ × ℤ)) → chosen choice k ps ≡ None → k ≡ Eq → choice ps ≡ None
    equation Le ps d i = cc
    equation Lt ps d i = cc
    equation Eq ps d i = d
    equation Ne ps d i = cc

    none-later : (l : Option Pivot) → option_map (passed r) l ≡ None → l ≡ None
    none-later None e = refl
    none-later (Some p) e = cc

    by_choice : (o : Option ℕ) → chosen choice r.kind r.term.parts ≡ o → (first_pivot choice rows ≡ None → AllByRecursion (λ r. r.kind ≡ Eq → choice r.term.parts ≡ None) rows) → or_later r rows o (first_pivot choice rows) ≡ None → AllByRecursion (λ r. r.kind ≡ Eq → choice r.term.parts ≡ None) (r ∷ rows)
    by_choice (Some x) d ih e = absurd (cc)
    by_choice None d ih e = (equation r.kind r.term.parts d, ih (none-later _ e))

-- ---- a variable that occurs

pub occurring-some : (x y : ℕ) (ps : List (ℕ × ℤ)) → occurring x ps ≡ Some y → (x ≡ y) × (coefficient x ps ≡ pos 0 → ⊥)
unfolding occurring
occurring-some x y ps e = by_test (is_zero (coefficient x ps)) refl e
  where
    by_test : (b : Bool) → is_zero (coefficient x ps) ≡ b → ◌≡◌ {A = Option ℕ} (if b then None else Some x) (Some y) → (x ≡ y) × (coefficient x ps ≡ pos 0 → ⊥)
    by_test true d e = absurd (cc)
    by_test false d e = (cc, zero-false _ d)

pub occurring-none : (x : ℕ) (ps : List (ℕ × ℤ)) → occurring x ps ≡ None → coefficient x ps ≡ pos 0
unfolding occurring
occurring-none x ps e = by_test (is_zero (coefficient x ps)) refl e
  where
    by_test : (b : Bool) → is_zero (coefficient x ps) ≡ b → ◌≡◌ {A = Option ℕ} (if b then None else Some x) None → coefficient x ps ≡ pos 0
    by_test true d e = zero-true _ d
    by_test false d e = absurd (cc)

-- ---- a variable with the coefficient 1 or -1

pub absent-below : (low x : ℕ) (ps : List (ℕ × ℤ)) → AscendFrom low ps → x < low → coefficient x ps ≡ pos 0
absent-below low x [] a h = coefficient-nil x
absent-below low x (p ∷ ps) a h = let l = a.0 in coefficient-other x p ps (λ e. absurd (omega arith)) ∙ absent-below (p.0 + 1) x ps a.2 (omega arith)

pub first-present : (low : ℕ) (p : ℕ × ℤ) (ps : List (ℕ × ℤ)) → AscendFrom low (p ∷ ps) → coefficient p.0 (p ∷ ps) ≡ pos 0 → ⊥
first-present low p ps a e =
    let z : coefficient p.0 ps ≡ pos 0 = absent-below (p.0 + 1) p.0 ps a.2 (omega arith) in
    let s = coefficient-same p.0 p ps refl in
    a.1 (omega (arith, ints))

pub unit-some : (low y : ℕ) (ps : List (ℕ × ℤ)) → AscendFrom low ps → unit_variable ps ≡ Some y → (low ≤ y) × (coefficient y ps ≡ pos 0 → ⊥)
unfolding unit_variable
unit-some low y [] a e = absurd (clash e)
  where
    clash : ◌≡◌ {A = Option ℕ} None (Some y) → ⊥
    clash e = cc
unit-some low y (p ∷ ps) a e = by_test (is_unit p.1) (λ d. unit-some (p.0 + 1) y ps a.2 d) e
  where
    by_test : (b : Bool) → (unit_variable ps ≡ Some y → (p.0 + 1 ≤ y) × (coefficient y ps ≡ pos 0 → ⊥)) → (if b then Some p.0 else unit_variable ps) ≡ Some y → (low ≤ y) × (coefficient y (p ∷ ps) ≡ pos 0 → ⊥)
    by_test true ih e = let d : p.0 ≡ y = cc in subst (λ z. (low ≤ z) × (coefficient z (p ∷ ps) ≡ pos 0 → ⊥)) d (a.0, first-present low p ps a)
    by_test false ih e = let i = ih e in let h = i.0 in let l = a.0 in (omega arith, λ z. i.1 (sym (coefficient-other y p ps (λ d. absurd (omega arith))) ∙ z))
