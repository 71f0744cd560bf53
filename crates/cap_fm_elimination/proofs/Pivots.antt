-- Pivots: the variables that choices give, and the first equation of which one does.
use Rattle.std.proofs.Common.{◌≡◌, ◌<◌, ◌≤◌, ℕ, zero, suc, ◌+◌, ℤ, pos, negsuc, ◌+ℤ◌, List, [], ◌∷◌, ◌++◌, length, get_or, drop, take, refl, sym, ap, ◌∙◌, arith, Bool, true, false, Option, Some, None}
use Rattle.std.specs.Prelude.{if◌then◌else◌, IfSome}
use Rattle.std.specs.List.{AllByRecursion}
use Rattle.std.proofs.lemmas.List.{drop_more, drop_all, take-append-drop, length-take-le, take_all}
use Rattle.std.proofs.lemmas.Int.{ints}
use Rattle.cap_lin.specs.Linear.{AscendFrom, is_zero, coefficient}
use Rattle.cap_lin.specs.declared.row.Kind.{Kind}
use Rattle.cap_lin.specs.declared.row.Kind.TheVariants.{Eq}
use Rattle.cap_lin.proofs.Results.{is_zero-no}
use Rattle.cap_lin.proofs.Places.{coefficient-nil, coefficient-same, coefficient-other}
use Rattle.cap_fm_spec.specs.Elimination.{chosen, occurring, is_unit, unit_variable, pivot, or_later, first_pivot}
use Rattle.cap_fm_elimination.specs.Views.{entry_view, entries_view}
use Rattle.cap_fm_elimination.specs.Answers.{IsPivotAt}
use Rattle.cap_fm_elimination.specs.Entries.{Entry}
use Rattle.cap_fm_elimination.proofs.Each.{each-more}

none-some : (x : ℕ) → ◌≡◌ {A = Option ℕ} None (Some x) → ⊥
none-some x e = cc

pub occurring-none : (x : ℕ) (k : Kind) (ps : List (ℕ × ℤ)) → k ≡ Eq → coefficient x ps ≡ pos 0 → ◌≡◌ {A = Option ℕ} None (chosen (occurring x) k ps)
unfolding occurring
occurring-none x k ps e z = rw (e, z) refl

pub occurring-some : (x : ℕ) (k : Kind) (ps : List (ℕ × ℤ)) → k ≡ Eq → (coefficient x ps ≡ pos 0 → ⊥) → ◌≡◌ {A = Option ℕ} (Some x) (chosen (occurring x) k ps)
unfolding occurring
occurring-some x k ps e z = rw (e, is_zero-no _ z) refl

unit-nil : unit_variable [] ≡ None
unfolding unit_variable
unit-nil = refl

unit-cons : (p : ℕ × ℤ) (ps : List (ℕ × ℤ)) → unit_variable (p ∷ ps) ≡ (if is_unit p.1 then Some p.0 else unit_variable ps)
unfolding unit_variable
unit-cons p ps = refl

pub unit-found : (ps : List (ℕ × ℤ)) (i : ℕ) (d : ℕ × ℤ) → i < length ps → is_unit (get_or ps i d).1 ≡ true → unit_variable (drop i ps) ≡ Some (get_or ps i d).0
unit-found ps i d l e = rw (drop_more ps i d l, unit-cons, e) refl

pub unit-passed : (ps : List (ℕ × ℤ)) (i : ℕ) (d : ℕ × ℤ) → i < length ps → is_unit (get_or ps i d).1 ≡ false → unit_variable (drop i ps) ≡ unit_variable (drop (i + 1) ps)
unit-passed ps i d l e = rw (drop_more ps i d l, unit-cons, e) refl

pub unit-none : (ps : List (ℕ × ℤ)) (i : ℕ) → length ps ≤ i → unit_variable (drop i ps) ≡ None
unit-none ps i l = rw (drop_all i ps l) unit-nil

-- ---- a variable that was chosen occurs

unit-nonzero : (z : ℤ) → is_unit z ≡ true → is_zero z ≡ false
unit-nonzero (pos zero) e = cc
unit-nonzero (pos (suc n)) e = refl
unit-nonzero (negsuc n) e = refl

unit-one : (z : ℤ) → is_unit z ≡ true → is_zero (z +ℤ pos 0) ≡ false
unit-one z e = let s : z +ℤ pos 0 ≡ z = omega (arith, ints) in rw s (unit-nonzero z e)

below-ascend : (x low : ℕ) (ps : List (ℕ × ℤ)) → x < low → AscendFrom low ps → coefficient x ps ≡ pos 0
below-ascend x low [] l a = coefficient-nil x
below-ascend x low (p ∷ ps) l a = let h = a.0 in coefficient-other x p ps (λ e. omega arith) ∙ below-ascend x (p.0 + 1) ps (omega arith) a.2

unit-at : (b : Bool) (low x : ℕ) (p : ℕ × ℤ) (ps : List (ℕ × ℤ)) → is_unit p.1 ≡ b → AscendFrom low (p ∷ ps) → (unit_variable ps ≡ Some x → (p.0 + 1 ≤ x) × (is_zero (coefficient x ps) ≡ false)) → (if b then Some p.0 else unit_variable ps) ≡ Some x → (low ≤ x) × (is_zero (coefficient x (p ∷ ps)) ≡ false)
unit-at true low x p ps u a ih e =
    let s : p.0 ≡ x = cc in
    let h = a.0 in
    let z = below-ascend x (p.0 + 1) ps (omega arith) a.2 in
    (omega arith, rw (coefficient-same x p ps s, z) (unit-one p.1 u))
unit-at false low x p ps u a ih e =
    let r = ih e in
    let h = a.0 in
    let q = r.0 in
    (omega arith, rw (coefficient-other x p ps (λ d. omega arith)) r.1)

unit-from : (low x : ℕ) (ps : List (ℕ × ℤ)) → AscendFrom low ps → unit_variable ps ≡ Some x → (low ≤ x) × (is_zero (coefficient x ps) ≡ false)
unit-from low x [] a e = absurd (none-some x (sym unit-nil ∙ e))
unit-from low x (p ∷ ps) a e = unit-at (is_unit p.1) low x p ps refl a (unit-from (p.0 + 1) x ps a.2) (sym (unit-cons p ps) ∙ e)

pub unit-occurs : (x : ℕ) (ps : List (ℕ × ℤ)) → AscendFrom 0 ps → unit_variable ps ≡ Some x → is_zero (coefficient x ps) ≡ false
unit-occurs x ps a e = (unit-from 0 x ps a e).1

pub unit-some : (r : Option ℕ) (ps qs : List (ℕ × ℤ)) → qs ≡ ps → AscendFrom 0 qs → r ≡ unit_variable qs → IfSome r (λ x. is_zero (coefficient x ps) ≡ false)
unit-some (Some x) ps qs d a e = let h = unit-occurs x qs a (sym e) in rw d at h
unit-some None ps qs d a e = tt

-- ---- the first equation of which a choice gives a variable

abbrev pub IsPassed : (List (ℕ × ℤ) → Option ℕ) → Entry → Type 0
IsPassed choice d = chosen choice d.kind d.term.parts ≡ None

pivot-nil : (choice : List (ℕ × ℤ) → Option ℕ) → first_pivot choice [] ≡ None
unfolding first_pivot
pivot-nil choice = refl

pivot-cons : (choice : List (ℕ × ℤ) → Option ℕ) (d : Entry) (ds : List Entry) → first_pivot choice (entries_view (d ∷ ds)) ≡ or_later (entry_view d) (entries_view ds) (chosen choice d.kind d.term.parts) (first_pivot choice (entries_view ds))
unfolding first_pivot
pivot-cons choice d ds = refl

pub pivot-none : (choice : List (ℕ × ℤ) → Option ℕ) (ds : List Entry) → AllByRecursion (IsPassed choice) ds → first_pivot choice (entries_view ds) ≡ None
pivot-none choice [] n = pivot-nil choice
pivot-none choice (d ∷ ds) n = rw (pivot-cons choice d ds, n.0, pivot-none choice ds n.1) refl

pub pivot-first : (choice : List (ℕ × ℤ) → Option ℕ) (before : List Entry) (equation : Entry) (after : List Entry) (x : ℕ) → AllByRecursion (IsPassed choice) before → chosen choice equation.kind equation.term.parts ≡ Some x → first_pivot choice (entries_view (before ++ (equation ∷ after))) ≡ Some (pivot (entry_view equation) (entries_view (before ++ after)) x)
pivot-first choice [] equation after x n e = rw (pivot-cons choice equation after, e) refl
pivot-first choice (d ∷ before) equation after x n e = rw (pivot-cons choice d (before ++ (equation ∷ after)), n.0, pivot-first choice before equation after x n.1 e) refl

pub found : (choice : List (ℕ × ℤ) → Option ℕ) (rows : List Entry) (i x : ℕ) (d : Entry) → i < length rows → d ≡ get_or rows i d → AllByRecursion (IsPassed choice) (take i rows) → Some x ≡ chosen choice d.kind d.term.parts → is_zero (coefficient x d.term.parts) ≡ false → IsPivotAt choice rows (record { place = i; variable = x })
found choice rows i x d l g n e z =
    let s : rows ≡ take i rows ++ (d ∷ drop (i + 1) rows) = sym (take-append-drop i rows) ∙ ap (λ ds. take i rows ++ ds) (drop_more rows i d l ∙ ap (λ r. r ∷ drop (i + 1) rows) (sym g)) in
    record {
      before = take i rows;
      equation = d;
      after = drop (i + 1) rows;
      rows_are = s;
      place = sym (length-take-le i rows (omega arith));
      has = z;
      is = ap (λ ds. first_pivot choice (entries_view ds)) s ∙ pivot-first choice (take i rows) d (drop (i + 1) rows) x n (sym e);
    }

pub passed-more : (choice : List (ℕ × ℤ) → Option ℕ) (rows : List Entry) (i : ℕ) (d : Entry) → i < length rows → d ≡ get_or rows i d → None ≡ chosen choice d.kind d.term.parts → AllByRecursion (IsPassed choice) (take i rows) → AllByRecursion (IsPassed choice) (take (i + 1) rows)
passed-more choice rows i d l g e n = each-more _ rows i d l (ap (λ r. chosen choice r.kind r.term.parts) (sym g) ∙ sym e) n

pub passed-all : (choice : List (ℕ × ℤ) → Option ℕ) (rows : List Entry) (i : ℕ) → length rows ≤ i → AllByRecursion (IsPassed choice) (take i rows) → first_pivot choice (entries_view rows) ≡ None
passed-all choice rows i l n = pivot-none choice rows (rw (take_all i rows l) at n)
