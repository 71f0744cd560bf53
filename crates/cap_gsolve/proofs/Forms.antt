-- The forms of two pieces of one atom whose elements compose: what the joined form's element is, and the rows.
use Rattle.std.proofs.Common.{◌≡◌, ℕ, zero, suc, ◌+◌, ◌-◌, ◌≤◌, ℤ, pos, negsuc, ◌≤ℤ◌, arith, refl, sym, ap, ◌∙◌, subst, List, [], ◌∷◌, inl, inr, Bool, true, false, Some, None, rules}
use Rattle.std.specs.Prelude.{◌==◌, if◌then◌else◌}
use Rattle.std.specs.List.{AllByRecursion}
use Rattle.std.proofs.lemmas.Bool.Decides.{nat_tests}
use Rattle.cap_lin.specs.Linear.{Linear, plus, minus}
use Rattle.cap_lin.specs.Values.{Valuation, parts_value, value, amount, denominator}
use Rattle.cap_lin.specs.Rows.{row_of}
use Rattle.cap_lin.specs.Solves.{Holds}
use Rattle.cap_lin.specs.declared.row.Sort.TheVariants.{Int, Perm}
use Rattle.cap_lin.specs.declared.row.Op.TheVariants.{Le as AtMost, Gt as Greater, Ge as AtLeast}
use Rattle.cap_lin.proofs.Rows.{row_of-means}
use Rattle.cap_lin.proofs.Values.{amount-plus}
use Rattle.std.proofs.lemmas.Int.{ints}
use Rattle.cap_galg.specs.Fractions.{plus as sum_of}
use Rattle.cap_galg.specs.Elements.{Element, nothing, one, share, tok, src, tokens, is_unit, compose}
use Rattle.cap_galg.specs.Algebras.{PlainAlgebra, unique, divisible, counting}
use Rattle.cap_galg.specs.Laws.Fractions.{plus-share}
use Rattle.cap_galg_indices.specs.Laws.Members.{from-ascends}
use Rattle.cap_galg.specs.Laws.Composition.{true_or_false, le-true, true-le, true-eq, and-true, if-some, some-same, IsSound, compose-comm, compose-nothing}
use Rattle.cap_gsolve.specs.declared.piece.Form.{Form}
use Rattle.cap_gsolve.specs.declared.piece.Form.TheVariants.{One, Share, Src, Tok, Span}
use Rattle.cap_gsolve.specs.Pieces.{is_joined, has_no_parts, is_above_zero, is_surely_some}
use Rattle.cap_gsolve.specs.Merge.{zero_term, one_term, added_rows, lone_rows, combined, combined_rows}
use Rattle.cap_gsolve.specs.Compat.{wanted_alone, never_compose, fits_rows}
use Rattle.cap_gsolve.specs.Meaning.{IsFormElement, Takes}
use Rattle.cap_gsolve.proofs.Ranges.{range-sound, range-some, indices-below}
use Rattle.cap_gsolve.proofs.Amounts.{one-amount, zero-amount, zero-value, amount-positive, amount-most, sum-most, sum-is, count-positive, counts-most, counts-sum, counts-rest}

-- ---- tokens

tokens-none : (k : ℕ) → (k == 0) ≡ true → tokens k ≡ nothing
tokens-none k e = ap (λ b. if b then nothing else tok k) e

tokens-some : (k : ℕ) → (k == 0) ≡ false → tokens k ≡ tok k
tokens-some k e = ap (λ b. if b then nothing else tok k) e

not-zero : (j k : ℕ) → (j == 0) ≡ false → (j + k == 0) ≡ false
not-zero j k e = grind (arith, nat_tests, e)

pub tokens-sound : (k : ℕ) → IsSound (tokens k)
tokens-sound k = by (k == 0) refl
  where
    by : (b : Bool) → (k == 0) ≡ b → IsSound (if b then nothing else tok k)
    by true e = tt
    by false e = grind (arith, nat_tests, e)

pub tokens-add : (j k : ℕ) → compose (tokens j) (tokens k) ≡ Some (tokens (j + k))
tokens-add j k = elim (true_or_false (j == 0)) [
  | inl e ↦ let h : k ≡ j + k = omega (arith, true-eq j 0 e) in rw (tokens-none j e) (ap (λ n. Some (tokens n)) h)
  | inr e ↦ elim (true_or_false (k == 0)) [
    | inl f ↦ let h : j ≡ j + k = omega (arith, true-eq k 0 f) in rw (tokens-none k f) (compose-nothing (tokens j) ∙ ap (λ n. Some (tokens n)) h)
    | inr f ↦ rw (tokens-some j e, tokens-some k f, tokens-some (j + k) (not-zero j k e)) refl
  ]
]

src-take : (n k : ℕ) (s : Element) → compose (src n) (tokens k) ≡ Some s → (k ≤ n) × (s ≡ src (n - k))
src-take n k s h = elim (true_or_false (k == 0)) [
  | inl e ↦
      let z = true-eq k 0 e in
      let d : n ≡ n - k = omega arith in
      let t : Some (src n) ≡ Some s = ap (compose (src n)) (sym (tokens-none k e)) ∙ h in
      (omega arith, sym (some-same _ _ t) ∙ ap src d)
  | inr e ↦
      let r = if-some _ _ _ (ap (compose (src n)) (sym (tokens-some k e)) ∙ h) in
      (true-le k n r.0, sym r.1)
]

pub src-give : (n k : ℕ) → k ≤ n → compose (src n) (tokens k) ≡ Some (src (n - k))
src-give n k l = elim (true_or_false (k == 0)) [
  | inl e ↦
      let z = true-eq k 0 e in
      let d : n ≡ n - k = omega arith in
      ap (compose (src n)) (tokens-none k e) ∙ ap (λ m. Some (src m)) d
  | inr e ↦ ap (compose (src n)) (tokens-some k e) ∙ ap (λ b. if b then Some (src (n - k)) else None) (le-true k n l)
]

-- ---- the element of one form

pub form-sound : (v : Valuation) (f : Form) (x : Element) → IsFormElement v f x → IsSound x
form-sound v One x h = subst IsSound (sym h) tt
form-sound v (Share t) x h = subst IsSound (sym h.3) h.1
form-sound v (Src t) x h = subst IsSound (sym h.2) tt
form-sound v (Tok t) x h = subst IsSound (sym h.2) (tokens-sound h.0)
form-sound v (Span a None) x h = subst IsSound (sym h.2) (from-ascends h.0, refl)
form-sound v (Span a (Some e)) x h = subst IsSound (sym h.5) (range-sound h.0 h.1)

constant-value : (n : ℕ → ℤ) (c : ℤ) (ps : List (ℕ × ℤ)) → has_no_parts ps ≡ true → is_above_zero c ≡ true → (k : ℕ) → value n (record { constant = c; parts = ps }) ≡ pos k → (k == 0) ≡ false
unfolding value parts_value
constant-value n (pos zero) ps e f k h = cc
constant-value n (negsuc m) ps e f k h = cc
constant-value n c (p ∷ ps) e f k h = cc
constant-value n (pos (suc m)) [] e f k h = nonzero k m (omega (arith, ints, h))
  where
    nonzero : (k m : ℕ) → k ≡ suc m → (k == 0) ≡ false
    nonzero k m e = grind (arith, nat_tests, e)

pub surely-some : (v : Valuation) (f : Form) (x : Element) → is_surely_some f ≡ true → IsFormElement v f x → is_unit x ≡ false
surely-some v One x e h = ap is_unit h
surely-some v (Share t) x e h = ap is_unit h.3
surely-some v (Src t) x e h = ap is_unit h.2
surely-some v (Tok t) x e h =
    let s = and-true (has_no_parts t.parts) (is_above_zero t.constant) e in
    ap is_unit (h.2 ∙ tokens-some h.0 (constant-value v.whole t.constant t.parts s.0 s.1 h.0 h.1))
surely-some v (Span a None) x e h = ap is_unit h.2
surely-some v (Span a (Some d)) x e h = ap is_unit (h.5 ∙ range-some h.0 h.1 (indices-below v a d h.0 h.1 e h.2 h.3))

start-holds : (v : Valuation) (a : Linear) (i : ℕ) → value v.whole a ≡ pos i → Holds v (row_of a AtLeast zero_term Int)
start-holds v a i e =
    let p = count-positive (value v.whole a) i e in
    (row_of-means v a AtLeast zero_term Int).1 (rw (zero-value v.whole) p)

pub added-hold : (v : Valuation) (f : Form) (x : Element) → IsFormElement v f x → AllByRecursion (Holds v) (added_rows f)
added-hold v One x h = tt
added-hold v (Share t) x h =
    let p = amount-positive v t h.0 h.1 h.2 in
    ((row_of-means v t Greater zero_term Perm).1 (rw (zero-amount v.fraction) p), tt)
added-hold v (Src t) x h =
    let p = count-positive (value v.whole t) h.0 h.1 in
    ((row_of-means v t AtLeast zero_term Int).1 (rw (zero-value v.whole) p), tt)
added-hold v (Tok t) x h =
    let p = count-positive (value v.whole t) h.0 h.1 in
    ((row_of-means v t AtLeast zero_term Int).1 (rw (zero-value v.whole) p), tt)
added-hold v (Span a None) x h = (start-holds v a h.0 h.1, tt)
added-hold v (Span a (Some e)) x h =
    (start-holds v a h.0 h.2, ((row_of-means v a AtMost e Int).1 (counts-most (value v.whole a) (value v.whole e) h.0 h.1 h.2 h.3 h.4), tt))

pub wanted-hold : (v : Valuation) (f : Form) (x : Element) → IsFormElement v f x → AllByRecursion (Holds v) (wanted_alone f)
wanted-hold v One x h = tt
wanted-hold v (Share t) x h = added-hold v (Share t) x h
wanted-hold v (Src t) x h = added-hold v (Src t) x h
wanted-hold v (Tok t) x h = added-hold v (Tok t) x h
wanted-hold v (Span a None) x h = (start-holds v a h.0 h.1, tt)
wanted-hold v (Span a (Some e)) x h = (start-holds v a h.0 h.2, tt)

most-holds : (v : Valuation) (t : Linear) → amount v.fraction t ≤ℤ denominator v.fraction → AllByRecursion (Holds v) (row_of t AtMost one_term Perm ∷ [])
most-holds v t h = ((row_of-means v t AtMost one_term Perm).1 (rw (one-amount v.fraction) h), tt)

pub lone-hold : (v : Valuation) (f : Form) (x : Element) → IsFormElement v f x → AllByRecursion (Holds v) (lone_rows f)
lone-hold v One x h = tt
lone-hold v (Share t) x h = most-holds v t (amount-most v t h.0 h.1 h.2)
lone-hold v (Src t) x h = tt
lone-hold v (Tok t) x h = tt
lone-hold v (Span a e) x h = tt

-- ---- two forms

-- the forms have elements that compose
pub record Meet (v : Valuation) (f g : Form) (s : Element) : Type 0 where
  pub first : Element
  pub second : Element
  pub is_first : IsFormElement v f first
  pub is_second : IsFormElement v g second
  pub whole : compose first second ≡ Some s

-- also the other way round
pub turned-whole : (v : Valuation) (f g : Form) (s : Element) → (m : Meet v f g s) → compose m.second m.first ≡ Some s
turned-whole v f g s m = compose-comm m.second m.first (form-sound v g m.second m.is_second) (form-sound v f m.first m.is_first) ∙ m.whole

pub record Combine (v : Valuation) (f g : Form) (s : Element) : Type 0 where
  pub element : IsFormElement v (combined f g) s
  pub rows : AllByRecursion (Holds v) (combined_rows f g)

shares : (v : Valuation) (a b : Linear) (s : Element) → Meet v (Share a) (Share b) s → Combine v (Share a) (Share b) s
shares v a b s m =
    let h = m.is_first in
    let k = m.is_second in
    let e : compose (share h.0) (share k.0) ≡ Some s = ap (compose (share h.0)) (sym k.3) ∙ ap (λ z. compose z m.second) (sym h.3) ∙ m.whole in
    let r = if-some _ _ _ e in
    let l = true-le _ _ r.0 in
    record {
      element = (sum_of h.0 k.0, plus-share h.0 k.0 h.1 k.1 l, sum-is v a b h.0 k.0 h.1 k.1 h.2 k.2, sym r.1);
      rows = most-holds v (plus a b) (sum-most v a b h.0 k.0 h.1 k.1 h.2 k.2 l);
    }

sources : (v : Valuation) (n k : Linear) (x y s : Element) → IsFormElement v (Src n) x → IsFormElement v (Tok k) y → compose x y ≡ Some s
    → IsFormElement v (Src (minus n k)) s × AllByRecursion (Holds v) (row_of k AtMost n Int ∷ [])
sources v n k x y s h j w =
    let e : compose (src h.0) (tokens j.0) ≡ Some s = ap (compose (src h.0)) (sym j.2) ∙ ap (λ z. compose z y) (sym h.2) ∙ w in
    let r = src-take h.0 j.0 s e in
    ((h.0 - j.0, counts-rest v n k h.0 j.0 h.1 j.1 r.0, r.1), ((row_of-means v k AtMost n Int).1 (counts-most (value v.whole k) (value v.whole n) j.0 h.0 j.1 h.1 r.0), tt))

pub combine : (b : PlainAlgebra) (v : Valuation) (f g : Form) (s : Element) → is_joined g ≡ true → Takes b f → Takes b g → Meet v f g s → Combine v f g s
combine unique v One One s jf h k m = absurd (let e : None ≡ Some s = ap (compose one) (sym m.is_second) ∙ ap (λ z. compose z m.second) (sym m.is_first) ∙ m.whole in cc)
combine divisible v (Share a) (Share b) s jf h k m = shares v a b s m
combine counting v (Src n) (Src j) s jf h k m = absurd (let e : None ≡ Some s = ap (compose (src m.is_first.0)) (sym m.is_second.2) ∙ ap (λ z. compose z m.second) (sym m.is_first.2) ∙ m.whole in cc)
combine counting v (Src n) (Tok j) s jf h k m = let r = sources v n j m.first m.second s m.is_first m.is_second m.whole in record { element = r.0; rows = r.1 }
combine counting v (Tok j) (Src n) s jf h k m = let r = sources v n j m.second m.first s m.is_second m.is_first (turned-whole v (Tok j) (Src n) s m) in record { element = r.0; rows = r.1 }
combine counting v (Tok i) (Tok j) s jf h k m =
    let p = m.is_first in
    let q = m.is_second in
    let e : compose (tokens p.0) (tokens q.0) ≡ Some s = ap (compose (tokens p.0)) (sym q.2) ∙ ap (λ z. compose z m.second) (sym p.2) ∙ m.whole in
    record { element = (p.0 + q.0, counts-sum v i j p.0 q.0 p.1 q.1, some-same _ _ (sym e ∙ tokens-add p.0 q.0)); rows = tt }
combine b v f g s jf h k m = first_of (cc, search rules)

-- forms that never compose
pub never-meet : (v : Valuation) (f g : Form) (s : Element) → never_compose (Some f) g ≡ true → Meet v f g s → ⊥
never-meet v One One s h m = let e : None ≡ Some s = ap (compose one) (sym m.is_second) ∙ ap (λ z. compose z m.second) (sym m.is_first) ∙ m.whole in cc
never-meet v (Src n) (Src j) s h m = let e : None ≡ Some s = ap (compose (src m.is_first.0)) (sym m.is_second.2) ∙ ap (λ z. compose z m.second) (sym m.is_first.2) ∙ m.whole in cc
never-meet v f g s h m = cc

-- the rows of a wanted form beside the one that is there
with-zero : (v : Valuation) (e : Linear) → amount v.fraction e ≤ℤ denominator v.fraction → amount v.fraction (plus e zero_term) ≤ℤ denominator v.fraction
with-zero v e h = rw (amount-plus v.fraction e zero_term, zero-amount v.fraction) (omega (arith, ints, h))

pub fits-alone : (v : Valuation) (f : Form) (x : Element) → IsFormElement v f x → AllByRecursion (Holds v) (fits_rows None f)
fits-alone v One x h = tt
fits-alone v (Share t) x h = most-holds v (plus t zero_term) (with-zero v t (amount-most v t h.0 h.1 h.2))
fits-alone v (Src t) x h = tt
fits-alone v (Tok t) x h = tt
fits-alone v (Span a e) x h = tt

pub fits-hold : (v : Valuation) (f g : Form) (s : Element) → Meet v f g s → AllByRecursion (Holds v) (fits_rows (Some f) g)
fits-hold v (Share a) (Share b) s m =
    let h = m.is_first in
    let k = m.is_second in
    let e : compose (share k.0) (share h.0) ≡ Some s = ap (compose (share k.0)) (sym h.3) ∙ ap (λ z. compose z m.first) (sym k.3) ∙ turned-whole v (Share a) (Share b) s m in
    let r = if-some _ _ _ e in
    most-holds v (plus b a) (sum-most v b a k.0 h.0 k.1 h.1 k.2 h.2 (true-le _ _ r.0))
fits-hold v One (Share b) s m = fits-alone v (Share b) m.second m.is_second
fits-hold v (Src n) (Share b) s m = fits-alone v (Share b) m.second m.is_second
fits-hold v (Tok k) (Share b) s m = fits-alone v (Share b) m.second m.is_second
fits-hold v (Span a e) (Share b) s m = fits-alone v (Share b) m.second m.is_second
fits-hold v (Tok k) (Src n) s m = (sources v n k m.second m.first s m.is_second m.is_first (turned-whole v (Tok k) (Src n) s m)).1
fits-hold v (Src n) (Tok k) s m = (sources v n k m.first m.second s m.is_first m.is_second m.whole).1
fits-hold v f g s m = tt
