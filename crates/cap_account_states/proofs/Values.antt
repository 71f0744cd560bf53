-- Other values at which the same assertions hold: over another denominator, with whole numbers as
-- fractions.
use Rattle.cap_account_resources.proofs.Order.{grouped, relates-times}
use Rattle.std.proofs.Common.{◌≡◌, ℕ, zero, suc, ◌+◌, ◌*◌, ℤ, pos, ◌+ℤ◌, ◌*ℤ◌, ◌<ℤ◌, List, [], ◌∷◌, arith, refl, sym, ap, ◌∙◌, subst, Option, Some}
use Rattle.std.specs.Prelude.{slice_get}
use Rattle.std.specs.List.{AllByRecursion}
use Rattle.std.proofs.lemmas.Int.{ints}
use Rattle.cap_numbers.proofs.Ring.{expand, product3}
use Rattle.cap_lin.specs.Linear.{Linear}
use Rattle.cap_lin.specs.Values.{Valuation, denominator, parts_value, value, amount}
use Rattle.cap_lin.specs.Solves.{value_by_sort, HoldsAs, Holds, Relates, IsWholeAt}
use Rattle.cap_lin.specs.declared.row.Row.{Row}
use Rattle.cap_lin.specs.declared.row.Sort.{Sort}
use Rattle.cap_lin.specs.declared.row.Sort.TheVariants.{Int, Perm}
use Rattle.cap_lin.specs.declared.row.Kind.{Kind}
use Rattle.cap_lin.specs.declared.row.Kind.TheVariants.{Le, Lt, Eq, Ne}
use Rattle.cap_lin.specs.declared.row.Op.{Op}
use Rattle.cap_lin.specs.declared.row.Op.TheVariants.{Le as AtMost, Lt as Less, Eq as Equal, Ne as Unequal}
use Rattle.cap_lin.proofs.Values.{value-nil, value-cons}
use Rattle.cap_prog.specs.declared.assertion.Comp.{Comp}
use Rattle.cap_prog.specs.Scopes.{Scope, HasSort, TermFits, CompFits}
use Rattle.cap_machine_accounts.specs.Assertions.{NameValue, IsNamed, AreNamed, AreWhole}
use Rattle.cap_goal_spec.specs.States.{PlainState}
use Rattle.cap_account_resources.proofs.Lists.{none-some, some-same}
use Rattle.cap_account_states.proofs.Terms.{value-is, amount-is, sum-agree, relates-same}
use Rattle.cap_account_states.proofs.Meets.{Meets}

-- the same whole numbers and, over a multiple of the denominator, the same fractions
pub record Like (sc : Scope) (a b : Valuation) : Type 0 where
  pub times : ℤ
  pub positive : pos 0 <ℤ times
  pub under : denominator b.fraction ≡ denominator a.fraction *ℤ times
  pub whole : (x : ℕ) → HasSort sc Int x → b.whole x ≡ a.whole x
  pub share : (x : ℕ) → HasSort sc Perm x → b.fraction.numerator x ≡ a.fraction.numerator x *ℤ times

pub like-value :
    (sc : Scope) (a b : Valuation) → Like sc a b → (t : Linear) → TermFits sc Int t →
    value b.whole t ≡ value a.whole t
like-value sc a b l t h =
    value-is b.whole t ∙ ap (λ z. t.constant +ℤ z)
    (sum-agree (HasSort sc Int) a.whole b.whole l.whole t.parts h) ∙ sym (value-is a.whole t)

-- sums of multiples
sum-times :
    (n : ℤ) (f g : ℕ → ℤ) (P : ℕ → Type 0) → ((x : ℕ) → P x → g x ≡ f x *ℤ n) →
    (ps : List (ℕ × ℤ)) → AllByRecursion (λ p. P p.0) ps → parts_value g ps ≡ parts_value f ps *ℤ n
sum-times n f g P e [] h = rw (value-nil g, value-nil f) (omega (arith, ints))
sum-times n f g P e (p ∷ ps) h =
    let x = e p.0 h.0 in
    let y = sum-times n f g P e ps h.1 in
    rw (value-cons g p ps, value-cons f p ps, x, y) (simp expand (omega (arith, ints, product3)))

amount-times : (n c d y : ℤ) → c *ℤ (d *ℤ n) +ℤ y *ℤ n ≡ (c *ℤ d +ℤ y) *ℤ n
amount-times n c d y = simp expand (omega (arith, ints, product3))

pub like-amount :
    (sc : Scope) (a b : Valuation) → (l : Like sc a b) → (t : Linear) → TermFits sc Perm t →
    amount b.fraction t ≡ amount a.fraction t *ℤ l.times
like-amount sc a b l t h =
    let y = sum-times l.times a.fraction.numerator b.fraction.numerator
    (HasSort sc Perm) l.share t.parts h in
    amount-is b.fraction t
    ∙ ap (λ d. t.constant *ℤ d +ℤ parts_value b.fraction.numerator t.parts) l.under
    ∙ ap (λ z. t.constant *ℤ (denominator a.fraction *ℤ l.times) +ℤ z) y
    ∙ amount-times l.times t.constant (denominator a.fraction)
    (parts_value a.fraction.numerator t.parts)
    ∙ ap (λ z. z *ℤ l.times) (sym (amount-is a.fraction t))

pub like-relates :
    (sc : Scope) (a b : Valuation) → Like sc a b → (c : Comp) (op : Op) → CompFits sc c →
    Relates op (value_by_sort c.sort a c.left) (value_by_sort c.sort a c.right) →
    Relates op (value_by_sort c.sort b c.left) (value_by_sort c.sort b c.right)
like-relates sc a b l c op f h = by c.sort f.0 f.1 h
  where
    by :
        (o : Sort) → TermFits sc o c.left → TermFits sc o c.right →
        Relates op (value_by_sort o a c.left) (value_by_sort o a c.right) →
        Relates op (value_by_sort o b c.left) (value_by_sort o b c.right)
    by Int f g k =
        relates-same op _ _ _ _ (sym (like-value sc a b l c.left f))
        (sym (like-value sc a b l c.right g)) k
    by Perm f g k =
        relates-same op _ _ _ _ (sym (like-amount sc a b l c.left f))
        (sym (like-amount sc a b l c.right g))
        (relates-times op (amount a.fraction c.left)
        (amount a.fraction c.right) l.times l.positive k)

one : (z : ℤ) → z ≡ z *ℤ pos 1
one z = omega (arith, ints)

-- ---- names of sort Int get their whole numbers as fractions

abbrev share_at : Option (Option Sort) → ℤ → ℤ → ℤ
share_at (Some (Some Int)) z y = z
share_at _ z y = y

abbrev pub normal : Scope → Valuation → Valuation
normal sc a = record {
  whole = a.whole;
  fraction = record {
    numerator =
        λ x. share_at (slice_get sc x) (a.whole x *ℤ denominator a.fraction)
        (a.fraction.numerator x);
    under = a.fraction.under;
  };
}

pub like-normal : (sc : Scope) (a : Valuation) → Like sc a (normal sc a)
like-normal sc a = record {
  times = pos 1;
  positive = omega (arith, ints);
  under = one (denominator a.fraction);
  whole = λ x h. refl;
  share =
      λ x h. ap (λ o. share_at o (a.whole x *ℤ denominator a.fraction) (a.fraction.numerator x)) h
      ∙ one (a.fraction.numerator x);
}

pub normal-whole :
    (sc : Scope) (a : Valuation) (x : ℕ) → HasSort sc Int x → IsWholeAt (normal sc a) x
normal-whole sc a x h =
    ap (λ o. share_at o (a.whole x *ℤ denominator a.fraction) (a.fraction.numerator x)) h

pub normal-perm :
    (sc : Scope) (a : Valuation) (x : ℕ) → HasSort sc Perm x →
    (normal sc a).fraction.numerator x ≡ a.fraction.numerator x
normal-perm sc a x h =
    ap (λ o. share_at o (a.whole x *ℤ denominator a.fraction) (a.fraction.numerator x)) h

-- ---- over a multiple of the denominator

abbrev pub scaled : ℕ → Valuation → Valuation
scaled m a = record {
  whole = a.whole;
  fraction = record {
    numerator = λ x. a.fraction.numerator x *ℤ pos (m + 1);
    under = a.fraction.under * m + a.fraction.under + m;
  };
}

pub scaled-denominator :
    (m : ℕ) (a : Valuation) →
    denominator (scaled m a).fraction ≡ denominator a.fraction *ℤ pos (m + 1)
scaled-denominator m a = ap pos same ∙ times (a.fraction.under + 1) (m + 1)
  where
    same : a.fraction.under * m + a.fraction.under + m + 1 ≡ (a.fraction.under + 1) * (m + 1)
    same = omega arith

    times : (x y : ℕ) → pos (x * y) ≡ pos x *ℤ pos y
    times x y = refl

pub m-positive : (m : ℕ) → pos 0 <ℤ pos (m + 1)
m-positive m = omega (arith, ints)

pub like-scaled : (sc : Scope) (m : ℕ) (a : Valuation) → Like sc a (scaled m a)
like-scaled sc m a = record {
  times = pos (m + 1);
  positive = m-positive m;
  under = scaled-denominator m a;
  whole = λ x h. refl;
  share = λ x h. refl;
}

all-units : (ps : List (ℕ × ℤ)) → AllByRecursion (λ p. Unit {0}) ps
all-units [] = tt
all-units (p ∷ ps) = (tt, all-units ps)

pub scaled-amount :
    (m : ℕ) (a : Valuation) (t : Linear) →
    amount (scaled m a).fraction t ≡ amount a.fraction t *ℤ pos (m + 1)
scaled-amount m a t =
    let y = sum-times (pos (m + 1)) a.fraction.numerator (scaled m a).fraction.numerator
    (λ x. Unit {0}) (λ x h. refl) t.parts (all-units t.parts) in
    amount-is (scaled m a).fraction t
    ∙ ap (λ d. t.constant *ℤ d +ℤ parts_value (scaled m a).fraction.numerator t.parts)
    (scaled-denominator m a)
    ∙ ap (λ z. t.constant *ℤ (denominator a.fraction *ℤ pos (m + 1)) +ℤ z) y
    ∙ amount-times (pos (m + 1)) t.constant (denominator a.fraction)
    (parts_value a.fraction.numerator t.parts)
    ∙ ap (λ z. z *ℤ pos (m + 1)) (sym (amount-is a.fraction t))

-- a row holds over a multiple of the denominator
holds-times : (k : Kind) (z m : ℤ) → pos 0 <ℤ m → HoldsAs k z → HoldsAs k (z *ℤ m)
holds-times Le z m h k = let q = relates-times AtMost z (pos 0) m h k in omega (arith, ints, q)
holds-times Lt z m h k = let q = relates-times Less z (pos 0) m h k in omega (arith, ints, q)
holds-times Eq z m h k = let q = relates-times Equal z (pos 0) m h k in omega (arith, ints, q)
holds-times Ne z m h k = λ e. relates-times Unequal z (pos 0) m h k (omega (arith, ints, e))

row-scaled : (m : ℕ) (v : Valuation) (r : Row) → Holds v r → Holds (scaled m v) r
row-scaled m v r h = by r.sort h
  where
    by :
        (o : Sort) → HoldsAs r.kind (value_by_sort o v r.term) →
        HoldsAs r.kind (value_by_sort o (scaled m v) r.term)
    by Int h = h
    by Perm h =
        subst (HoldsAs r.kind) (sym (scaled-amount m v r.term))
        (holds-times r.kind (amount v.fraction r.term) (pos (m + 1)) (m-positive m) h)

pub rows-scaled :
    (m : ℕ) (v : Valuation) (rs : List Row) → AllByRecursion (Holds v) rs →
    AllByRecursion (Holds (scaled m v)) rs
rows-scaled m v [] h = tt
rows-scaled m v (r ∷ rs) h = (row-scaled m v r h.0, rows-scaled m v rs h.1)

pub meets-scaled :
    (ks : List ℕ) (m : ℕ) (v : Valuation) (s : PlainState) → Meets ks v s → Meets ks (scaled m v) s
meets-scaled ks m v s h = record {
  sorted =
      λ x e. ap (λ z. z *ℤ pos (m + 1)) (h.sorted x e) ∙ grouped (v.whole x)
      (denominator v.fraction) (pos (m + 1)) ∙ ap (λ z. v.whole x *ℤ z)
      (sym (scaled-denominator m v));
  rows = rows-scaled m v s.rows h.rows;
  rows_over = h.rows_over;
  cells_over = h.cells_over;
  positive = h.positive;
  store_over = h.store_over;
}

-- ---- values by index

pub named-at :
    (v : Valuation) (x : ℕ) (ys : List NameValue) (i : ℕ) (y : NameValue) → AreNamed v x ys →
    slice_get ys i ≡ Some y → IsNamed v (x + i) y
named-at v x [] i y h e = absurd (none-some e)
named-at v x (z ∷ ys) zero y h e =
    let q : x ≡ x + 0 = omega arith in
    subst (λ n. IsNamed v n y) q (subst (IsNamed v x) (some-same z y e) h.0)
named-at v x (z ∷ ys) (suc i) y h e =
    let q : suc x + i ≡ x + suc i = omega arith in
    subst (λ n. IsNamed v n y) q (named-at v (suc x) ys i y h.1 e)

pub named-of :
    (v : Valuation) (x : ℕ) (ys : List NameValue) →
    ((i : ℕ) (y : NameValue) → slice_get ys i ≡ Some y → IsNamed v (x + i) y) → AreNamed v x ys
named-of v x [] f = tt
named-of v x (y ∷ ys) f = (
  (let q : x + 0 ≡ x = omega arith in subst (λ n. IsNamed v n y) q (f 0 y refl)),
  named-of v (suc x) ys
      (λ i z e. let q : x + suc i ≡ suc x + i = omega arith in subst (λ n. IsNamed v n z) q
      (f (suc i) z e)),
)

pub whole-at :
    (v : Valuation) (x : ℕ) (zs : List ℤ) (i : ℕ) (z : ℤ) → AreWhole v x zs →
    slice_get zs i ≡ Some z → v.whole (x + i) ≡ z
whole-at v x [] i z h e = absurd (none-some e)
whole-at v x (y ∷ zs) zero z h e =
    let q : x + 0 ≡ x = omega arith in ap v.whole q ∙ h.0 ∙ some-same y z e
whole-at v x (y ∷ zs) (suc i) z h e =
    let q : x + suc i ≡ suc x + i = omega arith in ap v.whole q ∙ whole-at v (suc x) zs i z h.1 e

pub whole-of :
    (v : Valuation) (x : ℕ) (zs : List ℤ) →
    ((i : ℕ) (z : ℤ) → slice_get zs i ≡ Some z → v.whole (x + i) ≡ z) → AreWhole v x zs
whole-of v x [] f = tt
whole-of v x (z ∷ zs) f = (
  (let q : x ≡ x + 0 = omega arith in ap v.whole q ∙ f 0 z refl),
  whole-of v (suc x) zs
      (λ i y e. let q : suc x + i ≡ x + suc i = omega arith in ap v.whole q ∙ f (suc i) y e),
)
