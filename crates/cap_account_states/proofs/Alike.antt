-- Values that are alike on some variables: the same whole numbers and, whatever the denominators,
-- the same fractions. What is said of these variables holds at both or at neither.
use Rattle.cap_account_resources.proofs.Order.{cancel, turned, grouped, swapped, relates-times, relates-or, not-both}
use Rattle.std.proofs.Common.{◌≡◌, ℕ, zero, suc, ◌+◌, ◌<◌, ℤ, pos, ◌+ℤ◌, ◌*ℤ◌, ◌<ℤ◌, List, [], ◌∷◌, ◌++◌, length, map, Some, arith, refl, sym, ap, ◌∙◌, subst, inl, inr}
use Rattle.std.specs.Prelude.{slice_get}
use Rattle.std.specs.List.{AllByRecursion}
use Rattle.std.proofs.lemmas.Int.{ints}
use Rattle.cap_numbers.proofs.Ring.{expand, product3}
use Rattle.cap_lin.specs.Linear.{Linear}
use Rattle.cap_lin.specs.Values.{Valuation, denominator, parts_value, value, amount}
use Rattle.cap_lin.specs.Solves.{value_by_sort, HoldsAs, Holds, IsWholeAt, Relates}
use Rattle.cap_lin.specs.declared.row.Row.{Row}
use Rattle.cap_lin.specs.declared.row.Kind.{Kind}
use Rattle.cap_lin.specs.declared.row.Kind.TheVariants.{Le, Lt, Eq, Ne}
use Rattle.cap_lin.specs.declared.row.Sort.{Sort}
use Rattle.cap_lin.specs.declared.row.Sort.TheVariants.{Int, Perm}
use Rattle.cap_lin.specs.declared.row.Op.{Op}
use Rattle.cap_lin.specs.declared.row.Op.TheVariants.{Le as AtMost, Lt as Less, Eq as Equal, Ne as Unequal}
use Rattle.cap_lin.proofs.Values.{value-nil, value-cons}
use Rattle.cap_prog.specs.declared.assertion.Comp.{Comp}
use Rattle.cap_prog.specs.Scopes.{Scope, HasSort, TermFits, CompFits}
use Rattle.cap_machine_accounts.specs.Assertions.{CompHolds}
use Rattle.cap_goal_spec.specs.States.{PlainState}
use Rattle.cap_rules.specs.Making.{opposite}
use Rattle.cap_account_resources.proofs.Lists.{within, some-same, none-some, all-more, get-first, get-join}
use Rattle.cap_account_states.proofs.Terms.{Vars, Over, vars-more, RowOver, value-is, amount-is, sum-agree, Agree}
use Rattle.cap_account_states.proofs.Meets.{Free, Usable, usable-old, usable-on, CellOver, cell-more, row-more, Meets, need, Old, Same}
use Rattle.cap_account_states.proofs.Attempts.{sort_added}
use Rattle.cap_account_states.proofs.Values.{scaled, scaled-denominator}

-- on these variables the whole numbers are the same, and the numerators equal crosswise
pub record Alike (P : ℕ → Type 0) (v w : Valuation) : Type 0 where
  pub whole : (x : ℕ) → P x → w.whole x ≡ v.whole x
  pub share :
      (x : ℕ) → P x →
      w.fraction.numerator x *ℤ denominator v.fraction
      ≡ v.fraction.numerator x *ℤ denominator w.fraction

-- ---- numbers that equal crosswise

pub above-zero : (v : Valuation) → pos 0 <ℤ denominator v.fraction
above-zero v = omega (arith, ints)

-- a positive factor of both sides is left out
pub relates-undo :
    (op : Op) (a b m : ℤ) → pos 0 <ℤ m → Relates op (a *ℤ m) (b *ℤ m) → Relates op a b
relates-undo op a b m h k = elim (relates-or op a b) [
  | inl r ↦ r
  | inr n ↦ absurd (not-both op (a *ℤ m) (b *ℤ m) k (relates-times (opposite op) a b m h n))
]

-- x over a equals y over b, and y over b equals z over c
cross-trans :
    (x y z a b c : ℤ) → pos 0 <ℤ b → y *ℤ a ≡ x *ℤ b → z *ℤ b ≡ y *ℤ c → z *ℤ a ≡ x *ℤ c
cross-trans x y z a b c h e f =
    cancel (z *ℤ a) (x *ℤ c) b h
    (swapped z a b ∙ ap (λ u. u *ℤ a) f ∙ swapped y c a ∙ ap (λ u. u *ℤ c) e ∙ swapped x b c)

cross-relates :
    (op : Op) (a b x y c d : ℤ) → pos 0 <ℤ c → pos 0 <ℤ d → x *ℤ c ≡ a *ℤ d → y *ℤ c ≡ b *ℤ d →
    Relates op a b → Relates op x y
cross-relates op a b x y c d hc hd e f k =
    relates-undo op x y c hc
    (subst (λ z. Relates op (x *ℤ c) z) (sym f)
    (subst (λ z. Relates op z (b *ℤ d)) (sym e) (relates-times op a b d hd k)))

cross-holds :
    (k : Kind) (a x c d : ℤ) → pos 0 <ℤ c → pos 0 <ℤ d → x *ℤ c ≡ a *ℤ d → HoldsAs k a → HoldsAs k x
cross-holds k a x c d hc hd e h = by k h
  where
    zero : pos 0 *ℤ c ≡ pos 0 *ℤ d
    zero = omega (arith, ints)

    by : (k : Kind) → HoldsAs k a → HoldsAs k x
    by Le h = cross-relates AtMost a (pos 0) x (pos 0) c d hc hd e zero h
    by Lt h = cross-relates Less a (pos 0) x (pos 0) c d hc hd e zero h
    by Eq h = cross-relates Equal a (pos 0) x (pos 0) c d hc hd e zero h
    by Ne h = cross-relates Unequal a (pos 0) x (pos 0) c d hc hd e zero h

-- ---- it is an equivalence, and what it comes from

pub alike-same : (P : ℕ → Type 0) (v : Valuation) → Alike P v v
alike-same P v = record { whole = λ x h. refl; share = λ x h. refl }

pub alike-back : (P : ℕ → Type 0) (v w : Valuation) → Alike P v w → Alike P w v
alike-back P v w a =
    record { whole = λ x h. sym (a.whole x h); share = λ x h. sym (a.share x h) }

pub alike-trans : (P : ℕ → Type 0) (u v w : Valuation) → Alike P u v → Alike P v w → Alike P u w
alike-trans P u v w a b = record {
  whole = λ x h. b.whole x h ∙ a.whole x h;
  share =
      λ x h. cross-trans (u.fraction.numerator x) (v.fraction.numerator x) (w.fraction.numerator x)
      (denominator u.fraction) (denominator v.fraction) (denominator w.fraction) (above-zero v)
      (a.share x h) (b.share x h);
}

pub alike-less :
    (P Q : ℕ → Type 0) (v w : Valuation) → ((x : ℕ) → P x → Q x) → Alike Q v w → Alike P v w
alike-less P Q v w f a = record {
  whole = λ x h. a.whole x (f x h);
  share = λ x h. a.share x (f x h);
}

pub agree-alike : (P : ℕ → Type 0) (v w : Valuation) → Agree P v w → Alike P v w
agree-alike P v w a = record {
  whole = a.whole;
  share =
      λ x h. ap (λ z. z *ℤ denominator v.fraction) (a.share x h)
      ∙ ap (λ n. v.fraction.numerator x *ℤ pos (n + 1)) (sym a.under);
}

-- over one denominator these are the same
pub alike-agree :
    (P : ℕ → Type 0) (v w : Valuation) → w.fraction.under ≡ v.fraction.under → Alike P v w →
    Agree P v w
alike-agree P v w e a = record {
  under = e;
  whole = a.whole;
  share = λ x h.
      cancel (w.fraction.numerator x) (v.fraction.numerator x) (denominator v.fraction)
      (above-zero v) (a.share x h ∙ ap (λ n. v.fraction.numerator x *ℤ pos (n + 1)) e);
}

pub scaled-alike : (P : ℕ → Type 0) (m : ℕ) (v : Valuation) → Alike P v (scaled m v)
scaled-alike P m v = record {
  whole = λ x h. refl;
  share =
      λ x h. swapped (v.fraction.numerator x) (pos (m + 1)) (denominator v.fraction)
      ∙ grouped (v.fraction.numerator x) (denominator v.fraction) (pos (m + 1))
      ∙ ap (λ z. v.fraction.numerator x *ℤ z) (sym (scaled-denominator m v));
}

-- over another denominator, and then other values of other variables
pub scaled-agree-alike :
    (P : ℕ → Type 0) (m : ℕ) (v w : Valuation) → Agree P (scaled m v) w → Alike P v w
scaled-agree-alike P m v w a =
    alike-trans P v (scaled m v) w (scaled-alike P m v) (agree-alike P (scaled m v) w a)

-- in a state that goes on
pub alike-on :
    (s t : PlainState) (v w x : Valuation) → Same s t → Alike (Old s) v w → Alike (Old t) w x →
    Alike (Old s) v x
alike-on s t v w x m a b =
    alike-trans (Old s) v w x a
    (alike-less (Old s) (Old t) w x (λ y h. (let q = m.count in omega (arith, h, q))) b)

-- ---- terms

spread : (k a b d : ℤ) → (k *ℤ a +ℤ b) *ℤ d ≡ k *ℤ (a *ℤ d) +ℤ b *ℤ d
spread k a b d = simp expand (omega (arith, ints, product3))

sum-cross :
    (P : ℕ → Type 0) (f g : ℕ → ℤ) (d e : ℤ) → ((x : ℕ) → P x → g x *ℤ d ≡ f x *ℤ e) →
    (ps : List (ℕ × ℤ)) → Vars P ps → parts_value g ps *ℤ d ≡ parts_value f ps *ℤ e
sum-cross P f g d e q [] h = rw (value-nil g, value-nil f) (omega (arith, ints))
sum-cross P f g d e q (p ∷ ps) h =
    ap (λ z. z *ℤ d) (value-cons g p ps)
    ∙ spread p.1 (g p.0) (parts_value g ps) d
    ∙ ap (λ z. p.1 *ℤ z +ℤ parts_value g ps *ℤ d) (q p.0 h.0)
    ∙ ap (λ z. p.1 *ℤ (f p.0 *ℤ e) +ℤ z) (sum-cross P f g d e q ps h.1)
    ∙ sym (spread p.1 (f p.0) (parts_value f ps) e)
    ∙ ap (λ z. z *ℤ e) (sym (value-cons f p ps))

pub value-alike :
    (P : ℕ → Type 0) (v w : Valuation) → Alike P v w → (t : Linear) → Over P t →
    value w.whole t ≡ value v.whole t
value-alike P v w a t h =
    value-is w.whole t ∙ ap (λ z. t.constant +ℤ z) (sum-agree P v.whole w.whole a.whole t.parts h)
    ∙ sym (value-is v.whole t)

pub values-alike :
    (P : ℕ → Type 0) (v w : Valuation) → Alike P v w → (ts : List Linear) →
    AllByRecursion (Over P) ts → map (value w.whole) ts ≡ map (value v.whole) ts
values-alike P v w a [] h = refl
values-alike P v w a (t ∷ ts) h =
    ap (λ z. z ∷ map (value w.whole) ts) (value-alike P v w a t h.0)
    ∙ ap (λ zs. value v.whole t ∷ zs) (values-alike P v w a ts h.1)

-- of a term over usable variables
pub usable-alike :
    (ks : List ℕ) (s : PlainState) (v w : Valuation) → Alike (Old s) v w → (t : Linear) →
    Over (Usable ks s.sorts Int) t → value w.whole t ≡ value v.whole t
usable-alike ks s v w a t h =
    value-alike (Old s) v w a t
    (vars-more (Usable ks s.sorts Int) (Old s) (usable-old ks s.sorts Int) t.parts h)

pub amount-alike :
    (P : ℕ → Type 0) (v w : Valuation) → Alike P v w → (t : Linear) → Over P t →
    amount w.fraction t *ℤ denominator v.fraction ≡ amount v.fraction t *ℤ denominator w.fraction
amount-alike P v w a t h =
    let d = denominator v.fraction in
    let e = denominator w.fraction in
    let f = parts_value v.fraction.numerator t.parts in
    let g = parts_value w.fraction.numerator t.parts in
    ap (λ z. z *ℤ d) (amount-is w.fraction t)
    ∙ spread t.constant e g d
    ∙ ap (λ z. t.constant *ℤ z +ℤ g *ℤ d) (turned e d)
    ∙ ap (λ z. t.constant *ℤ (d *ℤ e) +ℤ z)
    (sum-cross P v.fraction.numerator w.fraction.numerator d e a.share t.parts h)
    ∙ sym (spread t.constant d f e)
    ∙ ap (λ z. z *ℤ e) (sym (amount-is v.fraction t))

-- what a number of this sort is over
abbrev pub base_of : Sort → Valuation → ℤ
base_of Int v = pos 1
base_of Perm v = denominator v.fraction

pub base-above : (o : Sort) (v : Valuation) → pos 0 <ℤ base_of o v
base-above Int v = omega (arith, ints)
base-above Perm v = above-zero v

pub number-alike :
    (P : ℕ → Type 0) (v w : Valuation) → Alike P v w → (o : Sort) (t : Linear) → Over P t →
    value_by_sort o w t *ℤ base_of o v ≡ value_by_sort o v t *ℤ base_of o w
number-alike P v w a Int t h = ap (λ z. z *ℤ pos 1) (value-alike P v w a t h)
number-alike P v w a Perm t h = amount-alike P v w a t h

-- ---- comparisons and rows

pub relates-alike :
    (P : ℕ → Type 0) (v w : Valuation) → Alike P v w → (o : Sort) (op : Op) (l r : Linear) →
    Over P l → Over P r → Relates op (value_by_sort o v l) (value_by_sort o v r) →
    Relates op (value_by_sort o w l) (value_by_sort o w r)
relates-alike P v w a o op l r h k m =
    cross-relates op (value_by_sort o v l) (value_by_sort o v r) (value_by_sort o w l)
    (value_by_sort o w r) (base_of o v) (base_of o w) (base-above o v) (base-above o w)
    (number-alike P v w a o l h) (number-alike P v w a o r k) m

pub row-alike :
    (R : Sort → ℕ → Type 0) (P : ℕ → Type 0) (v w : Valuation) →
    ((o : Sort) (x : ℕ) → R o x → P x) → Alike P v w → (r : Row) → RowOver R r → Holds v r →
    Holds w r
row-alike R P v w f a r h k =
    cross-holds r.kind (value_by_sort r.sort v r.term) (value_by_sort r.sort w r.term)
    (base_of r.sort v) (base_of r.sort w) (base-above r.sort v) (base-above r.sort w)
    (number-alike P v w a r.sort r.term (vars-more (R r.sort) P (f r.sort) r.term.parts h)) k

pub rows-alike :
    (R : Sort → ℕ → Type 0) (P : ℕ → Type 0) (v w : Valuation) →
    ((o : Sort) (x : ℕ) → R o x → P x) → Alike P v w → (rows : List Row) →
    AllByRecursion (RowOver R) rows → AllByRecursion (Holds v) rows → AllByRecursion (Holds w) rows
rows-alike R P v w f a [] h k = tt
rows-alike R P v w f a (r ∷ rs) h k =
    (row-alike R P v w f a r h.0 k.0, rows-alike R P v w f a rs h.1 k.1)

-- the names of an assertion
abbrev pub InScope : Scope → ℕ → Type 0
InScope sc x = (o : Sort) × HasSort sc o x

pub fits-over : (sc : Scope) (o : Sort) (t : Linear) → TermFits sc o t → Over (InScope sc) t
fits-over sc o t h = vars-more (HasSort sc o) (InScope sc) (λ x i. (o, i)) t.parts h

pub comp-alike :
    (P : ℕ → Type 0) (v w : Valuation) → Alike P v w → (c : Comp) → Over P c.left →
    Over P c.right → CompHolds v c → CompHolds w c
comp-alike P v w a c h k m = relates-alike P v w a c.sort c.op c.left c.right h k m

pub comp-fits-alike :
    (sc : Scope) (v w : Valuation) → Alike (InScope sc) v w → (c : Comp) → CompFits sc c →
    CompHolds v c → CompHolds w c
comp-fits-alike sc v w a c f h =
    comp-alike (InScope sc) v w a c (fits-over sc c.sort c.left f.0)
    (fits-over sc c.sort c.right f.1) h

-- ---- states

pub whole-alike :
    (P : ℕ → Type 0) (v w : Valuation) → Alike P v w → (x : ℕ) → P x → IsWholeAt v x →
    IsWholeAt w x
whole-alike P v w a x h i =
    let d = denominator v.fraction in
    let e = denominator w.fraction in
    cancel (w.fraction.numerator x) (w.whole x *ℤ e) d (above-zero v)
    (a.share x h ∙ ap (λ z. z *ℤ e) i ∙ swapped (v.whole x) d e
    ∙ ap (λ z. z *ℤ e *ℤ d) (sym (a.whole x h)))

pub positive-alike :
    (R : Sort → ℕ → Type 0) (P : ℕ → Type 0) (v w : Valuation) → ((x : ℕ) → R Int x → P x) →
    Alike P v w → (cs : List (Linear × Linear)) → AllByRecursion (CellOver R) cs →
    AllByRecursion (λ c. pos 0 <ℤ value v.whole c.0) cs →
    AllByRecursion (λ c. pos 0 <ℤ value w.whole c.0) cs
positive-alike R P v w f a [] h k = tt
positive-alike R P v w f a (c ∷ cs) h k = (
  subst (λ z. pos 0 <ℤ z)
      (sym (value-alike P v w a c.0 (vars-more (R Int) P f c.0.parts h.0.0))) k.0,
  positive-alike R P v w f a cs h.1 k.1,
)

pub need-alike :
    (R : Sort → ℕ → Type 0) (P : ℕ → Type 0) (v w : Valuation) → ((x : ℕ) → R Int x → P x) →
    Alike P v w → (cs : List (Linear × Linear)) → AllByRecursion (CellOver R) cs → (a z : ℤ) →
    need w cs a z ≡ need v cs a z
need-alike R P v w f a [] h x z = refl
need-alike R P v w f a (c ∷ cs) h x z =
    let d = value-alike P v w a c.0 (vars-more (R Int) P f c.0.parts h.0.0) in
    let e = value-alike P v w a c.1 (vars-more (R Int) P f c.1.parts h.0.1) in
    let g = need-alike R P v w f a cs h.1 x z in
    rw (d, e, g) refl

pub meets-alike :
    (ks : List ℕ) (v w : Valuation) (s : PlainState) → Alike (Old s) v w → Meets ks v s →
    Meets ks w s
meets-alike ks v w s a m = record {
  sorted = λ x e. whole-alike (Old s) v w a x (within s.sorts x Int e) (m.sorted x e);
  rows =
      rows-alike (Usable ks s.sorts) (Old s) v w (usable-old ks s.sorts) a s.rows m.rows_over
      m.rows;
  rows_over = m.rows_over;
  cells_over = m.cells_over;
  positive =
      positive-alike (Usable ks s.sorts) (Old s) v w (usable-old ks s.sorts Int) a s.cells
      m.cells_over m.positive;
  store_over = m.store_over;
}

-- other values, at which the same is known of all but the variables that are kept free
pub meets-agree :
    (ks : List ℕ) (v w : Valuation) (s : PlainState) →
    Agree (λ x. (x < length s.sorts) × Free ks x) v w →
    ((x : ℕ) → slice_get s.sorts x ≡ Some Int → IsWholeAt w x) → Meets ks v s → Meets ks w s
meets-agree ks v w s a whole m =
    let R = Usable ks s.sorts in
    let P : ℕ → Type 0 = λ x. (x < length s.sorts) × Free ks x in
    let near : (o : Sort) (x : ℕ) → R o x → P x = λ o x h. (usable-old ks s.sorts o x h, h.1) in
    let l = agree-alike P v w a in
    record {
      sorted = whole;
      rows = rows-alike R P v w near l s.rows m.rows_over m.rows;
      rows_over = m.rows_over;
      cells_over = m.cells_over;
      positive = positive-alike R P v w (near Int) l s.cells m.cells_over m.positive;
      store_over = m.store_over;
    }

-- ---- with a new variable

abbrev pub SortOk : Valuation → ℕ → Sort → Type 0
SortOk v x Int = IsWholeAt v x
SortOk v x Perm = Unit {0}

pub meets-fresh :
    (ks : List ℕ) (v w : Valuation) (s : PlainState) (o : Sort) → Agree (Old s) v w →
    SortOk w (length s.sorts) o → Meets ks v s → Meets ks w (sort_added s o)
meets-fresh ks v w s o a ok m =
    let b = meets-alike ks v w s (agree-alike (Old s) v w a) m in
    let R = Usable ks s.sorts in
    let S = Usable ks (s.sorts ++ o ∷ []) in
    record {
      sorted =
          λ x e. elim (get-join s.sorts (o ∷ []) x Int e)
          [ inl h ↦ b.sorted x h | inr h ↦ new x h.0 h.1 h.2 ];
      rows = b.rows;
      rows_over = all-more (RowOver R) (RowOver S) (row-more R S (more ks)) s.rows m.rows_over;
      cells_over =
          all-more (CellOver R) (CellOver S) (cell-more R S (more ks)) s.cells m.cells_over;
      positive = b.positive;
      store_over =
          all-more (Over (Usable [] s.sorts Int)) (Over (Usable [] (s.sorts ++ o ∷ []) Int))
          (λ t h. vars-more (Usable [] s.sorts Int) (Usable [] (s.sorts ++ o ∷ []) Int)
          (more [] Int) t.parts h) s.store m.store_over;
    }
  where
    more :
        (js : List ℕ) (p : Sort) (x : ℕ) → Usable js s.sorts p x →
        Usable js (s.sorts ++ o ∷ []) p x
    more js p x h =
        usable-on js s.sorts (s.sorts ++ o ∷ []) (λ y q e. get-first s.sorts (o ∷ []) y q e) p x h

    new : (x j : ℕ) → x ≡ length s.sorts + j → slice_get (o ∷ []) j ≡ Some Int → IsWholeAt w x
    new x zero e f =
        let q : o ≡ Int = some-same o Int f in
        let r : length s.sorts ≡ x = omega (arith, e) in
        subst (IsWholeAt w) r (subst (SortOk w (length s.sorts)) q ok)
    new x (suc j) e f = absurd (none-some f)
