-- What taking brings: the values of new variables, as the rules choose them. Half of a share may be
-- over a finer denominator than the share; at a coarser one all holds where it has the half.
use Rattle.std.proofs.Common.{◌≡◌, ◌⊎◌, ℕ, zero, suc, ◌+◌, ◌<◌, ℤ, pos, negsuc, ◌-ℤ◌, ◌*ℤ◌, Bool, true, false, nat_eq, if◌then◌else◌, List, [], ◌∷◌, ◌++◌, length, Option, Some, arith, refl, sym, ap, ◌∙◌, subst, inl, inr}
use Rattle.std.proofs.lemmas.Bool.{cases_eq}
use Rattle.std.proofs.lemmas.Bool.Decides.{nat_tests}
use Rattle.std.proofs.lemmas.Int.{ints}
use Rattle.cap_lin.specs.Linear.{Linear}
use Rattle.cap_lin.specs.Values.{Valuation, denominator, amount}
use Rattle.cap_lin.specs.Solves.{IsWholeAt}
use Rattle.cap_gsolve.specs.declared.piece.Form.{Form}
use Rattle.cap_gsolve.specs.declared.piece.Form.TheVariants as form
use Rattle.cap_gsolve.specs.declared.piece.Piece.{Piece}
use Rattle.cap_goal_spec.specs.States.{PlainState}
use Rattle.cap_account_resources.proofs.Order.{cancel, swapped}
use Rattle.cap_account_states.proofs.Scopes.{length-join}
use Rattle.cap_account_states.proofs.Terms.{Over, vars-more, Agree, agree-same, agree-trans, agree-less, amount-agree}
use Rattle.cap_account_states.proofs.Alike.{Alike, agree-alike, alike-agree, alike-back, alike-trans, alike-less, whole-alike, amount-alike, above-zero}
use Rattle.cap_account_states.proofs.Meets.{Old, with_value, new-whole, new-share, with-agrees}

-- ---- definitions

-- a new variable is a whole number, or a fraction: half of this share
pub data Bring : Type 0 where
  a_whole : ℤ → Bring
  a_half : Linear → Bring

-- from a variable on, the values are these
abbrev pub Brings : Valuation → ℕ → List Bring → Type 0
Brings w n [] = Unit {0}
Brings w n (a_whole z ∷ bs) = (w.whole n ≡ z) × IsWholeAt w n × Brings w (n + 1) bs
Brings w n (a_half t ∷ bs) =
    (w.whole n ≡ pos 0)
    × (w.fraction.numerator n *ℤ pos 2 ≡ amount w.fraction t)
    × Over (λ x. x < n) t
    × Brings w (n + 1) bs

-- a state has new variables with these values
pub record Brought (s t : PlainState) (w : Valuation) (bs : List Bring) : Type 0 where
  pub count : length t.sorts ≡ length s.sorts + length bs
  pub are : Brings w (length s.sorts) bs

-- an open amount brings half of the share out of which it is cut
abbrev pub form_brings : Form → List Bring
form_brings (form.Share t) = a_half t ∷ []
form_brings f = []

abbrev pub piece_brings : Bool → Option Piece → List Bring
piece_brings true (Some q) = form_brings q.form
piece_brings is_open q = []

-- ---- at alike values

-- half of a share is so at alike values
half-alike :
    (P : ℕ → Type 0) (v w : Valuation) (n : ℕ) (t : Linear) → Alike P v w → P n → Over P t →
    v.fraction.numerator n *ℤ pos 2 ≡ amount v.fraction t →
    w.fraction.numerator n *ℤ pos 2 ≡ amount w.fraction t
half-alike P v w n t l here o e =
    let d = denominator v.fraction in
    let f = denominator w.fraction in
    cancel (w.fraction.numerator n *ℤ pos 2) (amount w.fraction t) d (above-zero v)
    (swapped (w.fraction.numerator n) (pos 2) d
    ∙ ap (λ z. z *ℤ pos 2) (l.share n here)
    ∙ swapped (v.fraction.numerator n) f (pos 2)
    ∙ ap (λ z. z *ℤ f) e
    ∙ sym (amount-alike P v w l t o))

pub brings-alike :
    (n : ℕ) (bs : List Bring) (v w : Valuation) → Alike (λ x. x < n + length bs) v w →
    Brings v n bs → Brings w n bs
brings-alike n [] v w l h = tt
brings-alike n (a_whole z ∷ bs) v w l h =
    let P = λ (x : ℕ). x < n + length (a_whole z ∷ bs) in
    let here : P n = omega arith in (
      l.whole n here ∙ h.0,
      whole-alike P v w l n here h.1,
      brings-alike (n + 1) bs v w
          (alike-less (λ x. x < n + 1 + length bs) P v w (λ x m. omega (arith, m)) l) h.2,
    )
brings-alike n (a_half t ∷ bs) v w l h =
    let P = λ (x : ℕ). x < n + length (a_half t ∷ bs) in
    let here : P n = omega arith in (
      l.whole n here ∙ h.0,
      half-alike P v w n t l here
          (vars-more (λ x. x < n) P (λ x m. omega (arith, m)) t.parts h.2) h.1,
      h.2,
      brings-alike (n + 1) bs v w
          (alike-less (λ x. x < n + 1 + length bs) P v w (λ x m. omega (arith, m)) l) h.3,
    )

-- one variable more
alike-more :
    (n : ℕ) (v w : Valuation) → w.whole n ≡ v.whole n →
    w.fraction.numerator n *ℤ denominator v.fraction
    ≡ v.fraction.numerator n *ℤ denominator w.fraction →
    Alike (λ x. x < n) v w → Alike (λ x. x < n + 1) v w
alike-more n v w e f l = record {
  whole = λ x m. elim (cases_eq x n) [
    | inl q ↦ subst (λ y. w.whole y ≡ v.whole y) (sym q) e
    | inr ne ↦ l.whole x (omega (arith, m, ne))
  ];
  share = λ x m. elim (cases_eq x n) [
    | inl q ↦ subst
        (λ y. w.fraction.numerator y *ℤ denominator v.fraction
        ≡ v.fraction.numerator y *ℤ denominator w.fraction) (sym q) f
    | inr ne ↦ l.share x (omega (arith, m, ne))
  ];
}

-- halves of one share equal crosswise
halves-cross :
    (n : ℕ) (v w : Valuation) (t : Linear) → Alike (λ x. x < n) v w → Over (λ x. x < n) t →
    v.fraction.numerator n *ℤ pos 2 ≡ amount v.fraction t →
    w.fraction.numerator n *ℤ pos 2 ≡ amount w.fraction t →
    w.fraction.numerator n *ℤ denominator v.fraction
    ≡ v.fraction.numerator n *ℤ denominator w.fraction
halves-cross n v w t l o e q =
    let d = denominator v.fraction in
    let f = denominator w.fraction in
    cancel (w.fraction.numerator n *ℤ d) (v.fraction.numerator n *ℤ f) (pos 2) (omega (arith, ints))
    (swapped (w.fraction.numerator n) d (pos 2)
    ∙ ap (λ z. z *ℤ d) q
    ∙ amount-alike (λ x. x < n) v w l t o
    ∙ ap (λ z. z *ℤ f) (sym e)
    ∙ swapped (v.fraction.numerator n) (pos 2) f)

-- alike values of which the same is brought are alike on new variables too
pub brings-named :
    (n : ℕ) (bs : List Bring) (v w : Valuation) → Alike (λ x. x < n) v w → Brings v n bs →
    Brings w n bs → Alike (λ x. x < n + length bs) v w
brings-named n [] v w l h k =
    alike-less (λ x. x < n + length {A = Bring} []) (λ x. x < n) v w (λ x m. omega (arith, m)) l
brings-named n (a_whole z ∷ bs) v w l h k =
    let d = denominator v.fraction in
    let f = denominator w.fraction in
    let same = k.0 ∙ sym h.0 in
    let cross =
    ap (λ u. u *ℤ d) (k.1 ∙ ap (λ u. u *ℤ f) same) ∙ swapped (v.whole n) f d
    ∙ ap (λ u. u *ℤ f) (sym h.1) in
    alike-less (λ x. x < n + length (a_whole z ∷ bs)) (λ x. x < n + 1 + length bs) v w
    (λ x m. omega (arith, m))
    (brings-named (n + 1) bs v w (alike-more n v w same cross l) h.2 k.2)
brings-named n (a_half t ∷ bs) v w l h k =
    alike-less (λ x. x < n + length (a_half t ∷ bs)) (λ x. x < n + 1 + length bs) v w
    (λ x m. omega (arith, m))
    (brings-named (n + 1) bs v w
    (alike-more n v w (k.0 ∙ sym h.0) (halves-cross n v w t l h.2 h.1 k.1) l) h.3 k.3)

-- ---- one after the other

brings-join :
    (w : Valuation) (n : ℕ) (cs bs : List Bring) → Brings w n cs → Brings w (n + length cs) bs →
    Brings w n (cs ++ bs)
brings-join w n [] bs h k = subst (λ m. Brings w m bs) (omega arith) k
brings-join w n (a_whole z ∷ cs) bs h k = (
  h.0,
  h.1,
  brings-join w (n + 1) cs bs h.2 (subst (λ m. Brings w m bs) (omega arith) k),
)
brings-join w n (a_half t ∷ cs) bs h k = (
  h.0,
  h.1,
  h.2,
  brings-join w (n + 1) cs bs h.3 (subst (λ m. Brings w m bs) (omega arith) k),
)

-- nothing is brought where there is no new variable
pub brought-none :
    (s t : PlainState) (w : Valuation) → length t.sorts ≡ length s.sorts → Brought s t w []
brought-none s t w e = record { count = omega (arith, e); are = tt }

pub brought-join :
    (s t u : PlainState) (v w : Valuation) (cs bs : List Bring) → Brought s t v cs →
    Alike (Old t) v w → Brought t u w bs → Brought s u w (cs ++ bs)
brought-join s t u v w cs bs h l k =
    let n = length s.sorts in
    let m = length-join cs bs in
    let first = h.count in
    let second = k.count in
    record {
      count = omega (arith, m, first, second);
      are =
          brings-join w n cs bs
          (brings-alike n cs v w
          (alike-less (λ x. x < n + length cs) (Old t) v w (λ x i. omega (arith, i, first)) l) h.are)
          (subst (λ i. Brings w i bs) first k.are);
    }

-- so values that are alike on old variables, of which the same is brought, are alike on all
pub brought-named :
    (s t : PlainState) (w u : Valuation) (bs : List Bring) → Brought s t w bs →
    Alike (Old s) w u → Brings u (length s.sorts) bs → Alike (Old t) w u
brought-named s t w u bs h l k =
    let n = length s.sorts in
    let e = h.count in
    alike-less (Old t) (λ x. x < n + length bs) w u (λ x i. omega (arith, i, e))
    (brings-named n bs w u l h.are k)

-- ---- over the denominator that there is

-- each share, in turn, has a half there
abbrev pub HasHalves : Valuation → ℕ → List Bring → Type 0
HasHalves v n [] = Unit {0}
HasHalves v n (a_whole z ∷ bs) =
    HasHalves (with_value v n z (z *ℤ denominator v.fraction)) (n + 1) bs
HasHalves v n (a_half t ∷ bs) =
    (h : ℤ) × (h *ℤ pos 2 ≡ amount v.fraction t) × HasHalves (with_value v n (pos 0) h) (n + 1) bs

-- then these are values at which all holds
abbrev pub bring_values : (v : Valuation) (n : ℕ) (bs : List Bring) → HasHalves v n bs → Valuation
bring_values v n [] k = v
bring_values v n (a_whole z ∷ bs) k =
    bring_values (with_value v n z (z *ℤ denominator v.fraction)) (n + 1) bs k
bring_values v n (a_half t ∷ bs) k = bring_values (with_value v n (pos 0) k.0) (n + 1) bs k.2

-- one variable more leaves those below
before-agrees :
    (v u : Valuation) (n : ℕ) (z y : ℤ) → Agree (λ x. x < n + 1) (with_value v n z y) u →
    Agree (λ x. x < n) v u
before-agrees v u n z y h =
    agree-trans (λ x. x < n) v (with_value v n z y) u
    (with-agrees (λ x. x < n) v n z y (λ x l e. omega (arith, l, e)))
    (agree-less (λ x. x < n) (λ x. x < n + 1) (with_value v n z y) u (λ x l. omega (arith, l)) h)

pub bring-agrees :
    (v : Valuation) (n : ℕ) (bs : List Bring) (k : HasHalves v n bs) →
    Agree (λ x. x < n) v (bring_values v n bs k)
bring-agrees v n [] k = agree-same (λ x. x < n) v
bring-agrees v n (a_whole z ∷ bs) k =
    let y = z *ℤ denominator v.fraction in
    before-agrees v (bring_values (with_value v n z y) (n + 1) bs k) n z y
    (bring-agrees (with_value v n z y) (n + 1) bs k)
bring-agrees v n (a_half t ∷ bs) k =
    before-agrees v (bring_values (with_value v n (pos 0) k.0) (n + 1) bs k.2) n (pos 0) k.0
    (bring-agrees (with_value v n (pos 0) k.0) (n + 1) bs k.2)

pub bring-brings :
    (w v : Valuation) (n : ℕ) (bs : List Bring) → Brings w n bs → (k : HasHalves v n bs) →
    Brings (bring_values v n bs k) n bs
bring-brings w v n [] h k = tt
bring-brings w v n (a_whole z ∷ bs) h k =
    let d = denominator v.fraction in
    let now = with_value v n z (z *ℤ d) in
    let u = bring_values now (n + 1) bs k in
    let same = bring-agrees now (n + 1) bs k in
    let here : n < n + 1 = omega arith in
    let whole : IsWholeAt now n =
    new-share v n z (z *ℤ d) ∙ ap (λ x. x *ℤ d) (sym (new-whole v n z (z *ℤ d))) in (
      same.whole n here ∙ new-whole v n z (z *ℤ d),
      whole-alike (λ x. x < n + 1) now u (agree-alike (λ x. x < n + 1) now u same) n here whole,
      bring-brings w now (n + 1) bs h.2 k,
    )
bring-brings w v n (a_half t ∷ bs) h k =
    let now = with_value v n (pos 0) k.0 in
    let u = bring_values now (n + 1) bs k.2 in
    let same = bring-agrees now (n + 1) bs k.2 in
    let here : n < n + 1 = omega arith in
    let half : now.fraction.numerator n *ℤ pos 2 ≡ amount now.fraction t =
    ap (λ x. x *ℤ pos 2) (new-share v n (pos 0) k.0) ∙ k.1
    ∙ sym
    (amount-agree (λ x. x < n) v now
    (with-agrees (λ x. x < n) v n (pos 0) k.0 (λ x l e. omega (arith, l, e))) t h.2) in (
      same.whole n here ∙ new-whole v n (pos 0) k.0,
      half-alike (λ x. x < n + 1) now u n t (agree-alike (λ x. x < n + 1) now u same) here
          (vars-more (λ x. x < n) (λ x. x < n + 1) (λ x l. omega (arith, l)) t.parts h.2) half,
      h.2,
      bring-brings w now (n + 1) bs h.3 k.2,
    )

-- values that agree on those before have the same halves
with-agree :
    (n : ℕ) (z : ℤ) (x y : ℤ) (u v : Valuation) → y ≡ x → Agree (λ i. i < n) u v →
    Agree (λ i. i < n + 1) (with_value u n z x) (with_value v n z y)
with-agree n z x y u v e a = record {
  under = a.under;
  whole = λ i l. elim (cases_eq i n) [
    | inl q ↦ subst (λ j. (with_value v n z y).whole j ≡ (with_value u n z x).whole j) (sym q)
        (new-whole v n z y ∙ sym (new-whole u n z x))
    | inr ne ↦ ap (λ w. if nat_eq i n then z else w) (a.whole i (omega (arith, l, ne)))
  ];
  share = λ i l. elim (cases_eq i n) [
    | inl q ↦ subst
        (λ j. (with_value v n z y).fraction.numerator j
        ≡ (with_value u n z x).fraction.numerator j) (sym q)
        (new-share v n z y ∙ e ∙ sym (new-share u n z x))
    | inr ne ↦ apart i (omega (arith, l, ne)) ne
  ];
}
  where
    apart :
        (i : ℕ) → i < n → (i ≡ n → ⊥) →
        (with_value v n z y).fraction.numerator i ≡ (with_value u n z x).fraction.numerator i
    apart i l ne =
        let t : nat_eq i n ≡ false = grind (arith, nat_tests) in
        rw t (a.share i l)

pub halves-agree :
    (w u v : Valuation) (n : ℕ) (bs : List Bring) → Brings w n bs → Agree (λ x. x < n) u v →
    HasHalves u n bs → HasHalves v n bs
halves-agree w u v n [] h a k = tt
halves-agree w u v n (a_whole z ∷ bs) h a k =
    let x = z *ℤ denominator u.fraction in
    let y = z *ℤ denominator v.fraction in
    halves-agree w (with_value u n z x) (with_value v n z y) (n + 1) bs h.2
    (with-agree n z x y u v (ap (λ i. z *ℤ pos (i + 1)) a.under) a) k
halves-agree w u v n (a_half t ∷ bs) h a k = (
  k.0,
  k.1 ∙ sym (amount-agree (λ x. x < n) u v a t h.2),
  halves-agree w (with_value u n (pos 0) k.0) (with_value v n (pos 0) k.0) (n + 1) bs h.3
      (with-agree n (pos 0) k.0 k.0 u v refl a) k.2,
)

-- and there values of which the same is brought are these
pub here-agrees :
    (w u : Valuation) (n : ℕ) (bs : List Bring) → Brings w n bs → Agree (λ x. x < n) u w →
    (k : HasHalves u n bs) → Agree (λ x. x < n + length bs) (bring_values u n bs k) w
here-agrees w u n bs h a k =
    let P = λ (x : ℕ). x < n in
    let here = bring_values u n bs k in
    let b = bring-agrees u n bs k in
    let back = alike-back P u here (agree-alike P u here b) in
    alike-agree (λ x. x < n + length bs) here w (a.under ∙ sym b.under)
    (brings-named n bs here w (alike-trans P here u w back (agree-alike P u w a))
    (bring-brings w u n bs h k) h)

-- ---- whether each has one

parity : (n : ℕ) → ((m : ℕ) × (m + m ≡ n)) ⊎ ((m : ℕ) × (m + m + 1 ≡ n))
parity zero = inl (zero, refl)
parity (suc n) = elim (parity n) [
  | inl h ↦ let e = h.1 in inr (h.0, omega (arith, e))
  | inr h ↦ let e = h.1 in inl (suc h.0, omega (arith, e))
]

half-or : (a : ℤ) → ((h : ℤ) × (h *ℤ pos 2 ≡ a)) ⊎ ((h : ℤ) → h *ℤ pos 2 ≡ a → ⊥)
half-or (pos n) = elim (parity n) [
  | inl h ↦ let e = h.1 in inl (pos h.0, omega (arith, ints, e))
  | inr h ↦ let e = h.1 in inr (λ z q. omega (arith, ints, e, q))
]
half-or (negsuc n) = elim (parity (suc n)) [
  | inl h ↦ let e = h.1 in inl (pos 0 -ℤ pos h.0, omega (arith, ints, e))
  | inr h ↦ let e = h.1 in inr (λ z q. omega (arith, ints, e, q))
]

pub halves-or :
    (v : Valuation) (n : ℕ) (bs : List Bring) → HasHalves v n bs ⊎ (HasHalves v n bs → ⊥)
halves-or v n [] = inl tt
halves-or v n (a_whole z ∷ bs) =
    halves-or (with_value v n z (z *ℤ denominator v.fraction)) (n + 1) bs
halves-or v n (a_half t ∷ bs) = elim (half-or (amount v.fraction t)) [
  | inr none ↦ inr (λ k. none k.0 k.1)
  | inl h ↦ elim (halves-or (with_value v n (pos 0) h.0) (n + 1) bs) [
    | inl k ↦ inl (h.0, h.1, k)
    | inr none ↦ inr (λ k. none (subst (λ z. HasHalves (with_value v n (pos 0) z) (n + 1) bs)
        (cancel k.0 h.0 (pos 2) (omega (arith, ints)) (k.1 ∙ sym h.1)) k.2))
  ]
]
