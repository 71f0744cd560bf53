-- The terms for an action's names, and the guards that it wants, under values of these names.
use Rattle.cap_account_resources.proofs.Lists.{join-assoc, join-nil, some-same, none-some, within, there-is, get-join}
use Rattle.std.proofs.Common.{◌≡◌, ℕ, zero, suc, ◌+◌, ◌-◌, ◌≤◌, ◌<◌, ℤ, pos, ◌+ℤ◌, ◌*ℤ◌, List, [], ◌∷◌, ◌++◌, length, get_or, Some, refl, sym, ap, ◌∙◌, subst, inl, inr, arith}
use Rattle.std.specs.Prelude.{slice_get}
use Rattle.std.specs.List.{AllByRecursion}
use Rattle.cap_lin.specs.Linear.{Linear, variable}
use Rattle.cap_lin.specs.Values.{Valuation, denominator, parts_value, value, amount}
use Rattle.cap_lin.specs.Solves.{value_by_sort, IsWholeAt}
use Rattle.cap_lin.specs.declared.row.Sort.{Sort}
use Rattle.cap_lin.specs.declared.row.Sort.TheVariants.{Int, Perm}
use Rattle.cap_prog.specs.Scopes.{Scope, HasSort, TermFits}
use Rattle.cap_goal_spec.specs.Terms.{term_over, variables_from}
use Rattle.cap_goal_spec.specs.Environments.{zero_value}
use Rattle.cap_rules.specs.Resting.{Names, names_below}
use Rattle.cap_account_states.proofs.Terms.{Vars, Over, vars-more, over-over, by_terms, value-is, amount-is, number-over, Agree, agree-same, agree-trans, agree-less, sum-agree, value-agree, amount-agree}
use Rattle.cap_account_states.proofs.Meets.{with_value, new-whole, new-share, with-agrees, variable-value, variable-amount}

-- ---- variables below a number

abbrev pub Low : ℕ → ℕ → Type 0
Low n x = x < n

pub whole-agree :
    (n : ℕ) (v w : Valuation) → Agree (Low n) v w → (x : ℕ) → x < n → IsWholeAt v x →
    IsWholeAt w x
whole-agree n v w a x l h =
    a.share x l
    ∙ (h
    ∙ (ap (λ z. z *ℤ denominator v.fraction) (sym (a.whole x l))
    ∙ ap (λ u. w.whole x *ℤ pos (u + 1)) (sym a.under)))

get-found : {A : Type 0} (xs : List A) (i : ℕ) (x d : A) → slice_get xs i ≡ Some x →
    get_or xs i d ≡ x
get-found [] i x d e = absurd (none-some e)
get-found (y ∷ xs) zero x d e = some-same y x e
get-found (y ∷ xs) (suc i) x d e = get-found xs i x d e

length-more : (x n : ℕ) (ts : List Linear) → length (ts ++ variables_from x n) ≡ length ts + n
length-more x n [] = base x n
  where
    base : (x n : ℕ) → length (variables_from x n) ≡ 0 + n
    base x zero = refl
    base x (suc n) = let q = base (suc x) n in omega (arith, q)
length-more x n (t ∷ ts) = let q = length-more x n ts in omega (arith, q)

-- there are as many terms as are needed
pub length-below : (W : Names) (n : ℕ) → n ≤ length (names_below W n).terms
length-below W n =
    let q = length-more W.next (n - length W.terms) W.terms in
    omega (arith, q)

-- the term over names that stand for these terms
abbrev pub named_term : List Linear → Linear → Linear
named_term ts t = term_over (λ x. get_or ts x zero_value) t

-- ---- names stand for values

module _ (X : Valuation) (sc : Scope) (normal : (x : ℕ) → HasSort sc Int x → IsWholeAt X x) where
  -- the terms are the names' values, over variables below a number
  pub record NamesOk (w : Valuation) (ts : List Linear) (next : ℕ) : Type 0 where
    pub under : w.fraction.under ≡ X.fraction.under
    pub whole_is : (i : ℕ) (t : Linear) → slice_get ts i ≡ Some t → value w.whole t ≡ X.whole i
    pub share_is :
        (i : ℕ) (t : Linear) → slice_get ts i ≡ Some t →
        amount w.fraction t ≡ X.fraction.numerator i
    pub below : (i : ℕ) (t : Linear) → slice_get ts i ≡ Some t → Over (Low next) t
    pub whole :
        (i : ℕ) (t : Linear) → slice_get ts i ≡ Some t → HasSort sc Int i →
        Over (IsWholeAt w) t

  both-more : (P Q R : ℕ → Type 0) → ((x : ℕ) → P x → Q x → R x) → (ps : List (ℕ × ℤ)) → Vars P ps →
      Vars Q ps → Vars R ps
  both-more P Q R f [] a b = tt
  both-more P Q R f (p ∷ ps) a b = (f p.0 a.0 b.0, both-more P Q R f ps a.1 b.1)

  pub names-agree :
      (v w : Valuation) (ts : List Linear) (next more : ℕ) → Agree (Low next) v w → next ≤ more →
      NamesOk v ts next → NamesOk w ts more
  names-agree v w ts next more a le h = record {
    under = a.under ∙ h.under;
    whole_is = λ i t e. value-agree (Low next) v w a t (h.below i t e) ∙ h.whole_is i t e;
    share_is = λ i t e. amount-agree (Low next) v w a t (h.below i t e) ∙ h.share_is i t e;
    below = λ i t e. vars-more (Low next) (Low more) (λ x l. omega (arith, l, le)) t.parts
        (h.below i t e);
    whole = λ i t e j.
        both-more (Low next) (IsWholeAt v) (IsWholeAt w) (λ x l o. whole-agree next v w a x l o)
        t.parts
        (h.below i t e) (h.whole i t e j);
  }

  -- a fresh variable with these values
  pub fresh-agree : (w : Valuation) (n : ℕ) (z y : ℤ) → Agree (Low n) w (with_value w n z y)
  fresh-agree w n z y = with-agrees (Low n) w n z y (λ x l e. omega (arith, l, e))

  -- one name more
  abbrev one_more : Valuation → List Linear → ℕ → Valuation
  one_more w ts next = with_value w next (X.whole (length ts)) (X.fraction.numerator (length ts))

  one-name :
      (w : Valuation) (ts : List Linear) (next : ℕ) → NamesOk w ts next →
      NamesOk (one_more w ts next) (ts ++ variable next ∷ []) (next + 1)
  one-name w ts next h =
      let w1 = one_more w ts next in
      let z = X.whole (length ts) in
      let y = X.fraction.numerator (length ts) in
      let old = names-agree w w1 ts next (next + 1) (fresh-agree w next z y) (omega arith) h in
      record {
        under = old.under;
        whole_is = λ i t e. elim (get-join ts (variable next ∷ []) i t e) [
          | inl g ↦ old.whole_is i t g
          | inr g ↦ new-whole-is i t g.0 g.1 g.2
        ];
        share_is = λ i t e. elim (get-join ts (variable next ∷ []) i t e) [
          | inl g ↦ old.share_is i t g
          | inr g ↦ new-share-is i t g.0 g.1 g.2
        ];
        below = λ i t e. elim (get-join ts (variable next ∷ []) i t e) [
          | inl g ↦ old.below i t g
          | inr g ↦ subst (Over (Low (next + 1))) (lone g.0 t g.2).1 (omega arith, tt)
        ];
        whole = λ i t e o. elim (get-join ts (variable next ∷ []) i t e) [
          | inl g ↦ old.whole i t g o
          | inr g ↦ tidy i t g.0 g.1 g.2 o
        ];
      }
    where
      z : ℤ
      z = X.whole (length ts)

      y : ℤ
      y = X.fraction.numerator (length ts)

      lone : (j : ℕ) (t : Linear) → slice_get (variable next ∷ []) j ≡ Some t →
          (j ≡ 0) × (variable next ≡ t)
      lone zero t e = (refl, some-same (variable next) t e)
      lone (suc j) t e = absurd (none-some e)

      at-end : (i : ℕ) (t : Linear) (j : ℕ) → i ≡ length ts + j →
          slice_get (variable next ∷ []) j ≡ Some t → length ts ≡ i
      at-end i t j q e = let l = (lone j t e).0 in omega (arith, q, l)

      new-whole-is : (i : ℕ) (t : Linear) (j : ℕ) → i ≡ length ts + j →
          slice_get (variable next ∷ []) j ≡ Some t → value (one_more w ts next).whole t ≡ X.whole i
      new-whole-is i t j q e =
          ap (value (one_more w ts next).whole) (sym (lone j t e).1)
          ∙ (variable-value (one_more w ts next) next
          ∙ (new-whole w next z y ∙ ap X.whole (at-end i t j q e)))

      new-share-is : (i : ℕ) (t : Linear) (j : ℕ) → i ≡ length ts + j →
          slice_get (variable next ∷ []) j ≡ Some t →
          amount (one_more w ts next).fraction t ≡ X.fraction.numerator i
      new-share-is i t j q e =
          ap (amount (one_more w ts next).fraction) (sym (lone j t e).1)
          ∙ (variable-amount (one_more w ts next) next
          ∙ (new-share w next z y ∙ ap X.fraction.numerator (at-end i t j q e)))

      tidy : (i : ℕ) (t : Linear) (j : ℕ) → i ≡ length ts + j →
          slice_get (variable next ∷ []) j ≡ Some t → HasSort sc Int i →
          Over (IsWholeAt (one_more w ts next)) t
      tidy i t j q e o =
          let w1 = one_more w ts next in
          let d : y ≡ z *ℤ denominator X.fraction =
          normal (length ts) (subst (HasSort sc Int) (sym (at-end i t j q e)) o) in
          let b : denominator X.fraction ≡ denominator w1.fraction =
          ap (λ u. pos (u + 1)) (sym h.under) in
          let r : IsWholeAt w1 next =
          new-share w next z y
          ∙ (d
          ∙ (ap (λ u. z *ℤ u) b
          ∙ ap (λ u. u *ℤ denominator w1.fraction) (sym (new-whole w next z y)))) in
          subst (Over (IsWholeAt w1)) (lone j t e).1 (r, tt)

  -- more names
  pub record MoreNames (w : Valuation) (ts us : List Linear) (next later : ℕ) : Type 0 where
    pub to : Valuation
    pub agree : Agree (Low next) w to
    pub ok : NamesOk to us later
    pub more : next ≤ later

  names-more :
      (c : ℕ) (w : Valuation) (ts : List Linear) (next : ℕ) → NamesOk w ts next →
      MoreNames w ts (ts ++ variables_from next c) next (next + c)
  names-more zero w ts next h = record {
    to = w;
    agree = agree-same (Low next) w;
    ok = names-agree w w (ts ++ []) next (next + 0) (agree-same (Low next) w) (omega arith)
        (subst (λ us. NamesOk w us next) (sym (join-nil ts)) h);
    more = omega arith;
  }
  names-more (suc c) w ts next h =
      let w1 = one_more w ts next in
      let e1 : suc next ≡ next + 1 = omega arith in
      let e2 : suc next + c ≡ next + suc c = omega arith in
      let h1 : NamesOk w1 (ts ++ variable next ∷ []) (suc next) =
      subst (NamesOk w1 (ts ++ variable next ∷ [])) (sym e1) (one-name w ts next h) in
      let m = names-more c w1 (ts ++ variable next ∷ []) (suc next) h1 in
      record {
        to = m.to;
        agree = agree-trans (Low next) w w1 m.to
            (fresh-agree w next (X.whole (length ts)) (X.fraction.numerator (length ts)))
            (agree-less (Low next) (Low (suc next)) w1 m.to (λ x l. omega (arith, l)) m.agree);
        ok = subst (NamesOk m.to (ts ++ variables_from next (suc c))) e2
            (subst (λ us. NamesOk m.to us (suc next + c))
            (sym (join-assoc ts (variable next ∷ []) (variables_from (suc next) c))) m.ok);
        more = omega arith;
      }

  pub names-up :
      (w : Valuation) (W : Names) (n : ℕ) → NamesOk w W.terms W.next →
      MoreNames w W.terms (names_below W n).terms W.next (names_below W n).next
  names-up w W n h = names-more (n - length W.terms) w W.terms W.next h

  -- ---- terms over the names

  -- what is true of a name's term
  name-at :
      (P : Linear → Type 0) (ts : List Linear) (x : ℕ) → x < length ts →
      ((t : Linear) → slice_get ts x ≡ Some t → P t) → P (get_or ts x zero_value)
  name-at P ts x l f =
      let g = there-is ts x l in
      subst P (sym (get-found ts x g.0 zero_value g.1)) (f g.0 g.1)

  pub named-value :
      (w : Valuation) (ts : List Linear) (next : ℕ) → NamesOk w ts next → (t : Linear) →
      Vars (Low (length ts)) t.parts → value w.whole (named_term ts t) ≡ value X.whole t
  named-value w ts next h t b =
      let e = λ (x : ℕ). get_or ts x zero_value in
      number-over Int w e t
      ∙ (value-is (by_terms w e).whole t
      ∙ (ap (λ z. t.constant +ℤ z)
      (sum-agree (Low (length ts)) X.whole (by_terms w e).whole
      (λ x l. name-at (λ u. value w.whole u ≡ X.whole x) ts x l (λ u i. h.whole_is x u i))
      t.parts b)
      ∙ sym (value-is X.whole t)))

  pub named-amount :
      (w : Valuation) (ts : List Linear) (next : ℕ) → NamesOk w ts next → (t : Linear) →
      Vars (Low (length ts)) t.parts → amount w.fraction (named_term ts t) ≡ amount X.fraction t
  named-amount w ts next h t b =
      let e = λ (x : ℕ). get_or ts x zero_value in
      number-over Perm w e t
      ∙ (amount-is (by_terms w e).fraction t
      ∙ (ap (λ u. t.constant *ℤ pos (u + 1) +ℤ parts_value
      (by_terms w e).fraction.numerator t.parts) h.under
      ∙ (ap (λ z. t.constant *ℤ denominator X.fraction +ℤ z)
      (sum-agree (Low (length ts)) X.fraction.numerator (by_terms w e).fraction.numerator
      (λ x l. name-at (λ u. amount w.fraction u ≡ X.fraction.numerator x) ts x l
      (λ u i. h.share_is x u i))
      t.parts b)
      ∙ sym (amount-is X.fraction t))))

  pub named-number :
      (w : Valuation) (ts : List Linear) (next : ℕ) → NamesOk w ts next → (o : Sort) (t : Linear) →
      Vars (Low (length ts)) t.parts → value_by_sort o w (named_term ts t) ≡ value_by_sort o X t
  named-number w ts next h Int t b = named-value w ts next h t b
  named-number w ts next h Perm t b = named-amount w ts next h t b

  -- names of the scope have terms, where there are enough
  pub scope-low :
      (n : ℕ) (o : Sort) (t : Linear) → length sc ≤ n → TermFits sc o t → Vars (Low n) t.parts
  scope-low n o t le f = each t.parts f
    where
      each : (ps : List (ℕ × ℤ)) → AllByRecursion (λ part. HasSort sc o part.0) ps → Vars (Low n) ps
      each [] g = tt
      each (p ∷ ps) g = ((let l = within sc p.0 (Some o) g.0 in omega (arith, l, le)), each ps g.1)

  pub named-whole :
      (w : Valuation) (ts : List Linear) (next : ℕ) → NamesOk w ts next → length sc ≤ length ts →
      (t : Linear) → TermFits sc Int t → Over (IsWholeAt w) (named_term ts t)
  named-whole w ts next h le t f =
      over-over (IsWholeAt w) (λ x. HasSort sc Int x) (λ x. get_or ts x zero_value) t
      (λ x i. name-at (Over (IsWholeAt w)) ts x
      (let l = within sc x (Some Int) i in omega (arith, l, le)) (λ u g. h.whole x u g i))
      (all-vars t.parts f)
    where
      all-vars : (ps : List (ℕ × ℤ)) → AllByRecursion (λ part. HasSort sc Int part.0) ps →
          Vars (λ x. HasSort sc Int x) ps
      all-vars [] g = tt
      all-vars (p ∷ ps) g = (g.0, all-vars ps g.1)
