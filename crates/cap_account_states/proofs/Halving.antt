-- An open amount is taken out of a share as half of it.
use Rattle.std.proofs.Common.{◌≡◌, ℕ, ◌<◌, pos, ◌<ℤ◌, Bool, true, false, List, [], ◌∷◌, length, Option, Some, None, refl, sym, ap, ◌∙◌, subst, arith, ◌+ℤ◌}
use Rattle.std.specs.Prelude.{is_some, ◌&&◌, if◌then◌else◌}
use Rattle.std.specs.List.{list_all}
use Rattle.std.proofs.lemmas.Int.{ints}
use Rattle.cap_lin.specs.Linear.{Linear, variable, minus}
use Rattle.cap_lin.specs.Steps.{minus_steps}
use Rattle.cap_lin.specs.Rows.{row_of}
use Rattle.cap_lin.specs.Values.{Valuation, amount}
use Rattle.cap_lin.specs.declared.row.Sort.{Sort}
use Rattle.cap_lin.specs.declared.row.Sort.TheVariants.{Perm}
use Rattle.cap_lin.specs.declared.row.Op.TheVariants.{Lt as Less, Gt as Greater}
use Rattle.cap_lin.proofs.Rows.{row_of-means}
use Rattle.cap_galg.specs.Elements.{Element, share}
use Rattle.cap_galg.specs.Algebras.{PlainAlgebra, IsElement}
use Rattle.cap_gsolve.specs.declared.piece.Form.TheVariants as form
use Rattle.cap_gsolve.specs.Meaning.{IsFormElement, Takes}
use Rattle.cap_gsolve.proofs.Amounts.{zero-amount, amount-positive}
use Rattle.cap_prog.specs.declared.assertion.Slot.{Slot}
use Rattle.cap_prog.specs.declared.assertion.Slot.TheVariants.{Any, Is}
use Rattle.cap_prog.specs.declared.assertion.Asked.TheVariants.{Share}
use Rattle.cap_prog.specs.Scopes.{Scope, HasSort, SlotFits}
use Rattle.cap_goal_spec.specs.Terms.{lone_variable}
use Rattle.cap_goal_spec.specs.States.{PlainEnv, PlainState}
use Rattle.cap_goal_spec.specs.Environments.{zero_value, term_of, is_determined, settled, open_to, stuck, read_name, reading, bind_open}
use Rattle.cap_rules.specs.Attempts.{Attempt, unit, ◌>>=◌}
use Rattle.cap_rules.specs.Making.{fresh, with_comparison, difference}
use Rattle.cap_rules.specs.Taking.{Cut, cut, cut_share}
use Rattle.cap_account_states.specs.Nodes.{Comes}
use Rattle.cap_account_resources.proofs.Lists.{some-same, set-length, get-last, push-length}
use Rattle.cap_account_states.proofs.Terms.{Vars, Over, vars-more, over-minus, row-over, Agree, amount-agree}
use Rattle.cap_account_states.proofs.Attempts.{sort_added, row_added, after-sort, after-comparison, after-computed}
use Rattle.cap_account_states.proofs.Meets.{Free, Usable, usable-on, usable-old, Meets, Old, Same, same-trans, meets-row, same-fresh, same-row, with-agrees, variable-amount, with_value, new-whole, new-share}
use Rattle.cap_account_states.proofs.Naming.{Placed, Means, Stays, term-same, term-other, placed-set, placed-more, stays-set}
use Rattle.cap_account_states.proofs.Matching.{Outside, lone-is}
use Rattle.cap_account_states.proofs.Values.{scaled, meets-scaled, scaled-amount}
use Rattle.cap_account_states.proofs.Brought.{Brought, a_half}
use Rattle.cap_account_states.proofs.Alike.{Alike, scaled-agree-alike, meets-fresh}
use Rattle.cap_account_states.proofs.Wants.{AmountIs, Wants, value-of-alike, share-wants}
use Rattle.cap_account_states.proofs.Guarding.{WantedNear, shared}
use Rattle.cap_gsolve.proofs.CutSpans.{Cuts}
use Rattle.cap_account_states.proofs.Cutting.{cut-share}

-- ---- an open slot for an amount

-- the slot's name is bound to a term
pub record Binding (ks : List ℕ) (sc : Scope) (sorts : List Sort) (env : PlainEnv) (x : Slot)
    (y : Option ℕ) (t : Linear) : Type 0 where
  pub placed : Placed ks sc sorts (bind_open env y t)
  pub stays : Stays sc env (bind_open env y t)
  pub outside : Outside sc env (bind_open env y t)
  pub size : length (bind_open env y t) ≡ length env
  pub means :
      (w X : Valuation) → Means sc w (bind_open env y t) X → AmountIs X x (amount w.fraction t)

open-same : (x y : Option ℕ) → open_to x ≡ open_to y → x ≡ y
open-same x y e = cc

settled-open : (u : Linear) (y : Option ℕ) → settled u ≡ open_to y → ⊥
settled-open u y e = cc

stuck-open : (y : Option ℕ) → stuck ≡ open_to y → ⊥
stuck-open y e = cc

pub binding :
    (ks : List ℕ) (sc : Scope) (sorts : List Sort) (env : PlainEnv) (x : Slot) (y : Option ℕ)
    (t : Linear) → Placed ks sc sorts env → SlotFits sc Perm x → Over (Usable ks sorts Perm) t →
    reading env x ≡ open_to y → Binding ks sc sorts env x y t
binding ks sc sorts env Any y t pl h o e =
    subst (λ z. Binding ks sc sorts env Any z t) (open-same None y e) (record {
      placed = pl;
      stays = λ z p i u q. q;
      outside = λ z n. refl;
      size = refl;
      means = λ w X m. tt;
    })
binding ks sc sorts env (Is u) y t pl h o e = by (is_determined env u) refl e
  where
    unbound : (z : Option Linear) → (is_some z && true) ≡ false → z ≡ None
    unbound None q = refl
    unbound (Some z) q = absurd (cc)

    lone :
        (z : Option ℕ) → lone_variable u ≡ z → is_determined env u ≡ false →
        read_name z ≡ open_to y → Binding ks sc sorts env (Is u) y t
    lone None l d q = absurd (stuck-open y q)
    lone (Some z) l d q =
        let a = lone-is u z l in
        let i : HasSort sc Perm z = (subst (Vars (HasSort sc Perm)) a.0 h).0 in
        let none = unbound (term_of env z)
        (ap (λ ps. list_all (λ p. is_some (term_of env p.0)) ps) (sym a.0) ∙ d) in
        let is : u ≡ variable z = ap (λ c. record {
          constant = c;
          parts = u.parts;
        }) a.1 ∙ ap (λ ps. record { constant = pos 0; parts = ps }) a.0 in
        subst (λ n. Binding ks sc sorts env (Is u) n t) (open-same (Some z) y q) (record {
          placed =
              placed-set ks sc sorts env z t
              (λ p j. subst (λ n. Over (Usable ks sorts n) t)
              (some-same Perm p (some-same (Some Perm) (Some p) (sym i ∙ j))) o) pl;
          stays = stays-set sc env z t none;
          outside = λ n k. term-other env z n t (λ r. k Perm (subst (HasSort sc Perm) (sym r) i));
          size = set-length env z (Some t);
          means =
              λ w X m. ap (amount X.fraction) is ∙ variable-amount X z
              ∙ sym (m.share z i t (term-same env z t (pl.room z Perm i)));
        })

    by :
        (b : Bool) → is_determined env u ≡ b →
        (if b then settled u else read_name (lone_variable u)) ≡ open_to y →
        Binding ks sc sorts env (Is u) y t
    by true d q = absurd (settled-open u y q)
    by false d q = lone (lone_variable u) refl d q

-- ---- halves

-- over twice the denominator a new variable is half of the term
abbrev pub halved : Valuation → ℕ → Linear → Valuation
halved v n t = with_value (scaled 1 v) n (pos 0) (amount v.fraction t)

pub record IsHalf (v : Valuation) (n : ℕ) (t : Linear) : Type 0 where
  pub above : pos 0 <ℤ amount (halved v n t).fraction (variable n)
  pub below : amount (halved v n t).fraction (variable n) <ℤ amount (halved v n t).fraction t
  pub whole :
      amount (halved v n t).fraction t ≡ amount (halved v n t).fraction (variable n) +ℤ amount
      (halved v n t).fraction (variable n)

pub half :
    (v : Valuation) (n : ℕ) (t : Linear) → Over (λ x. x < n) t → pos 0 <ℤ amount v.fraction t →
    IsHalf v n t
half v n t o h =
    let w = halved v n t in
    let a = variable-amount w n ∙ new-share (scaled 1 v) n (pos 0) (amount v.fraction t) in
    let b = amount-agree (λ x. x < n) (scaled 1 v) w
    (with-agrees (λ x. x < n) (scaled 1 v) n (pos 0) (amount v.fraction t)
    (λ x l e. omega (arith, l, e))) t o ∙ scaled-amount 1 v t in
    record {
      above = omega (arith, ints, a, h);
      below = omega (arith, ints, a, b, h);
      whole = omega (arith, ints, a, b);
    }

-- ---- half of a share

abbrev pub half_state : PlainState → Linear → PlainState
half_state s a =
    row_added (row_added (sort_added s Perm) (row_of (fresh s) Greater zero_value Perm))
    (row_of (fresh s) Less a Perm)

-- half is taken, over twice the denominator; it is asked for at all values that are alike to these
-- on the new variable too
pub record HalfOk (ks : List ℕ) (sc : Scope) (v : Valuation) (s : PlainState) (env : PlainEnv)
    (x : Slot) (y : Option ℕ) (a : Linear) (own : Element) (P : Cut → Type 0) : Type 0 where
  pub alike : Alike (Old s) v (halved v (length s.sorts) a)
  pub meets : Meets ks (halved v (length s.sorts) a) (half_state s a)
  pub same : Same s (half_state s a)
  pub bound : Binding ks sc (half_state s a).sorts env x y (fresh s)
  pub taken : Element
  pub wanted :
      WantedNear sc (Old (half_state s a)) (halved v (length s.sorts) a) (bind_open env y (fresh s))
      (Share x) taken
  pub is_element : (b : PlainAlgebra) → Takes b (form.Share a) → IsElement b taken
  pub left_over : Over (Usable ks (half_state s a).sorts Perm) (minus a (fresh s))
  pub cuts : Cuts (halved v (length s.sorts) a) own taken (form.Share (minus a (fresh s)) ∷ [])
  pub gets : Wants (halved v (length s.sorts) a) (Share (Is (fresh s))) taken
  pub brought : Brought s (half_state s a) (halved v (length s.sorts) a) (a_half a ∷ [])
  pub comes :
      P (cut (bind_open env y (fresh s)) (half_state s a) (form.Share (minus a (fresh s)) ∷ []))

pub half-cut :
    (ks : List ℕ) (sc : Scope) (v : Valuation) (s : PlainState) (env : PlainEnv) (x : Slot)
    (y : Option ℕ) (a : Linear) (own : Element) (P : Cut → Type 0) →
    Meets ks v s → Free ks (length s.sorts) → Placed ks sc s.sorts env → SlotFits sc Perm x → Over
    (Usable ks s.sorts Perm) a → reading env x ≡ open_to y →
    IsFormElement v (form.Share a) own → Comes
    (cut_share s env a 1 (open_to y)) P → HalfOk ks sc v s env x y a own P
half-cut ks sc v s env slot y a own P me free pl h o e i c =
    let n = length s.sorts in
    let w = halved v n a in
    let s1 = sort_added s Perm in
    let r1 = row_of (fresh s) Greater zero_value Perm in
    let s2 = row_added s1 r1 in
    let r2 = row_of (fresh s) Less a Perm in
    let old : Over (λ z. z < n) a = vars-more (Usable ks s.sorts Perm) (λ z. z < n)
    (usable-old ks s.sorts Perm) a.parts o in
    let hf = half v n a old (amount-positive v a i.0 i.1 i.2) in
    let ag : Agree (Old s) (scaled 1 v) w = with-agrees (Old s) (scaled 1 v) n (pos 0)
    (amount v.fraction a) (λ z l q. omega (arith, l, q)) in
    let m1 = meets-fresh ks (scaled 1 v) w s Perm ag tt (meets-scaled ks 1 v s me) in
    let new : Over (Usable ks s1.sorts Perm) (fresh s) = (((Perm, get-last s.sorts Perm), free), tt)
    in
    let a1 : Over (Usable ks s1.sorts Perm) a = vars-more (Usable ks s.sorts Perm)
    (Usable ks s1.sorts Perm)
    (usable-on ks s.sorts s1.sorts (same-fresh s Perm).sorts Perm) a.parts o in
    let up : amount w.fraction zero_value <ℤ amount w.fraction (fresh s) = subst
    (λ z. z <ℤ amount w.fraction (fresh s)) (sym (zero-amount w.fraction)) hf.above in
    let m2 = meets-row ks w s1 r1 m1 ((row_of-means w (fresh s) Greater zero_value Perm).1 up)
    (row-over (Usable ks s1.sorts) (fresh s) Greater zero_value Perm new tt) in
    let m3 = meets-row ks w s2 r2 m2 ((row_of-means w (fresh s) Less a Perm).1 hf.below)
    (row-over (Usable ks s1.sorts) (fresh s) Less a Perm new a1) in
    let later = bind_open env y (fresh s) in
    let last : PlainState → Linear → Attempt Cut = λ t rest. unit
    (cut later t (form.Share rest ∷ [])) in
    let third : PlainState → Attempt Cut = λ t. difference a (fresh s) >>= last t in
    let second : PlainState → Attempt Cut = λ t. with_comparison t
    (fresh s) Less a Perm >>= third in
    let k1 = after-sort s Perm
    (λ t. with_comparison t (fresh s) Greater zero_value Perm >>= second) P c in
    let k2 = after-comparison s1 (fresh s) Greater zero_value Perm second P k1 in
    let k3 = after-comparison s2 (fresh s) Less a Perm third P k2 in
    let k4 = after-computed (minus a (fresh s)) (minus_steps a (fresh s))
    (last (half_state s a)) P k3 in
    let b = binding ks sc s1.sorts env slot y (fresh s)
    (placed-more ks sc s.sorts s1.sorts env (same-fresh s Perm).sorts pl) h new e in
    let al = scaled-agree-alike (Old s) 1 v w ag in
    let val = value-of-alike (Old s) v w al a old i.0 i.2 in
    let k = cut-share w a (fresh s) i.0 i.1 val hf.above hf.below in
    let last-old : Over (Old s1) (fresh s) = vars-more (Usable ks s1.sorts Perm) (Old s1)
    (usable-old ks s1.sorts Perm) (fresh s).parts new in
    record {
      alike = al;
      meets = m3;
      same =
          same-trans s s1 (half_state s a) (same-fresh s Perm)
          (same-trans s1 s2 (half_state s a) (same-row s1 r1) (same-row s2 r2));
      bound = b;
      taken = share k.0;
      wanted = λ x l X m. share-wants X x slot (fresh s) k.0 m.under (b.means x X m) k.1
          (value-of-alike (Old s1) w x l (fresh s) last-old k.0 k.2);
      left_over = over-minus (Usable ks s1.sorts Perm) a (fresh s) a1 new;
      is_element = λ l tk. shared l a (share k.0) k.1 tk;
      cuts = subst (λ z. Cuts w z (share k.0) (form.Share (minus a (fresh s)) ∷ [])) (sym i.3) k.3;
      gets = share-wants w w (Is (fresh s)) (fresh s) k.0 refl refl k.1 k.2;
      brought =
          let up = variable-amount w n in
          let all = hf.whole in
          let more = push-length s.sorts Perm in
          record {
            count = omega (arith, more);
            are = (
              new-whole (scaled 1 v) n (pos 0) (amount v.fraction a),
              omega (arith, ints, up, all),
              old,
              tt,
            );
          };
      comes = k4.1;
    }
