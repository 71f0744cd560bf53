-- A frame's store in a symbolic state, and what its terms and comparisons are there.
use Rattle.cap_account_states.proofs.Environments.{all-vars}
use Rattle.cap_account_resources.proofs.Order.{cancel, turned, swapped, unmet-relates, not-both, relates-times}
use Rattle.cap_account_states.proofs.Terms.{whole-parts, Vars, Over, vars-more, over-over, number-over, RowOver, row-over, Agree, value-agree}
use Rattle.std.proofs.Common.{◌≡◌, ℕ, zero, suc, ◌+◌, ◌<◌, ℤ, pos, ◌*ℤ◌, ◌<ℤ◌, List, [], ◌∷◌, length, map, arith, refl, sym, ap, ◌∙◌, subst, Some, Bool, true, false}
use Rattle.std.specs.Prelude.{slice_get, get_or}
use Rattle.std.specs.List.{AllByRecursion}
use Rattle.std.proofs.lemmas.Int.{ints}
use Rattle.cap_lin.specs.Linear.{Linear, number}
use Rattle.cap_lin.specs.Values.{Valuation, denominator, parts_value, value}
use Rattle.cap_lin.specs.Solves.{value_by_sort, Relates, Holds, IsWholeAt}
use Rattle.cap_lin.specs.declared.row.Sort.{Sort}
use Rattle.cap_lin.specs.declared.row.Sort.TheVariants.{Int, Perm}
use Rattle.cap_lin.specs.declared.row.Op.{Op}
use Rattle.cap_lin.proofs.Rows.{row_of-means}
use Rattle.cap_lin.proofs.Infeasible.{whole-amount}
use Rattle.cap_prog.specs.declared.assertion.Comp.{Comp}
use Rattle.cap_prog.specs.Program.{Block, PlainFunction}
use Rattle.cap_prog.specs.Scopes.{whole_numbers, HasSort, TermFits, CompFits}
use Rattle.cap_goal_spec.specs.Terms.{term_over}
use Rattle.cap_goal_spec.specs.States.{PlainState, Home, PlainTask, to_run}
use Rattle.cap_goal_spec.specs.Environments.{zero_value}
use Rattle.cap_rules.specs.Making.{opposite, in_store}
use Rattle.cap_machine.specs.Machine.{Frame, value_in, holds}
use Rattle.cap_machine_accounts.specs.Assertions.{NameValue, a_number, a_fraction, IsNamed, AreNamed}
use Rattle.cap_account_states.proofs.Alike.{values-alike, Alike, above-zero}
use Rattle.cap_account_resources.proofs.Lists.{some-same, none-some, within, there-is, all-more}
use Rattle.cap_account_states.proofs.Attempts.{store_row}
use Rattle.cap_account_states.proofs.Meets.{Usable, usable-old, Old, Meets}
use Rattle.cap_account_states.proofs.Values.{named-at, named-of}

-- ---- stores

-- the store of the state, and the variables of the fixed names, are the frame's
pub record Store (v : Valuation) (s : PlainState) (h : Home) (fn : PlainFunction)
    (fixed : List NameValue) (f : Frame) : Type 0 where
  pub home : h.function ≡ f.function
  pub store : map (value v.whole) s.store ≡ f.store
  pub fixed_are : AreNamed v h.fixed fixed
  pub fixed_known :
      (i : ℕ) (o : Sort) → slice_get fn.fixed i ≡ Some o →
      slice_get s.sorts (h.fixed + i) ≡ Some o

-- what a frame is about to run
abbrev pub running : Block → Home → List PlainTask
running b h = to_run h b ∷ []

-- ---- terms of statements

pub zero-is : (n : ℕ → ℤ) → value n (number (pos 0)) ≡ pos 0
unfolding value parts_value
zero-is n = refl

pub get-map :
    (v : Valuation) (ts : List Linear) (i : ℕ) →
    get_or (map (value v.whole) ts) i (pos 0) ≡ value v.whole (get_or ts i zero_value)
get-map v [] i = sym (zero-is v.whole)
get-map v (t ∷ ts) zero = refl
get-map v (t ∷ ts) (suc i) = get-map v ts i

abbrev pub here : PlainState → Linear → Linear
here s t = term_over (in_store s) t

pub here-value :
    (v : Valuation) (s : PlainState) (store : List ℤ) (t : Linear) →
    map (value v.whole) s.store ≡ store → value v.whole (here s t) ≡ value_in store t
here-value v s store t e =
    number-over Int v (in_store s) t
    ∙ ap (λ n. value n t)
    (λ i x. (sym (get-map v s.store x) ∙ ap (λ zs. get_or zs x (pos 0)) e) i)

pub get-over :
    (P : ℕ → Type 0) (ts : List Linear) (x : ℕ) → AllByRecursion (Over P) ts →
    Over P (get_or ts x zero_value)
get-over P [] x h = tt
get-over P (t ∷ ts) zero h = h.0
get-over P (t ∷ ts) (suc x) h = get-over P ts x h.1

pub here-over :
    (ks : List ℕ) (v : Valuation) (s : PlainState) (t : Linear) → Meets ks v s →
    Over (Usable [] s.sorts Int) (here s t)
here-over ks v s t m =
    over-over (Usable [] s.sorts Int) (λ x. Unit {0}) (in_store s) t
    (λ x h. get-over (Usable [] s.sorts Int) s.store x m.store_over) (all-vars t.parts)

pub no-perm : (n x : ℕ) → HasSort (whole_numbers n) Perm x → ⊥
no-perm zero x e = none-some e
no-perm (suc n) zero e =
    absurd (unlike (some-same Int Perm (some-same (Some Int) (Some Perm) e)))
  where
    unlike : Int ≡ Perm → ⊥
    unlike e = cc
no-perm (suc n) (suc x) e = no-perm n x e

-- a comparison of the body, of whichever sort
pub here-sorted :
    (v : Valuation) (s : PlainState) (n : ℕ) (o : Sort) (t : Linear) → Meets [] v s →
    TermFits (whole_numbers n) o t → Over (Usable [] s.sorts o) (here s t)
here-sorted v s n Int t m h = here-over [] v s t m
here-sorted v s n Perm t m h =
    over-over (Usable [] s.sorts Perm) (λ x. ⊥) (in_store s) t (λ x h. absurd h) (none-at t.parts h)
  where
    none-at :
        (ps : List (ℕ × ℤ)) → AllByRecursion (λ part. HasSort (whole_numbers n) Perm part.0) ps →
        Vars (λ x. ⊥) ps
    none-at [] h = tt
    none-at (p ∷ ps) h = absurd (no-perm n p.0 h.0)

abbrev pub factor : Valuation → Sort → ℤ
factor v Int = pos 1
factor v Perm = denominator v.fraction

pub factor-positive : (v : Valuation) (o : Sort) → pos 0 <ℤ factor v o
factor-positive v Int = omega (arith, ints)
factor-positive v Perm = omega (arith, ints)

pub number-here :
    (v : Valuation) (s : PlainState) (store : List ℤ) (o : Sort) (t : Linear) → Meets [] v s →
    map (value v.whole) s.store ≡ store →
    value_by_sort o v (here s t) ≡ value_in store t *ℤ factor v o
number-here v s store Int t m e = here-value v s store t e ∙ one (value_in store t)
  where
    one : (z : ℤ) → z ≡ z *ℤ pos 1
    one z = omega (arith, ints)
number-here v s store Perm t m e =
    whole-amount v (here s t)
    (whole-parts v (here s t).parts
    (vars-more (Usable [] s.sorts Int) (IsWholeAt v) (λ x h. m.sorted x h.0) (here s t).parts
    (here-over [] v s t m)))
    ∙ (ap (λ z. denominator v.fraction *ℤ z) (here-value v s store t e)
    ∙ turned (denominator v.fraction) (value_in store t))

pub holds-here :
    (v : Valuation) (s : PlainState) (store : List ℤ) (c : Comp) (op : Op) → Meets [] v s →
    map (value v.whole) s.store ≡ store →
    Relates op (value_in store c.left) (value_in store c.right) → Holds v (store_row s op c)
holds-here v s store c op m e h =
    let x = number-here v s store c.sort c.left m e in
    let y = number-here v s store c.sort c.right m e in
    let k = relates-times op (value_in store c.left) (value_in store c.right) (factor v c.sort)
    (factor-positive v c.sort) h in
    (row_of-means v (here s c.left) op (here s c.right) c.sort).1
    (subst (λ z. Relates op z (value_by_sort c.sort v (here s c.right))) (sym x)
    (subst (λ z. Relates op (value_in store c.left *ℤ factor v c.sort) z) (sym y) k))

pub row-here-over :
    (v : Valuation) (s : PlainState) (n : ℕ) (c : Comp) (op : Op) → Meets [] v s →
    CompFits (whole_numbers n) c → RowOver (Usable [] s.sorts) (store_row s op c)
row-here-over v s n c op m h =
    row-over (Usable [] s.sorts) (here s c.left) op (here s c.right) c.sort
    (here-sorted v s n c.sort c.left m h.0) (here-sorted v s n c.sort c.right m h.1)

-- the test of a comparison that holds
pub met-here :
    (v : Valuation) (s : PlainState) (store : List ℤ) (c : Comp) → Meets [] v s →
    map (value v.whole) s.store ≡ store → Holds v (store_row s c.op c) → holds store c ≡ true
met-here v s store c m e h = by (holds store c) refl
  where
    by : (t : Bool) → holds store c ≡ t → holds store c ≡ true
    by true q = q
    by false q =
        let l = here s c.left in
        let r = here s c.right in
        let k = holds-here v s store c (opposite c.op) m e
        (unmet-relates c.op (value_in store c.left) (value_in store c.right) q) in
        absurd (not-both c.op (value_by_sort c.sort v l) (value_by_sort c.sort v r)
        ((row_of-means v l c.op r c.sort).0 h) ((row_of-means v l (opposite c.op) r c.sort).0 k))

-- ---- what goes on

pub values-same :
    (v w : Valuation) (s : PlainState) → Agree (Old s) v w → (ts : List Linear) →
    AllByRecursion (Over (Usable [] s.sorts Int)) ts →
    map (value w.whole) ts ≡ map (value v.whole) ts
values-same v w s a [] h = refl
values-same v w s a (t ∷ ts) h =
    ap (λ z. z ∷ map (value w.whole) ts)
    (value-agree (Old s) v w a t
    (vars-more (Usable [] s.sorts Int) (Old s) (usable-old [] s.sorts Int) t.parts h.0))
    ∙ ap (λ zs. value v.whole t ∷ zs) (values-same v w s a ts h.1)

pub name-same :
    (P : ℕ → Type 0) (v w : Valuation) (x : ℕ) (y : NameValue) → P x → Agree P v w →
    IsNamed v x y → IsNamed w x y
name-same P v w x (a_number z) h a is = a.whole x h ∙ is
name-same P v w x (a_fraction n d) h a is =
    ap (λ q. q *ℤ pos (suc d)) (a.share x h)
    ∙ (is ∙ ap (λ q. n *ℤ pos (q + 1)) (sym a.under))

-- names whose variables are old keep their values
pub named-same :
    (P : ℕ → Type 0) (v w : Valuation) (x : ℕ) (ys : List NameValue) →
    ((i : ℕ) → i < length ys → P (x + i)) → Agree P v w → AreNamed v x ys → AreNamed w x ys
named-same P v w x [] h a are = tt
named-same P v w x (y ∷ ys) h a are =
    let e : x + 0 ≡ x = omega arith in (
      name-same P v w x y (subst P e (h 0 (omega arith))) a are.0,
      named-same P v w (suc x) ys
          (λ i l. let q : x + suc i ≡ suc x + i = omega arith in subst P q
          (h (suc i) (omega (arith, l)))) a
          are.1,
    )

-- a state with more variables, rows and cells is the frame's at values that agree on the old ones
pub store-same :
    (v w : Valuation) (s t : PlainState) (h : Home) (fn : PlainFunction) (fx : List NameValue)
    (f : Frame) → Meets [] v s → Agree (Old s) v w →
    ((x : ℕ) (o : Sort) → slice_get s.sorts x ≡ Some o → slice_get t.sorts x ≡ Some o) →
    t.store ≡ s.store → length fx ≡ length fn.fixed → Store v s h fn fx f → Store w t h fn fx f
store-same v w s t h fn fx f m a sorts e size st = record {
  home = st.home;
  store = ap (map (value w.whole)) e ∙ (values-same v w s a s.store m.store_over ∙ st.store);
  fixed_are = named-same (Old s) v w h.fixed fx
      (λ i l.
      let q = there-is fn.fixed i (omega (arith, l, size)) in
      within s.sorts (h.fixed + i) q.0 (st.fixed_known i q.0 q.1))
      a st.fixed_are;
  fixed_known = λ i o q. sorts (h.fixed + i) o (st.fixed_known i o q);
}

-- ---- at alike values

pub name-alike :
    (P : ℕ → Type 0) (v w : Valuation) (x : ℕ) (y : NameValue) → P x → Alike P v w →
    IsNamed v x y → IsNamed w x y
name-alike P v w x (a_number z) h a is = a.whole x h ∙ is
name-alike P v w x (a_fraction n d) h a is =
    let dv = denominator v.fraction in
    let dw = denominator w.fraction in
    cancel (w.fraction.numerator x *ℤ pos (suc d)) (n *ℤ dw) dv (above-zero v)
    (swapped (w.fraction.numerator x) (pos (suc d)) dv
    ∙ ap (λ z. z *ℤ pos (suc d)) (a.share x h)
    ∙ swapped (v.fraction.numerator x) dw (pos (suc d))
    ∙ ap (λ z. z *ℤ dw) is
    ∙ swapped n dv dw)

-- the variable of a fixed name is old, and has the name's value
pub fixed-name :
    (s : PlainState) (v : Valuation) (h : Home) (fn : PlainFunction) (fixed : List NameValue)
    (f : Frame) → Store v s h fn fixed f → length fixed ≡ length fn.fixed →
    (i : ℕ) (y : NameValue) →
    slice_get fixed i ≡ Some y → Old s (h.fixed + i) × IsNamed v (h.fixed + i) y
fixed-name s v h fn fixed f st size i y e =
    let o = there-is fn.fixed i (let q = within fixed i y e in omega (arith, q, size)) in (
      within s.sorts (h.fixed + i) o.0 (st.fixed_known i o.0 o.1),
      named-at v h.fixed fixed i y st.fixed_are e,
    )

pub fixed-alike :
    (s : PlainState) (v w : Valuation) (h : Home) (fn : PlainFunction) (fixed : List NameValue)
    (f : Frame) → Store v s h fn fixed f → length fixed ≡ length fn.fixed → Alike (Old s) v w →
    AreNamed w h.fixed fixed
fixed-alike s v w h fn fixed f st size a =
    named-of w h.fixed fixed (λ i y e.
    let k = fixed-name s v h fn fixed f st size i y e in
    name-alike (Old s) v w (h.fixed + i) y k.0 a k.1)

-- a later state with the same store is the frame's at alike values
pub store-alike :
    (v w : Valuation) (s t : PlainState) (h : Home) (fn : PlainFunction) (fixed : List NameValue)
    (f : Frame) → AllByRecursion (Over (Usable [] s.sorts Int)) s.store → Alike (Old s) v w →
    ((x : ℕ) (o : Sort) → slice_get s.sorts x ≡ Some o → slice_get t.sorts x ≡ Some o) →
    t.store ≡ s.store → length fixed ≡ length fn.fixed → Store v s h fn fixed f →
    Store w t h fn fixed f
store-alike v w s t h fn fixed f over a sorts e size st = record {
  home = st.home;
  store = ap (map (value w.whole)) e
      ∙ values-alike (Old s) v w a s.store
      (all-more (Over (Usable [] s.sorts Int)) (Over (Old s))
      (λ u k. vars-more (Usable [] s.sorts Int) (Old s) (usable-old [] s.sorts Int) u.parts k)
      s.store over)
      ∙ st.store;
  fixed_are = fixed-alike s v w h fn fixed f st size a;
  fixed_known = λ i o q. sorts (h.fixed + i) o (st.fixed_known i o q);
}
