-- The state at a call or a fork: the callee's environment, the variable of its result, and the
-- values of its fixed names.
use Rattle.std.proofs.Common.{◌≡◌, ℕ, zero, suc, ◌+◌, ℤ, pos, ◌*ℤ◌, List, [], ◌∷◌, ◌++◌, length, map, arith, refl, ap, ◌∙◌, subst, Option, Some, None}
use Rattle.std.specs.Prelude.{slice_get, slice_set}
use Rattle.std.specs.List.{AllByRecursion}
use Rattle.cap_lin.specs.Linear.{Linear}
use Rattle.cap_lin.specs.Values.{Valuation}
use Rattle.cap_lin.specs.declared.row.Sort.{Sort}
use Rattle.cap_lin.specs.declared.row.Sort.TheVariants.{Int, Perm}
use Rattle.cap_prog.specs.Program.{PlainFunction, PlainProgram}
use Rattle.cap_prog.specs.WellFormed.{GivesLocal}
use Rattle.cap_goal_spec.specs.States.{PlainEnv, PlainState}
use Rattle.cap_goal_spec.specs.Environments.{callee_env}
use Rattle.cap_rules.specs.Attempts.{Attempt, unit, ◌>>=◌, appended}
use Rattle.cap_rules.specs.Making.{fresh, with_env, with_sort, with_destination}
use Rattle.cap_rules.specs.Rules.{called}
use Rattle.cap_machine.specs.Machine.{Frame, receives}
use Rattle.cap_machine_accounts.specs.Assertions.{NameValue, a_number, a_fraction, HasNameSort, ValuesFit, IsNamed, AreNamed}
use Rattle.cap_account_states.specs.Nodes.{Comes}
use Rattle.cap_account_resources.proofs.Lists.{some-same, none-some, map-set, all-more}
use Rattle.cap_account_states.proofs.Terms.{RowOver}
use Rattle.cap_account_states.proofs.Attempts.{sort_added, env_added, comes-bind, comes-appended, after-values-here, after-sort}
use Rattle.cap_account_states.proofs.Meets.{Usable, usable-old, CellOver, row-more, cell-more, Meets}
use Rattle.cap_account_steps.proofs.Points.{FrameOk, ok-store}
use Rattle.cap_account_steps.proofs.Stores.{here}

abbrev pub value_for : Sort → Valuation → ℕ → NameValue
value_for Int a x = a_number (a.whole x)
value_for Perm a x = a_fraction (a.fraction.numerator x) a.fraction.under

abbrev pub fixed_values : Valuation → ℕ → List Sort → List NameValue
fixed_values a x [] = []
fixed_values a x (o ∷ os) = value_for o a x ∷ fixed_values a (suc x) os

pub fixed-is : (o : Sort) (a : Valuation) (x : ℕ) → IsNamed a x (value_for o a x)
fixed-is Int a x = refl
fixed-is Perm a x =
    let e : suc a.fraction.under ≡ a.fraction.under + 1 = omega arith in
    ap (λ d. a.fraction.numerator x *ℤ pos d) e

pub fixed-has : (o : Sort) (a : Valuation) (x : ℕ) → HasNameSort o (value_for o a x)
fixed-has Int a x = tt
fixed-has Perm a x = tt

pub fixed-are : (a : Valuation) (x : ℕ) (os : List Sort) → AreNamed a x (fixed_values a x os)
fixed-are a x [] = tt
fixed-are a x (o ∷ os) = (fixed-is o a x, fixed-are a (suc x) os)

pub fixed-fit : (a : Valuation) (x : ℕ) (os : List Sort) → ValuesFit os (fixed_values a x os)
fixed-fit a x [] = tt
fixed-fit a x (o ∷ os) = (fixed-has o a x, fixed-fit a (suc x) os)

pub fixed-at :
    (a : Valuation) (x : ℕ) (os : List Sort) (i : ℕ) (o : Sort) → slice_get os i ≡ Some o →
    slice_get (fixed_values a x os) i ≡ Some (value_for o a (x + i))
fixed-at a x [] i o e = absurd (none-some e)
fixed-at a x (p ∷ os) zero o e =
    let q : x ≡ x + 0 = omega arith in
    ap (λ y. Some (value_for y a x)) (some-same p o e) ∙ ap (λ y. Some (value_for o a y)) q
fixed-at a x (p ∷ os) (suc i) o e =
    let q : suc x + i ≡ x + suc i = omega arith in
    fixed-at a (suc x) os i o e ∙ ap (λ y. Some (value_for o a y)) q

abbrev pub put_at : {A : Type 0} → List A → Option ℕ → A → List A
put_at xs None x = xs
put_at xs (Some i) x = slice_set xs i x

-- one variable more for the result, which the destination has, and the callee's environment
abbrev pub at_call : PlainState → PlainFunction → List Linear → Option ℕ → PlainState
at_call s g args x = record s {
  sorts = s.sorts ++ Int ∷ [];
  store = put_at s.store x (fresh s);
  envs = s.envs ++ callee_env g (map (here s) args) (fresh s) ∷ [];
}

pub destination-is :
    (s : PlainState) (x : Option ℕ) (t : Linear) (env : PlainEnv) →
    env_added (with_destination s x t) env
    ≡ record s { store = put_at s.store x t; envs = s.envs ++ env ∷ [] }
destination-is s None t env = refl
destination-is s (Some y) t env = refl

pub comes-env :
    (s : PlainState) (env : PlainEnv) (P : PlainState → Type 0) → Comes (with_env s env) P →
    P (env_added s env)
comes-env s env P h =
    (comes-appended s.envs env (λ es. Comes (unit (record s { envs = es })) P)
    (comes-bind (appended s.envs env) (λ es. unit (record s { envs = es })) P h)).1

pub after-called :
    {B : Type 0} (s : PlainState) (g : PlainFunction) (args : List Linear) (x : Option ℕ)
    (k : PlainState → Attempt B) (P : B → Type 0) → Comes (called s g args x >>= k) P →
    Comes (k (at_call s g args x)) P
after-called s g args x k P hd =
    let Q = λ (s' : PlainState). Comes (k s') P in
    let ends = λ (us : List Linear) (s' : PlainState). with_env (with_destination s' x (fresh s))
    (callee_env g us (fresh s)) in
    let us = map (here s) args in
    let h0 = comes-bind (called s g args x) k P hd in
    let h1 = after-values-here s args (λ us. with_sort s Int >>= ends us) Q h0 in
    let h2 = after-sort s Int (ends us) Q h1 in
    let s1 = sort_added s Int in
    let env = callee_env g us (fresh s) in
    subst Q (destination-is s1 x (fresh s) env)
    (comes-env (with_destination s1 x (fresh s)) env Q h2)

-- the result's variable is kept free
pub meets-reserve :
    (v : Valuation) (s : PlainState) → Meets [] v s → Meets (length s.sorts ∷ []) v s
meets-reserve v s m =
    let R = Usable [] s.sorts in
    let S = Usable (length s.sorts ∷ []) s.sorts in
    record {
      sorted = m.sorted;
      rows = m.rows;
      rows_over = all-more (RowOver R) (RowOver S) (row-more R S apart) s.rows m.rows_over;
      cells_over = all-more (CellOver R) (CellOver S) (cell-more R S apart) s.cells m.cells_over;
      positive = m.positive;
      store_over = m.store_over;
    }
  where
    apart : (o : Sort) (x : ℕ) → Usable [] s.sorts o x → Usable (length s.sorts ∷ []) s.sorts o x
    apart o x h = (h.0, ((λ e. let q = usable-old [] s.sorts o x h in omega (arith, q, e)), tt))

pub meets-free : (ks : List ℕ) (v : Valuation) (s : PlainState) → Meets ks v s → Meets [] v s
meets-free ks v s m =
    let R = Usable ks s.sorts in
    let S = Usable [] s.sorts in
    record {
      sorted = m.sorted;
      rows = m.rows;
      rows_over =
          all-more (RowOver R) (RowOver S) (row-more R S (λ o x h. (h.0, tt))) s.rows m.rows_over;
      cells_over =
          all-more (CellOver R) (CellOver S)
          (cell-more R S (λ o x h. (h.0, tt))) s.cells m.cells_over;
      positive = m.positive;
      store_over = m.store_over;
    }

pub put-over :
    (P : Linear → Type 0) (ts : List Linear) (x : Option ℕ)
    (t : Linear) → AllByRecursion P ts → P t →
    AllByRecursion P (put_at ts x t)
put-over P ts None t h k = h
put-over P [] (Some i) t h k = tt
put-over P (u ∷ ts) (Some zero) t h k = (k, h.1)
put-over P (u ∷ ts) (Some (suc i)) t h k = (h.0, put-over P ts (Some i) t h.1 k)

pub map-put :
    {A B : Type 0} (f : A → B) (xs : List A) (y : Option ℕ) (x : A) →
    map f (put_at xs y x) ≡ put_at (map f xs) y (f x)
map-put f xs None x = refl
map-put f xs (Some i) x = map-set f xs i x

pub receives-is :
    (y : Option ℕ) (r : ℤ) (f : Frame) →
    record f { store = put_at f.store y r } ≡ receives y r f
receives-is None r f = refl
receives-is (Some x) r f = refl

pub ok-put :
    (p : PlainProgram) (fn : PlainFunction) (fx : List NameValue) (f : Frame) (y : Option ℕ)
    (r : ℤ) →
    GivesLocal fn y → FrameOk p fn fx f → FrameOk p fn fx (receives y r f)
ok-put p fn fx f None r h k = record {
  is_fn = k.is_fn;
  size = k.size;
  args = k.args;
  values = k.values;
  point = k.point;
}
ok-put p fn fx f (Some x) r h k =
    let q = ok-store p fn fx f x r f.rest k h.low k.point in
    record { is_fn = q.is_fn; size = q.size; args = q.args; values = q.values; point = q.point }
