-- Environments of the frame's own function, and the values that they give its names.
use Rattle.std.proofs.Common.{◌≡◌, ℕ, zero, suc, ◌+◌, ◌<◌, pos, ◌*ℤ◌, List, [], ◌∷◌, length, take, drop, arith, refl, sym, ap, ◌∙◌, subst, Option, Some, None}
use Rattle.std.specs.Prelude.{slice_get, unwrap_or}
use Rattle.cap_lin.specs.Linear.{Linear, variable}
use Rattle.cap_lin.specs.Values.{Valuation, value, amount}
use Rattle.cap_lin.specs.declared.row.Sort.{Sort}
use Rattle.cap_lin.specs.declared.row.Sort.TheVariants.{Int, Perm}
use Rattle.cap_prog.specs.Program.{PlainFunction}
use Rattle.cap_prog.specs.Scopes.{Scope, fixed_start, HasSort}
use Rattle.cap_goal_spec.specs.States.{PlainEnv, PlainState, Home}
use Rattle.cap_goal_spec.specs.Environments.{zero_value, term_of, bound_term, own_env}
use Rattle.cap_rules.specs.Making.{env_at}
use Rattle.cap_machine.specs.Machine.{Frame}
use Rattle.cap_machine_accounts.specs.Assertions.{NameValue, a_number, a_fraction, HasNameSort, ValuesFit, IsNamed, AreNamed}
use Rattle.cap_account_states.proofs.Alike.{usable-alike, Alike}
use Rattle.cap_account_resources.proofs.Lists.{some-same, none-some, within, there-is, get-or-push, push-length, all-at}
use Rattle.cap_account_states.proofs.Terms.{Over, by_terms}
use Rattle.cap_account_states.proofs.Attempts.{env_added}
use Rattle.cap_account_states.proofs.Meets.{Usable, Meets, Old, variable-value, variable-amount, is-of}
use Rattle.cap_account_states.proofs.Naming.{Placed, Means}
use Rattle.cap_account_states.proofs.Scopes.{Position, param, local, fixed, result, extra, position-room, own-param, own-local, own-fixed, own-result, own-new, own-room}
use Rattle.cap_account_states.proofs.Roots.{values-length, fits-at}
use Rattle.cap_account_states.proofs.Values.{named-of}
use Rattle.cap_account_steps.proofs.Stores.{fixed-name, name-alike, Store}

pub take-get :
    {X : Type 0} (xs : List X) (n i : ℕ) (y : X) → slice_get (take n xs) i ≡ Some y →
    (slice_get xs i ≡ Some y) × (i < n)
take-get [] zero i y e = absurd (none-some e)
take-get [] (suc n) i y e = absurd (none-some e)
take-get (x ∷ xs) zero i y e = absurd (none-some e)
take-get (x ∷ xs) (suc n) zero y e = (e, omega arith)
take-get (x ∷ xs) (suc n) (suc i) y e =
    let q = take-get xs n i y e in (q.0, (let l = q.1 in omega (arith, l)))

pub get-take :
    {X : Type 0} (xs : List X) (n i : ℕ) (y : X) → i < n → slice_get xs i ≡ Some y →
    slice_get (take n xs) i ≡ Some y
get-take [] n i y l e = absurd (none-some e)
get-take (x ∷ xs) zero i y l e = absurd (omega (arith, l))
get-take (x ∷ xs) (suc n) zero y l e = e
get-take (x ∷ xs) (suc n) (suc i) y l e = get-take xs n i y (omega (arith, l)) e

pub get-drop : {X : Type 0} (xs : List X) (n i : ℕ) → slice_get (drop n xs) i ≡ slice_get xs (n + i)
get-drop [] zero i = refl
get-drop [] (suc n) i = refl
get-drop (x ∷ xs) zero i = let q : i ≡ 0 + i = omega arith in ap (slice_get (x ∷ xs)) q
get-drop (x ∷ xs) (suc n) i =
    get-drop xs n i ∙ (let q : suc (n + i) ≡ suc n + i = omega arith in ap (slice_get (x ∷ xs)) q)

pub drop-length : {X : Type 0} (xs : List X) (m n : ℕ) → length xs ≡ m + n → length (drop m xs) ≡ n
drop-length [] zero n e = omega (arith, e)
drop-length [] (suc m) n e = absurd (omega (arith, e))
drop-length (x ∷ xs) zero n e = omega (arith, e)
drop-length (x ∷ xs) (suc m) n e = drop-length xs m n (omega (arith, e))

pub take-length : {X : Type 0} (xs : List X) (m n : ℕ) → length xs ≡ m + n → length (take m xs) ≡ m
take-length [] zero n e = refl
take-length [] (suc m) n e = absurd (omega (arith, e))
take-length (x ∷ xs) zero n e = refl
take-length (x ∷ xs) (suc m) n e = ap suc (take-length xs m n (omega (arith, e)))

abbrev pub canon : Valuation → PlainEnv → Valuation
canon w env = by_terms w (bound_term env)

pub canon-means : (sc : Scope) (w : Valuation) (env : PlainEnv) → Means sc w env (canon w env)
canon-means sc w env = record {
  under = refl;
  whole = λ x i t e. ap (λ o. value w.whole (unwrap_or o zero_value)) (sym e);
  share = λ x i t e. ap (λ o. amount w.fraction (unwrap_or o zero_value)) (sym e);
}

pub at-new : (s : PlainState) (env : PlainEnv) → env_at (env_added s env) (length s.envs) ≡ env
at-new s env = get-or-push s.envs env []

pub there-new : (s : PlainState) (env : PlainEnv) → length s.envs < length (env_added s env).envs
there-new s env = let q = push-length s.envs env in omega (arith, q)

pub own-placed :
    (s : PlainState) (v : Valuation) (fn : PlainFunction) (h : Home) (fx : List NameValue)
    (f : Frame)
    (ls : PlainEnv) (r : Option Linear) (new : List Sort) (sc : Scope) → Meets [] v s →
    Store v s h fn fx f → length s.store ≡ fixed_start fn → length ls ≡ fn.locals →
    ((i : ℕ) (t : Linear) → unwrap_or (slice_get ls i) None ≡ Some t → Over
    (Usable [] s.sorts Int) t) →
    ((t : Linear) → r ≡ Some t → Over (Usable [] s.sorts Int) t) →
    ((x : ℕ) (o : Sort) → HasSort sc o x → Position fn new x o) →
    Placed [] sc s.sorts (own_env fn h (take fn.params s.store) ls r (length new))
own-placed s v fn h fx f ls r new sc m st size hl fl fr at_position = record {
  room = λ x o i.
      (let q = position-room fn new x o (at_position x o i) in
      let n = own-room fn h ps ls r (length new) hp hl in
      omega (arith, q, n));
  over = λ x o i t e. over x o t (at_position x o i) e;
}
  where
    ps : List Linear
    ps = take fn.params s.store

    hp : length (take fn.params s.store) ≡ fn.params
    hp = take-length s.store fn.params fn.locals size

    env : PlainEnv
    env = own_env fn h (take fn.params s.store) ls r (length new)

    over :
        (x : ℕ) (o : Sort) (t : Linear) → Position fn new x o →
        term_of (own_env fn h (take fn.params s.store) ls r (length new)) x ≡ Some t →
        Over (Usable [] s.sorts o) t
    over x o t (param l q) e =
        subst (λ y. Over (Usable [] s.sorts y) t) q
        (all-at (Over (Usable [] s.sorts Int)) s.store x t m.store_over
        (take-get s.store fn.params x t
        (sym (own-param fn h ps ls r (length new) hp hl x l) ∙ e)).0)
    over x o t (local i q l y) e =
        subst (λ z. Over (Usable [] s.sorts z) t) y
        (fl i t (sym (own-local fn h ps ls r (length new) hp hl i l) ∙
        (ap (term_of env) (sym q) ∙ e)))
    over x o t (fixed i q y) e =
        let look = own-fixed fn h ps ls r (length new) hp hl i (within fn.fixed i o y) in
        let u : variable (h.fixed + i) ≡ t =
        some-same (variable (h.fixed + i)) t (sym look ∙ (ap (term_of env) (sym q) ∙ e)) in
        subst (Over (Usable [] s.sorts o)) u (
          (
            is-of s.sorts o (h.fixed + i) (st.fixed_known i o y),
            tt,
          ),
          tt,
        )
    over x o t (result q y) e =
        subst (λ z. Over (Usable [] s.sorts z) t) y
        (fr t (sym (own-result fn h ps ls r (length new) hp hl) ∙ (ap (term_of env) (sym q) ∙ e)))
    over x o t (extra i q y) e =
        absurd (none-some
        (sym (own-new fn h ps ls r (length new) hp hl i) ∙ (ap (term_of env) (sym q) ∙ e)))

-- ---- at alike values

-- the fixed names in the frame's own environment have their values, by what the environment means
pub own-fixed-named :
    (sc : Scope) (s : PlainState) (v w a : Valuation) (h : Home) (fn : PlainFunction)
    (fx : List NameValue) (f : Frame) (env : PlainEnv) → Store v s h fn fx f → Alike (Old s) v w →
    Means sc w env a → ValuesFit fn.fixed fx →
    ((i : ℕ) (o : Sort) → slice_get fn.fixed i ≡ Some o → HasSort sc o (fixed_start fn + i)) →
    ((i : ℕ) (o : Sort) → slice_get fn.fixed i ≡ Some o →
    term_of env (fixed_start fn + i) ≡ Some (variable (h.fixed + i))) →
    AreNamed a (fixed_start fn) fx
own-fixed-named sc s v w a h fn fx f env st l m fit has look =
    named-of a (fixed_start fn) fx (λ i y e.
    let size = values-length fn.fixed fx fit in
    let o = there-is fn.fixed i (let q = within fx i y e in omega (arith, q, size)) in
    let k = fixed-name s v h fn fx f st size i y e in
    named i o.0 y (fits-at fn.fixed fx i o.0 y fit o.1 e) (has i o.0 o.1)
    (name-alike (Old s) v w (h.fixed + i) y k.0 l k.1) (look i o.0 o.1))
  where
    named :
        (i : ℕ) (o : Sort) (y : NameValue) → HasNameSort o y → HasSort sc o (fixed_start fn + i) →
        IsNamed w (h.fixed + i) y →
        term_of env (fixed_start fn + i) ≡ Some (variable (h.fixed + i)) →
        IsNamed a (fixed_start fn + i) y
    named i Int (a_number z) ok has k e =
        sym (m.whole (fixed_start fn + i) has (variable (h.fixed + i)) e)
        ∙ variable-value w (h.fixed + i)
        ∙ k
    named i Perm (a_fraction n d) ok has k e =
        ap (λ q. q *ℤ pos (suc d))
        (sym (m.share (fixed_start fn + i) has (variable (h.fixed + i)) e)
        ∙ variable-amount w (h.fixed + i))
        ∙ k
        ∙ ap (λ u. n *ℤ pos (u + 1)) (sym m.under)
    named i Int (a_fraction n d) ok has k e = absurd ok
    named i Perm (a_number z) ok has k e = absurd ok

-- a term of the store has its value
pub store-term-alike :
    (s : PlainState) (v w : Valuation) (i : ℕ) (t : Linear) → Meets [] v s → Alike (Old s) v w →
    slice_get s.store i ≡ Some t → value w.whole t ≡ value v.whole t
store-term-alike s v w i t m a e =
    usable-alike [] s v w a t
    (all-at (Over (Usable [] s.sorts Int)) s.store i t m.store_over e)
