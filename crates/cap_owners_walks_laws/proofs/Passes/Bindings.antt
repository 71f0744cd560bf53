-- Which names of shares items bind: a guard's share does, where its slot is a name alone. Nothing else
-- binds one outside conditionals.
use Rattle.std.proofs.Common.{◌≡◌, ◌⊎◌, inl, inr, ℕ, ◌<◌, ◌==◌, ◌||◌, Bool, true, false, List, [], ◌∷◌, ◌++◌, length, Option, Some, None, refl, sym, ap, subst, arith}
use Rattle.std.specs.Prelude.{IsSomeAnd}
use Rattle.std.specs.List.{AllByRecursion, list_any}
use Rattle.std.proofs.lemmas.Bool.Decides.{nat_tests}
use Rattle.cap_lin.specs.Linear.{Linear}
use Rattle.cap_lin.specs.declared.row.Sort.TheVariants.{Int, Perm}
use Rattle.cap_prog.specs.declared.assertion.Asked.TheVariants.{Tok}
use Rattle.cap_prog.specs.declared.assertion.Slot.{Slot}
use Rattle.cap_prog.specs.declared.assertion.Slot.TheVariants.{Any, Is}
use Rattle.cap_galg.specs.Algebras.{PlainAlgebra, unique, divisible, counting, indexed, product, sum, atom_algebra}
use Rattle.cap_prog.specs.Program.{PlainItem, Items, none, item, append_items, PlainRegionType}
use Rattle.cap_prog.specs.WellFormed.{AskedFits, AtomFits}
use Rattle.cap_prog.specs.Scopes.{Scope, HasSort, SlotFits}
use Rattle.cap_goal_spec.specs.States.{PlainEnv}
use Rattle.cap_goal_spec.specs.Terms.{lone_variable}
use Rattle.cap_goal_spec.specs.Environments.{term_of, reading, is_name, is_slot, binds, is_bound_by}
use Rattle.cap_account_resources.proofs.Lists.{all-first, all-second}
use Rattle.cap_account_states.proofs.Matching.{met_env}
use Rattle.cap_account_states.proofs.Naming.{term-same}
use Rattle.cap_owners_walks_laws.proofs.Passes.Names.{lone-fits, sort-same, int-only, open-reading, bound-reading}

-- the name has a term
abbrev pub IsBoundIn : PlainEnv → ℕ → Type 0
IsBoundIn env x = (t : Linear) × (term_of env x ≡ Some t)

-- each name of a share that the items bind has a term
abbrev pub Binds : Scope → Items → PlainEnv → Type 0
Binds sc items env =
    (x : ℕ) → HasSort sc Perm x → is_bound_by x items ≡ true → IsBoundIn env x

-- or is bound by those that remain
abbrev pub BindsOr : Scope → Items → Items → PlainEnv → Type 0
BindsOr sc items rest env =
    (x : ℕ) → HasSort sc Perm x → is_bound_by x items ≡ true →
    (is_bound_by x rest ≡ true) ⊎ IsBoundIn env x

pub not-both : false ≡ true → ⊥
not-both e = cc

-- a slot alone
pub slot-alone :
    (x : ℕ) (y : Slot) → is_slot x y ≡ true →
    (u : Linear) × (y ≡ Is u) × (lone_variable u ≡ Some x)
slot-alone x Any e = absurd (not-both e)
slot-alone x (Is u) e = (u, refl, by (lone_variable u) e)
  where
    by : (o : Option ℕ) → is_name x o ≡ true → o ≡ Some x
    by None e = absurd (not-both e)
    by (Some y) e = let q : y ≡ x = grind (arith, nat_tests, e) in ap Some q

-- one for whole numbers binds none of a share
pub slot-int :
    (sc : Scope) (x : ℕ) (y : Slot) → SlotFits sc Int y → HasSort sc Perm x →
    is_slot x y ≡ true → ⊥
slot-int sc x y fit has e =
    let a = slot-alone x y e in
    int-only (sort-same sc Int Perm x
    (lone-fits sc Int a.0 x a.2 (subst (SlotFits sc Int) a.1 fit)) has)

or-either : (a b : Bool) → (a || b) ≡ true → (a ≡ true) ⊎ (b ≡ true)
or-either true b e = inl refl
or-either false b e = inr e

pub slots-int :
    (sc : Scope) (x : ℕ) (ys : List Slot) → AllByRecursion (SlotFits sc Int) ys →
    HasSort sc Perm x → list_any (is_slot x) ys ≡ true → ⊥
slots-int sc x [] fit has e = not-both e
slots-int sc x (y ∷ ys) fit has e = elim (or-either (is_slot x y) (list_any (is_slot x) ys) e) [
  | inl k ↦ slot-int sc x y fit.0 has k
  | inr k ↦ slots-int sc x ys fit.1 has k
]

-- nor does a fact
pub fact-int :
    (sc : Scope) (x r : ℕ) (args : List Slot) (y : Slot) → HasSort sc Int r →
    AllByRecursion (SlotFits sc Int) (args ++ y ∷ []) → HasSort sc Perm x →
    ((r == x) || (list_any (is_slot x) args || is_slot x y)) ≡ true → ⊥
fact-int sc x r args y region fit has e =
    elim (or-either (r == x) (list_any (is_slot x) args || is_slot x y) e) [
      | inl k ↦
          let q : r ≡ x = grind (arith, nat_tests, k) in
          int-only (sort-same sc Int Perm x (subst (HasSort sc Int) q region) has)
      | inr k ↦ elim (or-either (list_any (is_slot x) args) (is_slot x y) k) [
        | inl m ↦
            slots-int sc x args
            (all-first (SlotFits sc Int) args (y ∷ []) fit) has m
        | inr m ↦ slot-int sc x y (all-second (SlotFits sc Int) args (y ∷ []) fit).0 has m
      ]
    ]

-- an item that binds none, and one of which it is said
pub binds-item :
    (sc : Scope) (i : PlainItem) (more : Items) (env : PlainEnv) →
    ((x : ℕ) → HasSort sc Perm x → binds x i ≡ true → IsBoundIn env x) →
    BindsOr sc (item i more) more env
binds-item sc i more env f x has e = elim (or-either (binds x i) (is_bound_by x more) e) [
  | inl k ↦ inr (f x has k)
  | inr k ↦ inl k
]

-- items behind others bind what they do
pub bound-behind :
    (x : ℕ) (a b : Items) → is_bound_by x b ≡ true → is_bound_by x (append_items a b) ≡ true
bound-behind x none b e = e
bound-behind x (item i a) b e = by (binds x i) (bound-behind x a b e)
  where
    by : (c : Bool) → is_bound_by x (append_items a b) ≡ true →
        (c || is_bound_by x (append_items a b)) ≡ true
    by true k = refl
    by false k = k

-- a slot that is a name alone has a term once it is met
pub slot-binds :
    (env : PlainEnv) (y : Slot) (t : Linear) (x : ℕ) → x < length env → is_slot x y ≡ true →
    IsBoundIn (met_env env (reading env y) t) x
slot-binds env y t x l e =
    let a = slot-alone x y e in
    subst (λ z. IsBoundIn (met_env env (reading env z) t) x) (sym a.1)
    (by a.0 a.2 (term_of env x) refl)
  where
    by :
        (u : Linear) → lone_variable u ≡ Some x → (m : Option Linear) → term_of env x ≡ m →
        IsBoundIn (met_env env (reading env (Is u)) t) x
    by u e None k =
        subst (λ r. IsBoundIn (met_env env r t) x) (sym (open-reading env u x e k))
        (t, term-same env x t l)
    by u e (Some z) k =
        subst (λ r. IsBoundIn (met_env env r t) x) (sym (bound-reading env u x z e k)) (z, k)

-- tokens are asked for by a whole number
pub tok-fits :
    (sc : Scope) (o : Option PlainRegionType) (i : ℕ) (y : Slot) →
    IsSomeAnd o (λ type. AtomFits sc type i (Tok y)) → SlotFits sc Int y
tok-fits sc None i y h = absurd h
tok-fits sc (Some type) i y h = by (atom_algebra type.algebra i) h.form
  where
    by : (a : PlainAlgebra) → AskedFits sc a (Tok y) → SlotFits sc Int y
    by unique k = absurd k
    by divisible k = absurd k
    by counting k = k
    by indexed k = absurd k
    by (product a b) k = absurd k
    by (sum a b) k = absurd k
