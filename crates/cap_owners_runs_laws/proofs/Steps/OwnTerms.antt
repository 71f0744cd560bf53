-- The names of a function at home stand for variables alone, or for whole numbers.
use Rattle.std.proofs.Common.{◌≡◌, inl, inr, ℕ, zero, suc, ◌+◌, ◌<◌, List, [], ◌∷◌, ◌++◌, length, take, Option, Some, None, subst, arith}
use Rattle.std.specs.Prelude.{slice_get}
use Rattle.std.specs.List.{AllByRecursion}
use Rattle.cap_lin.specs.Linear.{Linear}
use Rattle.cap_lin.specs.Values.{Valuation}
use Rattle.cap_lin.specs.declared.row.Sort.{Sort}
use Rattle.cap_lin.specs.declared.row.Sort.TheVariants.{Int}
use Rattle.cap_prog.specs.Program.{PlainFunction}
use Rattle.cap_goal_spec.specs.Terms.{variables_from}
use Rattle.cap_goal_spec.specs.States.{PlainEnv, PlainState, Home}
use Rattle.cap_goal_spec.specs.Environments.{term_of, bound, unbound, own_env}
use Rattle.cap_machine.specs.Machine.{Frame}
use Rattle.cap_machine_accounts.specs.Assertions.{NameValue}
use Rattle.cap_account_resources.proofs.Lists.{some-same, none-some, within, there-is}
use Rattle.cap_account_states.proofs.Meets.{Usable, Meets}
use Rattle.cap_account_states.proofs.Terms.{Over, vars-more}
use Rattle.cap_account_steps.proofs.Stores.{Store}
use Rattle.cap_owners_walks_laws.proofs.Passes.Takes.{IsNameTerm, AreNameTerms}

-- ---- terms of an environment

abbrev Each : (Linear → Type 0) → PlainEnv → Type 0
Each P env = (x : ℕ) (t : Linear) → term_of env x ≡ Some t → P t

each-none : (P : Linear → Type 0) → Each P []
each-none P x t e = absurd (none-some e)

each-more :
    (P : Linear → Type 0) (o : Option Linear) (env : PlainEnv) →
    ((t : Linear) → o ≡ Some t → P t) → Each P env → Each P (o ∷ env)
each-more P o env h k zero t e = h t e
each-more P o env h k (suc x) t e = k x t e

each-join : (P : Linear → Type 0) (as' bs : PlainEnv) → Each P as' → Each P bs → Each P (as' ++ bs)
each-join P [] bs h k = k
each-join P (a ∷ as') bs h k =
    each-more P a (as' ++ bs) (h 0) (each-join P as' bs (λ x. h (suc x)) k)

each-bound :
    (P : Linear → Type 0) (ts : List Linear) → AllByRecursion P ts → Each P (bound ts)
each-bound P [] h = each-none P
each-bound P (t ∷ ts) h =
    each-more P (Some t) (bound ts) (λ u e. subst P (some-same t u e) h.0) (each-bound P ts h.1)

each-unbound : (P : Linear → Type 0) (n : ℕ) → Each P (unbound n)
each-unbound P zero = each-none P
each-unbound P (suc n) =
    each-more P None (unbound n) (λ t e. absurd (none-some e)) (each-unbound P n)

taken-all :
    {A : Type 0} (P : A → Type 0) (n : ℕ) (xs : List A) → AllByRecursion P xs →
    AllByRecursion P (take n xs)
taken-all P zero xs h = tt
taken-all P (suc n) [] h = tt
taken-all P (suc n) (x ∷ xs) h = (h.0, taken-all P n xs h.1)

-- ---- a function at home

-- a term over whole numbers
pub over-name :
    (sorts : List Sort) (t : Linear) → Over (Usable [] sorts Int) t → IsNameTerm sorts t
over-name sorts t h =
    inr (vars-more (Usable [] sorts Int) (λ x. slice_get sorts x ≡ Some Int) (λ x u. u.0) t.parts h)

variables-named :
    (sorts : List Sort) (k n : ℕ) → ((i : ℕ) → i < n → k + i < length sorts) →
    AllByRecursion (IsNameTerm sorts) (variables_from k n)
variables-named sorts k zero h = tt
variables-named sorts k (suc n) h = (
  inl (let l = h 0 (omega arith) in omega (arith, l)),
  variables-named sorts (suc k) n
      (λ i l. (let m = h (suc i) (omega (arith, l)) in omega (arith, m))),
)

pub own-terms :
    (v : Valuation) (s : PlainState) (h : Home) (fn : PlainFunction) (fixed : List NameValue)
    (f : Frame) → Store v s h fn fixed f → Meets [] v s → (locals : PlainEnv)
    (result : Option Linear) (new : ℕ) →
    ((i : ℕ) (t : Linear) → term_of locals i ≡ Some t → Over (Usable [] s.sorts Int) t) →
    ((t : Linear) → result ≡ Some t → Over (Usable [] s.sorts Int) t) →
    AreNameTerms s.sorts (own_env fn h (take fn.params s.store) locals result new)
own-terms v s h fn fixed f st m locals result new hl hr =
    let P = IsNameTerm s.sorts in
    let vars = variables_from h.fixed (length fn.fixed) in
    each-join P (bound (take fn.params s.store)) _
    (each-bound P (take fn.params s.store)
    (taken-all P fn.params s.store (all-over s.store m.store_over)))
    (each-join P locals (bound vars ++ result ∷ unbound new)
    (λ i t e. over-name s.sorts t (hl i t e))
    (each-join P (bound vars) (result ∷ unbound new)
    (each-bound P vars (variables-named s.sorts h.fixed (length fn.fixed) (λ i l.
    let o = there-is fn.fixed i l in within s.sorts (h.fixed + i) o.0 (st.fixed_known i o.0 o.1))))
    (each-more P result (unbound new) (λ t e. over-name s.sorts t (hr t e)) (each-unbound P new))))
  where
    all-over :
        (ts : List Linear) → AllByRecursion (Over (Usable [] s.sorts Int)) ts →
        AllByRecursion (IsNameTerm s.sorts) ts
    all-over [] o = tt
    all-over (t ∷ ts) o = (over-name s.sorts t o.0, all-over ts o.1)
