-- Environments whose terms are over certain variables.
use Rattle.std.proofs.Common.{◌≡◌, ℕ, zero, suc, ℤ, List, [], ◌∷◌, Option, Some, subst}
use Rattle.std.specs.Prelude.{unwrap_or}
use Rattle.std.specs.List.{AllByRecursion}
use Rattle.cap_lin.specs.Linear.{Linear}
use Rattle.cap_goal_spec.specs.States.{PlainFact, PlainEnv}
use Rattle.cap_goal_spec.specs.Environments.{zero_value, term_of, bound_term, term_in, bound, unbound, region_env}
use Rattle.cap_account_resources.proofs.Lists.{all-both}
use Rattle.cap_account_states.proofs.Terms.{Vars, Over, over-over}

-- every variable is one of all
pub all-vars : (parts : List (ℕ × ℤ)) → Vars (λ x. Unit {0}) parts
all-vars [] = tt
all-vars (p ∷ parts) = (tt, all-vars parts)

module _ (P : ℕ → Type 0) where
  -- what a name stands for: 0 where it is unbound, which has no variables
  abbrev pub NameOver : Option Linear → Type 0
  NameOver o = Over P (unwrap_or o zero_value)

  abbrev pub EnvOver : PlainEnv → Type 0
  EnvOver env = AllByRecursion NameOver env

  -- each name, each term of a name, and each term in the environment
  pub name-over : (env : PlainEnv) → EnvOver env → (x : ℕ) → Over P (bound_term env x)
  name-over [] h x = tt
  name-over (o ∷ env) h zero = h.0
  name-over (o ∷ env) h (suc x) = name-over env h.1 x

  pub bound-over : (env : PlainEnv) → EnvOver env → (x : ℕ) (t : Linear) →
      term_of env x ≡ Some t → Over P t
  bound-over env h x t e = subst NameOver e (name-over env h x)

  pub in-env-over : (env : PlainEnv) → EnvOver env → (t : Linear) → Over P (term_in env t)
  in-env-over env h t =
      over-over P (λ x. Unit {0}) (bound_term env) t (λ x i. name-over env h x) (all-vars t.parts)

  -- what environments are made of
  pub all-bound : (ts : List Linear) → AllByRecursion (Over P) ts → EnvOver (bound ts)
  all-bound [] h = tt
  all-bound (t ∷ ts) h = (h.0, all-bound ts h.1)

  pub none-bound : (n : ℕ) → EnvOver (unbound n)
  none-bound zero = tt
  none-bound (suc n) = (tt, none-bound n)

  pub region-env-over : (f : PlainFact) (env : PlainEnv) → Over P f.region →
      AllByRecursion (Over P) f.args → EnvOver env → EnvOver (region_env f env)
  region-env-over f env r a h = (r, all-both NameOver (bound f.args) env (all-bound f.args a) h)
