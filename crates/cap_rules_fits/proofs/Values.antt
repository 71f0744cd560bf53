-- Terms that are made of terms below a number, and environments of such terms.
use Rattle.std.proofs.Common.{◌≡◌, ℕ, ℤ, pos, ◌<◌, ◌≤◌, List, [], ◌∷◌, length, Option, Some, None, arith, refl}
use Rattle.std.specs.Prelude.{slice_get, unwrap_or}
use Rattle.std.specs.List.{AllByRecursion}
use Rattle.std.proofs.lemmas.List.{length-set}
use Rattle.std.proofs.lemmas.List.Elements.{recursion_from_All}
use Rattle.cap_lin.specs.Linear.{Linear, number, plus, times, minus, IsBelow}
use Rattle.cap_lin.specs.Rows.{row_of}
use Rattle.cap_lin.specs.declared.row.Sort.{Sort}
use Rattle.cap_lin.specs.declared.row.Op.{Op}
use Rattle.cap_fm_spec.proofs.Lists.{each-map}
use Rattle.cap_goal_spec.specs.Terms.{with_multiples, term_over}
use Rattle.cap_goal_spec.specs.States.{PlainFact, PlainEnv}
use Rattle.cap_goal_spec.specs.Environments.{zero_value, term_of, bound_term, term_in, with_name, bind_open, bound, region_env}
use Rattle.cap_goal_spec.specs.Fits.{NameIsBelow}
use Rattle.cap_rules_ascending.proofs.Lists.{IfSome, all-get, all-set, all-join}
use Rattle.cap_rules_fits.proofs.Below.{PartsBelow, below-of, sums-below, merged-below, multiples-below, minus-below, row-below, number-below, bound-below}

pub below-parts : (n : ℕ) (t : Linear) → IsBelow n t → PartsBelow n t.parts
below-parts n t h = recursion_from_All (λ p. p.0 < n) t.parts h

pub wider-below : (n m : ℕ) (t : Linear) → n ≤ m → IsBelow n t → IsBelow m t
wider-below n m t l h = below-of m t (each-map _ _ t.parts (below-parts n t h) (λ p k. within p.0 k))
  where
    within : (x : ℕ) → x < n → x < m
    within x k = omega arith

pub plus-is-below : (n : ℕ) (s t : Linear) → IsBelow n s → IsBelow n t → IsBelow n (plus s t)
unfolding plus
plus-is-below n s t h k = below-of n (plus s t) (sums-below n _ (merged-below n s.parts t.parts (below-parts n s h) (below-parts n t k)))

pub times-is-below : (n : ℕ) (k : ℤ) (t : Linear) → IsBelow n t → IsBelow n (times k t)
unfolding times
times-is-below n k t h = below-of n (times k t) (multiples-below n k t.parts (below-parts n t h))

pub minus-is-below : (n : ℕ) (s t : Linear) → IsBelow n s → IsBelow n t → IsBelow n (minus s t)
minus-is-below n s t h k = below-of n (minus s t) (minus-below n s t (below-parts n s h) (below-parts n t k))

pub row-is-below : (n : ℕ) (l : Linear) (op : Op) (r : Linear) (o : Sort) → IsBelow n l → IsBelow n r → IsBelow n (row_of l op r o).term
row-is-below n l op r o h k = below-of n (row_of l op r o).term (row-below n l op r o (below-parts n l h) (below-parts n r k))

with-multiples-below : (n : ℕ) (terms : ℕ → Linear) (sum : Linear) (ps : List (ℕ × ℤ)) → ((x : ℕ) → IsBelow n (terms x)) → IsBelow n sum → IsBelow n (with_multiples terms sum ps)
with-multiples-below n terms sum [] h k = k
with-multiples-below n terms sum (p ∷ ps) h k = with-multiples-below n terms (plus sum (times p.1 (terms p.0))) ps h (plus-is-below n sum _ k (times-is-below n p.1 (terms p.0) (h p.0)))

-- whatever the term is, terms below the number are put in
pub over-below : (n : ℕ) (terms : ℕ → Linear) (t : Linear) → ((x : ℕ) → IsBelow n (terms x)) → IsBelow n (term_over terms t)
over-below n terms t h = with-multiples-below n terms (number t.constant) t.parts h (number-below n t.constant)

-- ---- environments

abbrev pub EnvBelow : ℕ → PlainEnv → Type 0
EnvBelow n env = AllByRecursion (NameIsBelow n) env

name-of : (n : ℕ) (o : Option (Option Linear)) → IfSome (NameIsBelow n) o → NameIsBelow n (unwrap_or o None)
name-of n None h = tt
name-of n (Some x) h = h

pub term-of-below : (n : ℕ) (env : PlainEnv) (x : ℕ) → EnvBelow n env → NameIsBelow n (term_of env x)
term-of-below n env x h = name-of n (slice_get env x) (all-get (NameIsBelow n) env x h)

bound-by : (n : ℕ) (o : Option Linear) (d : Linear) → NameIsBelow n o → IsBelow n d → IsBelow n (unwrap_or o d)
bound-by n None d h k = k
bound-by n (Some t) d h k = h

pub in-below : (n : ℕ) (env : PlainEnv) (t : Linear) → EnvBelow n env → IsBelow n (term_in env t)
in-below n env t h = over-below n (bound_term env) t (λ x. bound-by n (term_of env x) zero_value (term-of-below n env x h) (number-below n (pos 0)))

-- an environment of the same names, whose terms are below the number
pub record EnvKept (n : ℕ) (env new : PlainEnv) : Type 0 where
  pub names : EnvBelow n new
  pub size : length new ≡ length env

pub env-same : (n : ℕ) (env : PlainEnv) → EnvBelow n env → EnvKept n env env
env-same n env h = record { names = h; size = refl }

pub named : (n : ℕ) (env : PlainEnv) (x : ℕ) (t : Linear) → EnvBelow n env → IsBelow n t → EnvKept n env (with_name env x t)
named n env x t h k = record { names = all-set (NameIsBelow n) env x (Some t) h k; size = length-set env x (Some t) }

pub opened-to : (n : ℕ) (env : PlainEnv) (x : Option ℕ) (t : Linear) → EnvBelow n env → IsBelow n t → EnvKept n env (bind_open env x t)
opened-to n env None t h k = env-same n env h
opened-to n env (Some x) t h k = named n env x t h k

pub wider-env : (n m : ℕ) (env : PlainEnv) → n ≤ m → EnvBelow n env → EnvBelow m env
wider-env n m [] l h = tt
wider-env n m (None ∷ env) l h = (tt, wider-env n m env l h.1)
wider-env n m (Some t ∷ env) l h = (wider-below n m t l h.0, wider-env n m env l h.1)

pub region-env-below : (n : ℕ) (f : PlainFact) (names : PlainEnv) → IsBelow n f.region → AllByRecursion (IsBelow n) f.args → EnvBelow n names → EnvBelow n (region_env f names)
region-env-below n f names h k g = (h, all-join (NameIsBelow n) (bound f.args) names (bound-below n f.args k) g)
