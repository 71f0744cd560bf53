-- Terms that are made of terms whose parts ascend.
use Rattle.std.proofs.Common.{◌≡◌, ℕ, zero, suc, ◌+◌, ℤ, pos, negsuc, Bool, true, false, List, [], ◌∷◌, ◌++◌, Option, Some, None, length, refl, arith}
use Rattle.std.specs.Prelude.{slice_get, unwrap_or}
use Rattle.std.specs.List.{AllByRecursion}
use Rattle.cap_lin.specs.Linear.{Linear, number, variable, plus, times, minus, negative, is_zero, without, replaced_at, replaced, coefficient}
use Rattle.cap_lin.specs.Rows.{below_zero, row_of, negations_as, negations}
use Rattle.cap_lin.specs.declared.row.Row.{Row}
use Rattle.cap_lin.specs.declared.row.Kind.{Kind}
use Rattle.cap_lin.specs.declared.row.Kind.TheVariants.{Le, Lt, Eq, Ne}
use Rattle.cap_lin.specs.declared.row.Sort.{Sort}
use Rattle.cap_lin.specs.declared.row.Sort.TheVariants.{Int, Perm}
use Rattle.cap_lin.specs.declared.row.Op.{Op}
use Rattle.cap_lin.specs.declared.row.Op.TheVariants.{Eq as Equal, Ne as Unequal, Le as AtMost, Lt as Less, Gt as Greater, Ge as AtLeast}
use Rattle.cap_lin.proofs.Ascend.{sum-ascends, multiple-ascends, without-ascends}
use Rattle.cap_prog.specs.Program.{PlainFunction}
use Rattle.cap_rules.specs.cap_goal_spec.Terms.{with_multiples, term_over, variables_from}
use Rattle.cap_rules.specs.cap_goal_spec.States.{PlainFact, PlainEnv, Home}
use Rattle.cap_rules.specs.cap_goal_spec.Environments.{term_of, bound_term, term_in, with_name, bind_open, bound, unbound, callee_env, own_env, region_env}
use Rattle.cap_rules_ascending.specs.Ascending.{TermAscends, RowAscends, NameAscends, EnvAscends, FactAscends}
use Rattle.cap_rules_ascending.proofs.Lists.{IfSome, all-join, all-cons, all-get, all-set}

pub variable-ascends : (x : ℕ) → TermAscends (variable x)
variable-ascends x = (omega arith, (λ e. absurd (one-not-zero e)), tt)
  where
    one-not-zero : pos 1 ≡ pos 0 → ⊥
    one-not-zero e = cc

pub plus-ascends : (s t : Linear) → TermAscends s → TermAscends t → TermAscends (plus s t)
unfolding plus
plus-ascends s t h k = sum-ascends 0 s.parts t.parts h k

pub times-ascends : (k : ℤ) (t : Linear) → TermAscends t → TermAscends (times k t)
unfolding times
times-ascends k t h = multiple-ascends 0 k t.parts h

pub minus-ascends : (s t : Linear) → TermAscends s → TermAscends t → TermAscends (minus s t)
minus-ascends s t h k = plus-ascends s (negative t) h (times-ascends (negsuc 0) t k)

with-multiples-ascends : (terms : ℕ → Linear) (sum : Linear) (ps : List (ℕ × ℤ)) → ((x : ℕ) → TermAscends (terms x)) → TermAscends sum → TermAscends (with_multiples terms sum ps)
with-multiples-ascends terms sum [] h k = k
with-multiples-ascends terms sum (p ∷ ps) h k = with-multiples-ascends terms (plus sum (times p.1 (terms p.0))) ps h (plus-ascends sum (times p.1 (terms p.0)) k (times-ascends p.1 (terms p.0) (h p.0)))

-- whatever the term is, terms that ascend are put in
pub over-ascends : (terms : ℕ → Linear) (t : Linear) → ((x : ℕ) → TermAscends (terms x)) → TermAscends (term_over terms t)
over-ascends terms t h = with-multiples-ascends terms (number t.constant) t.parts h tt

replaced-by : (b : Bool) (k : ℤ) (x : ℕ) (by t : Linear) → is_zero k ≡ b → TermAscends by → TermAscends t → TermAscends (replaced_at k x by t)
replaced-by true k x by t e h g = rw e g
replaced-by false k x by t e h g = rw e (plus-ascends (without x t) (times k by) (without-ascends 0 x t.parts g) (times-ascends k by h))

pub replaced-ascends : (x : ℕ) (by t : Linear) → TermAscends by → TermAscends t → TermAscends (replaced x by t)
unfolding replaced
replaced-ascends x by t h g = replaced-by (is_zero (coefficient x t.parts)) (coefficient x t.parts) x by t refl h g

-- ---- rows
below-ascends : (s : Sort) (t : Linear) → TermAscends t → RowAscends (below_zero s t)
below-ascends Int t h = h
below-ascends Perm t h = h

pub row-ascends : (l : Linear) (op : Op) (r : Linear) (o : Sort) → TermAscends l → TermAscends r → RowAscends (row_of l op r o)
row-ascends l Equal r o h k = minus-ascends l r h k
row-ascends l Unequal r o h k = minus-ascends l r h k
row-ascends l Less r o h k = below-ascends o (minus l r) (minus-ascends l r h k)
row-ascends l AtMost r o h k = minus-ascends l r h k
row-ascends l Greater r o h k = below-ascends o (minus r l) (minus-ascends r l k h)
row-ascends l AtLeast r o h k = minus-ascends r l k h

negations-by : (k : Kind) (o : Sort) (t : Linear) → TermAscends t → AllByRecursion RowAscends (negations_as k o t)
negations-by Le o t h = (below-ascends o (negative t) (times-ascends (negsuc 0) t h), tt)
negations-by Lt o t h = (times-ascends (negsuc 0) t h, tt)
negations-by Eq o t h = (below-ascends o t h, (below-ascends o (negative t) (times-ascends (negsuc 0) t h), tt))
negations-by Ne o t h = (h, tt)

pub negations-ascend : (r : Row) → RowAscends r → AllByRecursion RowAscends (negations r)
negations-ascend r h = negations-by r.kind r.sort r.term h

-- ---- environments
name-of : (o : Option (Option Linear)) → IfSome NameAscends o → NameAscends (unwrap_or o None)
name-of None h = tt
name-of (Some n) h = h

pub term-of-ascends : (env : PlainEnv) (x : ℕ) → EnvAscends env → NameAscends (term_of env x)
term-of-ascends env x h = name-of (slice_get env x) (all-get NameAscends env x h)

bound-by : (o : Option Linear) (d : Linear) → NameAscends o → TermAscends d → TermAscends (unwrap_or o d)
bound-by None d h k = k
bound-by (Some t) d h k = h

pub in-ascends : (env : PlainEnv) (t : Linear) → EnvAscends env → TermAscends (term_in env t)
in-ascends env t h = over-ascends (bound_term env) t (λ x. bound-by (term_of env x) (number (pos 0)) (term-of-ascends env x h) tt)

pub with-name-ascends : (env : PlainEnv) (x : ℕ) (t : Linear) → EnvAscends env → TermAscends t → EnvAscends (with_name env x t)
with-name-ascends env x t h k = all-set NameAscends env x (Some t) h k

pub bind-ascends : (env : PlainEnv) (x : Option ℕ) (t : Linear) → EnvAscends env → TermAscends t → EnvAscends (bind_open env x t)
bind-ascends env None t h k = h
bind-ascends env (Some x) t h k = with-name-ascends env x t h k

pub bound-ascends : (ts : List Linear) → AllByRecursion TermAscends ts → EnvAscends (bound ts)
bound-ascends [] h = tt
bound-ascends (t ∷ ts) h = (h.0, bound-ascends ts h.1)

pub unbound-ascends : (n : ℕ) → EnvAscends (unbound n)
unbound-ascends zero = tt
unbound-ascends (suc n) = (tt, unbound-ascends n)

pub variables-ascend : (x n : ℕ) → AllByRecursion TermAscends (variables_from x n)
variables-ascend x zero = tt
variables-ascend x (suc n) = (variable-ascends x, variables-ascend (suc x) n)

pub callee-ascends : (f : PlainFunction) (ts : List Linear) (r : Linear) → AllByRecursion TermAscends ts → TermAscends r → EnvAscends (callee_env f ts r)
callee-ascends f ts r h k =
    let new = unbound (length f.ensures.names) in
    let others = unbound (f.locals + length f.fixed) in
    all-join NameAscends (bound ts) (others ++ Some r ∷ new) (bound-ascends ts h)
    (all-join NameAscends others (Some r ∷ new) (unbound-ascends (f.locals + length f.fixed)) (all-cons NameAscends (Some r) new k (unbound-ascends (length f.ensures.names))))

pub own-ascends : (f : PlainFunction) (home : Home) (ts : List Linear) (locals : PlainEnv) (r : Option Linear) (n : ℕ) → AllByRecursion TermAscends ts → EnvAscends locals → NameAscends r → EnvAscends (own_env f home ts locals r n)
own-ascends f home ts locals r n h k g =
    let vs = variables_from home.fixed (length f.fixed) in
    all-join NameAscends (bound ts) (locals ++ (bound vs ++ r ∷ unbound n)) (bound-ascends ts h)
    (all-join NameAscends locals (bound vs ++ r ∷ unbound n) k
    (all-join NameAscends (bound vs) (r ∷ unbound n) (bound-ascends vs (variables-ascend home.fixed (length f.fixed))) (all-cons NameAscends r (unbound n) g (unbound-ascends n))))

pub region-ascends : (f : PlainFact) (names : PlainEnv) → FactAscends f → EnvAscends names → EnvAscends (region_env f names)
region-ascends f names h k = (h.region, all-join NameAscends (bound f.args) names (bound-ascends f.args h.args) k)
