-- Names of environments, one after the other.
use Rattle.std.proofs.Common.{◌≡◌, ℕ, zero, suc, ◌+◌, List, [], ◌∷◌, ◌++◌, refl, ap, ◌∙◌, add-zero, arith, length, Option, Some, None}
use Rattle.std.proofs.lemmas.List.{append_assoc, replicate-append-replicate}
use Rattle.cap_prog.specs.Program.{PlainFunction}
use Rattle.cap_prog.specs.Views.{assertion_view}
use Rattle.cap_prog.specs.declared.assertion.Assertion.{Assertion}
use Rattle.cap_prog.specs.declared.assertion.Item.TheFolds.{the_lemmas}
use Rattle.cap_rules.specs.cap_goal_spec.States.{PlainEnv, Home}
use Rattle.cap_rules.specs.cap_goal_spec.Environments.{bound, unbound, callee_env, own_env}
use Rattle.cap_lin.specs.Linear.{Linear, variable}
use Rattle.cap_rules.specs.cap_goal_spec.Terms.{variables_from}

pub variables-last : (x n : ℕ) → variables_from x (suc n) ≡ variables_from x n ++ variable (x + n) ∷ []
variables-last x zero = rw add-zero refl
variables-last x (suc n) = ap (λ ts. variable x ∷ ts) (variables-last (suc x) n ∙ ap (λ y. variables_from (suc x) n ++ variable y ∷ []) (omega arith))

pub callee-names : (f : PlainFunction) (ts : List Linear) (r s : Linear) (start : PlainEnv) (l m n : ℕ) → start ≡ [] → l ≡ f.locals → m ≡ length f.fixed → n ≡ length f.ensures.names → s ≡ r → ((((start ++ bound ts) ++ unbound l) ++ unbound m) ++ Some s ∷ []) ++ unbound n ≡ callee_env f ts r
callee-names f ts r s start l m n e el em en er = rw (e, el, em, en, er, ← replicate-append-replicate {A = Option Linear} f.locals (length f.fixed) None) (simp append_assoc)

pub own-names : (f : PlainFunction) (home : Home) (ps vs : List Linear) (locals more start : PlainEnv) (o : Option Linear) (n : ℕ) → start ≡ [] → more ≡ locals → vs ≡ variables_from home.fixed (length f.fixed) → ((((start ++ bound ps) ++ more) ++ bound vs) ++ o ∷ []) ++ unbound n ≡ own_env f home ps locals o n
own-names f home ps vs locals more start o n e em ev = rw (e, em, ev) (simp append_assoc)

pub names-seen : (a : Assertion) → (assertion_view a).names ≡ a.names.items
names-seen a = search the_lemmas
