-- The states at which a function's body and its loops begin, and at which its promise is given.
use Rattle.std.proofs.Common.{◌≡◌, ℕ, zero, suc, ◌+◌, ◌<◌, List, [], ◌∷◌, ◌++◌, length, take, replicate, arith, refl, sym, ap, ◌∙◌, subst, Some, None}
use Rattle.std.specs.Prelude.{slice_get, unwrap_or}
use Rattle.cap_lin.specs.Linear.{Linear, variable}
use Rattle.cap_lin.specs.Values.{Valuation}
use Rattle.cap_lin.specs.declared.row.Sort.{Sort}
use Rattle.cap_lin.specs.declared.row.Sort.TheVariants.{Int}
use Rattle.cap_prog.specs.Program.{PlainFunction}
use Rattle.cap_prog.specs.Scopes.{HasSort, fixed_start, result_name, requires_scope, ensures_scope, invariant_scope}
use Rattle.cap_goal_spec.specs.Terms.{variables_from}
use Rattle.cap_goal_spec.specs.Environments.{bound, unbound}
use Rattle.cap_account_resources.proofs.Lists.{some-same, none-some, within, map-length, get-first}
use Rattle.cap_account_states.proofs.Meets.{Usable}
use Rattle.cap_account_states.proofs.Scopes.{requires-early, requires-ensures, result-ensures, early-position, ensures-at, invariant-at, param-requires, fixed-requires, store-invariant, fixed-invariant, variables-length, variables-at, unbound-none, rep-length, rep-in}
use Rattle.cap_account_states.proofs.Roots.{flat-bound, sorts_of, Root, no-sort, no-term}

pub take-all : {X : Type 0} (xs ys : List X) (n : ℕ) → length xs ≡ n → take n (xs ++ ys) ≡ xs
take-all [] [] zero e = refl
take-all [] (y ∷ ys) zero e = refl
take-all [] ys (suc n) e = absurd (omega (arith, e))
take-all (x ∷ xs) ys zero e = absurd (omega (arith, e))
take-all (x ∷ xs) ys (suc n) e = ap (λ zs. x ∷ zs) (take-all xs ys n (omega (arith, e)))

-- the root at which a function's `requires` is given
abbrev pub entry_root : PlainFunction → ℕ → Valuation → Root
entry_root f n a = record {
  f = f;
  n = n;
  l = 0;
  gap = f.locals;
  hgap = omega arith;
  new = [];
  sc = requires_scope f;
  at_position = λ x o i. early-position f [] x o (requires-early f x o i);
  low_in = λ x q. param-requires f x (omega (arith, q));
  fixed_in = fixed-requires f;
  ls = unbound f.locals;
  hls = rep-length f.locals None;
  locals_are = λ i t q. absurd (none-some (sym (unbound-none f.locals i) ∙ q));
  rs = [];
  rs_in = λ j e. absurd (no-sort j e);
  r = None;
  r_is = λ t e. absurd (no-term t e);
  a = a;
}

pub one-result :
    (f : PlainFunction) (new : List Sort) (j : ℕ) → slice_get (Int ∷ []) j ≡ Some Int →
    HasSort (ensures_scope f new) Int (result_name f + j)
one-result f new zero e =
    let here : result_name f ≡ result_name f + 0 = omega arith in
    subst (HasSort (ensures_scope f new) Int) here (result-ensures f new)
one-result f new (suc j) e = absurd (none-some e)

-- the root at which `ensures` is given
abbrev pub exit_root : PlainFunction → ℕ → List Sort → Valuation → Root
exit_root f n new a =
    let last = variable (f.params + 0 + length f.fixed) in
    let early = requires-ensures f new in
    record {
      f = f;
      n = n;
      l = 0;
      gap = f.locals;
      hgap = omega arith;
      new = new;
      sc = ensures_scope f new;
      at_position = ensures-at f new;
      low_in = λ x q. early x Int (param-requires f x (omega (arith, q)));
      fixed_in = λ i o e. early (fixed_start f + i) o (fixed-requires f i o e);
      ls = unbound f.locals;
      hls = rep-length f.locals None;
      locals_are = λ i t q. absurd (none-some (sym (unbound-none f.locals i) ∙ q));
      rs = Int ∷ [];
      rs_in = one-result f new;
      r = Some last;
      r_is = λ t e. (sym (some-same last t e), refl);
      a = a;
    }

pub local-variable :
    (f : PlainFunction) (i : ℕ) (t : Linear) →
    unwrap_or (slice_get (bound (variables_from f.params f.locals)) i) None ≡ Some t →
    (i < f.locals) × (variable (f.params + i) ≡ t)
local-variable f i t q =
    let r = sym (flat-bound (variables_from f.params f.locals) i) ∙ q in
    let u = within (variables_from f.params f.locals) i t r in
    let w = variables-length f.params f.locals in
    let i_in : i < f.locals = omega (arith, u, w) in
    (i_in, some-same (variable (f.params + i)) t (sym (variables-at f.params f.locals i i_in) ∙ r))

-- the root at which an invariant is given
abbrev pub loop_root : PlainFunction → ℕ → List Sort → Valuation → Root
loop_root f n new a = record {
  f = f;
  n = n;
  l = f.locals;
  gap = 0;
  hgap = omega arith;
  new = new;
  sc = invariant_scope f new;
  at_position = invariant-at f new;
  low_in = store-invariant f new;
  fixed_in = fixed-invariant f new;
  ls = bound (variables_from f.params f.locals);
  hls = map-length Some (variables_from f.params f.locals) ∙ variables-length f.params f.locals;
  locals_are = local-variable f;
  rs = [];
  rs_in = λ j e. absurd (no-sort j e);
  r = None;
  r_is = λ t e. absurd (no-term t e);
  a = a;
}

pub low-variable :
    (f : PlainFunction) (l i : ℕ) → i < f.params + l → Usable [] (sorts_of f l []) Int i
low-variable f l i y = (
  get-first (replicate (f.params + l) Int) (f.fixed ++ []) i Int
      (rep-in (f.params + l) i Int y),
  tt,
)
