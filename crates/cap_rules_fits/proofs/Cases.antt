-- The roots of a region type fit.
use Rattle.std.proofs.Common.{◌≡◌, ℕ, zero, suc, ◌+◌, ◌-◌, ◌<◌, ◌≤◌, List, [], ◌∷◌, map, replicate, length, refl, sym, ap, ◌∙◌, subst, arith, length-append, Option, Some, None, false}
use Rattle.std.specs.Prelude.{slice_get, IsSomeAnd}
use Rattle.std.specs.List.{AllByRecursion}
use Rattle.std.proofs.lemmas.List.{length-replicate, length-map}
use Rattle.cap_lin.specs.Linear.{IsBelow}
use Rattle.cap_lin.specs.declared.row.Sort.{Sort}
use Rattle.cap_lin.specs.declared.row.Sort.TheVariants.{Int}
use Rattle.cap_prog.specs.declared.assertion.Comp.{Comp}
use Rattle.cap_prog.specs.Program.{PlainCase, PlainRegionType, PlainProgram}
use Rattle.cap_prog.specs.Scopes.{Scope, CompFits, region_sorts, region_scope}
use Rattle.cap_prog.specs.WellFormed.{CaseFits, RegionFits}
use Rattle.cap_goal_spec.specs.Terms.{variables_from}
use Rattle.cap_goal_spec.specs.States.{to_give, to_rest, to_close}
use Rattle.cap_goal_spec.specs.Environments.{bound}
use Rattle.cap_goal_spec.specs.Roots.{written_row, case_state, case_root}
use Rattle.cap_goal_spec.specs.Fits.{StateFits, ItemsFitEnv}
use Rattle.cap_rules_fits.specs.Roots.{RootFits}
use Rattle.cap_rules_fits.proofs.Below.{below-of, row-below, term-below, variable-below, variables-below, bound-below, variables-length, bound-length}
use Rattle.cap_rules_fits.proofs.Tasks.{tasks-fit}

pub each-get : {A : Type 0} (P : A → Type 0) (xs : List A) (i : ℕ) (x : A) → AllByRecursion P xs → slice_get xs i ≡ Some x → P x
each-get P [] i x h e = absurd (none e)
  where
    none : None ≡ Some x → ⊥
    none e = cc
each-get P (y ∷ ys) zero x h e = subst P (one e) h.0
  where
    one : Some y ≡ Some x → y ≡ x
    one e = cc
each-get P (y ∷ ys) (suc i) x h e = each-get P ys i x h.1 e

sorts-length : (k : PlainRegionType) (names : List Sort) → length (region_sorts k names) ≡ k.params + length names
sorts-length k names = length-append (replicate k.params Int) names ∙ ap (λ n. n + length names) (length-replicate k.params Int)

pub scope-length : (k : PlainRegionType) (names : List Sort) → length (region_scope k names) ≡ k.params + length names
scope-length k names =
    length-append (replicate k.params (Some Int)) (map Some names) ∙ (ap (λ n. n + length (map Some names)) (length-replicate k.params (Some Int)) ∙ ap (λ n. k.params + n) (length-map names Some))

same-length : (k : PlainRegionType) (names : List Sort) → length (region_scope k names) ≤ length (region_sorts k names)
same-length k names = let a = scope-length k names in let b = sorts-length k names in omega arith

rows-below : (scope : Scope) (n : ℕ) (cs : List Comp) → length scope ≤ n → AllByRecursion (CompFits scope) cs → AllByRecursion (λ r. IsBelow n r.term) (map written_row cs)
rows-below scope n [] e h = tt
rows-below scope n (c ∷ cs) e h =
    (below-of n (written_row c).term (row-below n c.left c.op c.right c.sort (term-below scope n c.sort c.left e h.0.0) (term-below scope n c.sort c.right e h.0.1)), rows-below scope n cs e h.1)

one-more : (n : ℕ) → 0 < n → n ≡ suc (n - 1)
one-more n h = omega arith

args-length : (n : ℕ) → 0 < n → n ≡ suc (length (variables_from 1 (n - 1)))
args-length n h = one-more n h ∙ ap suc (sym (variables-length 1 (n - 1)))

env-length : (n : ℕ) → length (bound (variables_from 0 n)) ≡ n
env-length n = bound-length (variables_from 0 n) ∙ variables-length 0 n

state-fits : (p : PlainProgram) (k : PlainRegionType) (n : ℕ) (c : PlainCase) → slice_get p.regions n ≡ Some k → RegionFits p k → CaseFits p k c → StateFits p (case_state k n c)
state-fits p k n c e r f =
    let count : ℕ = length (region_sorts k c.names) in
    let size : count ≡ k.params + length c.names = sorts-length k c.names in
    let itself : 0 < k.params = r.itself in
    let few : k.params + length c.names ≤ 64 = f.variables in
    let rows : length (map written_row c.when) ≡ length c.when = length-map c.when written_row in
    let comparisons : length c.when ≤ 1048576 = f.comparisons in
    record {
      rows = rows-below (region_scope k c.names) count c.when (same-length k c.names) f.when;
      store = tt;
      addresses = tt;
      contents = tt;
      facts = tt;
      guards = tt;
      guards_parted = tt;
      before = tt;
      before_parted = tt;
      opened = (
        record {
          region = variable-below count 0 (omega arith);
          arity = subst (λ (o : Option PlainRegionType). IsSomeAnd o (λ y. y.params ≡ suc (length (variables_from 1 (k.params - 1))))) (sym e) (args-length k.params itself);
          args = variables-below count 1 (k.params - 1) (omega arith);
          state = below-of count c.state (term-below (region_scope k c.names) count Int c.state (same-length k c.names) f.state);
        },
        tt,
      );
      envs = (bound-below count _ (variables-below count 0 (k.params + length c.names) (omega arith)), tt);
      room = record {
        sorts = omega arith;
        rows = omega arith;
        store = omega arith;
        cells = omega arith;
        facts = omega arith;
        guards = omega arith;
        before = omega arith;
        opened = omega arith;
        envs = omega arith;
      };
    }

items-fit : (p : PlainProgram) (k : PlainRegionType) (c : PlainCase) → CaseFits p k c → ItemsFitEnv p (bound (variables_from 0 (k.params + length c.names))) c.items
items-fit p k c f = record {
  scope = region_scope k c.names;
  names = scope-length k c.names ∙ sym (env-length (k.params + length c.names));
  each = f.items.items;
}

pub case-fits : (p : PlainProgram) (k : PlainRegionType) (n : ℕ) (c : PlainCase) → slice_get p.regions n ≡ Some k → RegionFits p k → CaseFits p k c → RootFits p (case_root k n c)
case-fits p k n c e r f =
    tasks-fit p (case_state k n c) (to_give c.items 0 0 ∷ to_rest 0 0 ∷ to_close false 0 ∷ []) (state-fits p k n c e r f)
    (record { first = items-fit p k c f; later = items-fit p k c f }, (record { first = omega arith; later = refl }, (record { first = tt; later = tt }, tt)))
