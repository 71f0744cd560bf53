-- The state at the root of a region type's case holds at values at which the case does.
use Rattle.cap_account_states.proofs.Scopes.{known-in, length-join, variables-length, variables-at, rep-length}
use Rattle.std.proofs.Common.{◌≡◌, ℕ, zero, suc, ◌+◌, ◌<◌, List, [], ◌∷◌, ◌++◌, length, map, replicate, arith, refl, sym, ap, ◌∙◌, subst, Some}
use Rattle.std.specs.Prelude.{slice_get}
use Rattle.std.specs.List.{AllByRecursion}
use Rattle.cap_lin.specs.Linear.{Linear, variable}
use Rattle.cap_lin.specs.Values.{Valuation, value, amount}
use Rattle.cap_lin.specs.Solves.{Holds}
use Rattle.cap_lin.specs.declared.row.Sort.{Sort}
use Rattle.cap_lin.specs.declared.row.Sort.TheVariants.{Int}
use Rattle.cap_lin.proofs.Rows.{row_of-means}
use Rattle.cap_prog.specs.declared.assertion.Comp.{Comp}
use Rattle.cap_prog.specs.Program.{PlainCase, PlainRegionType, PlainProgram}
use Rattle.cap_prog.specs.Scopes.{HasSort, TermFits, CompFits, known, whole_numbers, region_scope, region_sorts}
use Rattle.cap_prog.specs.WellFormed.{CaseFits}
use Rattle.cap_machine_accounts.specs.Assertions.{CompHolds}
use Rattle.cap_goal_spec.specs.Terms.{variables_from}
use Rattle.cap_goal_spec.specs.Environments.{term_of, bound}
use Rattle.cap_goal_spec.specs.Roots.{written_row, case_state}
use Rattle.cap_account_resources.specs.Parts.{Known, Table}
use Rattle.cap_account_resources.proofs.Lists.{some-same, within, get-map, map-length, map-join}
use Rattle.cap_account_resources.proofs.Covering.{covered-none}
use Rattle.cap_account_resources.proofs.Stocks.{no_stock}
use Rattle.cap_account_states.proofs.Terms.{Over, vars-more, RowOver, row-over}
use Rattle.cap_account_states.proofs.Meets.{Usable, is-of, variable-value, variable-amount}
use Rattle.cap_account_states.proofs.Naming.{Means}
use Rattle.cap_account_states.proofs.Values.{normal, like-normal, like-relates, normal-whole, normal-perm}
use Rattle.cap_account_states.proofs.Roots.{flat-bound}
use Rattle.cap_account_states.proofs.Backed.{Backed}
use Rattle.cap_account_assertions.proofs.Laws.{StateAt}
use Rattle.cap_account_assertions.proofs.MadeRegions.{param-sort}

-- ---- its variables are the case's names

all-known : (n : ℕ) → known (replicate n Int) ≡ whole_numbers n
all-known zero = refl
all-known (suc n) = ap (λ sc. Some Int ∷ sc) (all-known n)

known-sorts :
    (y : PlainRegionType) (names : List Sort) →
    known (region_sorts y names) ≡ region_scope y names
known-sorts y names =
    map-join Some (replicate y.params Int) names
    ∙ ap (λ sc. sc ++ known names) (all-known y.params)

pub sort-known :
    (y : PlainRegionType) (names : List Sort) (o : Sort) (x : ℕ) →
    HasSort (region_scope y names) o x → slice_get (region_sorts y names) x ≡ Some o
sort-known y names o x h =
    let q = get-map Some (region_sorts y names) x (Some o)
    (ap (λ sc. slice_get sc x) (known-sorts y names) ∙ h) in
    q.1 ∙ q.2

known-sort :
    (y : PlainRegionType) (names : List Sort) (o : Sort) (x : ℕ) →
    slice_get (region_sorts y names) x ≡ Some o → HasSort (region_scope y names) o x
known-sort y names o x h =
    ap (λ sc. slice_get sc x) (sym (known-sorts y names)) ∙ known-in (region_sorts y names) x o h

-- a term of the case's is over them
pub case-term :
    (y : PlainRegionType) (names : List Sort) (o : Sort) (t : Linear) →
    TermFits (region_scope y names) o t → Over (Usable [] (region_sorts y names) o) t
case-term y names o t h =
    vars-more (HasSort (region_scope y names) o) (Usable [] (region_sorts y names) o)
    (λ x i. (is-of (region_sorts y names) o x (sort-known y names o x i), tt)) t.parts h

-- what stands for a name is the variable of its number
name-is :
    (n x : ℕ) (t : Linear) → term_of (bound (variables_from 0 n)) x ≡ Some t → variable (0 + x) ≡ t
name-is n x t e =
    let at = sym (flat-bound (variables_from 0 n) x) ∙ e in
    let low = within (variables_from 0 n) x t at in
    let size = variables-length 0 n in
    some-same (variable (0 + x)) t (sym (variables-at 0 n x (omega (arith, low, size))) ∙ at)

-- ---- the state

module _ (p : PlainProgram) (y : PlainRegionType) (k : ℕ) (c : PlainCase) (a : Valuation)
    (fits : CaseFits p y c) where
  abbrev sorts : List Sort
  sorts = region_sorts y c.names

  -- the case's values, where whole numbers are fractions too
  abbrev pub case_root_values : Valuation
  case_root_values = normal (region_scope y c.names) a

  rows-holding :
      (cs : List Comp) → AllByRecursion (CompFits (region_scope y c.names)) cs →
      AllByRecursion (CompHolds a) cs →
      AllByRecursion (Holds case_root_values) (map written_row cs)
      × AllByRecursion (RowOver (Usable [] sorts)) (map written_row cs)
  rows-holding [] f h = (tt, tt)
  rows-holding (d ∷ ds) f h =
      let rest = rows-holding ds f.1 h.1 in
      let sc = region_scope y c.names in
      let v = case_root_values in (
        (
          (row_of-means v d.left d.op d.right d.sort).1
              (like-relates sc a v (like-normal sc a) d d.op f.0 h.0),
          rest.0,
        ),
        (
          row-over (Usable [] sorts) d.left d.op d.right d.sort
              (case-term y c.names d.sort d.left f.0.0) (case-term y c.names d.sort d.right f.0.1),
          rest.1,
        ),
      )

  plain : (x : ℕ) → 0 + x ≡ x
  plain x = omega arith

  pub case-means : Means (region_scope y c.names) case_root_values
      (bound (variables_from 0 (y.params + length c.names))) a
  case-means =
      let n = y.params + length c.names in
      let v = case_root_values in
      record {
        under = refl;
        whole = λ x i t e.
            ap (value v.whole) (sym (name-is n x t e))
            ∙ variable-value v (0 + x) ∙ ap a.whole (plain x);
        share = λ x i t e.
            ap (amount v.fraction) (sym (name-is n x t e))
            ∙ variable-amount v (0 + x)
            ∙ ap v.fraction.numerator (plain x)
            ∙ normal-perm (region_scope y c.names) a x i;
      }

  -- the region's table entry is all that is known of it
  pub case-at :
      (T : Table) (e : Known) → 0 < y.params → T (a.whole 0) ≡ Some e →
      AllByRecursion (CompHolds a) c.when →
      StateAt p [] T (region_scope y c.names) 0 case_root_values (case_state y k c)
  case-at T e some there when =
      let sc = region_scope y c.names in
      let n = y.params + length c.names in
      let v = case_root_values in
      let rows = rows-holding c.when fits.when when in
      record {
        grounded = record {
          meets = record {
            sorted = λ x h. normal-whole sc a x (known-sort y c.names Int x h);
            rows = rows.0;
            rows_over = rows.1;
            cells_over = tt;
            positive = tt;
            store_over = tt;
          };
          pieces_over = tt;
          pieces_fit = tt;
        };
        facts = record { holds = tt; over = tt; loose = tt; differ = tt };
        opened = (
          (
            ((sort-known y c.names Int 0 (param-sort y c.names 0 some), tt), tt),
            e,
            ap T (variable-value v 0) ∙ there,
          ),
          tt,
        );
        there = omega arith;
        placed = record {
          room = λ x o i.
              let low = within sorts x o (sort-known y c.names o x i) in
              let all = length-join (replicate y.params Int) c.names in
              let params = rep-length y.params Int in
              let names = map-length Some (variables_from 0 n) in
              let size = variables-length 0 n in
              omega (arith, low, all, params, names, size);
          over = λ x o i t q.
              subst (Over (Usable [] sorts o)) (name-is n x t q) (
                subst (Usable [] sorts o) (sym (plain x))
                    (is-of sorts o x (sort-known y c.names o x i), tt),
                tt,
              );
        };
      }

  pub case-backed : Backed p case_root_values (case_state y k c) no_stock
  case-backed = record {
    cells = λ x z. omega arith;
    guards = λ n. covered-none p case_root_values n (no_stock.guards n);
  }
