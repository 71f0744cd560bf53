-- A contract or an invariant that was met is met again along the tree of its stability, at the
-- values with which its root began.
use Rattle.std.proofs.Common.{◌≡◌, inl, ℕ, zero, suc, ◌+◌, ◌*ℤ◌, false, List, [], ◌∷◌, ◌++◌, length, Option, Some, None, refl, sym, ap, ◌∙◌, subst, arith, ◌≤◌, ℤ, replicate, ◌<◌}
use Rattle.std.specs.Prelude.{slice_get, unwrap_or}
use Rattle.std.specs.List.{AllByRecursion}
use Rattle.cap_lin.specs.Linear.{Linear, variable}
use Rattle.cap_lin.specs.Values.{denominator}
use Rattle.cap_lin.specs.Solves.{IsWholeAt}
use Rattle.cap_lin.specs.declared.row.Sort.{Sort}
use Rattle.cap_lin.specs.declared.row.Sort.TheVariants.{Int}
use Rattle.cap_prog.specs.Program.{Items}
use Rattle.cap_prog.specs.WellFormed.{IsWellFormed}
use Rattle.cap_machine.specs.Machine.{Heap}
use Rattle.cap_machine_accounts.specs.Assertions.{NameValue, a_number, a_fraction}
use Rattle.cap_goal_spec.specs.Terms.{variables_from}
use Rattle.cap_goal_spec.specs.States.{PlainEnv, PlainState, to_give, to_take, to_rest, goals_of}
use Rattle.cap_goal_spec.specs.Environments.{bound, unbound}
use Rattle.cap_goal_spec.specs.Choices.{PlainTree, no_trees, tree}
use Rattle.cap_account_resources.specs.Parts.{cells_of, Table}
use Rattle.cap_account_resources.proofs.Covering.{covered-none}
use Rattle.cap_account_resources.proofs.Lists.{some-same, none-some, all-both}
use Rattle.cap_account_resources.proofs.Stocks.{Stock, no_stock}
use Rattle.cap_account_states.specs.Nodes.{Open}
use Rattle.cap_account_states.proofs.Backed.{Backed}
use Rattle.cap_account_states.proofs.Checked.{Checked}
use Rattle.cap_account_states.proofs.Items.{AreFit}
use Rattle.cap_account_states.proofs.Meets.{Usable}
use Rattle.cap_account_states.proofs.Naming.{Means}
use Rattle.cap_account_states.proofs.Roots.{Root, sorts_of, root_names, root-placed}
use Rattle.cap_account_states.proofs.Scopes.{length-join, rep-length}
use Rattle.cap_account_states.proofs.Terms.{Over}
use Rattle.cap_account_assertions.proofs.Asserted.{DrawsAll}
use Rattle.cap_account_assertions.proofs.Laws.{StateAt, Reached}
use Rattle.cap_account_steps.proofs.Exact.{all-each}
use Rattle.cap_account_steps.proofs.RootNames.{root_start}
use Rattle.cap_owners_spec.specs.Traced.{number_of, numerator_of, value_at, valuation, ◌>>=◌}
use Rattle.cap_owners_spec.specs.Track.{Fill, Place, GivenAssertion}
use Rattle.cap_owners_spec.specs.Walks.{nothing_taken, no_items, walk}
use Rattle.cap_owners_spec.specs.Steps.{beginning, none_entered, taken_in_end, filled_again}
use Rattle.cap_owners_walks_laws.proofs.Values.More.{FitsSort}
use Rattle.cap_owners_walks_laws.proofs.Fills.Drawn.{items_met}
use Rattle.cap_owners_walks_laws.proofs.Fills.Giving.{NamesFit}
use Rattle.cap_owners_walks_laws.proofs.Regions.Regiven.{AreSorted, given-again}
use Rattle.cap_owners_walks_laws.proofs.Regions.Remet.{MetAgain, remains, walk-meets}
use Rattle.cap_owners_walks_laws.proofs.Passes.Takes.{IsNameTerm, AreNameTerms}
use Rattle.cap_owners_walks_laws.proofs.Regions.Telling.{ToldFor}

-- ---- values of sorts

-- a variable of sort Int has a whole number
pub sorted-whole :
    (os : List Sort) (vs : List NameValue) → AreSorted os vs → (x : ℕ) →
    slice_get os x ≡ Some Int → IsWholeAt (valuation vs) x
sorted-whole os vs h x e = by (value_at vs x) (there os vs h x e)
  where
    there :
        (os : List Sort) (vs : List NameValue) → AreSorted os vs → (x : ℕ) →
        slice_get os x ≡ Some Int → FitsSort Int (value_at vs x)
    there [] vs h x e = absurd (none-some e)
    there (o ∷ os) [] h x e = absurd h
    there (o ∷ os) (v ∷ vs) h zero e =
        subst (λ u. FitsSort u v) (some-same o Int e) h.0
    there (o ∷ os) (v ∷ vs) h (suc x) e = there os vs h.1 x e

    by :
        (y : NameValue) → FitsSort Int y →
        numerator_of y ≡ number_of y *ℤ denominator (valuation vs).fraction
    by (a_number z) h = refl
    by (a_fraction n d) h = absurd h

-- ---- the names of a root

module _ (sorts : List Sort) where
  abbrev IsName : Option Linear → Type 0
  IsName o = (t : Linear) → o ≡ Some t → IsNameTerm sorts t

  names-at : (env : PlainEnv) → AllByRecursion IsName env → AreNameTerms sorts env
  names-at [] h x t e = absurd (none-some e)
  names-at (o ∷ env) h zero t e = h.0 t e
  names-at (o ∷ env) h (suc x) t e = names-at env h.1 x t e

  is-variable : (y : ℕ) (t : Linear) → y < length sorts → variable y ≡ t → IsNameTerm sorts t
  is-variable y t l e = subst (IsNameTerm sorts) e (inl l)

  variables-are :
      (k n : ℕ) → k + n ≤ length sorts → AllByRecursion IsName (bound (variables_from k n))
  variables-are k zero l = tt
  variables-are k (suc n) l = (
    (λ t e. is-variable k t (omega (arith, l)) (some-same (variable k) t e)),
    variables-are (suc k) n (omega (arith, l)),
  )

  unbound-are : (n : ℕ) → AllByRecursion IsName (unbound n)
  unbound-are zero = tt
  unbound-are (suc n) = ((λ t e. absurd (none-some e)), unbound-are n)

-- they are variables
pub root-terms :
    (root : Root) → AreNameTerms (sorts_of root.f root.l root.rs) (root_names root)
root-terms root =
    let f = root.f in
    let sorts = sorts_of f root.l root.rs in
    let Q = λ (o : Option Linear). (t : Linear) → o ≡ Some t → IsNameTerm sorts t in
    let params = bound (variables_from 0 f.params) in
    let fixed = bound (variables_from (f.params + root.l) (length f.fixed)) in
    let new = unbound (length root.new) in
    let low = rep-length (f.params + root.l) Int in
    let all = length-join (replicate (f.params + root.l) Int) (f.fixed ++ root.rs) in
    let rest = length-join f.fixed root.rs in
    names-at sorts (root_names root)
    (all-both Q params (root.ls ++ (fixed ++ root.r ∷ new))
    (variables-are sorts 0 f.params (omega (arith, low, all)))
    (all-both Q root.ls (fixed ++ root.r ∷ new)
    (all-each Q root.ls (λ i o e t q.
    let m = root.locals_are i t (ap (λ u. unwrap_or u None) e ∙ q) in
    let l = m.0 in
    is-variable sorts (f.params + i) t (omega (arith, l, low, all)) m.1))
    (all-both Q fixed (root.r ∷ new)
    (variables-are sorts (f.params + root.l) (length f.fixed) (omega (arith, low, all, rest))) (
      (λ t q.
          let m = root.r_is t q in
          let one = ap length m.1 in
          is-variable sorts (f.params + root.l + length f.fixed) t
          (omega (arith, low, all, rest, one)) (sym m.0)),
      unbound-are sorts (length root.new),
    ))))

-- ---- met again

module _ (p : Checked) (wf : IsWellFormed p.program)
    (trees : List (Option PlainTree)) (T U : Table) (h r : Stock) (heap : Heap)
    (within : (a z : ℤ) → h.cells a z ≤ cells_of heap a z) (reached : Reached p.program T U h)
    (root : Root) (f : Fill)
    (ok : NamesFit root.sc f.names) (items : Items) (some : no_items items ≡ false)
    (fits : AreFit p.program root.sc items)
    (d : DrawsAll p.program T (valuation f.names) items h r)
    (met : items_met p.program T (valuation f.names) items h r d ≡ f.wildcards)
    (store : List Linear)
    (over : AllByRecursion (Over (Usable [] (sorts_of root.f root.l root.rs) Int)) store)
    (vs : List NameValue)
    (means : Means root.sc (valuation vs) (root_names root) (valuation f.names))
    (sorted : AreSorted (sorts_of root.f root.l root.rs) vs) where
  abbrev s : PlainState
  s = root_start root store

  starts : StateAt p.program [] T root.sc 0 (valuation vs) (root_start root store)
  starts = record {
    grounded = record {
      meets = record {
        sorted = sorted-whole (sorts_of root.f root.l root.rs) vs sorted;
        rows = tt;
        rows_over = tt;
        cells_over = tt;
        positive = tt;
        store_over = over;
      };
      pieces_over = tt;
      pieces_fit = tt;
    };
    facts = record { holds = tt; over = tt; loose = tt; differ = tt };
    opened = tt;
    there = omega arith;
    placed = root-placed root;
  }

  nothing : Backed p.program (valuation vs) (root_start root store) no_stock
  nothing = record {
    cells = λ x z. omega arith;
    guards = λ n. covered-none p.program (valuation vs) n (no_stock.guards n);
  }

  -- along the tree of the root
  pub refilled :
      (q : Place) →
      Open p.N (tree q.tree no_trees) (root_start root store)
      (to_give items 0 0 ∷ to_rest 0 0 ∷ to_take items 1 0 0 ∷ []) →
      goals_of (root_start root store)
      (to_give items 0 0 ∷ to_rest 0 0 ∷ to_take items 1 0 0 ∷ [])
      ≡ q.goal ∷ [] →
      (g : GivenAssertion) → g.values ≡ vs → g.fill ≡ f →
      ToldFor U (MetAgain p U h root.sc items (root_start root store) f)
      (λ rs. filled_again (record { program = p.program; trees = trees }) rs g (Some q))
  refilled q goes is_goal g same_values same_fill =
      let given = given-again p wf T U root.sc f ok h r reached items (to_take items 1 0 0 ∷ [])
      (remains p wf T U root.sc f ok h r reached items some heap within)
      (tree q.tree no_trees) vs s goes starts tt means fits d met nothing sorted in
      subst (λ us. ToldFor U (MetAgain p U h root.sc items s f)
      (λ rs. walk none_entered p.program false q.tree q.goal
      (beginning rs us (nothing_taken ∷ []) (Some g.fill) []) >>= taken_in_end)) (sym same_values)
      (subst (λ x. ToldFor U (MetAgain p U h root.sc items s f)
      (λ rs. walk none_entered p.program false q.tree q.goal
      (beginning rs vs (nothing_taken ∷ []) (Some x) []) >>= taken_in_end)) (sym same_fill)
      (walk-meets p wf T U root.sc f ok h r reached items some heap within vs s
      (root-placed root) means
      (root-terms root) refl (omega arith) fits (tree q.tree no_trees) given q refl is_goal
      none_entered))
