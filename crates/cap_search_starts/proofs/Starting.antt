-- A part that meets a precondition gives values at which all rows of its start hold, so elimination
-- doesn't refute them.
use Rattle.std.proofs.Common.{◌≡◌, ℤ, pos, ◌<ℤ◌, true, false, List, [], ◌∷◌, ◌++◌, map, Option, Some, None, is_some, refl, sym, ap, ◌∙◌, subst, arith}
use Rattle.std.specs.Prelude.{flat_map, slice_get}
use Rattle.std.specs.List.{AllByRecursion}
use Rattle.std.proofs.lemmas.Int.{ints}
use Rattle.cap_lin.specs.Linear.{Linear}
use Rattle.cap_lin.specs.Steps.{first_wide}
use Rattle.cap_lin.specs.Values.{Valuation, value}
use Rattle.cap_lin.specs.Solves.{Holds, Compares, FitsSort, HasNone}
use Rattle.cap_lin.specs.declared.row.Row.{Row}
use Rattle.cap_lin.specs.declared.row.Sort.TheVariants.{Int}
use Rattle.cap_lin.specs.declared.row.Op.TheVariants.{Ge as AtLeast, Ne as Unequal}
use Rattle.cap_lin.proofs.Infeasible.{infeasible-none}
use Rattle.cap_farkas.specs.declared.cert.Cert.{Cert}
use Rattle.cap_farkas.proofs.Sound.{refuted-excludes, excluded-infeasible}
use Rattle.cap_fm_spec.specs.Events.{Limit, first_limit}
use Rattle.cap_fm_spec.specs.Solving.{RowsAscend, solved}
use Rattle.cap_fm_spec.proofs.Certified.{certified}
use Rattle.cap_prog.specs.Scopes.{Scope, TermFits, requires_scope}
use Rattle.cap_prog.specs.Program.{PlainItem, compare, choose, fact, atom, cell, Items, none, item, PlainFunction, PlainProgram}
use Rattle.cap_prog.specs.Parts.{all_items, side_items}
use Rattle.cap_prog.specs.WellFormed.{ItemFits}
use Rattle.cap_machine_accounts.specs.Parts.{Part, HasCell, Region, without_cell}
use Rattle.cap_machine_accounts.specs.Assertions.{TakesAll}
use Rattle.cap_machine_accounts.specs.Safety.{whole_part}
use Rattle.cap_goal_spec.specs.Environments.{one_value}
use Rattle.cap_goal_spec.specs.Candidates.{MadeRow}
use Rattle.cap_rules_ascending.specs.Ascending.{TermAscends}
use Rattle.cap_rules_ascending.proofs.Lists.{all-join}
use Rattle.cap_account_states.proofs.Terms.{value-number}
use Rattle.cap_account_states.proofs.Roots.{function-fits}
use Rattle.cap_offer_spec.specs.Deciding.{clean, decision, decided}
use Rattle.cap_search_spec.specs.Starts.{made, comparisons, addresses, different, start_rows, refuted_unless, refuted_rows, empty_by, empty_start}
use Rattle.cap_search_starts.specs.Laws.{ItemsAscend, EmptyStartsAreNone}
use Rattle.cap_search_starts.proofs.Sorted.{sorted, IsGood, made-good}
use Rattle.cap_search_starts.proofs.Cells.{gone, still, item-still}

abbrev AllGood : Valuation → List MadeRow → Type 0
AllGood v ms = AllByRecursion (λ (m : MadeRow). IsGood v m.row) ms

-- an address at which the part has a cell
record IsAddress (scope : Scope) (v : Valuation) (q : Part) (a : Linear) : Type 0 where
  fits : TermFits scope Int a
  ascends : TermAscends a
  positive : pos 0 <ℤ value v.whole a
  there : HasCell q (value v.whole a)

abbrev AreAddresses : Scope → Valuation → Part → List Linear → Type 0
AreAddresses scope v q xs = AllByRecursion (IsAddress scope v q) xs

addresses-still : (scope : Scope) (v : Valuation) (q r : Part) → ((z : ℤ) → HasCell r z → HasCell q z) → (xs : List Linear) → AreAddresses scope v r xs → AreAddresses scope v q xs
addresses-still scope v q r f [] h = tt
addresses-still scope v q r f (x ∷ xs) h = (record { fits = h.0.fits; ascends = h.0.ascends; positive = h.0.positive; there = f (value v.whole x) h.0.there }, addresses-still scope v q r f xs h.1)

-- ---- the rows of addresses

positive-good : (scope : Scope) (v : Valuation) (q : Part) (xs : List Linear) → AreAddresses scope v q xs → AllGood (sorted scope v) (map (λ a. made a AtLeast one_value) xs)
positive-good scope v q [] h = tt
positive-good scope v q (x ∷ xs) h =
    let e = value-number v.whole (pos 1) in
    let p = h.0.positive in
    let c : Compares v x AtLeast one_value Int = omega (arith, ints, e, p) in
    (made-good scope v x AtLeast one_value Int h.0.fits tt h.0.ascends tt c, positive-good scope v q xs h.1)

apart-good : (scope : Scope) (v : Valuation) (q : Part) (a : Linear) (xs : List Linear) → TermFits scope Int a → TermAscends a → AreAddresses scope v (without_cell q (value v.whole a)) xs → AllGood (sorted scope v) (map (λ b. made a Unequal b) xs)
apart-good scope v q a [] f g h = tt
apart-good scope v q a (x ∷ xs) f g h =
    (made-good scope v a Unequal x Int f h.0.fits g h.0.ascends (λ e. gone q (value v.whole a) (value v.whole x) h.0.there (sym e)), apart-good scope v q a xs f g h.1)

-- ---- what items say

record AreStarted (scope : Scope) (v : Valuation) (q : Part) (is : Items) : Type 0 where
  compared : AllGood (sorted scope v) (comparisons is)
  cells : AreAddresses scope v q (addresses is)
  apart : AllGood (sorted scope v) (different (addresses is))

all-behind : {X : Type 0} (P : X → Type 0) (xs ys : List X) → AllByRecursion P (xs ++ ys) → AllByRecursion P ys
all-behind P [] ys h = h
all-behind P (x ∷ xs) ys h = all-behind P xs ys h.1

module _ (p : PlainProgram) (table : List Region) (scope : Scope) (v : Valuation) where
  abbrev AllFit : Items → Type 0
  AllFit is = AllByRecursion (ItemFits p scope) (all_items is)

  fit-behind : (i : PlainItem) (is : Items) → AllFit (item i is) → AllFit is
  fit-behind i is f = all-behind (ItemFits p scope) (side_items i) (all_items is) f.1

  items-started : (is : Items) (q r : Part) → AllFit is → ItemsAscend is → TakesAll p table v is q r → AreStarted scope v q is
  items-started none q r f a h = record { compared = tt; cells = tt; apart = tt }
  items-started (item (compare c) more) q r f a h =
      let k = items-started more h.0 r (fit-behind (compare c) more f) a.1 h.2 in
      record {
        compared = (made-good scope v c.left c.op c.right c.sort f.0.0 f.0.1 a.0.left a.0.right h.1.0, k.compared);
        cells = addresses-still scope v q h.0 (item-still p table v (compare c) q h.0 h.1) (addresses more) k.cells;
        apart = k.apart;
      }
  items-started (item (cell place x s) more) q r f a h =
      let i = h.1.0 in
      let z = value v.whole x in
      let k = items-started more h.0 r (fit-behind (cell place x s) more f) a.1 h.2 in
      let left = subst (λ m. AreAddresses scope v m (addresses more)) h.1.1 k.cells in
      record {
        compared = k.compared;
        cells = (record { fits = f.0.0; ascends = a.0; positive = i.positive; there = (i.number, i.is_cell) }, addresses-still scope v q (without_cell q z) (still q z) (addresses more) left);
        apart = all-join (λ (m : MadeRow). IsGood (sorted scope v) m.row) (map (λ b. made x Unequal b) (addresses more)) (different (addresses more)) (apart-good scope v q x (addresses more) f.0.0 a.0 left) k.apart;
      }
  items-started (item (choose c x y) more) q r f a h =
      let k = items-started more h.0 r (fit-behind (choose c x y) more f) a h.2 in
      record { compared = k.compared; cells = addresses-still scope v q h.0 (item-still p table v (choose c x y) q h.0 h.1) (addresses more) k.cells; apart = k.apart }
  items-started (item (fact place n t args s) more) q r f a h =
      let k = items-started more h.0 r (fit-behind (fact place n t args s) more f) a h.2 in
      record { compared = k.compared; cells = addresses-still scope v q h.0 (item-still p table v (fact place n t args s) q h.0 h.1) (addresses more) k.cells; apart = k.apart }
  items-started (item (atom place n t i asked) more) q r f a h =
      let k = items-started more h.0 r (fit-behind (atom place n t i asked) more f) a h.2 in
      record { compared = k.compared; cells = addresses-still scope v q h.0 (item-still p table v (atom place n t i asked) q h.0 h.1) (addresses more) k.cells; apart = k.apart }

  start-good : (is : Items) (q r : Part) → AllFit is → ItemsAscend is → TakesAll p table v is q r → AllGood (sorted scope v) (start_rows is)
  start-good is q r f a h =
      let k = items-started is q r f a h in
      let P : MadeRow → Type 0 = λ m. IsGood (sorted scope v) m.row in
      all-join P (comparisons is) (map (λ x. made x AtLeast one_value) (addresses is) ++ different (addresses is)) k.compared
      (all-join P (map (λ x. made x AtLeast one_value) (addresses is)) (different (addresses is)) (positive-good scope v q (addresses is) k.cells) k.apart)

-- ---- rows that hold are not refuted

abbrev rows_made : List MadeRow → List Row
rows_made ms = map (λ (m : MadeRow). m.row) ms

all-ascend : (v : Valuation) (ms : List MadeRow) → AllGood v ms → RowsAscend (rows_made ms)
all-ascend v [] h = tt
all-ascend v (m ∷ ms) h = (h.0.ascends, all-ascend v ms h.1)

all-fit : (v : Valuation) (ms : List MadeRow) → AllGood v ms → AllByRecursion (λ r. FitsSort v r.sort r.term) (rows_made ms)
all-fit v [] h = tt
all-fit v (m ∷ ms) h = (h.0.fits, all-fit v ms h.1)

all-hold : (v : Valuation) (ms : List MadeRow) → AllGood v ms → AllByRecursion (Holds v) (rows_made ms)
all-hold v [] h = tt
all-hold v (m ∷ ms) h = (h.0.holds, all-hold v ms h.1)

no-none : {X : Type 0} (o : Option X) → o ≡ None → is_some o ≡ true → ⊥
no-none o e h = let k : false ≡ true = sym (ap is_some e) ∙ h in cc

decided-none : (rows : List Row) (l : Option Limit) (o : Option Cert) → first_limit (solved rows).events ≡ l → (solved rows).value ≡ o → is_some (decision l o clean).value ≡ true → RowsAscend rows → HasNone rows
decided-none rows (Some l) o a b h k = absurd (let e : false ≡ true = h in cc)
decided-none rows None None a b h k = absurd (let e : false ≡ true = h in cc)
decided-none rows None (Some c) a b h k = infeasible-none rows (excluded-infeasible rows c (refuted-excludes rows c (certified rows c k b a)))

refuted-none : (rows : List Row) → is_some (decided rows clean).value ≡ true → RowsAscend rows → HasNone rows
unfolding decided
refuted-none rows h k = decided-none rows (first_limit (solved rows).events) (solved rows).value refl refl h k

unless-none : (w : Option (ℤ × ℤ)) (rows : List Row) → refuted_unless w rows ≡ true → RowsAscend rows → HasNone rows
unless-none None rows h k = refuted-none rows h k
unless-none (Some w) rows h k = absurd (let e : false ≡ true = h in cc)

made-none : (v : Valuation) (ms : List MadeRow) → AllGood v ms → refuted_rows ms ≡ true → ⊥
made-none v ms g h = unless-none (first_wide (flat_map (λ (m : MadeRow). m.steps) ms)) (rows_made ms) h (all-ascend v ms g) v (record { fits = all-fit v ms g; holds = all-hold v ms g })

empty-by : (p : PlainProgram) (f : PlainFunction) → slice_get p.functions p.main ≡ Some f → empty_start p ≡ true → refuted_rows (start_rows f.requires) ≡ true
unfolding empty_start
empty-by p f e h = sym (ap empty_by e) ∙ h

pub empty-none : EmptyStartsAreNone
empty-none p main args heap fixed w a e s =
    let m = s.meets in
    let scope = requires_scope main in
    let fits = (function-fits p w p.main main s.is_main).requires.items in
    made-none (sorted scope m.values) (start_rows main.requires)
    (start-good p [] scope m.values main.requires (whole_part heap) m.met.0 fits a m.met.1)
    (empty-by p main s.is_main e)
