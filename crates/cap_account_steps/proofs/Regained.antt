-- What is owned stays so, whatever others do: contracts, invariants and interpretations. They are met
-- again at the values at which a stability tree ends.
use Rattle.std.specs.Prelude.{◌≡◌, ℕ, ℤ, List, length, slice_get, Some}
use Rattle.cap_lin.specs.Values.{Valuation}
use Rattle.cap_prog.specs.Program.{done, PlainAssertion, PlainFunction, PlainProgram}
use Rattle.cap_prog.specs.Scopes.{fixed_start, region_scope}
use Rattle.cap_machine_accounts.specs.Assertions.{NameValue, ValuesFit}
use Rattle.cap_goal_spec.specs.Roots.{LoopPoint, loops_in, case_state}
use Rattle.cap_account_resources.specs.Parts.{known_as, Table}
use Rattle.cap_account_resources.proofs.Lists.{Among}
use Rattle.cap_account_resources.proofs.Stocks.{Stock}
use Rattle.cap_account_states.proofs.Filled.{Filled, filled_at}
use Rattle.cap_account_states.proofs.Naming.{values_in}
use Rattle.cap_account_states.proofs.Values.{normal}
use Rattle.cap_account_assertions.proofs.Asserted.{OwnsRegion, OwnsRequires, OwnsEnsures, OwnsInvariant}
use Rattle.cap_account_assertions.proofs.Filling.{fill_items}
use Rattle.cap_account_assertions.proofs.Laws.{Reached}
use Rattle.cap_account_assertions.proofs.Passages.{Passage, EndsAt}
use Rattle.cap_account_steps.proofs.Entries.{entry_root, exit_root, loop_root}
use Rattle.cap_account_steps.proofs.RootNames.{root_filled}

-- ---- met again

-- it is met by the table at whichever values a passage ends, and its names have what they stand for
pub record Regained (U : Table) (start : Filled) (M : Type 0) (values : M → Valuation) : Type 0 where
  pub passage : Passage
  pub u : Valuation
  pub ends : EndsAt U start passage u
  pub each :
      (x : Valuation) → EndsAt U start passage x →
      (m : M) × (values m ≡ values_in x passage.env)

abbrev pub met_again :
    (U : Table) (start : Filled) (M : Type 0) (values : M → Valuation) →
    Regained U start M values → M
met_again U start M values r = (r.each r.u r.ends).0

-- ---- what is given at a root

-- of what is owned, out of a part, all is given at the root's values
module _ (p : PlainProgram) (T : Table) (q : Stock) where
  module _ (n : ℕ) (f : PlainFunction) (args : List ℤ) (fixed : List NameValue) where
    abbrev pub given_requires : OwnsRequires p T q f args fixed → Filled
    given_requires o =
        fill_items p T o.values f.requires q o.met.0 o.met.1 (root_filled (entry_root f n o.values))

    abbrev pub given_ensures : (r : ℤ) → OwnsEnsures p T q f args fixed r → Filled
    given_ensures r o =
        fill_items p T o.values f.ensures.items q o.met.0 o.met.1
        (root_filled (exit_root f n f.ensures.names o.values))

    -- the arguments are the store
    abbrev pub given_invariant :
        (i : PlainAssertion) → OwnsInvariant p T q f args fixed i → Filled
    given_invariant i o =
        fill_items p T o.values i.items q o.met.0 o.met.1
        (root_filled (loop_root f n i.names o.values))

  abbrev pub given_region :
      (n : ℤ) (k : ℕ) (args : List ℤ) (b : ℤ) → OwnsRegion p T n k args b q → Filled
  given_region n k args b o =
      fill_items p T o.values o.case.items q o.met.0 o.met.1
      (filled_at 0 (normal (region_scope o.type o.case.names) o.values)
      (case_state o.type k o.case))

-- ---- what stays

-- a region also stays in some case, whichever the values
pub record Stable (p : PlainProgram) : Type 0 where
  pub requires :
      (T U : Table) (q : Stock) (n : ℕ) (f : PlainFunction) → slice_get p.functions n ≡ Some f →
      Reached p T U q → (args : List ℤ) (fixed : List NameValue) → length args ≡ f.params →
      ValuesFit f.fixed fixed → (o : OwnsRequires p T q f args fixed) →
      Regained U (given_requires p T q n f args fixed o) (OwnsRequires p U q f args fixed)
      (λ m. m.values)
  pub ensures :
      (T U : Table) (q : Stock) (n : ℕ) (f : PlainFunction) → slice_get p.functions n ≡ Some f →
      Reached p T U q → (args : List ℤ) (fixed : List NameValue) (r : ℤ) →
      length args ≡ f.params → ValuesFit f.fixed fixed →
      (o : OwnsEnsures p T q f args fixed r) →
      Regained U (given_ensures p T q n f args fixed r o) (OwnsEnsures p U q f args fixed r)
      (λ m. m.values)
  pub invariant :
      (T U : Table) (q : Stock) (n : ℕ) (f : PlainFunction) → slice_get p.functions n ≡ Some f →
      (w : LoopPoint) → Among w (loops_in f.body done) → Reached p T U q → (store : List ℤ)
      (fixed : List NameValue) → length store ≡ fixed_start f → ValuesFit f.fixed fixed →
      (o : OwnsInvariant p T q f store fixed w.invariant) →
      Regained U (given_invariant p T q n f store fixed w.invariant o)
      (OwnsInvariant p U q f store fixed w.invariant) (λ m. m.values)
  pub region :
      (T U : Table) (q : Stock) (n : ℤ) (k : ℕ) (args : List ℤ) (b : ℤ) → Reached p T U q →
      T n ≡ Some (known_as k args (Some b)) → U n ≡ Some (known_as k args (Some b)) →
      (o : OwnsRegion p T n k args b q) → (number : ℕ)
      × Regained U (given_region p T q n k args b o)
      ((m : OwnsRegion p U n k args b q) × (m.number ≡ number)) (λ m. m.0.values)

-- a region's part has what its type says
pub region-again :
    (p : PlainProgram) → Stable p → (T U : Table) (q : Stock) (n : ℤ) (k : ℕ) (args : List ℤ)
    (b : ℤ) → Reached p T U q → T n ≡ Some (known_as k args (Some b)) →
    U n ≡ Some (known_as k args (Some b)) → OwnsRegion p T n k args b q →
    OwnsRegion p U n k args b q
region-again p stable T U q n k args b reached before after o =
    let s = stable.region T U q n k args b reached before after o in
    (s.1.each s.1.u s.1.ends).0.0
