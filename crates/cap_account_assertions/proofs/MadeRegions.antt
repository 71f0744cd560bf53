-- A region gets into the table, with what its case was taken from.
use Rattle.std.proofs.Common.{◌≡◌, ℕ, suc, ◌+◌, ◌-◌, ◌<◌, ◌≤◌, ℤ, List, Option, [], ◌∷◌, ◌++◌, length, map, drop, arith, refl, sym, ap, ◌∙◌, subst, Some, None, Bool, true, false}
use Rattle.std.specs.Prelude.{find, slice_get, unwrap_or}
use Rattle.std.specs.List.{AllByRecursion}
use Rattle.cap_lin.specs.Linear.{Linear, same_term}
use Rattle.cap_lin.specs.Values.{Valuation, value}
use Rattle.cap_lin.specs.Laws.Sameness.{same_term-decides}
use Rattle.cap_lin.specs.declared.row.Sort.{Sort}
use Rattle.cap_lin.specs.declared.row.Sort.TheVariants.{Int}
use Rattle.cap_prog.specs.Program.{PlainCase, PlainRegionType, PlainProgram}
use Rattle.cap_prog.specs.Scopes.{Scope, HasSort, known, whole_numbers, region_scope}
use Rattle.cap_prog.specs.WellFormed.{CaseFits, RegionFits}
use Rattle.cap_machine_accounts.specs.Assertions.{AreWhole}
use Rattle.cap_goal_spec.specs.States.{PlainFact, PlainEnv, PlainState, PlainTask, PlainGoal, goals_of}
use Rattle.cap_goal_spec.specs.Environments.{zero_value, term_of, term_in}
use Rattle.cap_rules.specs.Attempts.{Attempt, ◌>>=◌, found}
use Rattle.cap_rules.specs.Making.{determined, with_fact, prove_comparisons, fact_of, env_at, is_of_region, without_first}
use Rattle.cap_rules.specs.Rules.{leaves, args_in, at_made}
use Rattle.cap_account_resources.specs.Parts.{known_as, Table}
use Rattle.cap_account_resources.proofs.Lists.{some-same, none-some, get-first, map-length, join-nil, all-more}
use Rattle.cap_account_resources.proofs.Room.{with_known}
use Rattle.cap_account_resources.proofs.Stocks.{Stock, no_stock, both}
use Rattle.cap_account_resources.proofs.Tables.{Extends, extends-states}
use Rattle.cap_account_states.specs.Nodes.{Comes}
use Rattle.cap_account_states.proofs.Terms.{Over, vars-more}
use Rattle.cap_account_states.proofs.Attempts.{comes-bind, comes-more, after-found, after-determined}
use Rattle.cap_account_states.proofs.Meets.{Usable, usable-old, Old}
use Rattle.cap_account_states.proofs.Alike.{Alike, value-alike, meets-alike}
use Rattle.cap_account_states.proofs.Scopes.{rep-in}
use Rattle.cap_account_states.proofs.Naming.{Placed, Means, values_in, values-mean, term-over, term-number, bound-of}
use Rattle.cap_account_states.proofs.Facts.{FactHolds, FactOver, Facts, merging_rows, fact_added, comes-fact, no-other-type, facts-added}
use Rattle.cap_account_states.proofs.Backed.{IsOpened}
use Rattle.cap_account_assertions.proofs.Asserted.{DrawsAll, draws-all-kept, owns-all}
use Rattle.cap_account_assertions.proofs.Laws.{Creation, KeepsCreated}
use Rattle.cap_account_assertions.proofs.NewRegions.{told-here, told-extends}
use Rattle.cap_account_assertions.proofs.RuleSteps.{comparisons-hold, ReadBack, read-back}
use Rattle.cap_account_assertions.proofs.FreshRegions.{IsKnown}

-- ---- a fact of a region that no fact is of

abbrev pub with_new_fact : PlainState → PlainFact → PlainState
with_new_fact s f = record s { facts = s.facts ++ f ∷ [] }

none-there :
    (v : Valuation) (T : Table) (f : PlainFact) → T (value v.whole f.region) ≡ None →
    (fs : List PlainFact) → AllByRecursion (FactHolds v T) fs →
    (find (is_of_region f) fs ≡ None) × (without_first (is_of_region f) fs ≡ fs)
none-there v T f absent [] h = (refl, refl)
none-there v T f absent (g ∷ fs) h =
    by (same_term g.region f.region) refl (none-there v T f absent fs h.1)
  where
    by :
        (b : Bool) → same_term g.region f.region ≡ b →
        (find (is_of_region f) fs ≡ None) × (without_first (is_of_region f) fs ≡ fs) →
        (find (is_of_region f) (g ∷ fs) ≡ None)
        × (without_first (is_of_region f) (g ∷ fs) ≡ g ∷ fs)
    by true e rest =
        let same = (same_term-decides g.region f.region).0 e in
        absurd (none-some (sym absent ∙ ap (λ t. T (value v.whole t)) (sym same) ∙ h.0.1))
    by false e rest = rw (e) (rest.0, ap (λ xs. g ∷ xs) rest.1)

added-last :
    (v : Valuation) (T : Table) (s : PlainState) (f : PlainFact) →
    T (value v.whole f.region) ≡ None → AllByRecursion (FactHolds v T) s.facts →
    fact_added s f ≡ with_new_fact s f
added-last v T s f absent h =
    let q = none-there v T f absent s.facts h in
    let rows = ap (λ o. s.rows ++ merging_rows f o) q.0 ∙ join-nil s.rows in
    λ i. record s { rows = rows i; facts = q.1 i ++ f ∷ [] }

-- ---- more regions in the table

pub known-extends :
    (p : PlainProgram) (ks : List ℕ) (T U : Table) (v : Valuation) (s : PlainState) (c : Stock) →
    Extends T U → IsKnown p ks T v s c → IsKnown p ks U v s c
known-extends p ks T U v s c x h =
    let P = Usable ks s.sorts Int in
    record {
      grounded = h.grounded;
      facts = record {
        holds =
            all-more (FactHolds v T) (FactHolds v U)
            (λ f k. (k.0, x (value v.whole f.region) _ k.1, k.2)) s.facts h.facts.holds;
        over = h.facts.over;
        loose = h.facts.loose;
        differ = h.facts.differ;
      };
      opened =
          all-more (IsOpened P v T) (IsOpened P v U)
          (λ f o. (o.0, o.1, x (value v.whole f.region) o.1 o.2)) s.opened h.opened;
      backed = h.backed;
    }

-- ---- the region is made

-- the region by its number, type, arguments, state and part; its case and this one's environment
abbrev pub creation_of : ℤ → ℕ → List ℤ → ℤ → Stock → ℕ → PlainEnv → Creation
creation_of n k args state given c env = record {
  owner = record { number = n; kind = k; args = args; state = state; stock = given };
  number = c;
  env = env;
}

-- its case was taken, by a table that lacks it; the first name is the region
pub record Pending (p : PlainProgram) (ks : List ℕ) (U : Table) (n : ℤ) (w : Valuation)
    (s : PlainState) (left given : Stock) (y : PlainRegionType) (z : PlainCase) (e : ℕ)
    (t : Linear) : Type 0 where
  pub type_fits : RegionFits p y
  pub case_fits : CaseFits p y z
  pub known : IsKnown p ks U w s left
  pub absent : U n ≡ None
  pub placed : Placed ks (region_scope y z.names) s.sorts (env_at s e)
  pub room : y.params ≤ length (env_at s e)
  pub first : term_of (env_at s e) 0 ≡ Some t
  pub number : value w.whole t ≡ n
  pub over : Over (Usable ks s.sorts Int) t
  pub draws :
      (x : Valuation) → Alike (Old s) w x → (a : Valuation) →
      Means (region_scope y z.names) x (env_at s e) a → (r : Stock) →
      DrawsAll p U a z.items (both p given r) r

-- it has its case at all alike values
pub record RegionMade (p : PlainProgram) (ks : List ℕ) (U : Table) (n : ℤ) (w : Valuation)
    (s : PlainState) (left given : Stock) (k c e : ℕ) (P : List PlainGoal → Type 0)
    (ts : List PlainTask) : Type 0 where
  pub args : List ℤ
  pub state : ℤ
  pub fact : PlainFact
  pub firm : fact.loose ≡ false
  pub known :
      IsKnown p ks (with_known U n (known_as k args (Some state))) w (with_new_fact s fact) left
  pub keeps :
      KeepsCreated p (with_known U n (known_as k args (Some state))) (Old s) w
      (creation_of n k args state given c (env_at s e))
  pub comes : P (goals_of (with_new_fact s fact) ts)

-- a parameter is a whole number
pub param-sort :
    (y : PlainRegionType) (names : List Sort) (i : ℕ) → i < y.params →
    HasSort (region_scope y names) Int i
param-sort y names i l =
    get-first (whole_numbers y.params) (known names) i (Some Int) (rep-in y.params i (Some Int) l)

-- the arguments stand behind the region
args-back :
    (ks : List ℕ) (y : PlainRegionType) (names sorts : List Sort) (w : Valuation)
    (env : PlainEnv) (Q : List Linear → Type 0) → 0 < y.params → y.params ≤ length env →
    Placed ks (region_scope y names) sorts env → Comes (args_in env y.params) Q →
    ReadBack (Usable ks sorts Int) w (values_in w env) 1 (y.params - 1) Q
args-back ks y names sorts w env Q some room p c =
    read-back (Usable ks sorts Int) w (values_in w env) (y.params - 1) (drop 1 env) 1 Q
    (shorter env room)
    (λ i l t e.
    let j = suc i in
    let at : 1 + i ≡ j = omega arith in
    let there = behind env i t e in (
      p.over j Int (param-sort y names j (omega (arith, l))) t there,
      ap (values_in w env).whole at ∙ ap (λ o. value w.whole (unwrap_or o zero_value)) there,
    )) c
  where
    shorter : (env : PlainEnv) → y.params ≤ length env → y.params - 1 ≤ length (drop 1 env)
    shorter [] l = omega (arith, l)
    shorter (o ∷ env) l = omega (arith, l)

    behind :
        (env : PlainEnv) (i : ℕ) (t : Linear) → term_of (drop 1 env) i ≡ Some t →
        term_of env (suc i) ≡ Some t
    behind [] i t e = e
    behind (o ∷ env) i t e = e

-- a name has one whole number at alike values
name-alike :
    (ks : List ℕ) (sc : Scope) (s : PlainState) (env : PlainEnv) (w x : Valuation) →
    Placed ks sc s.sorts env → Alike (Old s) w x → (i : ℕ) → HasSort sc Int i →
    (values_in x env).whole i ≡ (values_in w env).whole i
name-alike ks sc s env w x placed l i at = by (term_of env i) refl
  where
    by :
        (o : Option Linear) → term_of env i ≡ o →
        value x.whole (unwrap_or o zero_value) ≡ value w.whole (unwrap_or o zero_value)
    by None e = value-alike (Old s) w x l zero_value tt
    by (Some t) e =
        value-alike (Old s) w x l t
        (vars-more (Usable ks s.sorts Int) (Old s) (usable-old ks s.sorts Int) t.parts
        (placed.over i Int at t e))

-- so many names have the numbers that they have at values with the same
whole-same :
    (a b : Valuation) (x : ℕ) (zs : List ℤ) →
    ((i : ℕ) → i < x + length zs → b.whole i ≡ a.whole i) → AreWhole a x zs → AreWhole b x zs
whole-same a b x [] f h = tt
whole-same a b x (z ∷ zs) f h = (
  f x (omega arith) ∙ h.0,
  whole-same a b (suc x) zs (λ i l. f i (omega (arith, l))) h.1,
)

pub made-region :
    (p : PlainProgram) (ks : List ℕ) (U : Table) (n : ℤ) (w : Valuation) (s : PlainState)
    (left given : Stock) (y : PlainRegionType) (z : PlainCase) (k c e : ℕ) (t : Linear)
    (ts : List PlainTask) (P : List PlainGoal → Type 0) → slice_get p.regions k ≡ Some y →
    slice_get y.cases c ≡ Some z → Pending p ks U n w s left given y z e t →
    Comes (at_made p s k c e t ts) P → RegionMade p ks U n w s left given k c e P ts
made-region p ks U n w s left given y z k c e t ts P is_type is_case h comes =
    let sc = region_scope y z.names in
    let env = env_at s e in
    let R = Usable ks s.sorts Int in
    let sixth : PlainState → Attempt (List PlainGoal) = λ u. leaves u ts in
    let fifth : Linear → List Linear → Attempt (List PlainGoal) =
    λ b us. with_fact s (fact_of t k us b) >>= sixth in
    let fourth : PlainRegionType → Linear → Attempt (List PlainGoal) =
    λ y b. args_in env y.params >>= fifth b in
    let third : PlainRegionType → PlainCase → Unit {0} → Attempt (List PlainGoal) =
    λ y z _. determined env z.state >>= fourth y in
    let second : PlainRegionType → PlainCase → Attempt (List PlainGoal) =
    λ y z. prove_comparisons s.rows env z.when >>= third y z in
    let first : PlainRegionType → Attempt (List PlainGoal) =
    λ y. found (slice_get y.cases c) >>= second y in
    let k1 = after-found (slice_get p.regions k) first P comes in
    let c1 = subst (λ y. Comes (first y) P) (some-same k1.0 y (sym k1.1 ∙ is_type)) k1.2 in
    let k2 = after-found (slice_get y.cases c) (second y) P c1 in
    let c2 = subst (λ z. Comes (second y z) P) (some-same k2.0 z (sym k2.1 ∙ is_case)) k2.2 in
    let proved = comes-bind (prove_comparisons s.rows env z.when) (third y z) P c2 in
    let k3 = comparisons-hold ks sc w s env (values_in w env) h.known.grounded.meets h.placed
    (values-mean sc w env) z.when h.case_fits.when (λ u. Comes (third y z u) P) proved in
    let k4 = after-determined env z.state (fourth y) P k3.1 in
    let bound = bound-of env z.state.parts k4.0 in
    let b = term_in env z.state in
    let itself = h.type_fits.itself in
    let args = args-back ks y z.names s.sorts w env (λ us. Comes (fifth b us) P) itself h.room
    h.placed (comes-bind (args_in env y.params) (fifth b) P k4.1) in
    let f = fact_of t k args.terms b in
    let zs = map (value w.whole) args.terms in
    let now = known_as k zs (Some (value w.whole b)) in
    let V = with_known U n now in
    let more = told-extends U n now h.absent in
    let g = known-extends p ks U V w s left more h.known in
    let same = added-last w U s f (ap U h.number ∙ h.absent) h.known.facts.holds in
    let holds : FactHolds w V f =
    (Some (value w.whole b), ap V h.number ∙ told-here U n now, refl) in
    let state_over = term-over ks sc s.sorts env Int z.state h.placed h.case_fits.state bound in
    let over : FactOver R f = (h.over, args.over, state_over) in
    let alike : (x : Valuation) → Alike (Old s) w x → (i : ℕ) → i < y.params →
    (values_in x env).whole i ≡ (values_in w env).whole i =
    λ x l i m. name-alike ks sc s env w x h.placed l i (param-sort y z.names i m) in
    record {
      args = zs;
      state = value w.whole b;
      fact = f;
      firm = refl;
      known = record {
        grounded = record {
          meets = record {
            sorted = g.grounded.meets.sorted;
            rows = g.grounded.meets.rows;
            rows_over = g.grounded.meets.rows_over;
            cells_over = g.grounded.meets.cells_over;
            positive = g.grounded.meets.positive;
            store_over = g.grounded.meets.store_over;
          };
          pieces_over = g.grounded.pieces_over;
          pieces_fit = g.grounded.pieces_fit;
        };
        facts = subst (Facts ks w V) same (facts-added ks w V s f g.facts refl holds over);
        opened = g.opened;
        backed = record { cells = g.backed.cells; guards = g.backed.guards };
      };
      keeps = λ x l. (
        record {
          type = y;
          is_type = is_type;
          arity =
              (let l = args.size in
              let m = map-length (value w.whole) args.terms in omega (arith, l, m, itself));
          number = c;
          case = z;
          is_case = is_case;
          values = values_in x env;
          args_are = (
            alike x l 0 itself ∙ ap (λ o. value w.whole (unwrap_or o zero_value)) h.first
                ∙ h.number,
            whole-same (values_in w env) (values_in x env) 1 zs
                (λ i m. alike x l i
                (let q = args.size in
                let r = map-length (value w.whole) args.terms in omega (arith, m, q, r, itself)))
                args.values,
          );
          state_is =
              sym (term-number sc x env (values_in x env) Int z.state (values-mean sc x env)
              h.case_fits.state bound)
              ∙ value-alike (Old s) w x l b
              (vars-more R (Old s) (usable-old ks s.sorts Int) b.parts state_over);
          conditions =
              (comparisons-hold ks sc x s env (values_in x env)
              (meets-alike ks w x s l h.known.grounded.meets) h.placed (values-mean sc x env) z.when
              h.case_fits.when (λ u. Comes (third y z u) P) proved).0;
          met =
              owns-all p V (values_in x env) z.items given
              (draws-all-kept p U V (extends-states U V more) (values_in x env) z.items
              (both p given no_stock) no_stock
              (h.draws x l (values_in x env) (values-mean sc x env) no_stock));
        },
        refl,
        refl,
      );
      comes =
          subst (λ u. P (goals_of u ts)) same
          (comes-fact s f (λ u. P (goals_of u ts))
          (no-other-type w V f s.facts holds g.facts.holds)
          (comes-more (with_fact s f) (λ u. Comes (leaves u ts) P) (λ u. P (goals_of u ts))
          (λ u m. m.1) (comes-bind (with_fact s f) sixth P args.comes)));
    }
