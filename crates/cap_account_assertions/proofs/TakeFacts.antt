-- A fact is taken, as what the state says of a region: the rule `region`.
use Rattle.std.proofs.Common.{◌≡◌, ℕ, List, [], ◌∷◌, ◌++◌, arith, refl, ap, ◌∙◌, subst, Bool, true, false, Option, Some, None}
use Rattle.std.specs.Prelude.{slice_get, not, ◌==◌, ◌&&◌, IsSomeAnd}
use Rattle.std.specs.List.{AllByRecursion}
use Rattle.std.proofs.lemmas.Bool.Decides.{nat_tests}
use Rattle.cap_lin.specs.Linear.{variable}
use Rattle.cap_lin.specs.Values.{Valuation}
use Rattle.cap_lin.specs.declared.row.Sort.TheVariants.{Int}
use Rattle.cap_syntax.specs.declared.place.Place.{Place}
use Rattle.cap_prog.specs.declared.assertion.Slot.{Slot}
use Rattle.cap_prog.specs.declared.assertion.Slot.TheVariants.{Is}
use Rattle.cap_prog.specs.Program.{fact, Items, PlainRegionType, PlainProgram}
use Rattle.cap_prog.specs.Scopes.{Scope, SlotFits}
use Rattle.cap_prog.specs.WellFormed.{FactFits, ItemFits}
use Rattle.cap_goal_spec.specs.States.{PlainFact, PlainEnv, PlainState, PlainGoal}
use Rattle.cap_rules.specs.Attempts.{Attempt, ◌>>=◌, need}
use Rattle.cap_rules.specs.Making.{match_slots, env_at, with_env_at}
use Rattle.cap_rules.specs.Rules.{goes, at_region}
use Rattle.cap_account_resources.specs.Parts.{known_as, Table}
use Rattle.cap_account_resources.proofs.Lists.{all-at, all-both}
use Rattle.cap_account_resources.proofs.Stocks.{Stock, no_stock, inside-second}
use Rattle.cap_account_states.specs.Nodes.{Comes}
use Rattle.cap_account_states.proofs.Terms.{Over}
use Rattle.cap_account_states.proofs.Attempts.{comes-bind, after-found, after-need}
use Rattle.cap_account_states.proofs.Meets.{Usable}
use Rattle.cap_account_states.proofs.Facts.{StateOver, FactHolds, FactOver, MatchingAll, matching-all, fact-meets}
use Rattle.cap_account_states.proofs.Backed.{Backed}
use Rattle.cap_account_assertions.proofs.Laws.{StateAt}
use Rattle.cap_account_assertions.proofs.TakeSteps.{Job, remaining}
use Rattle.cap_account_assertions.proofs.TakeHeads.{means-bound, head-same, head-bound, ItemTaken}

-- the slots of a fact that fits
pub slots-fit :
    (sc : Scope) (o : Option PlainRegionType) (args : List Slot) (y : Slot) →
    IsSomeAnd o (λ type. FactFits sc type args y) →
    AllByRecursion (SlotFits sc Int) (args ++ y ∷ [])
slots-fit sc None args y h = absurd h
slots-fit sc (Some type) args y h =
    all-both (SlotFits sc Int) args (y ∷ []) h.slots (h.value, tt)

-- a fact of this type that isn't loose
record IsFirmOf (k : ℕ) (f : PlainFact) : Type 0 where
  of_kind : f.kind ≡ k
  firm : f.loose ≡ false

firm-of : (k : ℕ) (f : PlainFact) → ((f.kind == k) && not f.loose) ≡ true → IsFirmOf k f
firm-of k f e =
    record { of_kind = grind (arith, nat_tests, e); firm = tight (f.kind == k) f.loose e }
  where
    tight : (a b : Bool) → (a && not b) ≡ true → b ≡ false
    tight a false e = refl
    tight true true e = absurd (cc)
    tight false true e = absurd (cc)

-- all of its terms may be looked at
pub terms-over :
    (P : ℕ → Type 0) (f : PlainFact) → f.loose ≡ false → FactOver P f →
    AllByRecursion (Over P) (f.region ∷ (f.args ++ f.state ∷ []))
terms-over P f e o = (
  o.0,
  all-both (Over P) f.args (f.state ∷ []) o.1
      (subst (λ b. StateOver P b f.state) e o.2, tt),
)

-- what rule `region` comes to: a firm fact of this type, whose terms meet the slots
pub record FactFound (ks : List ℕ) (sc : Scope) (T : Table) (v : Valuation) (s : PlainState)
    (e i n k : ℕ) (args : List Slot) (y : Slot) (P : PlainEnv → Type 0) : Type 0 where
  pub fact_there : PlainFact
  pub is_fact : slice_get s.facts i ≡ Some fact_there
  pub of_kind : fact_there.kind ≡ k
  pub firm : fact_there.loose ≡ false
  pub known : FactHolds v T fact_there
  pub over : FactOver (Usable ks s.sorts Int) fact_there
  pub met :
      MatchingAll ks sc s.sorts v (env_at s e) (Is (variable n) ∷ (args ++ y ∷ []))
      (fact_there.region ∷ (fact_there.args ++ fact_there.state ∷ [])) P

module _ (p : PlainProgram) (ks : List ℕ) (T : Table) (j : Job) (v : Valuation) (s : PlainState)
    (c : Stock) (st : StateAt p ks T j.scope j.env v s) (backed : Backed p v s c)
    (P : List PlainGoal → Type 0) where
  -- the environment in which the slots are met
  abbrev pub AfterFact : Items → PlainEnv → Type 0
  AfterFact more later = Comes (goes (with_env_at s j.env later) (remaining j more)) P

  pub fact-found :
      (i : ℕ) (place : Place) (n k : ℕ) (args : List Slot) (y : Slot) (more : Items) →
      ItemFits p j.scope (fact place n k args y) →
      Comes (at_region s i n k args y (remaining j more)) P →
      FactFound ks j.scope T v s j.env i n k args y (AfterFact more)
  fact-found i place n k args y more fits h =
      let R = Usable ks s.sorts Int in
      let env = env_at s j.env in
      let slots = Is (variable n) ∷ (args ++ y ∷ []) in
      let terms = λ (f : PlainFact). f.region ∷ (f.args ++ f.state ∷ []) in
      let end : PlainEnv → Attempt (List PlainGoal) = λ later.
      goes (with_env_at s j.env later) (remaining j more) in
      let matched : PlainFact → Attempt (List PlainGoal) = λ f.
      match_slots s.rows env slots (terms f) >>= end in
      let a = after-found (slice_get s.facts i)
      (λ f. need ((f.kind == k) && not f.loose) >>= λ u. matched f) P h in
      let f = a.0 in
      let b = after-need ((f.kind == k) && not f.loose) (λ u. matched f) P a.2 in
      let t = firm-of k f b.0 in
      let over = all-at (FactOver R) s.facts i f st.facts.over a.1 in
      record {
        fact_there = f;
        is_fact = a.1;
        of_kind = t.of_kind;
        firm = t.firm;
        known = all-at (FactHolds v T) s.facts i f st.facts.holds a.1;
        over = over;
        met =
            matching-all ks j.scope v s env slots (terms f) (λ later. Comes (end later) P)
            st.grounded.meets st.placed
            ((fits.0, tt), slots-fit j.scope (slice_get p.regions k) args y fits.1)
            (terms-over R f t.firm over)
            (comes-bind (match_slots s.rows env slots (terms f)) end P b.1);
      }

  abbrev pub fact-goes :
      (i : ℕ) (place : Place) (n k : ℕ) (args : List Slot) (y : Slot) (more : Items) →
      FactFound ks j.scope T v s j.env i n k args y (AfterFact more) →
      ItemTaken p ks T j v s c P [] (fact place n k args y) more
  fact-goes i place n k args y more f =
      let g = f.met in
      record {
        head =
            head-bound p ks T j v s c st (head-same p ks T j v s c st backed) g.later g.placed
            g.stays g.outside g.size;
        claim = λ w l x m r.
            let at = fact-meets v T f.fact_there x n args y f.known f.firm
            (g.means w l x (means-bound j.scope j.env s g.later st.there w x m)) in (
              (
                at.0,
                at.1,
                at.2 ∙ ap (λ q. Some (known_as q at.0 (Some at.1))) f.of_kind,
                at.3,
                at.4,
              ),
              inside-second p no_stock r,
            );
        goes = g.comes.1;
      }

  pub fact-taken :
      (i : ℕ) (place : Place) (n k : ℕ) (args : List Slot) (y : Slot) (more : Items) →
      ItemFits p j.scope (fact place n k args y) →
      Comes (at_region s i n k args y (remaining j more)) P →
      ItemTaken p ks T j v s c P [] (fact place n k args y) more
  fact-taken i place n k args y more fits h =
      fact-goes i place n k args y more (fact-found i place n k args y more fits h)
