-- Rule `create` up to where the case is taken: what that starts from.
use Rattle.std.proofs.Common.{◌≡◌, ℕ, ◌+◌, ◌-◌, ◌<◌, ◌≤◌, ℤ, pos, ◌+ℤ◌, ◌≤ℤ◌, List, [], ◌∷◌, ◌++◌, length, arith, refl, sym, ap, ◌∙◌, subst, Some}
use Rattle.std.specs.Prelude.{slice_get, is_none, IsSomeAnd}
use Rattle.std.specs.List.{AllByRecursion}
use Rattle.std.proofs.lemmas.Int.{ints}
use Rattle.cap_lin.specs.Linear.{Linear}
use Rattle.cap_lin.specs.Values.{Valuation}
use Rattle.cap_lin.specs.declared.row.Row.{Row}
use Rattle.cap_lin.specs.declared.row.Sort.TheVariants.{Int}
use Rattle.cap_gsolve.specs.declared.piece.Piece.{Piece}
use Rattle.cap_prog.specs.declared.assertion.Slot.{Slot}
use Rattle.cap_prog.specs.Program.{PlainItem, Items, item, PlainCase, PlainRegionType, PlainProgram}
use Rattle.cap_prog.specs.Scopes.{Scope, region_scope}
use Rattle.cap_prog.specs.WellFormed.{FactFits, CaseFits, RegionFits}
use Rattle.cap_goal_spec.specs.States.{PlainEnv, PlainState, PlainTask, PlainGoal, to_take, to_make, goals_of}
use Rattle.cap_goal_spec.specs.Environments.{zero_value, term_of, bound, region_env}
use Rattle.cap_rules.specs.Attempts.{Attempt, ◌>>=◌, need, found, each}
use Rattle.cap_rules.specs.Making.{determined_slot, with_env, fresh, fact_of, env_at}
use Rattle.cap_rules.specs.Taking.{with_new_region, case_env}
use Rattle.cap_rules.specs.Rules.{leaves, stays, at_create}
use Rattle.cap_account_resources.specs.Parts.{Table}
use Rattle.cap_account_resources.proofs.Lists.{map-length, get-or-push, push-length, all-at, all-more}
use Rattle.cap_account_resources.proofs.Marks.{free}
use Rattle.cap_account_resources.proofs.Covering.{join_marks, free-right}
use Rattle.cap_account_resources.proofs.Interference.{Holding}
use Rattle.cap_account_resources.proofs.Room.{all_guards, alone, alone-away, part-join}
use Rattle.cap_account_resources.proofs.Stocks.{Stock, guard_stock, both}
use Rattle.cap_account_states.specs.Nodes.{Comes}
use Rattle.cap_account_states.proofs.Scopes.{length-join}
use Rattle.cap_account_states.proofs.Attempts.{comes-bind, after-found, after-need, after-env, env_added}
use Rattle.cap_account_states.proofs.Terms.{Over}
use Rattle.cap_account_states.proofs.Meets.{Usable, same-fresh, meets-env}
use Rattle.cap_account_states.proofs.Environments.{EnvOver, region-env-over}
use Rattle.cap_account_states.proofs.Backed.{Backed}
use Rattle.cap_account_states.proofs.Naming.{Placed, placed-more}
use Rattle.cap_account_states.proofs.Cases.{slot-yields, slots-given, comes-case, case-placed}
use Rattle.cap_account_assertions.proofs.Laws.{StateAt}
use Rattle.cap_account_assertions.proofs.TakeSteps.{Job, tasks_of, remaining, TakeStart}
use Rattle.cap_account_assertions.proofs.FreshRegions.{IsKnown, fresh_values, fresh-usable, fresh_state, fresh-region, fresh-composes}
use Rattle.cap_account_assertions.proofs.MadeRegions.{param-sort}

-- ---- what is known, in the forms of Take

pub known-at :
    (p : PlainProgram) (ks : List ℕ) (T : Table) (sc : Scope) (e : ℕ) (v : Valuation)
    (s : PlainState) (c : Stock) → StateAt p ks T sc e v s → Backed p v s c → IsKnown p ks T v s c
known-at p ks T sc e v s c a b =
    record { grounded = a.grounded; facts = a.facts; opened = a.opened; backed = b }

pub state-at :
    (p : PlainProgram) (ks : List ℕ) (T : Table) (sc : Scope) (e : ℕ) (v : Valuation)
    (s : PlainState) (c : Stock) → IsKnown p ks T v s c → e < length s.envs →
    Placed ks sc s.sorts (env_at s e) → StateAt p ks T sc e v s
state-at p ks T sc e v s c h there placed = record {
  grounded = h.grounded;
  facts = h.facts;
  opened = h.opened;
  there = there;
  placed = placed;
}

-- with other environments
pub known-envs :
    (p : PlainProgram) (ks : List ℕ) (T : Table) (v : Valuation) (s : PlainState) (c : Stock)
    (envs : List PlainEnv) → IsKnown p ks T v s c → IsKnown p ks T v (record s { envs = envs }) c
known-envs p ks T v s c envs h = record {
  grounded = record {
    meets = meets-env ks v s envs h.grounded.meets;
    pieces_over = h.grounded.pieces_over;
    pieces_fit = h.grounded.pieces_fit;
  };
  facts = record {
    holds = h.facts.holds;
    over = h.facts.over;
    loose = h.facts.loose;
    differ = h.facts.differ;
  };
  opened = h.opened;
  backed = record { cells = h.backed.cells; guards = h.backed.guards };
}

-- ---- what must compose while a region of this type is pending

abbrev pub lim_with : PlainProgram → Holding → ℤ → ℕ → Holding
lim_with p lim n k i = join_marks p (lim i) (alone n (all_guards p k) i)

pub lim-above :
    (p : PlainProgram) (lim : Holding) (n : ℤ) (k : ℕ) →
    ((i : ℤ) → n ≤ℤ i → lim i ≡ Some free) → (i : ℤ) → (n +ℤ pos 1) ≤ℤ i →
    lim_with p lim n k i ≡ Some free
lim-above p lim n k unheld i l =
    ap (join_marks p (lim i)) (alone-away n (all_guards p k) i (λ e. omega (arith, ints, e, l)))
    ∙ free-right p (lim i) ∙ unheld i (omega (arith, ints, l))

-- ---- the rule, taken apart

abbrev pub case_state : PlainState → List Row → List Piece → PlainEnv → PlainState
case_state s rows guards env = env_added (fresh_state s rows guards) env

-- the case's items, and then the region is made
abbrev pub case_job :
    Job → PlainState → PlainRegionType → PlainCase → ℕ → ℕ → ℕ → List PlainTask → Job
case_job j s y z k n left ts = record {
  scope = region_scope y z.names;
  env = length s.envs;
  most = left;
  statement = j.statement;
  items = z.items;
  tasks = to_make k n (length s.envs) (fresh s) j.statement ∷ ts;
}

-- the first of all other tasks is the fact again
abbrev pub fact_job : Job → PlainItem → Items → ℕ → Job
fact_job j i more left = record j { items = item i more; most = left }

record Begun (p : PlainProgram) (ks : List ℕ) (T : Table) (next : ℤ) (v : Valuation)
    (s : PlainState) (c : Stock) (k n : ℕ) (P : PlainRegionType → PlainCase → PlainState → Type 0) :
    Type 0 where
  y : PlainRegionType
  z : PlainCase
  is_type : slice_get p.regions k ≡ Some y
  is_case : slice_get y.cases n ≡ Some z
  terms : List Linear
  arity : length terms + 1 ≡ y.params
  over : AllByRecursion (Over (Usable ks (s.sorts ++ Int ∷ []) Int)) terms
  rows : List Row
  guards : List Piece
  known :
      IsKnown p ks T (fresh_values s v next) (fresh_state s rows guards)
      (both p c (guard_stock next (all_guards p k)))
  tail : PlainEnv
  size : length tail ≡ length z.names
  tail_over : EnvOver (Usable ks (s.sorts ++ Int ∷ []) Int) tail
  comes :
      P y z (case_state s rows guards (region_env (fact_of (fresh s) k terms zero_value) tail))

begun :
    (p : PlainProgram) (ks : List ℕ) (T : Table) (next : ℤ) (lim : Holding) (j : Job)
    (v : Valuation) (s : PlainState) (c : Stock) (n m k left : ℕ) (args : List Slot) (x : Slot)
    (i : PlainItem) (more : Items) (P : List PlainGoal → Type 0) →
    Comes (at_create p s n m k args x i left (remaining j more)) P →
    TakeStart p ks T next lim j v s c → 0 < j.most →
    IsSomeAnd (slice_get p.regions k) (λ y. FactFits j.scope y args x) →
    Begun p ks T next v s c k n
    (λ y z t. P (goals_of t (tasks_of (case_job j s y z k n left
    (tasks_of (fact_job j i more left))))))
begun p ks T next lim j v s c n m k left args x i more P comes st some fits =
    let env = env_at s j.env in
    let here = length s.envs in
    let region = fresh s in
    let sorts = s.sorts ++ Int ∷ [] in
    let R = Usable ks sorts Int in
    let last : PlainCase → PlainState → Attempt (List PlainGoal) = λ z u. leaves u
    (to_take z.items here left j.statement ∷ to_make k n here region j.statement
    ∷ stays s i left (remaining j more) ∷ j.tasks) in
    let seventh : PlainCase → PlainState → PlainEnv → Attempt (List PlainGoal) =
    λ z u e. with_env u e >>= last z in
    let sixth : PlainRegionType → PlainCase → List Linear → PlainState →
    Attempt (List PlainGoal) = λ y z us u.
    case_env y z (fact_of region k us zero_value) (determined_slot env x) >>= seventh z u in
    let fifth : PlainRegionType → PlainCase → List Linear → Attempt (List PlainGoal) =
    λ y z us. with_new_region p s y k >>= sixth y z us in
    let fourth : PlainRegionType → PlainCase → Unit {0} → Attempt (List PlainGoal) =
    λ y z _. each (determined_slot env) args >>= fifth y z in
    let third : PlainRegionType → PlainCase → Attempt (List PlainGoal) =
    λ y z. need (is_none (term_of env m)) >>= fourth y z in
    let second : PlainRegionType → Attempt (List PlainGoal) =
    λ y. found (slice_get y.cases n) >>= third y in
    let k1 = after-found (slice_get p.regions k) second P comes in
    let y = k1.0 in
    let k2 = after-found (slice_get y.cases n) (third y) P k1.2 in
    let z = k2.0 in
    let k3 = after-need (is_none (term_of env m)) (fourth y z) P k2.2 in
    let fit : FactFits j.scope y args x =
    subst (λ o. IsSomeAnd o (λ y. FactFits j.scope y args x)) k1.1 fits in
    let placed = placed-more ks j.scope s.sorts sorts env (same-fresh s Int).sorts
    st.ready.placed in
    let us = slots-given ks j.scope sorts env placed args fit.slots (λ us. Comes (fifth y z us) P)
    (comes-bind (each (determined_slot env) args) (fifth y z) P k3.1) in
    let region-there = fresh-region p ks T next v s c y k (λ u. Comes (sixth y z us.terms u) P) k1.1
    (known-at p ks T j.scope j.env v s c st.ready st.backed) st.low
    (st.absent some next (omega (arith, ints)))
    (λ a e.
    fresh-composes p next lim k st.composes (st.unheld some next (omega (arith, ints))) a
    (let q = part-join p (c.guards a) (lim a) (alone next (all_guards p k) a) (st.within a) in
    sym q.1 ∙ ap (λ o. join_marks p o q.0) e))
    (comes-bind (with_new_region p s y k) (sixth y z us.terms) P us.goes) in
    let f = fact_of region k us.terms zero_value in
    let u = fresh_state s region-there.rows region-there.guards in
    let made = comes-case R y z f (determined_slot env x) (λ e. Comes (seventh z u e) P)
    (slot-yields ks j.scope sorts env x placed fit.value)
    (comes-bind (case_env y z f (determined_slot env x)) (seventh z u) P region-there.comes) in
    record {
      y = y;
      z = z;
      is_type = k1.1;
      is_case = k2.1;
      terms = us.terms;
      arity = (let l = us.size in let a = fit.arity in omega (arith, l, a));
      over = us.over;
      rows = region-there.rows;
      guards = region-there.guards;
      known = region-there.known;
      tail = made.tail;
      size = made.size;
      tail_over = made.over;
      comes = (after-env u (region_env f made.tail) (last z) P made.made).1;
    }

-- ---- what taking the case starts from

pub record CaseStart (p : PlainProgram) (ks : List ℕ) (T : Table) (next : ℤ) (lim : Holding)
    (j : Job) (v : Valuation) (s : PlainState) (c : Stock) (k n left : ℕ) (i : PlainItem)
    (more : Items) (P : List PlainGoal → Type 0) : Type 0 where
  pub y : PlainRegionType
  pub z : PlainCase
  pub is_type : slice_get p.regions k ≡ Some y
  pub is_case : slice_get y.cases n ≡ Some z
  pub type_fits : RegionFits p y
  pub case_fits : CaseFits p y z
  pub rows : List Row
  pub guards : List Piece
  pub env : PlainEnv
  pub env_is : env_at (case_state s rows guards env) (length s.envs) ≡ env
  pub env_over : EnvOver (Usable ks (s.sorts ++ Int ∷ []) Int) env
  pub first : term_of env 0 ≡ Some (fresh s)
  pub room : y.params ≤ length env
  pub size : length env ≡ y.params + length z.names
  pub start :
      TakeStart p ks T (next +ℤ pos 1) (lim_with p lim next k)
      (case_job j s y z k n left (tasks_of (fact_job j i more left))) (fresh_values s v next)
      (case_state s rows guards env) (both p c (guard_stock next (all_guards p k)))
  pub comes :
      P (goals_of (case_state s rows guards env)
      (tasks_of (case_job j s y z k n left (tasks_of (fact_job j i more left)))))

pub case-start :
    (p : PlainProgram) → AllByRecursion (RegionFits p) p.regions → (ks : List ℕ) (T : Table)
    (next : ℤ) (lim : Holding) (j : Job) (v : Valuation) (s : PlainState) (c : Stock)
    (n m k left : ℕ) (args : List Slot) (x : Slot) (i : PlainItem) (more : Items)
    (P : List PlainGoal → Type 0) →
    Comes (at_create p s n m k args x i left (remaining j more)) P →
    TakeStart p ks T next lim j v s c → 0 < j.most →
    IsSomeAnd (slice_get p.regions k) (λ y. FactFits j.scope y args x) →
    CaseStart p ks T next lim j v s c k n left i more P
case-start p regions ks T next lim j v s c n m k left args x i more P comes st some fits =
    let b = begun p ks T next lim j v s c n m k left args x i more P comes st some fits in
    let type_fits = all-at (RegionFits p) p.regions k b.y regions b.is_type in
    let case_fits = all-at (CaseFits p b.y) b.y.cases n b.z type_fits.cases b.is_case in
    let sorts = s.sorts ++ Int ∷ [] in
    let f = fact_of (fresh s) k b.terms zero_value in
    let env = region_env f b.tail in
    let t = case_state s b.rows b.guards env in
    let w = fresh_values s v next in
    let q = both p c (guard_stock next (all_guards p k)) in
    let placed = case-placed ks sorts b.y b.z.names f b.tail b.arity (fresh-usable ks s st.low, tt)
    b.over b.size b.tail_over in
    let env_is : env_at t (length s.envs) ≡ env = get-or-push s.envs env [] in
    let there : length s.envs < length t.envs =
    (let l = push-length s.envs env in omega (arith, l)) in
    let known = known-envs p ks T w (fresh_state s b.rows b.guards) q t.envs b.known in
    let itself = type_fits.itself in
    let last : b.y.params - 1 < b.y.params = omega (arith, itself) in
    let far = placed.room (b.y.params - 1) Int (param-sort b.y b.z.names (b.y.params - 1) last) in
    record {
      y = b.y;
      z = b.z;
      is_type = b.is_type;
      is_case = b.is_case;
      type_fits = type_fits;
      case_fits = case_fits;
      rows = b.rows;
      guards = b.guards;
      env = env;
      env_is = env_is;
      env_over =
          region-env-over (Usable ks sorts Int) f b.tail (fresh-usable ks s st.low, tt) b.over
          b.tail_over;
      first = refl;
      room = omega (arith, far);
      size =
          (let count = b.size in
          let arity = b.arity in
          let m = length-join (bound b.terms) b.tail in
          let k = map-length Some b.terms in
          omega (arith, count, arity, m, k));
      start = record {
        ready =
            state-at p ks T (region_scope b.y b.z.names) (length s.envs) w t q known there
            (subst (Placed ks (region_scope b.y b.z.names) sorts) (sym env_is) placed);
        backed = known.backed;
        low =
            all-more (λ a. a < length s.sorts) (λ a. a < length sorts)
            (λ a l. (let e = push-length s.sorts Int in omega (arith, l, e))) ks st.low;
        fits = case_fits.items.items;
        absent = λ h a l. st.absent some a (omega (arith, ints, l));
        unheld = λ h. lim-above p lim next k (st.unheld some);
        within = λ a.
            part-join p (c.guards a) (lim a) (alone next (all_guards p k) a) (st.within a);
        composes = fresh-composes p next lim k st.composes
            (st.unheld some next (omega (arith, ints)));
      };
      comes = b.comes;
    }
