-- The state in which an opened region is in a case: what makes it, and values at which it holds.
use Rattle.std.proofs.Common.{◌≡◌, ℕ, zero, suc, List, [], ◌∷◌, ◌++◌, length, map, arith, refl, sym, subst, Option, Some, None, true}
use Rattle.std.specs.Prelude.{slice_get, IsSomeAnd}
use Rattle.std.specs.List.{AllByRecursion}
use Rattle.cap_lin.specs.Linear.{Linear}
use Rattle.cap_lin.specs.Rows.{row_of}
use Rattle.cap_lin.specs.declared.row.Row.{Row}
use Rattle.cap_lin.specs.declared.row.Sort.{Sort}
use Rattle.cap_lin.specs.declared.row.Sort.TheVariants.{Int}
use Rattle.cap_lin.specs.declared.row.Op.TheVariants.{Eq as Equal}
use Rattle.cap_prog.specs.declared.assertion.Comp.{Comp}
use Rattle.cap_prog.specs.Program.{Items, PlainCase}
use Rattle.cap_goal_spec.specs.States.{PlainFact, PlainEnv, PlainState, PlainTask, to_give, PlainGoal, goals_of}
use Rattle.cap_goal_spec.specs.Environments.{term_in, is_determined}
use Rattle.cap_rules.specs.Attempts.{Attempt, unit, ◌>>=◌}
use Rattle.cap_rules.specs.Making.{determined, rows_by, with_sorts, with_rows, with_comparison, with_env}
use Rattle.cap_rules.specs.Closing.{case_names, in_case, case_goals}
use Rattle.cap_account_resources.proofs.Lists.{some-same, none-some, join-nil, join-assoc}
use Rattle.cap_account_states.specs.Nodes.{Comes}
use Rattle.cap_account_states.proofs.Attempts.{comes-bind, after-determined, after-row, after-sort, after-comparison, AreDetermined, comp_row}
use Rattle.cap_account_states.proofs.Scopes.{length-join}
use Rattle.cap_account_states.proofs.Adding.{comes-rows}
use Rattle.cap_account_steps.proofs.Callees.{comes-env}

-- ---- what makes it

comes-sorts :
    (os : List Sort) (s : PlainState) (P : PlainState → Type 0) → Comes (with_sorts s os) P →
    P (record s { sorts = s.sorts ++ os })
comes-sorts [] s P h = subst (λ ss. P (record s { sorts = ss })) (sym (join-nil s.sorts)) h.1
comes-sorts (o ∷ os) s P h =
    let k = after-sort s o (λ s'. with_sorts s' os) P h in
    subst (λ ss. P (record s { sorts = ss })) (sym (join-assoc s.sorts (o ∷ []) os))
    (comes-sorts os (record s { sorts = s.sorts ++ o ∷ [] }) P k)

abbrev pub comp_rows : PlainEnv → List Comp → List Row
comp_rows env cs = map (λ c. comp_row env c.op c) cs

comes-rows-by :
    (env : PlainEnv) (cs : List Comp) (P : List Row → Type 0) → Comes (rows_by env cs) P →
    AllByRecursion (AreDetermined env) cs × P (comp_rows env cs)
comes-rows-by env [] P h = (tt, h.1)
comes-rows-by env (c ∷ cs) P h =
    let last = λ (r : Row) (rs : List Row). unit (r ∷ rs) in
    let k = after-row env c.op c (λ r. rows_by env cs >>= last r) P h in
    let m = comes-rows-by env cs (λ rs. Comes (last (comp_row env c.op c) rs) P)
    (comes-bind (rows_by env cs) (last (comp_row env c.op c)) P k.1) in
    ((k.0, m.0), m.1.1)

-- the region's state is the case's, and the case's conditions hold
abbrev pub case_rows : PlainState → PlainFact → PlainCase → List Row
case_rows s f c =
    row_of f.state Equal (term_in (case_names s f c) c.state) Int
    ∷ comp_rows (case_names s f c) c.when

abbrev pub case_state : PlainState → PlainFact → PlainCase → PlainState
case_state s f c = record s {
  sorts = s.sorts ++ c.names;
  rows = s.rows ++ case_rows s f c;
  envs = s.envs ++ case_names s f c ∷ [];
}

pub record InCase (s : PlainState) (f : PlainFact) (c : PlainCase)
    (P : PlainState → Type 0) : Type 0 where
  pub state_known : is_determined (case_names s f c) c.state ≡ true
  pub conditions_known : AllByRecursion (AreDetermined (case_names s f c)) c.when
  pub comes : P (case_state s f c)

pub comes-in-case :
    (s : PlainState) (f : PlainFact) (c : PlainCase) (P : PlainState → Type 0) →
    Comes (in_case s f c) P → InCase s f c P
comes-in-case s f c P h =
    let env = case_names s f c in
    let t = term_in env c.state in
    let first = row_of f.state Equal t Int in
    let ends = λ (s' : PlainState). with_env s' env in
    let adds = λ (s' : PlainState) (rows : List Row). with_rows s' rows >>= ends in
    let makes = λ (s' : PlainState). rows_by env c.when >>= adds s' in
    let compares = λ (s' : PlainState) (t : Linear).
    with_comparison s' f.state Equal t Int >>= makes
    in
    let knows = λ (s' : PlainState). determined env c.state >>= compares s' in
    let s1 = record s { sorts = s.sorts ++ c.names } in
    let k1 = comes-sorts c.names s (λ s'. Comes (knows s') P)
    (comes-bind (with_sorts s c.names) knows P h) in
    let k2 = after-determined env c.state (compares s1) P k1 in
    let s2 = record s1 { rows = s.rows ++ first ∷ [] } in
    let k3 = after-comparison s1 f.state Equal t Int makes P k2.1 in
    let k4 = comes-rows-by env c.when (λ rows. Comes (adds s2 rows) P)
    (comes-bind (rows_by env c.when) (adds s2) P k3) in
    let rows = comp_rows env c.when in
    let k5 = comes-rows rows s2 (λ s'. Comes (ends s') P)
    (comes-bind (with_rows s2 rows) ends P k4.1) in
    record {
      state_known = k2.0;
      conditions_known = k4.0;
      comes = subst (λ rs. P (record s1 { rows = rs; envs = s.envs ++ env ∷ [] }))
          (sym (join-assoc s.rows (first ∷ []) rows))
          (comes-env (record s2 { rows = s2.rows ++ rows }) env P k5);
    }

comes-value : {A : Type 0} (o : Attempt A) (P : A → Type 0) → Comes o P → (x : A) × P x
comes-value {A} o P h = by o.value h.1
  where
    by : (m : Option A) → IsSomeAnd m P → (x : A) × P x
    by None k = absurd k
    by (Some x) k = (x, k)

-- whatever is given first, these tasks leave a goal
abbrev pub LeavesOne : ℕ → ℕ → List PlainTask → Type 0
LeavesOne e n ts =
    (t : PlainState) (xs : Items) → length (goals_of t (to_give xs e n ∷ ts)) ≡ 1

-- the goals of case number i, between those of others
pub record CaseGoal (s : PlainState) (f : PlainFact) (n : ℕ) (ts : List PlainTask) (i : ℕ)
    (c : PlainCase) (P : List PlainGoal → Type 0) : Type 0 where
  pub before : List PlainGoal
  pub behind : List PlainGoal
  pub count : LeavesOne (length s.envs) n ts → length before ≡ i
  pub goes :
      InCase s f c
      (λ s'. P (before ++ (goals_of s' (to_give c.items (length s.envs) n ∷ ts) ++ behind)))

in-case-more :
    (s : PlainState) (f : PlainFact) (c : PlainCase) (P Q : PlainState → Type 0) →
    (P (case_state s f c) → Q (case_state s f c)) → InCase s f c P → InCase s f c Q
in-case-more s f c P Q g h = record {
  state_known = h.state_known;
  conditions_known = h.conditions_known;
  comes = g h.comes;
}

-- each case of the type has a goal
pub case-goal :
    (s : PlainState) (f : PlainFact) (n : ℕ) (ts : List PlainTask) (cs : List PlainCase) (i : ℕ)
    (c : PlainCase) (P : List PlainGoal → Type 0) → Comes (case_goals s f n ts cs) P →
    slice_get cs i ≡ Some c → CaseGoal s f n ts i c P
case-goal s f n ts [] i c P h e = absurd (none-some e)
case-goal s f n ts (x ∷ cs) i c P h e =
    let tasks = to_give x.items (length s.envs) n ∷ ts in
    let last = λ (s' : PlainState) (more : List PlainGoal). unit (goals_of s' tasks ++ more) in
    let rest = λ (s' : PlainState). case_goals s f n ts cs >>= last s' in
    let k = comes-in-case s f x (λ s'. Comes (rest s') P) (comes-bind (in_case s f x) rest P h) in
    let own = goals_of (case_state s f x) tasks in
    let m = comes-bind (case_goals s f n ts cs) (last (case_state s f x)) P k.comes in
    by (λ j q. case-goal s f n ts cs j c (λ more. Comes (unit (own ++ more)) P) m q) i k
    (comes-value (case_goals s f n ts cs) (λ more. Comes (unit (own ++ more)) P) m) e
  where
    by :
        ((j : ℕ) → slice_get cs j ≡ Some c → CaseGoal s f n ts j c (λ more. Comes (unit
        (goals_of (case_state s f x) (to_give x.items (length s.envs) n ∷ ts) ++ more)) P)) →
        (i : ℕ) →
        InCase s f x (λ s'. Comes (case_goals s f n ts cs >>= λ more. unit
        (goals_of s' (to_give x.items (length s.envs) n ∷ ts) ++ more)) P) →
        (more : List PlainGoal) × Comes (unit
        (goals_of (case_state s f x) (to_give x.items (length s.envs) n ∷ ts) ++ more)) P →
        slice_get (x ∷ cs) i ≡ Some c → CaseGoal s f n ts i c P
    by again zero k v e =
        subst (λ c. CaseGoal s f n ts zero c P) (some-same x c e) (record {
          before = [];
          behind = v.0;
          count = λ one. refl;
          goes = in-case-more s f x
              (λ s'. Comes (case_goals s f n ts cs >>= λ more. unit
              (goals_of s' (to_give x.items (length s.envs) n ∷ ts) ++ more)) P)
              (λ s'. P (goals_of s' (to_give x.items (length s.envs) n ∷ ts) ++ v.0))
              (λ h. v.1.1) k;
        })
    by again (suc j) k v e =
        let own = goals_of (case_state s f x) (to_give x.items (length s.envs) n ∷ ts) in
        let r = again j e in
        let goals = λ (s' : PlainState). goals_of s' (to_give c.items (length s.envs) n ∷ ts) in
        record {
          before = own ++ r.before;
          behind = r.behind;
          count = λ one.
              let all = length-join own r.before in
              let first = one (case_state s f x) x.items in
              let rest = r.count one in
              omega (arith, all, first, rest);
          goes = in-case-more s f c
              (λ s'. Comes (unit (own ++ (r.before ++ (goals s' ++ r.behind)))) P)
              (λ s'. P ((own ++ r.before) ++ (goals s' ++ r.behind)))
              (λ h. subst P
              (join-assoc own r.before (goals (case_state s f c) ++ r.behind)) h.1)
              r.goes;
        }
