-- The rules that close a region, taken apart: one chooses its case and move and takes the case's
-- items, the other proves the move and gives the region its new state.
use Rattle.std.proofs.Common.{◌≡◌, ℕ, ℤ, map, Bool, true, false, List, [], ◌∷◌, length, Option, Some, subst}
use Rattle.std.specs.Prelude.{slice_get, remove, if◌then◌else◌}
use Rattle.std.specs.List.{AllByRecursion, list_any}
use Rattle.cap_lin.specs.Linear.{Linear}
use Rattle.cap_lin.specs.Values.{Valuation, value}
use Rattle.cap_lin.specs.declared.row.Sort.TheVariants.{Int}
use Rattle.cap_prog.specs.Program.{PlainCase, PlainRegionType, PlainProgram}
use Rattle.cap_prog.specs.Scopes.{region_scope}
use Rattle.cap_prog.specs.WellFormed.{CaseFits}
use Rattle.cap_machine_accounts.specs.Assertions.{CompHolds}
use Rattle.cap_goal_spec.specs.States.{PlainFact, PlainEnv, PlainState, PlainTask, to_take, to_shift, with_state, PlainGoal}
use Rattle.cap_goal_spec.specs.Environments.{term_in, region_env}
use Rattle.cap_goal_spec.specs.Choices.{PlainTrees}
use Rattle.cap_rules.specs.Attempts.{Attempt, unit, found, need, ◌>>=◌}
use Rattle.cap_rules.specs.Making.{is_empty, env_at, determined, prove_comparisons, with_env, with_fact, is_of_other_type}
use Rattle.cap_rules.specs.Taking.{case_env}
use Rattle.cap_rules.specs.Closing.{may_move, move_target, prove_move, with_closed}
use Rattle.cap_rules.specs.Rules.{leaves, creations, at_close, at_shift}
use Rattle.cap_account_states.specs.Nodes.{NodePredicate, Comes, Children, Open}
use Rattle.cap_account_resources.specs.Parts.{known_as, Table}
use Rattle.cap_account_resources.proofs.Lists.{all-at}
use Rattle.cap_account_states.proofs.Terms.{Over}
use Rattle.cap_account_states.proofs.Attempts.{env_added, comes-bind, comes-more, after-found, after-need, after-env, after-determined}
use Rattle.cap_account_states.proofs.Meets.{Usable, Meets}
use Rattle.cap_account_states.proofs.Naming.{Placed, Means, values_in, values-mean, bound-of, term-over, term-number}
use Rattle.cap_account_states.proofs.Environments.{EnvOver}
use Rattle.cap_account_states.proofs.Cases.{target-yields, comes-case, case-placed}
use Rattle.cap_account_states.proofs.Facts.{Facts, fact_added, comes-fact, no-other-type}
use Rattle.cap_account_assertions.proofs.RuleSteps.{comparisons-hold}
use Rattle.cap_account_steps.proofs.Moves.{Movable}

-- what is found, where it is known
given :
    {A B : Type 0} (o : Option A) (x : A) (g : A → Attempt B) (P : B → Type 0) → o ≡ Some x →
    Comes (found o >>= g) P → Comes (g x) P
given o x g P e h = subst (λ w. Comes (found w >>= g) P) e h

-- ---- the choice of a case and a move

-- its tasks: the case's items are taken out of the state, in its newest environment, and the move
-- is proved
abbrev pub take_and_shift :
    PlainState → PlainCase → ℕ → ℕ → ℕ → ℕ → Bool → List PlainTask → List PlainTask
take_and_shift s x o c m n any ts =
    to_take x.items (length s.envs) (creations any) n ∷ to_shift o c m (length s.envs) n ∷ ts

-- the region and its case, and an environment of the case's names, in which its items are to be
-- taken
pub record Picked (p : PlainProgram) (N : NodePredicate) (ks : List ℕ) (s : PlainState)
    (o c m n : ℕ) (any : Bool) (ts : List PlainTask) (kids : PlainTrees) : Type 0 where
  pub f : PlainFact
  pub is_opened : slice_get s.opened o ≡ Some f
  pub k : PlainRegionType
  pub movable : Movable p ks s f k
  pub x : PlainCase
  pub is_case : slice_get k.cases c ≡ Some x
  pub may : may_move any m k ≡ true
  pub names : PlainEnv
  pub size : length names ≡ length x.names
  pub over : EnvOver (Usable ks s.sorts Int) names
  pub placed : Placed ks (region_scope k x.names) s.sorts (region_env f names)
  pub goes :
      Open N kids (env_added s (region_env f names)) (take_and_shift s x o c m n any ts)

module _ (p : PlainProgram) (N : NodePredicate) (ks : List ℕ) (s : PlainState) (o c m n : ℕ)
    (any : Bool) (ts : List PlainTask) (kids : PlainTrees) where
  abbrev Goals : List PlainGoal → Type 0
  Goals gs = Children N kids gs

  -- the rule from its environment on, from its case on, and so on
  abbrev from_env : PlainCase → PlainEnv → Attempt (List PlainGoal)
  from_env x env =
      with_env s env >>= λ s'. leaves s' (take_and_shift s x o c m n any ts)

  abbrev from_case : PlainFact → PlainRegionType → PlainCase → Attempt (List PlainGoal)
  from_case f k x =
      need (may_move any m k) >>= λ _. (case_env k x f (move_target k f m) >>= from_env x)

  abbrev from_type : PlainFact → PlainRegionType → Attempt (List PlainGoal)
  from_type f k = found (slice_get k.cases c) >>= from_case f k

  abbrev from_fact : PlainFact → Attempt (List PlainGoal)
  from_fact f = found (slice_get p.regions f.kind) >>= from_type f

  pub picked :
      ((f : PlainFact) → slice_get s.opened o ≡ Some f →
      (k : PlainRegionType) × Movable p ks s f k) →
      Comes (at_close p s o c m any n ts) Goals → Picked p N ks s o c m n any ts kids
  picked each h =
      let R = Usable ks s.sorts Int in
      let q = after-found (slice_get s.opened o) from_fact Goals h in
      let f = q.0 in
      let is = each f q.1 in
      let k = is.0 in
      let a = is.1 in
      let y = after-found (slice_get k.cases c) (from_case f k) Goals
      (given (slice_get p.regions f.kind) k (from_type f) Goals a.is_type q.2) in
      let x = y.0 in
      let last = λ (_ : Unit {0}). case_env k x f (move_target k f m) >>= from_env x in
      let w = after-need (may_move any m k) last Goals y.2 in
      let e = comes-case R k x f (move_target k f m) (λ env. Comes (from_env x env) Goals)
      (target-yields R f a.over.0 a.over.1 k m a.over.2)
      (comes-bind (case_env k x f (move_target k f m)) (from_env x) Goals w.1) in
      let tasks = take_and_shift s x o c m n any ts in
      record {
        f = f;
        is_opened = q.1;
        k = k;
        movable = a;
        x = x;
        is_case = y.1;
        may = w.0;
        names = e.tail;
        size = e.size;
        over = e.over;
        placed = case-placed ks s.sorts k x.names f e.tail a.arity a.over.0 a.over.1 e.size e.over;
        goes = (after-env s (region_env f e.tail) (λ s'. leaves s' tasks) Goals e.made).1;
      }

-- ---- the move

-- the state once the region is closed: its fact says the new state, and without open regions
-- nothing is known of what was held before
abbrev pub closed_state : PlainState → ℕ → PlainFact → PlainState
closed_state s o f =
    record (fact_added (record s { opened = remove s.opened o }) f) {
      before = if is_empty (remove s.opened o) then [] else s.before;
    }

-- no fact says that the region has another type, where the table tells its type
pub none-other :
    (ks : List ℕ) (v : Valuation) (T : Table) (s : PlainState) (f : PlainFact) (b : Option ℤ) →
    Facts ks v T s →
    T (value v.whole f.region) ≡ Some (known_as f.kind (map (value v.whole) f.args) b) →
    list_any (is_of_other_type f) s.facts ≡ false
none-other ks v T s f b facts e =
    no-other-type v T (record f { loose = true }) s.facts (b, e, tt) facts.holds

comes-closed :
    (s : PlainState) (o : ℕ) (f : PlainFact) (new : Linear) (Q : PlainState → Type 0) →
    list_any (is_of_other_type f) s.facts ≡ false → Comes (with_closed s o f new) Q →
    Q (closed_state s o (with_state f new))
comes-closed s o f new Q none h =
    let shut = record s { opened = remove s.opened o } in
    let last = λ (t : PlainState). unit
    (record t { before = if is_empty t.opened then [] else t.before }) in
    (comes-fact shut (with_state f new) (λ t. Comes (last t) Q) none
    (comes-bind (with_fact shut (with_state f new)) last Q h)).1

-- a term for the case's state; what the case says of its names' values; and that the region moves
-- to that state, in which its fact joins the others
pub record Shifted (N : NodePredicate) (ks : List ℕ) (v : Valuation) (s : PlainState)
    (spans : List ℕ) (o m e : ℕ) (f : PlainFact) (k : PlainRegionType) (x : PlainCase)
    (ts : List PlainTask) (kids : PlainTrees) : Type 0 where
  pub new : Linear
  pub over : Over (Usable ks s.sorts Int) new
  pub state_is :
      (X : Valuation) → Means (region_scope k x.names) v (env_at s e) X →
      value v.whole new ≡ value X.whole x.state
  pub conditions :
      (X : Valuation) → Means (region_scope k x.names) v (env_at s e) X →
      AllByRecursion (CompHolds X) x.when
  pub moves :
      Comes (prove_move k s f new m spans)
      (λ _. Open N kids (closed_state s o (with_state f new)) ts)

module _ (p : PlainProgram) (N : NodePredicate) (ks : List ℕ) (v : Valuation) (s : PlainState)
    (me : Meets ks v s) (spans : List ℕ) (o c m e : ℕ) (ts : List PlainTask) (kids : PlainTrees) where
  abbrev env : PlainEnv
  env = env_at s e

  abbrev After : List PlainGoal → Type 0
  After gs = Children N kids gs

  -- the rule from its new state on, and so on
  abbrev from_move : PlainFact → Linear → Attempt (List PlainGoal)
  from_move f new = with_closed s o f new >>= λ s'. leaves s' ts

  abbrev from_state : PlainFact → PlainRegionType → Linear → Attempt (List PlainGoal)
  from_state f k new = prove_move k s f new m spans >>= λ _. from_move f new

  abbrev with_case : PlainFact → PlainRegionType → PlainCase → Attempt (List PlainGoal)
  with_case f k x =
      prove_comparisons s.rows env x.when >>= λ _. (determined env x.state >>= from_state f k)

  abbrev with_type : PlainFact → PlainRegionType → Attempt (List PlainGoal)
  with_type f k = found (slice_get k.cases c) >>= with_case f k

  abbrev with_region : PlainFact → Attempt (List PlainGoal)
  with_region f = found (slice_get p.regions f.kind) >>= with_type f

  pub shifted :
      (f : PlainFact) (k : PlainRegionType) (x : PlainCase) → slice_get s.opened o ≡ Some f →
      slice_get k.cases c ≡ Some x → Movable p ks s f k →
      Placed ks (region_scope k x.names) s.sorts env →
      list_any (is_of_other_type f) s.facts ≡ false →
      Comes (at_shift p s spans o c m e ts) After → Shifted N ks v s spans o m e f k x ts kids
  shifted f k x is_f is_x is pl none h =
      let sc = region_scope k x.names in
      let fits = all-at (CaseFits p k) k.cases c x is.fits.cases is_x in
      let new = term_in env x.state in
      let q = given (slice_get k.cases c) x (with_case f k) After is_x
      (given (slice_get p.regions f.kind) k (with_type f) After is.is_type
      (given (slice_get s.opened o) f with_region After is_f h)) in
      let next = λ (_ : Unit {0}). determined env x.state >>= from_state f k in
      let Q = λ (_ : Unit {0}). Comes (next tt) After in
      let said = λ (X : Valuation) (n : Means sc v env X).
      comparisons-hold ks sc v s env X me pl n x.when fits.when Q
      (comes-bind (prove_comparisons s.rows env x.when) next After q) in
      let d = after-determined env x.state (from_state f k) After
      (said (values_in v env) (values-mean sc v env)).1 in
      let names = bound-of env x.state.parts d.0 in
      let last = λ (_ : Unit {0}). from_move f new in
      let leave = λ (t : PlainState). leaves t ts in
      record {
        new = new;
        over = term-over ks sc s.sorts env Int x.state pl fits.state names;
        state_is = λ X n. term-number sc v env X Int x.state n fits.state names;
        conditions = λ X n. (said X n).0;
        moves =
            comes-more (prove_move k s f new m spans) (λ u. Comes (last u) After)
            (λ _. Open N kids (closed_state s o (with_state f new)) ts)
            (λ u w. (comes-closed s o f new (λ t. Comes (leave t) After) none
            (comes-bind (with_closed s o f new) leave After w)).1)
            (comes-bind (prove_move k s f new m spans) last After d.1);
      }
