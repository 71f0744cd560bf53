-- A state that keeps its environments, or binds names in one: what is known of it stays known.
use Rattle.std.proofs.Common.{◌≡◌, ℕ, suc, ◌<◌, ◌≤◌, ℤ, List, [], length, arith, refl, sym, ap, ◌∙◌, subst, true}
use Rattle.std.specs.Prelude.{get_or}
use Rattle.std.specs.List.{AllByRecursion}
use Rattle.cap_lin.specs.Linear.{Linear}
use Rattle.cap_gsolve.specs.declared.piece.Piece.{Piece}
use Rattle.cap_lin.specs.Values.{Valuation}
use Rattle.cap_lin.specs.declared.row.Row.{Row}
use Rattle.cap_lin.specs.declared.row.Sort.TheVariants.{Int}
use Rattle.cap_prog.specs.Program.{PlainItem, Items, item, PlainProgram}
use Rattle.cap_prog.specs.Scopes.{Scope}
use Rattle.cap_goal_spec.specs.States.{PlainFact, PlainEnv, PlainState, PlainGoal, goals_of}
use Rattle.cap_goal_spec.specs.Choices.{PlainTrees}
use Rattle.cap_rules.specs.Making.{env_at, with_env_at}
use Rattle.cap_account_states.proofs.Alike.{usable-alike, Alike, alike-same}
use Rattle.cap_account_resources.specs.Parts.{Table}
use Rattle.cap_account_resources.proofs.Lists.{Among, all-more, set-length}
use Rattle.cap_account_resources.proofs.Interference.{Holding}
use Rattle.cap_account_resources.proofs.Stocks.{Stock, no_stock, both, Inside, inside-is, none-right}
use Rattle.cap_account_states.specs.Nodes.{Children}
use Rattle.cap_account_states.proofs.Terms.{vars-more}
use Rattle.cap_account_states.proofs.Brought.{Bring, Brought, brought-none}
use Rattle.cap_account_states.proofs.Meets.{Usable, usable-on, Old, Same, same-state, meets-env}
use Rattle.cap_account_states.proofs.Checked.{Checked}
use Rattle.cap_account_states.proofs.Naming.{Placed, Means, Stays, placed-more, at-env, others-env}
use Rattle.cap_account_states.proofs.Matching.{Outside}
use Rattle.cap_account_states.proofs.Facts.{facts-on}
use Rattle.cap_account_states.proofs.Items.{AreFit}
use Rattle.cap_account_states.proofs.Backed.{IsOpened, Backed, Grounded}
use Rattle.cap_account_assertions.proofs.Laws.{StateAt}
use Rattle.cap_account_assertions.proofs.TreeSizes.{trees_size}
use Rattle.cap_account_assertions.proofs.Follows.{Follows, follows-none}
use Rattle.cap_account_assertions.proofs.TakeSteps.{Job, tasks_of, with_items, TakeStart, Took, TookLaw, Head, Claim, Turns, start-after, took-item, took-other}

-- ---- environments stay as they are

-- other rows, cells and pieces
pub same-parts :
    (s : PlainState) (rows : List Row) (cells : List (Linear × Linear)) (guards : List Piece) →
    Same s (record s { rows = rows; cells = cells; guards = guards })
same-parts s rows cells guards = record {
  sorts = λ x o h. h;
  count = omega arith;
  store = refl;
  facts = refl;
  opened = refl;
  before = refl;
  envs = refl;
}

module _ (sc : Scope) (e : ℕ) (v w : Valuation) (s t : PlainState) (same : Same s t)
    (envs : t.envs ≡ s.envs) (alike : Alike (Old s) v w) where
  abbrev env-kept : env_at t e ≡ env_at s e
  env-kept = ap (λ es. get_or es e []) envs

  pub follows-kept : Follows sc e v s w t
  follows-kept = record {
    alike = alike;
    goes_on = record {
      sorts = same.sorts;
      count = same.count;
      store = same.store;
      opened = same.opened;
      before = same.before;
      envs = (let n = same.envs in omega (arith, n));
    };
    loose =
        subst (AllByRecursion (λ f. f.loose ≡ true → Among f s.facts)) (sym same.facts)
        (follows-none sc e v s).loose;
    stays = subst (Stays sc (env_at s e)) (sym env-kept) (λ x o i u h. h);
    outside = subst (Outside sc (env_at s e)) (sym env-kept) (λ x h. refl);
    size = ap length env-kept;
    others = λ x l ne. ap (λ es. get_or es x []) envs;
  }

  pub ready-kept :
      (p : PlainProgram) (ks : List ℕ) (T : Table) → StateAt p ks T sc e v s →
      Grounded p ks w t → StateAt p ks T sc e w t
  ready-kept p ks T st g =
      let R = Usable ks s.sorts Int in
      let S = Usable ks t.sorts Int in
      let more = usable-on ks s.sorts t.sorts same.sorts Int in
      let near : (f : PlainFact) → IsOpened R v T f → IsOpened S w T f = λ f h. (
        vars-more R S more f.region.parts h.0,
        h.1,
        ap T (usable-alike ks s v w alike f.region h.0) ∙ h.2,
      ) in
      record {
        grounded = g;
        facts = facts-on ks v w T s t same alike st.facts;
        opened =
            subst (AllByRecursion (IsOpened S w T)) (sym same.opened)
            (all-more (IsOpened R v T) (IsOpened S w T) near s.opened st.opened);
        there = subst (λ es. e < length es) (sym envs) st.there;
        placed =
            subst (Placed ks sc t.sorts) (sym env-kept)
            (placed-more ks sc s.sorts t.sorts (env_at s e) same.sorts st.placed);
      }

-- ---- names get bound

module _ (sc : Scope) (e : ℕ) (t : PlainState) (later : PlainEnv) (there : e < length t.envs) where
  abbrev bound : PlainState
  bound = with_env_at t e later

  abbrev env-bound : env_at bound e ≡ later
  env-bound = at-env t e later there

  pub follows-bound :
      (v w : Valuation) (s : PlainState) → Follows sc e v s w t → Stays sc (env_at s e) later →
      Outside sc (env_at s e) later → length later ≡ length (env_at s e) →
      Follows sc e v s w bound
  follows-bound v w s f stays outside size = record {
    alike = f.alike;
    goes_on = record {
      sorts = f.goes_on.sorts;
      count = f.goes_on.count;
      store = f.goes_on.store;
      opened = f.goes_on.opened;
      before = f.goes_on.before;
      envs = (let m = f.goes_on.envs in let n = set-length t.envs e later in omega (arith, m, n));
    };
    loose = f.loose;
    stays = subst (Stays sc (env_at s e)) (sym env-bound) stays;
    outside = subst (Outside sc (env_at s e)) (sym env-bound) outside;
    size = ap length env-bound ∙ size;
    others = λ x l ne. others-env t e later x ne ∙ f.others x l ne;
  }

  pub ready-bound :
      (p : PlainProgram) (ks : List ℕ) (T : Table) (w : Valuation) → StateAt p ks T sc e w t →
      Placed ks sc t.sorts later → StateAt p ks T sc e w bound
  ready-bound p ks T w st placed = record {
    grounded = record {
      meets = meets-env ks w t bound.envs st.grounded.meets;
      pieces_over = st.grounded.pieces_over;
      pieces_fit = st.grounded.pieces_fit;
    };
    facts = record {
      holds = st.facts.holds;
      over = st.facts.over;
      loose = st.facts.loose;
      differ = st.facts.differ;
    };
    opened = st.opened;
    there = (let n = set-length t.envs e later in omega (arith, there, n));
    placed = subst (Placed ks sc t.sorts) (sym env-bound) placed;
  }

  pub means-bound : (x a : Valuation) → Means sc x (env_at bound e) a → Means sc x later a
  means-bound x a m = subst (λ env. Means sc x env a) env-bound m

-- ---- the head of a rule

module _ (p : PlainProgram) (ks : List ℕ) (T : Table) (j : Job) (v : Valuation) (s : PlainState)
    (c : Stock) (st : StateAt p ks T j.scope j.env v s) where
  -- with the environments as they are
  abbrev pub head-kept :
      (w : Valuation) (t : PlainState) (left taken : Stock) {bs : List Bring} → Same s t →
      t.envs ≡ s.envs → Alike (Old s) v w → Brought s t w bs → Grounded p ks w t →
      Backed p w t left → Inside p (both p left taken) c → Head p ks T j v s c bs
  head-kept w t left taken {bs} same envs alike brought g b apart = record {
    w = w;
    after = t;
    brought = brought;
    follows = follows-kept j.scope j.env v w s t same envs alike;
    ready = ready-kept j.scope j.env v w s t same envs alike p ks T st g;
    left = left;
    backed = b;
    taken = taken;
    apart = apart;
  }

  -- the state as it is, of which nothing is taken
  abbrev pub head-same : Backed p v s c → Head p ks T j v s c []
  head-same b =
      head-kept v s c no_stock (same-state s) refl (alike-same (Old s) v) (brought-none s s v refl)
      st.grounded b
      (inside-is p (both p c no_stock) c (none-right p c))

  -- and then with names bound
  abbrev pub head-bound :
      {bs : List Bring} (h : Head p ks T j v s c bs) (later : PlainEnv) → Placed ks j.scope h.after.sorts later →
      Stays j.scope (env_at s j.env) later → Outside j.scope (env_at s j.env) later →
      length later ≡ length (env_at s j.env) → Head p ks T j v s c bs
  head-bound {bs} h later placed stays outside size = record {
    w = h.w;
    after = with_env_at h.after j.env later;
    brought = record { count = h.brought.count; are = h.brought.are };
    follows =
        follows-bound j.scope j.env h.after later h.ready.there v h.w s h.follows stays outside
        size;
    ready = ready-bound j.scope j.env h.after later h.ready.there p ks T h.w h.ready placed;
    left = h.left;
    backed = record { cells = h.backed.cells; guards = h.backed.guards };
    taken = h.taken;
    apart = h.apart;
  }

-- ---- what a rule leads to

module _ (p : PlainProgram) (ks : List ℕ) (T : Table) (j : Job) (v : Valuation) (s : PlainState)
    (c : Stock) (P : List PlainGoal → Type 0) where
  -- the item goes, and this is brought; P holds of the goals that are left
  pub record ItemTaken (bs : List Bring) (i : PlainItem) (more : Items) : Type 0 where
    pub head : Head p ks T j v s c bs
    pub claim : Claim p T j.scope head.w head.after j.env i head.taken
    pub goes : P (goals_of head.after (tasks_of (with_items j more)))

  -- other items are to be taken, and nothing is brought
  pub record ItemsTurned : Type 0 where
    pub head : Head p ks T j v s c []
    pub rest : Items
    pub fits : AreFit p j.scope rest
    pub turns : Turns p T j.scope head.w head.after j.env head.taken j.items rest
    pub goes : P (goals_of head.after (tasks_of (with_items j rest)))

module _ (p : Checked) (ks : List ℕ) (T : Table) (next : ℤ) (lim : Holding) (j : Job)
    (v : Valuation) (s : PlainState) (c : Stock) (st : TakeStart p.program ks T next lim j v s c)
    (size : ℕ) (law : TookLaw p ks size) (trees : PlainTrees) (small : trees_size trees ≤ size)
  where
    pub took-taken :
        {bs : List Bring} (i : PlainItem) (more : Items) → j.items ≡ item i more →
        AreFit p.program j.scope more →
        ItemTaken p.program ks T j v s c (Children p.N trees) bs i more →
        Took p ks T next j v s c (suc size)
    took-taken {bs} i more e f r =
        took-item p ks T next j v s c r.head i more e r.claim size (suc size) (omega arith)
        (law T next lim (with_items j more) trees r.head.w r.head.after r.head.left small r.goes
        (start-after p.program ks T next lim j more v s c st r.head f))

    pub took-turned :
        ItemsTurned p.program ks T j v s c (Children p.N trees) →
        Took p ks T next j v s c (suc size)
    took-turned r =
        took-other p ks T next j v s c r.head r.rest r.turns size (suc size) (omega arith)
        (law T next lim (with_items j r.rest) trees r.head.w r.head.after r.head.left small r.goes
        (start-after p.program ks T next lim j r.rest v s c st r.head r.fits))
