-- The laws of calls and forks.
use Rattle.std.proofs.Common.{◌++◌, ◌+◌, ◌≡◌, ℕ, ℤ, pos, List, [], ◌∷◌, length, map, arith, refl, ap, ◌∙◌, subst, Option, Some, None}
use Rattle.std.specs.Prelude.{slice_get, IsSomeAnd}
use Rattle.std.specs.List.{AllByRecursion}
use Rattle.cap_lin.specs.Linear.{Linear}
use Rattle.cap_lin.specs.Values.{Valuation}
use Rattle.cap_lin.specs.declared.row.Sort.TheVariants.{Int}
use Rattle.cap_prog.specs.Program.{Label, call, fork, Block, first, PlainFunction}
use Rattle.cap_prog.specs.Scopes.{fixed_start}
use Rattle.cap_prog.specs.WellFormed.{IsWellFormed}
use Rattle.cap_goal_spec.specs.States.{PlainState, Home, PlainTask, to_run, to_take, to_rest, PlainGoal, goal, goals_of}
use Rattle.cap_goal_spec.specs.Choices.{node, by_absurd, by_call, by_fork, PlainTree, PlainTrees}
use Rattle.cap_rules.specs.Answers.{marks_of}
use Rattle.cap_rules.specs.Attempts.{◌>>=◌}
use Rattle.cap_rules.specs.Making.{fresh, env_at}
use Rattle.cap_rules.specs.Rules.{leaves, called, rule}
use Rattle.cap_machine.specs.Machine.{Frame, value_in, with_rest, receives}
use Rattle.cap_machine_accounts.specs.Assertions.{NameValue}
use Rattle.cap_account_resources.specs.Parts.{Table}
use Rattle.cap_account_resources.proofs.Lists.{get-first, push-length}
use Rattle.cap_account_resources.proofs.Interference.{Relies}
use Rattle.cap_account_resources.proofs.Stocks.{Stock}
use Rattle.cap_account_states.specs.Nodes.{Comes, Children}
use Rattle.cap_account_states.proofs.Brought.{Bring, Brings}
use Rattle.cap_account_states.proofs.Alike.{Alike, alike-trans, alike-less, agree-alike}
use Rattle.cap_account_states.proofs.Attempts.{after-found}
use Rattle.cap_account_states.proofs.Meets.{Old}
use Rattle.cap_account_states.proofs.Checked.{Checked, one-child}
use Rattle.cap_account_states.proofs.Roots.{values-length}
use Rattle.cap_account_assertions.proofs.Laws.{Creation, KeepsCreated, GivenLaw, TakenLaw, Rested, RestsLaw}
use Rattle.cap_account_assertions.proofs.Named.{set_to, rest_values}
use Rattle.cap_account_steps.proofs.Points.{FrameOk, point-act, point-next, ok-rest}
use Rattle.cap_account_steps.proofs.Stores.{Store, running}
use Rattle.cap_account_steps.proofs.Callees.{fixed_values, fixed-fit, ok-put, put_at, at_call, after-called}
use Rattle.cap_account_steps.proofs.Regained.{Stable}
use Rattle.cap_account_steps.proofs.Frames.{Node, Roomy, Calls, Forks, WaitsLike, waits_so}
use Rattle.cap_account_steps.proofs.Statements.{Before, CallLaw, ForkLaw}
use Rattle.cap_account_steps.proofs.Local.{given-up}
use Rattle.cap_account_steps.proofs.OwnNames.{canon}
use Rattle.cap_account_steps.proofs.CallSite.{Caller, TakenHere, a1, callee_fixed, alike2, met-requires}
use Rattle.cap_account_steps.proofs.Results.{with_result, alike4, firm2, grounded2, facts2, backed2}
use Rattle.cap_account_steps.proofs.Calling.{store-received, back_start, after_call, take-here, hands, reached-left, waits-here}

-- ---- by name

-- what a callee's `requires` is taken at, and the values that its names have then; and the regions
-- that are created, which have their cases at all alike values
module _ (p : Checked) (part : Stock) (T : Table) (fixed : List NameValue) (f : Frame)
    (g : PlainFunction) (args : List ℤ) (v : Valuation) (s : PlainState) where
  abbrev pub required : Valuation → PlainState → Valuation
  required took after = canon took (env_at after (length s.envs))

  pub record CallsAt (x : Option ℕ) (n : ℕ) : Type 0 where
    pub calls : Calls p part T fixed f x n g args
    pub took : Valuation
    pub after : PlainState
    pub children : PlainTrees
    pub alike : Alike (Old s) v took
    pub brings : List Bring
    pub count : length after.sorts ≡ length (s.sorts ++ Int ∷ []) + length brings
    pub brought : Brings took (length (s.sorts ++ Int ∷ [])) brings
    pub values_are : calls.meets.values ≡ required took after
    pub created : List Creation
    pub are_created : calls.over.new ≡ map (λ c. c.owner) created
    pub keeps : AllByRecursion (KeepsCreated p.program calls.over.U (Old after) took) created
    pub fixed_are : calls.fixed ≡ fixed_values (required took after) (fixed_start g) g.fixed
    pub waits :
        WaitsLike p calls.kept calls.over.U fixed f x n args calls.fixed
        (back_start s took after children)
    pub are_those : waits_so p calls.kept calls.over.U fixed f x n args calls.fixed
        (back_start s took after children) waits
        ≡ calls.goes_on

  pub record ForksAt : Type 0 where
    pub forks : Forks p part T fixed f g args
    pub took : Valuation
    pub after : PlainState
    pub children : PlainTrees
    pub alike : Alike (Old s) v took
    pub brings : List Bring
    pub count : length after.sorts ≡ length (s.sorts ++ Int ∷ []) + length brings
    pub brought : Brings took (length (s.sorts ++ Int ∷ [])) brings
    pub values_are : forks.meets.values ≡ required took after
    pub created : List Creation
    pub are_created : forks.over.new ≡ map (λ c. c.owner) created
    pub keeps : AllByRecursion (KeepsCreated p.program forks.over.U (Old after) took) created
    pub fixed_are : forks.fixed ≡ fixed_values (required took after) (fixed_start g) g.fixed
    pub named :
        (U : Table) (r : Relies p.program forks.kept.guards forks.over.U U) →
        (forks.goes_on.all U r).at_node.v
        ≡ rest_values U after.facts children (length after.sorts)
        (set_to took (length s.sorts) (pos 0))

-- ---- the laws

module _ (p : Checked) (program : IsWellFormed p.program) (give : GivenLaw p) (take : TakenLaw p)
    (rests : RestsLaw p) (stable : Stable p.program) (part : Stock) (T : Table)
    (fn : PlainFunction) (fixed : List NameValue) (roomy : Roomy p.program T part) where
  -- the state of a node, with a callee; the result's variable is 0 for now
  abbrev caller :
      (f : Frame) (r0 : Block) (d : PlainTree) →
      Node p part T fn fixed (with_rest f r0) (running r0) d → (g : PlainFunction)
      (args : List Linear) → length args ≡ g.params → Option ℕ → Caller p part T f.store
  caller f r0 d n g args size x = record {
    s = n.state;
    v = n.v;
    grounded = n.grounded;
    facts = n.facts;
    firm = n.firm;
    backed = n.backed;
    none_open = n.none_open;
    is_store = n.store.store;
    g = g;
    args = args;
    size = size;
    x = x;
    z = pos 0;
  }

  same-store :
      (f : Frame) (r0 : Block) (d : PlainTree) →
      (n : Node p part T fn fixed (with_rest f r0) (running r0) d) →
      Store n.v n.state n.home fn fixed (with_rest f r0)
  same-store f r0 d n = record {
    home = n.store.home;
    store = n.store.store;
    fixed_are = n.store.fixed_are;
    fixed_known = n.store.fixed_known;
  }

  same-ok : (f : Frame) → FrameOk p.program fn fixed f → FrameOk p.program fn fixed f
  same-ok f ok = record {
    is_fn = ok.is_fn;
    size = ok.size;
    args = ok.args;
    values = ok.values;
    point = ok.point;
  }

  -- ---- calls

  -- by what is taken for the callee, the caller waits
  abbrev pub call-from :
      (f : Frame) (r0 : Block) (l : Label) (n : ℕ) (b : Block) (c : Caller p part T f.store)
      (h : Home) → Store c.v c.s h fn fixed (with_rest f r0) →
      slice_get p.program.functions n ≡ Some c.g → FrameOk p.program fn fixed (with_rest f b) →
      ((r : ℤ) → FrameOk p.program fn fixed (receives c.x r (with_rest f b))) →
      TakenHere p part T f.store c
      (after_call p program give take rests stable c.g (length c.s.envs) l h b) →
      CallsAt p part T fixed (with_rest f b) c.g (map (value_in f.store) c.args) c.v c.s c.x n
  call-from f r0 l n b c h st is_g ok later tk =
      let rest = after_call p program give take rests stable c.g (length c.s.envs) l h b in
      let waits = waits-here p program give take rests stable part T roomy fn fixed
      (values-length fn.fixed fixed ok.values) f r0 c h st n is_g l b tk ok later in
      record {
        calls = record {
          kept = tk.left;
          given = tk.given;
          over = hands p program give take rests stable part T roomy f.store c rest tk;
          fixed = callee_fixed p part T f.store c rest tk;
          fit = fixed-fit (a1 p part T f.store c rest tk) (fixed_start c.g) c.g.fixed;
          meets = met-requires p part T f.store c rest tk;
          goes_on =
              waits_so p tk.left tk.U fixed (with_rest f b) c.x n (map (value_in f.store) c.args)
              (callee_fixed p part T f.store c rest tk)
              (back_start c.s tk.w tk.after tk.children) waits;
        };
        took = tk.w;
        after = tk.after;
        children = tk.children;
        alike = alike2 p part T f.store c rest tk;
        brings = tk.brings;
        count = tk.brought.count;
        brought = tk.brought.are;
        created = tk.created;
        are_created = tk.are_created;
        keeps = tk.keeps;
        values_are = refl;
        fixed_are = refl;
        waits = waits;
        are_those = refl;
      }

  -- a node of a call leads to a Take of what the callee requires
  pub call-leads :
      (f : Frame) (l : Label) (x : Option ℕ) (n : ℕ) (args : List Linear) (b : Block)
      (ks : PlainTrees) →
      (k : Node p part T fn fixed (with_rest f (first l (call x n args) b))
      (running (first l (call x n args) b)) (node by_call ks)) →
      (P : List PlainGoal → Type 0) →
      Comes (rule p.program (goal k.state (running (first l (call x n args) b) k.home)) by_call
      (marks_of by_call)) P →
      (g : PlainFunction) × (slice_get p.program.functions n ≡ Some g)
      × P (goals_of (at_call k.state g args x)
      (to_take g.requires (length k.state.envs) 3 l.number
      ∷ after_call p program give take rests stable g (length k.state.envs) l k.home b))
  call-leads f l x n args b ks k P c =
      let s = k.state in
      let e = length s.envs in
      let takes = λ (g : PlainFunction) (s' : PlainState). leaves s'
      (to_take g.requires e 3 l.number
      ∷ after_call p program give take rests stable g e l k.home b) in
      let q = after-found (slice_get p.program.functions n)
      (λ g. called s g args x >>= takes g) P c in
      (q.0, q.1, (after-called s q.0 args x (takes q.0) P q.2).1)

  -- the frame behind the call, and with whatever result
  pub call-ok :
      (f : Frame) (l : Label) (x : Option ℕ) (n : ℕ) (args : List Linear) (b : Block) →
      FrameOk p.program fn fixed (with_rest f (first l (call x n args) b)) →
      FrameOk p.program fn fixed (with_rest f b)
      × ((r : ℤ) → FrameOk p.program fn fixed (receives x r (with_rest f b)))
  call-ok f l x n args b ok =
      let r0 = first l (call x n args) b in
      let ok1 = ok-rest p.program fn fixed (with_rest f r0) b ok
      (point-next p.program fn l (call x n args) b ok.point) in
      let act = point-act p.program fn l (call x n args) b ok.point in
      let here : FrameOk p.program fn fixed (with_rest f b) = same-ok (with_rest f b) (record {
        is_fn = ok1.is_fn;
        size = ok1.size;
        args = ok1.args;
        values = ok1.values;
        point = ok1.point;
      }) in
      (here, λ r. ok-put p.program fn fixed (with_rest f b) x r act.0 here)

  call-at :
      (f : Frame) (l : Label) (x : Option ℕ) (n : ℕ) (args : List Linear) (b : Block)
      (d : PlainTree) → FrameOk p.program fn fixed (with_rest f (first l (call x n args) b)) →
      (k : Node p part T fn fixed (with_rest f (first l (call x n args) b))
      (running (first l (call x n args) b)) d) →
      (g : PlainFunction) × (slice_get p.program.functions n ≡ Some g)
      × CallsAt p part T fixed (with_rest f b) g (map (value_in f.store) args) k.v k.state x n
  call-at f l x n args b (node (by_absurd u) ks) ok k =
      given-up p part T fn fixed (with_rest f (first l (call x n args) b))
      (λ h. to_run h (first l (call x n args) b)) u ks k
  call-at f l x n args b (node by_call ks) ok k =
      let r0 = first l (call x n args) b in
      let q = call-leads f l x n args b ks k (Children p.N ks) (p.step k.valid) in
      let act = point-act p.program fn l (call x n args) b ok.point in
      let c = caller f r0 (node by_call ks) k q.0 args
      (subst (λ o. IsSomeAnd o (λ g. length args ≡ g.params)) q.1 act.1.arity) x in
      let oks = call-ok f l x n args b ok in (
        q.0,
        q.1,
        call-from f r0 l n b c k.home (same-store f r0 (node by_call ks) k) q.1 oks.0 oks.1
            (take-here p program give take rests stable part T roomy f.store c
            (after_call p program give take rests stable q.0 (length k.state.envs) l k.home b)
            l.number n ks q.1 q.2),
      )
  call-at f l x n args b d ok k = absurd (p.step k.valid).1

  -- ---- forks

  -- by what is taken for the callee, the frame goes on; the variable for a result stays 0
  module _ (f : Frame) (r0 : Block) (l : Label) (n : ℕ) (b : Block) (c : Caller p part T f.store)
      (h : Home) (st : Store c.v c.s h fn fixed (with_rest f r0)) (none : c.x ≡ None)
      (ok : FrameOk p.program fn fixed (with_rest f b))
      (tk : TakenHere p part T f.store c (to_rest 0 l.number ∷ running b h)) where
    abbrev rest : List PlainTask
    rest = to_rest 0 l.number ∷ running b h

    pub rested :
        (U : Table) → Relies p.program tk.left.guards tk.U U →
        Rested p U
        (with_result p part T f.store c (to_rest 0 l.number ∷ running b h) tk (pos 0)) tk.left
        tk.after (running b h) tk.children
    rested U relies =
        let w = with_result p part T f.store c rest tk (pos 0) in
        rests tk.left tk.U U l.number (running b h) tk.children w tk.after
        (reached-left p program give take rests stable part T roomy f.store c rest tk U relies)
        tk.goes (grounded2 p part T f.store c rest tk (pos 0))
        (facts2 p part T f.store c rest tk (pos 0)) (firm2 p part T f.store c rest tk (pos 0))
        (backed2 p part T f.store c rest tk (pos 0))

    abbrev pub fork-from :
        ForksAt p part T fixed (with_rest f b) c.g (map (value_in f.store) c.args) c.v c.s
    fork-from =
        let rest : List PlainTask = to_rest 0 l.number ∷ running b h in
        let size = values-length fn.fixed fixed ok.values in
        let w = with_result p part T f.store c rest tk (pos 0) in
        let s = c.s in
        record {
          forks = record {
            kept = tk.left;
            given = tk.given;
            over = hands p program give take rests stable part T roomy f.store c rest tk;
            fixed = callee_fixed p part T f.store c rest tk;
            fit = fixed-fit (a1 p part T f.store c rest tk) (fixed_start c.g) c.g.fixed;
            meets = met-requires p part T f.store c rest tk;
            goes_on = record {
              fn = fn;
              ok = ok;
              all = λ U relies.
                  let rs = rested U relies in
                  let kid = one-child p.N rs.children rs.after (running b h) rs.goes in
                  let c0 = push-length s.sorts Int in
                  let c1 = tk.goes_on.count in
                  let since : Alike (Old s) c.v rs.w =
                  alike-trans (Old s) c.v w rs.w (alike4 p part T f.store c rest tk (pos 0))
                  (alike-less (Old s) (Old tk.after) w rs.w (λ y i. (omega (arith, i, c0, c1)))
                  (agree-alike (Old tk.after) w rs.w rs.agree)) in
                  record {
                    tree = kid.0;
                    at_node = record {
                      state = rs.after;
                      v = rs.w;
                      home = h;
                      valid = kid.1;
                      none_open = rs.goes_on.opened ∙ tk.goes_on.opened ∙ c.none_open;
                      grounded = rs.grounded;
                      facts = rs.facts;
                      firm = rs.firm;
                      backed = rs.backed;
                      store =
                          let later = store-received s rs.after c.v rs.w h fn fixed f r0 b None
                          (rs.w.whole (length s.sorts)) c.grounded.meets.store_over st size since
                          refl
                          (rs.goes_on.store
                          ∙ tk.goes_on.store
                          ∙ ap (λ y. put_at s.store y (fresh s)) none)
                          (λ y o q. rs.goes_on.sorts y o
                          (tk.goes_on.sorts y o (get-first s.sorts (Int ∷ []) y o q))) in
                          record {
                            home = later.home;
                            store = later.store;
                            fixed_are = later.fixed_are;
                            fixed_known = later.fixed_known;
                          };
                    };
                  };
            };
          };
          took = tk.w;
          after = tk.after;
          children = tk.children;
          alike = alike2 p part T f.store c rest tk;
          brings = tk.brings;
          count = tk.brought.count;
          brought = tk.brought.are;
          created = tk.created;
          are_created = tk.are_created;
          keeps = tk.keeps;
          values_are = refl;
          fixed_are = refl;
          named = λ U relies. (rested U relies).named;
        }

  -- a node of a fork leads to a Take of what the callee requires
  pub fork-leads :
      (f : Frame) (l : Label) (n : ℕ) (args : List Linear) (b : Block) (ks : PlainTrees) →
      (k : Node p part T fn fixed (with_rest f (first l (fork n args) b))
      (running (first l (fork n args) b)) (node by_fork ks)) →
      (P : List PlainGoal → Type 0) →
      Comes (rule p.program (goal k.state (running (first l (fork n args) b) k.home)) by_fork
      (marks_of by_fork)) P →
      (g : PlainFunction) × (slice_get p.program.functions n ≡ Some g)
      × P (goals_of (at_call k.state g args None)
      (to_take g.requires (length k.state.envs) 3 l.number
      ∷ to_rest 0 l.number ∷ running b k.home))
  fork-leads f l n args b ks k P c =
      let s = k.state in
      let takes = λ (g : PlainFunction) (s' : PlainState). leaves s'
      (to_take g.requires (length s.envs) 3 l.number ∷ to_rest 0 l.number ∷ running b k.home) in
      let q = after-found (slice_get p.program.functions n)
      (λ g. called s g args None >>= takes g) P c in
      (q.0, q.1, (after-called s q.0 args None (takes q.0) P q.2).1)

  pub fork-ok :
      (f : Frame) (l : Label) (n : ℕ) (args : List Linear) (b : Block) →
      FrameOk p.program fn fixed (with_rest f (first l (fork n args) b)) →
      FrameOk p.program fn fixed (with_rest f b)
  fork-ok f l n args b ok =
      let ok1 = ok-rest p.program fn fixed (with_rest f (first l (fork n args) b)) b ok
      (point-next p.program fn l (fork n args) b ok.point) in
      same-ok (with_rest f b) (record {
        is_fn = ok1.is_fn;
        size = ok1.size;
        args = ok1.args;
        values = ok1.values;
        point = ok1.point;
      })

  fork-at :
      (f : Frame) (l : Label) (n : ℕ) (args : List Linear) (b : Block) (d : PlainTree) →
      FrameOk p.program fn fixed (with_rest f (first l (fork n args) b)) →
      (k : Node p part T fn fixed (with_rest f (first l (fork n args) b))
      (running (first l (fork n args) b)) d) →
      (g : PlainFunction) × (slice_get p.program.functions n ≡ Some g)
      × ForksAt p part T fixed (with_rest f b) g (map (value_in f.store) args) k.v k.state
  fork-at f l n args b (node (by_absurd u) ks) ok k =
      given-up p part T fn fixed (with_rest f (first l (fork n args) b))
      (λ h. to_run h (first l (fork n args) b)) u ks k
  fork-at f l n args b (node by_fork ks) ok k =
      let r0 = first l (fork n args) b in
      let q = fork-leads f l n args b ks k (Children p.N ks) (p.step k.valid) in
      let act = point-act p.program fn l (fork n args) b ok.point in
      let c = caller f r0 (node by_fork ks) k q.0 args
      (subst (λ o. IsSomeAnd o (λ g. length args ≡ g.params)) q.1 act.arity) None in (
        q.0,
        q.1,
        fork-from f r0 l n b c k.home (same-store f r0 (node by_fork ks) k) refl
            (fork-ok f l n args b ok)
            (take-here p program give take rests stable part T roomy f.store c
            (to_rest 0 l.number ∷ running b k.home) l.number n ks q.1 q.2),
      )
  fork-at f l n args b d ok k = absurd (p.step k.valid).1

pub call-named :
    (p : Checked) → IsWellFormed p.program → GivenLaw p → TakenLaw p → RestsLaw p →
    Stable p.program → (part : Stock) (T : Table) (fn : PlainFunction) (fixed : List NameValue)
    (f : Frame) (l : Label) (b : Block) (x : Option ℕ) (n : ℕ) (args : List Linear) →
    Roomy p.program T part → (k : Before p part T fn fixed f l (call x n args) b) →
    (g : PlainFunction) × (slice_get p.program.functions n ≡ Some g)
    × CallsAt p part T fixed (with_rest f b) g (map (value_in f.store) args) k.sits.at_node.v
    k.sits.at_node.state x n
call-named p program give take rests stable part T fn fixed f l b x n args roomy k =
    call-at p program give take rests stable part T fn fixed roomy f l x n args b k.sits.tree k.ok
    k.sits.at_node

pub fork-named :
    (p : Checked) → IsWellFormed p.program → GivenLaw p → TakenLaw p → RestsLaw p →
    Stable p.program → (part : Stock) (T : Table) (fn : PlainFunction) (fixed : List NameValue)
    (f : Frame) (l : Label) (b : Block) (n : ℕ) (args : List Linear) →
    Roomy p.program T part → (k : Before p part T fn fixed f l (fork n args) b) →
    (g : PlainFunction) × (slice_get p.program.functions n ≡ Some g)
    × ForksAt p part T fixed (with_rest f b) g (map (value_in f.store) args) k.sits.at_node.v
    k.sits.at_node.state
fork-named p program give take rests stable part T fn fixed f l b n args roomy k =
    fork-at p program give take rests stable part T fn fixed roomy f l n args b k.sits.tree k.ok
    k.sits.at_node

pub call-law :
    (p : Checked) → IsWellFormed p.program → GivenLaw p → TakenLaw p → RestsLaw p →
    Stable p.program → CallLaw p
call-law p program give take rests stable part T fn fixed f l b x n args roomy k =
    let r = call-named p program give take rests stable part T fn fixed f l b x n args roomy k in
    (r.0, r.1, r.2.calls)

pub fork-law :
    (p : Checked) → IsWellFormed p.program → GivenLaw p → TakenLaw p → RestsLaw p →
    Stable p.program → ForkLaw p
fork-law p program give take rests stable part T fn fixed f l b n args roomy k =
    let r = fork-named p program give take rests stable part T fn fixed f l b n args roomy k in
    (r.0, r.1, r.2.forks)
