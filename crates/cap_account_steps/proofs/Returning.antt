-- Returns and loop heads: all that the frame has is taken for what it owes.
use Rattle.std.proofs.Common.{◌≡◌, ℕ, ℤ, ◌+◌, ◌-◌, ◌<◌, List, [], ◌∷◌, length, take, drop, arith, refl, sym, ap, ◌∙◌, subst, Option, Some, None, ◌⊎◌, inl, inr}
use Rattle.std.specs.Prelude.{slice_get, unwrap_or}
use Rattle.std.specs.List.{AllByRecursion}
use Rattle.cap_lin.specs.Linear.{Linear, variable}
use Rattle.cap_lin.specs.Values.{Valuation, value}
use Rattle.cap_lin.specs.declared.row.Sort.{Sort}
use Rattle.cap_lin.specs.declared.row.Sort.TheVariants.{Int}
use Rattle.cap_prog.specs.declared.assertion.Comp.{Comp}
use Rattle.cap_prog.specs.Program.{PlainAssertion, PlainProgram, Items, Label, give_back, loop, Block, first, PlainFunction}
use Rattle.cap_prog.specs.Scopes.{Scope, fixed_start, result_name, ensures_scope, invariant_scope, HasSort}
use Rattle.cap_prog.specs.WellFormed.{IsWellFormed}
use Rattle.cap_goal_spec.specs.States.{PlainEnv, PlainState, Home, to_run, to_take, PlainGoal, goal, goals_of}
use Rattle.cap_goal_spec.specs.Environments.{term_of, bound, unbound, own_env}
use Rattle.cap_goal_spec.specs.Choices.{node, by_absurd, by_loop, by_return, PlainTree, PlainTrees}
use Rattle.cap_rules.specs.Answers.{marks_of}
use Rattle.cap_rules.specs.Attempts.{◌>>=◌}
use Rattle.cap_rules.specs.Making.{env_at, with_env, value_here}
use Rattle.cap_rules.specs.Rules.{leaves, own_params, rule}
use Rattle.cap_machine.specs.Machine.{Frame, value_in, with_rest}
use Rattle.cap_machine_accounts.specs.Assertions.{NameValue, AreWhole, AreNamed}
use Rattle.cap_account_states.proofs.Alike.{Alike, usable-alike, alike-same}
use Rattle.cap_account_resources.specs.Parts.{Table}
use Rattle.cap_account_resources.proofs.Lists.{some-same, none-some, within, get-map, map-length, all-at, all-more}
use Rattle.cap_account_resources.proofs.Monoid.{none, atom}
use Rattle.cap_account_resources.proofs.Monoid as monoid
use Rattle.cap_account_resources.proofs.Stocks.{Stock, no_stock, both, some-inside, inside-trans}
use Rattle.cap_account_resources.proofs.Tables.{new_guards}
use Rattle.cap_account_resources.proofs.Owners.{owned}
use Rattle.cap_account_states.specs.Nodes.{Comes, Children, Open}
use Rattle.cap_account_states.proofs.Terms.{Over}
use Rattle.cap_account_states.proofs.Attempts.{env_added, after-found, after-here, after-env}
use Rattle.cap_account_states.proofs.Meets.{Usable, Old, meets-env}
use Rattle.cap_account_states.proofs.Items.{AreFit}
use Rattle.cap_account_states.proofs.Naming.{Placed, Means, values_in}
use Rattle.cap_account_states.proofs.Checked.{Checked}
use Rattle.cap_account_states.proofs.Scopes.{Position, ensures-at, invariant-at, param-requires, fixed-requires, requires-ensures, result-ensures, store-invariant, fixed-invariant, own-param, own-local, own-fixed, own-result, rep-length, unbound-none, less_or}
use Rattle.cap_account_states.proofs.Values.{whole-of}
use Rattle.cap_account_states.proofs.Roots.{function-fits, flat-bound}
use Rattle.cap_account_states.proofs.Backed.{IsOpened}
use Rattle.cap_account_assertions.proofs.Asserted.{Owns, OwnsCase, OwnsEnsures, OwnsInvariant, owns-all}
use Rattle.cap_account_assertions.proofs.Coarser.{taken-named}
use Rattle.cap_account_assertions.proofs.Laws.{StateAt, KeepsCreated, Taken, TakenLaw}
use Rattle.cap_account_steps.proofs.Points.{FrameOk, point-act}
use Rattle.cap_account_steps.proofs.Stores.{running, here, here-value, here-over}
use Rattle.cap_account_steps.proofs.OwnNames.{take-get, get-take, get-drop, drop-length, take-length, canon, canon-means, at-new, there-new, own-placed, own-fixed-named, store-term-alike}
use Rattle.cap_account_steps.proofs.Frames.{Node, Roomy, HandsOver, GivesUpAt, gives_up}
use Rattle.cap_account_steps.proofs.Statements.{Before, ReturnLaw, LoopHeadLaw}
use Rattle.cap_account_steps.proofs.Local.{given-up}

-- ---- what is given up, by name

abbrev pub ReturnsAt :
    PlainProgram → Stock → Table → PlainFunction → List NameValue → Frame → ℤ → Valuation →
    PlainState → Type 0
ReturnsAt p part T fn fixed f r =
    GivesUpAt p part T (λ U given. OwnsEnsures p U given fn f.arguments fixed r)
    (λ U given m. m.values)

abbrev pub ComesRoundAt :
    PlainProgram → Stock → Table → PlainFunction → List NameValue → Frame → PlainAssertion →
    Valuation → PlainState → Type 0
ComesRoundAt p part T fn fixed f i =
    GivesUpAt p part T (λ U given. OwnsInvariant p U given fn f.store fixed i)
    (λ U given m. m.values)

module _ (p : Checked) (program : IsWellFormed p.program) (law : TakenLaw p) (part : Stock)
    (T : Table) (fn : PlainFunction) (fixed : List NameValue) (roomy : Roomy p.program T part) where
  -- a node's state with an environment more
  abbrev NodeAt : Frame → PlainTree → Type 0
  NodeAt f d = Node p part T fn fixed f (running f.rest) d

  with-own-names :
      (f : Frame) (d : PlainTree) (n : NodeAt f d) (sc : Scope) (env : PlainEnv) →
      Placed [] sc n.state.sorts env →
      StateAt p.program [] T sc (length n.state.envs) n.v (env_added n.state env)
  with-own-names f d n sc env placed = record {
    grounded = record {
      meets = meets-env [] n.v n.state (env_added n.state env).envs n.grounded.meets;
      pieces_over = n.grounded.pieces_over;
      pieces_fit = n.grounded.pieces_fit;
    };
    facts = record {
      holds = n.facts.holds;
      over = n.facts.over;
      loose = n.facts.loose;
      differ = n.facts.differ;
    };
    opened = subst (AllByRecursion (IsOpened (Usable [] n.state.sorts Int) n.v T))
        (sym n.none_open) tt;
    there = there-new n.state env;
    placed = subst (Placed [] sc n.state.sorts) (sym (at-new n.state env)) placed;
  }

  -- what is taken for the items, with nothing kept
  abbrev TakenOf :
      (f : Frame) (d : PlainTree) → NodeAt f d → Scope → PlainEnv → Items → Type 0
  TakenOf f d n sc env items =
      Taken p [] T sc (length n.state.envs) 3 n.v part (env_added n.state env) items []

  take-all-of :
      (f : Frame) (d : PlainTree) (n : NodeAt f d) (sc : Scope) (env : PlainEnv) (items : Items)
      (number : ℕ) (ks : PlainTrees) → Placed [] sc n.state.sorts env → AreFit p.program sc items →
      Open p.N ks (env_added n.state env) (to_take items (length n.state.envs) 3 number ∷ []) →
      TakenOf f d n sc env items
  take-all-of f d n sc env items number ks placed fits go =
      law [] T sc (length n.state.envs) 3 number items [] ks n.v (env_added n.state env) part
      roomy.bound go (with-own-names f d n sc env placed) tt fits
      (record { cells = n.backed.cells; guards = n.backed.guards }) roomy.room roomy.listed

  abbrev over-of :
      (f : Frame) (d : PlainTree) (n : NodeAt f d) (sc : Scope) (env : PlainEnv) (items : Items) →
      (tk : TakenOf f d n sc env items) → HandsOver p.program T part no_stock tk.given
  over-of f d n sc env items tk = record {
    U = tk.U;
    new = tk.new;
    made = tk.made;
    budget =
        let rest = owned p.program tk.new in
        let given = both p.program (both p.program no_stock tk.given) rest in
        let all = both p.program (both p.program tk.left tk.given) rest in
        inside-trans p.program given all
        (both p.program part (new_guards p.program T tk.U))
        (some-inside p.program (tk.left ∷ tk.given ∷ rest ∷ [])
        (monoid.both (monoid.both none (atom 1)) (atom 2))
        (monoid.both (monoid.both (atom 0) (atom 1)) (atom 2)) (0 ∷ []) refl)
        tk.budget;
  }

  -- names that are bound stay so
  stays-bound :
      (f : Frame) (d : PlainTree) (n : NodeAt f d) (sc : Scope) (env : PlainEnv) (items : Items)
      (tk : TakenOf f d n sc env items) (x : ℕ) (o : Sort) (t : Linear) → HasSort sc o x →
      term_of env x ≡ Some t → term_of (env_at tk.after (length n.state.envs)) x ≡ Some t
  stays-bound f d n sc env items tk x o t i e =
      tk.stays x o i t (ap (λ z. term_of z x) (at-new n.state env) ∙ e)

  store-size : (f : Frame) (d : PlainTree) (n : NodeAt f d) → FrameOk p.program fn fixed f →
      length n.state.store ≡ fixed_start fn
  store-size f d n ok =
      sym (map-length (value n.v.whole) n.state.store) ∙ ap length n.store.store ∙ ok.size

  same-function :
      (f : Frame) (h : Home) (g : PlainFunction) → FrameOk p.program fn fixed f →
      h.function ≡ f.function → slice_get p.program.functions h.function ≡ Some g → g ≡ fn
  same-function f h g ok e q =
      some-same g fn (sym q ∙ ap (slice_get p.program.functions) e ∙ ok.is_fn)

  -- ---- the frame's own names

  -- in its environment with these locals and this result, once items were taken
  module _ (f : Frame) (r0 : Block) (d : PlainTree)
      (ok : FrameOk p.program fn fixed (with_rest f r0))
      (n : Node p part T fn fixed (with_rest f r0) (running r0) d) (sc : Scope) (locals : PlainEnv)
      (hl : length locals ≡ fn.locals) (result : Option Linear) (names : List Sort)
      (items : Items) where
    abbrev params : List Linear
    params = take fn.params n.state.store

    abbrev env : PlainEnv
    env = own_env fn n.home (take fn.params n.state.store) locals result (length names)

    size : length n.state.store ≡ fixed_start fn
    size = store-size (with_rest f r0) d n ok

    hp : length (take fn.params n.state.store) ≡ fn.params
    hp = take-length n.state.store fn.params fn.locals size

    placed-own :
        ((i : ℕ) (t : Linear) → unwrap_or (slice_get locals i) None ≡ Some t →
        Over (Usable [] n.state.sorts Int) t) →
        ((t : Linear) → result ≡ Some t → Over (Usable [] n.state.sorts Int) t) →
        ((x : ℕ) (o : Sort) → HasSort sc o x → Position fn names x o) →
        Placed [] sc n.state.sorts env
    placed-own fl fr at =
        own-placed n.state n.v fn n.home fixed (with_rest f r0) locals result names sc
        n.grounded.meets (record {
          home = n.store.home;
          store = n.store.store;
          fixed_are = n.store.fixed_are;
          fixed_known = n.store.fixed_known;
        }) size hl fl fr at

    module _ (tk : TakenOf (with_rest f r0) d n sc env items) (x a : Valuation)
        (near : Alike (Old n.state) n.v x)
        (m : Means sc x (env_at tk.after (length n.state.envs)) a) where
      stays-own :
          (i : ℕ) (o : Sort) (t : Linear) → HasSort sc o i → term_of env i ≡ Some t →
          term_of (env_at tk.after (length n.state.envs)) i ≡ Some t
      stays-own i o t k e = stays-bound (with_rest f r0) d n sc env items tk i o t k e

      -- a name that stands for a term of the store has its value
      from-store :
          (i : ℕ) (z : ℤ) (t : Linear) → HasSort sc Int i → term_of env i ≡ Some t →
          slice_get n.state.store i ≡ Some t → value n.v.whole t ≡ z → a.whole (0 + i) ≡ z
      from-store i z t k e at is =
          let same : 0 + i ≡ i = omega arith in
          ap a.whole same
          ∙ sym (m.whole i k t (stays-own i Int t k e))
          ∙ store-term-alike n.state n.v x i t n.grounded.meets near at
          ∙ is

      pub args-named : ((i : ℕ) → i < fn.params → HasSort sc Int i) → AreWhole a 0 f.arguments
      args-named has = whole-of a 0 f.arguments (λ i z j.
          let arg = take-get f.store fn.params i z (ap (λ zs. slice_get zs i) ok.args ∙ j) in
          let term = get-map (value n.v.whole) n.state.store i z
          (ap (λ zs. slice_get zs i) n.store.store ∙ arg.0) in
          from-store i z term.0 (has i arg.1)
          (own-param fn n.home params locals result (length names) hp hl i arg.1
          ∙ get-take n.state.store fn.params i term.0 arg.1 term.1)
          term.1 term.2)

      pub fixed-named :
          ((i : ℕ) (o : Sort) → slice_get fn.fixed i ≡ Some o →
          HasSort sc o (fixed_start fn + i)) → AreNamed a (fixed_start fn) fixed
      fixed-named has =
          own-fixed-named sc n.state n.v x a n.home fn fixed (with_rest f r0)
          (env_at tk.after (length n.state.envs)) n.store near m ok.values has (λ i o j.
          stays-own (fixed_start fn + i) o (variable (n.home.fixed + i)) (has i o j)
          (own-fixed fn n.home params locals result (length names) hp hl i
          (within fn.fixed i o j)))

  -- what is taken is given up, at whichever values the same is brought
  module _ (f : Frame) (d : PlainTree) (n : NodeAt f d) (sc : Scope) (env : PlainEnv)
      (items : Items) (tk : TakenOf f d n sc env items) (M : Table → Stock → Type 0)
      (values : (U : Table) (q : Stock) → M U q → Valuation)
      (owns :
      (x a : Valuation) → Alike (Old n.state) n.v x →
      Means sc x (env_at tk.after (length n.state.envs)) a → Owns p.program tk.U tk.given a items →
      (m : M tk.U tk.given) × (values tk.U tk.given m ≡ a)) where
    abbrev gives-up-so : GivesUpAt p.program part T M values n.v n.state
    gives-up-so =
        let e = length n.state.envs in
        let named = taken-named p [] T sc e 3 n.v part (env_added n.state env) items [] tk in
        let later = env_at tk.after e in
        record {
          given = tk.given;
          over = over-of f d n sc env items tk;
          brings = tk.brings;
          env = later;
          took = tk.w;
          alike = tk.alike;
          brought = tk.brought.are;
          each = λ x near brought.
              owns x (canon x later) near (canon-means sc x later)
              (owns-all p.program tk.U (canon x later) items tk.given
              ((named x near brought).draws x (alike-same (Old tk.after) x) (canon x later)
              (canon-means sc x later) no_stock));
          created = tk.created;
          are_created = tk.are_created;
          keeps = λ x near brought.
              all-more (KeepsCreated p.program tk.U (Old tk.after) x)
              (λ c. OwnsCase p.program tk.U c.owner c.number (values_in x c.env))
              (λ c k. k x (alike-same (Old tk.after) x)) tk.created (named x near brought).keeps;
        }

  -- ---- returns

  abbrev pub return_env : PlainState → Home → Linear → PlainEnv
  return_env s h t =
      own_env fn h (take fn.params s.store) (unbound fn.locals) (Some (here s t))
      (length fn.ensures.names)

  module _ (f : Frame) (r0 : Block) (t : Linear) (d : PlainTree)
      (ok : FrameOk p.program fn fixed (with_rest f r0))
      (n : Node p part T fn fixed (with_rest f r0) (running r0) d) where
    abbrev result_sc : Scope
    result_sc = ensures_scope fn fn.ensures.names

    pub none-bound : length (unbound fn.locals) ≡ fn.locals
    none-bound = rep-length fn.locals None

    pub return-placed :
        Placed [] (ensures_scope fn fn.ensures.names) n.state.sorts (return_env n.state n.home t)
    return-placed =
        placed-own f r0 d ok n result_sc (unbound fn.locals) none-bound (Some (here n.state t))
        fn.ensures.names fn.ensures.items
        (λ i y e. absurd (none-some (sym (unbound-none fn.locals i) ∙ e)))
        (λ y e. subst (Over (Usable [] n.state.sorts Int)) (some-same (here n.state t) y e)
        (here-over [] n.v n.state t n.grounded.meets)) (ensures-at fn fn.ensures.names)

    -- what is taken for what the function ensures
    abbrev pub ReturnTaken : Type 0
    ReturnTaken =
        Taken p [] T (ensures_scope fn fn.ensures.names) (length n.state.envs) 3 n.v part
        (env_added n.state (return_env n.state n.home t)) fn.ensures.items []

    module _ (tk : Taken p [] T (ensures_scope fn fn.ensures.names) (length n.state.envs) 3 n.v
        part (env_added n.state (return_env n.state n.home t)) fn.ensures.items []) where
      pub result-named :
          (x a : Valuation) → Alike (Old n.state) n.v x →
          Means (ensures_scope fn fn.ensures.names) x (env_at tk.after (length n.state.envs)) a →
          a.whole (result_name fn) ≡ value_in f.store t
      result-named x a near m =
          let names = fn.ensures.names in
          let u = here n.state t in
          let none = unbound fn.locals in
          sym (m.whole (result_name fn) (result-ensures fn names) u
          (stays-own f r0 d ok n result_sc none none-bound (Some u) names fn.ensures.items tk x a near
          m (result_name fn) Int u (result-ensures fn names)
          (own-result fn n.home (take fn.params n.state.store) none (Some u) (length names)
          (hp f r0 d ok n result_sc none none-bound (Some u) names fn.ensures.items) none-bound)))
          ∙ usable-alike [] n.state n.v x near u (here-over [] n.v n.state t n.grounded.meets)
          ∙ here-value n.v n.state f.store t n.store.store

      -- what is given is what the function ensures, at whichever values the names have then
      abbrev pub return-owns :
          (x a : Valuation) → Alike (Old n.state) n.v x →
          Means (ensures_scope fn fn.ensures.names) x (env_at tk.after (length n.state.envs)) a →
          Owns p.program tk.U tk.given a fn.ensures.items →
          OwnsEnsures p.program tk.U tk.given fn f.arguments fixed (value_in f.store t)
      return-owns x a near m owns =
          let names = fn.ensures.names in
          let early = requires-ensures fn names in
          let u = here n.state t in
          record {
            values = a;
            args_are =
                args-named f r0 d ok n (ensures_scope fn fn.ensures.names) (unbound fn.locals)
                none-bound (Some u) names fn.ensures.items tk x a near m
                (λ i l. early i Int (param-requires fn i l));
            fixed_are =
                fixed-named f r0 d ok n (ensures_scope fn fn.ensures.names) (unbound fn.locals)
                none-bound (Some u) names fn.ensures.items tk x a near m
                (λ i o j. early (fixed_start fn + i) o (fixed-requires fn i o j));
            result_is = result-named x a near m;
            met = owns;
          }

      -- by what was taken, the frame returns
      abbrev pub return-from :
          ReturnsAt p.program part T fn fixed f (value_in f.store t) n.v n.state
      return-from =
          gives-up-so (with_rest f r0) d n (ensures_scope fn fn.ensures.names)
          (return_env n.state n.home t) fn.ensures.items tk
          (λ U given. OwnsEnsures p.program U given fn f.arguments fixed (value_in f.store t))
          (λ U given m. m.values) (λ x a near m owns. (return-owns x a near m owns, refl))

  -- the node leads to a Take of what the function ensures
  pub return-leads :
      (f : Frame) (l : Label) (t : Linear) (b : Block) (ks : PlainTrees) →
      FrameOk p.program fn fixed (with_rest f (first l (give_back t) b)) →
      (n : NodeAt (with_rest f (first l (give_back t) b)) (node by_return ks)) →
      (P : List PlainGoal → Type 0) →
      Comes (rule p.program (goal n.state (running (first l (give_back t) b) n.home)) by_return
      (marks_of by_return)) P →
      P (goals_of (env_added n.state (return_env n.state n.home t))
      (to_take fn.ensures.items (length n.state.envs) 3 l.number ∷ []))
  return-leads f l t b ks ok n P c =
      let s = n.state in
      let h = n.home in
      let names = fn.ensures.names in
      let ends = λ (g : PlainFunction) (s' : PlainState). leaves s'
      (to_take g.ensures.items (length s.envs) 3 l.number ∷ []) in
      let rest = λ (g : PlainFunction). value_here s t >>= λ u. with_env s
      (own_env g h (own_params s g) (unbound g.locals) (Some u)
      (length g.ensures.names)) >>= ends g in
      let q = after-found (slice_get p.program.functions h.function) rest P c in
      let own : Comes (rest fn) P =
      subst (λ g. Comes (rest g) P)
      (same-function (with_rest f (first l (give_back t) b)) h q.0 ok n.store.home q.1) q.2 in
      let named = after-here s t
      (λ u. with_env s
      (own_env fn h (own_params s fn) (unbound fn.locals) (Some u) (length names)) >>= ends fn) P
      own in
      (after-env s (return_env s h t) (ends fn) P named).1

  return-at :
      (f : Frame) (l : Label) (t : Linear) (b : Block) (d : PlainTree) →
      FrameOk p.program fn fixed (with_rest f (first l (give_back t) b)) →
      (n : NodeAt (with_rest f (first l (give_back t) b)) d) →
      ReturnsAt p.program part T fn fixed f (value_in f.store t) n.v n.state
  return-at f l t b (node (by_absurd c) ks) ok n =
      given-up p part T fn fixed (with_rest f (first l (give_back t) b))
      (λ h. to_run h (first l (give_back t) b)) c ks n
  return-at f l t b (node by_return ks) ok n =
      let r0 = first l (give_back t) b in
      let d = node by_return ks in
      return-from f r0 t d ok n
      (take-all-of (with_rest f r0) d n (ensures_scope fn fn.ensures.names)
      (return_env n.state n.home t) fn.ensures.items l.number ks (return-placed f r0 t d ok n)
      (function-fits p.program program f.function fn ok.is_fn).ensures.items.items
      (return-leads f l t b ks ok n (Children p.N ks) (p.step n.valid)))
  return-at f l t b d ok n = absurd (p.step n.valid).1

  -- ---- loop heads

  before-or-behind : (a b : ℕ) → (a < b) ⊎ ((n : ℕ) × (a ≡ b + n))
  before-or-behind a b =
      elim (less_or a b) [ inl l ↦ inl l | inr l ↦ inr (a - b, omega (arith, l)) ]

  abbrev pub head_env : PlainState → Home → PlainAssertion → PlainEnv
  head_env s h inv =
      own_env fn h (take fn.params s.store) (bound (drop fn.params s.store)) None (length inv.names)

  module _ (f : Frame) (r0 : Block) (inv : PlainAssertion) (d : PlainTree)
      (ok : FrameOk p.program fn fixed (with_rest f r0))
      (n : Node p part T fn fixed (with_rest f r0) (running r0) d) where
    abbrev loop_sc : Scope
    loop_sc = invariant_scope fn inv.names

    abbrev all_locals : PlainEnv
    all_locals = bound (drop fn.params n.state.store)

    pub all-bound : length (bound (drop fn.params n.state.store)) ≡ fn.locals
    all-bound =
        map-length Some (drop fn.params n.state.store)
        ∙ drop-length n.state.store fn.params fn.locals (store-size (with_rest f r0) d n ok)

    pub head-placed :
        Placed [] (invariant_scope fn inv.names) n.state.sorts (head_env n.state n.home inv)
    head-placed =
        let store = n.state.store in
        placed-own f r0 d ok n loop_sc all_locals all-bound None inv.names inv.items
        (λ i t j. all-at (Over (Usable [] n.state.sorts Int)) store (fn.params + i) t
        n.grounded.meets.store_over
        (sym (get-drop store fn.params i) ∙ sym (flat-bound (drop fn.params store) i) ∙ j))
        (λ y j. absurd (none-some j)) (invariant-at fn inv.names)

    -- what is taken for the invariant
    abbrev pub HeadTaken : Type 0
    HeadTaken =
        Taken p [] T (invariant_scope fn inv.names) (length n.state.envs) 3 n.v part
        (env_added n.state (head_env n.state n.home inv)) inv.items []

    -- the whole store is bound
    store-bound :
        (i : ℕ) (t : Linear) → slice_get n.state.store i ≡ Some t →
        term_of (head_env n.state n.home inv) i ≡ Some t
    store-bound i t e =
        let store = n.state.store in
        let params = take fn.params store in
        let count = length inv.names in
        let len = within store i t e in
        let size = store-size (with_rest f r0) d n ok in
        let hp = take-length store fn.params fn.locals size in
        elim (before-or-behind i fn.params) [
          | inl low ↦
              own-param fn n.home params all_locals None count hp all-bound i low
              ∙ get-take store fn.params i t low e
          | inr g ↦
              let y : i ≡ fn.params + g.0 = g.1 in
              ap (term_of (head_env n.state n.home inv)) y
              ∙ own-local fn n.home params all_locals None count hp all-bound g.0
              (omega (arith, len, size, y))
              ∙ flat-bound (drop fn.params store) g.0
              ∙ get-drop store fn.params g.0
              ∙ ap (slice_get store) (sym y)
              ∙ e
        ]

    module _ (tk : Taken p [] T (invariant_scope fn inv.names) (length n.state.envs) 3 n.v part
        (env_added n.state (head_env n.state n.home inv)) inv.items []) where
      pub store-named :
          (x a : Valuation) → Alike (Old n.state) n.v x →
          Means (invariant_scope fn inv.names) x (env_at tk.after (length n.state.envs)) a →
          AreWhole a 0 f.store
      store-named x a near m = whole-of a 0 f.store (λ i z j.
          let term = get-map (value n.v.whole) n.state.store i z
          (ap (λ zs. slice_get zs i) n.store.store ∙ j) in
          let len = within n.state.store i term.0 term.1 in
          let size = store-size (with_rest f r0) d n ok in
          from-store f r0 d ok n loop_sc all_locals all-bound None inv.names inv.items tk x a near m i z
          term.0 (store-invariant fn inv.names i (omega (arith, len, size)))
          (store-bound i term.0 term.1) term.1 term.2)

      -- what is given is the invariant, at whichever values the names have then
      abbrev pub head-owns :
          (x a : Valuation) → Alike (Old n.state) n.v x →
          Means (invariant_scope fn inv.names) x (env_at tk.after (length n.state.envs)) a →
          Owns p.program tk.U tk.given a inv.items →
          OwnsInvariant p.program tk.U tk.given fn f.store fixed inv
      head-owns x a near m owns = record {
        values = a;
        store_is = store-named x a near m;
        fixed_are =
            fixed-named f r0 d ok n (invariant_scope fn inv.names)
            (bound (drop fn.params n.state.store)) all-bound None inv.names inv.items tk x a near m
            (λ i o j. fixed-invariant fn inv.names i o j);
        met = owns;
      }

      -- by what was taken, the frame comes to the loop
      abbrev pub head-from : ComesRoundAt p.program part T fn fixed f inv n.v n.state
      head-from =
          gives-up-so (with_rest f r0) d n (invariant_scope fn inv.names)
          (head_env n.state n.home inv) inv.items tk
          (λ U given. OwnsInvariant p.program U given fn f.store fixed inv)
          (λ U given m. m.values) (λ x a near m owns. (head-owns x a near m owns, refl))

  -- the node leads to a Take of the invariant
  pub head-leads :
      (f : Frame) (l : Label) (c : Comp) (inv : PlainAssertion) (body b : Block) (ks : PlainTrees) →
      FrameOk p.program fn fixed (with_rest f (first l (loop c inv body) b)) →
      (n : NodeAt (with_rest f (first l (loop c inv body) b)) (node by_loop ks)) →
      (P : List PlainGoal → Type 0) →
      Comes (rule p.program (goal n.state (running (first l (loop c inv body) b) n.home)) by_loop
      (marks_of by_loop)) P →
      P (goals_of (env_added n.state (head_env n.state n.home inv))
      (to_take inv.items (length n.state.envs) 3 l.number ∷ []))
  head-leads f l c inv body b ks ok n P k =
      let s = n.state in
      let h = n.home in
      let ends = λ (s' : PlainState). leaves s'
      (to_take inv.items (length s.envs) 3 l.number ∷ []) in
      let rest = λ (g : PlainFunction). with_env s
      (own_env g h (own_params s g) (bound (drop g.params s.store)) None
      (length inv.names)) >>= ends in
      let q = after-found (slice_get p.program.functions h.function) rest P k in
      let own : Comes (rest fn) P =
      subst (λ g. Comes (rest g) P)
      (same-function (with_rest f (first l (loop c inv body) b)) h q.0 ok n.store.home q.1) q.2 in
      (after-env s (head_env s h inv) ends P own).1

  head-at :
      (f : Frame) (l : Label) (c : Comp) (inv : PlainAssertion) (body b : Block) (d : PlainTree) →
      FrameOk p.program fn fixed (with_rest f (first l (loop c inv body) b)) →
      (n : NodeAt (with_rest f (first l (loop c inv body) b)) d) →
      ComesRoundAt p.program part T fn fixed f inv n.v n.state
  head-at f l c inv body b (node (by_absurd u) ks) ok n =
      given-up p part T fn fixed (with_rest f (first l (loop c inv body) b))
      (λ h. to_run h (first l (loop c inv body) b)) u ks n
  head-at f l c inv body b (node by_loop ks) ok n =
      let r0 = first l (loop c inv body) b in
      let d = node by_loop ks in
      head-from f r0 inv d ok n
      (take-all-of (with_rest f r0) d n (invariant_scope fn inv.names) (head_env n.state n.home inv)
      inv.items l.number ks (head-placed f r0 inv d ok n)
      (point-act p.program fn l (loop c inv body) b ok.point).1.items.items
      (head-leads f l c inv body b ks ok n (Children p.N ks) (p.step n.valid)))
  head-at f l c inv body b d ok n = absurd (p.step n.valid).1

-- ---- the laws

pub return-named :
    (p : Checked) → IsWellFormed p.program → TakenLaw p → (part : Stock) (T : Table)
    (fn : PlainFunction) (fixed : List NameValue) (f : Frame) (l : Label) (b : Block)
    (t : Linear) → Roomy p.program T part → (k : Before p part T fn fixed f l (give_back t) b) →
    ReturnsAt p.program part T fn fixed f (value_in f.store t) k.sits.at_node.v k.sits.at_node.state
return-named p program law part T fn fixed f l b t roomy k =
    return-at p program law part T fn fixed roomy f l t b k.sits.tree k.ok k.sits.at_node

pub loop-head-named :
    (p : Checked) → IsWellFormed p.program → TakenLaw p → (part : Stock) (T : Table)
    (fn : PlainFunction) (fixed : List NameValue) (f : Frame) (l : Label) (b : Block) (c : Comp)
    (i : PlainAssertion) (x : Block) → Roomy p.program T part →
    (k : Before p part T fn fixed f l (loop c i x) b) →
    ComesRoundAt p.program part T fn fixed f i k.sits.at_node.v k.sits.at_node.state
loop-head-named p program law part T fn fixed f l b c i x roomy k =
    head-at p program law part T fn fixed roomy f l c i x b k.sits.tree k.ok k.sits.at_node

pub return-law : (p : Checked) → IsWellFormed p.program → TakenLaw p → ReturnLaw p
return-law p program law part T fn fixed f l b t roomy k =
    gives_up _ _ _ _ _ _ _ (return-named p program law part T fn fixed f l b t roomy k)

pub loop-head-law : (p : Checked) → IsWellFormed p.program → TakenLaw p → LoopHeadLaw p
loop-head-law p program law part T fn fixed f l b c i x roomy k =
    gives_up _ _ _ _ _ _ _ (loop-head-named p program law part T fn fixed f l b c i x roomy k)
