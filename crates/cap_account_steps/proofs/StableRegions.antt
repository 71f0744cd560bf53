-- What a region owns meets its interpretation also once others took steps.
use Rattle.cap_account_steps.proofs.OwnNames.{at-new}
use Rattle.std.proofs.Common.{◌≡◌, ℕ, suc, ◌+◌, ◌-◌, ◌<◌, ℤ, List, [], ◌∷◌, length, map, arith, refl, sym, ap, ◌∙◌, subst, Some, Bool, true, false}
use Rattle.std.specs.Prelude.{slice_get, unwrap_or, nat_le, ◌==◌, ◌&&◌}
use Rattle.std.specs.List.{AllByRecursion}
use Rattle.std.proofs.lemmas.Bool.Decides.{nat_tests}
use Rattle.cap_lin.specs.Linear.{Linear}
use Rattle.cap_lin.specs.Values.{Valuation, value}
use Rattle.cap_lin.specs.declared.row.Sort.TheVariants.{Int}
use Rattle.cap_prog.specs.Program.{PlainCase, PlainRegionType, PlainProgram}
use Rattle.cap_prog.specs.Scopes.{region_scope}
use Rattle.cap_prog.specs.WellFormed.{CaseFits, RegionFits}
use Rattle.cap_machine_accounts.specs.Assertions.{AreWhole}
use Rattle.cap_goal_spec.specs.Terms.{variables_from}
use Rattle.cap_goal_spec.specs.States.{PlainFact, PlainEnv, PlainState, to_close, to_shift, with_state}
use Rattle.cap_goal_spec.specs.Environments.{zero_value, term_of, region_env}
use Rattle.cap_goal_spec.specs.Choices.{PlainTree, node, PlainTrees, by_absurd, by_pick, by_shift}
use Rattle.cap_goal_spec.specs.Roots.{case_fact, case_state}
use Rattle.cap_rules.specs.Making.{env_at}
use Rattle.cap_rules.specs.Closing.{may_move, prove_move}
use Rattle.cap_account_states.proofs.Alike.{values-alike, Alike, alike-same, agree-alike, value-alike}
use Rattle.cap_account_resources.specs.Parts.{known_as, Table}
use Rattle.cap_account_resources.proofs.Lists.{within, get-map, get-or-push, push-length, map-length, all-at, all-more}
use Rattle.cap_account_resources.proofs.Stocks.{Stock}
use Rattle.cap_account_resources.proofs.Tables.{FitsRoom, fits-relied}
use Rattle.cap_account_states.specs.Nodes.{Comes, Open}
use Rattle.cap_account_states.proofs.Terms.{Over, vars-more}
use Rattle.cap_account_states.proofs.Attempts.{env_added}
use Rattle.cap_account_states.proofs.Meets.{Usable, usable-on, usable-old, Old, solves, variable-value}
use Rattle.cap_account_states.proofs.Brought.{Bring, Brings}
use Rattle.cap_account_states.proofs.Checked.{Checked}
use Rattle.cap_account_states.proofs.Scopes.{bound-first, variables-length}
use Rattle.cap_account_states.proofs.Naming.{Placed, values_in, values-mean}
use Rattle.cap_account_states.proofs.Values.{whole-of}
use Rattle.cap_account_states.proofs.Roots.{variables-values, variables-over}
use Rattle.cap_account_states.proofs.Backed.{IsOpened}
use Rattle.cap_account_assertions.proofs.Asserted.{OwnsRegion}
use Rattle.cap_account_assertions.proofs.Laws.{GivenLaw, Reached, RestsLaw}
use Rattle.cap_account_assertions.proofs.FreshRegions.{IsKnown}
use Rattle.cap_account_assertions.proofs.MadeRegions.{param-sort}
use Rattle.cap_account_assertions.proofs.CaseStarts.{state-at, known-envs}
use Rattle.cap_account_assertions.proofs.Creating.{one-tree}
use Rattle.cap_account_assertions.proofs.Passages.{Passage, end-of, end-before, end-brings}
use Rattle.cap_account_assertions.proofs.TakenStill.{Still, StillLaw, still-named}
use Rattle.cap_account_assertions.proofs.Again.{given-rested}
use Rattle.cap_account_steps.proofs.Worlds.{AllOver}
use Rattle.cap_account_steps.proofs.Moves.{Movable, movable-on, kept-says}
use Rattle.cap_account_steps.proofs.Shifting.{Picked, picked, none-other, closed_state, shifted}
use Rattle.cap_account_steps.proofs.Bundles.{StableRoots}
use Rattle.cap_account_steps.proofs.Regained.{Regained, given_region}
use Rattle.cap_account_steps.proofs.CaseRoots.{case-term, sort-known, case_root_values, case-means, case-at, case-backed}

-- ---- what an opened region's fact says

-- of this region, type, arguments and state
pub record Says (v : Valuation) (f : PlainFact) (n : ℤ) (k : ℕ) (args : List ℤ)
    (b : ℤ) : Type 0 where
  pub region_is : value v.whole f.region ≡ n
  pub kind_is : f.kind ≡ k
  pub args_are : map (value v.whole) f.args ≡ args
  pub state_is : value v.whole f.state ≡ b

pub says-alike :
    (P : ℕ → Type 0) (v w : Valuation) → Alike P v w → (f : PlainFact) → AllOver P f → (n : ℤ)
    (k : ℕ) (args : List ℤ) (b : ℤ) → Says v f n k args b → Says w f n k args b
says-alike P v w l f o n k args b h = record {
  region_is = value-alike P v w l f.region o.0 ∙ h.region_is;
  kind_is = h.kind_is;
  args_are = values-alike P v w l f.args o.1 ∙ h.args_are;
  state_is = value-alike P v w l f.state o.2 ∙ h.state_is;
}

pub says-known :
    (v : Valuation) (U : Table) (f : PlainFact) (n : ℤ) (k : ℕ) (args : List ℤ) (b : ℤ) →
    Says v f n k args b → U n ≡ Some (known_as k args (Some b)) →
    U (value v.whole f.region) ≡ Some (known_as f.kind (map (value v.whole) f.args) (Some b))
says-known v U f n k args b h e =
    ap U h.region_is ∙ e ∙ ap (λ x. Some (known_as x args (Some b))) (sym h.kind_is)
    ∙ ap (λ zs. Some (known_as f.kind zs (Some b))) (sym h.args_are)

-- the region and its arguments have their values by an environment where their terms stay
pub region-args :
    (w : Valuation) (f : PlainFact) (names env : PlainEnv) →
    ((x : ℕ) → x < suc (length f.args) → (t : Linear) → term_of (region_env f names) x ≡ Some t →
    term_of env x ≡ Some t) → AreWhole (values_in w env) 0 (map (value w.whole) (f.region ∷ f.args))
region-args w f names env stay =
    let ts = f.region ∷ f.args in
    let X = values_in w env in
    whole-of X 0 (map (value w.whole) ts) (λ i z q.
    let m = get-map (value w.whole) ts i z q in
    let low = within ts i m.0 m.1 in
    let at : 0 + i ≡ i = omega arith in
    ap X.whole at
    ∙ ap (λ o. value w.whole (unwrap_or o zero_value))
    (stay i low m.0 (bound-first ts names i low ∙ m.1)) ∙ m.2)

-- ---- the case's root

module _ (p : Checked) (y : PlainRegionType) (k : ℕ) (c : PlainCase) (a : Valuation) (n : ℤ)
    (args : List ℤ) (b : ℤ) (is : slice_get p.program.regions k ≡ Some y)
    (type_fits : RegionFits p.program y) (fits : CaseFits p.program y c)
    (arity : y.params ≡ suc (length args)) where
  abbrev s : PlainState
  s = case_state y k c

  abbrev v : Valuation
  v = case_root_values p.program y k c a fits

  fact-says :
      AreWhole a 0 (n ∷ args) → value a.whole c.state ≡ b → Says v (case_fact y k c) n k args b
  fact-says are state = record {
    region_is = variable-value v 0 ∙ are.0;
    kind_is = refl;
    args_are =
        (let size : y.params - 1 ≡ length args = omega (arith, arity) in
        ap (λ m. map (value v.whole) (variables_from 1 m)) size ∙ variables-values v 1 args are.1);
    state_is = state;
  }

  fact-movable : Movable p.program [] s (case_fact y k c) y
  fact-movable =
      let low : (i : ℕ) → i < y.params → Usable [] s.sorts Int i =
      λ i l. (sort-known y c.names Int i (param-sort y c.names i l), tt) in
      let some = type_fits.itself in
      record {
        over = (
          (low 0 some, tt),
          variables-over (Usable [] s.sorts Int) 1 (y.params - 1)
              (λ i x l. low i (omega (arith, l, some))),
          case-term y c.names Int c.state fits.state,
        );
        is_type = is;
        fits = type_fits;
        arity = (let size = variables-length 1 (y.params - 1) in omega (arith, size, some));
      }

-- ---- the region is closed as it was

may-stay : (m : ℕ) (k : PlainRegionType) → may_move false m k ≡ true → m ≡ 0
may-stay m k e =
    let q : (m == 0) ≡ true = second (nat_le m (length k.actions)) (m == 0) e in
    grind (arith, nat_tests, q)
  where
    second : (x z : Bool) → (x && z) ≡ true → z ≡ true
    second true z e = e
    second false z e = absurd (cc)

-- the region stays in this case, at all values that are alike before and of which the same is brought
record StaysInCase (p : PlainProgram) (U : Table) (h : Stock) (n : ℤ) (k : ℕ) (args : List ℤ)
    (b : ℤ) (w : Valuation) (s : PlainState) : Type 0 where
  number : ℕ
  brings : List Bring
  env : PlainEnv
  u : Valuation
  alike : Alike (Old s) w u
  brought : Brings u (length s.sorts) brings
  each :
      (x : Valuation) → Alike (Old s) w x → Brings x (length s.sorts) brings →
      (o : OwnsRegion p U n k args b h) × (o.number ≡ number) × (o.values ≡ values_in x env)

module _ (p : Checked) (still : StillLaw p) (U : Table) (h : Stock) (room : FitsRoom p.program U h)
    (n : ℤ) (k : ℕ) (args : List ℤ) (b : ℤ) (there : U n ≡ Some (known_as k args (Some b)))
    (w : Valuation) (s : PlainState) (known : IsKnown p.program [] U w s h) where
  -- the opened region's fact, and its type
  abbrev pub Told : PlainFact → Type 0
  Told f = Says w f n k args b × (y : PlainRegionType) × Movable p.program [] s f y

  -- rule `shift`, once the case is taken
  shifted-owns :
      (o cn m : ℕ) (kids : PlainTrees) (q : Picked p.program p.N [] s o cn m 0 false [] kids) →
      Says w q.f n k args b → m ≡ 0 →
      (t : Still p [] U (region_scope q.k q.x.names) (length s.envs) w h
      (env_added s (region_env q.f q.names)) q.x.items (to_shift o cn m (length s.envs) 0 ∷ [])) →
      (d : PlainTree) → p.N d t.after (to_shift o cn m (length s.envs) 0 ∷ []) →
      (r : OwnsRegion p.program U n k args b h) × (r.number ≡ cn)
      × (r.values ≡ values_in t.w (env_at t.after (length s.envs)))
  shifted-owns o cn m kids q says none t (node (by_absurd x) below) hd =
      absurd ((p.step hd).0.0 t.w (solves [] t.w t.after t.ready.grounded.meets))
  shifted-owns o cn m kids q says none t (node (by_shift cs spans) below) hd =
      let pp = p.program in
      let e = length s.envs in
      let start = env_added s (region_env q.f q.names) in
      let meets = t.ready.grounded.meets in
      let R = Usable [] s.sorts Int in
      let movable = movable-on pp [] [] s t.after q.f q.k
      (usable-on [] s.sorts t.after.sorts t.follows.goes_on.sorts Int) q.movable in
      let old = usable-old [] s.sorts Int in
      let over : AllOver (Old s) q.f = (
        vars-more R (Old s) old q.f.region.parts q.movable.over.0,
        all-more (Over R) (Over (Old s)) (λ u o. vars-more R (Old s) old u.parts o) q.f.args
            q.movable.over.1,
        vars-more R (Old s) old q.f.state.parts q.movable.over.2,
      ) in
      let now = says-alike (Old s) w t.w t.follows.alike q.f over n k args b says in
      let opened = ap (λ fs. slice_get fs o) t.follows.goes_on.opened ∙ q.is_opened in
      let sh = shifted pp p.N [] t.w t.after meets spans o cn m e [] below q.f q.k q.x opened q.is_case
      movable t.ready.placed
      (none-other [] t.w U t.after q.f (Some b) t.ready.facts
      (says-known t.w U q.f n k args b now there)) (p.step hd) in
      let env = env_at t.after e in
      let X = values_in t.w env in
      let mean = values-mean (region_scope q.k q.x.names) t.w env in
      let keeps = kept-says pp [] t.w t.after meets q.f q.k movable sh.new sh.over
      (λ u. Open p.N below (closed_state t.after o (with_state q.f sh.new)) []) spans
      (subst (λ i. Comes (prove_move q.k t.after q.f sh.new i spans)
      (λ u. Open p.N below (closed_state t.after o (with_state q.f sh.new)) [])) none sh.moves) in
      let size = map-length (value t.w.whole) q.f.args in
      let same = ap length now.args_are in
      let count = q.movable.arity in
      let first = at-new s (region_env q.f q.names) in (
        record {
          type = q.k;
          is_type = ap (slice_get pp.regions) (sym now.kind_is) ∙ q.movable.is_type;
          arity = omega (arith, size, same, count);
          number = cn;
          case = q.x;
          is_case = q.is_case;
          values = X;
          args_are =
              subst (λ zs. AreWhole X 0 (n ∷ zs)) now.args_are
              (subst (λ z. AreWhole X 0 (z ∷ map (value t.w.whole) q.f.args)) now.region_is
              (region-args t.w q.f q.names env (λ x l u g.
              t.follows.stays x Int (param-sort q.k q.x.names x (omega (arith, l, count))) u
              (ap (λ es. term_of es x) first ∙ g))));
          state_is = sym (sh.state_is X mean) ∙ keeps.0 ∙ now.state_is;
          conditions = sh.conditions X mean;
          met = t.met t.w (alike-same (Old t.after) t.w) X mean;
        },
        refl,
        refl,
      )
  shifted-owns o cn m kids q says none t d hd = absurd (p.step hd).1

  -- rule `pick`, and its case taken
  picked-owns :
      AllByRecursion Told s.opened → (d : PlainTree) → p.N d s (to_close false 0 ∷ []) →
      StaysInCase p.program U h n k args b w s
  picked-owns told (node (by_absurd x) kids) hd =
      absurd ((p.step hd).0.0 w (solves [] w s known.grounded.meets))
  picked-owns told (node (by_pick o cn m) kids) hd =
      let pp = p.program in
      let e = length s.envs in
      let q = picked pp p.N [] s o cn m 0 false [] kids
      (λ f i. let r = all-at Told s.opened o f told i in (r.1, r.2)) (p.step hd) in
      let says = (all-at Told s.opened o q.f told q.is_opened).0 in
      let env = region_env q.f q.names in
      let start = env_added s env in
      let sc = region_scope q.k q.x.names in
      let fits = all-at (CaseFits pp q.k) q.k.cases cn q.x q.movable.fits.cases q.is_case in
      let last : env_at start e ≡ env = get-or-push s.envs env [] in
      let size = push-length s.envs env in
      let tasks = to_shift o cn m e 0 ∷ [] in
      let now = known-envs pp [] U w s h start.envs known in
      let t = still [] U sc e 0 q.x.items tasks kids w start h q.goes
      (state-at pp [] U sc e w start h now (omega (arith, size))
      (subst (Placed [] sc s.sorts) (sym last) q.placed)) tt fits.items.items now.backed room in
      let d = one-tree p.N t.children t.after tasks t.goes in
      record {
        number = cn;
        brings = t.brings;
        env = env_at t.after e;
        u = t.w;
        alike = t.follows.alike;
        brought = t.brought.are;
        each = λ x l b.
            shifted-owns o cn m kids q says (may-stay m q.k q.may)
            (still-named p [] U sc e w h start q.x.items tasks t x l b) d.0 d.1;
      }
  picked-owns told d hd = absurd (p.step hd).1

-- ---- the law

pub region-stable :
    (p : Checked) → AllByRecursion (RegionFits p.program) p.program.regions → StableRoots p →
    GivenLaw p → RestsLaw p → StillLaw p → (T U : Table) (h : Stock) (n : ℤ) (k : ℕ)
    (args : List ℤ) (b : ℤ) → Reached p.program T U h → T n ≡ Some (known_as k args (Some b)) →
    U n ≡ Some (known_as k args (Some b)) → (o : OwnsRegion p.program T n k args b h) →
    (number : ℕ) × Regained U (given_region p.program T h n k args b o)
    ((m : OwnsRegion p.program U n k args b h) × (m.number ≡ number)) (λ m. m.0.values)
region-stable p regions roots gives rests still T U h n k args b reached before after i =
    let pp = p.program in
    let y = i.type in
    let c = i.case in
    let a = i.values in
    let type_fits = all-at (RegionFits pp) pp.regions k y regions i.is_type in
    let fits = all-at (CaseFits pp y) y.cases i.number c type_fits.cases i.is_case in
    let s = case_state y k c in
    let f = case_fact y k c in
    let v = case_root_values pp y k c a fits in
    let trees = roots.cases k y i.is_type i.number c i.is_case in
    let says = fact-says p y k c a n args b i.is_type type_fits fits i.arity i.args_are
    i.state_is in
    let is = fact-movable p y k c a n args b i.is_type type_fits fits i.arity in
    let g = given-rested p gives rests T U (region_scope y c.names) a v s h i.met.0 c.items
    (to_close false 0 ∷ []) trees.0 trees.1
    (case-at pp y k c a fits T (known_as k args (Some b)) type_fits.itself
    (ap T i.args_are.0 ∙ before) i.conditions) tt (case-means pp y k c a fits) fits.items.items
    i.met.1 (case-backed pp y k c a fits) reached in
    let R = Usable [] s.sorts Int in
    let old = usable-old [] s.sorts Int in
    let over : AllOver (Old s) f = (
      vars-more R (Old s) old f.region.parts is.over.0,
      all-more (Over R) (Over (Old s)) (λ u o. vars-more R (Old s) old u.parts o) f.args is.over.1,
      vars-more R (Old s) old f.state.parts is.over.2,
    ) in
    let later = says-alike (Old s) v g.w (agree-alike (Old s) v g.w g.agree) f over n k args b
    says in
    let now = movable-on pp [] [] s g.after f y
    (usable-on [] s.sorts g.after.sorts g.goes_on.sorts Int) is in
    let S = Usable [] g.after.sorts Int in
    let known : IsKnown pp [] U g.w g.after h = record {
      grounded = g.grounded;
      facts = g.facts;
      opened =
          subst (AllByRecursion (IsOpened S g.w U)) (sym g.goes_on.opened) (
            (
              now.over.0,
              known_as f.kind (map (value g.w.whole) f.args) (Some b),
              says-known g.w U f n k args b later after,
            ),
            tt,
          );
      backed = g.backed;
    } in
    let d = one-tree p.N g.children g.after (to_close false 0 ∷ []) g.goes in
    let r = picked-owns p still U h
    (fits-relied pp T U h reached.full reached.relies reached.room) n k args b after g.w g.after known
    (subst (AllByRecursion (Told p still U h
    (fits-relied pp T U h reached.full reached.relies reached.room) n k args b after g.w g.after
    known)) (sym g.goes_on.opened) ((later, y, now), tt)) d.0 d.1 in
    let start = given_region pp T h n k args b i in
    let passage : Passage = record {
      told = g.told;
      trees = g.trees;
      brings = r.brings;
      env = r.env;
    } in (
      r.number,
      record {
        passage = passage;
        u = r.u;
        ends = end-of U start passage g.after g.w g.named g.count r.u r.alike r.brought;
        each = λ x e.
            let o = r.each x (end-before U start passage g.after g.w g.named g.count x e)
            (end-brings U start passage g.after g.w g.named g.count x e) in
            ((o.0, o.1), o.2);
      },
    )
