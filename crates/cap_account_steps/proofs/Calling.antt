-- Calls and forks: a callee's `requires` is handed out, and a caller waits for its `ensures`.
use Rattle.cap_account_resources.proofs.Tables.{fits-composes, FitsRoom, fits-less, fits-relied}
use Rattle.std.proofs.Common.{◌≡◌, ℕ, ◌+◌, ◌*◌, ◌<◌, ℤ, pos, ◌*ℤ◌, List, [], ◌∷◌, length, map, arith, refl, sym, ap, ◌∙◌, subst, Option, Some, None}
use Rattle.std.specs.Prelude.{slice_get, get_or}
use Rattle.std.specs.List.{AllByRecursion}
use Rattle.cap_lin.specs.Values.{Valuation, value}
use Rattle.cap_lin.specs.declared.row.Sort.{Sort}
use Rattle.cap_lin.specs.declared.row.Sort.TheVariants.{Int}
use Rattle.cap_prog.specs.Program.{Label, Block, PlainFunction}
use Rattle.cap_prog.specs.Scopes.{fixed_start, requires_scope, ensures_scope}
use Rattle.cap_prog.specs.WellFormed.{IsWellFormed}
use Rattle.cap_goal_spec.specs.States.{PlainState, Home, PlainTask, to_take, to_give, to_rest}
use Rattle.cap_goal_spec.specs.Choices.{PlainTrees}
use Rattle.cap_rules.specs.Making.{fresh, env_at}
use Rattle.cap_machine.specs.Machine.{Frame, value_in, with_rest, receives}
use Rattle.cap_machine_accounts.specs.Assertions.{NameValue, ValuesFit}
use Rattle.cap_account_states.proofs.Alike.{values-alike, Alike, InScope, meets-alike, alike-back, alike-trans, alike-less, agree-alike, scaled-alike}
use Rattle.cap_account_resources.specs.Parts.{Table}
use Rattle.cap_account_resources.proofs.Interference.{Relies, relies-trans, relies-less}
use Rattle.cap_account_resources.proofs.Lists.{some-same, map-length, get-first, push-length, all-more}
use Rattle.cap_account_resources.proofs.Stocks.{Stock, both, inside-first, inside-second, inside-guards}
use Rattle.cap_account_states.specs.Nodes.{Open}
use Rattle.cap_account_states.proofs.Terms.{Over, vars-more, Agree}
use Rattle.cap_account_states.proofs.Meets.{Usable, usable-old, Old, variable-value}
use Rattle.cap_account_states.proofs.Checked.{Checked, one-child}
use Rattle.cap_account_states.proofs.Filled.{Filled, filled_at}
use Rattle.cap_account_states.proofs.Items.{AreFit}
use Rattle.cap_account_states.proofs.Naming.{Placed, Means, means-on, placed-more}
use Rattle.cap_account_states.proofs.Roots.{function-fits}
use Rattle.cap_account_states.proofs.Values.{scaled}
use Rattle.cap_account_states.proofs.Wants.{scaled-finer}
use Rattle.cap_account_states.proofs.Backed.{IsOpened}
use Rattle.cap_account_assertions.proofs.Asserted.{DrawsAll, OwnsEnsures}
use Rattle.cap_account_assertions.proofs.Filling.{fill_items}
use Rattle.cap_account_assertions.proofs.FilledAlike.{FilledLike, items-alike, all-finer-alike}
use Rattle.cap_account_assertions.proofs.Finer.{draws-all-finer}
use Rattle.cap_account_assertions.proofs.Named.{set_to, rest_values, rest_counts}
use Rattle.cap_account_assertions.proofs.Laws.{StateAt, GivenLaw, TakenLaw, Reached, Rested, RestsLaw}
use Rattle.cap_account_assertions.proofs.MadeTables.{made-fits, made-full, made-room}
use Rattle.cap_account_steps.proofs.Points.{FrameOk}
use Rattle.cap_account_steps.proofs.Stores.{Store, running, fixed-alike}
use Rattle.cap_account_steps.proofs.Callees.{fixed-fit, put_at, map-put, receives-is}
use Rattle.cap_account_steps.proofs.Frames.{Sits, Roomy, HandsOver, GivenBack, WaitsLike}
use Rattle.cap_account_steps.proofs.Regained.{Regained, given_ensures, Stable}
use Rattle.cap_account_steps.proofs.FirmStates.{Between, facts-between, grounded-between, backed-between}
use Rattle.cap_account_steps.proofs.CallSite.{Caller, TakenHere, kept, v1, s1, args_are, at-call, backed1, env2, a1, callee_fixed}
use Rattle.cap_account_steps.proofs.Results.{with_result, alike4, result-value, firm2, grounded2, facts2, backed2, placed2, means2}

-- ---- the frame once the result was put in its place

pub store-received :
    (s t : PlainState) (v w : Valuation) (h : Home) (fn : PlainFunction) (fixed : List NameValue)
    (f : Frame) (r b : Block) (y : Option ℕ) (z : ℤ) →
    AllByRecursion (Over (Usable [] s.sorts Int)) s.store → Store v s h fn fixed (with_rest f r) →
    length fixed ≡ length fn.fixed → Alike (Old s) v w → w.whole (length s.sorts) ≡ z →
    t.store ≡ put_at s.store y (fresh s) →
    ((x : ℕ) (o : Sort) → slice_get s.sorts x ≡ Some o → slice_get t.sorts x ≡ Some o) →
    Store w t h fn fixed (receives y z (with_rest f b))
store-received s t v w h fn fixed f r b y z over st size l result e sorts =
    subst (Store w t h fn fixed) (receives-is y z (with_rest f b)) (record {
      home = st.home;
      store = ap (map (value w.whole)) e
          ∙ map-put (value w.whole) s.store y (fresh s)
          ∙ ap (λ zs. put_at zs y (value w.whole (fresh s)))
          (values-alike (Old s) v w l s.store
          (all-more (Over (Usable [] s.sorts Int)) (Over (Old s))
          (λ u k. vars-more (Usable [] s.sorts Int) (Old s) (usable-old [] s.sorts Int) u.parts k)
          s.store over)
          ∙ st.store)
          ∙ ap (put_at f.store y) (variable-value w (length s.sorts) ∙ result);
      fixed_are = fixed-alike s v w h fn fixed (with_rest f r) st size l;
      fixed_known = λ i o q. sorts (h.fixed + i) o (st.fixed_known i o q);
    })

agree-scaled :
    (P : ℕ → Type 0) (m : ℕ) (v w : Valuation) → Agree P v w → Agree P (scaled m v) (scaled m w)
agree-scaled P m v w a = record {
  under = ap (λ n. n * m + n + m) a.under;
  whole = a.whole;
  share = λ x h. ap (λ z. z *ℤ pos (m + 1)) (a.share x h);
}

-- at values over a multiple of the denominator a state of firm facts stays as it is
scaled-between :
    (m : ℕ) (v : Valuation) (s : PlainState) → Between [] [] (Old s) v (scaled m v) s s
scaled-between m v s = record {
  uses = usable-old [] s.sorts;
  usable = λ o x h. h;
  alike = scaled-alike (Old s) m v;
  facts = refl;
  cells = refl;
  guards = refl;
}

-- where a call's result is r and the table W, the names of the callee's environment, the variables and
-- their values before its promise is given: from what was taken
abbrev pub back_start :
    PlainState → Valuation → PlainState → PlainTrees → Table → ℤ → Filled
back_start s took after children W r = record {
  env = env_at after (length s.envs);
  next = rest_counts after.facts children (length after.sorts);
  values =
      rest_values W after.facts children (length after.sorts) (set_to took (length s.sorts) r);
}

module _ (p : Checked) (program : IsWellFormed p.program) (give : GivenLaw p) (take : TakenLaw p)
    (rests : RestsLaw p) (stable : Stable p.program) where
  abbrev pub after_call : PlainFunction → ℕ → Label → Home → Block → List PlainTask
  after_call g e l h b =
      to_rest 0 l.number ∷ to_give g.ensures.items e l.number ∷ running b h

  -- the table after a call, and what the caller keeps there
  module _ (part : Stock) (T : Table) (roomy : Roomy p.program T part) (store : List ℤ)
      (c : Caller p part T store) where
    pub take-here :
        (ts : List PlainTask) (number : ℕ) (n : ℕ) (ks : PlainTrees) →
        slice_get p.program.functions n ≡ Some c.g →
        Open p.N ks (s1 p part T store c)
        (to_take c.g.requires (length c.s.envs) 3 number ∷ ts) → TakenHere p part T store c ts
    take-here ts number n ks is_g go =
        take (kept p part T store c) T (requires_scope c.g) (length c.s.envs) 3 number c.g.requires
        ts ks (v1 p part T store c) (s1 p part T store c) part roomy.bound go
        (at-call p part T store c) ((let q = push-length c.s.sorts Int in omega (arith, q)), tt)
        (function-fits p.program program n c.g is_g).requires.items (backed1 p part T store c)
        roomy.room roomy.listed

    module _ (ts : List PlainTask) (tk : TakenHere p part T store c ts) where
      abbrev pub hands : HandsOver p.program T part tk.left tk.given
      hands = record { U = tk.U; new = tk.new; made = tk.made; budget = tk.budget }

      both-room : FitsRoom p.program tk.U (both p.program tk.left tk.given)
      both-room = made-room p.program T tk.U tk.new tk.made part tk.left tk.given roomy.room
          tk.budget

      left-room : FitsRoom p.program tk.U tk.left
      left-room =
          fits-less p.program tk.U tk.left (both p.program tk.left tk.given)
          (inside-first p.program tk.left tk.given) both-room

      pub reached-left :
          (U : Table) → Relies p.program tk.left.guards tk.U U → Reached p.program tk.U U tk.left
      reached-left U r = record {
        fits = made-fits p.program T tk.U tk.new tk.made roomy.fits;
        full = made-full p.program T tk.U tk.new tk.made roomy.full;
        room = left-room;
        relies = r;
      }

  -- ---- the callee has handed over a part and a result

  module _ (part : Stock) (T : Table) (roomy : Roomy p.program T part) (fn : PlainFunction)
      (fixed : List NameValue) (size : length fixed ≡ length fn.fixed) (f : Frame) (r0 : Block)
      (c : Caller p part T f.store) (h : Home) (st : Store c.v c.s h fn fixed (with_rest f r0))
      (n : ℕ) (is_g : slice_get p.program.functions n ≡ Some c.g) (l : Label) (b : Block)
      (tk : TakenHere p part T f.store c (after_call c.g (length c.s.envs) l h b)) where
    abbrev ts : List PlainTask
    ts = after_call c.g (length c.s.envs) l h b

    abbrev behind : List PlainTask
    behind = to_give c.g.ensures.items (length c.s.envs) l.number ∷ running b h

    -- by the table W that others lead to from U, where the callee has its `ensures`
    module _ (W : Table) (handed : Stock) (r : ℤ)
        (room : FitsRoom p.program W (both p.program tk.left handed))
        (me : OwnsEnsures p.program W handed c.g (args_are p part T f.store c)
        (callee_fixed p part T f.store c ts tk) r)
        (rs : Rested p W (with_result p part T f.store c ts tk r) tk.left tk.after behind
        tk.children) where
      -- all over the product of the denominators
      abbrev now : Valuation
      now = scaled me.values.fraction.under rs.w

      abbrev names : Valuation
      names = scaled tk.w.fraction.under me.values

      abbrev drawn-now :
          AreFit p.program (ensures_scope c.g c.g.ensures.names) c.g.ensures.items →
          DrawsAll p.program W names c.g.ensures.items handed me.met.0
      drawn-now fits =
          let sc = ensures_scope c.g c.g.ensures.names in
          draws-all-finer p.program W sc me.values names
          (scaled-alike (InScope sc) tk.w.fraction.under me.values)
          (scaled-finer tk.w.fraction.under me.values) c.g.ensures.items handed me.met.0 fits
          me.met.1

      between : Between [] [] (Old rs.after) rs.w now rs.after rs.after
      between = scaled-between me.values.fraction.under rs.w rs.after

      env-same : env_at rs.after (length c.s.envs) ≡ env2 p part T f.store c ts tk
      env-same = ap (λ es. get_or es (length c.s.envs) []) rs.envs

      placed-now :
          Placed [] (ensures_scope c.g c.g.ensures.names) rs.after.sorts
          (env_at rs.after (length c.s.envs))
      placed-now =
          subst (Placed [] (ensures_scope c.g c.g.ensures.names) rs.after.sorts) (sym env-same)
          (placed-more [] (ensures_scope c.g c.g.ensures.names) tk.after.sorts rs.after.sorts
          (env2 p part T f.store c ts tk) rs.goes_on.sorts (placed2 p part T f.store c ts tk r))

      means-now :
          Means (ensures_scope c.g c.g.ensures.names) now (env_at rs.after (length c.s.envs)) names
      means-now =
          let w = with_result p part T f.store c ts tk r in
          let m = me.values.fraction.under in
          subst (λ env. Means (ensures_scope c.g c.g.ensures.names) now env names) (sym env-same)
          (means-on [] (ensures_scope c.g c.g.ensures.names) tk.after (scaled m w) now
          (env2 p part T f.store c ts tk) names (placed2 p part T f.store c ts tk r)
          (agree-scaled (Old tk.after) m w rs.w rs.agree)
          (means2 p part T f.store c ts tk r me.values me.args_are me.fixed_are me.result_is))

      state-now :
          StateAt p.program [] W (ensures_scope c.g c.g.ensures.names) (length c.s.envs) now
          rs.after
      state-now = record {
        grounded = grounded-between p.program [] [] (Old rs.after) rs.w now rs.after rs.after
            between (meets-alike [] rs.w now rs.after (scaled-alike (Old rs.after)
            me.values.fraction.under rs.w) rs.grounded.meets) rs.grounded;
        facts = facts-between p.program [] [] (Old rs.after) rs.w now rs.after rs.after between W
            rs.firm rs.facts;
        opened = subst (AllByRecursion (IsOpened (Usable [] rs.after.sorts Int) now W))
            (sym (rs.goes_on.opened ∙ tk.goes_on.opened ∙ c.none_open)) tt;
        there = subst (λ es. length c.s.envs < length es) (sym rs.envs) tk.ready.there;
        placed = placed-now;
      }

      -- the variables and their values before the promise is given
      abbrev before : Filled
      before = back_start c.s tk.w tk.after tk.children W r

      -- what it is given at is over one denominator, and alike to any such values
      like-given :
          (fits : AreFit p.program (ensures_scope c.g c.g.ensures.names) c.g.ensures.items)
          (s : PlainState) (v : Valuation) →
          filled_at (length c.s.envs) v s
          ≡ fill_items p.program W names c.g.ensures.items handed me.met.0 (drawn-now fits)
          (filled_at (length c.s.envs) now rs.after) →
          FilledLike p.program W (ensures_scope c.g c.g.ensures.names) c.g.ensures.items handed
          before me.values me.met.0 me.met.1 s v
      like-given fits s v filled x y same one old k e drawn =
          let sc = ensures_scope c.g c.g.ensures.names in
          let items = c.g.ensures.items in
          let start = filled_at (length c.s.envs) now rs.after in
          let later = record before { values = y } in
          let count = rs.count in
          let near : Alike (λ i. i < length rs.after.sorts) now y =
          alike-trans (Old rs.after) now rs.w y
          (alike-back (Old rs.after) rs.w now
          (scaled-alike (Old rs.after) me.values.fraction.under rs.w))
          (subst (λ u. Alike (Old rs.after) u y) (sym rs.named)
          (alike-less (Old rs.after) (λ i. i < before.next) before.values y
          (λ i l. (omega (arith, l, count))) old)) in
          let g = items-alike sc names x
          (alike-trans (InScope sc) names me.values x
          (alike-back (InScope sc) me.values names
          (scaled-alike (InScope sc) tk.w.fraction.under me.values)) one) p.program W items handed
          me.met.0 handed k (drawn-now fits) e start later fits
          (all-finer-alike p.program W sc me.values names x
          (scaled-alike (InScope sc) tk.w.fraction.under me.values)
          (scaled-finer tk.w.fraction.under me.values) items handed me.met.0 handed k fits me.met.1
          e drawn)
          (record {
            env = sym env-same;
            next = sym rs.count;
            alike = near;
            first = means-now.under;
            second = same;
          }) in
          let first = fill_items p.program W names items handed me.met.0 (drawn-now fits) start in
          let last = fill_items p.program W x items handed k e later in
          let next : length s.sorts ≡ first.next = λ i. (filled i).next in
          let values : v ≡ first.values = λ i. (filled i).values in
          let n = g.next in (
            next ∙ sym g.next,
            subst (Alike (λ i. i < last.next) last.values) (sym values)
                (alike-back (λ i. i < last.next) first.values last.values
                (alike-less (λ i. i < last.next) (λ i. i < first.next) first.values last.values
                (λ i l. (omega (arith, l, n))) g.alike)),
          )

      pub comes-back :
          (s : Sits p (both p.program tk.left handed) W fn fixed (receives c.x r (with_rest f b)))
          × GivenBack p.program W c.g handed before me.values me.met.0 me.met.1 s.at_node.state
          s.at_node.v
      comes-back =
          let sc = ensures_scope c.g c.g.ensures.names in
          let items = c.g.ensures.items in
          let fits = (function-fits p.program program n c.g is_g).ensures.items.items in
          let w = with_result p part T f.store c ts tk r in
          let gv = give W sc (length c.s.envs) l.number names tk.left handed me.met.0 items
          (running b h) rs.children now rs.after rs.goes state-now rs.firm means-now fits
          (drawn-now fits)
          (backed-between p.program [] [] (Old rs.after) rs.w now rs.after rs.after between tk.left
          rs.grounded rs.backed)
          (fits-composes p.program W (both p.program tk.left handed) room) in
          let k = one-child p.N gv.children gv.after (running b h) gv.goes in
          let c0 = push-length c.s.sorts Int in
          let c1 = tk.goes_on.count in
          let c2 = rs.goes_on.count in
          let was : Alike (Old tk.after) w gv.w =
          alike-trans (Old tk.after) w rs.w gv.w (agree-alike (Old tk.after) w rs.w rs.agree)
          (alike-less (Old tk.after) (Old rs.after) rs.w gv.w
          (λ x i. (omega (arith, i, c2)))
          (alike-trans (Old rs.after) rs.w now gv.w
          (scaled-alike (Old rs.after) me.values.fraction.under rs.w)
          (agree-alike (Old rs.after) now gv.w gv.agree))) in
          let since : Alike (Old c.s) c.v gv.w =
          alike-trans (Old c.s) c.v w gv.w (alike4 p part T f.store c ts tk r)
          (alike-less (Old c.s) (Old tk.after) w gv.w (λ x i. (omega (arith, i, c0, c1))) was) in
          let sits : Sits p (both p.program tk.left handed) W fn fixed
          (receives c.x r (with_rest f b)) = record {
            tree = k.0;
            at_node = record {
              state = gv.after;
              v = gv.w;
              home = h;
              valid = subst (λ b. p.N k.0 gv.after (running b h)) (rest-of c.x) k.1;
              none_open =
                  gv.goes_on.opened ∙ rs.goes_on.opened ∙ tk.goes_on.opened ∙ c.none_open;
              grounded = gv.grounded;
              facts = gv.facts;
              firm = gv.firm;
              backed = gv.backed;
              store = store-received c.s gv.after c.v gv.w h fn fixed f r0 b c.x r
                  c.grounded.meets.store_over st size since
                  (was.whole (length c.s.sorts) (omega (arith, c0, c1))
                  ∙ result-value p part T f.store c ts tk r)
                  (gv.goes_on.store ∙ rs.goes_on.store ∙ tk.goes_on.store)
                  (λ x o q. gv.goes_on.sorts x o (rs.goes_on.sorts x o
                  (tk.goes_on.sorts x o (get-first c.s.sorts (Int ∷ []) x o q))));
            };
          } in
          let size_then = rs.count in (
            sits,
            record {
              before =
                  subst (λ u. Alike (λ y. y < before.next) u gv.w) rs.named
                  (alike-less (λ y. y < before.next) (Old rs.after) rs.w gv.w
                  (λ x i. (omega (arith, i, size_then)))
                  (alike-trans (Old rs.after) rs.w now gv.w
                  (scaled-alike (Old rs.after) me.values.fraction.under rs.w)
                  (agree-alike (Old rs.after) now gv.w gv.agree)));
              all = like-given fits gv.after gv.w gv.filled;
            },
          )
        where
          rest-of : (y : Option ℕ) → b ≡ (receives y r (with_rest f b)).rest
          rest-of None = refl
          rest-of (Some x) = refl

    -- by whichever function of that number, which is c.g
    comes-on :
        (W : Table) (handed : Stock) (r : ℤ) → FitsRoom p.program W (both p.program tk.left handed) →
        Rested p W (with_result p part T f.store c ts tk r) tk.left tk.after behind tk.children →
        (g2 : PlainFunction) → c.g ≡ g2 →
        (m : OwnsEnsures p.program W handed g2 (args_are p part T f.store c)
        (callee_fixed p part T f.store c ts tk) r) →
        (s : Sits p (both p.program tk.left handed) W fn fixed (receives c.x r (with_rest f b)))
        × GivenBack p.program W g2 handed (back_start c.s tk.w tk.after tk.children W r) m.values m.met.0 m.met.1
        s.at_node.state s.at_node.v
    comes-on W handed r room rs g2 e =
        subst (λ g. (m : OwnsEnsures p.program W handed g (args_are p part T f.store c)
        (callee_fixed p part T f.store c ts tk) r) →
        (s : Sits p (both p.program tk.left handed) W fn fixed (receives c.x r (with_rest f b)))
        × GivenBack p.program W g handed (back_start c.s tk.w tk.after tk.children W r) m.values m.met.0 m.met.1
        s.at_node.state s.at_node.v) e (λ m. comes-back W handed r room m rs)

    module _ (U : Table) (relies : Relies p.program tk.left.guards tk.U U) (handed : Stock) (r : ℤ)
        (g2 : PlainFunction) (e2 : slice_get p.program.functions n ≡ Some g2)
        (there : Roomy p.program U (both p.program tk.left handed))
        (me : OwnsEnsures p.program U handed g2 (args_are p part T f.store c)
        (callee_fixed p part T f.store c ts tk) r) where
      abbrev whole : Stock
      whole = both p.program tk.left handed

      same-callee : c.g ≡ g2
      same-callee = some-same c.g g2 (sym is_g ∙ e2)

      -- what the callee handed over stays so
      pub handed-again :
          (W : Table) → Relies p.program whole.guards U W →
          Regained W
          (given_ensures p.program U handed n g2 (args_are p part T f.store c)
          (callee_fixed p part T f.store c ts tk) r me)
          (OwnsEnsures p.program W handed g2 (args_are p part T f.store c)
          (callee_fixed p part T f.store c ts tk) r) (λ m. m.values)
      handed-again W on =
          let P = p.program in
          stable.ensures U W handed n g2 e2 (record {
            fits = there.fits;
            full = there.full;
            room = fits-less P U handed whole (inside-second P tk.left handed) there.room;
            relies =
                relies-less P handed.guards whole.guards U W
                (inside-guards P handed whole (inside-second P tk.left handed)) on;
          }) (args_are p part T f.store c) (callee_fixed p part T f.store c ts tk) r
          (map-length (value_in f.store) c.args ∙ c.size ∙ ap (λ (g : PlainFunction). g.params)
          same-callee)
          (subst (λ (g : PlainFunction). ValuesFit g.fixed (callee_fixed p part T f.store c ts tk))
          same-callee (fixed-fit (a1 p part T f.store c ts tk) (fixed_start c.g) c.g.fixed)) me

      -- the caller's own facts rest
      rested-at :
          (W : Table) → Relies p.program whole.guards U W →
          Rested p W (with_result p part T f.store c ts tk r) tk.left tk.after behind tk.children
      rested-at W on =
          let P = p.program in
          let first = relies-less P tk.left.guards whole.guards U W
          (inside-guards P tk.left whole (inside-first P tk.left handed)) on in
          let to_w = relies-trans P tk.left.guards tk.U U W relies first in
          rests tk.left tk.U W l.number behind tk.children (with_result p part T f.store c ts tk r)
          tk.after (reached-left part T roomy f.store c ts tk W to_w) tk.goes
          (grounded2 p part T f.store c ts tk r) (facts2 p part T f.store c ts tk r)
          (firm2 p part T f.store c ts tk r) (backed2 p part T f.store c ts tk r)

      back-at :
          (W : Table) → Relies p.program whole.guards U W →
          (m : OwnsEnsures p.program W handed g2 (args_are p part T f.store c)
          (callee_fixed p part T f.store c ts tk) r) →
          (s : Sits p whole W fn fixed (receives c.x r (with_rest f b)))
          × GivenBack p.program W g2 handed (back_start c.s tk.w tk.after tk.children W r) m.values m.met.0 m.met.1
          s.at_node.state s.at_node.v
      back-at W on =
          comes-on W handed r (fits-relied p.program U W whole there.full on there.room)
          (rested-at W on) g2 same-callee

    -- so the caller waits
    pub waits-here :
        FrameOk p.program fn fixed (with_rest f b) →
        ((r : ℤ) → FrameOk p.program fn fixed (receives c.x r (with_rest f b))) →
        WaitsLike p tk.left tk.U fixed (with_rest f b) c.x n (args_are p part T f.store c)
        (callee_fixed p part T f.store c ts tk) (back_start c.s tk.w tk.after tk.children)
    waits-here ok later = record {
      fn = fn;
      ok = ok;
      back = λ U relies handed r g2 e2 there me.
          let again = handed-again U relies handed r g2 e2 there me in
          let back = back-at U relies handed r g2 e2 there me in
          record {
            stands = record {
              fn = fn;
              ok = later r;
              all = λ W on. (back W on ((again W on).each (again W on).u (again W on).ends).0).0;
            };
            owned = again;
            each = λ W on x e. back W on ((again W on).each x e).0;
            are = λ W on. refl;
          };
    }
