-- A heap statement, once marks are made: the cell at its address, and the frame's store.
use Rattle.std.proofs.Common.{◌≡◌, ℕ, ◌+◌, ◌<◌, ℤ, List, [], ◌∷◌, length, refl, sym, ap, ◌∙◌, subst, Option, Some, None, Bool, true}
use Rattle.std.specs.Prelude.{slice_get, flat_map, IsSomeAnd}
use Rattle.std.specs.List.{AllByRecursion}
use Rattle.cap_lin.specs.Linear.{Linear}
use Rattle.cap_lin.specs.Values.{Valuation, value}
use Rattle.cap_lin.specs.declared.row.Sort.{Sort}
use Rattle.cap_lin.specs.declared.row.Sort.TheVariants.{Int}
use Rattle.cap_lin.specs.declared.row.Op.TheVariants.{Eq as Equal}
use Rattle.cap_prog.specs.Program.{Label, PlainAct, Block, first, PlainFunction}
use Rattle.cap_goal_spec.specs.States.{PlainFact, PlainState, Home, PlainTask, PlainGoal, to_close, to_rest, goals_of}
use Rattle.cap_rules.specs.Attempts.{Attempt, unit, ◌>>=◌}
use Rattle.cap_rules.specs.Making.{prove_equal}
use Rattle.cap_rules.specs.Closing.{address_of, rivals, with_marks, acted, closing}
use Rattle.cap_rules.specs.Rules.{at_act}
use Rattle.cap_machine.specs.Machine.{Frame, value_in, with_rest}
use Rattle.cap_machine_accounts.specs.Assertions.{NameValue}
use Rattle.cap_account_states.specs.Nodes.{Comes}
use Rattle.cap_account_resources.specs.Parts.{Table}
use Rattle.cap_account_resources.proofs.Lists.{some-same, within, all-at, all-more}
use Rattle.cap_account_resources.proofs.Stocks.{Stock, both, all_of}
use Rattle.cap_account_resources.proofs.Tables.{FitsRoom}
use Rattle.cap_account_states.proofs.Attempts.{comes-bind, comes-more, after-found, after-here, after-proved}
use Rattle.cap_account_states.proofs.Terms.{Agree, Over, vars-more, value-agree}
use Rattle.cap_account_states.proofs.Checked.{Checked}
use Rattle.cap_account_states.proofs.Meets.{Free, Usable, usable-old, Old, CellOver}
use Rattle.cap_account_steps.proofs.Stores.{Store, running, here, here-value, here-over, store-same}
use Rattle.cap_account_steps.proofs.Cells.{Cell, equal-here}
use Rattle.cap_account_steps.proofs.Worlds.{Differ, regions_of, Opening, opened_table, closes}
use Rattle.cap_account_steps.proofs.OpenTables.{open-room}
use Rattle.cap_account_steps.proofs.Marking.{mark_values}
use Rattle.cap_account_steps.proofs.Rivals.{acting}
use Rattle.cap_account_steps.proofs.Changing.{Ready}

-- what is to be done once the statement acted, where so many regions are open
abbrev pub then_close : ℕ → ℕ → Block → Home → List PlainTask
then_close n count b h = closes n count (to_rest 0 n ∷ running b h)

closing-closes :
    (fs : List PlainFact) (n : ℕ) (ts : List PlainTask) →
    closing fs n ts ≡ closes n (length fs) (to_rest 0 n ∷ ts)
closing-closes [] n ts = refl
closing-closes (f ∷ fs) n ts = ap (λ us. to_close true n ∷ us) (closing-closes fs n ts)

-- before statement a, then b: these regions are opened, and this is held; the state and the values
-- are those that the marks make of s0 and v0, and G is what is known of the goals that are left
pub record AtCell (p : Checked) (G : List PlainGoal → Type 0) (V : Table) (part held : Stock)
    (ns : List ℤ) (fn : PlainFunction) (fixed : List NameValue) (f : Frame) (h : Home) (n : ℕ)
    (a : PlainAct) (b : Block) (x : ℤ) (v0 : Valuation) (s0 : PlainState) (ms : List Bool) : Type 0
  where
    pub ks : List ℕ
    pub v : Valuation
    pub named : v ≡ mark_values v0 (length s0.sorts) ms
    pub s : PlainState
    pub marked : (with_marks s0 (rivals s0) ms).value ≡ Some s
    pub agree : Agree (Old s0) v0 v
    pub kept : (x : ℕ) → Free ks x → x < length s.sorts → x < length s0.sorts
    pub regions : regions_of v s.opened ≡ ns
    pub names : (i : ℕ) (o : Sort) → slice_get fn.fixed i ≡ Some o → Free ks (h.fixed + i)
    pub ready :
        Ready p.program V (opened_table ns V) part ks v s held h fn fixed (with_rest f b)
    pub j : ℕ
    pub c : Cell
    pub is : slice_get s.cells j ≡ Some c
    pub address : value v.whole c.0 ≡ x
    pub goals :
        Comes (acted s j c a)
        (λ states. G (flat_map (λ t. goals_of t (then_close n (length s.opened) b h)) states))

-- what an attempt comes to is its value
state-itself :
    (o : Attempt PlainState) (P : PlainState → Type 0) → Comes o P →
    Comes o (λ t. (o.value ≡ Some t) × P t)
state-itself o P h = (h.0, by o.value h.1)
  where
    by : (m : Option PlainState) → IsSomeAnd m P → IsSomeAnd m (λ t. (m ≡ Some t) × P t)
    by None k = k
    by (Some t) k = (refl, k)

module _ (p : Checked) (G : List PlainGoal → Type 0) (V : Table) (share : ℤ → Stock) (part : Stock)
    (fn : PlainFunction) (fixed : List NameValue) (f : Frame) (l : Label) (a : PlainAct) (b : Block)
    (h : Home) (v : Valuation) (s : PlainState) where
  abbrev held : Stock
  held = both p.program part (all_of p.program (regions_of v s.opened) share)

  pub at-cell :
      (x : Linear) → address_of a ≡ Some x → Opening p.program V share part v s →
      FitsRoom p.program V
      (both p.program part (all_of p.program (regions_of v s.opened) share)) →
      Store v s h fn fixed (with_rest f (first l a b)) → length fixed ≡ length fn.fixed → (j : ℕ)
      (ms : List Bool) → Comes (at_act s j ms l a (running b h)) G →
      AtCell p G V part (both p.program part (all_of p.program (regions_of v s.opened) share))
      (regions_of v s.opened) fn fixed f h l.number a b (value_in f.store x) v s ms
  at-cell x is-address o room st size j ms go =
      let m = o.grounded.meets in
      let R = Usable [] s.sorts in
      let ns = regions_of v s.opened in
      -- the rule
      let addressed = after-found (address_of a) _ G go in
      let cell = after-found (slice_get s.cells j) _ G addressed.2 in
      let c = cell.0 in
      let to = here s addressed.0 in
      let ends = λ (states : List PlainState). unit
      (flat_map (λ t. goals_of t (closing s.opened l.number (running b h))) states) in
      let acts = λ (t : PlainState). acted t j c a >>= ends in
      let marks = λ (u : Unit {0}). with_marks s (rivals s) ms >>= acts in
      let equal = after-proved s.rows c.0 Equal to Int marks G
      (after-here s addressed.0 (λ t. prove_equal s c.0 t >>= marks) G cell.2) in
      let made = with_marks s (rivals s) ms in
      let P = λ (t : PlainState). Comes (acts t) G in
      let k = acting p.program V v s (λ t. (made.value ≡ Some t) × P t) o.grounded o.facts o.opened ms
      (state-itself made P (comes-bind made acts G equal.1)) in
      let r = k.marked in
      let w = r.w in
      let t = r.after in
      let be = r.as_before in
      -- the address
      let over = all-at (CellOver R) s.cells j c m.cells_over cell.1 in
      let old = vars-more (R Int) (Old s) (usable-old [] s.sorts Int) c.0.parts over.0 in
      let same : addressed.0 ≡ x = some-same addressed.0 x (sym addressed.1 ∙ is-address) in
      let later : (y : ℕ) → R Int y → Usable r.js t.sorts Int y = λ y u. (
        be.goes_on.sorts y Int u.0,
        r.free y (usable-old [] s.sorts Int y u) tt,
      ) in
      let After = λ (t : PlainState) (states : List PlainState). G
      (flat_map (λ u. goals_of u (then_close l.number (length t.opened) b h)) states) in
      let st1 = store-same v w s t h fn fixed (with_rest f (first l a b)) m be.agree
      be.goes_on.sorts be.goes_on.store size st in
      record {
        ks = r.js;
        v = w;
        named = r.named;
        s = t;
        marked = r.comes.0;
        agree = be.agree;
        kept = λ x h l. (r.kept x h l).0;
        regions = k.regions;
        names = λ i q e. r.free (h.fixed + i)
            (within s.sorts (h.fixed + i) q (st.fixed_known i q e)) tt;
        ready = record {
          closing = record {
            grounded = r.grounded;
            facts = k.facts;
            old = r.old;
            opened = k.opened;
            differ = differ-again (regions_of w t.opened) k.regions;
            backed = k.backed held o.backed;
            room = open-room p.program ns V held room;
            earlier = k.earlier part o.earlier;
          };
          over = subst (AllByRecursion (Over (Usable r.js t.sorts Int))) (sym be.goes_on.store)
              (all-more (Over (R Int)) (Over (Usable r.js t.sorts Int))
              (λ u q. vars-more (R Int) (Usable r.js t.sorts Int) later u.parts q) s.store
              m.store_over);
          store = record {
            home = st1.home;
            store = st1.store;
            fixed_are = st1.fixed_are;
            fixed_known = st1.fixed_known;
          };
        };
        j = j;
        c = c;
        is = ap (λ cs. slice_get cs j) be.cells ∙ cell.1;
        address = value-agree (Old s) v w be.agree c.0 old
            ∙ equal-here v s c.0 to m equal.0 over.0 (here-over [] v s addressed.0 m)
            ∙ ap (λ u. value v.whole (here s u)) same
            ∙ here-value v s f.store x st.store;
        goals = comes-more (acted t j c a) (λ states. Comes (ends states) G) (After t)
            (λ states q. now t be.goes_on.opened states q.1)
            (comes-bind (acted t j c a) ends G r.comes.1);
      }
    where
      differ-again : (ms : List ℤ) → ms ≡ regions_of v s.opened → Differ ms
      differ-again ms e = subst Differ (sym e) o.differ

      now :
          (t : PlainState) → t.opened ≡ s.opened → (states : List PlainState) →
          G
          (flat_map (λ u. goals_of u (closing s.opened l.number (running b h))) states) →
          G
          (flat_map (λ u. goals_of u (then_close l.number (length t.opened) b h)) states)
      now t e states =
          subst
          (λ ts. G (flat_map (λ u. goals_of u ts) states))
          (closing-closes s.opened l.number (running b h)
          ∙ ap (λ os. then_close l.number (length os) b h) (sym e))
