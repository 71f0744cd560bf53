-- After a heap statement: once all regions are closed again, and the facts rest, the frame stands.
use Rattle.std.proofs.Common.{◌≡◌, ℕ, ◌+◌, ℤ, List, [], ◌∷◌, ◌++◌, length, map, Some, refl, sym, ap, ◌∙◌, subst, arith}
use Rattle.std.specs.Prelude.{slice_get}
use Rattle.std.specs.List.{AllByRecursion}
use Rattle.cap_lin.specs.Linear.{Linear}
use Rattle.cap_lin.specs.Values.{Valuation, value}
use Rattle.cap_lin.specs.declared.row.Sort.{Sort}
use Rattle.cap_lin.specs.declared.row.Sort.TheVariants.{Int}
use Rattle.cap_prog.specs.Program.{PlainFunction, PlainProgram}
use Rattle.cap_prog.specs.WellFormed.{IsWellFormed}
use Rattle.cap_goal_spec.specs.States.{PlainState, Home, to_rest}
use Rattle.cap_goal_spec.specs.Choices.{PlainTrees}
use Rattle.cap_machine.specs.Machine.{Frame}
use Rattle.cap_machine_accounts.specs.Assertions.{NameValue}
use Rattle.cap_account_states.proofs.Alike.{values-alike, Alike, agree-alike}
use Rattle.cap_account_states.specs.Nodes.{Open}
use Rattle.cap_account_resources.specs.Parts.{Table}
use Rattle.cap_account_resources.proofs.Lists.{all-more, there-is, within, Among}
use Rattle.cap_account_resources.proofs.Interference.{Relies}
use Rattle.cap_account_resources.proofs.Stocks.{Stock, both, inside-first, inside-trans}
use Rattle.cap_account_resources.proofs.Tables.{TableFits, NoneOpen, AreListed, FitsRoom, new_guards, fits-less, fits-later}
use Rattle.cap_account_resources.proofs.Owners.{owned, numbers_of}
use Rattle.cap_account_states.proofs.Terms.{Over, vars-more}
use Rattle.cap_account_states.proofs.Meets.{Free, Usable}
use Rattle.cap_account_states.proofs.Checked.{Checked, one-child}
use Rattle.cap_account_states.proofs.Facts.{Facts}
use Rattle.cap_account_states.proofs.Roots.{values-length}
use Rattle.cap_account_states.proofs.Values.{named-of}
use Rattle.cap_account_states.proofs.Backed.{Backed, Grounded}
use Rattle.cap_account_states.proofs.KnowsLater.{Steady, usable-steady}
use Rattle.cap_account_assertions.proofs.Laws.{TakenLaw, Reached}
use Rattle.cap_account_steps.proofs.Points.{FrameOk}
use Rattle.cap_account_steps.proofs.Stores.{Store, running, name-alike, fixed-name}
use Rattle.cap_account_steps.proofs.Frames.{Roomy, StandsAt}
use Rattle.cap_account_steps.proofs.Worlds.{regions_of, opened_table, SettlesBy, ClosingLaw}
use Rattle.cap_account_assertions.proofs.Named.{rest_values}
use Rattle.cap_account_steps.proofs.Firming.{firm_values}
use Rattle.cap_account_steps.proofs.RestLaws.{Settled, rests-loose}
use Rattle.cap_account_steps.proofs.SettledTables.{settled-types, settled-fits, settled-listed, settled-full}
use Rattle.cap_account_steps.proofs.SettledTwice.{settles-for}
use Rattle.cap_account_steps.proofs.StillOpen.{LaterState, usable-later}
use Rattle.cap_account_steps.proofs.Closings.{later-of, closing-law}
use Rattle.cap_account_steps.proofs.Acting.{ActsLaw, FinishingLaw, acts-law}

-- ---- a frame's store in a state where other variables are kept free

pub record StoreBeside (ks : List ℕ) (v : Valuation) (s : PlainState) (h : Home)
    (fn : PlainFunction) (fixed : List NameValue) (f : Frame) : Type 0 where
  pub store : Store v s h fn fixed f
  pub over : AllByRecursion (Over (Usable ks s.sorts Int)) s.store
  pub free : (i : ℕ) (o : Sort) → slice_get fn.fixed i ≡ Some o → Free ks (h.fixed + i)
  pub count : length fixed ≡ length fn.fixed

module _ (h : Home) (fn : PlainFunction) (fixed : List NameValue) (f : Frame) where
  -- in a later state it is the same
  store-later :
      (ks : List ℕ) (v w : Valuation) (s t : PlainState) → Alike (Steady ks s) v w →
      ((x : ℕ) (o : Sort) → slice_get s.sorts x ≡ Some o → slice_get t.sorts x ≡ Some o) →
      t.store ≡ s.store → StoreBeside ks v s h fn fixed f → Store w t h fn fixed f
  store-later ks v w s t a sorts e b =
      let st = b.store in
      let R = Usable ks s.sorts Int in
      let P = Steady ks s in
      let steady = λ (u : Linear) (o : Over R u).
      vars-more R P (usable-steady ks s Int) u.parts o in
      record {
        home = st.home;
        store =
            ap (map (value w.whole)) e
            ∙ values-alike P v w a s.store (all-more (Over R) (Over P) steady s.store b.over)
            ∙ st.store;
        fixed_are = named-of w h.fixed fixed (λ i y q.
            let count = b.count in
            let low = within fixed i y q in
            let o = there-is fn.fixed i (omega (arith, low, count)) in
            let named = fixed-name s v h fn fixed f st b.count i y q in
            name-alike P v w (h.fixed + i) y (named.0, b.free i o.0 o.1) a named.1);
        fixed_known = λ i o q. sorts (h.fixed + i) o (st.fixed_known i o q);
      }

  pub beside-later :
      (p : Checked) (ks js : List ℕ) (v w : Valuation) (s t : PlainState) →
      LaterState ks js v w s t → StoreBeside ks v s h fn fixed f → StoreBeside js w t h fn fixed f
  beside-later p ks js v w s t l b =
      let R = Usable ks s.sorts Int in
      let S = Usable js t.sorts Int in
      let more = λ (u : Linear) (o : Over R u).
      vars-more R S (usable-later p.program ks js v w s t l Int) u.parts o in
      record {
        store = store-later ks v w s t l.alike l.sorts l.store b;
        over =
            subst (AllByRecursion (Over S)) (sym l.store)
            (all-more (Over R) (Over S) more s.store b.over);
        free = λ i o e.
            l.less (h.fixed + i)
            (within s.sorts (h.fixed + i) o (b.store.fixed_known i o e), b.free i o e);
        count = b.count;
      }

  -- ---- the facts rest

  module _ (p : Checked) (program : IsWellFormed p.program)
      (ok : FrameOk p.program fn fixed f) where
    pub rest-stands :
        (ks : List ℕ) (part : Stock) (T : Table) (trees : PlainTrees) (s : PlainState)
        (v : Valuation) (n : ℕ) → Roomy p.program T part →
        Open p.N trees s (to_rest 0 n ∷ running f.rest h) → s.opened ≡ [] →
        Grounded p.program ks v s → Facts ks v T s → Backed p.program v s part →
        StoreBeside ks v s h fn fixed f →
        StandsAt p part T fixed f
        (λ U. rest_values U s.facts trees (length s.sorts) (firm_values T v s.facts))
    rest-stands ks part T trees s v n roomy goes none g facts backed b = record {
      stands = record {
        fn = fn;
        ok = ok;
        all = λ U relies.
            let r = rest-of U relies in
            let d = one-child p.N r.children r.after (running f.rest h) r.goes in
            record {
              tree = d.0;
              at_node = record {
                state = r.after;
                v = r.w;
                home = h;
                valid = d.1;
                none_open = r.goes_on.opened ∙ none;
                grounded = r.grounded;
                facts = r.facts;
                firm = r.firm;
                backed = r.backed;
                store =
                    store-later ks v r.w s r.after (agree-alike (Steady ks s) v r.w r.agree)
                    r.goes_on.sorts r.goes_on.store b;
              };
            };
      };
      named = λ U relies. (rest-of U relies).named;
    }
      where
        reached : (U : Table) → Relies p.program part.guards T U → Reached p.program T U part
        reached U relies =
            record { fits = roomy.fits; full = roomy.full; room = roomy.room; relies = relies }

        rest-of : (U : Table) → Relies p.program part.guards T U →
            Settled p ks T U v part s (running f.rest h) trees
        rest-of U relies =
            rests-loose p program ks part T U n (running f.rest h) trees v s (reached U relies) goes
            g facts backed

-- ---- all open regions are closed, and then the facts rest

-- what is kept is within the last table's room
settled-roomy :
    (p : PlainProgram) (V W : Table) (part held kept : Stock) (ns bound : List ℤ) →
    (b : SettlesBy p V W part held ns kept) → TableFits p W → AreListed bound W →
    FitsRoom p W held → NoneOpen b.U → Roomy p b.U kept
settled-roomy p V W part held kept ns bound b fits listed room full =
    let owners = both p (owned p b.closed) (owned p b.made) in
    let all = both p held (new_guards p W b.U) in
    let types = settled-types p V W b.U part b.opened b.closed b.made b.settles in
    record {
      fits = settled-fits p V W b.U part b.opened b.closed b.made b.settles fits;
      full = full;
      room =
          fits-less p b.U kept all
          (inside-trans p kept (both p kept owners) all (inside-first p kept owners) b.budget)
          (fits-later p W b.U held types room);
      bound = numbers_of b.made ++ bound;
      listed = settled-listed p V W b.U part b.opened b.closed b.made b.settles bound listed;
    }

pub finishing-law : (p : Checked) → IsWellFormed p.program → ClosingLaw p → FinishingLaw p
finishing-law p program closing V part held ns ks v s n h fn fixed f trees bound are ok goes fits
    listed full room c over free store =
    let q = p.program in
    let W = opened_table ns V in
    let tasks = to_rest 0 n ∷ running f.rest h in
    let cl = closing V W part held ks v s n tasks trees bound goes fits listed c room in
    let b = cl.by in
    let all-full = settled-full q V b.U part ns b.opened b.closed b.made b.settles
    (λ m a. b.all_of_them m (subst (Among m) (sym are) a)) full in
    let beside = beside-later h fn fixed f p ks cl.js v cl.w s cl.after
    (later-of p V part tasks W held ks v s cl)
    (record {
      store = store;
      over = over;
      free = free;
      count = values-length fn.fixed fixed ok.values;
    }) in
    record {
      closed = cl;
      table = refl;
      owners = refl;
      made = refl;
      kept = cl.left;
      by = settles-for q V W part held cl.left ns (regions_of v s.opened)
          (λ m a. subst (Among m) (sym are) a) (ap length are) b;
      stands =
          rest-stands h fn fixed f p program ok cl.js cl.left b.U cl.children cl.after cl.w n
          (settled-roomy q V W part held cl.left (regions_of v s.opened) bound b fits listed c.room
          all-full)
          cl.goes cl.none_open cl.grounded cl.facts cl.backed beside;
    }

-- so a heap statement acts where regions are open
pub acts : (p : Checked) → IsWellFormed p.program → TakenLaw p → ActsLaw p
acts p program taken = acts-law p (finishing-law p program (closing-law p program taken))
