-- All regions that are open are closed, one after the other.
use Rattle.std.proofs.Common.{◌≡◌, inl, inr, ℕ, zero, suc, ℤ, List, [], ◌∷◌, ◌++◌, length, map, true, refl, sym, ap, ◌∙◌, subst, arith}
use Rattle.std.specs.Prelude.{remove}
use Rattle.cap_lin.specs.Values.{Valuation, value}
use Rattle.cap_lin.specs.declared.row.Sort.TheVariants.{Int}
use Rattle.cap_prog.specs.WellFormed.{IsWellFormed}
use Rattle.cap_goal_spec.specs.States.{PlainState, PlainTask, to_close}
use Rattle.cap_goal_spec.specs.Choices.{PlainTrees}
use Rattle.cap_account_states.specs.Nodes.{Open}
use Rattle.cap_account_resources.specs.Parts.{Table}
use Rattle.cap_account_resources.proofs.Lists.{map-length, all-more, all-remove, Among}
use Rattle.cap_account_resources.proofs.Monoid.{none, atom}
use Rattle.cap_account_resources.proofs.Monoid as monoid
use Rattle.cap_account_resources.proofs.Stocks.{Stock, some-inside}
use Rattle.cap_account_resources.proofs.Tables.{TableFits, AreListed, new_guards}
use Rattle.cap_account_resources.proofs.Owners.{numbers_of}
use Rattle.cap_account_states.proofs.Checked.{Checked, one-child}
use Rattle.cap_account_states.proofs.Terms.{Agree, agree-same}
use Rattle.cap_account_states.proofs.Meets.{Usable, Old}
use Rattle.cap_account_assertions.proofs.Laws.{TakenLaw}
use Rattle.cap_account_steps.proofs.Shutting.{shut_values, shut_owner, Leads, keeps-on, keeps-new-on, HaveHalves, TookHere, closed_values, leads-here}
use Rattle.cap_account_steps.proofs.Worlds.{AllOver, regions_of, IsStillOpen, Closing, SettlesBy, closes, Closed, ClosingLaw}
use Rattle.cap_account_steps.proofs.SettledTables.{settled-states, settled-fits, settled-listed}
use Rattle.cap_account_steps.proofs.SettledTwice.{settles-for, settles-again}
use Rattle.cap_account_steps.proofs.StillOpen.{LaterState, later-same, later-trans, region-or, regions-later, length-remove}
use Rattle.cap_account_steps.proofs.ClosedTables.{makes-by, made-none}
use Rattle.cap_account_steps.proofs.RegionClosed.{RegionClosed, close-closes}

no-length : {X : Type 0} (xs : List X) → 0 ≡ length xs → xs ≡ []
no-length [] e = refl
no-length (x ∷ xs) e = absurd (omega (arith, e))

module _ (p : Checked) (V : Table) (part : Stock) (ts : List PlainTask) where
  pub later-of :
      (W : Table) (held : Stock) (ks : List ℕ) (v : Valuation) (s : PlainState) →
      (c : Closed p V W part ks v s held ts) → LaterState ks c.js v c.w s c.after
  later-of W held ks v s c = record {
    alike = c.alike;
    sorts = c.sorts;
    count = c.count;
    less = λ x h. c.less x h.0 h.1;
    store = c.store;
  }

  module _ (W : Table) (held : Stock) (ks : List ℕ) (v : Valuation) (s : PlainState) where
    -- nothing is left to close
    abbrev nothing-by :
        s.opened ≡ [] → SettlesBy p.program V W part held (regions_of v s.opened) held
    nothing-by e =
        settles-for p.program V W part held held (regions_of v s.opened) []
        (λ n a. subst (λ fs. Among n (regions_of v fs)) e a)
        (sym (ap (λ fs. length (regions_of v fs)) e))
        (makes-by p.program V W W part [] (made-none p.program W) held held
        (some-inside p.program (held ∷ new_guards p.program W W ∷ [])
        (monoid.both (atom 0) none) (monoid.both (atom 0) (atom 1)) (1 ∷ []) refl))

    -- the regions that were open are the one that is closed now and those that are closed later
    module _ (c : Closing p.program V W part ks v s held) (tasks : List PlainTask)
        (rc : RegionClosed p V W part ks v s held tasks) where
      abbrev numbers : List ℤ
      numbers = value v.whole rc.f.region ∷ regions_of rc.w rc.after.opened

      others-same : regions_of rc.w rc.after.opened ≡ regions_of v (remove s.opened rc.o)
      others-same =
          let still = IsStillOpen ks v V W s in
          ap (regions_of rc.w) rc.opened
          ∙ regions-later p.program ks rc.js v rc.w s rc.after rc.later (remove s.opened rc.o)
          (all-more still (AllOver (Usable ks s.sorts Int)) (λ f h. h.0) (remove s.opened rc.o)
          (all-remove still s.opened rc.o c.opened))

      one-of-them : (n : ℤ) → Among n (regions_of v s.opened) → Among n numbers
      one-of-them n a = elim (region-or v s.opened rc.o rc.f rc.is_opened n a) [
        | inl e ↦ inl e
        | inr b ↦ inr (subst (Among n) (sym others-same) b)
      ]

      same-count : length numbers ≡ length (regions_of v s.opened)
      same-count =
          let m = map-length (λ f. value v.whole f.region) s.opened in
          let m2 = map-length (λ f. value rc.w.whole f.region) rc.after.opened in
          let e = ap length rc.opened in
          let d = length-remove s.opened rc.o rc.f rc.is_opened in
          omega (arith, m, m2, e, d)

      closed-first :
          Closed p V rc.by.U part rc.js rc.w rc.after rc.left ts →
          Closed p V W part ks v s held ts
      closed-first r =
          let l = later-trans ks rc.js r.js v rc.w r.w s rc.after r.after rc.later
          (later-of rc.by.U rc.left rc.js rc.w rc.after r) in
          let on = settled-states p.program V rc.by.U r.by.U part r.by.opened r.by.closed r.by.made
          r.by.settles in
          record {
            left = r.left;
            by =
                settles-for p.program V W part held r.left (regions_of v s.opened) numbers
                one-of-them same-count
                (settles-again p.program V W part held rc.left r.left
                (value v.whole rc.f.region ∷ []) (regions_of rc.w rc.after.opened) rc.by r.by);
            w = r.w;
            alike = l.alike;
            after = r.after;
            children = r.children;
            goes = r.goes;
            js = r.js;
            less = λ x low free. l.less x (low, free);
            grounded = r.grounded;
            facts = r.facts;
            none_open = r.none_open;
            store = l.store;
            sorts = l.sorts;
            count = l.count;
            backed = r.backed;
            shuts = rc.shut ∷ r.shuts;
            named = (
              record {
                alike = rc.took;
                once = rc.once;
                count = rc.count;
                brought = rc.brought;
                over = rc.over;
              },
              subst (λ n. Leads n (shut_values rc.shut) r.shuts (length r.after.sorts) r.w)
                  (sym rc.counts)
                  (subst (λ u. Leads (length rc.after.sorts) u r.shuts (length r.after.sorts) r.w)
                  rc.named r.named),
            );
            are_closed =
                ap (λ rs. rs ++ r.by.closed) rc.is_closed
                ∙ ap (λ rs. shut_owner rc.shut ∷ rs) r.are_closed;
            keeps = (keeps-on p.program rc.by.U r.by.U on rc.shut rc.keeps, r.keeps);
            are_made =
                ap (λ rs. rs ++ r.by.made) rc.are_made
                ∙ ap (λ rs. map (λ d. d.owner) rc.shut.created ++ rs) r.are_made;
            keeps_new =
                (keeps-new-on p.program rc.by.U r.by.U on rc.shut rc.keeps_new, r.keeps_new);
          }

module _ (p : Checked) (program : IsWellFormed p.program) (taken : TakenLaw p) where
  -- so many are open
  closed-from :
      (m : ℕ) (V W : Table) (part held : Stock) (ks : List ℕ) (v : Valuation) (s : PlainState)
      (n : ℕ) (ts : List PlainTask) (trees : PlainTrees) (bound : List ℤ) →
      m ≡ length s.opened → Open p.N trees s (closes n m ts) → TableFits p.program W →
      AreListed bound W → Closing p.program V W part ks v s held →
      Closed p V W part ks v s held ts
  closed-from zero V W part held ks v s n ts trees bound size goes fits listed c =
      let none-open = no-length s.opened size in
      let l = later-same ks v s in
      record {
        left = held;
        by = nothing-by p V part ts W held ks v s none-open;
        w = v;
        alike = l.alike;
        after = s;
        children = trees;
        goes = goes;
        js = ks;
        less = λ x low free. free;
        grounded = c.grounded;
        facts = c.facts;
        none_open = none-open;
        store = l.store;
        sorts = l.sorts;
        count = l.count;
        backed = c.backed;
        shuts = [];
        named = (refl, refl);
        are_closed = refl;
        keeps = tt;
        are_made = refl;
        keeps_new = tt;
      }
  closed-from (suc m) V W part held ks v s n ts trees bound size goes fits listed c =
      let tasks = closes n m ts in
      let d = one-child p.N trees s (to_close true n ∷ tasks) goes in
      let rc = close-closes p program taken V W part held ks v s n tasks bound fits listed c d.0 d.1
      in
      let b = rc.by in
      let e = ap length rc.opened in
      let k = length-remove s.opened rc.o rc.f rc.is_opened in
      let next = closed-from m V b.U part rc.left rc.js rc.w rc.after n ts rc.children
      (numbers_of b.made ++ bound) (omega (arith, size, e, k)) rc.goes
      (settled-fits p.program V W b.U part b.opened b.closed b.made b.settles fits)
      (settled-listed p.program V W b.U part b.opened b.closed b.made b.settles bound listed)
      rc.closing in
      closed-first p V part ts W held ks v s c tasks rc next

  pub closing-law : ClosingLaw p
  closing-law V W part held ks v s n ts trees bound goes fits listed c room =
      closed-from (length s.opened) V W part held ks v s n ts trees bound refl goes fits listed c

-- over the denominator that there is, where each share that is halved has a half there: the values in
-- the end, and those at which the cases' items are taken, are a function of what is brought
pub closed-here :
    (p : Checked) (V W : Table) (part : Stock) (ks : List ℕ) (v : Valuation) (s : PlainState)
    (held : Stock) (ts : List PlainTask) (c : Closed p V W part ks v s held ts)
    (k : HaveHalves (length s.sorts) v c.shuts) →
    TookHere (length s.sorts) v c.shuts k
    × Agree (Old c.after) (closed_values (length s.sorts) v c.shuts k) c.w
closed-here p V W part ks v s held ts c k =
    leads-here (length s.sorts) v v c.shuts (length c.after.sorts) c.w (agree-same (Old s) v) c.named
    k
