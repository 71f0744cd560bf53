-- Rule `create`: the case is taken, the region is made, and the fact is taken again.
use Rattle.std.proofs.Common.{◌≡◌, ℕ, suc, ◌<◌, ◌≤◌, ℤ, pos, ◌+ℤ◌, List, [], ◌∷◌, ◌++◌, arith, refl, sym, ap, ◌∙◌, subst, inl, inr, Some}
use Rattle.std.specs.Prelude.{length, map, slice_get, IsSomeAnd}
use Rattle.std.specs.List.{AllByRecursion}
use Rattle.cap_lin.specs.Values.{Valuation}
use Rattle.cap_lin.specs.declared.row.Sort.TheVariants.{Int}
use Rattle.cap_prog.specs.declared.assertion.Slot.{Slot}
use Rattle.cap_prog.specs.Program.{PlainItem, Items, item, PlainProgram}
use Rattle.cap_prog.specs.WellFormed.{FactFits, RegionFits}
use Rattle.cap_goal_spec.specs.States.{PlainState, PlainTask, PlainGoal, goal, to_make}
use Rattle.cap_goal_spec.specs.Choices.{PlainTree, node, PlainTrees, no_trees, tree, by_absurd, by_made}
use Rattle.cap_rules.specs.Making.{fresh, env_at}
use Rattle.cap_rules.specs.Rules.{at_create}
use Rattle.cap_account_resources.specs.Parts.{known_as, Table}
use Rattle.cap_account_resources.proofs.Lists.{all-both, all-more, map-join, push-length}
use Rattle.cap_account_resources.proofs.Monoid.{atom, both as plus}
use Rattle.cap_account_resources.proofs.Interference.{Holding}
use Rattle.cap_account_resources.proofs.Room.{all_guards, with_known}
use Rattle.cap_account_resources.proofs.Stocks.{Stock, guard_stock, both, Inside, total_of, reordered, inside-trans, inside-beside}
use Rattle.cap_account_resources.proofs.Tables.{extends-trans, extends-states}
use Rattle.cap_account_resources.proofs.Owners.{owned, guards_of_all, owned-join, guards-join, numbered-join}
use Rattle.cap_account_states.specs.Nodes.{NodePredicate, Comes, Children}
use Rattle.cap_account_states.proofs.Brought.{a_whole, brought-join}
use Rattle.cap_account_states.proofs.Alike.{Alike, alike-same}
use Rattle.cap_account_states.proofs.Meets.{Old, solves}
use Rattle.cap_account_states.proofs.Naming.{values_in}
use Rattle.cap_account_states.proofs.Checked.{Checked}
use Rattle.cap_account_assertions.proofs.Asserted.{DrawsAll, case-kept}
use Rattle.cap_account_assertions.proofs.Laws.{IsOwner, KeepsCreated}
use Rattle.cap_account_assertions.proofs.TreeSizes.{tree_size, trees_size}
use Rattle.cap_account_assertions.proofs.Follows.{follows-trans, alike-between}
use Rattle.cap_account_assertions.proofs.NewRegions.{told-here, told-apart, told-extends, owner-extends, created-on, none-of-both}
use Rattle.cap_account_assertions.proofs.TakeSteps.{Job, tasks_of, remaining, TakeStart, Took, TookLaw}
use Rattle.cap_account_assertions.proofs.FreshRegions.{fresh_values, fresh-brought}
use Rattle.cap_account_assertions.proofs.MadeRegions.{RegionMade, made-region, creation_of}
use Rattle.cap_account_assertions.proofs.CaseStarts.{lim_with, case_state, case_job, fact_job, CaseStart, case-start}
use Rattle.cap_account_assertions.proofs.CaseTaken.{CaseTook, case-pending, made_state, made_known, made-follows, lim_made, start-again}

-- ---- sums of stocks

-- what both Takes left, handed out and made; the first one's part goes to the region
pub create-budget :
    (p : PlainProgram) (left given own between part made held full guards more : Stock) →
    Inside p (both p (both p left given) own) (both p between more) →
    Inside p (both p (both p between part) made) (both p (both p held full) guards) →
    Inside p (both p (both p left given) (both p part (both p made own)))
    (both p held (both p full (both p guards more)))
create-budget p left given own between part made held full guards more h k =
    let atoms = left ∷ given ∷ own ∷ between ∷ part ∷ made ∷ held ∷ full ∷ guards ∷ more ∷ [] in
    let end = plus (plus (atom 0) (atom 1)) (plus (atom 4) (plus (atom 5) (atom 2))) in
    let second = plus (plus (plus (atom 0) (atom 1)) (atom 2)) (plus (atom 4) (atom 5)) in
    let middle = plus (plus (atom 3) (atom 9)) (plus (atom 4) (atom 5)) in
    let first = plus (plus (plus (atom 3) (atom 4)) (atom 5)) (atom 9) in
    let start = plus (plus (plus (atom 6) (atom 7)) (atom 8)) (atom 9) in
    let room = plus (atom 6) (plus (atom 7) (plus (atom 8) (atom 9))) in
    let of = total_of p atoms in
    subst (λ q. Inside p q (of room)) (reordered p atoms second end refl)
    (subst (Inside p (of second)) (reordered p atoms start room refl)
    (inside-trans p (of second) (of middle) (of start)
    (inside-beside p (both p (both p left given) own) (both p between more) (both p part made) h)
    (subst (λ q. Inside p q (of start)) (reordered p atoms first middle refl)
    (inside-beside p (both p (both p between part) made) (both p (both p held full) guards) more
    k))))

-- the tree of one goal
pub one-tree :
    (N : NodePredicate) (trees : PlainTrees) (s : PlainState) (ts : List PlainTask) →
    Children N trees (goal s ts ∷ []) →
    (d : PlainTree) × N d s ts × (tree_size d ≤ trees_size trees)
one-tree N no_trees s ts h = absurd h
one-tree N (tree d no_trees) s ts h = (d, h.0, omega arith)
one-tree N (tree d (tree e more)) s ts h = absurd h.1

module _ (p : Checked) (ks : List ℕ) (size : ℕ) (T : Table) (next : ℤ) (lim : Holding)
    (j : Job) (v : Valuation) (s : PlainState) (c : Stock) (i : PlainItem) (more : Items)
    (are : j.items ≡ item i more) (k n left : ℕ) (most : j.most ≡ suc left)
    (st : TakeStart p.program ks T next lim j v s c) where
  pub some : 0 < j.most
  some = omega (arith, most)

  module _ (P : List PlainGoal → Type 0)
      (a : CaseStart p.program ks T next lim j v s c k n left i more P)
      (t : CaseTook p ks T next lim j v s c k n left i more P a size) where
    -- the region was made, and the fact taken
    abbrev pub took-both :
        (Q : List PlainGoal → Type 0)
        (m : RegionMade p.program ks t.U next t.w t.after t.left t.given k n (length s.envs) Q
        (tasks_of (fact_job j i more left))) (small : ℕ) → small ≤ size →
        Took p ks
        (with_known t.U next (made_known p ks T next lim j v s c k n left i more P a size st some t
        (tasks_of (fact_job j i more left)) Q m)) t.later (fact_job j i more left) t.w
        (made_state p ks T next lim j v s c k n left i more P a size st some t
        (tasks_of (fact_job j i more left)) Q m) t.left small →
        Took p ks T next j v s c (suc size)
    took-both Q m small le u =
        let pp = p.program in
        let known = known_as k m.args (Some m.state) in
        let U = with_known t.U next known in
        let absent =
        (case-pending p ks T next lim j v s c k n left i more P a size st some t).absent in
        let on = told-extends t.U next known absent in
        let made =
        made_state p ks T next lim j v s c k n left i more P a size st some t
        (tasks_of (fact_job j i more left)) Q m in
        let creation =
        creation_of next k m.args m.state t.given n (env_at t.after (length s.envs)) in
        let owner = creation.owner in
        let between : (x : Valuation) → Alike (Old u.after) u.w x → Alike (Old t.after) t.w x =
        λ x l. alike-between made u.after t.w u.w x u.follows.goes_on u.follows.alike l in
        let later = extends-states U u.U u.made.extends in
        let rest = t.new ++ u.new in
        record {
          w = u.w;
          after = u.after;
          follows =
              follows-trans j.scope j.env v t.w u.w s
              (made_state p ks T next lim j v s c k n left i more P a size st some t
              (tasks_of (fact_job j i more left)) Q m) u.after
              (made-follows p ks T next lim j v s c k n left i more P a size st some t
              (tasks_of (fact_job j i more left)) Q m) u.follows;
          brings = a_whole next ∷ (t.brings ++ u.brings);
          brought =
              let at_case = case_state s a.rows a.guards a.env in
              let chosen = fresh_values s v next in
              let first = brought-join s at_case t.after chosen t.w (a_whole next ∷ [])
              t.brings (fresh-brought s at_case v next (push-length s.sorts Int)) t.follows.alike
              t.brought in
              brought-join s made u.after t.w u.w (a_whole next ∷ t.brings) u.brings
              (record { count = first.count; are = first.are }) u.follows.alike u.brought;
          children = u.children;
          goes = u.goes;
          no_larger = (let l = u.no_larger in omega (arith, l, le));
          U = u.U;
          new = owner ∷ rest;
          later = u.later;
          made = record {
            extends =
                extends-trans T t.U u.U t.made.extends (extends-trans t.U U u.U on u.made.extends);
            numbered = (
              refl,
              numbered-join (next +ℤ pos 1) t.later u.later t.new u.new t.made.numbered
                  u.made.numbered,
            );
            others = λ x f.
                let g = none-of-both x t.new u.new (λ h. f (inr h)) in
                u.made.others x g.1
                ∙ (told-apart t.U next x known (λ e. f (inl e)) ∙ t.made.others x g.0);
            owners = (
              owner-extends pp U u.U u.made.extends owner
                  (record {
                    known = told-here t.U next known;
                    owns = (m.keeps t.w (alike-same (Old t.after) t.w)).0;
                  }),
              all-both (IsOwner pp u.U) t.new u.new
                  (all-more (IsOwner pp t.U) (IsOwner pp u.U)
                  (owner-extends pp t.U u.U (extends-trans t.U U u.U on u.made.extends)) t.new
                  t.made.owners) u.made.owners,
            );
          };
          none_made = λ h. absurd (omega (arith, h, most));
          created = creation ∷ (t.created ++ u.created);
          are_created =
              ap (λ rs. owner ∷ rs)
              (ap (λ rs. rs ++ u.new) t.are_created
              ∙ ap (λ rs. map (λ c. c.owner) t.created ++ rs) u.are_created
              ∙ sym (map-join (λ c. c.owner) t.created u.created));
          keeps = (
            λ x l. case-kept pp U u.U later owner n (values_in x creation.env)
                (m.keeps x (between x l)),
            all-both (KeepsCreated pp u.U (Old u.after) u.w) t.created u.created
                (created-on pp t.U u.U
                (extends-states t.U u.U (extends-trans t.U U u.U on u.made.extends)) (Old t.after)
                (Old u.after) t.w u.w between t.created t.keeps) u.keeps,
          );
          ready = u.ready;
          left = u.left;
          backed = u.backed;
          given = u.given;
          budget =
              subst (λ q. Inside pp (both pp (both pp u.left u.given) (both pp t.given q))
              (both pp c (both pp (guard_stock next (all_guards pp k)) (guards_of_all pp rest))))
              (sym (owned-join pp t.new u.new))
              (subst (λ g. Inside pp (both pp (both pp u.left u.given)
              (both pp t.given (both pp (owned pp t.new) (owned pp u.new))))
              (both pp c (both pp (guard_stock next (all_guards pp k)) g)))
              (sym (guards-join pp t.new u.new))
              (create-budget pp u.left u.given (owned pp u.new) t.left t.given (owned pp t.new) c
              (guard_stock next (all_guards pp k)) (guards_of_all pp t.new) (guards_of_all pp u.new)
              u.budget t.budget));
          draws = λ x l b f r.
              subst (λ is. DrawsAll pp u.U b is (both pp u.given r) r) (sym are)
              (u.draws x l b f r);
        }

    -- rule `made`, and the rest
    pub made-then :
        TookLaw p ks size → (d : PlainTree) → tree_size d ≤ size →
        p.N d t.after (to_make k n (length s.envs) (fresh s) j.statement
        ∷ tasks_of (fact_job j i more left)) → Took p ks T next j v s c (suc size)
    made-then law (node (by_absurd x) below) le h =
        absurd ((p.step h).0.0 t.w (solves ks t.w t.after t.ready.grounded.meets))
    made-then law (node (by_made cs) below) le h =
        let ts = tasks_of (fact_job j i more left) in
        let Q = Children p.N below in
        let m = made-region p.program ks t.U next t.w t.after t.left t.given a.y a.z k n
        (length s.envs) (fresh s) ts Q a.is_type a.is_case
        (case-pending p ks T next lim j v s c k n left i more P a size st some t) (p.step h) in
        took-both Q m size (omega arith)
        (law
        (with_known t.U next (made_known p ks T next lim j v s c k n left i more P a size st some t
        ts Q m)) t.later
        (lim_made p ks T next lim j v s c k n left i more P a size st some t ts Q m)
        (fact_job j i more left) below t.w
        (made_state p ks T next lim j v s c k n left i more P a size st some t ts Q m) t.left
        (omega (arith, le)) m.comes
        (start-again p ks T next lim j v s c k n left i more P a size st some t ts Q m are))
    made-then law d le h = absurd (p.step h).1

  pub take-create :
      AllByRecursion (RegionFits p.program) p.program.regions → TookLaw p ks size → (kids : PlainTrees) → trees_size kids ≤ size → (r : ℕ) (args : List Slot) (x : Slot) →
      Comes (at_create p.program s n r k args x i left (remaining j more)) (Children p.N kids) →
      IsSomeAnd (slice_get p.program.regions k) (λ y. FactFits j.scope y args x) →
      Took p ks T next j v s c (suc size)
  take-create regions law kids le r args x comes fits =
      let P = Children p.N kids in
      let pp = p.program in
      let a = case-start pp regions ks T next lim j v s c n r k left args x i more P comes st some
      fits in
      let t = law T (next +ℤ pos 1) (lim_with pp lim next k)
      (case_job j s a.y a.z k n left (tasks_of (fact_job j i more left))) kids
      (fresh_values s v next) (case_state s a.rows a.guards a.env)
      (both pp c (guard_stock next (all_guards pp k))) le a.comes a.start in
      let d = one-tree p.N t.children t.after
      (to_make k n (length s.envs) (fresh s) j.statement ∷ tasks_of (fact_job j i more left))
      t.goes in
      made-then P a t law d.0 (let l = d.2 in let q = t.no_larger in omega (arith, l, q)) d.1
