-- One step of a Take along a walk, put before the rest.
use Rattle.std.proofs.Common.{◌≡◌, ◌⊎◌, inl, inr, ℕ, suc, ◌+◌, ◌-◌, ◌≤◌, ℤ, pos, ◌+ℤ◌, Bool, true, List, [], ◌∷◌, ◌++◌, refl, sym, ap, ◌∙◌, subst, arith}
use Rattle.std.specs.List.{AllZip}
use Rattle.std.proofs.lemmas.Int.{ints}
use Rattle.cap_lin.specs.Values.{Valuation}
use Rattle.cap_prog.specs.Program.{PlainItem, Items, none, item, PlainProgram}
use Rattle.cap_goal_spec.specs.States.{PlainState, to_take, PlainGoal, goal, goals_of}
use Rattle.cap_goal_spec.specs.Choices.{PlainChoice, node, PlainTrees, no_trees, tree}
use Rattle.cap_rules.specs.Making.{env_at}
use Rattle.cap_rules_nodes.specs.Nodes.{goals_left}
use Rattle.cap_machine_accounts.specs.Assertions.{NameValue}
use Rattle.cap_lin.specs.declared.row.Sort.TheVariants.{Perm}
use Rattle.cap_prog.specs.Scopes.{HasSort}
use Rattle.cap_goal_spec.specs.Environments.{binds}
use Rattle.cap_account_resources.specs.Parts.{Table}
use Rattle.cap_account_resources.proofs.Lists.{join-assoc, join-nil}
use Rattle.cap_account_resources.proofs.Covering.{part-trans}
use Rattle.cap_account_resources.proofs.Monoid.{atom, both as plus}
use Rattle.cap_account_resources.proofs.Interference.{Holding}
use Rattle.cap_account_resources.proofs.Stocks.{Stock, no_stock, both, Inside, stock-laws, reordered, none-right, inside-same, inside-second, inside-both, inside-guards}
use Rattle.cap_account_resources.proofs.Tables.{Extends, extends-states}
use Rattle.cap_account_states.specs.Nodes.{Open}
use Rattle.cap_account_states.proofs.Alike.{Alike}
use Rattle.cap_account_states.proofs.Brought.{Bring}
use Rattle.cap_account_states.proofs.Checked.{Checked}
use Rattle.cap_account_states.proofs.Items.{AreFit}
use Rattle.cap_account_states.proofs.Meets.{Old}
use Rattle.cap_account_states.proofs.Naming.{Means, values_in}
use Rattle.cap_account_assertions.proofs.Asserted.{DrawsAll, draws-kept}
use Rattle.cap_account_assertions.proofs.Follows.{alike-between, means-before}
use Rattle.cap_account_assertions.proofs.TreeSizes.{trees_size}
use Rattle.cap_account_assertions.proofs.TakeHeads.{ItemTaken}
use Rattle.cap_account_assertions.proofs.TakeSteps.{Job, tasks_of, with_items, TakeStart, Took, Head, Turns, start-after, took-other, took-none}
use Rattle.cap_owners_spec.specs.Traced.{past_width, over, valuation}
use Rattle.cap_owners_spec.specs.Walks.{Taking, Walk, on, Interpreting, pass_task, walk_below}
use Rattle.cap_owners_walks_laws.proofs.Fills.Drawn.{item_met, items_met, item_told, items_told}
use Rattle.cap_owners_walks_laws.proofs.Fills.Giving.{NamesFit}
use Rattle.cap_owners_walks_laws.proofs.Walks.Leading.{Left}
use Rattle.cap_account.proofs.Stocked.{part_stock}
use Rattle.cap_owners_walks_laws.proofs.Passes.Rests.{walks_into, below-wide}
use Rattle.cap_owners_walks_laws.proofs.Passes.Meets.{item-met-kept, item-told-kept, met-same, told-same, met-items, told-items}
use Rattle.cap_owners_walks_laws.proofs.Passes.Bindings.{IsBoundIn, BindsOr, binds-item, not-both}
use Rattle.cap_owners_walks_laws.proofs.Passes.Names.{IsShaped}
use Rattle.cap_owners_walks_laws.proofs.Passes.Takes.{AreNameTerms, TakesFrom, taking_on, Taking_into, IsWide, TakesTo}
use Rattle.cap_owners_walks_laws.proofs.Values.More.{FitsSort}

-- what is left and what was taken are of what there was
apart-cells :
    (p : PlainProgram) (left taken c : Stock) → Inside p (both p left taken) c → (a z : ℤ) →
    left.cells a z + taken.cells a z ≤ c.cells a z
apart-cells p left taken c h a z =
    let e = ap (λ (x : Stock). x.cells a z) h.1 in omega (arith, e)

apart-both :
    (p : PlainProgram) (q left taken c : Stock) → Inside p (both p left taken) c →
    Inside p (both p (both p q taken) left) (both p q c)
apart-both p q left taken c h =
    subst (λ x. Inside p x (both p q c))
    (reordered p (q ∷ left ∷ taken ∷ []) (plus (atom 0) (plus (atom 1) (atom 2)))
    (plus (plus (atom 0) (atom 2)) (atom 1)) refl)
    (inside-both p q q (both p left taken) c (inside-same p q) h)

module _ (p : Checked) (ks : List ℕ) (T : Table) (next : ℤ) where
  -- Some items are taken of those that are to be, and these remain. A walk goes along.
  pub record Step (j : Job) (trees : PlainTrees) (vs : List NameValue) (v : Valuation)
      (s : PlainState) (c : Stock) (top : Taking) : Type 0 where
    pub brings : List Bring
    pub head : Head p.program ks T j v s c brings
    pub rest : Items
    pub fits : AreFit p.program j.scope rest
    pub turns : Turns p.program T j.scope head.w head.after j.env head.taken j.items rest
    pub children : PlainTrees
    pub no_larger : suc (trees_size children) ≤ trees_size trees
    pub goes : Open p.N children head.after (tasks_of (with_items j rest))
    pub values : List NameValue
    pub valued : head.w ≡ valuation values
    pub sorted : AllZip FitsSort head.after.sorts values
    pub terms : AreNameTerms head.after.sorts (env_at head.after j.env)
    pub now : Taking
    pub names : values_in head.w (env_at head.after j.env) ≡ valuation now.fill.names
    pub have : NamesFit j.scope now.fill.names
    pub binds : BindsOr j.scope j.items rest (env_at head.after j.env)
    pub shaped :
        IsShaped j.scope vs (env_at s j.env) values (env_at head.after j.env) now.fill.names
    pub wildcards : List NameValue
    pub facts : List (ℤ × ℤ)
    pub more_wildcards : now.fill.wildcards ≡ top.fill.wildcards ++ wildcards
    pub more_facts : now.fill.facts ≡ top.fill.facts ++ facts
    pub met :
        (U : Table) (g : Extends T U) (x : Valuation) (l : Alike (Old head.after) head.w x)
        (a : Valuation) (m : Means j.scope x (env_at head.after j.env) a) (q r : Stock)
        (d : DrawsAll p.program U a rest q r) → a.fraction.under ≡ over - 1 →
        (items_met p.program U a j.items (both p.program head.taken q) r
        (turns U g x l a m q r d)
        ≡ wildcards ++ items_met p.program U a rest q r d)
        × (items_told p.program U a j.items (both p.program head.taken q) r
        (turns U g x l a m q r d)
        ≡ facts ++ items_told p.program U a rest q r d)
    pub part : part_stock now.part ≡ both p.program (part_stock top.part) head.taken
    pub leads :
        (seating : Bool) (enter : Interpreting) (w : Walk) (under : List Taking) →
        Taking_into p ks seating enter j trees s (taking_on p ks vs top under w)
        ≡ Taking_into p ks seating enter (with_items j rest) children head.after
        (taking_on p ks values now under w)

  module _ (j : Job) (trees : PlainTrees) (vs : List NameValue) (v : Valuation) (s : PlainState)
      (c : Stock) (top : Taking) (x : Step j trees vs v s c top) where
    abbrev behind : Job
    behind = with_items j x.rest

    -- from there on
    pub from-there :
        (lim : Holding) → TakesFrom p ks T next lim j vs v s c top.part →
        TakesFrom p ks T next lim behind x.values x.head.w x.head.after x.head.left x.now.part
    from-there lim f =
        let h = x.head in
        let pp = p.program in
        record {
          start = start-after pp ks T next lim j x.rest v s c f.start h x.fits;
          valued = x.valued;
          sorted = x.sorted;
          terms = x.terms;
          heap = f.heap;
          cells = λ a z.
              let e = ap (λ (y : Stock). y.cells a z) x.part in
              let l = apart-cells pp h.left h.taken c h.apart a z in
              let k = f.cells a z in omega (arith, e, l, k);
          guards = λ n.
              part-trans pp ((both pp (part_stock x.now.part) h.left).guards n)
              ((both pp (part_stock top.part) c).guards n) (lim n)
              (inside-guards pp (both pp (part_stock x.now.part) h.left)
              (both pp (part_stock top.part) c)
              (subst (λ y. Inside pp (both pp y h.left) (both pp (part_stock top.part) c))
              (sym x.part) (apart-both pp (part_stock top.part) h.left h.taken c h.apart)) n)
              (f.guards n);
        }

    -- and what comes of all
    step-took :
        (few many : ℕ) → few ≤ many →
        TakesTo p ks T next behind x.children x.values x.head.w x.head.after x.head.left x.now few →
        TakesTo p ks T next j trees vs v s c top many
    step-took few many le r =
        let h = x.head in
        let t = r.took in
        let pp = p.program in
        record {
          took = took-other p ks T next j v s c h x.rest x.turns few many le t;
          values = r.values;
          valued = r.valued;
          sorted = r.sorted;
          terms = r.terms;
          taken = r.taken;
          names = λ some. r.names (λ e. x.names);
          have = λ some. r.have (λ e. x.have);
          binds = λ y has e. elim (x.binds y has e) [
            | inl k ↦ r.binds y has k
            | inr b ↦ (b.0, t.follows.stays y Perm has b.0 b.1)
          ];
          grows = (
            x.shaped.grows.0 ++ r.grows.0,
            r.grows.1
                ∙ ap (λ us. us ++ r.grows.0) x.shaped.grows.1
                ∙ sym (join-assoc vs x.shaped.grows.0 r.grows.0),
          );
          shaped = λ b.
              let k = x.shaped.keeps b in
              let m = r.shaped k in
              (m.0, λ some. m.1 (λ e. (x.shaped.size, x.shaped.shares k)));
          wildcards = x.wildcards ++ r.wildcards;
          facts = x.facts ++ r.facts;
          more_wildcards =
              r.more_wildcards
              ∙ ap (λ ws. ws ++ r.wildcards) x.more_wildcards
              ∙ sym (join-assoc top.fill.wildcards x.wildcards r.wildcards);
          more_facts =
              r.more_facts
              ∙ ap (λ fs. fs ++ r.facts) x.more_facts
              ∙ sym (join-assoc top.fill.facts x.facts r.facts);
          met = λ y l a m z under.
              let now = alike-between h.after t.after h.w t.w y t.follows.goes_on t.follows.alike
              l in
              let before = means-before ks j.scope j.env h.w t.w h.after t.after t.follows
              h.ready.placed y a m in
              let d = t.draws y l a m z in
              let q = both pp t.given z in
              let e = sym ((stock-laws pp).assoc h.taken t.given z) in
              let all = x.turns t.U t.made.extends y now a before q z d in
              let here = x.met t.U t.made.extends y now a before q z d under in
              let there = r.met y l a m z under in (
                met-same pp t.U a j.items (both pp h.taken q)
                    (both pp (both pp h.taken t.given) z) z e all
                    ∙ here.0
                    ∙ ap (λ ws. x.wildcards ++ ws) there.0,
                told-same pp t.U a j.items (both pp h.taken q)
                    (both pp (both pp h.taken t.given) z) z e all
                    ∙ here.1
                    ∙ ap (λ fs. x.facts ++ fs) there.1,
              );
          part =
              r.part
              ∙ ap (λ y. both pp y t.given) x.part
              ∙ (stock-laws pp).assoc (part_stock top.part) h.taken t.given;
          made = r.made;
          are_made = r.are_made;
          counted = r.counted;
          along = λ seating enter w under below.
              x.leads seating enter w under ∙ r.along seating enter w under below;
          walks = λ seating enter w under below.
              x.leads seating enter (record w { next = next }) under
              ∙ r.walks seating enter w under below;
        }

    pub step-to :
        (few many : ℕ) → few ≤ many →
        (IsWide p ks next behind x.children x.values x.head.after x.now
        ⊎ TakesTo p ks T next behind x.children x.values x.head.w x.head.after x.head.left x.now
        few) →
        IsWide p ks next j trees vs s top ⊎ TakesTo p ks T next j trees vs v s c top many
    step-to few many le (inl wide) =
        inl (λ seating enter w under below.
        x.leads seating enter w under ∙ wide seating enter w under below)
    step-to few many le (inr r) = inr (step-took few many le r)

  -- ---- no items

  -- there is nothing to do, with so many trees
  abbrev none-took :
      (lim : Holding) (j : Job) (trees : PlainTrees) (v : Valuation) (s : PlainState) (c : Stock)
      (many : ℕ) → trees_size trees ≤ many → Open p.N trees s j.tasks →
      TakeStart p.program ks T next lim (with_items j none) v s c →
      Took p ks T next (with_items j none) v s c many
  none-took lim j trees v s c many le goes st =
      let t = took-none p ks T next (with_items j none) v s c trees refl goes st.ready st.backed in
      record {
        w = t.w;
        after = t.after;
        follows = t.follows;
        brings = t.brings;
        brought = t.brought;
        children = t.children;
        goes = t.goes;
        no_larger = le;
        U = t.U;
        new = t.new;
        later = t.later;
        made = t.made;
        none_made = t.none_made;
        created = t.created;
        are_created = t.are_created;
        keeps = t.keeps;
        ready = t.ready;
        left = t.left;
        backed = t.backed;
        given = t.given;
        budget = t.budget;
        draws = t.draws;
      }

  pub none-to :
      (lim : Holding) (j : Job) (trees : PlainTrees) (vs : List NameValue) (v : Valuation)
      (s : PlainState) (c : Stock) (top : Taking) (many : ℕ) → trees_size trees ≤ many →
      Open p.N trees s j.tasks →
      TakesFrom p ks T next lim (with_items j none) vs v s c top.part →
      TakesTo p ks T next (with_items j none) trees vs v s c top many
  none-to lim j trees vs v s c top many le goes f =
      let t = none-took lim j trees v s c many le goes f.start in
      record {
        took = t;
        values = vs;
        valued = f.valued;
        sorted = f.sorted;
        terms = f.terms;
        taken = top;
        names = λ some. some refl;
        have = λ some. some refl;
        binds = λ x has e. absurd (not-both e);
        grows = ([], sym (join-nil vs));
        shaped = λ b. (b, λ some. some refl);
        wildcards = [];
        facts = [];
        more_wildcards = sym (join-nil top.fill.wildcards);
        more_facts = sym (join-nil top.fill.facts);
        met = λ x l a m r under. (
          met-items p.program T a none none (both p.program no_stock r) r (sym refl)
              (inside-second p.program no_stock r),
          told-items p.program T a none none (both p.program no_stock r) r (sym refl)
              (inside-second p.program no_stock r),
        );
        part = sym (none-right p.program (part_stock top.part));
        made = [];
        are_made = tt;
        counted = omega (arith, ints);
        along = λ seating enter w under below.
            let more : w.next ≡ w.next +ℤ pos 0 = omega (arith, ints) in
            let same = sym (join-nil w.regions) in
            λ i. walks_into seating enter p.program trees (goals_of s j.tasks) (record w {
              values = vs;
              next = more i;
              taken = top ∷ under;
              regions = same i;
            });
        walks = λ seating enter w under below.
            ap (λ rs. walks_into seating enter p.program trees (goals_of s j.tasks) (record w {
              values = vs;
              next = next;
              taken = top ∷ under;
              regions = rs;
            })) (sym (join-nil w.regions));
      }

  -- ---- a node

  -- a node's choice leaves one goal, which is gone to
  pub node-to :
      (seating : Bool) (enter : Interpreting) (i : PlainItem) (more : Items) (j : Job) (ch : PlainChoice)
      (kids : PlainTrees) (s : PlainState) (gs : List PlainGoal) (w u : Walk) →
      goals_left p.program
      (goal s (to_take (item i more) j.env j.most j.statement ∷ j.tasks)) ch ≡ gs →
      pass_task enter p.program s ch (to_take (item i more) j.env j.most j.statement) j.tasks w
      ≡ on 0 u →
      Taking_into p ks seating enter (with_items j (item i more)) (tree (node ch kids) no_trees) s w
      ≡ walks_into seating enter p.program kids gs u
  node-to seating enter i more j ch kids s gs w u e h =
      λ k. walk_below enter p.program seating kids (e k) (h k)

  pub node-wide :
      (seating : Bool) (enter : Interpreting) (i : PlainItem) (more : Items) (j : Job) (ch : PlainChoice)
      (kids : PlainTrees) (s : PlainState) (w : Walk) →
      pass_task enter p.program s ch (to_take (item i more) j.env j.most j.statement) j.tasks w
      ≡ past_width →
      Taking_into p ks seating enter (with_items j (item i more)) (tree (node ch kids) no_trees) s w
      ≡ past_width
  node-wide seating enter i more j ch kids s w h =
      let gs = goals_left p.program
      (goal s (to_take (item i more) j.env j.most j.statement ∷ j.tasks)) ch in
      ap (walk_below enter p.program seating kids gs) h
      ∙ below-wide enter p.program seating kids gs

  -- ---- an item goes

  module _ (j : Job) (i : PlainItem) (more : Items) (ch : PlainChoice) (kids : PlainTrees)
      (vs : List NameValue) (v : Valuation) (s : PlainState) (c : Stock) (top : Taking) where
    abbrev pub of_item : Job
    of_item = with_items j (item i more)

    -- what is known of the goals of its node
    abbrev pub AtNode : List PlainGoal → Type 0
    AtNode = Left p ch kids (goal s (tasks_of (with_items j (item i more))))

    abbrev pub Goes : List Bring → Type 0
    Goes bs = ItemTaken p.program ks T (with_items j (item i more)) v s c AtNode bs i more

    pub record Passed (bs : List Bring) (taken : Goes bs) : Type 0 where
      pub values : List NameValue
      pub valued : taken.head.w ≡ valuation values
      pub sorted : AllZip FitsSort taken.head.after.sorts values
      pub terms : AreNameTerms taken.head.after.sorts (env_at taken.head.after j.env)
      pub now : Taking
      pub names :
          values_in taken.head.w (env_at taken.head.after j.env) ≡ valuation now.fill.names
      pub have : NamesFit j.scope now.fill.names
      pub binds_it :
          (x : ℕ) → HasSort j.scope Perm x → binds x i ≡ true →
          IsBoundIn (env_at taken.head.after j.env) x
      pub shaped :
          IsShaped j.scope vs (env_at s j.env) values (env_at taken.head.after j.env)
          now.fill.names
      pub wildcards : List NameValue
      pub facts : List (ℤ × ℤ)
      pub more_wildcards : now.fill.wildcards ≡ top.fill.wildcards ++ wildcards
      pub more_facts : now.fill.facts ≡ top.fill.facts ++ facts
      pub met :
          (x : Valuation) (l : Alike (Old taken.head.after) taken.head.w x) (a : Valuation)
          (m : Means j.scope x (env_at taken.head.after j.env) a) (r : Stock) →
          a.fraction.under ≡ over - 1 →
          (item_met p.program T a i (both p.program taken.head.taken r) r
          (taken.claim x l a m r) ≡ wildcards)
          × (item_told p.program T a i (both p.program taken.head.taken r) r
          (taken.claim x l a m r) ≡ facts)
      pub part : part_stock now.part ≡ both p.program (part_stock top.part) taken.head.taken
      pub passes :
          (enter : Interpreting) (w : Walk) (under : List Taking) →
          pass_task enter p.program s ch (to_take (item i more) j.env j.most j.statement) j.tasks
          (taking_on p ks vs top under w)
          ≡ on 0 (taking_on p ks values now under w)

    pub item-step :
        AreFit p.program j.scope more → (bs : List Bring) (taken : Goes bs) → Passed bs taken →
        Step (with_items j (item i more)) (tree (node ch kids) no_trees) vs v s c top
    item-step fits bs taken x =
        let h = taken.head in
        let pp = p.program in
        record {
          brings = bs;
          head = h;
          rest = more;
          fits = fits;
          turns = λ U g y l a m q r d. (
            q,
            draws-kept pp T U (extends-states T U g) a i (both pp h.taken q) q
                (taken.claim y l a m q),
            d,
          );
          children = kids;
          no_larger = omega arith;
          goes = taken.goes.1;
          values = x.values;
          valued = x.valued;
          sorted = x.sorted;
          terms = x.terms;
          now = x.now;
          names = x.names;
          have = x.have;
          binds = binds-item j.scope i more (env_at h.after j.env) x.binds_it;
          shaped = x.shaped;
          wildcards = x.wildcards;
          facts = x.facts;
          more_wildcards = x.more_wildcards;
          more_facts = x.more_facts;
          met = λ U g y l a m q r d under.
              let k = taken.claim y l a m q in
              let f = extends-states T U g in
              let here = x.met y l a m q under in (
                ap (λ ws. ws ++ items_met pp U a more q r d)
                    (item-met-kept pp T U f a i (both pp h.taken q) q k ∙ here.0),
                ap (λ fs. fs ++ items_told pp U a more q r d)
                    (item-told-kept pp T U f a i (both pp h.taken q) q k ∙ here.1),
              );
          part = x.part;
          leads = λ seating enter w under.
              node-to seating enter i more j ch kids s (goals_of h.after (tasks_of (with_items j more)))
              (taking_on p ks vs top under w)
              (taking_on p ks x.values x.now under w) taken.goes.0 (x.passes enter w under);
        }
