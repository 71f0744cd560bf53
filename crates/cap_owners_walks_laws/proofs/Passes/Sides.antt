-- A walk takes one side of a conditional item: other items are to be taken.
use Rattle.std.proofs.Common.{◌≡◌, ◌⊎◌, inl, inr, ℕ, suc, ◌≤◌, ℤ, Bool, true, false, ◌==◌, if◌then◌else◌, List, [], ◌∷◌, ◌++◌, length, option_to_list, Option, Some, None, refl, sym, ap, ◌∙◌, subst, arith}
use Rattle.cap_lin.specs.Values.{Valuation}
use Rattle.cap_lin.specs.Solves.{value_by_sort, Relates}
use Rattle.cap_lin.specs.declared.row.Row.{Row}
use Rattle.cap_prog.specs.declared.assertion.Comp.{Comp}
use Rattle.cap_prog.specs.Program.{choose, Items, item, none, append_items}
use Rattle.cap_goal_spec.specs.States.{PlainState, PlainTask, to_run, to_turn, to_give, to_take, to_make, to_close, to_shift, to_rest, PlainGoal, goal, goal_of, goals_of}
use Rattle.cap_goal_spec.specs.Choices.{by_cases, node, PlainTrees, no_trees, tree}
use Rattle.cap_rules.specs.Making.{env_at}
use Rattle.cap_rules_nodes.specs.Nodes.{goals_left}
use Rattle.cap_machine_accounts.specs.Assertions.{NameValue}
use Rattle.cap_account_resources.specs.Parts.{Table}
use Rattle.cap_account_resources.proofs.Lists.{join-nil}
use Rattle.cap_account_resources.proofs.Interference.{Holding}
use Rattle.cap_account_resources.proofs.Order.{unmet-not}
use Rattle.cap_account_resources.proofs.Stocks.{Stock, no_stock, both, none-right, inside-second}
use Rattle.cap_account_states.specs.Nodes.{Children}
use Rattle.cap_account_states.proofs.Alike.{alike-same}
use Rattle.cap_account_states.proofs.Checked.{Checked, first_trees, later_trees, children-first, children-later}
use Rattle.cap_account_states.proofs.Meets.{Old}
use Rattle.cap_account_states.proofs.Naming.{Means, values-mean}
use Rattle.cap_account_assertions.proofs.Asserted.{DrawsAll, draws-more, draws-apart}
use Rattle.cap_account_assertions.proofs.TreeSizes.{trees_size, trees-sizes}
use Rattle.cap_account_assertions.proofs.TakeSteps.{Job, with_items, tasks_of}
use Rattle.cap_account_assertions.proofs.TakeComps.{SideTold, side-turned, side-drawn, side_items, side_state, side_op, sides-found}
use Rattle.cap_owners_spec.specs.Traced.{Traced, traced, past_width, untold, ◌>>=◌, valuation, holds_by}
use Rattle.cap_owners_spec.specs.Walks.{Taking, Walk, descends, side_child, Interpreting, pass_item, pass_task, walk_below}
use Rattle.cap_owners_walks_laws.proofs.Fills.Drawn.{item_met, items_met, item_told, items_told}
use Rattle.cap_owners_walks_laws.proofs.Fills.Siding.{holds-told}
use Rattle.cap_owners_walks_laws.proofs.Values.Numbers.{TakesSide, side-is}
use Rattle.cap_owners_walks_laws.proofs.Walks.Leading.{node-leads}
use Rattle.cap_account.proofs.Stocked.{part_stock}
use Rattle.cap_owners_walks_laws.proofs.Passes.Rests.{walks_into}
use Rattle.cap_owners_walks_laws.proofs.Passes.Bindings.{bound-behind}
use Rattle.cap_owners_walks_laws.proofs.Passes.Names.{NamesSo, shaped-same}
use Rattle.cap_owners_walks_laws.proofs.Passes.Meets.{item-met-out, item-told-out, met-apart, told-apart, met-items, told-items}
use Rattle.cap_owners_walks_laws.proofs.Passes.Takes.{taking_on}
use Rattle.cap_owners_walks_laws.proofs.Passes.Steps.{node-wide, AtNode}
use Rattle.cap_owners_walks_laws.proofs.Passes.Plain.{Starting, Wide, Steps, named_top, with-names}

-- ---- the trees of two sides

-- goals of the same tasks, in states with the same facts, are there or not alike
abbrev pub SameSome : Option PlainGoal → Option PlainGoal → Type 0
SameSome None None = Unit {0}
SameSome (Some g) (Some h) = Unit {0}
SameSome g h = ⊥

same-some : (s : PlainState) (rows : List Row) (ts : List PlainTask) →
    SameSome (goal_of s ts) (goal_of (record s { rows = rows }) ts)
same-some s rows [] = tt
same-some s rows (to_give none e n ∷ ts) = same-some s rows ts
same-some s rows (to_give (item i more) e n ∷ ts) = tt
same-some s rows (to_take none e left n ∷ ts) = same-some s rows ts
same-some s rows (to_take (item i more) e left n ∷ ts) = tt
same-some s rows (to_rest j n ∷ ts) = by (j == length s.facts) (same-some s rows ts)
  where
    by :
        (b : Bool) → SameSome (goal_of s ts) (goal_of (record s { rows = rows }) ts) →
        SameSome (if b then goal_of s ts else Some (goal s (to_rest j n ∷ ts)))
        (if b then goal_of (record s { rows = rows }) ts
        else Some (goal (record s { rows = rows }) (to_rest j n ∷ ts)))
    by true h = h
    by false h = tt
same-some s rows (to_run h b ∷ ts) = tt
same-some s rows (to_turn h b ∷ ts) = tt
same-some s rows (to_make k c i x n ∷ ts) = tt
same-some s rows (to_close b n ∷ ts) = tt
same-some s rows (to_shift o c m i n ∷ ts) = tt

module _ (seating : Bool) (enter : Interpreting) (p : Checked) where
  first-side :
      (kids : PlainTrees) (o one two : Option PlainGoal) → SameSome o one →
      Children p.N kids (option_to_list one ++ option_to_list two) → (w : Walk) →
      walk_below enter p.program seating kids (option_to_list one ++ option_to_list two)
      (traced (descends (side_child true (option_to_list o)) w))
      ≡ walks_into seating enter p.program (first_trees (length (option_to_list one)) kids) (option_to_list one) w
  first-side no_trees None None None e h w = refl
  first-side (tree t ts) None None (Some g) e h w = refl
  first-side (tree t ts) (Some g) (Some h) two e k w = refl
  first-side no_trees None None (Some g) e h w = absurd h
  first-side (tree t ts) None None None e h w = absurd h
  first-side no_trees (Some g) (Some h) two e k w = absurd k
  first-side kids None (Some g) two e h w = absurd e
  first-side kids (Some g) None two e h w = absurd e

  second-side :
      (kids : PlainTrees) (o one two : Option PlainGoal) → SameSome o one →
      Children p.N kids (option_to_list one ++ option_to_list two) → (w : Walk) →
      walk_below enter p.program seating kids (option_to_list one ++ option_to_list two)
      (traced (descends (side_child false (option_to_list o)) w))
      ≡ walks_into seating enter p.program (later_trees (length (option_to_list one)) kids) (option_to_list two) w
  second-side kids None None two e h w = refl
  second-side (tree t ts) (Some g) (Some h) two e k w = refl
  second-side no_trees (Some g) (Some h) two e k w = absurd k
  second-side kids None (Some g) two e h w = absurd e
  second-side kids (Some g) None two e h w = absurd e

-- ---- a conditional item

module _ (p : Checked) (ks : List ℕ) (T : Table) (next : ℤ) (lim : Holding) (j : Job)
    (vs : List NameValue) (s : PlainState) (c : Stock) (top : Taking) (x : Comp) (y z more : Items)
    (kids : PlainTrees) (f : Starting p ks T next lim j vs s c top (item (choose x y z) more)) where
  abbrev v : Valuation
  v = valuation vs

  abbrev all : Items
  all = item (choose x y z) more

  abbrev of_choice : Job
  of_choice = with_items j (item (choose x y z) more)

  abbrev Tells : Bool → Type 0
  Tells b =
      SideTold p.program ks T of_choice (valuation vs) s c f.start.ready f.start.backed x y z more
      refl b

  abbrev state_of : Bool → PlainState
  state_of b =
      side_state p.program ks T of_choice (valuation vs) s c f.start.ready f.start.backed x y z more
      refl
      (side_op p.program ks T of_choice (valuation vs) s c f.start.ready f.start.backed x y z more
      refl b)

  abbrev items_of : Bool → Items
  items_of b =
      side_items p.program ks T of_choice (valuation vs) s c f.start.ready f.start.backed x y z more
      refl b

  abbrev goal_at : Bool → Option PlainGoal
  goal_at b =
      goal_of (state_of b) (tasks_of (with_items of_choice (append_items (items_of b) more)))

  -- the trees of this side
  abbrev trees_of : Bool → PlainTrees
  trees_of true = first_trees (length (option_to_list (goal_at true))) kids
  trees_of false = later_trees (length (option_to_list (goal_at true))) kids

  abbrev ChoicePasses : List NameValue → Type 0
  ChoicePasses ns =
      (enter : Interpreting) (w : Walk) (under : List Taking) →
      pass_task enter p.program s by_cases (to_take all j.env j.most j.statement) j.tasks
      (taking_on p ks vs top under w)
      ≡ pass_item p.program s by_cases (choose x y z) more j.env j.most j.statement j.tasks
      (named_top p ks T next lim j vs s c top ns) (taking_on p ks vs top under w)

  -- the comparison comes to what is told
  side-known :
      (ns : List NameValue) → NamesSo j.scope vs (env_at s j.env) ns → (b : Bool) →
      Tells b →
      (o : Traced Bool) → holds_by ns x ≡ o → (o ≡ past_width) ⊎ (o ≡ traced b)
  side-known ns so b t past_width e = inl refl
  side-known ns so b t untold e = absurd (holds-told ns x e)
  side-known ns so b t (traced a) e =
      by b a (t.says v (alike-same (Old s) v) (valuation ns)
      (subst (Means j.scope v (env_at s j.env)) so.same (values-mean j.scope v (env_at s j.env))))
      (side-is ns x a e)
    where
      Related : Bool → Type 0
      Related b =
          Relates
          (side_op p.program ks T of_choice (valuation vs) s c f.start.ready f.start.backed x y z
          more refl b) (value_by_sort x.sort (valuation ns) x.left)
          (value_by_sort x.sort (valuation ns) x.right)

      by :
          (b a : Bool) → Related b → TakesSide (valuation ns) x a →
          (traced a ≡ past_width) ⊎ (traced a ≡ traced b)
      by true true r h = inr refl
      by false false r h = inr refl
      by true false r h = absurd (h r)
      by false true r h = absurd (unmet-not x.op _ _ r h)

  -- a walk goes to the side's trees
  side-leads :
      (b : Bool) (ns : List NameValue) → ChoicePasses ns → holds_by ns x ≡ traced b →
      goals_left p.program (goal s (tasks_of of_choice)) by_cases
      ≡ option_to_list (goal_at true) ++ option_to_list (goal_at false) →
      Children p.N kids (option_to_list (goal_at true) ++ option_to_list (goal_at false)) →
      (seating : Bool) (enter : Interpreting) (w : Walk) (under : List Taking) →
      walks_into seating enter p.program (tree (node by_cases kids) no_trees) (goals_of s (tasks_of of_choice))
      (taking_on p ks vs top under w)
      ≡ walks_into seating enter p.program (trees_of b) (option_to_list (goal_at b))
      (taking_on p ks vs (named_top p ks T next lim j vs s c top ns) under w)
  side-leads b ns pass e goals there seating enter w under =
      (λ i. walk_below enter p.program seating kids (goals i)
      ((pass enter w under
      ∙ ap (λ o. o >>= λ b. traced (descends (side_child b
      (goals_of s (to_take (append_items y more) j.env j.most j.statement ∷ j.tasks)))
      (taking_on p ks vs (named_top p ks T next lim j vs s c top ns) under w))) e) i))
      ∙ by b
    where
      same :
          SameSome (goal_of s (to_take (append_items y more) j.env j.most j.statement ∷ j.tasks))
          (goal_at true)
      same =
          same-some s (state_of true).rows
          (to_take (append_items y more) j.env j.most j.statement ∷ j.tasks)

      by :
          (b : Bool) →
          walk_below enter p.program seating kids
          (option_to_list (goal_at true) ++ option_to_list (goal_at false))
          (traced (descends (side_child b
          (goals_of s (to_take (append_items y more) j.env j.most j.statement ∷ j.tasks)))
          (taking_on p ks vs (named_top p ks T next lim j vs s c top ns) under w)))
          ≡ walks_into seating enter p.program (trees_of b) (option_to_list (goal_at b))
          (taking_on p ks vs (named_top p ks T next lim j vs s c top ns) under w)
      by true =
          first-side seating enter p kids
          (goal_of s (to_take (append_items y more) j.env j.most j.statement ∷ j.tasks))
          (goal_at true) (goal_at false) same there
          (taking_on p ks vs (named_top p ks T next lim j vs s c top ns) under w)
      by false =
          second-side seating enter p kids
          (goal_of s (to_take (append_items y more) j.env j.most j.statement ∷ j.tasks))
          (goal_at true) (goal_at false) same there
          (taking_on p ks vs (named_top p ks T next lim j vs s c top ns) under w)

  -- what is drawn of the side is what is met
  side-met :
      (b : Bool) (U : Table) (a : Valuation) (q r : Stock)
      (k : Relates
      (side_op p.program ks T of_choice (valuation vs) s c f.start.ready f.start.backed x y z more
      refl b) (value_by_sort x.sort a x.left) (value_by_sort x.sort a x.right))
      (d : DrawsAll p.program U a (items_of b) q r) →
      (item_met p.program U a (choose x y z) q r
      (side-drawn p.program ks T of_choice (valuation vs) s c f.start.ready f.start.backed x y z
      more refl b U a q r k d)
      ≡ items_met p.program U a (items_of b) q r d)
      × (item_told p.program U a (choose x y z) q r
      (side-drawn p.program ks T of_choice (valuation vs) s c f.start.ready f.start.backed x y z
      more refl b U a q r k d)
      ≡ items_told p.program U a (items_of b) q r d)
  side-met true U a q r k d = (refl, refl)
  side-met false U a q r k d = (refl, refl)

  side-fewer :
      (b : Bool) → suc (trees_size (trees_of b)) ≤ trees_size (tree (node by_cases kids) no_trees)
  side-fewer true =
      let e = trees-sizes (length (option_to_list (goal_at true))) kids in omega (arith, e)
  side-fewer false =
      let e = trees-sizes (length (option_to_list (goal_at true))) kids in omega (arith, e)

  side-goes :
      (b : Bool) →
      Children p.N kids (option_to_list (goal_at true) ++ option_to_list (goal_at false)) →
      Children p.N (trees_of b) (option_to_list (goal_at b))
  side-goes true h =
      children-first p.N kids (option_to_list (goal_at true)) (option_to_list (goal_at false)) h
  side-goes false h =
      children-later p.N kids (option_to_list (goal_at true)) (option_to_list (goal_at false)) h

  side-step :
      (b : Bool) (ns : List NameValue) → NamesSo j.scope vs (env_at s j.env) ns →
      ChoicePasses ns → Tells b → holds_by ns x ≡ traced b →
      goals_left p.program (goal s (tasks_of of_choice)) by_cases
      ≡ option_to_list (goal_at true) ++ option_to_list (goal_at false) →
      Children p.N kids (option_to_list (goal_at true) ++ option_to_list (goal_at false)) →
      Steps p ks T next lim j vs s c top (item (choose x y z) more)
      (tree (node by_cases kids) no_trees)
  side-step b ns so pass t e goals there =
      let pp = p.program in
      let it = side-turned pp ks T of_choice (valuation vs) s c f.start.ready f.start.backed x y z
      more refl (Children p.N (trees_of b)) b t (side-goes b there) in
      let xs = items_of b in
      record {
        brings = [];
        head = it.head;
        rest = it.rest;
        fits = it.fits;
        turns = it.turns;
        children = trees_of b;
        no_larger = side-fewer b;
        goes = it.goes;
        values = vs;
        valued = refl;
        sorted = f.sorted;
        terms = f.terms;
        now = named_top p ks T next lim j vs s c top ns;
        names = so.same;
        have = so.fits;
        binds = λ i has e. inl (bound-behind i (items_of b) more e);
        shaped = shaped-same j.scope vs (env_at s j.env) (env_at s j.env) ns so (λ b. b);
        wildcards = [];
        facts = [];
        more_wildcards = sym (join-nil top.fill.wildcards);
        more_facts = sym (join-nil top.fill.facts);
        met = λ U g w l a m q r d under.
            let u = draws-apart pp U a xs more q r d in
            let le = inside-second pp no_stock q in
            let k = t.says w l a m in
            let drawn = side-drawn pp ks T of_choice (valuation vs) s c f.start.ready
            f.start.backed x y z more refl b U a q u.0 k u.1 in
            let out = draws-more pp U a (choose x y z) q (both pp no_stock q) u.0 le drawn in
            let here = side-met b U a q u.0 k u.1 in (
              met-items pp U a (item (choose x y z) more) (item (choose x y z) more)
                  (both pp no_stock q) r (sym refl) (u.0, out, u.2)
                  ∙ ap (λ ws. ws ++ items_met pp U a more u.0 r u.2)
                  (item-met-out pp U a (choose x y z) q (both pp no_stock q) u.0 le drawn
                  ∙ here.0)
                  ∙ sym (met-apart pp U a xs more q r d),
              told-items pp U a (item (choose x y z) more) (item (choose x y z) more)
                  (both pp no_stock q) r (sym refl) (u.0, out, u.2)
                  ∙ ap (λ ws. ws ++ items_told pp U a more u.0 r u.2)
                  (item-told-out pp U a (choose x y z) q (both pp no_stock q) u.0 le drawn
                  ∙ here.1)
                  ∙ sym (told-apart pp U a xs more q r d),
            );
        part = sym (none-right pp (part_stock top.part));
        leads = λ seating enter w under. side-leads b ns pass e goals there seating enter w under;
      }

  pub choose-step :
      p.N (node by_cases kids) s (tasks_of (with_items j (item (choose x y z) more))) →
      Wide p ks T next lim j vs s c top (item (choose x y z) more)
      (tree (node by_cases kids) no_trees)
      ⊎ Steps p ks T next lim j vs s c top (item (choose x y z) more)
      (tree (node by_cases kids) no_trees)
  choose-step h =
      with-names p ks T next lim j vs s c top (choose x y z) more by_cases kids (λ enter w. refl) f
      (λ ns so pass.
      let g = sides-found p.program ks T of_choice (valuation vs) s c f.start.ready f.start.backed x
      y z more refl
      (AtNode p ks T next j (choose x y z) more by_cases kids vs (valuation vs) s c top)
      f.start.fits (node-leads p by_cases kids s (tasks_of of_choice) h) in
      elim (side-known ns so g.side g.told (holds_by ns x) refl) [
        | inl wide ↦ inl (λ seating enter w under below.
            node-wide p ks T next seating enter (choose x y z) more j by_cases kids s
            (taking_on p ks vs top under w)
            (pass enter w under
            ∙ ap (λ o. o >>= λ b. traced (descends (side_child b
            (goals_of s (to_take (append_items y more) j.env j.most j.statement ∷ j.tasks)))
            (taking_on p ks vs (named_top p ks T next lim j vs s c top ns) under w))) wide))
        | inr told ↦ inr (side-step g.side ns so pass g.told told g.goes.0 g.goes.1)
      ])
