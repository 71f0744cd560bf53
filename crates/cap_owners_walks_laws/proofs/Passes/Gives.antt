-- A walk that gives items, by what they are met: it comes to the goals to which giving them leads,
-- at the values at which the state holds there.
use Rattle.std.proofs.Common.{◌≡◌, ◌⊎◌, inl, inr, ℕ, zero, suc, ◌+◌, ◌≤◌, ℤ, Bool, true, false, List, [], ◌∷◌, ◌++◌, length, Option, Some, None, refl, sym, ap, ◌∙◌, subst, arith}
use Rattle.std.specs.Prelude.{option_to_list, if◌then◌else◌}
use Rattle.std.proofs.lemmas.Slice.Zip.{AllZip-long}
use Rattle.std.specs.List.{AllByRecursion, AllZip}
use Rattle.cap_lin.specs.Linear.{Linear}
use Rattle.cap_lin.specs.Rows.{row_of}
use Rattle.cap_lin.specs.Values.{Valuation}
use Rattle.cap_lin.specs.declared.row.Op.{Op}
use Rattle.cap_prog.specs.declared.assertion.Comp.{Comp}
use Rattle.cap_prog.specs.Program.{PlainItem, compare, choose, fact, atom, cell, Items, none, item, append_items, PlainProgram}
use Rattle.cap_prog.specs.Parts.{all_items}
use Rattle.cap_prog.specs.Scopes.{Scope}
use Rattle.cap_prog.specs.WellFormed.{ItemFits}
use Rattle.cap_goal_spec.specs.States.{PlainState, PlainTask, to_give, PlainGoal, goal, goal_of, goals_of}
use Rattle.cap_goal_spec.specs.Choices.{PlainTree, node, PlainTrees, no_trees, tree, by_absurd, by_give}
use Rattle.cap_rules.specs.Making.{env_at, opposite}
use Rattle.cap_rules.specs.Giving.{Given as Pair, given as pair, give_sides, give_item, give}
use Rattle.cap_rules_nodes.specs.Nodes.{goals_left}
use Rattle.cap_machine_accounts.specs.Assertions.{NameValue}
use Rattle.cap_account_resources.specs.Parts.{Table}
use Rattle.cap_account_resources.proofs.Lists.{some-same, join-nil, join-assoc, all-first, all-second}
use Rattle.cap_account_resources.proofs.Order.{unless-relates}
use Rattle.cap_account_resources.proofs.Stocks.{Stock, both, Composes, stock-laws, none-right, inside-same}
use Rattle.cap_account_states.specs.Nodes.{Comes, Children, Open}
use Rattle.cap_account_states.proofs.Attempts.{comes-bind, after-comparison, row_added}
use Rattle.cap_account_states.proofs.Meets.{solves}
use Rattle.cap_account_states.proofs.Backed.{IsFirm, Backed}
use Rattle.cap_account_states.proofs.Checked.{Checked, children-split, lone-child, first_trees, later_trees}
use Rattle.cap_account_states.proofs.Filled.{Filled, filled_at, fill_sides}
use Rattle.cap_account_states.proofs.Naming.{Means, Step}
use Rattle.cap_account_states.proofs.Items.{items_size, size-positive, append-size, AreFit, fits-sides}
use Rattle.cap_account_assertions.proofs.Asserted.{DrawsAll}
use Rattle.cap_account_assertions.proofs.Filling.{fill_item, fill_items}
use Rattle.cap_account_assertions.proofs.GivenTrees.{has_items, items_trees}
use Rattle.cap_account_assertions.proofs.Laws.{StateAt, Given}
use Rattle.cap_account_assertions.proofs.GiveTerms.{sides-given, sides-row}
use Rattle.cap_account_assertions.proofs.GiveState.{StillDrawn, onward-step, Due}
use Rattle.cap_account_assertions.proofs.GiveItems.{IsPlain, item-gives}
use Rattle.cap_account_assertions.proofs.GiveLaw.{given-on, given-none, side-due}
use Rattle.cap_owners_spec.specs.Traced.{Traced, traced, past_width, ◌>>=◌, valuation, holds_by}
use Rattle.cap_owners_spec.specs.Track.{Fill}
use Rattle.cap_owners_spec.specs.Filling as filling
use Rattle.cap_owners_spec.specs.Walks.{Walk, Descent, descends, bringing, side_child, no_items, left_fill, Interpreting, pass_parting, Halt, walk_below}
use Rattle.cap_owners_walks_laws.proofs.Values.More.{FitsSort}
use Rattle.cap_owners_walks_laws.proofs.Fills.Drawn.{item_met, items_met, met-join}
use Rattle.cap_owners_walks_laws.proofs.Fills.Amounts.{item_drawn, items_drawn, drawn-join}
use Rattle.cap_owners_walks_laws.proofs.Fills.Giving as giving
use Rattle.cap_owners_walks_laws.proofs.Fills.Siding.{is_first, side-picked}
use Rattle.cap_owners_walks_laws.proofs.Walks.Leading.{comes-itself, node-leads}
use Rattle.cap_owners_walks_laws.proofs.Passes.Rests.{walks_into, below-wide}
use Rattle.cap_owners_walks_laws.proofs.Parts.Held.{IsOf}
use Rattle.cap_owners_walks_laws.proofs.Passes.Exactly.{of-step, item-just}
use Rattle.cap_owners_walks_laws.proofs.Passes.Sorting.{SortsSo, sides-sorted, item-sorted}

-- a walk goes there, or a number on its way is too wide
abbrev pub GoesTo : Traced Halt → Traced Halt → Type 0
GoesTo x y = (x ≡ past_width) ⊎ (x ≡ y)

-- ---- into the trees of two sides

module _ (seating : Bool) (enter : Interpreting) (p : PlainProgram) where
  below-first :
      (ks : PlainTrees) (one : Option PlainGoal) (g : PlainGoal) (hs : List PlainGoal) (w : Walk) →
      one ≡ Some g →
      walk_below enter p seating ks (option_to_list one ++ hs) (traced (descends (Some 0) w))
      ≡ walks_into seating enter p (first_trees (length (option_to_list one)) ks) (option_to_list one) w
  below-first ks one g hs w e =
      subst (λ o.
      walk_below enter p seating ks (option_to_list o ++ hs) (traced (descends (Some 0) w))
      ≡ walks_into seating enter p (first_trees (length (option_to_list o)) ks) (option_to_list o) w) (sym e)
      (by ks)
    where
      by :
          (ks : PlainTrees) →
          walk_below enter p seating ks (g ∷ hs) (traced (descends (Some 0) w))
          ≡ walks_into seating enter p (first_trees 1 ks) (g ∷ []) w
      by no_trees = refl
      by (tree t ts) = refl

  below-later :
      (ks : PlainTrees) (one : Option PlainGoal) (g : PlainGoal) (hs : List PlainGoal) (w : Walk) →
      one ≡ Some g →
      walk_below enter p seating ks (option_to_list one ++ hs) (traced (descends (Some 1) w))
      ≡ walks_into seating enter p (later_trees (length (option_to_list one)) ks) hs w
  below-later ks one g hs w e =
      subst (λ o.
      walk_below enter p seating ks (option_to_list o ++ hs) (traced (descends (Some 1) w))
      ≡ walks_into seating enter p (later_trees (length (option_to_list o)) ks) hs w) (sym e) (by ks hs)
    where
      by :
          (ks : PlainTrees) (hs : List PlainGoal) →
          walk_below enter p seating ks (g ∷ hs) (traced (descends (Some 1) w))
          ≡ walks_into seating enter p (later_trees 1 ks) hs w
      by no_trees [] = refl
      by no_trees (h ∷ hs) = refl
      by (tree t ts) hs = refl

module _ (p : Checked) (T : Table) (sc : Scope) (e : ℕ) (names : List NameValue)
    (ok : giving.NamesFit sc names) (total : Stock) (goal_is : Filled) (ne : Composes total) (n : ℕ)
    (ts : List PlainTask) (remains : (s : PlainState) → (g : PlainGoal) × (goal_of s ts ≡ Some g))
    (left : List NameValue) where
  abbrev a : Valuation
  a = valuation names

  abbrev IsDue : (PlainTrees → PlainTrees) → Items → Valuation → PlainState → Type 0
  IsDue way items v s = Due p.program T sc e a total goal_is way items v s

  abbrev IsGiven : Valuation → PlainState → Type 0
  IsGiven v s = Given p T e v total s ts goal_is

  -- by what these items are met, and what is left behind them
  abbrev met_by :
      (way : PlainTrees → PlainTrees) (items : Items) (v : Valuation) (s : PlainState) →
      IsDue way items v s → List NameValue
  met_by way items v s d = items_met p.program T a items d.left d.rest d.draws ++ left

  abbrev fill_of : List NameValue → List (ℤ × ℤ) → Fill
  fill_of ws fs = record { names = names; wildcards = ws; facts = fs }

  -- a walk that is to give these items by the fill; where there are none it doesn't look
  abbrev to_start : Items → List NameValue → List NameValue → List (ℤ × ℤ) → Walk → Walk
  to_start items vs ws fs w = record w {
    values = vs;
    fill = if no_items items then w.fill else Some (fill_of ws fs);
  }

  abbrev to_end : Items → List NameValue → Walk → Walk
  to_end items vs w = record w {
    values = vs;
    fill = if no_items items then w.fill else None;
  }

  -- The items are given so, by soundness's law. A walk goes there, or a number is too wide.
  pub record GivesTo (items : Items) (trees : PlainTrees) (vs ws : List NameValue) (v : Valuation)
      (s : PlainState) : Type 0 where
    pub given : IsGiven v s
    pub values : List NameValue
    pub valued : given.w ≡ valuation values
    pub sorted : AllZip FitsSort given.after.sorts values
    pub walks :
        (seating : Bool) (enter : Interpreting) (w : Walk) (fs : List (ℤ × ℤ)) →
        GoesTo
        (walks_into seating enter p.program trees (goals_of s (to_give items e n ∷ ts))
        (to_start items vs ws fs w))
        (walks_into seating enter p.program given.children (goals_of given.after ts) (to_end items values w))

  -- a state that has just a stock has just so much more once it is given
  abbrev JustMore : (v : Valuation) (s : PlainState) → IsGiven v s → Stock → Type 0
  JustMore v s given more =
      (q : Stock) → IsOf p.program v s q → IsOf p.program given.w given.after (both p.program q more)

  pub record GivesJust (items : Items) (trees : PlainTrees) (vs ws : List NameValue)
      (v : Valuation) (s : PlainState) (more : Stock) : Type 0 where
    pub gives : GivesTo items trees vs ws v s
    pub just : JustMore v s gives.given more

  -- what is drawn
  abbrev drawn_by :
      (way : PlainTrees → PlainTrees) (items : Items) (v : Valuation) (s : PlainState) →
      IsDue way items v s → Stock
  drawn_by way items v s d = items_drawn p.program T a items d.left d.rest d.draws

  -- midway in the node of a state, with these items left
  record ListTo (items : Items) (kids : PlainTrees) (gs : List PlainGoal) (s0 : PlainState)
      (vs : List NameValue) (g : filling.Giving) (v : Valuation) (s : PlainState) (more : Stock)
      : Type 0 where
    given : IsGiven v s
    just : JustMore v s given more
    values : List NameValue
    valued : given.w ≡ valuation values
    sorted : AllZip FitsSort given.after.sorts values
    walks :
        (seating : Bool) (enter : Interpreting) (w : Walk) (ws : List NameValue) (fs : List (ℤ × ℤ)) →
        GoesTo
        (walk_below enter p.program seating kids gs
        (pass_parting s0 e n ts (fill_of ws fs) (filling.give_all names items g)
        (record w { values = vs }) (filling.parting items)))
        (walks_into seating enter p.program given.children (goals_of given.after ts)
        (record w { values = values; fill = None }))

  -- the goals of the node are these, and each has its tree
  abbrev Here : PlainTrees → List PlainGoal → List PlainGoal → Type 0
  Here kids gs hs = (gs ≡ hs) × Children p.N kids hs

  abbrev So :
      (way : PlainTrees → PlainTrees) (items : Items) (vs : List NameValue) (g : filling.Giving)
      (v : Valuation) (s : PlainState) → IsDue way items v s → Type 0
  So way items vs g v s d = giving.GivesSo vs (met_by way items v s d) g (filled_at e v s)

  abbrev Sorted : List NameValue → filling.Giving → PlainState → Type 0
  Sorted vs g s = AllZip FitsSort s.sorts (vs ++ g.new)

  sorts-so :
      (way : PlainTrees → PlainTrees) (items : Items) (vs : List NameValue) (g : filling.Giving)
      (v : Valuation) (s : PlainState) (d : IsDue way items v s) → So way items vs g v s d →
      Sorted vs g s → SortsSo sc e names vs ok (met_by way items v s d) g s
  sorts-so way items vs g v s d so sorted = record {
    there = d.underway.ready.there;
    bound = so.bound;
    sorted = sorted;
    wildcards = so.wildcards;
  }

  abbrev ListLeads : (PlainTrees → PlainTrees) → Items → Type 0
  ListLeads way items =
      (kids : PlainTrees) (gs : List PlainGoal) (s0 : PlainState) (vs : List NameValue)
      (g : filling.Giving) (v : Valuation) (s : PlainState) →
      Comes (give p.program s e n ts items) (Here kids gs) → (d : IsDue way items v s) →
      So way items vs g v s d → Sorted vs g s →
      ListTo items kids gs s0 vs g v s (drawn_by way items v s d)

  none-to : (way : PlainTrees → PlainTrees) → ListLeads way none
  none-to way kids gs s0 vs g v s h d so sorted = record {
    given = (given-none p T sc e a total goal_is ne n ts way kids v s h.1.1 d).given;
    just = λ q o. subst (IsOf p.program v s) (sym (none-right p.program q)) o;
    values = vs ++ g.new;
    valued = so.values;
    sorted = sorted;
    walks = λ seating enter w ws fs.
        inr (ap (λ hs. walk_below enter p.program seating kids hs
        (traced (descends (Some 0) (record w { values = vs ++ g.new; fill = None })))) h.1.0);
  }

  after-to :
      (way : PlainTrees → PlainTrees) (i : PlainItem) (more : Items) → IsPlain i →
      ListLeads way more → filling.parting (item i more) ≡ filling.parting more →
      ((g : filling.Giving) → filling.give_all names (item i more) g
      ≡ filling.give_all names more (filling.give_item names i g)) →
      (kids : PlainTrees) (gs : List PlainGoal) (s0 : PlainState) (vs : List NameValue)
      (g : filling.Giving) (v : Valuation) (s : PlainState) →
      Comes (give_item p.program s e i)
      (λ t. Comes (give p.program t e n ts more) (Here kids gs)) →
      (d : IsDue way (item i more) v s) → So way (item i more) vs g v s d → Sorted vs g s →
      ListTo (item i more) kids gs s0 vs g v s (drawn_by way (item i more) v s d)
  after-to way i more plain law same_parting same_all kids gs s0 vs g v s h d so sorted =
      let P = λ (t : PlainState). Comes (give p.program t e n ts more) (Here kids gs) in
      let Q = λ (t : PlainState). ((give_item p.program s e i).value ≡ Some t) × P t in
      let hq = comes-itself (give_item p.program s e i) P h in
      let x = item-gives p.program T sc e a total goal_is way ne i plain more v s Q d hq in
      let now = filling.give_item names i g in
      let met = item_met p.program T a i d.left d.draws.0 d.draws.1 in
      let behind = items_met p.program T a more d.draws.0 d.rest d.draws.2 in
      let given_so = giving.item-gives sc names vs ok p.program T (behind ++ left) i plain d.left
      d.draws.0 d.draws.1 g (filled_at e v s) d.fit.0
      (subst (λ ws. giving.GivesSo vs ws g (filled_at e v s)) (sym (join-assoc met behind left)) so)
      in
      let next : So way more vs now x.w x.after x.due =
      subst (λ f. giving.GivesSo vs (met_by way more x.w x.after x.due) now f) (sym x.filled)
      (subst (λ (y : StillDrawn p.program T sc e a total goal_is way more).
      giving.GivesSo vs (items_met p.program T a more y.0 y.1 y.2 ++ left) now
      (fill_item p.program T a i d.left d.draws.0 d.draws.1 (filled_at e v s))) (sym x.drawn)
      given_so) in
      -- the state is the one in which the variables that are new have values of their sorts
      let y = item-sorted sc e names vs ok p.program T (behind ++ left) i plain d.left d.draws.0
      d.draws.1 g s Q d.fit.0
      (subst (λ ws. SortsSo sc e names vs ok ws g s) (sym (join-assoc met behind left))
      (sorts-so way (item i more) vs g v s d so sorted)) hq in
      let same_state = some-same y.0 x.after (sym y.2.0 ∙ x.comes.0) in
      let r = law kids gs s0 vs now x.w x.after x.comes.1 x.due next
      (subst (Sorted vs now) same_state y.1.sorted) in
      -- and it has just what is drawn
      let z = item-just p.program T sc e a total goal_is way ne i plain more v s Q d hq in
      let one = item_drawn p.program T a i d.left d.draws.0 d.draws.1 in
      record {
        given = (given-on p T e v x.w total s x.after ts goal_is r.given.children x.onward
            (record { given = r.given; along = refl })).given;
        just = λ q o.
            subst (IsOf p.program r.given.w r.given.after)
            (ap (both p.program (both p.program q one))
            (ap (λ (y : StillDrawn p.program T sc e a total goal_is way more).
            items_drawn p.program T a more y.0 y.1 y.2) x.drawn)
            ∙ (stock-laws p.program).assoc q one
            (items_drawn p.program T a more d.draws.0 d.rest d.draws.2))
            (r.just (both p.program q one)
            (subst (λ w. IsOf p.program w x.after (both p.program q one))
            (ap (λ (f : Filled). f.values) (z.filled ∙ sym x.filled))
            (subst (λ t. IsOf p.program z.w t (both p.program q one))
            (some-same z.after x.after (sym z.comes.0 ∙ x.comes.0)) (z.just q o))));
        values = r.values;
        valued = r.valued;
        sorted = r.sorted;
        walks = λ seating enter w ws fs.
            let same = ap (λ all. walk_below enter p.program seating kids gs
            (pass_parting s0 e n ts (fill_of ws fs) all (record w { values = vs })
            (filling.parting (item i more)))) (same_all g)
            ∙ ap (λ o. walk_below enter p.program seating kids gs
            (pass_parting s0 e n ts (fill_of ws fs) (filling.give_all names more now)
            (record w { values = vs }) o)) same_parting in
            elim (r.walks seating enter w ws fs) [
              | inl wide ↦ inl (same ∙ wide)
              | inr on ↦ inr (same ∙ on)
            ];
      }

  -- ---- the sides of a conditional

  -- up to this size
  abbrev AllLead : ℕ → Type 0
  AllLead size =
      (way : PlainTrees → PlainTrees) (items : Items) → items_size items ≤ size →
      (ks : PlainTrees) (vs ws : List NameValue) (v : Valuation) (s : PlainState) →
      Open p.N ks s (to_give items e n ∷ ts) → (d : IsDue way items v s) → v ≡ valuation vs →
      AllZip FitsSort s.sorts vs → ws ≡ met_by way items v s d →
      GivesJust items ks vs ws v s (drawn_by way items v s d)

  remains-give :
      (s : PlainState) (items : Items) →
      (g : PlainGoal) × (goal_of s (to_give items e n ∷ ts) ≡ Some g)
  remains-give s none = remains s
  remains-give s (item i more) = (goal s (to_give (item i more) e n ∷ ts), refl)

  none-either : (b : Bool) (o : Option Fill) → o ≡ None → (if b then o else None) ≡ None
  none-either true o e = e
  none-either false o e = refl

  -- by the side that is drawn, where a walk picks it
  module _ (way : PlainTrees → PlainTrees) (c : Comp) (x y side more : Items) (kids : PlainTrees)
      (gs : List PlainGoal) (s0 : PlainState) (vs : List NameValue) (g : filling.Giving)
      (v : Valuation) (s : PlainState) (d : IsDue way (item (choose c x y) more) v s)
      (so : So way (item (choose c x y) more) vs g v s d) (t : PlainState) (m : Step sc e a v s t)
      (sorted : AllZip FitsSort t.sorts (vs ++ (filling.give_comparison names c g).new)) (size : ℕ)
      (law : AllLead size) where
    abbrev now : filling.Giving
    now = filling.give_comparison names c g

    abbrev rest_of : Bool → Items
    rest_of b = if b then append_items x more else append_items y more

    abbrev side_walk : List NameValue → List (ℤ × ℤ) → Walk → Bool → Traced Descent
    side_walk ws fs w b =
        traced (descends (side_child b (goals_of s0 (to_give (append_items x more) e n ∷ ts)))
        (record (bringing (record w { values = vs }) now.new) {
          fill = left_fill (rest_of b) (fill_of ws fs) now;
        }))

    side-to :
        AreFit p.program sc side → (took : DrawsAll p.program T a side d.left d.draws.0) →
        filled_at e m.w t ≡ fill_sides a c (filled_at e v s) →
        fill_items p.program T a more d.draws.0 d.rest d.draws.2
        (fill_items p.program T a side d.left d.draws.0 took (fill_sides a c (filled_at e v s)))
        ≡ goal_is →
        items_met p.program T a (item (choose c x y) more) d.left d.rest d.draws
        ≡ items_met p.program T a side d.left d.draws.0 took
        ++ items_met p.program T a more d.draws.0 d.rest d.draws.2 →
        items_drawn p.program T a (item (choose c x y) more) d.left d.rest d.draws
        ≡ both p.program (items_drawn p.program T a side d.left d.draws.0 took)
        (items_drawn p.program T a more d.draws.0 d.rest d.draws.2) →
        items_size (append_items side more) ≤ size → (ls : PlainTrees) →
        Open p.N ls t (to_give (append_items side more) e n ∷ ts) → (b : Bool) →
        (holds_by names c ≡ past_width) ⊎ (holds_by names c ≡ traced b) →
        rest_of b ≡ append_items side more →
        ((seating : Bool) (enter : Interpreting) (w : Walk) → walk_below enter p.program seating kids gs
        (traced (descends (side_child b (goals_of s0 (to_give (append_items x more) e n ∷ ts))) w))
        ≡ walks_into seating enter p.program ls (goals_of t (to_give (append_items side more) e n ∷ ts)) w) →
        ListTo (item (choose c x y) more) kids gs s0 vs g v s
        (drawn_by way (item (choose c x y) more) v s d)
    side-to fit took filled fills met drawn small ls open_there b picked side_is walks =
        let due = side-due p T sc e a total goal_is ne n ts way c x y side more v s t d m fit took
        filled fills in
        let behind = λ (ks : PlainTrees). items_trees p.program T a more false d.draws.0 d.rest
        d.draws.2 (items_trees p.program T a side (has_items more) d.left d.draws.0 took ks) in
        let all = append_items side more in
        let given_so = giving.sides-give sc names vs ok
        (met_by way (item (choose c x y) more) v s d) c g (filled_at e v s) d.fit.0 so in
        let all_just = law behind all small ls (vs ++ now.new) now.wildcards m.w t open_there due
        (ap (λ (f : Filled). f.values) filled ∙ given_so.values) sorted
        (given_so.wildcards
        ∙ ap (λ ws. ws ++ left)
        (met ∙ sym (met-join p.program T a side more d.left d.draws.0 d.rest took d.draws.2))) in
        let r = all_just.gives in
        record {
          given = (given-on p T e v m.w total s t ts goal_is r.given.children
              (onward-step sc e a v s t m) (record { given = r.given; along = refl })).given;
          just = λ q o.
              subst (λ z. IsOf p.program r.given.w r.given.after (both p.program q z))
              (drawn-join p.program T a side more d.left d.draws.0 d.rest took d.draws.2
              ∙ sym drawn)
              (all_just.just q (of-step p.program T sc e a v s t d.held q d.underway m o));
          values = r.values;
          valued = r.valued;
          sorted = r.sorted;
          walks = λ seating enter w ws fs. elim picked [
            | inl wide ↦
                inl (ap (λ o. walk_below enter p.program seating kids gs (o >>= side_walk ws fs w))
                wide ∙ below-wide enter p.program seating kids gs)
            | inr told ↦
                let there = ap (λ o. walk_below enter p.program seating kids gs
                (o >>= side_walk ws fs w)) told
                ∙ ap (λ it. walk_below enter p.program seating kids gs
                (traced (descends
                (side_child b (goals_of s0 (to_give (append_items x more) e n ∷ ts)))
                (record (bringing (record w { values = vs }) now.new) {
                  fill = left_fill it (fill_of ws fs) now;
                })))) side_is
                ∙ walks seating enter (record (bringing (record w { values = vs }) now.new) {
                  fill = left_fill all (fill_of ws fs) now;
                }) in
                elim (r.walks seating enter (record w { fill = None }) fs) [
                  | inl wide ↦ inl (there ∙ wide)
                  | inr on ↦ inr (there ∙ on
                      ∙ ap (λ o. walks_into seating enter p.program r.given.children (goals_of r.given.after ts)
                      (record w { values = r.values; fill = o }))
                      (none-either (no_items all) None refl))
                ]
          ];
        }

  choice-to :
      (way : PlainTrees → PlainTrees) (size : ℕ) → AllLead size → (c : Comp)
      (x y more : Items) → items_size (append_items x more) ≤ size →
      items_size (append_items y more) ≤ size → ListLeads way (item (choose c x y) more)
  choice-to way size law c x y more small_x small_y kids gs s0 vs g v s h d so sorted =
      let fit = fits-sides p.program sc (choose c x y) more d.fit in
      let hq = comes-itself (give_sides s e c) _ (comes-bind (give_sides s e c) _ (Here kids gs) h)
      in
      let sg = sides-given sc e a v s c _ d.underway.ready d.fit.0 hq in
      let ss = sides-sorted sc e names vs ok (met_by way (item (choose c x y) more) v s d) c g s _
      d.fit.0 (sorts-so way (item (choose c x y) more) vs g v s d so sorted) hq in
      let sides_sorted : AllZip FitsSort sg.after.sorts (vs ++ (filling.give_comparison names c g).new) =
      subst (λ (y : Pair (Linear × Linear)).
      AllZip FitsSort y.state.sorts (vs ++ (filling.give_comparison names c g).new))
      (some-same ss.0 (pair sg.after (sg.left, sg.right)) (sym ss.2.0 ∙ sg.comes.0)) ss.1.sorted in
      let after = λ (op : Op). row_added sg.after (row_of sg.left op sg.right c.sort) in
      let todo = λ (side : Items). to_give (append_items side more) e n ∷ ts in
      let first = after-comparison sg.after sg.left c.op sg.right c.sort _ (Here kids gs) sg.comes.1
      in
      let second =
      after-comparison sg.after sg.left (opposite c.op) sg.right c.sort _ (Here kids gs) first in
      let one = goal_of (after c.op) (todo x) in
      let other = goal_of (after (opposite c.op)) (todo y) in
      let k = children-split p.N kids (option_to_list one) (option_to_list other) second.1.1 in
      let there = remains-give (after c.op) (append_items x more) in
      let at = remains-give s0 (append_items x more) in
      (elim d.draws.1 as (λ o.
      fill_items p.program T a more d.draws.0 d.rest d.draws.2
      (fill_item p.program T a (choose c x y) d.left d.draws.0 o (filled_at e v s)) ≡ goal_is →
      (items_met p.program T a (item (choose c x y) more) d.left d.rest d.draws
      ≡ item_met p.program T a (choose c x y) d.left d.draws.0 o
      ++ items_met p.program T a more d.draws.0 d.rest d.draws.2) →
      (items_drawn p.program T a (item (choose c x y) more) d.left d.rest d.draws
      ≡ both p.program (item_drawn p.program T a (choose c x y) d.left d.draws.0 o)
      (items_drawn p.program T a more d.draws.0 d.rest d.draws.2)) →
      (holds_by names c ≡ past_width) ⊎ (holds_by names c ≡ traced (is_first o)) →
      ListTo (item (choose c x y) more) kids gs s0 vs g v s
      (drawn_by way (item (choose c x y) more) v s d)) [
        | inl w ↦ λ fills met drawn picked.
            side-to way c x y x more kids gs s0 vs g v s d so (after c.op)
            (sides-row sc e a v s c c.op _ sg w.0) sides_sorted size law
            (all-first (ItemFits p.program sc) (all_items x) (all_items y) fit) w.1 sg.filled fills
            met drawn small_x k.left k.first true picked refl
            (λ seating enter w. ap (λ hs. walk_below enter p.program seating kids hs
            (traced (descends (side_child true (goals_of s0 (todo x))) w))) second.1.0
            ∙ ap (λ o. walk_below enter p.program seating kids
            (option_to_list one ++ option_to_list other)
            (traced (descends (side_child true (option_to_list o)) w))) at.1
            ∙ below-first seating enter p.program kids one there.0 (option_to_list other) w there.1)
        | inr w ↦ λ fills met drawn picked.
            side-to way c x y y more kids gs s0 vs g v s d so (after (opposite c.op))
            (sides-row sc e a v s c (opposite c.op) _ sg (unless-relates c.op _ _ w.0)) sides_sorted size
            law
            (all-second (ItemFits p.program sc) (all_items x) (all_items y) fit) w.1 sg.filled fills
            met drawn small_y k.right k.second false picked refl
            (λ seating enter w. ap (λ hs. walk_below enter p.program seating kids hs
            (traced (descends (side_child false (goals_of s0 (todo x))) w))) second.1.0
            ∙ ap (λ o. walk_below enter p.program seating kids
            (option_to_list one ++ option_to_list other)
            (traced (descends (side_child false (option_to_list o)) w))) at.1
            ∙ below-later seating enter p.program kids one there.0 (option_to_list other) w there.1)
      ]) d.fills refl refl (side-picked p.program T names c x y d.left d.draws.0 d.draws.1)

  -- ---- all items

  list-to :
      (way : PlainTrees → PlainTrees) (size : ℕ) → AllLead size → (items : Items) →
      items_size items ≤ size + 1 → ListLeads way items
  list-to way size law none le kids gs s0 vs g v s h d so sorted =
      none-to way kids gs s0 vs g v s h d so sorted
  list-to way size law (item (choose c x y) more) le kids gs s0 vs g v s h d so sorted =
      let l = append-size x more in
      let r = append-size y more in
      choice-to way size law c x y more (omega (arith, le, l)) (omega (arith, le, r)) kids gs s0 vs
      g v s h d so sorted
  list-to way size law (item (compare c) more) le kids gs s0 vs g v s h d so sorted =
      after-to way (compare c) more tt (list-to way size law more (omega (arith, le))) refl
      (λ g. refl) kids gs s0 vs g v s
      (comes-bind (give_item p.program s e (compare c)) _ (Here kids gs) h) d so sorted
  list-to way size law (item (fact place m k args x) more) le kids gs s0 vs g v s h d so sorted =
      after-to way (fact place m k args x) more tt (list-to way size law more (omega (arith, le)))
      refl (λ g. refl) kids gs s0 vs g v s
      (comes-bind (give_item p.program s e (fact place m k args x)) _ (Here kids gs) h) d so sorted
  list-to way size law (item (atom place m k i asked) more) le kids gs s0 vs g v s h d so sorted =
      after-to way (atom place m k i asked) more tt (list-to way size law more (omega (arith, le)))
      refl (λ g. refl) kids gs s0 vs g v s
      (comes-bind (give_item p.program s e (atom place m k i asked)) _ (Here kids gs) h) d so sorted
  list-to way size law (item (cell place x y) more) le kids gs s0 vs g v s h d so sorted =
      after-to way (cell place x y) more tt (list-to way size law more (omega (arith, le))) refl
      (λ g. refl) kids gs s0 vs g v s
      (comes-bind (give_item p.program s e (cell place x y)) _ (Here kids gs) h) d so sorted

  -- a node gives them, or has no values
  node-to :
      (way : PlainTrees → PlainTrees) (size : ℕ) → AllLead size → (i : PlainItem)
      (more : Items) → items_size (item i more) ≤ size + 1 → (t : PlainTree)
      (vs ws : List NameValue) (v : Valuation) (s : PlainState) →
      p.N t s (to_give (item i more) e n ∷ ts) → (d : IsDue way (item i more) v s) →
      v ≡ valuation vs → AllZip FitsSort s.sorts vs → ws ≡ met_by way (item i more) v s d →
      GivesJust (item i more) (tree t no_trees) vs ws v s (drawn_by way (item i more) v s d)
  node-to way size law i more le (node (by_absurd c) ks) vs ws v s h d is sorted met =
      absurd ((p.step h).0.0 v (solves [] v s d.underway.ready.meets))
  node-to way size law i more le (node by_give ks) vs ws v s h d is sorted met =
      let tasks = to_give (item i more) e n ∷ ts in
      let start : filling.Giving = record { env = env_at s e; new = []; wildcards = ws } in
      let same = join-nil vs in
      let r = list-to way size law (item i more) le ks
      (goals_left p.program (goal s tasks) by_give) s vs start v s
      (node-leads p by_give ks s tasks h) d (record {
        bound = refl;
        next =
            sym (AllZip-long FitsSort s.sorts vs sorted)
            ∙ ap (λ (xs : List NameValue). length xs) (sym same);
        values = is ∙ ap valuation (sym same);
        wildcards = met;
      }) (subst (AllZip FitsSort s.sorts) (sym same) sorted) in
      record {
        gives = record {
          given = r.given;
          values = r.values;
          valued = r.valued;
          sorted = r.sorted;
          walks = λ seating enter w fs.
              r.walks seating enter (record w { fill = Some (fill_of ws fs) }) ws fs;
        };
        just = r.just;
      }
  node-to way size law i more le t vs ws v s h d is sorted met = absurd (p.step h).1

  pub all-to : (size : ℕ) → AllLead size
  all-to size way none le ks vs ws v s h d is sorted met = record {
    gives = record {
      given = (given-none p T sc e a total goal_is ne n ts way ks v s h d).given;
      values = vs;
      valued = is;
      sorted = sorted;
      walks = λ seating enter w fs. inr refl;
    };
    just = λ q o. subst (IsOf p.program v s) (sym (none-right p.program q)) o;
  }
  all-to zero way (item i more) le ks vs ws v s h d is sorted met =
      absurd (let q = size-positive i in omega (arith, le, q))
  all-to (suc size) way (item i more) le ks vs ws v s h d is sorted met =
      let t = lone-child p.N ks s (to_give (item i more) e n ∷ ts) h in
      subst (λ ls. GivesJust (item i more) ls vs ws v s (drawn_by way (item i more) v s d))
      (sym t.2)
      (node-to way size (all-to size) i more (omega (arith, le)) t.0 vs ws v s t.1 d is sorted met)

-- ---- the law

-- items that are drawn out of a part, at the values of a fill's names, are given along the walk; and
-- the state then has just what is drawn more
pub gives-just :
    (p : Checked) (T : Table) (sc : Scope) (e n : ℕ) (names : List NameValue)
    (ok : giving.NamesFit sc names) (held h r : Stock) (items : Items) (ts : List PlainTask)
    (remains : (s : PlainState) → (g : PlainGoal) × (goal_of s ts ≡ Some g)) (trees : PlainTrees)
    (vs : List NameValue) (s : PlainState) → Open p.N trees s (to_give items e n ∷ ts) →
    StateAt p.program [] T sc e (valuation vs) s → AllByRecursion IsFirm s.facts →
    Means sc (valuation vs) (env_at s e) (valuation names) → AreFit p.program sc items →
    (d : DrawsAll p.program T (valuation names) items h r) →
    Backed p.program (valuation vs) s held → (ne : Composes (both p.program held h)) →
    AllZip FitsSort s.sorts vs →
    GivesJust p T sc e names ok (both p.program held h)
    (fill_items p.program T (valuation names) items h r d (filled_at e (valuation vs) s)) ne n ts
    remains [] items trees vs (items_met p.program T (valuation names) items h r d) (valuation vs) s
    (items_drawn p.program T (valuation names) items h r d)
gives-just p T sc e n names ok held h r items ts remains trees vs s hd at firm m fit d b ne sorted =
    all-to p T sc e names ok (both p.program held h)
    (fill_items p.program T (valuation names) items h r d (filled_at e (valuation vs) s)) ne n ts
    remains [] (items_size items)
    (λ ks. items_trees p.program T (valuation names) items false h r d ks) items (omega arith) trees
    vs (items_met p.program T (valuation names) items h r d) (valuation vs) s hd (record {
      held = held;
      left = h;
      rest = r;
      underway = record {
        ready = record {
          meets = at.grounded.meets;
          there = at.there;
          placed = at.placed;
          means = m;
        };
        knows = record {
          facts = at.facts;
          pieces_over = at.grounded.pieces_over;
          pieces_fit = at.grounded.pieces_fit;
          opened = at.opened;
          backed = b;
        };
        firm = firm;
      };
      fit = fit;
      draws = d;
      fills = refl;
      leads = λ ks. refl;
      room = inside-same p.program (both p.program held h);
    }) refl sorted (sym (join-nil (items_met p.program T (valuation names) items h r d)))

pub gives-to :
    (p : Checked) (T : Table) (sc : Scope) (e n : ℕ) (names : List NameValue)
    (ok : giving.NamesFit sc names) (held h r : Stock) (items : Items) (ts : List PlainTask)
    (remains : (s : PlainState) → (g : PlainGoal) × (goal_of s ts ≡ Some g)) (trees : PlainTrees)
    (vs : List NameValue) (s : PlainState) → Open p.N trees s (to_give items e n ∷ ts) →
    StateAt p.program [] T sc e (valuation vs) s → AllByRecursion IsFirm s.facts →
    Means sc (valuation vs) (env_at s e) (valuation names) → AreFit p.program sc items →
    (d : DrawsAll p.program T (valuation names) items h r) →
    Backed p.program (valuation vs) s held → (ne : Composes (both p.program held h)) →
    AllZip FitsSort s.sorts vs →
    GivesTo p T sc e names ok (both p.program held h)
    (fill_items p.program T (valuation names) items h r d (filled_at e (valuation vs) s)) ne n ts
    remains [] items trees vs (items_met p.program T (valuation names) items h r d) (valuation vs) s
gives-to p T sc e n names ok held h r items ts remains trees vs s hd at firm m fit d b ne sorted =
    (gives-just p T sc e n names ok held h r items ts remains trees vs s hd at firm m fit d b ne
    sorted).gives
