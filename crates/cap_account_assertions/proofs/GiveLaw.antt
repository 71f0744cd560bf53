-- Giving the items of an assertion, one after the other: the law.
use Rattle.std.proofs.Common.{◌≡◌, ℕ, zero, suc, ◌+◌, ◌≤◌, true, false, List, [], ◌∷◌, length, option_to_list, Option, Some, None, arith, refl, sym, ap, ◌∙◌, subst, inl, inr}
use Rattle.cap_lin.specs.Rows.{row_of}
use Rattle.cap_lin.specs.Values.{Valuation}
use Rattle.cap_lin.specs.declared.row.Op.{Op}
use Rattle.cap_prog.specs.declared.assertion.Comp.{Comp}
use Rattle.cap_prog.specs.Program.{PlainItem, compare, choose, fact, atom, cell, Items, none, item, append_items}
use Rattle.cap_prog.specs.Parts.{all_items}
use Rattle.cap_prog.specs.Scopes.{Scope}
use Rattle.cap_prog.specs.WellFormed.{ItemFits}
use Rattle.cap_goal_spec.specs.States.{PlainState, PlainTask, PlainGoal, to_give, goal_of}
use Rattle.cap_goal_spec.specs.Choices.{PlainTree, node, PlainTrees, no_trees, tree, by_absurd, by_give}
use Rattle.cap_rules.specs.Making.{opposite}
use Rattle.cap_rules.specs.Giving.{give_sides, give_item, give}
use Rattle.cap_account_resources.specs.Parts.{Table}
use Rattle.cap_account_resources.proofs.Lists.{all-first, all-second}
use Rattle.cap_account_resources.proofs.Order.{unless-relates}
use Rattle.cap_account_resources.proofs.Stocks.{Stock, both, Composes, inside-trans, inside-first, inside-same}
use Rattle.cap_account_states.specs.Nodes.{Comes, Children, Open}
use Rattle.cap_account_states.proofs.Attempts.{comes-bind, after-comparison, row_added}
use Rattle.cap_account_states.proofs.Meets.{solves}
use Rattle.cap_account_states.proofs.Checked.{Checked, children-split, lone-child, first_kids, second_kids, SideGoals, goals-alike, sides-are}
use Rattle.cap_account_states.proofs.Filled.{Filled, filled_at, fill_sides}
use Rattle.cap_account_states.proofs.Naming.{Step}
use Rattle.cap_account_states.proofs.Items.{items_size, size-positive, append-size, AreFit, fits-append, fits-more, fits-sides}
use Rattle.cap_account_states.proofs.KnowsLater.{backed-more}
use Rattle.cap_account_assertions.proofs.Asserted.{DrawsAll, draws-join}
use Rattle.cap_account_assertions.proofs.Filling.{fill_item, fill_items, fill-join}
use Rattle.cap_account_assertions.proofs.GivenTrees.{has_items, below_node, item_trees, items_trees, trees-join, has-both}
use Rattle.cap_account_assertions.proofs.Laws.{GivenLaw, GivenAlong, GivenAlongLaw}
use Rattle.cap_account_assertions.proofs.GiveTerms.{sides-given, sides-row}
use Rattle.cap_account_assertions.proofs.GiveState.{Onward, onward-none, onward-step, onward-trans, underway-step, Due}
use Rattle.cap_account_assertions.proofs.GiveItems.{IsPlain, item-gives}

-- what is given to a state that went on is given to the first one
abbrev pub given-on :
    (p : Checked) (T : Table) (e : ℕ) (v w : Valuation) (total : Stock) (s t : PlainState)
    (ts : List PlainTask) (goal : Filled) (kids : PlainTrees) → Onward e v w s t →
    GivenAlong p T e w total t ts goal kids → GivenAlong p T e v total s ts goal kids
given-on p T e v w total s t ts goal kids o along =
    let g = along.given in
    let on =
    onward-trans e v w g.w s t g.after o
    (record { agree = g.agree; goes_on = g.goes_on; others = g.others }) in
    record {
      given = record {
        w = g.w;
        after = g.after;
        children = g.children;
        goes = g.goes;
        grounded = g.grounded;
        facts = g.facts;
        firm = g.firm;
        backed = g.backed;
        agree = on.agree;
        filled = g.filled;
        goes_on = on.goes_on;
        others = on.others;
      };
      along = along.along;
    }

-- ---- the two sides of a conditional item

module _ (p : Checked) (T : Table) (sc : Scope) (e : ℕ) (a : Valuation) (total : Stock)
    (goal : Filled) (ne : Composes total) (n : ℕ) (ts : List PlainTask) where
  abbrev IsDue : (PlainTrees → PlainTrees) → Items → Valuation → PlainState → Type 0
  IsDue way items v s = Due p.program T sc e a total goal way items v s

  -- along these trees
  abbrev Goes : PlainTrees → Valuation → PlainState → Type 0
  Goes kids v s = GivenAlong p T e v total s ts goal kids

  abbrev IsOpen : PlainTrees → PlainState → Items → Type 0
  IsOpen ks s items = Open p.N ks s (to_give items e n ∷ ts)

  abbrev pub given-none :
      (way : PlainTrees → PlainTrees) (ks : PlainTrees) (v : Valuation) (s : PlainState) →
      Open p.N ks s ts → IsDue way none v s → Goes (way ks) v s
  given-none way ks v s h d =
      let u = d.underway in
      let on = onward-none e v s in
      record {
        given = record {
          w = v;
          after = s;
          children = ks;
          goes = h;
          grounded = record {
            meets = u.ready.meets;
            pieces_over = u.knows.pieces_over;
            pieces_fit = u.knows.pieces_fit;
          };
          facts = u.knows.facts;
          firm = u.firm;
          backed =
              backed-more p.program v s d.held total
              (inside-trans p.program d.held (both p.program d.held d.left) total
              (inside-first p.program d.held d.left) d.room) u.knows.backed;
          agree = on.agree;
          filled = d.fills;
          goes_on = on.goes_on;
          others = on.others;
        };
        along = d.leads ks;
      }

  -- the items of a side are due before those that follow, and then lead to the trees behind them
  abbrev pub side-due :
      (way : PlainTrees → PlainTrees) (c : Comp) (x y side more : Items) (v : Valuation)
      (s t : PlainState) (d : IsDue way (item (choose c x y) more) v s)
      (m : Step sc e a v s t) → AreFit p.program sc side →
      (h : DrawsAll p.program T a side d.left d.draws.0) →
      filled_at e m.w t ≡ fill_sides a c (filled_at e v s) →
      fill_items p.program T a more d.draws.0 d.rest d.draws.2
      (fill_items p.program T a side d.left d.draws.0 h (fill_sides a c (filled_at e v s)))
      ≡ goal →
      IsDue
      (λ ks. items_trees p.program T a more false d.draws.0 d.rest d.draws.2
      (items_trees p.program T a side (has_items more) d.left d.draws.0 h ks))
      (append_items side more) m.w t
  side-due way c x y side more v s t d m f h filled fills = record {
    held = d.held;
    left = d.left;
    rest = d.rest;
    underway = underway-step p.program T sc e a v s t d.held d.underway m;
    fit = fits-append p.program sc side more f (fits-more p.program sc (choose c x y) more d.fit);
    draws = draws-join p.program T a side more d.left d.draws.0 d.rest h d.draws.2;
    fills =
        fill-join p.program T a side more d.left d.draws.0 d.rest h d.draws.2 (filled_at e m.w t)
        ∙ ap
        (λ k. fill_items p.program T a more d.draws.0 d.rest d.draws.2
        (fill_items p.program T a side d.left d.draws.0 h k)) filled
        ∙ fills;
    leads =
        trees-join p.program T a side more false d.left d.draws.0 d.rest h d.draws.2;
    room = d.room;
  }

  -- ---- items one after the other

  -- up to this size; and up to the first conditional item
  abbrev AllGiven : ℕ → Type 0
  AllGiven size =
      (way : PlainTrees → PlainTrees) (items : Items) → items_size items ≤ size →
      (ks : PlainTrees) (v : Valuation) (s : PlainState) → IsOpen ks s items →
      IsDue way items v s → Goes (way (below_node (has_items items) ks)) v s

  abbrev ListGiven : (PlainTrees → PlainTrees) → Items → Type 0
  ListGiven way items =
      (ks : PlainTrees) (v : Valuation) (s : PlainState) →
      Comes (give p.program s e n ts items) (Children p.N ks) → IsDue way items v s →
      Goes (way ks) v s

  -- an item that isn't conditional, and those that follow
  pub after-item :
      (way : PlainTrees → PlainTrees) (i : PlainItem) (more : Items) → IsPlain i →
      ListGiven way more → (ks : PlainTrees) (v : Valuation) (s : PlainState) →
      Comes (give_item p.program s e i)
      (λ t. Comes (give p.program t e n ts more) (Children p.N ks)) →
      IsDue way (item i more) v s → Goes (way ks) v s
  after-item way i more ok law ks v s h d =
      let g =
      item-gives p.program T sc e a total goal way ne i ok more v s
      (λ t. Comes (give p.program t e n ts more) (Children p.N ks)) d h in
      given-on p T e v g.w total s g.after ts goal (way ks) g.onward
      (law ks g.w g.after g.comes g.due)

  -- the first side is sure to have left a goal where it has items
  sides-left :
      (xs ys : Items) (s t : PlainState) → length s.facts ≡ length t.facts →
      SideGoals (has_items xs) (goal_of s (to_give xs e n ∷ ts)) (goal_of t (to_give ys e n ∷ ts))
  sides-left (item i more) ys s t q = tt
  sides-left none none s t q = goals-alike s t ts q
  sides-left none (item i more) s t q = by (goal_of s ts)
    where
      by :
          (g : Option PlainGoal) →
          SideGoals false g (goal_of t (to_give (item i more) e n ∷ ts))
      by None = tt
      by (Some g) = tt

  -- by the side that the values choose
  after-choice :
      (way : PlainTrees → PlainTrees) (size : ℕ) → AllGiven size → (c : Comp)
      (x y more : Items) → items_size (append_items x more) ≤ size →
      items_size (append_items y more) ≤ size → ListGiven way (item (choose c x y) more)
  after-choice way size law c x y more small_x small_y ks v s h d =
      let fit = fits-sides p.program sc (choose c x y) more d.fit in
      let g =
      sides-given sc e a v s c _ d.underway.ready d.fit.0
      (comes-bind (give_sides s e c) _ (Children p.N ks) h) in
      let after = λ (op : Op). row_added g.after (row_of g.left op g.right c.sort) in
      let then = λ (f : Filled). fill_items p.program T a more d.draws.0 d.rest d.draws.2 f in
      let behind =
      λ (ts : PlainTrees). items_trees p.program T a more false d.draws.0 d.rest d.draws.2 ts in
      let todo = λ (side : Items). to_give (append_items side more) e n ∷ ts in
      let first = after-comparison g.after g.left c.op g.right c.sort _ (Children p.N ks) g.comes in
      let second =
      after-comparison g.after g.left (opposite c.op) g.right c.sort _ (Children p.N ks) first in
      let one = goal_of (after c.op) (todo x) in
      let other = goal_of (after (opposite c.op)) (todo y) in
      let k = children-split p.N ks (option_to_list one) (option_to_list other) second.1 in
      let known = has_items (append_items x more) in
      let sides = sides-are p.N ks known one other
      (sides-left (append_items x more) (append_items y more) (after c.op)
      (after (opposite c.op)) refl) second.1 in
      let by =
      λ (op : Op) (side : Items) (m : Step sc e a v s (after op))
      (small : items_size (append_items side more) ≤ size) (f : AreFit p.program sc side)
      (took : DrawsAll p.program T a side d.left d.draws.0)
      (filled : filled_at e m.w (after op) ≡ fill_sides a c (filled_at e v s))
      (fills : then (fill_items p.program T a side d.left d.draws.0 took
      (fill_sides a c (filled_at e v s)))
      ≡ goal) (ls : PlainTrees)
      (o : Open p.N ls (after op) (todo side))
      (leads : behind (items_trees p.program T a side (has_items more) d.left d.draws.0 took
      (below_node (has_items (append_items side more)) ls))
      ≡ way ks).
      subst (λ kids. Goes kids v s) leads
      (given-on p T e v m.w total s (after op) ts goal
      (behind (items_trees p.program T a side (has_items more) d.left d.draws.0 took
      (below_node (has_items (append_items side more)) ls)))
      (onward-step sc e a v s (after op) m)
      (law
      (λ ks. behind (items_trees p.program T a side (has_items more) d.left d.draws.0 took ks))
      (append_items side more) small ls m.w (after op) o
      (side-due way c x y side more v s (after op) d m f took filled fills))) in
      (elim d.draws.1 as (λ o. then
      (fill_item p.program T a (choose c x y) d.left d.draws.0 o (filled_at e v s)) ≡ goal →
      behind (item_trees p.program T a (choose c x y) (has_items more) d.left d.draws.0 o ks)
      ≡ way ks →
      Goes (way ks) v s) [
        | inl w ↦ λ k2 l2. by c.op x (sides-row sc e a v s c c.op _ g w.0) small_x
            (all-first (ItemFits p.program sc) (all_items x) (all_items y) fit) w.1 g.filled k2 k.left
            k.first
            (ap (λ ls. behind (items_trees p.program T a x (has_items more) d.left d.draws.0 w.1
            (below_node known ls))) sides.0
            ∙ ap (λ b. behind (items_trees p.program T a x (has_items more) d.left d.draws.0 w.1
            (below_node b (first_kids b ks)))) (has-both false x more)
            ∙ l2)
        | inr w ↦ λ k2 l2. by (opposite c.op) y
            (sides-row sc e a v s c (opposite c.op) _ g (unless-relates c.op _ _ w.0)) small_y
            (all-second (ItemFits p.program sc) (all_items x) (all_items y) fit) w.1 g.filled k2
            k.right k.second
            (ap (λ ls. behind (items_trees p.program T a y (has_items more) d.left d.draws.0 w.1
            (below_node (has_items (append_items y more)) ls))) sides.1
            ∙ (λ i. behind (items_trees p.program T a y (has_items more) d.left d.draws.0 w.1
            (below_node (has-both false y more i) (second_kids (has-both false x more i) ks))))
            ∙ l2)
      ]) d.fills (d.leads ks)

  list-given :
      (way : PlainTrees → PlainTrees) (size : ℕ) → AllGiven size → (items : Items) →
      items_size items ≤ size + 1 → ListGiven way items
  list-given way size law none le ks v s h d = given-none way ks v s h.1 d
  list-given way size law (item (compare c) more) le ks v s h d =
      after-item way (compare c) more tt (list-given way size law more (omega (arith, le))) ks v s
      (comes-bind (give_item p.program s e (compare c)) _ (Children p.N ks) h) d
  list-given way size law (item (choose c x y) more) le ks v s h d =
      let l = append-size x more in
      let r = append-size y more in
      after-choice way size law c x y more (omega (arith, le, l)) (omega (arith, le, r)) ks v s h d
  list-given way size law (item (fact place m k args x) more) le ks v s h d =
      after-item way (fact place m k args x) more tt
      (list-given way size law more (omega (arith, le))) ks v s
      (comes-bind (give_item p.program s e (fact place m k args x))
      _ (Children p.N ks) h) d
  list-given way size law (item (atom place m k i asked) more) le ks v s h d =
      after-item way (atom place m k i asked) more tt
      (list-given way size law more (omega (arith, le))) ks v s
      (comes-bind (give_item p.program s e (atom place m k i asked))
      _ (Children p.N ks) h) d
  list-given way size law (item (cell place x y) more) le ks v s h d =
      after-item way (cell place x y) more tt
      (list-given way size law more (omega (arith, le))) ks v s
      (comes-bind (give_item p.program s e (cell place x y)) _ (Children p.N ks) h) d

  -- a node gives them, or has no values
  node-given :
      (way : PlainTrees → PlainTrees) (size : ℕ) → AllGiven size → (i : PlainItem)
      (more : Items) → items_size (item i more) ≤ size + 1 → (t : PlainTree) (v : Valuation)
      (s : PlainState) → p.N t s (to_give (item i more) e n ∷ ts) →
      IsDue way (item i more) v s → Goes (way (below_node true (tree t no_trees))) v s
  node-given way size law i more le (node (by_absurd c) ks) v s h d =
      absurd ((p.step h).0.0 v (solves [] v s d.underway.ready.meets))
  node-given way size law i more le (node by_give ks) v s h d =
      list-given way size law (item i more) le ks v s (p.step h) d
  node-given way size law i more le t v s h d = absurd (p.step h).1

  all-given : (size : ℕ) → AllGiven size
  all-given size way none le ks v s h d = given-none way ks v s h d
  all-given zero way (item i more) le ks v s h d =
      absurd (let q = size-positive i in omega (arith, le, q))
  all-given (suc size) way (item i more) le ks v s h d =
      let t = lone-child p.N ks s (to_give (item i more) e n ∷ ts) h in
      subst (λ ls. Goes (way (below_node true ls)) v s) (sym t.2)
      (node-given way size (all-given size) i more (omega (arith, le)) t.0 v s t.1 d)

-- ---- the law

pub given-along : (p : Checked) → GivenAlongLaw p
given-along p T sc e n a held h r items ts trees v s hd at firm means fit draws backed ne =
    all-given p T sc e a (both p.program held h)
    (fill_items p.program T a items h r draws (filled_at e v s)) ne n ts (items_size items)
    (λ ks. items_trees p.program T a items false h r draws ks) items (omega arith) trees v s hd (record {
      held = held;
      left = h;
      rest = r;
      underway = record {
        ready = record {
          meets = at.grounded.meets;
          there = at.there;
          placed = at.placed;
          means = means;
        };
        knows = record {
          facts = at.facts;
          pieces_over = at.grounded.pieces_over;
          pieces_fit = at.grounded.pieces_fit;
          opened = at.opened;
          backed = backed;
        };
        firm = firm;
      };
      fit = fit;
      draws = draws;
      fills = refl;
      leads = λ ks. refl;
      room = inside-same p.program (both p.program held h);
    })

pub given-law : (p : Checked) → GivenLaw p
given-law p T sc e n a held h r items ts trees v s hd at firm means fit draws backed ne =
    (given-along p T sc e n a held h r items ts trees v s hd at firm means fit draws backed ne).given
