-- The trees to which giving items leads, below those of a goal: by the sides of conditionals that are
-- drawn.
use Rattle.std.proofs.Common.{◌≡◌, Bool, true, false, ◌||◌, refl, ap, ◌∙◌, inl, inr}
use Rattle.cap_lin.specs.Values.{Valuation}
use Rattle.cap_prog.specs.Program.{PlainItem, compare, choose, fact, atom, cell, Items, none, item, append_items, PlainProgram}
use Rattle.cap_goal_spec.specs.Choices.{node, PlainTrees, no_trees, tree}
use Rattle.cap_account_resources.specs.Parts.{Table}
use Rattle.cap_account_resources.proofs.Stocks.{Stock, Inside, inside-same}
use Rattle.cap_account_states.proofs.Checked.{first_kids, second_kids}
use Rattle.cap_account_assertions.proofs.Asserted.{Draws, DrawsAll, draws-more, draws-all-more, draws-join}

abbrev pub has_items : Items → Bool
has_items none = false
has_items (item i more) = true

-- the children of the node that gives items, where there are some; without any there is no such node
abbrev pub below_node : Bool → PlainTrees → PlainTrees
below_node false ks = ks
below_node true no_trees = no_trees
below_node true (tree (node c kids) ks) = kids

-- there are items in two lists where there are some in one of them
pub has-both :
    (b : Bool) (xs ys : Items) →
    (b || has_items (append_items xs ys)) ≡ ((b || has_items ys) || has_items xs)
has-both true xs ys = refl
has-both false none none = refl
has-both false none (item i ys) = refl
has-both false (item i xs) none = refl
has-both false (item i xs) (item j ys) = refl

module _ (p : PlainProgram) (T : Table) (a : Valuation) where
  -- among a node's children, once the item is given; or once all are. The test says whether there are
  -- items behind. At a conditional the goal splits, and each side with items has a node of its own
  abbrev mutual
    pub item_trees :
        (i : PlainItem) (behind : Bool) (q r : Stock) → Draws p T a i q r → PlainTrees → PlainTrees
    item_trees (compare c) behind q r d ks = ks
    item_trees (choose c x y) behind q r (inl m) ks =
        items_trees x behind q r m.1
        (below_node (behind || has_items x) (first_kids (behind || has_items x) ks))
    item_trees (choose c x y) behind q r (inr m) ks =
        items_trees y behind q r m.1
        (below_node (behind || has_items y) (second_kids (behind || has_items x) ks))
    item_trees (fact place n k args x) behind q r d ks = ks
    item_trees (atom place n k i asked) behind q r d ks = ks
    item_trees (cell place x y) behind q r d ks = ks

    pub items_trees :
        (xs : Items) (behind : Bool) (q r : Stock) → DrawsAll p T a xs q r → PlainTrees →
        PlainTrees
    items_trees none behind q r d ks = ks
    items_trees (item i more) behind q r d ks =
        items_trees more behind d.0 r d.2 (item_trees i (behind || has_items more) q d.0 d.1 ks)

  -- from the trees of the goal at which the items are to be given
  abbrev pub given_trees :
      (xs : Items) (q r : Stock) → DrawsAll p T a xs q r → PlainTrees → PlainTrees
  given_trees xs q r d ks = items_trees xs false q r d (below_node (has_items xs) ks)

  -- drawn out of more, they lead to the same trees
  mutual
    item-more :
        (i : PlainItem) (b : Bool) (q q' r : Stock) (le : Inside p q q') (d : Draws p T a i q r)
        (ks : PlainTrees) →
        item_trees i b q' r (draws-more p T a i q q' r le d) ks ≡ item_trees i b q r d ks
    item-more (compare c) b q q' r le d ks = refl
    item-more (choose c x y) b q q' r le (inl m) ks =
        trees-more x b q q' r r le (inside-same p r) m.1 _
    item-more (choose c x y) b q q' r le (inr m) ks =
        trees-more y b q q' r r le (inside-same p r) m.1 _
    item-more (fact place n k args x) b q q' r le d ks = refl
    item-more (atom place n k i asked) b q q' r le d ks = refl
    item-more (cell place x y) b q q' r le d ks = refl

    trees-more :
        (xs : Items) (b : Bool) (q q' r r' : Stock) (le : Inside p q q') (less : Inside p r' r)
        (d : DrawsAll p T a xs q r) (ks : PlainTrees) →
        items_trees xs b q' r' (draws-all-more p T a xs q q' r r' le less d) ks
        ≡ items_trees xs b q r d ks
    trees-more none b q q' r r' le less d ks = refl
    trees-more (item i more) b q q' r r' le less d ks =
        trees-more more b d.0 d.0 r r' (inside-same p d.0) less d.2 _
        ∙ ap (items_trees more b d.0 r d.2) (item-more i (b || has_items more) q q' d.0 le d.1 ks)

  -- items one after the other
  pub trees-join :
      (xs ys : Items) (b : Bool) (q m r : Stock) (d : DrawsAll p T a xs q m)
      (k : DrawsAll p T a ys m r) (ks : PlainTrees) →
      items_trees (append_items xs ys) b q r (draws-join p T a xs ys q m r d k) ks
      ≡ items_trees ys b m r k (items_trees xs (b || has_items ys) q m d ks)
  trees-join none ys b q m r d k ks = trees-more ys b m q r r d (inside-same p r) k ks
  trees-join (item i xs) ys b q m r d k ks =
      trees-join xs ys b d.0 m r d.2 k _
      ∙ ap (λ t. items_trees ys b m r k (items_trees xs (b || has_items ys) d.0 m d.2
      (item_trees i t q d.0 d.1 ks))) (has-both b xs ys)
