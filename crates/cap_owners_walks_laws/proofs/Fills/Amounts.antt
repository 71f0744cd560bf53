-- How much the items of an assertion draw: out of just that, with whatever is beside it, they are
-- drawn alike.
use Rattle.std.proofs.Common.{◌≡◌, inl, inr, true, ◌++◌, refl, sym, ap, ◌∙◌, subst}
use Rattle.cap_lin.specs.Values.{Valuation, value}
use Rattle.cap_prog.specs.Program.{PlainItem, compare, choose, fact, atom, cell, Items, none, item, append_items, PlainProgram}
use Rattle.cap_account_resources.specs.Parts.{Table}
use Rattle.cap_account_resources.proofs.Stocks.{Stock, no_stock, cell_stock, guard_stock, both, Inside, stock-laws, inside-same, inside-trans, inside-second, inside-both}
use Rattle.cap_account_assertions.proofs.Asserted.{Draws, DrawsAll, draws-more, draws-all-more, draws-join}
use Rattle.cap_owners_spec.specs.Walks.{no_items}
use Rattle.cap_owners_walks_laws.proofs.Fills.Drawn.{item_met, items_met, item_told, items_told}

module _ (p : PlainProgram) (T : Table) (a : Valuation) where
  -- comparisons and facts draw nothing, and of a conditional one side is drawn
  abbrev mutual
    pub item_drawn : (i : PlainItem) (q r : Stock) → Draws p T a i q r → Stock
    item_drawn (compare c) q r d = no_stock
    item_drawn (choose c x y) q r (inl d) = items_drawn x q r d.1
    item_drawn (choose c x y) q r (inr d) = items_drawn y q r d.1
    item_drawn (fact place n k args s) q r d = no_stock
    item_drawn (atom place n k i asked) q r d = guard_stock (a.whole n) d.0
    item_drawn (cell place x s) q r d = cell_stock (value a.whole x) d.0

    pub items_drawn : (xs : Items) (q r : Stock) → DrawsAll p T a xs q r → Stock
    items_drawn none q r d = no_stock
    items_drawn (item i more) q r d =
        both p (item_drawn i q d.0 d.1) (items_drawn more d.0 r d.2)

  pub drawn-none :
      (xs : Items) (q r : Stock) (d : DrawsAll p T a xs q r) → no_items xs ≡ true →
      items_drawn xs q r d ≡ no_stock
  drawn-none none q r d e = refl
  drawn-none (item i more) q r d e = absurd (cc)

  -- ---- it is there, with what is left

  beside-none : (q r : Stock) → Inside p r q → Inside p (both p no_stock r) q
  beside-none q r le = subst (λ x. Inside p x q) (sym ((stock-laws p).zero_left r)) le

  mutual
    item-inside :
        (i : PlainItem) (q r : Stock) (d : Draws p T a i q r) →
        Inside p (both p (item_drawn i q r d) r) q
    item-inside (compare c) q r d = beside-none q r d.1
    item-inside (choose c x y) q r (inl d) = drawn-inside x q r d.1
    item-inside (choose c x y) q r (inr d) = drawn-inside y q r d.1
    item-inside (fact place n k args s) q r d = beside-none q r d.1
    item-inside (atom place n k i asked) q r d = d.2
    item-inside (cell place x s) q r d = d.3

    pub drawn-inside :
        (xs : Items) (q r : Stock) (d : DrawsAll p T a xs q r) →
        Inside p (both p (items_drawn xs q r d) r) q
    drawn-inside none q r d = beside-none q r d
    drawn-inside (item i more) q r d =
        let one = item_drawn i q d.0 d.1 in
        let rest = items_drawn more d.0 r d.2 in
        subst (λ x. Inside p x q) (sym ((stock-laws p).assoc one rest r))
        (inside-trans p (both p one (both p rest r)) (both p one d.0) q
        (inside-both p one one (both p rest r) d.0 (inside-same p one)
        (drawn-inside more d.0 r d.2)) (item-inside i q d.0 d.1))

  -- ---- out of just so much

  abbrev mutual
    pub item_just :
        (i : PlainItem) (q r : Stock) (d : Draws p T a i q r) (q' r' : Stock) →
        Inside p (both p (item_drawn i q r d) r') q' → Draws p T a i q' r'
    item_just (compare c) q r d q' r' le =
        (d.0, inside-trans p r' (both p no_stock r') q' (inside-second p no_stock r') le)
    item_just (choose c x y) q r (inl d) q' r' le = inl (d.0, items_just x q r d.1 q' r' le)
    item_just (choose c x y) q r (inr d) q' r' le = inr (d.0, items_just y q r d.1 q' r' le)
    item_just (fact place n k args s) q r d q' r' le =
        (d.0, inside-trans p r' (both p no_stock r') q' (inside-second p no_stock r') le)
    item_just (atom place n k i asked) q r d q' r' le = (d.0, d.1, le)
    item_just (cell place x s) q r d q' r' le = (d.0, d.1, d.2, le)

    pub items_just :
        (xs : Items) (q r : Stock) (d : DrawsAll p T a xs q r) (q' r' : Stock) →
        Inside p (both p (items_drawn xs q r d) r') q' → DrawsAll p T a xs q' r'
    items_just none q r d q' r' le =
        inside-trans p r' (both p no_stock r') q' (inside-second p no_stock r') le
    items_just (item i more) q r d q' r' le = (
      both p (items_drawn more d.0 r d.2) r',
      item_just i q d.0 d.1 q' (both p (items_drawn more d.0 r d.2) r')
          (subst (λ x. Inside p x q')
          ((stock-laws p).assoc (item_drawn i q d.0 d.1) (items_drawn more d.0 r d.2) r') le),
      items_just more d.0 r d.2 (both p (items_drawn more d.0 r d.2) r') r'
          (inside-same p (both p (items_drawn more d.0 r d.2) r')),
    )

  -- so it is met by the same, and draws as much
  pub record SameItem (i : PlainItem) (q r : Stock) (d : Draws p T a i q r) (q' r' : Stock)
      (k : Draws p T a i q' r') : Type 0 where
    pub met : item_met p T a i q' r' k ≡ item_met p T a i q r d
    pub told : item_told p T a i q' r' k ≡ item_told p T a i q r d
    pub drawn : item_drawn i q' r' k ≡ item_drawn i q r d

  pub record SameItems (xs : Items) (q r : Stock) (d : DrawsAll p T a xs q r) (q' r' : Stock)
      (k : DrawsAll p T a xs q' r') : Type 0 where
    pub met : items_met p T a xs q' r' k ≡ items_met p T a xs q r d
    pub told : items_told p T a xs q' r' k ≡ items_told p T a xs q r d
    pub drawn : items_drawn xs q' r' k ≡ items_drawn xs q r d

  mutual
    item-just-same :
        (i : PlainItem) (q r : Stock) (d : Draws p T a i q r) (q' r' : Stock)
        (le : Inside p (both p (item_drawn i q r d) r') q') →
        SameItem i q r d q' r' (item_just i q r d q' r' le)
    item-just-same (compare c) q r d q' r' le =
        record { met = refl; told = refl; drawn = refl }
    item-just-same (choose c x y) q r (inl d) q' r' le =
        let s = just-same x q r d.1 q' r' le in
        record { met = s.met; told = s.told; drawn = s.drawn }
    item-just-same (choose c x y) q r (inr d) q' r' le =
        let s = just-same y q r d.1 q' r' le in
        record { met = s.met; told = s.told; drawn = s.drawn }
    item-just-same (fact place n k args s) q r d q' r' le =
        record { met = refl; told = refl; drawn = refl }
    item-just-same (atom place n k i asked) q r d q' r' le =
        record { met = refl; told = refl; drawn = refl }
    item-just-same (cell place x s) q r d q' r' le =
        record { met = refl; told = refl; drawn = refl }

    pub just-same :
        (xs : Items) (q r : Stock) (d : DrawsAll p T a xs q r) (q' r' : Stock)
        (le : Inside p (both p (items_drawn xs q r d) r') q') →
        SameItems xs q r d q' r' (items_just xs q r d q' r' le)
    just-same none q r d q' r' le = record { met = refl; told = refl; drawn = refl }
    just-same (item i more) q r d q' r' le =
        let one = item_drawn i q d.0 d.1 in
        let rest = items_drawn more d.0 r d.2 in
        let s = item-just-same i q d.0 d.1 q' (both p rest r')
        (subst (λ x. Inside p x q') ((stock-laws p).assoc one rest r') le) in
        let t = just-same more d.0 r d.2 (both p rest r') r' (inside-same p (both p rest r')) in
        record {
          met = λ j. s.met j ++ t.met j;
          told = λ j. s.told j ++ t.told j;
          drawn = λ j. both p (s.drawn j) (t.drawn j);
        }

  -- ---- out of more, and one after the other

  mutual
    item-drawn-more :
        (i : PlainItem) (q q' r : Stock) (le : Inside p q q') (d : Draws p T a i q r) →
        item_drawn i q' r (draws-more p T a i q q' r le d) ≡ item_drawn i q r d
    item-drawn-more (compare c) q q' r le d = refl
    item-drawn-more (choose c x y) q q' r le (inl m) =
        drawn-more x q q' r r le (inside-same p r) m.1
    item-drawn-more (choose c x y) q q' r le (inr m) =
        drawn-more y q q' r r le (inside-same p r) m.1
    item-drawn-more (fact place n k args s) q q' r le d = refl
    item-drawn-more (atom place n k i asked) q q' r le d = refl
    item-drawn-more (cell place x s) q q' r le d = refl

    pub drawn-more :
        (xs : Items) (q q' r r' : Stock) (le : Inside p q q') (less : Inside p r' r)
        (d : DrawsAll p T a xs q r) →
        items_drawn xs q' r' (draws-all-more p T a xs q q' r r' le less d) ≡ items_drawn xs q r d
    drawn-more none q q' r r' le less d = refl
    drawn-more (item i more) q q' r r' le less d = λ j.
        both p (item-drawn-more i q q' d.0 le d.1 j)
        (drawn-more more d.0 d.0 r r' (inside-same p d.0) less d.2 j)

  pub drawn-join :
      (xs ys : Items) (q m r : Stock) (d : DrawsAll p T a xs q m) (k : DrawsAll p T a ys m r) →
      items_drawn (append_items xs ys) q r (draws-join p T a xs ys q m r d k)
      ≡ both p (items_drawn xs q m d) (items_drawn ys m r k)
  drawn-join none ys q m r d k =
      drawn-more ys m q r r d (inside-same p r) k
      ∙ sym ((stock-laws p).zero_left (items_drawn ys m r k))
  drawn-join (item i xs) ys q m r d k =
      ap (both p (item_drawn i q d.0 d.1)) (drawn-join xs ys d.0 m r d.2 k)
      ∙ sym ((stock-laws p).assoc (item_drawn i q d.0 d.1) (items_drawn xs d.0 m d.2)
      (items_drawn ys m r k))
