-- By what items are met, where they are drawn in other ways: by a table with more regions, out of a
-- sum that is grouped otherwise, and beside the items behind them.
use Rattle.std.proofs.Common.{◌≡◌, inl, inr, ◌++◌, refl, sym, ap, ◌∙◌, subst}
use Rattle.cap_lin.specs.Values.{Valuation}
use Rattle.cap_prog.specs.Program.{PlainItem, compare, choose, fact, atom, cell, Items, none, item, append_items, PlainProgram}
use Rattle.cap_account_resources.specs.Parts.{Table}
use Rattle.cap_account_resources.proofs.Lists.{join-assoc}
use Rattle.cap_account_resources.proofs.Stocks.{Stock, Inside, inside-same}
use Rattle.cap_account_resources.proofs.Tables.{KeepsStates}
use Rattle.cap_account_assertions.proofs.Asserted.{Draws, DrawsAll, draws-more, draws-all-more, draws-apart, draws-kept, draws-all-kept}
use Rattle.cap_owners_walks_laws.proofs.Fills.Drawn.{item_met, items_met, item_told, items_told}

-- by a table that keeps each known state
module _ (p : PlainProgram) (T U : Table) (f : KeepsStates T U) (a : Valuation) where
  mutual
    pub item-met-kept :
        (i : PlainItem) (q r : Stock) (d : Draws p T a i q r) →
        item_met p U a i q r (draws-kept p T U f a i q r d) ≡ item_met p T a i q r d
    item-met-kept (compare c) q r d = refl
    item-met-kept (choose c x y) q r (inl d) = items-met-kept x q r d.1
    item-met-kept (choose c x y) q r (inr d) = items-met-kept y q r d.1
    item-met-kept (fact place n k args s) q r d = refl
    item-met-kept (atom place n k i asked) q r d = refl
    item-met-kept (cell place x s) q r d = refl

    pub items-met-kept :
        (xs : Items) (q r : Stock) (d : DrawsAll p T a xs q r) →
        items_met p U a xs q r (draws-all-kept p T U f a xs q r d) ≡ items_met p T a xs q r d
    items-met-kept none q r d = refl
    items-met-kept (item i more) q r d =
        λ j. item-met-kept i q d.0 d.1 j ++ items-met-kept more d.0 r d.2 j

  mutual
    pub item-told-kept :
        (i : PlainItem) (q r : Stock) (d : Draws p T a i q r) →
        item_told p U a i q r (draws-kept p T U f a i q r d) ≡ item_told p T a i q r d
    item-told-kept (compare c) q r d = refl
    item-told-kept (choose c x y) q r (inl d) = items-told-kept x q r d.1
    item-told-kept (choose c x y) q r (inr d) = items-told-kept y q r d.1
    item-told-kept (fact place n k args s) q r d = refl
    item-told-kept (atom place n k i asked) q r d = refl
    item-told-kept (cell place x s) q r d = refl

    pub items-told-kept :
        (xs : Items) (q r : Stock) (d : DrawsAll p T a xs q r) →
        items_told p U a xs q r (draws-all-kept p T U f a xs q r d) ≡ items_told p T a xs q r d
    items-told-kept none q r d = refl
    items-told-kept (item i more) q r d =
        λ j. item-told-kept i q d.0 d.1 j ++ items-told-kept more d.0 r d.2 j

module _ (p : PlainProgram) (T : Table) (a : Valuation) where
  -- out of more, leaving less
  mutual
    pub item-met-out :
        (i : PlainItem) (q q' r : Stock) (le : Inside p q q') (d : Draws p T a i q r) →
        item_met p T a i q' r (draws-more p T a i q q' r le d) ≡ item_met p T a i q r d
    item-met-out (compare c) q q' r le d = refl
    item-met-out (choose c x y) q q' r le (inl m) =
        items-met-out x q q' r r le (inside-same p r) m.1
    item-met-out (choose c x y) q q' r le (inr m) =
        items-met-out y q q' r r le (inside-same p r) m.1
    item-met-out (fact place n k args s) q q' r le d = refl
    item-met-out (atom place n k i asked) q q' r le d = refl
    item-met-out (cell place x s) q q' r le d = refl

    pub items-met-out :
        (xs : Items) (q q' r r' : Stock) (le : Inside p q q') (less : Inside p r' r)
        (d : DrawsAll p T a xs q r) →
        items_met p T a xs q' r' (draws-all-more p T a xs q q' r r' le less d)
        ≡ items_met p T a xs q r d
    items-met-out none q q' r r' le less d = refl
    items-met-out (item i more) q q' r r' le less d =
        λ j. item-met-out i q q' d.0 le d.1 j
        ++ items-met-out more d.0 d.0 r r' (inside-same p d.0) less d.2 j

  mutual
    pub item-told-out :
        (i : PlainItem) (q q' r : Stock) (le : Inside p q q') (d : Draws p T a i q r) →
        item_told p T a i q' r (draws-more p T a i q q' r le d) ≡ item_told p T a i q r d
    item-told-out (compare c) q q' r le d = refl
    item-told-out (choose c x y) q q' r le (inl m) =
        items-told-out x q q' r r le (inside-same p r) m.1
    item-told-out (choose c x y) q q' r le (inr m) =
        items-told-out y q q' r r le (inside-same p r) m.1
    item-told-out (fact place n k args s) q q' r le d = refl
    item-told-out (atom place n k i asked) q q' r le d = refl
    item-told-out (cell place x s) q q' r le d = refl

    pub items-told-out :
        (xs : Items) (q q' r r' : Stock) (le : Inside p q q') (less : Inside p r' r)
        (d : DrawsAll p T a xs q r) →
        items_told p T a xs q' r' (draws-all-more p T a xs q q' r r' le less d)
        ≡ items_told p T a xs q r d
    items-told-out none q q' r r' le less d = refl
    items-told-out (item i more) q q' r r' le less d =
        λ j. item-told-out i q q' d.0 le d.1 j
        ++ items-told-out more d.0 d.0 r r' (inside-same p d.0) less d.2 j

  -- items one after the other
  pub met-apart :
      (xs ys : Items) (q r : Stock) (d : DrawsAll p T a (append_items xs ys) q r) →
      items_met p T a (append_items xs ys) q r d
      ≡ items_met p T a xs q (draws-apart p T a xs ys q r d).0 (draws-apart p T a xs ys q r d).1
      ++ items_met p T a ys (draws-apart p T a xs ys q r d).0 r (draws-apart p T a xs ys q r d).2
  met-apart none ys q r d = refl
  met-apart (item i xs) ys q r d =
      let k = draws-apart p T a xs ys d.0 r d.2 in
      ap (λ ws. item_met p T a i q d.0 d.1 ++ ws) (met-apart xs ys d.0 r d.2)
      ∙ join-assoc (item_met p T a i q d.0 d.1) (items_met p T a xs d.0 k.0 k.1)
      (items_met p T a ys k.0 r k.2)

  pub told-apart :
      (xs ys : Items) (q r : Stock) (d : DrawsAll p T a (append_items xs ys) q r) →
      items_told p T a (append_items xs ys) q r d
      ≡ items_told p T a xs q (draws-apart p T a xs ys q r d).0 (draws-apart p T a xs ys q r d).1
      ++ items_told p T a ys (draws-apart p T a xs ys q r d).0 r
      (draws-apart p T a xs ys q r d).2
  told-apart none ys q r d = refl
  told-apart (item i xs) ys q r d =
      let k = draws-apart p T a xs ys d.0 r d.2 in
      ap (λ ws. item_told p T a i q d.0 d.1 ++ ws) (told-apart xs ys d.0 r d.2)
      ∙ join-assoc (item_told p T a i q d.0 d.1) (items_told p T a xs d.0 k.0 k.1)
      (items_told p T a ys k.0 r k.2)

  -- where the sum is another, and where the items are
  pub met-same :
      (xs : Items) (q q' r : Stock) (e : q ≡ q') (d : DrawsAll p T a xs q r) →
      items_met p T a xs q' r (subst (λ x. DrawsAll p T a xs x r) e d) ≡ items_met p T a xs q r d
  met-same xs q q' r e d =
      sym (λ j. items_met p T a xs (e j) r (coe 0 j (k. DrawsAll p T a xs (e k) r) d))

  pub told-same :
      (xs : Items) (q q' r : Stock) (e : q ≡ q') (d : DrawsAll p T a xs q r) →
      items_told p T a xs q' r (subst (λ x. DrawsAll p T a xs x r) e d)
      ≡ items_told p T a xs q r d
  told-same xs q q' r e d =
      sym (λ j. items_told p T a xs (e j) r (coe 0 j (k. DrawsAll p T a xs (e k) r) d))

  pub met-items :
      (xs ys : Items) (q r : Stock) (e : xs ≡ ys) (d : DrawsAll p T a xs q r) →
      items_met p T a ys q r (subst (λ x. DrawsAll p T a x q r) e d) ≡ items_met p T a xs q r d
  met-items xs ys q r e d =
      sym (λ j. items_met p T a (e j) q r (coe 0 j (k. DrawsAll p T a (e k) q r) d))

  pub told-items :
      (xs ys : Items) (q r : Stock) (e : xs ≡ ys) (d : DrawsAll p T a xs q r) →
      items_told p T a ys q r (subst (λ x. DrawsAll p T a x q r) e d) ≡ items_told p T a xs q r d
  told-items xs ys q r e d =
      sym (λ j. items_told p T a (e j) q r (coe 0 j (k. DrawsAll p T a (e k) q r) d))
