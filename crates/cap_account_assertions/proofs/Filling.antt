-- The values at which a state holds after items were given to it, by what is drawn.
use Rattle.std.proofs.Common.{◌≡◌, pos, refl, ap, inl, inr, ◌∙◌}
use Rattle.cap_lin.specs.Linear.{variable}
use Rattle.cap_lin.specs.Values.{Valuation}
use Rattle.cap_lin.specs.declared.row.Sort.TheVariants.{Int}
use Rattle.cap_galg.specs.Elements.{Element}
use Rattle.cap_prog.specs.declared.assertion.Asked.{Asked}
use Rattle.cap_prog.specs.declared.assertion.Asked.TheVariants.{One, Share, Src, Tok, At, From}
use Rattle.cap_prog.specs.Program.{PlainItem, compare, choose, fact, atom, cell, Items, none, item, append_items, PlainProgram}
use Rattle.cap_account_resources.specs.Parts.{Table}
use Rattle.cap_account_resources.proofs.Stocks.{Stock, Inside, inside-same}
use Rattle.cap_account_states.proofs.Filled.{Filled, fill_parts, fill_slot, fill_slots, fill_amount, fill_sides, Puts, puts-none, puts-trans, puts-parts, puts-slot, puts-slots, puts-amount, puts-sides}
use Rattle.cap_account_states.proofs.Wants.{Wants}
use Rattle.cap_account_assertions.proofs.Asserted.{Draws, DrawsAll, draws-more, draws-all-more, draws-join}

-- a form's slot: an amount's numerator, or a whole number
abbrev pub fill_form :
    (a : Valuation) (asked : Asked) (y : Element) → Wants a asked y → Filled → Filled
fill_form a One y h f = f
fill_form a (Share x) y h f = fill_amount a x h.1 f
fill_form a (Src x) y h f = fill_slot a x (pos h.0) f
fill_form a (Tok x) y h f = fill_slot a x (pos h.0) f
fill_form a (At x) y h f = fill_slot a x (pos h.0) f
fill_form a (From x) y h f = fill_slot a x (pos h.0) f

module _ (p : PlainProgram) (T : Table) (a : Valuation) where
  abbrev mutual
    pub fill_item : (i : PlainItem) (q r : Stock) → Draws p T a i q r → Filled → Filled
    fill_item (compare c) q r d f = fill_sides a c f
    fill_item (choose c x y) q r (inl m) f = fill_items x q r m.1 (fill_sides a c f)
    fill_item (choose c x y) q r (inr m) f = fill_items y q r m.1 (fill_sides a c f)
    fill_item (fact place n k args x) q r d f =
        fill_slot a x d.0.1 (fill_slots a args d.0.0 (fill_parts a Int (variable n).parts f))
    fill_item (atom place n k i asked) q r d f =
        fill_form a asked d.1.element d.1.wanted (fill_parts a Int (variable n).parts f)
    fill_item (cell place x y) q r d f = fill_slot a y d.0 (fill_parts a Int x.parts f)

    pub fill_items : (xs : Items) (q r : Stock) → DrawsAll p T a xs q r → Filled → Filled
    fill_items none q r d f = f
    fill_items (item i more) q r d f =
        fill_items more d.0 r d.2 (fill_item i q d.0 d.1 f)

  -- drawn out of more, they are filled alike
  mutual
    fill-item-more :
        (i : PlainItem) (q q' r : Stock) (le : Inside p q q') (d : Draws p T a i q r)
        (f : Filled) →
        fill_item i q' r (draws-more p T a i q q' r le d) f ≡ fill_item i q r d f
    fill-item-more (compare c) q q' r le d f = refl
    fill-item-more (choose c x y) q q' r le (inl m) f =
        fill-more x q q' r r le (inside-same p r) m.1 _
    fill-item-more (choose c x y) q q' r le (inr m) f =
        fill-more y q q' r r le (inside-same p r) m.1 _
    fill-item-more (fact place n k args x) q q' r le d f = refl
    fill-item-more (atom place n k i asked) q q' r le d f = refl
    fill-item-more (cell place x y) q q' r le d f = refl

    pub fill-more :
        (xs : Items) (q q' r r' : Stock) (le : Inside p q q') (less : Inside p r' r)
        (d : DrawsAll p T a xs q r) (f : Filled) →
        fill_items xs q' r' (draws-all-more p T a xs q q' r r' le less d) f
        ≡ fill_items xs q r d f
    fill-more none q q' r r' le less d f = refl
    fill-more (item i more) q q' r r' le less d f =
        fill-more more d.0 d.0 r r' (inside-same p d.0) less d.2 _
        ∙ ap (fill_items more d.0 r d.2) (fill-item-more i q q' d.0 le d.1 f)

  -- items one after the other
  pub fill-join :
      (xs ys : Items) (q m r : Stock) (d : DrawsAll p T a xs q m) (k : DrawsAll p T a ys m r)
      (f : Filled) →
      fill_items (append_items xs ys) q r (draws-join p T a xs ys q m r d k) f
      ≡ fill_items ys m r k (fill_items xs q m d f)
  fill-join none ys q m r d k f = fill-more ys m q r r d (inside-same p r) k f
  fill-join (item i xs) ys q m r d k f = fill-join xs ys d.0 m r d.2 k _

-- ---- as lists of values

puts-form :
    (a : Valuation) (asked : Asked) (y : Element) (h : Wants a asked y) (f : Filled) →
    Puts f (fill_form a asked y h f)
puts-form a One y h f = puts-none f
puts-form a (Share x) y h f = puts-amount a x h.1 f
puts-form a (Src x) y h f = puts-slot a x (pos h.0) f
puts-form a (Tok x) y h f = puts-slot a x (pos h.0) f
puts-form a (At x) y h f = puts-slot a x (pos h.0) f
puts-form a (From x) y h f = puts-slot a x (pos h.0) f

module _ (p : PlainProgram) (T : Table) (a : Valuation) where
  mutual
    pub puts-item :
        (i : PlainItem) (q r : Stock) (d : Draws p T a i q r) (f : Filled) →
        Puts f (fill_item p T a i q r d f)
    puts-item (compare c) q r d f = puts-sides a c f
    puts-item (choose c x y) q r (inl m) f =
        let g = fill_sides a c f in
        puts-trans f g (fill_items p T a x q r m.1 g) (puts-sides a c f) (puts-items x q r m.1 g)
    puts-item (choose c x y) q r (inr m) f =
        let g = fill_sides a c f in
        puts-trans f g (fill_items p T a y q r m.1 g) (puts-sides a c f) (puts-items y q r m.1 g)
    puts-item (fact place n k args x) q r d f =
        let g = fill_parts a Int (variable n).parts f in
        let h = fill_slots a args d.0.0 g in
        puts-trans f h (fill_slot a x d.0.1 h)
        (puts-trans f g h (puts-parts a Int (variable n).parts f) (puts-slots a args d.0.0 g))
        (puts-slot a x d.0.1 h)
    puts-item (atom place n k i asked) q r d f =
        let g = fill_parts a Int (variable n).parts f in
        puts-trans f g (fill_form a asked d.1.element d.1.wanted g)
        (puts-parts a Int (variable n).parts f) (puts-form a asked d.1.element d.1.wanted g)
    puts-item (cell place x y) q r d f =
        let g = fill_parts a Int x.parts f in
        puts-trans f g (fill_slot a y d.0 g) (puts-parts a Int x.parts f) (puts-slot a y d.0 g)

    pub puts-items :
        (xs : Items) (q r : Stock) (d : DrawsAll p T a xs q r) (f : Filled) →
        Puts f (fill_items p T a xs q r d f)
    puts-items none q r d f = puts-none f
    puts-items (item i more) q r d f =
        let g = fill_item p T a i q d.0 d.1 f in
        puts-trans f g (fill_items p T a more d.0 r d.2 g) (puts-item i q d.0 d.1 f)
        (puts-items more d.0 r d.2 g)
