-- Lists of items, and tasks that are done.
use Rattle.std.proofs.Common.{◌≡◌, false, List, [], ◌∷◌, map, refl, ap, sym, ◌∙◌, rules}
use Rattle.std.specs.Borrow.{Bor}
use Rattle.cap_prog.specs.declared.assertion.Assertion.{Assertion}
use Rattle.cap_prog.specs.declared.assertion.Item.{Item}
use Rattle.cap_prog.specs.declared.assertion.Item.TheFolds.{the_lemmas}
use Rattle.cap_prog.specs.Program.{Items, none, item, items_of, append_items}
use Rattle.cap_prog.specs.Views.{item_view, items_view}
use Rattle.cap_goal.specs.Views.{items_in, has_no_items}

some-append : (a b : Items) → has_no_items b ≡ false → has_no_items (append_items a b) ≡ false
some-append none b h = h
some-append (item i a) b h = refl

some-in : (ls : List (Bor (List Item))) (after : Items) → has_no_items after ≡ false → has_no_items (items_in ls after) ≡ false
some-in [] after h = h
some-in (l ∷ ls) after h = some-in ls (append_items (items_of (map item_view l.now)) after) (some-append (items_of (map item_view l.now)) after h)

some-items : (xs : List Item) → (xs ≡ [] → ⊥) → has_no_items (append_items (items_of (map item_view xs)) none) ≡ false
some-items [] h = absurd (h refl)
some-items (x ∷ xs) h = refl

-- the first list has items
pub some-first : (l : Bor (List Item)) (ls : List (Bor (List Item))) → (l.now ≡ [] → ⊥) → has_no_items (items_in (l ∷ ls) none) ≡ false
some-first l ls h = some-in ls (append_items (items_of (map item_view l.now)) none) (some-items l.now h)

append-none : (is : Items) → append_items is none ≡ is
append-none none = refl
append-none (item i is) = ap (item i) (append-none is)

items-seen : (a : Assertion) → items_view a ≡ items_of (map item_view a.items.items)
items-seen a = search (rules, the_lemmas)

-- one list has the items of an assertion
pub one-list : (a : Assertion) (lists : List (Bor (List Item))) (l : Bor (List Item)) → lists ≡ l ∷ [] → l.now ≡ a.items.items → items_in lists none ≡ items_view a
one-list a lists l e q = ap (λ ls. items_in ls none) e ∙ (append-none (items_of (map item_view l.now)) ∙ (ap (λ is. items_of (map item_view is)) q ∙ sym (items-seen a)))
