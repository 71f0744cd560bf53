-- The item that comes first, and lists of items.
use Rattle.std.proofs.Common.{◌≡◌, ◌<◌, ◌-◌, List, [], ◌∷◌, ◌++◌, map, length, drop, take, get_or, refl, sym, ap, ◌∙◌, arith, length-drop}
use Rattle.std.specs.Borrow.{Bor}
use Rattle.std.proofs.lemmas.List.{take_all}
use Rattle.cap_prog.specs.declared.assertion.Item.{Item}
use Rattle.cap_prog.specs.Program.{Items, item, none, items_of, append_items}
use Rattle.cap_prog.specs.Views.{item_view}
use Rattle.cap_goal.specs.Views.{items_in}
use Rattle.cap_rules_steps.proofs.Walking.{split-at}
use Rattle.cap_take_items.proofs.Remains.{last-first}

empty-view : (is : List Item) (more : Items) → length is < 1 → append_items (items_of (map item_view is)) more ≡ more
empty-view [] more h = refl
empty-view (i ∷ is) more h = absurd (omega arith)

pub none-last : (ls : List (Bor (List Item))) (l : Bor (List Item)) → length l.now < 1 → items_in (ls ++ l ∷ []) none ≡ items_in ls none
none-last ls l h = last-first ls l none ∙ empty-view l.now (items_in ls none) h

one-last : (ls : List (Bor (List Item))) (l r : Bor (List Item)) (i : Item) → l.now ≡ i ∷ r.now → items_in (ls ++ l ∷ []) none ≡ item (item_view i) (items_in (ls ++ r ∷ []) none)
one-last ls l r i e = last-first ls l none ∙ (ap (λ is. append_items (items_of (map item_view is)) (items_in ls none)) e ∙ ap (item (item_view i)) (sym (last-first ls r none)))

tail : {X : Type 0} (xs : List X) → take (length xs - 1) (drop 1 xs) ≡ drop 1 xs
tail xs = take_all (length xs - 1) (drop 1 xs) (omega (arith, length-drop 1 xs))

pub one-pushed : (pushed ls : List (Bor (List Item))) (l r : Bor (List Item)) (i : Item) → pushed ≡ ls ++ r ∷ [] → 0 < length l.now → i ≡ get_or l.now 0 i → r.now ≡ take (length l.now - 1) (drop 1 l.now) → items_in (ls ++ l ∷ []) none ≡ item (item_view i) (items_in pushed none)
one-pushed pushed ls l r i p h e q =
    let d : l.now ≡ i ∷ r.now = split-at l.now 0 i h e ∙ ap (λ xs. i ∷ xs) (sym (q ∙ tail l.now)) in
    one-last ls l r i d ∙ ap (λ ls. item (item_view i) (items_in ls none)) (sym p)
