-- What comes first in lists, the last of which comes first.
use Rattle.std.proofs.Common.{◌≡◌, ℕ, ◌+◌, ◌-◌, ◌<◌, ◌≤◌, List, [], ◌∷◌, ◌++◌, map, length, take, drop, get_or, Some, refl, ap, sym, ◌∙◌, arith}
use Rattle.std.proofs.lemmas.List.{take_more}
use Rattle.std.specs.Borrow.{Bor}
use Rattle.cap_prog.specs.declared.assertion.Item.{Item}
use Rattle.cap_prog.specs.declared.function.Statement.{Statement}
use Rattle.cap_prog.specs.Program.{Items, none, items_of, append_items, Block, done, append}
use Rattle.cap_prog.specs.Views.{item_view, block_view, statement_view}
use Rattle.cap_goal.specs.Views.{block_in, items_in}
use Rattle.cap_search_trees.specs.Heads.{head_statement, head_item}

last-taken : {A : Type 0} (ls : List A) (n : ℕ) (l : A) → 0 < n → n ≤ length ls → l ≡ get_or ls (n - 1) l → take n ls ≡ take (n - 1) ls ++ l ∷ []
last-taken ls n l h k e =
    let q : n ≡ (n - 1) + 1 = omega arith in
    ap (λ j. take j ls) q ∙ (take_more ls (n - 1) l (omega arith) ∙ ap (λ x. take (n - 1) ls ++ x ∷ []) (sym e))

cons-of : {A : Type 0} (xs : List A) (x : A) → 0 < length xs → x ≡ get_or xs 0 x → xs ≡ x ∷ drop 1 xs
cons-of [] x h e = absurd (omega arith)
cons-of (y ∷ ys) x h e = ap (λ z. z ∷ ys) (sym e)

nil-of : {A : Type 0} (xs : List A) → length xs < 1 → xs ≡ []
nil-of [] h = refl
nil-of (y ∷ ys) h = absurd (omega arith)

-- ---- statements

blocks-more : (ls : List (Bor (List Statement))) (l : Bor (List Statement)) (after : Block) → block_in (ls ++ l ∷ []) after ≡ append (block_view l.now) (block_in ls after)
blocks-more [] l after = refl
blocks-more (k ∷ ks) l after = blocks-more ks l (append (block_view k.now) after)

-- the last of these lists has some
pub statement-found : (ls : List (Bor (List Statement))) (n : ℕ) (l : Bor (List Statement)) (s : Statement) → 0 < n → n ≤ length ls → l ≡ get_or ls (n - 1) l → 0 < length l.now → s ≡ get_or l.now 0 s → head_statement (block_in (take n ls) done) ≡ Some (statement_view s)
statement-found ls n l s h k e f g =
    ap (λ ks. head_statement (block_in ks done)) (last-taken ls n l h k e)
    ∙ (ap head_statement (blocks-more (take (n - 1) ls) l done)
    ∙ ap (λ xs. head_statement (append (block_view xs) (block_in (take (n - 1) ls) done))) (cons-of l.now s f g))

-- the last of these lists has none
pub statement-passed : (ls : List (Bor (List Statement))) (n : ℕ) (l : Bor (List Statement)) → 0 < n → n ≤ length ls → l ≡ get_or ls (n - 1) l → length l.now < 1 → head_statement (block_in (take n ls) done) ≡ head_statement (block_in (take (n - 1) ls) done)
statement-passed ls n l h k e f =
    ap (λ ks. head_statement (block_in ks done)) (last-taken ls n l h k e)
    ∙ (ap head_statement (blocks-more (take (n - 1) ls) l done)
    ∙ ap (λ xs. head_statement (append (block_view xs) (block_in (take (n - 1) ls) done))) (nil-of l.now f))

-- ---- items

items-more : (ls : List (Bor (List Item))) (l : Bor (List Item)) (after : Items) → items_in (ls ++ l ∷ []) after ≡ append_items (items_of (map item_view l.now)) (items_in ls after)
items-more [] l after = refl
items-more (k ∷ ks) l after = items-more ks l (append_items (items_of (map item_view k.now)) after)

-- the last of these lists has some
pub item-found : (ls : List (Bor (List Item))) (n : ℕ) (l : Bor (List Item)) (i : Item) → 0 < n → n ≤ length ls → l ≡ get_or ls (n - 1) l → 0 < length l.now → i ≡ get_or l.now 0 i → head_item (items_in (take n ls) none) ≡ Some (item_view i)
item-found ls n l i h k e f g =
    ap (λ ks. head_item (items_in ks none)) (last-taken ls n l h k e)
    ∙ (ap head_item (items-more (take (n - 1) ls) l none)
    ∙ ap (λ xs. head_item (append_items (items_of (map item_view xs)) (items_in (take (n - 1) ls) none))) (cons-of l.now i f g))

-- the last of these lists has none
pub item-passed : (ls : List (Bor (List Item))) (n : ℕ) (l : Bor (List Item)) → 0 < n → n ≤ length ls → l ≡ get_or ls (n - 1) l → length l.now < 1 → head_item (items_in (take n ls) none) ≡ head_item (items_in (take (n - 1) ls) none)
item-passed ls n l h k e f =
    ap (λ ks. head_item (items_in ks none)) (last-taken ls n l h k e)
    ∙ (ap head_item (items-more (take (n - 1) ls) l none)
    ∙ ap (λ xs. head_item (append_items (items_of (map item_view xs)) (items_in (take (n - 1) ls) none))) (nil-of l.now f))
