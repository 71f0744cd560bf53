-- Items one after the other: their size, and which fit a program.
use Rattle.std.proofs.Common.{◌≡◌, ℕ, ◌+◌, ◌≤◌, arith}
use Rattle.std.specs.List.{AllByRecursion}
use Rattle.cap_prog.specs.Program.{PlainItem, compare, choose, fact, atom, cell, Items, none, item, append_items, PlainProgram}
use Rattle.cap_prog.specs.Parts.{all_items, side_items}
use Rattle.cap_prog.specs.Scopes.{Scope}
use Rattle.cap_prog.specs.WellFormed.{ItemFits}
use Rattle.cap_account_resources.proofs.Lists.{all-both, all-first, all-second}

-- ---- sizes

abbrev mutual
  pub item_size : PlainItem → ℕ
  item_size (compare c) = 1
  item_size (choose c a b) = 1 + items_size a + items_size b
  item_size (fact place r k args s) = 1
  item_size (atom place r k i asked) = 1
  item_size (cell place a s) = 1

  pub items_size : Items → ℕ
  items_size none = 0
  items_size (item i more) = item_size i + items_size more

pub size-positive : (i : PlainItem) → 1 ≤ item_size i
size-positive (compare c) = omega arith
size-positive (choose c a b) = omega arith
size-positive (fact place r k args s) = omega arith
size-positive (atom place r k i asked) = omega arith
size-positive (cell place a s) = omega arith

pub append-size : (xs ys : Items) → items_size (append_items xs ys) ≡ items_size xs + items_size ys
append-size none ys = omega arith
append-size (item i xs) ys = let q = append-size xs ys in omega (arith, q)

-- ---- items that fit

abbrev pub AreFit : PlainProgram → Scope → Items → Type 0
AreFit p sc items = AllByRecursion (ItemFits p sc) (all_items items)

pub fits-append :
    (p : PlainProgram) (sc : Scope) (xs ys : Items) → AreFit p sc xs → AreFit p sc ys →
    AreFit p sc (append_items xs ys)
fits-append p sc none ys h k = k
fits-append p sc (item i xs) ys h k = (
  h.0,
  all-both (ItemFits p sc) (side_items i) (all_items (append_items xs ys))
      (all-first (ItemFits p sc) (side_items i) (all_items xs) h.1)
      (fits-append p sc xs ys
      (all-second (ItemFits p sc) (side_items i) (all_items xs) h.1) k),
)

-- the items that follow, and those of a side
pub fits-more :
    (p : PlainProgram) (sc : Scope) (i : PlainItem) (more : Items) → AreFit p sc (item i more) →
    AreFit p sc more
fits-more p sc i more h = all-second (ItemFits p sc) (side_items i) (all_items more) h.1

pub fits-sides :
    (p : PlainProgram) (sc : Scope) (i : PlainItem) (more : Items) → AreFit p sc (item i more) →
    AllByRecursion (ItemFits p sc) (side_items i)
fits-sides p sc i more h = all-first (ItemFits p sc) (side_items i) (all_items more) h.1
