-- What is seen of items and statements.
use Rattle.std.proofs.Common.{◌≡◌, ℕ, map, rules}
use Rattle.cap_prog.specs.declared.assertion.Comp.{Comp}
use Rattle.cap_prog.specs.declared.assertion.Assertion.{Assertion}
use Rattle.cap_prog.specs.declared.assertion.Item.TheVariants as item
use Rattle.cap_prog.specs.declared.assertion.Item.TheFolds.{the_lemmas as item_lemmas}
use Rattle.cap_prog.specs.declared.function.Act.TheVariants as act
use Rattle.cap_prog.specs.declared.function.Act.TheFolds.{the_lemmas as act_lemmas}
use Rattle.cap_prog.specs.declared.function.Statement.{Statement}
use Rattle.cap_prog.specs.Program.{choose, alloc}
use Rattle.cap_prog.specs.Views.{item_view, items_view, act_view, statement_view}

pub choose-seen : (c : Comp) (a b : Assertion) → item_view (item.Choose c a b) ≡ choose c (items_view a) (items_view b)
choose-seen c a b = search (rules, item_lemmas)

pub alloc-seen : (x n : ℕ) → act_view (act.Alloc x n) ≡ alloc x n
alloc-seen x n = search (rules, act_lemmas)

pub act-seen : (s : Statement) → (statement_view s).act ≡ act_view s.act
act-seen s = search (rules, act_lemmas)
