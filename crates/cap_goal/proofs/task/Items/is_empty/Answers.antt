use Rattle.std.proofs.Common.{◌≡◌, ℕ, suc, ◌==◌, ◌<◌, true, false, List, [], ◌∷◌, slice_index_or, length, drop, drop-cons, sym, ap, ◌∙◌}
use Rattle.cap_prog.specs.Program.{none}
use Rattle.cap_goal.specs.Views.{items_in, has_no_items}
use Rattle.cap_goal.proofs.Tasks.{some-first}
use Rattle.cap_goal.proofs.task.Items.is_empty.Goals as goal

not-empty : {A : Type 0} (xs : List A) → false ≡ (length xs == 0) → xs ≡ [] → ⊥
not-empty xs h e = false-true (h ∙ ap (λ ys. length ys == 0) e)
  where
    false-true : false ≡ true → ⊥
    false-true e = cc

split-at : {A : Type 0} (xs : List A) (i : ℕ) (x : A) → i < length xs → x ≡ slice_index_or xs i x → drop i xs ≡ x ∷ drop (suc i) xs
split-at xs i x h e = drop-cons xs i x h ∙ ap (λ y. y ∷ drop (suc i) xs) (sym e)

pub returns-then-not-is_empty : goal.returns-then-not-is_empty
returns-then-not-is_empty c =
    let items = c.deref-list-items.result.now in
    let at = split-at items c.loop-list.list-index c.list-item.result c.loop-list-test.true c.list-item.is in
    let some : false ≡ (length c.list-item.result.now == 0) = c.if-not-is_empty.ensures in
    let full : c.list-item.result.now ≡ [] → ⊥ = λ e. not-empty c.list-item.result.now some e in
    sym (ap has_no_items (c.loop-list.invariant ∙ ap (λ ls. items_in ls none) at) ∙ some-first c.list-item.result (drop (suc c.loop-list.list-index) items) full)
