-- What is taken out of a part leaves no more cells, and a cell that was taken is gone.
use Rattle.std.proofs.Common.{◌≡◌, ℤ, List, inl, inr, sym, ◌∙◌, subst}
use Rattle.cap_lin.specs.Values.{Valuation, value}
use Rattle.cap_prog.specs.Program.{PlainItem, compare, choose, fact, atom, cell, Items, none, item, PlainProgram}
use Rattle.cap_machine_accounts.specs.Parts.{Part, HasCell, Region, without_cell}
use Rattle.cap_machine_accounts.specs.Assertions.{Takes, TakesAll}
use Rattle.cap_account_resources.proofs.Lists.{none-some}
use Rattle.cap_account_resources.proofs.Order.{same-or}
use Rattle.cap_account_resources.proofs.Heaps.{remove-same, remove-other}

pub gone : (q : Part) (a z : ℤ) → HasCell (without_cell q a) z → z ≡ a → ⊥
gone q a z h e = none-some (sym (remove-same q.cells a z e) ∙ h.1)

pub still : (q : Part) (a z : ℤ) → HasCell (without_cell q a) z → HasCell q z
still q a z h = elim (same-or z a) [
  | inl e ↦ absurd (gone q a z h e)
  | inr ne ↦ (h.0, sym (remove-other q.cells a z ne) ∙ h.1)
]

module _ (p : PlainProgram) (table : List Region) (v : Valuation) where
  mutual
    pub item-still : (i : PlainItem) (q r : Part) → Takes p table v i q r → (z : ℤ) → HasCell r z → HasCell q z
    item-still (compare c) q r h z k = subst (λ x. HasCell x z) h.1 k
    item-still (choose c a b) q r h z k = elim h [
      | inl m ↦ items-still a q r m.1 z k
      | inr m ↦ items-still b q r m.1 z k
    ]
    item-still (fact place n t args s) q r h z k = subst (λ x. HasCell x z) h.1 k
    item-still (atom place n t i asked) q r h z k = subst (λ x. HasCell x z) h.2 k
    item-still (cell place a s) q r h z k = still q (value v.whole a) z (subst (λ x. HasCell x z) h.1 k)

    pub items-still : (is : Items) (q r : Part) → TakesAll p table v is q r → (z : ℤ) → HasCell r z → HasCell q z
    items-still none q r h z k = subst (λ x. HasCell x z) h k
    items-still (item i more) q r h z k = item-still i q h.0 h.1 z (items-still more h.0 r h.2 z k)
