-- Cells in code, and a heap.
use Rattle.std.proofs.Common.{◌≡◌, ◌∙◌, ap, refl, sym, Bool, true, false, cond}
use Rattle.std.specs.Prelude.{ℤ, int_lt, None}
use Rattle.std.specs.Ordering.{int_cmp, is_eq}
use Rattle.std.specs.declared.cmp.Ordering.TheVariants.{Less, Equal, Greater}
use Rattle.std.specs.Cmp.{int_cmp_total}
use Rattle.std.specs.FinMap.{remove, from_entries, get-remove, same_map, int_cmp-IsAntisymmetric}
use Rattle.std.specs.BTreeMap as tree
use Rattle.std.specs.BTreeMap.{BTreeMap, UpdatesBy}
use Rattle.cap_owners_parts.proofs.Maps.{tree_get}

is_eq_sym : (a b : ℤ) → is_eq (int_cmp a b) ≡ is_eq (int_cmp b a)
is_eq_sym a b = by_tests (int_lt a b) (int_lt b a)
  where
    by_tests : (s t : Bool) → is_eq (cond s Less (cond t Greater Equal)) ≡ is_eq (cond t Less (cond s Greater Equal))
    by_tests true true = refl
    by_tests true false = refl
    by_tests false true = refl
    by_tests false false = refl

pub tree_cut : {X : Type 0} (m n : BTreeMap ℤ X) (k : ℤ) → UpdatesBy int_cmp (int_cmp k) m n None → from_entries {R = int_cmp} n.entries ≡ remove (from_entries m.entries) k
tree_cut m n k u =
    same_map int_cmp_total int_cmp-IsAntisymmetric _ _
    (λ q. tree_get n q ∙ (u.0 q ∙ (ap (λ b. cond b None (tree.get int_cmp m q)) (is_eq_sym k q) ∙ (ap (λ o. cond (is_eq (int_cmp q k)) None o) (sym (tree_get m q)) ∙ sym (get-remove int_cmp_total _ k q)))))
