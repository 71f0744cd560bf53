-- A part is what it has: parts of the same cells and guards are one.
use Rattle.std.proofs.Common.{◌≡◌, ℤ, Option, Some, None, refl, sym, ap, ◌∙◌, arith}
use Rattle.std.specs.FinMap.{get, same_map, int_cmp-IsAntisymmetric}
use Rattle.std.specs.Cmp.{int_cmp_total}
use Rattle.cap_machine.specs.Machine.{Heap}
use Rattle.cap_machine_accounts.specs.Parts.{Part, guard_at}
use Rattle.cap_account_resources.specs.Parts.{count_of, cells_of}
use Rattle.cap_account_resources.proofs.Heaps.{counted-is, count-one}

-- heaps of the same counts
same-counts :
    (h k : Heap) → ((a z : ℤ) → cells_of h a z ≡ cells_of k a z) → (a : ℤ) → get h a ≡ get k a
same-counts h k same a = by (get h a) (get k a) refl refl
  where
    by : (o q : Option ℤ) → get h a ≡ o → get k a ≡ q → o ≡ q
    by None None e f = refl
    by None (Some z) e f =
        let i = count-one k a z f in
        let j = ap (λ o. count_of o z) e in
        let s = same a z in
        absurd (omega (arith, i, j, s))
    by (Some z) q e f =
        let i = count-one h a z e in
        let s = same a z in
        sym (sym f ∙ counted-is (get k a) z (omega (arith, i, s)))

pub same-part :
    (q r : Part) → ((a z : ℤ) → cells_of q.cells a z ≡ cells_of r.cells a z) →
    ((n : ℤ) → guard_at q n ≡ guard_at r n) → q ≡ r
same-part q r c g i = record {
  cells =
      same_map int_cmp_total int_cmp-IsAntisymmetric q.cells r.cells
      (same-counts q.cells r.cells c) i;
  guards = same_map int_cmp_total int_cmp-IsAntisymmetric q.guards r.guards g i;
}
