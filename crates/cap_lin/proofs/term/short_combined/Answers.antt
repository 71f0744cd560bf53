use Rattle.std.proofs.Common.{refl, ◌∙◌}
use Rattle.std.proofs.lemmas.Int.{to_z-of_z}
use Rattle.cap_lin.proofs.Short.{product-short, sum-short, is-combined}
use Rattle.cap_lin.proofs.term.short_combined.Goals as goal

pub overflow_mul-left : goal.overflow_mul-left
overflow_mul-left c = product-short _ _ (c.is_short.ensures c.if-is_short.true) (c.is_short-then-is_short-2.ensures c.if-is_short-3.true)

pub overflow_mul-right : goal.overflow_mul-right
overflow_mul-right c = product-short _ _ (c.is_short-then-is_short.ensures c.if-is_short-2.true) (c.is_short-then-is_short-3.ensures c.if-is_short-4.true)

pub overflow_add-result : goal.overflow_add-result
overflow_add-result c =
    let h = c.is_short.ensures c.if-is_short.true in
    let k = c.is_short-then-is_short.ensures c.if-is_short-2.true in
    let m = c.is_short-then-is_short-2.ensures c.if-is_short-3.true in
    let n = c.is_short-then-is_short-3.ensures c.if-is_short-4.true in
    let p = to_z-of_z _ _ (product-short _ _ h m) in
    let q = to_z-of_z _ _ (product-short _ _ k n) in
    rw (p, q) (sum-short _ _ _ _ h m k n)

pub returns-then-is_short-4 : goal.returns-then-is_short-4
returns-then-is_short-4 c =
    let h = c.is_short.ensures c.if-is_short.true in
    let k = c.is_short-then-is_short.ensures c.if-is_short-2.true in
    let m = c.is_short-then-is_short-2.ensures c.if-is_short-3.true in
    let n = c.is_short-then-is_short-3.ensures c.if-is_short-4.true in
    let x = to_z-of_z _ _ c.ranges.a in
    let y = to_z-of_z _ _ c.ranges.left in
    let z = to_z-of_z _ _ c.ranges.b in
    let w = to_z-of_z _ _ c.ranges.right in
    let p = to_z-of_z _ _ (product-short _ _ h m) in
    let q = to_z-of_z _ _ (product-short _ _ k n) in
    (is-combined _ _ _ _ _ _ _ _ x y z w h m k n, rw (p, q) (to_z-of_z _ _ (sum-short _ _ _ _ h m k n) ∙ rw (x, y, z, w) refl))
