use Rattle.std.proofs.Common.{refl, ◌∙◌}
use Rattle.std.proofs.lemmas.Int.{to_z-of_z}
use Rattle.cap_lin.proofs.Results.{product_is-narrow}
use Rattle.cap_lin.proofs.Short.{product-short}
use Rattle.cap_lin.proofs.term.product.Goals as goal

pub returns-then-is_short-2-clause-exact : goal.returns-then-is_short-2-clause-exact
returns-then-is_short-2-clause-exact c =
    let e = to_z-of_z _ _ c.ranges.a in
    let d = to_z-of_z _ _ c.ranges.b in
    let f = product-short _ _ (c.is_short.ensures c.if-is_short.true) (c.is_short-then-is_short.ensures c.if-is_short-2.true) in
    (product_is-narrow _ _ _ _ e d f, to_z-of_z _ _ f ∙ rw (e, d) refl)
