use Rattle.std.proofs.Common.{rules, subst, sym}
use Rattle.cap_galg_indices.specs.Sets.{AreBounds}
use Rattle.cap_galg_indices.specs.Laws.Unions.{union-ascends}
use Rattle.cap_owners_parts.proofs.indices.Indices.compose.Goals as goal

pub invariant_of-result : goal.invariant_of-result
invariant_of-result c =
    let l : AreBounds c.deref-3.result.now = search rules in
    let r : AreBounds c.deref-4.result.now = search rules in
    subst AreBounds (sym c.in_ok-bounds.ensures) (union-ascends 0 c.deref-3.result.now c.deref-4.result.now l r)
