use Rattle.cap_galg.specs.Views.{algebra_view}
use Rattle.cap_gsolve.specs.Merge.{merged, merge_rows, merge_steps}
use Rattle.cap_gsolve.specs.Meaning.{MergesTo, MergeSuffices}
use Rattle.std.proofs.Common.{◌≡◌}
use Rattle.cap_gsolve.proofs.Means.{if-made, merged-means}
use Rattle.cap_gsolve.proofs.Suffices.{merged-suffices}
use Rattle.cap_gsolve.proofs.merging.merge.Goals as goal

pub returns-clause-means : goal.returns-clause-means
returns-clause-means c =
    let a = algebra_view c.args.algebra.now in
    if-made c.composed_in.result
    (merge_steps a c.args.pieces.now c.args.piece.now)
    (λ r. (r.0.items ≡ merged c.args.pieces.now c.args.piece.now) × (r.1.items ≡ merge_rows a c.args.pieces.now c.args.piece.now))
    (λ r. MergesTo a c.args.pieces.now c.args.piece.now r.0.items r.1.items)
    (λ r h. merged-means a c.args.pieces.now r.0.items c.args.piece.now r.1.items h.0 h.1) c.composed_in.ensures

pub returns-clause-suffices : goal.returns-clause-suffices
returns-clause-suffices c =
    let a = algebra_view c.args.algebra.now in
    if-made c.composed_in.result
    (merge_steps a c.args.pieces.now c.args.piece.now)
    (λ r. (r.0.items ≡ merged c.args.pieces.now c.args.piece.now) × (r.1.items ≡ merge_rows a c.args.pieces.now c.args.piece.now))
    (λ r. MergeSuffices c.args.pieces.now c.args.piece.now r.0.items r.1.items)
    (λ r h. merged-suffices a c.args.pieces.now r.0.items c.args.piece.now r.1.items h.0 h.1) c.composed_in.ensures
