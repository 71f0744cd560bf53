use Rattle.std.proofs.Common.{◌++◌, ◌∙◌, ap, map}
use Rattle.cap_galg.specs.Views.{algebra_view}
use Rattle.cap_gsolve.specs.Pieces.{piece, full_forms}
use Rattle.cap_gsolve.proofs.FullPieces.{all-means}
use Rattle.cap_gsolve.proofs.full.full_pieces.Goals as goal

pub returns-clause-means : goal.returns-clause-means
returns-clause-means c =
    let a = algebra_view c.args.algebra.now in
    let pieces = map (λ p. piece c.args.region.now c.args.kind p.0 p.1) (full_forms a 0) in
    all-means a c.args.region.now c.args.kind c.push_full.new.pieces.items (c.in_ok-push_full.ensures.1 ∙ ap (λ l. l ++ pieces) c.new-pieces.ensures.items)
