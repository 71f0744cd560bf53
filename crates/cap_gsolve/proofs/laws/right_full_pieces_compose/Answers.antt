use Rattle.cap_gsolve.proofs.FullPieces.{right-means}
use Rattle.cap_gsolve.proofs.laws.right_full_pieces_compose.Goals as goal

pub returns : goal.returns
returns c = right-means
