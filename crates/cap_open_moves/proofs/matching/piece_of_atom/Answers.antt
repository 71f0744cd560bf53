use Rattle.std.proofs.Common.{sym, ◌∙◌}
use Rattle.cap_gsolve.specs.Pieces.{of_atom}
use Rattle.cap_rules_steps.proofs.Walking.{there, lacking}
use Rattle.cap_take_holdings.proofs.Places.{found-none, found-some}
use Rattle.cap_open_moves.proofs.matching.piece_of_atom.Goals as goal

pub returns-in-None : goal.returns-in-None
returns-in-None c =
    let a = c.args in
    lacking _ (found-none (of_atom a.region.now a.kind a.atom) a.pieces.now (sym c.place_of_atom.ensures ∙ c.in-None.is))

pub returns-in-Some : goal.returns-in-Some
returns-in-Some c =
    let a = c.args in
    there _ _ (found-some (of_atom a.region.now a.kind a.atom) a.pieces.now c.in-Some.place c.index-pieces-place.result (sym c.place_of_atom.ensures ∙ c.in-Some.is) c.index-pieces-place.is)
