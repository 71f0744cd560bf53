use Rattle.std.proofs.Common.{◌≡◌, ◌++◌, drop}
use Rattle.std.specs.Prelude.{codes, flat_map}
use Rattle.cap_prog.specs.Views.{program_view}
use Rattle.cap_outline_spec.specs.Texts.{piece_text}
use Rattle.cap_outline.proofs.held.push_more_pieces.Given as goal

-- what is written and what is left are the whole
abbrev pub invariant-loop-piece : goal.invariant-loop-piece
invariant-loop-piece l =
    l.text.items ++ flat_map (λ x. codes "; " ++ piece_text (program_view l.program) x) (drop l.piece-index l.pieces)
    ≡ l.fn.text.items ++ flat_map (λ x. codes "; " ++ piece_text (program_view l.program) x) l.pieces
