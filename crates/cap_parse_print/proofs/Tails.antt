-- Pieces that are put in front of others.
use Rattle.std.proofs.Common.{◌≡◌, List, [], ◌∷◌, ◌++◌, map, ap, ◌∙◌}
use Rattle.std.specs.Prelude.{reverse}
use Rattle.std.proofs.lemmas.List.{map_push, reverse-append}
use Rattle.cap_syntax.specs.declared.token.Token.{Token}
use Rattle.cap_parse_print.specs.declared.tail.Piece.{Piece}
use Rattle.cap_parse_print.specs.Pieces.{piece_view, tokens_of}

pub tokens-pushed : (pieces : List Piece) (p : Piece)
    → tokens_of (pieces ++ p ∷ []) ≡ piece_view p ∷ tokens_of pieces
tokens-pushed pieces p =
    ap reverse (map_push piece_view pieces p)
    ∙ reverse-append (map piece_view pieces) (piece_view p ∷ [])

pub ruleset tails = (tokens-pushed)
