-- What is seen of the pieces of a text. Only private functions cite this.
use Rattle.std.specs.Prelude.{List, map, reverse}
use Rattle.cap_syntax.specs.declared.token.Token.{Token}
use Rattle.cap_parse_print.specs.declared.tail.Piece.{Piece}

abbrev pub piece_view : Piece → Token
piece_view p = record { kind = p.kind; text = p.text.now; value = p.value; place = p.place }

-- the tokens of pieces of which the last of the text comes first
abbrev pub tokens_of : List Piece → List Token
tokens_of pieces = reverse (map piece_view pieces)
