-- The tokens that a tree spells.
use Rattle.std.specs.Prelude.{ℕ, List, codes}
use Rattle.cap_syntax.specs.declared.place.Place.{Place}
use Rattle.cap_syntax.specs.declared.token.Token.{Token}
use Rattle.cap_syntax.specs.declared.token.TokenKind.{TokenKind}
use Rattle.cap_syntax.specs.declared.token.TokenKind.TheVariants.{Name, Keyword, Number, Share, Wildcard, Symbol}
use Rattle.cap_parse_tree.specs.declared.word.Word.{Word}
use Rattle.cap_parse_tree.specs.declared.word.Literal.{Literal}

-- a token that is no number has the value 0
abbrev pub plain_token : TokenKind → List ℕ → Place → Token
plain_token k text p = record { kind = k; text = text; value = 0; place = p }

abbrev pub name : Word → Token
name w = plain_token Name w.text w.place

abbrev pub number : Literal → Token
number n = record { kind = Number; text = n.text; value = n.value; place = n.place }

abbrev pub share : Place → Token
share p = plain_token Share (codes "1p") p

abbrev pub wildcard : Place → Token
wildcard p = plain_token Wildcard (codes "_") p

abbrev pub keyword : List ℕ → Place → Token
keyword text p = plain_token Keyword text p

abbrev pub symbol : List ℕ → Place → Token
symbol text p = plain_token Symbol text p
