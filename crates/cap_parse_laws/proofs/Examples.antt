-- Places of refusals, computed.
use Rattle.std.proofs.Common.{◌≡◌, ℕ, List, [], ◌∷◌, ◌+◌, Result, Ok, Err, refl, codes}
use Rattle.cap_syntax.specs.declared.place.Place.{Place}
use Rattle.cap_syntax.specs.declared.token.Token.{Token}
use Rattle.cap_syntax.specs.declared.token.TokenKind.TheVariants as kind
use Rattle.cap_parse_tree.specs.Tree.{ProgramTree}
use Rattle.cap_parse_tree.specs.Tokens.{keyword, symbol}
use Rattle.cap_parse_laws.specs.Readers.{Fault, unexpected, too_deep}
use Rattle.cap_parse_laws.specs.Grammar.{read_program}
use Rattle.cap_parse_laws.specs.Versions.{worded}

abbrev at : Place
at = record { line = 1; column = 1 }

abbrev n : List ℕ → Token
n text = record { kind = kind.Name; text = text; value = 0; place = at }

abbrev d : List ℕ → ℕ → Token
d text value = record { kind = kind.Number; text = text; value = value; place = at }

abbrev s : List ℕ → Token
s text = symbol text at

abbrev k : List ℕ → Token
k text = keyword text at

-- how many tokens are left at a refusal; 100 for a text
left : List Token → ℕ
left [] = 0
left (t ∷ ts) = 1 + left ts

answer : Result ProgramTree Fault → ℕ
answer (Ok t) = 100
answer (Err (unexpected rest)) = left rest
answer (Err (too_deep rest)) = 50

abbrev of : List Token → ℕ
of ts = answer (read_program 64 (worded ts))

abbrev header : List Token → List Token
header ts = n (codes "caper") ∷ d (codes "2") 2 ∷ s (codes ";") ∷ ts

nothing : of [] ≡ 100
unfolding left answer
nothing = refl

-- caper
example_0 : of (n (codes "caper") ∷ []) ≡ 0
unfolding left answer
example_0 = refl

-- caper 2
example_1 : of (n (codes "caper") ∷ d (codes "2") 2 ∷ []) ≡ 0
unfolding left answer
example_1 = refl

-- caper 2 ;
example_2 : of (n (codes "caper") ∷ d (codes "2") 2 ∷ s (codes ";") ∷ []) ≡ 100
unfolding left answer
example_2 = refl

-- caper 02 ;
example_3 : of (n (codes "caper") ∷ d (codes "02") 2 ∷ s (codes ";") ∷ []) ≡ 2
unfolding left answer
example_3 = refl

-- caper 3 ;
example_4 : of (n (codes "caper") ∷ d (codes "3") 3 ∷ s (codes ";") ∷ []) ≡ 2
unfolding left answer
example_4 = refl

-- caper x ;
example_5 : of (n (codes "caper") ∷ n (codes "x") ∷ s (codes ";") ∷ []) ≡ 2
unfolding left answer
example_5 = refl

-- caper 2 ; caper
example_6 : of (n (codes "caper") ∷ d (codes "2") 2 ∷ s (codes ";") ∷ n (codes "caper") ∷ []) ≡ 1
unfolding left answer
example_6 = refl

-- caper 2 ; function caper ( ) { }
example_7 : of (n (codes "caper") ∷ d (codes "2") 2 ∷ s (codes ";") ∷ k (codes "function") ∷ n (codes "caper") ∷ s (codes "(") ∷ s (codes ")") ∷ s (codes "{") ∷ s (codes "}") ∷ []) ≡ 100
unfolding left answer
example_7 = refl

-- caper 2 ; function FAA ( ) { }
example_8 : of (n (codes "caper") ∷ d (codes "2") 2 ∷ s (codes ";") ∷ k (codes "function") ∷ n (codes "FAA") ∷ s (codes "(") ∷ s (codes ")") ∷ s (codes "{") ∷ s (codes "}") ∷ []) ≡ 5
unfolding left answer
example_8 = refl

-- function FAA ( ) { }
example_9 : of (k (codes "function") ∷ n (codes "FAA") ∷ s (codes "(") ∷ s (codes ")") ∷ s (codes "{") ∷ s (codes "}") ∷ []) ≡ 100
unfolding left answer
example_9 = refl

-- function at ( ) { at := FAA ( 1 , from ) ; dispose ( at ) ; }
example_10 : of (k (codes "function") ∷ n (codes "at") ∷ s (codes "(") ∷ s (codes ")") ∷ s (codes "{") ∷ n (codes "at") ∷ s (codes ":=") ∷ n (codes "FAA") ∷ s (codes "(") ∷ d (codes "1") 1 ∷ s (codes ",") ∷ n (codes "from") ∷ s (codes ")") ∷ s (codes ";") ∷ n (codes "dispose") ∷ s (codes "(") ∷ n (codes "at") ∷ s (codes ")") ∷ s (codes ";") ∷ s (codes "}") ∷ []) ≡ 100
unfolding left answer
example_10 = refl

-- caper 2 ; function f ( ) { x := FAA ( 1 , from ) ; }
example_11 : of (n (codes "caper") ∷ d (codes "2") 2 ∷ s (codes ";") ∷ k (codes "function") ∷ n (codes "f") ∷ s (codes "(") ∷ s (codes ")") ∷ s (codes "{") ∷ n (codes "x") ∷ s (codes ":=") ∷ n (codes "FAA") ∷ s (codes "(") ∷ d (codes "1") 1 ∷ s (codes ",") ∷ n (codes "from") ∷ s (codes ")") ∷ s (codes ";") ∷ s (codes "}") ∷ []) ≡ 4
unfolding left answer
example_11 = refl

-- caper 2 ; function f ( x ) { x := FAA ( x , 1 ) ; dispose ( x ) ; }
example_12 : of (n (codes "caper") ∷ d (codes "2") 2 ∷ s (codes ";") ∷ k (codes "function") ∷ n (codes "f") ∷ s (codes "(") ∷ n (codes "x") ∷ s (codes ")") ∷ s (codes "{") ∷ n (codes "x") ∷ s (codes ":=") ∷ n (codes "FAA") ∷ s (codes "(") ∷ n (codes "x") ∷ s (codes ",") ∷ d (codes "1") 1 ∷ s (codes ")") ∷ s (codes ";") ∷ n (codes "dispose") ∷ s (codes "(") ∷ n (codes "x") ∷ s (codes ")") ∷ s (codes ";") ∷ s (codes "}") ∷ []) ≡ 100
unfolding left answer
example_12 = refl

-- caper 2 ; function f ( ) { at := 1 ; }
example_13 : of (n (codes "caper") ∷ d (codes "2") 2 ∷ s (codes ";") ∷ k (codes "function") ∷ n (codes "f") ∷ s (codes "(") ∷ s (codes ")") ∷ s (codes "{") ∷ n (codes "at") ∷ s (codes ":=") ∷ d (codes "1") 1 ∷ s (codes ";") ∷ s (codes "}") ∷ []) ≡ 5
unfolding left answer
example_13 = refl

-- caper 2 ; function f ( ) requires x = FAA ; { }
example_14 : of (n (codes "caper") ∷ d (codes "2") 2 ∷ s (codes ";") ∷ k (codes "function") ∷ n (codes "f") ∷ s (codes "(") ∷ s (codes ")") ∷ k (codes "requires") ∷ n (codes "x") ∷ s (codes "=") ∷ n (codes "FAA") ∷ s (codes ";") ∷ s (codes "{") ∷ s (codes "}") ∷ []) ≡ 4
unfolding left answer
example_14 = refl

-- caper 2 ; region R ( r ) { guards A * [ G ] + ( [ H ] ) ; interpretation { } actions { at H [ n ] * from G [ m ] : n ~> m ; } }
example_15 : of (n (codes "caper") ∷ d (codes "2") 2 ∷ s (codes ";") ∷ k (codes "region") ∷ n (codes "R") ∷ s (codes "(") ∷ n (codes "r") ∷ s (codes ")") ∷ s (codes "{") ∷ k (codes "guards") ∷ n (codes "A") ∷ s (codes "*") ∷ s (codes "[") ∷ n (codes "G") ∷ s (codes "]") ∷ s (codes "+") ∷ s (codes "(") ∷ s (codes "[") ∷ n (codes "H") ∷ s (codes "]") ∷ s (codes ")") ∷ s (codes ";") ∷ k (codes "interpretation") ∷ s (codes "{") ∷ s (codes "}") ∷ k (codes "actions") ∷ s (codes "{") ∷ n (codes "at") ∷ n (codes "H") ∷ s (codes "[") ∷ n (codes "n") ∷ s (codes "]") ∷ s (codes "*") ∷ n (codes "from") ∷ n (codes "G") ∷ s (codes "[") ∷ n (codes "m") ∷ s (codes "]") ∷ s (codes ":") ∷ n (codes "n") ∷ s (codes "~>") ∷ n (codes "m") ∷ s (codes ";") ∷ s (codes "}") ∷ s (codes "}") ∷ []) ≡ 100
unfolding left answer
example_15 = refl

-- region R ( r ) { guards [ G ] ; interpretation { } actions { } }
example_16 : of (k (codes "region") ∷ n (codes "R") ∷ s (codes "(") ∷ n (codes "r") ∷ s (codes ")") ∷ s (codes "{") ∷ k (codes "guards") ∷ s (codes "[") ∷ n (codes "G") ∷ s (codes "]") ∷ s (codes ";") ∷ k (codes "interpretation") ∷ s (codes "{") ∷ s (codes "}") ∷ k (codes "actions") ∷ s (codes "{") ∷ s (codes "}") ∷ s (codes "}") ∷ []) ≡ 11
unfolding left answer
example_16 = refl

-- region R ( r ) { guards A ; interpretation { } actions { at H [ n ] : n ~> m ; } }
example_17 : of (k (codes "region") ∷ n (codes "R") ∷ s (codes "(") ∷ n (codes "r") ∷ s (codes ")") ∷ s (codes "{") ∷ k (codes "guards") ∷ n (codes "A") ∷ s (codes ";") ∷ k (codes "interpretation") ∷ s (codes "{") ∷ s (codes "}") ∷ k (codes "actions") ∷ s (codes "{") ∷ n (codes "at") ∷ n (codes "H") ∷ s (codes "[") ∷ n (codes "n") ∷ s (codes "]") ∷ s (codes ":") ∷ n (codes "n") ∷ s (codes "~>") ∷ n (codes "m") ∷ s (codes ";") ∷ s (codes "}") ∷ s (codes "}") ∷ []) ≡ 11
unfolding left answer
example_17 = refl

-- caper 2 ; region R ( r ) { guards [ G * A ; interpretation { } actions { } }
example_18 : of (n (codes "caper") ∷ d (codes "2") 2 ∷ s (codes ";") ∷ k (codes "region") ∷ n (codes "R") ∷ s (codes "(") ∷ n (codes "r") ∷ s (codes ")") ∷ s (codes "{") ∷ k (codes "guards") ∷ s (codes "[") ∷ n (codes "G") ∷ s (codes "*") ∷ n (codes "A") ∷ s (codes ";") ∷ k (codes "interpretation") ∷ s (codes "{") ∷ s (codes "}") ∷ k (codes "actions") ∷ s (codes "{") ∷ s (codes "}") ∷ s (codes "}") ∷ []) ≡ 10
unfolding left answer
example_18 = refl

-- caper 2 ; function f ( ) { x := 1 * [ x ] ; }
example_19 : of (n (codes "caper") ∷ d (codes "2") 2 ∷ s (codes ";") ∷ k (codes "function") ∷ n (codes "f") ∷ s (codes "(") ∷ s (codes ")") ∷ s (codes "{") ∷ n (codes "x") ∷ s (codes ":=") ∷ d (codes "1") 1 ∷ s (codes "*") ∷ s (codes "[") ∷ n (codes "x") ∷ s (codes "]") ∷ s (codes ";") ∷ s (codes "}") ∷ []) ≡ 5
unfolding left answer
example_19 = refl
