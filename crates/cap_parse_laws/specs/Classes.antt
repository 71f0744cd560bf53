-- What the grammar sees of a token.
use Rattle.std.specs.Prelude.{ℕ, ◌==◌, cond, List, [], ◌∷◌, Bool, codes, nat_eq}
use Rattle.std.specs.Str.{bytes_eq}
use Rattle.cap_syntax.specs.declared.token.Token.{Token}
use Rattle.cap_syntax.specs.declared.token.TokenKind.{TokenKind}
use Rattle.cap_syntax.specs.declared.token.TokenKind.TheVariants as kind
use Rattle.cap_parse_laws.specs.declared.class.Class.{Class}
use Rattle.cap_parse_laws.specs.declared.class.Class.TheVariants.{Name, Number, Share, Wildcard, Region, Function, Requires, Ensures, Guards, Interpretation, Actions, When, Fork, If, Else, While, Invariant, Assert, Return, Alloc, Cas, True, False, Source, Tokens, Caper, Two, Faa, Dispose, AtIndex, FromIndex, Index, Open, Close, OpenBrace, CloseBrace, OpenBracket, CloseBracket, Comma, Semicolon, Colon, Becomes, Equal, Unequal, Less, AtMost, Greater, AtLeast, Plus, Minus, Star, Percent, At, Question, Bar, PointsTo, And, LeadsTo, Other, End}

-- the first of these texts that the token's is tells its class
abbrev pub class_in : List (List ℕ × Class) → List ℕ → Class
class_in [] text = Other
class_in (entry ∷ more) text = cond (bytes_eq text entry.0) entry.1 (class_in more text)

abbrev pub keyword_table : List (List ℕ × Class)
keyword_table =
    (codes "region", Region) ∷
    (codes "function", Function) ∷
    (codes "requires", Requires) ∷
    (codes "ensures", Ensures) ∷
    (codes "guards", Guards) ∷
    (codes "interpretation", Interpretation) ∷
    (codes "actions", Actions) ∷
    (codes "when", When) ∷
    (codes "fork", Fork) ∷
    (codes "if", If) ∷
    (codes "else", Else) ∷
    (codes "while", While) ∷
    (codes "invariant", Invariant) ∷
    (codes "assert", Assert) ∷
    (codes "return", Return) ∷
    (codes "alloc", Alloc) ∷
    (codes "CAS", Cas) ∷
    (codes "true", True) ∷
    (codes "false", False) ∷
    (codes "src", Source) ∷
    (codes "tok", Tokens) ∷
    (codes "caper", Caper) ∷
    (codes "2", Two) ∷
    (codes "FAA", Faa) ∷
    (codes "dispose", Dispose) ∷
    (codes "at", AtIndex) ∷
    (codes "from", FromIndex) ∷
    (codes "[", Index) ∷ []

abbrev pub keyword_class : List ℕ → Class
keyword_class = class_in keyword_table

abbrev pub symbol_table : List (List ℕ × Class)
symbol_table =
    (codes "(", Open) ∷
    (codes ")", Close) ∷
    (codes "{", OpenBrace) ∷
    (codes "}", CloseBrace) ∷
    (codes "[", OpenBracket) ∷
    (codes "]", CloseBracket) ∷
    (codes ",", Comma) ∷
    (codes ";", Semicolon) ∷
    (codes ":", Colon) ∷
    (codes ":=", Becomes) ∷
    (codes "=", Equal) ∷
    (codes "!=", Unequal) ∷
    (codes "<", Less) ∷
    (codes "<=", AtMost) ∷
    (codes ">", Greater) ∷
    (codes ">=", AtLeast) ∷
    (codes "+", Plus) ∷
    (codes "-", Minus) ∷
    (codes "*", Star) ∷
    (codes "%", Percent) ∷
    (codes "@", At) ∷
    (codes "?", Question) ∷
    (codes "|", Bar) ∷
    (codes "|->", PointsTo) ∷
    (codes "&*&", And) ∷
    (codes "~>", LeadsTo) ∷ []

abbrev pub symbol_class : List ℕ → Class
symbol_class = class_in symbol_table

-- a token that is no number counts nothing
abbrev pub class_by : TokenKind → List ℕ → Class
class_by kind.Name text = Name
class_by kind.Keyword text = keyword_class text
class_by kind.Number text = Number
class_by kind.Share text = cond (bytes_eq text (codes "1p")) Share Other
class_by kind.Wildcard text = cond (bytes_eq text (codes "_")) Wildcard Other
class_by kind.Symbol text = symbol_class text
class_by kind.End text = Other

abbrev pub class_with : TokenKind → List ℕ → ℕ → Class
class_with kind.Number text value = Number
class_with k text value = cond (value == 0) (class_by k text) Other

abbrev pub class : Token → Class
class t = class_with t.kind t.text t.value

-- classes by number
abbrev pub class_number : Class → ℕ
class_number Name = 0
class_number Number = 1
class_number Share = 2
class_number Wildcard = 3
class_number Region = 4
class_number Function = 5
class_number Requires = 6
class_number Ensures = 7
class_number Guards = 8
class_number Interpretation = 9
class_number Actions = 10
class_number When = 11
class_number Fork = 12
class_number If = 13
class_number Else = 14
class_number While = 15
class_number Invariant = 16
class_number Assert = 17
class_number Return = 18
class_number Alloc = 19
class_number Cas = 20
class_number True = 21
class_number False = 22
class_number Source = 23
class_number Tokens = 24
class_number Caper = 25
class_number Two = 26
class_number Faa = 27
class_number Dispose = 28
class_number AtIndex = 29
class_number FromIndex = 30
class_number Index = 31
class_number Open = 32
class_number Close = 33
class_number OpenBrace = 34
class_number CloseBrace = 35
class_number OpenBracket = 36
class_number CloseBracket = 37
class_number Comma = 38
class_number Semicolon = 39
class_number Colon = 40
class_number Becomes = 41
class_number Equal = 42
class_number Unequal = 43
class_number Less = 44
class_number AtMost = 45
class_number Greater = 46
class_number AtLeast = 47
class_number Plus = 48
class_number Minus = 49
class_number Star = 50
class_number Percent = 51
class_number At = 52
class_number Question = 53
class_number Bar = 54
class_number PointsTo = 55
class_number And = 56
class_number LeadsTo = 57
class_number Other = 58
class_number End = 59

abbrev pub are_same : Class → Class → Bool
are_same a b = nat_eq (class_number a) (class_number b)
