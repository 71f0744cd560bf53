-- The number of a class is the tag that the code compares.
use Rattle.std.proofs.Common.{◌≡◌, refl}
use denote.Enum.Declared.{tag_of}
use Rattle.cap_parse_laws.specs.declared.class.Class.{Class}
use Rattle.cap_parse_laws.specs.declared.class.Class.TheVariants.{Name, Number, Share, Wildcard, Region, Function, Requires, Ensures, Guards, Interpretation, Actions, When, Fork, If, Else, While, Invariant, Assert, Return, Alloc, Cas, True, False, Source, Tokens, Caper, Two, Faa, Dispose, AtIndex, FromIndex, Index, Open, Close, OpenBrace, CloseBrace, OpenBracket, CloseBracket, Comma, Semicolon, Colon, Becomes, Equal, Unequal, Less, AtMost, Greater, AtLeast, Plus, Minus, Star, Percent, At, Question, Bar, PointsTo, And, LeadsTo, Other, End}
use Rattle.cap_parse_laws.specs.contracts.class.Class.{the_type}
use Rattle.cap_parse_laws.specs.Classes.{class_number}

pub number-is : (c : Class) → tag_of the_type c ≡ class_number c
number-is Name = refl
number-is Number = refl
number-is Share = refl
number-is Wildcard = refl
number-is Region = refl
number-is Function = refl
number-is Requires = refl
number-is Ensures = refl
number-is Guards = refl
number-is Interpretation = refl
number-is Actions = refl
number-is When = refl
number-is Fork = refl
number-is If = refl
number-is Else = refl
number-is While = refl
number-is Invariant = refl
number-is Assert = refl
number-is Return = refl
number-is Alloc = refl
number-is Cas = refl
number-is True = refl
number-is False = refl
number-is Source = refl
number-is Tokens = refl
number-is Caper = refl
number-is Two = refl
number-is Faa = refl
number-is Dispose = refl
number-is AtIndex = refl
number-is FromIndex = refl
number-is Index = refl
number-is Open = refl
number-is Close = refl
number-is OpenBrace = refl
number-is CloseBrace = refl
number-is OpenBracket = refl
number-is CloseBracket = refl
number-is Comma = refl
number-is Semicolon = refl
number-is Colon = refl
number-is Becomes = refl
number-is Equal = refl
number-is Unequal = refl
number-is Less = refl
number-is AtMost = refl
number-is Greater = refl
number-is AtLeast = refl
number-is Plus = refl
number-is Minus = refl
number-is Star = refl
number-is Percent = refl
number-is At = refl
number-is Question = refl
number-is Bar = refl
number-is PointsTo = refl
number-is And = refl
number-is LeadsTo = refl
number-is Other = refl
number-is End = refl
