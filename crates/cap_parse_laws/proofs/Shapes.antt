-- What a token of each class is.
use Rattle.std.proofs.Common.{◌≡◌, ◌==◌, ◌⊎◌, inl, inr, ℕ, suc, Bool, true, false, cond, List, [], ◌∷◌, Option, Some, codes, refl, sym, ap, ◌∙◌, arith, nat_eq}
use Rattle.std.proofs.lemmas.Bool.Decides.{nat_tests}
use Rattle.std.proofs.lemmas.Slice.Eq.{bytes_eq-Decides}
use Rattle.std.specs.Str.{bytes_eq}
use Rattle.cap_syntax.specs.declared.place.Place.{Place}
use Rattle.cap_syntax.specs.declared.token.Token.{Token}
use Rattle.cap_syntax.specs.declared.token.TokenKind.{TokenKind}
use Rattle.cap_syntax.specs.declared.token.TokenKind.TheVariants as kind
use Rattle.cap_parse_tree.specs.Nesting.{one_fewer, room_behind}
use Rattle.cap_parse_laws.specs.declared.class.Class.{Class}
use Rattle.cap_parse_laws.specs.declared.class.Class.TheVariants.{Name, Number, Share, Wildcard, Region, Function, Requires, Ensures, Guards, Interpretation, Actions, When, Fork, If, Else, While, Invariant, Assert, Return, Alloc, Cas, True, False, Source, Tokens, Caper, Two, Faa, Dispose, AtIndex, FromIndex, Index, Open, Close, OpenBrace, CloseBrace, OpenBracket, CloseBracket, Comma, Semicolon, Colon, Becomes, Equal, Unequal, Less, AtMost, Greater, AtLeast, Plus, Minus, Star, Percent, At, Question, Bar, PointsTo, And, LeadsTo, Other, End}
use Rattle.cap_parse_laws.specs.Classes.{class_in, keyword_table, symbol_table, class_by, class_with, class, class_number, are_same}

-- classes by number, back
decode : ℕ → Class
decode n =
    cond (nat_eq n 0) Name (cond (nat_eq n 1) Number (cond (nat_eq n 2) Share (cond (nat_eq n 3) Wildcard (cond (nat_eq n 4) Region (
    cond (nat_eq n 5) Function (cond (nat_eq n 6) Requires (cond (nat_eq n 7) Ensures (cond (nat_eq n 8) Guards (cond (nat_eq n 9) Interpretation (
    cond (nat_eq n 10) Actions (cond (nat_eq n 11) When (cond (nat_eq n 12) Fork (cond (nat_eq n 13) If (cond (nat_eq n 14) Else (
    cond (nat_eq n 15) While (cond (nat_eq n 16) Invariant (cond (nat_eq n 17) Assert (cond (nat_eq n 18) Return (cond (nat_eq n 19) Alloc (
    cond (nat_eq n 20) Cas (cond (nat_eq n 21) True (cond (nat_eq n 22) False (cond (nat_eq n 23) Source (cond (nat_eq n 24) Tokens (
    cond (nat_eq n 25) Caper (cond (nat_eq n 26) Two (cond (nat_eq n 27) Faa (cond (nat_eq n 28) Dispose (cond (nat_eq n 29) AtIndex (
    cond (nat_eq n 30) FromIndex (cond (nat_eq n 31) Index (cond (nat_eq n 32) Open (cond (nat_eq n 33) Close (cond (nat_eq n 34) OpenBrace (
    cond (nat_eq n 35) CloseBrace (cond (nat_eq n 36) OpenBracket (cond (nat_eq n 37) CloseBracket (cond (nat_eq n 38) Comma (cond (nat_eq n 39) Semicolon (
    cond (nat_eq n 40) Colon (cond (nat_eq n 41) Becomes (cond (nat_eq n 42) Equal (cond (nat_eq n 43) Unequal (cond (nat_eq n 44) Less (
    cond (nat_eq n 45) AtMost (cond (nat_eq n 46) Greater (cond (nat_eq n 47) AtLeast (cond (nat_eq n 48) Plus (cond (nat_eq n 49) Minus (
    cond (nat_eq n 50) Star (cond (nat_eq n 51) Percent (cond (nat_eq n 52) At (cond (nat_eq n 53) Question (cond (nat_eq n 54) Bar (
    cond (nat_eq n 55) PointsTo (cond (nat_eq n 56) And (cond (nat_eq n 57) LeadsTo (cond (nat_eq n 58) Other (End)))))))))))))))))))))))))))))))))))))))))))))))))))))))))))

decode-number : (k : Class) → decode (class_number k) ≡ k
unfolding decode
decode-number Name = refl
decode-number Number = refl
decode-number Share = refl
decode-number Wildcard = refl
decode-number Region = refl
decode-number Function = refl
decode-number Requires = refl
decode-number Ensures = refl
decode-number Guards = refl
decode-number Interpretation = refl
decode-number Actions = refl
decode-number When = refl
decode-number Fork = refl
decode-number If = refl
decode-number Else = refl
decode-number While = refl
decode-number Invariant = refl
decode-number Assert = refl
decode-number Return = refl
decode-number Alloc = refl
decode-number Cas = refl
decode-number True = refl
decode-number False = refl
decode-number Source = refl
decode-number Tokens = refl
decode-number Caper = refl
decode-number Two = refl
decode-number Faa = refl
decode-number Dispose = refl
decode-number AtIndex = refl
decode-number FromIndex = refl
decode-number Index = refl
decode-number Open = refl
decode-number Close = refl
decode-number OpenBrace = refl
decode-number CloseBrace = refl
decode-number OpenBracket = refl
decode-number CloseBracket = refl
decode-number Comma = refl
decode-number Semicolon = refl
decode-number Colon = refl
decode-number Becomes = refl
decode-number Equal = refl
decode-number Unequal = refl
decode-number Less = refl
decode-number AtMost = refl
decode-number Greater = refl
decode-number AtLeast = refl
decode-number Plus = refl
decode-number Minus = refl
decode-number Star = refl
decode-number Percent = refl
decode-number At = refl
decode-number Question = refl
decode-number Bar = refl
decode-number PointsTo = refl
decode-number And = refl
decode-number LeadsTo = refl
decode-number Other = refl
decode-number End = refl

pub same_is_equal : (j k : Class) → are_same j k ≡ true → j ≡ k
same_is_equal j k e =
    let n : class_number j ≡ class_number k = grind (arith, nat_tests, e) in
    sym (decode-number j) ∙ ap decode n ∙ decode-number k

pub same-self : (k : Class) → are_same k k ≡ true
same-self k = grind (arith, nat_tests)

abbrev pub kind_of : Class → TokenKind
kind_of Name = kind.Name
kind_of Number = kind.Number
kind_of Share = kind.Share
kind_of Wildcard = kind.Wildcard
kind_of Other = kind.End
kind_of End = kind.End
kind_of Region = kind.Keyword
kind_of Function = kind.Keyword
kind_of Requires = kind.Keyword
kind_of Ensures = kind.Keyword
kind_of Guards = kind.Keyword
kind_of Interpretation = kind.Keyword
kind_of Actions = kind.Keyword
kind_of When = kind.Keyword
kind_of Fork = kind.Keyword
kind_of If = kind.Keyword
kind_of Else = kind.Keyword
kind_of While = kind.Keyword
kind_of Invariant = kind.Keyword
kind_of Assert = kind.Keyword
kind_of Return = kind.Keyword
kind_of Alloc = kind.Keyword
kind_of Cas = kind.Keyword
kind_of True = kind.Keyword
kind_of False = kind.Keyword
kind_of Source = kind.Keyword
kind_of Tokens = kind.Keyword
kind_of Caper = kind.Keyword
kind_of Two = kind.Keyword
kind_of Faa = kind.Keyword
kind_of Dispose = kind.Keyword
kind_of AtIndex = kind.Keyword
kind_of FromIndex = kind.Keyword
kind_of Index = kind.Keyword
kind_of k = kind.Symbol

-- a name's and a number's text is their own
abbrev pub text_in : Class → List ℕ → List ℕ
text_in Name text = text
text_in Number text = text
text_in Share text = codes "1p"
text_in Wildcard text = codes "_"
text_in Region text = codes "region"
text_in Function text = codes "function"
text_in Requires text = codes "requires"
text_in Ensures text = codes "ensures"
text_in Guards text = codes "guards"
text_in Interpretation text = codes "interpretation"
text_in Actions text = codes "actions"
text_in When text = codes "when"
text_in Fork text = codes "fork"
text_in If text = codes "if"
text_in Else text = codes "else"
text_in While text = codes "while"
text_in Invariant text = codes "invariant"
text_in Assert text = codes "assert"
text_in Return text = codes "return"
text_in Alloc text = codes "alloc"
text_in Cas text = codes "CAS"
text_in True text = codes "true"
text_in False text = codes "false"
text_in Source text = codes "src"
text_in Tokens text = codes "tok"
text_in Caper text = codes "caper"
text_in Two text = codes "2"
text_in Faa text = codes "FAA"
text_in Dispose text = codes "dispose"
text_in AtIndex text = codes "at"
text_in FromIndex text = codes "from"
text_in Index text = codes "["
text_in Open text = codes "("
text_in Close text = codes ")"
text_in OpenBrace text = codes "{"
text_in CloseBrace text = codes "}"
text_in OpenBracket text = codes "["
text_in CloseBracket text = codes "]"
text_in Comma text = codes ","
text_in Semicolon text = codes ";"
text_in Colon text = codes ":"
text_in Becomes text = codes ":="
text_in Equal text = codes "="
text_in Unequal text = codes "!="
text_in Less text = codes "<"
text_in AtMost text = codes "<="
text_in Greater text = codes ">"
text_in AtLeast text = codes ">="
text_in Plus text = codes "+"
text_in Minus text = codes "-"
text_in Star text = codes "*"
text_in Percent text = codes "%"
text_in At text = codes "@"
text_in Question text = codes "?"
text_in Bar text = codes "|"
text_in PointsTo text = codes "|->"
text_in And text = codes "&*&"
text_in LeadsTo text = codes "~>"
text_in k text = []

abbrev pub value_in : Class → ℕ → ℕ
value_in Number value = value
value_in k value = 0

-- a token of this class with what is a token's own of t
abbrev pub shaped : Class → Token → Token
shaped k t = record { kind = kind_of k; text = text_in k t.text; value = value_in k t.value; place = t.place }

-- a token of this class whose text is the class's
abbrev pub plain : Class → Place → Token
plain k p = record { kind = kind_of k; text = text_in k []; value = 0; place = p }

-- some token has this class, and the grammar may have it
abbrev pub is_known : Class → Bool
is_known Other = false
is_known End = false
is_known k = true

-- all tokens of this class are the same apart from their places
abbrev pub is_plain : Class → Bool
is_plain Name = false
is_plain Number = false
is_plain Other = false
is_plain End = false
is_plain k = true

pub plain-known : (k : Class) → is_plain k ≡ true → is_known k ≡ true
plain-known Name e = cc
plain-known Number e = cc
plain-known Other e = cc
plain-known End e = cc
plain-known k e = refl

pub plain-shaped : (k : Class) → is_plain k ≡ true → (t : Token) → shaped k t ≡ plain k t.place
plain-shaped Name e t = cc
plain-shaped Number e t = cc
plain-shaped k e t = refl

abbrev pub room_after : ℕ → Class → Option ℕ
room_after d Open = one_fewer d
room_after d OpenBrace = one_fewer d
room_after d OpenBracket = one_fewer d
room_after d Index = one_fewer d
room_after d Close = Some (suc d)
room_after d CloseBrace = Some (suc d)
room_after d CloseBracket = Some (suc d)
room_after d k = Some d

pub shaped-room : (k : Class) (d : ℕ) (t : Token) → room_behind d (shaped k t) ≡ room_after d k
shaped-room Open d t = refl
shaped-room k d t = refl

record FitsClass (of_kind : TokenKind) (text : List ℕ) (value : ℕ) (k : Class) : Type 0 where
  known : is_known k ≡ true
  kind_is : of_kind ≡ kind_of k
  text_is : text ≡ text_in k text
  value_is : value ≡ value_in k value

abbrev Seen : TokenKind → List ℕ → ℕ → Class → Type 0
Seen of_kind text value k = (k ≡ Other) ⊎ FitsClass of_kind text value k

abbrev Matches : TokenKind → List (List ℕ × Class) → Type 0
Matches of_kind [] = Unit {0}
Matches of_kind (entry ∷ more) =
    ((text : List ℕ) (value : ℕ) → (is_known entry.1 ≡ true) × (of_kind ≡ kind_of entry.1) × (entry.0 ≡ text_in entry.1 text) × (0 ≡ value_in entry.1 value)) × Matches of_kind more

seen-in : (of_kind : TokenKind) (table : List (List ℕ × Class)) → Matches of_kind table
    → (text : List ℕ) (value : ℕ) → value ≡ 0
    → Seen of_kind text value (class_in table text)
seen-in of_kind [] m text value v = inl refl
seen-in of_kind (entry ∷ more) m text value v = by (seen-in of_kind more m.1 text value v) (bytes_eq text entry.0) refl
  where
    by : Seen of_kind text value (class_in more text) → (b : Bool) → bytes_eq text entry.0 ≡ b → Seen of_kind text value (cond b entry.1 (class_in more text))
    by later true e =
        let same : text ≡ entry.0 = (bytes_eq-Decides text entry.0).0 e in
        let f = m.0 text value in
        inr (record { known = f.0; kind_is = f.1; text_is = same ∙ f.2; value_is = v ∙ f.3 })
    by later false e = later

seen-text : (of_kind : TokenKind) (k : Class) (it text : List ℕ) (value : ℕ) → is_known k ≡ true
    → of_kind ≡ kind_of k → it ≡ text_in k text → 0 ≡ value_in k value → value ≡ 0
    → Seen of_kind text value (cond (bytes_eq text it) k Other)
seen-text of_kind k it text value n f g h v = by (bytes_eq text it) refl
  where
    by : (b : Bool) → bytes_eq text it ≡ b → Seen of_kind text value (cond b k Other)
    by true e = let same : text ≡ it = (bytes_eq-Decides text it).0 e in inr (record { known = n; kind_is = f; text_is = same ∙ g; value_is = v ∙ h })
    by false e = inl refl

seen-by : (of_kind : TokenKind) (text : List ℕ) (value : ℕ) → value ≡ 0
    → (of_kind ≡ kind.Number → ⊥) → Seen of_kind text value (class_by of_kind text)
seen-by kind.Name text value v n = inr (record { known = refl; kind_is = refl; text_is = refl; value_is = v })
seen-by kind.Keyword text value v n = seen-in kind.Keyword keyword_table (λ x v. (refl, refl, refl, refl), (λ x v. (refl, refl, refl, refl), (λ x v. (refl, refl, refl, refl), (λ x v. (refl, refl, refl, refl), (λ x v. (refl, refl, refl, refl), (λ x v. (refl, refl, refl, refl), (λ x v. (refl, refl, refl, refl), (λ x v. (refl, refl, refl, refl), (λ x v. (refl, refl, refl, refl), (λ x v. (refl, refl, refl, refl), (λ x v. (refl, refl, refl, refl), (λ x v. (refl, refl, refl, refl), (λ x v. (refl, refl, refl, refl), (λ x v. (refl, refl, refl, refl), (λ x v. (refl, refl, refl, refl), (λ x v. (refl, refl, refl, refl), (λ x v. (refl, refl, refl, refl), (λ x v. (refl, refl, refl, refl), (λ x v. (refl, refl, refl, refl), (λ x v. (refl, refl, refl, refl), (λ x v. (refl, refl, refl, refl), (λ x v. (refl, refl, refl, refl), (λ x v. (refl, refl, refl, refl), (λ x v. (refl, refl, refl, refl), (λ x v. (refl, refl, refl, refl), (λ x v. (refl, refl, refl, refl), (λ x v. (refl, refl, refl, refl), (λ x v. (refl, refl, refl, refl), tt)))))))))))))))))))))))))))) text value v
seen-by kind.Number text value v n = absurd (n refl)
seen-by kind.Share text value v n = seen-text kind.Share Share (codes "1p") text value refl refl refl refl v
seen-by kind.Wildcard text value v n = seen-text kind.Wildcard Wildcard (codes "_") text value refl refl refl refl v
seen-by kind.Symbol text value v n = seen-in kind.Symbol symbol_table (λ x v. (refl, refl, refl, refl), (λ x v. (refl, refl, refl, refl), (λ x v. (refl, refl, refl, refl), (λ x v. (refl, refl, refl, refl), (λ x v. (refl, refl, refl, refl), (λ x v. (refl, refl, refl, refl), (λ x v. (refl, refl, refl, refl), (λ x v. (refl, refl, refl, refl), (λ x v. (refl, refl, refl, refl), (λ x v. (refl, refl, refl, refl), (λ x v. (refl, refl, refl, refl), (λ x v. (refl, refl, refl, refl), (λ x v. (refl, refl, refl, refl), (λ x v. (refl, refl, refl, refl), (λ x v. (refl, refl, refl, refl), (λ x v. (refl, refl, refl, refl), (λ x v. (refl, refl, refl, refl), (λ x v. (refl, refl, refl, refl), (λ x v. (refl, refl, refl, refl), (λ x v. (refl, refl, refl, refl), (λ x v. (refl, refl, refl, refl), (λ x v. (refl, refl, refl, refl), (λ x v. (refl, refl, refl, refl), (λ x v. (refl, refl, refl, refl), (λ x v. (refl, refl, refl, refl), (λ x v. (refl, refl, refl, refl), tt)))))))))))))))))))))))))) text value v
seen-by kind.End text value v n = inl refl

seen-zero : (of_kind : TokenKind) (text : List ℕ) (value : ℕ) → (of_kind ≡ kind.Number → ⊥)
    → Seen of_kind text value (cond (value == 0) (class_by of_kind text) Other)
seen-zero of_kind text value n = by (value == 0) refl
  where
    by : (b : Bool) → (value == 0) ≡ b → Seen of_kind text value (cond b (class_by of_kind text) Other)
    by true e = seen-by of_kind text value (grind (arith, nat_tests, e)) n
    by false e = inl refl

seen : (of_kind : TokenKind) (text : List ℕ) (value : ℕ)
    → Seen of_kind text value (class_with of_kind text value)
seen kind.Number text value = inr (record { known = refl; kind_is = refl; text_is = refl; value_is = refl })
seen kind.Name text value = seen-zero kind.Name text value (λ e. cc)
seen kind.Keyword text value = seen-zero kind.Keyword text value (λ e. cc)
seen kind.Share text value = seen-zero kind.Share text value (λ e. cc)
seen kind.Wildcard text value = seen-zero kind.Wildcard text value (λ e. cc)
seen kind.Symbol text value = seen-zero kind.Symbol text value (λ e. cc)
seen kind.End text value = seen-zero kind.End text value (λ e. cc)

-- a token is what its class says
pub known : (t : Token) (k : Class) → class t ≡ k → is_known k ≡ true → t ≡ shaped k t
known t k e n = by (seen t.kind t.text t.value)
  where
    by : Seen t.kind t.text t.value (class t) → t ≡ shaped k t
    by (inl o) = let f : is_known Other ≡ true = ap is_known (sym o ∙ e) ∙ n in cc
    by (inr f) = by_parts (f.kind_is ∙ ap kind_of e) (f.text_is ∙ ap (λ j. text_in j t.text) e) (f.value_is ∙ ap (λ j. value_in j t.value) e)
      where
        by_parts : t.kind ≡ kind_of k → t.text ≡ text_in k t.text → t.value ≡ value_in k t.value → t ≡ shaped k t
        by_parts f g h = λ i. record { kind = f i; text = g i; value = h i; place = t.place }

-- no token is the end
pub not-end : (t : Token) → class t ≡ End → ⊥
not-end t e = by (seen t.kind t.text t.value)
  where
    by : Seen t.kind t.text t.value (class t) → ⊥
    by (inl o) = let f : Other ≡ End = sym o ∙ e in absurd cc
    by (inr f) = let g : is_known End ≡ true = sym (ap is_known e) ∙ f.known in absurd cc
