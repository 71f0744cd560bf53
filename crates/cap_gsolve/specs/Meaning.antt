-- What symbolic guards mean: under a valuation each piece is an element of its region's guards, and
-- a part of the guards holds the pieces that compose to no more than the part.
use Rattle.std.specs.Prelude.{◌≡◌, ◌≢◌, ℕ, ◌<◌, ◌≤◌, List, [], ◌∷◌, ◌++◌, ◌⊎◌, ℤ, pos, ◌*ℤ◌, Option}
use Rattle.std.specs.Prelude.{Some, None}
use Rattle.std.specs.List.{AllByRecursion}
use Rattle.cap_lin.specs.Linear.{Linear}
use Rattle.cap_lin.specs.Values.{Valuation, denominator, value, amount}
use Rattle.cap_lin.specs.Solves.{Holds}
use Rattle.cap_lin.specs.declared.row.Row.{Row}
use Rattle.cap_galg.specs.cap_galg_spec.declared.fraction.Fraction.{Fraction}
use Rattle.cap_galg.specs.Fractions.{IsShare}
use Rattle.cap_galg_indices.specs.Sets.{indices_from, index_range}
use Rattle.cap_galg.specs.Elements.{Element, nothing, one, share, src, tokens, indices, index_set}
use Rattle.cap_galg.specs.Elements.{compose}
use Rattle.cap_galg.specs.Lists.{compose_all}
use Rattle.cap_galg.specs.Algebras.{PlainAlgebra, unique, divisible, counting, indexed, atoms}
use Rattle.cap_galg.specs.Algebras.{atom_algebra, atom_element, full, AtMost}
use Rattle.cap_gsolve.specs.declared.piece.Form.{Form}
use Rattle.cap_gsolve.specs.declared.piece.Form.TheVariants.{One, Share, Src, Tok, Span}
use Rattle.cap_gsolve.specs.declared.piece.Piece.{Piece}
use Rattle.cap_gsolve.specs.Pieces.{pieces_of}
use Rattle.cap_gsolve.specs.Compat.{compat}

-- the fraction is the term's value
abbrev pub IsValueOf : Valuation → Linear → Fraction → Type 0
IsValueOf v t f = pos f.num *ℤ denominator v.fraction ≡ amount v.fraction t *ℤ pos f.den

-- the element of a form: an amount is above 0 and at most 1, a count is at least 0, and no tokens
-- are nothing; a span is the indices from its start on that are below its end, which is at least the
-- start
abbrev pub IsFormElement : Valuation → Form → Element → Type 0
IsFormElement v One x = x ≡ one
IsFormElement v (Share t) x = (f : Fraction) × IsShare f × IsValueOf v t f × (x ≡ share f)
IsFormElement v (Src t) x = (n : ℕ) × (value v.whole t ≡ pos n) × (x ≡ src n)
IsFormElement v (Tok t) x = (k : ℕ) × (value v.whole t ≡ pos k) × (x ≡ tokens k)
IsFormElement v (Span a None) x =
    (i : ℕ) × (value v.whole a ≡ pos i) × (x ≡ indices (indices_from i))
IsFormElement v (Span a (Some e)) x =
    (i : ℕ) × (j : ℕ) × (value v.whole a ≡ pos i) × (value v.whole e ≡ pos j) × (i ≤ j)
    × (x ≡ index_set (index_range i j))

-- the element of a piece, of the guards that it names
abbrev pub IsPieceElement : PlainAlgebra → Valuation → Piece → Element → Type 0
IsPieceElement a v p x = (y : Element) × IsFormElement v p.form y × (x ≡ atom_element a p.atom y)

-- the number that a piece's region is
abbrev pub region_of : Valuation → Piece → ℤ
region_of v p = value v.whole p.region

-- what a piece is at a region whose guards are of a kind: its element at its own region, which is
-- of its kind unless the element is nothing, and nothing at all others
abbrev pub IsElementAt : PlainAlgebra → ℕ → Valuation → ℤ → Piece → Element → Type 0
IsElementAt a k v r p x =
    ((region_of v p ≡ r) × IsPieceElement a v p x × ((p.kind ≡ k) ⊎ (x ≡ nothing)))
    ⊎ ((region_of v p ≢ r) × (x ≡ nothing))

-- what each piece is at a region, in order
abbrev pub AreElementsAt : PlainAlgebra → ℕ → Valuation → ℤ → List Piece → List Element → Type 0
AreElementsAt a k v r [] [] = Unit {0}
AreElementsAt a k v r (p ∷ ps) (x ∷ xs) = IsElementAt a k v r p x × AreElementsAt a k v r ps xs
AreElementsAt a k v r ps xs = ⊥

-- what pieces compose to at a region
abbrev pub ComposeAt : PlainAlgebra → ℕ → Valuation → ℤ → List Piece → Element → Type 0
ComposeAt a k v r ps x =
    (xs : List Element) × AreElementsAt a k v r ps xs × (compose_all xs ≡ Some x)

-- under each valuation the pieces are all of the region's guards
abbrev pub AreAll : PlainAlgebra → Linear → ℕ → List Piece → Type 0
AreAll a r k ps = (v : Valuation) → ComposeAt a k v (value v.whole r) ps (full a)

-- the kinds of guards, by number, and the kind of each region
pub record Kinds : Type 0 where
  pub algebra : ℕ → PlainAlgebra
  pub kind : ℤ → ℕ

-- a part has an element for each region, and holds pieces that compose to at most this at each
abbrev pub HoldsPieces : Kinds → (ℤ → Element) → Valuation → List Piece → Type 0
HoldsPieces g part v ps = (r : ℤ)
    → (x : Element) × ComposeAt (g.algebra (g.kind r)) (g.kind r) v r ps x
    × AtMost (g.algebra (g.kind r)) x (part r)

-- an atomic algebra's guards are of this form
abbrev pub Takes : PlainAlgebra → Form → Type 0
Takes unique One = Unit {0}
Takes divisible (Share t) = Unit {0}
Takes counting (Src n) = Unit {0}
Takes counting (Tok k) = Unit {0}
Takes indexed (Span a e) = Unit {0}
Takes a f = ⊥

-- a piece has an atom of the algebra, and a form that fits it
abbrev pub Fits : PlainAlgebra → Piece → Type 0
Fits a p = (p.atom < atoms a) × Takes (atom_algebra a p.atom) p.form

-- a part that holds pieces together with a new one, which are known to fit, holds what they are
-- merged to, and the rows hold
abbrev pub MergesTo : PlainAlgebra → List Piece → Piece → List Piece → List Row → Type 0
MergesTo a ps p qs rows =
    (g : Kinds) (part : ℤ → Element) (v : Valuation)
    → g.algebra p.kind ≡ a → AllByRecursion (λ q. q.kind ≡ p.kind → Fits a q) ps → Fits a p
    → HoldsPieces g part v (ps ++ (p ∷ []))
    → HoldsPieces g part v qs × AllByRecursion (Holds v) rows

-- a piece has an element under a valuation
abbrev pub HasElement : Valuation → Piece → Type 0
HasElement v p = (x : Element) × IsFormElement v p.form x

-- where each of the pieces has an element and the rows hold, a part that holds what the pieces and
-- a new one are merged to holds the pieces together with the new one
abbrev pub MergeSuffices : List Piece → Piece → List Piece → List Row → Type 0
MergeSuffices ps p qs rows =
    (g : Kinds) (part : ℤ → Element) (v : Valuation)
    → AllByRecursion (HasElement v) ps → AllByRecursion (Holds v) rows
    → HoldsPieces g part v qs
    → HoldsPieces g part v (ps ++ (p ∷ []))

-- there are rows, and each holds
abbrev pub AllHold : Valuation → Option (List Row) → Type 0
AllHold v None = ⊥
AllHold v (Some rows) = AllByRecursion (Holds v) rows

-- wanted atoms of a region's guards, as pieces
abbrev pub wanted_pieces : Linear → ℕ → List (ℕ × Form) → List Piece
wanted_pieces r k ws = pieces_of r k ws

-- under each valuation by which wanted atoms of a region compose with pieces, an answer is rows,
-- and they hold
abbrev pub CoversWanted : PlainAlgebra → List Piece → Linear → ℕ → List (ℕ × Form)
    → Option (List Row) → Type 0
CoversWanted a ps r k ws answer =
    (v : Valuation) (x y z : Element)
    → ComposeAt a k v (value v.whole r) ps x
    → ComposeAt a k v (value v.whole r) (wanted_pieces r k ws) y
    → compose x y ≡ Some z
    → AllHold v answer

-- what compatibility answers covers the wanted atoms in this way
abbrev pub CompatMeans : Type 0
CompatMeans = (a : PlainAlgebra) (ps : List Piece) (r : Linear) (k : ℕ) (ws : List (ℕ × Form))
    → CoversWanted a ps r k ws (compat a ps r k ws)

-- what two parts hold is held together by the part that they compose to
abbrev pub PartsCompose : Type 0
PartsCompose =
    (g : Kinds) (v : Valuation) (first second both : ℤ → Element) (ps qs : List Piece)
    → ((r : ℤ) → compose (first r) (second r) ≡ Some (both r))
    → HoldsPieces g first v ps → HoldsPieces g second v qs
    → HoldsPieces g both v (ps ++ qs)
