-- The tokens of a text are none of the keywords as which alone tokens are seen.
use Rattle.std.proofs.Common.{◌≡◌, Bool, true, false, List, [], ◌∷◌, All, refl, sym, ap, ◌∙◌}
use Rattle.std.specs.List.{AllByRecursion}
use Rattle.std.proofs.lemmas.List.Elements.{recursion_from_All}
use Rattle.cap_syntax.specs.declared.token.Token.{Token}
use Rattle.cap_syntax.specs.Printing.{IsSpelled}
use Rattle.cap_syntax.specs.Spelling.{spells, keywords}
use Rattle.cap_parse_laws.specs.declared.class.Class.{Class}
use Rattle.cap_parse_laws.specs.declared.class.Class.TheVariants as c
use Rattle.cap_parse_laws.specs.Classes.{class}
use Rattle.cap_parse_laws.proofs.Shapes.{known, is_known, kind_of, text_in}

-- the keywords as which alone tokens are seen
abbrev pub is_new : Class → Bool
is_new c.Caper = true
is_new c.Two = true
is_new c.Faa = true
is_new c.Dispose = true
is_new c.AtIndex = true
is_new c.FromIndex = true
is_new c.Index = true
is_new k = false

abbrev pub IsPlain : Token → Type 0
IsPlain t = is_new (class t) ≡ false

abbrev pub ArePlain : List Token → Type 0
ArePlain = AllByRecursion IsPlain

pub spelled-plain : (t : Token) → IsSpelled t → IsPlain t
unfolding keywords
spelled-plain t s = by (class t) refl
  where
    never : (k : Class) → class t ≡ k → is_known k ≡ true → spells (kind_of k) (text_in k t.text) ≡ false → ⊥
    never k e n f =
        let is = known t k e n in
        let g : true ≡ false = sym s.spelled ∙ ap (λ (u : Token). spells u.kind u.text) is ∙ f in absurd cc

    by : (k : Class) → class t ≡ k → is_new k ≡ false
    by c.Caper e = absurd (never c.Caper e refl refl)
    by c.Two e = absurd (never c.Two e refl refl)
    by c.Faa e = absurd (never c.Faa e refl refl)
    by c.Dispose e = absurd (never c.Dispose e refl refl)
    by c.AtIndex e = absurd (never c.AtIndex e refl refl)
    by c.FromIndex e = absurd (never c.FromIndex e refl refl)
    by c.Index e = absurd (never c.Index e refl refl)
    by k e = refl

by-recursion-plain : (ts : List Token) → AllByRecursion IsSpelled ts → ArePlain ts
by-recursion-plain [] h = tt
by-recursion-plain (t ∷ ts) h = (spelled-plain t h.0, by-recursion-plain ts h.1)

pub all-plain : (ts : List Token) → All IsSpelled ts → ArePlain ts
all-plain ts h = by-recursion-plain ts (recursion_from_All IsSpelled ts h)
