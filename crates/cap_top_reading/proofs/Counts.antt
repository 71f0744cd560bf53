-- A text has no more tokens than bytes.
use Rattle.std.proofs.Common.{◌≡◌, ℕ, zero, suc, ◌<◌, ◌≤◌, Bool, true, false, ◌==◌, if◌then◌else◌, List, [], ◌∷◌, drop, length, refl, sym, ap, ◌∙◌, arith, length-drop}
use Rattle.std.proofs.lemmas.List.{append_cancel_right}
use Rattle.cap_syntax.specs.declared.token.Token.{Token}
use Rattle.cap_syntax.specs.declared.token.TokenKind.{TokenKind}
use Rattle.cap_syntax.specs.declared.token.TokenKind.TheVariants as kind
use Rattle.cap_syntax.specs.Layout.{past_gap, past_comment, begins_comment, is_blank, end_of, Reads}
use Rattle.cap_syntax.specs.Spelling.{IsLongest, spells, keywords, symbols}
use Rattle.cap_prog.specs.WellFormed.{most_members}
use Rattle.cap_parse_tree.specs.Tree.{ProgramTree}
use Rattle.cap_parse_tree.specs.Spelling.{spelling}
use Rattle.cap_parse_laws.specs.Texts.{Spells}
use Rattle.cap_top_reading.proofs.Viewing.{worded-length}

gap_by : (b : ℕ) (bs : List ℕ) (x y : Bool) → length (past_comment bs) ≤ length bs
    → length (past_gap bs) ≤ length bs
    → length (if x then past_comment bs else (if y then past_gap bs else b ∷ bs)) ≤ length (b ∷ bs)
gap_by b bs true y h k = omega (arith, h)
gap_by b bs false true h k = omega (arith, k)
gap_by b bs false false h k = omega arith

comment_by : (b : ℕ) (bs : List ℕ) (x : Bool) → length (past_gap bs) ≤ length bs
    → length (past_comment bs) ≤ length bs
    → length (if x then past_gap bs else past_comment bs) ≤ length (b ∷ bs)
comment_by b bs true h k = omega (arith, h)
comment_by b bs false h k = omega (arith, k)

mutual
  unfolding past_gap past_comment

  gap-le : (bs : List ℕ) → length (past_gap bs) ≤ length bs
  gap-le [] = omega arith
  gap-le (b ∷ bs) =
      gap_by b bs (begins_comment (b ∷ bs)) (is_blank b) (comment-le bs) (gap-le bs)

  comment-le : (bs : List ℕ) → length (past_comment bs) ≤ length bs
  comment-le [] = omega arith
  comment-le (b ∷ bs) = comment_by b bs (b == 10) (gap-le bs) (comment-le bs)

nothing_spelled : (k : TokenKind) → spells k [] ≡ false
unfolding keywords symbols
nothing_spelled kind.Name = refl
nothing_spelled kind.Keyword = refl
nothing_spelled kind.Number = refl
nothing_spelled kind.Share = refl
nothing_spelled kind.Wildcard = refl
nothing_spelled kind.Symbol = refl
nothing_spelled kind.End = refl

some_bytes : (k : TokenKind) (n : ℕ) (rest : List ℕ) → IsLongest k n rest → 0 < n
some_bytes k zero rest h = let e : true ≡ false = sym h.spelled ∙ nothing_spelled k in absurd cc
some_bytes k (suc n) rest h = omega arith

tokens-le : (bytes from : List ℕ) (ts : List Token) (rest : List ℕ) → Reads bytes from ts rest
    → length ts ≤ length from
tokens-le bytes from [] rest r = omega arith
tokens-le bytes from (t ∷ ts) rest r =
    omega (
      arith,
      tokens-le bytes (drop (length t.text) (past_gap from)) ts rest r.1,
      length-drop (length t.text) (past_gap from),
      gap-le from,
      some_bytes t.kind (length t.text) (past_gap from) r.0.longest,
      r.0.longest.within,
    )

pub spelled-le : (bytes : List ℕ) (t : ProgramTree) → Spells bytes t
    → length (spelling t) ≤ most_members
spelled-le bytes t s =
    let same : s.tokens ≡ s.are.front =
    append_cancel_right s.tokens s.are.front (end_of bytes ∷ []) s.are.whole in
    let as_many : length (spelling t) ≡ length s.are.front =
    ap length (sym s.seen_as) ∙ worded-length s.tokens ∙ ap length same in
    omega (arith, as_many, tokens-le bytes bytes s.are.front [] s.are.read, s.fits)
