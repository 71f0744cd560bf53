-- The canonical text of a tree spells that tree again, apart from the places.
use Rattle.std.proofs.Common.{◌≡◌, ◌≤◌, ℕ, List, [], ◌∷◌, ◌++◌, map, length, All, sym, ap, ◌∙◌, subst}
use Rattle.cap_syntax.specs.declared.token.Token.{Token}
use Rattle.cap_syntax.specs.Layout.{end_of, AreTokensOf}
use Rattle.cap_syntax.specs.Printing.{IsSpelled, tokens_in, printed, unplaced, ReadsAs}
use Rattle.cap_syntax.specs.Refusal.{max_text}
use Rattle.cap_parse_tree.specs.Tree.{ProgramTree}
use Rattle.cap_parse_tree.specs.Spelling.{spelling}
use Rattle.cap_parse_tree.specs.Nesting.{max_nesting, Nests}
use Rattle.cap_parse_tree.specs.Canonical.{canonical_from, canonical_text}
use Rattle.cap_parse_laws.specs.Versions.{worded}
use Rattle.cap_parse_laws.specs.Texts.{Spells, AreSameApartFromPlaces}
use Rattle.cap_parse_laws.proofs.Automaton.{run, start}
use Rattle.cap_parse_laws.proofs.Exact.{whole-read, read-is-spelled, nests-runs}
use Rattle.cap_parse_laws.proofs.Kept.{worded-alike, kept-worded, kept-canonical}
use Rattle.cap_parse_laws.proofs.ReadBack.{ArePrintedBack, AreSpelledInTexts, pieces_from, pieces-tokens, pieces-printed, pieces-spaced, alike}

-- a tree that the text has again
pub record HasAgain (text : List ℕ) (t : ProgramTree) : Type 0 where
  pub tokens : List Token
  pub again : ProgramTree
  pub are : AreTokensOf text (tokens ++ end_of text ∷ [])
  pub seen_as : worded tokens ≡ spelling again
  pub nests : Nests again
  pub same : AreSameApartFromPlaces again t

again-in : ArePrintedBack → (ts : List Token) (t : ProgramTree) → worded ts ≡ spelling t → All IsSpelled ts
    → Nests t → HasAgain (canonical_text t) t
again-in law ts t seen_as spelled nests =
    let ps = pieces_from 0 ts in
    let same_tokens : tokens_in ps ≡ ts = pieces-tokens 0 ts in
    let text_is : printed ps ≡ canonical_text t =
    pieces-printed 0 ts ∙ sym (kept-canonical 0 (worded ts) ts (kept-worded ts)) ∙ ap (canonical_from 0) seen_as in
    let back : ReadsAs (canonical_text t) ts =
    subst (λ l. ReadsAs (canonical_text t) l) same_tokens (subst (λ text. ReadsAs text (tokens_in ps)) text_is
    (law ps (subst (All IsSpelled) (sym same_tokens) spelled) (pieces-spaced 0 ts))) in
    let seen_same : map unplaced (worded ts) ≡ map unplaced (worded back.again) =
    worded-alike ts back.again (sym back.same) in
    let read =
    whole-read max_nesting (worded back.again)
    (alike start max_nesting (worded ts) (worded back.again) seen_same
    (ap (run start max_nesting) seen_as ∙ nests-runs max_nesting t nests)) in
    let is = read-is-spelled max_nesting (worded back.again) read.0 read.1 in record {
      tokens = back.again;
      again = read.0;
      are = back.read;
      seen_as = is.0;
      nests = is.1;
      same = ap (map unplaced) (sym is.0) ∙ sym seen_same ∙ ap (map unplaced) seen_as;
    }

pub canonical-again : ArePrintedBack → (ts : List Token) (t : ProgramTree) → worded ts ≡ spelling t
    → All IsSpelled ts → Nests t
    → (us : List Token) × (again : ProgramTree) × AreTokensOf (canonical_text t) (us ++ end_of (canonical_text t) ∷ [])
    × (worded us ≡ spelling again) × Nests again × AreSameApartFromPlaces again t
canonical-again law ts t seen_as spelled nests =
    let x = again-in law ts t seen_as spelled nests in (x.tokens, x.again, x.are, x.seen_as, x.nests, x.same)

pub text-again : ArePrintedBack → AreSpelledInTexts → (bytes : List ℕ) (t : ProgramTree)
    → Spells bytes t → length (canonical_text t) ≤ max_text
    → (again : ProgramTree) × Spells (canonical_text t) again × AreSameApartFromPlaces again t
text-again law spelled bytes t s l =
    let x = again-in law s.tokens t s.seen_as (spelled bytes s.tokens s.are) s.nests in
    (x.again, record { fits = l; tokens = x.tokens; are = x.are; seen_as = x.seen_as; nests = x.nests }, x.same)
