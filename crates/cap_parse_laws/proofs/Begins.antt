-- What begins a text, as the grammar sees it, begins one whose tokens are spelled.
use Rattle.std.proofs.Common.{◌≡◌, ◌≤◌, ◌&&◌, cond, Bool, true, false, List, [], ◌∷◌, ◌++◌, All, arith, refl, sym, ap, ◌∙◌, subst, codes}
use Rattle.std.specs.Str.{bytes_eq}
use Rattle.std.specs.List.{AllByRecursion}
use Rattle.std.proofs.lemmas.List.Elements.{recursion_from_All, All-from_recursion}
use Rattle.cap_syntax.specs.declared.token.Token.{Token}
use Rattle.cap_syntax.specs.declared.token.TokenKind.TheVariants as kind
use Rattle.cap_syntax.specs.Printing.{IsSpelled}
use Rattle.cap_syntax.specs.Spelling.{keywords, symbols, max_literal}
use Rattle.cap_parse_tree.specs.Tree.{ProgramTree}
use Rattle.cap_parse_tree.specs.Tokens.{keyword, symbol}
use Rattle.cap_parse_tree.specs.Spelling.{spelling}
use Rattle.cap_parse_laws.specs.declared.class.Class.{Class}
use Rattle.cap_parse_laws.specs.declared.class.Class.TheVariants as c
use Rattle.cap_parse_laws.specs.Classes.{class, are_same}
use Rattle.cap_parse_laws.specs.Versions.{is_caper, is_before_index, as_keyword, as_version, seen_from, headed, worded, after, behind_caper, behind}
use Rattle.cap_parse_laws.specs.Texts.{BeginsText}
use Rattle.cap_parse_laws.proofs.Automaton.{fixed, Stack, Move, on, stop, next, whole, walk, start, the_declarations}
use Rattle.cap_parse_laws.proofs.Completion.{IsCompletable, completion, completed, on-same}
use Rattle.cap_parse_laws.proofs.Plain.{spelled-plain}
use Rattle.cap_parse_laws.proofs.Calm.{IsCalm, Reaches, reach-calm, calm-seen, calm-spelled, first-calm, reached, reach-walks, zero-small}
use Rattle.cap_parse_laws.proofs.Seen.{BeginsTree}
use Rattle.cap_parse_laws.proofs.View.{caper-text, worded-behind}
use Rattle.cap_parse_laws.proofs.Exact.{text-walks, text-of}

-- the name at the front of a text of the second version is seen as the keyword

caper-class : (t : Token) → is_caper t ≡ true → class (as_keyword t) ≡ c.Caper
caper-class t e = ap (λ x. class (keyword x t.place)) (caper-text t e)

second-stack : (t : Token) (s2 : Stack) → is_caper t ≡ true → next start (class (as_keyword t)) ≡ on s2
    → fixed c.Two ∷ fixed c.Semicolon ∷ the_declarations ≡ s2
second-stack t s2 e n = on-same _ s2 (sym (ap (next start) (caper-class t e)) ∙ n)

popped : (j : Class) (s : Stack) (k : Class) (s2 : Stack) → next (fixed j ∷ s) k ≡ on s2 → s ≡ s2
popped j s k s2 n = by (are_same j k) n
  where
    by : (b : Bool) → cond b (on s) stop ≡ on s2 → s ≡ s2
    by true f = on-same s s2 f
    by false f = cc

-- tokens behind a front that are seen as what completes the stack; spelled, where the front's are
record Completes (front : List Token) (to : Stack) : Type 0 where
  others : List Token
  spelled : AllByRecursion IsSpelled front → AllByRecursion IsSpelled others
  seen_as : behind front others ≡ completion to

abbrev two_token : Token
two_token =
    record { kind = kind.Number; text = codes "2"; value = 2; place = record { line = 1; column = 1 } }

two-small : 2 ≤ max_literal
two-small = omega arith

abbrev semicolon_token : Token
semicolon_token = symbol (codes ";") (record { line = 1; column = 1 })

two-spelled : IsSpelled two_token
two-spelled = record { spelled = refl; value = refl; small = two-small }

semicolon-spelled : IsSpelled semicolon_token
unfolding symbols
semicolon-spelled = record { spelled = refl; value = refl; small = zero-small }

-- behind `caper`
completes-second : (t : Token) (front : List Token) (to : Stack) → is_caper t ≡ true
    → Reaches start (as_keyword t ∷ headed front) to
    → (others : List Token) × AllByRecursion IsSpelled others × (behind_caper front others ≡ completion to)
completes-second t [] to e r = (
  two_token ∷ semicolon_token ∷ [],
  (two-spelled, (semicolon-spelled, tt)),
  ap completion (second-stack t r.0 e r.1 ∙ r.2),
)
completes-second t (u ∷ front) to e r =
    let v = as_version u in
    let s1 = second-stack t r.0 e r.1 in
    let r1 : Reaches (fixed c.Two ∷ fixed c.Semicolon ∷ the_declarations) (v ∷ seen_from false front) to =
    subst (λ s. Reaches s (v ∷ seen_from false front) to) (sym s1) r.2 in
    let s2 = popped c.Two (fixed c.Semicolon ∷ the_declarations) (class v) r1.0 r1.1 in
    let r2 : Reaches (fixed c.Semicolon ∷ the_declarations) (seen_from false front) to =
    subst (λ s. Reaches s (seen_from false front) to) (sym s2) r1.2 in
    let index = after false (seen_from false front) in
    let calm = reach-calm false (fixed c.Semicolon ∷ the_declarations) (seen_from false front) to refl r2 in
    (completion to, calm-spelled index to calm, calm-seen index to calm)

completes : (front : List Token) (to : Stack) → Reaches start (worded front) to → Completes front to
completes [] to r = record { others = []; spelled = λ p. tt; seen_as = ap completion r }
completes (t ∷ front) to r = by (is_caper t) refl r
  where
    by : (b : Bool) → is_caper t ≡ b → Reaches start (cond b (as_keyword t ∷ headed front) (t ∷ front)) to
        → Completes (t ∷ front) to
    by true e f =
        let x = completes-second t front to e f in record {
          others = x.0;
          spelled = λ p. x.1;
          seen_as = ap (λ b. cond b (behind_caper front x.0) x.0) e ∙ x.2;
        }
    by false e f = record {
      others = completion to;
      spelled = λ p. calm-spelled (after (is_before_index (class t)) front) to
          (reach-calm (is_before_index (class t)) f.0 front to (first-calm (class t) f.0 (spelled-plain t p.0) f.1) f.2);
      seen_as = ap (λ b. cond b (behind_caper front (completion to)) (completion to)) e;
    }

begins-with : (front : List Token) (to : Stack) → Reaches start (worded front) to → IsCompletable to
    → (others : List Token) → behind front others ≡ completion to
    → (tree : ProgramTree) × (worded (front ++ others) ≡ spelling tree)
begins-with front to r h others e =
    let w : walk start (worded front ++ completion to) ≡ whole =
    reach-walks start (worded front) to (completion to) r ∙ completed to h in
    let x = text-of (worded front ++ completion to) w in
    (x.0, worded-behind front others ∙ ap (λ l. worded front ++ l) e ∙ sym x.1)

comes-to : (front : List Token) → BeginsTree (worded front)
    → (to : Stack) × Reaches start (worded front) to × IsCompletable to
comes-to front b = reached (worded front) b.others start refl (ap (walk start) (sym b.spelled) ∙ text-walks b.tree)

pub begins-text : (front : List Token) → BeginsTree (worded front) → BeginsText front
begins-text front b =
    let x = comes-to front b in
    let y = completes front x.0 x.1 in
    let z = begins-with front x.0 x.1 x.2 y.others y.seen_as in
    record { tree = z.0; others = y.others; spelled = z.1 }

pub begins-tree : (front : List Token) → BeginsText front → BeginsTree (worded front)
begins-tree front b =
    record { tree = b.tree; others = behind front b.others; spelled = sym b.spelled ∙ worded-behind front b.others }

-- what begins a text begins one that bytes spell
pub goes-on : (front : List Token) → All IsSpelled front → BeginsText front
    → (others : List Token) × (tree : ProgramTree) × All IsSpelled others × (worded (front ++ others) ≡ spelling tree)
goes-on front p b =
    let x = comes-to front (begins-tree front b) in
    let y = completes front x.0 x.1 in
    let z = begins-with front x.0 x.1 x.2 y.others y.seen_as in
    (y.others, z.0, All-from_recursion IsSpelled y.others (y.spelled (recursion_from_All IsSpelled front p)), z.1)
