-- The automaton goes along with the readers of region types, functions and the whole text.
use Rattle.std.proofs.Common.{◌≡◌, ℕ, zero, suc, not, cond, Bool, true, false, List, [], ◌∷◌, ◌++◌, length, Option, Some, Result, Ok, Err, refl, sym, ap, ◌∙◌, codes}
use Rattle.cap_syntax.specs.declared.place.Place.{Place}
use Rattle.cap_syntax.specs.declared.token.Token.{Token}
use Rattle.cap_parse_tree.specs.declared.tree.Header.{Header}
use Rattle.cap_parse_tree.specs.Tree.{DeclarationTree, ProgramTree}
use Rattle.cap_parse_tree.specs.Tokens.{name, keyword, symbol}
use Rattle.cap_parse_tree.specs.Spelling.{Spells, spell_all, spell_more, spell_several, spell_option, spell_name, spell_declared, spell_declareds, spell_joint, spell_joints, spell_algebra, spell_when, spell_case, spell_action, spell_region, spell_function, spell_declaration, spell_header, spelling}
use Rattle.cap_parse_tree.specs.Views.{BothTree, EitherTree, declareds_of, joints_of}
use Rattle.cap_parse_laws.specs.declared.class.Class.{Class}
use Rattle.cap_parse_laws.specs.declared.class.Class.TheVariants as c
use Rattle.cap_parse_laws.specs.Classes.{class, are_same}
use Rattle.cap_parse_laws.specs.Readers.{Fault, unexpected, too_deep, Outcome, Reader, ◌>>=◌, ahead, read_name, read_optional, read_at_most, read_until}
use Rattle.cap_parse_laws.specs.Grammar.{read_comparison, read_clause, declared_by, read_declared, read_joint, grouped_at, read_algebra, read_when, read_optional_when, read_case, read_action, read_head, read_region_body, read_region, read_function, declaration_by, read_declaration, read_header, read_parts, read_program, HeadTree}
use Rattle.cap_parse_laws.specs.Laws.Taking.{and_more, takes-keeps, name-takes, comparison-takes, declared-takes, joint-takes, case-takes, action-takes, declaration-takes}
use Rattle.cap_parse_laws.proofs.Shapes.{same_is_equal, not-end}
use Rattle.cap_parse_laws.proofs.Automaton.{Ending, a_colon, a_semicolon, end_class, fixed, rule, a_guard, a_declared, more_declared, more_joints, may_when, more_comparisons, cases, actions, names, more_names, may_requires, may_ensures, a_declaration, Answer, whole, wrong, deep, Stack, a_term, a_comparison, an_assertion, a_clause, a_block, a_joint, an_algebra, a_case, the_rest_of_an_action, the_rest_of_a_region, the_rest_of_a_function, next, run, start, the_declarations}
use Rattle.cap_parse_laws.proofs.Meets.{Meets, IsChoice, so, chain, enter, refuse, place-meets, word-meets, expect-meets, name-meets, no_room-meets, opened, opened-within, Read, IsMet, lead, until, optional-meets, while-meets, more-meets, several-meets, comma, listed-meets, group-meets}
use Rattle.cap_parse_laws.proofs.MeetsTerms.{star, term-meets, comparison-meets}
use Rattle.cap_parse_laws.proofs.MeetsAssertions.{guards-meets, assertion-meets, clause-meets}
use Rattle.cap_parse_laws.proofs.MeetsStatements.{block-meets}

-- a bracket with an algebra in it
abbrev GroupedMeets : ℕ → Type 0
GroupedMeets d = (ts : List Token) (s : Stack) → Meets (Read spell_declared ts) (run (fixed c.Open ∷ an_algebra ++ fixed c.Close ∷ s) d ts) s d (grouped_at d ts)

declared_by-meets : (d : ℕ) → GroupedMeets d → (k : Class) (ts : List Token) (s : Stack)
    → ahead ts ≡ k
    → Meets (Read spell_declared ts) (run (rule a_declared ∷ s) d ts) s d (declared_by d (grouped_at d) k ts)
declared_by-meets d h c.Name ts s e = enter _ (fixed c.Name ∷ s) d ts c.Name e refl (chain (word-meets d ts s e) (λ w f. so f))
declared_by-meets d h c.Percent ts s e =
    enter _ (fixed c.Percent ∷ fixed c.Name ∷ s) d ts c.Percent e refl
    (chain (place-meets c.Percent d d ts (fixed c.Name ∷ s) refl refl e) (λ p f. chain (name-meets d p.1 s) (λ w g. so (rw (f, g)))))
declared_by-meets d h c.Bar ts s e =
    enter _ (fixed c.Bar ∷ fixed c.Name ∷ fixed c.Bar ∷ s) d ts c.Bar e refl
    (chain (place-meets c.Bar d d ts (fixed c.Name ∷ fixed c.Bar ∷ s) refl refl e) (λ p f.
    chain (name-meets d p.1 (fixed c.Bar ∷ s)) (λ w g.
    chain (expect-meets c.Bar d d w.1 s refl refl) (λ q i. so (rw (f, g, i))))))
declared_by-meets d h c.Index ts s e =
    enter _ (fixed c.Index ∷ fixed c.Name ∷ fixed c.CloseBracket ∷ s) d ts c.Index e refl
    (opened c.Index d ts (fixed c.Name ∷ fixed c.CloseBracket ∷ s) refl (λ n. refl) (λ o f.
    chain (name-meets o.0.0 o.1 (fixed c.CloseBracket ∷ s)) (λ w g.
    chain (expect-meets c.CloseBracket o.0.0 (suc o.0.0) w.1 s refl refl) (λ q i. so (rw (f, g, i))))))
declared_by-meets d h k ts s e = enter _ (fixed c.Open ∷ an_algebra ++ fixed c.Close ∷ s) d ts k e refl (h ts s)

pub declareds-spelled : (ds : List BothTree) (ts : List Token)
    → spell_more (codes "*") spell_declared ds ts ≡ spell_declareds (declareds_of ds) ts
declareds-spelled [] ts = refl
declareds-spelled (d ∷ ds) ts = ap (λ l. symbol (codes "*") d.0 ∷ spell_declared d.1 l) (declareds-spelled ds ts)

pub joints-spelled : (js : List EitherTree) (ts : List Token)
    → spell_more (codes "+") spell_joint js ts ≡ spell_joints (joints_of js) ts
joints-spelled [] ts = refl
joints-spelled (j ∷ js) ts = ap (λ l. symbol (codes "+") j.0 ∷ spell_joint j.1 l) (joints-spelled js ts)

joint-meets : (d : ℕ) → GroupedMeets d → (ts : List Token) (s : Stack)
    → Meets (Read spell_joint ts) (run (a_joint ++ s) d ts) s d (read_joint d (grouped_at d) ts)
joint-meets d h ts s =
    chain (declared_by-meets d h (ahead ts) ts (rule more_declared ∷ s) refl) (λ x f.
    chain (more-meets c.Star (codes "*") d x.1 star
    (lead (rule more_declared ∷ s) (fixed c.Star ∷ a_joint ++ s) s (a_joint ++ s) c.Star (λ k. refl) (λ k. refl))
    (takes-keeps (read_declared d (grouped_at d)) (declared-takes d)) (λ us. declared_by-meets d h (ahead us) us (rule more_declared ∷ s) refl)) (λ more g.
    so (f ∙ ap (spell_declared x.0) (g ∙ declareds-spelled more.0 more.1))))

algebra-meets-with : (d : ℕ) → GroupedMeets d → IsMet an_algebra spell_algebra d (read_algebra d)
algebra-meets-with d h ts s =
    chain (joint-meets d h ts (rule more_joints ∷ s)) (λ j f.
    chain (more-meets c.Plus (codes "+") d j.1 (refl, λ d. refl, λ p. refl)
    (lead (rule more_joints ∷ s) (fixed c.Plus ∷ an_algebra ++ s) s (an_algebra ++ s) c.Plus (λ k. refl) (λ k. refl))
    (takes-keeps (read_joint d (grouped_at d)) (joint-takes d)) (λ us. joint-meets d h us (rule more_joints ∷ s))) (λ more g.
    so (f ∙ ap (spell_joint j.0) (g ∙ joints-spelled more.0 more.1))))

grouped-meets : (d : ℕ) → GroupedMeets d
grouped-meets zero ts s = no_room-meets c.Open ts (an_algebra ++ fixed c.Close ∷ s) s 0 refl refl
grouped-meets (suc d) ts s =
    chain (expect-meets c.Open (suc d) d ts (an_algebra ++ fixed c.Close ∷ s) refl refl) (λ p f.
    chain (algebra-meets-with d (grouped-meets d) p.1 (fixed c.Close ∷ s)) (λ a g.
    chain (expect-meets c.Close d (suc d) a.1 s refl refl) (λ q i. so (rw (f, g, i)))))

algebra-meets : (d : ℕ) → IsMet an_algebra spell_algebra d (read_algebra d)
algebra-meets d = algebra-meets-with d (grouped-meets d)

-- the conditions of a state or an action, before the token that ends them
optional_when-meets : (d : ℕ) (end : Ending) (ts : List Token) (s : Stack)
    → Meets (Read (spell_option spell_when) ts) (run (rule (may_when end) ∷ s) d ts) (fixed (end_class end) ∷ s) d (read_optional_when d ts)
optional_when-meets d end ts s =
    optional-meets (read_when d) d ts
    (lead (rule (may_when end) ∷ s) (fixed c.When ∷ a_comparison ++ rule (more_comparisons end) ∷ s) (fixed (end_class end) ∷ s) (a_comparison ++ rule (more_comparisons end) ∷ s) c.When (λ k. refl) (λ k. refl)) (λ y.
    chain (expect-meets c.When d d ts (a_comparison ++ rule (more_comparisons end) ∷ s) refl refl) (λ p f.
    chain (several-meets c.Comma (codes ",") d p.1 comma
    (lead (rule (more_comparisons end) ∷ s) (fixed c.Comma ∷ a_comparison ++ rule (more_comparisons end) ∷ s) (fixed (end_class end) ∷ s) (a_comparison ++ rule (more_comparisons end) ∷ s) c.Comma (λ k. refl) (λ k. refl))
    (takes-keeps (read_comparison d) (comparison-takes d)) (λ us. comparison-meets d us (rule (more_comparisons end) ∷ s))) (λ ks g.
    so (rw (f, g)))))

case-meets : (d : ℕ) → IsMet a_case spell_case d (read_case d)
case-meets d ts s =
    chain (term-meets d ts (rule (may_when a_colon) ∷ an_assertion ++ fixed c.Semicolon ∷ s)) (λ t f1.
    chain (optional_when-meets d a_colon t.1 (an_assertion ++ fixed c.Semicolon ∷ s)) (λ w f2.
    chain (expect-meets c.Colon d d w.1 (an_assertion ++ fixed c.Semicolon ∷ s) refl refl) (λ p f3.
    chain (assertion-meets d p.1 (fixed c.Semicolon ∷ s)) (λ a f4.
    chain (expect-meets c.Semicolon d d a.1 s refl refl) (λ e f5. so (rw (f1, f2, f3, f4, f5)))))))

action-meets : (d : ℕ) → IsMet (rule a_guard ∷ the_rest_of_an_action) spell_action d (read_action d)
action-meets d ts s =
    chain (guards-meets d ts (fixed c.Colon ∷ a_term ++ fixed c.LeadsTo ∷ a_term ++ rule (may_when a_semicolon) ∷ s)) (λ g f1.
    chain (expect-meets c.Colon d d g.1 (a_term ++ fixed c.LeadsTo ∷ a_term ++ rule (may_when a_semicolon) ∷ s) refl refl) (λ p f2.
    chain (term-meets d p.1 (fixed c.LeadsTo ∷ a_term ++ rule (may_when a_semicolon) ∷ s)) (λ x f3.
    chain (expect-meets c.LeadsTo d d x.1 (a_term ++ rule (may_when a_semicolon) ∷ s) refl refl) (λ q f4.
    chain (term-meets d q.1 (rule (may_when a_semicolon) ∷ s)) (λ t f5.
    chain (optional_when-meets d a_semicolon t.1 s) (λ w f6.
    chain (expect-meets c.Semicolon d d w.1 s refl refl) (λ e f7. so (rw (f1, f2, f3, f4, f5, f6, f7)))))))))

-- one more name, behind a comma
more-names : (s : Stack)
    → IsChoice (rule more_names ∷ s) (fixed c.Comma ∷ fixed c.Name ∷ rule more_names ∷ s) (fixed c.Close ∷ s) (are_same c.Comma)
more-names s = lead (rule more_names ∷ s) (fixed c.Comma ∷ fixed c.Name ∷ rule more_names ∷ s) (fixed c.Close ∷ s) (fixed c.Name ∷ rule more_names ∷ s) c.Comma (λ k. refl) (λ k. refl)

-- the tokens of a region type's head
spell_head : Spells HeadTree
spell_head h ts = name h.name ∷ symbol (codes "(") h.before ∷ spell_several (codes ",") spell_name h.parameters (symbol (codes ")") h.behind ∷ ts)

head-meets : (d : ℕ)
    → IsMet (fixed c.Name ∷ fixed c.Open ∷ fixed c.Name ∷ rule more_names ∷ []) spell_head d (read_head d)
unfolding spell_head
head-meets d ts s =
    chain (name-meets d ts (fixed c.Open ∷ fixed c.Name ∷ rule more_names ∷ s)) (λ w f1.
    opened c.Open d w.1 (fixed c.Name ∷ rule more_names ∷ s) refl (λ n. refl) (λ o f2.
    chain (several-meets {spell = spell_name} c.Comma (codes ",") o.0.0 o.1 comma (more-names s) (takes-keeps read_name name-takes) (λ us. name-meets o.0.0 us (rule more_names ∷ s))) (λ ps f3.
    chain (expect-meets c.Close o.0.0 (suc o.0.0) ps.1 s refl refl) (λ q f4. so (rw (f1, f2, f3, f4))))))

abbrev region_inside : Stack
region_inside =
    fixed c.Guards ∷ an_algebra ++ fixed c.Semicolon
    ∷ fixed c.Interpretation ∷ fixed c.OpenBrace ∷ rule cases
    ∷ fixed c.Actions ∷ fixed c.OpenBrace ∷ rule actions ∷ fixed c.CloseBrace ∷ []

some-cases : (s : Stack)
    → IsChoice (rule cases ∷ s) (a_case ++ rule cases ∷ s) (fixed c.CloseBrace ∷ s) (λ k. not (are_same c.CloseBrace k))
some-cases s = until (rule cases ∷ s) (a_case ++ rule cases ∷ s) s c.CloseBrace (λ k. refl)

some-actions : (s : Stack)
    → IsChoice (rule actions ∷ s) ((rule a_guard ∷ the_rest_of_an_action) ++ rule actions ∷ s) (fixed c.CloseBrace ∷ s) (λ k. not (are_same c.CloseBrace k))
some-actions s = until (rule actions ∷ s) ((rule a_guard ∷ the_rest_of_an_action) ++ rule actions ∷ s) s c.CloseBrace (λ k. refl)

region_body-meets : (d n : ℕ) (key : Place) (head : HeadTree) (brace : Place) (ts : List Token) (s : Stack) (all : List Token)
    → suc d ≡ n
    → all ≡ keyword (codes "region") key ∷ spell_head head (symbol (codes "{") brace ∷ ts)
    → Meets (Read spell_region all) (run (region_inside ++ s) d ts) s n (read_region_body d key head brace ts)
unfolding spell_head
region_body-meets d n key head brace ts s all r a =
    chain (expect-meets c.Guards d d ts (an_algebra ++ fixed c.Semicolon ∷ fixed c.Interpretation ∷ fixed c.OpenBrace ∷ rule cases ∷ fixed c.Actions ∷ fixed c.OpenBrace ∷ rule actions ∷ fixed c.CloseBrace ∷ s) refl refl) (λ g f1.
    chain (algebra-meets d g.1 (fixed c.Semicolon ∷ fixed c.Interpretation ∷ fixed c.OpenBrace ∷ rule cases ∷ fixed c.Actions ∷ fixed c.OpenBrace ∷ rule actions ∷ fixed c.CloseBrace ∷ s)) (λ x f2.
    chain (expect-meets c.Semicolon d d x.1 (fixed c.Interpretation ∷ fixed c.OpenBrace ∷ rule cases ∷ fixed c.Actions ∷ fixed c.OpenBrace ∷ rule actions ∷ fixed c.CloseBrace ∷ s) refl refl) (λ e f3.
    chain (group-meets c.Interpretation (codes "interpretation") (rule cases) a_case d e.1 (fixed c.Actions ∷ fixed c.OpenBrace ∷ rule actions ∷ fixed c.CloseBrace ∷ s) refl (λ m. refl) (λ p. refl) (some-cases (fixed c.Actions ∷ fixed c.OpenBrace ∷ rule actions ∷ fixed c.CloseBrace ∷ s)) refl case-takes case-meets) (λ cs f4.
    chain (group-meets c.Actions (codes "actions") (rule actions) (rule a_guard ∷ the_rest_of_an_action) d cs.1 (fixed c.CloseBrace ∷ s) refl (λ m. refl) (λ p. refl) (some-actions (fixed c.CloseBrace ∷ s)) refl action-takes action-meets) (λ acts f5.
    chain (expect-meets c.CloseBrace d n acts.1 s refl (ap Some r)) (λ q f6.
    so (rw (a, f1, f2, f3, f4, f5, f6))))))))

region-meets : (d : ℕ) (ts : List Token) (s : Stack) → ahead ts ≡ c.Region
    → Meets (Read spell_region ts) (run (fixed c.Region ∷ the_rest_of_a_region ++ s) d ts) s d (read_region d ts)
region-meets d ts s e =
    chain (place-meets c.Region d d ts (the_rest_of_a_region ++ s) refl refl e) (λ key f1.
    chain (head-meets d key.1 (fixed c.OpenBrace ∷ region_inside ++ s)) (λ head f2.
    opened-within c.OpenBrace d head.1 (region_inside ++ s) refl (λ n. refl) (λ o n f3.
    region_body-meets o.0.0 d key.0 head.0 o.0.1 o.1 s ts n (rw (f1, f2, f3)))))

some-names : (s : Stack)
    → IsChoice (rule names ∷ s) (fixed c.Name ∷ rule more_names ∷ s) (fixed c.Close ∷ s) (λ k. not (are_same c.Close k))
some-names s = until (rule names ∷ s) (fixed c.Name ∷ rule more_names ∷ s) s c.Close (λ k. refl)

may-requires : (s : Stack)
    → IsChoice (rule may_requires ∷ s) (a_clause c.Requires ++ s) s (are_same c.Requires)
may-requires s = lead (rule may_requires ∷ s) (a_clause c.Requires ++ s) s (an_assertion ++ fixed c.Semicolon ∷ s) c.Requires (λ k. refl) (λ k. refl)

may-ensures : (s : Stack)
    → IsChoice (rule may_ensures ∷ s) (a_clause c.Ensures ++ s) s (are_same c.Ensures)
may-ensures s = lead (rule may_ensures ∷ s) (a_clause c.Ensures ++ s) s (an_assertion ++ fixed c.Semicolon ∷ s) c.Ensures (λ k. refl) (λ k. refl)

function-meets : (d : ℕ) (ts : List Token) (s : Stack) → ahead ts ≡ c.Function
    → Meets (Read spell_function ts) (run (fixed c.Function ∷ the_rest_of_a_function ++ s) d ts) s d (read_function d ts)
function-meets d ts s e =
    chain (place-meets c.Function d d ts (the_rest_of_a_function ++ s) refl refl e) (λ key f1.
    chain (name-meets d key.1 (fixed c.Open ∷ rule names ∷ rule may_requires ∷ rule may_ensures ∷ a_block ++ s)) (λ w f2.
    chain (listed-meets {spell = spell_name} {one = λ n. read_name} (rule names) (rule more_names) (fixed c.Name ∷ []) d w.1 (rule may_requires ∷ rule may_ensures ∷ a_block ++ s)
    (some-names (rule may_requires ∷ rule may_ensures ∷ a_block ++ s)) (more-names (rule may_requires ∷ rule may_ensures ∷ a_block ++ s)) (λ n. takes-keeps read_name name-takes) (λ n us u. name-meets n us u)) (λ ps f3.
    chain (optional-meets (read_clause d c.Requires) d ps.1 (may-requires (rule may_ensures ∷ a_block ++ s)) (λ y. clause-meets d c.Requires (codes "requires") ps.1 (rule may_ensures ∷ a_block ++ s) refl refl (λ q. refl))) (λ pre f4.
    chain (optional-meets (read_clause d c.Ensures) d pre.1 (may-ensures (a_block ++ s)) (λ y. clause-meets d c.Ensures (codes "ensures") pre.1 (a_block ++ s) refl refl (λ q. refl))) (λ post f5.
    chain (block-meets d post.1 s) (λ b f6. so (rw (f1, f2, f3, f4, f5, f6))))))))

declaration_by-meets : (d : ℕ) (k : Class) (ts : List Token) (s : Stack) → ahead ts ≡ k
    → Meets (Read spell_declaration ts) (run (rule a_declaration ∷ s) d ts) s d (declaration_by d k ts)
declaration_by-meets d c.Region ts s e =
    enter _ (fixed c.Region ∷ the_rest_of_a_region ++ s) d ts c.Region e refl (chain (region-meets d ts s e) (λ r f. so f))
declaration_by-meets d c.Function ts s e =
    enter _ (fixed c.Function ∷ the_rest_of_a_function ++ s) d ts c.Function e refl (chain (function-meets d ts s e) (λ r f. so f))
declaration_by-meets d k ts s e = refuse (rule a_declaration ∷ s) d ts (ap (next (rule a_declaration ∷ s)) e)

-- the whole text

text-enters : (k : Class) → not (are_same c.End k) ≡ true
    → next the_declarations k ≡ next (rule a_declaration ∷ the_declarations) k
text-enters c.End b = absurd cc
text-enters k b = refl

text-leaves : (k : Class) → not (are_same c.End k) ≡ false → next the_declarations k ≡ next [] k
text-leaves c.End b = refl
text-leaves k b = absurd cc

declarations-meet : (d : ℕ) (ts : List Token)
    → Meets (Read (spell_all spell_declaration) ts) (run the_declarations d ts) [] d (read_until c.End (read_declaration d) ts)
declarations-meet d ts =
    while-meets d ts (record { enters = text-enters; leaves = text-leaves }) (declaration-takes d) (λ b. absurd cc)
    (λ us. declaration_by-meets d (ahead us) us the_declarations refl)

header-meets : (d : ℕ) → IsMet (fixed c.Caper ∷ fixed c.Two ∷ fixed c.Semicolon ∷ []) spell_header d read_header
header-meets d ts s =
    chain (expect-meets c.Caper d d ts (fixed c.Two ∷ fixed c.Semicolon ∷ s) refl refl) (λ p f1.
    chain (expect-meets c.Two d d p.1 (fixed c.Semicolon ∷ s) refl refl) (λ q f2.
    chain (expect-meets c.Semicolon d d q.1 s refl refl) (λ e f3. so (rw (f1, f2, f3)))))

may-header : IsChoice start (fixed c.Caper ∷ fixed c.Two ∷ fixed c.Semicolon ∷ the_declarations) the_declarations (are_same c.Caper)
may-header = lead start (fixed c.Caper ∷ fixed c.Two ∷ fixed c.Semicolon ∷ the_declarations) the_declarations (fixed c.Two ∷ fixed c.Semicolon ∷ the_declarations) c.Caper (λ k. refl) (λ k. refl)

abbrev spell_parts : Spells (Option Header × List DeclarationTree)
spell_parts x ts = spell_option spell_header x.0 (spell_all spell_declaration x.1 ts)

parts-meet : (d : ℕ) (ts : List Token) → Meets (Read spell_parts ts) (run start d ts) [] d (read_parts d ts)
parts-meet d ts =
    chain (optional-meets {spell = spell_header} read_header d ts may-header (λ y. header-meets d ts the_declarations)) (λ h f.
    chain (declarations-meet d h.1) (λ ds g. so (f ∙ ap (spell_option spell_header h.0) g)))

-- what the reader of a text answers, and what the automaton does
abbrev pub Agrees : List Token → Answer → Result ProgramTree Fault → Type 0
Agrees ts a (Ok t) = (ts ≡ spelling t) × (a ≡ whole)
Agrees ts a (Err (unexpected rest)) = a ≡ wrong rest
Agrees ts a (Err (too_deep rest)) = a ≡ deep rest

left-of : {A : Type 0} → Outcome A → List Token
left-of (Ok x) = x.1
left-of (Err f) = []

left-same : {A : Type 0} (a b : A) (ts us : List Token) (r : Outcome A) → r ≡ Ok (a, ts)
    → r ≡ Ok (b, us) → ts ≡ us
unfolding left-of
left-same {A = A} a b ts us r f e = sym (ap (left-of {A = A}) f) ∙ ap (left-of {A = A}) e

at-the-end : {A : Type 0} (begins : Class → Bool) (one : Reader A) (n : ℕ) (ts : List Token) (parts : List A) (rest : List Token)
    → read_at_most begins one n ts ≡ Ok (parts, rest) → begins (ahead rest) ≡ false
at-the-end {A = A} begins one zero ts parts rest e = by (begins (ahead ts)) refl e
  where
    by : (b : Bool) → begins (ahead ts) ≡ b → cond {A = Outcome (List A)} b (Err (unexpected ts)) (Ok ([], ts)) ≡ Ok (parts, rest) → begins (ahead rest) ≡ false
    by true f g = cc
    by false f g = let same : ts ≡ rest = left-same _ _ ts rest _ refl g in ap (λ l. begins (ahead l)) (sym same) ∙ f
at-the-end {A = A} begins one (suc n) ts parts rest e = by (at-the-end begins one n) (one ts) (begins (ahead ts)) refl e
  where
    by_more : ((us : List Token) (bs : List A) (left : List Token) → read_at_most begins one n us ≡ Ok (bs, left) → begins (ahead left) ≡ false)
        → (a : A) (r : Outcome (List A)) (us : List Token) → read_at_most begins one n us ≡ r → and_more a r ≡ Ok (parts, rest) → begins (ahead rest) ≡ false
    by_more again a (Ok x) us f g = let same : x.1 ≡ rest = left-same _ _ x.1 rest _ refl g in ap (λ l. begins (ahead l)) (sym same) ∙ again us x.0 x.1 f
    by_more again a (Err o) us f g = cc

    by : ((us : List Token) (bs : List A) (left : List Token) → read_at_most begins one n us ≡ Ok (bs, left) → begins (ahead left) ≡ false)
        → (r : Outcome A) (b : Bool) → begins (ahead ts) ≡ b → cond {A = Outcome (List A)} b (r >>= λ a. and_more a.0 (read_at_most begins one n a.1)) (Ok ([], ts)) ≡ Ok (parts, rest)
        → begins (ahead rest) ≡ false
    by again (Ok x) true f g = by_more again x.0 (read_at_most begins one n x.1) x.1 refl g
    by again (Err o) true f g = cc
    by again r false f g = let same : ts ≡ rest = left-same _ _ ts rest _ refl g in ap (λ l. begins (ahead l)) (sym same) ∙ f

-- nothing is left where a text's end is
nothing-left : (rest : List Token) → not (are_same c.End (ahead rest)) ≡ false → rest ≡ []
nothing-left [] e = refl
nothing-left (t ∷ ts) e = absurd (by (are_same c.End (class t)) refl e)
  where
    by : (b : Bool) → are_same c.End (class t) ≡ b → not b ≡ false → ⊥
    by true f g = not-end t (sym (same_is_equal c.End (class t) f))
    by false f g = cc

parts-end : (d : ℕ) (ts : List Token) (x : (Option Header × List DeclarationTree) × List Token)
    → read_parts d ts ≡ Ok x → x.1 ≡ []
parts-end d ts x e = by (read_optional (are_same c.Caper) read_header ts) e
  where
    by_more : (h : Option Header) (us : List Token) (r : Outcome (List DeclarationTree)) → read_until c.End (read_declaration d) us ≡ r
        → (r >>= λ ds. Ok ((h, ds.0), ds.1)) ≡ Ok x → x.1 ≡ []
    by_more h us (Ok ds) f g =
        let same : ds.1 ≡ x.1 = left-same _ _ ds.1 x.1 _ refl g in
        sym same ∙ nothing-left ds.1 (at-the-end (λ k. not (are_same c.End k)) (read_declaration d) (length us) us ds.0 ds.1 f)
    by_more h us (Err o) f g = cc

    by : (r : Outcome (Option Header)) → (r >>= λ h. read_until c.End (read_declaration d) h.1 >>= λ ds. Ok ((h.0, ds.0), ds.1)) ≡ Ok x → x.1 ≡ []
    by (Ok h) g = by_more h.0 h.1 (read_until c.End (read_declaration d) h.1) refl g
    by (Err o) g = cc

pub program-agrees : (d : ℕ) (ts : List Token) → Agrees ts (run start d ts) (read_program d ts)
program-agrees d ts = by (read_parts d ts) refl (parts-meet d ts)
  where
    by : (r : Outcome (Option Header × List DeclarationTree)) → read_parts d ts ≡ r → Meets (Read spell_parts ts) (run start d ts) [] d r
        → Agrees ts (run start d ts) (r >>= λ x. Ok (record { header = x.0.0; declarations = x.0.1 }))
    by (Ok x) e h =
        let empty : x.1 ≡ [] = parts-end d ts x e in
        (h.held.0 ∙ ap (spell_parts x.0) empty, h.held.1 ∙ ap (run [] d) empty)
    by (Err (unexpected rest)) e h = h.held
    by (Err (too_deep rest)) e h = h.held
