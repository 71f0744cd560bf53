-- Every stack on which the automaton comes can be completed.
use Rattle.std.proofs.Common.{◌≡◌, ℕ, not, ◌&&◌, cond, Bool, true, false, List, [], ◌∷◌, ◌++◌, map, refl, sym, ap, ◌∙◌, codes}
use Rattle.cap_syntax.specs.declared.token.Token.{Token}
use Rattle.cap_syntax.specs.declared.token.TokenKind.TheVariants as kind
use Rattle.cap_parse_laws.specs.declared.class.Class.{Class}
use Rattle.cap_parse_laws.specs.declared.class.Class.TheVariants as c
use Rattle.cap_parse_laws.specs.Classes.{class, are_same}
use Rattle.cap_parse_laws.specs.Readers.{ahead}
use Rattle.cap_parse_laws.proofs.Shapes.{same_is_equal, same-self, shaped, is_known}
use Rattle.cap_parse_laws.proofs.Automaton.{a_colon, a_semicolon, end_class, fixed, rule, Rule, may_minus, a_factor, more_factors, a_sign, more_products, a_relation, a_slot, a_guard, may_amount, more_guards, a_held, an_item, named_item, item_rest, may_choose, more_items, slots, a_value, named_value, terms, more_terms, a_statement, named_statement, may_else, may_invariant, returned, statements, a_declared, more_declared, more_joints, may_when, more_comparisons, cases, actions, names, more_names, may_requires, may_ensures, a_declaration, declarations, a_text, Move, on, stop, done, whole, wrong, Stack, Steps, steps, may_be_empty, found, next, ended, goes, walk}

abbrev pub sample : Class → List ℕ
sample c.Number = codes "0"
sample k = codes "x"

abbrev pub blank : List ℕ → Token
blank text = record { kind = kind.Name; text = text; value = 0; place = record { line = 1; column = 1 } }

-- some token of this class, as a text has it
abbrev pub a_token : Class → Token
a_token k = shaped k (blank (sample k))

token-class : (k : Class) → is_known k ≡ true → class (a_token k) ≡ k
token-class c.Other e = cc
token-class c.End e = cc
token-class k e = refl

-- the classes of tokens that a part may be
abbrev pub word : Rule → List Class
word a_factor = c.Name ∷ []
word a_sign = c.Plus ∷ []
word a_relation = c.Equal ∷ []
word a_slot = c.Wildcard ∷ []
word a_guard = c.Tokens ∷ c.Name ∷ c.OpenBracket ∷ c.Wildcard ∷ c.CloseBracket ∷ []
word a_held = c.Open ∷ c.Name ∷ c.Close ∷ []
word an_item = c.True ∷ []
word named_item = c.PointsTo ∷ c.Wildcard ∷ []
word item_rest = c.PointsTo ∷ c.Wildcard ∷ []
word slots = c.Semicolon ∷ []
word a_value = c.Alloc ∷ c.Open ∷ c.Number ∷ c.Close ∷ []
word terms = c.Close ∷ []
word more_terms = c.Close ∷ []
word a_statement = c.Return ∷ c.Semicolon ∷ []
word named_statement = c.Open ∷ c.Close ∷ c.Semicolon ∷ []
word returned = c.Semicolon ∷ []
word statements = c.CloseBrace ∷ []
word a_declared = c.Name ∷ []
word (may_when end) = end_class end ∷ []
word (more_comparisons end) = end_class end ∷ []
word cases = c.CloseBrace ∷ []
word actions = c.CloseBrace ∷ []
word names = c.Close ∷ []
word more_names = c.Close ∷ []
word a_declaration = c.Function ∷ c.Name ∷ c.Open ∷ c.Close ∷ c.OpenBrace ∷ c.CloseBrace ∷ []
word r = []

-- a token by which a part that may be empty begins
abbrev pub leads : Class → Bool
leads c.Minus = true
leads c.Star = true
leads c.Plus = true
leads c.OpenBracket = true
leads c.And = true
leads c.Question = true
leads c.Else = true
leads c.Invariant = true
leads c.Requires = true
leads c.Ensures = true
leads c.Open = true
leads c.Caper = true
leads c.Region = true
leads c.Function = true
leads k = false

abbrev pub completion : Stack → List Token
completion [] = []
completion (fixed k ∷ s) = a_token k ∷ completion s
completion (rule r ∷ s) = map a_token (word r) ++ completion s

abbrev pub lead_of : List Class → Bool → Bool
lead_of [] b = b
lead_of (k ∷ ks) b = leads k

-- whether a completion begins with a lead, where what comes behind the stack does or not
abbrev pub is_led : Bool → Stack → Bool
is_led b [] = b
is_led b (fixed k ∷ s) = leads k
is_led b (rule r ∷ s) = lead_of (word r) (is_led b s)

-- no part stands before a lead that it would take for its own
abbrev pub is_completable : Bool → Stack → Bool
is_completable b [] = true
is_completable b (fixed k ∷ s) = is_known k && is_completable b s
is_completable b (rule r ∷ s) = not (is_led b s) && is_completable b s

abbrev pub IsCompletable : Stack → Type 0
IsCompletable s = is_completable false s ≡ true

pub both : (a b : Bool) → (a && b) ≡ true → (a ≡ true) × (b ≡ true)
both true true e = (refl, refl)
both true false e = cc
both false b e = cc

pub and-true : (a b : Bool) → a ≡ true → b ≡ true → (a && b) ≡ true
and-true true b e f = f
and-true false b e f = cc

not-true : (b : Bool) → not b ≡ true → b ≡ false
not-true true e = cc
not-true false e = refl

led-append : (b : Bool) (w s : Stack) → is_led b (w ++ s) ≡ is_led (is_led b s) w
led-append b [] s = refl
led-append b (fixed k ∷ w) s = refl
led-append b (rule r ∷ w) s = ap (lead_of (word r)) (led-append b w s)

pub and-assoc : (x y z : Bool) → (x && (y && z)) ≡ ((x && y) && z)
and-assoc true y z = refl
and-assoc false y z = refl

completable-append : (b : Bool) (w s : Stack)
    → is_completable b (w ++ s) ≡ (is_completable (is_led b s) w && is_completable b s)
completable-append b [] s = refl
completable-append b (fixed k ∷ w) s = ap (λ x. is_known k && x) (completable-append b w s) ∙ and-assoc (is_known k) (is_completable (is_led b s) w) (is_completable b s)
completable-append b (rule r ∷ w) s =
    ap (λ x. not (is_led b (w ++ s)) && x) (completable-append b w s)
    ∙ and-assoc (not (is_led b (w ++ s))) (is_completable (is_led b s) w) (is_completable b s)
    ∙ ap (λ x. (not x && is_completable (is_led b s) w) && is_completable b s) (led-append b w s)

abbrev all_completable : Steps → Bool
all_completable [] = true
all_completable (step ∷ more) = is_completable false step.1 && all_completable more

steps-completable : (r : Rule) → all_completable (steps r) ≡ true
steps-completable (may_when a_colon) = refl
steps-completable (may_when a_semicolon) = refl
steps-completable (more_comparisons a_colon) = refl
steps-completable (more_comparisons a_semicolon) = refl
steps-completable r = refl

pub on-same : (s t : Stack) → on s ≡ on t → s ≡ t
on-same s t e = cc

found-completable : (st : Steps) (k : Class) (s : Stack) (m : Move) (s2 : Stack)
    → all_completable st ≡ true → is_led false s ≡ false → IsCompletable s
    → (m ≡ on s2 → IsCompletable s2)
    → found st k s m ≡ on s2 → IsCompletable s2
found-completable [] k s m s2 a l h other e = other e
found-completable (step ∷ more) k s m s2 a l h other e =
    by (both (is_completable false step.1) (all_completable more) a) (λ t f. found-completable more k s m s2 t l h other f) (are_same step.0 k) e
  where
    by : (is_completable false step.1 ≡ true) × (all_completable more ≡ true) → (all_completable more ≡ true → found more k s m ≡ on s2 → IsCompletable s2)
        → (o : Bool) → cond o (on (step.1 ++ s)) (found more k s m) ≡ on s2 → IsCompletable s2
    by p later true f =
        ap (is_completable false) (sym (on-same (step.1 ++ s) s2 f)) ∙ completable-append false step.1 s
        ∙ and-true (is_completable (is_led false s) step.1) (is_completable false s) (ap (λ x. is_completable x step.1) l ∙ p.0) h
    by p later false f = later p.1 f

pub next-completable : (s : Stack) (k : Class) (s2 : Stack) → IsCompletable s → next s k ≡ on s2
    → IsCompletable s2
next-completable [] k s2 h e = by (are_same c.End k) e
  where
    by : (b : Bool) → cond b done stop ≡ on s2 → IsCompletable s2
    by true f = cc
    by false f = cc
next-completable (fixed j ∷ s) k s2 h e = by (are_same j k) e
  where
    by : (b : Bool) → cond b (on s) stop ≡ on s2 → IsCompletable s2
    by true f = ap (is_completable false) (sym (on-same s s2 f)) ∙ (both (is_known j) (is_completable false s) h).1
    by false f = cc
next-completable (rule r ∷ s) k s2 h e =
    let p = both (not (is_led false s)) (is_completable false s) h in
    found-completable (steps r) k s (cond (may_be_empty r) (next s k) stop) s2 (steps-completable r) (not-true (is_led false s) p.0) p.1 (by (λ f. next-completable s k s2 p.1 f) (may_be_empty r)) e
  where
    by : (next s k ≡ on s2 → IsCompletable s2) → (b : Bool) → cond b (next s k) stop ≡ on s2 → IsCompletable s2
    by again true f = again f
    by again false f = cc

abbrev all_lead : Steps → Bool
all_lead [] = true
all_lead (step ∷ more) = leads step.0 && all_lead more

-- a part that may be empty has no word, and begins by leads
pub optional-part : (r : Rule) → may_be_empty r ≡ true → (all_lead (steps r) ≡ true) × (word r ≡ [])
optional-part a_factor e = cc
optional-part a_sign e = cc
optional-part a_relation e = cc
optional-part a_slot e = cc
optional-part a_guard e = cc
optional-part a_held e = cc
optional-part an_item e = cc
optional-part named_item e = cc
optional-part item_rest e = cc
optional-part slots e = cc
optional-part a_value e = cc
optional-part terms e = cc
optional-part more_terms e = cc
optional-part a_statement e = cc
optional-part named_statement e = cc
optional-part returned e = cc
optional-part statements e = cc
optional-part a_declared e = cc
optional-part (may_when end) e = cc
optional-part (more_comparisons end) e = cc
optional-part cases e = cc
optional-part actions e = cc
optional-part names e = cc
optional-part more_names e = cc
optional-part a_declaration e = cc
optional-part r e = (refl, refl)

found-none : (st : Steps) (k : Class) (s : Stack) (m : Move) → all_lead st ≡ true → leads k ≡ false
    → found st k s m ≡ m
found-none [] k s m a l = refl
found-none (step ∷ more) k s m a l = by (both (leads step.0) (all_lead more) a) (λ f. found-none more k s m f l) (are_same step.0 k) refl
  where
    by : (leads step.0 ≡ true) × (all_lead more ≡ true) → (all_lead more ≡ true → found more k s m ≡ m) → (o : Bool) → are_same step.0 k ≡ o → cond o (on (step.1 ++ s)) (found more k s m) ≡ m
    by p later true f = let g : true ≡ false = sym p.0 ∙ ap leads (same_is_equal step.0 k f) ∙ l in absurd cc
    by p later false f = later p.1

-- a part that may be empty is, before no lead
skipped : (r : Rule) (s : Stack) (ts : List Token) → may_be_empty r ≡ true
    → leads (ahead ts) ≡ false → walk (rule r ∷ s) ts ≡ walk s ts
skipped r s [] e l = ap ended (found-none (steps r) c.End s (cond (may_be_empty r) (next s c.End) stop) (optional-part r e).0 l ∙ ap (λ b. cond b (next s c.End) stop) e)
skipped r s (t ∷ ts) e l =
    ap (λ m. goes m (λ s2. walk s2 ts) (wrong (t ∷ ts)))
    (found-none (steps r) (class t) s (cond (may_be_empty r) (next s (class t)) stop) (optional-part r e).0 l ∙ ap (λ b. cond b (next s (class t)) stop) e)

-- whatever comes, a part's word is walked over
word-walked : (r : Rule) (s : Stack) (ts : List Token) → may_be_empty r ≡ false
    → walk (rule r ∷ s) (map a_token (word r) ++ ts) ≡ walk s ts
word-walked may_minus s ts e = cc
word-walked more_factors s ts e = cc
word-walked more_products s ts e = cc
word-walked may_amount s ts e = cc
word-walked more_guards s ts e = cc
word-walked may_choose s ts e = cc
word-walked more_items s ts e = cc
word-walked named_value s ts e = cc
word-walked may_else s ts e = cc
word-walked may_invariant s ts e = cc
word-walked more_declared s ts e = cc
word-walked more_joints s ts e = cc
word-walked may_requires s ts e = cc
word-walked may_ensures s ts e = cc
word-walked declarations s ts e = cc
word-walked a_text s ts e = cc
word-walked (may_when a_colon) s ts e = refl
word-walked (may_when a_semicolon) s ts e = refl
word-walked (more_comparisons a_colon) s ts e = refl
word-walked (more_comparisons a_semicolon) s ts e = refl
word-walked r s ts e = refl

word-lead : (r : Rule) (ts : List Token)
    → leads (ahead (map a_token (word r) ++ ts)) ≡ lead_of (word r) (leads (ahead ts))
word-lead (may_when a_colon) ts = refl
word-lead (may_when a_semicolon) ts = refl
word-lead (more_comparisons a_colon) ts = refl
word-lead (more_comparisons a_semicolon) ts = refl
word-lead r ts = refl

completion-lead : (s : Stack) → IsCompletable s → leads (ahead (completion s)) ≡ is_led false s
completion-lead [] h = refl
completion-lead (fixed k ∷ s) h = ap leads (token-class k (both (is_known k) (is_completable false s) h).0)
completion-lead (rule r ∷ s) h =
    word-lead r (completion s) ∙ ap (lead_of (word r)) (completion-lead s (both (not (is_led false s)) (is_completable false s) h).1)

pub completed : (s : Stack) → IsCompletable s → walk s (completion s) ≡ whole
completed [] h = refl
completed (fixed k ∷ s) h =
    let p = both (is_known k) (is_completable false s) h in
    ap (λ b. goes (cond b (on s) stop) (λ s2. walk s2 (completion s)) (wrong (a_token k ∷ completion s))) (ap (are_same k) (token-class k p.0) ∙ same-self k)
    ∙ completed s p.1
completed (rule r ∷ s) h = let p = both (not (is_led false s)) (is_completable false s) h in by p (completed s p.1) (may_be_empty r) refl
  where
    by : (not (is_led false s) ≡ true) × IsCompletable s → walk s (completion s) ≡ whole → (b : Bool) → may_be_empty r ≡ b → walk (rule r ∷ s) (map a_token (word r) ++ completion s) ≡ whole
    by p again false e = word-walked r s (completion s) e ∙ again
    by p again true e =
        ap (λ w. walk (rule r ∷ s) (map a_token w ++ completion s)) (optional-part r e).1
        ∙ skipped r s (completion s) e (completion-lead s p.1 ∙ not-true (is_led false s) p.0) ∙ again
