-- The words that complete a stack have no token that only the view of a text of the second version has.
use Rattle.std.proofs.Common.{◌≡◌, ◌≤◌, arith, not, ◌&&◌, cond, Bool, true, false, List, [], ◌∷◌, ◌++◌, map, refl, sym, ap, ◌∙◌, subst}
use Rattle.std.specs.List.{AllByRecursion}
use Rattle.cap_syntax.specs.declared.token.Token.{Token}
use Rattle.cap_syntax.specs.Printing.{IsSpelled}
use Rattle.cap_syntax.specs.Spelling.{keywords, symbols, max_literal}
use Rattle.cap_parse_laws.specs.declared.class.Class.{Class}
use Rattle.cap_parse_laws.specs.declared.class.Class.TheVariants as c
use Rattle.cap_parse_laws.specs.Classes.{class, are_same}
use Rattle.cap_parse_laws.specs.Versions.{is_before_index, seen, seen_from, after}
use Rattle.cap_parse_laws.proofs.Plain.{is_new}
use Rattle.cap_parse_laws.proofs.Shapes.{same_is_equal}
use Rattle.cap_parse_laws.proofs.Automaton.{a_colon, a_semicolon, fixed, rule, Rule, a_sign, may_when, more_comparisons, declarations, a_text, Move, on, stop, done, whole, wrong, Stack, Steps, declaration_steps, steps, behind, may_be_empty, found, next, ended, goes, walk}
use Rattle.cap_parse_laws.proofs.Completion.{IsCompletable, next-completable, completion, a_token, word, optional-part, on-same, both, and-true, and-assoc}

-- an old class, and no bracket where an index may be opened
abbrev is_old : Class → Bool
is_old c.Other = false
is_old c.End = false
is_old k = not (is_new k)

abbrev fits : Bool → Class → Bool
fits index k = is_old k && not (index && are_same c.OpenBracket k)

abbrev calm_word : Bool → List Class → Bool
calm_word index [] = true
calm_word index (k ∷ ks) = fits index k && calm_word (is_before_index k) ks

abbrev ends_word : Bool → List Class → Bool
ends_word index [] = index
ends_word index (k ∷ ks) = ends_word (is_before_index k) ks

abbrev classes : Stack → List Class
classes [] = []
classes (fixed k ∷ s) = k ∷ classes s
classes (rule r ∷ s) = word r ++ classes s

abbrev is_tame : Rule → Bool
is_tame a_sign = false
is_tame a_text = false
is_tame r = true

abbrev tame : Stack → Bool
tame [] = true
tame (fixed k ∷ s) = tame s
tame (rule r ∷ s) = is_tame r && tame s

abbrev is_calm : Bool → Stack → Bool
is_calm index s = tame s && calm_word index (classes s)

abbrev pub IsCalm : Bool → Stack → Type 0
IsCalm index s = is_calm index s ≡ true

append-all : {A : Type 0} (xs ys zs : List A) → (xs ++ ys) ++ zs ≡ xs ++ (ys ++ zs)
append-all [] ys zs = refl
append-all (x ∷ xs) ys zs = ap (λ l. x ∷ l) (append-all xs ys zs)

classes-append : (w s : Stack) → classes (w ++ s) ≡ classes w ++ classes s
classes-append [] s = refl
classes-append (fixed k ∷ w) s = ap (λ l. k ∷ l) (classes-append w s)
classes-append (rule r ∷ w) s = ap (λ l. word r ++ l) (classes-append w s) ∙ sym (append-all (word r) (classes w) (classes s))

tame-append : (w s : Stack) → tame (w ++ s) ≡ (tame w && tame s)
tame-append [] s = refl
tame-append (fixed k ∷ w) s = tame-append w s
tame-append (rule r ∷ w) s = ap (λ x. is_tame r && x) (tame-append w s) ∙ and-assoc (is_tame r) (tame w) (tame s)

word-append : (index : Bool) (ks js : List Class)
    → calm_word index (ks ++ js) ≡ (calm_word index ks && calm_word (ends_word index ks) js)
word-append index [] js = refl
word-append index (k ∷ ks) js =
    ap (λ x. fits index k && x) (word-append (is_before_index k) ks js)
    ∙ and-assoc (fits index k) (calm_word (is_before_index k) ks) (calm_word (ends_word (is_before_index k) ks) js)

fits-less : (index : Bool) (k : Class) → fits index k ≡ true → fits false k ≡ true
fits-less false k e = e
fits-less true c.OpenBracket e = refl
fits-less true k e = e

calm-less : (index : Bool) (ks : List Class) → calm_word index ks ≡ true → calm_word false ks ≡ true
calm-less index [] e = refl
calm-less index (k ∷ ks) e =
    let p = both (fits index k) (calm_word (is_before_index k) ks) e in
    and-true (fits false k) (calm_word (is_before_index k) ks) (fits-less index k p.0) p.1

-- behind each step the stack is calm, and no index may be opened behind its word
abbrev calm_step : Class → Stack → Bool
calm_step k w =
    (tame w && calm_word (is_before_index k) (classes w)) && not (ends_word (is_before_index k) (classes w))

abbrev all_calm : Steps → Bool
all_calm [] = true
all_calm (step ∷ more) = calm_step step.0 step.1 && all_calm more

steps-calm : (r : Rule) → is_tame r ≡ true → all_calm (steps r) ≡ true
steps-calm a_sign e = cc
steps-calm a_text e = cc
steps-calm (may_when a_colon) e = refl
steps-calm (may_when a_semicolon) e = refl
steps-calm (more_comparisons a_colon) e = refl
steps-calm (more_comparisons a_semicolon) e = refl
steps-calm r e = refl

not-false : (b : Bool) → not b ≡ true → b ≡ false
not-false true e = cc
not-false false e = refl

pushed-calm : (k : Class) (w s : Stack) → calm_step k w ≡ true → IsCalm false s
    → IsCalm (is_before_index k) (w ++ s)
pushed-calm k w s e h =
    let p = both (tame w && calm_word (is_before_index k) (classes w)) (not (ends_word (is_before_index k) (classes w))) e in
    let q = both (tame w) (calm_word (is_before_index k) (classes w)) p.0 in
    let i = both (tame s) (calm_word false (classes s)) h in
    and-true (tame (w ++ s)) (calm_word (is_before_index k) (classes (w ++ s)))
    (tame-append w s ∙ and-true (tame w) (tame s) q.0 i.0)
    (ap (calm_word (is_before_index k)) (classes-append w s) ∙ word-append (is_before_index k) (classes w) (classes s)
    ∙ and-true (calm_word (is_before_index k) (classes w)) (calm_word (ends_word (is_before_index k) (classes w)) (classes s)) q.1
    (ap (λ b. calm_word b (classes s)) (not-false (ends_word (is_before_index k) (classes w)) p.1) ∙ i.1))

found-calm : (st : Steps) (k : Class) (s : Stack) (m : Move) (s2 : Stack)
    → all_calm st ≡ true → IsCalm false s → (m ≡ on s2 → IsCalm (is_before_index k) s2)
    → found st k s m ≡ on s2 → IsCalm (is_before_index k) s2
found-calm [] k s m s2 a h other e = other e
found-calm (step ∷ more) k s m s2 a h other e =
    by (both (calm_step step.0 step.1) (all_calm more) a) (λ t f. found-calm more k s m s2 t h other f) (are_same step.0 k) refl e
  where
    by : (calm_step step.0 step.1 ≡ true) × (all_calm more ≡ true) → (all_calm more ≡ true → found more k s m ≡ on s2 → IsCalm (is_before_index k) s2)
        → (o : Bool) → are_same step.0 k ≡ o → cond o (on (step.1 ++ s)) (found more k s m) ≡ on s2 → IsCalm (is_before_index k) s2
    by p later true n f =
        ap (is_calm (is_before_index k)) (sym (on-same (step.1 ++ s) s2 f))
        ∙ ap (λ j. is_calm (is_before_index j) (step.1 ++ s)) (sym (same_is_equal step.0 k n))
        ∙ pushed-calm step.0 step.1 s p.0 h
    by p later false n f = later p.1 f

pub next-calm : (index : Bool) (s : Stack) (k : Class) (s2 : Stack) → IsCalm index s → next s k ≡ on s2
    → IsCalm (is_before_index k) s2
next-calm index [] k s2 h e = by (are_same c.End k) e
  where
    by : (b : Bool) → cond b done stop ≡ on s2 → IsCalm (is_before_index k) s2
    by true f = cc
    by false f = cc
next-calm index (fixed j ∷ s) k s2 h e = by (are_same j k) refl e
  where
    by : (b : Bool) → are_same j k ≡ b → cond b (on s) stop ≡ on s2 → IsCalm (is_before_index k) s2
    by true n f =
        let p = both (tame s) (fits index j && calm_word (is_before_index j) (classes s)) h in
        let q = both (fits index j) (calm_word (is_before_index j) (classes s)) p.1 in
        ap (is_calm (is_before_index k)) (sym (on-same s s2 f))
        ∙ ap (λ i. is_calm (is_before_index i) s) (sym (same_is_equal j k n))
        ∙ and-true (tame s) (calm_word (is_before_index j) (classes s)) p.0 q.1
    by false n f = cc
next-calm index (rule r ∷ s) k s2 h e =
    let p = both (is_tame r && tame s) (calm_word index (word r ++ classes s)) h in
    let q = both (is_tame r) (tame s) p.0 in
    let w = both (calm_word index (word r)) (calm_word (ends_word index (word r)) (classes s)) (sym (word-append index (word r) (classes s)) ∙ p.1) in
    found-calm (steps r) k s (cond (may_be_empty r) (next s k) stop) s2 (steps-calm r q.0)
    (and-true (tame s) (calm_word false (classes s)) q.1 (calm-less (ends_word index (word r)) (classes s) w.1))
    (by (λ i f. next-calm index s k s2 i f) q.1 p.1 (may_be_empty r) refl) e
  where
    by : (IsCalm index s → next s k ≡ on s2 → IsCalm (is_before_index k) s2) → tame s ≡ true → calm_word index (word r ++ classes s) ≡ true
        → (b : Bool) → may_be_empty r ≡ b → cond b (next s k) stop ≡ on s2 → IsCalm (is_before_index k) s2
    by again t i true n f =
        again (and-true (tame s) (calm_word index (classes s)) t (ap (λ l. calm_word index (l ++ classes s)) (sym (optional-part r n).1) ∙ i)) f
    by again t i false n f = cc

-- the first token of a text of the first version
pub first-calm : (k : Class) (s2 : Stack) → is_new k ≡ false → next (rule a_text ∷ []) k ≡ on s2
    → IsCalm (is_before_index k) s2
first-calm k s2 n e =
    by (are_same c.Caper k) refl e
  where
    nothing : (b : Bool) → cond b done stop ≡ on s2 → IsCalm (is_before_index k) s2
    nothing true f = cc
    nothing false f = cc

    by : (b : Bool) → are_same c.Caper k ≡ b
        → cond b (on (fixed c.Two ∷ fixed c.Semicolon ∷ rule declarations ∷ [])) (found (behind (rule declarations ∷ []) declaration_steps) k [] (next [] k)) ≡ on s2
        → IsCalm (is_before_index k) s2
    by true o f = let g : true ≡ false = ap is_new (same_is_equal c.Caper k o) ∙ n in absurd cc
    by false o f =
        found-calm (behind (rule declarations ∷ []) declaration_steps) k [] (next [] k) s2 refl refl (nothing (are_same c.End k)) f

-- the stacks on which the automaton comes
abbrev pub Reaches : Stack → List Token → Stack → Type 0
Reaches s [] to = s ≡ to
Reaches s (t ∷ ts) to = (s2 : Stack) × (next s (class t) ≡ on s2) × Reaches s2 ts to

pub reach-calm : (index : Bool) (s : Stack) (ts : List Token) (to : Stack) → IsCalm index s → Reaches s ts to
    → IsCalm (after index ts) to
reach-calm index s [] to h r = ap (is_calm index) (sym r) ∙ h
reach-calm index s (t ∷ ts) to h r = reach-calm (is_before_index (class t)) r.0 ts to (next-calm index s (class t) r.0 h r.1) r.2

-- the tokens that complete a calm stack are spelled, and are seen as they are

completion-is : (s : Stack) → completion s ≡ map a_token (classes s)
completion-is [] = refl
completion-is (fixed k ∷ s) = ap (λ l. a_token k ∷ l) (completion-is s)
completion-is (rule r ∷ s) = ap (λ l. map a_token (word r) ++ l) (completion-is s) ∙ sym (map-over (word r) (classes s))
  where
    map-over : (ks js : List Class) → map a_token (ks ++ js) ≡ map a_token ks ++ map a_token js
    map-over [] js = refl
    map-over (k ∷ ks) js = ap (λ l. a_token k ∷ l) (map-over ks js)

token-seen : (index : Bool) (k : Class) → fits index k ≡ true → seen index (a_token k) ≡ a_token k
token-seen true c.OpenBracket e = cc
token-seen true c.Other e = cc
token-seen true c.End e = cc
token-seen true k e = refl
token-seen false c.Other e = cc
token-seen false c.End e = cc
token-seen false k e = refl

token-old : (k : Class) → is_old k ≡ true → class (a_token k) ≡ k
token-old c.Other e = cc
token-old c.End e = cc
token-old k e = refl

word-seen : (index : Bool) (ks : List Class) → calm_word index ks ≡ true
    → seen_from index (map a_token ks) ≡ map a_token ks
word-seen index [] e = refl
word-seen index (k ∷ ks) e =
    let p = both (fits index k) (calm_word (is_before_index k) ks) e in
    let o = both (is_old k) (not (index && are_same c.OpenBracket k)) p.0 in
    let s = token-seen index k p.0 in
    ap (λ t. t ∷ seen_from (is_before_index (class t)) (map a_token ks)) s
    ∙ ap (λ j. a_token k ∷ seen_from (is_before_index j) (map a_token ks)) (token-old k o.0)
    ∙ ap (λ l. a_token k ∷ l) (word-seen (is_before_index k) ks p.1)

pub zero-small : 0 ≤ max_literal
zero-small = omega arith

token-spelled : (k : Class) → is_old k ≡ true → IsSpelled (a_token k)
unfolding keywords symbols
token-spelled c.Other e = cc
token-spelled c.End e = cc
token-spelled c.Caper e = cc
token-spelled c.Two e = cc
token-spelled c.Faa e = cc
token-spelled c.Dispose e = cc
token-spelled c.AtIndex e = cc
token-spelled c.FromIndex e = cc
token-spelled c.Index e = cc
token-spelled k e = record { spelled = refl; value = refl; small = zero-small }

word-spelled : (index : Bool) (ks : List Class) → calm_word index ks ≡ true
    → AllByRecursion IsSpelled (map a_token ks)
word-spelled index [] e = tt
word-spelled index (k ∷ ks) e =
    let p = both (fits index k) (calm_word (is_before_index k) ks) e in
    let o = both (is_old k) (not (index && are_same c.OpenBracket k)) p.0 in
    (token-spelled k o.0, word-spelled (is_before_index k) ks p.1)

pub calm-seen : (index : Bool) (s : Stack) → IsCalm index s → seen_from index (completion s) ≡ completion s
calm-seen index s h =
    let p = both (tame s) (calm_word index (classes s)) h in
    ap (seen_from index) (completion-is s) ∙ word-seen index (classes s) p.1 ∙ sym (completion-is s)

pub calm-spelled : (index : Bool) (s : Stack) → IsCalm index s → AllByRecursion IsSpelled (completion s)
calm-spelled index s h =
    let p = both (tame s) (calm_word index (classes s)) h in
    subst (AllByRecursion IsSpelled) (sym (completion-is s)) (word-spelled index (classes s) p.1)

-- what is walked to its end comes on a stack that can be completed
pub reached : (front more : List Token) (s : Stack) → IsCompletable s → walk s (front ++ more) ≡ whole
    → (to : Stack) × Reaches s front to × IsCompletable to
reached [] more s h w = (s, refl, h)
reached (t ∷ front) more s h w = by (λ s2. reached front more s2) (next s (class t)) refl w
  where
    by : ((s2 : Stack) → IsCompletable s2 → walk s2 (front ++ more) ≡ whole → (to : Stack) × Reaches s2 front to × IsCompletable to)
        → (m : Move) → next s (class t) ≡ m → goes m (λ s2. walk s2 (front ++ more)) (wrong (t ∷ (front ++ more))) ≡ whole
        → (to : Stack) × Reaches s (t ∷ front) to × IsCompletable to
    by again (on s2) n f = let x = again s2 (next-completable s (class t) s2 h n) f in (x.0, (s2, n, x.1), x.2)
    by again stop n f = absurd cc
    by again done n f = absurd cc

pub reach-walks : (s : Stack) (ts : List Token) (to : Stack) (rest : List Token) → Reaches s ts to
    → walk s (ts ++ rest) ≡ walk to rest
reach-walks s [] to rest r = ap (λ u. walk u rest) r
reach-walks s (t ∷ ts) to rest r =
    ap (λ m. goes m (λ s2. walk s2 (ts ++ rest)) (wrong (t ∷ (ts ++ rest)))) r.1 ∙ reach-walks r.0 ts to rest r.2
