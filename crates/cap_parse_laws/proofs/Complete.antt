-- What is spelled is read: terms and assertions.
use Rattle.std.proofs.Common.{◌≡◌, ℕ, zero, suc, not, Bool, true, false, List, [], ◌∷◌, Option, Some, None, Ok, refl, sym, ap, subst, codes}
use Rattle.cap_syntax.specs.declared.place.Place.{Place}
use Rattle.cap_syntax.specs.declared.token.Token.{Token}
use Rattle.cap_parse_tree.specs.declared.word.Word.{Word}
use Rattle.cap_parse_tree.specs.declared.term.Sign.{Sign}
use Rattle.cap_parse_tree.specs.declared.term.Sign.TheVariants.{Plus, Minus}
use Rattle.cap_parse_tree.specs.declared.term.Relation.{Relation}
use Rattle.cap_parse_tree.specs.declared.term.Relation.TheVariants.{Equal, Unequal, Less, AtMost, Greater, AtLeast}
use Rattle.cap_parse_tree.specs.declared.assertion.Counted.TheVariants.{Source, Tokens, At, From}
use Rattle.cap_parse_tree.specs.Tree.{any, is, alone, amount, count, bare, in_parentheses, FactorTree, ProductTree, FactorTrees, TermTree, ProductTrees, SlotTree, GuardTree, HeldTree, ItemTree, ItemTrees, AssertionTree, SideTree, StatementTree, StatementTrees, DeclaredTrees, JointTrees, ComparisonTree, ClauseTree, GuardsTree, literal, whole_share, named, bracketed, product, no_factor, times, term, no_product, signed, holds, fails, fact, guards, cell, compare, choose, no_item, and_item, assertion, side, no_statement, then_statement, no_declared, and_declared, no_joint, or_joint}
use Rattle.cap_parse_tree.specs.Tokens.{name, keyword, symbol}
use Rattle.cap_parse_tree.specs.Spelling.{spell_all, spell_more, sign_text, spell_factor, spell_product, spell_factors, spell_term, spell_products, relation_text, spell_comparison, spell_slot, spell_guard, spell_guards, spell_held, spell_item, spell_items, spell_assertion, spell_side, spell_clause}
use Rattle.cap_parse_tree.specs.Views.{TimesTree, AddendTree, factors_of, products_of, AndTree, items_of, statements_of, BothTree, EitherTree, declareds_of, joints_of}
use Rattle.cap_parse_laws.specs.declared.class.Class.{Class}
use Rattle.cap_parse_laws.specs.declared.class.Class.TheVariants as c
use Rattle.cap_parse_laws.specs.Classes.{class, are_same}
use Rattle.cap_parse_laws.specs.Readers.{Reader, ◌>>=◌, ahead, expect}
use Rattle.cap_parse_laws.specs.Grammar.{read_factor, read_product_from, read_product, is_sign, read_addend, read_term_from, bracketed_at, read_term, read_comparison_from, read_comparison, slot_by, read_slot, amount_by, read_guard, read_guards, held_by, read_held, choice_by, read_choice, read_item_from, named_item_by, read_item, side_at, read_assertion, read_clause}
use Rattle.cap_parse_laws.specs.Laws.Taking.{takes-keeps, factor-takes, addend-takes, slot-takes, guard-takes, item-takes}
use Rattle.cap_parse_laws.proofs.MeetsTerms.{factors-spelled, spell_addend, products-spelled}
use Rattle.cap_parse_laws.proofs.MeetsAssertions.{items-spelled}
use Rattle.cap_parse_laws.proofs.Gives.{Gives, gives, not-here, yields, where-true, is-same, opens-then, Begins, parts-follow, while-gives, more-gives, several-gives}

-- the list that a list of the tree is

list_of_factors : FactorTrees → List TimesTree
list_of_factors no_factor = []
list_of_factors (times p f fs) = (p, f) ∷ list_of_factors fs

factors-again : (fs : FactorTrees) → factors_of (list_of_factors fs) ≡ fs
unfolding list_of_factors
factors-again no_factor = refl
factors-again (times p f fs) = ap (times p f) (factors-again fs)

list_of_products : ProductTrees → List AddendTree
list_of_products no_product = []
list_of_products (signed g p m ms) = record { sign = g; place = p; product = m } ∷ list_of_products ms

products-again : (ms : ProductTrees) → products_of (list_of_products ms) ≡ ms
unfolding list_of_products
products-again no_product = refl
products-again (signed g p m ms) = ap (signed g p m) (products-again ms)

list_of_items : ItemTrees → List AndTree
list_of_items no_item = []
list_of_items (and_item p i more) = (p, i) ∷ list_of_items more

items-again : (more : ItemTrees) → items_of (list_of_items more) ≡ more
unfolding list_of_items
items-again no_item = refl
items-again (and_item p i more) = ap (and_item p i) (items-again more)

pub list_of_statements : StatementTrees → List StatementTree
list_of_statements no_statement = []
list_of_statements (then_statement s more) = s ∷ list_of_statements more

pub statements-again : (more : StatementTrees) → statements_of (list_of_statements more) ≡ more
unfolding list_of_statements
statements-again no_statement = refl
statements-again (then_statement s more) = ap (then_statement s) (statements-again more)

pub list_of_declareds : DeclaredTrees → List BothTree
list_of_declareds no_declared = []
list_of_declareds (and_declared p d more) = (p, d) ∷ list_of_declareds more

pub declareds-again : (more : DeclaredTrees) → declareds_of (list_of_declareds more) ≡ more
unfolding list_of_declareds
declareds-again no_declared = refl
declareds-again (and_declared p d more) = ap (and_declared p d) (declareds-again more)

pub list_of_joints : JointTrees → List EitherTree
list_of_joints no_joint = []
list_of_joints (or_joint p j more) = (p, j) ∷ list_of_joints more

pub joints-again : (more : JointTrees) → joints_of (list_of_joints more) ≡ more
unfolding list_of_joints
joints-again no_joint = refl
joints-again (or_joint p j more) = ap (or_joint p j) (joints-again more)

-- terms

abbrev BracketGives : ℕ → Type 0
BracketGives d = (p : Place) (t : TermTree) (q : Place) (ts : List Token) → Gives (bracketed p t q) ts (bracketed_at d (symbol (codes "(") p ∷ spell_term t (symbol (codes ")") q ∷ ts)))

factor-gives : (d : ℕ) → BracketGives d → (f : FactorTree) (ts : List Token)
    → Gives f ts (read_factor (bracketed_at d) (spell_factor f ts))
factor-gives d h (literal n) ts = gives
factor-gives d h (whole_share p) ts = gives
factor-gives d h (named w) ts = gives
factor-gives d h (bracketed p t q) ts = h p t q ts

-- no term goes on with this
abbrev pub ends_term : Class → Bool
ends_term c.Star = false
ends_term c.Plus = false
ends_term c.Minus = false
ends_term k = true

star-ends : (k : Class) → ends_term k ≡ true → are_same c.Star k ≡ false
star-ends c.Star e = cc
star-ends k e = refl

sign-ends : (k : Class) → ends_term k ≡ true → is_sign k ≡ false
sign-ends c.Plus e = cc
sign-ends c.Minus e = cc
sign-ends k e = refl

abbrev pub no_star : Class → Bool
no_star k = not (are_same c.Star k)

pub no-star : (k : Class) → no_star k ≡ true → are_same c.Star k ≡ false
no-star c.Star e = cc
no-star k e = refl

pub star-no : (k : Class) → are_same c.Star k ≡ false → no_star k ≡ true
star-no c.Star e = cc
star-no k e = refl

product_from-gives : (d : ℕ) → BracketGives d
    → (f : FactorTree) (fs : FactorTrees) (ts : List Token) → are_same c.Star (ahead ts) ≡ false
    → Gives (product f fs) ts (read_product_from (bracketed_at d) f (spell_factors fs ts))
product_from-gives d h f fs ts e = subst (λ gs. Gives (product f gs) ts (read_product_from (bracketed_at d) f (spell_factors gs ts))) (factors-again fs) (by (list_of_factors fs))
  where
    by : (l : List TimesTree) → Gives (product f (factors_of l)) ts (read_product_from (bracketed_at d) f (spell_factors (factors_of l) ts))
    by l =
        subst (λ us. Gives (product f (factors_of l)) ts (read_product_from (bracketed_at d) f us)) (factors-spelled l ts)
        (yields _ (more-gives spell_factor (λ k. true) c.Star (codes "*") (read_factor (bracketed_at d)) (λ p. refl) refl refl (takes-keeps (read_factor (bracketed_at d)) (factor-takes d)) (λ a us x. factor-gives d h a us) l ts e refl) gives)

product-gives : (d : ℕ) → BracketGives d → (m : ProductTree) (ts : List Token)
    → are_same c.Star (ahead ts) ≡ false
    → Gives m ts (read_product (bracketed_at d) (spell_product m ts))
product-gives d h (product f fs) ts e = yields _ (factor-gives d h f (spell_factors fs ts)) (product_from-gives d h f fs ts e)

addend-gives : (d : ℕ) → BracketGives d → (a : AddendTree) (ts : List Token)
    → no_star (ahead ts) ≡ true → Gives a ts (read_addend (bracketed_at d) (spell_addend a ts))
addend-gives d h a ts e = by a.sign
  where
    by : (g : Sign) → Gives (record { sign = g; place = a.place; product = a.product }) ts (read_addend (bracketed_at d) (symbol (sign_text g) a.place ∷ spell_product a.product ts))
    by Plus = yields _ (product-gives d h a.product ts (no-star (ahead ts) e)) gives
    by Minus = yields _ (product-gives d h a.product ts (no-star (ahead ts) e)) gives

addend-begins : (a : AddendTree) (ts : List Token) → Begins is_sign no_star (spell_addend a ts)
addend-begins a ts = by a.sign
  where
    by : (g : Sign) → Begins is_sign no_star (symbol (sign_text g) a.place ∷ spell_product a.product ts)
    by Plus = (refl, refl, refl)
    by Minus = (refl, refl, refl)

term_from-gives : (d : ℕ) → BracketGives d
    → (minus : Option Place) (f : FactorTree) (fs : FactorTrees) (ms : ProductTrees) (ts : List Token)
    → ends_term (ahead ts) ≡ true
    → Gives (term minus (product f fs) ms) ts (read_term_from (bracketed_at d) minus f (spell_factors fs (spell_products ms ts)))
term_from-gives d h minus f fs ms ts e =
    subst (λ ns. Gives (term minus (product f fs) ns) ts (read_term_from (bracketed_at d) minus f (spell_factors fs (spell_products ns ts)))) (products-again ms) (by (list_of_products ms))
  where
    by : (l : List AddendTree) → Gives (term minus (product f fs) (products_of l)) ts (read_term_from (bracketed_at d) minus f (spell_factors fs (spell_products (products_of l) ts)))
    by l =
        subst (λ us. Gives (term minus (product f fs) (products_of l)) ts (read_term_from (bracketed_at d) minus f (spell_factors fs us))) (products-spelled l ts)
        (yields _ (product_from-gives d h f fs (spell_all spell_addend l ts) (no-star (ahead (spell_all spell_addend l ts)) (parts-follow spell_addend is_sign no_star addend-begins l ts (star-no (ahead ts) (star-ends (ahead ts) e)))))
        (yields _ (while-gives spell_addend is_sign no_star (read_addend (bracketed_at d)) (addend-takes d) addend-begins (addend-gives d h) l ts (sign-ends (ahead ts) e) (star-no (ahead ts) (star-ends (ahead ts) e))) gives))

term-gives-with : (d : ℕ) → BracketGives d → (t : TermTree) (ts : List Token)
    → ends_term (ahead ts) ≡ true → Gives t ts (read_term d (spell_term t ts))
term-gives-with d h (term (Some p) (product f fs) ms) ts e = yields _ (factor-gives d h f (spell_factors fs (spell_products ms ts))) (term_from-gives d h (Some p) f fs ms ts e)
term-gives-with d h (term None (product (literal n) fs) ms) ts e = term_from-gives d h None (literal n) fs ms ts e
term-gives-with d h (term None (product (whole_share p) fs) ms) ts e = term_from-gives d h None (whole_share p) fs ms ts e
term-gives-with d h (term None (product (named w) fs) ms) ts e = term_from-gives d h None (named w) fs ms ts e
term-gives-with d h (term None (product (bracketed p t q) fs) ms) ts e = yields _ (h p t q (spell_factors fs (spell_products ms ts))) (term_from-gives d h None (bracketed p t q) fs ms ts e)

bracketed-gives : (d : ℕ) → BracketGives d
bracketed-gives zero p t q ts = not-here
bracketed-gives (suc d) p t q ts = yields _ (term-gives-with d (bracketed-gives d) t (symbol (codes ")") q ∷ ts) refl) gives

pub term-gives : (d : ℕ) (t : TermTree) (ts : List Token) → ends_term (ahead ts) ≡ true
    → Gives t ts (read_term d (spell_term t ts))
term-gives d = term-gives-with d (bracketed-gives d)

abbrev pub begins_term : Class → Bool
begins_term c.Minus = true
begins_term c.Number = true
begins_term c.Share = true
begins_term c.Name = true
begins_term c.Open = true
begins_term k = false

pub term-begins : (t : TermTree) (ts : List Token) → begins_term (ahead (spell_term t ts)) ≡ true
term-begins (term (Some p) (product f fs) ms) ts = refl
term-begins (term None (product (literal n) fs) ms) ts = refl
term-begins (term None (product (whole_share p) fs) ms) ts = refl
term-begins (term None (product (named w) fs) ms) ts = refl
term-begins (term None (product (bracketed p t q) fs) ms) ts = refl

-- what holds of a sign, a star and the next token holds behind a term's first factor
pub rest-begins : (test : Class → Bool) → test c.Star ≡ true → test c.Plus ≡ true
    → test c.Minus ≡ true → (fs : FactorTrees) (ms : ProductTrees) (ts : List Token)
    → test (ahead ts) ≡ true → test (ahead (spell_factors fs (spell_products ms ts))) ≡ true
rest-begins test s p m (times q f fs) ms ts h = s
rest-begins test s p m no_factor no_product ts h = h
rest-begins test s p m no_factor (signed Plus q n ms) ts h = p
rest-begins test s p m no_factor (signed Minus q n ms) ts h = m

relation-ends : (r : Relation) (p : Place) → ends_term (class (symbol (relation_text r) p)) ≡ true
relation-ends Equal p = refl
relation-ends Unequal p = refl
relation-ends Less p = refl
relation-ends AtMost p = refl
relation-ends Greater p = refl
relation-ends AtLeast p = refl

comparison_from-gives : (d : ℕ) (x : ComparisonTree) (ts : List Token) → ends_term (ahead ts) ≡ true
    → Gives x ts (read_comparison_from d x.left (symbol (relation_text x.relation) x.place ∷ spell_term x.right ts))
comparison_from-gives d x ts e = by x.relation
  where
    by : (r : Relation) → Gives (record { left = x.left; relation = r; place = x.place; right = x.right }) ts (read_comparison_from d x.left (symbol (relation_text r) x.place ∷ spell_term x.right ts))
    by Equal = yields _ (term-gives d x.right ts e) gives
    by Unequal = yields _ (term-gives d x.right ts e) gives
    by Less = yields _ (term-gives d x.right ts e) gives
    by AtMost = yields _ (term-gives d x.right ts e) gives
    by Greater = yields _ (term-gives d x.right ts e) gives
    by AtLeast = yields _ (term-gives d x.right ts e) gives

pub comparison-gives : (d : ℕ) (x : ComparisonTree) (ts : List Token) → ends_term (ahead ts) ≡ true
    → Gives x ts (read_comparison d (spell_comparison x ts))
comparison-gives d x ts e =
    yields _ (term-gives d x.left (symbol (relation_text x.relation) x.place ∷ spell_term x.right ts) (relation-ends x.relation x.place)) (comparison_from-gives d x ts e)

slot-of-term : (d : ℕ) (k : Class) (us : List Token) → begins_term k ≡ true
    → slot_by d k us ≡ (read_term d us >>= λ t. Ok (is t.0, t.1))
slot-of-term d c.Wildcard us e = cc
slot-of-term d k us e = refl

slot-gives : (d : ℕ) (x : SlotTree) (ts : List Token) → ends_term (ahead ts) ≡ true
    → Gives x ts (read_slot d (spell_slot x ts))
slot-gives d (any p) ts e = gives
slot-gives d (is t) ts e =
    subst (Gives (is t) ts) (sym (slot-of-term d (ahead (spell_term t ts)) (spell_term t ts) (term-begins t ts))) (yields _ (term-gives d t ts e) gives)

-- guards

no-amount : (d : ℕ) (w : Word) (k : Class) (ts : List Token) → not (are_same c.OpenBracket k) ≡ true
    → amount_by d w k ts ≡ Ok (alone w, ts)
no-amount d w c.OpenBracket ts e = cc
no-amount d w k ts e = refl

guard-gives : (d : ℕ) (g : GuardTree) (ts : List Token)
    → not (are_same c.OpenBracket (ahead ts)) ≡ true → Gives g ts (read_guard d (spell_guard g ts))
guard-gives d (alone w) ts e = subst (Gives (alone w) ts) (sym (no-amount d w (ahead ts) ts e)) gives
guard-gives d (amount w p x q) ts e =
    opens-then _ c.OpenBracket d (symbol (codes "[") p) (spell_slot x (symbol (codes "]") q ∷ ts)) refl (λ n. yields _ (slot-gives n x (symbol (codes "]") q ∷ ts) refl) gives)
guard-gives d (count Source k w p x q) ts e =
    opens-then _ c.OpenBracket d (symbol (codes "[") p) (spell_slot x (symbol (codes "]") q ∷ ts)) refl (λ n. yields _ (slot-gives n x (symbol (codes "]") q ∷ ts) refl) gives)
guard-gives d (count Tokens k w p x q) ts e =
    opens-then _ c.OpenBracket d (symbol (codes "[") p) (spell_slot x (symbol (codes "]") q ∷ ts)) refl (λ n. yields _ (slot-gives n x (symbol (codes "]") q ∷ ts) refl) gives)
guard-gives d (count At k w p x q) ts e =
    opens-then _ c.OpenBracket d (symbol (codes "[") p) (spell_slot x (symbol (codes "]") q ∷ ts)) refl (λ n. yields _ (slot-gives n x (symbol (codes "]") q ∷ ts) refl) gives)
guard-gives d (count From k w p x q) ts e =
    opens-then _ c.OpenBracket d (symbol (codes "[") p) (spell_slot x (symbol (codes "]") q ∷ ts)) refl (λ n. yields _ (slot-gives n x (symbol (codes "]") q ∷ ts) refl) gives)

pub guards-gives : (d : ℕ) (g : GuardsTree) (ts : List Token) → are_same c.Star (ahead ts) ≡ false
    → not (are_same c.OpenBracket (ahead ts)) ≡ true
    → Gives g ts (read_guards d (spell_guards g ts))
guards-gives d g ts e f =
    several-gives spell_guard (λ k. not (are_same c.OpenBracket k)) c.Star (codes "*") (read_guard d) (λ p. refl) refl refl (takes-keeps (read_guard d) (guard-takes d)) (guard-gives d) g ts e f

abbrev pub begins_guard : Class → Bool
begins_guard c.Name = true
begins_guard c.Source = true
begins_guard c.Tokens = true
begins_guard c.AtIndex = true
begins_guard c.FromIndex = true
begins_guard k = false

pub guard-begins : (g : GuardTree) (ts : List Token)
    → begins_guard (ahead (spell_guard g ts)) ≡ true
guard-begins (alone w) ts = refl
guard-begins (amount w p x q) ts = refl
guard-begins (count Source k w p x q) ts = refl
guard-begins (count Tokens k w p x q) ts = refl
guard-begins (count At k w p x q) ts = refl
guard-begins (count From k w p x q) ts = refl

held-of-guards : (d : ℕ) (k : Class) (us : List Token) → begins_guard k ≡ true
    → held_by d k us ≡ (read_guards d us >>= λ g. Ok (bare g.0, g.1))
held-of-guards d c.Open us e = cc
held-of-guards d k us e = refl

held-gives : (d : ℕ) (g : HeldTree) (ts : List Token) → are_same c.Star (ahead ts) ≡ false
    → not (are_same c.OpenBracket (ahead ts)) ≡ true → Gives g ts (read_held d (spell_held g ts))
held-gives d (in_parentheses p g q) ts e f =
    opens-then _ c.Open d (symbol (codes "(") p) (spell_guards g (symbol (codes ")") q ∷ ts)) refl (λ n. yields _ (guards-gives n g (symbol (codes ")") q ∷ ts) refl refl) gives)
held-gives d (bare g) ts e f =
    subst (Gives (bare g) ts) (sym (held-of-guards d (ahead (spell_guards g ts)) (spell_guards g ts) (guard-begins g.first (spell_more (codes "*") spell_guard g.more ts))))
    (yields _ (guards-gives d g ts e f) gives)

-- items

-- no item goes on with this
abbrev ends_item : Class → Bool
ends_item c.Star = false
ends_item c.Plus = false
ends_item c.Minus = false
ends_item c.Question = false
ends_item c.OpenBracket = false
ends_item k = true

item-ends-term : (k : Class) → ends_item k ≡ true → ends_term k ≡ true
item-ends-term c.Star e = cc
item-ends-term c.Plus e = cc
item-ends-term c.Minus e = cc
item-ends-term k e = refl

item-ends-guard : (k : Class) → ends_item k ≡ true → not (are_same c.OpenBracket k) ≡ true
item-ends-guard c.OpenBracket e = cc
item-ends-guard k e = refl

abbrev SideGives : ℕ → Type 0
SideGives d = (x : SideTree) (ts : List Token) → Gives x ts (side_at d (spell_side x ts))

no-choice : (sides : Reader SideTree) (x : ComparisonTree) (k : Class) (ts : List Token)
    → ends_item k ≡ true → choice_by sides x k ts ≡ Ok (compare x, ts)
no-choice sides x c.Question ts e = cc
no-choice sides x k ts e = refl

-- behind a name neither a fact's parts nor guards come
abbrev pub no_item_of_its_own : Class → Bool
no_item_of_its_own c.Open = false
no_item_of_its_own c.At = false
no_item_of_its_own k = true

named-item-of-term : (sides : Reader SideTree) (d : ℕ) (w : Word) (k : Class) (us : List Token)
    → no_item_of_its_own k ≡ true
    → named_item_by sides d w k us ≡ (read_term_from (bracketed_at d) None (named w) us >>= λ t. read_item_from sides d t.0 t.1)
named-item-of-term sides d w c.Open us e = cc
named-item-of-term sides d w c.At us e = cc
named-item-of-term sides d w k us e = refl

item-of-term : (sides : Reader SideTree) (d : ℕ) (t : TermTree) (us : List Token)
    → no_item_of_its_own (ahead us) ≡ true
    → read_item sides d (spell_term t us) ≡ (read_term d (spell_term t us) >>= λ t. read_item_from sides d t.0 t.1)
item-of-term sides d (term (Some p) (product f fs) ms) us e = refl
item-of-term sides d (term None (product (literal n) fs) ms) us e = refl
item-of-term sides d (term None (product (whole_share p) fs) ms) us e = refl
item-of-term sides d (term None (product (named w) fs) ms) us e =
    let rest = spell_factors fs (spell_products ms us) in
    named-item-of-term sides d w (ahead rest) rest (rest-begins no_item_of_its_own refl refl refl fs ms us e)
item-of-term sides d (term None (product (bracketed p t q) fs) ms) us e = refl

relation-item : (r : Relation) (p : Place)
    → no_item_of_its_own (class (symbol (relation_text r) p)) ≡ true
relation-item Equal p = refl
relation-item Unequal p = refl
relation-item Less p = refl
relation-item AtMost p = refl
relation-item Greater p = refl
relation-item AtLeast p = refl

item-of-comparison : (sides : Reader SideTree) (d : ℕ) (t : TermTree) (r : Relation) (p : Place) (us : List Token)
    → read_item_from sides d t (symbol (relation_text r) p ∷ us) ≡ (read_comparison_from d t (symbol (relation_text r) p ∷ us) >>= λ x. read_choice sides x.0 x.1)
item-of-comparison sides d t Equal p us = refl
item-of-comparison sides d t Unequal p us = refl
item-of-comparison sides d t Less p us = refl
item-of-comparison sides d t AtMost p us = refl
item-of-comparison sides d t Greater p us = refl
item-of-comparison sides d t AtLeast p us = refl

-- an item that begins with a comparison
comparing : (sides : Reader SideTree) (d : ℕ) (x : ComparisonTree) (i : ItemTree) (us ts : List Token)
    → ends_term (ahead us) ≡ true
    → Gives i ts (read_choice sides x us) → Gives i ts (read_item sides d (spell_comparison x us))
comparing sides d x i us ts e h =
    let rest = symbol (relation_text x.relation) x.place ∷ spell_term x.right us in
    subst (Gives i ts) (sym (item-of-term sides d x.left rest (relation-item x.relation x.place)))
    (yields _ (term-gives d x.left rest (relation-ends x.relation x.place))
    (subst (Gives i ts) (sym (item-of-comparison sides d x.left x.relation x.place (spell_term x.right us)))
    (yields _ (comparison_from-gives d x us e) h)))

item-gives : (d : ℕ) → SideGives d → (i : ItemTree) (ts : List Token) → ends_item (ahead ts) ≡ true
    → Gives i ts (read_item (side_at d) d (spell_item i ts))
item-gives d h (holds p) ts e = gives
item-gives d h (fails p) ts e = gives
item-gives d h (fact k p r arguments q x f) ts e =
    let rest = symbol (codes ";") q ∷ spell_slot x (symbol (codes ")") f ∷ ts) in
    opens-then _ c.Open d (symbol (codes "(") p) (name r ∷ spell_more (codes ",") spell_slot arguments rest) refl (λ n.
    yields _ (more-gives spell_slot ends_term c.Comma (codes ",") (read_slot n) (λ p. refl) refl refl (takes-keeps (read_slot n) (slot-takes n)) (slot-gives n) arguments rest refl refl)
    (yields _ (slot-gives n x (symbol (codes ")") f ∷ ts) refl) gives))
item-gives d h (guards r p g) ts e =
    yields _ (held-gives d g ts (star-ends (ahead ts) (item-ends-term (ahead ts) e)) (item-ends-guard (ahead ts) e)) gives
item-gives d h (cell t p x) ts e =
    let rest = symbol (codes "|->") p ∷ spell_slot x ts in
    subst (Gives (cell t p x) ts) (sym (item-of-term (side_at d) d t rest refl))
    (yields _ (term-gives d t rest refl) (yields _ (slot-gives d x ts (item-ends-term (ahead ts) e)) gives))
item-gives d h (compare x) ts e =
    comparing (side_at d) d x (compare x) ts ts (item-ends-term (ahead ts) e) (subst (Gives (compare x) ts) (sym (no-choice (side_at d) x (ahead ts) ts e)) gives)
item-gives d h (choose x p a q b) ts e =
    let rest = spell_side a (symbol (codes ":") q ∷ spell_side b ts) in
    comparing (side_at d) d x (choose x p a q b) (symbol (codes "?") p ∷ rest) ts refl
    (yields _ (h a (symbol (codes ":") q ∷ spell_side b ts)) (yields _ (h b ts) gives))

and-ends : (more : List AndTree) (ts : List Token) → ends_item (ahead ts) ≡ true
    → ends_item (ahead (spell_more (codes "&*&") spell_item more ts)) ≡ true
and-ends [] ts e = e
and-ends (i ∷ more) ts e = refl

assertion-gives-with : (d : ℕ) → SideGives d → (a : AssertionTree) (ts : List Token)
    → are_same c.And (ahead ts) ≡ false → ends_item (ahead ts) ≡ true
    → Gives a ts (read_assertion d (spell_assertion a ts))
assertion-gives-with d h (assertion i more) ts e f =
    subst (λ m. Gives (assertion i m) ts (read_assertion d (spell_item i (spell_items m ts)))) (items-again more) (by (list_of_items more))
  where
    by : (l : List AndTree) → Gives (assertion i (items_of l)) ts (read_assertion d (spell_item i (spell_items (items_of l) ts)))
    by l =
        subst (λ us. Gives (assertion i (items_of l)) ts (read_assertion d (spell_item i us))) (items-spelled l ts)
        (yields _ (item-gives d h i (spell_more (codes "&*&") spell_item l ts) (and-ends l ts f))
        (yields _ (more-gives spell_item ends_item c.And (codes "&*&") (read_item (side_at d) d) (λ p. refl) refl refl (takes-keeps (read_item (side_at d) d) (item-takes d)) (item-gives d h) l ts e f) gives))

side-gives : (d : ℕ) → SideGives d
side-gives zero (side p a q) ts = not-here
side-gives (suc d) (side p a q) ts = yields _ (assertion-gives-with d (side-gives d) a (symbol (codes "}") q ∷ ts) refl refl) gives

pub assertion-gives : (d : ℕ) (a : AssertionTree) (ts : List Token)
    → are_same c.And (ahead ts) ≡ false → ends_item (ahead ts) ≡ true
    → Gives a ts (read_assertion d (spell_assertion a ts))
assertion-gives d = assertion-gives-with d (side-gives d)

pub expect-gives : (k : Class) (t : Token) (ts : List Token) → class t ≡ k
    → Gives t.place ts (expect k (t ∷ ts))
expect-gives k t ts e = where-true (are_same k (class t)) _ (is-same k t e) gives

pub clause-gives : (d : ℕ) (k : Class) (text : List ℕ) (x : ClauseTree) (ts : List Token)
    → ((p : Place) → class (keyword text p) ≡ k)
    → Gives x ts (read_clause d k (spell_clause text x ts))
clause-gives d k text x ts e =
    yields _ (expect-gives k (keyword text x.key) (spell_assertion x.assertion (symbol (codes ";") x.semicolon ∷ ts)) (e x.key))
    (yields _ (assertion-gives d x.assertion (symbol (codes ";") x.semicolon ∷ ts) refl refl) gives)
