-- The automaton goes along with the readers of terms.
use Rattle.std.proofs.Common.{◌≡◌, ℕ, zero, suc, true, false, List, [], ◌∷◌, ◌++◌, Option, None, refl, ap, ◌∙◌, codes}
use Rattle.cap_syntax.specs.declared.place.Place.{Place}
use Rattle.cap_syntax.specs.declared.token.Token.{Token}
use Rattle.cap_parse_tree.specs.declared.word.Word.{Word}
use Rattle.cap_parse_tree.specs.Tree.{FactorTree, TermTree, named}
use Rattle.cap_parse_tree.specs.Tokens.{name, symbol}
use Rattle.cap_parse_tree.specs.Spelling.{Spells, spell_all, spell_more, spell_option, sign_text, spell_minus, spell_factor, spell_product, spell_factors, spell_term, spell_products, relation_text, spell_comparison, spell_slot}
use Rattle.cap_parse_tree.specs.Views.{TimesTree, AddendTree, factors_of, products_of}
use Rattle.cap_parse_laws.specs.declared.class.Class.{Class}
use Rattle.cap_parse_laws.specs.declared.class.Class.TheVariants as c
use Rattle.cap_parse_laws.specs.Readers.{ahead, next_place}
use Rattle.cap_parse_laws.specs.Grammar.{factor_by, read_factor, read_product_from, read_product, is_sign, sign_by, read_addend, read_term_from, bracketed_at, read_term, relation_by, read_comparison_from, read_comparison, slot_by, read_slot}
use Rattle.cap_parse_laws.specs.Laws.Taking.{takes-keeps, factor-takes, addend-takes}
use Rattle.cap_parse_laws.proofs.Automaton.{fixed, rule, a_factor, more_factors, a_sign, more_products, a_relation, a_slot, Stack, the_rest_of_a_term, a_product, a_term, a_comparison, next, run}
use Rattle.cap_parse_laws.proofs.Meets.{Meets, so, chain, enter, refuse, this-token, place-meets, word-meets, literal-meets, expect-meets, no_room-meets, Read, IsMet, lead, optional-meets, while-meets, IsSeparator, more-meets}

abbrev pub star : IsSeparator c.Star (codes "*")
star = (refl, λ d. refl, λ p. refl)

-- terms

-- a bracket with a term in it
abbrev BracketMeets : ℕ → Type 0
BracketMeets d = (ts : List Token) (s : Stack) → Meets (Read spell_factor ts) (run (fixed c.Open ∷ a_term ++ fixed c.Close ∷ s) d ts) s d (bracketed_at d ts)

factor_by-meets : (d : ℕ) → BracketMeets d → (k : Class) (ts : List Token) (s : Stack)
    → ahead ts ≡ k
    → Meets (Read spell_factor ts) (run (rule a_factor ∷ s) d ts) s d (factor_by (bracketed_at d) k ts)
factor_by-meets d h c.Number ts s e = enter _ (fixed c.Number ∷ s) d ts c.Number e refl (chain (literal-meets d ts s e) (λ n f. so f))
factor_by-meets d h c.Share ts s e = enter _ (fixed c.Share ∷ s) d ts c.Share e refl (chain (place-meets c.Share d d ts s refl refl e) (λ p f. so f))
factor_by-meets d h c.Name ts s e = enter _ (fixed c.Name ∷ s) d ts c.Name e refl (chain (word-meets d ts s e) (λ w f. so f))
factor_by-meets d h k ts s e = enter _ (fixed c.Open ∷ a_term ++ fixed c.Close ∷ s) d ts k e refl (h ts s)

factor-meets : (d : ℕ) → BracketMeets d → (ts : List Token) (s : Stack)
    → Meets (Read spell_factor ts) (run (rule a_factor ∷ s) d ts) s d (read_factor (bracketed_at d) ts)
factor-meets d h ts s = factor_by-meets d h (ahead ts) ts s refl

pub factors-spelled : (fs : List TimesTree) (ts : List Token)
    → spell_more (codes "*") spell_factor fs ts ≡ spell_factors (factors_of fs) ts
factors-spelled [] ts = refl
factors-spelled (f ∷ fs) ts = ap (λ l. symbol (codes "*") f.0 ∷ spell_factor f.1 l) (factors-spelled fs ts)

product_from-meets : (d : ℕ) → BracketMeets d
    → (f : FactorTree) (ts : List Token) (s : Stack) (all : List Token) → all ≡ spell_factor f ts
    → Meets (Read spell_product all) (run (rule more_factors ∷ s) d ts) s d (read_product_from (bracketed_at d) f ts)
product_from-meets d h f ts s all a =
    chain (more-meets c.Star (codes "*") d ts star (lead (rule more_factors ∷ s) (fixed c.Star ∷ a_product ++ s) s (a_product ++ s) c.Star (λ k. refl) (λ k. refl))
    (takes-keeps (read_factor (bracketed_at d)) (factor-takes d)) (λ us. factor-meets d h us (rule more_factors ∷ s))) (λ fs g.
    so (a ∙ ap (spell_factor f) (g ∙ factors-spelled fs.0 fs.1)))

product-meets : (d : ℕ) → BracketMeets d → (ts : List Token) (s : Stack)
    → Meets (Read spell_product ts) (run (a_product ++ s) d ts) s d (read_product (bracketed_at d) ts)
product-meets d h ts s =
    chain (factor-meets d h ts (rule more_factors ∷ s)) (λ f g. product_from-meets d h f.0 f.1 s ts g)

sign_by-meets : (d : ℕ) (k : Class) (ts : List Token) (s : Stack) → ahead ts ≡ k
    → Meets (λ g rest. ts ≡ symbol (sign_text g.0) g.1 ∷ rest) (run (rule a_sign ∷ s) d ts) s d (sign_by k ts)
sign_by-meets d c.Plus ts s e = enter _ (fixed c.Plus ∷ s) d ts c.Plus e refl (chain (place-meets c.Plus d d ts s refl refl e) (λ p f. so f))
sign_by-meets d c.Minus ts s e = enter _ (fixed c.Minus ∷ s) d ts c.Minus e refl (chain (place-meets c.Minus d d ts s refl refl e) (λ p f. so f))
sign_by-meets d k ts s e = refuse (rule a_sign ∷ s) d ts (ap (next (rule a_sign ∷ s)) e)

abbrev pub spell_addend : Spells AddendTree
spell_addend a ts = symbol (sign_text a.sign) a.place ∷ spell_product a.product ts

pub products-spelled : (ms : List AddendTree) (ts : List Token)
    → spell_all spell_addend ms ts ≡ spell_products (products_of ms) ts
products-spelled [] ts = refl
products-spelled (m ∷ ms) ts = ap (spell_addend m) (products-spelled ms ts)

addend-meets : (d : ℕ) → BracketMeets d → (ts : List Token) (s : Stack)
    → Meets (Read spell_addend ts) (run (rule a_sign ∷ a_product ++ s) d ts) s d (read_addend (bracketed_at d) ts)
addend-meets d h ts s =
    chain (sign_by-meets d (ahead ts) ts (a_product ++ s) refl) (λ g f.
    chain (product-meets d h g.1 s) (λ m i. so (f ∙ ap (λ l. symbol (sign_text g.0.0) g.0.1 ∷ l) i)))

sign-enters : (s : Stack) (k : Class) → is_sign k ≡ true
    → next (rule more_products ∷ s) k ≡ next (rule a_sign ∷ a_product ++ rule more_products ∷ s) k
sign-enters s c.Plus b = refl
sign-enters s c.Minus b = refl
sign-enters s k b = absurd cc

sign-leaves : (s : Stack) (k : Class) → is_sign k ≡ false
    → next (rule more_products ∷ s) k ≡ next s k
sign-leaves s c.Plus b = absurd cc
sign-leaves s c.Minus b = absurd cc
sign-leaves s k b = refl

-- behind a term's first factor
pub term_from-meets-with : (d : ℕ) → BracketMeets d
    → (minus : Option Place) (f : FactorTree) (ts : List Token) (s : Stack) (all : List Token)
    → all ≡ spell_option spell_minus minus (spell_factor f ts)
    → Meets (Read spell_term all) (run (the_rest_of_a_term ++ s) d ts) s d (read_term_from (bracketed_at d) minus f ts)
term_from-meets-with d h minus f ts s all a =
    chain (product_from-meets d h f ts (rule more_products ∷ s) (spell_factor f ts) refl) (λ m g.
    chain (while-meets d m.1 (record { enters = sign-enters s; leaves = sign-leaves s }) (addend-takes d) (λ b. absurd cc) (λ us. addend-meets d h us (rule more_products ∷ s))) (λ more i.
    so (a ∙ ap (spell_option spell_minus minus) (g ∙ ap (spell_product m.0) (i ∙ products-spelled more.0 more.1)))))

term-meets-with : (d : ℕ) → BracketMeets d → IsMet a_term spell_term d (read_term d)
term-meets-with d h ts s =
    chain (optional-meets next_place d ts
    (lead (a_term ++ s) (fixed c.Minus ∷ rule a_factor ∷ the_rest_of_a_term ++ s) (rule a_factor ∷ the_rest_of_a_term ++ s) (rule a_factor ∷ the_rest_of_a_term ++ s) c.Minus (λ k. refl) (λ k. refl))
    (λ b. place-meets c.Minus d d ts (rule a_factor ∷ the_rest_of_a_term ++ s) refl refl (this-token c.Minus ts b))) (λ minus f.
    chain (factor-meets d h minus.1 (the_rest_of_a_term ++ s)) (λ g i.
    term_from-meets-with d h minus.0 g.0 g.1 s ts (f ∙ ap (spell_option spell_minus minus.0) i)))

bracketed-meets : (d : ℕ) → BracketMeets d
bracketed-meets zero ts s = no_room-meets c.Open ts (a_term ++ fixed c.Close ∷ s) s 0 refl refl
bracketed-meets (suc d) ts s =
    chain (expect-meets c.Open (suc d) d ts (a_term ++ fixed c.Close ∷ s) refl refl) (λ p f.
    chain (term-meets-with d (bracketed-meets d) p.1 (fixed c.Close ∷ s)) (λ t g.
    chain (expect-meets c.Close d (suc d) t.1 s refl refl) (λ q i. so (rw (f, g, i)))))

pub term-meets : (d : ℕ) → IsMet a_term spell_term d (read_term d)
term-meets d = term-meets-with d (bracketed-meets d)

pub term_from-meets : (d : ℕ) (w : Word) (ts : List Token) (s : Stack) (all : List Token)
    → all ≡ name w ∷ ts
    → Meets (Read spell_term all) (run (the_rest_of_a_term ++ s) d ts) s d (read_term_from (bracketed_at d) None (named w) ts)
term_from-meets d w ts s all a = term_from-meets-with d (bracketed-meets d) None (named w) ts s all a

relation_by-meets : (d : ℕ) (k : Class) (ts : List Token) (s : Stack) → ahead ts ≡ k
    → Meets (λ r rest. ts ≡ symbol (relation_text r.0) r.1 ∷ rest) (run (rule a_relation ∷ s) d ts) s d (relation_by k ts)
relation_by-meets d c.Equal ts s e = enter _ (fixed c.Equal ∷ s) d ts c.Equal e refl (chain (place-meets c.Equal d d ts s refl refl e) (λ p f. so f))
relation_by-meets d c.Unequal ts s e = enter _ (fixed c.Unequal ∷ s) d ts c.Unequal e refl (chain (place-meets c.Unequal d d ts s refl refl e) (λ p f. so f))
relation_by-meets d c.Less ts s e = enter _ (fixed c.Less ∷ s) d ts c.Less e refl (chain (place-meets c.Less d d ts s refl refl e) (λ p f. so f))
relation_by-meets d c.AtMost ts s e = enter _ (fixed c.AtMost ∷ s) d ts c.AtMost e refl (chain (place-meets c.AtMost d d ts s refl refl e) (λ p f. so f))
relation_by-meets d c.Greater ts s e = enter _ (fixed c.Greater ∷ s) d ts c.Greater e refl (chain (place-meets c.Greater d d ts s refl refl e) (λ p f. so f))
relation_by-meets d c.AtLeast ts s e = enter _ (fixed c.AtLeast ∷ s) d ts c.AtLeast e refl (chain (place-meets c.AtLeast d d ts s refl refl e) (λ p f. so f))
relation_by-meets d k ts s e = refuse (rule a_relation ∷ s) d ts (ap (next (rule a_relation ∷ s)) e)

pub comparison_from-meets : (d : ℕ) (left : TermTree) (ts : List Token) (s : Stack) (all : List Token)
    → all ≡ spell_term left ts
    → Meets (Read spell_comparison all) (run (rule a_relation ∷ a_term ++ s) d ts) s d (read_comparison_from d left ts)
comparison_from-meets d left ts s all a =
    chain (relation_by-meets d (ahead ts) ts (a_term ++ s) refl) (λ r f.
    chain (term-meets d r.1 s) (λ right g. so (a ∙ ap (spell_term left) (f ∙ ap (λ l. symbol (relation_text r.0.0) r.0.1 ∷ l) g))))

pub comparison-meets : (d : ℕ) → IsMet a_comparison spell_comparison d (read_comparison d)
comparison-meets d ts s =
    chain (term-meets d ts (rule a_relation ∷ a_term ++ s)) (λ left f. comparison_from-meets d left.0 left.1 s ts f)

slot_by-meets : (d : ℕ) (k : Class) (ts : List Token) (s : Stack) → ahead ts ≡ k
    → Meets (Read spell_slot ts) (run (rule a_slot ∷ s) d ts) s d (slot_by d k ts)
slot_by-meets d c.Wildcard ts s e = enter _ (fixed c.Wildcard ∷ s) d ts c.Wildcard e refl (chain (place-meets c.Wildcard d d ts s refl refl e) (λ p f. so f))
slot_by-meets d k ts s e = enter _ (a_term ++ s) d ts k e refl (chain (term-meets d ts s) (λ t f. so f))

pub slot-meets : (d : ℕ) → IsMet (rule a_slot ∷ []) spell_slot d (read_slot d)
slot-meets d ts s = slot_by-meets d (ahead ts) ts s refl
