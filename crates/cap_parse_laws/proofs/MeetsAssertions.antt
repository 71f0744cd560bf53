-- The automaton goes along with the readers of guards and assertions.
use Rattle.std.proofs.Common.{◌≡◌, ℕ, zero, suc, true, List, [], ◌∷◌, ◌++◌, Some, refl, ap, ◌∙◌, codes}
use Rattle.cap_syntax.specs.declared.place.Place.{Place}
use Rattle.cap_syntax.specs.declared.token.Token.{Token}
use Rattle.cap_parse_tree.specs.declared.word.Word.{Word}
use Rattle.cap_parse_tree.specs.declared.assertion.Counted.{Counted}
use Rattle.cap_parse_tree.specs.declared.assertion.Counted.TheVariants.{Source, Tokens, At, From}
use Rattle.cap_parse_tree.specs.Tree.{TermTree, ComparisonTree}
use Rattle.cap_parse_tree.specs.Tokens.{name, keyword, symbol}
use Rattle.cap_parse_tree.specs.Spelling.{spell_more, spell_term, spell_comparison, counted_text, spell_guard, spell_guards, spell_held, spell_item, spell_items, spell_assertion, spell_side, spell_clause}
use Rattle.cap_parse_tree.specs.Views.{AndTree, items_of}
use Rattle.cap_parse_laws.specs.declared.class.Class.{Class}
use Rattle.cap_parse_laws.specs.declared.class.Class.TheVariants as c
use Rattle.cap_parse_laws.specs.Readers.{ahead}
use Rattle.cap_parse_laws.specs.Grammar.{read_slot, amount_by, read_counted, guard_by, read_guard, read_guards, held_by, choice_by, item_from_by, read_fact, named_item_by, item_by, read_item, side_at, read_assertion, read_clause}
use Rattle.cap_parse_laws.specs.Laws.Taking.{takes-keeps, slot-takes, guard-takes, item-takes}
use Rattle.cap_parse_laws.proofs.Shapes.{plain, is_plain, room_after}
use Rattle.cap_parse_laws.proofs.Automaton.{fixed, rule, a_relation, a_slot, a_guard, may_amount, more_guards, a_held, an_item, named_item, item_rest, may_choose, more_items, slots, Stack, the_rest_of_a_term, a_term, some_guards, an_assertion, a_side, a_clause, counted_guard, next, run}
use Rattle.cap_parse_laws.proofs.Meets.{Meets, so, chain, enter, refuse, place-meets, word-meets, expect-meets, name-meets, no_room-meets, opened, Read, IsMet, lead, more-meets, several-meets, comma}
use Rattle.cap_parse_laws.proofs.MeetsTerms.{star, term-meets, term_from-meets, comparison_from-meets, slot-meets}

amount_by-meets : (d : ℕ) (w : Word) (k : Class) (ts : List Token) (s : Stack) (all : List Token)
    → all ≡ name w ∷ ts → ahead ts ≡ k
    → Meets (Read spell_guard all) (run (rule may_amount ∷ s) d ts) s d (amount_by d w k ts)
amount_by-meets d w c.OpenBracket ts s all a e =
    enter _ (fixed c.OpenBracket ∷ rule a_slot ∷ fixed c.CloseBracket ∷ s) d ts c.OpenBracket e refl
    (opened c.OpenBracket d ts (rule a_slot ∷ fixed c.CloseBracket ∷ s) refl (λ n. refl) (λ o f.
    chain (slot-meets o.0.0 o.1 (fixed c.CloseBracket ∷ s)) (λ x g.
    chain (expect-meets c.CloseBracket o.0.0 (suc o.0.0) x.1 s refl refl) (λ q i. so (rw (a, f, g, i))))))
amount_by-meets d w k ts s all a e = enter (rule may_amount ∷ s) s d ts k e refl (so a)

counted-meets : (d : ℕ) (key : Class) (kind : Counted) (ts : List Token) (s : Stack)
    → is_plain key ≡ true → room_after d key ≡ Some d
    → ((p : Place) → plain key p ≡ keyword (counted_text kind) p) → ahead ts ≡ key
    → Meets (Read spell_guard ts) (run (fixed key ∷ counted_guard ++ s) d ts) s d (read_counted d kind ts)
counted-meets d key kind ts s n r t e =
    chain (place-meets key d d ts (counted_guard ++ s) n r e) (λ p f.
    chain (name-meets d p.1 (fixed c.OpenBracket ∷ rule a_slot ∷ fixed c.CloseBracket ∷ s)) (λ w g.
    opened c.OpenBracket d w.1 (rule a_slot ∷ fixed c.CloseBracket ∷ s) refl (λ n. refl) (λ o i.
    chain (slot-meets o.0.0 o.1 (fixed c.CloseBracket ∷ s)) (λ x j.
    chain (expect-meets c.CloseBracket o.0.0 (suc o.0.0) x.1 s refl refl) (λ q l. so (rw (f, g, i, j, l, t p.0)))))))

guard_by-meets : (d : ℕ) (k : Class) (ts : List Token) (s : Stack) → ahead ts ≡ k
    → Meets (Read spell_guard ts) (run (rule a_guard ∷ s) d ts) s d (guard_by d k ts)
guard_by-meets d c.Name ts s e =
    enter _ (fixed c.Name ∷ rule may_amount ∷ s) d ts c.Name e refl
    (chain (word-meets d ts (rule may_amount ∷ s) e) (λ w f. amount_by-meets d w.0 (ahead w.1) w.1 s ts f refl))
guard_by-meets d c.Source ts s e =
    enter _ (fixed c.Source ∷ counted_guard ++ s) d ts c.Source e refl (counted-meets d c.Source Source ts s refl refl (λ p. refl) e)
guard_by-meets d c.Tokens ts s e =
    enter _ (fixed c.Tokens ∷ counted_guard ++ s) d ts c.Tokens e refl (counted-meets d c.Tokens Tokens ts s refl refl (λ p. refl) e)
guard_by-meets d c.AtIndex ts s e =
    enter _ (fixed c.AtIndex ∷ counted_guard ++ s) d ts c.AtIndex e refl (counted-meets d c.AtIndex At ts s refl refl (λ p. refl) e)
guard_by-meets d c.FromIndex ts s e =
    enter _ (fixed c.FromIndex ∷ counted_guard ++ s) d ts c.FromIndex e refl (counted-meets d c.FromIndex From ts s refl refl (λ p. refl) e)
guard_by-meets d k ts s e = refuse (rule a_guard ∷ s) d ts (ap (next (rule a_guard ∷ s)) e)

guard-meets : (d : ℕ) → IsMet (rule a_guard ∷ []) spell_guard d (read_guard d)
guard-meets d ts s = guard_by-meets d (ahead ts) ts s refl

pub guards-meets : (d : ℕ) → IsMet some_guards spell_guards d (read_guards d)
guards-meets d ts s =
    several-meets c.Star (codes "*") d ts star
    (lead (rule more_guards ∷ s) (fixed c.Star ∷ some_guards ++ s) s (some_guards ++ s) c.Star (λ k. refl) (λ k. refl))
    (takes-keeps (read_guard d) (guard-takes d)) (λ us. guard-meets d us (rule more_guards ∷ s))

held_by-meets : (d : ℕ) (k : Class) (ts : List Token) (s : Stack) → ahead ts ≡ k
    → Meets (Read spell_held ts) (run (rule a_held ∷ s) d ts) s d (held_by d k ts)
held_by-meets d c.Open ts s e =
    enter _ (fixed c.Open ∷ some_guards ++ fixed c.Close ∷ s) d ts c.Open e refl
    (opened c.Open d ts (some_guards ++ fixed c.Close ∷ s) refl (λ n. refl) (λ o f.
    chain (guards-meets o.0.0 o.1 (fixed c.Close ∷ s)) (λ g i.
    chain (expect-meets c.Close o.0.0 (suc o.0.0) g.1 s refl refl) (λ q j. so (rw (f, i, j))))))
held_by-meets d k ts s e = enter _ (some_guards ++ s) d ts k e refl (chain (guards-meets d ts s) (λ g f. so f))

-- a side in braces
abbrev SideMeets : ℕ → Type 0
SideMeets d = IsMet a_side spell_side d (side_at d)

choice_by-meets : (d : ℕ) → SideMeets d
    → (x : ComparisonTree) (k : Class) (ts : List Token) (s : Stack) (all : List Token)
    → all ≡ spell_comparison x ts → ahead ts ≡ k
    → Meets (Read spell_item all) (run (rule may_choose ∷ s) d ts) s d (choice_by (side_at d) x k ts)
choice_by-meets d h x c.Question ts s all a e =
    enter _ (fixed c.Question ∷ a_side ++ fixed c.Colon ∷ a_side ++ s) d ts c.Question e refl
    (chain (place-meets c.Question d d ts (a_side ++ fixed c.Colon ∷ a_side ++ s) refl refl e) (λ p f.
    chain (h p.1 (fixed c.Colon ∷ a_side ++ s)) (λ y g.
    chain (expect-meets c.Colon d d y.1 (a_side ++ s) refl refl) (λ q i.
    chain (h q.1 s) (λ z j. so (rw (a, f, g, i, j)))))))
choice_by-meets d h x k ts s all a e = enter (rule may_choose ∷ s) s d ts k e refl (so a)

item_from_by-meets : (d : ℕ) → SideMeets d
    → (t : TermTree) (k : Class) (ts : List Token) (s : Stack) (all : List Token)
    → all ≡ spell_term t ts → ahead ts ≡ k
    → Meets (Read spell_item all) (run (rule item_rest ∷ s) d ts) s d (item_from_by (side_at d) d t k ts)
item_from_by-meets d h t c.PointsTo ts s all a e =
    enter _ (fixed c.PointsTo ∷ rule a_slot ∷ s) d ts c.PointsTo e refl
    (chain (place-meets c.PointsTo d d ts (rule a_slot ∷ s) refl refl e) (λ p f.
    chain (slot-meets d p.1 s) (λ x g. so (rw (a, f, g)))))
item_from_by-meets d h t k ts s all a e =
    enter _ (rule a_relation ∷ a_term ++ rule may_choose ∷ s) d ts k e refl
    (chain (comparison_from-meets d t ts (rule may_choose ∷ s) all a) (λ x f.
    choice_by-meets d h x.0 (ahead x.1) x.1 s all f refl))

fact-meets : (d : ℕ) (w : Word) (ts : List Token) (s : Stack) (all : List Token) → all ≡ name w ∷ ts
    → Meets (Read spell_item all) (run (fixed c.Open ∷ fixed c.Name ∷ rule slots ∷ rule a_slot ∷ fixed c.Close ∷ s) d ts) s d (read_fact d w ts)
fact-meets d w ts s all a =
    let u : Stack = rule a_slot ∷ fixed c.Close ∷ s in
    opened c.Open d ts (fixed c.Name ∷ rule slots ∷ u) refl (λ n. refl) (λ o f.
    chain (name-meets o.0.0 o.1 (rule slots ∷ u)) (λ r g.
    chain (more-meets c.Comma (codes ",") o.0.0 r.1 comma (lead (rule slots ∷ u) (fixed c.Comma ∷ rule a_slot ∷ rule slots ∷ u) (fixed c.Semicolon ∷ u) (rule a_slot ∷ rule slots ∷ u) c.Comma (λ k. refl) (λ k. refl))
    (takes-keeps (read_slot o.0.0) (slot-takes o.0.0)) (λ us. slot-meets o.0.0 us (rule slots ∷ u))) (λ arguments i.
    chain (expect-meets c.Semicolon o.0.0 o.0.0 arguments.1 u refl refl) (λ q j.
    chain (slot-meets o.0.0 q.1 (fixed c.Close ∷ s)) (λ x l.
    chain (expect-meets c.Close o.0.0 (suc o.0.0) x.1 s refl refl) (λ e m.
    so (rw (a, f, g, i, j, l, m))))))))

named_item_by-meets : (d : ℕ) → SideMeets d
    → (w : Word) (k : Class) (ts : List Token) (s : Stack) (all : List Token) → all ≡ name w ∷ ts
    → ahead ts ≡ k
    → Meets (Read spell_item all) (run (rule named_item ∷ s) d ts) s d (named_item_by (side_at d) d w k ts)
named_item_by-meets d h w c.Open ts s all a e =
    enter _ (fixed c.Open ∷ fixed c.Name ∷ rule slots ∷ rule a_slot ∷ fixed c.Close ∷ s) d ts c.Open e refl (fact-meets d w ts s all a)
named_item_by-meets d h w c.At ts s all a e =
    enter _ (fixed c.At ∷ rule a_held ∷ s) d ts c.At e refl
    (chain (place-meets c.At d d ts (rule a_held ∷ s) refl refl e) (λ p f.
    chain (held_by-meets d (ahead p.1) p.1 s refl) (λ g i. so (rw (a, f, i)))))
named_item_by-meets d h w k ts s all a e =
    enter _ (the_rest_of_a_term ++ rule item_rest ∷ s) d ts k e refl
    (chain (term_from-meets d w ts (rule item_rest ∷ s) all a) (λ t f.
    item_from_by-meets d h t.0 (ahead t.1) t.1 s all f refl))

item_by-meets : (d : ℕ) → SideMeets d → (k : Class) (ts : List Token) (s : Stack) → ahead ts ≡ k
    → Meets (Read spell_item ts) (run (rule an_item ∷ s) d ts) s d (item_by (side_at d) d k ts)
item_by-meets d h c.True ts s e = enter _ (fixed c.True ∷ s) d ts c.True e refl (chain (place-meets c.True d d ts s refl refl e) (λ p f. so f))
item_by-meets d h c.False ts s e = enter _ (fixed c.False ∷ s) d ts c.False e refl (chain (place-meets c.False d d ts s refl refl e) (λ p f. so f))
item_by-meets d h c.Name ts s e =
    enter _ (fixed c.Name ∷ rule named_item ∷ s) d ts c.Name e refl
    (chain (word-meets d ts (rule named_item ∷ s) e) (λ w f. named_item_by-meets d h w.0 (ahead w.1) w.1 s ts f refl))
item_by-meets d h k ts s e =
    enter _ (a_term ++ rule item_rest ∷ s) d ts k e refl
    (chain (term-meets d ts (rule item_rest ∷ s)) (λ t f. item_from_by-meets d h t.0 (ahead t.1) t.1 s ts f refl))

pub items-spelled : (more : List AndTree) (ts : List Token)
    → spell_more (codes "&*&") spell_item more ts ≡ spell_items (items_of more) ts
items-spelled [] ts = refl
items-spelled (i ∷ more) ts = ap (λ l. symbol (codes "&*&") i.0 ∷ spell_item i.1 l) (items-spelled more ts)

assertion-meets-with : (d : ℕ) → SideMeets d
    → IsMet an_assertion spell_assertion d (read_assertion d)
assertion-meets-with d h ts s =
    chain (item_by-meets d h (ahead ts) ts (rule more_items ∷ s) refl) (λ i f.
    chain (more-meets c.And (codes "&*&") d i.1 (refl, λ d. refl, λ p. refl)
    (lead (rule more_items ∷ s) (fixed c.And ∷ an_assertion ++ s) s (an_assertion ++ s) c.And (λ k. refl) (λ k. refl))
    (takes-keeps (read_item (side_at d) d) (item-takes d)) (λ us. item_by-meets d h (ahead us) us (rule more_items ∷ s) refl)) (λ more g.
    so (f ∙ ap (spell_item i.0) (g ∙ items-spelled more.0 more.1))))

side-meets : (d : ℕ) → SideMeets d
side-meets zero ts s = no_room-meets c.OpenBrace ts (an_assertion ++ fixed c.CloseBrace ∷ s) s 0 refl refl
side-meets (suc d) ts s =
    chain (expect-meets c.OpenBrace (suc d) d ts (an_assertion ++ fixed c.CloseBrace ∷ s) refl refl) (λ p f.
    chain (assertion-meets-with d (side-meets d) p.1 (fixed c.CloseBrace ∷ s)) (λ a g.
    chain (expect-meets c.CloseBrace d (suc d) a.1 s refl refl) (λ q i. so (rw (f, g, i)))))

pub assertion-meets : (d : ℕ) → IsMet an_assertion spell_assertion d (read_assertion d)
assertion-meets d = assertion-meets-with d (side-meets d)

pub clause-meets : (d : ℕ) (key : Class) (text : List ℕ) (ts : List Token) (s : Stack)
    → is_plain key ≡ true → room_after d key ≡ Some d
    → ((p : Place) → plain key p ≡ keyword text p)
    → Meets (Read (spell_clause text) ts) (run (a_clause key ++ s) d ts) s d (read_clause d key ts)
clause-meets d key text ts s n r t =
    chain (expect-meets key d d ts (an_assertion ++ fixed c.Semicolon ∷ s) n r) (λ p f.
    chain (assertion-meets d p.1 (fixed c.Semicolon ∷ s)) (λ a g.
    chain (expect-meets c.Semicolon d d a.1 s refl refl) (λ e i. so (rw (f, g, i, t p.0)))))
