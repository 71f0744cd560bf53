-- No list in the program of a tree has more members than the tree has tokens.
use Rattle.std.proofs.Common.{◌≡◌, ℕ, ◌+◌, ◌<◌, ◌≤◌, codes, List, [], ◌∷◌, ◌++◌, map, length, Option, Some, None, arith}
use Rattle.std.specs.List.{AllByRecursion}
use Rattle.std.proofs.lemmas.List.{length-map}
use Rattle.cap_syntax.specs.declared.place.Place.{Place}
use Rattle.cap_syntax.specs.declared.token.Token.{Token}
use Rattle.cap_prog.specs.Program.{PlainItem, Items, none, item, append_items}
use Rattle.cap_prog.specs.Parts.{all_items, sides, items_length}
use Rattle.cap_prog.specs.WellFormed.{most_members}
use Rattle.cap_parse_tree.specs.declared.word.Word.{Word}
use Rattle.cap_parse_tree.specs.Tree.{Several, parts_of, InBraces, literal, whole_share, named, bracketed, product, FactorTrees, no_factor, times, term, ProductTrees, no_product, signed, any, is, GuardTree, alone, amount, count, HeldTree, bare, in_parentheses, ItemTree, holds, fails, fact, guards, cell, compare, choose, ItemTrees, no_item, and_item, AssertionTree, assertion, SideTree, side, ClauseTree, RegionTree}
use Rattle.cap_parse_tree.specs.Tokens.{symbol}
use Rattle.cap_parse_tree.specs.Spelling.{Spells, spell_all, spell_behind, spell_more, spell_several, spell_option, spell_listed, spell_group, spell_name, spell_factor, spell_product, spell_factors, spell_term, spell_products, relation_text, spell_comparison, spell_slot, spell_guard, spell_held, spell_item, spell_items, spell_assertion, spell_side, spell_clause}
use Rattle.cap_resolve_spec.specs.Parts.{held_atoms}
use Rattle.cap_resolve_spec.specs.Names.{NameScope}
use Rattle.cap_resolve_spec.specs.Items.{NumberedRegion, TypedName, type_of}
use Rattle.cap_resolve_spec.specs.Program.{atoms_program, item_program, items_program, assertion_program, side_program, clause_program}
use Rattle.cap_resolve_spec.proofs.Every.{each_append}
use Rattle.cap_resolve_spec.proofs.Items.{all_items-append}
use Rattle.cap_resolve_spec.proofs.Regions.{ItemsShort}

-- each adds at least one token
abbrev pub Adds : {A : Type 0} → Spells A → Type 0
Adds {A} spell = (a : A) (ts : List Token) → length ts < length (spell a ts)

mutual
  factor-adds : Adds spell_factor
  factor-adds (literal n) ts = omega arith
  factor-adds (whole_share p) ts = omega arith
  factor-adds (named w) ts = omega arith
  factor-adds (bracketed p t q) ts = omega (arith, term-adds t (symbol (codes ")") q ∷ ts))

  product-adds : Adds spell_product
  product-adds (product f fs) ts = omega (arith, factor-adds f (spell_factors fs ts), factors-add fs ts)

  factors-add : (fs : FactorTrees) (ts : List Token) → length ts ≤ length (spell_factors fs ts)
  factors-add no_factor ts = omega arith
  factors-add (times p f fs) ts = omega (arith, factor-adds f (spell_factors fs ts), factors-add fs ts)

  pub term-adds : Adds spell_term
  term-adds (term None m ms) ts = omega (arith, product-adds m (spell_products ms ts), products-add ms ts)
  term-adds (term (Some p) m ms) ts = omega (arith, product-adds m (spell_products ms ts), products-add ms ts)

  products-add : (ms : ProductTrees) (ts : List Token) → length ts ≤ length (spell_products ms ts)
  products-add no_product ts = omega arith
  products-add (signed s p m ms) ts = omega (arith, product-adds m (spell_products ms ts), products-add ms ts)

pub comparison-adds : Adds spell_comparison
comparison-adds c ts = omega (arith, term-adds c.left (symbol (relation_text c.relation) c.place ∷ spell_term c.right ts), term-adds c.right ts)

pub slot-adds : Adds spell_slot
slot-adds (any p) ts = omega arith
slot-adds (is t) ts = term-adds t ts

pub guard-adds : Adds spell_guard
guard-adds (alone w) ts = omega arith
guard-adds (amount w p s q) ts = omega (arith, slot-adds s (symbol (codes "]") q ∷ ts))
guard-adds (count c k w p s q) ts = omega (arith, slot-adds s (symbol (codes "]") q ∷ ts))

pub name-adds : Adds spell_name
name-adds w ts = omega arith

-- lists of parts
pub all-add : {A : Type 0} (spell : Spells A) → Adds spell → (xs : List A) (ts : List Token) → length xs + length ts ≤ length (spell_all spell xs ts)
all-add spell h [] ts = omega arith
all-add spell h (x ∷ xs) ts = omega (arith, h x (spell_all spell xs ts), all-add spell h xs ts)

behind-adds : {A : Type 0} (separator : List ℕ) (spell : Spells A) → Adds spell → Adds (spell_behind separator spell)
behind-adds separator spell h a ts = omega (arith, h a.1 ts)

pub several-add : {A : Type 0} (separator : List ℕ) (spell : Spells A) → Adds spell → (s : Several A) (ts : List Token) → length (parts_of s) + length ts ≤ length (spell_several separator spell s ts)
several-add {A} separator spell h s ts =
    let n : length (map (λ (m : Place × A). m.1) s.more) ≡ length s.more = length-map s.more (λ (m : Place × A). m.1) in
    omega (arith, h s.first (spell_more separator spell s.more ts), all-add (spell_behind separator spell) (behind-adds separator spell h) s.more ts)

pub option-adds : {A : Type 0} (spell : Spells A) → Adds spell → (o : Option A) (ts : List Token) → length ts ≤ length (spell_option spell o ts)
option-adds spell h None ts = omega arith
option-adds spell h (Some a) ts = omega (arith, h a ts)

pub listed-adds : {A : Type 0} (spell : Spells A) → Adds spell → Adds (spell_listed spell)
listed-adds {A} spell h l ts = by l.parts
  where
    by : (o : Option (Several A)) → length ts < length (symbol (codes "(") l.before ∷ spell_option (spell_several (codes ",") spell) o (symbol (codes ")") l.behind ∷ ts))
    by None = omega arith
    by (Some s) = omega (arith, several-add (codes ",") spell h s (symbol (codes ")") l.behind ∷ ts))

pub group-add : {A : Type 0} (key : List ℕ) (spell : Spells A) → Adds spell → (g : InBraces A) (ts : List Token) → length g.parts + length ts ≤ length (spell_group key spell g ts)
group-add key spell h g ts = omega (arith, all-add spell h g.parts (symbol (codes "}") g.behind ∷ ts))

-- ---- assertions

held-add : (g : HeldTree) (ts : List Token) → length (held_atoms g) + length ts ≤ length (spell_held g ts)
held-add (bare g) ts = several-add (codes "*") spell_guard guard-adds g ts
held-add (in_parentheses p g q) ts = omega (arith, several-add (codes "*") spell_guard guard-adds g (symbol (codes ")") q ∷ ts))

atoms-count : (o : Option NumberedRegion) (scope : NameScope) (r : Word) (gs : List GuardTree) → items_length (atoms_program o scope r gs) ≤ length gs
atoms-count None scope r gs = omega arith
atoms-count (Some k) scope r [] = omega arith
atoms-count (Some k) scope r (g ∷ gs) = omega (arith, atoms-count (Some k) scope r gs)

append-count : (a b : Items) → items_length (append_items a b) ≡ items_length a + items_length b
append-count none b = omega arith
append-count (item i a) b = omega (arith, append-count a b)

mutual
  item-adds : (rs : List RegionTree) (types : List TypedName) (scope : NameScope) (i : ItemTree) (ts : List Token) → items_length (item_program rs types scope i) + length ts ≤ length (spell_item i ts)
  item-adds rs types scope (holds p) ts = omega arith
  item-adds rs types scope (fails p) ts = omega arith
  item-adds rs types scope (fact k p r args q s e) ts = omega (arith, all-add (spell_behind (codes ",") spell_slot) (behind-adds (codes ",") spell_slot slot-adds) args (symbol (codes ";") q ∷ spell_slot s (symbol (codes ")") e ∷ ts)), slot-adds s (symbol (codes ")") e ∷ ts))
  item-adds rs types scope (guards r p g) ts = omega (arith, atoms-count (type_of types r.text) scope r (held_atoms g), held-add g ts)
  item-adds rs types scope (cell t p s) ts = omega (arith, term-adds t (symbol (codes "|->") p ∷ spell_slot s ts), slot-adds s ts)
  item-adds rs types scope (compare c) ts = omega (arith, comparison-adds c ts)
  item-adds rs types scope (choose c p a q b) ts = omega (arith, comparison-adds c (symbol (codes "?") p ∷ spell_side a (symbol (codes ":") q ∷ spell_side b ts)), side-adds rs types scope a (symbol (codes ":") q ∷ spell_side b ts), side-adds rs types scope b ts)

  items-add : (rs : List RegionTree) (types : List TypedName) (scope : NameScope) (more : ItemTrees) (ts : List Token) → items_length (items_program rs types scope more) + length ts ≤ length (spell_items more ts)
  items-add rs types scope no_item ts = omega arith
  items-add rs types scope (and_item p i more) ts = omega (arith, append-count (item_program rs types scope i) (items_program rs types scope more), item-adds rs types scope i (spell_items more ts), items-add rs types scope more ts)

  pub assertion-adds : (rs : List RegionTree) (types : List TypedName) (scope : NameScope) (a : AssertionTree) (ts : List Token) → items_length (assertion_program rs types scope a) + length ts ≤ length (spell_assertion a ts)
  assertion-adds rs types scope (assertion i more) ts = omega (arith, append-count (item_program rs types scope i) (items_program rs types scope more), item-adds rs types scope i (spell_items more ts), items-add rs types scope more ts)

  side-adds : (rs : List RegionTree) (types : List TypedName) (scope : NameScope) (s : SideTree) (ts : List Token) → items_length (side_program rs types scope s) + length ts ≤ length (spell_side s ts)
  side-adds rs types scope (side p a q) ts = omega (arith, assertion-adds rs types scope a (symbol (codes "}") q ∷ ts))

-- the sides of items, at any depth, are short
abbrev ShortSides : PlainItem → Type 0
ShortSides i = AllByRecursion (λ s. items_length s ≤ most_members) (sides i)

abbrev AllShort : Items → Type 0
AllShort list = AllByRecursion ShortSides (all_items list)

atoms-short : (o : Option NumberedRegion) (scope : NameScope) (r : Word) (gs : List GuardTree) → AllShort (atoms_program o scope r gs)
atoms-short None scope r gs = tt
atoms-short (Some k) scope r [] = tt
atoms-short (Some k) scope r (g ∷ gs) = (tt, atoms-short (Some k) scope r gs)

mutual
  item-short : (rs : List RegionTree) (types : List TypedName) (scope : NameScope) (i : ItemTree) (ts : List Token) → length (spell_item i ts) ≤ most_members → AllShort (item_program rs types scope i)
  item-short rs types scope (holds p) ts h = tt
  item-short rs types scope (fails p) ts h = (tt, tt)
  item-short rs types scope (fact k p r args q s e) ts h = (tt, tt)
  item-short rs types scope (guards r p g) ts h = atoms-short (type_of types r.text) scope r (held_atoms g)
  item-short rs types scope (cell t p s) ts h = (tt, tt)
  item-short rs types scope (compare c) ts h = (tt, tt)
  item-short rs types scope (choose c p a q b) ts h =
      let x : length (spell_side a (symbol (codes ":") q ∷ spell_side b ts)) ≤ most_members = omega (arith, comparison-adds c (symbol (codes "?") p ∷ spell_side a (symbol (codes ":") q ∷ spell_side b ts))) in
      let y : length (spell_side b ts) ≤ most_members = omega (arith, side-adds rs types scope a (symbol (codes ":") q ∷ spell_side b ts)) in (
        (omega (arith, side-adds rs types scope a (symbol (codes ":") q ∷ spell_side b ts)), (omega (arith, side-adds rs types scope b ts), tt)),
        each_append ShortSides (all_items (side_program rs types scope a) ++ all_items (side_program rs types scope b)) []
            (each_append ShortSides (all_items (side_program rs types scope a)) (all_items (side_program rs types scope b)) (side-short rs types scope a (symbol (codes ":") q ∷ spell_side b ts) x) (side-short rs types scope b ts y)) tt,
      )

  items-short : (rs : List RegionTree) (types : List TypedName) (scope : NameScope) (more : ItemTrees) (ts : List Token) → length (spell_items more ts) ≤ most_members → AllShort (items_program rs types scope more)
  items-short rs types scope no_item ts h = tt
  items-short rs types scope (and_item p i more) ts h =
      let x : length (spell_item i (spell_items more ts)) ≤ most_members = omega arith in
      let y : length (spell_items more ts) ≤ most_members = omega (arith, item-adds rs types scope i (spell_items more ts)) in
      all_items-append ShortSides (item_program rs types scope i) (items_program rs types scope more) (item-short rs types scope i (spell_items more ts) x) (items-short rs types scope more ts y)

  assertion-short : (rs : List RegionTree) (types : List TypedName) (scope : NameScope) (a : AssertionTree) (ts : List Token) → length (spell_assertion a ts) ≤ most_members → AllShort (assertion_program rs types scope a)
  assertion-short rs types scope (assertion i more) ts h =
      let y : length (spell_items more ts) ≤ most_members = omega (arith, item-adds rs types scope i (spell_items more ts)) in
      all_items-append ShortSides (item_program rs types scope i) (items_program rs types scope more) (item-short rs types scope i (spell_items more ts) h) (items-short rs types scope more ts y)

  side-short : (rs : List RegionTree) (types : List TypedName) (scope : NameScope) (s : SideTree) (ts : List Token) → length (spell_side s ts) ≤ most_members → AllShort (side_program rs types scope s)
  side-short rs types scope (side p a q) ts h =
      let x : length (spell_assertion a (symbol (codes "}") q ∷ ts)) ≤ most_members = omega arith in
      assertion-short rs types scope a (symbol (codes "}") q ∷ ts) x

pub assertion-items : (rs : List RegionTree) (types : List TypedName) (scope : NameScope) (a : AssertionTree) (ts : List Token) → length (spell_assertion a ts) ≤ most_members → ItemsShort (assertion_program rs types scope a)
assertion-items rs types scope a ts h = record { length = omega (arith, assertion-adds rs types scope a ts); sides = assertion-short rs types scope a ts h }

pub clause-adds : (key : List ℕ) → Adds (spell_clause key)
clause-adds key c ts = omega (arith, assertion-adds [] [] [] c.assertion (symbol (codes ";") c.semicolon ∷ ts))

pub clause-items : (rs : List RegionTree) (types : List TypedName) (scope : NameScope) (key : List ℕ) (c : Option ClauseTree) (ts : List Token) → length (spell_option (spell_clause key) c ts) ≤ most_members → ItemsShort (clause_program rs types scope c)
clause-items rs types scope key None ts h = record { length = omega arith; sides = tt }
clause-items rs types scope key (Some c) ts h =
    let x : length (spell_assertion c.assertion (symbol (codes ";") c.semicolon ∷ ts)) ≤ most_members = omega arith in
    assertion-items rs types scope c.assertion (symbol (codes ";") c.semicolon ∷ ts) x
