-- Readers take tokens: what is left is shorter.
use Rattle.std.proofs.Common.{◌≡◌, ℕ, zero, suc, cond, not, ◌<◌, ◌≤◌, Bool, true, false, List, [], ◌∷◌, ◌++◌, length, None, Ok, Err, refl, sym, ap, ◌∙◌, arith, append_assoc}
use Rattle.cap_syntax.specs.declared.token.Token.{Token}
use Rattle.cap_parse_tree.specs.declared.word.Word.{Word}
use Rattle.cap_parse_tree.specs.declared.assertion.Counted.{Counted}
use Rattle.cap_parse_tree.specs.Tree.{FactorTree, TermTree, SideTree, BlockTree, StatementTree, DeclaredTree}
use Rattle.cap_parse_laws.specs.declared.class.Class.{Class}
use Rattle.cap_parse_laws.specs.declared.class.Class.TheVariants as c
use Rattle.cap_parse_laws.specs.Classes.{are_same}
use Rattle.cap_parse_laws.specs.Readers.{Fault, unexpected, Outcome, Reader, ◌>>=◌, ahead, next_place, next_word, next_literal, expect, read_name, read_number, no_room, read_opening, read_optional, read_at_most, read_while, read_behind, read_more, read_several, read_listed, read_group}
use Rattle.cap_parse_laws.specs.Grammar.{factor_by, read_factor, read_product_from, read_product, is_sign, sign_by, read_addend, read_term_from, read_term_with, bracketed_at, read_term, relation_by, read_comparison_from, read_comparison, slot_by, read_slot, amount_by, read_counted, guard_by, read_guard, read_guards, held_by, choice_by, item_from_by, read_fact, named_item_by, item_by, read_item, read_assertion_with, side_at, read_assertion, read_clause, read_terms, read_load, read_alloc, read_cas, read_faa, named_value_by, value_by, named_statement_by, read_store, read_fork, read_else, read_branch, read_loop, read_check, read_give_back, read_dispose, statement_by, read_statement, read_block_with, block_at, declared_by, read_declared, read_joint, read_algebra_with, grouped_at, read_algebra, read_when, read_optional_when, read_case, read_action, read_head, read_region_body, read_region, read_function, declaration_by, read_declaration}

-- fewer tokens are left than so many, if any part was read
pub record Leaves {A : Type 0} (n : ℕ) (r : Outcome A) : Type 0 where
  pub fewer : (a : A) (rest : List Token) → r ≡ Ok (a, rest) → length rest < n

-- at least one token is taken
abbrev pub Takes : {A : Type 0} → Reader A → Type 0
Takes read = (ts : List Token) → Leaves (length ts) (read ts)

-- no token is put back
abbrev pub Keeps : {A : Type 0} → Reader A → Type 0
Keeps read = (ts : List Token) → Leaves (suc (length ts)) (read ts)

leaves : {A : Type 0} {n : ℕ} {x : A × List Token} → length x.1 < n → Leaves n (Ok x)
leaves {x = x} h = record { fewer = λ a rest e. let f : x.1 ≡ rest = cc in omega (arith, h, ap length f) }

fails : {A : Type 0} {n : ℕ} {f : Fault} → Leaves {A = A} n (Err f)
fails = record { fewer = λ a rest e. cc }

-- one reader, then the next
then : {A B : Type 0} {n m : ℕ} {r : Outcome A} {k : A × List Token → Outcome B} → Leaves n r
    → ((x : A × List Token) → length x.1 < n → Leaves m (k x)) → Leaves m (r >>= k)
then {r = Ok x} h next = next x (h.fewer x.0 x.1 refl)
then {r = Err f} h next = fails

weaker : {A : Type 0} {n m : ℕ} {r : Outcome A} → n ≤ m → Leaves n r → Leaves m r
weaker l h = record { fewer = λ a rest e. omega (arith, l, h.fewer a rest e) }

pub takes-keeps : {A : Type 0} (read : Reader A) → Takes read → Keeps read
takes-keeps read h ts = weaker (omega arith) (h ts)

place-takes : Takes next_place
place-takes [] = fails
place-takes (t ∷ ts) = leaves (omega arith)

word-takes : Takes next_word
word-takes [] = fails
word-takes (t ∷ ts) = leaves (omega arith)

literal-takes : Takes next_literal
literal-takes [] = fails
literal-takes (t ∷ ts) = leaves (omega arith)

either : {A : Type 0} {n : ℕ} (b : Bool) {r s : Outcome A} → Leaves n r → Leaves n s
    → Leaves n (cond b r s)
either true h k = h
either false h k = k

pub expect-takes : (k : Class) → Takes (expect k)
expect-takes k ts = either (are_same k (ahead ts)) (place-takes ts) fails

pub name-takes : Takes read_name
name-takes ts = either (are_same c.Name (ahead ts)) (word-takes ts) fails

number-takes : Takes read_number
number-takes ts = either (are_same c.Number (ahead ts)) (literal-takes ts) fails

no_room-takes : {A : Type 0} (k : Class) → Takes {A = A} (no_room k)
no_room-takes k ts = either (are_same k (ahead ts)) fails fails

opening-takes : (room : ℕ) (k : Class) → Takes (read_opening room k)
opening-takes zero k ts = no_room-takes k ts
opening-takes (suc room) k ts = then (expect-takes k ts) (λ p h. leaves h)

optional-keeps : {A : Type 0} (begins : Class → Bool) (one : Reader A) → Keeps one
    → Keeps (read_optional begins one)
optional-keeps begins one h ts = either (begins (ahead ts)) (then (h ts) (λ a i. leaves i)) (leaves (omega arith))

pub at_most-keeps : {A : Type 0} (begins : Class → Bool) (one : Reader A) → Keeps one → (n : ℕ)
    → Keeps (read_at_most begins one n)
at_most-keeps begins one h zero ts = either (begins (ahead ts)) fails (leaves (omega arith))
at_most-keeps begins one h (suc n) ts =
    either (begins (ahead ts)) (then (h ts) (λ a i. then (at_most-keeps begins one h n a.1) (λ more j. leaves (omega (arith, i, j))))) (leaves (omega arith))

while-keeps : {A : Type 0} (begins : Class → Bool) (one : Reader A) → Keeps one
    → Keeps (read_while begins one)
while-keeps begins one h ts = at_most-keeps begins one h (length ts) ts

pub behind-takes : {A : Type 0} (k : Class) (one : Reader A) → Keeps one → Takes (read_behind k one)
behind-takes k one h ts = then (expect-takes k ts) (λ p i. then (h p.1) (λ a j. leaves (omega (arith, i, j))))

more-keeps : {A : Type 0} (k : Class) (one : Reader A) → Keeps one → Keeps (read_more k one)
more-keeps k one h = while-keeps (are_same k) (read_behind k one) (takes-keeps (read_behind k one) (behind-takes k one h))

several-takes : {A : Type 0} (k : Class) (one : Reader A) → Takes one → Takes (read_several k one)
several-takes k one h ts =
    then (h ts) (λ a i. then (more-keeps k one (takes-keeps one h) a.1) (λ more j. leaves (omega (arith, i, j))))

listed-takes : {A : Type 0} (room : ℕ) (one : ℕ → Reader A) → ((d : ℕ) → Takes (one d))
    → Takes (read_listed room one)
listed-takes room one h ts =
    then (opening-takes room c.Open ts) (λ o i.
    then (optional-keeps (λ a. not (are_same c.Close a)) (read_several c.Comma (one o.0.0)) (takes-keeps (read_several c.Comma (one o.0.0)) (several-takes c.Comma (one o.0.0) (h o.0.0))) o.1) (λ parts j.
    then (expect-takes c.Close parts.1) (λ q l. leaves (omega (arith, i, j, l)))))

group-takes : {A : Type 0} (room : ℕ) (k : Class) (one : ℕ → Reader A) → ((d : ℕ) → Keeps (one d))
    → Takes (read_group room k one)
group-takes room k one h ts =
    then (expect-takes k ts) (λ key i.
    then (opening-takes room c.OpenBrace key.1) (λ o j.
    then (while-keeps (λ a. not (are_same c.CloseBrace a)) (one o.0.0) (h o.0.0) o.1) (λ parts l.
    then (expect-takes c.CloseBrace parts.1) (λ q m. leaves (omega (arith, i, j, l, m))))))

-- terms

factor_by-takes : (bracket : Reader FactorTree) → Takes bracket → (k : Class)
    → Takes (factor_by bracket k)
factor_by-takes bracket h c.Number ts = then (literal-takes ts) (λ n i. leaves i)
factor_by-takes bracket h c.Share ts = then (place-takes ts) (λ p i. leaves i)
factor_by-takes bracket h c.Name ts = then (word-takes ts) (λ w i. leaves i)
factor_by-takes bracket h k ts = h ts

factor-takes-with : (bracket : Reader FactorTree) → Takes bracket → Takes (read_factor bracket)
factor-takes-with bracket h ts = factor_by-takes bracket h (ahead ts) ts

product_from-keeps : (bracket : Reader FactorTree) → Takes bracket → (f : FactorTree)
    → Keeps (read_product_from bracket f)
product_from-keeps bracket h f ts =
    then (more-keeps c.Star (read_factor bracket) (takes-keeps (read_factor bracket) (factor-takes-with bracket h)) ts) (λ fs i. leaves i)

product-takes : (bracket : Reader FactorTree) → Takes bracket → Takes (read_product bracket)
product-takes bracket h ts =
    then (factor-takes-with bracket h ts) (λ f i. weaker (omega (arith, i)) (product_from-keeps bracket h f.0 f.1))

sign_by-takes : (k : Class) → Takes (sign_by k)
sign_by-takes c.Plus ts = then (place-takes ts) (λ p i. leaves i)
sign_by-takes c.Minus ts = then (place-takes ts) (λ p i. leaves i)
sign_by-takes k ts = fails

addend-takes-with : (bracket : Reader FactorTree) → Takes bracket → Takes (read_addend bracket)
addend-takes-with bracket h ts =
    then (sign_by-takes (ahead ts) ts) (λ s i. then (product-takes bracket h s.1) (λ m j. leaves (omega (arith, i, j))))

term_from-keeps : (bracket : Reader FactorTree) → Takes bracket → (minus : _) (f : FactorTree)
    → Keeps (read_term_from bracket minus f)
term_from-keeps bracket h minus f ts =
    then (product_from-keeps bracket h f ts) (λ m i.
    then (while-keeps is_sign (read_addend bracket) (takes-keeps (read_addend bracket) (addend-takes-with bracket h)) m.1) (λ more j.
    leaves (omega (arith, i, j))))

term_with-takes : (bracket : Reader FactorTree) → Takes bracket → Takes (read_term_with bracket)
term_with-takes bracket h ts =
    then (optional-keeps (are_same c.Minus) next_place (takes-keeps next_place place-takes) ts) (λ minus i.
    then (factor-takes-with bracket h minus.1) (λ f j.
    weaker (omega (arith, i, j)) (term_from-keeps bracket h minus.0 f.0 f.1)))

bracketed-takes : (d : ℕ) → Takes (bracketed_at d)
bracketed-takes zero ts = no_room-takes c.Open ts
bracketed-takes (suc d) ts =
    then (expect-takes c.Open ts) (λ p i.
    then (term_with-takes (bracketed_at d) (bracketed-takes d) p.1) (λ t j.
    then (expect-takes c.Close t.1) (λ q l. leaves (omega (arith, i, j, l)))))

pub factor-takes : (d : ℕ) → Takes (read_factor (bracketed_at d))
factor-takes d = factor-takes-with (bracketed_at d) (bracketed-takes d)

pub addend-takes : (d : ℕ) → Takes (read_addend (bracketed_at d))
addend-takes d = addend-takes-with (bracketed_at d) (bracketed-takes d)

pub term-takes : (d : ℕ) → Takes (read_term d)
term-takes d = term_with-takes (bracketed_at d) (bracketed-takes d)

term-keeps : (d : ℕ) → Keeps (read_term d)
term-keeps d = takes-keeps (read_term d) (term-takes d)

relation_by-takes : (k : Class) → Takes (relation_by k)
relation_by-takes c.Equal ts = then (place-takes ts) (λ p i. leaves i)
relation_by-takes c.Unequal ts = then (place-takes ts) (λ p i. leaves i)
relation_by-takes c.Less ts = then (place-takes ts) (λ p i. leaves i)
relation_by-takes c.AtMost ts = then (place-takes ts) (λ p i. leaves i)
relation_by-takes c.Greater ts = then (place-takes ts) (λ p i. leaves i)
relation_by-takes c.AtLeast ts = then (place-takes ts) (λ p i. leaves i)
relation_by-takes k ts = fails

comparison_from-takes : (d : ℕ) (left : TermTree) → Takes (read_comparison_from d left)
comparison_from-takes d left ts =
    then (relation_by-takes (ahead ts) ts) (λ r i. then (term-takes d r.1) (λ t j. leaves (omega (arith, i, j))))

pub comparison-takes : (d : ℕ) → Takes (read_comparison d)
comparison-takes d ts =
    then (term-takes d ts) (λ left i. weaker (omega (arith, i)) (comparison_from-takes d left.0 left.1))

slot_by-takes : (d : ℕ) (k : Class) → Takes (slot_by d k)
slot_by-takes d c.Wildcard ts = then (place-takes ts) (λ p i. leaves i)
slot_by-takes d k ts = then (term-takes d ts) (λ t i. leaves i)

pub slot-takes : (d : ℕ) → Takes (read_slot d)
slot-takes d ts = slot_by-takes d (ahead ts) ts

-- assertions

amount_by-keeps : (d : ℕ) (w : Word) (k : Class) → Keeps (amount_by d w k)
amount_by-keeps d w c.OpenBracket ts =
    then (opening-takes d c.OpenBracket ts) (λ o i.
    then (slot-takes o.0.0 o.1) (λ s j.
    then (expect-takes c.CloseBracket s.1) (λ q l. leaves (omega (arith, i, j, l)))))
amount_by-keeps d w k ts = leaves (omega arith)

counted-takes : (d : ℕ) (kind : Counted) → Takes (read_counted d kind)
counted-takes d kind ts =
    then (place-takes ts) (λ p i.
    then (name-takes p.1) (λ w j.
    then (opening-takes d c.OpenBracket w.1) (λ o l.
    then (slot-takes o.0.0 o.1) (λ s m.
    then (expect-takes c.CloseBracket s.1) (λ q n. leaves (omega (arith, i, j, l, m, n)))))))

guard_by-takes : (d : ℕ) (k : Class) → Takes (guard_by d k)
guard_by-takes d c.Name ts =
    then (word-takes ts) (λ w i. weaker (omega (arith, i)) (amount_by-keeps d w.0 (ahead w.1) w.1))
guard_by-takes d c.Source ts = counted-takes d _ ts
guard_by-takes d c.Tokens ts = counted-takes d _ ts
guard_by-takes d c.AtIndex ts = counted-takes d _ ts
guard_by-takes d c.FromIndex ts = counted-takes d _ ts
guard_by-takes d k ts = fails

pub guard-takes : (d : ℕ) → Takes (read_guard d)
guard-takes d ts = guard_by-takes d (ahead ts) ts

guards-takes : (d : ℕ) → Takes (read_guards d)
guards-takes d = several-takes c.Star (read_guard d) (guard-takes d)

held_by-takes : (d : ℕ) (k : Class) → Takes (held_by d k)
held_by-takes d c.Open ts =
    then (opening-takes d c.Open ts) (λ o i.
    then (guards-takes o.0.0 o.1) (λ g j.
    then (expect-takes c.Close g.1) (λ q l. leaves (omega (arith, i, j, l)))))
held_by-takes d k ts = then (guards-takes d ts) (λ g i. leaves i)

choice_by-keeps : (sides : Reader SideTree) → Takes sides → (x : _) (k : Class)
    → Keeps (choice_by sides x k)
choice_by-keeps sides h x c.Question ts =
    then (place-takes ts) (λ p i.
    then (h p.1) (λ a j.
    then (expect-takes c.Colon a.1) (λ q l.
    then (h q.1) (λ b m. leaves (omega (arith, i, j, l, m))))))
choice_by-keeps sides h x k ts = leaves (omega arith)

item_from_by-takes : (sides : Reader SideTree) → Takes sides → (d : ℕ) (t : TermTree) (k : Class)
    → Takes (item_from_by sides d t k)
item_from_by-takes sides h d t c.PointsTo ts =
    then (place-takes ts) (λ p i. then (slot-takes d p.1) (λ s j. leaves (omega (arith, i, j))))
item_from_by-takes sides h d t k ts =
    then (comparison_from-takes d t ts) (λ x i. weaker (omega (arith, i)) (choice_by-keeps sides h x.0 (ahead x.1) x.1))

fact-takes : (d : ℕ) (w : Word) → Takes (read_fact d w)
fact-takes d w ts =
    then (opening-takes d c.Open ts) (λ o i.
    then (name-takes o.1) (λ r j.
    then (more-keeps c.Comma (read_slot o.0.0) (takes-keeps (read_slot o.0.0) (slot-takes o.0.0)) r.1) (λ arguments l.
    then (expect-takes c.Semicolon arguments.1) (λ q m.
    then (slot-takes o.0.0 q.1) (λ s n.
    then (expect-takes c.Close s.1) (λ e x. leaves (omega (arith, i, j, l, m, n, x))))))))

named_item_by-keeps : (sides : Reader SideTree) → Takes sides → (d : ℕ) (w : Word) (k : Class)
    → Keeps (named_item_by sides d w k)
named_item_by-keeps sides h d w c.Open ts = weaker (omega arith) (fact-takes d w ts)
named_item_by-keeps sides h d w c.At ts =
    then (place-takes ts) (λ p i. then (held_by-takes d (ahead p.1) p.1) (λ g j. leaves (omega (arith, i, j))))
named_item_by-keeps sides h d w k ts =
    then (term_from-keeps (bracketed_at d) (bracketed-takes d) None _ ts) (λ t i.
    weaker (omega (arith, i)) (item_from_by-takes sides h d t.0 (ahead t.1) t.1))

item_by-takes : (sides : Reader SideTree) → Takes sides → (d : ℕ) (k : Class)
    → Takes (item_by sides d k)
item_by-takes sides h d c.True ts = then (place-takes ts) (λ p i. leaves i)
item_by-takes sides h d c.False ts = then (place-takes ts) (λ p i. leaves i)
item_by-takes sides h d c.Name ts =
    then (word-takes ts) (λ w i. weaker (omega (arith, i)) (named_item_by-keeps sides h d w.0 (ahead w.1) w.1))
item_by-takes sides h d k ts =
    then (term-takes d ts) (λ t i. weaker (omega (arith, i)) (item_from_by-takes sides h d t.0 (ahead t.1) t.1))

item-takes-with : (sides : Reader SideTree) → Takes sides → (d : ℕ) → Takes (read_item sides d)
item-takes-with sides h d ts = item_by-takes sides h d (ahead ts) ts

assertion_with-takes : (sides : Reader SideTree) → Takes sides → (d : ℕ)
    → Takes (read_assertion_with sides d)
assertion_with-takes sides h d ts =
    then (item-takes-with sides h d ts) (λ x i.
    then (more-keeps c.And (read_item sides d) (takes-keeps (read_item sides d) (item-takes-with sides h d)) x.1) (λ more j.
    leaves (omega (arith, i, j))))

pub side-takes : (d : ℕ) → Takes (side_at d)
side-takes zero ts = no_room-takes c.OpenBrace ts
side-takes (suc d) ts =
    then (expect-takes c.OpenBrace ts) (λ p i.
    then (assertion_with-takes (side_at d) (side-takes d) d p.1) (λ a j.
    then (expect-takes c.CloseBrace a.1) (λ q l. leaves (omega (arith, i, j, l)))))

pub item-takes : (d : ℕ) → Takes (read_item (side_at d) d)
item-takes d = item-takes-with (side_at d) (side-takes d) d

assertion-takes : (d : ℕ) → Takes (read_assertion d)
assertion-takes d = assertion_with-takes (side_at d) (side-takes d) d

clause-takes : (d : ℕ) (k : Class) → Takes (read_clause d k)
clause-takes d k ts =
    then (expect-takes k ts) (λ key i.
    then (assertion-takes d key.1) (λ a j.
    then (expect-takes c.Semicolon a.1) (λ e l. leaves (omega (arith, i, j, l)))))

clause-keeps : (d : ℕ) (k : Class) → Keeps (read_clause d k)
clause-keeps d k = takes-keeps (read_clause d k) (clause-takes d k)

-- statements

terms-takes : (d : ℕ) → Takes (read_terms d)
terms-takes d = listed-takes d read_term term-takes

load-takes : (d : ℕ) → Takes (read_load d)
load-takes d ts =
    then (opening-takes d c.OpenBracket ts) (λ o i.
    then (term-takes o.0.0 o.1) (λ t j.
    then (expect-takes c.CloseBracket t.1) (λ q l. leaves (omega (arith, i, j, l)))))

alloc-takes : (d : ℕ) → Takes (read_alloc d)
alloc-takes d ts =
    then (place-takes ts) (λ p i.
    then (opening-takes d c.Open p.1) (λ o j.
    then (number-takes o.1) (λ n l.
    then (expect-takes c.Close n.1) (λ q m. leaves (omega (arith, i, j, l, m))))))

cas-takes : (d : ℕ) → Takes (read_cas d)
cas-takes d ts =
    then (place-takes ts) (λ p i1.
    then (opening-takes d c.Open p.1) (λ o i2.
    then (term-takes o.0.0 o.1) (λ a i3.
    then (expect-takes c.Comma a.1) (λ m i4.
    then (term-takes o.0.0 m.1) (λ e i5.
    then (expect-takes c.Comma e.1) (λ n i6.
    then (term-takes o.0.0 n.1) (λ f i7.
    then (expect-takes c.Close f.1) (λ q i8. leaves (omega (arith, i1, i2, i3, i4, i5, i6, i7, i8))))))))))

named_value_by-keeps : (d : ℕ) (w : Word) (k : Class) → Keeps (named_value_by d w k)
named_value_by-keeps d w c.Open ts = then (terms-takes d ts) (λ l i. leaves (omega (arith, i)))
named_value_by-keeps d w k ts = then (term_from-keeps (bracketed_at d) (bracketed-takes d) None _ ts) (λ t i. leaves i)

faa-takes : (d : ℕ) → Takes (read_faa d)
faa-takes d ts =
    then (place-takes ts) (λ p i1.
    then (opening-takes d c.Open p.1) (λ o i2.
    then (term-takes o.0.0 o.1) (λ a i3.
    then (expect-takes c.Comma a.1) (λ m i4.
    then (term-takes o.0.0 m.1) (λ e i5.
    then (expect-takes c.Close e.1) (λ q i6. leaves (omega (arith, i1, i2, i3, i4, i5, i6))))))))

value_by-takes : (d : ℕ) (k : Class) → Takes (value_by d k)
value_by-takes d c.OpenBracket ts = load-takes d ts
value_by-takes d c.Alloc ts = alloc-takes d ts
value_by-takes d c.Cas ts = cas-takes d ts
value_by-takes d c.Faa ts = faa-takes d ts
value_by-takes d c.Name ts =
    then (word-takes ts) (λ w i. weaker (omega (arith, i)) (named_value_by-keeps d w.0 (ahead w.1) w.1))
value_by-takes d k ts = then (term-takes d ts) (λ t i. leaves i)

named_statement_by-takes : (d : ℕ) (w : Word) (k : Class) → Takes (named_statement_by d w k)
named_statement_by-takes d w c.Becomes ts =
    then (place-takes ts) (λ p i.
    then (value_by-takes d (ahead p.1) p.1) (λ v j.
    then (expect-takes c.Semicolon v.1) (λ e l. leaves (omega (arith, i, j, l)))))
named_statement_by-takes d w c.Open ts =
    then (terms-takes d ts) (λ l i. then (expect-takes c.Semicolon l.1) (λ e j. leaves (omega (arith, i, j))))
named_statement_by-takes d w k ts = fails

store-takes : (d : ℕ) → Takes (read_store d)
store-takes d ts =
    then (opening-takes d c.OpenBracket ts) (λ o i1.
    then (term-takes o.0.0 o.1) (λ a i2.
    then (expect-takes c.CloseBracket a.1) (λ q i3.
    then (expect-takes c.Becomes q.1) (λ r i4.
    then (term-takes d r.1) (λ t i5.
    then (expect-takes c.Semicolon t.1) (λ e i6. leaves (omega (arith, i1, i2, i3, i4, i5, i6))))))))

fork-takes : (d : ℕ) → Takes (read_fork d)
fork-takes d ts =
    then (place-takes ts) (λ p i.
    then (name-takes p.1) (λ w j.
    then (terms-takes d w.1) (λ l m.
    then (expect-takes c.Semicolon l.1) (λ e n. leaves (omega (arith, i, j, m, n))))))

else-takes : (blocks : Reader BlockTree) → Takes blocks → Takes (read_else blocks)
else-takes blocks h ts = then (place-takes ts) (λ p i. then (h p.1) (λ b j. leaves (omega (arith, i, j))))

branch-takes : (blocks : Reader BlockTree) → Takes blocks → (d : ℕ) → Takes (read_branch blocks d)
branch-takes blocks h d ts =
    then (place-takes ts) (λ p i1.
    then (opening-takes d c.Open p.1) (λ o i2.
    then (comparison-takes o.0.0 o.1) (λ x i3.
    then (expect-takes c.Close x.1) (λ r i4.
    then (h r.1) (λ b i5.
    then (optional-keeps (are_same c.Else) (read_else blocks) (takes-keeps (read_else blocks) (else-takes blocks h)) b.1) (λ e i6.
    leaves (omega (arith, i1, i2, i3, i4, i5, i6))))))))

loop-takes : (blocks : Reader BlockTree) → Takes blocks → (d : ℕ) → Takes (read_loop blocks d)
loop-takes blocks h d ts =
    then (place-takes ts) (λ p i1.
    then (opening-takes d c.Open p.1) (λ o i2.
    then (comparison-takes o.0.0 o.1) (λ x i3.
    then (expect-takes c.Close x.1) (λ r i4.
    then (optional-keeps (are_same c.Invariant) (read_clause d c.Invariant) (clause-keeps d c.Invariant) r.1) (λ i i5.
    then (h i.1) (λ b i6. leaves (omega (arith, i1, i2, i3, i4, i5, i6))))))))

check-takes : (d : ℕ) → Takes (read_check d)
check-takes d ts =
    then (place-takes ts) (λ p i.
    then (comparison-takes d p.1) (λ x j.
    then (expect-takes c.Semicolon x.1) (λ e l. leaves (omega (arith, i, j, l)))))

give_back-takes : (d : ℕ) → Takes (read_give_back d)
give_back-takes d ts =
    then (place-takes ts) (λ p i.
    then (optional-keeps (λ a. not (are_same c.Semicolon a)) (read_term d) (term-keeps d) p.1) (λ t j.
    then (expect-takes c.Semicolon t.1) (λ e l. leaves (omega (arith, i, j, l)))))

dispose-takes : (d : ℕ) → Takes (read_dispose d)
dispose-takes d ts =
    then (place-takes ts) (λ p i1.
    then (opening-takes d c.Open p.1) (λ o i2.
    then (term-takes o.0.0 o.1) (λ t i3.
    then (expect-takes c.Close t.1) (λ q i4.
    then (expect-takes c.Semicolon q.1) (λ e i5. leaves (omega (arith, i1, i2, i3, i4, i5)))))))

statement_by-takes : (blocks : Reader BlockTree) → Takes blocks → (d : ℕ) (k : Class)
    → Takes (statement_by blocks d k)
statement_by-takes blocks h d c.Name ts =
    then (word-takes ts) (λ w i. weaker (omega (arith, i)) (named_statement_by-takes d w.0 (ahead w.1) w.1))
statement_by-takes blocks h d c.OpenBracket ts = store-takes d ts
statement_by-takes blocks h d c.Fork ts = fork-takes d ts
statement_by-takes blocks h d c.If ts = branch-takes blocks h d ts
statement_by-takes blocks h d c.While ts = loop-takes blocks h d ts
statement_by-takes blocks h d c.Assert ts = check-takes d ts
statement_by-takes blocks h d c.Return ts = give_back-takes d ts
statement_by-takes blocks h d c.Dispose ts = dispose-takes d ts
statement_by-takes blocks h d k ts = fails

statement-takes-with : (blocks : Reader BlockTree) → Takes blocks → (d : ℕ)
    → Takes (read_statement blocks d)
statement-takes-with blocks h d ts = statement_by-takes blocks h d (ahead ts) ts

block_with-takes : (one : Reader StatementTree) → Takes one → Takes (read_block_with one)
block_with-takes one h ts =
    then (expect-takes c.OpenBrace ts) (λ p i.
    then (while-keeps (λ a. not (are_same c.CloseBrace a)) one (takes-keeps one h) p.1) (λ ss j.
    then (expect-takes c.CloseBrace ss.1) (λ q l. leaves (omega (arith, i, j, l)))))

pub block-takes : (d : ℕ) → Takes (block_at d)
block-takes zero ts = no_room-takes c.OpenBrace ts
block-takes (suc d) ts =
    block_with-takes (read_statement (block_at d) d) (statement-takes-with (block_at d) (block-takes d) d) ts

pub statement-takes : (d : ℕ) → Takes (read_statement (block_at d) d)
statement-takes d = statement-takes-with (block_at d) (block-takes d) d

-- region types

declared_by-takes : (d : ℕ) (bracket : Reader DeclaredTree) → Takes bracket → (k : Class)
    → Takes (declared_by d bracket k)
declared_by-takes d bracket h c.Name ts = then (word-takes ts) (λ w i. leaves i)
declared_by-takes d bracket h c.Percent ts =
    then (place-takes ts) (λ p i. then (name-takes p.1) (λ w j. leaves (omega (arith, i, j))))
declared_by-takes d bracket h c.Bar ts =
    then (place-takes ts) (λ p i.
    then (name-takes p.1) (λ w j.
    then (expect-takes c.Bar w.1) (λ q l. leaves (omega (arith, i, j, l)))))
declared_by-takes d bracket h c.Index ts =
    then (opening-takes d c.Index ts) (λ o i.
    then (name-takes o.1) (λ w j.
    then (expect-takes c.CloseBracket w.1) (λ q l. leaves (omega (arith, i, j, l)))))
declared_by-takes d bracket h k ts = h ts

declared-takes-with : (d : ℕ) (bracket : Reader DeclaredTree) → Takes bracket
    → Takes (read_declared d bracket)
declared-takes-with d bracket h ts = declared_by-takes d bracket h (ahead ts) ts

joint-takes-with : (d : ℕ) (bracket : Reader DeclaredTree) → Takes bracket → Takes (read_joint d bracket)
joint-takes-with d bracket h ts =
    then (declared-takes-with d bracket h ts) (λ x i.
    then (more-keeps c.Star (read_declared d bracket) (takes-keeps (read_declared d bracket) (declared-takes-with d bracket h)) x.1) (λ more j.
    leaves (omega (arith, i, j))))

algebra_with-takes : (d : ℕ) (bracket : Reader DeclaredTree) → Takes bracket
    → Takes (read_algebra_with d bracket)
algebra_with-takes d bracket h ts =
    then (joint-takes-with d bracket h ts) (λ x i.
    then (more-keeps c.Plus (read_joint d bracket) (takes-keeps (read_joint d bracket) (joint-takes-with d bracket h)) x.1) (λ more j.
    leaves (omega (arith, i, j))))

grouped-takes : (d : ℕ) → Takes (grouped_at d)
grouped-takes zero ts = no_room-takes c.Open ts
grouped-takes (suc d) ts =
    then (expect-takes c.Open ts) (λ p i.
    then (algebra_with-takes d (grouped_at d) (grouped-takes d) p.1) (λ a j.
    then (expect-takes c.Close a.1) (λ q l. leaves (omega (arith, i, j, l)))))

pub declared-takes : (d : ℕ) → Takes (read_declared d (grouped_at d))
declared-takes d = declared-takes-with d (grouped_at d) (grouped-takes d)

pub joint-takes : (d : ℕ) → Takes (read_joint d (grouped_at d))
joint-takes d = joint-takes-with d (grouped_at d) (grouped-takes d)

algebra-takes : (d : ℕ) → Takes (read_algebra d)
algebra-takes d = algebra_with-takes d (grouped_at d) (grouped-takes d)

when-takes : (d : ℕ) → Takes (read_when d)
when-takes d ts =
    then (expect-takes c.When ts) (λ p i.
    then (several-takes c.Comma (read_comparison d) (comparison-takes d) p.1) (λ ks j. leaves (omega (arith, i, j))))

optional_when-keeps : (d : ℕ) → Keeps (read_optional_when d)
optional_when-keeps d = optional-keeps (are_same c.When) (read_when d) (takes-keeps (read_when d) (when-takes d))

pub case-takes : (d : ℕ) → Takes (read_case d)
case-takes d ts =
    then (term-takes d ts) (λ s i1.
    then (optional_when-keeps d s.1) (λ w i2.
    then (expect-takes c.Colon w.1) (λ p i3.
    then (assertion-takes d p.1) (λ a i4.
    then (expect-takes c.Semicolon a.1) (λ e i5. leaves (omega (arith, i1, i2, i3, i4, i5)))))))

pub action-takes : (d : ℕ) → Takes (read_action d)
action-takes d ts =
    then (guards-takes d ts) (λ g i1.
    then (expect-takes c.Colon g.1) (λ p i2.
    then (term-takes d p.1) (λ s i3.
    then (expect-takes c.LeadsTo s.1) (λ q i4.
    then (term-takes d q.1) (λ t i5.
    then (optional_when-keeps d t.1) (λ w i6.
    then (expect-takes c.Semicolon w.1) (λ e i7. leaves (omega (arith, i1, i2, i3, i4, i5, i6, i7)))))))))

head-takes : (d : ℕ) → Takes (read_head d)
head-takes d ts =
    then (name-takes ts) (λ w i.
    then (opening-takes d c.Open w.1) (λ o j.
    then (several-takes c.Comma read_name name-takes o.1) (λ ps l.
    then (expect-takes c.Close ps.1) (λ q m. leaves (omega (arith, i, j, l, m))))))

region_body-takes : (d : ℕ) (key : _) (head : _) (brace : _)
    → Takes (read_region_body d key head brace)
region_body-takes d key head brace ts =
    then (expect-takes c.Guards ts) (λ g i1.
    then (algebra-takes d g.1) (λ a i2.
    then (expect-takes c.Semicolon a.1) (λ e i3.
    then (group-takes d c.Interpretation read_case (λ n. takes-keeps (read_case n) (case-takes n)) e.1) (λ cases i4.
    then (group-takes d c.Actions read_action (λ n. takes-keeps (read_action n) (action-takes n)) cases.1) (λ actions i5.
    then (expect-takes c.CloseBrace actions.1) (λ q i6. leaves (omega (arith, i1, i2, i3, i4, i5, i6))))))))

region-takes : (d : ℕ) → Takes (read_region d)
region-takes d ts =
    then (place-takes ts) (λ key i1.
    then (head-takes d key.1) (λ head i2.
    then (opening-takes d c.OpenBrace head.1) (λ brace i3.
    weaker (omega (arith, i1, i2, i3)) (region_body-takes brace.0.0 key.0 head.0 brace.0.1 brace.1))))

function-takes : (d : ℕ) → Takes (read_function d)
function-takes d ts =
    then (place-takes ts) (λ key i1.
    then (name-takes key.1) (λ w i2.
    then (listed-takes d (λ inner. read_name) (λ inner. name-takes) w.1) (λ ps i3.
    then (optional-keeps (are_same c.Requires) (read_clause d c.Requires) (clause-keeps d c.Requires) ps.1) (λ pre i4.
    then (optional-keeps (are_same c.Ensures) (read_clause d c.Ensures) (clause-keeps d c.Ensures) pre.1) (λ post i5.
    then (block-takes d post.1) (λ b i6. leaves (omega (arith, i1, i2, i3, i4, i5, i6))))))))

declaration_by-takes : (d : ℕ) (k : Class) → Takes (declaration_by d k)
declaration_by-takes d c.Region ts = then (region-takes d ts) (λ r i. leaves i)
declaration_by-takes d c.Function ts = then (function-takes d ts) (λ f i. leaves i)
declaration_by-takes d k ts = fails

pub declaration-takes : (d : ℕ) → Takes (read_declaration d)
declaration-takes d ts = declaration_by-takes d (ahead ts) ts

-- loops

-- where a part may begin at the end, it is refused there
abbrev pub Ends : {A : Type 0} → (Class → Bool) → Reader A → Type 0
Ends begins one = begins c.End ≡ true → one [] ≡ Err (unexpected [])

pub statement-ends : (d : ℕ) (begins : Class → Bool) → Ends begins (read_statement (block_at d) d)
statement-ends d begins e = refl

pub case-ends : (d : ℕ) (begins : Class → Bool) → Ends begins (read_case d)
case-ends zero begins e = refl
case-ends (suc d) begins e = refl

pub action-ends : (d : ℕ) (begins : Class → Bool) → Ends begins (read_action d)
action-ends d begins e = refl

bind_same : {A B : Type 0} (r : Outcome A) (k l : A × List Token → Outcome B)
    → ((x : A × List Token) → r ≡ Ok x → k x ≡ l x) → (r >>= k) ≡ (r >>= l)
bind_same (Ok x) k l h = h x refl
bind_same (Err f) k l h = refl

-- this part, and the others
abbrev pub and_more : {A : Type 0} → A → Outcome (List A) → Outcome (List A)
and_more a r = r >>= λ more. Ok (a ∷ more.0, more.1)

either_same : {A : Type 0} (b : Bool) (r s t : Outcome A) → (b ≡ true → r ≡ s)
    → cond b r t ≡ cond b s t
either_same true r s t h = h refl
either_same false r s t h = refl

at_the_end : {A : Type 0} (begins : Class → Bool) (one : Reader A) → Ends begins one → (n : ℕ)
    → read_at_most begins one n [] ≡ cond (begins c.End) (Err (unexpected [])) (Ok ([], []))
at_the_end begins one z zero = refl
at_the_end begins one z (suc n) =
    either_same (begins c.End) _ _ _ (λ b. ap (λ r. r >>= λ a. and_more a.0 (read_at_most begins one n a.1)) (z b))

-- any number that is at least the list's length serves
pub enough-serves : {A : Type 0} (begins : Class → Bool) (one : Reader A) → Takes one
    → Ends begins one → (n m : ℕ) (ts : List Token)
    → length ts ≤ n → length ts ≤ m → read_at_most begins one n ts ≡ read_at_most begins one m ts
enough-serves begins one h z n m [] l k = at_the_end begins one z n ∙ sym (at_the_end begins one z m)
enough-serves begins one h z zero m (t ∷ ts) l k = absurd (omega (arith, l))
enough-serves begins one h z (suc n) zero (t ∷ ts) l k = absurd (omega (arith, k))
enough-serves begins one h z (suc n) (suc m) (t ∷ ts) l k =
    either_same (begins (ahead (t ∷ ts))) _ _ _ (λ b.
    bind_same (one (t ∷ ts)) (λ a. and_more a.0 (read_at_most begins one n a.1)) (λ a. and_more a.0 (read_at_most begins one m a.1)) (λ a e.
    let less : length a.1 < length (t ∷ ts) = (h (t ∷ ts)).fewer a.0 a.1 e in
    ap (and_more a.0) (enough-serves begins one h z n m a.1 (omega (arith, l, less)) (omega (arith, k, less)))))

-- a part where one begins, and then the others
pub while-begins : {A : Type 0} (begins : Class → Bool) (one : Reader A) → Takes one
    → Ends begins one → (ts : List Token)
    → begins (ahead ts) ≡ true
    → read_while begins one ts ≡ (one ts >>= λ a. and_more a.0 (read_while begins one a.1))
while-begins begins one h z ts b =
    enough-serves begins one h z (length ts) (suc (length ts)) ts (omega arith) (omega arith)
    ∙ ap (λ o. cond o (one ts >>= λ a. and_more a.0 (read_at_most begins one (length ts) a.1)) (Ok ([], ts))) b
    ∙ bind_same (one ts) (λ a. and_more a.0 (read_at_most begins one (length ts) a.1)) (λ a. and_more a.0 (read_while begins one a.1)) (λ a e.
    ap (and_more a.0) (enough-serves begins one h z (length ts) (length a.1) a.1 (omega (arith, (h ts).fewer a.0 a.1 e)) (omega arith)))

pub at_most-stops : {A : Type 0} (begins : Class → Bool) (one : Reader A) (n : ℕ) (ts : List Token)
    → begins (ahead ts) ≡ false → read_at_most begins one n ts ≡ Ok ([], ts)
at_most-stops begins one zero ts b = ap (λ o. cond o (Err (unexpected ts)) (Ok ([], ts))) b
at_most-stops begins one (suc n) ts b =
    ap (λ o. cond o (one ts >>= λ a. and_more a.0 (read_at_most begins one n a.1)) (Ok ([], ts))) b

-- what was read before, in front
abbrev pub with_front : {A : Type 0} → List A → Outcome (List A) → Outcome (List A)
with_front front (Ok x) = Ok (front ++ x.0, x.1)
with_front front (Err f) = Err f

snoc-front : {A : Type 0} (front : List A) (a : A) (r : Outcome (List A))
    → with_front (front ++ a ∷ []) r ≡ with_front front (and_more a r)
snoc-front front a (Ok x) = ap (λ l. Ok (l, x.1)) (append_assoc front (a ∷ []) x.0)
snoc-front front a (Err f) = refl

-- a loop that pushes each part that it reads: a part was read
pub while-taken : {A : Type 0} (begins : Class → Bool) (one : Reader A) → Takes one
    → Ends begins one
    → (front : List A) (all : List Token) (a : A) (rest : List Token) → begins (ahead all) ≡ true
    → one all ≡ Ok (a, rest)
    → with_front (front ++ a ∷ []) (read_while begins one rest) ≡ with_front front (read_while begins one all)
while-taken begins one h z front all a rest b e =
    snoc-front front a (read_while begins one rest)
    ∙ ap (with_front front) (sym (while-begins begins one h z all b ∙ ap (λ r. r >>= λ x. and_more x.0 (read_while begins one x.1)) e))

-- one was refused
pub while-refused : {A : Type 0} (begins : Class → Bool) (one : Reader A) → Takes one
    → Ends begins one
    → (all : List Token) (f : Fault) → begins (ahead all) ≡ true → one all ≡ Err f
    → read_while begins one all ≡ Err f
while-refused begins one h z all f b e =
    while-begins begins one h z all b ∙ ap (λ r. r >>= λ x. and_more x.0 (read_while begins one x.1)) e
