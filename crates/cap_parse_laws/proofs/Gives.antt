-- What is spelled is read, unless a bracket opens too deep.
use Rattle.std.proofs.Common.{◌≡◌, ℕ, zero, suc, cond, ◌≤◌, Bool, true, false, List, [], ◌∷◌, length, Option, Some, None, Ok, Err, refl, sym, ap, ◌∙◌, subst, arith}
use Rattle.cap_syntax.specs.declared.place.Place.{Place}
use Rattle.cap_syntax.specs.declared.token.Token.{Token}
use Rattle.cap_parse_tree.specs.Tree.{Several}
use Rattle.cap_parse_tree.specs.Tokens.{symbol}
use Rattle.cap_parse_tree.specs.Spelling.{Spells, spell_all, spell_behind, spell_more, spell_several, spell_option}
use Rattle.cap_parse_laws.specs.declared.class.Class.{Class}
use Rattle.cap_parse_laws.specs.declared.class.Class.TheVariants as c
use Rattle.cap_parse_laws.specs.Classes.{class, are_same}
use Rattle.cap_parse_laws.specs.Readers.{unexpected, too_deep, Outcome, Reader, ◌>>=◌, ahead, read_opening, read_optional, read_at_most, read_while, read_behind, read_more, read_several}
use Rattle.cap_parse_laws.specs.Laws.Taking.{at_most-stops, Takes, Keeps, behind-takes}
use Rattle.cap_parse_laws.proofs.Shapes.{same-self, is_known, is_plain, plain-known}

-- what is expected and what follows it is read, unless a bracket opens too deep
abbrev GivesBy : {A : Type 0} → A → List Token → Outcome A → Type 0
GivesBy a ts (Ok x) = x ≡ (a, ts)
GivesBy a ts (Err (unexpected rest)) = ⊥
GivesBy a ts (Err (too_deep rest)) = Unit {0}

pub record Gives {A : Type 0} (a : A) (ts : List Token) (r : Outcome A) : Type 0 where
  pub held : GivesBy a ts r

pub gives : {A : Type 0} {a : A} {ts : List Token} → Gives a ts (Ok (a, ts))
gives = record { held = refl }

pub not-here : {A : Type 0} {a : A} {ts rest : List Token} → Gives a ts (Err (too_deep rest))
not-here = record { held = tt }

-- one reader, then the next, which may go by what was read
pub known-yields : {A B : Type 0} {a : A} {ts us : List Token} {b : B} {r : Outcome A} (k : A × List Token → Outcome B)
    → Gives a ts r → (r ≡ Ok (a, ts) → Gives b us (k (a, ts))) → Gives b us (r >>= k)
known-yields {us = us} {b = b} {r = Ok x} k h g = subst (λ y. Gives b us (k y)) (sym h.held) (g (ap Ok h.held))
known-yields {r = Err (unexpected rest)} k h g = absurd h.held
known-yields {r = Err (too_deep rest)} k h g = not-here

pub yields : {A B : Type 0} {a : A} {ts us : List Token} {b : B} {r : Outcome A} (k : A × List Token → Outcome B)
    → Gives a ts r → Gives b us (k (a, ts)) → Gives b us (r >>= k)
yields k h g = known-yields k h (λ e. g)

pub where-true : {A : Type 0} {a : A} {ts : List Token} {r : Outcome A} (b : Bool) (t : Outcome A)
    → b ≡ true → Gives a ts r → Gives a ts (cond b r t)
where-true true t e h = h
where-true false t e h = absurd cc

pub where-false : {A : Type 0} {a : A} {ts : List Token} {r : Outcome A} (b : Bool) (t : Outcome A)
    → b ≡ false → Gives a ts r → Gives a ts (cond b t r)
where-false false t e h = h
where-false true t e h = absurd cc

pub is-same : (k : Class) (t : Token) → class t ≡ k → are_same k (class t) ≡ true
is-same k t e = ap (are_same k) e ∙ same-self k

abbrev with_room : ℕ → Outcome Place → Outcome (ℕ × Place)
with_room d r = r >>= λ p. Ok ((d, p.0), p.1)

-- a bracket, and what is in it
pub opens-then : {B : Type 0} {b : B} {us : List Token} (next_reader : (ℕ × Place) × List Token → Outcome B) (k : Class) (room : ℕ) (t : Token) (ts : List Token)
    → class t ≡ k
    → ((d : ℕ) → Gives b us (next_reader ((d, t.place), ts)))
    → Gives b us (read_opening room k (t ∷ ts) >>= next_reader)
opens-then {b = b} {us = us} reader k zero t ts e h =
    subst (λ o. Gives b us (cond {A = Outcome (ℕ × Place)} o (Err (too_deep (t ∷ ts))) (Err (unexpected (t ∷ ts))) >>= reader)) (sym (is-same k t e)) not-here
opens-then {b = b} {us = us} reader k (suc d) t ts e h =
    subst (λ o. Gives b us (with_room d (cond o (Ok (t.place, ts)) (Err (unexpected (t ∷ ts)))) >>= reader)) (sym (is-same k t e)) (h d)

pub optional-gives : {A : Type 0} (spell : Spells A) (begins : Class → Bool) (one : Reader A) (o : Option A) (ts : List Token)
    → begins (ahead ts) ≡ false
    → ((a : A) → begins (ahead (spell a ts)) ≡ true) → ((a : A) → Gives a ts (one (spell a ts)))
    → Gives o ts (read_optional begins one (spell_option spell o ts))
optional-gives spell begins one None ts n y h = where-false (begins (ahead ts)) _ n gives
optional-gives spell begins one (Some a) ts n y h = where-true (begins (ahead (spell a ts))) _ (y a) (yields _ (h a) gives)

-- what the first token of a part says
abbrev pub Begins : (Class → Bool) → (Class → Bool) → List Token → Type 0
Begins begins follows ts = (begins (ahead ts) ≡ true) × (follows (ahead ts) ≡ true) × (are_same c.End (ahead ts) ≡ false)

begun-long : (ts : List Token) → are_same c.End (ahead ts) ≡ false → length ts ≤ 0 → ⊥
begun-long [] e l = cc
begun-long (t ∷ ts) e l = omega (arith, l)

-- parts one behind another, none of which the reader of one takes too far
pub parts-follow : {A : Type 0} (spell : Spells A) (begins follows : Class → Bool)
    → ((a : A) (ts : List Token) → Begins begins follows (spell a ts))
    → (parts : List A) (ts : List Token) → follows (ahead ts) ≡ true
    → follows (ahead (spell_all spell parts ts)) ≡ true
parts-follow spell begins follows first [] ts f = f
parts-follow spell begins follows first (a ∷ more) ts f = (first a (spell_all spell more ts)).1

at_most-gives : {A : Type 0} (spell : Spells A) (begins follows : Class → Bool) (one : Reader A)
    → Takes one → ((a : A) (ts : List Token) → Begins begins follows (spell a ts))
    → ((a : A) (ts : List Token) → follows (ahead ts) ≡ true → Gives a ts (one (spell a ts)))
    → (n : ℕ) (parts : List A) (ts : List Token) → begins (ahead ts) ≡ false
    → follows (ahead ts) ≡ true → length (spell_all spell parts ts) ≤ n
    → Gives parts ts (read_at_most begins one n (spell_all spell parts ts))
at_most-gives spell begins follows one takes first each n [] ts e f l = subst (Gives [] ts) (sym (at_most-stops begins one n ts e)) gives
at_most-gives spell begins follows one takes first each zero (a ∷ more) ts e f l = absurd (begun-long (spell a (spell_all spell more ts)) (first a (spell_all spell more ts)).2 l)
at_most-gives spell begins follows one takes first each (suc n) (a ∷ more) ts e f l =
    let rest = spell_all spell more ts in
    where-true (begins (ahead (spell a rest))) _ (first a rest).0
    (known-yields _ (each a rest (parts-follow spell begins follows first more ts f)) (λ r.
    yields _ (at_most-gives spell begins follows one takes first each n more ts e f (omega (arith, l, (takes (spell a rest)).fewer a rest r))) gives))

pub while-gives : {A : Type 0} (spell : Spells A) (begins follows : Class → Bool) (one : Reader A)
    → Takes one → ((a : A) (ts : List Token) → Begins begins follows (spell a ts))
    → ((a : A) (ts : List Token) → follows (ahead ts) ≡ true → Gives a ts (one (spell a ts)))
    → (parts : List A) (ts : List Token) → begins (ahead ts) ≡ false → follows (ahead ts) ≡ true
    → Gives parts ts (read_while begins one (spell_all spell parts ts))
while-gives spell begins follows one takes first each parts ts e f = at_most-gives spell begins follows one takes first each (length (spell_all spell parts ts)) parts ts e f (omega arith)

-- parts behind a separator k, which may follow a part
pub more-gives : {A : Type 0} (spell : Spells A) (follows : Class → Bool) (k : Class) (text : List ℕ) (one : Reader A)
    → ((p : Place) → class (symbol text p) ≡ k) → is_plain k ≡ true → follows k ≡ true → Keeps one
    → ((a : A) (ts : List Token) → follows (ahead ts) ≡ true → Gives a ts (one (spell a ts)))
    → (parts : List (Place × A)) (ts : List Token) → are_same k (ahead ts) ≡ false
    → follows (ahead ts) ≡ true
    → Gives parts ts (read_more k one (spell_more text spell parts ts))
more-gives {A = A} spell follows k text one it plain_k f keeps each parts ts e g =
    while-gives (spell_behind text spell) (are_same k) follows (read_behind k one) (behind-takes k one keeps)
    (λ a us. (is-same k (symbol text a.0) (it a.0), ap follows (it a.0) ∙ f, not-the-end (class (symbol text a.0)) (ap is_known (it a.0) ∙ plain-known k plain_k)))
    (λ a us h. where-known a us (each a.1 us h)) parts ts e g
  where
    not-the-end : (j : Class) → is_known j ≡ true → are_same c.End j ≡ false
    not-the-end c.End x = cc
    not-the-end j x = refl

    where-known : (a : Place × A) (us : List Token) → Gives a.1 us (one (spell a.1 us)) → Gives a us (read_behind k one (spell_behind text spell a us))
    where-known a us h =
        subst (λ o. Gives a us (cond {A = Outcome Place} o (Ok (a.0, spell a.1 us)) (Err (unexpected (symbol text a.0 ∷ spell a.1 us))) >>= λ p. one p.1 >>= λ x. Ok ((p.0, x.0), x.1))) (sym (is-same k (symbol text a.0) (it a.0)))
        (yields _ h gives)

pub several-gives : {A : Type 0} (spell : Spells A) (follows : Class → Bool) (k : Class) (text : List ℕ) (one : Reader A)
    → ((p : Place) → class (symbol text p) ≡ k) → is_plain k ≡ true → follows k ≡ true → Keeps one
    → ((a : A) (ts : List Token) → follows (ahead ts) ≡ true → Gives a ts (one (spell a ts)))
    → (parts : Several A) (ts : List Token) → are_same k (ahead ts) ≡ false
    → follows (ahead ts) ≡ true
    → Gives parts ts (read_several k one (spell_several text spell parts ts))
several-gives {A = A} spell follows k text one it plain_k f keeps each parts ts e g =
    yields _ (each parts.first (spell_more text spell parts.more ts) (then_follows parts.more))
    (yields _ (more-gives spell follows k text one it plain_k f keeps each parts.more ts e g) gives)
  where
    then_follows : (more : List (Place × A)) → follows (ahead (spell_more text spell more ts)) ≡ true
    then_follows [] = g
    then_follows (a ∷ more) = ap follows (it a.0) ∙ f
