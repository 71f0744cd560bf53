-- The automaton goes along with each reader: what is read is spelled, and both stop at one token.
use Rattle.std.proofs.Common.{◌≡◌, ℕ, zero, suc, not, cond, ◌≤◌, Bool, true, false, List, [], ◌∷◌, ◌++◌, length, Some, None, Ok, Err, refl, sym, ap, ◌∙◌, subst, arith, codes}
use Rattle.cap_syntax.specs.declared.place.Place.{Place}
use Rattle.cap_syntax.specs.declared.token.Token.{Token}
use Rattle.cap_parse_tree.specs.Tokens.{name, number, symbol, keyword}
use Rattle.cap_parse_tree.specs.Nesting.{room_behind, one_fewer}
use Rattle.cap_parse_tree.specs.Spelling.{Spells, spell_all, spell_behind, spell_more, spell_several, spell_option, spell_listed, spell_group}
use Rattle.cap_parse_laws.specs.declared.class.Class.{Class}
use Rattle.cap_parse_laws.specs.declared.class.Class.TheVariants as c
use Rattle.cap_parse_laws.specs.Classes.{class, are_same}
use Rattle.cap_parse_laws.specs.Readers.{unexpected, too_deep, Outcome, Reader, ◌>>=◌, ahead, next_token, next_place, next_word, next_literal, expect, read_name, read_number, no_room, read_opening, read_optional, read_at_most, read_while, read_behind, read_more, read_several, read_listed, read_group}
use Rattle.cap_parse_laws.specs.Laws.Taking.{Takes, Keeps, behind-takes}
use Rattle.cap_parse_laws.proofs.Shapes.{same_is_equal, same-self, shaped, plain, is_known, is_plain, plain-known, plain-shaped, room_after, shaped-room, known}
use Rattle.cap_parse_laws.proofs.Automaton.{Symbol, fixed, Stack, on, stop, next, Answer, wrong, deep, ended, goes, within, run}

abbrev MetBy : {A : Type 0} → (A → List Token → Type 0) → Answer → Stack → ℕ → Outcome A → Type 0
MetBy R a s d (Ok x) = R x.0 x.1 × (a ≡ run s d x.1)
MetBy R a s d (Err (unexpected rest)) = a ≡ wrong rest
MetBy R a s d (Err (too_deep rest)) = a ≡ deep rest

-- of what was read and its rest R holds, and the automaton, which answers a, is at the rest with this
-- stack and room; or both stop at one token, for one cause
pub record Meets {A : Type 0} (R : A → List Token → Type 0) (a : Answer) (s : Stack) (d : ℕ) (r : Outcome A) : Type 0 where
  pub held : MetBy R a s d r

pub so : {A : Type 0} {R : A → List Token → Type 0} {s : Stack} {d : ℕ} {x : A} {rest : List Token}
    → R x rest → Meets R (run s d rest) s d (Ok (x, rest))
so h = record { held = (h, refl) }

-- one reader, then the next, which may go by what was read
known-chain : {A B : Type 0} {R : A → List Token → Type 0} {Q : B → List Token → Type 0} {a : Answer} {s s2 : Stack} {d d2 : ℕ} {r : Outcome A} {k : A × List Token → Outcome B}
    → Meets R a s d r
    → ((x : A × List Token) → r ≡ Ok x → R x.0 x.1 → Meets Q (run s d x.1) s2 d2 (k x))
    → Meets Q a s2 d2 (r >>= k)
known-chain {Q = Q} {s2 = s2} {d2 = d2} {r = Ok x} {k = k} h then = subst (λ b. Meets Q b s2 d2 (k x)) (sym h.held.1) (then x refl h.held.0)
known-chain {r = Err (unexpected rest)} h then = record { held = h.held }
known-chain {r = Err (too_deep rest)} h then = record { held = h.held }

pub chain : {A B : Type 0} {R : A → List Token → Type 0} {Q : B → List Token → Type 0} {a : Answer} {s s2 : Stack} {d d2 : ℕ} {r : Outcome A} {k : A × List Token → Outcome B}
    → Meets R a s d r → ((x : A × List Token) → R x.0 x.1 → Meets Q (run s d x.1) s2 d2 (k x))
    → Meets Q a s2 d2 (r >>= k)
chain h then = known-chain h (λ x e. then x)

-- the same of an answer that is the same
pub from : {A : Type 0} {R : A → List Token → Type 0} {a b : Answer} {s : Stack} {d : ℕ} {r : Outcome A}
    → a ≡ b → Meets R b s d r → Meets R a s d r
from {R = R} {s = s} {d = d} {r = r} e h = subst (λ c. Meets R c s d r) (sym e) h

same-next : (s t : Stack) (d : ℕ) (ts : List Token) → next s (ahead ts) ≡ next t (ahead ts)
    → run s d ts ≡ run t d ts
same-next s t d [] n = ap ended n
same-next s t d (u ∷ ts) n =
    ap (λ m. goes m (λ s2. within (room_behind d u) (λ left. run s2 left ts) (deep (u ∷ ts))) (wrong (u ∷ ts))) n

-- the class of the next token decides
pub enter : {A : Type 0} {R : A → List Token → Type 0} {s2 : Stack} {d2 : ℕ} {r : Outcome A} (s t : Stack) (d : ℕ) (ts : List Token) (k : Class)
    → ahead ts ≡ k → next s k ≡ next t k → Meets R (run t d ts) s2 d2 r
    → Meets R (run s d ts) s2 d2 r
enter s t d ts k e n h = from (same-next s t d ts (ap (next s) e ∙ n ∙ ap (next t) (sym e))) h

stops-here : (s : Stack) (d : ℕ) (ts : List Token) → next s (ahead ts) ≡ stop
    → run s d ts ≡ wrong ts
stops-here s d [] n = ap ended n
stops-here s d (u ∷ ts) n =
    ap (λ m. goes m (λ s2. within (room_behind d u) (λ left. run s2 left ts) (deep (u ∷ ts))) (wrong (u ∷ ts))) n

pub refuse : {A : Type 0} {R : A → List Token → Type 0} {s2 : Stack} {d2 : ℕ} (s : Stack) (d : ℕ) (ts : List Token)
    → next s (ahead ts) ≡ stop → Meets R (run s d ts) s2 d2 (Err (unexpected ts))
refuse s d ts n = record { held = stops-here s d ts n }

pub either : {A : Type 0} {R : A → List Token → Type 0} {a : Answer} {s : Stack} {d : ℕ} {r t : Outcome A} (b : Bool)
    → (b ≡ true → Meets R a s d r) → (b ≡ false → Meets R a s d t) → Meets R a s d (cond b r t)
either true h k = h refl
either false h k = k refl

-- tokens

token-meets : (k : Class) (d d2 : ℕ) (ts : List Token) (s : Stack) → is_known k ≡ true
    → room_after d k ≡ Some d2 → ahead ts ≡ k
    → Meets (λ t rest. ts ≡ shaped k t ∷ rest) (run (fixed k ∷ s) d ts) s d2 (next_token ts)
token-meets k d d2 [] s n r e = let f : is_known c.End ≡ true = ap is_known e ∙ n in absurd cc
token-meets k d d2 (t ∷ ts) s n r e =
    let is : t ≡ shaped k t = known t k e n in
    let same : are_same k (class t) ≡ true = ap (are_same k) e ∙ same-self k in
    let room : room_behind d t ≡ Some d2 = ap (room_behind d) is ∙ shaped-room k d t ∙ r in
    record {
      held = (
        ap (λ u. u ∷ ts) is,
        ap (λ b. goes (cond b (on s) stop) (λ s2. within (room_behind d t) (λ left. run s2 left ts) (deep (t ∷ ts))) (wrong (t ∷ ts))) same
            ∙ ap (λ o. within o (λ left. run s left ts) (deep (t ∷ ts))) room,
      );
    }

pub place-meets : (k : Class) (d d2 : ℕ) (ts : List Token) (s : Stack) → is_plain k ≡ true
    → room_after d k ≡ Some d2 → ahead ts ≡ k
    → Meets (λ p rest. ts ≡ plain k p ∷ rest) (run (fixed k ∷ s) d ts) s d2 (next_place ts)
place-meets k d d2 ts s n r e =
    chain (token-meets k d d2 ts s (plain-known k n) r e) (λ t f. so (f ∙ ap (λ u. u ∷ t.1) (plain-shaped k n t.0)))

pub word-meets : (d : ℕ) (ts : List Token) (s : Stack) → ahead ts ≡ c.Name
    → Meets (λ w rest. ts ≡ name w ∷ rest) (run (fixed c.Name ∷ s) d ts) s d (next_word ts)
word-meets d ts s e = chain (token-meets c.Name d d ts s refl refl e) (λ t f. so f)

pub literal-meets : (d : ℕ) (ts : List Token) (s : Stack) → ahead ts ≡ c.Number
    → Meets (λ n rest. ts ≡ number n ∷ rest) (run (fixed c.Number ∷ s) d ts) s d (next_literal ts)
literal-meets d ts s e = chain (token-meets c.Number d d ts s refl refl e) (λ t f. so f)

other-token : (k : Class) (s : Stack) (ts : List Token) → are_same k (ahead ts) ≡ false
    → next (fixed k ∷ s) (ahead ts) ≡ stop
other-token k s ts e = ap (λ b. cond b (on s) stop) e

pub this-token : (k : Class) (ts : List Token) → are_same k (ahead ts) ≡ true → ahead ts ≡ k
this-token k ts e = sym (same_is_equal k (ahead ts) e)

pub expect-meets : (k : Class) (d d2 : ℕ) (ts : List Token) (s : Stack) → is_plain k ≡ true
    → room_after d k ≡ Some d2
    → Meets (λ p rest. ts ≡ plain k p ∷ rest) (run (fixed k ∷ s) d ts) s d2 (expect k ts)
expect-meets k d d2 ts s n r =
    either (are_same k (ahead ts)) (λ e. place-meets k d d2 ts s n r (this-token k ts e)) (λ e. refuse _ _ _ (other-token k s ts e))

pub name-meets : (d : ℕ) (ts : List Token) (s : Stack)
    → Meets (λ w rest. ts ≡ name w ∷ rest) (run (fixed c.Name ∷ s) d ts) s d (read_name ts)
name-meets d ts s =
    either (are_same c.Name (ahead ts)) (λ e. word-meets d ts s (this-token c.Name ts e)) (λ e. refuse _ _ _ (other-token c.Name s ts e))

pub number-meets : (d : ℕ) (ts : List Token) (s : Stack)
    → Meets (λ n rest. ts ≡ number n ∷ rest) (run (fixed c.Number ∷ s) d ts) s d (read_number ts)
number-meets d ts s =
    either (are_same c.Number (ahead ts)) (λ e. literal-meets d ts s (this-token c.Number ts e)) (λ e. refuse _ _ _ (other-token c.Number s ts e))

too-deep : (k : Class) (ts : List Token) (s : Stack) → is_plain k ≡ true → room_after 0 k ≡ None
    → ahead ts ≡ k → run (fixed k ∷ s) 0 ts ≡ deep ts
too-deep k [] s n r e = let f : is_known c.End ≡ true = ap is_known e ∙ plain-known k n in absurd cc
too-deep k (t ∷ ts) s n r e =
    let same : are_same k (class t) ≡ true = ap (are_same k) e ∙ same-self k in
    let room : room_behind 0 t ≡ None = ap (room_behind 0) (known t k e (plain-known k n)) ∙ shaped-room k 0 t ∙ r in
    ap (λ b. goes (cond b (on s) stop) (λ s2. within (room_behind 0 t) (λ left. run s2 left ts) (deep (t ∷ ts))) (wrong (t ∷ ts))) same
    ∙ ap (λ o. within o (λ left. run s left ts) (deep (t ∷ ts))) room

-- a bracket for which there is no room
pub no_room-meets : {A : Type 0} {R : A → List Token → Type 0} (k : Class) (ts : List Token) (s s2 : Stack) (d : ℕ)
    → is_plain k ≡ true → room_after 0 k ≡ None
    → Meets R (run (fixed k ∷ s) 0 ts) s2 d (no_room k ts)
no_room-meets k ts s s2 d n r =
    either (are_same k (ahead ts)) (λ e. record { held = too-deep k ts s n r (this-token k ts e) }) (λ e. refuse _ _ _ (other-token k s ts e))

-- a bracket, what is in it, and what comes behind
pub opened-within : {B : Type 0} {Q : B → List Token → Type 0} {s2 : Stack} {next_reader : (ℕ × Place) × List Token → Outcome B} (k : Class) (room : ℕ) (ts : List Token) (s : Stack)
    → is_plain k ≡ true → ((d : ℕ) → room_after d k ≡ one_fewer d)
    → ((o : (ℕ × Place) × List Token) → suc o.0.0 ≡ room → ts ≡ plain k o.0.1 ∷ o.1 → Meets Q (run s o.0.0 o.1) s2 room (next_reader o))
    → Meets Q (run (fixed k ∷ s) room ts) s2 room (read_opening room k ts >>= next_reader)
opened-within k zero ts s n r then = chain {R = λ o rest. ⊥} (no_room-meets k ts s s 0 n (r 0)) (λ o f. absurd f)
opened-within {Q = Q} {s2 = s2} {next_reader = reader} k (suc d) ts s n r then =
    chain {R = λ o rest. (o.0 ≡ d) × (ts ≡ plain k o.1 ∷ rest)} (chain (expect-meets k (suc d) d ts s n (r (suc d))) (λ p f. so (refl, f))) (λ o f.
    from (ap (λ e. run s e o.1) (sym f.0)) (then o (ap suc f.0) f.1))

-- a bracket, and what is in it up to the bracket that closes it
pub opened : {B : Type 0} {Q : B → List Token → Type 0} {s2 : Stack} {next_reader : (ℕ × Place) × List Token → Outcome B} (k : Class) (room : ℕ) (ts : List Token) (s : Stack)
    → is_plain k ≡ true → ((d : ℕ) → room_after d k ≡ one_fewer d)
    → ((o : (ℕ × Place) × List Token) → ts ≡ plain k o.0.1 ∷ o.1 → Meets Q (run s o.0.0 o.1) s2 (suc o.0.0) (next_reader o))
    → Meets Q (run (fixed k ∷ s) room ts) s2 room (read_opening room k ts >>= next_reader)
opened {Q = Q} {s2 = s2} {next_reader = reader} k room ts s n r then =
    opened-within k room ts s n r (λ o e f. subst (λ m. Meets Q (run s o.0.0 o.1) s2 m (reader o)) e (then o f))

-- lists of parts, and parts that may be absent

-- what was read is what its tokens spell
abbrev pub Read : {A : Type 0} → Spells A → List Token → A → List Token → Type 0
Read spell ts a rest = ts ≡ spell a rest

-- in front of whatever is still to come, the automaton goes along
abbrev pub IsMet : {A : Type 0} → Stack → Spells A → ℕ → Reader A → Type 0
IsMet w spell d read = (ts : List Token) (s : Stack) → Meets (Read spell ts) (run (w ++ s) d ts) s d (read ts)

-- a stack is as good as t where a part begins, and as s2 where none does
pub record IsChoice (s t s2 : Stack) (begins : Class → Bool) : Type 0 where
  pub enters : (k : Class) → begins k ≡ true → next s k ≡ next t k
  pub leaves : (k : Class) → begins k ≡ false → next s k ≡ next s2 k

-- a token of class j leads the part
pub lead : (s t s2 u : Stack) (j : Class)
    → ((k : Class) → next s k ≡ cond (are_same j k) (on u) (next s2 k))
    → ((k : Class) → next t k ≡ cond (are_same j k) (on u) stop)
    → IsChoice s t s2 (are_same j)
lead s t s2 u j e f = record {
  enters = λ k b. e k ∙ ap (λ o. cond o (on u) (next s2 k)) b ∙ sym (f k ∙ ap (λ o. cond o (on u) stop) b);
  leaves = λ k b. e k ∙ ap (λ o. cond o (on u) (next s2 k)) b;
}

-- a token of class j ends the parts
pub until : (s t u : Stack) (j : Class)
    → ((k : Class) → next s k ≡ cond (are_same j k) (on u) (next t k))
    → IsChoice s t (fixed j ∷ u) (λ k. not (are_same j k))
until s t u j e = record { enters = λ k b. by_enters k (are_same j k) refl b; leaves = λ k b. by_leaves k (are_same j k) refl b }
  where
    by_enters : (k : Class) (o : Bool) → are_same j k ≡ o → not o ≡ true → next s k ≡ next t k
    by_enters k true f b = cc
    by_enters k false f b = e k ∙ ap (λ o. cond o (on u) (next t k)) f

    by_leaves : (k : Class) (o : Bool) → are_same j k ≡ o → not o ≡ false → next s k ≡ next (fixed j ∷ u) k
    by_leaves k true f b = e k ∙ ap (λ o. cond o (on u) (next t k)) f ∙ sym (ap (λ o. cond o (on u) stop) f)
    by_leaves k false f b = cc

pub optional-meets : {A : Type 0} {spell : Spells A} {begins : Class → Bool} {s t s2 : Stack} (one : Reader A) (d : ℕ) (ts : List Token)
    → IsChoice s t s2 begins
    → (begins (ahead ts) ≡ true → Meets (Read spell ts) (run t d ts) s2 d (one ts))
    → Meets (Read (spell_option spell) ts) (run s d ts) s2 d (read_optional begins one ts)
optional-meets {begins = begins} {s = s} {t = t} {s2 = s2} one d ts choice it =
    either (begins (ahead ts))
    (λ b. from (same-next s t d ts (choice.enters (ahead ts) b)) (chain (it b) (λ a f. so f)))
    (λ b. from (same-next s s2 d ts (choice.leaves (ahead ts) b)) (so refl))

at_most-meets : {A : Type 0} {spell : Spells A} {one : Reader A} {begins : Class → Bool} {s t s2 : Stack} (d : ℕ)
    → IsChoice s t s2 begins → Takes one
    → (begins c.End ≡ true → next s c.End ≡ stop)
    → ((ts : List Token) → Meets (Read spell ts) (run t d ts) s d (one ts))
    → (n : ℕ) (ts : List Token) → length ts ≤ n
    → Meets (Read (spell_all spell) ts) (run s d ts) s2 d (read_at_most begins one n ts)
at_most-meets {begins = begins} {s = s} {s2 = s2} d choice takes edge one zero [] l =
    either (begins c.End) (λ b. record { held = ap ended (edge b) }) (λ b. from (same-next s s2 d [] (choice.leaves c.End b)) (so refl))
at_most-meets d choice takes edge one zero (u ∷ ts) l = absurd (omega (arith, l))
at_most-meets {spell = spell} {begins = begins} {s = s} {t = t} {s2 = s2} d choice takes edge one (suc n) ts l =
    either (begins (ahead ts))
    (λ b. from (same-next s t d ts (choice.enters (ahead ts) b)) (
    known-chain (one ts) (λ a e f.
    chain (at_most-meets d choice takes edge one n a.1 (omega (arith, l, (takes ts).fewer a.0 a.1 e))) (λ more g.
    so (f ∙ ap (spell a.0) g)))))
    (λ b. from (same-next s s2 d ts (choice.leaves (ahead ts) b)) (so refl))

pub while-meets : {A : Type 0} {spell : Spells A} {one : Reader A} {begins : Class → Bool} {s t s2 : Stack} (d : ℕ) (ts : List Token)
    → IsChoice s t s2 begins → Takes one
    → (begins c.End ≡ true → next s c.End ≡ stop)
    → ((ts : List Token) → Meets (Read spell ts) (run t d ts) s d (one ts))
    → Meets (Read (spell_all spell) ts) (run s d ts) s2 d (read_while begins one ts)
while-meets d ts choice takes edge one = at_most-meets d choice takes edge one (length ts) ts (omega arith)

-- a symbol that opens and closes nothing, and its text
abbrev pub IsSeparator : Class → List ℕ → Type 0
IsSeparator k text = (is_plain k ≡ true) × ((d : ℕ) → room_after d k ≡ Some d) × ((p : Place) → plain k p ≡ symbol text p)

pub behind-meets : {A : Type 0} {spell : Spells A} {one : Reader A} {t s : Stack} (k : Class) (text : List ℕ) (d : ℕ) (ts : List Token)
    → IsSeparator k text
    → ((ts : List Token) → Meets (Read spell ts) (run t d ts) s d (one ts))
    → Meets (Read (spell_behind text spell) ts) (run (fixed k ∷ t) d ts) s d (read_behind k one ts)
behind-meets {spell = spell} {t = t} k text d ts is one =
    chain (expect-meets k d d ts t is.0 (is.1 d)) (λ p f.
    chain (one p.1) (λ a g.
    so (f ∙ ap (λ l. plain k p.0 ∷ l) g ∙ ap (λ u. u ∷ spell a.0 a.1) (is.2 p.0))))

pub more-meets : {A : Type 0} {spell : Spells A} {one : Reader A} {s t s2 : Stack} (k : Class) (text : List ℕ) (d : ℕ) (ts : List Token)
    → IsSeparator k text
    → IsChoice s (fixed k ∷ t) s2 (are_same k) → Keeps one
    → ((ts : List Token) → Meets (Read spell ts) (run t d ts) s d (one ts))
    → Meets (Read (spell_more text spell) ts) (run s d ts) s2 d (read_more k one ts)
more-meets {one = one} k text d ts is choice keeps each =
    while-meets d ts choice (behind-takes k one keeps)
    (λ b. let e : is_known c.End ≡ true = sym (ap is_known (same_is_equal k c.End b)) ∙ plain-known k is.0 in absurd cc)
    (λ us. behind-meets k text d us is each)

pub several-meets : {A : Type 0} {spell : Spells A} {one : Reader A} {s t s2 : Stack} (k : Class) (text : List ℕ) (d : ℕ) (ts : List Token)
    → IsSeparator k text
    → IsChoice s (fixed k ∷ t) s2 (are_same k) → Keeps one
    → ((ts : List Token) → Meets (Read spell ts) (run t d ts) s d (one ts))
    → Meets (Read (spell_several text spell) ts) (run t d ts) s2 d (read_several k one ts)
several-meets {spell = spell} k text d ts is choice keeps each =
    chain (each ts) (λ a f. chain (more-meets k text d a.1 is choice keeps each) (λ more g. so (f ∙ ap (spell a.0) g)))

abbrev pub comma : IsSeparator c.Comma (codes ",")
comma = (refl, λ d. refl, λ p. refl)

-- the symbol x stands for the parts and the closing parenthesis, and m for more of them
pub listed-meets : {A : Type 0} {spell : Spells A} {one : ℕ → Reader A} (x m : Symbol) (w : Stack) (room : ℕ) (ts : List Token) (s : Stack)
    → IsChoice (x ∷ s) (w ++ (m ∷ s)) (fixed c.Close ∷ s) (λ k. not (are_same c.Close k))
    → IsChoice (m ∷ s) (fixed c.Comma ∷ (w ++ (m ∷ s))) (fixed c.Close ∷ s) (are_same c.Comma)
    → ((d : ℕ) → Keeps (one d)) → ((d : ℕ) → IsMet w spell d (one d))
    → Meets (Read (spell_listed spell) ts) (run (fixed c.Open ∷ x ∷ s) room ts) s room (read_listed room one ts)
listed-meets {spell = spell} {one = one} x m w room ts s choice more keeps each =
    opened c.Open room ts (x ∷ s) refl (λ d. refl) (λ o f.
    chain (optional-meets (read_several c.Comma (one o.0.0)) o.0.0 o.1 choice (λ b. several-meets c.Comma (codes ",") o.0.0 o.1 comma more (keeps o.0.0) (λ us. each o.0.0 us (m ∷ s)))) (λ parts g.
    chain (expect-meets c.Close o.0.0 (suc o.0.0) parts.1 s refl refl) (λ q h.
    so (rw (f, g, h)))))

-- the symbol x stands for the parts and the closing brace
pub group-meets : {A : Type 0} {spell : Spells A} {one : ℕ → Reader A} (k : Class) (text : List ℕ) (x : Symbol) (w : Stack) (room : ℕ) (ts : List Token) (s : Stack)
    → is_plain k ≡ true → ((d : ℕ) → room_after d k ≡ Some d)
    → ((p : Place) → plain k p ≡ keyword text p)
    → IsChoice (x ∷ s) (w ++ (x ∷ s)) (fixed c.CloseBrace ∷ s) (λ k. not (are_same c.CloseBrace k))
    → next (x ∷ s) c.End ≡ stop
    → ((d : ℕ) → Takes (one d)) → ((d : ℕ) → IsMet w spell d (one d))
    → Meets (Read (spell_group text spell) ts) (run (fixed k ∷ fixed c.OpenBrace ∷ x ∷ s) room ts) s room (read_group room k one ts)
group-meets {spell = spell} {one = one} k text x w room ts s n r t choice edge takes each =
    chain (expect-meets k room room ts (fixed c.OpenBrace ∷ x ∷ s) n (r room)) (λ key e.
    opened c.OpenBrace room key.1 (x ∷ s) refl (λ d. refl) (λ o f.
    chain (while-meets o.0.0 o.1 choice (takes o.0.0) (λ b. edge) (λ us. each o.0.0 us (x ∷ s))) (λ parts g.
    chain (expect-meets c.CloseBrace o.0.0 (suc o.0.0) parts.1 s refl refl) (λ q h.
    so (rw (e, f, g, h, t key.0))))))
