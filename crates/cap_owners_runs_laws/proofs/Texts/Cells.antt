-- Main of a text asks for comparisons and cells alone, each name of which is a parameter's or
-- stands alone in the slot of an earlier cell.
use Rattle.std.proofs.Common.{◌≡◌, ◌⊎◌, inl, inr, ℕ, zero, suc, ◌+◌, ◌<◌, ◌≤◌, Bool, true, false, true≢false, not, cond, ◌&&◌, ◌||◌, List, [], ◌∷◌, ◌++◌, map, filter, fold, take, length, bytes_eq, Option, Some, None, refl, sym, ap, subst, ◌∙◌, arith, append_assoc}
use Rattle.std.specs.Prelude.{is_some}
use Rattle.std.specs.List.{AllByRecursion, list_any, range_with_len, position_or_len}
use Rattle.std.proofs.lemmas.Bool.{cases_eq}
use Rattle.std.proofs.lemmas.List.{length-map}
use Rattle.cap_lin.specs.declared.row.Sort.TheVariants.{Int}
use Rattle.cap_prog.specs.declared.assertion.Slot.TheVariants.{Is}
use Rattle.cap_parse_tree.specs.declared.word.Word.{Word}
use Rattle.cap_parse_tree.specs.Tree.{TermTree, SlotTree, any, is, ItemTree, holds, fails, fact, guards, cell, compare, choose, ItemTrees, no_item, and_item, AssertionTree, assertion, ClauseTree, RegionTree, FunctionTree}
use Rattle.cap_resolve_spec.specs.Finding.{main_precondition}
use Rattle.cap_resolve_spec.specs.Parts.{items_parts, placed_items, clause_parts, more_items, outer_items, clause_items, item_place, term_leaves, term_words, comparison_words, whole_name, parameters}
use Rattle.cap_resolve_spec.specs.Names.{NameScope, knows, has_name, variable_of, whole_numbers, hidden, known_as, with_first}
use Rattle.cap_resolve_spec.specs.Linear.{term_form}
use Rattle.cap_resolve_spec.specs.Items.{TypedName, Occurrence, name_of, is_bound, occurs, unbound, slot_occurrences, occurrences, scope_of}
use Rattle.cap_resolve_spec.specs.Functions.{requires_types, requires_new, fixed_names, locals, new_findings, requires_findings, asks_for_more, main_findings}
use Rattle.cap_resolve_spec.specs.Program.{slot_program, items_program, assertion_program, clause_program, function_program}
use Rattle.cap_resolve_spec.proofs.Every.{each_append, each_front, each_behind, each_weaker}
use Rattle.cap_resolve_spec.proofs.Nothing.{nothing_front, nothing_mapped, nothing_kept}
use Rattle.cap_resolve_spec.proofs.Known.{stands-in, same-text}
use Rattle.cap_resolve_spec.proofs.Variables.{words-leaves, term-form-parts}
use Rattle.cap_resolve_spec.proofs.Clauses.{all-bound}
use Rattle.cap_outline_laws.specs.Laws.{OneIs}
use Rattle.cap_owners_laws.specs.Owned.{AreKnown, names_of, IsPlainSlot, AsksForCells}
use Rattle.cap_owners_runs_laws.proofs.Texts.Binding.{whole-is}
use Rattle.cap_owners_runs_laws.proofs.Texts.Named.{all-pass}

abbrev IsAmong : List ℕ → ℕ → Type 0
IsAmong known x = OneIs (λ y. y ≡ x) known

among-more : (ns known : List ℕ) (x : ℕ) → IsAmong known x → IsAmong (ns ++ known) x
among-more [] known x h = h
among-more (n ∷ ns) known x h = inr (among-more ns known x h)

in-range :
    (low n x : ℕ) → low ≤ x → x < low + n → IsAmong (range_with_len low n) x
in-range low zero x a b = absurd (omega (arith, a, b))
in-range low (suc n) x a b = elim (cases_eq low x) [
  | inl e ↦ inl e
  | inr ne ↦ inr (in-range (low + 1) n x (omega (arith, a, ne)) (omega (arith, b)))
]

-- ---- occurrences along an assertion

-- a name that is known is that of one of the first variables
known-below :
    (x : List ℕ) (a b : NameScope) → knows a x ≡ true → variable_of (a ++ b) x < length a
known-below x [] b e = absurd (true≢false (sym e))
known-below x (k ∷ a) b e = by (has_name x k) e (λ d. known-below x a b d)
  where
    by :
        (c : Bool) → (c || knows a x) ≡ true →
        (knows a x ≡ true → position_or_len (has_name x) (a ++ b) < length a) →
        cond (not c) (1 + position_or_len (has_name x) (a ++ b)) 0 < suc (length a)
    by true d rest = omega arith
    by false d rest = let l = rest d in omega (arith, l)

any-has :
    (Q : Occurrence → Type 0) (x : List ℕ) (os : List Occurrence) →
    stands-in name_of os x ≡ true → AllByRecursion Q os → (o : Occurrence) × (x ≡ name_of o) × Q o
any-has Q x [] e h = absurd (true≢false (sym e))
any-has Q x (o ∷ os) e h =
    by (bytes_eq x (name_of o)) refl e (λ d. any-has Q x os d h.1)
  where
    by :
        (b : Bool) → bytes_eq x (name_of o) ≡ b → (b || stands-in name_of os x) ≡ true →
        (stands-in name_of os x ≡ true → (q : Occurrence) × (x ≡ name_of q) × Q q) →
        (q : Occurrence) × (x ≡ name_of q) × Q q
    by true d k rest = (o, same-text x (name_of o) d, h.0)
    by false d k rest = rest k

acc-kept :
    (P : Occurrence → Type 0) (acc os : List Occurrence) →
    AllByRecursion P (fold (with_first name_of) acc os) → AllByRecursion P acc
acc-kept P acc [] h = h
acc-kept P acc (o ∷ os) h =
    by (list_any (λ (b : Occurrence). bytes_eq (name_of o) (name_of b)) acc)
    (acc-kept P (with_first name_of acc o) os h)
  where
    by : (b : Bool) → AllByRecursion P (cond b acc (acc ++ o ∷ [])) → AllByRecursion P acc
    by true k = k
    by false k = each_front P acc (o ∷ []) k

module _ (a : NameScope) where
  -- the first ones of names that aren't known, with this occurrence
  abbrev later : List Occurrence → Occurrence → List Occurrence
  later acc o = cond (knows a (name_of o)) acc (with_first name_of acc o)

  -- it is of a known name, or of one that occurred, or is bound
  abbrev IsReady : List Occurrence → Occurrence → Type 0
  IsReady acc o =
      (knows a (name_of o) ≡ true) ⊎ ((stands-in name_of acc (name_of o) ≡ true) ⊎ (o.bound ≡ true))

  abbrev Along : List Occurrence → List Occurrence → Type 0
  Along acc [] = Unit {0}
  Along acc (o ∷ os) = IsReady acc o × Along (later acc o) os

  abbrev news : List Occurrence → List Occurrence
  news os = filter (λ o. not (knows a (name_of o))) os

  abbrev AllBound : List Occurrence → Type 0
  AllBound os = AllByRecursion (λ o. is_bound o ≡ true) os

  along :
      (acc os : List Occurrence) → AllBound (fold (with_first name_of) acc (news os)) →
      Along acc os
  along acc [] h = tt
  along acc (o ∷ os) h = by (knows a (name_of o)) refl (λ q k. along q os k) h
    where
      first :
          AllBound (fold (with_first name_of) (with_first name_of acc o) (news os)) →
          (stands-in name_of acc (name_of o) ≡ true) ⊎ (o.bound ≡ true)
      first k =
          new (stands-in name_of acc (name_of o)) refl
          (acc-kept (λ q. is_bound q ≡ true) (with_first name_of acc o) (news os) k)
        where
          new :
              (b : Bool) → stands-in name_of acc (name_of o) ≡ b →
              AllBound (cond b acc (acc ++ o ∷ [])) →
              (stands-in name_of acc (name_of o) ≡ true) ⊎ (o.bound ≡ true)
          new true e m = inl e
          new false e m = inr (each_behind (λ q. is_bound q ≡ true) acc (o ∷ []) m).0

      by :
          (b : Bool) → knows a (name_of o) ≡ b →
          ((q : List Occurrence) → AllBound (fold (with_first name_of) q (news os)) → Along q os) →
          AllBound (fold (with_first name_of) acc (cond (not b) (o ∷ news os) (news os))) →
          IsReady acc o × Along (cond b acc (with_first name_of acc o)) os
      by true e go k = (inl e, go acc k)
      by false e go k = (inr (first k), go (with_first name_of acc o) k)

-- ---- items

module _ (rs : List RegionTree) (types : List TypedName) (ps : List Word) (b : NameScope) where
  abbrev a : NameScope
  a = whole_numbers ps

  abbrev scope : NameScope
  scope = a ++ b

  -- the variables of the parameters and of all names that occurred are known
  record Seen (known : List ℕ) (acc : List Occurrence) : Type 0 where
    params : (x : ℕ) → x < length ps → IsAmong known x
    names : AllByRecursion (λ o. IsAmong known (variable_of scope (name_of o))) acc

  seen-more :
      (ns known : List ℕ) (acc : List Occurrence) → Seen known acc → Seen (ns ++ known) acc
  seen-more ns known acc s = record {
    params = λ x l. among-more ns known x (s.params x l);
    names =
        each_weaker (λ o. IsAmong known (variable_of scope (name_of o)))
        (λ o. IsAmong (ns ++ known) (variable_of scope (name_of o)))
        (λ o h. among-more ns known (variable_of scope (name_of o)) h) acc s.names;
  }

  seen-later :
      (known : List ℕ) (acc : List Occurrence) (o : Occurrence) → Seen known acc →
      IsAmong known (variable_of scope (name_of o)) → Seen known (later a acc o)
  seen-later known acc o s h =
      by (knows a (name_of o)) (list_any (λ (q : Occurrence). bytes_eq (name_of o) (name_of q)) acc)
    where
      by : (c d : Bool) → Seen known (cond c acc (cond d acc (acc ++ o ∷ [])))
      by true d = s
      by false true = s
      by false false = record {
        params = s.params;
        names =
            each_append (λ q. IsAmong known (variable_of scope (name_of q))) acc (o ∷ []) s.names
            (h, tt);
      }

  -- where it isn't bound, its variable is known
  ready-known :
      (known : List ℕ) (acc : List Occurrence) (o : Occurrence) → o.bound ≡ false →
      Seen known acc → IsReady a acc o → IsAmong known (variable_of scope (name_of o))
  ready-known known acc o e s (inl k) =
      let l = known-below (name_of o) a b k in
      let n = length-map ps (known_as Int) in
      s.params (variable_of scope (name_of o)) (omega (arith, l, n))
  ready-known known acc o e s (inr (inl k)) =
      let q = any-has (λ q. IsAmong known (variable_of scope (name_of q))) (name_of o) acc k s.names
      in
      subst (λ x. IsAmong known (variable_of scope x)) (sym q.1) q.2
  ready-known known acc o e s (inr (inr k)) = absurd (true≢false (sym k ∙ e))

  -- behind some occurrences, the others go on
  record Went (known : List ℕ) (os : List Occurrence) : Type 0 where
    acc : List Occurrence
    seen : Seen known acc
    goes : Along a acc os

  abbrev WordsKnown : List ℕ → List Word → Type 0
  WordsKnown known ws = AllByRecursion (λ w. IsAmong known (variable_of scope w.text)) ws

  words-known :
      (e : Bool) (ws : List Word) (os : List Occurrence) (known : List ℕ) (acc : List Occurrence) →
      e ≡ false → Seen known acc → Along a acc (map (occurs e Int) ws ++ os) →
      WordsKnown known ws × Went known os
  words-known e [] os known acc plain s h = (tt, record { acc = acc; seen = s; goes = h })
  words-known e (w ∷ ws) os known acc plain s h =
      let o = occurs e Int w in
      let here = ready-known known acc o plain s h.0 in
      let r = words-known e ws os known (later a acc o) plain (seen-later known acc o s here) h.1 in
      ((here, r.0), r.1)

  term-known :
      (known : List ℕ) (t : TermTree) → WordsKnown known (term_words t) →
      AreKnown known (term_form scope t)
  term-known known t h =
      term-form-parts scope (IsAmong known) t
      (words-leaves (λ w. IsAmong known (variable_of scope w.text)) (term_leaves t) h)

  -- a slot is plain, and then its names are known as well
  slot-known :
      (t : SlotTree) (os : List Occurrence) (known : List ℕ) (acc : List Occurrence) →
      Seen known acc → Along a acc (slot_occurrences false Int t ++ os) →
      IsPlainSlot known (slot_program scope t)
      × Went (names_of (slot_program scope t) ++ known) os
  slot-known (any p) os known acc s h = (tt, record { acc = acc; seen = s; goes = h })
  slot-known (is t) os known acc s h = by (whole_name t) refl
    where
      by :
          (o : Option Word) → whole_name t ≡ o →
          IsPlainSlot known (Is (term_form scope t))
          × Went (names_of (Is (term_form scope t)) ++ known) os
      by None e =
          let r = words-known (is_some (whole_name t) && true) (term_words t) os known acc
          (ap (λ o. is_some o && true) e) s h in (
            inl (term-known known t r.0),
            record {
              acc = r.1.acc;
              seen = seen-more (names_of (Is (term_form scope t))) known r.1.acc r.1.seen;
              goes = r.1.goes;
            },
          )
      by (Some w) e =
          subst
          (λ u. Along a acc (slot_occurrences false Int (is u) ++ os) →
          IsPlainSlot known (Is (term_form scope u))
          × Went (names_of (Is (term_form scope u)) ++ known) os) (sym (whole-is t w e))
          (λ k. (
            inr (variable_of scope w.text, refl),
            record {
              acc = later a acc (occurs true Int w);
              seen =
                  seen-later (variable_of scope w.text ∷ known) acc (occurs true Int w)
                  (seen-more (variable_of scope w.text ∷ []) known acc s) (inl refl);
              goes = k.1;
            },
          )) h

  abbrev AskLittle : List ItemTree → Type 0
  AskLittle xs = AllByRecursion (λ i. asks_for_more i ≡ false) xs

  items-ask :
      (more : ItemTrees) (known : List ℕ) (acc : List Occurrence) → AskLittle (more_items more) →
      Seen known acc → Along a acc (occurrences types (items_parts false more)) →
      AsksForCells known (items_program rs types scope more)
  items-ask no_item known acc h s k = tt
  items-ask (and_item p (holds q) more) known acc h s k = items-ask more known acc h.1 s k
  items-ask (and_item p (fails q) more) known acc h s k = (tt, tt, items-ask more known acc h.1 s k)
  items-ask (and_item p (compare c) more) known acc h s k =
      let rest = occurrences types (items_parts false more) in
      let r = words-known false (comparison_words c) rest known acc refl s k in
      let P = λ (w : Word). IsAmong known (variable_of scope w.text) in (
        term-known known c.left (each_front P (term_words c.left) (term_words c.right) r.0),
        term-known known c.right (each_behind P (term_words c.left) (term_words c.right) r.0),
        items-ask more known r.1.acc h.1 r.1.seen r.1.goes,
      )
  items-ask (and_item p (cell t q x) more) known acc h s k =
      let rest = occurrences types (items_parts false more) in
      let r = words-known false (term_words t) (slot_occurrences false Int x ++ rest) known acc refl
      s
      (subst (Along a acc)
      (append_assoc (unbound (term_words t)) (slot_occurrences false Int x) rest) k) in
      let y = slot-known x rest known r.1.acc r.1.seen r.1.goes in (
        term-known known t r.0,
        y.0,
        items-ask more (names_of (slot_program scope x) ++ known) y.1.acc h.1 y.1.seen y.1.goes,
      )
  items-ask (and_item p (fact c q r args d x e) more) known acc h s k = absurd (true≢false h.0)
  items-ask (and_item p (guards r q g) more) known acc h s k = absurd (true≢false h.0)
  items-ask (and_item p (choose c q x d y) more) known acc h s k = absurd (true≢false h.0)

  clause-asks :
      (c : Option ClauseTree) (known : List ℕ) → AskLittle (clause_items c) → Seen known [] →
      Along a [] (occurrences types (clause_parts c)) →
      AsksForCells known (clause_program rs types scope c)
  clause-asks None known h s k = tt
  clause-asks (Some c) known h s k = by c.assertion h k
    where
      by :
          (x : AssertionTree) → AskLittle (outer_items x) →
          Along a [] (occurrences types (placed_items x)) →
          AsksForCells known (assertion_program rs types scope x)
      by (assertion i more) h k =
          items-ask (and_item (record { line = 0; column = 0 }) i more) known [] h s k

-- ---- main

take-none : {A : Type 0} (xs : List A) → take 1 xs ≡ [] → xs ≡ []
take-none [] e = refl
take-none (x ∷ xs) e = absurd (cc)

pub main-asks :
    (rs : List RegionTree) (fs : List FunctionTree) (f : FunctionTree) →
    requires_findings rs f ≡ [] → main_findings f ≡ [] →
    AsksForCells (range_with_len 0 (function_program rs fs f).params)
    (function_program rs fs f).requires
main-asks rs fs f e m =
    let ps = parameters f in
    let n = length ps in
    let types = requires_types rs f in
    let new = requires_new rs f in
    let few = nothing_kept asks_for_more (clause_items f.precondition)
    (take-none (filter asks_for_more (clause_items f.precondition))
    (nothing_mapped (λ i. record { place = item_place i; cause = main_precondition })
    (take 1 (filter asks_for_more (clause_items f.precondition))) m)) in
    let bound : AllByRecursion (λ o. is_bound o ≡ true) new =
    subst (AllByRecursion (λ o. is_bound o ≡ true))
    (all-bound new (nothing_front (new_findings new) _ e)) (all-pass is_bound new) in
    clause-asks rs types ps (hidden (locals rs f) ++ scope_of (fixed_names rs f)) f.precondition
    (range_with_len 0 n) few
    (record { params = λ x l. in-range 0 n x (omega arith) (omega (arith, l)); names = tt })
    (along (whole_numbers ps) [] (occurrences types (clause_parts f.precondition)) bound)
