-- An occurrence of a name in a binding position binds the name's variable in the program.
use Rattle.std.proofs.Common.{◌≡◌, ℕ, Bool, true, false, true≢false, ◌&&◌, ◌||◌, List, [], ◌∷◌, ◌++◌, map, flat_map, Option, Some, None, refl, sym, ap, subst, ◌∙◌, arith}
use Rattle.std.specs.Prelude.{◌==◌, is_some}
use Rattle.std.specs.List.{AllByRecursion, list_any}
use Rattle.std.proofs.lemmas.Option.{same_Some}
use Rattle.std.proofs.lemmas.Bool.Decides.{nat_tests}
use Rattle.cap_lin.specs.declared.row.Sort.{Sort}
use Rattle.cap_lin.specs.declared.row.Sort.TheVariants.{Int}
use Rattle.cap_syntax.specs.declared.place.Place.{Place}
use Rattle.cap_prog.specs.Program.{Items, none, item, append_items}
use Rattle.cap_goal_spec.specs.Environments.{asked_slot, is_slot, binds, is_bound_by}
use Rattle.cap_parse_tree.specs.declared.word.Word.{Word}
use Rattle.cap_parse_tree.specs.declared.assertion.Counted.TheVariants.{Source, Tokens, At, From}
use Rattle.cap_parse_tree.specs.Tree.{literal, whole_share, named, bracketed, product, no_factor, times, TermTree, term, no_product, signed, SlotTree, any, is, GuardTree, alone, amount, count, ItemTree, holds, fails, fact, guards, cell, compare, choose, ItemTrees, no_item, and_item, AssertionTree, assertion, SideTree, side, ClauseTree, RegionTree}
use Rattle.cap_resolve_spec.specs.Parts.{PlacedItem, item_parts, items_parts, assertion_parts, side_parts, placed_items, clause_parts, term_words, comparison_words, whole_name, held_atoms, atom_slots}
use Rattle.cap_resolve_spec.specs.Names.{NameScope, variable_of}
use Rattle.cap_resolve_spec.specs.Items.{NumberedRegion, TypedName, type_of, declared_kind, Occurrence, name_of, occurs, unbound, slot_occurrences, amount_sort, atom_occurrences, item_occurrences, occurrences, region_findings, held_findings, item_findings}
use Rattle.cap_resolve_spec.specs.Program.{slot_program, asked_program, atoms_program, item_program, items_program, assertion_program, clause_program}
use Rattle.cap_resolve_spec.proofs.Every.{each_append, each_front, each_behind, each_map, each_weaker, each_of}
use Rattle.cap_resolve_spec.proofs.Nothing.{cons_not_nil, nothing_front, nothing_behind, nothing_flat}

-- ---- truth

pub or-left : (a b : Bool) → a ≡ true → (a || b) ≡ true
or-left true b e = refl
or-left false b e = absurd (true≢false (sym e))

pub or-right : (a b : Bool) → b ≡ true → (a || b) ≡ true
or-right true b e = refl
or-right false b e = e

pub or-false : (a b : Bool) → (a || b) ≡ false → (a ≡ false) × (b ≡ false)
or-false true b e = absurd (true≢false e)
or-false false b e = (refl, e)

and-false : (a : Bool) → (a && false) ≡ false
and-false true = refl
and-false false = refl

-- ---- items that bind a name

bound-front :
    (x : ℕ) (a b : Items) → is_bound_by x a ≡ true → is_bound_by x (append_items a b) ≡ true
bound-front x none b e = absurd (true≢false (sym e))
bound-front x (item i a) b e = by (binds x i) e (λ d. bound-front x a b d)
  where
    by :
        (c : Bool) → (c || is_bound_by x a) ≡ true →
        (is_bound_by x a ≡ true → is_bound_by x (append_items a b) ≡ true) →
        (c || is_bound_by x (append_items a b)) ≡ true
    by true d rest = refl
    by false d rest = rest d

bound-behind :
    (x : ℕ) (a b : Items) → is_bound_by x b ≡ true → is_bound_by x (append_items a b) ≡ true
bound-behind x none b e = e
bound-behind x (item i a) b e =
    or-right (binds x i) (is_bound_by x (append_items a b)) (bound-behind x a b e)

-- ---- a slot that is one name alone

pub whole-is :
    (t : TermTree) (w : Word) → whole_name t ≡ Some w →
    t ≡ term None (product (named w) no_factor) no_product
whole-is (term None (product (named v) no_factor) no_product) w e =
    ap (λ x. term None (product (named x) no_factor) no_product) (same_Some v w e)
whole-is (term None (product (named v) no_factor) (signed s p m ms)) w e = absurd (cc)
whole-is (term None (product (named v) (times p f fs)) ms) w e = absurd (cc)
whole-is (term None (product (literal n) fs) ms) w e = absurd (cc)
whole-is (term None (product (whole_share p) fs) ms) w e = absurd (cc)
whole-is (term None (product (bracketed p t q) fs) ms) w e = absurd (cc)
whole-is (term (Some p) m ms) w e = absurd (cc)

same-itself : (n : ℕ) → (n == n) ≡ true
same-itself n = grind (arith, nat_tests)

-- where it is bound, something holds of the variable of its name
abbrev pub WhereBound : NameScope → (ℕ → Type 0) → Occurrence → Type 0
WhereBound scope P o = o.bound ≡ true → P (variable_of scope (name_of o))

-- it is in no binding position
abbrev pub IsLoose : Occurrence → Type 0
IsLoose o = o.bound ≡ false

loose-bound :
    (scope : NameScope) (P : ℕ → Type 0) (o : Occurrence) → IsLoose o → WhereBound scope P o
loose-bound scope P o e b = absurd (true≢false (sym b ∙ e))

all-loose :
    (s : Sort) (b : Bool) (ws : List Word) → b ≡ false →
    AllByRecursion IsLoose (map (occurs b s) ws)
all-loose s b ws e = each_map IsLoose (occurs b s) ws (each_of (λ w. b ≡ false) (λ w. e) ws)

loose-slot : (s : Sort) (t : SlotTree) → AllByRecursion IsLoose (slot_occurrences true s t)
loose-slot s (any p) = tt
loose-slot s (is t) =
    all-loose s (is_some (whole_name t) && false) (term_words t)
    (and-false (is_some (whole_name t)))

module _ (scope : NameScope) where
  abbrev IsSlotOf : SlotTree → ℕ → Type 0
  IsSlotOf t x = is_slot x (slot_program scope t) ≡ true

  slot-binds :
      (s : Sort) (t : SlotTree) →
      AllByRecursion (WhereBound scope (IsSlotOf t)) (slot_occurrences false s t)
  slot-binds s (any p) = tt
  slot-binds s (is t) = by (whole_name t) refl
    where
      by :
          (o : Option Word) → whole_name t ≡ o →
          AllByRecursion (WhereBound scope (IsSlotOf (is t))) (slot_occurrences false s (is t))
      by None e =
          each_weaker IsLoose (WhereBound scope (IsSlotOf (is t)))
          (λ o l. loose-bound scope (IsSlotOf (is t)) o l) (slot_occurrences false s (is t))
          (all-loose s (is_some (whole_name t) && true) (term_words t)
          (ap (λ o. is_some o && true) e))
      by (Some w) e =
          subst
          (λ u. AllByRecursion (WhereBound scope (IsSlotOf (is u)))
          (slot_occurrences false s (is u)))
          (sym (whole-is t w e)) (λ b. same-itself (variable_of scope w.text), tt)

-- ---- what holds of each occurrence

all-flat :
    {A B : Type 0} (P : B → Type 0) (f : A → List B) (xs : List A) →
    AllByRecursion (λ x. AllByRecursion P (f x)) xs → AllByRecursion P (flat_map f xs)
all-flat P f [] h = tt
all-flat P f (x ∷ xs) h = each_append P (f x) (flat_map f xs) h.0 (all-flat P f xs h.1)

each-flat :
    {A B : Type 0} (P : B → Type 0) (f : A → List B) (xs : List A) →
    ((x : A) → AllByRecursion P (f x)) → AllByRecursion P (flat_map f xs)
each-flat P f xs h = all-flat P f xs (each_of (λ x. AllByRecursion P (f x)) h xs)

none-bound :
    (scope : NameScope) (P : ℕ → Type 0) (os : List Occurrence) → AllByRecursion IsLoose os →
    AllByRecursion (WhereBound scope P) os
none-bound scope P os h =
    each_weaker IsLoose (WhereBound scope P) (λ o l. loose-bound scope P o l) os h

bound-weaker :
    (scope : NameScope) (P Q : ℕ → Type 0) → ((x : ℕ) → P x → Q x) → (os : List Occurrence) →
    AllByRecursion (WhereBound scope P) os → AllByRecursion (WhereBound scope Q) os
bound-weaker scope P Q f os h =
    each_weaker (WhereBound scope P) (WhereBound scope Q)
    (λ o k b. f (variable_of scope (name_of o)) (k b)) os h

unbound-loose : (ws : List Word) → AllByRecursion IsLoose (unbound ws)
unbound-loose ws = all-loose Int false ws refl

-- ---- items in the sides of a conditional bind nothing

module _ (types : List TypedName) where
  abbrev LoosePart : PlacedItem → Type 0
  LoosePart i = AllByRecursion IsLoose (item_occurrences types i)

  loose-atom :
      (k : Option NumberedRegion) (g : GuardTree) →
      AllByRecursion IsLoose (atom_occurrences true k g)
  loose-atom k g =
      let s = amount_sort (declared_kind k g) g in
      each-flat IsLoose (slot_occurrences true s) (atom_slots g) (loose-slot s)

  loose-item : (i : ItemTree) → LoosePart (true, i)
  loose-item (holds p) = tt
  loose-item (fails p) = tt
  loose-item (fact k p r args q s e) = (
    refl,
    each_append IsLoose (flat_map (λ (a : Place × SlotTree). slot_occurrences true Int a.1) args)
        (slot_occurrences true Int s)
        (each-flat IsLoose (λ (a : Place × SlotTree). slot_occurrences true Int a.1) args
        (λ a. loose-slot Int a.1)) (loose-slot Int s),
  )
  loose-item (guards r p g) = (
    refl,
    each-flat IsLoose (atom_occurrences true (type_of types r.text)) (held_atoms g)
        (loose-atom (type_of types r.text)),
  )
  loose-item (cell t p s) =
      each_append IsLoose (unbound (term_words t)) (slot_occurrences true Int s)
      (unbound-loose (term_words t)) (loose-slot Int s)
  loose-item (compare c) = unbound-loose (comparison_words c)
  loose-item (choose c p a q b) = unbound-loose (comparison_words c)

  mutual
    item-inside : (i : ItemTree) → AllByRecursion LoosePart (item_parts true i)
    item-inside (holds p) = (loose-item (holds p), tt)
    item-inside (fails p) = (loose-item (fails p), tt)
    item-inside (fact k p r args q s e) = (loose-item (fact k p r args q s e), tt)
    item-inside (guards r p g) = (loose-item (guards r p g), tt)
    item-inside (cell t p s) = (loose-item (cell t p s), tt)
    item-inside (compare c) = (loose-item (compare c), tt)
    item-inside (choose c p a q b) = (
      loose-item (choose c p a q b),
      each_append LoosePart (side_parts a) (side_parts b) (side-inside a) (side-inside b),
    )

    items-inside : (more : ItemTrees) → AllByRecursion LoosePart (items_parts true more)
    items-inside no_item = tt
    items-inside (and_item p i more) =
        each_append LoosePart (item_parts true i) (items_parts true more) (item-inside i)
        (items-inside more)

    assertion-inside : (a : AssertionTree) → AllByRecursion LoosePart (assertion_parts true a)
    assertion-inside (assertion i more) =
        each_append LoosePart (item_parts true i) (items_parts true more) (item-inside i)
        (items-inside more)

    side-inside : (a : SideTree) → AllByRecursion LoosePart (side_parts a)
    side-inside (side p a q) = assertion-inside a

-- ---- items outside

module _ (rs : List RegionTree) (own : Option Word) (types : List TypedName) (scope : NameScope)
  where
    abbrev pub Binds : Items → Occurrence → Type 0
    Binds items o = WhereBound scope (λ x. is_bound_by x items ≡ true) o

    abbrev BoundPart : Items → PlacedItem → Type 0
    BoundPart items i = AllByRecursion (Binds items) (item_occurrences types i)

    abbrev IsRight : PlacedItem → Type 0
    IsRight i = item_findings rs own types scope i.1 ≡ []

    args-bind :
        (args : List (Place × SlotTree)) →
        AllByRecursion
        (WhereBound scope (λ x. list_any (is_slot x) (map (λ a. slot_program scope a.1) args) ≡ true))
        (flat_map (λ (a : Place × SlotTree). slot_occurrences false Int a.1) args)
    args-bind [] = tt
    args-bind (a ∷ args) =
        let rest = λ (x : ℕ). list_any (is_slot x)
        (map (λ (b : Place × SlotTree). slot_program scope b.1) args) in
        let here = λ (x : ℕ). is_slot x (slot_program scope a.1) in
        let P = WhereBound scope (λ x. (here x || rest x) ≡ true) in
        each_append P (slot_occurrences false Int a.1)
        (flat_map (λ (b : Place × SlotTree). slot_occurrences false Int b.1) args)
        (bound-weaker scope (λ x. here x ≡ true) (λ x. (here x || rest x) ≡ true)
        (λ x e. or-left (here x) (rest x) e) (slot_occurrences false Int a.1)
        (slot-binds scope Int a.1))
        (bound-weaker scope (λ x. rest x ≡ true) (λ x. (here x || rest x) ≡ true)
        (λ x e. or-right (here x) (rest x) e)
        (flat_map (λ (b : Place × SlotTree). slot_occurrences false Int b.1) args) (args-bind args))

    one-slot :
        (s : Sort) (t : SlotTree) →
        AllByRecursion (WhereBound scope (λ x. is_slot x (slot_program scope t) ≡ true))
        (slot_occurrences false s t ++ [])
    one-slot s t =
        each_append (WhereBound scope (λ x. is_slot x (slot_program scope t) ≡ true))
        (slot_occurrences false s t) [] (slot-binds scope s t) tt

    atom-binds :
        (s : Sort) (g : GuardTree) →
        AllByRecursion
        (WhereBound scope (λ x. is_slot x (asked_slot (asked_program scope g)) ≡ true))
        (flat_map (slot_occurrences false s) (atom_slots g))
    atom-binds s (alone w) = tt
    atom-binds s (amount w p t q) = one-slot s t
    atom-binds s (count Source p w q t r) = one-slot s t
    atom-binds s (count Tokens p w q t r) = one-slot s t
    atom-binds s (count At p w q t r) = one-slot s t
    atom-binds s (count From p w q t r) = one-slot s t

    atoms-bind :
        (k : NumberedRegion) (r : Word) (gs : List GuardTree) →
        AllByRecursion (Binds (atoms_program (Some k) scope r gs))
        (flat_map (atom_occurrences false (Some k)) gs)
    atoms-bind k r [] = tt
    atoms-bind k r (g ∷ gs) =
        let s = amount_sort (declared_kind (Some k) g) g in
        let rest = λ (x : ℕ). is_bound_by x (atoms_program (Some k) scope r gs) in
        let here = λ (x : ℕ). is_slot x (asked_slot (asked_program scope g)) in
        each_append (Binds (atoms_program (Some k) scope r (g ∷ gs)))
        (atom_occurrences false (Some k) g) (flat_map (atom_occurrences false (Some k)) gs)
        (bound-weaker scope (λ x. here x ≡ true) (λ x. (here x || rest x) ≡ true)
        (λ x e. or-left (here x) (rest x) e) (atom_occurrences false (Some k) g) (atom-binds s g))
        (bound-weaker scope (λ x. rest x ≡ true) (λ x. (here x || rest x) ≡ true)
        (λ x e. or-right (here x) (rest x) e) (flat_map (atom_occurrences false (Some k)) gs)
        (atoms-bind k r gs))

    held-bind :
        (r : Word) (gs : List GuardTree) (o : Option NumberedRegion) → held_findings o r gs ≡ [] →
        AllByRecursion (Binds (atoms_program o scope r gs)) (flat_map (atom_occurrences false o) gs)
    held-bind r gs None e = cons_not_nil e
    held-bind r gs (Some k) e = atoms-bind k r gs

    item-binds :
        (i : ItemTree) → IsRight (false, i) → BoundPart (item_program rs types scope i) (false, i)
    item-binds (holds p) h = tt
    item-binds (fails p) h = tt
    item-binds (fact k p r args q s e) h =
        let y = variable_of scope r.text in
        let named = λ (x : ℕ). y == x in
        let given = λ (x : ℕ). list_any (is_slot x)
        (map (λ (a : Place × SlotTree). slot_program scope a.1) args) in
        let last = λ (x : ℕ). is_slot x (slot_program scope s) in
        let all = λ (x : ℕ). (named x || (given x || last x)) || false in
        let P = WhereBound scope (λ x. all x ≡ true) in (
          λ b. or-left (named y || (given y || last y)) false
              (or-left (named y) (given y || last y) (same-itself y)),
          each_append P (flat_map (λ (a : Place × SlotTree). slot_occurrences false Int a.1) args)
              (slot_occurrences false Int s)
              (bound-weaker scope (λ x. given x ≡ true) (λ x. all x ≡ true)
              (λ x d. or-left (named x || (given x || last x)) false
              (or-right (named x) (given x || last x) (or-left (given x) (last x) d)))
              (flat_map (λ (a : Place × SlotTree). slot_occurrences false Int a.1) args)
              (args-bind args))
              (bound-weaker scope (λ x. last x ≡ true) (λ x. all x ≡ true)
              (λ x d. or-left (named x || (given x || last x)) false
              (or-right (named x) (given x || last x) (or-right (given x) (last x) d)))
              (slot_occurrences false Int s) (slot-binds scope Int s)),
        )
    item-binds (guards r p g) h = (
      λ b. absurd (true≢false (sym b)),
      held-bind r (held_atoms g) (type_of types r.text)
          (nothing_front (held_findings (type_of types r.text) r (held_atoms g)) _
          (nothing_behind (region_findings scope r) _ h)),
    )
    item-binds (cell t p s) h =
        let last = λ (x : ℕ). is_slot x (slot_program scope s) in
        each_append (WhereBound scope (λ x. (last x || false) ≡ true)) (unbound (term_words t))
        (slot_occurrences false Int s)
        (none-bound scope (λ x. (last x || false) ≡ true) (unbound (term_words t))
        (unbound-loose (term_words t)))
        (bound-weaker scope (λ x. last x ≡ true) (λ x. (last x || false) ≡ true)
        (λ x e. or-left (last x) false e) (slot_occurrences false Int s) (slot-binds scope Int s))
    item-binds (compare c) h =
        none-bound scope (λ x. is_bound_by x (item_program rs types scope (compare c)) ≡ true)
        (unbound (comparison_words c)) (unbound-loose (comparison_words c))
    item-binds (choose c p a q b) h =
        none-bound scope (λ x. is_bound_by x (item_program rs types scope (choose c p a q b)) ≡ true)
        (unbound (comparison_words c)) (unbound-loose (comparison_words c))

    -- ---- assertions

    loose-part : (items : Items) (i : PlacedItem) → LoosePart types i → BoundPart items i
    loose-part items i h =
        none-bound scope (λ x. is_bound_by x items ≡ true) (item_occurrences types i) h

    item-outside :
        (i : ItemTree) → AllByRecursion IsRight (item_parts false i) →
        AllByRecursion (BoundPart (item_program rs types scope i)) (item_parts false i)
    item-outside (holds p) h = (item-binds (holds p) h.0, tt)
    item-outside (fails p) h = (item-binds (fails p) h.0, tt)
    item-outside (fact k p r args q s e) h = (item-binds (fact k p r args q s e) h.0, tt)
    item-outside (guards r p g) h = (item-binds (guards r p g) h.0, tt)
    item-outside (cell t p s) h = (item-binds (cell t p s) h.0, tt)
    item-outside (compare c) h = (item-binds (compare c) h.0, tt)
    item-outside (choose c p a q b) h =
        let items = item_program rs types scope (choose c p a q b) in (
          item-binds (choose c p a q b) h.0,
          each_weaker (LoosePart types) (BoundPart items) (loose-part items)
              (side_parts a ++ side_parts b)
              (each_append (LoosePart types) (side_parts a) (side_parts b) (side-inside types a)
              (side-inside types b)),
        )

    front-part :
        (a b : Items) (i : PlacedItem) → BoundPart a i → BoundPart (append_items a b) i
    front-part a b i h =
        bound-weaker scope (λ x. is_bound_by x a ≡ true)
        (λ x. is_bound_by x (append_items a b) ≡ true) (λ x e. bound-front x a b e)
        (item_occurrences types i) h

    behind-part :
        (a b : Items) (i : PlacedItem) → BoundPart b i → BoundPart (append_items a b) i
    behind-part a b i h =
        bound-weaker scope (λ x. is_bound_by x b ≡ true)
        (λ x. is_bound_by x (append_items a b) ≡ true) (λ x e. bound-behind x a b e)
        (item_occurrences types i) h

    -- the first item, and then the others
    both-outside :
        (i : ItemTree) (more : ItemTrees) →
        AllByRecursion (BoundPart (item_program rs types scope i)) (item_parts false i) →
        AllByRecursion (BoundPart (items_program rs types scope more)) (items_parts false more) →
        AllByRecursion
        (BoundPart (append_items (item_program rs types scope i) (items_program rs types scope more)))
        (item_parts false i ++ items_parts false more)
    both-outside i more h k =
        let a = item_program rs types scope i in
        let b = items_program rs types scope more in
        each_append (BoundPart (append_items a b)) (item_parts false i) (items_parts false more)
        (each_weaker (BoundPart a) (BoundPart (append_items a b)) (front-part a b)
        (item_parts false i) h)
        (each_weaker (BoundPart b) (BoundPart (append_items a b)) (behind-part a b)
        (items_parts false more) k)

    items-outside :
        (more : ItemTrees) → AllByRecursion IsRight (items_parts false more) →
        AllByRecursion (BoundPart (items_program rs types scope more)) (items_parts false more)
    items-outside no_item h = tt
    items-outside (and_item p i more) h =
        both-outside i more
        (item-outside i (each_front IsRight (item_parts false i) (items_parts false more) h))
        (items-outside more (each_behind IsRight (item_parts false i) (items_parts false more) h))

    -- each occurrence in a binding position binds the variable of its name
    pub assertion-binds :
        (a : AssertionTree) →
        flat_map (λ (i : PlacedItem). item_findings rs own types scope i.1) (placed_items a) ≡ [] →
        AllByRecursion (Binds (assertion_program rs types scope a))
        (occurrences types (placed_items a))
    assertion-binds (assertion i more) e =
        let h = nothing_flat (λ (j : PlacedItem). item_findings rs own types scope j.1)
        (item_parts false i ++ items_parts false more) e in
        let items = append_items (item_program rs types scope i) (items_program rs types scope more)
        in
        all-flat (Binds items) (item_occurrences types) (item_parts false i ++ items_parts false more)
        (both-outside i more
        (item-outside i (each_front IsRight (item_parts false i) (items_parts false more) h))
        (items-outside more (each_behind IsRight (item_parts false i) (items_parts false more) h)))

    pub clause-binds :
        (c : Option ClauseTree) →
        flat_map (λ (i : PlacedItem). item_findings rs own types scope i.1) (clause_parts c) ≡ [] →
        AllByRecursion (Binds (clause_program rs types scope c)) (occurrences types (clause_parts c))
    clause-binds None e = tt
    clause-binds (Some c) e = assertion-binds c.assertion e
