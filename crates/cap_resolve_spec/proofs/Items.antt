-- The items of an assertion in which nothing is found, and whose names are known, fit their place in a program.
use Rattle.std.proofs.Common.{◌≡◌, ℕ, zero, suc, ◌+◌, Bool, true, false, true≢false, not, cond, find, List, [], ◌∷◌, ◌++◌, map, length, flat_map, slice_get, Option, Some, None, option_map, IsSomeAnd, refl, sym, ap, subst, ◌∙◌, arith, eqb-true}
use Rattle.std.specs.Prelude.{◌==◌}
use Rattle.std.specs.List.{AllByRecursion, cons_option, enumerate_from}
use Rattle.std.proofs.lemmas.List.{length-map}
use Rattle.std.proofs.lemmas.List.Folds.{find_at}
use Rattle.std.proofs.lemmas.Option.{slice_get-map, same_Some}
use Rattle.cap_lin.specs.declared.row.Sort.{Sort}
use Rattle.cap_lin.specs.declared.row.Sort.TheVariants.{Int, Perm}
use Rattle.cap_galg.specs.Algebras.{PlainAlgebra, atoms, atom_algebra}
use Rattle.cap_galg.specs.Algebras as algebra
use Rattle.cap_syntax.specs.declared.place.Place.{Place}
use Rattle.cap_prog.specs.Program.{PlainItem, Items, none, item, append_items, PlainProgram, PlainRegionType}
use Rattle.cap_prog.specs.Parts.{all_items, side_items}
use Rattle.cap_prog.specs.Scopes.{HasSort, TermFits, SlotFits}
use Rattle.cap_prog.specs.WellFormed.{AskedFits, AtomFits, FactFits, ItemFits}
use Rattle.cap_parse_tree.specs.declared.word.Word.{Word}
use Rattle.cap_parse_tree.specs.declared.assertion.Counted.TheVariants.{Source, Tokens, At, From}
use Rattle.cap_parse_tree.specs.Tree.{TermTree, SlotTree, any, is, GuardTree, alone, amount, count, HeldTree, ItemTree, holds, fails, fact, guards, cell, compare, choose, ItemTrees, no_item, and_item, AssertionTree, assertion, SideTree, side, DeclaredTree, RegionTree}
use Rattle.cap_resolve_spec.specs.Finding.{found_if, wrong_arity, wrong_sort, self_fact}
use Rattle.cap_resolve_spec.specs.Parts.{PlacedItem, item_parts, items_parts, assertion_parts, side_parts, term_words, comparison_words, held_atoms, atom_word, atom_place, atom_slots, region_parameters}
use Rattle.cap_resolve_spec.specs.Names.{NameScope, sort_of, sorts_of, variable_of}
use Rattle.cap_resolve_spec.specs.Linear.{term_form}
use Rattle.cap_resolve_spec.specs.Terms.{clash, wanted_as, term_findings, terms_findings, slot_wanted}
use Rattle.cap_resolve_spec.specs.Items.{NumberedRegion, numbered, numbered_regions, is_region, region_named, is_guard, guard_kind, guard_in, region_guards, declared_kind, TypedName, typed, is_typed, name_type, type_of, fact_type, types_told, occurs, unbound, slot_occurrences, atom_occurrences, amount_sort, item_occurrences, kind_sort, has_form, item_wanted, atom_wanted, guard_findings, atom_findings, held_findings, arity_findings, region_findings, is_own, item_findings}
use Rattle.cap_resolve_spec.specs.Program.{type_number, guard_number, slot_program, asked_program, atoms_program, item_program, items_program, assertion_program, side_program, region_program}
use Rattle.cap_resolve_spec.proofs.Every.{each_append, each_front, each_behind, each_mapped, each_flat, each_weaker}
use Rattle.cap_resolve_spec.proofs.Nothing.{cons_not_nil, nothing_front, nothing_behind, nothing_flat, not_found}
use Rattle.cap_resolve_spec.proofs.Sorts.{IsKnown, known-sort, sorted-variable, no-clash}
use Rattle.cap_resolve_spec.proofs.Known.{OccursKnown}
use Rattle.cap_resolve_spec.proofs.Algebras.{algebra-atom}
use Rattle.cap_resolve_spec.proofs.Terms.{SlotKnown, term-fits, slot-fits, comparison-fits, terms-front, terms-behind, terms-flat}

-- ---- region types by their numbers

abbrev pub IsNumbered : List RegionTree → NumberedRegion → Type 0
IsNumbered rs k = slice_get (numbered_regions rs) k.number ≡ Some k

pub found-holds : {A : Type 0} (P : A → Type 0) (p : A → Bool) (xs : List A) (x : A) → AllByRecursion P xs → find p xs ≡ Some x → P x
found-holds P p [] x a e = absurd (cc)
found-holds P p (y ∷ ys) x a e = by (p y) e (λ d. found-holds P p ys x a.1 d)
  where
    by : (b : Bool) → cond b (Some y) (find p ys) ≡ Some x → (find p ys ≡ Some x → P x) → P x
    by true d rest = subst P (same_Some y x d) a.0
    by false d rest = rest d

number-at : (n : ℕ) (rs : List RegionTree) (i : ℕ) (k : NumberedRegion) → slice_get (map numbered (enumerate_from n rs)) i ≡ Some k → k.number ≡ n + i
number-at n [] i k e = absurd (cc)
number-at n (r ∷ rs) zero k e = let d : record { number = n; region = r } ≡ k = same_Some _ k e in ap (λ (z : NumberedRegion). z.number) (sym d) ∙ omega arith
number-at n (r ∷ rs) (suc i) k e = let h : k.number ≡ n + 1 + i = number-at (n + 1) rs i k e in omega arith

pub named-type : (rs : List RegionTree) (x : List ℕ) (k : NumberedRegion) → region_named rs x ≡ Some k → slice_get (numbered_regions rs) (type_number rs x) ≡ Some k
named-type rs x k e = sym (find_at (is_region x) (numbered_regions rs)) ∙ e

pub named-numbered : (rs : List RegionTree) (x : List ℕ) (k : NumberedRegion) → region_named rs x ≡ Some k → IsNumbered rs k
named-numbered rs x k e =
    let h = named-type rs x k e in
    let n : k.number ≡ type_number rs x = number-at 0 rs (type_number rs x) k h ∙ omega arith in
    ap (slice_get (numbered_regions rs)) n ∙ h

abbrev pub TypesNumbered : List RegionTree → List TypedName → Type 0
TypesNumbered rs types = AllByRecursion (λ (t : TypedName). IsNumbered rs t.type) types

-- what is told by facts is numbered
pub told-numbered : (rs : List RegionTree) (items : List PlacedItem) → TypesNumbered rs (types_told rs items)
told-numbered rs [] = tt
told-numbered rs (i ∷ items) = by i.1 (told-numbered rs items)
  where
    told : (r : Word) (x : List ℕ) (o : Option NumberedRegion) → region_named rs x ≡ o → TypesNumbered rs (types_told rs items) → TypesNumbered rs (cons_option (option_map (typed r.text) o) (types_told rs items))
    told r x None e rest = rest
    told r x (Some k) e rest = (named-numbered rs x k e, rest)

    by : (j : ItemTree) → TypesNumbered rs (types_told rs items) → TypesNumbered rs (cons_option (fact_type rs j) (types_told rs items))
    by (holds p) rest = rest
    by (fails p) rest = rest
    by (fact k p r args q s e) rest = told r k.text (region_named rs k.text) refl rest
    by (guards r p g) rest = rest
    by (cell t p s) rest = rest
    by (compare c) rest = rest
    by (choose c p a q b) rest = rest

pub typed-numbered : (rs : List RegionTree) (types : List TypedName) (x : List ℕ) (k : NumberedRegion) → TypesNumbered rs types → type_of types x ≡ Some k → IsNumbered rs k
typed-numbered rs types x k a e = by (find (is_typed x) types) refl e
  where
    by : (o : Option TypedName) → find (is_typed x) types ≡ o → option_map name_type o ≡ Some k → IsNumbered rs k
    by None h d = absurd (cc)
    by (Some t) h d = subst (IsNumbered rs) (same_Some t.type k d) (found-holds (λ (u : TypedName). IsNumbered rs u.type) (is_typed x) types t a h)

-- a program that has the region types of these trees
abbrev pub HasRegions : PlainProgram → List RegionTree → Type 0
HasRegions p rs = p.regions ≡ map (region_program rs) (numbered_regions rs)

region-at : (p : PlainProgram) (rs : List RegionTree) → HasRegions p rs → (i : ℕ) (k : NumberedRegion) → slice_get (numbered_regions rs) i ≡ Some k → (Q : PlainRegionType → Type 0) → Q (region_program rs k) → IsSomeAnd (slice_get p.regions i) Q
region-at p rs h i k e Q q = rw h (rw (slice_get-map (region_program rs) (numbered_regions rs) i) (rw e q))

-- ---- atoms

slot-known : (scope : NameScope) (inside : Bool) (s : Sort) (t : SlotTree) → AllByRecursion (OccursKnown scope) (slot_occurrences inside s t) → SlotKnown scope t
slot-known scope inside s (any p) a = tt
slot-known scope inside s (is t) a = each_mapped (OccursKnown scope) (occurs _ s) (term_words t) a

form-fits : (scope : NameScope) (a : PlainAlgebra) (g : GuardTree) → has_form a g ≡ true → terms_findings scope (flat_map (slot_wanted (Some (kind_sort a))) (atom_slots g)) ≡ [] → AllByRecursion (SlotKnown scope) (atom_slots g) → AskedFits (sorts_of scope) a (asked_program scope g)
form-fits scope algebra.unique (alone w) h e k = tt
form-fits scope algebra.unique (amount w p s q) h e k = absurd (true≢false (sym h))
form-fits scope algebra.unique (count c p w q s r) h e k = absurd (true≢false (sym h))
form-fits scope algebra.divisible (alone w) h e k = absurd (true≢false (sym h))
form-fits scope algebra.divisible (amount w p s q) h e k = slot-fits scope Perm s k.0 (terms-front scope (slot_wanted (Some Perm) s) [] e)
form-fits scope algebra.divisible (count c p w q s r) h e k = absurd (true≢false (sym h))
form-fits scope algebra.counting (alone w) h e k = absurd (true≢false (sym h))
form-fits scope algebra.counting (amount w p s q) h e k = absurd (true≢false (sym h))
form-fits scope algebra.counting (count Source p w q s r) h e k = slot-fits scope Int s k.0 (terms-front scope (slot_wanted (Some Int) s) [] e)
form-fits scope algebra.counting (count Tokens p w q s r) h e k = slot-fits scope Int s k.0 (terms-front scope (slot_wanted (Some Int) s) [] e)
form-fits scope algebra.counting (count At p w q s r) h e k = absurd (true≢false (sym h))
form-fits scope algebra.counting (count From p w q s r) h e k = absurd (true≢false (sym h))
form-fits scope algebra.indexed (alone w) h e k = absurd (true≢false (sym h))
form-fits scope algebra.indexed (amount w p s q) h e k = absurd (true≢false (sym h))
form-fits scope algebra.indexed (count Source p w q s r) h e k = absurd (true≢false (sym h))
form-fits scope algebra.indexed (count Tokens p w q s r) h e k = absurd (true≢false (sym h))
form-fits scope algebra.indexed (count At p w q s r) h e k = slot-fits scope Int s k.0 (terms-front scope (slot_wanted (Some Int) s) [] e)
form-fits scope algebra.indexed (count From p w q s r) h e k = slot-fits scope Int s k.0 (terms-front scope (slot_wanted (Some Int) s) [] e)
form-fits scope (algebra.product a b) g h e k = absurd (true≢false (sym h))
form-fits scope (algebra.sum a b) g h e k = absurd (true≢false (sym h))

slots-known : (scope : NameScope) (inside : Bool) (k : Option NumberedRegion) (g : GuardTree) → AllByRecursion (OccursKnown scope) (atom_occurrences inside k g) → AllByRecursion (SlotKnown scope) (atom_slots g)
slots-known scope inside k g a =
    each_weaker (λ t. AllByRecursion (OccursKnown scope) (slot_occurrences inside (amount_sort (declared_kind k g) g) t)) (SlotKnown scope)
    (λ t x. slot-known scope inside (amount_sort (declared_kind k g) g) t x) (atom_slots g)
    (each_flat (OccursKnown scope) (slot_occurrences inside (amount_sort (declared_kind k g) g)) (atom_slots g) a)

not-false : (b : Bool) → not b ≡ false → b ≡ true
not-false true e = refl
not-false false e = absurd (true≢false e)

pub atom-fits : (rs : List RegionTree) (scope : NameScope) (inside : Bool) (k : NumberedRegion) (g : GuardTree) → atom_findings k g ≡ [] → AllByRecursion (OccursKnown scope) (atom_occurrences inside (Some k) g) → terms_findings scope (atom_wanted (Some k) g) ≡ [] → AtomFits (sorts_of scope) (region_program rs k) (guard_number k g) (asked_program scope g)
atom-fits rs scope inside k g e a w = by (find (is_guard (atom_word g).text) (region_guards k.region)) refl
  where
    formed : (d : DeclaredTree) → guard_in k (atom_word g).text ≡ Some (guard_kind d) → slice_get (region_guards k.region) (guard_number k g) ≡ Some d → AtomFits (sorts_of scope) (region_program rs k) (guard_number k g) (asked_program scope g)
    formed d h at =
        let there = algebra-atom k.region.algebra (guard_number k g) d at in
        record {
          exists = there.0;
          form = rw there.1 (form-fits scope (guard_kind d) g
              (not-false (has_form (guard_kind d) g) (not_found (not (has_form (guard_kind d) g)) (atom_place g) wrong_sort (sym (ap (λ o. guard_findings o g) h) ∙ e)))
              (sym (ap (λ o. terms_findings scope (flat_map (slot_wanted (option_map kind_sort o)) (atom_slots g))) h) ∙ w)
              (slots-known scope inside (Some k) g a));
        }

    by : (o : Option DeclaredTree) → find (is_guard (atom_word g).text) (region_guards k.region) ≡ o → AtomFits (sorts_of scope) (region_program rs k) (guard_number k g) (asked_program scope g)
    by None h = cons_not_nil (sym (ap (λ o. guard_findings (option_map guard_kind o) g) h) ∙ e)
    by (Some d) h = formed d (ap (option_map guard_kind) h) (sym (find_at (is_guard (atom_word g).text) (region_guards k.region)) ∙ h)

-- ---- items

pub record RightItem (rs : List RegionTree) (own : Option Word) (types : List TypedName) (scope : NameScope) (i : PlacedItem) : Type 0 where
  pub known : AllByRecursion (OccursKnown scope) (item_occurrences types i)
  pub nothing : item_findings rs own types scope i.1 ≡ []
  pub wanted : terms_findings scope (item_wanted types scope i.1) ≡ []

region-sorted : (scope : NameScope) (r : Word) → IsKnown scope r → region_findings scope r ≡ [] → HasSort (sorts_of scope) Int (variable_of scope r.text)
region-sorted scope r k e = sorted-variable scope r.text Int (no-clash Int (sort_of scope r.text) (known-sort scope r.text k) (not_found (clash (Some Int) (sort_of scope r.text)) r.place wrong_sort e))

abbrev pub ItemsAre : (PlainItem → Type 0) → Items → Type 0
ItemsAre P list = AllByRecursion P (all_items list)

atoms-fit : (p : PlainProgram) (rs : List RegionTree) → HasRegions p rs → (scope : NameScope) (inside : Bool) (k : NumberedRegion) → IsNumbered rs k → (r : Word) → HasSort (sorts_of scope) Int (variable_of scope r.text) → (gs : List GuardTree) → AllByRecursion (λ g. atom_findings k g ≡ []) gs → AllByRecursion (λ g. AllByRecursion (OccursKnown scope) (atom_occurrences inside (Some k) g)) gs → AllByRecursion (λ g. terms_findings scope (atom_wanted (Some k) g) ≡ []) gs → ItemsAre (ItemFits p (sorts_of scope)) (atoms_program (Some k) scope r gs)
atoms-fit p rs h scope inside k n r s [] a b c = tt
atoms-fit p rs h scope inside k n r s (g ∷ gs) a b c = (
  (s, region-at p rs h k.number k n (λ type. AtomFits (sorts_of scope) type (guard_number k g) (asked_program scope g)) (atom-fits rs scope inside k g a.0 b.0 c.0)),
  atoms-fit p rs h scope inside k n r s gs a.1 b.1 c.1,
)

held-fit : (p : PlainProgram) (rs : List RegionTree) → HasRegions p rs → (scope : NameScope) (inside : Bool) (o : Option NumberedRegion) → ((k : NumberedRegion) → o ≡ Some k → IsNumbered rs k) → (r : Word) → HasSort (sorts_of scope) Int (variable_of scope r.text) → (gs : List GuardTree) → held_findings o r gs ≡ [] → AllByRecursion (OccursKnown scope) (flat_map (atom_occurrences inside o) gs) → terms_findings scope (flat_map (atom_wanted o) gs) ≡ [] → ItemsAre (ItemFits p (sorts_of scope)) (atoms_program o scope r gs)
held-fit p rs h scope inside None n r s gs a b c = tt
held-fit p rs h scope inside (Some k) n r s gs a b c =
    atoms-fit p rs h scope inside k (n k refl) r s gs (nothing_flat (atom_findings k) gs a) (each_flat (OccursKnown scope) (atom_occurrences inside (Some k)) gs b) (terms-flat scope (atom_wanted (Some k)) gs c)

slots-fit : (scope : NameScope) (inside : Bool) (args : List (Place × SlotTree)) → AllByRecursion (OccursKnown scope) (flat_map (λ (a : Place × SlotTree). slot_occurrences inside Int a.1) args) → terms_findings scope (flat_map (λ (a : Place × SlotTree). slot_wanted (Some Int) a.1) args) ≡ [] → AllByRecursion (SlotFits (sorts_of scope) Int) (map (λ (a : Place × SlotTree). slot_program scope a.1) args)
slots-fit scope inside [] k e = tt
slots-fit scope inside (a ∷ args) k e = (
  slot-fits scope Int a.1 (slot-known scope inside Int a.1 (each_front (OccursKnown scope) (slot_occurrences inside Int a.1) _ k)) (terms-front scope (slot_wanted (Some Int) a.1) _ e),
  slots-fit scope inside args (each_behind (OccursKnown scope) (slot_occurrences inside Int a.1) _ k) (terms-behind scope (slot_wanted (Some Int) a.1) _ e),
)

fact-fits : (p : PlainProgram) (rs : List RegionTree) → HasRegions p rs → (scope : NameScope) (inside : Bool) (k : Word) (args : List (Place × SlotTree)) (s : SlotTree) → arity_findings (region_named rs k.text) k (length args) ≡ [] → AllByRecursion (OccursKnown scope) (flat_map (λ (a : Place × SlotTree). slot_occurrences inside Int a.1) args ++ slot_occurrences inside Int s) → terms_findings scope (flat_map (λ (a : Place × SlotTree). slot_wanted (Some Int) a.1) args ++ slot_wanted (Some Int) s) ≡ []
    → IsSomeAnd (slice_get p.regions (type_number rs k.text)) (λ type. FactFits (sorts_of scope) type (map (λ (a : Place × SlotTree). slot_program scope a.1) args) (slot_program scope s))
fact-fits p rs h scope inside k args s e a w = by (region_named rs k.text) refl e
  where
    by : (o : Option NumberedRegion) → region_named rs k.text ≡ o → arity_findings o k (length args) ≡ [] → IsSomeAnd (slice_get p.regions (type_number rs k.text)) (λ type. FactFits (sorts_of scope) type (map (λ (a : Place × SlotTree). slot_program scope a.1) args) (slot_program scope s))
    by None n d = cons_not_nil d
    by (Some y) n d =
        let count : length (region_parameters y.region) ≡ length args + 1 = eqb-true _ _ (not-false (length (region_parameters y.region) == length args + 1) (not_found _ k.place wrong_arity d)) in
        region-at p rs h (type_number rs k.text) y (named-type rs k.text y n) (λ type. FactFits (sorts_of scope) type (map (λ (a : Place × SlotTree). slot_program scope a.1) args) (slot_program scope s)) (record {
          arity = count ∙ (omega arith ∙ ap suc (sym (length-map args (λ (a : Place × SlotTree). slot_program scope a.1))));
          slots = slots-fit scope inside args (each_front (OccursKnown scope) (flat_map (λ (a : Place × SlotTree). slot_occurrences inside Int a.1) args) _ a) (terms-front scope (flat_map (λ (a : Place × SlotTree). slot_wanted (Some Int) a.1) args) _ w);
          value = slot-fits scope Int s (slot-known scope inside Int s (each_behind (OccursKnown scope) (flat_map (λ (a : Place × SlotTree). slot_occurrences inside Int a.1) args) _ a)) (terms-behind scope (flat_map (λ (a : Place × SlotTree). slot_wanted (Some Int) a.1) args) _ w);
        })

pub all_items-append : (P : PlainItem → Type 0) (a b : Items) → ItemsAre P a → ItemsAre P b → ItemsAre P (append_items a b)
all_items-append P none b x y = y
all_items-append P (item i a) b x y =
    (x.0, each_append P (side_items i) (all_items (append_items a b)) (each_front P (side_items i) (all_items a) x.1) (all_items-append P a b (each_behind P (side_items i) (all_items a) x.1) y))

-- what is asked of all that items are read with
pub record ReadsTrees (p : PlainProgram) (rs : List RegionTree) (types : List TypedName) : Type 0 where
  pub declared : HasRegions p rs
  pub told : TypesNumbered rs types

abbrev pub Right : List RegionTree → Option Word → List TypedName → NameScope → List PlacedItem → Type 0
Right rs own types scope items = AllByRecursion (RightItem rs own types scope) items

fact-item : (p : PlainProgram) (rs : List RegionTree) (own : Option Word) (types : List TypedName) (scope : NameScope) → ReadsTrees p rs types → (inside : Bool) (k : Word) (q : Place) (r : Word) (args : List (Place × SlotTree)) (c : Place) (s : SlotTree) (e : Place) → RightItem rs own types scope (inside, fact k q r args c s e)
    → HasSort (sorts_of scope) Int (variable_of scope r.text) × IsSomeAnd (slice_get p.regions (type_number rs k.text)) (λ type. FactFits (sorts_of scope) type (map (λ (a : Place × SlotTree). slot_program scope a.1) args) (slot_program scope s))
fact-item p rs own types scope h inside k q r args c s e a =
    let rest = nothing_behind (arity_findings (region_named rs k.text) k (length args)) _ a.nothing in
    let rest2 = nothing_behind (found_if (is_own own r.text) k.place self_fact) _ rest in (
      region-sorted scope r a.known.0 (nothing_front (region_findings scope r) _ rest2),
      fact-fits p rs h.declared scope inside k args s (nothing_front (arity_findings (region_named rs k.text) k (length args)) _ a.nothing) a.known.1 a.wanted,
    )

held-item : (p : PlainProgram) (rs : List RegionTree) (own : Option Word) (types : List TypedName) (scope : NameScope) → ReadsTrees p rs types → (inside : Bool) (r : Word) (q : Place) (g : HeldTree) → RightItem rs own types scope (inside, guards r q g) → ItemsAre (ItemFits p (sorts_of scope)) (atoms_program (type_of types r.text) scope r (held_atoms g))
held-item p rs own types scope h inside r q g a =
    held-fit p rs h.declared scope inside (type_of types r.text) (λ k e. typed-numbered rs types r.text k h.told e) r
    (region-sorted scope r a.known.0 (nothing_front (region_findings scope r) _ a.nothing)) (held_atoms g)
    (nothing_front (held_findings (type_of types r.text) r (held_atoms g)) _ (nothing_behind (region_findings scope r) _ a.nothing)) a.known.1 a.wanted

cell-item : (p : PlainProgram) (rs : List RegionTree) (own : Option Word) (types : List TypedName) (scope : NameScope) (inside : Bool) (t : TermTree) (q : Place) (s : SlotTree) → RightItem rs own types scope (inside, cell t q s) → TermFits (sorts_of scope) Int (term_form scope t) × SlotFits (sorts_of scope) Int (slot_program scope s)
cell-item p rs own types scope inside t q s a = (
  term-fits scope Int t (each_mapped (OccursKnown scope) (occurs false Int) (term_words t) (each_front (OccursKnown scope) (unbound (term_words t)) _ a.known)) (nothing_front (term_findings scope (wanted_as (Some Int) t)) _ a.wanted),
  slot-fits scope Int s (slot-known scope inside Int s (each_behind (OccursKnown scope) (unbound (term_words t)) _ a.known)) (nothing_behind (term_findings scope (wanted_as (Some Int) t)) _ a.wanted),
)

mutual
  item-fit : (p : PlainProgram) (rs : List RegionTree) (own : Option Word) (types : List TypedName) (scope : NameScope) → ReadsTrees p rs types → (inside : Bool) (i : ItemTree) → Right rs own types scope (item_parts inside i) → ItemsAre (ItemFits p (sorts_of scope)) (item_program rs types scope i)
  item-fit p rs own types scope h inside (holds q) a = tt
  item-fit p rs own types scope h inside (fails q) a = ((tt, tt), tt)
  item-fit p rs own types scope h inside (fact k q r args c s e) a = (fact-item p rs own types scope h inside k q r args c s e a.0, tt)
  item-fit p rs own types scope h inside (guards r q g) a = held-item p rs own types scope h inside r q g a.0
  item-fit p rs own types scope h inside (cell t q s) a = (cell-item p rs own types scope inside t q s a.0, tt)
  item-fit p rs own types scope h inside (compare c) a = (comparison-fits scope c (each_mapped (OccursKnown scope) (occurs false Int) (comparison_words c) a.0.known) a.0.wanted, tt)
  item-fit p rs own types scope h inside (choose c q x d y) a = (
    comparison-fits scope c (each_mapped (OccursKnown scope) (occurs false Int) (comparison_words c) a.0.known) a.0.wanted,
    each_append (ItemFits p (sorts_of scope)) (all_items (side_program rs types scope x) ++ all_items (side_program rs types scope y)) []
        (each_append (ItemFits p (sorts_of scope)) (all_items (side_program rs types scope x)) (all_items (side_program rs types scope y))
        (side-fit p rs own types scope h x (each_front (RightItem rs own types scope) (side_parts x) (side_parts y) a.1))
        (side-fit p rs own types scope h y (each_behind (RightItem rs own types scope) (side_parts x) (side_parts y) a.1))) tt,
  )

  items-fit : (p : PlainProgram) (rs : List RegionTree) (own : Option Word) (types : List TypedName) (scope : NameScope) → ReadsTrees p rs types → (inside : Bool) (more : ItemTrees) → Right rs own types scope (items_parts inside more) → ItemsAre (ItemFits p (sorts_of scope)) (items_program rs types scope more)
  items-fit p rs own types scope h inside no_item a = tt
  items-fit p rs own types scope h inside (and_item q i more) a =
      all_items-append (ItemFits p (sorts_of scope)) (item_program rs types scope i) (items_program rs types scope more)
      (item-fit p rs own types scope h inside i (each_front (RightItem rs own types scope) (item_parts inside i) (items_parts inside more) a))
      (items-fit p rs own types scope h inside more (each_behind (RightItem rs own types scope) (item_parts inside i) (items_parts inside more) a))

  pub assertion-fit : (p : PlainProgram) (rs : List RegionTree) (own : Option Word) (types : List TypedName) (scope : NameScope) → ReadsTrees p rs types → (inside : Bool) (a : AssertionTree) → Right rs own types scope (assertion_parts inside a) → ItemsAre (ItemFits p (sorts_of scope)) (assertion_program rs types scope a)
  assertion-fit p rs own types scope h inside (assertion i more) a =
      all_items-append (ItemFits p (sorts_of scope)) (item_program rs types scope i) (items_program rs types scope more)
      (item-fit p rs own types scope h inside i (each_front (RightItem rs own types scope) (item_parts inside i) (items_parts inside more) a))
      (items-fit p rs own types scope h inside more (each_behind (RightItem rs own types scope) (item_parts inside i) (items_parts inside more) a))

  side-fit : (p : PlainProgram) (rs : List RegionTree) (own : Option Word) (types : List TypedName) (scope : NameScope) → ReadsTrees p rs types → (x : SideTree) → Right rs own types scope (side_parts x) → ItemsAre (ItemFits p (sorts_of scope)) (side_program rs types scope x)
  side-fit p rs own types scope h (side q a e) r = assertion-fit p rs own types scope h true a r
