-- A table finds the first declaration that has the name.
use Rattle.std.proofs.Common.{◌≡◌, ℕ, zero, suc, ◌+◌, ◌<◌, ◌≤◌, length, get_or, Bool, true, false, not, ◌||◌, cond, find, List, [], ◌∷◌, ◌++◌, map, slice_get, Option, Some, None, option_map, refl, sym, ap, subst, ◌∙◌, arith, add-zero, bytes_eq}
use Rattle.std.specs.List.{AllByRecursion, position_or_len, enumerate_from}
use Rattle.std.proofs.lemmas.List.Folds.{find_at}
use Rattle.std.proofs.lemmas.Option.{slice_get-map, slice_get-get_or}
use Rattle.cap_lin.specs.declared.row.Sort.TheVariants.{Int}
use Rattle.cap_galg.specs.Views.{atom_view}
use Rattle.cap_parse_tree.specs.Tree.{DeclaredTree, unique, divisible, counting, indexed, grouped, RegionTree, FunctionTree}
use Rattle.cap_resolve_spec.specs.Names.{KnownName, NameScope, known_as, has_name, variable_of}
use Rattle.cap_resolve_spec.specs.Items.{NumberedRegion, TypedName, is_typed, name_type, type_of, numbered, is_region, region_named, is_guard, guard_kind}
use Rattle.cap_resolve_spec.specs.Functions.{is_function, function_named}
use Rattle.cap_resolve_spec.specs.Program.{type_number, function_number}
use Rattle.cap_resolve_tables.specs.Entries.{guard_entry, guard_atom, HasFewGuards}
use Rattle.cap_resolve_tables.specs.Tables.{type_view, function_seen, typed_view, typed_list, typed_seen, typed_names, outer_names}
use Rattle.cap_parse_tree.specs.declared.region.Region.{Region}
use Rattle.cap_parse_tree.specs.declared.tree.Function.{Function}
use Rattle.cap_parse_tree.specs.Views.{region_view, function_view}
use Rattle.cap_resolve_parts.specs.Views.{regions_view, functions_view}
use Rattle.std.specs.Borrow.{Bor}
use Rattle.cap_resolve_tables.specs.declared.tables.Typed.{Typed}
use Rattle.cap_resolve_tables.specs.declared.tables.TypedNames.{TypedNames}
use Rattle.cap_resolve_tables.specs.declared.tables.RegionType.{RegionType}

pub position_entries : {A : Type 0} (p : A → Bool) (entry : A → Option KnownName) (x : List ℕ) → ((a : A) → p a ≡ has_name x (entry a)) → (all : List A) → position_or_len p all ≡ variable_of (map entry all) x
position_entries p entry x h [] = refl
position_entries p entry x h (a ∷ all) =
    ap (λ b. cond (not b) (1 + position_or_len p all) 0) (h a)
    ∙ ap (λ n. cond (not (has_name x (entry a))) (1 + n) 0) (position_entries p entry x h all)

-- ---- guards

or_false : (b : Bool) → (b || false) ≡ b
or_false true = refl
or_false false = refl

guard_named : (x : List ℕ) (d : DeclaredTree) → is_guard x d ≡ has_name x (guard_entry d)
guard_named x (unique w) = or_false (bytes_eq x w.text)
guard_named x (divisible p w) = or_false (bytes_eq x w.text)
guard_named x (counting p w q) = or_false (bytes_eq x w.text)
guard_named x (indexed p w q) = or_false (bytes_eq x w.text)
guard_named x (grouped p a q) = refl

kind_of_atom : (d : DeclaredTree) → guard_kind d ≡ atom_view (guard_atom d)
kind_of_atom (unique w) = refl
kind_of_atom (divisible p w) = refl
kind_of_atom (counting p w q) = refl
kind_of_atom (indexed p w q) = refl
kind_of_atom (grouped p a q) = refl

kinds_seen : (o : Option DeclaredTree) → option_map guard_kind o ≡ option_map atom_view (option_map guard_atom o)
kinds_seen None = refl
kinds_seen (Some d) = ap Some (kind_of_atom d)

pub guard_place : (ds : List DeclaredTree) (x : List ℕ) → position_or_len (is_guard x) ds ≡ variable_of (map guard_entry ds) x
guard_place ds x = position_entries (is_guard x) guard_entry x (guard_named x) ds

pub guard_at : (ds : List DeclaredTree) (x : List ℕ) → option_map guard_kind (find (is_guard x) ds) ≡ option_map atom_view (slice_get (map guard_atom ds) (variable_of (map guard_entry ds) x))
guard_at ds x =
    ap (option_map guard_kind) (find_at (is_guard x) ds ∙ ap (slice_get ds) (guard_place ds x))
    ∙ (kinds_seen (slice_get ds (variable_of (map guard_entry ds) x))
    ∙ ap (option_map atom_view) (sym (slice_get-map guard_atom ds (variable_of (map guard_entry ds) x))))

-- ---- region types

abbrev pub region_entry : RegionTree → Option KnownName
region_entry r = known_as Int r.name

abbrev numbered_entry : NumberedRegion → Option KnownName
numbered_entry k = region_entry k.region

numbered_entries : (n : ℕ) (rs : List RegionTree) → map numbered_entry (map numbered (enumerate_from n rs)) ≡ map region_entry rs
numbered_entries n [] = refl
numbered_entries n (r ∷ rs) = ap (λ es. region_entry r ∷ es) (numbered_entries (n + 1) rs)

pub region_place : (rs : List RegionTree) (x : List ℕ) → type_number rs x ≡ variable_of (map region_entry rs) x
region_place rs x =
    position_entries (is_region x) numbered_entry x (λ k. refl) (map numbered (enumerate_from 0 rs))
    ∙ ap (λ es. variable_of es x) (numbered_entries 0 rs)

abbrev with_number : ℕ → RegionTree → NumberedRegion
with_number n r = record { number = n; region = r }

numbered_at : (n : ℕ) (rs : List RegionTree) (i : ℕ) → slice_get (map numbered (enumerate_from n rs)) i ≡ option_map (with_number (n + i)) (slice_get rs i)
numbered_at n [] i = refl
numbered_at n (r ∷ rs) zero = ap (λ m. Some (with_number m r)) (sym (add-zero n))
numbered_at n (r ∷ rs) (suc i) = let e : (n + 1) + i ≡ n + suc i = omega arith in numbered_at (n + 1) rs i ∙ ap (λ m. option_map (with_number m) (slice_get rs i)) e

pub region_at : (rs : List RegionTree) (x : List ℕ) → region_named rs x ≡ option_map (with_number (variable_of (map region_entry rs) x)) (slice_get rs (variable_of (map region_entry rs) x))
region_at rs x =
    find_at (is_region x) (map numbered (enumerate_from 0 rs))
    ∙ (ap (slice_get (map numbered (enumerate_from 0 rs))) (region_place rs x)
    ∙ (numbered_at 0 rs (variable_of (map region_entry rs) x)
    ∙ ap (λ m. option_map (with_number m) (slice_get rs (variable_of (map region_entry rs) x))) (let e : 0 + variable_of (map region_entry rs) x ≡ variable_of (map region_entry rs) x = omega arith in e)))

abbrev pub type_entry : RegionType → Option KnownName
type_entry t = known_as Int t.tree.now.name

type_entries : (ts : List RegionType) → map region_entry (map type_view ts) ≡ map type_entry ts
type_entries [] = refl
type_entries (t ∷ ts) = ap (λ es. type_entry t ∷ es) (type_entries ts)

pub type_place : (ts : List RegionType) (names : NameScope) (x : List ℕ) → names ≡ map type_entry ts → variable_of names x ≡ type_number (map type_view ts) x
type_place ts names x e = ap (λ es. variable_of es x) (e ∙ sym (type_entries ts)) ∙ sym (region_place (map type_view ts) x)

-- the region type that a table finds
pub type_at : (ts : List RegionType) (names : NameScope) (x : List ℕ) (n : ℕ) (o : Option RegionType) → names ≡ map type_entry ts → n ≡ variable_of names x → o ≡ slice_get ts n → option_map (with_number n) (option_map type_view o) ≡ region_named (map type_view ts) x
type_at ts names x n o e i g =
    ap (λ p. option_map (with_number n) (option_map type_view p)) g
    ∙ (ap (option_map (with_number n)) (sym (slice_get-map type_view ts n))
    ∙ (ap (λ m. option_map (with_number m) (slice_get (map type_view ts) m)) (i ∙ ap (λ es. variable_of es x) (e ∙ sym (type_entries ts)))
    ∙ sym (region_at (map type_view ts) x)))

-- of region types with few guards each, one at a place
pub few_at : (rs : List (Bor Region)) (i : ℕ) (r : Bor Region) → i < length rs → r ≡ get_or rs i r → AllByRecursion HasFewGuards (regions_view rs) → HasFewGuards (region_view r.now)
few_at [] i r h e a = absurd (omega arith)
few_at (s ∷ rs) zero r h e a = subst (λ (x : Bor Region). HasFewGuards (region_view x.now)) (sym e) a.0
few_at (s ∷ rs) (suc i) r h e a = few_at rs i r (omega arith) e a.1

-- ---- functions

abbrev pub function_entry : FunctionTree → Option KnownName
function_entry f = known_as Int f.name

pub function_place : (fs : List FunctionTree) (x : List ℕ) → function_number fs x ≡ variable_of (map function_entry fs) x
function_place fs x = position_entries (is_function x) function_entry x (λ f. refl) fs

pub function_at : (fs : List FunctionTree) (x : List ℕ) → function_named fs x ≡ slice_get fs (variable_of (map function_entry fs) x)
function_at fs x = find_at (is_function x) fs ∙ ap (slice_get fs) (function_place fs x)

abbrev pub lent_entry : Bor Function → Option KnownName
lent_entry f = known_as Int f.now.name

lent_entries : (fs : List (Bor Function)) → map function_entry (functions_view fs) ≡ map lent_entry fs
lent_entries [] = refl
lent_entries (f ∷ fs) = ap (λ es. lent_entry f ∷ es) (lent_entries fs)

pub lent_place : (fs : List (Bor Function)) (names : NameScope) (x : List ℕ) → names ≡ map lent_entry fs → variable_of names x ≡ function_number (functions_view fs) x
lent_place fs names x e = ap (λ es. variable_of es x) (e ∙ sym (lent_entries fs)) ∙ sym (function_place (functions_view fs) x)

pub lent_at : (fs : List (Bor Function)) (names : NameScope) (x : List ℕ) (n : ℕ) (o : Option (Bor Function)) → names ≡ map lent_entry fs → n ≡ variable_of names x → o ≡ slice_get fs n → function_seen o ≡ function_named (functions_view fs) x
lent_at fs names x n o e i g =
    ap function_seen g
    ∙ (sym (slice_get-map (λ (f : Bor Function). function_view f.now) fs n)
    ∙ (ap (slice_get (functions_view fs)) (i ∙ ap (λ es. variable_of es x) (e ∙ sym (lent_entries fs)))
    ∙ sym (function_at (functions_view fs) x)))

-- ---- types of names

abbrev name_entry : TypedName → Option KnownName
name_entry t = Some (record { name = t.name; sort = Int })

abbrev pub typed_entry : Typed → Option KnownName
typed_entry t = Some (record { name = t.name.now; sort = Int })

typed_entries : (ts : List Typed) → map name_entry (typed_list ts) ≡ map typed_entry ts
typed_entries [] = refl
typed_entries (t ∷ ts) = ap (λ es. typed_entry t ∷ es) (typed_entries ts)

type_at_name : (ts : List TypedName) (x : List ℕ) → type_of ts x ≡ option_map name_type (slice_get ts (variable_of (map name_entry ts) x))
type_at_name ts x = ap (option_map name_type) (find_at (is_typed x) ts ∙ ap (slice_get ts) (position_entries (is_typed x) name_entry x (λ t. refl) ts))

abbrev pub region_told : Option Typed → Option NumberedRegion
region_told o = option_map name_type (typed_seen o)

pub typed_at : (ts : List Typed) (names : NameScope) (x : List ℕ) (n : ℕ) (o : Option Typed) → names ≡ map typed_entry ts → n ≡ variable_of names x → o ≡ slice_get ts n → region_told o ≡ type_of (typed_list ts) x
typed_at ts names x n o e i g =
    ap region_told g
    ∙ (ap (option_map name_type) (sym (slice_get-map typed_view ts n))
    ∙ (ap (λ m. option_map name_type (slice_get (typed_list ts) m)) (i ∙ ap (λ es. variable_of es x) (e ∙ sym (typed_entries ts)))
    ∙ sym (type_at_name (typed_list ts) x)))

abbrev pub or_other : Option NumberedRegion → Option NumberedRegion → Option NumberedRegion
or_other None other = other
or_other (Some k) other = Some k

pub type_of_both : (a b : List TypedName) (x : List ℕ) → type_of (a ++ b) x ≡ or_other (type_of a x) (type_of b x)
type_of_both [] b x = refl
type_of_both (t ∷ a) b x = by (is_typed x t) (type_of_both a b x)
  where
    by : (c : Bool) → type_of (a ++ b) x ≡ or_other (type_of a x) (type_of b x) → option_map name_type (cond c (Some t) (find (is_typed x) (a ++ b))) ≡ or_other (option_map name_type (cond c (Some t) (find (is_typed x) a))) (type_of b x)
    by true e = refl
    by false e = e

-- ---- reads by index

pub got : {A : Type 0} (xs ys : List A) (n : ℕ) (a : A) → n < length xs → a ≡ get_or xs n a → xs ≡ ys → Some a ≡ slice_get ys n
got xs ys n a h e w = ap Some e ∙ (sym (slice_get-get_or xs n a h) ∙ ap (λ zs. slice_get zs n) w)

pub got_none : {A : Type 0} (xs ys : List A) (n : ℕ) → length xs ≤ n → xs ≡ ys → None ≡ slice_get ys n
got_none {A} xs ys n h w = sym (beyond xs n h) ∙ ap (λ zs. slice_get zs n) w
  where
    beyond : (zs : List A) (m : ℕ) → length zs ≤ m → slice_get zs m ≡ None
    beyond [] m k = refl
    beyond (z ∷ zs) zero k = absurd (omega arith)
    beyond (z ∷ zs) (suc m) k = beyond zs m (omega arith)

-- the types around come first
pub with_outer : (o : Option (Bor TypedNames)) (t : Bor TypedNames) (own : List TypedName) (x : List ℕ) (a b : Option NumberedRegion) → o ≡ Some t → a ≡ type_of (typed_names t.now) x → b ≡ type_of own x → or_other a b ≡ type_of (outer_names o ++ own) x
with_outer o t own x a b e f g =
    ap (λ c. or_other c b) f
    ∙ (ap (or_other (type_of (typed_names t.now) x)) g
    ∙ (sym (type_of_both (typed_names t.now) own x)
    ∙ ap (λ p. type_of (outer_names p ++ own) x) (sym e)))
