-- Maps of the code and finite maps.
use Rattle.std.proofs.Common.{◌≡◌, ◌∙◌, refl, sym, Bool, true, false, cond, List, [], ◌∷◌, map, ap}
use Rattle.std.specs.Prelude.{ℤ, Option, Some, None, option_map}
use Rattle.std.specs.Ordering.{int_cmp, is_eq}
use Rattle.std.specs.declared.cmp.Ordering.TheVariants.{Less, Equal, Greater}
use Rattle.std.specs.Prelude.{int_lt}
use Rattle.std.specs.Cmp.{int_cmp_total}
use Rattle.std.specs.FinMap.{FinMap, get, insert, remove, empty, from_entries, entries, entries-insert, get-empty, find, put, get-from_entries, get-insert, get-remove, same_map, int_cmp-IsAntisymmetric}
use Rattle.std.specs.BTreeMap as tree
use Rattle.std.specs.BTreeMap.{BTreeMap, Updates, UpdatesBy}
use Rattle.std.specs.Map.{lookup}
use Rattle.std.proofs.lemmas.Map.Keys.{sorted_head, sorted_tail}
use Rattle.std.proofs.Common.{length, ◌++◌, arith}
use Rattle.std.specs.Prelude.{is_some}
use Rattle.std.specs.FinMap.{len-entries, len-empty, from_entries_push}
use Rattle.std.specs.List.{AllByRecursion}
use Rattle.std.specs.List.Sorted.{IsStrictlySortedBy}
use Rattle.std.specs.declared.cmp.Ordering.{Ordering}

find_is_lookup : {X : Type 0} (q : ℤ) (es : List (ℤ × X)) → find int_cmp q es ≡ lookup (λ k. is_eq (int_cmp q k)) es
find_is_lookup q [] = refl
find_is_lookup q (e ∷ es) = ap (λ o. cond (is_eq (int_cmp q e.0)) (Some e.1) o) (find_is_lookup q es)

pub tree_get : {X : Type 0} (m : BTreeMap ℤ X) (q : ℤ) → get (from_entries {R = int_cmp} m.entries) q ≡ tree.get int_cmp m q
tree_get m q = get-from_entries int_cmp_total m.entries q ∙ find_is_lookup q m.entries

is_eq_sym : (a b : ℤ) → is_eq (int_cmp a b) ≡ is_eq (int_cmp b a)
is_eq_sym a b = by_tests (int_lt a b) (int_lt b a)
  where
    by_tests : (s t : Bool) → is_eq (cond s Less (cond t Greater Equal)) ≡ is_eq (cond t Less (cond s Greater Equal))
    by_tests true true = refl
    by_tests true false = refl
    by_tests false true = refl
    by_tests false false = refl

pub tree_put : {X : Type 0} (m n : BTreeMap ℤ X) (k : ℤ) (v : X) → Updates int_cmp m n k (Some v) → from_entries {R = int_cmp} n.entries ≡ insert (from_entries m.entries) k v
tree_put m n k v u =
    same_map int_cmp_total int_cmp-IsAntisymmetric _ _
    (λ q. tree_get n q ∙ (u.0 q ∙ (ap (λ b. cond b (Some v) (tree.get int_cmp m q)) (is_eq_sym k q) ∙ (ap (λ o. cond (is_eq (int_cmp q k)) (Some v) o) (sym (tree_get m q)) ∙ sym (get-insert int_cmp_total _ k v q)))))

-- ---- values seen through a view

abbrev pub seen : {X Y : Type 0} → (X → Y) → List (ℤ × X) → FinMap int_cmp Y
seen f es = from_entries (map (λ e. (e.0, f e.1)) es)

cond-map : {X Y : Type 0} (f : X → Y) (b : Bool) (x : X) (o : Option X) (p : Option Y) → p ≡ option_map f o → cond b (Some (f x)) p ≡ option_map f (cond b (Some x) o)
cond-map f true x o p e = refl
cond-map f false x o p e = e

find-seen : {X Y : Type 0} (f : X → Y) (q : ℤ) (es : List (ℤ × X)) → find int_cmp q (map (λ e. (e.0, f e.1)) es) ≡ option_map f (lookup (λ k. is_eq (int_cmp q k)) es)
find-seen f q [] = refl
find-seen f q (e ∷ es) = cond-map f (is_eq (int_cmp q e.0)) e.1 _ _ (find-seen f q es)

pub seen_get : {X Y : Type 0} (f : X → Y) (m : BTreeMap ℤ X) (q : ℤ) → get (seen f m.entries) q ≡ option_map f (tree.get int_cmp m q)
seen_get f m q = get-from_entries int_cmp_total (map (λ e. (e.0, f e.1)) m.entries) q ∙ find-seen f q m.entries

cond-some : {X Y : Type 0} (f : X → Y) (b : Bool) (x : Option X) (o : Option X) → option_map f (cond b x o) ≡ cond b (option_map f x) (option_map f o)
cond-some f true x o = refl
cond-some f false x o = refl

pub seen_put : {X Y : Type 0} (f : X → Y) (m n : BTreeMap ℤ X) (k : ℤ) (v : X) → Updates int_cmp m n k (Some v) → seen f n.entries ≡ insert (seen f m.entries) k (f v)
seen_put f m n k v u =
    same_map int_cmp_total int_cmp-IsAntisymmetric _ _
    (λ q. seen_get f n q ∙ (ap (option_map f) (u.0 q) ∙ (cond-some f (is_eq (int_cmp k q)) (Some v) (tree.get int_cmp m q) ∙ (ap (λ b. cond b (Some (f v)) (option_map f (tree.get int_cmp m q))) (is_eq_sym k q) ∙ (ap (λ o. cond (is_eq (int_cmp q k)) (Some (f v)) o) (sym (seen_get f m q)) ∙ sym (get-insert int_cmp_total _ k (f v) q))))))

pub seen_cut : {X Y : Type 0} (f : X → Y) (m n : BTreeMap ℤ X) (k : ℤ) → UpdatesBy int_cmp (int_cmp k) m n None → seen f n.entries ≡ remove (seen f m.entries) k
seen_cut f m n k u =
    same_map int_cmp_total int_cmp-IsAntisymmetric _ _
    (λ q. seen_get f n q ∙ (ap (option_map f) (u.0 q) ∙ (cond-some f (is_eq (int_cmp k q)) None (tree.get int_cmp m q) ∙ (ap (λ b. cond b None (option_map f (tree.get int_cmp m q))) (is_eq_sym k q) ∙ (ap (λ o. cond (is_eq (int_cmp q k)) None o) (sym (seen_get f m q)) ∙ sym (get-remove int_cmp_total _ k q))))))

-- ---- entries one by one

-- put in one after the other
abbrev pub puts : {Y : Type 0} → FinMap int_cmp Y → List (ℤ × Y) → FinMap int_cmp Y
puts m [] = m
puts m (e ∷ es) = puts (insert m e.0 e.1) es

abbrev pub Ascend : {Y : Type 0} → List (ℤ × Y) → Type 0
Ascend es = IsStrictlySortedBy int_cmp (map (λ e. e.0) es)

ascend-head : {Y : Type 0} (e : ℤ × Y) (es : List (ℤ × Y)) → Ascend (e ∷ es) → AllByRecursion (λ y. int_cmp e.0 y ≡ Less) (map (λ p. p.0) es)
ascend-head {Y = Y} e es s = sorted_head int_cmp e.0 (map (λ (p : ℤ × Y). p.0) es) s

ascend-tail : {Y : Type 0} (e : ℤ × Y) (es : List (ℤ × Y)) → Ascend (e ∷ es) → Ascend es
ascend-tail {Y = Y} e es s = sorted_tail int_cmp e.0 (map (λ (p : ℤ × Y). p.0) es) s

first-some : {Y : Type 0} → Option Y → Option Y → Option Y
first-some None o = o
first-some (Some y) o = Some y

none-behind : {Y : Type 0} (k : ℤ) (es : List (ℤ × Y)) → AllByRecursion (λ y. int_cmp k y ≡ Less) (map (λ e. e.0) es) → find int_cmp k es ≡ None
none-behind k [] h = refl
none-behind k (e ∷ es) h = rw (h.0) (none-behind k es h.1)

same-key : (a k : ℤ) → is_eq (int_cmp a k) ≡ true → a ≡ k
same-key a k h = int_cmp-IsAntisymmetric a k (is-equal (int_cmp a k) h)
  where
    is-equal : (o : Ordering) → is_eq o ≡ true → o ≡ Equal
    is-equal Less i = absurd (cc)
    is-equal Equal i = refl
    is-equal Greater i = absurd (cc)

puts-get : {Y : Type 0} (m : FinMap int_cmp Y) (es : List (ℤ × Y)) (q : ℤ) → Ascend es → get (puts m es) q ≡ first-some (find int_cmp q es) (get m q)
unfolding first-some
puts-get m [] q s = refl
puts-get m (e ∷ es) q s = puts-get (insert m e.0 e.1) es q (ascend-tail e es s) ∙ (ap (first-some (find int_cmp q es)) (get-insert int_cmp_total m e.0 e.1 q) ∙ step (is_eq (int_cmp q e.0)) refl)
  where
    step : (t : Bool) → is_eq (int_cmp q e.0) ≡ t → first-some (find int_cmp q es) (cond t (Some e.1) (get m q)) ≡ first-some (cond t (Some e.1) (find int_cmp q es)) (get m q)
    step true h = ap (λ o. first-some o (Some e.1)) (ap (λ k. find int_cmp k es) (same-key q e.0 h) ∙ none-behind e.0 es (ascend-head e es s))
    step false h = refl

first-none : {Y : Type 0} (o : Option Y) → first-some o None ≡ o
unfolding first-some
first-none None = refl
first-none (Some y) = refl

pub puts_all : {Y : Type 0} (es : List (ℤ × Y)) → Ascend es → puts empty es ≡ from_entries es
puts_all es s =
    same_map int_cmp_total int_cmp-IsAntisymmetric _ _
    (λ q. puts-get empty es q s ∙ (ap (first-some (find int_cmp q es)) (get-empty int_cmp q) ∙ (first-none (find int_cmp q es) ∙ sym (get-from_entries int_cmp_total es q))))

keys-seen : {X Y : Type 0} (f : X → Y) (es : List (ℤ × X)) → map (λ (e : ℤ × Y). e.0) (map (λ (e : ℤ × X). (e.0, f e.1)) es) ≡ map (λ (e : ℤ × X). e.0) es
keys-seen f [] = refl
keys-seen f (e ∷ es) = ap (λ ks. e.0 ∷ ks) (keys-seen f es)

pub seen_ascend : {X Y : Type 0} (f : X → Y) (es : List (ℤ × X)) → Ascend es → Ascend (map (λ e. (e.0, f e.1)) es)
seen_ascend f es s = rw (keys-seen f es) s

no-items : {A : Type 0} (xs : List A) → length xs ≡ 0 → xs ≡ []
no-items [] h = refl
no-items (x ∷ xs) h = absurd (omega (arith, h))

-- entries that ascend are the map's
put-first : {Y : Type 0} (k : ℤ) (y : Y) (es : List (ℤ × Y)) → AllByRecursion (λ x. int_cmp k x ≡ Less) (map (λ e. e.0) es) → put int_cmp k y es ≡ (k, y) ∷ es
put-first k y [] h = refl
put-first k y (e ∷ es) h = rw (h.0) refl

pub entries_are : {Y : Type 0} (es : List (ℤ × Y)) → Ascend es → entries (from_entries {R = int_cmp} es) ≡ es
entries_are {Y = Y} [] s = no-items (entries (empty {X = Y} {R = int_cmp})) (sym (len-entries empty) ∙ len-empty int_cmp Y)
entries_are (e ∷ es) s = entries-insert int_cmp_total (from_entries es) e.0 e.1 ∙ (ap (put int_cmp e.0 e.1) (entries_are es (ascend-tail e es s)) ∙ put-first e.0 e.1 es (ascend-head e es s))

-- ---- copies

pub copy_goes : {X Y : Type 0} (f : X → Y) (m new : BTreeMap ℤ X) (left next : List (ℤ × X)) (k : ℤ) (v : X) (w : Y) (whole : FinMap int_cmp Y) → seen f new.entries ≡ insert (seen f m.entries) k w → f v ≡ w → left ≡ (k, v) ∷ next → puts (seen f m.entries) (map (λ e. (e.0, f e.1)) left) ≡ whole → puts (seen f new.entries) (map (λ e. (e.0, f e.1)) next) ≡ whole
copy_goes f m new left next k v w whole u is e h =
    ap (λ x. puts x (map (λ p. (p.0, f p.1)) next)) (u ∙ ap (insert (seen f m.entries) k) (sym is))
    ∙ (ap (λ l. puts (seen f m.entries) (map (λ p. (p.0, f p.1)) l)) (sym e) ∙ h)

pub copy_ends : {X Y : Type 0} (f : X → Y) (m : BTreeMap ℤ X) (left all : List (ℤ × X)) → left ≡ [] → Ascend all → puts (seen f m.entries) (map (λ e. (e.0, f e.1)) left) ≡ puts empty (map (λ e. (e.0, f e.1)) all) → seen f m.entries ≡ seen f all
copy_ends f m left all e s h =
    ap (λ l. puts (seen f m.entries) (map (λ p. (p.0, f p.1)) l)) (sym e) ∙ (h ∙ puts_all _ (seen_ascend f all s))

pub cells_go : (m new : BTreeMap ℤ ℤ) (left next : List (ℤ × ℤ)) (k v : ℤ) (whole : FinMap int_cmp ℤ) → Updates int_cmp m new k (Some v) → left ≡ (k, v) ∷ next → puts (from_entries m.entries) left ≡ whole → puts (from_entries new.entries) next ≡ whole
cells_go m new left next k v whole u e h =
    ap (λ x. puts x next) (tree_put m new k v u) ∙ (ap (puts (from_entries m.entries)) (sym e) ∙ h)

pub cells_end : (m : BTreeMap ℤ ℤ) (left all : List (ℤ × ℤ)) → left ≡ [] → Ascend all → puts (from_entries m.entries) left ≡ puts empty all → from_entries {R = int_cmp} m.entries ≡ from_entries all
cells_end m left all e s h = ap (puts (from_entries m.entries)) (sym e) ∙ (h ∙ puts_all all s)

-- ---- of two entries with one key the first

first-step : {Y : Type 0} (t : Bool) (y : Y) (o p r : Option Y) → o ≡ first-some p r → cond t (Some y) o ≡ first-some (cond t (Some y) p) r
unfolding first-some
first-step true y o p r h = refl
first-step false y o p r h = h

find-end : {Y : Type 0} (q : ℤ) (es : List (ℤ × Y)) (k : ℤ) (v : Y) → find int_cmp q (es ++ (k, v) ∷ []) ≡ first-some (find int_cmp q es) (cond (is_eq (int_cmp q k)) (Some v) None)
unfolding first-some
find-end q [] k v = refl
find-end q (e ∷ es) k v = first-step (is_eq (int_cmp q e.0)) e.1 _ _ _ (find-end q es k v)

some-stays : {Y : Type 0} (o p : Option Y) → is_some o ≡ true → first-some o p ≡ o
unfolding first-some
some-stays None p h = absurd (cc)
some-stays (Some y) p h = refl

found-stays : {Y : Type 0} (es : List (ℤ × Y)) (k : ℤ) (v : Y) → is_some (find int_cmp k es) ≡ true → (q : ℤ) → find int_cmp q (es ++ (k, v) ∷ []) ≡ find int_cmp q es
found-stays es k v h q = find-end q es k v ∙ by (is_eq (int_cmp q k)) refl
  where
    by : (t : Bool) → is_eq (int_cmp q k) ≡ t → first-some (find int_cmp q es) (cond t (Some v) None) ≡ find int_cmp q es
    by true e = some-stays (find int_cmp q es) _ (ap (λ x. is_some (find int_cmp x es)) (same-key q k e) ∙ h)
    by false e = first-none (find int_cmp q es)

found-in : (m : BTreeMap ℤ ℤ) (es : List (ℤ × ℤ)) (k : ℤ) → from_entries {R = int_cmp} m.entries ≡ from_entries es → tree.get int_cmp m k ≡ find int_cmp k es
found-in m es k h = sym (tree_get m k) ∙ (ap (λ x. get x k) h ∙ get-from_entries int_cmp_total es k)

not-some : {Y : Type 0} (o : Option Y) → is_some o ≡ false → o ≡ None
not-some None h = refl
not-some (Some y) h = absurd (cc)

pub first_put : (m new : BTreeMap ℤ ℤ) (es : List (ℤ × ℤ)) (k v : ℤ) → is_some (tree.get int_cmp m k) ≡ false → Updates int_cmp m new k (Some v) → from_entries {R = int_cmp} m.entries ≡ from_entries es → from_entries {R = int_cmp} new.entries ≡ from_entries (es ++ (k, v) ∷ [])
first_put m new es k v h u e =
    tree_put m new k v u ∙ (ap (λ x. insert x k v) e ∙ sym (from_entries_push int_cmp_total int_cmp-IsAntisymmetric es k v (sym (found-in m es k e) ∙ not-some _ h)))

pub first_kept : (m : BTreeMap ℤ ℤ) (es : List (ℤ × ℤ)) (k v : ℤ) → is_some (tree.get int_cmp m k) ≡ true → from_entries {R = int_cmp} m.entries ≡ from_entries es → from_entries {R = int_cmp} m.entries ≡ from_entries (es ++ (k, v) ∷ [])
first_kept m es k v h e =
    e ∙ same_map int_cmp_total int_cmp-IsAntisymmetric _ _
    (λ q. get-from_entries int_cmp_total es q ∙ (sym (found-stays es k v (ap is_some (sym (found-in m es k e)) ∙ h) q) ∙ sym (get-from_entries int_cmp_total (es ++ (k, v) ∷ []) q)))
