-- Maps of the code and finite maps.
use Rattle.std.proofs.Common.{◌≡◌, ◌∙◌, ap, refl, sym, subst, ℕ, zero, suc, ◌+◌, ◌-◌, ◌^◌, ◌<◌, ◌≤◌, Bool, true, false, cond, not, List, [], ◌∷◌, length, get_or, take, arith, rules}
use Rattle.std.proofs.lemmas.List.{take_more}
use Rattle.std.specs.Prelude.{ℤ, pos, negsuc, ◌+ℤ◌, ◌<ℤ◌, ◌≤ℤ◌, int_lt, Option, Some, None, IsSome, is_some, is_none, Result, Ok, Err, OnOk, OnErr}
use Rattle.std.specs.Ordering.{int_cmp, is_eq, is_lt, MatchOrdering}
use Rattle.std.specs.declared.cmp.Ordering.{Ordering}
use Rattle.std.specs.declared.cmp.Ordering.TheVariants.{Less, Equal, Greater}
use Rattle.std.specs.Cmp.{int_cmp_total, int_ranks}
use Rattle.std.specs.FinMap.{get, insert, remove, from_entries, find, get-from_entries, get-insert, get-remove, gets, same_map, int_cmp-IsAntisymmetric, from_entries_push}
use Rattle.std.specs.BTreeMap as tree
use Rattle.std.specs.BTreeMap.{BTreeMap, Updates, UpdatesBy}
use Rattle.std.specs.Map.{lookup}
use Rattle.std.proofs.lemmas.Int.{ints, to_z-of_z}
use Rattle.std.proofs.lemmas.Bool.Decides.{nat_tests}
use mir.Val.{SFits, to_z, of_z}
use mir.Syntax.{w128}
use Rattle.cap_lin.specs.Steps.{fits}
use Rattle.cap_machine.specs.Machine.{Heap, are_free}
use Rattle.cap_machine.specs.Cells.{AscendsFrom, IsTop, IsNarrow}
use Rattle.cap_machine.proofs.Enabled.{and_first, and_second, and_both, none_is}

find_is_lookup : (q : ℤ) (es : List (ℤ × ℤ)) → find int_cmp q es ≡ lookup (λ k. is_eq (int_cmp q k)) es
find_is_lookup q [] = refl
find_is_lookup q (e ∷ es) = ap (λ o. cond (is_eq (int_cmp q e.0)) (Some e.1) o) (find_is_lookup q es)

pub heap_get : (m : BTreeMap ℤ ℤ) (q : ℤ) → get (from_entries {R = int_cmp} m.entries) q ≡ tree.get int_cmp m q
heap_get m q = get-from_entries int_cmp_total m.entries q ∙ find_is_lookup q m.entries

is_eq_sym : (a b : ℤ) → is_eq (int_cmp a b) ≡ is_eq (int_cmp b a)
is_eq_sym a b = by_tests (int_lt a b) (int_lt b a)
  where
    by_tests : (s t : Bool) → is_eq (cond s Less (cond t Greater Equal)) ≡ is_eq (cond t Less (cond s Greater Equal))
    by_tests true true = refl
    by_tests true false = refl
    by_tests false true = refl
    by_tests false false = refl

pub heap_put : (m n : BTreeMap ℤ ℤ) (k v : ℤ) → Updates int_cmp m n k (Some v) → from_entries {R = int_cmp} n.entries ≡ insert (from_entries m.entries) k v
heap_put m n k v u =
    same_map int_cmp_total int_cmp-IsAntisymmetric _ _
    (λ q. heap_get n q ∙ (u.0 q ∙ (ap (λ b. cond b (Some v) (tree.get int_cmp m q)) (is_eq_sym k q) ∙ (ap (λ o. cond (is_eq (int_cmp q k)) (Some v) o) (sym (heap_get m q)) ∙ sym (get-insert int_cmp_total _ k v q)))))

pub heap_cut : (m n : BTreeMap ℤ ℤ) (k : ℤ) → UpdatesBy int_cmp (int_cmp k) m n None → from_entries {R = int_cmp} n.entries ≡ remove (from_entries m.entries) k
heap_cut m n k u =
    same_map int_cmp_total int_cmp-IsAntisymmetric _ _
    (λ q. heap_get n q ∙ (u.0 q ∙ (ap (λ b. cond b None (tree.get int_cmp m q)) (is_eq_sym k q) ∙ (ap (λ o. cond (is_eq (int_cmp q k)) None o) (sym (heap_get m q)) ∙ sym (get-remove int_cmp_total _ k q)))))

pub narrow : (z : ℤ) → SFits w128 z → fits z ≡ true
narrow (pos n) h = grind (arith, ints)
narrow (negsuc n) h = grind (arith, ints)

equal_keys : (a k : ℤ) → is_eq (int_cmp a k) ≡ true → a ≡ k
equal_keys a k h = int_cmp-IsAntisymmetric a k (is_equal (int_cmp a k) h)
  where
    is_equal : (o : Ordering) → is_eq o ≡ true → o ≡ Equal
    is_equal Less i = absurd (cc)
    is_equal Equal i = refl
    is_equal Greater i = absurd (cc)

pub insert-narrow : (h : Heap) (k v : ℤ) → IsNarrow h → fits k ≡ true → IsNarrow (insert h k v)
insert-narrow h k v n f a e = get-insert int_cmp_total h k v a ∙ (go (is_eq (int_cmp a k)) refl)
  where
    go : (b : Bool) → is_eq (int_cmp a k) ≡ b → cond b (Some v) (get h a) ≡ None
    go true i = let j : a ≡ k = equal_keys a k i in let t : fits a ≡ true = ap fits j ∙ f in absurd (cc)
    go false i = n a e

pub remove-narrow : (h : Heap) (k : ℤ) → IsNarrow h → IsNarrow (remove h k)
remove-narrow h k n a e = get-remove int_cmp_total h k a ∙ (go (is_eq (int_cmp a k)))
  where
    go : (b : Bool) → cond b None (get h a) ≡ None
    go true = refl
    go false = n a e

pub empty-narrow : (es : List (ℤ × ℤ)) → es ≡ [] → IsNarrow (from_entries es)
empty-narrow es e a f = ap (λ x. get (from_entries {R = int_cmp} x) a) e ∙ search (rules, gets)

pub narrow_along : (h k : Heap) → h ≡ k → IsNarrow k → IsNarrow h
narrow_along h k e n a f = ap (λ x. get x a) e ∙ n a f

-- an insertion at a key that is there takes place
pub put_there : {T E : Type 0} (r : Result T E) (m n : BTreeMap ℤ ℤ) (h : Heap) (k v : ℤ) → OnOk r (Updates int_cmp m n k (Some v)) → OnErr r (tree.get int_cmp m k ≡ None) → from_entries m.entries ≡ h → IsSome (get h k) → from_entries {R = int_cmp} n.entries ≡ insert h k v
put_there (Ok x) m n h k v u a e s = heap_put m n k v u ∙ ap (λ g. insert g k v) e
put_there (Err x) m n h k v u a e s = let f : get h k ≡ None = ap (λ g. get g k) (sym e) ∙ (heap_get m k ∙ a) in absurd (cc)

pub now_narrow : (h k : Heap) → h ≡ k → IsNarrow h → IsNarrow k
now_narrow h k e n = narrow_along k h (sym e) n

-- the addresses below and at another one, among new cells
pub free_behind : (h : Heap) (base : ℤ) (n m : ℕ) → n ≤ m → are_free h base n ≡ true → are_free (insert h (base +ℤ pos m) (pos 0)) base n ≡ true
free_behind h base zero m l f = refl
free_behind h base (suc n) m l f =
    let a : are_free h base n ≡ true = and_first (are_free h base n) _ f in
    let b : is_none (get h (base +ℤ pos n)) ≡ true = and_second (are_free h base n) _ f in
    and_both _ _ (free_behind h base n m (omega arith) a) (ap is_none (get-insert int_cmp_total h (base +ℤ pos m) (pos 0) (base +ℤ pos n) ∙ (go (is_eq (int_cmp (base +ℤ pos n) (base +ℤ pos m))) refl)) ∙ b)
  where
    go : (t : Bool) → is_eq (int_cmp (base +ℤ pos n) (base +ℤ pos m)) ≡ t → cond t (Some (pos 0)) (get h (base +ℤ pos n)) ≡ get h (base +ℤ pos n)
    go true i = let e = equal_keys (base +ℤ pos n) (base +ℤ pos m) i in absurd (omega (arith, ints))
    go false i = refl

-- a new cell that is taken away again
pub remove-insert : (h : Heap) (k v : ℤ) → get h k ≡ None → remove (insert h k v) k ≡ h
remove-insert h k v e =
    same_map int_cmp_total int_cmp-IsAntisymmetric _ _
    (λ q. get-remove int_cmp_total (insert h k v) k q ∙ (ap (λ o. cond (is_eq (int_cmp q k)) None o) (get-insert int_cmp_total h k v q) ∙ go q (is_eq (int_cmp q k)) refl))
  where
    go : (q : ℤ) (t : Bool) → is_eq (int_cmp q k) ≡ t → cond t None (cond t (Some v) (get h q)) ≡ get h q
    go q true i = sym (ap (get h) (equal_keys q k i) ∙ e)
    go q false i = refl

-- an address that the map's test does not find is absent
pub absent_is : (m : BTreeMap ℤ ℤ) (h : Heap) (a b : ℤ) (r : Bool) → r ≡ is_some (tree.get int_cmp m a) → a ≡ b → from_entries m.entries ≡ h → not r ≡ is_none (get h b)
absent_is m h a b r e i v = ap not e ∙ (neither (tree.get int_cmp m a) ∙ (ap is_none (sym (heap_get m a)) ∙ (ap (λ g. is_none (get g a)) v ∙ ap (λ x. is_none (get h x)) i)))
  where
    neither : (o : Option ℤ) → not (is_some o) ≡ is_none o
    neither None = refl
    neither (Some x) = refl

-- ---- the cells that a heap begins with

abbrev pub no_cell : ℤ × ℤ
no_cell = (pos 0, pos 0)

above : (below : ℤ) (cells : List (ℤ × ℤ)) (i : ℕ) (d : ℤ × ℤ) → AscendsFrom below cells → i < length cells → below <ℤ (get_or cells i d).0
above below [] i d a h = absurd (omega arith)
above below (cell ∷ cells) zero d a h = a.0
above below (cell ∷ cells) (suc i) d a h =
    let p : below <ℤ cell.0 = a.0 in
    let q : cell.0 <ℤ (get_or cells i d).0 = above cell.0 cells i d a.1 (omega arith) in
    omega (arith, ints)

next_absent : (below : ℤ) (cells : List (ℤ × ℤ)) (i : ℕ) (d : ℤ × ℤ) → AscendsFrom below cells → i < length cells → find int_cmp (get_or cells i d).0 (take i cells) ≡ None
next_absent below [] i d a h = absurd (omega arith)
next_absent below (cell ∷ cells) zero d a h = refl
next_absent below (cell ∷ cells) (suc i) d a h =
    let p : cell.0 <ℤ (get_or cells i d).0 = above cell.0 cells i d a.1 (omega arith) in
    behind (get_or cells i d).0 cell.0 cell.1 (find int_cmp (get_or cells i d).0 (take i cells)) p (next_absent cell.0 cells i d a.1 (omega arith)) (is_eq (int_cmp (get_or cells i d).0 cell.0)) refl
  where
    behind : (k l v : ℤ) (o : Option ℤ) → l <ℤ k → o ≡ None → (t : Bool) → is_eq (int_cmp k l) ≡ t → cond t (Some v) o ≡ None
    behind k l v o p n true e = let q = equal_keys k l e in absurd (omega (arith, ints))
    behind k l v o p n false e = n

pub next_cell : (below : ℤ) (cells : List (ℤ × ℤ)) (i : ℕ) (d : ℤ × ℤ) → AscendsFrom below cells → i < length cells → insert (from_entries {R = int_cmp} (take i cells)) (get_or cells i d).0 (get_or cells i d).1 ≡ from_entries (take (i + 1) cells)
next_cell below cells i d a h =
    sym (from_entries_push int_cmp_total int_cmp-IsAntisymmetric (take i cells) (get_or cells i d).0 (get_or cells i d).1 (next_absent below cells i d a h))
    ∙ ap (from_entries {R = int_cmp}) (sym (take_more cells i d h))

-- ---- new cells

pub free_front : (h : Heap) (base : ℤ) (n : ℕ) → 0 < n → are_free h base n ≡ true → (are_free h base (n - 1) ≡ true) × (get h (base +ℤ pos (n - 1)) ≡ None)
free_front h base zero l e = absurd (omega arith)
free_front h base (suc n) l e =
    let i : n ≡ suc n - 1 = omega arith in
    let P : ℕ → Type 0 = λ k. (are_free h base k ≡ true) × (get h (base +ℤ pos k) ≡ None) in
    subst P i (and_first (are_free h base n) _ e, none_is _ (and_second (are_free h base n) _ e))

pub fits_low : (z : ℤ) → fits z ≡ true → negsuc (2 ^ 127 - 1) ≤ℤ z
fits_low (pos n) h = grind (arith, ints)
fits_low (negsuc n) h = grind (arith, ints)

pub fits_high : (z : ℤ) → fits z ≡ true → z <ℤ pos (2 ^ 127)
fits_high (pos n) h = grind (arith, ints)
fits_high (negsuc n) h = grind (arith, ints)

pub fits_between : (z : ℤ) → negsuc (2 ^ 127 - 1) ≤ℤ z → z <ℤ pos (2 ^ 127) → fits z ≡ true
fits_between (pos n) l h = grind (arith, ints)
fits_between (negsuc n) l h = grind (arith, ints)

pub fits_below : (a : ℤ) (n m : ℕ) → fits a ≡ true → n ≤ m → fits (a +ℤ pos m) ≡ true → fits (a +ℤ pos n) ≡ true
fits_below a n m f l g =
    let x = fits_low a f in let y = fits_high (a +ℤ pos m) g in
    let p : negsuc (2 ^ 127 - 1) ≤ℤ (a +ℤ pos n) = omega (arith, ints) in
    let q : (a +ℤ pos n) <ℤ pos (2 ^ 127) = omega (arith, ints) in
    fits_between (a +ℤ pos n) p q

-- ---- the greatest address

pub top_none : (m : BTreeMap ℤ ℤ) (h : Heap) → (0 < length m.entries → ⊥) → from_entries m.entries ≡ h → (a : ℤ) → get h a ≡ None
top_none m h n e a = ap (λ g. get g a) (sym e) ∙ (heap_get m a ∙ go m.entries n)
  where
    go : (es : List (ℤ × ℤ)) → (0 < length es → ⊥) → lookup (λ k. is_eq (int_cmp a k)) es ≡ None
    go [] k = refl
    go (x ∷ xs) k = absurd (k (omega arith))

not_above : (a b : ℤ) → is_lt (int_cmp a b) ≡ false → b ≤ℤ a
not_above a b e = go (int_cmp a b) (int_ranks a b) e
  where
    go : (o : Ordering) → MatchOrdering o (a <ℤ b) (a ≡ b) (b <ℤ a) → is_lt o ≡ false → b ≤ℤ a
    go Less m i = absurd (cc)
    go Equal m i = omega (arith, ints)
    go Greater m i = omega (arith, ints)

pub top_some : (m : BTreeMap ℤ ℤ) (h : Heap) (a v : ℤ) → from_entries m.entries ≡ h → tree.get int_cmp m a ≡ Some v → tree.IsUpperBound int_cmp m a → IsTop h (Some a)
top_some m h a v e s u =
    (ap (λ g. is_some (get g a)) (sym e) ∙ (ap is_some (heap_get m a) ∙ ap is_some s), λ b i. not_above a b (u b (ap is_some (sym (heap_get m b)) ∙ (ap (λ g. is_some (get g b)) e ∙ i))))

pub sfits_of : (z : ℤ) → fits z ≡ true → SFits w128 z
sfits_of (pos n) h = search (rules, nat_tests)
sfits_of (negsuc n) h = search (rules, nat_tests)

-- a sum that the code made
pub sum_is : (base r : ℤ) (n : ℕ) → SFits w128 base → SFits w128 r → r ≡ pos n → fits (base +ℤ pos n) ≡ true → to_z w128 (of_z w128 (to_z w128 (of_z w128 base) +ℤ to_z w128 (of_z w128 r))) ≡ base +ℤ pos n
sum_is base r n f g e h =
    rw (to_z-of_z w128 base f, to_z-of_z w128 r g, e) (to_z-of_z w128 _ (sfits_of (base +ℤ pos n) h))
