-- The names that are new in an assertion have the variables behind those that are known there, and
-- each is bound.
use Rattle.std.proofs.Common.{◌≡◌, ℕ, zero, suc, ◌+◌, ◌<◌, Bool, true, false, true≢false, not, cond, ◌||◌, List, [], ◌∷◌, ◌++◌, filter, fold, length, slice_get, bytes_eq, Some, refl, sym, ap, subst, ◌∙◌, arith}
use Rattle.std.specs.List.{AllByRecursion, list_any, position_or_len}
use Rattle.std.proofs.lemmas.List.Folds.{list_any-append}
use Rattle.std.proofs.lemmas.Option.{same_Some}
use Rattle.cap_prog.specs.Program.{Items}
use Rattle.cap_goal_spec.specs.Environments.{is_bound_by}
use Rattle.cap_parse_tree.specs.declared.word.Word.{Word}
use Rattle.cap_resolve_spec.specs.Names.{NameScope, has_name, knows, hidden, variable_of, with_first}
use Rattle.cap_resolve_spec.specs.Items.{Occurrence, name_of, is_bound, new_names, scope_of}
use Rattle.cap_resolve_spec.proofs.Every.{each_append}
use Rattle.cap_resolve_spec.proofs.Known.{text-itself}
use Rattle.cap_owners_runs_laws.proofs.Texts.Binding.{or-false, WhereBound}

-- ---- lists

pub get-each :
    {A : Type 0} (P : A → Type 0) (xs : List A) (i : ℕ) (x : A) → AllByRecursion P xs →
    slice_get xs i ≡ Some x → P x
get-each P [] i x h e = absurd (cc)
get-each P (y ∷ xs) zero x h e = subst P (same_Some y x e) h.0
get-each P (y ∷ xs) (suc i) x h e = get-each P xs i x h.1 e

pub there-is :
    {A : Type 0} (xs : List A) (i : ℕ) → i < length xs → (x : A) × (slice_get xs i ≡ Some x)
there-is [] i l = absurd (omega (arith, l))
there-is (x ∷ xs) zero l = (x, refl)
there-is (x ∷ xs) (suc i) l = there-is xs i (omega (arith, l))

each-kept :
    {A : Type 0} (P : A → Type 0) (p : A → Bool) (xs : List A) → AllByRecursion P xs →
    AllByRecursion P (filter p xs)
each-kept P p [] h = tt
each-kept P p (x ∷ xs) h = by (p x) (each-kept P p xs h.1)
  where
    by :
        (b : Bool) → AllByRecursion P (filter p xs) →
        AllByRecursion P (cond b (x ∷ filter p xs) (filter p xs))
    by true rest = (h.0, rest)
    by false rest = rest

pub all-pass :
    {A : Type 0} (p : A → Bool) (xs : List A) → AllByRecursion (λ x. p x ≡ true) (filter p xs)
all-pass p [] = tt
all-pass p (x ∷ xs) = by (p x) refl (all-pass p xs)
  where
    by :
        (b : Bool) → p x ≡ b → AllByRecursion (λ y. p y ≡ true) (filter p xs) →
        AllByRecursion (λ y. p y ≡ true) (cond b (x ∷ filter p xs) (filter p xs))
    by true e rest = (e, rest)
    by false e rest = rest

not-true : (b : Bool) → not b ≡ true → b ≡ false
not-true true e = absurd (true≢false (sym e))
not-true false e = refl

-- ---- the first of each name

firsts-are :
    (P : Occurrence → Type 0) (acc os : List Occurrence) → AllByRecursion P acc →
    AllByRecursion P os → AllByRecursion P (fold (with_first name_of) acc os)
firsts-are P acc [] h k = h
firsts-are P acc (o ∷ os) h k =
    firsts-are P (with_first name_of acc o) os
    (by (list_any (λ (b : Occurrence). bytes_eq (name_of o) (name_of b)) acc)) k.1
  where
    by : (b : Bool) → AllByRecursion P (cond b acc (acc ++ o ∷ []))
    by true = h
    by false = each_append P acc (o ∷ []) h (k.0, tt)

-- what holds of all occurrences holds of the first ones of new names
pub new-are :
    (P : Occurrence → Type 0) (scope : NameScope) (os : List Occurrence) → AllByRecursion P os →
    AllByRecursion P (new_names scope os)
new-are P scope os h =
    firsts-are P [] (filter (λ o. not (knows scope (name_of o))) os) tt
    (each-kept P (λ o. not (knows scope (name_of o))) os h)

abbrev pub IsUnknown : NameScope → Occurrence → Type 0
IsUnknown scope o = knows scope (name_of o) ≡ false

pub new-unknown :
    (scope : NameScope) (os : List Occurrence) →
    AllByRecursion (IsUnknown scope) (new_names scope os)
new-unknown scope os =
    let ws = filter (λ (o : Occurrence). not (knows scope (name_of o))) os in
    firsts-are (IsUnknown scope) [] ws tt (by ws (all-pass (λ o. not (knows scope (name_of o))) os))
  where
    by :
        (ws : List Occurrence) →
        AllByRecursion (λ (o : Occurrence). not (knows scope (name_of o)) ≡ true) ws →
        AllByRecursion (IsUnknown scope) ws
    by [] h = tt
    by (w ∷ ws) h = (not-true (knows scope (name_of w)) h.0, by ws h.1)

-- no two have one name
abbrev pub AreDistinct : List Occurrence → Type 0
AreDistinct [] = Unit {0}
AreDistinct (o ∷ os) =
    AllByRecursion (λ q. bytes_eq (name_of q) (name_of o) ≡ false) os × AreDistinct os

distinct-more :
    (os : List Occurrence) (a : Occurrence) → AreDistinct os →
    list_any (λ (b : Occurrence). bytes_eq (name_of a) (name_of b)) os ≡ false →
    AreDistinct (os ++ a ∷ [])
distinct-more [] a h e = (tt, tt)
distinct-more (o ∷ os) a h e =
    let d = or-false (bytes_eq (name_of a) (name_of o))
    (list_any (λ (b : Occurrence). bytes_eq (name_of a) (name_of b)) os) e in (
      each_append (λ q. bytes_eq (name_of q) (name_of o) ≡ false) os (a ∷ []) h.0 (d.0, tt),
      distinct-more os a h.1 d.1,
    )

firsts-distinct :
    (acc os : List Occurrence) → AreDistinct acc → AreDistinct (fold (with_first name_of) acc os)
firsts-distinct acc [] h = h
firsts-distinct acc (o ∷ os) h =
    firsts-distinct (with_first name_of acc o) os
    (by (list_any (λ (b : Occurrence). bytes_eq (name_of o) (name_of b)) acc) refl)
  where
    by :
        (b : Bool) → list_any (λ (b : Occurrence). bytes_eq (name_of o) (name_of b)) acc ≡ b →
        AreDistinct (cond b acc (acc ++ o ∷ []))
    by true e = h
    by false e = distinct-more acc o h e

pub new-distinct : (scope : NameScope) (os : List Occurrence) → AreDistinct (new_names scope os)
new-distinct scope os = firsts-distinct [] (filter (λ o. not (knows scope (name_of o))) os) tt

-- ---- numbers

position-behind :
    {A : Type 0} (p : A → Bool) (xs ys : List A) → AllByRecursion (λ x. p x ≡ false) xs →
    position_or_len p (xs ++ ys) ≡ length xs + position_or_len p ys
position-behind p [] ys h = omega arith
position-behind p (x ∷ xs) ys h =
    let rest = position-behind p xs ys h.1 in
    ap (λ b. cond (not b) (1 + position_or_len p (xs ++ ys)) 0) h.0
    ∙ ap (λ n. 1 + n) rest
    ∙ omega arith

own-position :
    (os : List Occurrence) (i : ℕ) (o : Occurrence) → AreDistinct os → slice_get os i ≡ Some o →
    position_or_len (has_name (name_of o)) (scope_of os) ≡ i
own-position [] i o h e = absurd (cc)
own-position (q ∷ os) zero o h e =
    let same : bytes_eq (name_of o) (name_of q) ≡ true =
    subst (λ (z : Occurrence). bytes_eq (name_of o) (name_of z) ≡ true) (sym (same_Some q o e))
    (text-itself (name_of o)) in
    ap (λ b. cond (not b) (1 + position_or_len (has_name (name_of o)) (scope_of os)) 0) same
own-position (q ∷ os) (suc i) o h e =
    let other = get-each (λ (z : Occurrence). bytes_eq (name_of z) (name_of q) ≡ false) os i o h.0 e
    in
    ap (λ b. cond (not b) (1 + position_or_len (has_name (name_of o)) (scope_of os)) 0) other
    ∙ ap (λ n. 1 + n) (own-position os i o h.1 e)
    ∙ omega arith

none-any :
    {A : Type 0} (p : A → Bool) (xs : List A) → list_any p xs ≡ false →
    AllByRecursion (λ x. p x ≡ false) xs
none-any p [] e = tt
none-any p (x ∷ xs) e =
    let d = or-false (p x) (list_any p xs) e in
    (d.0, none-any p xs d.1)

-- new name i has the variable that many behind the known ones
pub variable-new :
    (a : NameScope) (os : List Occurrence) (i : ℕ) (o : Occurrence) → IsUnknown a o →
    AreDistinct os → slice_get os i ≡ Some o →
    variable_of (a ++ scope_of os) (name_of o) ≡ length a + i
variable-new a os i o unknown distinct e =
    position-behind (has_name (name_of o)) a (scope_of os)
    (none-any (has_name (name_of o)) a unknown)
    ∙ ap (λ n. length a + n) (own-position os i o distinct e)

-- ---- bound

-- of each so many names from this one on
abbrev pub BindsFrom : ℕ → ℕ → Items → Type 0
BindsFrom start n items = (i : ℕ) → i < n → is_bound_by (start + i) items ≡ true

pub new-bound :
    (a : NameScope) (os : List Occurrence) (items : Items) → AllByRecursion (IsUnknown a) os →
    AreDistinct os → AllByRecursion (λ o. is_bound o ≡ true) os →
    AllByRecursion (WhereBound (a ++ scope_of os) (λ x. is_bound_by x items ≡ true)) os →
    BindsFrom (length a) (length os) items
new-bound a os items unknown distinct bound binds i l =
    let o = there-is os i l in
    subst (λ x. is_bound_by x items ≡ true)
    (variable-new a os i o.0 (get-each (IsUnknown a) os i o.0 unknown o.1) distinct o.1)
    (get-each (WhereBound (a ++ scope_of os) (λ x. is_bound_by x items ≡ true)) os i o.0 binds o.1
    (get-each (λ (q : Occurrence). is_bound q ≡ true) os i o.0 bound o.1))

-- names that are hidden are not known
none-hidden : (ws : List Word) (x : List ℕ) → knows (hidden ws) x ≡ false
none-hidden [] x = refl
none-hidden (w ∷ ws) x = none-hidden ws x

pub unknown-hidden :
    (a : NameScope) (ws : List Word) (o : Occurrence) → IsUnknown a o → IsUnknown (a ++ hidden ws) o
unknown-hidden a ws o e =
    list_any-append (has_name (name_of o)) a (hidden ws)
    ∙ ap (λ b. b || knows (hidden ws) (name_of o)) e
    ∙ none-hidden ws (name_of o)
