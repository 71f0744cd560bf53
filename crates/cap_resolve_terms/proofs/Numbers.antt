-- A table of names tells the numbers of variables.
use Rattle.std.proofs.Common.{◌≡◌, ℕ, suc, ◌+◌, ◌<◌, ◌≤◌, Bool, true, false, true≢false, not, ◌||◌, cond, find, List, [], ◌∷◌, ◌++◌, map, length, slice_get, get_or, Option, Some, None, option_map, is_some, refl, sym, ap, subst, ◌∙◌, arith, add-zero, bytes_eq}
use Rattle.std.specs.Prelude.{if◌then◌else◌}
use Rattle.std.proofs.lemmas.List.Folds.{find_at, list_any-append}
use Rattle.std.proofs.lemmas.Option.{same_Some, slice_get-map, slice_get-get_or}
use Rattle.std.proofs.lemmas.List.{length-map, map-append}
use Rattle.cap_resolve_spec.specs.Names.{KnownName, NameScope, knows, has_name, variable_of, sort_of, found_sort, known_sort}
use Rattle.std.specs.Borrow.{Bor}
use Rattle.cap_resolve_terms.specs.Views.{entry_view, number_in, variable_in, first_number}
use Rattle.cap_resolve_terms.specs.declared.scope.Known.{Known}

some-not : {A B : Type 0} {x : A} → Some x ≡ None → B
some-not e = absurd (true≢false (ap is_some e))

pub some-number : (scope : NameScope) (x : List ℕ) (n : ℕ) → Some n ≡ variable_in scope x → (n ≡ variable_of scope x) × (knows scope x ≡ true)
some-number scope x n e = by (knows scope x) refl e
  where
    by : (b : Bool) → knows scope x ≡ b → Some n ≡ (if b then Some (variable_of scope x) else None) → (n ≡ variable_of scope x) × (knows scope x ≡ true)
    by true h d = (same_Some n (variable_of scope x) d, h)
    by false h d = some-not d

pub none-number : (scope : NameScope) (x : List ℕ) → None ≡ variable_in scope x → knows scope x ≡ false
none-number scope x e = by (knows scope x) refl e
  where
    by : (b : Bool) → knows scope x ≡ b → None ≡ (if b then Some (variable_of scope x) else None) → knows scope x ≡ false
    by true h d = some-not (sym d)
    by false h d = h

pub unknown-length : (scope : NameScope) (x : List ℕ) → knows scope x ≡ false → variable_of scope x ≡ length scope
unknown-length [] x e = refl
unknown-length (k ∷ scope) x e = by (has_name x k) e (λ d. unknown-length scope x d)
  where
    by : (b : Bool) → (b || knows scope x) ≡ false → (knows scope x ≡ false → variable_of scope x ≡ length scope) → cond (not b) (1 + variable_of scope x) 0 ≡ suc (length scope)
    by true d rest = absurd (true≢false d)
    by false d rest = let h = rest d in omega arith

pub unknown-sort : (scope : NameScope) (x : List ℕ) → knows scope x ≡ false → sort_of scope x ≡ None
unknown-sort [] x e = refl
unknown-sort (k ∷ scope) x e = by (has_name x k) e (λ d. unknown-sort scope x d)
  where
    by : (b : Bool) → (b || knows scope x) ≡ false → (knows scope x ≡ false → sort_of scope x ≡ None) → found_sort (cond b (Some k) (find (has_name x) scope)) ≡ None
    by true d rest = absurd (true≢false d)
    by false d rest = rest d

pub known-within : (scope : NameScope) (x : List ℕ) → knows scope x ≡ true → variable_of scope x < length scope
known-within [] x e = absurd (true≢false (sym e))
known-within (k ∷ scope) x e = by (has_name x k) e (λ d. known-within scope x d)
  where
    by : (b : Bool) → (b || knows scope x) ≡ true → (knows scope x ≡ true → variable_of scope x < length scope) → cond (not b) (1 + variable_of scope x) 0 < suc (length scope)
    by true d rest = omega arith
    by false d rest = let h = rest d in omega arith

pub sort-at : (scope : NameScope) (x : List ℕ) (k : Option KnownName) → slice_get scope (variable_of scope x) ≡ Some k → sort_of scope x ≡ known_sort k
sort-at scope x k e = ap found_sort (find_at (has_name x) scope ∙ e)

pub number-within : (entries : List (Option Known)) (x : List ℕ) (n : ℕ) → Some n ≡ variable_in (map entry_view entries) x → n < length entries
number-within entries x n e =
    let s = some-number (map entry_view entries) x n e in
    let h : variable_of (map entry_view entries) x < length (map entry_view entries) = known-within (map entry_view entries) x s.1 in
    let m : length (map entry_view entries) ≡ length entries = length-map entries entry_view in
    let k : n ≡ variable_of (map entry_view entries) x = s.0 in
    omega arith

-- the entry at a name's number
pub read-sort : (xs entries : List (Option Known)) (x : List ℕ) (n : ℕ) (d r : Option Known) → xs ≡ entries → Some n ≡ variable_in (map entry_view entries) x → get_or xs n d ≡ r → known_sort (entry_view r) ≡ sort_of (map entry_view entries) x
read-sort xs entries x n d r w e g =
    let s = some-number (map entry_view entries) x n e in
    let a : slice_get entries n ≡ Some r = slice_get-get_or entries n d (number-within entries x n e) ∙ ap Some (ap (λ ys. get_or ys n d) (sym w) ∙ g) in
    let b : slice_get (map entry_view entries) n ≡ Some (entry_view r) = slice_get-map entry_view entries n ∙ ap (option_map entry_view) a in
    sym (sort-at (map entry_view entries) x (entry_view r) (subst (λ m. slice_get (map entry_view entries) m ≡ Some (entry_view r)) s.0 b))

pub known-number : (scope : NameScope) (x : List ℕ) → is_some (variable_in scope x) ≡ knows scope x
known-number scope x = by (knows scope x)
  where
    by : (b : Bool) → is_some (if b then Some (variable_of scope x) else None) ≡ b
    by true = refl
    by false = refl

-- ---- scopes in a row

pub knows-append : (a b : NameScope) (x : List ℕ) → knows (a ++ b) x ≡ (knows a x || knows b x)
knows-append a b x = list_any-append (has_name x) a b

pub variable-known : (a b : NameScope) (x : List ℕ) → knows a x ≡ true → variable_of (a ++ b) x ≡ variable_of a x
variable-known [] b x e = absurd (true≢false (sym e))
variable-known (k ∷ a) b x e = by (has_name x k) e (λ d. variable-known a b x d)
  where
    by : (t : Bool) → (t || knows a x) ≡ true → (knows a x ≡ true → variable_of (a ++ b) x ≡ variable_of a x) → cond (not t) (1 + variable_of (a ++ b) x) 0 ≡ cond (not t) (1 + variable_of a x) 0
    by true d rest = refl
    by false d rest = ap (λ n. 1 + n) (rest d)

pub variable-unknown : (a b : NameScope) (x : List ℕ) → knows a x ≡ false → variable_of (a ++ b) x ≡ length a + variable_of b x
variable-unknown [] b x e = omega arith
variable-unknown (k ∷ a) b x e = by (has_name x k) e (λ d. variable-unknown a b x d)
  where
    by : (t : Bool) → (t || knows a x) ≡ false → (knows a x ≡ false → variable_of (a ++ b) x ≡ length a + variable_of b x) → cond (not t) (1 + variable_of (a ++ b) x) 0 ≡ suc (length a) + variable_of b x
    by true d rest = absurd (true≢false d)
    by false d rest = let h = rest d in omega arith

-- ---- one more variable

pub put-number : (scope : NameScope) (k : Option KnownName) (x : List ℕ) → variable_in (scope ++ k ∷ []) x ≡ first_number (variable_in scope x) (has_name x k) (length scope)
put-number scope k x = by (knows scope x) refl (has_name x k) refl
  where
    by : (b : Bool) → knows scope x ≡ b → (c : Bool) → has_name x k ≡ c → variable_in (scope ++ k ∷ []) x ≡ first_number (if b then Some (variable_of scope x) else None) c (length scope)
    by true e c f =
        ap (λ t. if t then Some (variable_of (scope ++ k ∷ []) x) else None) (knows-append scope (k ∷ []) x ∙ ap (λ t. t || knows (k ∷ []) x) e)
        ∙ ap Some (variable-known scope (k ∷ []) x e)
    by false e true f =
        ap (λ t. if t then Some (variable_of (scope ++ k ∷ []) x) else None) (knows-append scope (k ∷ []) x ∙ (ap (λ t. t || knows (k ∷ []) x) e ∙ ap (λ t. t || false) f))
        ∙ ap Some (variable-unknown scope (k ∷ []) x e ∙ (ap (λ t. length scope + cond (not t) (1 + 0) 0) f ∙ add-zero (length scope)))
    by false e false f =
        ap (λ t. if t then Some (variable_of (scope ++ k ∷ []) x) else None) (knows-append scope (k ∷ []) x ∙ (ap (λ t. t || knows (k ∷ []) x) e ∙ ap (λ t. t || false) f))

pub first-kept : (o : Option ℕ) (n : ℕ) → first_number o false n ≡ o
first-kept None n = refl
first-kept (Some m) n = refl

-- ---- one more entry

pub push-entry : (es : List (Bor (List ℕ) × ℕ)) (k : Bor (List ℕ)) (v : ℕ) (x : List ℕ) → number_in (es ++ (k, v) ∷ []) x ≡ first_number (number_in es x) (bytes_eq x k.now) v
push-entry [] k v x = by (bytes_eq x k.now)
  where
    by : (b : Bool) → cond b (Some v) None ≡ first_number None b v
    by true = refl
    by false = refl
push-entry (e ∷ es) k v x = by (bytes_eq x e.0.now) (push-entry es k v x)
  where
    by : (b : Bool) → number_in (es ++ (k, v) ∷ []) x ≡ first_number (number_in es x) (bytes_eq x k.now) v → cond b (Some e.1) (number_in (es ++ (k, v) ∷ []) x) ≡ first_number (cond b (Some e.1) (number_in es x)) (bytes_eq x k.now) v
    by true rest = refl
    by false rest = rest

pub none-from-test : {A : Type 0} (o : Option A) → is_some o ≡ false → o ≡ None
none-from-test None e = refl
none-from-test (Some a) e = absurd (true≢false e)

-- the table once the name's number is put, where there was none before
pub push-numbers : (entries new : List (Option Known)) (k : Option Known) (number : ℕ) (x : List ℕ) (o : Option ℕ) → new ≡ entries ++ k ∷ [] → number ≡ length entries → o ≡ variable_in (map entry_view entries) x → first_number o (has_name x (entry_view k)) number ≡ variable_in (map entry_view new) x
push-numbers entries new k number x o e n h =
    ap (λ p. first_number p (has_name x (entry_view k)) number) h
    ∙ (ap (first_number (variable_in (map entry_view entries) x) (has_name x (entry_view k))) (n ∙ sym (length-map entries entry_view))
    ∙ (sym (put-number (map entry_view entries) (entry_view k) x)
    ∙ ap (λ s. variable_in s x) (sym (map-append entry_view entries (k ∷ [])) ∙ ap (map entry_view) (sym e))))

pub variable_within : (scope : NameScope) (x : List ℕ) → variable_of scope x ≤ length scope
variable_within scope x = by (knows scope x) refl
  where
    by : (b : Bool) → knows scope x ≡ b → variable_of scope x ≤ length scope
    by true e = let h = known-within scope x e in omega arith
    by false e = let h = unknown-length scope x e in omega arith
