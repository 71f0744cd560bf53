-- Which names are known: a scope with the new names of an assertion knows all names that occur in it.
use Rattle.std.proofs.Common.{◌≡◌, ℕ, Bool, true, false, true≢false, not, ◌||◌, cond, List, [], ◌∷◌, ◌++◌, filter, fold, length, Some, None, refl, sym, ap, ◌∙◌, bytes_eq}
use Rattle.std.specs.List.{AllByRecursion, list_any}
use Rattle.std.proofs.lemmas.List.Folds.{list_any-append}
use Rattle.std.proofs.lemmas.Slice.Eq.{bytes_eq-Decides}
use Rattle.cap_lin.specs.declared.row.Sort.TheVariants.{Int}
use Rattle.cap_prog.specs.Scopes.{known}
use Rattle.cap_prog.specs.Scopes as sorted
use Rattle.cap_parse_tree.specs.declared.word.Word.{Word}
use Rattle.cap_resolve_spec.specs.Names.{NameScope, knows, has_name, sorts_of, whole_numbers, hidden, with_first}
use Rattle.cap_resolve_spec.specs.Items.{Occurrence, name_of, new_names, scope_of}
use Rattle.cap_resolve_spec.specs.Program.{occurrence_sorts}
use Rattle.cap_resolve_spec.proofs.Every.{each_weaker}

-- ---- equal texts

pub same-text : (x y : List ℕ) → bytes_eq x y ≡ true → x ≡ y
same-text x y e = (bytes_eq-Decides x y).0 e

pub text-itself : (x : List ℕ) → bytes_eq x x ≡ true
text-itself x = (bytes_eq-Decides x x).1 refl

-- ---- the sorts of scopes

pub sorts-whole : (ws : List Word) (b : NameScope) → sorts_of (whole_numbers ws ++ b) ≡ sorted.whole_numbers (length ws) ++ sorts_of b
sorts-whole [] b = refl
sorts-whole (w ∷ ws) b = ap (λ ss. Some Int ∷ ss) (sorts-whole ws b)

pub sorts-hidden : (ws : List Word) (b : NameScope) → sorts_of (hidden ws ++ b) ≡ sorted.hidden (length ws) ++ sorts_of b
sorts-hidden [] b = refl
sorts-hidden (w ∷ ws) b = ap (λ ss. None ∷ ss) (sorts-hidden ws b)

pub sorts-names : (os : List Occurrence) (b : NameScope) → sorts_of (scope_of os ++ b) ≡ known (occurrence_sorts os) ++ sorts_of b
sorts-names [] b = refl
sorts-names (o ∷ os) b = ap (λ ss. Some o.sort ∷ ss) (sorts-names os b)

pub sorts-last : (os : List Occurrence) → sorts_of (scope_of os) ≡ known (occurrence_sorts os)
sorts-last [] = refl
sorts-last (o ∷ os) = ap (λ ss. Some o.sort ∷ ss) (sorts-last os)

-- ---- names that are known

or-left : (a b : Bool) → a ≡ true → (a || b) ≡ true
or-left true b e = refl
or-left false b e = absurd (true≢false (sym e))

or-right : (a b : Bool) → b ≡ true → (a || b) ≡ true
or-right true b e = refl
or-right false b e = e

pub knows-front : (a b : NameScope) (x : List ℕ) → knows a x ≡ true → knows (a ++ b) x ≡ true
knows-front a b x e = list_any-append (has_name x) a b ∙ or-left (knows a x) (knows b x) e

pub knows-behind : (a b : NameScope) (x : List ℕ) → knows b x ≡ true → knows (a ++ b) x ≡ true
knows-behind a b x e = list_any-append (has_name x) a b ∙ or-right (knows a x) (knows b x) e

abbrev pub stands-in : {A : Type 0} → (A → List ℕ) → List A → List ℕ → Bool
stands-in name xs x = list_any (λ a. bytes_eq x (name a)) xs

knows-scope_of : (os : List Occurrence) (x : List ℕ) → stands-in name_of os x ≡ true → knows (scope_of os) x ≡ true
knows-scope_of [] x e = e
knows-scope_of (o ∷ os) x e = by (bytes_eq x (name_of o)) e (λ d. knows-scope_of os x d)
  where
    by : (b : Bool) → (b || stands-in name_of os x) ≡ true → (stands-in name_of os x ≡ true → knows (scope_of os) x ≡ true) → (b || knows (scope_of os) x) ≡ true
    by true d rest = refl
    by false d rest = rest d

-- ---- the first of each name

stays : {A : Type 0} (name : A → List ℕ) (os : List A) (a : A) (x : List ℕ) → stands-in name os x ≡ true → stands-in name (with_first name os a) x ≡ true
stays name os a x e = by (list_any (λ b. bytes_eq (name a) (name b)) os)
  where
    by : (b : Bool) → stands-in name (cond b os (os ++ a ∷ [])) x ≡ true
    by true = e
    by false = list_any-append (λ o. bytes_eq x (name o)) os (a ∷ []) ∙ or-left _ _ e

is-put : {A : Type 0} (name : A → List ℕ) (os : List A) (a : A) → stands-in name (with_first name os a) (name a) ≡ true
is-put name os a = by (stands-in name os (name a)) refl
  where
    by : (b : Bool) → stands-in name os (name a) ≡ b → stands-in name (cond b os (os ++ a ∷ [])) (name a) ≡ true
    by true e = e
    by false e = list_any-append (λ o. bytes_eq (name a) (name o)) os (a ∷ []) ∙ or-right _ _ (or-left _ _ (text-itself (name a)))

stays-through : {A : Type 0} (name : A → List ℕ) (os more : List A) (x : List ℕ) → stands-in name os x ≡ true → stands-in name (fold (with_first name) os more) x ≡ true
stays-through name os [] x e = e
stays-through name os (a ∷ more) x e = stays-through name (with_first name os a) more x (stays name os a x e)

pub all-put : {A : Type 0} (name : A → List ℕ) (os more : List A) → AllByRecursion (λ o. stands-in name (fold (with_first name) os more) (name o) ≡ true) more
all-put name os [] = tt
all-put name os (a ∷ more) = (stays-through name (with_first name os a) more (name a) (is-put name os a), all-put name (with_first name os a) more)

-- what a filter leaves out is known already
new-known : (scope : NameScope) (P : Occurrence → Type 0) → ((o : Occurrence) → knows scope (name_of o) ≡ true → P o) → (os : List Occurrence) → AllByRecursion P (filter (λ o. not (knows scope (name_of o))) os) → AllByRecursion P os
new-known scope P old [] a = tt
new-known scope P old (o ∷ os) a = by (knows scope (name_of o)) refl a (λ d. new-known scope P old os d)
  where
    by : (b : Bool) → knows scope (name_of o) ≡ b → AllByRecursion P (cond (not b) (o ∷ filter (λ p. not (knows scope (name_of p))) os) (filter (λ p. not (knows scope (name_of p))) os)) → (AllByRecursion P (filter (λ p. not (knows scope (name_of p))) os) → AllByRecursion P os) → P o × AllByRecursion P os
    by true e d rest = (old o e, rest d)
    by false e d rest = (d.0, rest d.1)

abbrev pub OccursKnown : NameScope → Occurrence → Type 0
OccursKnown scope o = knows scope (name_of o) ≡ true

-- the scope with the new names knows each name that occurs
pub occurrences-known : (scope : NameScope) (os : List Occurrence) → AllByRecursion (OccursKnown (scope ++ scope_of (new_names scope os))) os
occurrences-known scope os =
    new-known scope (OccursKnown (scope ++ scope_of (new_names scope os))) (λ o e. knows-front scope (scope_of (new_names scope os)) (name_of o) e) os
    (each_weaker (λ o. stands-in name_of (new_names scope os) (name_of o) ≡ true) (OccursKnown (scope ++ scope_of (new_names scope os)))
    (λ o e. knows-behind scope (scope_of (new_names scope os)) (name_of o) (knows-scope_of (new_names scope os) (name_of o) e))
    (filter (λ o. not (knows scope (name_of o))) os) (all-put name_of [] (filter (λ o. not (knows scope (name_of o))) os)))

-- where none is left out, a filter keeps all
pub all-kept : {A : Type 0} (p : A → Bool) (xs : List A) → AllByRecursion (λ x. not (p x) ≡ false) xs → filter p xs ≡ xs
all-kept p [] a = refl
all-kept p (x ∷ xs) a = by (p x) a.0 (all-kept p xs a.1)
  where
    by : (b : Bool) → not b ≡ false → filter p xs ≡ xs → cond b (x ∷ filter p xs) (filter p xs) ≡ x ∷ xs
    by true e rest = ap (λ ys. x ∷ ys) rest
    by false e rest = absurd (true≢false e)
