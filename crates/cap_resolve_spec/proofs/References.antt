-- A name stands for the first that has it.
use Rattle.std.proofs.Common.{◌≡◌, ℕ, zero, suc, ◌+◌, ◌<◌, Bool, true, false, true≢false, not, cond, ◌||◌, find, List, [], ◌∷◌, slice_get, Option, Some, None, refl, sym, subst, ◌∙◌, arith, bytes_eq}
use Rattle.std.specs.List.{position_or_len, list_any}
use Rattle.std.proofs.lemmas.List.Folds.{find_at}
use Rattle.std.proofs.lemmas.Option.{same_Some}
use Rattle.cap_parse_tree.specs.Tree.{RegionTree, FunctionTree}
use Rattle.cap_resolve_spec.specs.Names.{KnownName, NameScope, knows, has_name, variable_of}
use Rattle.cap_resolve_spec.specs.Items.{NumberedRegion, is_region, region_named, numbered_regions}
use Rattle.cap_resolve_spec.specs.Functions.{is_function, function_named}
use Rattle.cap_resolve_spec.specs.Program.{type_number, function_number}
use Rattle.cap_resolve_spec.specs.Meaning.{IsFirstNamed, IsKnownAs, IsRegionNamed, IsFunctionNamed}
use Rattle.cap_resolve_spec.proofs.Known.{same-text, text-itself}

passes : {A : Type 0} (p : A → Bool) (xs : List A) (x : A) → find p xs ≡ Some x → p x ≡ true
passes p [] x e = absurd (cc)
passes p (y ∷ ys) x e = by (p y) refl e (λ d. passes p ys x d)
  where
    by : (b : Bool) → p y ≡ b → cond b (Some y) (find p ys) ≡ Some x → (find p ys ≡ Some x → p x ≡ true) → p x ≡ true
    by true h d rest = subst (λ z. p z ≡ true) (same_Some y x d) h
    by false h d rest = rest d

before-fails : {A : Type 0} (p : A → Bool) (xs : List A) (i : ℕ) (a : A) → i < position_or_len p xs → slice_get xs i ≡ Some a → p a ≡ false
before-fails p [] i a l e = absurd (cc)
before-fails p (x ∷ xs) i a l e = by (p x) refl i l e (λ j k d. before-fails p xs j a k d)
  where
    by : (b : Bool) → p x ≡ b → (j : ℕ) → j < cond (not b) (1 + position_or_len p xs) 0 → slice_get (x ∷ xs) j ≡ Some a → ((m : ℕ) → m < position_or_len p xs → slice_get xs m ≡ Some a → p a ≡ false) → p a ≡ false
    by true h j k d rest = absurd (omega arith)
    by false h zero k d rest = subst (λ z. p z ≡ false) (same_Some x a d) h
    by false h (suc j) k d rest = rest j (omega arith) d

first-named : {A : Type 0} (HasName : A → Type 0) (p : A → Bool) → ((a : A) → p a ≡ true → HasName a) → ((a : A) → HasName a → p a ≡ true) → (xs : List A) (x : A) → find p xs ≡ Some x → IsFirstNamed HasName xs (position_or_len p xs)
first-named HasName p sound complete xs x e = record {
  member = x;
  there = sym (find_at p xs) ∙ e;
  named = sound x (passes p xs x e);
  first = λ i a l h n. true≢false (sym (complete a n) ∙ before-fails p xs i a l h);
}

pub function-named : (fs : List FunctionTree) (x : List ℕ) (f : FunctionTree) → function_named fs x ≡ Some f → IsFirstNamed (IsFunctionNamed x) fs (function_number fs x)
function-named fs x f e = first-named (IsFunctionNamed x) (is_function x) (λ g h. same-text x g.name.text h) (λ g h. subst (λ y. bytes_eq x y ≡ true) h (text-itself x)) fs f e

pub region-named : (rs : List RegionTree) (x : List ℕ) (k : NumberedRegion) → region_named rs x ≡ Some k → IsFirstNamed (IsRegionNamed x) (numbered_regions rs) (type_number rs x)
region-named rs x k e = first-named (IsRegionNamed x) (is_region x) (λ g h. same-text x g.region.name.text h) (λ g h. subst (λ y. bytes_eq x y ≡ true) h (text-itself x)) (numbered_regions rs) k e

known-is : (x : List ℕ) (k : Option KnownName) → has_name x k ≡ true → IsKnownAs x k
known-is x None e = absurd (true≢false (sym e))
known-is x (Some k) e = same-text x k.name e

is-known : (x : List ℕ) (k : Option KnownName) → IsKnownAs x k → has_name x k ≡ true
is-known x None h = absurd h
is-known x (Some k) h = subst (λ y. bytes_eq x y ≡ true) h (text-itself x)

any-found : {A : Type 0} (p : A → Bool) (xs : List A) → list_any p xs ≡ true → (x : A) × (find p xs ≡ Some x)
any-found p [] e = absurd (true≢false (sym e))
any-found {A} p (y ∷ ys) e = by (p y) e (λ d. any-found p ys d)
  where
    by : (b : Bool) → (b || list_any p ys) ≡ true → (list_any p ys ≡ true → (x : A) × (find p ys ≡ Some x)) → (x : A) × (cond b (Some y) (find p ys) ≡ Some x)
    by true d rest = (y, refl)
    by false d rest = rest d

pub variable-named : (scope : NameScope) (x : List ℕ) → knows scope x ≡ true → IsFirstNamed (IsKnownAs x) scope (variable_of scope x)
variable-named scope x e = let f = any-found (has_name x) scope e in first-named (IsKnownAs x) (has_name x) (known-is x) (is-known x) scope f.0 f.1
