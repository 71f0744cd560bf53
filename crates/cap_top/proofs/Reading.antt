-- What the files of a command gave where no fault came is what they hold.
use Rattle.std.proofs.Common.{◌≡◌, ℕ, ◌<◌, ◌≤◌, inl, inr, nat_lt, Bool, true, false, if◌then◌else◌, List, [], ◌∷◌, length, Option, Some, None, refl, sym, ap, ◌∙◌, subst, arith}
use Rattle.std.proofs.lemmas.Bool.Decides.{nat_tests}
use Rattle.std.specs.Prelude.{IfSome, IsSomeAnd}
use Rattle.cap_io.specs.Files.{Files, content, SeenShelf}
use Rattle.cap_io.specs.Outside.{longest, Rose}
use Rattle.cap_top_commands.specs.Answers.{Fetched, held, unread, long}
use Rattle.cap_top_commands.specs.Answers.{Agree}
use Rattle.cap_top_laws.specs.Given.{given_by, AreGiven}
use Rattle.cap_top.specs.Reads.{IsFetched, AreFetched}

short-given : (bytes : List ℕ) → length bytes ≤ longest → given_by (Some bytes) ≡ held bytes
short-given bytes l =
    let e : nat_lt longest (length bytes) ≡ false = grind (arith, nat_tests) in
    ap (λ b. if b then long else held bytes) e

pub held-given : (o : Option (List ℕ)) (bytes : List ℕ) → o ≡ Some bytes → length bytes ≤ longest → given_by o ≡ held bytes
held-given o bytes e l = ap given_by e ∙ short-given bytes l

long-given : (bytes : List ℕ) → longest < length bytes → given_by (Some bytes) ≡ long
long-given bytes l =
    let e : nat_lt longest (length bytes) ≡ true = grind (arith, nat_tests) in
    ap (λ b. if b then long else held bytes) e

some-long : (o : Option (List ℕ)) → IsSomeAnd o (λ bytes. longest < length bytes) → given_by o ≡ long
some-long None h = absurd h
some-long (Some bytes) h = long-given bytes h

module _ (files : Files) (shelf shelf_now : SeenShelf) (told : shelf.holds ≡ Some files)
    (calm : ¬ Rose shelf.faults shelf_now.faults) where
  of-told : (P : Files → Type 0) → IfSome shelf.holds P → P files
  of-told P h = subst (λ o. IfSome o P) told h

  has-told : (P : Files → Type 0) → IsSomeAnd shelf.holds P → P files
  has-told P h = subst (λ o. IsSomeAnd o P) told h

  one-given : (name : List ℕ) (x : Fetched) → IsFetched shelf shelf_now name x
      → given_by (content files name) ≡ x
  one-given name (held bytes) h =
      held-given (content files name) bytes (of-told (λ fs. content fs name ≡ Some bytes) h.1) h.0
  one-given name unread (inl h) = absurd (calm h.0)
  one-given name unread (inr h) = ap given_by (has-told (λ fs. content fs name ≡ None) h)
  one-given name long h =
      some-long (content files name)
      (of-told (λ fs. IsSomeAnd (content fs name) (λ bytes. longest < length bytes)) h)

  -- what was read is given
  pub were-given : (names : List (List ℕ)) (xs : List Fetched) → AreFetched shelf shelf_now names xs
      → AreGiven files names xs
  were-given names [] h = tt
  were-given [] (x ∷ xs) h = absurd h
  were-given (name ∷ names) (x ∷ xs) h = (one-given name x h.0, were-given names xs h.1)

  -- whatever else is given, what was read is the same
  pub agree-given : (names : List (List ℕ)) (xs ys : List Fetched) → AreFetched shelf shelf_now names xs
      → AreGiven files names ys → Agree xs ys
  agree-given names [] ys h g = tt
  agree-given [] (x ∷ xs) ys h g = absurd h
  agree-given (name ∷ names) (x ∷ xs) [] h g = tt
  agree-given (name ∷ names) (x ∷ xs) (y ∷ ys) h g =
      (sym (one-given name x h.0) ∙ g.0, agree-given names xs ys h.1 g.1)

  pub first-given : (name : List ℕ) (names : List (List ℕ)) (x : Fetched) (xs : List Fetched)
      → AreFetched shelf shelf_now (name ∷ names) (x ∷ xs) → given_by (content files name) ≡ x
  first-given name names x xs h = one-given name x h.0

-- what a file that is there gives is not that it can't be read, and where it gives bytes it gives its own
pub given-held : (bytes other : List ℕ) → given_by (Some bytes) ≡ held other → bytes ≡ other
given-held bytes other e = by (nat_lt longest (length bytes)) refl
  where
    by : (b : Bool) → nat_lt longest (length bytes) ≡ b → bytes ≡ other
    by false f = let g : held bytes ≡ held other = sym (ap (λ c. if c then long else held bytes) f) ∙ e in cc
    by true f = let g : long ≡ held other = sym (ap (λ c. if c then long else held bytes) f) ∙ e in absurd cc

pub given-unread : (bytes : List ℕ) → given_by (Some bytes) ≡ unread → ⊥
given-unread bytes e = by (nat_lt longest (length bytes)) refl
  where
    by : (b : Bool) → nat_lt longest (length bytes) ≡ b → ⊥
    by false f = let g : held bytes ≡ unread = sym (ap (λ c. if c then long else held bytes) f) ∙ e in cc
    by true f = let g : long ≡ unread = sym (ap (λ c. if c then long else held bytes) f) ∙ e in cc
