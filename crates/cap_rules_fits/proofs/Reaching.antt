-- What holds of the value of an attempt, where it comes to one.
use Rattle.std.proofs.Common.{◌≡◌, ◌≤◌, ℕ, suc, Bool, true, false, List, [], ◌∷◌, ◌++◌, length, length-append, Option, Some, None, arith, ◌∙◌, ◌+◌, refl, sym, ap, subst}
use Rattle.std.specs.Prelude.{nat_lt, if◌then◌else◌}
use Rattle.std.specs.List.{AllByRecursion}
use Rattle.std.proofs.lemmas.Bool.Decides.{nat_tests}
use Rattle.cap_lin.specs.Steps.{Step}
use Rattle.cap_goal_spec.specs.States.{longest_list}
use Rattle.cap_rules.specs.Attempts.{Event, Attempt, unit, go_on, ◌>>=◌, computed, found, need, each, appended}
use Rattle.cap_rules_ascending.proofs.Lists.{IfSome}

abbrev pub IsAny : {A : Type 0} → A → Type 0
IsAny x = Unit {0}

pub record Reaches {A : Type 0} (P : A → Type 0) (o : Attempt A) : Type 0 where
  pub value : IfSome P o.value

chain-by : {A B : Type 0} (P : A → Type 0) (Q : B → Type 0) (es : List Event) (v : Option A) (f : A → Attempt B) → IfSome P v → ((x : A) → P x → Reaches Q (f x)) → Reaches Q (go_on es v f)
chain-by P Q es None f h g = record { value = tt }
chain-by P Q es (Some x) f h g = record { value = (g x h).value }

pub chain : {A B : Type 0} {P : A → Type 0} {Q : B → Type 0} (o : Attempt A) (f : A → Attempt B) → Reaches P o → ((x : A) → P x → Reaches Q (f x)) → Reaches Q (o >>= f)
chain {P = P} {Q = Q} o f h g = chain-by P Q o.events o.value f h.value g

pub at : {A : Type 0} (P : A → Type 0) (x : A) → P x → Reaches P (unit x)
at P x h = record { value = h }

pub nowhere : {A : Type 0} (P : A → Type 0) → Reaches P (found None)
nowhere P = record { value = tt }

pub at-computed : {A : Type 0} (P : A → Type 0) (x : A) (steps : List Step) → P x → Reaches P (computed x steps)
at-computed P x steps h = record { value = h }

pub at-found : {A : Type 0} (P : A → Type 0) (o : Option A) → IfSome P o → Reaches P (found o)
at-found P o h = record { value = h }

pub any : {A : Type 0} (o : Attempt A) → Reaches IsAny o
any o = record { value = some o.value }
  where
    some : {A : Type 0} (v : Option A) → IfSome IsAny v
    some None = tt
    some (Some x) = tt

-- where the test passes, it is known
pub needed : (b : Bool) → Reaches (λ u. b ≡ true) (need b)
needed true = record { value = refl }
needed false = record { value = tt }

-- what is there is known to be
pub there : {A : Type 0} (o : Option A) → Reaches (λ x. o ≡ Some x) (found o)
there None = record { value = tt }
there (Some x) = record { value = refl }

pub choice : {A : Type 0} (P : A → Type 0) (b : Bool) (o q : Attempt A) → Reaches P o → Reaches P q → Reaches P (if b then o else q)
choice P true o q h k = h
choice P false o q h k = k

-- a list with a member more, where it has room
pub record Longer {A : Type 0} (xs : List A) (x : A) (ys : List A) : Type 0 where
  pub same : ys ≡ xs ++ x ∷ []
  pub room : length ys ≤ longest_list
  pub more : length ys ≡ suc (length xs)

pub one-more : {A : Type 0} (xs : List A) (x : A) → Reaches (Longer xs x) (appended xs x)
one-more xs x = chain _ _ (needed (nat_lt (length xs) longest_list)) (λ u h. at (Longer xs x) (xs ++ x ∷ []) (longer h))
  where
    below : (n m : ℕ) → nat_lt n m ≡ true → suc n ≤ m
    below n m h = grind (arith, nat_tests)

    longer : nat_lt (length xs) longest_list ≡ true → Longer xs x (xs ++ x ∷ [])
    longer h =
        let e : length (xs ++ x ∷ []) ≡ suc (length xs) = length-append xs (x ∷ []) ∙ add (length xs) in
        record { same = refl; room = subst (λ n. n ≤ longest_list) (sym e) (below (length xs) longest_list h); more = e }
      where
        add : (n : ℕ) → n + 1 ≡ suc n
        add n = omega arith

pub each-reaches : {A B : Type 0} (P : A → Type 0) (Q : B → Type 0) (f : A → Attempt B) → ((x : A) → P x → Reaches Q (f x)) → (xs : List A) → AllByRecursion P xs → Reaches (λ ys. AllByRecursion Q ys × (length ys ≡ length xs)) (each f xs)
each-reaches P Q f g [] h = record { value = (tt, refl) }
each-reaches P Q f g (x ∷ xs) h = chain _ _ (g x h.0) (λ y i. chain _ _ (each-reaches P Q f g xs h.1) (λ ys j. record { value = ((i, j.0), ap suc j.1) }))
