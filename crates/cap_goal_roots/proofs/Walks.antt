-- Lists that are walked from their first member on, with the results on the way.
use Rattle.std.proofs.Common.{◌≡◌, ℕ, zero, suc, ◌+◌, ◌<◌, ◌≤◌, List, [], ◌∷◌, ◌++◌, map, length, drop, slice_index_or, refl, sym, ap, subst, ◌∙◌, arith, append_assoc, drop-cons, Some, None}
use Rattle.std.specs.Prelude.{slice_get}
use Rattle.std.specs.List.{flat_map, AllByRecursion}
use Rattle.std.proofs.lemmas.List.{drop_all, map-append}
use Rattle.cap_lin.specs.Steps.{Step, first_wide}
use Rattle.cap_lin.specs.Exact.{Explains}
use Rattle.cap_lin.specs.declared.error.LinError.{LinError}
use Rattle.cap_lin.proofs.Results.{first_wide-nil, first-narrow, explains_same, explains_first}
use Rattle.cap_goal_roots.proofs.Repeats.{moved_on, nothing_left}

pub next_member : {A : Type 0} (xs : List A) (i : ℕ) (x : A) → i < length xs → x ≡ slice_index_or xs i x → drop i xs ≡ x ∷ drop (i + 1) xs
next_member xs i x h e = drop-cons xs i x h ∙ (ap (λ y. y ∷ drop (suc i) xs) (sym e) ∙ ap (λ j. x ∷ drop j xs) (add i))
  where
    add : (i : ℕ) → suc i ≡ i + 1
    add i = omega arith

-- an error at this member is one of the whole
pub walk_stops : {A : Type 0} (f : A → List Step) (xs : List A) (i : ℕ) (x : A) (e : LinError) → i < length xs → x ≡ slice_index_or xs i x → Explains e (f x) → first_wide (flat_map f (drop i xs)) ≡ first_wide (flat_map f xs) → Explains e (flat_map f xs)
walk_stops f xs i x e h at w s =
    explains_same e (flat_map f xs) (f x ++ flat_map f (drop (i + 1) xs)) (sym s ∙ ap (λ l. first_wide (flat_map f l)) (next_member xs i x h at)) (explains_first e (f x) (flat_map f (drop (i + 1) xs)) w)

pub walk_goes_on : {A : Type 0} (f : A → List Step) (xs : List A) (i : ℕ) (x : A) → i < length xs → x ≡ slice_index_or xs i x → first_wide (f x) ≡ None → first_wide (flat_map f (drop i xs)) ≡ first_wide (flat_map f xs) → first_wide (flat_map f (drop (i + 1) xs)) ≡ first_wide (flat_map f xs)
walk_goes_on f xs i x h at n s =
    sym (first-narrow (f x) (flat_map f (drop (i + 1) xs)) n) ∙ (ap (λ l. first_wide (flat_map f l)) (sym (next_member xs i x h at)) ∙ s)

pub walk_ends : {A : Type 0} (f : A → List Step) (xs : List A) (i : ℕ) → length xs ≤ i → first_wide (flat_map f (drop i xs)) ≡ first_wide (flat_map f xs) → first_wide (flat_map f xs) ≡ None
walk_ends f xs i h s = sym s ∙ (ap (λ l. first_wide (flat_map f l)) (drop_all i xs h) ∙ first_wide-nil)

pub mapped_more : {A B : Type 0} (f : A → B) (done whole : List B) (xs : List A) (i : ℕ) (x : A) → i < length xs → x ≡ slice_index_or xs i x → done ++ map f (drop i xs) ≡ whole → (done ++ (f x ∷ [])) ++ map f (drop (i + 1) xs) ≡ whole
mapped_more f done whole xs i x h at e = moved_on done (f x) (map f (drop (i + 1) xs)) whole (ap (λ l. done ++ map f l) (sym (next_member xs i x h at)) ∙ e)

pub mapped_done : {A B : Type 0} (f : A → B) (done whole : List B) (xs : List A) (i : ℕ) → length xs ≤ i → done ++ map f (drop i xs) ≡ whole → done ≡ whole
mapped_done f done whole xs i h e = nothing_left done (map f (drop i xs)) whole (ap (map f) (drop_all i xs h)) e

-- the same, where what was made is viewed
pub viewed_more : {A B C : Type 0} (view : C → B) (f : A → B) (done done' : List C) (y : C) (whole : List B) (xs : List A) (i : ℕ) (x : A) → done' ≡ done ++ (y ∷ []) → view y ≡ f x → i < length xs → x ≡ slice_index_or xs i x → map view done ++ map f (drop i xs) ≡ whole → map view done' ++ map f (drop (i + 1) xs) ≡ whole
viewed_more view f done done' y whole xs i x e m h at inv =
    ap (λ v. map view v ++ map f (drop (i + 1) xs)) e
    ∙ (ap (λ v. v ++ map f (drop (i + 1) xs)) (map-append view done (y ∷ []) ∙ ap (λ b. map view done ++ (b ∷ [])) m) ∙ mapped_more f (map view done) whole xs i x h at inv)

pub map_map : {A B C : Type 0} (f : B → C) (g : A → B) (xs : List A) → map f (map g xs) ≡ map (λ x. f (g x)) xs
map_map f g [] = refl
map_map f g (x ∷ xs) = ap (λ ys. f (g x) ∷ ys) (map_map f g xs)

pub flat_map_map : {A B C : Type 0} (f : B → List C) (g : A → B) (xs : List A) → flat_map f (map g xs) ≡ flat_map (λ x. f (g x)) xs
flat_map_map f g [] = refl
flat_map_map f g (x ∷ xs) = ap (λ ys. f (g x) ++ ys) (flat_map_map f g xs)

pub each_at : {A B : Type 0} (P : B → Type 0) (f : A → B) (xs : List A) (i : ℕ) (x : A) → i < length xs → x ≡ slice_index_or xs i x → AllByRecursion P (map f xs) → P (f x)
each_at P f [] i x h e a = absurd (omega arith)
each_at P f (y ∷ xs) zero x h e a = subst (λ z. P (f z)) (sym e) a.0
each_at P f (y ∷ xs) (suc i) x h e a = each_at P f xs i x (omega arith) e a.1

pub get_mapped : {A B : Type 0} (f : A → B) (xs : List A) (i : ℕ) (x : A) → i < length xs → x ≡ slice_index_or xs i x → slice_get (map f xs) i ≡ Some (f x)
get_mapped f [] i x h e = absurd (omega arith)
get_mapped f (y ∷ xs) zero x h e = ap (λ z. Some (f z)) (sym e)
get_mapped f (y ∷ xs) (suc i) x h e = get_mapped f xs i x (omega arith) e

pub flat_more : {A B C : Type 0} (f : B → List C) (g : A → B) (done done' whole : List C) (xs : List A) (i : ℕ) (x : A) → done' ≡ done ++ f (g x) → i < length xs → x ≡ slice_index_or xs i x → done ++ flat_map f (map g (drop i xs)) ≡ whole → done' ++ flat_map f (map g (drop (i + 1) xs)) ≡ whole
flat_more f g done done' whole xs i x e h at inv =
    ap (λ l. l ++ flat_map f (map g (drop (i + 1) xs))) e
    ∙ (append_assoc done (f (g x)) (flat_map f (map g (drop (i + 1) xs))) ∙ (ap (λ l. done ++ flat_map f (map g l)) (sym (next_member xs i x h at)) ∙ inv))

pub flat_done : {A B C : Type 0} (f : B → List C) (g : A → B) (done whole : List C) (xs : List A) (i : ℕ) → length xs ≤ i → done ++ flat_map f (map g (drop i xs)) ≡ whole → done ≡ whole
flat_done f g done whole xs i h e = nothing_left done (flat_map f (map g (drop i xs))) whole (ap (λ l. flat_map f (map g l)) (drop_all i xs h)) e
