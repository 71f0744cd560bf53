-- A line that is put behind those at one place.
use Rattle.std.proofs.Common.{◌≡◌, ◌≢◌, ℕ, ◌<◌, List, [], ◌∷◌, ◌++◌, length, map, get_or, refl, sym, ap, ◌∙◌, subst, arith, Bool, true, false}
use Rattle.std.specs.Prelude.{slice_set, ◌==◌, if◌then◌else◌, IfOk, Result, Ok, Err}
use Rattle.std.specs.Result.{is_ok}
use Rattle.std.specs.Global.{Vec}
use Rattle.std.specs.declared.alloc.AllocError.{AllocError}
use Rattle.std.proofs.lemmas.Bool.Decides.{nat_tests}
use Rattle.std.proofs.lemmas.List.{append-nil, get_or-set_same, get_or-set_other, map-set}
use Rattle.cap_outline.specs.Gathered.{lines_at, gathered_at, line_if, line_if_both}
use Rattle.cap_outline.proofs.Reading.{same-there, mapped-there, mapped-within}

-- ---- at a place and elsewhere

-- what is put at one place is there
changed :
    {A : Type 0} (lines : A → List ℕ) (xs : List A) (n : ℕ) (old new d : A) (line : List ℕ) → n < length xs → old ≡ get_or xs n old → lines new ≡ lines old ++ line → lines (get_or (slice_set xs n new) n d) ≡ lines (get_or xs n d) ++ line
changed lines xs n old new d line h e q =
    ap lines (get_or-set_same xs n new d h) ∙ (q ∙ ap (λ x. lines x ++ line) (same-there xs xs n old d h e refl))

-- what is at another place stays
unchanged :
    {A : Type 0} (lines : A → List ℕ) (xs : List A) (n k : ℕ) (new d : A) → k ≢ n → lines (get_or (slice_set xs n new) k d) ≡ lines (get_or xs k d) ++ []
unchanged lines xs n k new d ne =
    ap lines (get_or-set_other xs n k new d ne) ∙ sym (append-nil (lines (get_or xs k d)))

-- ---- of a function

pub line-put :
    (ls : List (List ℕ)) (n : ℕ) (old new line : List ℕ) (k : ℕ) → n < length ls → old ≡ get_or ls n old → new ≡ old ++ line → lines_at (slice_set ls n new) k ≡ lines_at ls k ++ line_if n k line
line-put ls n old new line k h e q = by (n == k) refl
  where
    by : (b : Bool) → (n == k) ≡ b → lines_at (slice_set ls n new) k ≡ lines_at ls k ++ line_if n k line
    by true t =
        let m : n ≡ k = grind (arith, nat_tests, t) in
        rw t (subst (λ j. lines_at (slice_set ls n new) j ≡ lines_at ls j ++ line) m (changed (λ x. x) ls n old new [] line h e q))
    by false f =
        let ne : k ≢ n = grind (arith, nat_tests, f) in
        rw f (unchanged (λ x. x) ls n k new [] ne)

-- ---- of a program

pub both-put :
    (gs : List (List (List ℕ))) (n : ℕ) (old new : List (List ℕ)) (m : ℕ) (line : List ℕ) (f k : ℕ) → n < length gs → old ≡ get_or gs n old → lines_at new k ≡ lines_at old k ++ line_if m k line → gathered_at (slice_set gs n new) f k ≡ gathered_at gs f k ++ line_if_both n m f k line
both-put gs n old new m line f k h e q = by (n == f) refl
  where
    by : (b : Bool) → (n == f) ≡ b → gathered_at (slice_set gs n new) f k ≡ gathered_at gs f k ++ line_if_both n m f k line
    by true t =
        let o : n ≡ f = grind (arith, nat_tests, t) in
        rw t (subst (λ j. gathered_at (slice_set gs n new) j k ≡ gathered_at gs j k ++ line_if m k line) o (changed (λ ls. lines_at ls k) gs n old new [] (line_if m k line) h e q))
    by false g =
        let ne : f ≢ n = grind (arith, nat_tests, g) in
        rw g (unchanged (λ ls. lines_at ls k) gs n f new [] ne)

-- ---- what is put, unless memory runs out

pub vec-put :
    (vs : List (Vec ℕ)) (seen before : List (List ℕ)) (n : ℕ) (old new : Vec ℕ) (line : List ℕ) (r : Result (Unit {0}) AllocError) → map (λ v. v.items) vs ≡ seen → n < length seen → old ≡ get_or vs n old → new.items ≡ (if is_ok r then old.items ++ line else old.items) → ((k : ℕ) → lines_at seen k ≡ lines_at before k) → IfOk r (λ _. (k : ℕ) → lines_at (map (λ v. v.items) (slice_set vs n new)) k ≡ lines_at before k ++ line_if n k line)
vec-put vs seen before n old new line (Err x) e h o q b = tt
vec-put vs seen before n old new line (Ok x) e h o q b = λ k.
    let ls = map (λ (v : Vec ℕ). v.items) vs in
    let there : n < length ls = subst (λ l. n < length l) (sym e) h in
    let within : n < length vs = mapped-within (λ (v : Vec ℕ). v.items) vs n there in
    ap (λ l. lines_at l k) (map-set (λ (v : Vec ℕ). v.items) vs n new)
    ∙ (line-put ls n old.items new.items line k there (mapped-there (λ (v : Vec ℕ). v.items) vs n old old.items within o) q
    ∙ ap (λ w. w ++ line_if n k line) (ap (λ l. lines_at l k) e ∙ b k))

pub list-put :
    (gs seen before : List (List (List ℕ))) (n : ℕ) (old new : List (List ℕ)) (m : ℕ) (line : List ℕ) (r : Result (Unit {0}) AllocError) → gs ≡ seen → n < length seen → old ≡ get_or gs n old → IfOk r (λ _. (k : ℕ) → lines_at new k ≡ lines_at old k ++ line_if m k line) → ((f k : ℕ) → gathered_at seen f k ≡ gathered_at before f k) → IfOk r (λ _. (f k : ℕ) → gathered_at (slice_set gs n new) f k ≡ gathered_at before f k ++ line_if_both n m f k line)
list-put gs seen before n old new m line (Err x) e h o q b = tt
list-put gs seen before n old new m line (Ok x) e h o q b = λ f k.
    both-put gs n old new m line f k (subst (λ l. n < length l) (sym e) h) o (q k)
    ∙ ap (λ w. w ++ line_if_both n m f k line) (ap (λ l. gathered_at l f k) e ∙ b f k)
