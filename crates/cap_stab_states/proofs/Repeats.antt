-- Candidates that are added one after the other are those without repeats.
use Rattle.std.proofs.Common.{◌≡◌, ℤ, Bool, true, false, List, [], ◌∷◌, ◌++◌, map, fold, Option, Some, None, refl, sym, ap, ◌∙◌, append_assoc, append-nil}
use Rattle.std.specs.Prelude.{◌&&◌, ◌||◌, is_none, if◌then◌else◌}
use Rattle.std.specs.List.{list_any}
use Rattle.cap_lin.specs.Steps.{first_wide}
use Rattle.cap_lin.specs.declared.row.Row.{Row}
use Rattle.cap_fm_spec.specs.Rows.{same_row}
use Rattle.cap_goal_spec.specs.Candidates.{MadeRow, is_made, repeats, without_repeats, PlainCandidate, known, past, candidate_as, candidate_of}
use Rattle.cap_stab_states.specs.Adding.{is_row, is_repeat, added}

-- the candidates, without those that repeat earlier ones
abbrev without : List PlainCandidate → List PlainCandidate → List PlainCandidate
without earlier [] = []
without earlier (c ∷ cs) = if is_repeat earlier c then without earlier cs else c ∷ without (c ∷ earlier) cs

row-as : (r : Row) (n : MadeRow) (o : Option (ℤ × ℤ)) → is_row r (candidate_as n.row o) ≡ (is_none o && same_row r.term r.kind n.row.term n.row.kind)
row-as r n None = refl
row-as r n (Some w) = refl

any-row : (m : MadeRow) (ns : List MadeRow) → list_any (is_row m.row) (map candidate_of ns) ≡ list_any (repeats m) ns
any-row m [] = refl
any-row m (n ∷ ns) = ap (λ b. b || list_any (is_row m.row) (map candidate_of ns)) (row-as m.row n (first_wide n.steps)) ∙ ap (λ b. repeats m n || b) (any-row m ns)

repeat-as : (m : MadeRow) (ns : List MadeRow) (o : Option (ℤ × ℤ)) → is_repeat (map candidate_of ns) (candidate_as m.row o) ≡ (is_none o && list_any (repeats m) ns)
repeat-as m ns None = any-row m ns
repeat-as m ns (Some w) = refl

without-made : (earlier ms : List MadeRow) → map candidate_of (without_repeats earlier ms) ≡ without (map candidate_of earlier) (map candidate_of ms)
without-made earlier [] = refl
without-made earlier (m ∷ ms) =
    by_test (is_made m && list_any (repeats m) earlier) (without-made earlier ms) (without-made (m ∷ earlier) ms) ∙ ap (λ b. if b then without (map candidate_of earlier) (map candidate_of ms) else candidate_of m ∷ without (candidate_of m ∷ map candidate_of earlier) (map candidate_of ms)) (sym (repeat-as m earlier (first_wide m.steps)))
  where
    by_test : (b : Bool) → map candidate_of (without_repeats earlier ms) ≡ without (map candidate_of earlier) (map candidate_of ms) → map candidate_of (without_repeats (m ∷ earlier) ms) ≡ without (candidate_of m ∷ map candidate_of earlier) (map candidate_of ms) → map candidate_of (if b then without_repeats earlier ms else m ∷ without_repeats (m ∷ earlier) ms) ≡ (if b then without (map candidate_of earlier) (map candidate_of ms) else candidate_of m ∷ without (candidate_of m ∷ map candidate_of earlier) (map candidate_of ms))
    by_test true x y = x
    by_test false x y = ap (λ cs. candidate_of m ∷ cs) y

or-swap : (a b c : Bool) → (a || (b || c)) ≡ (b || (a || c))
or-swap true true c = refl
or-swap true false c = refl
or-swap false true c = refl
or-swap false false c = refl

any-push : {A : Type 0} (p : A → Bool) (xs : List A) (x : A) → list_any p (xs ++ (x ∷ [])) ≡ (p x || list_any p xs)
any-push p [] x = refl
any-push p (y ∷ xs) x = ap (λ b. p y || b) (any-push p xs x) ∙ or-swap (p y) (p x) (list_any p xs)

-- two lists have the same rows
abbrev Same : List PlainCandidate → List PlainCandidate → Type 0
Same cs ds = (c : PlainCandidate) → is_repeat cs c ≡ is_repeat ds c

same-push : (cs ds : List PlainCandidate) (d : PlainCandidate) → Same cs ds → Same (cs ++ (d ∷ [])) (d ∷ ds)
same-push cs ds d s (known r) = any-push (is_row r) cs d ∙ ap (λ b. is_row r d || b) (s (known r))
same-push cs ds d s (past a b) = refl

fold-added : (cs ds es : List PlainCandidate) → Same cs ds → fold added cs es ≡ cs ++ without ds es
fold-added cs ds [] s = sym (append-nil cs)
fold-added cs ds (e ∷ es) s =
    by_test (is_repeat cs e) (fold-added cs ds es s) (fold-added (cs ++ (e ∷ [])) (e ∷ ds) es (same-push cs ds e s)) ∙ ap (λ b. cs ++ (if b then without ds es else e ∷ without (e ∷ ds) es)) (s e)
  where
    by_test : (b : Bool) → fold added cs es ≡ cs ++ without ds es → fold added (cs ++ (e ∷ [])) es ≡ (cs ++ (e ∷ [])) ++ without (e ∷ ds) es → fold added (if b then cs else cs ++ (e ∷ [])) es ≡ cs ++ (if b then without ds es else e ∷ without (e ∷ ds) es)
    by_test true x y = x
    by_test false x y = y ∙ append_assoc cs (e ∷ []) (without (e ∷ ds) es)

pub found : (ms : List MadeRow) → fold added [] (map candidate_of ms) ≡ map candidate_of (without_repeats [] ms)
found ms = fold-added [] [] (map candidate_of ms) (λ c. refl) ∙ sym (without-made [] ms)

pub any_seen : {A B : Type 0} (p : B → Bool) (f : A → B) (xs : List A) → list_any p (map f xs) ≡ list_any (λ x. p (f x)) xs
any_seen p f [] = refl
any_seen p f (x ∷ xs) = ap (λ b. p (f x) || b) (any_seen p f xs)
