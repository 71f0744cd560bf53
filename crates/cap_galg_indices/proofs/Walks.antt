-- Two sets, walked side by side along their bounds.
use Rattle.std.proofs.Common.{◌≡◌, ℕ, ◌+◌, ◌≤◌, ◌<◌, arith, refl, sym, ap, ◌∙◌, subst, rules}
use Rattle.std.proofs.Common.{Bool, true, false, List, [], ◌∷◌, ◌++◌, append-nil, append_assoc}
use Rattle.std.specs.Prelude.{not, ◌&&◌, ◌||◌, ◌==◌, get_or, drop, length}
use Rattle.std.specs.List.{list_any}
use Rattle.std.proofs.lemmas.List.Folds.{list_any-append}
use Rattle.cap_galg_indices.specs.Sets.{AscendFrom, AreBounds, exactly_one, has, disjoint_union}
use Rattle.cap_galg_indices.specs.Laws.Members.{and-commutes, or-commutes, le-true, below-out}
use Rattle.cap_galg_indices.specs.Laws.Members.{first-in, ascend-lower, rest-ascends}
use Rattle.cap_galg_indices.specs.Laws.Unions.{union-left, union-right, union-both, nothing-union}
use Rattle.cap_galg_indices.specs.Laws.Unions.{union-nothing}
use Rattle.cap_galg_indices.specs.Laws.Tests.{fails-throughout}

pub drop-ascends : (xs : List ℕ) → AreBounds xs → AreBounds (drop 1 xs)
drop-ascends [] h = tt
drop-ascends (x ∷ xs) h = rest-ascends x xs h

-- ---- the union

pub step-left : (xs ys : List ℕ) → AreBounds xs → AreBounds ys → 1 ≤ length xs → 1 ≤ length ys
    → get_or xs 0 0 < get_or ys 0 0
    → disjoint_union xs ys ≡ get_or xs 0 0 ∷ disjoint_union (drop 1 xs) ys
step-left [] ys h k i j l = absurd (omega arith)
step-left (x ∷ xs) [] h k i j l = absurd (omega arith)
step-left (x ∷ xs) (y ∷ ys) h k i j l = union-left x y xs ys h k l

pub step-right : (xs ys : List ℕ) → AreBounds xs → AreBounds ys → 1 ≤ length xs → 1 ≤ length ys
    → get_or ys 0 0 < get_or xs 0 0
    → disjoint_union xs ys ≡ get_or ys 0 0 ∷ disjoint_union xs (drop 1 ys)
step-right [] ys h k i j l = absurd (omega arith)
step-right (x ∷ xs) [] h k i j l = absurd (omega arith)
step-right (x ∷ xs) (y ∷ ys) h k i j l = union-right x y xs ys h k l

pub step-both : (xs ys : List ℕ) → AreBounds xs → AreBounds ys → 1 ≤ length xs → 1 ≤ length ys
    → get_or xs 0 0 ≤ get_or ys 0 0 → get_or ys 0 0 ≤ get_or xs 0 0
    → disjoint_union xs ys ≡ disjoint_union (drop 1 xs) (drop 1 ys)
step-both [] ys h k i j l m = absurd (omega arith)
step-both (x ∷ xs) [] h k i j l m = absurd (omega arith)
step-both (x ∷ xs) (y ∷ ys) h k i j l m =
    let s : y ≡ x = omega arith in
    ap (λ c. disjoint_union (x ∷ xs) (c ∷ ys)) s
    ∙ union-both x xs ys h (subst (λ c. AreBounds (c ∷ ys)) s k)

pub left-ends : (made xs ys : List ℕ) → length xs < 1
    → made ++ disjoint_union xs ys ≡ (made ++ xs) ++ ys
left-ends made [] ys h = ap (λ l. made ++ l) (nothing-union ys) ∙ ap (λ l. l ++ ys) (sym (append-nil made))
left-ends made (x ∷ xs) ys h = absurd (omega arith)

pub right-ends : (made xs ys : List ℕ) → AreBounds xs → length ys < 1
    → made ++ disjoint_union xs ys ≡ (made ++ xs) ++ ys
right-ends made xs [] h k = ap (λ l. made ++ l) (union-nothing 0 xs h) ∙ sym (append-nil (made ++ xs))
right-ends made xs (y ∷ ys) h k = absurd (omega arith)

pub pushed : (made more rest : List ℕ) (x : ℕ) → more ≡ made ++ (x ∷ [])
    → more ++ rest ≡ made ++ (x ∷ rest)
pushed made more rest x e = ap (λ l. l ++ rest) e ∙ append_assoc made (x ∷ []) rest

-- ---- whether two sets meet

-- an index of which it is told whether it is in both sets, now or from a bound to come on
abbrev pub in_both : Bool → Bool → List ℕ → List ℕ → ℕ → Bool
in_both a b xs ys n = exactly_one a (has xs n) && exactly_one b (has ys n)

abbrev pub meets : Bool → Bool → List ℕ → List ℕ → Bool
meets a b xs ys = (a && b) || list_any (in_both a b xs ys) (xs ++ ys)

any-same : (t u : ℕ → Bool) (xs : List ℕ) → ((n : ℕ) → t n ≡ u n) → list_any t xs ≡ list_any u xs
any-same t u [] h = refl
any-same t u (x ∷ xs) h = rw (h x, any-same t u xs h) refl

any-same-from : (t u : ℕ → Bool) (low : ℕ) (xs : List ℕ) → AscendFrom low xs
    → ((n : ℕ) → low ≤ n → t n ≡ u n) → list_any t xs ≡ list_any u xs
any-same-from t u low [] h k = refl
any-same-from t u low (x ∷ xs) h k =
    let l = h.0 in
    rw (k x l, any-same-from t u (x + 1) xs h.1 (λ n m. k n (omega arith))) refl

any-same-both : (t u : ℕ → Bool) (low : ℕ) (xs ys : List ℕ) → AscendFrom low xs → AscendFrom low ys
    → ((n : ℕ) → low ≤ n → t n ≡ u n) → list_any t (xs ++ ys) ≡ list_any u (xs ++ ys)
any-same-both t u low xs ys h k e =
    list_any-append t xs ys
    ∙ ap (λ c. c || list_any t ys) (any-same-from t u low xs h e)
    ∙ ap (λ c. list_any u xs || c) (any-same-from t u low ys k e)
    ∙ sym (list_any-append u xs ys)

-- the two sets change places
pub meets-commute : (a b : Bool) (xs ys : List ℕ) → meets a b xs ys ≡ meets b a ys xs
meets-commute a b xs ys =
    ap (λ c. c || list_any (in_both a b xs ys) (xs ++ ys)) (and-commutes a b)
    ∙ ap (λ c. (b && a) || c)
    (list_any-append (in_both a b xs ys) xs ys
    ∙ or-commutes (list_any (in_both a b xs ys) xs) (list_any (in_both a b xs ys) ys)
    ∙ sym (list_any-append (in_both a b xs ys) ys xs)
    ∙ any-same (in_both a b xs ys) (in_both b a ys xs) (ys ++ xs)
    (λ n. and-commutes (exactly_one a (has xs n)) (exactly_one b (has ys n))))

turned : (a b : Bool) → exactly_one a (not b) ≡ exactly_one (not a) b
turned true true = refl
turned true false = refl
turned false true = refl
turned false false = refl

one-true : (a : Bool) → exactly_one a true ≡ not a
one-true true = refl
one-true false = refl

one-false : (a : Bool) → exactly_one a false ≡ a
one-false true = refl
one-false false = refl

-- behind a bound, membership has turned
behind : (a : Bool) (x n : ℕ) (xs : List ℕ) → x ≤ n
    → exactly_one a (has (x ∷ xs) n) ≡ exactly_one (not a) (has xs n)
behind a x n xs l =
    ap (λ t. exactly_one a (exactly_one t (has xs n))) (le-true x n l) ∙ turned a (has xs n)

-- at it, too
at-first : (a : Bool) (x : ℕ) (xs : List ℕ) → AscendFrom (x + 1) xs
    → exactly_one a (has (x ∷ xs) x) ≡ not a
at-first a x xs h = ap (exactly_one a) (first-in x xs h) ∙ one-true a

-- and before the first bound it is as it was
before-first : (b : Bool) (x low : ℕ) (ys : List ℕ) → x < low → AscendFrom low ys
    → exactly_one b (has ys x) ≡ b
before-first b x low ys l h = ap (exactly_one b) (below-out x low ys l h) ∙ one-false b

meets-left : (a b : Bool) (x y : ℕ) (xs ys : List ℕ) → AreBounds (x ∷ xs) → AreBounds (y ∷ ys) → x < y
    → (a && b) ≡ false → meets a b (x ∷ xs) (y ∷ ys) ≡ meets (not a) b xs (y ∷ ys)
meets-left a b x y xs ys h k l e =
    let t = in_both a b (x ∷ xs) (y ∷ ys) in
    let u = in_both (not a) b xs (y ∷ ys) in
    let here : t x ≡ (not a && b) =
    ap (λ c. c && exactly_one b (has (y ∷ ys) x)) (at-first a x xs h.1)
    ∙ ap (λ c. not a && c) (before-first b x y (y ∷ ys) l (omega arith, k.1)) in
    let later : list_any t (xs ++ (y ∷ ys)) ≡ list_any u (xs ++ (y ∷ ys)) =
    any-same-both t u x xs (y ∷ ys) (ascend-lower x (x + 1) xs (omega arith) h.1) (omega arith, k.1)
    (λ n m. ap (λ c. c && exactly_one b (has (y ∷ ys) n)) (behind a x n xs m)) in
    ap (λ c. c || (t x || list_any t (xs ++ (y ∷ ys)))) e
    ∙ ap (λ c. c || list_any t (xs ++ (y ∷ ys))) here
    ∙ ap (λ c. (not a && b) || c) later

or-again : (t a b : Bool) → (t || (a || (t || b))) ≡ (t || (a || b))
or-again true a b = refl
or-again false a b = refl

meets-both : (a b : Bool) (x : ℕ) (xs ys : List ℕ) → AreBounds (x ∷ xs) → AreBounds (x ∷ ys)
    → (a && b) ≡ false → meets a b (x ∷ xs) (x ∷ ys) ≡ meets (not a) (not b) xs ys
meets-both a b x xs ys h k e =
    let t = in_both a b (x ∷ xs) (x ∷ ys) in
    let u = in_both (not a) (not b) xs ys in
    let here : t x ≡ (not a && not b) =
    ap (λ c. c && exactly_one b (has (x ∷ ys) x)) (at-first a x xs h.1)
    ∙ ap (λ c. not a && c) (at-first b x ys k.1) in
    let left = ascend-lower x (x + 1) xs (omega arith) h.1 in
    let right = ascend-lower x (x + 1) ys (omega arith) k.1 in
    let same : (n : ℕ) → x ≤ n → t n ≡ u n = λ n m.
    ap (λ c. c && exactly_one b (has (x ∷ ys) n)) (behind a x n xs m)
    ∙ ap (λ c. exactly_one (not a) (has xs n) && c) (behind b x n ys m) in
    ap (λ c. c || (t x || list_any t (xs ++ (x ∷ ys)))) e
    ∙ ap (λ c. t x || c) (list_any-append t xs (x ∷ ys))
    ∙ or-again (t x) (list_any t xs) (list_any t ys)
    ∙ ap (λ c. c || (list_any t xs || list_any t ys)) here
    ∙ ap (λ c. (not a && not b) || (c || list_any t ys)) (any-same-from t u x xs left same)
    ∙ ap (λ c. (not a && not b) || (list_any u xs || c)) (any-same-from t u x ys right same)
    ∙ ap (λ c. (not a && not b) || c) (sym (list_any-append u xs ys))

pub passes-left : (a b : Bool) (xs ys : List ℕ) → AreBounds xs → AreBounds ys → 1 ≤ length xs
    → 1 ≤ length ys → get_or xs 0 0 < get_or ys 0 0 → (a && b) ≡ false
    → meets a b xs ys ≡ meets (not a) b (drop 1 xs) ys
passes-left a b [] ys h k i j l e = absurd (omega arith)
passes-left a b (x ∷ xs) [] h k i j l e = absurd (omega arith)
passes-left a b (x ∷ xs) (y ∷ ys) h k i j l e = meets-left a b x y xs ys h k l e

pub passes-right : (a b : Bool) (xs ys : List ℕ) → AreBounds xs → AreBounds ys → 1 ≤ length xs
    → 1 ≤ length ys → get_or ys 0 0 < get_or xs 0 0 → (a && b) ≡ false
    → meets a b xs ys ≡ meets a (not b) xs (drop 1 ys)
passes-right a b xs ys h k i j l e =
    meets-commute a b xs ys ∙ passes-left b a ys xs k h j i l (and-commutes b a ∙ e)
    ∙ meets-commute (not b) a (drop 1 ys) xs

pub passes-both : (a b : Bool) (xs ys : List ℕ) → AreBounds xs → AreBounds ys → 1 ≤ length xs
    → 1 ≤ length ys → get_or xs 0 0 ≤ get_or ys 0 0 → get_or ys 0 0 ≤ get_or xs 0 0
    → (a && b) ≡ false → meets a b xs ys ≡ meets (not a) (not b) (drop 1 xs) (drop 1 ys)
passes-both a b [] ys h k i j l m e = absurd (omega arith)
passes-both a b (x ∷ xs) [] h k i j l m e = absurd (omega arith)
passes-both a b (x ∷ xs) (y ∷ ys) h k i j l m e =
    let s : y ≡ x = omega arith in
    ap (λ c. meets a b (x ∷ xs) (c ∷ ys)) s
    ∙ meets-both a b x xs ys h (subst (λ c. AreBounds (c ∷ ys)) s k) e

-- where the left set has no bound to come
meets-last : (a b : Bool) (ys : List ℕ) → AreBounds ys
    → meets a b [] ys ≡ ((a && (b || not (length ys == 0))) || (b && false))
meets-last true true ys h = refl
meets-last false b ys h = fails-throughout (λ n. false) ys (λ n. refl) ∙ sym (and-commutes b false)
meets-last true false [] h = refl
meets-last true false (y ∷ ys) h =
    ap (λ c. c || list_any (has (y ∷ ys)) ys) (first-in y ys h.1)
    ∙ (let z : not (length (y ∷ ys) == 0) ≡ true = search rules in sym (ap (λ c. c || false) z))

pub left-last : (a b : Bool) (xs ys : List ℕ) → AreBounds ys → length xs < 1
    → meets a b xs ys ≡ ((a && (b || not (length ys == 0))) || (b && not (length xs == 0)))
left-last a b [] ys h k = meets-last a b ys h
left-last a b (x ∷ xs) ys h k = absurd (omega arith)

exchanged : (a b t : Bool) → ((b && (a || t)) || (a && false)) ≡ ((a && (b || false)) || (b && t))
exchanged true true t = refl
exchanged true false t = refl
exchanged false true true = refl
exchanged false true false = refl
exchanged false false t = refl

pub right-last : (a b : Bool) (xs ys : List ℕ) → AreBounds xs → length ys < 1
    → meets a b xs ys ≡ ((a && (b || not (length ys == 0))) || (b && not (length xs == 0)))
right-last a b xs [] h k =
    meets-commute a b xs [] ∙ meets-last b a xs h ∙ exchanged a b (not (length xs == 0))
right-last a b xs (y ∷ ys) h k = absurd (omega arith)
