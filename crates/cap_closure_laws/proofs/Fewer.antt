-- What no valuation solves, none solves with more rows.
use Rattle.std.proofs.Common.{◌≡◌, ◌≢◌, inl, inr, ℕ, zero, suc, List, [], ◌∷◌, ◌++◌, Some, None, refl, sym, ap, subst, ◌∙◌}
use Rattle.std.specs.Prelude.{slice_get}
use Rattle.std.specs.List.{AllByRecursion}
use Rattle.cap_lin.specs.Values.{RationalValuation}
use Rattle.cap_lin.specs.Solves.{HoldsRationally, SolvesRationally, HasNoRational, kept, without_ne, SplitsToNone, Infeasible}
use Rattle.cap_lin.specs.Rows.{row, below_zero, above_zero}
use Rattle.cap_lin.specs.declared.row.Row.{Row}
use Rattle.cap_lin.specs.declared.row.Kind.{Kind}
use Rattle.cap_lin.specs.declared.row.Kind.TheVariants.{Le, Lt, Eq, Ne}
use Rattle.cap_offer_spec.specs.Members.{IsOneOf}

-- ---- members

pub one-left : {X : Type 0} (xs ys : List X) (x : X) → IsOneOf xs x → IsOneOf (xs ++ ys) x
one-left [] ys x h = absurd h
one-left (y ∷ xs) ys x (inl e) = inl e
one-left (y ∷ xs) ys x (inr h) = inr (one-left xs ys x h)

pub one-right : {X : Type 0} (xs ys : List X) (x : X) → IsOneOf ys x → IsOneOf (xs ++ ys) x
one-right [] ys x h = h
one-right (y ∷ xs) ys x h = inr (one-right xs ys x h)

pub all-one : {X : Type 0} (P : X → Type 0) (xs : List X) (x : X) → AllByRecursion P xs → IsOneOf xs x → P x
all-one P [] x h m = absurd m
all-one P (y ∷ xs) x h (inl e) = subst P e h.0
all-one P (y ∷ xs) x h (inr m) = all-one P xs x h.1 m

pub all-by : {X : Type 0} (P Q : X → Type 0) → ((x : X) → P x → Q x) → (xs : List X) → AllByRecursion P xs → AllByRecursion Q xs
all-by P Q f [] h = tt
all-by P Q f (x ∷ xs) h = (f x h.0, all-by P Q f xs h.1)

pub all-join : {X : Type 0} (P : X → Type 0) (xs ys : List X) → AllByRecursion P xs → AllByRecursion P ys → AllByRecursion P (xs ++ ys)
all-join P [] ys h k = k
all-join P (x ∷ xs) ys h k = (h.0, all-join P xs ys h.1 k)

pub all-front : {X : Type 0} (P : X → Type 0) (xs ys : List X) → AllByRecursion P (xs ++ ys) → AllByRecursion P xs
all-front P [] ys h = tt
all-front P (x ∷ xs) ys h = (h.0, all-front P xs ys h.1)

pub all-back : {X : Type 0} (P : X → Type 0) (xs ys : List X) → AllByRecursion P (xs ++ ys) → AllByRecursion P ys
all-back P [] ys h = h
all-back P (x ∷ xs) ys h = all-back P xs ys h.1

-- each member of the first list is one of the second
abbrev pub AreIn : {X : Type 0} → List X → List X → Type 0
AreIn xs ys = AllByRecursion (IsOneOf ys) xs

pub in-more : {X : Type 0} (y : X) (xs ys : List X) → AreIn xs ys → AreIn xs (y ∷ ys)
in-more y xs ys h = all-by (IsOneOf ys) (IsOneOf (y ∷ ys)) (λ x m. inr m) xs h

pub in-self : {X : Type 0} (xs : List X) → AreIn xs xs
in-self [] = tt
in-self (x ∷ xs) = (inl refl, in-more x xs xs (in-self xs))

pub in-both : {X : Type 0} (xs ys us vs : List X) → AreIn xs us → AreIn ys vs → AreIn (xs ++ ys) (us ++ vs)
in-both xs ys us vs h k =
    all-join (IsOneOf (us ++ vs)) xs ys (all-by (IsOneOf us) (IsOneOf (us ++ vs)) (λ x m. one-left us vs x m) xs h) (all-by (IsOneOf vs) (IsOneOf (us ++ vs)) (λ x m. one-right us vs x m) ys k)

one-at : {X : Type 0} (xs : List X) (x : X) → IsOneOf xs x → (place : ℕ) × (slice_get xs place ≡ Some x)
one-at [] x h = absurd h
one-at (y ∷ xs) x (inl e) = (0, ap Some e)
one-at (y ∷ xs) x (inr m) = let r = one-at xs x m in (suc r.0, r.1)

none-some : {X : Type 0} {x : X} → None ≡ Some x → ⊥
none-some e = cc

same-some : {X : Type 0} (x y : X) → Some x ≡ Some y → x ≡ y
same-some x y e = cc

pub at-one : {X : Type 0} (xs : List X) (place : ℕ) (x : X) → slice_get xs place ≡ Some x → IsOneOf xs x
at-one [] place x e = absurd (none-some e)
at-one (y ∷ xs) zero x e = inl (same-some y x e)
at-one (y ∷ xs) (suc place) x e = inr (at-one xs place x e)

-- ---- rows that are not Ne

kept-first : (q : RationalValuation) (k : Kind) (r : Row) (rs : List Row) → k ≢ Ne → SolvesRationally q (kept k r rs) → HoldsRationally q r
kept-first q Le r rs n h = h.0
kept-first q Lt r rs n h = h.0
kept-first q Eq r rs n h = h.0
kept-first q Ne r rs n h = absurd (n refl)

kept-rest : (q : RationalValuation) (k : Kind) (r : Row) (rs : List Row) → SolvesRationally q (kept k r rs) → SolvesRationally q rs
kept-rest q Le r rs h = h.1
kept-rest q Lt r rs h = h.1
kept-rest q Eq r rs h = h.1
kept-rest q Ne r rs h = h

le-ne : Le ≢ Ne
le-ne e = cc

lt-ne : Lt ≢ Ne
lt-ne e = cc

eq-ne : Eq ≢ Ne
eq-ne e = cc

kept-all : (q : RationalValuation) (k : Kind) (r : Row) (rs : List Row) → (k ≢ Ne → HoldsRationally q r) → SolvesRationally q rs → SolvesRationally q (kept k r rs)
kept-all q Le r rs f h = (f le-ne, h)
kept-all q Lt r rs f h = (f lt-ne, h)
kept-all q Eq r rs f h = (f eq-ne, h)
kept-all q Ne r rs f h = h

one-holds : (q : RationalValuation) (rows : List Row) (r : Row) → IsOneOf rows r → r.kind ≢ Ne → SolvesRationally q (without_ne rows) → HoldsRationally q r
one-holds q [] r m n h = absurd m
one-holds q (x ∷ rows) r (inl e) n h =
    subst (HoldsRationally q) e (kept-first q x.kind x (without_ne rows) (λ f. n (sym (ap (λ (y : Row). y.kind) e) ∙ f)) h)
one-holds q (x ∷ rows) r (inr m) n h = one-holds q rows r m n (kept-rest q x.kind x (without_ne rows) h)

fewer-solved : (q : RationalValuation) (rows more : List Row) → AreIn rows more → SolvesRationally q (without_ne more) → SolvesRationally q (without_ne rows)
fewer-solved q [] more m h = tt
fewer-solved q (r ∷ rows) more m h = kept-all q r.kind r (without_ne rows) (λ n. one-holds q more r m.0 n h) (fewer-solved q rows more m.1 h)

fewer-with : (rows more : List Row) (last : Row) → AreIn rows more → HasNoRational (without_ne rows ++ (last ∷ [])) → HasNoRational (without_ne more ++ (last ∷ []))
fewer-with rows more last m h q k =
    h q (all-join (HoldsRationally q) (without_ne rows) (last ∷ []) (fewer-solved q rows more m (all-front (HoldsRationally q) (without_ne more) (last ∷ []) k)) (all-back (HoldsRationally q) (without_ne more) (last ∷ []) k))

split-more : (rows more : List Row) (place : ℕ) → AreIn rows more → SplitsToNone rows place → (place : ℕ) × SplitsToNone more place
split-more rows more place m h =
    let there = one-at more (row Ne h.sort h.term) (all-one (IsOneOf more) rows (row Ne h.sort h.term) m (at-one rows place (row Ne h.sort h.term) h.is)) in (
      there.0,
      record {
        term = h.term;
        sort = h.sort;
        is = there.1;
        below = fewer-with rows more (below_zero h.sort h.term) m h.below;
        above = fewer-with rows more (above_zero h.sort h.term) m h.above;
      },
    )

pub infeasible-more : (rows more : List Row) → AreIn rows more → Infeasible rows → Infeasible more
infeasible-more rows more m (inl h) = inl (λ q k. h q (fewer-solved q rows more m k))
infeasible-more rows more m (inr h) = inr (split-more rows more h.0 m h.1)
