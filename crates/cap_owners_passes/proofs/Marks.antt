-- Facts beside opened regions of their types, and the values of new variables by their marks.
use Rattle.std.proofs.Common.{◌≡◌, ℕ, zero, suc, ◌+◌, ◌<◌, ◌≤◌, Bool, true, false, List, [], ◌∷◌, ◌++◌, map, length, drop, get_or, add-one, drop-cons, Option, Some, None, refl, sym, ap, ◌∙◌, arith}
use Rattle.std.specs.Prelude.{◌==◌, if◌then◌else◌, flat_map, filter, Err}
use Rattle.std.specs.Borrow.{Bor}
use Rattle.std.specs.List.{zip}
use Rattle.std.proofs.lemmas.List.{append_assoc, append-nil, map-append, drop_all}
use Rattle.cap_farkas.specs.declared.cert.Cert.{Cert}
use Rattle.cap_goal_spec.specs.States.{PlainFact, PlainState}
use Rattle.cap_machine_accounts.specs.Assertions.{NameValue}
use Rattle.cap_rules.specs.Closing.{Rival, rivals, rivals_from, of_type}
use Rattle.cap_owners_spec.specs.Traced.{Traced, traced, past_width, untold, ◌>>=◌}
use Rattle.cap_owners_spec.specs.Walks.{Walk, mark_value, mark_values}
use Rattle.cap_owners_passes.specs.Views.{facts_lent, marks_with}
use Rattle.cap_owners_values.proofs.Tracing.{stops}
use Rattle.cap_owners_values.specs.declared.error.TraceError.{TraceError}
use Rattle.cap_owners_values.specs.Views.{Traces}

behind : {X : Type 0} (xs : List X) (i : ℕ) (x : X) → i < length xs → x ≡ get_or xs i x → drop i xs ≡ x ∷ drop (i + 1) xs
behind xs i x h e = drop-cons xs i x h ∙ (ap (λ y. y ∷ drop (suc i) xs) (sym e) ∙ ap (λ k. x ∷ drop k xs) (sym (add-one i)))

-- a fact that is lent, among those that are seen
pub fact-lent : (fs : List (Bor PlainFact)) (i : ℕ) (f : Bor PlainFact) → i < length fs → f ≡ get_or fs i f → f.now ≡ get_or (facts_lent fs) i f.now
fact-lent [] i f h e = absurd (omega arith)
fact-lent (x ∷ fs) zero f h e = ap (λ y. y.now) e
fact-lent (x ∷ fs) (suc i) f h e = fact-lent fs i f (omega arith) e

-- ---- rivals

-- a fact more, where it is of the type
abbrev pub if_of_type : ℕ → PlainFact → List PlainFact
if_of_type k f = if f.kind == k then f ∷ [] else []

of-type-cons : (k : ℕ) (f : PlainFact) (fs : List PlainFact) → of_type k (f ∷ fs) ≡ if_of_type k f ++ of_type k fs
of-type-cons k f fs =
    elim (f.kind == k) as (λ b. (if b then f ∷ of_type k fs else of_type k fs) ≡ (if b then f ∷ [] else []) ++ of_type k fs) [ true ↦ refl | false ↦ refl ]

pub rivals-next : (k : ℕ) (fs : List PlainFact) (i : ℕ) (f : PlainFact) (old new whole : List PlainFact) → i < length fs → f ≡ get_or fs i f → new ≡ old ++ if_of_type k f → whole ≡ old ++ of_type k (drop i fs) → whole ≡ new ++ of_type k (drop (i + 1) fs)
rivals-next k fs i f old new whole h e n w =
    w ∙ (ap (λ ys. old ++ of_type k ys) (behind fs i f h e) ∙ (ap (λ ys. old ++ ys) (of-type-cons k f (drop (i + 1) fs)) ∙ (sym (append_assoc old (if_of_type k f) (of_type k (drop (i + 1) fs))) ∙ ap (λ ys. ys ++ of_type k (drop (i + 1) fs)) (sym n))))

-- the facts of the types of these regions
abbrev pub all_of_types : List PlainFact → List PlainFact → List PlainFact
all_of_types fs os = flat_map (λ o. of_type o.kind fs) os

pub types-next : (fs os : List PlainFact) (i : ℕ) (o : PlainFact) (old new whole : List PlainFact) → i < length os → o ≡ get_or os i o → new ≡ old ++ of_type o.kind fs → whole ≡ old ++ all_of_types fs (drop i os) → whole ≡ new ++ all_of_types fs (drop (i + 1) os)
types-next fs os i o old new whole h e n w =
    w ∙ (ap (λ ys. old ++ all_of_types fs ys) (behind os i o h e) ∙ (sym (append_assoc old (of_type o.kind fs) (all_of_types fs (drop (i + 1) os))) ∙ ap (λ ys. ys ++ all_of_types fs (drop (i + 1) os)) (sym n)))

facts-from : (o : PlainFact) (i : ℕ) (fs : List PlainFact) → map (λ x. x.fact) (rivals_from o i fs) ≡ of_type o.kind fs
facts-from o i [] = refl
facts-from o i (f ∷ fs) =
    elim (f.kind == o.kind) as (λ b. map (λ x. x.fact) (if b then record { opened = o; number = i; fact = f } ∷ rivals_from o (suc i) fs else rivals_from o (suc i) fs) ≡ (if b then f ∷ of_type o.kind fs else of_type o.kind fs)) [
      | true ↦ ap (λ gs. f ∷ gs) (facts-from o (suc i) fs)
      | false ↦ facts-from o (suc i) fs
    ]

facts-of : (fs os : List PlainFact) → map (λ x. x.fact) (flat_map (λ o. rivals_from o 0 fs) os) ≡ all_of_types fs os
facts-of fs [] = refl
facts-of fs (o ∷ os) =
    map-append (λ x. x.fact) (rivals_from o 0 fs) (flat_map (λ o. rivals_from o 0 fs) os) ∙ (ap (λ gs. gs ++ map (λ x. x.fact) (flat_map (λ o. rivals_from o 0 fs) os)) (facts-from o 0 fs) ∙ ap (λ gs. of_type o.kind fs ++ gs) (facts-of fs os))

rival-facts : (s : PlainState) → map (λ x. x.fact) (rivals s) ≡ all_of_types s.facts s.opened
rival-facts s = facts-of s.facts s.opened

pub rivals-end : (s : PlainState) (i : ℕ) (fs : List PlainFact) → length s.opened ≤ i → all_of_types s.facts s.opened ≡ fs ++ all_of_types s.facts (drop i s.opened) → fs ≡ map (λ x. x.fact) (rivals s)
rivals-end s i fs h w = sym (rival-facts s ∙ (w ∙ (ap (λ os. fs ++ all_of_types s.facts os) (drop_all i s.opened h) ∙ append-nil fs)))

-- ---- marks

-- with the values that these facts bring, by their marks
abbrev pub marks_from : Walk → List PlainFact → List (Option Cert) → List NameValue → Traced (List NameValue)
marks_from w [] ms vs = traced vs
marks_from w (f ∷ fs) [] vs = traced vs
marks_from w (f ∷ fs) (m ∷ ms) vs = marks_with w f m vs >>= marks_from w fs ms

regroup : (t : Traced (List NameValue)) (vs xs : List NameValue) → (t >>= (λ ys. traced (xs ++ ys))) >>= (λ more. traced (vs ++ more)) ≡ t >>= (λ more. traced ((vs ++ xs) ++ more))
regroup (traced ys) vs xs = ap traced (sym (append_assoc vs xs ys))
regroup past_width vs xs = refl
regroup untold vs xs = refl

by-fact : (w : Walk) (x : Rival) (m : Option Cert) → mark_value w (x, m) ≡ mark_value w (record { opened = x.fact; number = 0; fact = x.fact }, m)
by-fact w x None = refl
by-fact w x (Some c) = refl

one-mark : (t u : Traced (List NameValue)) (vs : List NameValue) (rest : List NameValue → Traced (List NameValue)) → ((xs : List NameValue) → u >>= (λ more. traced ((vs ++ xs) ++ more)) ≡ rest (vs ++ xs)) → (t >>= (λ xs. u >>= (λ ys. traced (xs ++ ys)))) >>= (λ more. traced (vs ++ more)) ≡ (t >>= (λ xs. traced (vs ++ xs))) >>= rest
one-mark (traced xs) u vs rest h = regroup u vs xs ∙ h xs
one-mark past_width u vs rest h = refl
one-mark untold u vs rest h = refl

marks-behind : (w : Walk) (rs : List Rival) (ms : List (Option Cert)) (vs : List NameValue) → mark_values w (zip rs ms) >>= (λ more. traced (vs ++ more)) ≡ marks_from w (map (λ x. x.fact) rs) ms vs
marks-behind w [] ms vs = ap traced (append-nil vs)
marks-behind w (x ∷ rs) [] vs = ap traced (append-nil vs)
marks-behind w (x ∷ rs) (m ∷ ms) vs =
    let fs : List PlainFact = map (λ y. y.fact) rs in
    ap (λ t. (t >>= (λ xs. mark_values w (zip rs ms) >>= (λ ys. traced (xs ++ ys)))) >>= (λ more. traced (vs ++ more))) (by-fact w x m) ∙ one-mark (mark_value w (record { opened = x.fact; number = 0; fact = x.fact }, m)) (mark_values w (zip rs ms)) vs (marks_from w fs ms) (λ xs. marks-behind w rs ms (vs ++ xs))

whole-marks : (t : Traced (List NameValue)) → t ≡ t >>= (λ more. traced ([] ++ more))
whole-marks (traced ys) = refl
whole-marks past_width = refl
whole-marks untold = refl

-- only the facts matter
pub marks-first : (w : Walk) (rs : List Rival) (ms : List (Option Cert)) (fs : List PlainFact) → fs ≡ map (λ x. x.fact) rs → mark_values w (zip rs ms) ≡ marks_from w fs ms []
marks-first w rs ms fs e = whole-marks (mark_values w (zip rs ms)) ∙ (marks-behind w rs ms [] ∙ ap (λ gs. marks_from w gs ms []) (sym e))

marks-at : (w : Walk) (fs : List PlainFact) (ms : List (Option Cert)) (i : ℕ) (f : PlainFact) (m : Option Cert) (vs : List NameValue) → i < length fs → f ≡ get_or fs i f → i < length ms → m ≡ get_or ms i m → marks_from w (drop i fs) (drop i ms) vs ≡ marks_with w f m vs >>= marks_from w (drop (i + 1) fs) (drop (i + 1) ms)
marks-at w fs ms i f m vs h e k q =
    ap (λ ys. marks_from w ys (drop i ms) vs) (behind fs i f h e) ∙ ap (λ ys. marks_from w (f ∷ drop (i + 1) fs) ys vs) (behind ms i m k q)

pub marks-next : (w : Walk) (fs : List PlainFact) (ms : List (Option Cert)) (i : ℕ) (f : PlainFact) (m : Option Cert) (vs new : List NameValue) (whole : Traced (List NameValue)) → i < length fs → f ≡ get_or fs i f → i < length ms → m ≡ get_or ms i m → marks_with w f m vs ≡ traced new → whole ≡ marks_from w (drop i fs) (drop i ms) vs → whole ≡ marks_from w (drop (i + 1) fs) (drop (i + 1) ms) new
marks-next w fs ms i f m vs new whole h e k q n r =
    r ∙ (marks-at w fs ms i f m vs h e k q ∙ ap (λ t. t >>= marks_from w (drop (i + 1) fs) (drop (i + 1) ms)) n)

pub marks-stop : {C D : Type 0} (w : Walk) (fs : List PlainFact) (ms : List (Option Cert)) (i : ℕ) (f : PlainFact) (m : Option Cert) (vs : List NameValue) (whole : Traced (List NameValue)) (e : TraceError) (v : C → List NameValue) (u : D → List NameValue) → i < length fs → f ≡ get_or fs i f → i < length ms → m ≡ get_or ms i m → Traces (Err e) v (marks_with w f m vs) → whole ≡ marks_from w (drop i fs) (drop i ms) vs → Traces (Err e) u whole
marks-stop w fs ms i f m vs whole x v u h e k q n r =
    rw (r ∙ marks-at w fs ms i f m vs h e k q) (stops x v u (marks_with w f m vs) (marks_from w (drop (i + 1) fs) (drop (i + 1) ms)) n)

no-facts : (w : Walk) (ms : List (Option Cert)) (vs : List NameValue) → marks_from w [] ms vs ≡ traced vs
no-facts w ms vs = refl

no-marks : (w : Walk) (fs : List PlainFact) (vs : List NameValue) → marks_from w fs [] vs ≡ traced vs
no-marks w [] vs = refl
no-marks w (f ∷ fs) vs = refl

-- past the last fact, and past the last mark
pub facts-end : (w : Walk) (fs : List PlainFact) (ms : List (Option Cert)) (i : ℕ) (vs : List NameValue) (whole : Traced (List NameValue)) → length fs ≤ i → whole ≡ marks_from w (drop i fs) (drop i ms) vs → whole ≡ traced vs
facts-end w fs ms i vs whole h r = r ∙ (ap (λ ys. marks_from w ys (drop i ms) vs) (drop_all i fs h) ∙ no-facts w (drop i ms) vs)

pub marks-end : (w : Walk) (fs : List PlainFact) (ms : List (Option Cert)) (i : ℕ) (vs : List NameValue) (whole : Traced (List NameValue)) → length ms ≤ i → whole ≡ marks_from w (drop i fs) (drop i ms) vs → whole ≡ traced vs
marks-end w fs ms i vs whole h r = r ∙ (ap (λ ys. marks_from w (drop i fs) ys vs) (drop_all i ms h) ∙ no-marks w (drop i fs) vs)
