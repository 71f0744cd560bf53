-- Pairs of an opened region and a fact of its type, and their marks.
use Rattle.std.proofs.Common.{◌≡◌, ℕ, suc, ◌+◌, Bool, true, false, Some, None, List, [], ◌∷◌, ◌++◌, map, refl, sym, ap, subst, ◌∙◌, ◌<◌, ◌≤◌, length, get_or, drop, drop-cons, add-one}
use Rattle.std.proofs.lemmas.List.{drop_all, append_assoc, append-nil, length-map}
use Rattle.std.proofs.lemmas.Simd.{splat_is_map}
use Rattle.std.proofs.lemmas.List.Concat.{flat_map-cons}
use Rattle.std.specs.Prelude.{◌==◌, Ok, Err, if◌then◌else◌, flat_map, replicate, nat_lt}
use Rattle.cap_lin.specs.declared.row.Row.{Row}
use Rattle.cap_lin.specs.declared.row.Sort.{Sort}
use Rattle.cap_rules_steps.specs.cap_goal_spec.States.{PlainFact, PlainState, longest_list}
use Rattle.cap_rules_steps.specs.cap_goal_spec.Environments.{zero_value}
use Rattle.cap_rules_steps.specs.cap_rules.Attempts.{Attempt, unit, go_on, need, ◌>>=◌}
use Rattle.cap_rules_steps.specs.cap_rules.Making.{with_sort}
use Rattle.cap_rules_steps.specs.cap_rules.Closing.{Rival, rivals_from, with_mark, with_marks}
use Rattle.cap_open_acts.specs.declared.marking.Rival as code
use Rattle.cap_open_acts.specs.Views.{rival_view, rivals_view}
use Rattle.cap_open_acts.specs.Steps.{rival_of}
use Rattle.cap_rules_steps.specs.Walks.{Makes, Claims}
use Rattle.cap_rules_steps.specs.declared.error.RuleError.{RuleError}
use Rattle.cap_rules_steps.specs.declared.error.RuleError.TheVariants.{NotApplicable}
use Rattle.cap_rules_steps.proofs.Listing.{LeadsClaims}
use Rattle.cap_rules_steps.proofs.Walking.{weaker, done, inapplicable, split-at, claims_then, claims_fail}

abbrev Lists : Type 0
Lists = List (List Row)

-- ---- pairs of an opened region and a fact of its type

pub rivals-first : (o f : PlainFact) (i : ℕ) (fs : List PlainFact) → rivals_from o i (f ∷ fs) ≡ rival_of o i f ++ rivals_from o (suc i) fs
rivals-first o f i fs = by_type o f i fs (f.kind == o.kind)
  where
    by_type : (o f : PlainFact) (i : ℕ) (fs : List PlainFact) (b : Bool) → (if b then record { opened = o; number = i; fact = f } ∷ rivals_from o (suc i) fs else rivals_from o (suc i) fs) ≡ (if b then record { opened = o; number = i; fact = f } ∷ [] else []) ++ rivals_from o (suc i) fs
    by_type o f i fs true = refl
    by_type o f i fs false = refl

-- one fact more is behind
pub rivals-more : (o f : PlainFact) (i : ℕ) (fs : List PlainFact) (xs ys all : List Rival) → i < length fs → f ≡ get_or fs i f → ys ≡ xs ++ rival_of o i f → xs ++ rivals_from o i (drop i fs) ≡ all → ys ++ rivals_from o (i + 1) (drop (i + 1) fs) ≡ all
rivals-more o f i fs xs ys all h e q k =
    rw (q, add-one) (append_assoc xs (rival_of o i f) (rivals_from o (suc i) (drop (suc i) fs)) ∙ (ap (λ l. xs ++ l) (sym (ap (rivals_from o i) (split-at fs i f h e) ∙ rivals-first o f i (drop (suc i) fs))) ∙ k))

pub rivals-done : (o : PlainFact) (i : ℕ) (fs : List PlainFact) (xs all : List Rival) → length fs ≤ i → xs ++ rivals_from o i (drop i fs) ≡ all → xs ≡ all
rivals-done o i fs xs all h k = sym (ap (λ l. xs ++ rivals_from o i l) (drop_all i fs h) ∙ append-nil xs) ∙ k

-- one opened region more is behind
pub pairs-more : (fs : List PlainFact) (o : PlainFact) (i : ℕ) (os : List PlainFact) (xs ys all : List Rival) → i < length os → o ≡ get_or os i o → ys ≡ xs ++ rivals_from o 0 fs → xs ++ flat_map (λ p. rivals_from p 0 fs) (drop i os) ≡ all → ys ++ flat_map (λ p. rivals_from p 0 fs) (drop (i + 1) os) ≡ all
pairs-more fs o i os xs ys all h e q k =
    rw (q, add-one) (append_assoc xs (rivals_from o 0 fs) (flat_map (λ p. rivals_from p 0 fs) (drop (suc i) os)) ∙ (ap (λ l. xs ++ l) (sym (ap (flat_map (λ p. rivals_from p 0 fs)) (split-at os i o h e) ∙ flat_map-cons (λ p. rivals_from p 0 fs) o (drop (suc i) os))) ∙ k))

pub pairs-done : (fs : List PlainFact) (i : ℕ) (os : List PlainFact) (xs all : List Rival) → length os ≤ i → xs ++ flat_map (λ p. rivals_from p 0 fs) (drop i os) ≡ all → xs ≡ all
pairs-done fs i os xs all h k = sym (ap (λ l. xs ++ flat_map (λ p. rivals_from p 0 fs) l) (drop_all i os h) ∙ append-nil xs) ∙ k

-- as many marks as pairs
pub all-set : (pairs : List code.Rival) (xs : List Rival) (n : ℕ) → n ≡ length pairs → rivals_view pairs ≡ xs → replicate n true ≡ map (λ x. true) xs
all-set pairs xs n h e = splat_is_map xs n true (ap length (sym e) ∙ (length-map pairs rival_view ∙ sym h))

-- ---- the marks of pairs

abbrev after-mark : List Rival → List Bool → PlainState → Attempt PlainState
after-mark xs ms s = with_marks s xs ms

mark-more : (s : PlainState) (xs : List Rival) (ms : List Bool) (i : ℕ) (x : Rival) (m : Bool) → i < length xs → x ≡ get_or xs i x → i < length ms → with_marks s (drop i xs) (drop i ms) ≡ go_on (with_mark s x (get_or ms i m)).events (with_mark s x (get_or ms i m)).value (after-mark (drop (suc i) xs) (drop (suc i) ms))
mark-more s xs ms i x m h e k = ap (λ l. with_marks s l (drop i ms)) (split-at xs i x h e) ∙ ap (λ l. with_marks s (x ∷ drop (suc i) xs) l) (drop-cons ms i m k)

pub marks-next : (s t : PlainState) (xs : List Rival) (ms : List Bool) (i : ℕ) (x : Rival) (m : Bool) (before middle next : Lists) (whole : Attempt PlainState) → i < length xs → x ≡ get_or xs i x → i < length ms → Claims (Ok t) middle next (with_mark s x (get_or ms i m)) → LeadsClaims before middle (with_marks s (drop i xs) (drop i ms)) whole → LeadsClaims before next (with_marks t (drop (i + 1) xs) (drop (i + 1) ms)) whole
marks-next s t xs ms i x m before middle next whole h e k c l =
    rw add-one (record { leads = λ r after d. l.leads r after (subst (Claims r middle after) (sym (mark-more s xs ms i x m h e k)) (claims_then r (with_mark s x (get_or ms i m)) (after-mark (drop (suc i) xs) (drop (suc i) ms)) t middle next after c d)) })

pub marks-fail : (s : PlainState) (xs : List Rival) (ms : List Bool) (i : ℕ) (x : Rival) (m : Bool) (before middle next : Lists) (whole : Attempt PlainState) (f : RuleError) → i < length xs → x ≡ get_or xs i x → i < length ms → Claims (Err f) middle next (with_mark s x (get_or ms i m)) → LeadsClaims before middle (with_marks s (drop i xs) (drop i ms)) whole → Claims (Err f) before next whole
marks-fail s xs ms i x m before middle next whole f h e k c l =
    l.leads (Err f) next (subst (Claims (Err f) middle next) (sym (mark-more s xs ms i x m h e k)) (claims_fail f (with_mark s x (get_or ms i m)) (after-mark (drop (suc i) xs) (drop (suc i) ms)) middle next c))

no_fact : PlainFact
no_fact = record { region = zero_value; kind = 0; args = []; state = zero_value; loose = false }

no_rival : Rival
no_rival = record { opened = no_fact; number = 0; fact = no_fact }

-- a pair or a mark alone is left over
pub marks-short : (s : PlainState) (xs : List Rival) (ms : List Bool) (i : ℕ) (before middle : Lists) (whole : Attempt PlainState) → i < length xs → length ms ≤ i → LeadsClaims before middle (with_marks s (drop i xs) (drop i ms)) whole → Claims (Err NotApplicable) before middle whole
marks-short s xs ms i before middle whole h k l =
    l.leads (Err NotApplicable) middle (rw (drop-cons xs i no_rival h, drop_all i ms k) (weaker _ _ middle inapplicable))

pub marks-long : (s : PlainState) (xs : List Rival) (ms : List Bool) (i : ℕ) (before middle : Lists) (whole : Attempt PlainState) → length xs ≤ i → i < length ms → LeadsClaims before middle (with_marks s (drop i xs) (drop i ms)) whole → Claims (Err NotApplicable) before middle whole
marks-long s xs ms i before middle whole h k l =
    l.leads (Err NotApplicable) middle (rw (drop_all i xs h, drop-cons ms i true k) (weaker _ _ middle inapplicable))

pub marks-end : (s : PlainState) (xs : List Rival) (ms : List Bool) (i : ℕ) (before middle : Lists) (whole : Attempt PlainState) → length xs ≤ i → length ms ≤ i → LeadsClaims before middle (with_marks s (drop i xs) (drop i ms)) whole → Claims (Ok s) before middle whole
marks-end s xs ms i before middle whole h k l =
    l.leads (Ok s) middle (rw (drop_all i xs h, drop_all i ms k) (weaker _ _ middle (done s)))

-- ---- a sort more

sort-value : (b : Bool) (s t : PlainState) (xs : List Sort) → ((need b >>= λ _. unit xs) >>= λ sorts. unit (record s { sorts = sorts })).value ≡ Some t → t.facts ≡ s.facts
sort-value true s t xs e = ap (λ (u : PlainState). u.facts) (sym (same e))
  where
    same : {A : Type 0} {x y : A} → Some x ≡ Some y → x ≡ y
    same e = cc
sort-value false s t xs e = absurd (clash e)
  where
    clash : {A : Type 0} {x : A} → None ≡ Some x → ⊥
    clash e = cc

pub sort-facts : (s t : PlainState) (o : Sort) → Makes (Ok t) (with_sort s o) → t.facts ≡ s.facts
sort-facts s t o h = sort-value (nat_lt (length s.sorts) longest_list) s t (s.sorts ++ o ∷ []) (h.ends []).1
