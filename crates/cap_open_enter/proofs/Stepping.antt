-- Attempts that go through a list and claim something at each step.
use Rattle.std.proofs.Common.{◌≡◌, ℕ, suc, ◌+◌, List, [], ◌∷◌, ◌++◌, sym, ap, subst, ◌∙◌, ◌<◌, ◌≤◌, length, get_or, drop, add-one}
use Rattle.std.proofs.lemmas.List.{drop_all, append_assoc, append-nil}
use Rattle.std.specs.Prelude.{Ok, Err, Result}
use Rattle.cap_lin.specs.declared.row.Row.{Row}
use Rattle.cap_rules_steps.specs.cap_rules.Attempts.{Attempt, unit, go_on}
use Rattle.cap_rules_steps.specs.Walks.{Makes, Claims}
use Rattle.cap_rules_steps.specs.declared.error.RuleError.{RuleError}
use Rattle.cap_rules_steps.proofs.Listing.{LeadsClaims}
use Rattle.cap_rules_steps.proofs.Walking.{Goes, LeadsBehind, split-at, claims_then, claims_fail, then_made, unmade, done}

abbrev Lists : Type 0
Lists = List (List Row)

unrolled : {S X A : Type 0} (F : S → List X → Attempt A) (step : S → X → Attempt S) → Goes F step → (s : S) (xs : List X) (i : ℕ) (x : X) → i < length xs → x ≡ get_or xs i x → F s (drop i xs) ≡ go_on (step s x).events (step s x).value (λ t. F t (drop (suc i) xs))
unfolding Goes
unrolled F step g s xs i x h e = ap (F s) (split-at xs i x h e) ∙ g s x (drop (suc i) xs)

pub claims-next : {S X A : Type 0} (F : S → List X → Attempt A) (step : S → X → Attempt S) → Goes F step → (s t : S) (xs : List X) (i : ℕ) (x : X) (before middle next : Lists) (whole : Attempt A) → i < length xs → x ≡ get_or xs i x → Claims (Ok t) middle next (step s x) → LeadsClaims before middle (F s (drop i xs)) whole → LeadsClaims before next (F t (drop (i + 1) xs)) whole
claims-next F step g s t xs i x before middle next whole h e m l =
    rw add-one (record { leads = λ r after k. l.leads r after (subst (Claims r middle after) (sym (unrolled F step g s xs i x h e)) (claims_then r (step s x) (λ u. F u (drop (suc i) xs)) t middle next after m k)) })

pub claims-stop : {S X A : Type 0} (F : S → List X → Attempt A) (step : S → X → Attempt S) → Goes F step → (s : S) (xs : List X) (i : ℕ) (x : X) (before middle next : Lists) (whole : Attempt A) (f : RuleError) → i < length xs → x ≡ get_or xs i x → Claims (Err f) middle next (step s x) → LeadsClaims before middle (F s (drop i xs)) whole → Claims (Err f) before next whole
claims-stop F step g s xs i x before middle next whole f h e m l =
    l.leads (Err f) next (subst (Claims (Err f) middle next) (sym (unrolled F step g s xs i x h e)) (claims_fail f (step s x) (λ u. F u (drop (suc i) xs)) middle next m))

pub claims-end : {S X A : Type 0} (F : S → List X → Attempt A) (s : S) (xs : List X) (i : ℕ) (before middle : Lists) (whole : Attempt A) (r : Result A RuleError) → length xs ≤ i → Claims r middle middle (F s []) → LeadsClaims before middle (F s (drop i xs)) whole → Claims r before middle whole
claims-end F s xs i before middle whole r h m l = l.leads r middle (rw (drop_all i xs h) m)

-- ---- a list that is seen by its members

-- ---- attempts that make several members at each step

-- what the step makes comes before what the rest makes
unfoldable pub Chunks : {X S Y : Type 0} (G : List X → Attempt (List Y)) (step : X → Attempt S) (made : S → X → List Y) → Type 0
Chunks {X} {S} {Y} G step made = (x : X) (xs : List X) → G (x ∷ xs) ≡ go_on (step x).events (step x).value (λ s. go_on (G xs).events (G xs).value (λ ys. unit (made s x ++ ys)))

pub chunks-next : {X S Y : Type 0} (G : List X → Attempt (List Y)) (step : X → Attempt S) (made : S → X → List Y) → Chunks G step made → (xs : List X) (i : ℕ) (x : X) (s : S) (ys zs : List Y) (whole : Attempt (List Y)) → i < length xs → x ≡ get_or xs i x → Makes (Ok s) (step x) → zs ≡ ys ++ made s x → LeadsBehind ys (G (drop i xs)) whole → LeadsBehind zs (G (drop (i + 1) xs)) whole
unfolding Chunks
chunks-next G step made g xs i x s ys zs whole h e m q l =
    let rest = drop (suc i) xs in
    rw (add-one, q) (record {
      ok = λ us k. subst (λ ws. Makes (Ok ws) whole) (sym (append_assoc ys (made s x) us)) (l.ok (made s x ++ us) (rw (split-at xs i x h e, g x rest) (then_made _ (step x) (λ t. go_on (G rest).events (G rest).value (λ ws. unit (made t x ++ ws))) s m (then_made _ (G rest) (λ ws. unit (made s x ++ ws)) us k (done (made s x ++ us))))));
      fails = λ f k. l.fails f (rw (split-at xs i x h e, g x rest) (then_made _ (step x) (λ t. go_on (G rest).events (G rest).value (λ ws. unit (made t x ++ ws))) s m (unmade f (G rest) (λ ws. unit (made s x ++ ws)) k)));
    })

pub chunks-stop : {X S Y : Type 0} (G : List X → Attempt (List Y)) (step : X → Attempt S) (made : S → X → List Y) → Chunks G step made → (xs : List X) (i : ℕ) (x : X) (ys : List Y) (whole : Attempt (List Y)) (f : RuleError) → i < length xs → x ≡ get_or xs i x → Makes (Err f) (step x) → LeadsBehind ys (G (drop i xs)) whole → Makes (Err f) whole
unfolding Chunks
chunks-stop G step made g xs i x ys whole f h e m l = l.fails f (rw (split-at xs i x h e, g x (drop (suc i) xs)) (unmade f (step x) (λ t. go_on (G (drop (suc i) xs)).events (G (drop (suc i) xs)).value (λ ws. unit (made t x ++ ws))) m))

pub chunks-end : {X Y : Type 0} (G : List X → Attempt (List Y)) (xs : List X) (i : ℕ) (ys : List Y) (whole : Attempt (List Y)) → length xs ≤ i → Makes (Ok []) (G []) → LeadsBehind ys (G (drop i xs)) whole → Makes (Ok ys) whole
chunks-end G xs i ys whole h m l = subst (λ zs. Makes (Ok zs) whole) (append-nil ys) (l.ok [] (rw (drop_all i xs h) m))
