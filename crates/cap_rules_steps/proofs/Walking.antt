-- Events, one list after the other.
use Rattle.std.proofs.Common.{◌≡◌, ℤ, ◌+ℤ◌, ◌*ℤ◌, Bool, true, false, List, [], ◌∷◌, ◌++◌, map, Option, Some, None, refl, sym, ap, ◌∙◌}
use Rattle.std.proofs.lemmas.List.{drop_all}
use Rattle.std.proofs.Common.{ℕ, suc, ◌+◌, ◌<◌, ◌≤◌, length, get_or, drop, drop-cons, add-one, subst}
use Rattle.cap_rules.specs.Making.{with_row, with_rows, with_sort, with_sorts}
use Rattle.std.specs.Prelude.{if◌then◌else◌, Result, Ok, Err}
use Rattle.cap_lin.specs.Exact.{Explains}
use Rattle.cap_lin.specs.Steps.{Step, sum_of, product_of, fits, first_wide}
use Rattle.cap_lin.specs.declared.error.LinError.{LinError}
use Rattle.cap_lin.specs.declared.error.LinError.TheVariants as lin
use Rattle.cap_lin.specs.declared.row.Row.{Row}
use Rattle.cap_rules.specs.Attempts.{Claim, owed, Event, makes, claims, Attempt, unit, behind, go_on, computed, found, need, not_applicable}
use Rattle.cap_rules_steps.specs.Errors.{rule_error}
use Rattle.cap_rules_steps.specs.Walks.{Standing, owing, widened, unless_wide, after_event, walk, Fails, Ends, Makes, Claims}
use Rattle.cap_rules_steps.specs.declared.error.RuleError.{RuleError}
use Rattle.cap_rules_steps.specs.declared.error.RuleError.TheVariants.{NotApplicable, Wide, OutOfMemory}

abbrev Lists : Type 0
Lists = List (List Row)

pub walk-none : (s : Standing) → walk s [] ≡ s
unfolding walk
walk-none s = refl

pub walk-append : (s : Standing) (es more : List Event) → walk s (es ++ more) ≡ walk (walk s es) more
unfolding walk
walk-append s [] more = refl
walk-append s (e ∷ es) more = walk-append (after_event s e) es more

pub walk-widened : (a b : ℤ) (ls : Lists) (es : List Event) → walk (widened a b ls) es ≡ widened a b ls
unfolding walk
walk-widened a b ls [] = refl
walk-widened a b ls (e ∷ es) = walk-widened a b ls es

-- events that come to this, and more behind them
pub walk-on : (before : Lists) {after : Lists} (es : List Event) → walk (owing before) es ≡ owing after → (more : List Event) → walk (owing before) (es ++ more) ≡ walk (owing after) more
walk-on before {after} es h more = walk-append (owing before) es more ∙ ap (λ s. walk s more) h

pub walk-stops : (before : Lists) {after : Lists} {a b : ℤ} (es : List Event) → walk (owing before) es ≡ widened a b after → (more : List Event) → walk (owing before) (es ++ more) ≡ widened a b after
walk-stops before {after} {a} {b} es h more = walk-append (owing before) es more ∙ (ap (λ s. walk s more) h ∙ walk-widened a b after more)

-- ---- results

abbrev unless : Bool → ℤ × ℤ → Option (ℤ × ℤ) → Option (ℤ × ℤ)
unless narrow w rest = if narrow then rest else Some w

result-walk : (narrow : Bool) (w : ℤ × ℤ) (rest : Option (ℤ × ℤ)) (ls : Lists) (es : List Event) → walk (owing ls) es ≡ unless_wide rest ls → walk (unless_wide (unless narrow w None) ls) es ≡ unless_wide (unless narrow w rest) ls
result-walk true w rest ls es h = h
result-walk false w rest ls es h = walk-widened w.0 w.1 ls es

pub walk-results : (steps : List Step) (ls : Lists) → walk (owing ls) (map makes steps) ≡ unless_wide (first_wide steps) ls
unfolding walk first_wide
walk-results [] ls = refl
walk-results (sum_of a b ∷ steps) ls = result-walk (fits (a +ℤ b)) (a, b) (first_wide steps) ls (map makes steps) (walk-results steps ls)
walk-results (product_of a b ∷ steps) ls = result-walk (fits (a *ℤ b)) (a, b) (first_wide steps) ls (map makes steps) (walk-results steps ls)

-- results within 128 bits, and more events behind them
pub walk-narrow : (steps : List Step) → first_wide steps ≡ None → (ls : Lists) (more : List Event) → walk (owing ls) (map makes steps ++ more) ≡ walk (owing ls) more
walk-narrow steps n ls more = walk-on ls (map makes steps) (walk-results steps ls ∙ ap (λ w. unless_wide w ls) n) more

-- a result that leaves 128 bits
results-fail : {A : Type 0} (e : LinError) (steps : List Step) (ls : Lists) (more : List Event) (v : Option A) → Explains e steps → Fails (rule_error e) v (walk (owing ls) (map makes steps ++ more)) ls
results-fail (lin.Wide a b) steps ls more v h = walk-stops ls (map makes steps) (walk-results steps ls ∙ ap (λ w. unless_wide w ls) h) more
results-fail lin.OutOfMemory steps ls more v h = tt

-- a failure, and what would have followed
then-fails : {A B : Type 0} (e : RuleError) (v : Option A) (f : A → Attempt B) (before after : Lists) (es : List Event) → Fails e v (walk (owing before) es) after → Fails e (go_on es v f).value (walk (owing before) (go_on es v f).events) after
then-fails NotApplicable None f before after es h = (h.0, refl)
then-fails NotApplicable (Some x) f before after es h = absurd (clash h.1)
  where
    clash : {A : Type 0} {x : A} → Some x ≡ None → ⊥
    clash e = cc
then-fails (Wide a b) None f before after es h = h
then-fails (Wide a b) (Some x) f before after es h = walk-stops before es h (f x).events
then-fails OutOfMemory v f before after es h = tt

-- a value, and what follows
then-ends : {A B : Type 0} (r : Result B RuleError) (x : A) (v : Option A) (f : A → Attempt B) (before after last : Lists) (es : List Event) → Ends (Ok x) v (walk (owing before) es) after → Ends r (f x).value (walk (owing after) (f x).events) last → Ends r (go_on es v f).value (walk (owing before) (go_on es v f).events) last
then-ends (Ok y) x v f before after last es h k = rw h.1 (walk-on before es h.0 (f x).events ∙ k.0, k.1)
then-ends (Err e) x v f before after last es h k = rw (h.1, walk-on before es h.0 (f x).events) k

results-end : {A : Type 0} (r : Result A RuleError) (steps : List Step) (o : Attempt A) (before last : Lists) → first_wide steps ≡ None → Ends r o.value (walk (owing before) o.events) last → Ends r o.value (walk (owing before) (map makes steps ++ o.events)) last
results-end r steps o before last n k = rw (walk-narrow steps n before o.events) k

-- ---- an attempt that claims nothing, and what follows it

pub then_made : {A B : Type 0} (r : Result B RuleError) (o : Attempt A) (f : A → Attempt B) (x : A) → Makes (Ok x) o → Makes r (f x) → Makes r (go_on o.events o.value f)
then_made r o f x h k = record { ends = λ ls. then-ends r x o.value f ls ls ls o.events (h.ends ls) (k.ends ls) }

pub unmade : {A B : Type 0} (e : RuleError) (o : Attempt A) (f : A → Attempt B) → Makes (Err e) o → Makes (Err e) (go_on o.events o.value f)
unmade e o f h = record { ends = λ ls. then-fails e o.value f ls ls o.events (h.ends ls) }

-- ---- results of exact arithmetic, and what follows them

pub then_narrow : {A : Type 0} (r : Result A RuleError) (steps : List Step) (o : Attempt A) → first_wide steps ≡ None → Makes r o → Makes r (behind (map makes steps) o)
then_narrow r steps o n k = record { ends = λ ls. results-end r steps o ls ls n (k.ends ls) }

pub wide : {A : Type 0} (e : LinError) (steps : List Step) (o : Attempt A) → Explains e steps → Makes (Err (rule_error e)) (behind (map makes steps) o)
wide e steps o h = record { ends = λ ls. results-fail e steps ls o.events o.value h }

pub all_narrow : {A : Type 0} (x : A) (steps : List Step) → first_wide steps ≡ None → Makes (Ok x) (computed x steps)
all_narrow x steps n = record { ends = λ ls. (walk-results steps ls ∙ ap (λ w. unless_wide w ls) n, refl) }

last-fails : {A : Type 0} (e : LinError) (steps : List Step) (ls : Lists) (v : Option A) → Explains e steps → Fails (rule_error e) v (walk (owing ls) (map makes steps)) ls
last-fails (lin.Wide a b) steps ls v h = walk-results steps ls ∙ ap (λ w. unless_wide w ls) h
last-fails lin.OutOfMemory steps ls v h = tt

pub last_wide : {A : Type 0} (e : LinError) (x : A) (steps : List Step) → Explains e steps → Makes (Err (rule_error e)) (computed x steps)
last_wide e x steps h = record { ends = λ ls. last-fails e steps ls (Some x) h }

pub done : {A : Type 0} (x : A) → Makes (Ok x) (unit x)
done x = record { ends = λ ls. (walk-none (owing ls), refl) }

pub no_memory : {A : Type 0} (o : Attempt A) → Makes (Err OutOfMemory) o
no_memory o = record { ends = λ ls. tt }

pub inapplicable : {A : Type 0} → Makes {A = A} (Err NotApplicable) not_applicable
inapplicable = record { ends = λ ls. (walk-none (owing ls), refl) }

pub needed : (b : Bool) → b ≡ true → Makes (Ok tt) (need b)
needed true h = done tt
needed false h = absurd (clash h)
  where
    clash : false ≡ true → ⊥
    clash e = cc

pub unneeded : (b : Bool) → b ≡ false → Makes (Err NotApplicable) (need b)
unneeded false h = inapplicable
unneeded true h = absurd (clash h)
  where
    clash : true ≡ false → ⊥
    clash e = cc

pub there : {A : Type 0} (o : Option A) (x : A) → o ≡ Some x → Makes (Ok x) (found o)
there o x h = record { ends = λ ls. (walk-none (owing ls), h) }

pub lacking : {A : Type 0} (o : Option A) → o ≡ None → Makes (Err NotApplicable) (found o)
lacking o h = record { ends = λ ls. (walk-none (owing ls), h) }

-- ---- attempts that claim something

pub weaker : {A : Type 0} (r : Result A RuleError) (o : Attempt A) (ls : Lists) → Makes r o → Claims r ls ls o
weaker r o ls h = record { ends = h.ends ls }

pub made_claims : {A B : Type 0} (r : Result B RuleError) (o : Attempt A) (f : A → Attempt B) (x : A) (before after : Lists) → Makes (Ok x) o → Claims r before after (f x) → Claims r before after (go_on o.events o.value f)
made_claims r o f x before after h k = record { ends = then-ends r x o.value f before before after o.events (h.ends before) k.ends }

pub unmade_claims : {A B : Type 0} (e : RuleError) (o : Attempt A) (f : A → Attempt B) (before : Lists) → Makes (Err e) o → Claims (Err e) before before (go_on o.events o.value f)
unmade_claims e o f before h = record { ends = then-fails e o.value f before before o.events (h.ends before) }

pub claims_then : {A B : Type 0} (r : Result B RuleError) (o : Attempt A) (f : A → Attempt B) (x : A) (before middle after : Lists) → Claims (Ok x) before middle o → Claims r middle after (f x) → Claims r before after (go_on o.events o.value f)
claims_then r o f x before middle after h k = record { ends = then-ends r x o.value f before middle after o.events h.ends k.ends }

pub claims_fail : {A B : Type 0} (e : RuleError) (o : Attempt A) (f : A → Attempt B) (before after : Lists) → Claims (Err e) before after o → Claims (Err e) before after (go_on o.events o.value f)
claims_fail e o f before after h = record { ends = then-fails e o.value f before after o.events h.ends }

pub narrow_claims : {A : Type 0} (r : Result A RuleError) (steps : List Step) (o : Attempt A) (before after : Lists) → first_wide steps ≡ None → Claims r before after o → Claims r before after (behind (map makes steps) o)
narrow_claims r steps o before after n k = record { ends = results-end r steps o before after n k.ends }

pub wide_claims : {A : Type 0} (e : LinError) (steps : List Step) (o : Attempt A) (before : Lists) → Explains e steps → Claims (Err (rule_error e)) before before (behind (map makes steps) o)
wide_claims e steps o before h = record { ends = results-fail e steps before o.events o.value h }

pub no_memory_claims : {A : Type 0} (o : Attempt A) (before after : Lists) → Claims (Err OutOfMemory) before after o
no_memory_claims o before after = record { ends = tt }

pub one_claim : {A : Type 0} (x : A) (c : Claim) (before after : Lists) → after ≡ before ++ owed c → Claims (Ok x) before after (record { events = claims c ∷ []; value = Some x })
unfolding walk
one_claim x c before after e = record { ends = (ap owing (sym e), refl) }

pub ruleset claiming = (weaker, made_claims, unmade_claims, claims_then, claims_fail, narrow_claims, wide_claims, no_memory_claims, one_claim)

-- ---- loops

-- what is left of an attempt answers for the whole
pub record Leads {A : Type 0} (rest whole : Attempt A) : Type 0 where
  pub leads : (r : Result A RuleError) → Makes r rest → Makes r whole

pub starts : {A : Type 0} (o : Attempt A) → Leads o o
starts o = record { leads = λ r h. h }

-- an attempt that goes through a list from step to step
unfoldable pub Goes : {S X A : Type 0} (F : S → List X → Attempt A) (step : S → X → Attempt S) → Type 0
Goes {S} {X} F step = (s : S) (x : X) (xs : List X) → F s (x ∷ xs) ≡ go_on (step s x).events (step s x).value (λ t. F t xs)

pub split-at : {X : Type 0} (xs : List X) (i : ℕ) (x : X) → i < length xs → x ≡ get_or xs i x → drop i xs ≡ x ∷ drop (suc i) xs
split-at xs i x h e = drop-cons xs i x h ∙ ap (λ y. y ∷ drop (suc i) xs) (sym e)

pub goes_on : {S X A : Type 0} (F : S → List X → Attempt A) (step : S → X → Attempt S) → Goes F step → (s t : S) (xs : List X) (i : ℕ) (x : X) (whole : Attempt A) → i < length xs → x ≡ get_or xs i x → Makes (Ok t) (step s x) → Leads (F s (drop i xs)) whole → Leads (F t (drop (i + 1) xs)) whole
unfolding Goes
goes_on F step g s t xs i x whole h e m l = record { leads = λ r k. l.leads r (rw (split-at xs i x h e, g s x (drop (suc i) xs)) (then_made r (step s x) (λ u. F u (drop (suc i) xs)) t m (rw (← add-one) k))) }

pub fails_at : {S X A : Type 0} (F : S → List X → Attempt A) (step : S → X → Attempt S) → Goes F step → (s : S) (xs : List X) (i : ℕ) (x : X) (whole : Attempt A) (f : RuleError) → i < length xs → x ≡ get_or xs i x → Makes (Err f) (step s x) → Leads (F s (drop i xs)) whole → Makes (Err f) whole
unfolding Goes
fails_at F step g s xs i x whole f h e m l = l.leads (Err f) (rw (split-at xs i x h e, g s x (drop (suc i) xs)) (unmade f (step s x) (λ u. F u (drop (suc i) xs)) m))

pub ends : {S X A : Type 0} (F : S → List X → Attempt A) (s : S) (xs : List X) (i : ℕ) (whole : Attempt A) (r : Result A RuleError) → length xs ≤ i → Makes r (F s []) → Leads (F s (drop i xs)) whole → Makes r whole
ends F s xs i whole r h m l = l.leads r (rw (drop_all i xs h) m)

-- what is left of an attempt to make a list, behind these members
pub record LeadsBehind {A : Type 0} (xs : List A) (rest whole : Attempt (List A)) : Type 0 where
  pub ok : (ys : List A) → Makes (Ok ys) rest → Makes (Ok (xs ++ ys)) whole
  pub fails : (e : RuleError) → Makes (Err e) rest → Makes (Err e) whole

-- ---- an attempt with a value, and what follows

pub then_value : {A B : Type 0} (r : Result B RuleError) (o : Attempt A) (x : A) (rest : Attempt B) → Makes (Ok x) o → Makes r rest → Makes r (behind o.events rest)
then_value r o x rest h k = record { ends = λ ls. then-ends r x (Some x) (λ y. rest) ls ls ls o.events ((h.ends ls).0, refl) (k.ends ls) }

value-fails : {A B : Type 0} (e : RuleError) (y : A) (before : Lists) (es more : List Event) (v : Option B) → Fails e (Some y) (walk (owing before) es) before → Fails e v (walk (owing before) (es ++ more)) before
value-fails NotApplicable y before es more v h = absurd (clash h.1)
  where
    clash : {A : Type 0} {x : A} → Some x ≡ None → ⊥
    clash e = cc
value-fails (Wide a b) y before es more v h = walk-stops before es h more
value-fails OutOfMemory y before es more v h = tt

pub no_value : {A B : Type 0} (e : RuleError) (o : Attempt A) (y : A) (rest : Attempt B) → o.value ≡ Some y → Makes (Err e) o → Makes (Err e) (behind o.events rest)
no_value e o y rest q h = record { ends = λ ls. value-fails e y ls o.events rest.events rest.value (subst (λ v. Fails e v (walk (owing ls) o.events) ls) q (h.ends ls)) }

pub value_claims : {A B : Type 0} (r : Result B RuleError) (o : Attempt A) (x : A) (rest : Attempt B) (before after : Lists) → Makes (Ok x) o → Claims r before after rest → Claims r before after (behind o.events rest)
value_claims r o x rest before after h k = record { ends = then-ends r x (Some x) (λ y. rest) before before after o.events ((h.ends before).0, refl) k.ends }

pub no_value_claims : {A B : Type 0} (e : RuleError) (o : Attempt A) (y : A) (rest : Attempt B) (before : Lists) → o.value ≡ Some y → Makes (Err e) o → Claims (Err e) before before (behind o.events rest)
no_value_claims e o y rest before q h = record { ends = value-fails e y before o.events rest.events rest.value (subst (λ v. Fails e v (walk (owing before) o.events) before) q (h.ends before)) }

pub claims_value : {A B : Type 0} (r : Result B RuleError) (o : Attempt A) (x : A) (rest : Attempt B) (before middle after : Lists) → Claims (Ok x) before middle o → Claims r middle after rest → Claims r before after (behind o.events rest)
claims_value r o x rest before middle after h k = record { ends = then-ends r x (Some x) (λ y. rest) before middle after o.events (h.ends.0, refl) k.ends }

claim-fails : {A B : Type 0} (e : RuleError) (y : A) (before after : Lists) (es more : List Event) (v : Option B) → Fails e (Some y) (walk (owing before) es) after → Fails e v (walk (owing before) (es ++ more)) after
claim-fails NotApplicable y before after es more v h = absurd (clash h.1)
  where
    clash : {A : Type 0} {x : A} → Some x ≡ None → ⊥
    clash e = cc
claim-fails (Wide a b) y before after es more v h = walk-stops before es h more
claim-fails OutOfMemory y before after es more v h = tt

pub claims_no_value : {A B : Type 0} (e : RuleError) (o : Attempt A) (y : A) (rest : Attempt B) (before after : Lists) → o.value ≡ Some y → Claims (Err e) before after o → Claims (Err e) before after (behind o.events rest)
claims_no_value e o y rest before after q h = record { ends = claim-fails e y before after o.events rest.events rest.value (subst (λ v. Fails e v (walk (owing before) o.events) after) q h.ends) }

-- the value is the attempt's
pub value_is : {A : Type 0} (x y : A) (o : Attempt A) → o.value ≡ Some y → Makes (Ok x) o → x ≡ y
value_is x y o q h = same (sym (h.ends []).1 ∙ q)
  where
    same : {A : Type 0} {x y : A} → Some x ≡ Some y → x ≡ y
    same e = cc

pub done_as : {A : Type 0} (x y : A) → x ≡ y → Makes (Ok x) (unit y)
done_as x y e = subst (λ z. Makes (Ok x) (unit z)) e (done x)

pub rows_go : Goes with_rows with_row
unfolding Goes
rows_go s r rs = refl

pub sorts_go : Goes with_sorts with_sort
unfolding Goes
sorts_go s r rs = refl

pub ruleset making = (then_made, unmade, then_narrow, wide, all_narrow, last_wide, done, no_memory, inapplicable, needed, unneeded, there, lacking)
