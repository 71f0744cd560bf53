-- Attempts that make a list of one thing for each member.
use Rattle.std.proofs.Common.{◌≡◌, ℕ, suc, ◌+◌, ◌<◌, ◌≤◌, List, [], ◌∷◌, ◌++◌, length, drop, get_or, drop-cons, Option, Some, None, refl, sym, ap, subst, ◌∙◌, arith, append_assoc, append-nil}
use Rattle.std.specs.Prelude.{option_map, Ok, Err}
use Rattle.std.proofs.lemmas.List.{drop_all}
use Rattle.cap_rules.specs.Attempts.{Event, Attempt, unit, go_on}
use Rattle.cap_rules_steps.specs.Walks.{Makes}
use Rattle.cap_rules_steps.specs.declared.error.RuleError.{RuleError}
use Rattle.cap_rules_steps.proofs.Walking.{Leads, then_made, unmade, done}

-- these members, and behind them what the attempt makes
abbrev pub behind_these : {B : Type 0} → List B → Attempt (List B) → Attempt (List B)
behind_these these o = record { events = o.events; value = option_map (λ more. these ++ more) o.value }

-- one thing for each member, from state to state
pub record Collects {S X B : Type 0} (F : S → List X → Attempt (List B)) (step : S → X → Attempt B) (next : S → X → S) : Type 0 where
  pub none : (s : S) → F s [] ≡ unit []
  pub more : (s : S) (x : X) (xs : List X) → F s (x ∷ xs) ≡ go_on (step s x).events (step s x).value (λ q. go_on (F (next s x) xs).events (F (next s x) xs).value (λ more. unit (q ∷ more)))

after-go : {A B : Type 0} (these : List B) (es : List Event) (v : Option A) (f : A → Attempt (List B)) → behind_these these (go_on es v f) ≡ go_on es v (λ y. behind_these these (f y))
after-go these es None f = refl
after-go these es (Some x) f = refl

after-one : {B : Type 0} (these : List B) (q : B) (es : List Event) (v : Option (List B)) → behind_these (these ++ (q ∷ [])) (record { events = es; value = v }) ≡ behind_these these (go_on es v (λ more. unit (q ∷ more)))
after-one these q es None = refl
after-one these q es (Some more) =
    ap (λ es'. record { events = es'; value = Some ((these ++ (q ∷ [])) ++ more) }) (sym (append-nil es)) ∙ ap (λ l. record { events = es ++ []; value = Some l }) (append_assoc these (q ∷ []) more)

member : {X : Type 0} (xs : List X) (i : ℕ) (x : X) → i < length xs → x ≡ get_or xs i x → drop i xs ≡ x ∷ drop (i + 1) xs
member xs i x h e = drop-cons xs i x h ∙ (ap (λ y. y ∷ drop (suc i) xs) (sym e) ∙ ap (λ j. x ∷ drop j xs) (more i))
  where
    more : (i : ℕ) → suc i ≡ i + 1
    more i = omega arith

pub collect_starts : {B : Type 0} (o : Attempt (List B)) → Leads (behind_these [] o) o
collect_starts o = record { leads = λ r k. subst (λ v. Makes r (record { events = o.events; value = v })) (same o.value) k }
  where
    same : {B : Type 0} (v : Option (List B)) → option_map (λ more. [] ++ more) v ≡ v
    same None = refl
    same (Some l) = refl

unrolled : {S X B : Type 0} (F : S → List X → Attempt (List B)) (step : S → X → Attempt B) (next : S → X → S) → Collects F step next → (s : S) (these : List B) (xs : List X) (i : ℕ) (x : X) → i < length xs → x ≡ get_or xs i x → behind_these these (F s (drop i xs)) ≡ go_on (step s x).events (step s x).value (λ q. behind_these these (go_on (F (next s x) (drop (i + 1) xs)).events (F (next s x) (drop (i + 1) xs)).value (λ more. unit (q ∷ more))))
unrolled F step next c s these xs i x h e =
    ap (λ l. behind_these these (F s l)) (member xs i x h e) ∙ (ap (behind_these these) (c.more s x (drop (i + 1) xs)) ∙ after-go these (step s x).events (step s x).value _)

pub collect_more : {S X B : Type 0} (F : S → List X → Attempt (List B)) (step : S → X → Attempt B) (next : S → X → S) → Collects F step next → (s : S) (these : List B) (xs : List X) (i : ℕ) (x : X) (q : B) (whole : Attempt (List B)) → i < length xs → x ≡ get_or xs i x → Makes (Ok q) (step s x) → Leads (behind_these these (F s (drop i xs))) whole → Leads (behind_these (these ++ (q ∷ [])) (F (next s x) (drop (i + 1) xs))) whole
collect_more F step next c s these xs i x q whole h e m l =
    record { leads = λ r k. l.leads r (subst (Makes r) (sym (unrolled F step next c s these xs i x h e)) (then_made r (step s x) _ q m (subst (Makes r) (after-one these q (F (next s x) (drop (i + 1) xs)).events (F (next s x) (drop (i + 1) xs)).value) k))) }

pub collect_fails : {S X B : Type 0} (F : S → List X → Attempt (List B)) (step : S → X → Attempt B) (next : S → X → S) → Collects F step next → (s : S) (these : List B) (xs : List X) (i : ℕ) (x : X) (f : RuleError) (whole : Attempt (List B)) → i < length xs → x ≡ get_or xs i x → Makes (Err f) (step s x) → Leads (behind_these these (F s (drop i xs))) whole → Makes (Err f) whole
collect_fails F step next c s these xs i x f whole h e m l =
    l.leads (Err f) (subst (Makes (Err f)) (sym (unrolled F step next c s these xs i x h e)) (unmade f (step s x) _ m))

pub collect_ends : {S X B : Type 0} (F : S → List X → Attempt (List B)) (step : S → X → Attempt B) (next : S → X → S) → Collects F step next → (s : S) (these : List B) (xs : List X) (i : ℕ) (whole : Attempt (List B)) → length xs ≤ i → Leads (behind_these these (F s (drop i xs))) whole → Makes (Ok these) whole
collect_ends F step next c s these xs i whole h l =
    l.leads (Ok these) (subst (λ o. Makes (Ok these) (behind_these these o)) (sym (ap (F s) (drop_all i xs h) ∙ c.none s)) (subst (λ l. Makes (Ok these) (unit l)) (sym (append-nil these)) (done these)))
