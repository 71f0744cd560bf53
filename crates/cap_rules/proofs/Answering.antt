-- How the events of an attempt end.
use Rattle.std.proofs.Common.{◌≡◌, ◌⊎◌, inl, inr, ℤ, ◌+ℤ◌, ◌*ℤ◌, Bool, true, false, List, [], ◌∷◌, ◌++◌, Option, Some, None, refl, sym, ap, subst, ◌∙◌}
use Rattle.std.specs.Prelude.{if◌then◌else◌}
use Rattle.std.specs.List.{AllZip}
use Rattle.cap_goal_spec.specs.cap_lin.Steps.{Step, sum_of, product_of, fits, first_wide}
use Rattle.cap_goal_spec.specs.cap_lin.declared.row.Row.{Row}
use Rattle.cap_goal_spec.specs.cap_farkas.declared.cert.Cert.{Cert}
use Rattle.cap_goal_spec.specs.cap_farkas.Refutes.{Refutes}
use Rattle.cap_rules.specs.Attempts.{Claim, owed, Event, makes, claims, Attempt}
use Rattle.cap_rules.specs.Answers.{Answer, applies, inapplicable, too_wide, answer_or, steps_of, claims_of, owed_lists, Ending, passed, refused, stopped, Refuting, Within, Ends, answer_at, Answers}
use Rattle.cap_rules.specs.Laws.{Succeeds}

-- ---- there is one end

refuting-one : (ls : List (List Row)) (cs : List Cert) (P Q : List Cert → Type 0) (R S Z : Type 0) → ((rest : List Cert) → P rest → Q rest → Z) → (R → S → Z) → Refuting ls cs P R → Refuting ls cs Q S → Z
refuting-one [] cs P Q R S Z f g x y = f cs x y
refuting-one (l ∷ ls) [] P Q R S Z f g x y = g x y
refuting-one (l ∷ ls) (c ∷ cs) P Q R S Z f g (inl u) (inl w) = refuting-one ls cs P Q R S Z f g u.1 w.1
refuting-one (l ∷ ls) (c ∷ cs) P Q R S Z f g (inl u) (inr w) = absurd (w.0 u.0)
refuting-one (l ∷ ls) (c ∷ cs) P Q R S Z f g (inr u) (inl w) = absurd (u.0 w.0)
refuting-one (l ∷ ls) (c ∷ cs) P Q R S Z f g (inr u) (inr w) = g u.1 w.1

within-one : (o : Option (ℤ × ℤ)) (P Q Z : Type 0) (V W : ℤ → ℤ → Type 0) → (P → Q → Z) → ((a b : ℤ) → V a b → W a b → Z) → Within o P V → Within o Q W → Z
within-one None P Q Z V W f g x y = f x y
within-one (Some w) P Q Z V W f g x y = g w.0 w.1 x y

ends-one : (es : List Event) (cs : List Cert) (a b : Ending) → Ends es cs a → Ends es cs b → a ≡ b
ends-one [] cs a b x y = x ∙ sym y
ends-one (makes s ∷ es) cs a b x y =
    within-one (first_wide (s ∷ [])) (Ends es cs a) (Ends es cs b) (a ≡ b) (λ u w. a ≡ stopped u w) (λ u w. b ≡ stopped u w) (ends-one es cs a b) (λ u w p q. p ∙ sym q) x y
ends-one (claims c ∷ es) cs a b x y =
    refuting-one (owed c) cs (λ rest. Ends es rest a) (λ rest. Ends es rest b) (a ≡ refused) (b ≡ refused) (a ≡ b) (λ rest p q. ends-one es rest a b p q) (λ p q. p ∙ sym q) x y

pub answers-one : {A : Type 0} (o : Attempt A) (cs : List Cert) (x y : Answer A) → Answers o cs x → Answers o cs y → x ≡ y
answers-one o cs x y a b = a.2 ∙ (ap (answer_at o.value) (ends-one o.events cs a.0 b.0 a.1 b.1) ∙ sym b.2)

-- ---- results on the way

abbrev unless : Bool → ℤ × ℤ → Option (ℤ × ℤ) → Option (ℤ × ℤ)
unless narrow w rest = if narrow then rest else Some w

unless-narrow : (narrow : Bool) (w : ℤ × ℤ) (rest : Option (ℤ × ℤ)) → unless narrow w None ≡ None → unless narrow w rest ≡ rest
unless-narrow true w rest e = refl
unless-narrow false w rest e = absurd (clash e)
  where
    clash : Some w ≡ None → ⊥
    clash e = cc

unless-first : (narrow : Bool) (w : ℤ × ℤ) (rest : Option (ℤ × ℤ)) → unless narrow w rest ≡ None → unless narrow w None ≡ None
unless-first true w rest e = refl
unless-first false w rest e = e

wide-cons : (s : Step) (steps : List Step) → first_wide (s ∷ []) ≡ None → first_wide (s ∷ steps) ≡ first_wide steps
unfolding first_wide
wide-cons (sum_of a b) steps e = unless-narrow (fits (a +ℤ b)) (a, b) (first_wide steps) e
wide-cons (product_of a b) steps e = unless-narrow (fits (a *ℤ b)) (a, b) (first_wide steps) e

wide-first : (s : Step) (steps : List Step) → first_wide (s ∷ steps) ≡ None → first_wide (s ∷ []) ≡ None
unfolding first_wide
wide-first (sum_of a b) steps e = unless-first (fits (a +ℤ b)) (a, b) (first_wide steps) e
wide-first (product_of a b) steps e = unless-first (fits (a *ℤ b)) (a, b) (first_wide steps) e

wide-none : first_wide [] ≡ None
unfolding first_wide
wide-none = refl

within-both : (o : Option (ℤ × ℤ)) (P : Type 0) (W : ℤ → ℤ → Type 0) → ((a b : ℤ) → W a b → ⊥) → Within o P W → (o ≡ None) × P
within-both None P W never x = (refl, x)
within-both (Some w) P W never x = absurd (never w.0 w.1 x)

-- ---- an end without a failure

abbrev left_over : Ending → List Cert
left_over (passed cs) = cs
left_over refused = []
left_over (stopped a b) = []

passed-refused : {cs : List Cert} → passed cs ≡ refused → ⊥
passed-refused e = cc

passed-stopped : {cs : List Cert} (a b : ℤ) → passed cs ≡ stopped a b → ⊥
passed-stopped a b e = cc

refuting-zip : (ls more : List (List Row)) (cs : List Cert) (P : List Cert → Type 0) (R : Type 0) → (R → ⊥) → ((rest : List Cert) → P rest → AllZip Refutes more rest) → Refuting ls cs P R → AllZip Refutes (ls ++ more) cs
refuting-zip [] more cs P R never f x = f cs x
refuting-zip (l ∷ ls) more [] P R never f x = absurd (never x)
refuting-zip (l ∷ ls) more (c ∷ cs) P R never f (inl u) = (u.0, refuting-zip ls more cs P R never f u.1)
refuting-zip (l ∷ ls) more (c ∷ cs) P R never f (inr u) = absurd (never u.1)

refuting-rest : (ls : List (List Row)) (cs : List Cert) (P : List Cert → Type 0) (R : Type 0) → (R → ⊥) → Refuting ls cs P R → (rest : List Cert) × P rest
refuting-rest [] cs P R never x = (cs, x)
refuting-rest (l ∷ ls) [] P R never x = absurd (never x)
refuting-rest (l ∷ ls) (c ∷ cs) P R never (inl u) = refuting-rest ls cs P R never u.1
refuting-rest (l ∷ ls) (c ∷ cs) P R never (inr u) = absurd (never u.1)

zip-refuting : (ls more : List (List Row)) (cs : List Cert) (P : List Cert → Type 0) (R : Type 0) → ((rest : List Cert) → AllZip Refutes more rest → P rest) → AllZip Refutes (ls ++ more) cs → Refuting ls cs P R
zip-refuting [] more cs P R f x = f cs x
zip-refuting (l ∷ ls) more [] P R f x = absurd x
zip-refuting (l ∷ ls) more (c ∷ cs) P R f x = inl (x.0, zip-refuting ls more cs P R f x.1)

ends-zip : (es : List Event) (cs : List Cert) → Ends es cs (passed []) → AllZip Refutes (owed_lists es) cs
ends-zip [] cs e = subst (AllZip Refutes []) (ap left_over e) tt
ends-zip (makes s ∷ es) cs e =
    ends-zip es cs (within-both (first_wide (s ∷ [])) (Ends es cs (passed [])) (λ a b. passed [] ≡ stopped a b) passed-stopped e).1
ends-zip (claims c ∷ es) cs e =
    refuting-zip (owed c) (owed_lists es) cs (λ rest. Ends es rest (passed [])) (passed [] ≡ refused) passed-refused (λ rest x. ends-zip es rest x) e

ends-narrow : (es : List Event) (cs : List Cert) → Ends es cs (passed []) → first_wide (steps_of es) ≡ None
ends-narrow [] cs e = wide-none
ends-narrow (makes s ∷ es) cs e =
    let w = within-both (first_wide (s ∷ [])) (Ends es cs (passed [])) (λ a b. passed [] ≡ stopped a b) passed-stopped e in
    wide-cons s (steps_of es) w.0 ∙ ends-narrow es cs w.1
ends-narrow (claims c ∷ es) cs e =
    let r = refuting-rest (owed c) cs (λ rest. Ends es rest (passed [])) (passed [] ≡ refused) passed-refused e in ends-narrow es r.0 r.1

zip-ends : (es : List Event) (cs : List Cert) → first_wide (steps_of es) ≡ None → AllZip Refutes (owed_lists es) cs → Ends es cs (passed [])
zip-ends [] [] n x = refl
zip-ends [] (c ∷ cs) n x = absurd x
zip-ends (makes s ∷ es) cs n x =
    let w = wide-first s (steps_of es) n in
    subst (λ o. Within o (Ends es cs (passed [])) (λ a b. passed [] ≡ stopped a b)) (sym w) (zip-ends es cs (sym (wide-cons s (steps_of es) w) ∙ n) x)
zip-ends (claims c ∷ es) cs n x =
    zip-refuting (owed c) (owed_lists es) cs (λ rest. Ends es rest (passed [])) (passed [] ≡ refused) (λ rest y. zip-ends es rest n y) x

-- ---- answers that apply

applies-inapplicable : {A : Type 0} {x : A} → applies x ≡ inapplicable → ⊥
applies-inapplicable e = cc

applies-wide : {A : Type 0} {x : A} (a b : ℤ) → applies x ≡ too_wide a b → ⊥
applies-wide a b e = cc

abbrev applied : {A : Type 0} → Answer A → Option A
applied (applies x) = Some x
applied inapplicable = None
applied (too_wide a b) = None

answer-applies : {A : Type 0} (v : Option A) (end : Ending) (x : A) → applies x ≡ answer_at v end → (end ≡ passed []) × (v ≡ Some x)
answer-applies None (passed []) x e = absurd (applies-inapplicable e)
answer-applies (Some y) (passed []) x e = (refl, sym (ap applied e))
answer-applies v (passed (c ∷ cs)) x e = absurd (applies-inapplicable e)
answer-applies v refused x e = absurd (applies-inapplicable e)
answer-applies v (stopped a b) x e = absurd (applies-wide a b e)

pub answers-succeed : {A : Type 0} (o : Attempt A) (cs : List Cert) (x : A) → Answers o cs (applies x) → Succeeds o cs x
answers-succeed o cs x a =
    let h = answer-applies o.value a.0 x a.2 in
    let e = subst (Ends o.events cs) h.0 a.1 in
    record { value = h.1; narrow = ends-narrow o.events cs e; refuted = ends-zip o.events cs e }

pub succeeds-answer : {A : Type 0} (o : Attempt A) (cs : List Cert) (x : A) → Succeeds o cs x → Answers o cs (applies x)
succeeds-answer o cs x s = (passed [], zip-ends o.events cs s.narrow s.refuted, sym (ap answer_or s.value))
