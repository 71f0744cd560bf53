-- Success of an attempt is that of what comes after results that are within 128 bits.
use Rattle.std.proofs.Common.{◌≡◌, true, List, [], ◌∷◌, ◌++◌, map, length, Option, Some, None, refl, sym, ap, ◌∙◌, append-nil, append_assoc}
use Rattle.std.specs.Prelude.{option_map, Ok, Err}
use Rattle.cap_lin.specs.Exact.{Explains}
use Rattle.cap_lin.specs.Linear.{Linear, replaced}
use Rattle.cap_lin.specs.Steps.{Step, first_wide, replaced_steps}
use Rattle.cap_lin.specs.declared.error.LinError.{LinError}
use Rattle.cap_lin.specs.declared.row.Row.{Row}
use Rattle.cap_lin.proofs.Results.{first-narrow}
use Rattle.cap_goal_spec.specs.States.{PlainState}
use Rattle.cap_rules.specs.Attempts.{owed, Event, makes, claims, Attempt, unit, go_on, behind, ◌>>=◌, computed, prove}
use Rattle.cap_rules.specs.Answers.{steps_of, owed_lists, answer_unless, lists_if, proofs_of}
use Rattle.cap_rules.specs.Resting.{prove_at}
use Rattle.cap_offer_spec.specs.Deciding.{PlainNotes, decided_all, certified_by, certified, succeeds}
use Rattle.cap_offer_spec.proofs.Trying.{Runs, proofs-come}
use Rattle.cap_rules_steps.specs.declared.error.RuleError.{RuleError}
use Rattle.cap_rules_steps.specs.Errors.{rule_error}
use Rattle.cap_rules_steps.specs.Judging.{IsTold}
use Rattle.cap_rules_steps.specs.Walks.{Makes}
use Rattle.cap_rules_steps.proofs.Walking.{weaker, unmade_claims, wide_claims, all_narrow}
use Rattle.cap_rules_steps.proofs.Judges.{told-ok, told-error}
use Rattle.cap_closure.specs.Tested.{without_value}

abbrev Lists : Type 0
Lists = List (List Row)

same-some : {A : Type 0} (x y : A) → Some x ≡ Some y → x ≡ y
same-some x y e = cc

none-some : {A : Type 0} {x : A} → None ≡ Some x → ⊥
none-some e = cc

steps-join : (es fs : List Event) → steps_of (es ++ fs) ≡ steps_of es ++ steps_of fs
steps-join [] fs = refl
steps-join (makes x ∷ es) fs = ap (λ r. x ∷ r) (steps-join es fs)
steps-join (claims c ∷ es) fs = steps-join es fs

lists-join : (es fs : List Event) → owed_lists (es ++ fs) ≡ owed_lists es ++ owed_lists fs
lists-join [] fs = refl
lists-join (makes x ∷ es) fs = lists-join es fs
lists-join (claims c ∷ es) fs = ap (λ r. owed c ++ r) (lists-join es fs) ∙ sym (append_assoc (owed c) (owed_lists es) (owed_lists fs))

-- ---- after an attempt that makes its value

behind-quiet : {A : Type 0} (es : List Event) (o : Attempt A) → first_wide (steps_of es) ≡ None → owed_lists es ≡ [] → proofs_of (behind es o) ≡ proofs_of o
behind-quiet es o n l =
    ap (λ w. answer_unless w (lists_if (owed_lists (es ++ o.events)) o.value)) (ap first_wide (steps-join es o.events) ∙ first-narrow (steps_of es) (steps_of o.events) n)
    ∙ ap (λ ls. answer_unless (first_wide (steps_of o.events)) (lists_if ls o.value)) (lists-join es o.events ∙ ap (λ ls. ls ++ owed_lists o.events) l)

after-by : {A B : Type 0} (es : List Event) (v : Option A) (x : A) (f : A → Attempt B) → v ≡ Some x → first_wide (steps_of es) ≡ None → owed_lists es ≡ [] → proofs_of (go_on es v f) ≡ proofs_of (f x)
after-by es None x f e n l = absurd (none-some e)
after-by es (Some y) x f e n l = behind-quiet es (f y) n l ∙ ap (λ z. proofs_of (f z)) (same-some y x e)

made-runs : {A : Type 0} (o : Attempt A) (x : A) → Makes (Ok x) o → Runs o [] x
made-runs o x h =
    let c = proofs-come o [] (told-ok o x [] (weaker (Ok x) o [] h)) in
    record { value = (h.ends []).1; narrow = c.runs.narrow; lists = c.runs.lists }

pub made-proofs : {A B : Type 0} (o : Attempt A) (f : A → Attempt B) (x : A) → Makes (Ok x) o → proofs_of (o >>= f) ≡ proofs_of (f x)
made-proofs o f x h = let r = made-runs o x h in after-by o.events o.value x f r.value r.narrow r.lists

succeeds-as : {A B : Type 0} (o : Attempt A) (p : Attempt B) (n : PlainNotes) → proofs_of o ≡ proofs_of p → succeeds o n ≡ succeeds p n
unfolding certified
succeeds-as o p n e = ap (λ a. record { value = Rattle.std.specs.Prelude.is_some (certified_by a n).value; notes = (certified_by a n).notes }) e

pub made-succeeds : {A B : Type 0} (o : Attempt A) (f : A → Attempt B) (x : A) (n : PlainNotes) → Makes (Ok x) o → succeeds (o >>= f) n ≡ succeeds (f x) n
made-succeeds o f x n h = succeeds-as (o >>= f) (f x) n (made-proofs o f x h)

pub made-fails : {A B : Type 0} (e : RuleError) (o : Attempt A) (f : A → Attempt B) → Makes (Err e) o → IsTold (Err e) (proofs_of (o >>= f))
made-fails e o f h = told-error e (o >>= f) [] (unmade_claims e o f [] h)

pub wide-fails : {B : Type 0} (e : LinError) (steps : List Step) (o : Attempt B) → Explains e steps → IsTold (Err (rule_error e)) (proofs_of (behind (map makes steps) o))
wide-fails e steps o h = told-error (rule_error e) (behind (map makes steps) o) [] (wide_claims e steps o [] h)

-- ---- one candidate

abbrev ending : List Event → Attempt (Unit {0})
ending es = record { events = es; value = Some tt }

then-unit : (es : List Event) → proofs_of (ending (es ++ [])) ≡ proofs_of (ending es)
then-unit es = ap (λ l. proofs_of (ending l)) (append-nil es)

pub at-succeeds : (s : PlainState) (rows : List Row) (t : Linear) (r : Row) (n : PlainNotes) → first_wide (replaced_steps (length s.sorts) t r.term) ≡ None → succeeds (prove_at s rows t (r ∷ [])) n ≡ succeeds (prove rows (record r { term = replaced (length s.sorts) t r.term })) n
at-succeeds s rows t r n h =
    let u = replaced (length s.sorts) t r.term in
    let steps = replaced_steps (length s.sorts) t r.term in
    let q : Row = record r { term = u } in
    succeeds-as (prove_at s rows t (r ∷ [])) (prove rows q) n
    (made-proofs (computed u steps) (λ u. prove rows (record r { term = u }) >>= λ v. prove_at s rows t []) u (all_narrow u steps h) ∙ then-unit (prove rows q).events)

pub at-fails : (s : PlainState) (rows : List Row) (t : Linear) (r : Row) (e : LinError) → Explains e (replaced_steps (length s.sorts) t r.term) → IsTold (Err (rule_error e)) (proofs_of (prove_at s rows t (r ∷ [])))
at-fails s rows t r e h = wide-fails e (replaced_steps (length s.sorts) t r.term) (prove rows (record r { term = replaced (length s.sorts) t r.term }) >>= λ v. prove_at s rows t []) h

-- ---- an attempt without its value

value-lost : {A : Type 0} (ls : Lists) (v : Option A) → lists_if ls (option_map (λ x. tt {0}) v) ≡ lists_if ls v
value-lost ls None = refl
value-lost ls (Some x) = refl

pub without-certified : {A : Type 0} (o : Attempt A) (n : PlainNotes) → certified (without_value o) n ≡ certified o n
unfolding certified
without-certified o n = ap (λ l. certified_by (answer_unless (first_wide (steps_of o.events)) l) n) (value-lost (owed_lists o.events) o.value)

-- ---- an attempt that does nothing

pub unit-succeeds : (n : PlainNotes) → succeeds (unit (tt {0})) n ≡ record { value = true; notes = n }
unfolding certified decided_all first_wide
unit-succeeds n = refl
