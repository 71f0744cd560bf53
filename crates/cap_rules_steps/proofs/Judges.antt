-- Where the events of an attempt end, by the certificates.
use Rattle.std.proofs.Common.{ℕ, zero, suc, ◌+◌, ◌<◌, ◌≤◌, ◌≢◌, arith, add-one, ◌≡◌, ◌⊎◌, inl, inr, ℤ, List, [], ◌∷◌, ◌++◌, length, drop, Option, Some, None, refl, sym, ap, ◌∙◌}
use Rattle.std.proofs.lemmas.List.{append_assoc, drop_all, length-drop}
use Rattle.cap_lin.specs.Steps.{Step, first_wide}
use Rattle.cap_lin.specs.declared.row.Row.{Row}
use Rattle.cap_farkas.specs.declared.cert.Cert.{Cert}
use Rattle.cap_farkas.specs.Refutes.{Refutes}
use Rattle.cap_rules.specs.Attempts.{owed, Event, makes, claims, Attempt}
use Rattle.cap_rules.specs.Answers.{applies, inapplicable, answer_or, answer_at, Answers, steps_of, owed_lists, proofs_of, Ending, passed, refused, stopped, Refuting, Within, Ends}
use Rattle.cap_rules_steps.specs.Judging.{Refuted, RefutedNot, Answered, refused_error, judged_error, IsTold}
use Rattle.cap_rules_steps.specs.Walks.{Standing, owing, widened, unless_wide, walk, Claims}
use Rattle.std.specs.Bool.{MatchBool}
use Rattle.std.specs.Prelude.{Bool, true, false, slice_get, Ok, Err}
use Rattle.cap_rules_steps.specs.declared.error.RuleError.{RuleError}
use Rattle.cap_rules_steps.specs.declared.error.RuleError.TheVariants.{NotApplicable, Wide, OutOfMemory}
use Rattle.cap_lin.proofs.Results.{first-narrow, first-wide, first_wide-nil}
use Rattle.cap_rules_steps.proofs.Walking.{walk-widened}

abbrev Lists : Type 0
Lists = List (List Row)

abbrev prefixed : Lists → Standing → Standing
prefixed before (owing ls) = owing (before ++ ls)
prefixed before (widened a b ls) = widened a b (before ++ ls)

prefixed-twice : (a b : Lists) (s : Standing) → prefixed a (prefixed b s) ≡ prefixed (a ++ b) s
prefixed-twice a b (owing ls) = ap owing (sym (append_assoc a b ls))
prefixed-twice a b (widened x y ls) = ap (widened x y) (sym (append_assoc a b ls))

mutual_step : (before : Lists) (o : Option (ℤ × ℤ)) (es : List Event) → walk (owing before) es ≡ prefixed before (walk (owing []) es) → walk (unless_wide o before) es ≡ prefixed before (walk (unless_wide o []) es)
mutual_step before None es h = h
mutual_step before (Some w) es h = walk-widened w.0 w.1 before es ∙ (ap (widened w.0 w.1) (append-none before) ∙ ap (prefixed before) (sym (walk-widened w.0 w.1 [] es)))
  where
    append-none : (xs : Lists) → xs ≡ xs ++ []
    append-none [] = refl
    append-none (x ∷ xs) = ap (λ ys. x ∷ ys) (append-none xs)

walk-from : (before : Lists) (es : List Event) → walk (owing before) es ≡ prefixed before (walk (owing []) es)
unfolding walk
walk-from before [] = ap owing (append-none before)
  where
    append-none : (xs : Lists) → xs ≡ xs ++ []
    append-none [] = refl
    append-none (x ∷ xs) = ap (λ ys. x ∷ ys) (append-none xs)
walk-from before (makes s ∷ es) = mutual_step before (first_wide (s ∷ [])) es (walk-from before es)
walk-from before (claims c ∷ es) = walk-from (before ++ owed c) es ∙ (sym (prefixed-twice before (owed c) (walk (owing []) es)) ∙ ap (prefixed before) (sym (walk-from (owed c) es)))

-- what certificates make of events that end so
abbrev pub Judges : Standing → (List Cert → Ending → Type 0) → List Cert → Type 0
Judges (owing ls) E cs = (Refuted ls cs → E cs (passed (drop (length ls) cs))) × (RefutedNot ls cs → E cs refused)
Judges (widened a b ls) E cs = (Refuted ls cs → E cs (stopped a b)) × (RefutedNot ls cs → E cs refused)

abbrev ends_by : List Event → List Cert → Ending → Type 0
ends_by es cs end = Ends es cs end

abbrev after : Lists → (List Cert → Ending → Type 0) → List Cert → Ending → Type 0
after ls E cs end = Refuting ls cs (λ rest. E rest end) (end ≡ refused)

judges-after : (ms : Lists) (s : Standing) (E : List Cert → Ending → Type 0) → ((cs : List Cert) → Judges s E cs) → (cs : List Cert) → Judges (prefixed ms s) (after ms E) cs
judges-after [] (owing ls) E h cs = h cs
judges-after [] (widened a b ls) E h cs = h cs
judges-after (m ∷ ms) (owing ls) E h [] = (λ r. absurd r, λ r. refl)
judges-after (m ∷ ms) (widened a b ls) E h [] = (λ r. absurd r, λ r. refl)
judges-after (m ∷ ms) (owing ls) E h (c ∷ cs) =
    let k = judges-after ms (owing ls) E h cs in
    (λ r. inl (r.0, k.0 r.1), λ r. elim r as (λ _. (Refutes m c × after ms E cs refused) ⊎ ((¬ Refutes m c) × (refused ≡ refused))) [ inl p ↦ inl (p.0, k.1 p.1) | inr q ↦ inr (q, refl) ])
judges-after (m ∷ ms) (widened a b ls) E h (c ∷ cs) =
    let k = judges-after ms (widened a b ls) E h cs in
    (λ r. inl (r.0, k.0 r.1), λ r. elim r as (λ _. (Refutes m c × after ms E cs refused) ⊎ ((¬ Refutes m c) × (refused ≡ refused))) [ inl p ↦ inl (p.0, k.1 p.1) | inr q ↦ inr (q, refl) ])

judges-within : (o : Option (ℤ × ℤ)) (es : List Event) (cs : List Cert) → Judges (walk (owing []) es) (ends_by es) cs → Judges (walk (unless_wide o []) es) (λ cs end. Within o (Ends es cs end) (λ a b. end ≡ stopped a b)) cs
judges-within None es cs h = h
judges-within (Some w) es cs h = rw (walk-widened w.0 w.1 [] es) (λ r. refl, λ r. absurd r)

pub judges : (es : List Event) (cs : List Cert) → Judges (walk (owing []) es) (ends_by es) cs
unfolding walk
judges [] cs = (λ r. refl, λ r. absurd r)
judges (makes s ∷ es) cs = judges-within (first_wide (s ∷ [])) es cs (judges es cs)
judges (claims c ∷ es) cs = rw (walk-from (owed c) es) (judges-after (owed c) (walk (owing []) es) (ends_by es) (λ rest. judges es rest) cs)

-- ---- the certificates that are left

get-drop : {X : Type 0} (xs : List X) (i : ℕ) (x : X) → slice_get xs i ≡ Some x → drop i xs ≡ x ∷ drop (suc i) xs
get-drop [] i x e = absurd (clash e)
  where
    clash : {X : Type 0} {x : X} → None ≡ Some x → ⊥
    clash e = cc
get-drop (y ∷ ys) zero x e = ap (λ z. z ∷ ys) (same e)
  where
    same : {X : Type 0} {y x : X} → Some y ≡ Some x → y ≡ x
    same e = cc
get-drop (y ∷ ys) (suc i) x e = get-drop ys i x e

-- what is left to be refuted tells of the whole
pub record LeftAt (ls : Lists) (cs : List Cert) (i : ℕ) : Type 0 where
  pub refuted : Refuted (drop i ls) (drop i cs) → Refuted ls cs
  pub refused : RefutedNot (drop i ls) (drop i cs) → RefutedNot ls cs

pub left-next : (ls : Lists) (cs : List Cert) (i : ℕ) (l : List Row) (c : Cert) → slice_get ls i ≡ Some l → slice_get cs i ≡ Some c → Refutes l c → LeftAt ls cs i → LeftAt ls cs (i + 1)
left-next ls cs i l c e f r h =
    rw add-one (record {
      refuted = λ k. h.refuted (rw (get-drop ls i l e, get-drop cs i c f) (r, k));
      refused = λ k. h.refused (rw (get-drop ls i l e, get-drop cs i c f) (inl (r, k)));
    })

pub left-refused : (ls : Lists) (cs : List Cert) (i : ℕ) (l : List Row) (c : Cert) → slice_get ls i ≡ Some l → slice_get cs i ≡ Some c → (¬ Refutes l c) → LeftAt ls cs i → RefutedNot ls cs
left-refused ls cs i l c e f n h = h.refused (rw (get-drop ls i l e, get-drop cs i c f) (inr n))

pub left-lacking : (ls : Lists) (cs : List Cert) (i : ℕ) (l : List Row) → drop i ls ≡ l ∷ drop (suc i) ls → length cs ≤ i → LeftAt ls cs i → RefutedNot ls cs
left-lacking ls cs i l e g h = h.refused (rw (e, drop_all i cs g) tt)

-- ---- answers

refuted-short : (ls : Lists) (cs : List Cert) → Refuted ls cs → length ls ≤ length cs
refuted-short [] cs r = omega arith
refuted-short (l ∷ ls) [] r = absurd r
refuted-short (l ∷ ls) (c ∷ cs) r = let h = refuted-short ls cs r.1 in omega arith

left-over : {A : Type 0} (v : Option A) (cs : List Cert) → 0 < length cs → inapplicable ≡ answer_at v (passed cs)
left-over v [] h = absurd (omega arith)
left-over v (c ∷ cs) h = refl

none-left : {A : Type 0} (v : Option A) (cs : List Cert) → length cs ≡ 0 → answer_or v ≡ answer_at v (passed cs)
none-left v [] h = refl
none-left v (c ∷ cs) h = absurd (omega arith)

none-applies : {A : Type 0} (v : Option A) (cs : List Cert) → v ≡ None → inapplicable ≡ answer_at v (passed cs)
none-applies v [] e = rw e refl
none-applies v (c ∷ cs) e = refl

events-judge : {A : Type 0} (o : Attempt A) (s : Standing) (cs : List Cert) → walk (owing []) o.events ≡ s → Judges s (ends_by o.events) cs
events-judge o s cs e = rw (← e) (judges o.events cs)

pub answers-ok : {A : Type 0} (o : Attempt A) (x : A) (ls : Lists) (cs : List Cert) → Claims (Ok x) [] ls o → Refuted ls cs → length cs ≡ length ls → Answers o cs (applies x)
answers-ok o x ls cs h r n =
    let d : length (drop (length ls) cs) ≡ 0 = omega (arith, length-drop (length ls) cs) in
    (passed (drop (length ls) cs), (events-judge o (owing ls) cs h.ends.0).0 r, ap answer_or (sym h.ends.1) ∙ none-left o.value (drop (length ls) cs) d)

pub answers-over : {A : Type 0} (o : Attempt A) (x : A) (ls : Lists) (cs : List Cert) → Claims (Ok x) [] ls o → Refuted ls cs → (length cs ≡ length ls → ⊥) → Answers o cs inapplicable
answers-over o x ls cs h r n =
    let s = refuted-short ls cs r in
    let k : length cs ≢ length ls = n in
    let d : 0 < length (drop (length ls) cs) = omega (arith, length-drop (length ls) cs) in
    (passed (drop (length ls) cs), (events-judge o (owing ls) cs h.ends.0).0 r, left-over o.value (drop (length ls) cs) d)

pub answers-refused : {A : Type 0} (o : Attempt A) (x : A) (ls : Lists) (cs : List Cert) → Claims (Ok x) [] ls o → RefutedNot ls cs → Answers o cs inapplicable
answers-refused o x ls cs h r = (refused, (events-judge o (owing ls) cs h.ends.0).1 r, refl)

pub answers-fail : {A : Type 0} (e : RuleError) (o : Attempt A) (ls : Lists) (cs : List Cert) → Claims (Err e) [] ls o → Refuted ls cs → Answered (Err e) o cs
answers-fail NotApplicable o ls cs h r = (passed (drop (length ls) cs), (events-judge o (owing ls) cs h.ends.0).0 r, none-applies o.value (drop (length ls) cs) h.ends.1)
answers-fail (Wide a b) o ls cs h r = (stopped a b, (events-judge o (widened a b ls) cs h.ends).0 r, refl)
answers-fail OutOfMemory o ls cs h r = tt

pub answers-refuse : {A : Type 0} (e : RuleError) (o : Attempt A) (ls : Lists) (cs : List Cert) → Claims (Err e) [] ls o → RefutedNot ls cs → Answered (Err (refused_error e)) o cs
answers-refuse NotApplicable o ls cs h r = (refused, (events-judge o (owing ls) cs h.ends.0).1 r, refl)
answers-refuse (Wide a b) o ls cs h r = (refused, (events-judge o (widened a b ls) cs h.ends).1 r, refl)
answers-refuse OutOfMemory o ls cs h r = tt

pub answers-error : {A : Type 0} (e : RuleError) (b : Bool) (o : Attempt A) (ls : Lists) (cs : List Cert) → Claims (Err e) [] ls o → MatchBool b (Refuted ls cs) (RefutedNot ls cs) → Answered (Err (judged_error e b)) o cs
answers-error e true o ls cs h r = answers-fail e o ls cs h r
answers-error e false o ls cs h r = answers-refuse e o ls cs h r

-- ---- the lists alone

-- the results on the way, and the lists that are owed
abbrev pub Tells : Standing → List Event → Type 0
Tells (owing ls) es = (first_wide (steps_of es) ≡ None) × (owed_lists es ≡ ls)
Tells (widened a b ls) es = first_wide (steps_of es) ≡ Some (a, b)

tells-step : (x : Step) (o : Option (ℤ × ℤ)) (es : List Event) → first_wide (x ∷ []) ≡ o → Tells (walk (owing []) es) es → Tells (walk (unless_wide o []) es) (makes x ∷ es)
tells-step x None es e h = narrow (walk (owing []) es) h
  where
    narrow : (s : Standing) → Tells s es → Tells s (makes x ∷ es)
    narrow (owing ls) k = (first-narrow (x ∷ []) (steps_of es) e ∙ k.0, k.1)
    narrow (widened a b ls) k = first-narrow (x ∷ []) (steps_of es) e ∙ k
tells-step x (Some w) es e h = rw (walk-widened w.0 w.1 [] es) (first-wide (x ∷ []) (steps_of es) w e)

tells-claim : (ls : Lists) (s : Standing) (es more : List Event) → steps_of more ≡ steps_of es → owed_lists more ≡ ls ++ owed_lists es → Tells s es → Tells (prefixed ls s) more
tells-claim ls (owing ms) es more e o k = (ap first_wide e ∙ k.0, o ∙ ap (λ xs. ls ++ xs) k.1)
tells-claim ls (widened a b ms) es more e o k = ap first_wide e ∙ k

tells : (es : List Event) → Tells (walk (owing []) es) es
unfolding walk
tells [] = (first_wide-nil, refl)
tells (makes x ∷ es) = tells-step x (first_wide (x ∷ [])) es refl (tells es)
tells (claims c ∷ es) = rw (walk-from (owed c) es) (tells-claim (owed c) (walk (owing []) es) es (claims c ∷ es) refl refl (tells es))

tells-at : {A : Type 0} (o : Attempt A) (s : Standing) → walk (owing []) o.events ≡ s → Tells s o.events
tells-at o s e = rw (← e) (tells o.events)

pub told-ok : {A : Type 0} (o : Attempt A) (x : A) (ls : Lists) → Claims (Ok x) [] ls o → proofs_of o ≡ applies ls
told-ok o x ls h =
    let t = tells-at o (owing ls) h.ends.0 in
    rw (t.0, t.1, h.ends.1) refl

pub told-error : {A : Type 0} (e : RuleError) (o : Attempt A) (ls : Lists) → Claims (Err e) [] ls o → IsTold (Err e) (proofs_of o)
told-error NotApplicable o ls h =
    let t = tells-at o (owing ls) h.ends.0 in
    rw (t.0, h.ends.1) refl
told-error (Wide a b) o ls h = rw (tells-at o (widened a b ls) h.ends) refl
told-error OutOfMemory o ls h = tt
