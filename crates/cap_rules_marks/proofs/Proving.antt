-- The laws of what choices prove.
use Rattle.std.proofs.Common.{◌≡◌, ℕ, ℤ, ◌+◌, ◌≤◌, List, [], ◌∷◌, ◌++◌, map, length, Option, Some, None, is_some, refl, ap, ◌∙◌, sym, subst, arith}
use Rattle.std.specs.List.{AllZip}
use Rattle.cap_lin.specs.Steps.{first_wide}
use Rattle.cap_lin.specs.declared.row.Row.{Row}
use Rattle.cap_farkas.specs.declared.cert.Cert.{Cert}
use Rattle.cap_farkas.specs.Refutes.{Refutes}
use Rattle.cap_prog.specs.Program.{PlainProgram}
use Rattle.cap_goal_spec.specs.States.{longest_list, PlainGoal}
use Rattle.cap_goal_spec.specs.Choices.{PlainChoice, by_act, certs_of, given_marks}
use Rattle.cap_rules.specs.Attempts.{Attempt}
use Rattle.cap_rules.specs.Answers.{applies, inapplicable, too_wide, answer_or, answer_unless, lists_if, steps_of, owed_lists, proofs_of, marks_of, full_marks, Subgoals}
use Rattle.cap_rules.specs.Closing.{rivals}
use Rattle.cap_rules.specs.Rules.{rule}
use Rattle.cap_rules.specs.Laws.{Succeeds, SubgoalsSucceed, SuccessesAreSubgoals}
use Rattle.cap_rules_marks.specs.Proven.{marks_in, given, zeros, ProvesOwed, SubgoalsAreProven, ProvenHaveSubgoals}
use Rattle.cap_rules_marks.proofs.Passing.{AllGiven, Passes}
use Rattle.cap_rules_marks.proofs.Marking.{all_set, length-all_set}
use Rattle.cap_rules_marks.proofs.Acts.{tasks-to, tasks-from}

-- ---- certificates, none left out

zip-given : (ls : List (List Row)) (cs : List Cert) → AllZip Refutes ls cs → AllGiven ls (map Some cs)
zip-given [] [] h = tt
zip-given [] (c ∷ cs) h = absurd h
zip-given (l ∷ ls) [] h = absurd h
zip-given (l ∷ ls) (c ∷ cs) h = (h.0, zip-given ls cs h.1)

given-zip : (ls : List (List Row)) (cs : List Cert) → AllGiven ls (map Some cs) → AllZip Refutes ls cs
given-zip [] [] h = tt
given-zip [] (c ∷ cs) h = absurd h
given-zip (l ∷ ls) [] h = absurd h
given-zip (l ∷ ls) (c ∷ cs) h = (h.0, given-zip ls cs h.1)

succeeds-passes : {A : Type 0} (o : Attempt A) (cs : List Cert) (x : A) → Succeeds o cs x → Passes o (map Some cs) x
succeeds-passes o cs x h = record { value = h.value; narrow = h.narrow; refuted = zip-given (owed_lists o.events) cs h.refuted }

passes-succeed : {A : Type 0} (o : Attempt A) (cs : List Cert) (x : A) → Passes o (map Some cs) x → Succeeds o cs x
passes-succeed o cs x h = record { value = h.value; narrow = h.narrow; refuted = given-zip (owed_lists o.events) cs h.refuted }

-- ---- what is owed

passes-proofs : {A : Type 0} (o : Attempt A) (qs : List (Option Cert)) (x : A) → Passes o qs x → proofs_of o ≡ applies (owed_lists o.events)
passes-proofs o qs x h =
    let ls = owed_lists o.events in
    ap (λ w. answer_unless w (lists_if ls o.value)) h.narrow ∙ ap (λ v. answer_or (lists_if ls v)) h.value

applies-one : {A : Type 0} (x y : A) → applies x ≡ applies y → x ≡ y
applies-one x y e = cc

not-applies : {A : Type 0} (x : A) → inapplicable ≡ applies x → ⊥
not-applies x e = cc

wide-applies : {A : Type 0} (x : A) (a b : ℤ) → too_wide a b ≡ applies x → ⊥
wide-applies x a b e = cc

proofs-pass-by : {A : Type 0} (o : Attempt A) (ls : List (List Row)) (qs : List (Option Cert)) (w : Option (ℤ × ℤ)) (v : Option A) → first_wide (steps_of o.events) ≡ w → o.value ≡ v → answer_unless w (lists_if (owed_lists o.events) v) ≡ applies ls → AllGiven ls qs → (x : A) × Passes o qs x
proofs-pass-by o ls qs (Some w) v a b h k = absurd (wide-applies ls w.0 w.1 h)
proofs-pass-by o ls qs None None a b h k = absurd (not-applies ls h)
proofs-pass-by o ls qs None (Some x) a b h k = (x, record { value = b; narrow = a; refuted = subst (λ l. AllGiven l qs) (sym (applies-one (owed_lists o.events) ls h)) k })

proofs-pass : {A : Type 0} (o : Attempt A) (ls : List (List Row)) (qs : List (Option Cert)) → proofs_of o ≡ applies ls → AllGiven ls qs → (x : A) × Passes o qs x
proofs-pass o ls qs h k = proofs-pass-by o ls qs (first_wide (steps_of o.events)) o.value refl refl h k

-- ---- choices without marks

plain-proven : SubgoalsSucceed → (p : PlainProgram) (g : PlainGoal) (c : PlainChoice) (gs : List PlainGoal) → length g.state.sorts ≤ longest_list → Subgoals p g c gs → given c ≡ map Some (certs_of c) → marks_in c ≡ [] → marks_of c ≡ [] → full_marks g.state c ≡ [] → ProvesOwed p g c
plain-proven h p g c gs l s a b d e =
    let o = rule p g c (marks_of c) in
    let k = succeeds-passes o (certs_of c) gs (h p g c gs s) in
    record {
      lists = owed_lists o.events;
      owed = ap (λ m. proofs_of (rule p g c m)) (e ∙ sym d) ∙ passes-proofs o (map Some (certs_of c)) gs k;
      marks = ap length b ∙ sym (ap length e);
      refuted = subst (AllGiven (owed_lists o.events)) (sym a) k.refuted;
      room = subst (λ m. length g.state.sorts + zeros m ≤ longest_list) (sym b) (omega (arith, l));
    }

plain-subgoals : SuccessesAreSubgoals → (p : PlainProgram) (g : PlainGoal) (c : PlainChoice) → ProvesOwed p g c → given c ≡ map Some (certs_of c) → marks_of c ≡ [] → full_marks g.state c ≡ [] → (gs : List PlainGoal) × Subgoals p g c gs
plain-subgoals h p g c k a d e =
    let o = rule p g c (marks_of c) in
    let w = proofs-pass o k.lists (map Some (certs_of c)) (ap (λ m. proofs_of (rule p g c m)) (d ∙ sym e) ∙ k.owed) (subst (AllGiven k.lists) a k.refuted) in
    (w.0, h p g c w.0 (passes-succeed o (certs_of c) w.0 w.1))

-- ---- choices with marks

some-append : (cs ds : List Cert) → map Some (cs ++ ds) ≡ map Some cs ++ map Some ds
some-append [] ds = refl
some-append (c ∷ cs) ds = ap (λ r. Some c ∷ r) (some-append cs ds)

act-proven : SubgoalsSucceed → (p : PlainProgram) (g : PlainGoal) (j : ℕ) (cs : List Cert) (ms : List (Option Cert)) (gs : List PlainGoal) → length g.state.sorts ≤ longest_list → Subgoals p g (by_act j cs ms) gs → ProvesOwed p g (by_act j cs ms)
act-proven h p g j cs ms gs l s =
    let c = by_act j cs ms in
    let o = rule p g c (map is_some ms) in
    let k = succeeds-passes o (cs ++ given_marks ms) gs (h p g c gs s) in
    let w = (tasks-from p g.state j cs ms g.tasks l).carried (map Some cs) gs (subst (λ r. Passes o r gs) (some-append cs (given_marks ms)) k) in
    let f = rule p g c (all_set (rivals g.state)) in
    record {
      lists = owed_lists f.events;
      owed = passes-proofs f (map Some cs ++ ms) w.0 w.1;
      marks = w.2.many ∙ sym (length-all_set (rivals g.state));
      refuted = w.1.refuted;
      room = w.2.room;
    }

act-subgoals : SuccessesAreSubgoals → (p : PlainProgram) (g : PlainGoal) (j : ℕ) (cs : List Cert) (ms : List (Option Cert)) → ProvesOwed p g (by_act j cs ms) → (gs : List PlainGoal) × Subgoals p g (by_act j cs ms) gs
act-subgoals h p g j cs ms k =
    let c = by_act j cs ms in
    let f = rule p g c (all_set (rivals g.state)) in
    let a = proofs-pass f k.lists (map Some cs ++ ms) k.owed k.refuted in
    let w = (tasks-to p g.state j cs ms g.tasks (k.marks ∙ length-all_set (rivals g.state)) k.room).carried (map Some cs) a.0 a.1 in
    let o = rule p g c (map is_some ms) in
    let z = subst (λ r. Passes o r w.0) (sym (some-append cs (given_marks ms))) w.1 in
    (w.0, h p g c w.0 (passes-succeed o (cs ++ given_marks ms) w.0 z))

-- ---- all choices

pub subgoals-proven : SubgoalsSucceed → SubgoalsAreProven
subgoals-proven h p g (by_act j cs ms) gs l s = act-proven h p g j cs ms gs l s
subgoals-proven h p g c gs l s = plain-proven h p g c gs l s refl refl refl refl

pub proven-subgoals : SuccessesAreSubgoals → ProvenHaveSubgoals
proven-subgoals h p g (by_act j cs ms) k = act-subgoals h p g j cs ms k
proven-subgoals h p g c k = plain-subgoals h p g c k refl refl refl
