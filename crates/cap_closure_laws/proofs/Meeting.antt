-- Attempts that come to a value, where each list that they owe has a property; and what the solver
-- decides of them.
use Rattle.std.proofs.Common.{◌≡◌, true, false, List, [], ◌∷◌, ◌++◌, map, Option, Some, None, refl, sym, ap, subst, ◌∙◌, append-nil}
use Rattle.std.specs.Prelude.{is_some, option_map}
use Rattle.std.specs.List.{AllByRecursion, AllZip}
use Rattle.cap_lin.specs.Steps.{Step, first_wide}
use Rattle.cap_lin.specs.Rows.{negations, negations_steps}
use Rattle.cap_lin.specs.Solves.{Infeasible}
use Rattle.cap_lin.specs.declared.row.Row.{Row}
use Rattle.cap_lin.proofs.Results.{first_wide-nil}
use Rattle.cap_farkas.specs.declared.cert.Cert.{Cert}
use Rattle.cap_farkas.specs.Refutes.{Refutes}
use Rattle.cap_farkas.proofs.Sound.{refuted-excludes, excluded-infeasible}
use Rattle.cap_fm_spec.specs.Events.{Limit, first_limit}
use Rattle.cap_fm_spec.specs.Solving.{RowsAscend, solved}
use Rattle.cap_fm_spec.proofs.Certified.{certified as cert-refutes}
use Rattle.cap_fm_spec.proofs.Solved.{solved-feasible}
use Rattle.cap_rules.specs.Attempts.{Claim, proved, owed, makes, claims, Attempt, unit, ◌>>=◌, computed, found, prove}
use Rattle.cap_rules.specs.Answers.{Answer, applies, inapplicable, too_wide, steps_of, owed_lists, proofs_of, Answers}
use Rattle.cap_rules.proofs.Answering.{answers-succeed, succeeds-answer}
use Rattle.cap_offer_spec.specs.Deciding.{PlainNotes, decision, decided, and_then, decided_all, certified_by, certified, succeeds}
use Rattle.cap_offer_spec.specs.Laws.{IsDecided}
use Rattle.cap_offer_spec.proofs.Trying.{Runs, proofs-come, certifies, runs-chain, runs-parts}
use Rattle.cap_closure_laws.specs.Largest.{IsWithin, DecidesWithin}
use Rattle.cap_closure_laws.proofs.Fewer.{all-by, all-join, all-front, all-back}

abbrev Lists : Type 0
Lists = List (List Row)

-- ---- attempts

pub record Meets (P : List Row → Type 0) {A : Type 0} (o : Attempt A) (x : A) : Type 0 where
  pub lists : List (List Row)
  pub runs : Runs o lists x
  pub each : AllByRecursion P lists

pub meets-chain : {A B : Type 0} (P : List Row → Type 0) (o : Attempt A) (f : A → Attempt B) (x : A) (y : B) → Meets P o x → Meets P (f x) y → Meets P (o >>= f) y
meets-chain P o f x y h k = record {
  lists = h.lists ++ k.lists;
  runs = runs-chain o f h.lists k.lists x y h.runs k.runs;
  each = all-join P h.lists k.lists h.each k.each;
}

pub record Halves (P : List Row → Type 0) {A B : Type 0} (o : Attempt A) (f : A → Attempt B) (y : B) : Type 0 where
  pub middle : A
  pub first : Meets P o middle
  pub second : Meets P (f middle) y

pub halves : {A B : Type 0} (P : List Row → Type 0) (o : Attempt A) (f : A → Attempt B) (y : B) → Meets P (o >>= f) y → Halves P o f y
halves P o f y h =
    let p = runs-parts o f h.lists y h.runs in
    let e = subst (AllByRecursion P) (sym p.joined) h.each in
    record {
      middle = p.middle;
      first = record { lists = p.before; runs = p.first; each = all-front P p.before p.after e };
      second = record { lists = p.after; runs = p.second; each = all-back P p.before p.after e };
    }

pub meets-by : {A : Type 0} (P Q : List Row → Type 0) → ((rows : List Row) → P rows → Q rows) → (o : Attempt A) (x : A) → Meets P o x → Meets Q o x
meets-by P Q f o x h = record { lists = h.lists; runs = h.runs; each = all-by P Q f h.lists h.each }

pub meets-unit : {A : Type 0} (P : List Row → Type 0) (x : A) → Meets P (unit x) x
meets-unit P x = record { lists = []; runs = record { value = refl; narrow = first_wide-nil; lists = refl }; each = tt }

pub meets-found : {A : Type 0} (P : List Row → Type 0) (o : Option A) (x : A) → o ≡ Some x → Meets P (found o) x
meets-found P o x e = record { lists = []; runs = record { value = e; narrow = first_wide-nil; lists = refl }; each = tt }

-- ---- results

pub made-steps : (steps : List Step) → steps_of (map makes steps) ≡ steps
made-steps [] = refl
made-steps (x ∷ xs) = ap (λ l. x ∷ l) (made-steps xs)

pub made-lists : (steps : List Step) → owed_lists (map makes steps) ≡ []
made-lists [] = refl
made-lists (x ∷ xs) = made-lists xs

pub meets-computed : {A : Type 0} (P : List Row → Type 0) (x : A) (steps : List Step) → first_wide steps ≡ None → Meets P (computed x steps) x
meets-computed P x steps n = record { lists = []; runs = record { value = refl; narrow = ap first_wide (made-steps steps) ∙ n; lists = made-lists steps }; each = tt }

same-some : {A : Type 0} (x y : A) → Some x ≡ Some y → x ≡ y
same-some x y e = cc

pub computed-value : {A : Type 0} (P : List Row → Type 0) (x y : A) (steps : List Step) → Meets P (computed x steps) y → x ≡ y
computed-value P x y steps h = same-some x y h.runs.value

pub computed-narrow : {A : Type 0} (P : List Row → Type 0) (x y : A) (steps : List Step) → Meets P (computed x steps) y → first_wide steps ≡ None
computed-narrow P x y steps h = sym (ap first_wide (made-steps steps)) ∙ h.runs.narrow

-- ---- a row that is proved

abbrev pub against : List Row → Row → Lists
against rows r = map (λ n. rows ++ (n ∷ [])) (negations r)

claim-steps : (steps : List Step) (c : Claim) → steps_of (map makes steps ++ (claims c ∷ [])) ≡ steps
claim-steps [] c = refl
claim-steps (x ∷ xs) c = ap (λ l. x ∷ l) (claim-steps xs c)

claim-lists : (steps : List Step) (c : Claim) → owed_lists (map makes steps ++ (claims c ∷ [])) ≡ owed c
claim-lists [] c = append-nil (owed c)
claim-lists (x ∷ xs) c = claim-lists xs c

pub meets-prove : (P : List Row → Type 0) (rows : List Row) (r : Row) → first_wide (negations_steps r) ≡ None → AllByRecursion P (against rows r) → Meets P (prove rows r) tt
meets-prove P rows r n h = record {
  lists = against rows r;
  runs = record { value = refl; narrow = ap first_wide (claim-steps (negations_steps r) (proved rows r)) ∙ n; lists = claim-lists (negations_steps r) (proved rows r) };
  each = h;
}

pub prove-narrow : (P : List Row → Type 0) (rows : List Row) (r : Row) (x : Unit {0}) → Meets P (prove rows r) x → first_wide (negations_steps r) ≡ None
prove-narrow P rows r x h = sym (ap first_wide (claim-steps (negations_steps r) (proved rows r))) ∙ h.runs.narrow

pub prove-each : (P : List Row → Type 0) (rows : List Row) (r : Row) (x : Unit {0}) → Meets P (prove rows r) x → AllByRecursion P (against rows r)
prove-each P rows r x h = subst (AllByRecursion P) (sym h.runs.lists ∙ claim-lists (negations_steps r) (proved rows r)) h.each

-- ---- certificates

abbrev pub HasCert : List Row → Type 0
HasCert rows = (c : Cert) × Refutes rows c

pub cert-infeasible : (rows : List Row) → HasCert rows → Infeasible rows
cert-infeasible rows h = excluded-infeasible rows h.0 (refuted-excludes rows h.0 h.1)

zip-certs : (ls : Lists) (cs : List Cert) → AllZip Refutes ls cs → AllByRecursion HasCert ls
zip-certs [] cs h = tt
zip-certs (l ∷ ls) [] h = absurd h
zip-certs (l ∷ ls) (c ∷ cs) h = ((c, h.0), zip-certs ls cs h.1)

certs-zip : (ls : Lists) → AllByRecursion HasCert ls → (cs : List Cert) × AllZip Refutes ls cs
certs-zip [] h = ([], tt)
certs-zip (l ∷ ls) h = let r = certs-zip ls h.1 in (h.0.0 ∷ r.0, (h.0.1, r.1))

-- answers that apply

pub answered-meets : {A : Type 0} (o : Attempt A) (cs : List Cert) (x : A) → Answers o cs (applies x) → Meets HasCert o x
answered-meets o cs x h =
    let s = answers-succeed o cs x h in
    record { lists = owed_lists o.events; runs = record { value = s.value; narrow = s.narrow; lists = refl }; each = zip-certs (owed_lists o.events) cs s.refuted }

pub meets-answers : {A : Type 0} (o : Attempt A) (x : A) → Meets HasCert o x → (cs : List Cert) × Answers o cs (applies x)
meets-answers o x h =
    let z = certs-zip h.lists h.each in
    (z.0, succeeds-answer o z.0 x (record { value = h.runs.value; narrow = h.runs.narrow; refuted = subst (λ ls. AllZip Refutes ls z.0) (sym h.runs.lists) z.1 }))

-- ---- decisions, whatever was noted before

decision-same : (o : Option Limit) (c : Option Cert) (n m : PlainNotes) → (decision o c n).value ≡ (decision o c m).value
decision-same None c n m = refl
decision-same (Some l) c n m = refl

decided-same : (rows : List Row) (n m : PlainNotes) → (decided rows n).value ≡ (decided rows m).value
unfolding decided
decided-same rows n m = decision-same (first_limit (solved rows).events) (solved rows).value n m

then-same : (c : Option Cert) (more : Lists) → ((n m : PlainNotes) → (decided_all more n).value ≡ (decided_all more m).value) → (n m : PlainNotes) → (and_then c (decided_all more) n).value ≡ (and_then c (decided_all more) m).value
then-same None more f n m = refl
then-same (Some c) more f n m = ap (option_map (λ ds. c ∷ ds)) (f n m)

all-same : (ls : Lists) (n m : PlainNotes) → (decided_all ls n).value ≡ (decided_all ls m).value
unfolding decided_all
all-same [] n m = refl
all-same (rows ∷ more) n m =
    ap (λ c. (and_then c (decided_all more) (decided rows n).notes).value) (decided-same rows n m)
    ∙ then-same (decided rows m).value more (all-same more) (decided rows n).notes (decided rows m).notes

by-same : (a : Answer Lists) (n m : PlainNotes) → (certified_by a n).value ≡ (certified_by a m).value
by-same (applies ls) n m = all-same ls n m
by-same inapplicable n m = refl
by-same (too_wide a b) n m = refl

pub succeeds-same : {A : Type 0} (o : Attempt A) (n m : PlainNotes) → (succeeds o n).value ≡ (succeeds o m).value
unfolding certified
succeeds-same o n m = ap is_some (by-same (proofs_of o) n m)

-- ---- what succeeds has certificates

decided-certs : (ls : Lists) (cs : List Cert) → AllByRecursion RowsAscend ls → AllZip IsDecided ls cs → AllByRecursion HasCert ls
decided-certs [] cs a h = tt
decided-certs (l ∷ ls) [] a h = absurd h
decided-certs (l ∷ ls) (c ∷ cs) a h = ((c, cert-refutes l c a.0 h.0.value h.0.limits), decided-certs ls cs a.1 h.1)

pub record Met (P : List Row → Type 0) {A : Type 0} (o : Attempt A) : Type 0 where
  pub result : A
  pub meets : Meets P o result

met-by : {A : Type 0} (o : Attempt A) (n : PlainNotes) (v : Option (List Cert)) → AllByRecursion RowsAscend (owed_lists o.events) → (certified_by (proofs_of o) n).value ≡ v → is_some v ≡ true → Met HasCert o
met-by o n None a e h = absurd (clash h)
  where
    clash : false ≡ true → ⊥
    clash e = cc
met-by o n (Some cs) a e h =
    let c = certifies (proofs_of o) n cs e in
    let p = proofs-come o c.lists c.answer in
    record { result = p.result; meets = record { lists = c.lists; runs = p.runs; each = decided-certs c.lists cs (subst (AllByRecursion RowsAscend) p.runs.lists a) c.decided } }

pub success-meets : {A : Type 0} (o : Attempt A) (n : PlainNotes) → AllByRecursion RowsAscend (owed_lists o.events) → (succeeds o n).value ≡ true → Met HasCert o
unfolding certified
success-meets o n a h = met-by o n (certified_by (proofs_of o) n).value a refl h

-- ---- and what no valuation solves succeeds

found-value : (rows : List Row) (v : Option Cert) (n : PlainNotes) → RowsAscend rows → (solved rows).value ≡ v → Infeasible rows → is_some (decision None v n).value ≡ true
found-value rows None n a e h = absurd (solved-feasible rows a e h)
found-value rows (Some c) n a e h = refl

found-one : (rows : List Row) (n : PlainNotes) → RowsAscend rows → IsWithin rows → Infeasible rows → is_some (decided rows n).value ≡ true
unfolding decided
found-one rows n a w h = ap (λ l. is_some (decision l (solved rows).value n).value) w ∙ found-value rows (solved rows).value n a refl h

then-found : (c : Option Cert) (more : Lists) (n : PlainNotes) → is_some c ≡ true → is_some (decided_all more n).value ≡ true → is_some (and_then c (decided_all more) n).value ≡ true
then-found None more n h k = absurd (clash h)
  where
    clash : false ≡ true → ⊥
    clash e = cc
then-found (Some c) more n h k = mapped (decided_all more n).value k
  where
    mapped : (o : Option (List Cert)) → is_some o ≡ true → is_some (option_map (λ ds. c ∷ ds) o) ≡ true
    mapped None h = h
    mapped (Some cs) h = refl

found-all : (ls : Lists) (n : PlainNotes) → AllByRecursion RowsAscend ls → AllByRecursion IsWithin ls → AllByRecursion Infeasible ls → is_some (decided_all ls n).value ≡ true
unfolding decided_all
found-all [] n a w h = refl
found-all (rows ∷ more) n a w h = then-found (decided rows n).value more (decided rows n).notes (found-one rows n a.0 w.0 h.0) (found-all more (decided rows n).notes a.1 w.1 h.1)

runs-proofs : {A : Type 0} (o : Attempt A) (ls : Lists) (x : A) → Runs o ls x → proofs_of o ≡ applies ls
runs-proofs o ls x r = rw (r.narrow, r.value, r.lists) refl

pub infeasible-succeeds : {A : Type 0} (o : Attempt A) (x : A) (n : PlainNotes) → AllByRecursion RowsAscend (owed_lists o.events) → DecidesWithin o → Meets Infeasible o x → (succeeds o n).value ≡ true
unfolding certified
infeasible-succeeds o x n a w h =
    ap (λ p. is_some (certified_by p n).value) (runs-proofs o h.lists x h.runs)
    ∙ found-all h.lists n (subst (AllByRecursion RowsAscend) h.runs.lists a) (subst (AllByRecursion IsWithin) h.runs.lists w) h.each
