-- A heap statement with some marks left out: what is left to prove, and that it goes through.
use Rattle.std.proofs.Common.{◌≡◌, ℕ, suc, ◌+◌, ◌<◌, ◌≤◌, nat_lt, Bool, true, false, List, [], ◌∷◌, ◌++◌, map, flat_map, filter, length, drop, take, Option, Some, None, is_some, is_none, refl, ap, ◌∙◌, sym, subst, append-nil, arith}
use Rattle.std.specs.Prelude.{slice_get, slice_set}
use Rattle.std.specs.List.{AllZip}
use Rattle.std.proofs.lemmas.List.{length-append}
use Rattle.std.proofs.lemmas.Bool.Decides.{nat_tests}
use Rattle.cap_lin.specs.Linear.{Linear, minus}
use Rattle.cap_lin.specs.Steps.{Step, first_wide}
use Rattle.cap_lin.specs.Rows.{row, row_of, row_of_steps, negations_steps}
use Rattle.cap_lin.specs.declared.row.Row.{Row}
use Rattle.cap_lin.specs.declared.row.Kind.TheVariants.{Eq}
use Rattle.cap_lin.specs.declared.row.Sort.{Sort}
use Rattle.cap_lin.specs.declared.row.Sort.TheVariants.{Int}
use Rattle.cap_lin.specs.declared.row.Op.TheVariants.{Eq as Equal, Ne as Unequal}
use Rattle.cap_lin.proofs.Results.{narrow-left, first_wide-nil}
use Rattle.cap_farkas.specs.declared.cert.Cert.{Cert}
use Rattle.cap_rules.specs.cap_prog.Program.{PlainAct, read, write, cas, faa, dispose, Label}
use Rattle.cap_rules.specs.cap_goal_spec.States.{PlainFact, PlainState, longest_list, PlainTask, PlainGoal, goals_of}
use Rattle.cap_rules.specs.cap_goal_spec.Choices.{given_marks}
use Rattle.cap_rules.specs.Attempts.{Claim, proved, owed, Event, makes, claims, Attempt, unit, ◌>>=◌, found, comparison_row}
use Rattle.cap_rules.specs.Answers.{claims_of, steps_of, owed_lists}
use Rattle.cap_rules.specs.Making.{value_here, prove_equal, prove_differ, fresh, with_sort}
use Rattle.cap_rules.specs.Closing.{address_of, Rival, rivals, loosened, with_mark, with_marks, acted, closing}
use Rattle.cap_rules.specs.Rules.{at_act}
use Rattle.cap_offer_spec.specs.Laws.{IsDecided}
use Rattle.cap_offer_spec.proofs.Quiet.{of-steps, Quiet, chain, of-none, value-quiet, comparison-quiet}
use Rattle.cap_offer_spec.proofs.Trying.{Runs, Comes, Parts, runs-chain, runs-parts}

-- the state, with other sorts and facts
abbrev pub among : PlainState → List Sort → List PlainFact → PlainState
among s os fs = record s { sorts = os; facts = fs }

-- ---- events
claims-after : (xs : List Step) (es : List Event) → claims_of (map makes xs ++ es) ≡ claims_of es
claims-after [] es = refl
claims-after (x ∷ xs) es = claims-after xs es

steps-made : (xs : List Step) → steps_of (map makes xs) ≡ xs
steps-made [] = refl
steps-made (x ∷ xs) = ap (λ r. x ∷ r) (steps-made xs)

steps-after : (xs : List Step) (es : List Event) → steps_of (map makes xs ++ es) ≡ xs ++ steps_of es
steps-after [] es = refl
steps-after (x ∷ xs) es = ap (λ r. x ∷ r) (steps-after xs es)

-- to prove a row, after its own results
row-claims : (xs ys : List Step) (c : Claim) → claims_of (map makes xs ++ (map makes ys ++ claims c ∷ [])) ≡ c ∷ []
row-claims xs ys c = claims-after xs (map makes ys ++ claims c ∷ []) ∙ claims-after ys (claims c ∷ [])

equal-lists : (s : PlainState) (a b : Linear) → owed_lists (prove_equal s a b).events ≡ owed (proved s.rows (row_of a Equal b Int)) ++ []
equal-lists s a b = ap (λ cs. flat_map owed cs) (row-claims (row_of_steps a Equal b Int) (negations_steps (row_of a Equal b Int)) (proved s.rows (row_of a Equal b Int)))

differ-lists : (s : PlainState) (a b : Linear) → owed_lists (prove_differ s a b).events ≡ owed (proved s.rows (row_of a Unequal b Int)) ++ []
differ-lists s a b = ap (λ cs. flat_map owed cs) (row-claims (row_of_steps a Unequal b Int) (negations_steps (row_of a Unequal b Int)) (proved s.rows (row_of a Unequal b Int)))

-- the results of a row are the first on the way to its proof
differ-narrow : (s : PlainState) (a b : Linear) → first_wide (steps_of (prove_differ s a b).events) ≡ None → first_wide (steps_of (comparison_row a Unequal b Int).events) ≡ None
differ-narrow s a b h =
    let xs = row_of_steps a Unequal b Int in
    ap first_wide (steps-made xs) ∙ narrow-left xs _ (sym (ap first_wide (steps-after xs (map makes (negations_steps (row_of a Unequal b Int)) ++ claims (proved s.rows (row_of a Unequal b Int)) ∷ []))) ∙ h)

-- ---- what an attempt without anything to prove owes
pub quiet-lists : {A : Type 0} (o : Attempt A) → Quiet o → owed_lists o.events ≡ []
quiet-lists o q = ap (λ cs. flat_map owed cs) q.none

pub unit-runs : {A : Type 0} (x : A) → Runs (unit x) [] x
unit-runs x = record { value = refl; narrow = first_wide-nil; lists = refl }

pub found-runs : {A : Type 0} (o : Option A) (x : A) → o ≡ Some x → Runs (found o) [] x
found-runs o x e = record { value = e; narrow = first_wide-nil; lists = refl }

-- ---- marks

abbrev pub MarkFits : List Row → Option Cert → Type 0
MarkFits rows None = Unit {0}
MarkFits rows (Some c) = IsDecided rows c

record MarksRun (s : PlainState) (os : List Sort) (fs : List PlainFact) (xs : List Rival) (ms : List (Option Cert)) : Type 0 where
  sorts : List Sort
  facts : List PlainFact
  lists : List (List Row)
  runs : Runs (with_marks (among s os fs) xs (map is_some ms)) lists (among s sorts facts)
  fit : AllZip IsDecided lists (given_marks ms)

-- one mark, with its list
record MarkRuns (s : PlainState) (x : Rival) (ls : List (List Row)) : Type 0 where
  rows : List Row
  narrow : first_wide (steps_of (prove_differ s x.opened.region x.fact.region).events) ≡ None
  is : rows ∷ [] ≡ ls
  runs : Runs (prove_differ s x.opened.region x.fact.region) (rows ∷ []) tt

mark-runs : (s : PlainState) (os : List Sort) (fs : List PlainFact) (x : Rival) (ls : List (List Row)) (z : PlainState) → Runs (with_mark (among s os fs) x true) ls z → MarkRuns s x ls
mark-runs s os fs x ls z r =
    let t : PlainState = among s os fs in
    let q = runs-parts (prove_differ t x.opened.region x.fact.region) (λ _. unit t) ls z r in
    let d = differ-lists s x.opened.region x.fact.region in
    let b : q.after ≡ [] = sym q.second.lists in
    let e = sym d ∙ q.first.lists in
    record {
      rows = s.rows ++ row Eq Int (minus x.opened.region x.fact.region) ∷ [];
      narrow = q.first.narrow;
      is = e ∙ sym (append-nil q.before) ∙ ap (λ l. q.before ++ l) (sym b) ∙ q.joined;
      runs = record { value = refl; narrow = q.first.narrow; lists = d };
    }

abbrev pub zeros : List (Option Cert) → ℕ
zeros ms = length (filter is_none ms)

-- a fact more is loose, where there is room for its variable
loose-runs : (s : PlainState) (os : List Sort) (fs : List PlainFact) (x : Rival) → first_wide (steps_of (comparison_row x.opened.region Unequal x.fact.region Int).events) ≡ None → length os < longest_list →
    Runs (with_mark (among s os fs) x false) [] (among s (os ++ Int ∷ []) (slice_set fs x.number (loosened x.fact (fresh (among s os fs)))))
loose-runs s os fs x n r =
    let t : PlainState = among s os fs in
    let u : PlainState = among s (os ++ Int ∷ []) fs in
    let k : nat_lt (length os) longest_list ≡ true = grind (arith, nat_tests, r) in
    let a : Runs (with_sort t Int) [] u = record { value = (rw k refl); narrow = (rw k first_wide-nil); lists = (rw k refl) } in
    let c = row_of x.opened.region Unequal x.fact.region Int in
    let b : Runs (comparison_row x.opened.region Unequal x.fact.region Int) [] c = record { value = refl; narrow = n; lists = ap (λ cs. flat_map owed cs) (made-claims (row_of_steps x.opened.region Unequal x.fact.region Int)) } in
    let z : PlainState = among s (os ++ Int ∷ []) (slice_set fs x.number (loosened x.fact (fresh t))) in
    runs-chain (comparison_row x.opened.region Unequal x.fact.region Int) (λ _. with_sort t Int >>= λ v. unit (record v { facts = slice_set fs x.number (loosened x.fact (fresh t)) })) [] [] c z b
    (runs-chain (with_sort t Int) (λ v. unit (record v { facts = slice_set fs x.number (loosened x.fact (fresh t)) })) [] [] u z a (unit-runs z))
  where
    made-claims : (steps : List Step) → claims_of (map makes steps) ≡ []
    made-claims [] = refl
    made-claims (y ∷ ys) = made-claims ys

zeros-more : (ms : List (Option Cert)) → zeros (None ∷ ms) ≡ suc (zeros ms)
zeros-more ms = refl

same-state : (s t : PlainState) → Some s ≡ Some t → s ≡ t
same-state s t e = cc

-- the full marks leave the state as it is
mark-step : (s : PlainState) (xs : List Rival) (x : Rival) (os ps : List Sort) (fs gs : List PlainFact) (before after : List (List Row)) (z : PlainState) (ms : List (Option Cert)) →
    ((os : List Sort) (fs : List PlainFact) (ms : List (Option Cert)) → AllZip MarkFits after ms → length os + zeros ms ≤ longest_list → MarksRun s os fs xs ms) →
    (m : MarkRuns s x before) → AllZip MarkFits (m.rows ∷ after) ms → length os + zeros ms ≤ longest_list → MarksRun s os fs (x ∷ xs) ms
mark-step s xs x os ps fs gs before after z [] ih m f k = absurd f
mark-step s xs x os ps fs gs before after z (None ∷ ms) ih m f k =
    let w = zeros-more ms in
    let os' : List Sort = os ++ Int ∷ [] in
    let fs' : List PlainFact = slice_set fs x.number (loosened x.fact (fresh (among s os fs))) in
    let l : length os' ≡ length os + 1 = length-append os (Int ∷ []) in
    let i = ih os' fs' ms f.1 (omega (arith, l, w, k)) in
    let a = loose-runs s os fs x (differ-narrow s x.opened.region x.fact.region m.narrow) (omega (arith, w, k)) in
    record { sorts = i.sorts; facts = i.facts; lists = i.lists; runs = runs-chain (with_mark (among s os fs) x false) (λ v. with_marks v xs (map is_some ms)) [] i.lists (among s os' fs') (among s i.sorts i.facts) a i.runs; fit = i.fit }
mark-step s xs x os ps fs gs before after z (Some c ∷ ms) ih m f k =
    let i = ih os fs ms f.1 k in
    let t : PlainState = among s os fs in
    let a : Runs (with_mark t x true) (m.rows ∷ []) t = runs-chain (prove_differ t x.opened.region x.fact.region) (λ _. unit t) (m.rows ∷ []) [] tt t m.runs (unit-runs t) in
    record { sorts = i.sorts; facts = i.facts; lists = m.rows ∷ i.lists; runs = runs-chain (with_mark t x true) (λ v. with_marks v xs (map is_some ms)) (m.rows ∷ []) i.lists t (among s i.sorts i.facts) a i.runs; fit = (f.0, i.fit) }

marks-run : (s : PlainState) (xs : List Rival) (os ps : List Sort) (fs gs : List PlainFact) (ls : List (List Row)) (z : PlainState) (ms : List (Option Cert)) → Runs (with_marks (among s ps gs) xs (map (λ x. true) xs)) ls z → AllZip MarkFits ls ms → length os + zeros ms ≤ longest_list → MarksRun s os fs xs ms
marks-run s [] os ps fs gs ls z ms r f k =
    let P : List (List Row) → Type 0 = λ l. AllZip MarkFits l ms in
    by_marks ms (subst P (sym r.lists) f)
  where
    by_marks : (ms : List (Option Cert)) → AllZip MarkFits [] ms → MarksRun s os fs [] ms
    by_marks [] h = record { sorts = os; facts = fs; lists = []; runs = unit-runs (among s os fs); fit = tt }
    by_marks (m ∷ ms) h = absurd h
marks-run s (x ∷ xs) os ps fs gs ls z ms r f k =
    let t : PlainState = among s ps gs in
    let q = runs-parts (with_mark t x true) (λ v. with_marks v xs (map (λ y. true) xs)) ls z r in
    let m = mark-runs s ps gs x q.before q.middle q.first in
    let e : q.middle ≡ t = sym (same-state t q.middle q.first.value) in
    let second = subst (λ v. Runs (with_marks v xs (map (λ y. true) xs)) q.after z) e q.second in
    let P : List (List Row) → Type 0 = λ l. AllZip MarkFits l ms in
    mark-step s xs x os ps fs gs q.before q.after z ms (λ o h n g j. marks-run s xs o ps h gs q.after z n second g j) m (subst P (sym q.joined ∙ ap (λ l. l ++ q.after) (sym m.is)) f) k

-- ---- the effect doesn't see sorts and facts

abbrev room : PlainState → Bool
room s = nat_lt (length s.rows) longest_list

acted-some : (s : PlainState) (os ps : List Sort) (fs gs : List PlainFact) (j : ℕ) (c : Linear × Linear) (a : PlainAct) → is_some (acted (among s os fs) j c a).value ≡ is_some (acted (among s ps gs) j c a).value
acted-some s os ps fs gs j c (cas x a old new) = by_room (room s) refl
  where
    by_room : (b : Bool) → room s ≡ b → is_some (acted (among s os fs) j c (cas x a old new)).value ≡ is_some (acted (among s ps gs) j c (cas x a old new)).value
    by_room true e = rw e refl
    by_room false e = rw e refl
acted-some s os ps fs gs j c (read x a) = refl
acted-some s os ps fs gs j c (write a t) = refl
acted-some s os ps fs gs j c a = refl

acted-events : (s : PlainState) (os ps : List Sort) (fs gs : List PlainFact) (j : ℕ) (c : Linear × Linear) (a : PlainAct) → (acted (among s os fs) j c a).events ≡ (acted (among s ps gs) j c a).events
acted-events s os ps fs gs j c (cas x a old new) = by_room (room s) refl
  where
    by_room : (b : Bool) → room s ≡ b → (acted (among s os fs) j c (cas x a old new)).events ≡ (acted (among s ps gs) j c (cas x a old new)).events
    by_room true e = rw e refl
    by_room false e = rw e refl
acted-events s os ps fs gs j c (read x a) = refl
acted-events s os ps fs gs j c (write a t) = refl
acted-events s os ps fs gs j c a = refl

value-of : {A : Type 0} (o : Option A) → is_some o ≡ true → (x : A) × (o ≡ Some x)
value-of None e = absurd cc
value-of (Some x) e = (x, refl)

some-is : {A : Type 0} (o : Option A) (x : A) → o ≡ Some x → is_some o ≡ true
some-is o x e = ap is_some e

acted-comes : (s : PlainState) (os ps : List Sort) (fs gs : List PlainFact) (j : ℕ) (c : Linear × Linear) (a : PlainAct) (ls : List (List Row)) (xs : List PlainState) → Runs (acted (among s ps gs) j c a) ls xs → Comes (acted (among s os fs) j c a) ls
acted-comes s os ps fs gs j c a ls xs r =
    let v = value-of (acted (among s os fs) j c a).value (acted-some s os ps fs gs j c a ∙ some-is (acted (among s ps gs) j c a).value xs r.value) in
    let e = acted-events s os ps fs gs j c a in
    record { result = v.0; runs = record { value = v.1; narrow = ap (λ es. first_wide (steps_of es)) e ∙ r.narrow; lists = ap owed_lists e ∙ r.lists } }

acted-owes : (s : PlainState) (j : ℕ) (c : Linear × Linear) (a : PlainAct) → Quiet (acted s j c a)
acted-owes s j c (read x a) = of-none _
acted-owes s j c (write a t) = search (chain, value-quiet, of-none)
acted-owes s j c (cas x a old new) = search (chain, value-quiet, comparison-quiet, of-none)
acted-owes s j c (faa x a t) = search (chain, value-quiet, of-steps, of-none)
acted-owes s j c (dispose a) = of-none _
acted-owes s j c a = of-none None

-- ---- the rule

abbrev then_goals : PlainState → Label → List PlainTask → List PlainState → Attempt (List PlainGoal)
then_goals s l ts states = unit (flat_map (λ t. goals_of t (closing s.opened l.number ts)) states)

abbrev then_acted : PlainState → ℕ → Linear × Linear → Label → PlainAct → List PlainTask → PlainState → Attempt (List PlainGoal)
then_acted s j c l a ts t = acted t j c a >>= then_goals s l ts

abbrev then_marks : PlainState → ℕ → List Bool → Linear × Linear → Label → PlainAct → List PlainTask → Unit {0} → Attempt (List PlainGoal)
then_marks s j marks c l a ts u = with_marks s (rivals s) marks >>= then_acted s j c l a ts

abbrev then_equal : PlainState → ℕ → List Bool → Linear × Linear → Label → PlainAct → List PlainTask → Linear → Attempt (List PlainGoal)
then_equal s j marks c l a ts t = prove_equal s c.0 t >>= then_marks s j marks c l a ts

abbrev then_value : PlainState → ℕ → List Bool → Linear → Label → PlainAct → List PlainTask → Linear × Linear → Attempt (List PlainGoal)
then_value s j marks x l a ts c = value_here s x >>= then_equal s j marks c l a ts

abbrev then_cell : PlainState → ℕ → List Bool → Label → PlainAct → List PlainTask → Linear → Attempt (List PlainGoal)
then_cell s j marks l a ts x = found (slice_get s.cells j) >>= then_value s j marks x l a ts

pub zip-join : (xs ys : List (List Row)) (cs ds : List Cert) → AllZip IsDecided xs cs → AllZip IsDecided ys ds → AllZip IsDecided (xs ++ ys) (cs ++ ds)
zip-join [] ys [] ds h k = k
zip-join [] ys (c ∷ cs) ds h k = absurd h
zip-join (x ∷ xs) ys [] ds h k = absurd h
zip-join (x ∷ xs) ys (c ∷ cs) ds h k = (h.0, zip-join xs ys cs ds h.1 k)

pub relabelled : {A : Type 0} {o : Attempt A} {ls ms : List (List Row)} {x : A} → Runs o ls x → ls ≡ ms → Runs o ms x
relabelled r e = record { value = r.value; narrow = r.narrow; lists = r.lists ∙ e }

full-state : (s : PlainState) (xs : List Rival) (ps : List Sort) (gs : List PlainFact) (ls : List (List Row)) (z : PlainState) → Runs (with_marks (among s ps gs) xs (map (λ x. true) xs)) ls z → z ≡ among s ps gs
full-state s [] ps gs ls z r = sym (same-state (among s ps gs) z r.value)
full-state s (x ∷ xs) ps gs ls z r =
    let t : PlainState = among s ps gs in
    let q = runs-parts (with_mark t x true) (λ v. with_marks v xs (map (λ y. true) xs)) ls z r in
    let e : q.middle ≡ t = sym (same-state t q.middle q.first.value) in
    full-state s xs ps gs q.after z (subst (λ v. Runs (with_marks v xs (map (λ y. true) xs)) q.after z) e q.second)

none-before : {A B : Type 0} {o : Attempt A} {f : A → Attempt B} {ls : List (List Row)} {y : B} (q : Parts o f ls y) → owed_lists o.events ≡ [] → q.after ≡ ls
none-before q e = ap (λ l. l ++ q.after) (sym e ∙ q.first.lists) ∙ q.joined

-- the effect
record EffectRuns (s : PlainState) (j : ℕ) (c : Linear × Linear) (l : Label) (a : PlainAct) (ts : List PlainTask) (ls : List (List Row)) : Type 0 where
  none : ls ≡ []
  comes : (os : List Sort) (fs : List PlainFact) → Comes (then_acted s j c l a ts (among s os fs)) []

effect-comes : (s : PlainState) (j : ℕ) (c : Linear × Linear) (l : Label) (a : PlainAct) (ts : List PlainTask) (os : List Sort) (fs : List PlainFact) (states : List PlainState) → Runs (acted s j c a) [] states → Comes (then_acted s j c l a ts (among s os fs)) []
effect-comes s j c l a ts os fs states r =
    let w = acted-comes s os s.sorts fs s.facts j c a [] states r in
    record { runs = runs-chain (acted (among s os fs) j c a) (then_goals s l ts) [] [] w.result (flat_map (λ t. goals_of t (closing s.opened l.number ts)) w.result) w.runs (unit-runs (flat_map (λ t. goals_of t (closing s.opened l.number ts)) w.result)); result = flat_map (λ t. goals_of t (closing s.opened l.number ts)) w.result }

effect-runs : (s : PlainState) (j : ℕ) (c : Linear × Linear) (l : Label) (a : PlainAct) (ts : List PlainTask) (ls : List (List Row)) (y : List PlainGoal) → Runs (then_acted s j c l a ts s) ls y → EffectRuns s j c l a ts ls
effect-runs s j c l a ts ls y r =
    let q = runs-parts (acted s j c a) (then_goals s l ts) ls y r in
    let o = quiet-lists (acted s j c a) (acted-owes s j c a) in
    record { none = sym (none-before q o) ∙ sym q.second.lists; comes = λ os fs. effect-comes s j c l a ts os fs q.middle (relabelled q.first (sym q.first.lists ∙ o)) }

-- the marks, and then the effect
record MarkedRuns (s : PlainState) (j : ℕ) (c : Linear × Linear) (l : Label) (a : PlainAct) (ts : List PlainTask) (ms : List (Option Cert)) : Type 0 where
  lists : List (List Row)
  goals : List PlainGoal
  runs : Runs (then_marks s j (map is_some ms) c l a ts tt) lists goals
  fit : AllZip IsDecided lists (given_marks ms)

marked-by : (s : PlainState) (j : ℕ) (c : Linear × Linear) (l : Label) (a : PlainAct) (ts : List PlainTask) (ms : List (Option Cert)) (n : MarksRun s s.sorts s.facts (rivals s) ms) → Comes (then_acted s j c l a ts (among s n.sorts n.facts)) [] → MarkedRuns s j c l a ts ms
marked-by s j c l a ts ms n w = record {
  lists = n.lists;
  goals = w.result;
  runs = relabelled (runs-chain (with_marks s (rivals s) (map is_some ms)) (then_acted s j c l a ts) n.lists [] (among s n.sorts n.facts) w.result n.runs w.runs) (append-nil n.lists);
  fit = n.fit;
}

marked-runs : (s : PlainState) (j : ℕ) (c : Linear × Linear) (l : Label) (a : PlainAct) (ts : List PlainTask) (ls : List (List Row)) (y : List PlainGoal) (ms : List (Option Cert)) →
    Runs (then_marks s j (map (λ x. true) (rivals s)) c l a ts tt) ls y → AllZip MarkFits ls ms → length s.sorts + zeros ms ≤ longest_list → MarkedRuns s j c l a ts ms
marked-runs s j c l a ts ls y ms r g k =
    let full = map (λ (x : Rival). true) (rivals s) in
    let q = runs-parts (with_marks s (rivals s) full) (then_acted s j c l a ts) ls y r in
    let e = full-state s (rivals s) s.sorts s.facts q.before q.middle q.first in
    let x = effect-runs s j c l a ts q.after y (subst (λ v. Runs (then_acted s j c l a ts v) q.after y) e q.second) in
    let b : ls ≡ q.before = sym q.joined ∙ ap (λ z. q.before ++ z) x.none ∙ append-nil q.before in
    let P : List (List Row) → Type 0 = λ z. AllZip MarkFits z ms in
    let n = marks-run s (rivals s) s.sorts s.sorts s.facts s.facts q.before q.middle ms q.first (subst P b g) k in
    marked-by s j c l a ts ms n (x.comes n.sorts n.facts)

-- the address, and then the marks
record EqualRuns (s : PlainState) (j : ℕ) (c : Linear × Linear) (l : Label) (a : PlainAct) (ts : List PlainTask) (t : Linear) (cs : List Cert) (ms : List (Option Cert)) : Type 0 where
  lists : List (List Row)
  goals : List PlainGoal
  runs : Runs (then_equal s j (map is_some ms) c l a ts t) lists goals
  fit : AllZip IsDecided lists (cs ++ given_marks ms)

equal-by : (s : PlainState) (j : ℕ) (c : Linear × Linear) (l : Label) (a : PlainAct) (ts : List PlainTask) (t : Linear) (cs : List Cert) (ms : List (Option Cert)) (before : List (List Row)) →
    Runs (prove_equal s c.0 t) before tt → AllZip IsDecided before cs → MarkedRuns s j c l a ts ms → EqualRuns s j c l a ts t cs ms
equal-by s j c l a ts t cs ms before r f m = record {
  lists = before ++ m.lists;
  goals = m.goals;
  runs = runs-chain (prove_equal s c.0 t) (then_marks s j (map is_some ms) c l a ts) before m.lists tt m.goals r m.runs;
  fit = zip-join before m.lists cs (given_marks ms) f m.fit;
}

equal-runs : (s : PlainState) (j : ℕ) (c : Linear × Linear) (l : Label) (a : PlainAct) (ts : List PlainTask) (t : Linear) (ls : List (List Row)) (y : List PlainGoal) (cs : List Cert) (ms : List (Option Cert)) →
    Runs (then_equal s j (map (λ x. true) (rivals s)) c l a ts t) ls y → AllZip IsDecided (take 2 ls) cs → AllZip MarkFits (drop 2 ls) ms → length s.sorts + zeros ms ≤ longest_list → EqualRuns s j c l a ts t cs ms
equal-runs s j c l a ts t ls y cs ms r f g k =
    let q = runs-parts (prove_equal s c.0 t) (then_marks s j (map (λ x. true) (rivals s)) c l a ts) ls y r in
    let equal = owed (proved s.rows (row_of c.0 Equal t Int)) in
    let b : q.before ≡ equal = sym q.first.lists ∙ equal-lists s c.0 t ∙ append-nil equal in
    let e : equal ++ q.after ≡ ls = ap (λ z. z ++ q.after) (sym b) ∙ q.joined in
    let A : List (List Row) → Type 0 = λ z. AllZip IsDecided z cs in
    let P : List (List Row) → Type 0 = λ z. AllZip MarkFits z ms in
    equal-by s j c l a ts t cs ms equal (relabelled q.first b) (subst A (ap (take 2) (sym e)) f) (marked-runs s j c l a ts q.after y ms q.second (subst P (ap (drop 2) (sym e)) g) k)

-- with the certificates of the address, and marks
pub record ActRuns (s : PlainState) (j : ℕ) (l : Label) (a : PlainAct) (ts : List PlainTask) (cs : List Cert) (ms : List (Option Cert)) : Type 0 where
  pub lists : List (List Row)
  pub goals : List PlainGoal
  pub runs : Runs (at_act s j (map is_some ms) l a ts) lists goals
  pub fit : AllZip IsDecided lists (cs ++ given_marks ms)

value-runs : (s : PlainState) (j : ℕ) (x : Linear) (c : Linear × Linear) (l : Label) (a : PlainAct) (ts : List PlainTask) (t : Linear) (cs : List Cert) (ms : List (Option Cert)) → address_of a ≡ Some x → slice_get s.cells j ≡ Some c → Runs (value_here s x) [] t → EqualRuns s j c l a ts t cs ms → ActRuns s j l a ts cs ms
value-runs s j x c l a ts t cs ms d e r m = record {
  lists = m.lists;
  goals = m.goals;
  runs = runs-chain (found (address_of a)) (then_cell s j (map is_some ms) l a ts) [] m.lists x m.goals (found-runs (address_of a) x d) (runs-chain (found (slice_get s.cells j)) (then_value s j (map is_some ms) x l a ts) [] m.lists c m.goals (found-runs (slice_get s.cells j) c e) (runs-chain (value_here s x) (then_equal s j (map is_some ms) c l a ts) [] m.lists t m.goals r m.runs));
  fit = m.fit;
}

cell-runs : (s : PlainState) (j : ℕ) (x : Linear) (c : Linear × Linear) (l : Label) (a : PlainAct) (ts : List PlainTask) (ls : List (List Row)) (y : List PlainGoal) (cs : List Cert) (ms : List (Option Cert)) → address_of a ≡ Some x → slice_get s.cells j ≡ Some c →
    Runs (then_value s j (map (λ x. true) (rivals s)) x l a ts c) ls y → AllZip IsDecided (take 2 ls) cs → AllZip MarkFits (drop 2 ls) ms → length s.sorts + zeros ms ≤ longest_list → ActRuns s j l a ts cs ms
cell-runs s j x c l a ts ls y cs ms d e r f g k =
    let q = runs-parts (value_here s x) (then_equal s j (map (λ x. true) (rivals s)) c l a ts) ls y r in
    let o = quiet-lists (value_here s x) (value-quiet s x) in
    let b : ls ≡ q.after = sym (none-before q o) in
    let A : List (List Row) → Type 0 = λ z. AllZip IsDecided (take 2 z) cs in
    let P : List (List Row) → Type 0 = λ z. AllZip MarkFits (drop 2 z) ms in
    value-runs s j x c l a ts q.middle cs ms d e (relabelled q.first (sym q.first.lists ∙ o)) (equal-runs s j c l a ts q.middle q.after y cs ms q.second (subst A b f) (subst P b g) k)

address-runs : (s : PlainState) (j : ℕ) (x : Linear) (l : Label) (a : PlainAct) (ts : List PlainTask) (ls : List (List Row)) (y : List PlainGoal) (cs : List Cert) (ms : List (Option Cert)) → address_of a ≡ Some x →
    Runs (then_cell s j (map (λ x. true) (rivals s)) l a ts x) ls y → AllZip IsDecided (take 2 ls) cs → AllZip MarkFits (drop 2 ls) ms → length s.sorts + zeros ms ≤ longest_list → ActRuns s j l a ts cs ms
address-runs s j x l a ts ls y cs ms d r f g k =
    let q = runs-parts (found (slice_get s.cells j)) (then_value s j (map (λ x. true) (rivals s)) x l a ts) ls y r in
    let b : ls ≡ q.after = sym (none-before q refl) in
    let A : List (List Row) → Type 0 = λ z. AllZip IsDecided (take 2 z) cs in
    let P : List (List Row) → Type 0 = λ z. AllZip MarkFits (drop 2 z) ms in
    cell-runs s j x q.middle l a ts q.after y cs ms d q.first.value q.second (subst A b f) (subst P b g) k

pub act-runs : (s : PlainState) (j : ℕ) (l : Label) (a : PlainAct) (ts : List PlainTask) (ls : List (List Row)) (y : List PlainGoal) (cs : List Cert) (ms : List (Option Cert)) →
    Runs (at_act s j (map (λ x. true) (rivals s)) l a ts) ls y → AllZip IsDecided (take 2 ls) cs → AllZip MarkFits (drop 2 ls) ms → length s.sorts + zeros ms ≤ longest_list → ActRuns s j l a ts cs ms
act-runs s j l a ts ls y cs ms r f g k =
    let q = runs-parts (found (address_of a)) (then_cell s j (map (λ x. true) (rivals s)) l a ts) ls y r in
    let b : ls ≡ q.after = sym (none-before q refl) in
    let A : List (List Row) → Type 0 = λ z. AllZip IsDecided (take 2 z) cs in
    let P : List (List Row) → Type 0 = λ z. AllZip MarkFits (drop 2 z) ms in
    address-runs s j q.middle l a ts q.after y cs ms q.first.value q.second (subst A b f) (subst P b g) k
