-- A heap statement with all marks, and with some left out.
use Rattle.std.proofs.Common.{◌≡◌, ℕ, suc, ◌+◌, ◌≤◌, nat_lt, Bool, true, false, List, [], ◌∷◌, ◌++◌, map, flat_map, length, Option, Some, None, is_some, refl, ap, ◌∙◌, sym, subst, append-nil, length-append, arith}
use Rattle.std.specs.Prelude.{slice_get}
use Rattle.cap_lin.specs.Linear.{Linear}
use Rattle.cap_lin.specs.Steps.{Step, first_wide}
use Rattle.cap_lin.specs.declared.row.Row.{Row}
use Rattle.cap_lin.specs.declared.row.Sort.{Sort}
use Rattle.cap_lin.specs.declared.row.Op.{Op}
use Rattle.cap_farkas.specs.declared.cert.Cert.{Cert}
use Rattle.cap_prog.specs.Program.{PlainAct, read, write, cas, faa, dispose, Label, done, first, none, item, PlainProgram}
use Rattle.cap_goal_spec.specs.States.{PlainFact, PlainState, longest_list, PlainTask, to_run, to_turn, to_take, PlainGoal, goals_of}
use Rattle.cap_goal_spec.specs.Choices.{by_act, given_marks}
use Rattle.cap_rules.specs.Attempts.{Event, makes, Attempt, unit, behind, go_on, ◌>>=◌, found, need, not_applicable, appended}
use Rattle.cap_rules.specs.Answers.{steps_of, owed_lists}
use Rattle.cap_rules.specs.Making.{sum, value_here, prove_equal, with_row, with_comparison}
use Rattle.cap_rules.specs.Closing.{address_of, rivals, with_marks, acted, closing}
use Rattle.cap_rules.specs.Rules.{at_act, at_tasks}
use Rattle.cap_rules_marks.specs.Proven.{zeros}
use Rattle.cap_rules_marks.proofs.Passing.{none-some, AllGiven, Passes, passes-chain, passes-parts, lists-append, Carries, carry}
use Rattle.cap_rules_marks.proofs.Marking.{among, lists-made, none-given, all_set, full-parts, to-marked, from-marked}

-- ---- attempts that owe nothing

record Silent {A : Type 0} (o : Attempt A) : Type 0 where
  none : owed_lists o.events ≡ []

silent-by : {A B : Type 0} (es : List Event) (v : Option A) (f : A → Attempt B) → owed_lists es ≡ [] → ((x : A) → Silent (f x)) → Silent (go_on es v f)
silent-by es None f a b = record { none = a }
silent-by es (Some x) f a b = record { none = lists-append es (f x).events ∙ (ap (λ l. l ++ owed_lists (f x).events) a ∙ (b x).none) }

silent-chain : {A B : Type 0} (o : Attempt A) (f : A → Attempt B) → Silent o → ((x : A) → Silent (f x)) → Silent (o >>= f)
silent-chain o f a b = silent-by o.events o.value f a.none b

silent-after : {B : Type 0} (steps : List Step) (o : Attempt B) → Silent o → Silent (behind (map makes steps) o)
silent-after steps o b = record { none = lists-made steps o.events ∙ b.none }

silent-none : {A : Type 0} (v : Option A) → Silent (record { events = []; value = v })
silent-none v = record { none = refl }

silent-steps : {A : Type 0} (steps : List Step) (v : Option A) → Silent (record { events = map makes steps; value = v })
silent-steps steps v = record { none = ap owed_lists (sym (append-nil (map makes steps))) ∙ lists-made steps [] }

silent-need : (b : Bool) → Silent (need b)
silent-need true = silent-none (Some tt)
silent-need false = silent-none None

silent-appended : {A : Type 0} (xs : List A) (x : A) → Silent (appended xs x)
silent-appended xs x = search (silent-chain, silent-none, silent-need)

silent-row : (s : PlainState) (r : Row) → Silent (with_row s r)
silent-row s r = search (silent-chain, silent-none, silent-appended)

silent-comparison : (s : PlainState) (l : Linear) (op : Op) (r : Linear) (o : Sort) → Silent (with_comparison s l op r o)
silent-comparison s l op r o = search (silent-after, silent-row)

silent-value : (s : PlainState) (t : Linear) → Silent (value_here s t)
silent-value s t = search (silent-steps)

silent-sum : (l r : Linear) → Silent (sum l r)
silent-sum l r = search (silent-steps)

silent-acted : (s : PlainState) (j : ℕ) (c : Linear × Linear) (a : PlainAct) → Silent (acted s j c a)
silent-acted s j c (read x a) = silent-none _
silent-acted s j c (write a t) = search (silent-chain, silent-value, silent-none)
silent-acted s j c (cas x a old new) = search (silent-chain, silent-value, silent-comparison, silent-none)
silent-acted s j c (faa x a t) = search (silent-chain, silent-value, silent-sum, silent-none)
silent-acted s j c (dispose a) = silent-none _
silent-acted s j c a = silent-none None

-- ---- the effect doesn't see sorts and facts

abbrev has_row : PlainState → Bool
has_row s = nat_lt (length s.rows) longest_list

acted-some : (s : PlainState) (os ps : List Sort) (fs gs : List PlainFact) (j : ℕ) (c : Linear × Linear) (a : PlainAct) → is_some (acted (among s os fs) j c a).value ≡ is_some (acted (among s ps gs) j c a).value
acted-some s os ps fs gs j c (cas x a old new) = by_room (has_row s) refl
  where
    by_room : (b : Bool) → has_row s ≡ b → is_some (acted (among s os fs) j c (cas x a old new)).value ≡ is_some (acted (among s ps gs) j c (cas x a old new)).value
    by_room true e = rw e refl
    by_room false e = rw e refl
acted-some s os ps fs gs j c (read x a) = refl
acted-some s os ps fs gs j c (write a t) = refl
acted-some s os ps fs gs j c (faa x a t) = refl
acted-some s os ps fs gs j c (dispose a) = refl
acted-some s os ps fs gs j c a = refl

acted-events : (s : PlainState) (os ps : List Sort) (fs gs : List PlainFact) (j : ℕ) (c : Linear × Linear) (a : PlainAct) → (acted (among s os fs) j c a).events ≡ (acted (among s ps gs) j c a).events
acted-events s os ps fs gs j c (cas x a old new) = by_room (has_row s) refl
  where
    by_room : (b : Bool) → has_row s ≡ b → (acted (among s os fs) j c (cas x a old new)).events ≡ (acted (among s ps gs) j c (cas x a old new)).events
    by_room true e = rw e refl
    by_room false e = rw e refl
acted-events s os ps fs gs j c (read x a) = refl
acted-events s os ps fs gs j c (write a t) = refl
acted-events s os ps fs gs j c (faa x a t) = refl
acted-events s os ps fs gs j c (dispose a) = refl
acted-events s os ps fs gs j c a = refl

value-of : {A : Type 0} (o : Option A) → is_some o ≡ true → (x : A) × (o ≡ Some x)
value-of None e = absurd (let k : false ≡ true = e in cc)
value-of (Some x) e = (x, refl)

abbrev ending : PlainState → Label → List PlainTask → List PlainState → Attempt (List PlainGoal)
ending s l ts states = unit (flat_map (λ t. goals_of t (closing s.opened l.number ts)) states)

abbrev effect : PlainState → ℕ → Linear × Linear → Label → PlainAct → List PlainTask → PlainState → Attempt (List PlainGoal)
effect s j c l a ts t = acted t j c a >>= ending s l ts

effect-owes : (s : PlainState) (j : ℕ) (c : Linear × Linear) (l : Label) (a : PlainAct) (ts : List PlainTask) (t : PlainState) (qs : List (Option Cert)) (y : List PlainGoal) → Passes (effect s j c l a ts t) qs y → [] ≡ qs
effect-owes s j c l a ts t qs y h =
    let e = silent-chain (acted t j c a) (ending s l ts) (silent-acted t j c a) (λ states. silent-none _) in
    none-given qs (subst (λ r. AllGiven r qs) e.none h.refuted)

effect-other : (s : PlainState) (os ps : List Sort) (fs gs : List PlainFact) (j : ℕ) (c : Linear × Linear) (l : Label) (a : PlainAct) (ts : List PlainTask) (qs : List (Option Cert)) (y : List PlainGoal) → Passes (effect s j c l a ts (among s os fs)) qs y → (z : List PlainGoal) × Passes (effect s j c l a ts (among s ps gs)) [] z
effect-other s os ps fs gs j c l a ts qs y h =
    let q = passes-parts (acted (among s os fs) j c a) (ending s l ts) qs y h in
    let v = value-of (acted (among s ps gs) j c a).value (sym (acted-some s os ps fs gs j c a) ∙ ap is_some q.first.value) in
    let e = acted-events s os ps fs gs j c a in
    let n = silent-acted (among s ps gs) j c a in
    let z = flat_map (λ t. goals_of t (closing s.opened l.number ts)) v.0 in (
      z,
      passes-chain (acted (among s ps gs) j c a) (ending s l ts) [] [] v.0 z
          (record { value = v.1; narrow = sym (ap (λ es. first_wide (steps_of es)) e) ∙ q.first.narrow; refuted = subst (λ r. AllGiven r []) (sym n.none) tt })
          (record { value = refl; narrow = q.second.narrow; refuted = tt }),
    )

-- ---- the marks, and then the effect

abbrev marking : PlainState → ℕ → List Bool → Linear × Linear → Label → PlainAct → List PlainTask → Unit {0} → Attempt (List PlainGoal)
marking s j marks c l a ts u = with_marks s (rivals s) marks >>= effect s j c l a ts

no-more : {X : Type 0} (before ds ms : List X) → before ≡ ds ++ ms → length before ≡ length ms → [] ≡ ds
no-more before [] ms e l = refl
no-more before (d ∷ ds) ms e l =
    let n : length before ≡ length (d ∷ (ds ++ ms)) = ap length e in
    let k = length-append ds ms in
    absurd (omega (arith, n, k, l))

marks-to : (s : PlainState) (j : ℕ) (c : Linear × Linear) (l : Label) (a : PlainAct) (ts : List PlainTask) (ms : List (Option Cert)) → length ms ≡ length (rivals s) → length s.sorts + zeros ms ≤ longest_list →
    Carries (marking s j (all_set (rivals s)) c l a ts tt) (marking s j (map is_some ms) c l a ts tt) ms (map Some (given_marks ms)) (Unit {0})
marks-to s j c l a ts ms m k = record { least = least; carried = carried }
  where
    least : (qs : List (Option Cert)) (y : List PlainGoal) → Passes (marking s j (all_set (rivals s)) c l a ts tt) qs y → length ms ≤ length qs
    least qs y h =
        let q = passes-parts (with_marks s (rivals s) (all_set (rivals s))) (effect s j c l a ts) qs y h in
        let f = full-parts s (rivals s) q.before q.middle q.first in
        let n = f.many in
        let b = length-append q.before q.after in
        let e : length (q.before ++ q.after) ≡ length qs = ap length q.joined in
        omega (arith, n, b, e, m)

    carried : (ds : List (Option Cert)) (y : List PlainGoal) → Passes (marking s j (all_set (rivals s)) c l a ts tt) (ds ++ ms) y → (z : List PlainGoal) × Passes (marking s j (map is_some ms) c l a ts tt) (ds ++ map Some (given_marks ms)) z × Unit {0}
    carried ds y h =
        let q = passes-parts (with_marks s (rivals s) (all_set (rivals s))) (effect s j c l a ts) (ds ++ ms) y h in
        let f = full-parts s (rivals s) q.before q.middle q.first in
        let o = effect-owes s j c l a ts q.middle q.after y q.second in
        let e : q.before ≡ ds ++ ms = sym (append-nil q.before) ∙ (ap (λ r. q.before ++ r) o ∙ q.joined) in
        let d = no-more q.before ds ms e (f.many ∙ sym m) in
        let b : q.before ≡ ms = e ∙ ap (λ r. r ++ ms) (sym d) in
        let t = to-marked s s.sorts s.sorts s.facts s.facts (rivals s) ms q.middle (subst (λ r. Passes (with_marks s (rivals s) (all_set (rivals s))) r q.middle) b q.first) k in
        let second = subst (λ u. Passes (effect s j c l a ts u) q.after y) (sym f.same) q.second in
        let z = effect-other s s.sorts t.sorts s.facts t.facts j c l a ts q.after y second in
        let w = passes-chain (with_marks s (rivals s) (map is_some ms)) (effect s j c l a ts) (map Some (given_marks ms)) [] (among s t.sorts t.facts) z.0 t.passes z.1 in
        let g = subst (λ r. Passes (marking s j (map is_some ms) c l a ts tt) r z.0) (append-nil (map Some (given_marks ms)) ∙ ap (λ r. r ++ map Some (given_marks ms)) d) w in
        (z.0, g, tt)

all-given : (cs : List Cert) → length (map Some cs) ≡ length cs
all-given [] = refl
all-given (c ∷ cs) = ap suc (all-given cs)

-- there is a mark for each pair, and room for those that are left out
pub record AreFitting (s : PlainState) (ms : List (Option Cert)) : Type 0 where
  pub many : length ms ≡ length (rivals s)
  pub room : length s.sorts + zeros ms ≤ longest_list

marks-from : (s : PlainState) (j : ℕ) (c : Linear × Linear) (l : Label) (a : PlainAct) (ts : List PlainTask) (ms : List (Option Cert)) → length s.sorts ≤ longest_list →
    Carries (marking s j (map is_some ms) c l a ts tt) (marking s j (all_set (rivals s)) c l a ts tt) (map Some (given_marks ms)) ms (AreFitting s ms)
marks-from s j c l a ts ms k = record { least = least; carried = carried }
  where
    least : (qs : List (Option Cert)) (y : List PlainGoal) → Passes (marking s j (map is_some ms) c l a ts tt) qs y → length (map Some (given_marks ms)) ≤ length qs
    least qs y h =
        let q = passes-parts (with_marks s (rivals s) (map is_some ms)) (effect s j c l a ts) qs y h in
        let f = from-marked s s.sorts s.sorts s.facts s.facts (rivals s) ms q.before q.middle q.first k in
        let n = f.count in
        let b = length-append q.before q.after in
        let e : length (q.before ++ q.after) ≡ length qs = ap length q.joined in
        let g : length (map Some (given_marks ms)) ≡ length (given_marks ms) = all-given (given_marks ms) in
        omega (arith, n, b, e, g)

    carried : (ds : List (Option Cert)) (y : List PlainGoal) → Passes (marking s j (map is_some ms) c l a ts tt) (ds ++ map Some (given_marks ms)) y → (z : List PlainGoal) × Passes (marking s j (all_set (rivals s)) c l a ts tt) (ds ++ ms) z × AreFitting s ms
    carried ds y h =
        let ns : List (Option Cert) = map Some (given_marks ms) in
        let q = passes-parts (with_marks s (rivals s) (map is_some ms)) (effect s j c l a ts) (ds ++ ns) y h in
        let f = from-marked s s.sorts s.sorts s.facts s.facts (rivals s) ms q.before q.middle q.first k in
        let o = effect-owes s j c l a ts q.middle q.after y q.second in
        let e : q.before ≡ ds ++ ns = sym (append-nil q.before) ∙ (ap (λ r. q.before ++ r) o ∙ q.joined) in
        let g : length ns ≡ length (given_marks ms) = all-given (given_marks ms) in
        let d = no-more q.before ds ns e (f.count ∙ sym g) in
        let p = f.passes (e ∙ ap (λ r. r ++ ns) (sym d)) in
        let second = subst (λ u. Passes (effect s j c l a ts u) q.after y) (sym f.same) q.second in
        let z = effect-other s f.sorts s.sorts f.facts s.facts j c l a ts q.after y second in
        let w = passes-chain (with_marks s (rivals s) (all_set (rivals s))) (effect s j c l a ts) ms [] s z.0 p z.1 in
        let v = subst (λ r. Passes (marking s j (all_set (rivals s)) c l a ts tt) r z.0) (append-nil ms ∙ ap (λ r. r ++ ms) d) w in
        (z.0, v, record { many = f.many; room = f.room })

-- ---- the rule

abbrev proving : PlainState → ℕ → List Bool → Linear × Linear → Label → PlainAct → List PlainTask → Linear → Attempt (List PlainGoal)
proving s j marks c l a ts t = prove_equal s c.0 t >>= marking s j marks c l a ts

abbrev valuing : PlainState → ℕ → List Bool → Linear → Label → PlainAct → List PlainTask → Linear × Linear → Attempt (List PlainGoal)
valuing s j marks x l a ts c = value_here s x >>= proving s j marks c l a ts

abbrev locating : PlainState → ℕ → List Bool → Label → PlainAct → List PlainTask → Linear → Attempt (List PlainGoal)
locating s j marks l a ts x = found (slice_get s.cells j) >>= valuing s j marks x l a ts

-- what comes before the marks is the same
abbrev MarksCarry : PlainState → ℕ → List Bool → List Bool → List (Option Cert) → List (Option Cert) → Type 0 → Type 0
MarksCarry s j bs ds ms ns E = (c : Linear × Linear) (l : Label) (a : PlainAct) (ts : List PlainTask) → Carries (marking s j bs c l a ts tt) (marking s j ds c l a ts tt) ms ns E

act-carries : (s : PlainState) (j : ℕ) (bs ds : List Bool) (ms ns : List (Option Cert)) (E : Type 0) (l : Label) (a : PlainAct) (ts : List PlainTask) → MarksCarry s j bs ds ms ns E → Carries (at_act s j bs l a ts) (at_act s j ds l a ts) ms ns E
act-carries s j bs ds ms ns E l a ts k =
    carry (found (address_of a)) (locating s j bs l a ts) (locating s j ds l a ts) ms ns E
    (λ x. carry (found (slice_get s.cells j)) (valuing s j bs x l a ts) (valuing s j ds x l a ts) ms ns E
    (λ c. carry (value_here s x) (proving s j bs c l a ts) (proving s j ds c l a ts) ms ns E
    (λ t. carry (prove_equal s c.0 t) (marking s j bs c l a ts) (marking s j ds c l a ts) ms ns E (λ u. k c l a ts))))

none-carries : {B : Type 0} (g : Attempt B) (ms ns : List (Option Cert)) (E : Type 0) → Carries not_applicable g ms ns E
none-carries g ms ns E = record { least = λ qs y h. absurd (none-some h.value); carried = λ ds y h. absurd (none-some h.value) }

tasks-carry : (p : PlainProgram) (s : PlainState) (j : ℕ) (cs : List Cert) (ks : List (Option Cert)) (bs ds : List Bool) (ms ns : List (Option Cert)) (E : Type 0) (ts : List PlainTask) → MarksCarry s j bs ds ms ns E → Carries (at_tasks p s bs (by_act j cs ks) ts) (at_tasks p s ds (by_act j cs ks) ts) ms ns E
tasks-carry p s j cs ks bs ds ms ns E (to_run h (first l a b) ∷ ts) k = act-carries s j bs ds ms ns E l a (to_run h b ∷ ts) k
tasks-carry p s j cs ks bs ds ms ns E [] k = none-carries _ ms ns E
tasks-carry p s j cs ks bs ds ms ns E (to_run h done ∷ ts) k = none-carries _ ms ns E
tasks-carry p s j cs ks bs ds ms ns E (to_turn h done ∷ ts) k = none-carries _ ms ns E
tasks-carry p s j cs ks bs ds ms ns E (to_turn h (first l a b) ∷ ts) k = none-carries _ ms ns E
tasks-carry p s j cs ks bs ds ms ns E (to_take none e l n ∷ ts) k = none-carries _ ms ns E
tasks-carry p s j cs ks bs ds ms ns E (to_take (item i x) e l n ∷ ts) k = none-carries _ ms ns E
tasks-carry p s j cs ks bs ds ms ns E (t ∷ ts) k = none-carries _ ms ns E

pub tasks-to : (p : PlainProgram) (s : PlainState) (j : ℕ) (cs : List Cert) (ms : List (Option Cert)) (ts : List PlainTask) → length ms ≡ length (rivals s) → length s.sorts + zeros ms ≤ longest_list →
    Carries (at_tasks p s (all_set (rivals s)) (by_act j cs ms) ts) (at_tasks p s (map is_some ms) (by_act j cs ms) ts) ms (map Some (given_marks ms)) (Unit {0})
tasks-to p s j cs ms ts m k = tasks-carry p s j cs ms (all_set (rivals s)) (map is_some ms) ms (map Some (given_marks ms)) (Unit {0}) ts (λ c l a us. marks-to s j c l a us ms m k)

pub tasks-from : (p : PlainProgram) (s : PlainState) (j : ℕ) (cs : List Cert) (ms : List (Option Cert)) (ts : List PlainTask) → length s.sorts ≤ longest_list →
    Carries (at_tasks p s (map is_some ms) (by_act j cs ms) ts) (at_tasks p s (all_set (rivals s)) (by_act j cs ms) ts) (map Some (given_marks ms)) ms (AreFitting s ms)
tasks-from p s j cs ms ts k = tasks-carry p s j cs ms (map is_some ms) (all_set (rivals s)) (map Some (given_marks ms)) ms (AreFitting s ms) ts (λ c l a us. marks-from s j c l a us ms k)
