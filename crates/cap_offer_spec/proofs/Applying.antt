-- Each offered choice is proved.
use Rattle.std.proofs.Common.{◌≡◌, ◌⊎◌, inl, inr, ℕ, suc, ◌+◌, ◌≤◌, Bool, true, false, ◌&&◌, if◌then◌else◌, List, [], ◌∷◌, ◌++◌, map, flat_map, length, drop, take, Option, Some, None, is_some, option_map, refl, ap, ◌∙◌, sym, subst, append-nil, arith}
use Rattle.std.specs.Prelude.{option_to_list, slice_get, reverse}
use Rattle.std.specs.List.{AllByRecursion, AllZip}
use Rattle.std.proofs.lemmas.Bool.Decides.{nat_tests}
use Rattle.cap_lin.specs.Linear.{Linear}
use Rattle.cap_lin.specs.Steps.{first_wide}
use Rattle.cap_lin.specs.declared.row.Row.{Row}
use Rattle.cap_lin.proofs.Results.{first_wide-nil}
use Rattle.cap_farkas.specs.declared.cert.Cert.{Cert}
use Rattle.cap_farkas.specs.Refutes.{Refutes}
use Rattle.cap_fm_spec.specs.Solving.{RowsAscend}
use Rattle.cap_fm_spec.proofs.Certified.{certified as cert-refutes}
use Rattle.cap_rules.specs.cap_prog.Program.{PlainItem, compare, choose, fact, atom, cell, none, item, PlainAct, set, read, write, cas, faa, dispose, alloc, call, fork, branch, loop, check, give_back, done as ended, first, PlainRegionType, PlainProgram}
use Rattle.cap_rules.specs.cap_goal_spec.States.{PlainFact, PlainState, longest_list, PlainTask, to_run, to_turn, to_give, to_take, to_make, to_close, to_shift, to_rest, PlainGoal, goals_of}
use Rattle.cap_rules.specs.cap_goal_spec.Choices.{PlainChoice, given_marks, by_absurd, by_clash, by_set, by_alloc, by_assert, by_if, by_loop, by_turn, by_call, by_fork, by_return, by_enter, by_act, by_pick, by_shift, by_settle, by_keep, by_give, by_fact, by_cases, by_cell, by_region, by_guard, by_convert, by_create, by_made, certs_of, with_certs}
use Rattle.cap_rules.specs.Attempts.{Attempt, ◌>>=◌, found, not_applicable}
use Rattle.cap_rules.specs.Answers.{Answer, applies, inapplicable, too_wide, marks_of, full_marks, steps_of, owed_lists, proofs, proofs_of}
use Rattle.cap_rules.proofs.Answering.{succeeds-answer}
use Rattle.cap_rules.specs.Closing.{rivals}
use Rattle.cap_rules.specs.Resting.{settle, keep}
use Rattle.cap_rules.specs.Rules.{at_absurd, at_keep, at_settle, at_tasks, rule, leaves}
use Rattle.cap_rules.specs.Making.{is_empty}
use Rattle.cap_fm_spec.specs.Events.{wide}
use Rattle.cap_rules.specs.Taking.{Sides, sum_in}
use Rattle.cap_offer_spec.specs.Deciding.{PlainNotes, clean, Outcome, with_note, decided, decided_all, decided_each, certified, certified_by}
use Rattle.cap_offer_spec.specs.Claims.{has_address, has_item_address}
use Rattle.cap_offer_spec.specs.Closures.{PlainClosure, keeps, settles, or_settled, settled, closed_list, closure}
use Rattle.cap_offer_spec.specs.Listing.{own_rule, clashes, clashes_with, numbers_below, openings, known_regions, new_regions, cuts, has_atom, conversion, conversions, moves_of, closings_of, type_of_opened, closings}
use Rattle.cap_offer_spec.specs.Shifting.{spans_for, shift_with}
use Rattle.cap_offer_spec.specs.Scanning.{tried, tried_all, or_later, first_tried, or_else, Scan, finds, ends, goes_on, found_or_ends, ends_if, at_address, scanned_cell, unless_over, finished_cell, has_room_for, choice_if, finished_act, first_cell, first_act}
use Rattle.cap_offer_spec.specs.Offering.{openings_unless, by_cells, at_heap, at_statement, at_item, of_closure, at_fact_of, at_fact, offering, offered, at_task as offers_at_task, at_tasks as offers_at_tasks}
use Rattle.cap_offer_spec.specs.Members.{IsOneOf}
use Rattle.cap_offer_spec.specs.Laws.{IsDecided, IsProvedBy, OfferedAreProved, OfferedApply}
use Rattle.cap_offer_spec.proofs.Trying.{decided-is, all-decided, Runs, Comes, proofs-come, Certifies, certifies, runs-chain}
use Rattle.cap_offer_spec.proofs.Same.{same-rule, act-rule, IsBare, bare-quiet}
use Rattle.cap_offer_spec.proofs.Acting.{MarkFits, zeros, act-runs, zip-join, unit-runs, found-runs, relabelled, quiet-lists}

none-some : {A : Type 0} {x : A} → None ≡ Some x → ⊥
none-some e = cc

same-some : {A : Type 0} (x y : A) → Some x ≡ Some y → x ≡ y
same-some x y e = cc

-- ---- a choice by what its rule comes to
proved-as : (p : PlainProgram) (g : PlainGoal) (c : PlainChoice) (o : Attempt (List PlainGoal)) (ls : List (List Row)) (x : List PlainGoal) → rule p g c (marks_of c) ≡ o → Runs o ls x → AllZip IsDecided ls (certs_of c) → IsProvedBy p g c
proved-as p g c o ls x e r z = record {
  goals = x;
  value = ap (λ q. q.value) e ∙ r.value;
  narrow = ap (λ q. first_wide (steps_of q.events)) e ∙ r.narrow;
  decided = subst (λ l. AllZip IsDecided l (certs_of c)) (sym (ap (λ q. owed_lists q.events) e ∙ r.lists)) z;
}

-- ---- choices that are tried

abbrev IsSure : PlainChoice → Type 0
IsSure (by_clash i j cs) = Unit {0}
IsSure (by_assert cs) = Unit {0}
IsSure (by_enter i cs) = Unit {0}
IsSure (by_shift cs js) = Unit {0}
IsSure (by_settle list cs) = Unit {0}
IsSure (by_keep cs) = Unit {0}
IsSure (by_fact cs) = Unit {0}
IsSure (by_cell j cs) = Unit {0}
IsSure (by_region j cs) = Unit {0}
IsSure (by_guard j way cs) = Unit {0}
IsSure (by_convert n side cs) = Unit {0}
IsSure (by_made cs) = Unit {0}
IsSure _ = ⊥

abbrev IsTried : PlainChoice → Type 0
IsTried c = IsSure c ⊎ IsBare c

sure-marks : (s : PlainState) (c : PlainChoice) → IsSure c → full_marks s c ≡ []
sure-marks s (by_act j cs ms) h = absurd h
sure-marks s c h = refl

bare-marks : (s : PlainState) (c : PlainChoice) → IsBare c → full_marks s c ≡ []
bare-marks s (by_act j cs ms) h = absurd h
bare-marks s c h = refl

sure-own : (c : PlainChoice) (cs : List Cert) → IsSure c → (marks_of (with_certs c cs) ≡ []) × (certs_of (with_certs c cs) ≡ cs)
sure-own (by_clash i j old) cs h = (refl, refl)
sure-own (by_assert old) cs h = (refl, refl)
sure-own (by_enter i old) cs h = (refl, refl)
sure-own (by_shift old js) cs h = (refl, refl)
sure-own (by_settle list old) cs h = (refl, refl)
sure-own (by_keep old) cs h = (refl, refl)
sure-own (by_fact old) cs h = (refl, refl)
sure-own (by_cell j old) cs h = (refl, refl)
sure-own (by_region j old) cs h = (refl, refl)
sure-own (by_guard j way old) cs h = (refl, refl)
sure-own (by_convert n side old) cs h = (refl, refl)
sure-own (by_made old) cs h = (refl, refl)
sure-own c cs h = absurd h

bare-own : (c : PlainChoice) (cs : List Cert) → IsBare c → (marks_of (with_certs c cs) ≡ []) × (certs_of (with_certs c cs) ≡ [])
bare-own by_set cs h = (refl, refl)
bare-own by_alloc cs h = (refl, refl)
bare-own by_if cs h = (refl, refl)
bare-own by_loop cs h = (refl, refl)
bare-own by_turn cs h = (refl, refl)
bare-own by_call cs h = (refl, refl)
bare-own by_fork cs h = (refl, refl)
bare-own by_return cs h = (refl, refl)
bare-own (by_pick o c m) cs h = (refl, refl)
bare-own by_give cs h = (refl, refl)
bare-own by_cases cs h = (refl, refl)
bare-own (by_create c) cs h = (refl, refl)
bare-own c cs h = absurd h

-- with other certificates it comes to the same
same-as : (p : PlainProgram) (g : PlainGoal) (c : PlainChoice) (cs : List Cert) → marks_of (with_certs c cs) ≡ [] → rule p g (with_certs c cs) (marks_of (with_certs c cs)) ≡ rule p g c []
same-as p g c cs e = ap (λ m. rule p g (with_certs c cs) m) e ∙ same-rule p g [] c cs

comes-of : (p : PlainProgram) (g : PlainGoal) (c : PlainChoice) (ls : List (List Row)) → full_marks g.state c ≡ [] → proofs p g c ≡ applies ls → Comes (rule p g c []) ls
comes-of p g c ls e h = proofs-come (rule p g c []) ls (sym (ap (λ m. proofs_of (rule p g c m)) e) ∙ h)

certs-prove : (p : PlainProgram) (g : PlainGoal) (c : PlainChoice) (cs : List Cert) → IsTried c → Certifies (proofs p g c) cs → IsProvedBy p g (with_certs c cs)
certs-prove p g c cs (inl h) k =
    let o = sure-own c cs h in
    let r = comes-of p g c k.lists (sure-marks g.state c h) k.answer in
    proved-as p g (with_certs c cs) (rule p g c []) k.lists r.result (same-as p g c cs o.0) r.runs (subst (AllZip IsDecided k.lists) (sym o.1) k.decided)
certs-prove p g c cs (inr h) k =
    let o = bare-own c cs h in
    let r = comes-of p g c k.lists (bare-marks g.state c h) k.answer in
    let e : k.lists ≡ [] = sym r.runs.lists ∙ quiet-lists (rule p g c []) (bare-quiet p g c h) in
    proved-as p g (with_certs c cs) (rule p g c []) [] r.result (same-as p g c cs o.0) (relabelled r.runs e) (subst (AllZip IsDecided []) (sym o.1) tt)

tried-by : (p : PlainProgram) (g : PlainGoal) (c x : PlainChoice) (n : PlainNotes) (o : Option (List Cert)) → IsTried c → (certified_by (proofs p g c) n).value ≡ o → option_map (with_certs c) o ≡ Some x → IsProvedBy p g x
tried-by p g c x n None h e k = absurd (none-some k)
tried-by p g c x n (Some cs) h e k = subst (IsProvedBy p g) (same-some (with_certs c cs) x k) (certs-prove p g c cs h (certifies (proofs p g c) n cs e))

tried-proved : (p : PlainProgram) (g : PlainGoal) (c x : PlainChoice) (n : PlainNotes) → IsTried c → (tried p g c n).value ≡ Some x → IsProvedBy p g x
unfolding tried
tried-proved p g c x n h k = tried-by p g c x n (certified_by (proofs p g c) n).value h refl k

-- ---- lists of them

one-or : (p : PlainProgram) (g : PlainGoal) (o : Option PlainChoice) (more : List PlainChoice) (x : PlainChoice) → ((y : PlainChoice) → o ≡ Some y → IsProvedBy p g y) → (IsOneOf more x → IsProvedBy p g x) → IsOneOf (option_to_list o ++ more) x → IsProvedBy p g x
one-or p g None more x f r h = r h
one-or p g (Some y) more x f r h = elim h [ inl q ↦ f x (ap (λ z. Some z) q) | inr q ↦ r q ]

one-alone : (p : PlainProgram) (g : PlainGoal) (o : Option PlainChoice) (x : PlainChoice) → ((y : PlainChoice) → o ≡ Some y → IsProvedBy p g y) → IsOneOf (option_to_list o) x → IsProvedBy p g x
one-alone p g None x f h = absurd h
one-alone p g (Some y) x f h = elim h [ inl q ↦ f x (ap (λ z. Some z) q) | inr q ↦ absurd q ]

all-proved : (p : PlainProgram) (g : PlainGoal) (cs : List PlainChoice) (n : PlainNotes) (x : PlainChoice) → AllByRecursion IsTried cs → IsOneOf (tried_all p g cs n).value x → IsProvedBy p g x
unfolding tried_all
all-proved p g [] n x t h = absurd h
all-proved p g (c ∷ cs) n x t h = one-or p g (tried p g c n).value (tried_all p g cs (tried p g c n).notes).value x (λ y k. tried-proved p g c y n t.0 k) (λ k. all-proved p g cs (tried p g c n).notes x t.1 k) h

first-by : (p : PlainProgram) (g : PlainGoal) (c : PlainChoice) (cs : List PlainChoice) (n m : PlainNotes) (o : Option PlainChoice) (x : PlainChoice) → (tried p g c n).value ≡ o → ((tried p g c n).value ≡ Some x → IsProvedBy p g x) → ((first_tried p g cs m).value ≡ Some x → IsProvedBy p g x) → (or_later o (first_tried p g cs) m).value ≡ Some x → IsProvedBy p g x
first-by p g c cs n m (Some y) x e f r h = f (e ∙ h)
first-by p g c cs n m None x e f r h = r h

first-proved : (p : PlainProgram) (g : PlainGoal) (cs : List PlainChoice) (n : PlainNotes) (x : PlainChoice) → AllByRecursion IsTried cs → (first_tried p g cs n).value ≡ Some x → IsProvedBy p g x
unfolding first_tried
first-proved p g [] n x t h = absurd (none-some h)
first-proved p g (c ∷ cs) n x t h = first-by p g c cs n (tried p g c n).notes (tried p g c n).value x refl (λ k. tried-proved p g c x n t.0 k) (λ k. first-proved p g cs (tried p g c n).notes x t.1 k) h

-- ---- which choices come into question
all-join : (xs ys : List PlainChoice) → AllByRecursion IsTried xs → AllByRecursion IsTried ys → AllByRecursion IsTried (xs ++ ys)
all-join [] ys h k = k
all-join (x ∷ xs) ys h k = (h.0, all-join xs ys h.1 k)

all-map : (f : ℕ → PlainChoice) → ((i : ℕ) → IsTried (f i)) → (is : List ℕ) → AllByRecursion IsTried (map f is)
all-map f h [] = tt
all-map f h (i ∷ is) = (h i, all-map f h is)

all-flat : (f : ℕ → List PlainChoice) → ((i : ℕ) → AllByRecursion IsTried (f i)) → (is : List ℕ) → AllByRecursion IsTried (flat_map f is)
all-flat f h [] = tt
all-flat f h (i ∷ is) = all-join (f i) (flat_map f is) (h i) (all-flat f h is)

shift-tried : (js : Option (List ℕ)) → AllByRecursion IsTried (shift_with js)
shift-tried None = tt
shift-tried (Some is) = (inl tt, tt)

own-tried : (a : PlainAct) → AllByRecursion IsTried (own_rule a)
own-tried (set x t) = (inr tt, tt)
own-tried (alloc x n) = (inr tt, tt)
own-tried (call x f args) = (inr tt, tt)
own-tried (fork f args) = (inr tt, tt)
own-tried (branch c a b) = (inr tt, tt)
own-tried (loop c i a) = (inr tt, tt)
own-tried (check c) = (inl tt, tt)
own-tried (give_back t) = (inr tt, tt)
own-tried (read x a) = tt
own-tried (write a t) = tt
own-tried (cas x a b c) = tt
own-tried (faa x a t) = tt
own-tried (dispose a) = tt

clashes-tried : (s : PlainState) → AllByRecursion IsTried (clashes s)
clashes-tried s = all-flat (clashes_with (length s.cells)) (λ i. all-map (λ d. by_clash i (suc i + d) []) (λ d. inl tt) _) (numbers_below (length s.cells))

openings-tried : (s : PlainState) → AllByRecursion IsTried (openings s)
openings-tried s = all-map (λ i. by_enter i []) (λ i. inl tt) (numbers_below (length s.facts))

regions-tried : (s : PlainState) → AllByRecursion IsTried (known_regions s)
regions-tried s = all-map (λ j. by_region j []) (λ i. inl tt) (numbers_below (length s.facts))

new-tried : (o : Option PlainRegionType) → AllByRecursion IsTried (new_regions o)
new-tried None = tt
new-tried (Some k) = all-map by_create (λ i. inr tt) (numbers_below (length k.cases))

cuts-tried : (s : PlainState) → AllByRecursion IsTried (cuts s)
cuts-tried s = all-join _ (by_guard 0 2 [] ∷ []) (all-flat (λ j. by_guard j 0 [] ∷ by_guard j 1 [] ∷ []) (λ j. (inl tt, (inl tt, tt))) (numbers_below (length s.guards))) (inl tt, tt)

all-if : (b : Bool) (xs ys : List PlainChoice) → AllByRecursion IsTried xs → AllByRecursion IsTried ys → AllByRecursion IsTried (if b then xs else ys)
all-if true xs ys h k = h
all-if false xs ys h k = k

conversion-tried : (i n : ℕ) (o : Option Sides) → AllByRecursion IsTried (conversion i n o)
conversion-tried i n None = tt
conversion-tried i n (Some x) = all-if (has_atom x.left i) (by_convert n 1 [] ∷ []) (if has_atom x.right i then by_convert n 0 [] ∷ [] else []) (inl tt, tt) (all-if (has_atom x.right i) (by_convert n 0 [] ∷ []) [] (inl tt, tt) tt)

conversions-tried : (o : Option PlainRegionType) (i : ℕ) → AllByRecursion IsTried (conversions o i)
conversions-tried None i = tt
conversions-tried (Some k) i = all-flat (λ n. conversion i n (sum_in k.algebra 0 n)) (λ n. conversion-tried i n (sum_in k.algebra 0 n)) _

moves-tried : (o : ℕ) (k : PlainRegionType) (c : ℕ) → AllByRecursion IsTried (moves_of o k c)
moves-tried o k c = all-map (λ m. by_pick o c m) (λ m. inr tt) (numbers_below (suc (length k.actions)))

closings-of-tried : (o : ℕ) (k : Option PlainRegionType) → AllByRecursion IsTried (closings_of o k)
closings-of-tried o None = tt
closings-of-tried o (Some k) = all-flat (moves_of o k) (λ c. moves-tried o k c) (numbers_below (length k.cases))

closings-tried : (p : PlainProgram) (s : PlainState) → AllByRecursion IsTried (closings p s)
closings-tried p s = all-flat (λ o. closings_of o (type_of_opened p (slice_get s.opened o))) (λ o. closings-of-tried o (type_of_opened p (slice_get s.opened o))) (reverse (numbers_below (length s.opened)))

-- ---- the first cell

record Scanned (finish : List Cert → List (List Row) → PlainNotes → Outcome (Option PlainChoice)) (a : Answer (List (List Row))) (x : PlainChoice) : Type 0 where
  lists : List (List Row)
  certs : List Cert
  notes : PlainNotes
  answer : a ≡ applies lists
  address : AllZip IsDecided (take 2 lists) certs
  finishes : (finish certs (drop 2 lists) notes).value ≡ Some x

ends-no-find : {x : PlainChoice} → ends ≡ finds x → ⊥
ends-no-find h = cc

goes-no-find : {x : PlainChoice} → goes_on ≡ finds x → ⊥
goes-no-find h = cc

same-find : (x y : PlainChoice) → finds x ≡ finds y → x ≡ y
same-find x y h = cc

found-by : (o : Option PlainChoice) (x : PlainChoice) → found_or_ends o ≡ finds x → o ≡ Some x
found-by None x h = absurd (ends-no-find h)
found-by (Some y) x h = ap (λ z. Some z) (same-find y x h)

if-no-find : (b : Bool) (x : PlainChoice) → ends_if b ≡ finds x → ⊥
if-no-find true x h = ends-no-find h
if-no-find false x h = goes-no-find h

address-found : (finish : List Cert → List (List Row) → PlainNotes → Outcome (Option PlainChoice)) (ls : List (List Row)) (n m : PlainNotes) (x : PlainChoice) (o : Option (List Cert)) → (decided_all (take 2 ls) n).value ≡ o → (at_address finish (drop 2 ls) o m).value ≡ finds x → Scanned finish (applies ls) x
address-found finish ls n m x None e h = absurd (goes-no-find h)
address-found finish ls n m x (Some cs) e h = record { lists = ls; certs = cs; notes = m; answer = refl; address = all-decided (take 2 ls) n cs e; finishes = found-by (finish cs (drop 2 ls) m).value x h }

scan-found : (finish : List Cert → List (List Row) → PlainNotes → Outcome (Option PlainChoice)) (address : Attempt (Unit {0})) (a : Answer (List (List Row))) (n : PlainNotes) (x : PlainChoice) → (scanned_cell finish address a n).value ≡ finds x → Scanned finish a x
unfolding scanned_cell
scan-found finish address (applies ls) n x h = address-found finish ls n (decided_all (take 2 ls) n).notes x (decided_all (take 2 ls) n).value refl h
scan-found finish address inapplicable n x h = absurd (goes-no-find h)
scan-found finish address (too_wide a b) n x h = absurd (if-no-find (is_some (certified address (with_note n (wide a b))).value) x h)

-- ---- the choice on it
halves : (ls : List (List Row)) → take 2 ls ++ drop 2 ls ≡ ls
halves [] = refl
halves (x ∷ []) = refl
halves (x ∷ y ∷ ls) = refl

cell-by : (p : PlainProgram) (g : PlainGoal) (j : ℕ) (x : PlainChoice) (ls : List (List Row)) (cs : List Cert) (n : PlainNotes) (o : Option (List Cert)) → proofs p g (by_cell j []) ≡ applies ls → AllZip IsDecided (take 2 ls) cs → (decided_all (drop 2 ls) n).value ≡ o → option_map (λ ds. by_cell j (cs ++ ds)) o ≡ Some x → IsProvedBy p g x
cell-by p g j x ls cs n None e f d h = absurd (none-some h)
cell-by p g j x ls cs n (Some ds) e f d h =
    let z = zip-join (take 2 ls) (drop 2 ls) cs ds f (all-decided (drop 2 ls) n ds d) in
    let P : List (List Row) → Type 0 = λ l. AllZip IsDecided l (cs ++ ds) in
    subst (IsProvedBy p g) (same-some (by_cell j (cs ++ ds)) x h) (certs-prove p g (by_cell j []) (cs ++ ds) (inl tt) (record { lists = ls; answer = e; decided = subst P (halves ls) z }))

cell-proved : (p : PlainProgram) (g : PlainGoal) (j : ℕ) (x : PlainChoice) → Scanned (finished_cell j) (proofs p g (by_cell j [])) x → IsProvedBy p g x
cell-proved p g j x k = cell-by p g j x k.lists k.certs k.notes (decided_all (drop 2 k.lists) k.notes).value k.answer k.address refl k.finishes

mark-fits : (rows : List Row) (n : PlainNotes) (o : Option Cert) → (decided rows n).value ≡ o → MarkFits rows o
mark-fits rows n None e = tt
mark-fits rows n (Some c) e = decided-is rows n c e

marks-fit : (ls : List (List Row)) (n : PlainNotes) → AllZip MarkFits ls (decided_each ls n).value
unfolding decided_each
marks-fit [] n = tt
marks-fit (rows ∷ ls) n = (mark-fits rows n (decided rows n).value refl, marks-fit ls (decided rows n).notes)

record ActTasks (p : PlainProgram) (s : PlainState) (j : ℕ) (ts : List PlainTask) (cs : List Cert) (ms : List (Option Cert)) : Type 0 where
  lists : List (List Row)
  goals : List PlainGoal
  runs : Runs (at_tasks p s (map is_some ms) (by_act j [] []) ts) lists goals
  fit : AllZip IsDecided lists (cs ++ given_marks ms)

no-act : {p : PlainProgram} {s : PlainState} {j : ℕ} {ts : List PlainTask} {cs : List Cert} {ms : List (Option Cert)} {ls : List (List Row)} {y : List PlainGoal} → Runs not_applicable ls y → ActTasks p s j ts cs ms
no-act r = absurd (none-some r.value)

act-tasks : (p : PlainProgram) (s : PlainState) (j : ℕ) (ts : List PlainTask) (ls : List (List Row)) (y : List PlainGoal) (cs : List Cert) (ms : List (Option Cert)) → Runs (at_tasks p s (map (λ x. true) (rivals s)) (by_act j [] []) ts) ls y → AllZip IsDecided (take 2 ls) cs → AllZip MarkFits (drop 2 ls) ms → length s.sorts + zeros ms ≤ longest_list → ActTasks p s j ts cs ms
act-tasks p s j (to_run h (first l a b) ∷ ts) ls y cs ms r f m k = let q = act-runs s j l a (to_run h b ∷ ts) ls y cs ms r f m k in record { lists = q.lists; goals = q.goals; runs = q.runs; fit = q.fit }
act-tasks p s j [] ls y cs ms r f m k = no-act r
act-tasks p s j (to_run h ended ∷ ts) ls y cs ms r f m k = no-act r
act-tasks p s j (to_turn h ended ∷ ts) ls y cs ms r f m k = no-act r
act-tasks p s j (to_turn h (first l a b) ∷ ts) ls y cs ms r f m k = no-act r
act-tasks p s j (to_take none e l n ∷ ts) ls y cs ms r f m k = no-act r
act-tasks p s j (to_take (item i x) e l n ∷ ts) ls y cs ms r f m k = no-act r
act-tasks p s j (t ∷ ts) ls y cs ms r f m k = no-act r

act-by : (p : PlainProgram) (g : PlainGoal) (j : ℕ) (x : PlainChoice) (ls : List (List Row)) (cs : List Cert) (ms : List (Option Cert)) (b : Bool) → proofs p g (by_act j [] []) ≡ applies ls → AllZip IsDecided (take 2 ls) cs → AllZip MarkFits (drop 2 ls) ms → has_room_for g.state ms ≡ b → choice_if b (by_act j cs ms) ≡ Some x → IsProvedBy p g x
act-by p g j x ls cs ms false e f m r h = absurd (none-some h)
act-by p g j x ls cs ms true e f m r h =
    let k : length g.state.sorts + zeros ms ≤ longest_list = grind (arith, nat_tests, r) in
    let c = proofs-come (rule p g (by_act j [] []) (map (λ x. true) (rivals g.state))) ls e in
    let q = act-tasks p g.state j g.tasks ls c.result cs ms c.runs f m k in
    subst (IsProvedBy p g) (same-some (by_act j cs ms) x h) (proved-as p g (by_act j cs ms) (rule p g (by_act j [] []) (map is_some ms)) q.lists q.goals (act-rule p g (map is_some ms) j cs ms) q.runs q.fit)

act-proved : (p : PlainProgram) (g : PlainGoal) (j : ℕ) (x : PlainChoice) → Scanned (finished_act g.state j) (proofs p g (by_act j [] [])) x → IsProvedBy p g x
act-proved p g j x k = act-by p g j x k.lists k.certs (decided_each (drop 2 k.lists) k.notes).value (has_room_for g.state (decided_each (drop 2 k.lists) k.notes).value) k.answer k.address (marks-fit (drop 2 k.lists) k.notes) refl k.finishes

over-by : (P : PlainChoice → Type 0) (s : Scan) (rest : PlainNotes → Outcome (Option PlainChoice)) (m : PlainNotes) (x : PlainChoice) → (s ≡ finds x → P x) → ((rest m).value ≡ Some x → P x) → (unless_over s rest m).value ≡ Some x → P x
over-by P (finds y) rest m x f r h = f (ap (λ z. finds z) (same-some y x h))
over-by P ends rest m x f r h = absurd (none-some h)
over-by P goes_on rest m x f r h = r h

cells-proved : (p : PlainProgram) (g : PlainGoal) (address : Linear × Linear → Attempt (Unit {0})) (j : ℕ) (cells : List (Linear × Linear)) (n : PlainNotes) (x : PlainChoice) → (first_cell p g address j cells n).value ≡ Some x → IsProvedBy p g x
unfolding first_cell
cells-proved p g address j [] n x h = absurd (none-some h)
cells-proved p g address j (c ∷ cs) n x h =
    let z = scanned_cell (finished_cell j) (address c) (proofs p g (by_cell j [])) n in
    over-by (IsProvedBy p g) z.value (first_cell p g address (suc j) cs) z.notes x (λ k. cell-proved p g j x (scan-found (finished_cell j) (address c) (proofs p g (by_cell j [])) n x k)) (λ k. cells-proved p g address (suc j) cs z.notes x k) h

acts-proved : (p : PlainProgram) (g : PlainGoal) (address : Linear × Linear → Attempt (Unit {0})) (j : ℕ) (cells : List (Linear × Linear)) (n : PlainNotes) (x : PlainChoice) → (first_act p g address j cells n).value ≡ Some x → IsProvedBy p g x
unfolding first_act
acts-proved p g address j [] n x h = absurd (none-some h)
acts-proved p g address j (c ∷ cs) n x h =
    let z = scanned_cell (finished_act g.state j) (address c) (proofs p g (by_act j [] [])) n in
    over-by (IsProvedBy p g) z.value (first_act p g address (suc j) cs) z.notes x (λ k. act-proved p g j x (scan-found (finished_act g.state j) (address c) (proofs p g (by_act j [] [])) n x k)) (λ k. acts-proved p g address (suc j) cs z.notes x k) h

-- ---- facts that are settled
abbrev ClosureFits : PlainRegionType → PlainState → ℕ → PlainFact → PlainClosure → Type 0
ClosureFits k s j f (keeps cs) = Certifies (proofs_of (keep k s j f)) cs
ClosureFits k s j f (settles list None) = Unit {0}
ClosureFits k s j f (settles list (Some cs)) = Certifies (proofs_of (settle k s j f list)) cs

certified-is : {A : Type 0} (o : Attempt A) (n : PlainNotes) (cs : List Cert) → (certified o n).value ≡ Some cs → Certifies (proofs_of o) cs
unfolding certified
certified-is o n cs h = certifies (proofs_of o) n cs h

settles-fit : (k : PlainRegionType) (s : PlainState) (j : ℕ) (f : PlainFact) (list : List ℕ) (n : PlainNotes) (o : Option (List Cert)) → (certified (settle k s j f list) n).value ≡ o → ClosureFits k s j f (settles list o)
settles-fit k s j f list n None e = tt
settles-fit k s j f list n (Some cs) e = certified-is (settle k s j f list) n cs e

closure-by : (k : PlainRegionType) (s : PlainState) (j : ℕ) (f : PlainFact) (n m : PlainNotes) (o : Option (List Cert)) → (certified (keep k s j f) n).value ≡ o → ClosureFits k s j f (or_settled o (settled k s j f) m).value
closure-by k s j f n m (Some cs) e = certified-is (keep k s j f) n cs e
closure-by k s j f n m None e =
    let l = closed_list k s f m in
    settles-fit k s j f l.value l.notes (certified (settle k s j f l.value) l.notes).value refl

closure-fits : (k : PlainRegionType) (s : PlainState) (j : ℕ) (f : PlainFact) (n : PlainNotes) → ClosureFits k s j f (closure k s j f n).value
unfolding closure
closure-fits k s j f n = closure-by k s j f n (certified (keep k s j f) n).notes (certified (keep k s j f) n).value refl

-- the fact of the first task, and its region type
record AtFact (p : PlainProgram) (g : PlainGoal) (j n : ℕ) (ts : List PlainTask) (f : PlainFact) (k : PlainRegionType) : Type 0 where
  tasks : g.tasks ≡ to_rest j n ∷ ts
  fact : slice_get g.state.facts j ≡ Some f
  type : slice_get p.regions f.kind ≡ Some k

abbrev then_rest : ℕ → ℕ → List PlainTask → PlainState → Attempt (List PlainGoal)
then_rest j n ts s = leaves s (to_rest (j + 1) n ∷ ts)

abbrev then_keep : PlainState → ℕ → ℕ → List PlainTask → PlainFact → PlainRegionType → Attempt (List PlainGoal)
then_keep s j n ts f k = keep k s j f >>= then_rest j n ts

abbrev then_settle : PlainState → List ℕ → ℕ → ℕ → List PlainTask → PlainFact → PlainRegionType → Attempt (List PlainGoal)
then_settle s list j n ts f k = settle k s j f list >>= then_rest j n ts

rest-runs : (p : PlainProgram) (g : PlainGoal) (j n : ℕ) (ts : List PlainTask) (f : PlainFact) (k : PlainRegionType) (o : PlainFact → PlainRegionType → Attempt PlainState) (ls : List (List Row)) (t : PlainState) → AtFact p g j n ts f k → Runs (o f k) ls t →
    Runs (found (slice_get g.state.facts j) >>= λ x. found (slice_get p.regions x.kind) >>= λ y. o x y >>= then_rest j n ts) ls (goals_of t (to_rest (j + 1) n ∷ ts))
rest-runs p g j n ts f k o ls t a r =
    let z = goals_of t (to_rest (j + 1) n ∷ ts) in
    runs-chain (found (slice_get g.state.facts j)) (λ x. found (slice_get p.regions x.kind) >>= λ y. o x y >>= then_rest j n ts) [] ls f z (found-runs (slice_get g.state.facts j) f a.fact)
    (runs-chain (found (slice_get p.regions f.kind)) (λ y. o f y >>= then_rest j n ts) [] ls k z (found-runs (slice_get p.regions f.kind) k a.type)
    (relabelled (runs-chain (o f k) (then_rest j n ts) ls [] t z r (unit-runs z)) (append-nil ls)))

keep-proved : (p : PlainProgram) (g : PlainGoal) (j n : ℕ) (ts : List PlainTask) (f : PlainFact) (k : PlainRegionType) (cs : List Cert) → AtFact p g j n ts f k → Certifies (proofs_of (keep k g.state j f)) cs → IsProvedBy p g (by_keep cs)
keep-proved p g j n ts f k cs a c =
    let w = proofs-come (keep k g.state j f) c.lists c.answer in
    proved-as p g (by_keep cs) (at_keep p g.state j n ts) c.lists (goals_of w.result (to_rest (j + 1) n ∷ ts)) (ap (λ us. at_tasks p g.state [] (by_keep cs) us) a.tasks) (rest-runs p g j n ts f k (λ x y. keep y g.state j x) c.lists w.result a w.runs) c.decided

settle-proved : (p : PlainProgram) (g : PlainGoal) (j n : ℕ) (ts : List PlainTask) (f : PlainFact) (k : PlainRegionType) (list : List ℕ) (cs : List Cert) → AtFact p g j n ts f k → Certifies (proofs_of (settle k g.state j f list)) cs → IsProvedBy p g (by_settle list cs)
settle-proved p g j n ts f k list cs a c =
    let w = proofs-come (settle k g.state j f list) c.lists c.answer in
    proved-as p g (by_settle list cs) (at_settle p g.state list j n ts) c.lists (goals_of w.result (to_rest (j + 1) n ∷ ts)) (ap (λ us. at_tasks p g.state [] (by_settle list cs) us) a.tasks) (rest-runs p g j n ts f k (λ x y. settle y g.state j x list) c.lists w.result a w.runs) c.decided

closure-proved : (p : PlainProgram) (g : PlainGoal) (j n : ℕ) (ts : List PlainTask) (f : PlainFact) (k : PlainRegionType) (v : PlainClosure) (x : PlainChoice) → AtFact p g j n ts f k → ClosureFits k g.state j f v → IsOneOf (of_closure v) x → IsProvedBy p g x
closure-proved p g j n ts f k (keeps cs) x a c h = elim h [ inl e ↦ subst (IsProvedBy p g) e (keep-proved p g j n ts f k cs a c) | inr e ↦ absurd e ]
closure-proved p g j n ts f k (settles list None) x a c h = absurd h
closure-proved p g j n ts f k (settles list (Some cs)) x a c h = elim h [ inl e ↦ subst (IsProvedBy p g) e (settle-proved p g j n ts f k list cs a c) | inr e ↦ absurd e ]

type-by : (p : PlainProgram) (g : PlainGoal) (j n : ℕ) (ts : List PlainTask) (f : PlainFact) (o : Option PlainRegionType) (m : PlainNotes) (x : PlainChoice) → g.tasks ≡ to_rest j n ∷ ts → slice_get g.state.facts j ≡ Some f → slice_get p.regions f.kind ≡ o → IsOneOf (at_fact_of g.state j f o m).value x → IsProvedBy p g x
type-by p g j n ts f None m x a b c h = absurd h
type-by p g j n ts f (Some k) m x a b c h = closure-proved p g j n ts f k (closure k g.state j f m).value x (record { tasks = a; fact = b; type = c }) (closure-fits k g.state j f m) h

fact-by : (p : PlainProgram) (g : PlainGoal) (j n : ℕ) (ts : List PlainTask) (o : Option PlainFact) (m : PlainNotes) (x : PlainChoice) → g.tasks ≡ to_rest j n ∷ ts → slice_get g.state.facts j ≡ o → IsOneOf (at_fact p g.state j o m).value x → IsProvedBy p g x
fact-by p g j n ts None m x a b h = absurd h
fact-by p g j n ts (Some f) m x a b h = type-by p g j n ts f (slice_get p.regions f.kind) m x a b refl h

-- ---- all

else-proved : (p : PlainProgram) (g : PlainGoal) (o : Option PlainChoice) (rest : PlainNotes → Outcome (List PlainChoice)) (m : PlainNotes) (x : PlainChoice) → ((y : PlainChoice) → o ≡ Some y → IsProvedBy p g y) → (IsOneOf (rest m).value x → IsProvedBy p g x) → IsOneOf (or_else o rest m).value x → IsProvedBy p g x
else-proved p g None rest m x f r h = r h
else-proved p g (Some y) rest m x f r h = elim h [ inl e ↦ f x (ap (λ z. Some z) e) | inr e ↦ absurd e ]

unless-proved : (p : PlainProgram) (g : PlainGoal) (b : Bool) (m : PlainNotes) (x : PlainChoice) → IsOneOf (openings_unless b p g m).value x → IsProvedBy p g x
unless-proved p g true m x h = absurd h
unless-proved p g false m x h = all-proved p g (openings g.state) m x (openings-tried g.state) h

by-cells-proved : (p : PlainProgram) (g : PlainGoal) (a : PlainAct) (m : PlainNotes) (x : PlainChoice) → IsOneOf (by_cells p g a m).value x → IsProvedBy p g x
by-cells-proved p g a m x h =
    let act = first_act p g (has_address g.state a) 0 g.state.cells m in
    let b = is_some act.value && is_empty g.state.opened in
    one-or p g act.value (openings_unless b p g act.notes).value x (λ y k. acts-proved p g (has_address g.state a) 0 g.state.cells m y k) (λ k. unless-proved p g b act.notes x k) h

heap-proved : (p : PlainProgram) (g : PlainGoal) (a : PlainAct) (m : PlainNotes) (x : PlainChoice) → IsOneOf (at_heap p g a m).value x → IsProvedBy p g x
heap-proved p g a m x h =
    let c = first_tried p g (clashes g.state) m in
    else-proved p g c.value (by_cells p g a) c.notes x (λ y k. first-proved p g (clashes g.state) m y (clashes-tried g.state) k) (λ k. by-cells-proved p g a c.notes x k) h

statement-proved : (p : PlainProgram) (g : PlainGoal) (a : PlainAct) (m : PlainNotes) (x : PlainChoice) → IsOneOf (at_statement p g a m).value x → IsProvedBy p g x
statement-proved p g (read y a) m x h = heap-proved p g (read y a) m x h
statement-proved p g (write a t) m x h = heap-proved p g (write a t) m x h
statement-proved p g (cas y a b c) m x h = heap-proved p g (cas y a b c) m x h
statement-proved p g (faa y a t) m x h = heap-proved p g (faa y a t) m x h
statement-proved p g (dispose a) m x h = heap-proved p g (dispose a) m x h
statement-proved p g a m x h = all-proved p g (own_rule a) m x (own-tried a) h

item-proved : (p : PlainProgram) (g : PlainGoal) (e : ℕ) (i : PlainItem) (m : PlainNotes) (x : PlainChoice) → IsOneOf (at_item p g e i m).value x → IsProvedBy p g x
item-proved p g e (compare c) m x h = all-proved p g (by_fact [] ∷ []) m x (inl tt, tt) h
item-proved p g e (choose c a b) m x h = all-proved p g (by_cases ∷ []) m x (inr tt, tt) h
item-proved p g e (fact place n k args y) m x h = all-proved p g (known_regions g.state ++ new_regions (slice_get p.regions k)) m x (all-join (known_regions g.state) (new_regions (slice_get p.regions k)) (regions-tried g.state) (new-tried (slice_get p.regions k))) h
item-proved p g e (atom place n k i asked) m x h =
    let c = first_tried p g (cuts g.state) m in
    else-proved p g c.value (tried_all p g (conversions (slice_get p.regions k) i)) c.notes x (λ y q. first-proved p g (cuts g.state) m y (cuts-tried g.state) q) (λ q. all-proved p g (conversions (slice_get p.regions k) i) c.notes x (conversions-tried (slice_get p.regions k) i) q) h
item-proved p g e (cell place a y) m x h = one-alone p g (first_cell p g (has_item_address g.state e a) 0 g.state.cells m).value x (λ z q. cells-proved p g (has_item_address g.state e a) 0 g.state.cells m z q) h

task-proved : (p : PlainProgram) (g : PlainGoal) (t : PlainTask) (ts : List PlainTask) (m : PlainNotes) (x : PlainChoice) → g.tasks ≡ t ∷ ts → IsOneOf (offers_at_task p g t m).value x → IsProvedBy p g x
task-proved p g (to_run h ended) ts m x e k = absurd k
task-proved p g (to_run h (first l a b)) ts m x e k = statement-proved p g a m x k
task-proved p g (to_turn h b) ts m x e k = all-proved p g (by_turn ∷ []) m x (inr tt, tt) k
task-proved p g (to_give is y n) ts m x e k = all-proved p g (by_give ∷ []) m x (inr tt, tt) k
task-proved p g (to_take none y l n) ts m x e k = absurd k
task-proved p g (to_take (item i is) y l n) ts m x e k = item-proved p g y i m x k
task-proved p g (to_make a b c t n) ts m x e k = all-proved p g (by_made [] ∷ []) m x (inl tt, tt) k
task-proved p g (to_close any n) ts m x e k = all-proved p g (closings p g.state) m x (closings-tried p g.state) k
task-proved p g (to_shift a b c d n) ts m x e k = let js = spans_for p g.state a b c d (slice_get g.state.opened a) m in all-proved p g (shift_with js.value) js.notes x (shift-tried js.value) k
task-proved p g (to_rest j n) ts m x e k = fact-by p g j n ts (slice_get g.state.facts j) m x e refl k

absurd-proved : (p : PlainProgram) (g : PlainGoal) (t : PlainTask) (ts : List PlainTask) (c : Cert) → g.tasks ≡ t ∷ ts → IsDecided g.state.rows c → IsProvedBy p g (by_absurd c)
absurd-proved p g t ts c e d = proved-as p g (by_absurd c) (at_absurd g.state) (g.state.rows ∷ []) [] (ap (λ us. at_tasks p g.state [] (by_absurd c) us) e) (record { value = refl; narrow = first_wide-nil; lists = refl }) (d, tt)

absurd-by : (p : PlainProgram) (g : PlainGoal) (t : PlainTask) (ts : List PlainTask) (o : Option Cert) (n : PlainNotes) (x : PlainChoice) → g.tasks ≡ t ∷ ts → (decided g.state.rows n).value ≡ o → option_map by_absurd o ≡ Some x → IsProvedBy p g x
absurd-by p g t ts None n x e d h = absurd (none-some h)
absurd-by p g t ts (Some c) n x e d h = subst (IsProvedBy p g) (same-some (by_absurd c) x h) (absurd-proved p g t ts c e (decided-is g.state.rows n c d))

tasks-proved : (p : PlainProgram) (g : PlainGoal) (ts : List PlainTask) (n : PlainNotes) (x : PlainChoice) → g.tasks ≡ ts → IsOneOf (offers_at_tasks p g ts n).value x → IsProvedBy p g x
tasks-proved p g [] n x e h = absurd h
tasks-proved p g (t ∷ ts) n x e h =
    let c = decided g.state.rows n in
    else-proved p g (option_map by_absurd c.value) (offers_at_task p g t) c.notes x (λ y k. absurd-by p g t ts c.value n y e refl k) (λ k. task-proved p g t ts c.notes x e k) h

pub offered-are-proved : OfferedAreProved
unfolding offered offering
offered-are-proved p g c h = tasks-proved p g g.tasks clean c refl h

-- ---- and applies
refute-all : (ls : List (List Row)) (cs : List Cert) → AllByRecursion RowsAscend ls → AllZip IsDecided ls cs → AllZip Refutes ls cs
refute-all [] [] a z = tt
refute-all [] (c ∷ cs) a z = absurd z
refute-all (rows ∷ ls) [] a z = absurd z
refute-all (rows ∷ ls) (c ∷ cs) a z = (cert-refutes rows c a.0 z.0.value z.0.limits, refute-all ls cs a.1 z.1)

pub offered-apply : OfferedApply
offered-apply p g c h a =
    let k = offered-are-proved p g c h in
    (k.goals, succeeds-answer (rule p g c (marks_of c)) (certs_of c) k.goals (record { value = k.value; narrow = k.narrow; refuted = refute-all (owed_lists (rule p g c (marks_of c)).events) (certs_of c) a k.decided }))
