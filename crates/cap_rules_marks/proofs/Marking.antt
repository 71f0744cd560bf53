-- Marks, all of them certificates, and some left out.
use Rattle.std.proofs.Common.{◌≡◌, suc, ◌+◌, ◌<◌, ◌≤◌, nat_lt, Bool, true, false, List, [], ◌∷◌, ◌++◌, map, length, Option, Some, None, is_some, refl, ap, ◌∙◌, sym, subst, append-nil, length-append, arith}
use Rattle.std.specs.Prelude.{slice_set}
use Rattle.std.proofs.lemmas.Bool.Decides.{nat_tests}
use Rattle.cap_lin.specs.Linear.{minus}
use Rattle.cap_lin.specs.Steps.{Step, first_wide, minus_steps}
use Rattle.cap_lin.specs.Rows.{row}
use Rattle.cap_lin.specs.declared.row.Row.{Row}
use Rattle.cap_lin.specs.declared.row.Kind.TheVariants.{Eq, Ne}
use Rattle.cap_lin.specs.declared.row.Sort.{Sort}
use Rattle.cap_lin.specs.declared.row.Sort.TheVariants.{Int}
use Rattle.cap_lin.specs.declared.row.Op.TheVariants.{Ne as Unequal}
use Rattle.cap_lin.proofs.Results.{first_wide-nil}
use Rattle.cap_farkas.specs.declared.cert.Cert.{Cert}
use Rattle.cap_goal_spec.specs.States.{PlainFact, PlainState, longest_list}
use Rattle.cap_goal_spec.specs.Choices.{given_marks}
use Rattle.cap_rules.specs.Attempts.{Claim, proved, Event, makes, claims, Attempt, unit, need, comparison_row, ◌>>=◌}
use Rattle.cap_rules.specs.Answers.{steps_of, owed_lists}
use Rattle.cap_rules.specs.Making.{fresh}
use Rattle.cap_rules.specs.Closing.{Rival, loosened, with_mark, with_marks}
use Rattle.cap_rules_marks.specs.Proven.{RefutesIfGiven, zeros}
use Rattle.cap_rules_marks.proofs.Passing.{none-some, same-some, same-head, same-tail, AllGiven, Passes, passes-chain, passes-parts}

-- the state, with other sorts and facts
abbrev pub among : PlainState → List Sort → List PlainFact → PlainState
among s os fs = record s { sorts = os; facts = fs }

pub lists-made : (xs : List Step) (es : List Event) → owed_lists (map makes xs ++ es) ≡ owed_lists es
lists-made [] es = refl
lists-made (x ∷ xs) es = lists-made xs es

pub steps-made : (xs : List Step) (es : List Event) → steps_of (map makes xs ++ es) ≡ xs ++ steps_of es
steps-made [] es = refl
steps-made (x ∷ xs) es = ap (λ r. x ∷ r) (steps-made xs es)

-- ---- one mark

-- what the mark of two regions has to refute
abbrev other_rows : PlainState → Rival → List Row
other_rows s x = s.rows ++ row Eq Int (minus x.opened.region x.fact.region) ∷ []

abbrev IsNarrow : Rival → Type 0
IsNarrow x = first_wide (minus_steps x.opened.region x.fact.region) ≡ None

abbrev differ_steps : Rival → List Step
differ_steps x = minus_steps x.opened.region x.fact.region

abbrev differ_claim : PlainState → Rival → Claim
differ_claim s x = proved s.rows (row Ne Int (minus x.opened.region x.fact.region))

set-lists : (s : PlainState) (x : Rival) → owed_lists (with_mark s x true).events ≡ other_rows s x ∷ []
set-lists s x =
    let es = map makes (differ_steps x) ++ claims (differ_claim s x) ∷ [] in
    ap owed_lists (append-nil es) ∙ lists-made (differ_steps x) (claims (differ_claim s x) ∷ [])

set-steps : (s : PlainState) (x : Rival) → steps_of (with_mark s x true).events ≡ differ_steps x
set-steps s x =
    let es = map makes (differ_steps x) ++ claims (differ_claim s x) ∷ [] in
    ap steps_of (append-nil es) ∙ (steps-made (differ_steps x) (claims (differ_claim s x) ∷ []) ∙ append-nil (differ_steps x))

-- a mark that is a certificate, or in its place
record IsSet (s : PlainState) (x : Rival) (qs : List (Option Cert)) (z : PlainState) : Type 0 where
  mark : Option Cert
  is : mark ∷ [] ≡ qs
  refutes : RefutesIfGiven (other_rows s x) mark
  narrow : IsNarrow x
  same : s ≡ z

set-by : (s : PlainState) (x : Rival) (qs : List (Option Cert)) (z : PlainState) → IsNarrow x → s ≡ z → AllGiven (other_rows s x ∷ []) qs → IsSet s x qs z
set-by s x [] z n e h = absurd h
set-by s x (q ∷ []) z n e h = record { mark = q; is = refl; refutes = h.0; narrow = n; same = e }
set-by s x (q ∷ r ∷ qs) z n e h = absurd h.1

set-parts : (s : PlainState) (x : Rival) (qs : List (Option Cert)) (z : PlainState) → Passes (with_mark s x true) qs z → IsSet s x qs z
set-parts s x qs z h = set-by s x qs z (sym (ap first_wide (set-steps s x)) ∙ h.narrow) (same-some s z h.value) (subst (λ l. AllGiven l qs) (set-lists s x) h.refuted)

set-passes : (s : PlainState) (x : Rival) (q : Option Cert) → IsNarrow x → RefutesIfGiven (other_rows s x) q → Passes (with_mark s x true) (q ∷ []) s
set-passes s x q n r = record { value = refl; narrow = ap first_wide (set-steps s x) ∙ n; refuted = subst (λ l. AllGiven l (q ∷ [])) (sym (set-lists s x)) (r, tt) }

-- ---- a mark that is left out

abbrev loose_here : PlainState → Rival → PlainState
loose_here s x = record s { sorts = s.sorts ++ Int ∷ []; facts = slice_set s.facts x.number (loosened x.fact (fresh s)) }

abbrev unset_if : Bool → PlainState → Rival → Attempt PlainState
unset_if b s x = do
  _ ← comparison_row x.opened.region Unequal x.fact.region Int
  s' ← ((need b >>= λ _. unit (s.sorts ++ Int ∷ [])) >>= λ sorts. unit (record s { sorts = sorts }))
  unit (record s' { facts = slice_set s.facts x.number (loosened x.fact (fresh s)) })

record IsUnset (b : Bool) (s : PlainState) (x : Rival) (qs : List (Option Cert)) (z : PlainState) : Type 0 where
  none : [] ≡ qs
  narrow : IsNarrow x
  room : b ≡ true
  same : loose_here s x ≡ z

pub none-given : (qs : List (Option Cert)) → AllGiven [] qs → [] ≡ qs
none-given [] h = refl
none-given (q ∷ qs) h = absurd h

unset-by : (b : Bool) (s : PlainState) (x : Rival) (qs : List (Option Cert)) (z : PlainState) → Passes (unset_if b s x) qs z → IsUnset b s x qs z
unset-by false s x qs z h = absurd (none-some h.value)
unset-by true s x qs z h = record {
  none = none-given qs (subst (λ l. AllGiven l qs) (lists-made (differ_steps x) []) h.refuted);
  narrow = sym (ap first_wide (steps-made (differ_steps x) [] ∙ append-nil (differ_steps x))) ∙ h.narrow;
  room = refl;
  same = same-some (loose_here s x) z h.value;
}

unset-parts : (s : PlainState) (x : Rival) (qs : List (Option Cert)) (z : PlainState) → Passes (with_mark s x false) qs z → IsUnset (nat_lt (length s.sorts) longest_list) s x qs z
unset-parts s x qs z h = unset-by (nat_lt (length s.sorts) longest_list) s x qs z h

unset-passes-by : (b : Bool) (s : PlainState) (x : Rival) → IsNarrow x → b ≡ true → Passes (unset_if b s x) [] (loose_here s x)
unset-passes-by false s x n e = absurd (let k : false ≡ true = e in cc)
unset-passes-by true s x n e = record {
  value = refl;
  narrow = ap first_wide (steps-made (differ_steps x) [] ∙ append-nil (differ_steps x)) ∙ n;
  refuted = subst (λ l. AllGiven l []) (sym (lists-made (differ_steps x) [])) tt;
}

unset-passes : (s : PlainState) (x : Rival) → IsNarrow x → length s.sorts < longest_list → Passes (with_mark s x false) [] (loose_here s x)
unset-passes s x n l = unset-passes-by (nat_lt (length s.sorts) longest_list) s x n (grind (arith, nat_tests, l))

-- ---- all marks are certificates, or in their place

abbrev pub all_set : List Rival → List Bool
all_set xs = map (λ x. true) xs

pub length-all_set : (xs : List Rival) → length (all_set xs) ≡ length xs
length-all_set [] = refl
length-all_set (x ∷ xs) = ap suc (length-all_set xs)

pub record IsFull (s : PlainState) (xs : List Rival) (qs : List (Option Cert)) (z : PlainState) : Type 0 where
  pub many : length qs ≡ length xs
  pub same : s ≡ z

pub full-parts : (s : PlainState) (xs : List Rival) (qs : List (Option Cert)) (z : PlainState) → Passes (with_marks s xs (all_set xs)) qs z → IsFull s xs qs z
full-parts s [] qs z h = record { many = ap length (sym (none-given qs h.refuted)); same = same-some s z h.value }
full-parts s (x ∷ xs) qs z h =
    let q = passes-parts (with_mark s x true) (λ t. with_marks t xs (all_set xs)) qs z h in
    let m = set-parts s x q.before q.middle q.first in
    let r = full-parts q.middle xs q.after z q.second in
    let e : m.mark ∷ q.after ≡ qs = ap (λ l. l ++ q.after) m.is ∙ q.joined in
    record { many = sym (ap length e) ∙ ap suc r.many; same = m.same ∙ r.same }

-- ---- some are left out

pub record Marked (s : PlainState) (os : List Sort) (fs : List PlainFact) (xs : List Rival) (ms : List (Option Cert)) : Type 0 where
  pub sorts : List Sort
  pub facts : List PlainFact
  pub passes : Passes (with_marks (among s os fs) xs (map is_some ms)) (map Some (given_marks ms)) (among s sorts facts)

mark-next : (s : PlainState) (os : List Sort) (fs : List PlainFact) (x : Rival) (xs : List Rival) (q : Option Cert) (ms : List (Option Cert)) → IsNarrow x → RefutesIfGiven (other_rows s x) q → length os + zeros (q ∷ ms) ≤ longest_list →
    ((ps : List Sort) (gs : List PlainFact) → length ps + zeros ms ≤ longest_list → Marked s ps gs xs ms) → Marked s os fs (x ∷ xs) (q ∷ ms)
mark-next s os fs x xs None ms n r k ih =
    let t : PlainState = among s os fs in
    let l : length (os ++ Int ∷ []) ≡ length os + 1 = length-append os (Int ∷ []) in
    let i = ih (loose_here t x).sorts (loose_here t x).facts (omega (arith, l, k)) in
    record { sorts = i.sorts; facts = i.facts; passes = passes-chain (with_mark t x false) (λ u. with_marks u xs (map is_some ms)) [] (map Some (given_marks ms)) (loose_here t x) (among s i.sorts i.facts) (unset-passes t x n (omega (arith, k))) i.passes }
mark-next s os fs x xs (Some c) ms n r k ih =
    let t : PlainState = among s os fs in
    let i = ih os fs k in
    record { sorts = i.sorts; facts = i.facts; passes = passes-chain (with_mark t x true) (λ u. with_marks u xs (map is_some ms)) (Some c ∷ []) (map Some (given_marks ms)) t (among s i.sorts i.facts) (set-passes t x (Some c) n r) i.passes }

pub to-marked : (s : PlainState) (ps os : List Sort) (gs fs : List PlainFact) (xs : List Rival) (ms : List (Option Cert)) (z : PlainState) → Passes (with_marks (among s ps gs) xs (all_set xs)) ms z → length os + zeros ms ≤ longest_list → Marked s os fs xs ms
to-marked s ps os gs fs [] [] z h k = record { sorts = os; facts = fs; passes = record { value = refl; narrow = first_wide-nil; refuted = tt } }
to-marked s ps os gs fs [] (m ∷ ms) z h k = absurd h.refuted
to-marked s ps os gs fs (x ∷ xs) ms z h k =
    let t : PlainState = among s ps gs in
    let q = passes-parts (with_mark t x true) (λ u. with_marks u xs (all_set xs)) ms z h in
    let m = set-parts t x q.before q.middle q.first in
    let e : m.mark ∷ q.after ≡ ms = ap (λ l. l ++ q.after) m.is ∙ q.joined in
    let second = subst (λ u. Passes (with_marks u xs (all_set xs)) q.after z) (sym m.same) q.second in
    let k' : length os + zeros (m.mark ∷ q.after) ≤ longest_list = subst (λ l. length os + zeros l ≤ longest_list) (sym e) k in
    subst (Marked s os fs (x ∷ xs)) e (mark-next s os fs x xs m.mark q.after m.narrow m.refutes k' (λ o g j. to-marked s ps o gs g xs q.after z second j))

pub record Unmarked (s : PlainState) (ps os : List Sort) (gs : List PlainFact) (xs : List Rival) (ms qs : List (Option Cert)) (z : PlainState) : Type 0 where
  pub many : length ms ≡ length xs
  pub room : length os + zeros ms ≤ longest_list
  pub count : length qs ≡ length (given_marks ms)
  pub sorts : List Sort
  pub facts : List PlainFact
  pub same : among s sorts facts ≡ z
  pub passes : qs ≡ map Some (given_marks ms) → Passes (with_marks (among s ps gs) xs (all_set xs)) ms (among s ps gs)

pub from-marked : (s : PlainState) (ps os : List Sort) (gs fs : List PlainFact) (xs : List Rival) (ms qs : List (Option Cert)) (z : PlainState) → Passes (with_marks (among s os fs) xs (map is_some ms)) qs z → length os ≤ longest_list → Unmarked s ps os gs xs ms qs z
from-marked s ps os gs fs [] [] qs z h k = record {
  many = refl;
  room = omega (arith, k);
  count = ap length (sym (none-given qs h.refuted));
  sorts = os;
  facts = fs;
  same = same-some (among s os fs) z h.value;
  passes = λ e. record { value = refl; narrow = first_wide-nil; refuted = tt };
}
from-marked s ps os gs fs [] (m ∷ ms) qs z h k = absurd (none-some h.value)
from-marked s ps os gs fs (x ∷ xs) [] qs z h k = absurd (none-some h.value)
from-marked s ps os gs fs (x ∷ xs) (None ∷ ms) qs z h k =
    let t : PlainState = among s os fs in
    let q = passes-parts (with_mark t x false) (λ u. with_marks u xs (map is_some ms)) qs z h in
    let m = unset-parts t x q.before q.middle q.first in
    let e : q.after ≡ qs = ap (λ l. l ++ q.after) m.none ∙ q.joined in
    let second = subst (λ u. Passes (with_marks u xs (map is_some ms)) q.after z) (sym m.same) q.second in
    let l : length (os ++ Int ∷ []) ≡ length os + 1 = length-append os (Int ∷ []) in
    let b : length os < longest_list = (let b = m.room in grind (arith, nat_tests, b)) in
    let i = from-marked s ps (loose_here t x).sorts gs (loose_here t x).facts xs ms q.after z second (omega (arith, l, b)) in
    let r = i.room in
    record {
      many = ap suc i.many;
      room = omega (arith, r, l);
      count = sym (ap length e) ∙ i.count;
      sorts = i.sorts;
      facts = i.facts;
      same = i.same;
      passes = λ j. passes-chain (with_mark (among s ps gs) x true) (λ u. with_marks u xs (all_set xs)) (None ∷ []) ms (among s ps gs) (among s ps gs) (set-passes (among s ps gs) x None m.narrow tt) (i.passes (e ∙ j));
    }
from-marked s ps os gs fs (x ∷ xs) (Some c ∷ ms) qs z h k =
    let t : PlainState = among s os fs in
    let q = passes-parts (with_mark t x true) (λ u. with_marks u xs (map is_some ms)) qs z h in
    let m = set-parts t x q.before q.middle q.first in
    let e : m.mark ∷ q.after ≡ qs = ap (λ l. l ++ q.after) m.is ∙ q.joined in
    let second = subst (λ u. Passes (with_marks u xs (map is_some ms)) q.after z) (sym m.same) q.second in
    let i = from-marked s ps os gs fs xs ms q.after z second k in
    record {
      many = ap suc i.many;
      room = i.room;
      count = sym (ap length e) ∙ ap suc i.count;
      sorts = i.sorts;
      facts = i.facts;
      same = i.same;
      passes = λ j.
          let d = e ∙ j in
          let a : m.mark ≡ Some c = same-head m.mark (Some c) q.after (map Some (given_marks ms)) d in
          let f = subst (RefutesIfGiven (other_rows s x)) a m.refutes in
          passes-chain (with_mark (among s ps gs) x true) (λ u. with_marks u xs (all_set xs)) (Some c ∷ []) ms (among s ps gs) (among s ps gs) (set-passes (among s ps gs) x (Some c) m.narrow f) (i.passes (same-tail m.mark (Some c) q.after (map Some (given_marks ms)) d));
    }
