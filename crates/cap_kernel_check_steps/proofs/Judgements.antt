-- How a judge stands behind one more choice, and at the end.
use Rattle.std.proofs.Common.{◌≡◌, ◌≢◌, inl, inr, ℕ, suc, ◌+◌, arith, List, [], ◌∷◌, ◌++◌, length, drop, Option, Some, None, refl, sym, ap, subst, ◌∙◌, append_assoc}
use Rattle.std.specs.Prelude.{Result, Ok, Err, IfOk}
use Rattle.std.specs.List.{AllByRecursion}
use Rattle.std.proofs.lemmas.List.{append-nil, length-append}
use Rattle.cap_prog.specs.Program.{PlainProgram}
use Rattle.cap_goal_spec.specs.States.{PlainGoal}
use Rattle.cap_goal_spec.specs.Choices.{PlainChoice}
use Rattle.cap_kernel_check_steps.specs.declared.error.CheckError.{CheckError}
use Rattle.cap_kernel_check_steps.specs.declared.error.CheckError.TheVariants.{Node, Shape}
use Rattle.cap_kernel_check_steps.specs.Starts.{PlainStart, no_tasks, at_goal, barred, starts}
use Rattle.cap_kernel_check_steps.specs.Owed.{PlainDebt, debts_of, Pays, Replaces, OwedFrom, Owed, FailsNext, MisfitsNext, StopsAt}
use Rattle.cap_kernel_check_steps.specs.declared.start.Start.{Start}
use Rattle.cap_kernel_check_steps.specs.Views.{starts_view, StartIsKept}
use Rattle.cap_kernel_check_steps.specs.Debts.{DebtsAreKept, LeavesOwed}
use Rattle.cap_kernel_check_steps.specs.Judges.{Judged, PlainJudge, AreOwed, StaysJudged, StandsBy, Judges, JudgesNext, AnswersFor, with_fault, paid}
use Rattle.cap_kernel_check_steps.proofs.Starting.{starts-many}

-- ---- at the start

pub begins : (p : PlainProgram) (trees : ℕ) (ss : List Start) (owed : List PlainDebt) → starts_view ss ≡ starts p → length ss ≡ trees → owed ≡ debts_of (starts_view ss) → Judges p trees [] (record { program = p; next = 1; owed = owed; fault = None })
begins p trees ss owed e n o = record {
  program = refl;
  stands = record { many = sym n ∙ starts-many p ss e; number = refl; follows = ap debts_of (sym e) ∙ sym o };
}

pub begins-miscounted : (p : PlainProgram) (trees : ℕ) (ss : List Start) (owed : List PlainDebt) → starts_view ss ≡ starts p → length ss ≢ trees → Judges p trees [] (record { program = p; next = 1; owed = owed; fault = Some (Shape 1) })
begins-miscounted p trees ss owed e n = record {
  program = refl;
  stands = λ more. inl (refl, λ m. n (starts-many p ss e ∙ sym m));
}

pub debts-kept : (p : PlainProgram) (ss : List PlainStart) → AllByRecursion (StartIsKept p) ss → DebtsAreKept p (debts_of ss)
debts-kept p [] h = tt
debts-kept p (no_tasks ∷ ss) h = debts-kept p ss h.1
debts-kept p (at_goal g ∷ ss) h = (h.0, debts-kept p ss h.1)
debts-kept p (barred ∷ ss) h = (tt, debts-kept p ss h.1)

-- ---- behind one more choice

plus-one : (n : ℕ) → n + 1 ≡ suc n
plus-one n = omega arith

owed-then : (p : PlainProgram) (cs rest : List PlainChoice) (ds mid end : List PlainDebt) → OwedFrom p ds cs mid → OwedFrom p mid rest end → OwedFrom p ds (cs ++ rest) end
owed-then p [] rest ds mid end x y = subst (λ z. OwedFrom p z rest end) (sym x) y
owed-then p (c ∷ cs) rest ds mid end (next, r, x) y = (next, r, owed-then p cs rest next mid end x y)

stands-open : (p : PlainProgram) (trees : ℕ) (cs : List PlainChoice) (j : PlainJudge) → j.fault ≡ None → Judges p trees cs j → AreOwed p trees cs j.next j.owed
stands-open p trees cs j e h = subst (StandsBy p trees cs j) e h.stands

pub next-judged : (j : PlainJudge) (c : PlainChoice) (e : CheckError) → j.fault ≡ Some e → JudgesNext j c j
next-judged j c e f p trees cs h =
    let s : StaysJudged p trees cs e = subst (StandsBy p trees cs j) f h.stands in
    let t : StaysJudged p trees (cs ++ c ∷ []) e = λ more. subst (λ z. Judged p trees z (Err e)) (sym (append_assoc cs (c ∷ []) more)) (s (c ∷ more)) in
    record { program = h.program; stands = subst (StandsBy p trees (cs ++ c ∷ []) j) (sym f) t }

next-stops : (p : PlainProgram) (trees : ℕ) (cs more : List PlainChoice) (c : PlainChoice) (j : PlainJudge) (P : List PlainDebt → List PlainChoice → Type 0) → AreOwed p trees cs j.next j.owed → P j.owed (c ∷ more) → StopsAt p ((cs ++ c ∷ []) ++ more) P j.next
next-stops p trees cs more c j P a h = record {
  passed = cs;
  rest = c ∷ more;
  owed = j.owed;
  parts = append_assoc cs (c ∷ []) more;
  number = a.number;
  follows = a.follows;
  stops = h;
}

pub next-fails : (j new : PlainJudge) (c : PlainChoice) (d : PlainDebt) (ds : List PlainDebt) → j.fault ≡ None → j.owed ≡ d ∷ ds → LeavesOwed j.program d c None → new ≡ with_fault j (Node j.next) → JudgesNext j c new
next-fails j new c d ds f o l e p trees cs h =
    let a : AreOwed p trees cs j.next j.owed = stands-open p trees cs j f h in
    let n : LeavesOwed p d c None = subst (λ q. LeavesOwed q d c None) h.program l in
    let s : StaysJudged p trees (cs ++ c ∷ []) (Node j.next) = λ more. (a.many, next-stops p trees cs more c j (FailsNext p) a (subst (λ z. FailsNext p z (c ∷ more)) (sym o) n)) in
    subst (Judges p trees (cs ++ c ∷ [])) (sym e) (record { program = h.program; stands = s })

pub next-pays : (j new : PlainJudge) (c : PlainChoice) (d : PlainDebt) (ds left : List PlainDebt) → j.fault ≡ None → j.owed ≡ d ∷ ds → LeavesOwed j.program d c (Some left) → new ≡ paid j left → JudgesNext j c new
next-pays j new c d ds left f o (gs, pays, l) e p trees cs h =
    let a : AreOwed p trees cs j.next j.owed = stands-open p trees cs j f h in
    let r : Replaces p c (d ∷ ds) (left ++ ds) = (gs, subst (λ q. Pays q d c gs) h.program pays, ap (λ z. z ++ ds) l) in
    let k : left ++ drop 1 j.owed ≡ left ++ ds = ap (λ z. left ++ drop 1 z) o in
    let n : suc j.next ≡ suc (length (cs ++ c ∷ [])) = ap suc (a.number ∙ sym (length-append cs (c ∷ []) ∙ plus-one (length cs))) in
    let t : OwedFrom p (d ∷ ds) (c ∷ []) (left ++ drop 1 j.owed) = (left ++ ds, r, sym k) in
    let b : AreOwed p trees (cs ++ c ∷ []) (suc j.next) (left ++ drop 1 j.owed) = record {
      many = a.many;
      number = n;
      follows = owed-then p cs (c ∷ []) (debts_of (starts p)) (d ∷ ds) (left ++ drop 1 j.owed) (subst (Owed p cs) o a.follows) t;
    } in
    subst (Judges p trees (cs ++ c ∷ [])) (sym e) (record { program = h.program; stands = subst (StandsBy p trees (cs ++ c ∷ []) (paid j left)) (sym f) b })

pub ok-pays : {T E : Type 0} (j new : PlainJudge) (c : PlainChoice) (d : PlainDebt) (ds left : List PlainDebt) (r : Result T E) → j.fault ≡ None → j.owed ≡ d ∷ ds → LeavesOwed j.program d c (Some left) → IfOk r (λ x. new ≡ paid j left) → IfOk r (λ x. JudgesNext j c new)
ok-pays j new c d ds left (Ok x) f o l e = next-pays j new c d ds left f o l e
ok-pays j new c d ds left (Err x) f o l e = e

-- ---- at the end

last-stops : (p : PlainProgram) (trees : ℕ) (cs : List PlainChoice) (j : PlainJudge) (P : List PlainDebt → List PlainChoice → Type 0) → AreOwed p trees cs j.next j.owed → P j.owed [] → StopsAt p cs P j.next
last-stops p trees cs j P a h = record {
  passed = cs;
  rest = [];
  owed = j.owed;
  parts = sym (append-nil cs);
  number = a.number;
  follows = a.follows;
  stops = h;
}

pub ends-judged : (j : PlainJudge) (e : CheckError) → j.fault ≡ Some e → AnswersFor j (Err e)
ends-judged j e f p trees cs h =
    let s : StaysJudged p trees cs e = subst (StandsBy p trees cs j) f h.stands in
    subst (λ z. Judged p trees z (Err e)) (append-nil cs) (s [])

pub ends-barred : (j : PlainJudge) (d : PlainDebt) (ds : List PlainDebt) → j.fault ≡ None → j.owed ≡ d ∷ ds → d.goal ≡ None → AnswersFor j (Err (Node j.next))
ends-barred j d ds f o n p trees cs h =
    let a : AreOwed p trees cs j.next j.owed = stands-open p trees cs j f h in
    (a.many, last-stops p trees cs j (FailsNext p) a (subst (λ z. FailsNext p z []) (sym o) n))

some-none : {A B : Type 0} (x : A) (o : Option A) → o ≡ Some x → o ≡ None → B
some-none x o e f = absurd (let k : Some x ≡ None = sym e ∙ f in cc)

pub ends-missing : (j : PlainJudge) (d : PlainDebt) (ds : List PlainDebt) (g : PlainGoal) → j.fault ≡ None → j.owed ≡ d ∷ ds → d.goal ≡ Some g → AnswersFor j (Err (Shape j.next))
ends-missing j d ds g f o s p trees cs h =
    let a : AreOwed p trees cs j.next j.owed = stands-open p trees cs j f h in
    inr (a.many, last-stops p trees cs j MisfitsNext a (subst (λ z. MisfitsNext z []) (sym o) (λ n. some-none g d.goal s n)))
