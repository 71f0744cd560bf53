-- Choices are judged in one way.
use Rattle.std.proofs.Common.{◌≡◌, inl, inr, ℕ, suc, List, [], ◌∷◌, ◌++◌, length, refl, sym, ap, subst, ◌∙◌}
use Rattle.std.specs.Prelude.{Ok, Err}
use Rattle.std.proofs.lemmas.List.{append-nil}
use Rattle.cap_prog.specs.Program.{PlainProgram}
use Rattle.cap_goal_spec.specs.Choices.{PlainChoice}
use Rattle.cap_kernel_check_steps.specs.declared.error.CheckError.TheVariants.{Node, Shape, OutOfMemory}
use Rattle.cap_kernel_check_steps.specs.Starts.{starts}
use Rattle.cap_kernel_check_steps.specs.Owed.{PlainDebt, debts_of, Replaces, OwedFrom, FailsNext, MisfitsNext, StopsAt, JudgedOk}
use Rattle.cap_kernel_check_steps.specs.Laws.{JudgementsAreOne}
use Rattle.cap_kernel_check_steps.proofs.Judging.{replaces-one}

-- ---- where no choice is taken

abbrev Stuck : PlainProgram → (List PlainDebt → List PlainChoice → Type 0) → Type 0
Stuck p P =
    (ds next : List PlainDebt) (c : PlainChoice) (cs : List PlainChoice) →
    P ds (c ∷ cs) → ¬ Replaces p c ds next

-- nothing is owed, and no choice remains
abbrev Ends : List PlainDebt → List PlainChoice → Type 0
Ends [] [] = Unit {0}
Ends [] (c ∷ cs) = ⊥
Ends (d ∷ ds) cs = ⊥

ends-stuck : (p : PlainProgram) → Stuck p Ends
ends-stuck p [] next c cs f r = f
ends-stuck p (d ∷ ds) next c cs f r = f

fails-stuck : (p : PlainProgram) → Stuck p (FailsNext p)
fails-stuck p [] next c cs f r = f
fails-stuck p (d ∷ ds) next c cs f (gs, pays, e) = f gs pays

misfits-stuck : (p : PlainProgram) → Stuck p MisfitsNext
misfits-stuck p [] next c cs f r = r
misfits-stuck p (d ∷ ds) next c cs f r = f

-- ---- two ways to the same choices stop at one place

record Meets (P Q : List PlainDebt → List PlainChoice → Type 0) (m n : ℕ) : Type 0 where
  pub owed : List PlainDebt
  pub rest : List PlainChoice
  pub number : m ≡ n
  pub first : P owed rest
  pub second : Q owed rest

meet-from : (a b rs us : List PlainChoice) (p : PlainProgram) (P Q : List PlainDebt → List PlainChoice → Type 0) → Stuck p P → Stuck p Q → (ds x y : List PlainDebt) → a ++ rs ≡ b ++ us → OwedFrom p ds a x → OwedFrom p ds b y → P x rs → Q y us → Meets P Q (length a) (length b)
meet-from [] [] rs us p P Q sp sq ds x y e u v f g =
    record { owed = x; rest = rs; number = refl; first = f; second = subst (λ z. Q z rs) (sym v ∙ u) (subst (Q y) (sym e) g) }
meet-from [] (c ∷ b) rs us p P Q sp sq ds x y e u (n, s, v) f g =
    absurd (sp ds n c (b ++ us) (subst (λ z. P z (c ∷ (b ++ us))) (sym u) (subst (P x) e f)) s)
meet-from (c ∷ a) [] rs us p P Q sp sq ds x y e (m, r, u) v f g =
    absurd (sq ds m c (a ++ rs) (subst (λ z. Q z (c ∷ (a ++ rs))) (sym v) (subst (Q y) (sym e) g)) r)
meet-from (c ∷ a) (d ∷ b) rs us p P Q sp sq ds x y e (m, r, u) (n, s, v) f g =
    let h : c ∷ (a ++ rs) ≡ d ∷ (b ++ us) = e in
    let i : c ≡ d = cc in
    let t : a ++ rs ≡ b ++ us = cc in
    let k : m ≡ n = replaces-one p c ds m n r (subst (λ z. Replaces p z ds n) (sym i) s) in
    let w : Meets P Q (length a) (length b) = meet-from a b rs us p P Q sp sq m x y t u (subst (λ z. OwedFrom p z b y) (sym k) v) f g in
    record { owed = w.owed; rest = w.rest; number = ap suc w.number; first = w.first; second = w.second }

meet : (p : PlainProgram) (cs : List PlainChoice) (P Q : List PlainDebt → List PlainChoice → Type 0) (m n : ℕ) → Stuck p P → Stuck p Q → StopsAt p cs P m → StopsAt p cs Q n → Meets P Q m n
meet p cs P Q m n sp sq x y =
    let w : Meets P Q (length x.passed) (length y.passed) = meet-from x.passed y.passed x.rest y.rest p P Q sp sq (debts_of (starts p)) x.owed y.owed (sym x.parts ∙ y.parts) x.follows y.follows x.stops y.stops in
    record { owed = w.owed; rest = w.rest; number = x.number ∙ (ap suc w.number ∙ sym y.number); first = w.first; second = w.second }

-- ---- and they stop for one reason

ends-fails : (p : PlainProgram) (ds : List PlainDebt) (cs : List PlainChoice) → Ends ds cs → ¬ FailsNext p ds cs
ends-fails p [] [] f g = g
ends-fails p [] (c ∷ cs) f g = f
ends-fails p (d ∷ ds) cs f g = f

ends-misfits : (ds : List PlainDebt) (cs : List PlainChoice) → Ends ds cs → ¬ MisfitsNext ds cs
ends-misfits [] [] f g = g
ends-misfits [] (c ∷ cs) f g = f
ends-misfits (d ∷ ds) cs f g = f

fails-misfits : (p : PlainProgram) (ds : List PlainDebt) (cs : List PlainChoice) → FailsNext p ds cs → ¬ MisfitsNext ds cs
fails-misfits p [] cs f g = f
fails-misfits p (d ∷ ds) [] f g = g f
fails-misfits p (d ∷ ds) (c ∷ cs) f g = g

ended-stops : (p : PlainProgram) (trees n : ℕ) (cs : List PlainChoice) → JudgedOk p trees cs n → StopsAt p cs Ends (suc n)
ended-stops p trees n cs (many, owed, e) =
    record { passed = cs; rest = []; owed = []; parts = sym (append-nil cs); number = ap suc e; follows = owed; stops = tt }

never-fails : {A : Type 0} (p : PlainProgram) (trees n k : ℕ) (cs : List PlainChoice) → JudgedOk p trees cs n → StopsAt p cs (FailsNext p) k → A
never-fails p trees n k cs x y =
    let w : Meets Ends (FailsNext p) (suc n) k = meet p cs Ends (FailsNext p) (suc n) k (ends-stuck p) (fails-stuck p) (ended-stops p trees n cs x) y in
    absurd (ends-fails p w.owed w.rest w.first w.second)

never-misfits : {A : Type 0} (p : PlainProgram) (trees n k : ℕ) (cs : List PlainChoice) → JudgedOk p trees cs n → StopsAt p cs MisfitsNext k → A
never-misfits p trees n k cs x y =
    let w : Meets Ends MisfitsNext (suc n) k = meet p cs Ends MisfitsNext (suc n) k (ends-stuck p) (misfits-stuck p) (ended-stops p trees n cs x) y in
    absurd (ends-misfits w.owed w.rest w.first w.second)

never-both : {A : Type 0} (p : PlainProgram) (j k : ℕ) (cs : List PlainChoice) → StopsAt p cs (FailsNext p) j → StopsAt p cs MisfitsNext k → A
never-both p j k cs x y =
    let w : Meets (FailsNext p) MisfitsNext j k = meet p cs (FailsNext p) MisfitsNext j k (fails-stuck p) (misfits-stuck p) x y in
    absurd (fails-misfits p w.owed w.rest w.first w.second)

one-node : (p : PlainProgram) (j k : ℕ) (cs : List PlainChoice) → StopsAt p cs (FailsNext p) j → StopsAt p cs (FailsNext p) k → j ≡ k
one-node p j k cs x y = (meet p cs (FailsNext p) (FailsNext p) j k (fails-stuck p) (fails-stuck p) x y).number

one-misfit : (p : PlainProgram) (j k : ℕ) (cs : List PlainChoice) → StopsAt p cs MisfitsNext j → StopsAt p cs MisfitsNext k → j ≡ k
one-misfit p j k cs x y = (meet p cs MisfitsNext MisfitsNext j k (misfits-stuck p) (misfits-stuck p) x y).number

pub judgements-one : JudgementsAreOne
judgements-one p trees cs (Ok n) (Ok m) x y = ap Ok (x.2 ∙ sym y.2)
judgements-one p trees cs (Ok n) (Err (Node k)) x y = never-fails p trees n k cs x y.1
judgements-one p trees cs (Ok n) (Err (Shape k)) x (inl y) = absurd (y.1 x.0)
judgements-one p trees cs (Ok n) (Err (Shape k)) x (inr y) = never-misfits p trees n k cs x y.1
judgements-one p trees cs (Ok n) (Err OutOfMemory) x y = absurd y
judgements-one p trees cs (Err (Node j)) (Ok n) x y = never-fails p trees n j cs y x.1
judgements-one p trees cs (Err (Node j)) (Err (Node k)) x y = ap (λ i. Err (Node i)) (one-node p j k cs x.1 y.1)
judgements-one p trees cs (Err (Node j)) (Err (Shape k)) x (inl y) = absurd (y.1 x.0)
judgements-one p trees cs (Err (Node j)) (Err (Shape k)) x (inr y) = never-both p j k cs x.1 y.1
judgements-one p trees cs (Err (Node j)) (Err OutOfMemory) x y = absurd y
judgements-one p trees cs (Err (Shape j)) (Ok n) (inl x) y = absurd (x.1 y.0)
judgements-one p trees cs (Err (Shape j)) (Ok n) (inr x) y = never-misfits p trees n j cs y x.1
judgements-one p trees cs (Err (Shape j)) (Err (Node k)) (inl x) y = absurd (x.1 y.0)
judgements-one p trees cs (Err (Shape j)) (Err (Node k)) (inr x) y = never-both p k j cs y.1 x.1
judgements-one p trees cs (Err (Shape j)) (Err (Shape k)) (inl x) (inl y) = ap (λ i. Err (Shape i)) (x.0 ∙ sym y.0)
judgements-one p trees cs (Err (Shape j)) (Err (Shape k)) (inl x) (inr y) = absurd (x.1 y.0)
judgements-one p trees cs (Err (Shape j)) (Err (Shape k)) (inr x) (inl y) = absurd (y.1 x.0)
judgements-one p trees cs (Err (Shape j)) (Err (Shape k)) (inr x) (inr y) = ap (λ i. Err (Shape i)) (one-misfit p j k cs x.1 y.1)
judgements-one p trees cs (Err (Shape j)) (Err OutOfMemory) x y = absurd y
judgements-one p trees cs (Err OutOfMemory) b x y = absurd x
