-- What a statement does to a cell, by its kind.
use Rattle.std.proofs.Common.{◌≡◌, ℕ, zero, suc, ◌≤◌, arith, List, [], ◌∷◌, ◌++◌, length, Some, refl, ap, subst}
use Rattle.std.specs.Prelude.{Result, remove}
use Rattle.cap_rules_steps.specs.Walks.{Makes}
use Rattle.cap_rules_steps.specs.declared.error.RuleError.{RuleError}
use Rattle.std.proofs.lemmas.List.{append-nil}
use Rattle.cap_lin.specs.Linear.{Linear}
use Rattle.cap_prog.specs.Program.{PlainAct, set, read, write, cas, faa, dispose, alloc, call, fork, branch, loop, check, give_back}
use Rattle.cap_rules_steps.specs.cap_goal_spec.States.{PlainState}
use Rattle.cap_rules_steps.specs.cap_rules.Attempts.{Event, Attempt}
use Rattle.cap_rules_steps.specs.cap_rules.Closing.{acted}
use Rattle.cap_open_acts.specs.Acts.{heap_act_of, heap_acted_if}
use Rattle.cap_open_acts.specs.Steps.{disposed}

abbrev outcome : {A : Type 0} → List Event → A → Attempt A
outcome es x = record { events = es; value = Some x }

ended : {A : Type 0} (es : List Event) (x : A) → outcome ((es ++ []) ++ []) x ≡ outcome (es ++ []) x
ended es x = ap (λ l. outcome l x) (append-nil (es ++ []))

-- nothing comes behind these events
no-more : {A : Type 0} (es : List Event) (x : A) → outcome (es ++ []) x ≡ outcome es x
no-more es x = ap (λ l. outcome l x) (append-nil es)

pub by-kind : (s : PlainState) (j : ℕ) (c : Linear × Linear) (a : PlainAct) → heap_acted_if s j c (heap_act_of a) ≡ acted s j c a
by-kind s j c (set x t) = refl
by-kind s j c (read x a) = refl
by-kind s j c (write a t) = ended _ _
by-kind s j c (cas x a old new) = refl
by-kind s j c (faa x a t) = no-more _ _
by-kind s j c (dispose a) = refl
by-kind s j c (alloc x n) = refl
by-kind s j c (call x n args) = refl
by-kind s j c (fork n args) = refl
by-kind s j c (branch d a b) = refl
by-kind s j c (loop d i a) = refl
by-kind s j c (check d) = refl
by-kind s j c (give_back t) = refl

-- an attempt that is the same answers the same
pub turned : {A : Type 0} (r : Result A RuleError) (o q : Attempt A) → o ≡ q → Makes r o → Makes r q
turned r o q e h = subst (Makes r) e h

-- where there is no such cell none goes
none-gone : {A : Type 0} (xs : List A) (i : ℕ) → length xs ≤ i → remove xs i ≡ xs
none-gone [] zero h = refl
none-gone [] (suc i) h = refl
none-gone (x ∷ xs) zero h = absurd (omega arith)
none-gone (x ∷ xs) (suc i) h = ap (λ ys. x ∷ ys) (none-gone xs i (omega arith))

pub stays : (s : PlainState) (j : ℕ) → length s.cells ≤ j → disposed s j ≡ s
stays s j h = ap (λ cells. record s { cells = cells }) (none-gone s.cells j h)
