-- The lists of rows that a node owes, and that its certificates refute.
use Rattle.std.proofs.Common.{◌≡◌, ◌∙◌, ap, sym, refl, subst, ℤ, List, Result, Ok, Err}
use Rattle.std.specs.Prelude.{IfOk, IfErr}
use Rattle.std.specs.List.{AllZip}
use Rattle.cap_lin.specs.declared.row.Row.{Row}
use Rattle.cap_prog.specs.Program.{PlainProgram}
use Rattle.cap_rules.specs.Answers.{applies, inapplicable, too_wide, proofs}
use Rattle.cap_rules_marks.specs.Proven.{RefutesIfGiven, given, ProvesOwed}
use Rattle.cap_rules_steps.specs.declared.error.RuleError.{RuleError}
use Rattle.cap_rules_steps.specs.declared.error.RuleError.TheVariants.{NotApplicable, Wide, OutOfMemory}
use Rattle.cap_rules_steps.specs.Judging.{IsTold}
use Rattle.cap_rules_steps.specs.Walks.{seen}
use Rattle.cap_rules_nodes.specs.Nodes.{GoalNode}
use Rattle.cap_core_text.specs.Lines.{answered_lists, owed_by}

-- ---- the lists are those that are owed

-- the lists of the proof that a choice proves what it owes are the node's
pub lists-owed : (p : PlainProgram) (n : GoalNode) (m : ProvesOwed p n.goal n.choice) → owed_by p n ≡ m.lists
lists-owed p n m = ap answered_lists m.owed

pub node-refuted : (p : PlainProgram) (n : GoalNode) → ProvesOwed p n.goal n.choice → AllZip RefutesIfGiven (owed_by p n) (given n.choice)
node-refuted p n m = subst (λ ls. AllZip RefutesIfGiven ls (given n.choice)) (sym (lists-owed p n m)) m.refuted

-- ---- what a call tells

not-applies : (ls : List (List Row)) → inapplicable ≡ applies ls → ⊥
not-applies ls e = cc

wide-applies : (ls : List (List Row)) (a b : ℤ) → too_wide a b ≡ applies ls → ⊥
wide-applies ls a b e = cc

module _ {T : Type 0} (view : T → List (List Row)) (p : PlainProgram) (n : GoalNode) where
  pub told-owed : (r : Result T RuleError) → IsTold (seen view r) (proofs p n.goal n.choice) → IfOk r (λ ls. view ls ≡ owed_by p n)
  told-owed (Ok ls) t = sym (ap answered_lists t)
  told-owed (Err e) t = tt

  pub told-refuted : (r : Result T RuleError) → ProvesOwed p n.goal n.choice → IsTold (seen view r) (proofs p n.goal n.choice) → IfOk r (λ ls. AllZip RefutesIfGiven (view ls) (given n.choice))
  told-refuted (Ok ls) m t = subst (λ l. AllZip RefutesIfGiven l (given n.choice)) (ap answered_lists t) (node-refuted p n m)
  told-refuted (Err e) m t = tt

  pub only-memory : (r : Result T RuleError) → ProvesOwed p n.goal n.choice → IsTold (seen view r) (proofs p n.goal n.choice) → IfErr r (λ e. e ≡ OutOfMemory)
  only-memory (Ok ls) m t = tt
  only-memory (Err NotApplicable) m t = absurd (not-applies m.lists (sym t ∙ m.owed))
  only-memory (Err (Wide a b)) m t = absurd (wide-applies m.lists a b (sym t ∙ m.owed))
  only-memory (Err OutOfMemory) m t = refl
