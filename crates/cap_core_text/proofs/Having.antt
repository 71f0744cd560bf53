-- The rows of each proof of valid trees are infeasible, and have a core.
use Rattle.std.proofs.Common.{◌≡◌, sym, subst, ℤ, List, [], ◌∷◌, Option, Some, None}
use Rattle.std.specs.List.{AllByRecursion, AllZip}
use Rattle.cap_lin.specs.Steps.{first_wide}
use Rattle.cap_lin.specs.declared.row.Row.{Row}
use Rattle.cap_farkas.specs.declared.cert.Cert.{Cert}
use Rattle.cap_farkas.proofs.Sound.{refuted-excludes, excluded-infeasible}
use Rattle.cap_fm_spec.specs.Solving.{RowsAscend}
use Rattle.cap_fm_spec.proofs.Lists.{each-two}
use Rattle.cap_prog.specs.Program.{PlainProgram}
use Rattle.cap_rules.specs.Answers.{applies, answer_unless, lists_if, steps_of, owed_lists, full_marks}
use Rattle.cap_rules.specs.Rules.{rule}
use Rattle.cap_rules_marks.specs.Proven.{RefutesIfGiven, given, ProvesOwed}
use Rattle.cap_rules_ascending.specs.Ascending.{GoalAscends}
use Rattle.cap_rules_ascending.specs.Laws.{OwedAscend, SubgoalsAscend, RootsAscend}
use Rattle.cap_rules_nodes.specs.Nodes.{GoalNode, unit_nodes}
use Rattle.cap_kernel_nodes.specs.Laws.{NodeIsProven, NodesAreProven}
use Rattle.cap_core.specs.Core.{CoresAreIrreducible}
use Rattle.cap_core.specs.Deciding.{core_of, DecidedAreCores}
use Rattle.cap_core_text.specs.Lines.{owed_by}
use Rattle.cap_core_text.specs.Laws.{HasCoreIfGiven, NodeHasCores, ProofsHaveCores}
use Rattle.cap_core_text.proofs.Ascending.{NodeAscends, nodes-ascend}
use Rattle.cap_core_text.proofs.Owed.{lists-owed, node-refuted}

-- the lists of an answer are those that are owed
told-lists : {A : Type 0} (w : Option (ℤ × ℤ)) (o : Option A) (owed ls : List (List Row)) → answer_unless w (lists_if owed o) ≡ applies ls → owed ≡ ls
told-lists None None owed ls e = cc
told-lists None (Some x) owed ls e = cc
told-lists (Some w) o owed ls e = cc

module _ (decided : DecidedAreCores) (needed : CoresAreIrreducible) where
  rows-have : (rows : List Row) (o : Option Cert) → RowsAscend rows → RefutesIfGiven rows o → HasCoreIfGiven rows o
  rows-have rows None a r = tt
  rows-have rows (Some c) a r =
      let i = excluded-infeasible rows c (refuted-excludes rows c r) in
      record { infeasible = i; core = λ n. needed rows (core_of rows).value i (decided rows a n) }

  lists-have : (ls : List (List Row)) (os : List (Option Cert)) → AllByRecursion RowsAscend ls → AllZip RefutesIfGiven ls os → AllZip HasCoreIfGiven ls os
  lists-have [] [] a r = tt
  lists-have [] (o ∷ os) a r = r
  lists-have (rows ∷ ls) [] a r = r
  lists-have (rows ∷ ls) (o ∷ os) a r = (rows-have rows o a.0 r.0, lists-have ls os a.1 r.1)

  node-has : OwedAscend → (p : PlainProgram) (n : GoalNode) → ProvesOwed p n.goal n.choice → GoalAscends n.goal → NodeHasCores p n
  node-has owed p n m a =
      let marks = full_marks n.goal.state n.choice in
      let o = rule p n.goal n.choice marks in
      let lists : AllByRecursion RowsAscend m.lists = subst (AllByRecursion RowsAscend)
      (told-lists (first_wide (steps_of o.events)) o.value (owed_lists o.events) m.lists m.owed) (owed p n.goal n.choice marks a) in
      lists-have (owed_by p n) (given n.choice) (subst (AllByRecursion RowsAscend) (sym (lists-owed p n m)) lists) (node-refuted p n m)

pub proofs-have-cores : NodesAreProven → OwedAscend → SubgoalsAscend → RootsAscend → DecidedAreCores → CoresAreIrreducible → ProofsHaveCores
proofs-have-cores proven owed ascend roots-do decided needed p u ts w a h =
    each-two (NodeIsProven p) NodeAscends (NodeHasCores p) (unit_nodes p u ts) (proven p u ts w h) (nodes-ascend ascend roots-do p u ts a h)
    (λ n k b. node-has decided needed owed p n k.proven b)
