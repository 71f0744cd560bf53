use Rattle.std.proofs.Common.{◌∙◌, ap, sym, subst, ◌+◌, ◌++◌, map, arith}
use Rattle.std.proofs.lemmas.List.{length-map}
use Rattle.std.proofs.lemmas.Slice.Zip.{AllZip-long}
use Rattle.cap_lin.specs.Solves.{Infeasible}
use Rattle.cap_rules_marks.specs.Proven.{RefutesIfGiven, given}
use Rattle.cap_goal.specs.Views.{choice_view}
use Rattle.cap_core_text.specs.Lines.{proof_line}
use Rattle.cap_core_text.proofs.Written.{list-at, given-infeasible, goes-on, passes}
use Rattle.cap_core_text.proofs.node.push_proofs.Goals.{then-is_given+in_ok-push_proof, else-is_given}
use Rattle.cap_core_text.proofs.node.push_proofs.Goals as goal

pub is_given-requires : goal.is_given-requires
is_given-requires c =
    let a = AllZip-long RefutesIfGiven (map (λ l. l.items) c.args.lists.now) (given (choice_view c.args.choice.now)) c.requires in
    let b = length-map c.args.lists.now (λ l. l.items) in
    omega (arith, a, b, c.loop-number-test.true)

pub push_proof-requires : goal.push_proof-requires
push_proof-requires c =
    subst Infeasible (sym c.deref.ensures.value)
    (given-infeasible (map (λ l. l.items) c.args.lists.now) (given (choice_view c.args.choice.now)) c.loop-number.number
    c.index-lists-number.result.items c.requires
    (list-at c.args.lists.now c.loop-number.number c.index-lists-number.result c.loop-number-test.true c.index-lists-number.is) c.if-is_given.ensures)

pub loop-number-preserved : goal.loop-number-preserved
loop-number-preserved c =
    let k = c.args.node in
    let lists = map (λ l. l.items) c.args.lists.now in
    let os = given (choice_view c.args.choice.now) in
    let number = c.loop-number.number in
    let rows = c.index-lists-number.result.items in
    let e = list-at c.args.lists.now number c.index-lists-number.result c.loop-number-test.true c.index-lists-number.is in
    elim c.if-is_given.branch [
      | then-is_given+in_ok-push_proof w ↦
          goes-on k lists os c.args.text.now.items c.loop-number.text.items c.if-is_given.text.items c.loop-number.proofs c.if-is_given.proofs number rows
          c.loop-number.invariant e w.if-is_given.ensures
          (ap (λ v. v.items) w.text-is ∙ (w.in_ok-push_proof.ensures
          ∙ ap (λ r. c.loop-number.text.items ++ proof_line k (c.loop-number.proofs + 1) r) w.deref.ensures.value))
          w.proofs-is
      | else-is_given w ↦
          passes k lists os c.args.text.now.items c.loop-number.text.items c.if-is_given.text.items c.loop-number.proofs c.if-is_given.proofs number rows
          c.loop-number.invariant e w.if-is_given.ensures (ap (λ v. v.items) w.text-is) w.proofs-is
    ]
