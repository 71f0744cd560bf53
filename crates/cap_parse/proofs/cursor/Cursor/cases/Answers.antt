use Rattle.std.proofs.lemmas.Result.{err_from_is_err_and}
use Rattle.cap_parse_tree.specs.declared.region.Case.{Case}
use Rattle.std.proofs.Common.{Vec, Global, map, not, ap, sym, ◌∙◌}
use Rattle.cap_parse_laws.specs.Classes.{are_same}
use Rattle.cap_parse_tree.specs.Views.{case_view}
use Rattle.cap_parse_laws.specs.Grammar.{read_case}
use Rattle.cap_parse_laws.specs.Readers.{read_while}
use Rattle.cap_parse_laws.specs.declared.class.Class.TheVariants.{CloseBrace}
use Rattle.cap_parse_laws.specs.Laws.Taking.{case-takes, case-ends}
use Rattle.cap_parse.proofs.Loops.{while-pushed, while-refuses}
use Rattle.cap_parse.proofs.cursor.Cursor.cases.Goals as goal

pub loop-self-preserved : goal.loop-self-preserved
loop-self-preserved c =
    rw c.in_ok-push.ensures.items
    (while-pushed (λ k. not (are_same CloseBrace k)) (read_case c.args.room) case_view (case-takes c.args.room) (case-ends c.args.room (λ k. not (are_same CloseBrace k))) c.loop-self.cases.items c.in_ok-case.case
    c.loop-self.self.rest c.case.new.self.rest (read_while (λ k. not (are_same CloseBrace k)) (read_case c.args.room) c.args.self.now.rest)
    (ap not (sym c.is_ahead.ensures) ∙ ap not c.loop-self-test.true) c.in_ok-case.ensures c.loop-self.invariant)

pub loop-self-smaller : goal.loop-self-smaller
loop-self-smaller c =
    ((case-takes c.args.room) c.loop-self.self.rest).fewer (case_view c.in_ok-case.case) c.case.new.self.rest c.in_ok-case.ensures

pub returns-in_err-case : goal.returns-in_err-case
returns-in_err-case c =
    let p = err_from_is_err_and c.from_residual.result c.from_residual.ensures.1 in
    rw (p.1, p.2)
    (while-refuses {Y = Vec Case Global} (λ k. not (are_same CloseBrace k)) (read_case c.args.room) case_view (λ v. map case_view v.items) (case-takes c.args.room) (case-ends c.args.room (λ k. not (are_same CloseBrace k))) (map case_view c.loop-self.cases.items)
    c.loop-self.self.rest c.case.new.self.rest (read_while (λ k. not (are_same CloseBrace k)) (read_case c.args.room) c.args.self.now.rest) c.in_err-case.field-0.0
    (ap not (sym c.is_ahead.ensures) ∙ ap not c.loop-self-test.true) c.in_err-case.ensures c.loop-self.invariant)
