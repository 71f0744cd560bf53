use Rattle.cap_prog.specs.Views.{statement_view}
use Rattle.cap_rules.specs.Attempts.{found}
use Rattle.cap_rules.specs.Closing.{address_of}
use Rattle.cap_rules_steps.specs.declared.error.RuleError.TheVariants.{NotApplicable}
use Rattle.cap_rules_steps.proofs.Walking.{lacking, unmade_claims}
use Rattle.cap_pure.proofs.Others.{no-address}
use Rattle.cap_pure.proofs.statements.at_cells.Goals as goal

pub returns-then-not-is_heap : goal.returns-then-not-is_heap
returns-then-not-is_heap c =
    let a = (statement_view c.args.next.now.statement.now).act in
    unmade_claims NotApplicable (found (address_of a)) _ c.args.ledger.now (lacking (address_of a) (no-address a c.if-not-is_heap.ensures))
