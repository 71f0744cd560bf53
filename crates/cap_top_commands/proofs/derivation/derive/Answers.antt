use Rattle.cap_top_commands.specs.Answers.{IsDerived}
use Rattle.cap_top_commands.proofs.Startless.{startless_result}
use Rattle.cap_top_commands.proofs.derivation.derive.Goals as goal

pub returns-clause-empty : goal.returns-clause-empty
returns-clause-empty c =
    startless_result IsDerived c.empty_answers_have_no_start.ensures.derived c.args.budget c.args.bytes.now
    c.derive_text.result c.derive_text.ensures
