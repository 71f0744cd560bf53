use Rattle.cap_top_words.specs.Parser.{budgeted_rules}
use Rattle.cap_top_words.proofs.Built.{added}
use Rattle.cap_top_words.proofs.parser.with_budgeted.Goals as goal

pub returns : goal.returns
returns c = added c.subcommand.result c.args.command c.in_ok-with_file_and_budget.field-0 c.args.name.now budgeted_rules c.subcommand.ensures c.in_ok-with_file_and_budget.ensures
