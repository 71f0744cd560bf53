use Rattle.std.proofs.Common.{map}
use Rattle.cap_top_words.specs.Parser.{operand_rules}
use Rattle.cap_top_words.proofs.Built.{added}
use Rattle.cap_top_words.proofs.parser.with_subcommand.Goals as goal

pub returns : goal.returns
returns c =
    added c.subcommand.result c.args.command c.in_ok-with_operands.field-0 c.args.name.now (operand_rules (map (λ id. id.now) c.args.operands.now))
    c.subcommand.ensures c.in_ok-with_operands.ensures
