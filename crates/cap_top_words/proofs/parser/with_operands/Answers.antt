use Rattle.std.proofs.Common.{rules}
use Rattle.clap.specs.Simple.{app_of}
use Rattle.clap.specs.Words.{rule_of}
use Rattle.cap_top_words.proofs.Built.{operands_after}
use Rattle.cap_top_words.proofs.parser.with_operands.Goals as goal

pub loop-id-preserved : goal.loop-id-preserved
loop-id-preserved c = record {
  shape = operands_after c.args.operands.now c.loop-id.id-index _ (app_of c.loop-id.command) (app_of c.in_ok-command.command) _ (rule_of c.operand.result)
      c.loop-id-test.true c.operand.ensures.rule (c.in_ok-command.ensures.shape c.operand.ensures.local) c.loop-id.invariant.shape;
  local = search rules;
}
