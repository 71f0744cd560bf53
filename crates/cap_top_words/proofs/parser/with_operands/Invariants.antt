use Rattle.std.proofs.Common.{◌≡◌, ◌++◌, [], map, drop, false}
use Rattle.clap.specs.Simple.{app_of, on_top}
use Rattle.clap.specs.declared.builder.command.Command.TheViews.{out-Command}
use Rattle.cap_top_words.specs.Parser.{operand_rules, subcommand_of_rules}
use Rattle.cap_top_words.proofs.parser.with_operands.Given as goal

abbrev pub invariant-loop-id : goal.invariant-loop-id
invariant-loop-id l = record {
  shape : on_top (λ s. record s { rules = s.rules ++ operand_rules (map (λ id. id.now) (drop l.id-index l.operands)) }) (app_of l.command)
      ≡ record { top = subcommand_of_rules l.name (operand_rules (map (λ id. id.now) l.operands)); subs = [] };
  local : (out-Command l.command).has_globals ≡ false;
}
