use Rattle.clap.specs.Words.{app_of}
use Rattle.cap_top_words.proofs.Built.{rows_after}
use Rattle.cap_top_words.proofs.parser.with_subcommands.Goals as goal

pub loop-name-preserved : goal.loop-name-preserved
loop-name-preserved c =
    rows_after c.args.table.now c.loop-name.name-index _ (app_of c.loop-name.command) (app_of c.in_ok-command.command) _
    c.loop-name-test.true c.in_ok-command.ensures c.loop-name.invariant
